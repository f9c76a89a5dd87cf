-- `compare_walk::equal::look` meets its contract: the buffers' fronts are as long as the chunk.
-- Assumes nothing.
use Prim.Native.Nat.{◌≤◌, ◌<◌}
use mathlib.Core.Path.{refl, sym, ◌∙◌}
use native.Mathlib.Omega.{arith}
use Rattle.format.proofs.Lists.{front_length}
use Rattle.compare_walk.proofs.Equals.{shared_left, shared_right, shared_most, looked_shared, chunk_for}
use Rattle.compare_walk.proofs.equal.look.Goals as goal

pub slice_bounds-lbuffer-end : goal.slice_bounds-lbuffer-end
slice_bounds-lbuffer-end c = (let few-here : c.shared_size-size.result ≤ 512 = shared_most c.args.left.column c.args.right.column c.args.first _ c.shared_size-size.ensures.value ((let has-rows-here : 0 < c.shared_size-size.result = omega (arith, c.if-size-eq0.false) in has-rows-here)) in few-here)

pub slice_bounds-equal_chunk-end : goal.slice_bounds-equal_chunk-end
slice_bounds-equal_chunk-end c = sym (front_length _ _ refl ((let few-here : c.shared_size-size.result ≤ 512 = shared_most c.args.left.column c.args.right.column c.args.first _ c.shared_size-size.ensures.value ((let has-rows-here : 0 < c.shared_size-size.result = omega (arith, c.if-size-eq0.false) in has-rows-here)) in few-here)))

pub slice_bounds-rbuffer-end : goal.slice_bounds-rbuffer-end
slice_bounds-rbuffer-end c = (let few-here : c.shared_size-size.result ≤ 512 = shared_most c.args.left.column c.args.right.column c.args.first _ c.shared_size-size.ensures.value ((let has-rows-here : 0 < c.shared_size-size.result = omega (arith, c.if-size-eq0.false) in has-rows-here)) in few-here)

pub slice_bounds-equal_chunk-end-2 : goal.slice_bounds-equal_chunk-end-2
slice_bounds-equal_chunk-end-2 c = sym (front_length _ _ refl ((let few-here : c.shared_size-size.result ≤ 512 = shared_most c.args.left.column c.args.right.column c.args.first _ c.shared_size-size.ensures.value ((let has-rows-here : 0 < c.shared_size-size.result = omega (arith, c.if-size-eq0.false) in has-rows-here)) in few-here)))

pub equal_chunk-equal-requires : goal.equal_chunk-equal-requires
equal_chunk-equal-requires c =
    let long = front_length _ _ refl ((let few-here : c.shared_size-size.result ≤ 512 = shared_most c.args.left.column c.args.right.column c.args.first _ c.shared_size-size.ensures.value ((let has-rows-here : 0 < c.shared_size-size.result = omega (arith, c.if-size-eq0.false) in has-rows-here)) in few-here)) in
    let is = c.shared_size-size.ensures.value in
    (chunk_for long (shared_left c.args.left.column c.args.right.column c.args.first _ is ((let has-rows-here : 0 < c.shared_size-size.result = omega (arith, c.if-size-eq0.false) in has-rows-here))), chunk_for (front_length _ _ refl ((let few-here : c.shared_size-size.result ≤ 512 = shared_most c.args.left.column c.args.right.column c.args.first _ c.shared_size-size.ensures.value ((let has-rows-here : 0 < c.shared_size-size.result = omega (arith, c.if-size-eq0.false) in has-rows-here)) in few-here))) (shared_right c.args.left.column c.args.right.column c.args.first _ is ((let has-rows-here : 0 < c.shared_size-size.result = omega (arith, c.if-size-eq0.false) in has-rows-here))), front_length _ _ refl ((let few-here : c.shared_size-size.result ≤ 512 = shared_most c.args.left.column c.args.right.column c.args.first _ c.shared_size-size.ensures.value ((let has-rows-here : 0 < c.shared_size-size.result = omega (arith, c.if-size-eq0.false) in has-rows-here)) in few-here)) ∙ sym (front_length _ _ refl ((let few-here : c.shared_size-size.result ≤ 512 = shared_most c.args.left.column c.args.right.column c.args.first _ c.shared_size-size.ensures.value ((let has-rows-here : 0 < c.shared_size-size.result = omega (arith, c.if-size-eq0.false) in has-rows-here)) in few-here))), rw (front_length _ _ refl ((let few-here : c.shared_size-size.result ≤ 512 = shared_most c.args.left.column c.args.right.column c.args.first _ c.shared_size-size.ensures.value ((let has-rows-here : 0 < c.shared_size-size.result = omega (arith, c.if-size-eq0.false) in has-rows-here)) in few-here))) c.shared_size-size.ensures.result_bound)

pub returns : goal.returns
returns c = looked_shared c.args.left.column c.args.right.column c.args.first _ c.shared_size-size.ensures.value ((let has-rows-here : 0 < c.shared_size-size.result = omega (arith, c.if-size-eq0.false) in has-rows-here)) c.args.left c.args.right c.args.lbytes.now c.args.rbytes.now refl refl (front_length _ _ refl ((let few-here : c.shared_size-size.result ≤ 512 = shared_most c.args.left.column c.args.right.column c.args.first _ c.shared_size-size.ensures.value ((let has-rows-here : 0 < c.shared_size-size.result = omega (arith, c.if-size-eq0.false) in has-rows-here)) in few-here))) c.equal_chunk-equal.ensures
