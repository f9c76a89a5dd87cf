-- `serialize` meets its contract: behind the head there is room for the rest, and a footer of at most 21 bytes for each of at most 2^23
-- blocks has a length of four bytes.
-- Assumes nothing.
use Prim.Native.Nat.{◌+◌, ◌≤◌}
use mathlib.Core.List.{map}
use native.Mathlib.Omega.{arith}
use lib.ListN.{length}
use Rattle.format.specs.Bodies.{normalised}
use Rattle.format.specs.Typed.{stored_as}
use Rattle.format.proofs.Stores.{rest_room}
use Rattle.stats.proofs.Described.{sound_of, steps_length}
use Rattle.blockwise_estimator.proofs.Body.{above_of, takes_few, body-length, wrote_body}
use Rattle.blockwise_estimator.proofs.serialize.Goals as goal

pub head_write-start-requires : goal.head_write-start-requires
head_write-start-requires c = (sound_of c.requires.describes, omega (arith, c.requires.values_in_bounds, body-length c.args.stats (stored_as c.args.kind c.args.values.now)))

pub slice_bounds-write_rest-count : goal.slice_bounds-write_rest-count
slice_bounds-write_rest-count c =
    let room : c.head_write-start.result + (c.args.sizes.area + c.args.sizes.footer + 4) ≤ length c.args.out.now = let takes = c.requires.takes in omega (arith, c.head_write-start.ensures.ends, c.requires.values_in_bounds, takes.packs, takes.fields, body-length c.args.stats (stored_as c.args.kind c.args.values.now)) in
    omega (arith, room, c.head_write-start.auto.out)

pub slice_bounds-write_rest-start : goal.slice_bounds-write_rest-start
slice_bounds-write_rest-start c =
    let room : c.head_write-start.result + (c.args.sizes.area + c.args.sizes.footer + 4) ≤ length c.args.out.now = let takes = c.requires.takes in omega (arith, c.head_write-start.ensures.ends, c.requires.values_in_bounds, takes.packs, takes.fields, body-length c.args.stats (stored_as c.args.kind c.args.values.now)) in
    omega (arith, room, c.head_write-start.auto.out)

pub write_rest-behind-requires : goal.write_rest-behind-requires
write_rest-behind-requires c =
    let room : c.head_write-start.result + (c.args.sizes.area + c.args.sizes.footer + 4) ≤ length c.args.out.now = let takes = c.requires.takes in omega (arith, c.head_write-start.ensures.ends, c.requires.values_in_bounds, takes.packs, takes.fields, body-length c.args.stats (stored_as c.args.kind c.args.values.now)) in
    let few = takes_few (map (normalised c.args.stats) (stored_as c.args.kind c.args.values.now)) _ (steps_length c.requires.describes) c.requires.describes.few c.requires.takes in
    record { above = above_of c.requires.describes; takes = c.requires.takes; footer_bound = omega (arith, few.fields); footer_in_bounds = rest_room c.head_write-start.new.out c.args.out.now _ c.head_write-start.auto.out room }

pub overflow_add-result : goal.overflow_add-result
overflow_add-result c =
    let body =
    wrote_body c.args.stats (stored_as c.args.kind c.args.values.now) c.args.sizes.footer c.head_write-start.ensures c.head_write-start.auto.out c.requires.values_in_bounds c.requires.takes.fields c.write_rest-behind.ensures in
    omega (arith, body.ends, c.requires.values_in_bounds)

pub returns : goal.returns
returns c = wrote_body c.args.stats (stored_as c.args.kind c.args.values.now) c.args.sizes.footer c.head_write-start.ensures c.head_write-start.auto.out c.requires.values_in_bounds c.requires.takes.fields c.write_rest-behind.ensures
