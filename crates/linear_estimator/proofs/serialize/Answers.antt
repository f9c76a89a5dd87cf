-- `serialize` meets its contract: behind head and fields there is room for the area, and the three are the body.
-- Assumes nothing.
use Prim.Native.Nat.{◌+◌, ◌*◌, ◌≤◌}
use mathlib.Core.Path.{◌≡◌, ◌∙◌}
use native.Mathlib.Omega.{arith}
use lib.ListN.{length}
use Rattle.format.specs.Word.{bytes_for}
use Rattle.format.specs.Line.{residuals}
use Rattle.format.proofs.Stores.{rest_room, rest_wrote}
use Rattle.format.specs.Typed.{stored_as}
use Rattle.format.proofs.StoredLists.{stored-length}
use Rattle.bitpacker.proofs.PackerLaws.{packed_count}
use Rattle.stats.proofs.Described.{sound_of}
use Rattle.linear_estimator.proofs.Body.{fit_most, body-length, area_room, area_packable, body_wrote, left_count}
use Rattle.linear_estimator.proofs.serialize.Goals as goal

pub head_write-behind-requires : goal.head_write-behind-requires
head_write-behind-requires c = (sound_of c.requires.describes, omega (arith, body-length c.requires.fits c.args.stats, c.requires.values_in_bounds))

pub fields_write-start-requires : goal.fields_write-start-requires
fields_write-start-requires c = omega (arith, body-length c.requires.fits c.args.stats, c.requires.values_in_bounds, c.head_write-behind.ensures.ends, c.head_write-behind.auto.out)

pub slice_bounds-pack_residuals-count : goal.slice_bounds-pack_residuals-count
slice_bounds-pack_residuals-count c =
    let room : c.fields_write-start.result + bytes_for (c.args.fit.bits * length c.args.values.now) ≤ length c.args.out.now = rw (← stored-length c.args.kind c.args.values.now) (area_room c.requires.fits c.args.stats c.args.at c.args.out.now c.requires.values_in_bounds c.head_write-behind.ensures.ends c.fields_write-start.ensures.ends) in
    let kept : length c.fields_write-start.new.out ≡ length c.args.out.now = c.fields_write-start.auto.out ∙ c.head_write-behind.auto.out in
    omega (arith, room, kept)

pub slice_bounds-pack_residuals-start : goal.slice_bounds-pack_residuals-start
slice_bounds-pack_residuals-start c =
    let room : c.fields_write-start.result + bytes_for (c.args.fit.bits * length c.args.values.now) ≤ length c.args.out.now = rw (← stored-length c.args.kind c.args.values.now) (area_room c.requires.fits c.args.stats c.args.at c.args.out.now c.requires.values_in_bounds c.head_write-behind.ensures.ends c.fields_write-start.ensures.ends) in
    let kept : length c.fields_write-start.new.out ≡ length c.args.out.now = c.fields_write-start.auto.out ∙ c.head_write-behind.auto.out in
    omega (arith, room, kept)

pub pack_residuals-requires : goal.pack_residuals-requires
pack_residuals-requires c =
    let kept : length c.fields_write-start.new.out ≡ length c.args.out.now = c.fields_write-start.auto.out ∙ c.head_write-behind.auto.out in
    let room : c.fields_write-start.result + bytes_for (c.args.fit.bits * length c.args.values.now) ≤ length c.args.out.now = rw (← stored-length c.args.kind c.args.values.now) (area_room c.requires.fits c.args.stats c.args.at c.args.out.now c.requires.values_in_bounds c.head_write-behind.ensures.ends c.fields_write-start.ensures.ends) in
    let few = stored-length c.args.kind c.args.values.now in
    area_packable c.requires.fits _ (rw few (rest_room c.fields_write-start.new.out c.args.out.now _ kept room))

pub packed_len-requires : goal.packed_len-requires
packed_len-requires c = (rw (← stored-length c.args.kind c.args.values.now) c.requires.describes.few, fit_most c.requires.fits)

pub overflow_add-result : goal.overflow_add-result
overflow_add-result c =
    let room : c.fields_write-start.result + bytes_for (c.args.fit.bits * length c.args.values.now) ≤ length c.args.out.now = rw (← stored-length c.args.kind c.args.values.now) (area_room c.requires.fits c.args.stats c.args.at c.args.out.now c.requires.values_in_bounds c.head_write-behind.ensures.ends c.fields_write-start.ensures.ends) in
    omega (arith, room, c.packed_len.ensures)

pub returns : goal.returns
returns c =
    let kept : length c.fields_write-start.new.out ≡ length c.args.out.now = c.fields_write-start.auto.out ∙ c.head_write-behind.auto.out in
    let room : c.fields_write-start.result + bytes_for (c.args.fit.bits * length c.args.values.now) ≤ length c.args.out.now = rw (← stored-length c.args.kind c.args.values.now) (area_room c.requires.fits c.args.stats c.args.at c.args.out.now c.requires.values_in_bounds c.head_write-behind.ensures.ends c.fields_write-start.ensures.ends) in
    rw c.packed_len.ensures
    (body_wrote c.requires.fits c.args.stats c.head_write-behind.ensures c.fields_write-start.ensures
    (rest_wrote _ _ _ c.fields_write-start.new.out c.args.out.now _ (packed_count _ (residuals c.args.fit.line (stored_as c.args.kind c.args.values.now)) _ (left_count c.args.fit.line c.args.kind c.args.values.now)) kept room
    c.pack_residuals.ensures))
