-- `serialize` meets its contract: behind the head there is room for the area, and the two are the body.
-- Assumes nothing.
use Prim.Native.Nat.{◌+◌, ◌*◌, ◌≤◌}
use mathlib.Core.Path.{◌≡◌, ap, ◌∙◌}
use mathlib.Core.List.{map}
use native.Mathlib.Omega.{arith}
use lib.ListN.{length}
use Rattle.format.specs.Word.{bytes_for}
use Rattle.format.specs.Packing.{width}
use Rattle.format.specs.Stats.{count_of}
use Rattle.format.specs.Bodies.{normalised}
use Rattle.format.specs.Typed.{stored_as}
use Rattle.format.proofs.StoredLists.{stored-length}
use Rattle.format.proofs.Stores.{rest_room, rest_wrote}
use Rattle.format.proofs.Widths.{width_most}
use Rattle.bitpacker.proofs.PackerLaws.{packed_count}
use Rattle.stats.proofs.Described.{sound_of, stored_count}
use Rattle.bitpacked_estimator.proofs.Body.{body-length, area_room, area_packable, body_wrote}
use Rattle.bitpacked_estimator.proofs.serialize.Goals as goal

pub head_write-start-requires : goal.head_write-start-requires
head_write-start-requires c = (sound_of c.requires.describes, omega (arith, body-length c.requires.describes, c.requires.values_in_bounds))

pub count_of-requires : goal.count_of-requires
count_of-requires c = sound_of c.requires.describes

pub slice_bounds-pack_normalised-count : goal.slice_bounds-pack_normalised-count
slice_bounds-pack_normalised-count c =
    let is-width : c.compute_num_bits-bits.result ≡ width (count_of c.args.stats) = c.compute_num_bits-bits.ensures ∙ ap width c.count_of.ensures in
    let room : c.head_write-start.result + bytes_for (c.compute_num_bits-bits.result * length c.args.values.now) ≤ length c.args.out.now = rw (← stored-length c.args.kind c.args.values.now) (area_room c.requires.describes c.args.at c.args.out.now is-width c.requires.values_in_bounds c.head_write-start.ensures.ends) in
    omega (arith, room, c.head_write-start.auto.out)

pub slice_bounds-pack_normalised-start : goal.slice_bounds-pack_normalised-start
slice_bounds-pack_normalised-start c =
    let is-width : c.compute_num_bits-bits.result ≡ width (count_of c.args.stats) = c.compute_num_bits-bits.ensures ∙ ap width c.count_of.ensures in
    let room : c.head_write-start.result + bytes_for (c.compute_num_bits-bits.result * length c.args.values.now) ≤ length c.args.out.now = rw (← stored-length c.args.kind c.args.values.now) (area_room c.requires.describes c.args.at c.args.out.now is-width c.requires.values_in_bounds c.head_write-start.ensures.ends) in
    omega (arith, room, c.head_write-start.auto.out)

pub pack_normalised-requires : goal.pack_normalised-requires
pack_normalised-requires c =
    let is-width : c.compute_num_bits-bits.result ≡ width (count_of c.args.stats) = c.compute_num_bits-bits.ensures ∙ ap width c.count_of.ensures in
    let room : c.head_write-start.result + bytes_for (c.compute_num_bits-bits.result * length c.args.values.now) ≤ length c.args.out.now = rw (← stored-length c.args.kind c.args.values.now) (area_room c.requires.describes c.args.at c.args.out.now is-width c.requires.values_in_bounds c.head_write-start.ensures.ends) in
    let described = c.requires.describes in
    let few = stored-length c.args.kind c.args.values.now in
    record { describes = described; packable = area_packable described _ is-width (rw few (rest_room c.head_write-start.new.out c.args.out.now _ c.head_write-start.auto.out room)) }

pub packed_len-requires : goal.packed_len-requires
packed_len-requires c = (rw (← stored-length c.args.kind c.args.values.now) c.requires.describes.few, rw c.compute_num_bits-bits.ensures (width_most _))

pub overflow_add-result : goal.overflow_add-result
overflow_add-result c =
    let is-width : c.compute_num_bits-bits.result ≡ width (count_of c.args.stats) = c.compute_num_bits-bits.ensures ∙ ap width c.count_of.ensures in
    let room : c.head_write-start.result + bytes_for (c.compute_num_bits-bits.result * length c.args.values.now) ≤ length c.args.out.now = rw (← stored-length c.args.kind c.args.values.now) (area_room c.requires.describes c.args.at c.args.out.now is-width c.requires.values_in_bounds c.head_write-start.ensures.ends) in
    omega (arith, room, c.packed_len.ensures)

pub returns : goal.returns
returns c =
    let is-width : c.compute_num_bits-bits.result ≡ width (count_of c.args.stats) = c.compute_num_bits-bits.ensures ∙ ap width c.count_of.ensures in
    let room : c.head_write-start.result + bytes_for (c.compute_num_bits-bits.result * length c.args.values.now) ≤ length c.args.out.now = rw (← stored-length c.args.kind c.args.values.now) (area_room c.requires.describes c.args.at c.args.out.now is-width c.requires.values_in_bounds c.head_write-start.ensures.ends) in
    let rows = map (normalised c.args.stats) (stored_as c.args.kind c.args.values.now) in
    rw c.packed_len.ensures
    (body_wrote c.args.stats (stored_as c.args.kind c.args.values.now) is-width c.head_write-start.ensures
    (rest_wrote _ _ _ c.head_write-start.new.out c.args.out.now _ (packed_count _ rows _ (stored_count c.args.kind c.args.values.now c.requires.describes)) c.head_write-start.auto.out room
    c.pack_normalised.ensures))
