-- `read_row::reader::row_fits` meets its contract: its tests are the definition's, in its order.
-- Assumes nothing.
use mathlib.Core.Path.{refl, sym, ap, ◌∙◌}
use Rattle.format.specs.Packing.{legal}
use Rattle.format.specs.declared.Place.{Place}
use Rattle.read_row.proofs.Fitting.{in_area, row_tested}
use Rattle.read_row.proofs.reader.row_fits.Goals as goal

pub returns-then-not-has_block : goal.returns-then-not-has_block
returns-then-not-has_block c = row_tested _ _ _ _ (sym c.has_block.ensures ∙ c.if-not-has_block.true) refl refl

pub returns-then-not-is_legal : goal.returns-then-not-is_legal
returns-then-not-is_legal c = row_tested _ _ _ _ (sym c.has_block.ensures ∙ c.if-not-has_block.false) (ap (λ (p : Place). legal p.bits) (sym c.place_of-place.ensures) ∙ sym c.is_legal.ensures ∙ c.if-not-is_legal.true) refl

pub ends_inside-requires : goal.ends_inside-requires
ends_inside-requires c = sym c.is_legal.ensures ∙ c.if-not-is_legal.false

pub returns : goal.returns
returns c =
    c.ends_inside.ensures ∙ row_tested _ _ _ _ (sym c.has_block.ensures ∙ c.if-not-has_block.false) (ap (λ (p : Place). legal p.bits) (sym c.place_of-place.ensures) ∙ sym c.is_legal.ensures ∙ c.if-not-is_legal.false) (ap (in_area c.args.column.size) (sym c.place_of-place.ensures))
