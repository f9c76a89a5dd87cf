-- What a codec's end says of the faults that sheet 2 finds.
--     strict-bitpacked, strict-linear, strict-blockwise, strict_refused   sheet 2, codec by codec
-- Assumes nothing.
use Rattle.std.specs.Prelude.{Option, None}
use mathlib.Core.Path.{◌≡◌, refl, sym, ap, ◌∙◌}
use mathlib.Core.List.{List}
use Prim.Native.Nat.{ℕ, ◌-◌}
use lib.ListN.{length}
use Rattle.format.specs.declared.Codec.TheVariants.{Bitpacked, Linear, Blockwise}
use Rattle.format.specs.declared.Column.{Column}
use Rattle.format.specs.declared.Line.{Line}
use Rattle.format.specs.Outcome.{Outcome, Outcome.value, Outcome.refusal, ◌>>=◌}
use Rattle.format.specs.Packing.{width}
use Rattle.format.specs.Bodies.{block_count}
use Rattle.format.specs.Sheets.{unclaimed, offending, last_fields, ending, strict}
use Rattle.format.proofs.Outcomes.{not_value, value_same, by_step}
use Rattle.blockwise_linear.specs.declared.reader.Last.{Last}
use Rattle.blockwise_linear.specs.Reader.{up_to_length, first_cursor, last_in}
use Rattle.open_sheet.specs.Faults.{held_as, strict_as}

-- ---- sheet 2, codec by codec

pub strict-bitpacked : (s : List ℕ) (col : Column) (p : Option ℕ) (bits : ℕ) → col.codec ≡ Bitpacked → bits ≡ width col.count
    → held_as (offending s col p (record { bits = bits; resumes = length s; later = None })) col p ≡ strict_as s col p
unfolding strict ending
strict-bitpacked s col p bits is w = rw (is, w)

pub strict-linear : (s : List ℕ) (col : Column) (p : Option ℕ) (l : Line) (bits : ℕ) → col.codec ≡ Linear l bits
    → held_as (offending s col p (record { bits = bits; resumes = length s; later = None })) col p ≡ strict_as s col p
unfolding strict ending
strict-linear s col p l bits is = rw is

pub strict-blockwise : (s : List ℕ) (col : Column) (p : Option ℕ) (l : Last) (later : Option ℕ) → col.codec ≡ Blockwise → last_in s col.rows ≡ value l → later ≡ unclaimed l.at l.end
    → held_as (offending s col p (record { bits = l.bits; resumes = l.start; later = later })) col p ≡ strict_as s col p
unfolding strict ending
strict-blockwise s col p l later is last behind =
    by_step (last_fields (block_count col.rows) (up_to_length s) 0 (first_cursor s col.rows).at) _ last λ f found same.
    ap (λ (o : Option ℕ). held_as (offending s col p (record { bits = l.bits; resumes = l.start; later = o })) col p) behind
    ∙ ap (λ (x : Last). held_as (offending s col p (record { bits = x.bits; resumes = x.start; later = unclaimed x.at x.end })) col p) (sym (value_same same))
    ∙ rw (is, found)

pub strict_refused : (s : List ℕ) (col : Column) (p : Option ℕ) (n : ℕ) (also : List ℕ) → col.codec ≡ Blockwise → last_in s col.rows ≡ refusal n also → refusal n also ≡ strict_as s col p
unfolding strict ending
strict_refused s col p n also is last = go (last_fields (block_count col.rows) (up_to_length s) 0 (first_cursor s col.rows).at) refl last
  where
    go : (o : Outcome (ℕ × ℕ)) → last_fields (block_count col.rows) (up_to_length s) 0 (first_cursor s col.rows).at ≡ o
        → ◌≡◌ {A = Outcome Last} (o >>= (λ (f : ℕ × ℕ). value (record { bits = f.0; at = f.1; start = (first_cursor s col.rows).at; end = length s - 4 }))) (refusal n also) → refusal n also ≡ strict_as s col p
    go (value f) found e = absurd (not_value (sym e))
    go (refusal m more) found e =
        let number : n ≡ m = cc in
        let rest : also ≡ more = cc in
        rw (is, found, number, rest)
