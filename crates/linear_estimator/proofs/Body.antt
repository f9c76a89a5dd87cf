-- Laws of a Linear body.
--     fit_most          a fit's width is at most 64
--     body-length       the bytes of head, line and width byte, and those that the packed rows fill
--     area_room         behind the fields there is room for the area
--     area_packable     the residuals can be packed where there is
--     body_wrote        the head, the fields and the area, one behind the other
--     left_count, left_is
--                       what is left of values that are lent as words
-- Assumes nothing.
use mathlib.Core.Path.{◌≡◌, sym, ap, ◌∙◌}
use mathlib.Core.List.{List, [], ◌∷◌, ◌++◌, append_assoc}
use Prim.Native.Nat.{ℕ, ◌+◌, ◌*◌, ◌≤◌, ◌<◌}
use native.Mathlib.Omega.{arith}
use lib.ListN.{length, get_or, length-append}
use Rattle.format.specs.declared.ColumnStats.{ColumnStats}
use Rattle.format.specs.Outcome.{Wrote}
use Rattle.format.specs.declared.Kind.{Kind}
use Rattle.format.specs.declared.Line.{Line}
use Rattle.format.specs.Word.{mod_sub, bytes_for}
use Rattle.format.specs.Packing.{packed}
use Rattle.format.specs.Stats.{spell_head}
use Rattle.format.specs.Line.{line_at, residuals, spell_line}
use Rattle.format.specs.Bodies.{linear, linear_width}
use Rattle.format.specs.Typed.{stored_in, stored_as}
use Rattle.format.proofs.Widths.{width_most}
use Rattle.format.proofs.Stores.{wrote_then}
use Rattle.format.proofs.StoredLists.{stored-length, stored_is, stored_there}
use Rattle.format.proofs.Lines.{residuals-length, residual_at}
use Rattle.bitpacker.specs.Packer.{Packable}
use Rattle.bitpacker.proofs.PackerLaws.{packed_count}
use Rattle.linear_estimator.specs.declared.Fit.{Fit}
use Rattle.linear_estimator.specs.Writer.{Fits}
use Rattle.format.proofs.Linear.{residual_fits}

module _ {vs : List ℕ} {fit : Fit} (f : Fits vs fit) where
  pub fit_most : fit.bits ≤ 64
  unfolding linear_width
  fit_most = rw f.bits (width_most _)

  pub body-length : (s : ColumnStats) → length (linear s vs) ≡ length (spell_head s) + length (spell_line fit.line) + 1 + bytes_for (fit.bits * length vs)
  unfolding linear
  body-length s =
      let rows = residuals fit.line vs in
      rw (← f.line, ← f.bits)
      (omega (
        arith,
        length-append (spell_head s) (spell_line fit.line ++ (fit.bits ∷ packed fit.bits rows)),
        length-append (spell_line fit.line) (fit.bits ∷ packed fit.bits rows),
        packed_count fit.bits rows (length vs) (residuals-length fit.line vs),
      ))

  pub area_room : (s : ColumnStats) (at : ℕ) (out : List ℕ) {behind start : ℕ} → at + length (linear s vs) ≤ length out
      → behind ≡ at + length (spell_head s) → start ≡ behind + length (spell_line fit.line ++ (fit.bits ∷ []))
      → start + bytes_for (fit.bits * length vs) ≤ length out
  area_room s at out room p q = omega (arith, body-length s, length-append (spell_line fit.line) (fit.bits ∷ []))

  pub area_packable : (out : List ℕ) → bytes_for (fit.bits * length vs) ≤ length out → Packable fit.bits (residuals fit.line vs) out
  area_packable out room =
      record {
        most = fit_most;
        fits = λ i h. rw (f.line, f.bits) (residual_fits vs i (rw residuals-length at h));
        room = rw residuals-length room;
      }

  pub body_wrote : (s : ColumnStats) {o l m n : List ℕ} {at i j k : ℕ} → Wrote o at (spell_head s) l i → Wrote l i (spell_line fit.line ++ (fit.bits ∷ [])) m j
      → Wrote m j (packed fit.bits (residuals fit.line vs)) n k → Wrote o at (linear s vs) n k
  unfolding linear
  body_wrote s head fields area =
      let rest = packed fit.bits (residuals fit.line vs) in
      rw (← f.line, ← f.bits) (wrote_then head (rw (append_assoc (spell_line fit.line) (fit.bits ∷ []) rest) at (wrote_then fields area)))

-- ---- what is left of values that are lent as words

module _ (l : Line) (kind : Kind) (xs : List ℕ) where
  pub left_count : length (residuals l (stored_as kind xs)) ≡ length xs
  left_count = residuals-length l (stored_as kind xs) ∙ stored-length kind xs

  pub left_is : (i : ℕ) {v d : ℕ} → i < length xs → v ≡ stored_in kind (get_or xs i 0) → d ≡ mod_sub v (line_at l i) → d ≡ get_or (residuals l (stored_as kind xs)) i 0
  left_is i h e is =
      is ∙ ap (λ (y : ℕ). mod_sub y (line_at l i)) (stored_is kind xs i h e) ∙ sym (residual_at l (stored_as kind xs) i (stored_there kind xs i h))
