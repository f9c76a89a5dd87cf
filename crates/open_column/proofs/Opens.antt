-- Opening in the order of the code, and the table that belongs to its answer.
--     opened_none, opened_unknown, opened-known         the code byte decides first; a known one leaves the head and the body
--     body-blockwise                                    the body of a code that is neither 0 nor 1
--     Tabled, opened-tabled                             the blocks of the rows that an answer has in the table were checked, fit the room, and are the rule's
--     under_finds, under_table                          a column that a sheet accepts is what opening finds, and so is its table
--     opened-within                                     an opened column's area ends within the bytes
-- Assumes nothing.
use Rattle.std.specs.Prelude.{Option, None}
use Prim.Native.Nat.{ℕ, zero, suc, ◌≤◌, ◌<◌}
use mathlib.Core.Path.{◌≡◌, refl, sym, ◌∙◌, subst}
use mathlib.Core.List.{List, [], ◌∷◌}
use native.Mathlib.Omega.{arith}
use lib.ListN.{length, get_or}
use borrow.Author.Tests.{le-leb, lt-leb}
use Rattle.format.specs.declared.Block.{Block}
use Rattle.format.specs.declared.Column.{Column}
use Rattle.format.specs.declared.Fields.{Fields}
use Rattle.format.specs.declared.Head.{Head}
use Rattle.format.specs.Outcome.{Outcome, Outcome.value, Outcome.refusal, ◌>>=◌, stored}
use Rattle.format.specs.Stats.{read_head}
use Rattle.format.specs.Opening.{Loaded, Table, read_blocks, open_blockwise, open_body, opened, column_in, table_in}
use Rattle.format.specs.Sheets.{opened_under}
use Rattle.format.proofs.Outcomes.{not_value, value_same}
use Rattle.format.proofs.Laid.{opened_laid}
use Rattle.format.proofs.Openings.{OpensBitpacked, OpensLinear, OpensBlockwise, by_opening}
use Rattle.blockwise_linear.specs.Reader.{first_cursor, blocks_from, listed, Fillable}
use Rattle.open_sheet.specs.Faults.{AllWithin}
use Rattle.open_sheet.proofs.SheetNumbers.{accepted}
use Rattle.open_column.specs.Opening.{tabled, table_for, Finds}

-- ---- the code byte

pub opened_none : (s : List ℕ) (room : ℕ) → length s ≡ 0 → opened s room ≡ refusal 5 []
unfolding opened
opened_none [] room e = refl
opened_none (c ∷ s) room e = absurd (omega arith)

pub opened_unknown : (s : List ℕ) (room : ℕ) → 0 < length s → 2 < get_or s 0 0 → opened s room ≡ refusal 5 []
unfolding opened
opened_unknown [] room some over = refl
opened_unknown (c ∷ s) room some over = rw (lt-leb c 2 over)

pub opened-known : (s : List ℕ) (room : ℕ) → 0 < length s → get_or s 0 0 ≤ 2 → opened s room ≡ (read_head s >>= (λ (h : Head). open_body (get_or s 0 0) s h room))
unfolding opened
opened-known [] room some known = absurd (let none : 0 < 0 = some in omega arith)
opened-known (c ∷ s) room some known = rw (le-leb c 2 known)

pub body-blockwise : (code : ℕ) (s : List ℕ) (h : Head) (room : ℕ) → (code ≡ 0 → ⊥) → (code ≡ 1 → ⊥) → open_body code s h room ≡ open_blockwise s h room
unfolding open_body
body-blockwise zero s h room n0 n1 = absurd (n0 refl)
body-blockwise (suc zero) s h room n0 n1 = absurd (n1 refl)
body-blockwise (suc (suc c)) s h room n0 n1 = refl

-- ---- the table

pub record Tabled (s : List ℕ) (room : ℕ) (o : Outcome Loaded) (answer : Outcome (Column × Option ℕ)) : Type 0 where
  pub fillable : Fillable s (tabled answer) room
  pub same : (l : List Block) → stored (listed (blocks_from s (first_cursor s (tabled answer)))) l ≡ stored (table_for o answer) l

-- no rows have no blocks
none_fillable : (s : List ℕ) (room : ℕ) → Fillable s 0 room
unfolding read_blocks
none_fillable s room = record { checked = record { found = record { blocks = []; area = 0; longer = None }; is = refl }; enough = omega arith }

none_same : (s : List ℕ) (l : List Block) → stored (listed (blocks_from s (first_cursor s 0))) l ≡ l
unfolding read_blocks
none_same s l = refl

pub opened-tabled : (s : List ℕ) (room : ℕ) (answer : Outcome (Column × Option ℕ)) → Finds (opened s room) answer → Tabled s room (opened s room) answer
opened-tabled s room (refusal n also) finds = record { fillable = none_fillable s room; same = none_same s }
opened-tabled s room (value a) finds = go (opened s room) refl (finds a refl)
  where
    go : (o : Outcome Loaded) → opened s room ≡ o → column_in o ≡ value a → Tabled s room o (value a)
    go (refusal n also) e is = absurd (not_value is)
    go (value o) e is = rw (← value_same is)
        (by_opening (λ (o : Loaded). Tabled s room (value o) (value (o.column, o.longer))) s room
        (λ (h : Head) (f : OpensBitpacked s h). record { fillable = none_fillable s room; same = none_same s })
        (λ (h : Head) (g : Fields) (f : OpensLinear s h g). record { fillable = none_fillable s room; same = none_same s })
        (λ (h : Head) (t : Table) (f : OpensBlockwise s h room t). record {
          fillable = record { checked = record { found = t; is = f.blocks }; enough = f.enough };
          same = λ (l : List Block). rw f.blocks;
        })
        o e)

-- ---- under a sheet

-- so a column in the answer is what opening finds, and its table is opening's
pub under_finds : (sheet : ℕ) (s : List ℕ) (room : ℕ) (answer : Outcome (Column × Option ℕ)) → answer ≡ column_in (opened_under sheet s room) → Finds (opened s room) answer
under_finds sheet s room answer is a e = go (opened_under sheet s room) refl (sym is ∙ e)
  where
    go : (o : Outcome Loaded) → opened_under sheet s room ≡ o → column_in o ≡ value a → column_in (opened s room) ≡ value a
    go (value o) found same = rw (accepted sheet s (opened s room) o found) same
    go (refusal n also) found same = absurd (not_value same)

pub under_table : (sheet : ℕ) (s : List ℕ) (room : ℕ) (answer : Outcome (Column × Option ℕ)) → answer ≡ column_in (opened_under sheet s room)
    → table_for (opened s room) answer ≡ table_in (opened_under sheet s room)
under_table sheet s room answer is = rw is (go (opened_under sheet s room) refl)
  where
    go : (o : Outcome Loaded) → opened_under sheet s room ≡ o → table_for (opened s room) (column_in o) ≡ table_in o
    go (value o) found = rw (accepted sheet s (opened s room) o found)
    go (refusal n also) found = refl

-- an opened column's area lies behind its code byte and ends within the bytes
pub opened-within : (s : List ℕ) (room : ℕ) (a : Outcome (Column × Option ℕ)) → a ≡ column_in (opened s room) → AllWithin a s
opened-within s room a is = subst (λ (x : Outcome (Column × Option ℕ)). AllWithin x s) (sym is) (go (opened s room) refl)
  where
    go : (o : Outcome Loaded) → opened s room ≡ o → AllWithin (column_in o) s
    go (value o) e =
        let laid = opened_laid s room o e in
        record { behind = omega (arith, laid.start); area = laid.area }
    go (refusal number also) e = tt
