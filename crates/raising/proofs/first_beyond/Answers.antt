-- `raising::first_beyond` meets its contract: the place that is found, or the end, is the first beyond the span.
-- Assumes nothing.
use Prim.Native.Nat.{ℕ, ◌≤◌, ◌<◌}
use mathlib.Core.Path.{refl}
use mathlib.Core.List.{List}
use native.Mathlib.Omega.{arith}
use lib.ListN.{length}
use borrow.Author.Rules.{rules}
use borrow.Author.Tests.{tests}
use Rattle.std.specs.declared.option.Option.{Option}
use Rattle.std.specs.declared.option.Option.TheVariants.{None, Some}
use Rattle.std.specs.Option.{MatchOption, unwrap_or}
use Rattle.std.specs.List.{AllWithin, HoldsAt}
use Rattle.std.proofs.lemmas.Iterator.{IsFirst-from_position, YieldsList-from_slice}
use Rattle.format.specs.Word.{mod_sub}
use Rattle.raising.specs.Raising.{near, Fills}
use Rattle.raising.proofs.Filling.{near-ends, near_stops}
use Rattle.raising.proofs.first_beyond.Goals as goal

told : (low span : ℕ) (list : List ℕ) (r : Option ℕ)
    → MatchOption r (AllWithin (λ v. mod_sub v low ≤ span) list 0 (length list)) (λ i. (i < length list) × HoldsAt (λ v. span < mod_sub v low) list i × AllWithin (λ v. mod_sub v low ≤ span) list 0 i)
    → Fills (λ (i r v : ℕ). near low span r v) list (unwrap_or r (length list)) list
told low span list None m = near-ends low span list (record { sofar = λ j h. m j 0 (omega arith) h }) refl
told low span list (Some i) (inside, beyond, before) = near_stops low span list (record { sofar = λ j h. before j 0 (omega arith) h }) inside refl (beyond 0)

pub returns : goal.returns
returns c =
    rw c.unwrap_or.ensures
    (told c.args.low c.args.span c.args.values.now c.position.result
    (IsFirst-from_position _ _ _ (λ (v : ℕ). c.args.span < mod_sub v c.args.low) (λ (v : ℕ). mod_sub v c.args.low ≤ c.args.span) c.position.ensures.ran (YieldsList-from_slice c.args.values.now cc) (λ x q k. search (rules, tests)) (λ x q k. search (rules, tests))))
