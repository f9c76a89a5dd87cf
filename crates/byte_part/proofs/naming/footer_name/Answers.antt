-- `byte_part::naming::footer_name` meets its contract: three names a block, and those behind them.
-- Assumes nothing.
use Rattle.std.specs.Prelude.{Some}
use Rattle.std.proofs.Common.{◌≡◌, sym, ap, ◌∙◌, ℕ, ◌/◌, ◌%◌, arith}
use Rattle.byte_part.proofs.Names.{footer_front, footer-behind, block_name}
use Rattle.byte_part.proofs.naming.footer_name.Goals as goal

pub returns-then-behind-number : goal.returns-then-behind-number
returns-then-behind-number c = c.end_name.ensures ∙ sym (footer-behind c.args.blocks c.args.number c.if-behind-number.true)

pub returns-in-0 : goal.returns-in-0
returns-in-0 c =
    let p = c.args.number in
    let field : p % 3 ≡ 0 = omega arith in
    sym (footer_front c.args.blocks p c.if-behind-number.false ∙ ap (λ (f : ℕ). Some (block_name (p / 3) f)) field)

pub returns-in-1 : goal.returns-in-1
returns-in-1 c =
    let p = c.args.number in
    let field : p % 3 ≡ 1 = omega arith in
    sym (footer_front c.args.blocks p c.if-behind-number.false ∙ ap (λ (f : ℕ). Some (block_name (p / 3) f)) field)

pub returns-in_default : goal.returns-in_default
returns-in_default c =
    let p = c.args.number in
    let field : p % 3 ≡ 2 = omega arith in
    sym (footer_front c.args.blocks p c.if-behind-number.false ∙ ap (λ (f : ℕ). Some (block_name (p / 3) f)) field)
