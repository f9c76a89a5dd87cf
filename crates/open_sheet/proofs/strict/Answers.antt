-- `open_sheet::strict` meets its contract, codec by codec.
-- Assumes nothing.
use Rattle.std.proofs.Common.{◌≡◌, sym, ◌∙◌, rules}
use Rattle.format.specs.Refusals.{numbered}
use Rattle.open_sheet.specs.Faults.{strict_as}
use Rattle.open_sheet.proofs.Judging.{strict-bitpacked, strict-linear, strict-blockwise, strict_refused}
use Rattle.open_sheet.proofs.strict.Goals as goal

pub returns-in-Bitpacked : goal.returns-in-Bitpacked
returns-in-Bitpacked c =
    c.judged.ensures ∙ strict-bitpacked c.args.bytes.now c.args.column c.args.longer _ c.in-Bitpacked.is c.compute_num_bits-bits.ensures

pub returns-in-Linear : goal.returns-in-Linear
returns-in-Linear c = c.judged-in-Linear.ensures ∙ strict-linear c.args.bytes.now c.args.column c.args.longer _ _ c.in-Linear.is

pub returns-in_ok-last-in-Blockwise : goal.returns-in_ok-last-in-Blockwise
returns-in_ok-last-in-Blockwise c =
    c.judged-in-Blockwise.ensures
    ∙ strict-blockwise c.args.bytes.now c.args.column c.args.longer c.in_ok-last-in-Blockwise.last _ c.in-Blockwise.is (sym c.in_ok-last-in-Blockwise.ensures) c.unclaimed-later.ensures

pub returns-in_err-last-in-Blockwise : goal.returns-in_err-last-in-Blockwise
returns-in_err-last-in-Blockwise c =
    let refused : numbered c.in_err-last-in-Blockwise.field-0.0 ≡ strict_as c.args.bytes.now c.args.column c.args.longer =
    strict_refused c.args.bytes.now c.args.column c.args.longer _ _ c.in-Blockwise.is (sym c.in_err-last-in-Blockwise.ensures) in
    search rules
