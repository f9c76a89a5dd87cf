-- `u64_based::serialize_as` meets its contract: each return knows what the steps before it found, in the order of the rule.
-- Assumes nothing.
use Rattle.std.specs.Prelude.{None, Some, Err}
use Rattle.std.specs.Result.{result_ok}
use mathlib.Core.Path.{◌≡◌, ap, ◌∙◌}
use lib.ListN.{length}
use Rattle.format.specs.declared.Refusal.TheVariants.{NoCodecApplies}
use Rattle.format.specs.Calls.{StoredAs}
use Rattle.format.specs.Typed.{stored_as}
use Rattle.format.specs.Writing.{written}
use Rattle.format.proofs.Outcomes.{told}
use Rattle.format.proofs.StoredLists.{stored-length}
use Rattle.write_codec.specs.Choice.{place_meaning}
use Rattle.write_codec.proofs.Serializing as writing
use borrow.Author.Rules.{rules}
use Rattle.u64_based.proofs.Holding.{few_of, describes_of}
use Rattle.u64_based.proofs.serialize_as.Goals as goal

pub returns-in_err-few : goal.returns-in_err-few
returns-in_err-few c =
    let vs = stored_as c.args.kind c.args.values.now in
    let refused : StoredAs (written vs c.args.codecs.now (length c.args.out.now)) (Err c.in_err-few.field-0.0) c.args.out.now c.args.out.now =
    rw c.in_err-few.ensures.0 (writing.too_many vs c.args.codecs.now c.args.out.now (rw (stored-length c.args.kind c.args.values.now) c.in_err-few.ensures.1)) in
    search rules

pub returns-in-Some : goal.returns-in-Some
returns-in-Some c = writing.unknown_byte _ _ _ (few_of c.args.kind c.args.values.now c.in_ok-few.ensures) c.unknown.ensures c.in-Some.is

pub codec_for-requires : goal.codec_for-requires
codec_for-requires c = record {
  describes = describes_of c.args.kind c.args.values.now c.in_ok-few.ensures c.type_inv.values c.collect-stats.ensures;
  codecs_value = told place_meaning c.unknown.ensures c.in_default.is;
}

pub returns-in_err-codec : goal.returns-in_err-codec
returns-in_err-codec c =
    let vs = stored_as c.args.kind c.args.values.now in
    let none : c.codec_for.result ≡ None = c.ok_or.ensures.ok_part ∙ ap result_ok c.in_err-codec.was in
    let said = rw none at c.in_err-codec.ensures.value in
    let applies_not : c.in_err-codec.field-0.0 ≡ NoCodecApplies = cc in
    let refused : StoredAs (written vs c.args.codecs.now (length c.args.out.now)) (Err c.in_err-codec.field-0.0) c.args.out.now c.args.out.now =
    rw applies_not (writing.none_applies vs c.args.codecs.now c.args.out.now (few_of c.args.kind c.args.values.now c.in_ok-few.ensures) c.unknown.ensures c.in_default.is c.collect-stats.ensures c.codec_for.ensures none) in
    search rules

pub put-requires : goal.put-requires
put-requires c =
    let is : c.codec_for.result ≡ Some c.in_ok-codec.codec = c.ok_or.ensures.ok_part ∙ ap result_ok c.in_ok-codec.was in
    record {
      describes = describes_of c.args.kind c.args.values.now c.in_ok-few.ensures c.type_inv.values c.collect-stats.ensures;
      apt_codec = writing.chosen_apt c.codec_for.ensures is;
    }

pub returns : goal.returns
returns c =
    let is : c.codec_for.result ≡ Some c.in_ok-codec.codec = c.ok_or.ensures.ok_part ∙ ap result_ok c.in_ok-codec.was in
    writing.written_by _ _ _ (few_of c.args.kind c.args.values.now c.in_ok-few.ensures) c.unknown.ensures c.in_default.is c.collect-stats.ensures c.codec_for.ensures is c.put.ensures
