-- `hulemartob::typed::hulemartob_values_as` meets its contract: a number that is no kind stands for plain numbers, which are their own words.
-- Assumes nothing.
use Rattle.hulemartob.proofs.Words.{words-told}
use Rattle.hulemartob.proofs.typed.hulemartob_values_as.Goals as goal

pub returns : goal.returns
returns c = words-told c.kind_from-known.result c.kind_of-read_as.result c.args.kind c.args.list.now c.words_as.new.list c.kind_from-known.ensures c.kind_of-read_as.ensures c.words_as.ensures
