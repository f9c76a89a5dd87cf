-- `put_word` meets its contract: the words lie between two starts.
-- Assumes nothing.
use Rattle.text_explain.specs.Words.{word}
use Rattle.text_explain.proofs.Wording.{word_inside}
use Rattle.text_explain.proofs.words.put_word.Goals as goal

pub slice_bounds-put_text-count : goal.slice_bounds-put_text-count
slice_bounds-put_text-count c = (word_inside c.requires.which_bound c.start_of-start.ensures c.start_of-end.ensures).0

pub slice_bounds-put_text-start : goal.slice_bounds-put_text-start
slice_bounds-put_text-start c = (word_inside c.requires.which_bound c.start_of-start.ensures c.start_of-end.ensures).0

pub slice_bounds-put_text-end : goal.slice_bounds-put_text-end
slice_bounds-put_text-end c = (word_inside c.requires.which_bound c.start_of-start.ensures c.start_of-end.ensures).1

pub put_text-requires : goal.put_text-requires
unfolding word
put_text-requires c = rw (c.start_of-start.ensures, c.start_of-end.ensures) c.requires.which_in_bounds

pub returns : goal.returns
unfolding word
returns c = rw (c.start_of-start.ensures, c.start_of-end.ensures) at c.put_text.ensures
