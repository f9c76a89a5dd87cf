-- What the program says of a check: one line.
-- Assumes nothing.
use Rattle.std.specs.Prelude.{ℕ, ◌≡◌, List, [], ◌++◌, leb, eqb, length}
use Rattle.io.specs.Counts.{IsPrefixLen}
use Rattle.format.specs.Checking.{Reason, Reason.unopened, Reason.counts, Reason.unequal, Reason.minimum, Reason.gcd, Reason.maximum, Verdict, Verdict.passed, Verdict.failed, or, checked}
use Rattle.format.specs.Listing.{ascii, named, named_line, too_many}
use Rattle.format.specs.Opening.{Loaded}
use Rattle.format.specs.Outcome.{Outcome, Outcome.value, Outcome.refusal, ◌>>◌, demand, pick, stored, Wrote}
use Rattle.format.specs.Sheets.{opened_under}
use Rattle.text_check.specs.Given.{sheet_from, values_in}

-- ---- lines

-- the line of a reason
abbrev pub reason_line : Reason → List ℕ
reason_line (unopened number also) = named_line (ascii "no column refused ") number
reason_line (counts column list) = named (ascii "no rows ") column ++ named_line (ascii " values ") list
reason_line (unequal row) = named_line (ascii "no row ") row
reason_line minimum = ascii "no minimum\n"
reason_line gcd = ascii "no gcd\n"
reason_line maximum = ascii "no maximum\n"

-- the line of a verdict
abbrev pub verdict_line : Verdict → List ℕ
verdict_line passed = ascii "yes\n"
verdict_line (failed reason) = reason_line reason

-- ---- a check in a program

-- opening in a program under a sheet: 16 for too many bytes before all else, and for too many rows; there is room for 2048 blocks
unfoldable pub opened_here_under : (sheet : ℕ) (s : List ℕ) → Outcome Loaded
opened_here_under sheet s = demand (leb (length s) 65536) 16 [] >> too_many (opened_under sheet s 2048)

-- the line of a file of values, and of a column for them; without values there is nothing to check
abbrev pub line_for : Outcome (List ℕ) → (sheet : ℕ) (s : List ℕ) → List ℕ
line_for (value vs) sheet s = verdict_line (checked (opened_here_under sheet s) s vs)
line_for (refusal number also) sheet s = named_line (ascii "values refused ") number

-- what the program writes of its argument and its two files
unfoldable pub judgement : (text s file : List ℕ) → List ℕ
judgement text s file = line_for (values_in file) (sheet_from text) s

-- the list of values before and after, and the line before and after, at whose front so many bytes were written
pub record JudgedAs (text s file : List ℕ) (n : ℕ) (before after old new : List ℕ) : Type 0 where
  pub values : after ≡ stored (values_in file) before
  pub line : Wrote old 0 (judgement text s file) new n

-- `judge`: the same, and the answer counts bytes of the line
abbrev pub JudgesAs : (text s file : List ℕ) (n : ℕ) (before after old new : List ℕ) → Type 0
JudgesAs text s file n before after old new = JudgedAs text s file n before after old new × IsPrefixLen n new

-- ---- on the way

-- a reason found with room for 2048 blocks: a program's limit on rows comes in place of 11, and of the counts of a column with more rows
abbrev pub limited_reason : Reason → Verdict
limited_reason (unopened number also) = pick (eqb number 11) (failed (unopened 16 [])) (failed (unopened number also))
limited_reason (counts column list) = or (leb column 1048576) (unopened 16 []) (failed (counts column list))
limited_reason (unequal row) = failed (unequal row)
limited_reason minimum = failed minimum
limited_reason gcd = failed gcd
limited_reason maximum = failed maximum

-- the same of any verdict
abbrev pub limited : Verdict → Verdict
limited passed = passed
limited (failed reason) = limited_reason reason
