-- What the program says of a replay: one line.
-- Assumes nothing.
use Rattle.format.specs.declared.Report.{Report}
use Rattle.std.specs.Prelude.{ℕ, List, [], ◌++◌, leb, length, Option, Some, None}
use Rattle.io.specs.Counts.{IsPrefixLen}
use Rattle.format.specs.Listing.{ascii, named, named_line, opened_here}
use Rattle.format.specs.Opening.{Loaded}
use Rattle.format.specs.Outcome.{Outcome, Outcome.value, Outcome.refusal, ◌>>◌, demand, Wrote}
use Rattle.format.specs.Reading.{row_at}
use Rattle.format.specs.Replaying.{replayed}

-- the line of the first record that differs, or of none, and how many were run
abbrev pub run_line : (differing : Option ℕ) (run : ℕ) → List ℕ
run_line None run = named_line (ascii "agree ") run
run_line (Some k) run = named (ascii "differ ") k ++ named_line (ascii " run ") run

-- the line of a replay
abbrev pub report_line : Outcome Report → List ℕ
report_line (value p) = run_line p.differing p.run
report_line (refusal number also) = named_line (ascii "recording refused ") number

-- replaying in a program: 16 for a recording of too many bytes, before 19
unfoldable pub replayed_here : (read : ℕ → Outcome ℕ) (rows : ℕ) (recording : List ℕ) → Outcome Report
replayed_here read rows recording = demand (leb (length recording) 262144) 16 [] >> replayed read rows recording

-- the line of what opening found, and of the recording
abbrev pub report_or : Outcome Loaded → (s recording : List ℕ) → List ℕ
report_or (value o) s recording = report_line (replayed_here (row_at o.column o.table s) o.column.window.rows recording)
report_or (refusal number also) s recording = named_line (ascii "column refused ") number

-- what the program writes of a column's bytes and a recording
unfoldable pub report : (s recording : List ℕ) → List ℕ
report s recording = report_or (opened_here s) s recording

-- the line before and after, at whose front so many bytes were written
abbrev pub ReportedAs : (s recording : List ℕ) (n : ℕ) (old new : List ℕ) → Type 0
ReportedAs s recording n old new = Wrote old 0 (report s recording) new n × IsPrefixLen n new
