-- A replay under way, from record to record and from chunk to chunk. Over any reading.
--     chunk_met, chunk_differs, chunk_refused                  what is left of a record behind a chunk
--     done_agrees, done_differs                                a record with no rows left
--     whole, onward, differ_at, all_done, refused, begins      from record to record
--     ended, goes_on, is_over, is_on_hand, left-over           the phase by what the state says
--     Skipping, skip_differs, skip_more                        over records without rows
--     at_hand, hand_left                                       the next that has some
--     refuses, strays, goes_later, stops_short, next_record    a record at hand, behind a chunk
--     left_some, left_later, left_next                         what is left falls
-- Assumes nothing.
use Rattle.format.specs.declared.Report.{Report}
use Rattle.std.specs.Prelude.{Option, Some, None, Result, Ok, Err}
use Prim.Native.Nat.{ℕ, suc, ◌+◌, ◌-◌, ◌*◌, ◌^◌, ◌≤◌, ◌<◌, min}
use mathlib.Core.Path.{◌≡◌, refl, sym, ap, ◌∙◌}
use mathlib.Core.Bool.{Bool, true, false}
use mathlib.Core.List.{List, [], ◌++◌}
use native.Mathlib.Nat.{add-zero}
use native.Mathlib.Numerals.{add-one}
use native.Mathlib.Omega.{arith}
use Rattle.format.specs.declared.Recording.{Recording}
use Rattle.format.specs.declared.Recorded.{Recorded}
use Rattle.format.specs.declared.Refusal.{Refusal}
use Rattle.format.specs.declared.Refusal.TheVariants.{BadRecording}
use Rattle.format.specs.Lookup.{all_read, rows_passing, within}
use Rattle.format.specs.Outcome.{Outcome, Outcome.value, Outcome.refusal, ◌>>◌, pick}
use Rattle.format.specs.Refusals.{numbered, answered_by}
use Rattle.format.specs.Replaying.{header_of, record_at, same_rows, are_rows, found_are, agrees, first_differing, reported, is_recording, replayed}
use Rattle.format.specs.Runs.{read_run}
use Rattle.format.proofs.Tests.{when, unless, as_when, as_unless}
use Rattle.read_chunk.specs.Rows.{rows_among}
use Rattle.replay_walk.proofs.Behind.{all_behind, all_stops, all_none, rows_behind, rows_none}
use Rattle.replay_walk.specs.declared.walking.Walk.{Walk}
use Rattle.replay_walk.specs.Walking.{to_come, Onward, OnHand, Replaying, left}
use Rattle.replay_walk.proofs.Meets.{come_next, come_none}

-- ---- behind a chunk

-- rows before those of a lookup
put_before : (o : Outcome (Unit {0})) (xs rest l m : List ℕ) → same_rows (xs ++ rest) l ≡ same_rows rest m → are_rows l (o >> value (xs ++ rest)) ≡ are_rows m (o >> value rest)
put_before (value u) xs rest l m e = e
put_before (refusal number also) xs rest l m e = refl

differ-before : (o : Outcome (Unit {0})) (xs rest l : List ℕ) → same_rows (xs ++ rest) l ≡ false → are_rows l (o >> value (xs ++ rest)) ≡ false
differ-before (value u) xs rest l e = e
differ-before (refusal number also) xs rest l e = refl

module _ (read : ℕ → Outcome ℕ) (test : ℕ → Bool) (at end size : ℕ) (to : at + size ≤ end) (l : List ℕ) where
  module _ (values : List ℕ) (run : read_run read at size ≡ value values) where
    split : found_are read test at (end - at) l
        ≡ are_rows l (all_read read (at + size) (end - (at + size)) >> value (rows_among test at values ++ rows_passing read test (at + size) (end - (at + size))))
    unfolding found_are
    split = rw (all_behind read at end size values to run, rows_behind read test at end size values to run) refl

    pub chunk_met : (m : List ℕ) → ((rest : List ℕ) → same_rows (rows_among test at values ++ rest) l ≡ same_rows rest m) → found_are read test at (end - at) l ≡ found_are read test (at + size) (end - (at + size)) m
    unfolding found_are
    chunk_met m same = split ∙ put_before (all_read read (at + size) (end - (at + size))) (rows_among test at values) _ l m (same _)

    pub chunk_differs : ((rest : List ℕ) → same_rows (rows_among test at values ++ rest) l ≡ false) → found_are read test at (end - at) l ≡ false
    chunk_differs other = split ∙ differ-before (all_read read (at + size) (end - (at + size))) (rows_among test at values) _ l (other _)

  pub chunk_refused : (number : ℕ) (also : List ℕ) → read_run read at size ≡ refusal number also → found_are read test at (end - at) l ≡ false
  unfolding found_are
  chunk_refused number also run = rw (all_stops read at end size number also to run) refl

-- ---- no rows left

rows_done : (read : ℕ → Outcome ℕ) (test : ℕ → Bool) (at end : ℕ) (l : List ℕ) → end ≤ at → found_are read test at (end - at) l ≡ same_rows [] l
unfolding found_are
rows_done read test at end l last = rw (all_none read at end last, rows_none read test at end last) refl

module _ (read : ℕ → Outcome ℕ) (test : ℕ → Bool) (h : Recording) (s : List ℕ) (r : Recorded) (n at end : ℕ) (last : end ≤ at) where
  -- it agrees if no recorded rows are to come
  pub done_agrees : r.many ≤ n → found_are read test at (end - at) (to_come h s r n) ≡ true
  unfolding same_rows
  done_agrees all = rows_done read test at end (to_come h s r n) last ∙ rw (come_none h s r n all) refl

  pub done_differs : n < r.many → found_are read test at (end - at) (to_come h s r n) ≡ false
  unfolding same_rows
  done_differs more = rows_done read test at end (to_come h s r n) last ∙ rw (come_next h s r n more) refl

-- ---- from record to record

module _ (read : ℕ → Outcome ℕ) (rows : ℕ) (s : List ℕ) (h : Recording) where
  -- what is left of a record of which nothing is done
  pub whole : (k : ℕ) (r : Recorded) (end : ℕ) → r ≡ record_at h s k → end ≡ min r.end rows
      → agrees read rows h s k ≡ found_are read (within r.low r.high) r.first (end - r.first) (to_come h s r 0)
  unfolding agrees
  whole k r end is cut =
      let all : r.many - 0 ≡ r.many = omega arith in
      rw (← is, cut, add-zero r.place, all) refl

  first_step : (k : ℕ) → k < h.records
      → first_differing (agrees read rows h s) k (h.records - k) ≡ pick (agrees read rows h s k) (first_differing (agrees read rows h s) (k + 1) (h.records - (k + 1))) (Some k)
  unfolding first_differing
  first_step k less =
      let more : h.records - k ≡ suc (h.records - (k + 1)) = omega arith in
      rw (more, add-one k) refl

  pub onward : {k : ℕ} → Onward read rows s h k → k < h.records → agrees read rows h s k ≡ true → Onward read rows s h (k + 1)
  onward {k} f less is = record { header = f.header; sound = f.sound; rest = f.rest ∙ first_step k less ∙ rw is refl }

  told : Onward read rows s h 0 → (o : Option ℕ) → first_differing (agrees read rows h s) 0 h.records ≡ o → replayed read rows s ≡ value (reported h.records o)
  unfolding replayed
  told f o is = rw (f.sound, ← f.header, is) refl

  begun : {k : ℕ} → Onward read rows s h k → Onward read rows s h 0
  begun f =
      let all : h.records ≡ h.records - 0 = omega arith in
      record { header = f.header; sound = f.sound; rest = ap (first_differing (agrees read rows h s) 0) all }

  pub differ_at : {k : ℕ} → Onward read rows s h k → k < h.records → agrees read rows h s k ≡ false → answered_by (Ok (record { differing = Some k; run = k + 1 })) ≡ replayed read rows s
  differ_at {k} f less is = sym (told (begun f) (Some k) (f.rest ∙ first_step k less ∙ rw is refl))

  pub all_done : {k : ℕ} → Onward read rows s h k → h.records ≤ k → answered_by (Ok (record { differing = None; run = h.records })) ≡ replayed read rows s
  unfolding first_differing
  all_done {k} f last =
      let over : h.records - k ≡ 0 = omega arith in
      sym (told (begun f) None (f.rest ∙ rw over refl))

pub refused : (read : ℕ → Outcome ℕ) (rows : ℕ) (s : List ℕ) → is_recording s ≡ false → answered_by (Err BadRecording) ≡ replayed read rows s
unfolding replayed
refused read rows s is = rw is refl

pub begins : (read : ℕ → Outcome ℕ) (rows : ℕ) (s : List ℕ) {h : Recording} → h ≡ header_of s → is_recording s ≡ true → Onward read rows s h 0
begins read rows s {h} is sound =
    let all : h.records ≡ h.records - 0 = omega arith in
    record { header = is; sound = sound; rest = ap (first_differing (agrees read rows h s) 0) all }

-- ---- the phase

module _ (read : ℕ → Outcome ℕ) (rows : ℕ) (s : List ℕ) (w : Walk) where
  abbrev Over : Type 0
  Over = answered_by w.answer ≡ replayed read rows s

  pub ended : {a : Result Report Refusal} → w.going ≡ false → w.answer ≡ a → answered_by a ≡ replayed read rows s → Replaying read rows s w
  ended e is f = record { phase = as_unless (OnHand read rows s w) Over w.going e (ap answered_by is ∙ f) }

  pub goes_on : OnHand read rows s w → Replaying read rows s w
  goes_on f = record { phase = as_when (OnHand read rows s w) Over w.going f.going.on f }

  pub is_over : Replaying read rows s w → w.going ≡ false → answered_by w.answer ≡ replayed read rows s
  is_over f e = unless (OnHand read rows s w) Over w.going e f.phase

  pub is_on_hand : Replaying read rows s w → w.going ≡ true → OnHand read rows s w
  is_on_hand f e = when (OnHand read rows s w) Over w.going e f.phase

-- nothing is left where a replay is over
pub left_over : (w : Walk) → w.going ≡ false → (m : ℕ) → 0 < m → left w < m
left_over w e m more = rw e more

-- ---- over records without rows

-- the records from k to i have none, and agree
pub record Skipping (rows : ℕ) (s : List ℕ) (h : Recording) (k i : ℕ) : Type 0 where
  pub from : k ≤ i
  pub to : i ≤ h.records
  pub rest : (read : ℕ → Outcome ℕ) → Onward read rows s h k → Onward read rows s h i

module _ {rows : ℕ} {s : List ℕ} {h : Recording} {k i : ℕ} (f : Skipping rows s h k i) (less : i < h.records) {r : Recorded} {end : ℕ} (is : r ≡ record_at h s i) (cut : end ≡ min r.end rows) where
  abbrev pub handed : Walk
  handed = record { head = h; k = i; item = r; at = r.first; end = end; n = 0; going = true; answer = Ok (record { differing = None; run = 0 }) }

  pub at_hand : r.first < end → (read : ℕ → Outcome ℕ) → Onward read rows s h k → Replaying read rows s handed
  at_hand to read o =
      goes_on read rows s handed (record {
        going = record { on = refl; listed = less; to = to; inside = omega arith; few = omega arith };
        onward = f.rest read o;
        here = whole read rows s h i r end is cut;
      })

  pub hand_left : end < 2 ^ 32 → left handed < (h.records - k) * 2 ^ 32 + 2 ^ 32
  hand_left small = omega (arith, f.from)

  module _ (last : end ≤ r.first) where
    pub skip_differs : 0 < r.many → (read : ℕ → Outcome ℕ) → Onward read rows s h k → answered_by (Ok (record { differing = Some i; run = i + 1 })) ≡ replayed read rows s
    skip_differs more read o =
        differ_at read rows s h (f.rest read o) less
        (whole read rows s h i r end is cut ∙ done_differs read (within r.low r.high) h s r 0 r.first end last more)

    pub skip_more : r.many ≤ 0 → Skipping rows s h k (i + 1)
    skip_more none_recorded = record {
      from = omega (arith, f.from);
      to = omega arith;
      rest = λ read o.
          onward read rows s h (f.rest read o) less
          (whole read rows s h i r end is cut ∙ done_agrees read (within r.low r.high) h s r 0 r.first end last none_recorded);
    }

-- ---- a record at hand, behind a chunk

module _ {read : ℕ → Outcome ℕ} {rows : ℕ} {s : List ℕ} {w : Walk} (f : OnHand read rows s w) (size : ℕ) (to : w.at + size ≤ w.end) where
  abbrev sought : ℕ → Bool
  sought = within w.item.low w.item.high

  abbrev awaited : List ℕ
  awaited = to_come w.head s w.item w.n

  -- a refused row differs
  pub refuses : (x : Refusal) → read_run read w.at size ≡ numbered x → answered_by (Ok (record { differing = Some w.k; run = w.k + 1 })) ≡ replayed read rows s
  refuses x run = differ_at read rows s w.head f.onward f.going.listed (f.here ∙ chunk_refused read sought w.at w.end size to awaited _ _ run)

  module _ (values : List ℕ) (run : read_run read w.at size ≡ value values) where
    -- so does a row that is not the next recorded one
    pub strays : ((rest : List ℕ) → same_rows (rows_among sought w.at values ++ rest) awaited ≡ false) → answered_by (Ok (record { differing = Some w.k; run = w.k + 1 })) ≡ replayed read rows s
    strays other = differ_at read rows s w.head f.onward f.going.listed (f.here ∙ chunk_differs read sought w.at w.end size to awaited values run other)

    module _ (n : ℕ) (same : (rest : List ℕ) → same_rows (rows_among sought w.at values ++ rest) awaited ≡ same_rows rest (to_come w.head s w.item n)) where
      later : agrees read rows w.head s w.k ≡ found_are read sought (w.at + size) (w.end - (w.at + size)) (to_come w.head s w.item n)
      later = f.here ∙ chunk_met read sought w.at w.end size to awaited values run (to_come w.head s w.item n) same

      abbrev pub moved : Walk
      moved = record { head = w.head; k = w.k; item = w.item; at = w.at + size; end = w.end; n = n; going = true; answer = Ok (record { differing = None; run = 0 }) }

      pub goes_later : w.at + size < w.end → n ≤ w.item.many → Replaying read rows s moved
      goes_later more few =
          goes_on read rows s moved (record {
            going = record { on = refl; listed = f.going.listed; to = more; inside = f.going.inside; few = few };
            onward = f.onward;
            here = later;
          })

      pub stops_short : w.end ≤ w.at + size → n < w.item.many → answered_by (Ok (record { differing = Some w.k; run = w.k + 1 })) ≡ replayed read rows s
      stops_short last more = differ_at read rows s w.head f.onward f.going.listed (later ∙ done_differs read sought w.head s w.item n (w.at + size) w.end last more)

      pub next_record : w.end ≤ w.at + size → w.item.many ≤ n → Onward read rows s w.head (w.k + 1)
      next_record last all = onward read rows s w.head f.onward f.going.listed (later ∙ done_agrees read sought w.head s w.item n (w.at + size) w.end last all)

-- ---- what is left falls

module _ (w : Walk) (on : w.going ≡ true) (listed : w.k < w.head.records) where
  pub left_some : 0 < left w
  left_some = rw on (omega arith)

  pub left_later : (size : ℕ) → 0 < size → w.at + size ≤ w.end → (w.head.records - w.k) * 2 ^ 32 + (w.end - (w.at + size)) < left w
  left_later size more to = rw on (omega arith)

  pub left_next : (m : ℕ) → m < (w.head.records - (w.k + 1)) * 2 ^ 32 + 2 ^ 32 → m < left w
  left_next m less = rw on (omega arith)
