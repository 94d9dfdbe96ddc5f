-- The records of a log, one after the other. `Running`: a monitor has answered the first n, and their codes are stored. A turn takes the first
-- of those that are left (`run_more`); where none is left all are answered (`run_end`).
use Prim.Native.Nat.{ℕ, zero, suc, ◌+◌, ◌*◌, ◌-◌, ◌/◌, ◌≤◌, ◌<◌}
use native.Mathlib.Omega.{arith}
use native.Mathlib.Numerals.{add-one}
use mathlib.Core.Path.{◌≡◌, refl, sym, ap, ◌∙◌}
use mathlib.Core.Logic.{◌⊎◌, inl, inr, ⊎_elim}
use mathlib.Core.Bool.{true, false}
use mathlib.Core.List.{List, [], ◌∷◌, ◌++◌, append-nil}
use lib.Dec.{leb}
use lib.ListN.{length, take, drop, set, length-drop, length-set, drop_of_length-le}
use lib.Seq.{take-suc-set, drop-set-lt, drop-drop, append_snoc}
use borrow.Author.Tests.{le-leb}
use Rattle.std.proofs.Common.{Bor}
use Rattle.std.specs.Prelude.{Ok, Err}
use Rattle.std.specs.Iterator.{Yields, YieldsFirstRef}
use Rattle.flow.specs.Records.{reading, stated_length, record_length, cut_short, records_in, records_of}
use Rattle.flow.specs.Verdicts.{outcome, answer, answer_all, run_log}
use Rattle.flow.proofs.Bools.{choice}
use Rattle.terms.specs.declared.refusal.Refusal.TheVariants.{SliceShort}
use Rattle.records.specs.Reading.{extent_of}
use Rattle.records.proofs.RecordLaws.{extent_positive, extent_le, records_first}
use Rattle.logreader.specs.declared.LogReader.{LogReader}
use Rattle.logreader.specs.Rest.{rest}
use Rattle.tracker.specs.Replies.{reply_of}
use Rattle.decision.specs.declared.Monitor.{Monitor}
use Rattle.decision.specs.declared.Answered.{Answered}
use Rattle.decision.specs.View.{view}
use Rattle.decision.specs.Answers.{word_of, Sound, Answers}
use Rattle.decision.specs.Logs.{code_of, codes_of, room_for, AnswersLogBy, AnswersLog}

-- ---- counting
-- as many records were given as there were
pub counted : (xs : List (Bor (List ℕ))) (s t : LogReader) → Yields (YieldsFirstRef rest) s xs t → rest t ≡ [] → length xs ≡ length (rest s)
counted [] s t y e = sym (ap length (ap rest y ∙ e))
counted (x ∷ xs) s t y e = ap suc (counted xs y.0 t y.2 e) ∙ sym (ap length y.1)

no_records : length (records_of []) ≡ 0
unfolding records_of records_in
no_records = refl

-- ---- a record has at least three bytes, but for the last
whole_or_rest : (bytes : List ℕ) → (length bytes ≤ extent_of bytes) ⊎ (3 ≤ extent_of bytes)
unfolding extent_of record_length
whole_or_rest bytes =
    choice (λ (n : ℕ). (length bytes ≤ n) ⊎ (3 ≤ n)) (cut_short bytes) (length bytes) (3 + stated_length bytes) (λ e. inl (omega arith)) (λ e. inr (omega arith))

bound_next : (bytes : List ℕ) (f : ℕ) → length bytes ≤ suc f → 0 < length bytes → ((x : List ℕ) → length x ≤ f → 3 * length (records_of x) ≤ length x + 2) → 3 * length (records_of bytes) ≤ length bytes + 2
bound_next bytes f l h k =
    let e : length (records_of bytes) ≡ suc (length (records_of (drop (extent_of bytes) bytes))) = ap length (records_first bytes h) in
    let d : length (drop (extent_of bytes) bytes) ≡ length bytes - extent_of bytes = length-drop (extent_of bytes) bytes in
    let p : 1 ≤ extent_of bytes = extent_positive bytes h in
    let q : extent_of bytes ≤ length bytes = extent_le bytes in
    let i : 3 * length (records_of (drop (extent_of bytes) bytes)) ≤ length (drop (extent_of bytes) bytes) + 2 = k (drop (extent_of bytes) bytes) (omega arith) in
    ⊎_elim
    (λ (w : length bytes ≤ extent_of bytes). let z : length (records_of (drop (extent_of bytes) bytes)) ≡ 0 = ap (λ (x : List ℕ). length (records_of x)) (drop_of_length-le bytes w) ∙ no_records in omega arith)
    (λ (w : 3 ≤ extent_of bytes). omega arith)
    (whole_or_rest bytes)

bound_step : (bytes : List ℕ) (f : ℕ) → length bytes ≤ suc f → ((x : List ℕ) → length x ≤ f → 3 * length (records_of x) ≤ length x + 2) → 3 * length (records_of bytes) ≤ length bytes + 2
bound_step [] f l k = let z : length (records_of []) ≡ 0 = no_records in omega arith
bound_step (b ∷ bytes) f l k = bound_next (b ∷ bytes) f l (omega arith) k

bound_none : (bytes : List ℕ) → length bytes ≤ 0 → 3 * length (records_of bytes) ≤ length bytes + 2
bound_none [] l = let z : length (records_of []) ≡ 0 = no_records in omega arith
bound_none (b ∷ bytes) l = absurd (let z : ⊥ = omega arith in z)

bound_within : (f : ℕ) (bytes : List ℕ) → length bytes ≤ f → 3 * length (records_of bytes) ≤ length bytes + 2
bound_within zero = bound_none
bound_within (suc f) = λ bytes l. bound_step bytes f l (bound_within f)

pub records_bound : (log : List ℕ) → 3 * length (records_of log) ≤ length log + 2
records_bound log = bound_within (length log) log (omega arith)

-- where a log's length says that there is room, there is
pub room_enough : (log : List ℕ) (room : ℕ) → length log / 3 < room → true ≡ leb (length (records_of log)) room
room_enough log room h = sym (le-leb (length (records_of log)) room (let z : 3 * length (records_of log) ≤ length log + 2 = records_bound log in omega arith))

-- ---- running
pub record Running (m₀ : Monitor) (records : List (List ℕ)) (codes₀ : List ℕ) (m : Monitor) (left : List (List ℕ)) (n : ℕ) (codes : List ℕ) : Type 0 where
  pub counts : length records ≡ n + length left
  pub room : length records ≤ length codes₀
  pub long : length codes ≡ length codes₀
  pub rest : drop n codes ≡ drop n codes₀
  pub sound : Sound m₀ → Sound m
  pub state : Sound m₀ → (answer_all (view m₀) records).state ≡ (answer_all (view m) left).state
  pub stored : Sound m₀ → codes_of (answer_all (view m₀) records).answers ≡ take n codes ++ codes_of (answer_all (view m) left).answers

pub run_start : (m : Monitor) (records : List (List ℕ)) (codes : List ℕ) → length records ≤ length codes → Running m records codes m records 0 codes
run_start m records codes h =
    record { counts = omega arith; room = h; long = refl; rest = refl; sound = λ z. z; state = λ z. refl; stored = λ z. refl }

module _ {m₀ : Monitor} {records : List (List ℕ)} {codes₀ : List ℕ} {m : Monitor} {left : List (List ℕ)} {n : ℕ} {codes : List ℕ} (w : Running m₀ records codes₀ m left n codes) where
  -- there is room for one more
  module _ (bytes : List ℕ) (more : List (List ℕ)) (e : left ≡ bytes ∷ more) where
    pub run_room : n < length codes
    run_room = let l : length left ≡ suc (length more) = ap length e in omega arith

    pub run_more : (r : Answered) → Answers m (reading bytes) r → (x : ℕ) → x ≡ code_of (word_of r.answer) → Running m₀ records codes₀ r.monitor more (n + 1) (set codes n x)
    unfolding codes_of answer outcome answer_all
    run_more r g x f =
        let l : length left ≡ suc (length more) = ap length e in
        record {
          counts = omega arith;
          room = w.room;
          long = length-set codes n x ∙ w.long;
          rest = rw (drop-set-lt (n + 1) codes n x (omega arith), ← (drop-drop 1 n codes), ← (drop-drop 1 n codes₀), w.rest);
          sound = λ z. g.sound (w.sound z);
          state = λ z. rw (w.state z, e, g.state (w.sound z));
          stored = λ z. rw (w.stored z, e, f, g.answer (w.sound z), g.state (w.sound z), add-one, take-suc-set codes n _ run_room, append_snoc);
        }

-- all are answered
pub run_end : {m₀ : Monitor} (log : List ℕ) {codes₀ : List ℕ} {m : Monitor} {left : List (List ℕ)} {n : ℕ} {codes : List ℕ} → Running m₀ (records_of log) codes₀ m left n codes → left ≡ []
    → AnswersLog m₀ log codes₀ (record { reply = Ok n; monitor = m }) codes
unfolding AnswersLog AnswersLogBy room_for reply_of codes_of run_log answer_all
run_end {m₀} log {codes₀} {m} {left} {n} {codes} w e =
    let room : leb (length (records_of log)) (length codes₀) ≡ true = le-leb (length (records_of log)) (length codes₀) w.room in
    let all : length (records_of log) ≡ n = let l : length left ≡ 0 = ap length e in omega arith in
    rw (room, all) (
      refl,
      w.long,
      w.rest,
      λ z. (sym (rw (w.stored z, e, append-nil)), sym (rw (w.state z, e)), w.sound z),
    )

pub run_refused : (m : Monitor) (log codes : List ℕ) → leb (length (records_of log)) (length codes) ≡ false → AnswersLog m log codes (record { reply = Err SliceShort; monitor = m }) codes
unfolding AnswersLog AnswersLogBy room_for reply_of
run_refused m log codes room = rw room (refl, refl, refl)
