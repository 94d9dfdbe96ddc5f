-- Document 01, What a record gets: a whole log. Each answer goes into a lent slice as one number.
use Rattle.std.specs.Prelude.{ℕ, ◌+◌, ◌*◌, ◌/◌, ◌%◌, ◌^◌, ◌<◌, ◌≡◌, Bool, true, false, List, [], ◌∷◌, leb, eqb, length, take, drop}
use Rattle.flow.specs.Records.{records_of}
use Rattle.flow.specs.Verdicts.{Answer as Word, refused, rule, allow, inhibit, modify, run_log}
use Rattle.flow.specs.Queries.{refuse, result}
use Rattle.terms.specs.Refusals.{number}
use Rattle.tracker.specs.Replies.{reply_of}
use Rattle.decision.specs.declared.Monitor.{Monitor}
use Rattle.decision.specs.declared.Answer.{Answer}
use Rattle.decision.specs.declared.Answer.TheVariants.{Refused, Loaded, Allow, Inhibit, Modify}
use Rattle.decision.specs.declared.Answered.{Answered}
use Rattle.decision.specs.declared.RunResult.{RunResult}
use Rattle.decision.specs.View.{view}
use Rattle.decision.specs.Answers.{word_of, Sound}

-- the code of an answer: its word, then its numbers, from the lowest byte on; a rule's number is below 32, a substitute below 64. In the highest
-- byte, how many containers gained, 64 at most (02, Paper 5)
unfoldable pub code_of : Word → ℕ
code_of (allow g) = 16777216 * g
code_of (inhibit n) = 1 + 256 * n
code_of (modify n c g) = 2 + 256 * n + 65536 * c + 16777216 * g
code_of (rule n) = 3 + 256 * n
code_of (refused n) = 4 + 256 * n

-- n is the code of an answer that, with the monitor m, is what P promises
pub record Coded (P : Answered → Type 0) (n : ℕ) (m : Monitor) : Type 0 where
  pub answer : Answer
  pub code : n ≡ code_of (word_of answer)
  pub promised : P (record { answer = answer; monitor = m })

-- the answer that a code stands for, by its four bytes
unfoldable pub word_by : ℕ → ℕ → ℕ → ℕ → Word
word_by word first second last =
    elim (eqb word 0) [
      | true ↦ allow last
      | false ↦ elim (eqb word 1) [
        | true ↦ inhibit first
        | false ↦ elim (eqb word 2) [ true ↦ modify first second last | false ↦ elim (eqb word 3) [ true ↦ rule first | false ↦ refused first ] ]
      ]
    ]

unfoldable pub word_from : ℕ → Word
word_from n = word_by (n % 256) (n / 256 % 256) (n / 65536 % 256) (n / 16777216 % 256)

-- each number of the answer is a byte, and a set one of containers
unfoldable pub InBytes : Answer → Type 0
InBytes (Refused r) = number r < 256
InBytes (Loaded n) = n < 256
InBytes (Allow g) = g < 2 ^ 64
InBytes (Inhibit n) = n < 256
InBytes (Modify n c g) = (n < 256) × (c < 256) × (g < 2 ^ 64)

-- each number of the word is a byte
unfoldable pub WordInBytes : Word → Type 0
WordInBytes (refused n) = n < 256
WordInBytes (rule n) = n < 256
WordInBytes (allow g) = g < 256
WordInBytes (inhibit n) = n < 256
WordInBytes (modify n c g) = (n < 256) × (c < 256) × (g < 256)

-- A code tells its word, by whatever number the word refuses.
unfoldable pub WordsTell : Type 0
WordsTell = (w : Word) → WordInBytes w → word_from (code_of w) ≡ w

-- A code tells its answer: of an answer in bytes, the code stands for its word and numbers.
unfoldable pub CodesTell : Type 0
CodesTell = (a : Answer) → InBytes a → word_from (code_of (word_of a)) ≡ word_of a

unfoldable pub codes_of : List Word → List ℕ
codes_of [] = []
codes_of (a ∷ rest) = code_of a ∷ codes_of rest

-- the slice has room for one code a record
unfoldable pub room_for : List ℕ → List ℕ → Bool
room_for log slice = leb (length (records_of log)) (length slice)

-- The log on the monitor m: the number of its records, and the slice behind as many numbers as it was. Of a sound monitor: the codes of their
-- answers at the front of the slice, and the state after all of them, which is sound again. 13 where the slice is shorter; then nothing changes.
unfoldable pub AnswersLogBy : Bool → Monitor → List ℕ → List ℕ → RunResult → List ℕ → Type 0
AnswersLogBy true m log before r after =
    (reply_of r.reply ≡ result (length (records_of log)))
    × (length after ≡ length before)
    × (drop (length (records_of log)) after ≡ drop (length (records_of log)) before)
    × (Sound m → (take (length (records_of log)) after ≡ codes_of (run_log (view m) log).answers) × (view r.monitor ≡ (run_log (view m) log).state) × Sound r.monitor)
AnswersLogBy false m log before r after = (reply_of r.reply ≡ refuse 13) × (r.monitor ≡ m) × (after ≡ before)

unfoldable pub AnswersLog : Monitor → List ℕ → List ℕ → RunResult → List ℕ → Type 0
AnswersLog m log before r after = AnswersLogBy (room_for log before) m log before r after
