-- Answers in numbers, for callers in C.
use Rattle.std.specs.Prelude.{ℕ, ◌≡◌, List, length}
use Rattle.flow.specs.Queries.{Reply as Word, refuse, result, items_query, holders_query, holders_slice}
use Rattle.tracker.specs.Replies.{Reply, reply_of}
use Rattle.decision.specs.declared.Monitor.{Monitor}
use Rattle.decision.specs.View.{view}
use Rattle.decision.specs.Logs.{AnswersLog}

-- a query's answer in two numbers: 0 and the result, or the number of the refusal, and then the lent number is as before
unfoldable pub Given : Word → ℕ → ℕ → ℕ → Type 0
Given (result x) before n after = (n ≡ 0) × (after ≡ x)
Given (refuse k) before n after = (n ≡ k) × (after ≡ before)

-- a log on the monitor m, its reply in two numbers
pub record AnswersLogGiven (m : Monitor) (log codes : List ℕ) (count n : ℕ) (m' : Monitor) (codes' : List ℕ) (count' : ℕ) : Type 0 where
  pub reply : Reply
  pub given : Given (reply_of reply) count n count'
  pub promised : AnswersLog m log codes (record { reply = reply; monitor = m' }) codes'

-- the two queries (01, What a record gets), their replies in two numbers
abbrev pub ItemsGiven : Monitor → ℕ → ℕ → ℕ → ℕ → Type 0
ItemsGiven m c set n set' = Given (items_query (view m) c) set n set'

pub record HoldersGiven (m : Monitor) (i : ℕ) (out : List ℕ) (count n : ℕ) (out' : List ℕ) (count' : ℕ) : Type 0 where
  pub given : Given (holders_query (view m) i (length out)) count n count'
  pub slice : out' ≡ holders_slice (view m) i out
