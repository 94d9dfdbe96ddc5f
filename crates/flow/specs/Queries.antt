-- Document 01, What a record gets: the two queries. 02, Paper 1: the order of the holders.
use Rattle.std.specs.Prelude.{ℕ, true, false, List, [], ◌∷◌, ◌++◌, ltb, leb, length, drop}
use Rattle.std.proofs.Math.Option.{Option, none, some}
use Rattle.sets.specs.Sets.{rising}
use Rattle.flow.specs.Lists.{◌⇒◌, first_that}
use Rattle.flow.specs.Box.{container_count, item_count, State, items_of, holds}

-- an answer: a refusal's number, or the result
pub data Reply : Type 0 where
  refuse : ℕ → Reply
  result : ℕ → Reply

-- ---- the items of a container, as a 64-bit set
unfoldable pub items_query : State → ℕ → Reply
items_query s c = elim (ltb c container_count) [ true ↦ result (items_of s c) | false ↦ refuse 5 ]

-- ---- the holders of an item, into a lent slice
-- the containers that hold the item, in rising number (02, Paper 1)
unfoldable pub holders : State → ℕ → List ℕ
holders s i = rising (λ c. holds s c i)

-- 5 before 13; room is the length of the slice
unfoldable pub holders_refusal : State → ℕ → ℕ → Option ℕ
holders_refusal s i room = first_that ((leb item_count i ⇒ 5) ∷ (ltb room (length (holders s i)) ⇒ 13) ∷ [])

-- the answer is how many
unfoldable pub reply_by : State → ℕ → Option ℕ → Reply
reply_by s i (some n) = refuse n
reply_by s i none = result (length (holders s i))

unfoldable pub holders_query : State → ℕ → ℕ → Reply
holders_query s i room = reply_by s i (holders_refusal s i room)

-- the slice after the query: a refusal leaves it as before; else the holders, then the elements that stood past these before
unfoldable pub slice_by : State → ℕ → Option ℕ → List ℕ → List ℕ
slice_by s i (some n) before = before
slice_by s i none before = holders s i ++ drop (length (holders s i)) before

unfoldable pub holders_slice : State → ℕ → List ℕ → List ℕ
holders_slice s i before = slice_by s i (holders_refusal s i (length before)) before
