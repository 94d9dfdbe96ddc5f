-- The answers of the two queries.
use Rattle.std.specs.Prelude.{ℕ, ◌≡◌, true, false, List, length, Result, Ok, Err}
use Rattle.sets.specs.Sets.{has, only, ◌∪◌}
use Rattle.flow.specs.Box.{State}
use Rattle.flow.specs.Queries.{Reply as Answer, refuse, result, holders_query, holders_slice}
use Rattle.terms.specs.declared.refusal.Refusal.{Refusal}
use Rattle.terms.specs.Refusals.{number}

-- the result, or why there is none
abbrev pub Reply : Type 0
Reply = Result ℕ Refusal

-- what a reply stands for
unfoldable pub reply_of : Reply → Answer
reply_of (Ok x) = result x
reply_of (Err r) = refuse (number r)

-- the query for the holders of item i: the reply, and the slice by what it held before
pub record AnswersHolders (s : State) (i : ℕ) (before : List ℕ) (r : Reply) (after : List ℕ) : Type 0 where
  pub answer : reply_of r ≡ holders_query s i (length before)
  pub slice : after ≡ holders_slice s i before

-- the set x, with container c where its items have item i: one turn of the loop that finds the holders
unfoldable pub with_holder : ℕ → ℕ → ℕ → ℕ → ℕ
with_holder x items i c = elim (has items i) [ true ↦ x ∪ only c | false ↦ x ]
