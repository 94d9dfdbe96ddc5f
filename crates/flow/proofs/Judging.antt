-- Broken rules: the lowest is reported, and where less is held no more are broken.
use Prim.Native.Nat.{ℕ, suc, ◌<◌}
use native.Mathlib.Omega.{arith}
use mathlib.Core.Path.{◌≡◌, refl, sym}
use mathlib.Core.Bool.{Bool, true, false, not}
use mathlib.Core.List.{List, [], ◌∷◌, ◌++◌}
use mathlib.Core.Option.{Option, none, some}
use Rattle.sets.specs.Sets.{has}
use Rattle.flow.specs.Box.{Condition, forbid, separate, confine, Rule, State, holds}
use Rattle.flow.specs.Rules.{breaks, broken, Numbered, first_broken, lowest_broken}
use Rattle.flow.specs.Consequences.{LowestIn, this, past, LowestReported}
use Rattle.flow.proofs.Bools.{and_l, and_r, and_i, by, no_both}
use Rattle.flow.proofs.TableLaws.{none_of, none_below}

none_not_some : {x : Numbered} {A : Type 0} → some x ≡ none → A
none_not_some e = absurd (let z : ◌≡◌ {A = ℕ} 0 1 = cc in let y : ⊥ = omega arith in y)

some_same : {x y : Numbered} → some x ≡ some y → x ≡ y
some_same e = cc

pub lowest_in : (s : State) (k : ℕ) (rs : List Rule) (x : Numbered) → first_broken s k rs ≡ some x → LowestIn s x k rs
unfolding first_broken
lowest_in s k [] x e = none_not_some (sym e)
lowest_in s k (r ∷ rs) x e = go (broken s r) refl (lowest_in s (suc k) rs x) e
  where
    go : (b : Bool) → broken s r ≡ b → (first_broken s (suc k) rs ≡ some x → LowestIn s x (suc k) rs)
        → ◌≡◌ {A = Option Numbered} (elim b as (λ z. Option Numbered) [ true ↦ some (record { number = k; rule = r }) | false ↦ first_broken s (suc k) rs ]) (some x) → LowestIn s x k (r ∷ rs)
    go true q f h = this q (sym (some_same h))
    go false q f h = past q (f h)

pub lowest_reported : LowestReported
unfolding LowestReported lowest_broken
lowest_reported s x e = lowest_in s 0 s.rules x e

-- no rule of the list is broken: neither the first nor any other
pub first_whole : (s : State) (k : ℕ) (r : Rule) (rs : List Rule) → first_broken s k (r ∷ rs) ≡ none → (broken s r ≡ false) × (first_broken s (suc k) rs ≡ none)
unfolding first_broken
first_whole s k r rs = go (broken s r)
  where
    go : (b : Bool) → ◌≡◌ {A = Option Numbered} (elim b as (λ z. Option Numbered) [ true ↦ some (record { number = k; rule = r }) | false ↦ first_broken s (suc k) rs ]) none
        → (b ≡ false) × (first_broken s (suc k) rs ≡ none)
    go true e = none_not_some e
    go false e = (refl, e)

pub more_whole : (s : State) (k : ℕ) (r : Rule) (rs : List Rule) → broken s r ≡ false → first_broken s (suc k) rs ≡ none → first_broken s k (r ∷ rs) ≡ none
unfolding first_broken
more_whole s k r rs e f = rw (e, first_broken) f

-- ---- where less is held, no more is broken
module _ (s t : State) (less : (v i : ℕ) → v < 64 → holds s v i ≡ true → holds t v i ≡ true) where
  breaks_more : (c : Condition) (v : ℕ) → v < 64 → breaks s c v ≡ true → breaks t c v ≡ true
  unfolding breaks
  breaks_more (forbid i x) v h e = and_i (holds t v i) _ (less v i h (and_l _ (has x v) e)) (and_r (holds s v i) _ e)
  breaks_more (separate i j) v h e = and_i (holds t v i) _ (less v i h (and_l _ (holds s v j) e)) (less v j h (and_r (holds s v i) _ e))
  breaks_more (confine i x) v h e = and_i (holds t v i) _ (less v i h (and_l _ (not (has x v)) e)) (and_r (holds s v i) _ e)

  pub fewer_broken : (r : Rule) → broken t r ≡ false → broken s r ≡ false
  unfolding broken
  fewer_broken r e =
      none_below _ _
      (λ v h. by (breaks s r.condition v) (λ f. no_both (breaks_more r.condition v h f) (none_of _ (breaks t r.condition) v e h)) (λ f. f))

  pub none_broken : (k : ℕ) (rs : List Rule) → first_broken t k rs ≡ none → first_broken s k rs ≡ none
  unfolding first_broken
  none_broken k [] e = refl
  none_broken k (r ∷ rs) e =
      let w = first_whole t k r rs e in
      more_whole s k r rs (fewer_broken r w.0) (none_broken (suc k) rs w.1)

pub one_more : (s : State) (k : ℕ) (rs : List Rule) (x : Rule) → first_broken s k rs ≡ none → broken s x ≡ false → first_broken s k (rs ++ (x ∷ [])) ≡ none
unfolding first_broken
one_more s k [] x e f = more_whole s k x [] f refl
one_more s k (r ∷ rs) x e f = let w = first_whole s k r rs e in more_whole s k r (rs ++ (x ∷ [])) w.0 (one_more s (suc k) rs x w.1 f)
