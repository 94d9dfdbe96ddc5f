-- The reach by its links alone.
use Prim.Native.Nat.{ℕ, zero, suc}
use mathlib.Core.Path.{◌≡◌, refl, ap, ap₂, ◌∙◌}
use mathlib.Core.Bool.{true, false, ◌||◌}
use lib.Dec.{eqb}
use Rattle.sets.specs.Sets.{has, only, ◌∪◌}
use Rattle.flow.specs.Box.{container_of, Tables, feeders_of, feeds}
use Rattle.flow.specs.Links.{meets, through, through_each, closure, reach}
use Rattle.flow.proofs.Bools.{choices}

-- ---- the reach goes by the links alone
module _ (s t : Tables) (ins : (p : ℕ) → feeders_of s p ≡ feeders_of t p) (outs : (p : ℕ) → feeds s p ≡ feeds t p) where
  through_same : (x p : ℕ) → through s x p ≡ through t x p
  unfolding through
  through_same x p =
      ap₂ (λ (a b : ℕ). elim (has x (container_of p) || meets x a) as (λ z. ℕ) [ true ↦ x ∪ (only (container_of p) ∪ b) | false ↦ x ]) (ins p) (outs p)

  each_same : (n x : ℕ) → through_each s n x ≡ through_each t n x
  unfolding through_each
  each_same zero x = refl
  each_same (suc n) x = through_same (through_each s n x) n ∙ ap (λ (y : ℕ). through t y n) (each_same n x)

  closure_same : (n x : ℕ) → closure s n x ≡ closure t n x
  unfolding closure
  closure_same zero x = refl
  closure_same (suc n) x =
      ap (λ (y : ℕ). elim (eqb y x) as (λ z. ℕ) [ true ↦ x | false ↦ closure s n y ]) (each_same 16 x)
      ∙ choices (eqb (through_each t 16 x) x) x x _ _ (λ e. refl) (λ e. closure_same n (through_each t 16 x))

  pub reach_same : (u : ℕ) → reach s u ≡ reach t u
  unfolding reach
  reach_same u = closure_same _ (only u)
