-- A member of a set is what the set without it lacks.
use Prim.Native.Nat.{ℕ, ◌^◌, ◌<◌}
use mathlib.Core.Path.{◌≡◌, refl, sym, ap, ◌∙◌}
use mathlib.Core.Bool.{Bool, true, false, not, ◌&&◌, true≢false, and_comm}
use lib.Dec.{eqb}
use borrow.Author.Tests.{eqb-true, eq-eqb, ne_eqb}
use Rattle.sets.specs.Sets.{has, without}
use Rattle.sets.proofs.Members.{set_ext, without_at, without_has, without_lt}

pub taken_out : (x i : ℕ) → x < 2 ^ 64 → i < 64 → not (eqb (without x i) x) ≡ has x i
taken_out x i h l = go (has x i) refl
  where
    same : has x i ≡ false → (j : ℕ) → j < 64 → (c : Bool) → eqb j i ≡ c → has (without x i) j ≡ has x j
    same e j m true d = without_at x i j m (eqb-true j i d) ∙ sym (ap (has x) (eqb-true j i d) ∙ e)
    same e j m false d = without_has x i j m ∙ ap (λ (b : Bool). has x j && not b) d ∙ and_comm (has x j) true

    go : (b : Bool) → has x i ≡ b → not (eqb (without x i) x) ≡ has x i
    go true e = ap not (ne_eqb _ _ (λ s. true≢false (sym e ∙ sym (ap (λ (z : ℕ). has z i) s) ∙ without_at x i i l refl))) ∙ sym e
    go false e = ap not (eq-eqb _ _ (set_ext _ x (without_lt x i) h (λ j m. same e j m (eqb j i) refl))) ∙ sym e
