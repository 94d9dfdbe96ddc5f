-- The reach is exactly what links lead to, over any number of steps.
use Prim.Native.Nat.{ℕ, zero, suc, ◌+◌, ◌-◌, ◌^◌, ◌≤◌, ◌<◌}
use native.Mathlib.Omega.{arith}
use native.Mathlib.Nat.{not-suc-le-zero}
use native.Mathlib.Decide.{ℕ_discrete}
use mathlib.Core.Path.{◌≡◌, refl, sym, ap, ◌∙◌}
use mathlib.Core.Logic.{⊎_elim, ◌↔◌}
use mathlib.Core.Bool.{true, ◌&&◌, ◌||◌}
use lib.Dec.{ltb, leb, eqb}
use borrow.Author.Tests.{ltb-true, leb-true, eqb-true, eqb-false, eq-eqb, lt-ltb, le-leb}
use Rattle.sets.specs.Sets.{has, only, ◌∪◌, count}
use Rattle.sets.proofs.Members.{union_has, only_has, none_has, union_lt, only_lt, set_ext, count_part, count_le}
use Rattle.flow.specs.Box.{is_process, container_of, Tables, feeders_of, feeds}
use Rattle.flow.specs.Links.{linked, Reaches, here, onward, meets, through, through_each, closure, reach}
use Rattle.flow.proofs.Meets.{meets_of, meets_at}
use Rattle.flow.proofs.Bools.{or_elim, or_l, or_r, and_l, and_r, and_i, by, no_both, choice, chosen_l}

-- ---- processes and their links
pub process_range : (c : ℕ) → is_process c ≡ true → (8 ≤ c) × (c < 24)
unfolding is_process
process_range c h = (leb-true 8 c (and_l _ (ltb c 24) h), ltb-true c 24 (and_r (leb 8 c) _ h))

pub is_process_lem : (c : ℕ) → 8 ≤ c → c < 24 → is_process c ≡ true
unfolding is_process
is_process_lem c l h = and_i (leb 8 c) (ltb c 24) (le-leb 8 c l) (lt-ltb c 24 h)

pub container_process : (p : ℕ) → p < 16 → is_process (container_of p) ≡ true
container_process p h = is_process_lem (container_of p) (omega arith) (omega arith)

pub container_number : (p : ℕ) → container_of p - 8 ≡ p
container_number p = omega arith

-- a link leads to a process from one of its feeders, or from a process to a container that it feeds
pub link_cases : (t : Tables) (u v : ℕ) {P : Type 0} → ((p : ℕ) → p < 16 → v ≡ container_of p → has (feeders_of t p) u ≡ true → P)
    → ((p : ℕ) → p < 16 → u ≡ container_of p → has (feeds t p) v ≡ true → P) → linked t u v ≡ true → P
unfolding linked
link_cases t u v f g h =
    or_elim (is_process v && has (feeders_of t (v - 8)) u) (is_process u && has (feeds t (u - 8)) v)
    (λ e. let r = process_range v (and_l _ (has (feeders_of t (v - 8)) u) e) in f (v - 8) (omega arith) (omega arith) (and_r (is_process v) _ e))
    (λ e. let r = process_range u (and_l _ (has (feeds t (u - 8)) v) e) in g (u - 8) (omega arith) (omega arith) (and_r (is_process u) _ e))
    h

module _ (t : Tables) (p : ℕ) (hp : p < 16) where
  pub link_in : (u : ℕ) → has (feeders_of t p) u ≡ true → linked t u (container_of p) ≡ true
  unfolding linked
  link_in u h = or_l _ _ (and_i (is_process (container_of p)) _ (container_process p hp) (rw (container_number p) h))

  pub link_out : (v : ℕ) → has (feeds t p) v ≡ true → linked t (container_of p) v ≡ true
  unfolding linked
  link_out v h = or_r (is_process v && has (feeders_of t (v - 8)) (container_of p)) _ (and_i (is_process (container_of p)) _ (container_process p hp) (rw (container_number p) h))

-- ---- following links
abbrev Part : ℕ → ℕ → Type 0
Part x y = (i : ℕ) → has x i ≡ true → has y i ≡ true

module _ (t : Tables) where
  through_keeps : (x p : ℕ) → Part x (through t x p)
  unfolding through
  through_keeps x p i h =
      choice (λ z. has z i ≡ true) (has x (container_of p) || meets x (feeders_of t p)) _ x (λ e. union_has x _ i ∙ or_l _ _ h) (λ e. h)

  -- where process p is in the set or is fed from it, p and what it feeds are there
  through_adds : (x p v : ℕ) → (has x (container_of p) || meets x (feeders_of t p)) ≡ true → has (only (container_of p) ∪ feeds t p) v ≡ true → has (through t x p) v ≡ true
  unfolding through
  through_adds x p v e h = rw (chosen_l (has x (container_of p) || meets x (feeders_of t p)) (x ∪ (only (container_of p) ∪ feeds t p)) x e) (union_has x _ v ∙ or_r (has x v) _ h)

  through_process : (x p u : ℕ) → has x u ≡ true → has (feeders_of t p) u ≡ true → has (through t x p) (container_of p) ≡ true
  through_process x p u h k =
      through_adds x p (container_of p) (or_r (has x (container_of p)) _ (meets_of x _ u h k)) (union_has (only (container_of p)) _ (container_of p) ∙ or_l _ _ (only_has (container_of p) (container_of p) ∙ eq-eqb (container_of p) (container_of p) refl))

  through_fed : (x p v : ℕ) → has x (container_of p) ≡ true → has (feeds t p) v ≡ true → has (through t x p) v ≡ true
  through_fed x p v h k = through_adds x p v (or_l _ _ h) (union_has (only (container_of p)) _ v ∙ or_r (has (only (container_of p)) v) _ k)

  through_leads : (u p : ℕ) → p < 16 → (x : ℕ) → ((v : ℕ) → has x v ≡ true → Reaches t u v) → (v : ℕ) → has (through t x p) v ≡ true → Reaches t u v
  unfolding through
  through_leads u p hp x f v =
      choice (λ z. has z v ≡ true → Reaches t u v) (has x (container_of p) || meets x (feeders_of t p)) _ x
      (λ e h. let at : Reaches t u (container_of p) =
      or_elim (has x (container_of p)) (meets x (feeders_of t p)) (f (container_of p))
      (λ k. let w = meets_at x (feeders_of t p) k in onward (f w.0 w.1) (link_in t p hp w.0 w.2)) e in
      or_elim (has x v) (has (only (container_of p) ∪ feeds t p) v) (f v)
      (λ k. or_elim (has (only (container_of p)) v) (has (feeds t p) v)
      (λ a. rw (← (eqb-true (container_of p) v (sym (only_has (container_of p) v) ∙ a))) at)
      (λ a. onward at (link_out t p hp v a))
      (sym (union_has (only (container_of p)) _ v) ∙ k))
      (sym (union_has x _ v) ∙ h))
      (λ e h. f v h)

  each_keeps : (n x : ℕ) → Part x (through_each t n x)
  unfolding through_each
  each_keeps zero x i h = h
  each_keeps (suc n) x i h = through_keeps (through_each t n x) n i (each_keeps n x i h)

  -- what going through process p adds to every larger set is there
  each_by : (n x p v : ℕ) → p < n → ((y : ℕ) → Part x y → has (through t y p) v ≡ true) → has (through_each t n x) v ≡ true
  unfolding through_each
  each_by zero x p v h f = absurd (not-suc-le-zero h)
  each_by (suc n) x p v h f = go (ℕ_discrete p n) (λ l. each_by n x p v l f)
    where
      go : Dec (p ≡ n) → (p < n → has (through_each t n x) v ≡ true) → has (through t (through_each t n x) n) v ≡ true
      go (yes e) g = rw e at (f (through_each t n x) (each_keeps n x))
      go (no e) g = through_keeps (through_each t n x) n v (g (omega arith))

  each_leads : (u n : ℕ) → n ≤ 16 → (x : ℕ) → ((v : ℕ) → has x v ≡ true → Reaches t u v) → (v : ℕ) → has (through_each t n x) v ≡ true → Reaches t u v
  unfolding through_each
  each_leads u zero l x f = f
  each_leads u (suc n) l x f = through_leads u n (omega arith) (through_each t n x) (each_leads u n (omega arith) x f)

  closure_keeps : (n x : ℕ) → Part x (closure t n x)
  unfolding closure
  closure_keeps zero x i h = h
  closure_keeps (suc n) x i h =
      choice (λ z. has z i ≡ true) (eqb (through_each t 16 x) x) x _ (λ e. h) (λ e. closure_keeps n (through_each t 16 x) i (each_keeps 16 x i h))

  closure_leads : (u n x : ℕ) → ((v : ℕ) → has x v ≡ true → Reaches t u v) → (v : ℕ) → has (closure t n x) v ≡ true → Reaches t u v
  unfolding closure
  closure_leads u zero x f = f
  closure_leads u (suc n) x f =
      choice (λ z. (v : ℕ) → has z v ≡ true → Reaches t u v) (eqb (through_each t 16 x) x) x _ (λ e. f)
      (λ e. closure_leads u n (through_each t 16 x) (each_leads u 16 (omega arith) x f))

  -- nothing is in the reach but what links lead to
  pub reach_leads : (u v : ℕ) → has (reach t u) v ≡ true → Reaches t u v
  unfolding reach
  reach_leads u v h = closure_leads u _ (only u) (λ w k. rw (← (eqb-true u w (sym (only_has u w) ∙ k))) here) v h

  pub reach_here : (u : ℕ) → has (reach t u) u ≡ true
  unfolding reach
  reach_here u = closure_keeps _ (only u) u (only_has u u ∙ eq-eqb u u refl)

  -- ---- each turn but the last adds a container
  module _ (bound : (p : ℕ) → feeds t p < 2 ^ 64) where
    through_lt : (x p : ℕ) → p < 16 → x < 2 ^ 64 → through t x p < 2 ^ 64
    unfolding through
    through_lt x p hp h =
        choice (λ z. z < 2 ^ 64) (has x (container_of p) || meets x (feeders_of t p)) _ x (λ e. union_lt x _ h (union_lt _ _ (only_lt (container_of p) (omega arith)) (bound p))) (λ e. h)

    each_lt : (n x : ℕ) → n ≤ 16 → x < 2 ^ 64 → through_each t n x < 2 ^ 64
    unfolding through_each
    each_lt zero x l h = h
    each_lt (suc n) x l h = through_lt (through_each t n x) n (omega arith) (each_lt n x (omega arith) h)

    closure_lt : (n x : ℕ) → x < 2 ^ 64 → closure t n x < 2 ^ 64
    unfolding closure
    closure_lt zero x h = h
    closure_lt (suc n) x h =
        choice (λ z. z < 2 ^ 64) (eqb (through_each t 16 x) x) x _ (λ e. h) (λ e. closure_lt n (through_each t 16 x) (each_lt 16 x (omega arith) h))

    pub reach_lt : (u : ℕ) → u < 64 → reach t u < 2 ^ 64
    unfolding reach
    reach_lt u h = closure_lt _ (only u) (only_lt u h)

    settled : (n x : ℕ) → x < 2 ^ 64 → 64 < n + count x → through_each t 16 (closure t n x) ≡ closure t n x
    unfolding closure
    settled zero x h l = absurd (let k : count x ≤ 64 = count_le x h in let z : ⊥ = omega arith in z)
    settled (suc n) x h l =
        choice (λ z. through_each t 16 z ≡ z) (eqb (through_each t 16 x) x) x _ (λ e. eqb-true (through_each t 16 x) x e)
        (λ e. settled n (through_each t 16 x) (each_lt 16 x (omega arith) h)
        (⊎_elim (λ d. absurd (eqb-false (through_each t 16 x) x e (sym d))) (λ m. omega arith)
        (count_part x (through_each t 16 x) h (each_lt 16 x (omega arith) h) (each_keeps 16 x))))

    counted : (u : ℕ) → u < 64 → 0 < count (only u)
    counted u h =
        ⊎_elim (λ e. no_both (only_has u u ∙ eq-eqb u u refl) (ap (λ (x : ℕ). has x u) (sym e) ∙ none_has u)) (λ l. omega arith)
        (count_part 0 (only u) (omega arith) (only_lt u h) (λ i e. no_both e (none_has i)))

    reach_settled : (u : ℕ) → u < 64 → through_each t 16 (reach t u) ≡ reach t u
    unfolding reach
    reach_settled u h = settled _ (only u) (only_lt u h) (let k : 0 < count (only u) = counted u h in omega arith)

    -- the reach goes on along links
    pub reach_onward : (u v w : ℕ) → u < 64 → has (reach t u) v ≡ true → linked t v w ≡ true → has (reach t u) w ≡ true
    reach_onward u v w h a l =
        rw (reach_settled u h) at
        (link_cases t v w
        (λ p hp e k. rw e (each_by 16 (reach t u) p (container_of p) hp (λ y part. through_process y p v (part v a) k)))
        (λ p hp e k. each_by 16 (reach t u) p w hp (λ y part. through_fed y p w (part (container_of p) (rw e at a)) k))
        l)

    leads_reach : (u : ℕ) → u < 64 → {v : ℕ} → Reaches t u v → has (reach t u) v ≡ true
    leads_reach u h here = reach_here u
    leads_reach u h (onward l k) = reach_onward u _ _ h (leads_reach u h l) k

    pub reach_exact : (u v : ℕ) → u < 64 → has (reach t u) v ≡ true ↔ Reaches t u v
    reach_exact u v h = (reach_leads u v, λ l. leads_reach u h l)

    -- a set with u in it, nothing that links don't lead to, and no link that leads out of it, is the reach
    pub is_reach : (u x : ℕ) → u < 64 → x < 2 ^ 64 → has x u ≡ true → ((v : ℕ) → has x v ≡ true → Reaches t u v)
        → ((v w : ℕ) → has x v ≡ true → linked t v w ≡ true → has x w ≡ true) → x ≡ reach t u
    is_reach u x hu hx at only-leads shut =
        set_ext x (reach t u) hx (reach_lt u hu)
        (λ i hi. by (has x i)
        (λ e. e ∙ sym (leads_reach u hu (only-leads i e)))
        (λ e. by (has (reach t u) i) (λ f. no_both (inside (reach_leads u i f)) e) (λ f. e ∙ sym f)))
      where
        inside : {v : ℕ} → Reaches t u v → has x v ≡ true
        inside here = at
        inside (onward l m) = shut _ _ (inside l) m
