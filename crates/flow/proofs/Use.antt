-- What is in use, and that everything linked is.
use Prim.Native.Nat.{ℕ, ◌-◌, ◌≤◌, ◌<◌}
use native.Mathlib.Omega.{arith}
use mathlib.Core.Path.{◌≡◌, sym, ap, ◌∙◌}
use mathlib.Core.Logic.{◌⊎◌, inl, inr}
use mathlib.Core.Bool.{Bool, true, false, ◌&&◌, ◌||◌, and-false}
use lib.Dec.{ltb, leb}
use borrow.Author.Tests.{ltb-false, leb-true, leb-false, le-ltb, lt-ltb, le-leb}
use Rattle.sets.specs.Sets.{has}
use Rattle.flow.specs.Lists.{is_in}
use Rattle.flow.specs.Box.{is_device, is_process, is_file, container_of, is_target, closed, slot, Tables, is_live, row_of, feeders_of, feeds, descriptor}
use Rattle.flow.specs.Links.{linked, Reaches, here, onward, reach, mapped, used}
use Rattle.flow.proofs.Bools.{or_elim, or_l, or_r, and_l, and_i, by, no_both, chosen_l, chosen_r}
use Rattle.flow.proofs.TableLaws.{some_of_lem, is_in_lem}
use Rattle.flow.proofs.Reach.{process_range, is_process_lem, container_process, container_number, link_cases, reach_leads}
use Rattle.flow.proofs.Rows.{target_lt, target_not, Row, Rows, row_of_lem, row_union}

module _ (t : Tables) where
  abbrev pub held : ℕ → Bool
  held c = is_in c t.names || is_in c t.descriptors || mapped t c

  -- by the kind of container
  pub used_device : (c : ℕ) → is_device c ≡ true → used t c ≡ true
  unfolding used
  used_device c d = chosen_l (is_device c) true _ d

  pub used_live : (c : ℕ) → is_device c ≡ false → is_process c ≡ true → used t c ≡ has t.live (c - 8)
  unfolding used is_live
  used_live c d q = chosen_r (is_device c) true _ d ∙ chosen_l (is_process c) (has t.live (c - 8)) (held c) q

  pub used_file : (c : ℕ) → is_device c ≡ false → is_process c ≡ false → used t c ≡ held c
  unfolding used is_live
  used_file c d q = chosen_r (is_device c) true _ d ∙ chosen_r (is_process c) (has t.live (c - 8)) (held c) q

  pub used_cases : (c : ℕ) {P : Type 0} → (is_device c ≡ true → P) → (is_device c ≡ false → is_process c ≡ true → has t.live (c - 8) ≡ true → P)
      → (is_device c ≡ false → is_process c ≡ false → held c ≡ true → P) → used t c ≡ true → P
  used_cases c f g h e =
      by (is_device c) f (λ d. by (is_process c) (λ q. g d q (sym (used_live c d q) ∙ e)) (λ q. h d q (sym (used_file c d q) ∙ e)))

  -- the same by numbers
  pub used_number : (c : ℕ) → 8 ≤ c → c < 24 → used t c ≡ has t.live (c - 8)
  unfolding is_device
  used_number c l h = used_live c (le-ltb c 8 l) (is_process_lem c l h)

  pub used_held : (c : ℕ) → 24 ≤ c → used t c ≡ held c
  unfolding is_device is_process
  used_held c h = used_file c (le-ltb c 8 (omega arith)) (rw (le-ltb c 24 h, and-false))

  pub used_process : (p : ℕ) → p < 16 → used t (container_of p) ≡ has t.live p
  used_process p h = used_number (container_of p) (omega arith) (omega arith) ∙ ap (has t.live) (container_number p)

  -- a device is in use, and a file or pipe that something leads to or from
  pub used_target : (c : ℕ) → is_target c ≡ true → (24 ≤ c → held c ≡ true) → used t c ≡ true
  unfolding used is_target is_device is_file is_live
  used_target c l h =
      by (ltb c 8)
      (λ e. used_device c e)
      (λ e. let m : 8 ≤ c = ltb-false c 8 e in
      let f : is_process c ≡ false = by (is_process c) (λ q. absurd (target_not c l m (process_range c q).1)) (λ q. q) in
      used_file c e f ∙ h (by (leb 24 c) (λ q. leb-true 24 c q) (λ q. no_both (or_elim (ltb c 8) (leb 24 c && ltb c 64) (λ a. no_both a e) (and_l (leb 24 c) _) l) q)))

  pub used_mapped : (p c : ℕ) → p < 16 → is_target c ≡ true → (has (feeders_of t p) c || has (feeds t p) c) ≡ true → used t c ≡ true
  unfolding mapped
  used_mapped p c hp l h = used_target c l (λ m. or_r (is_in c t.names || is_in c t.descriptors) _ (some_of_lem 16 _ p hp h))

  -- what an open descriptor leads to is in use
  pub used_open : (p d : ℕ) → is_target (descriptor t p d) ≡ true → used t (descriptor t p d) ≡ true
  unfolding descriptor
  used_open p d l =
      let e : ℕ = descriptor t p d in
      used_target e l
      (λ m. or_l _ (mapped t e) (or_r (is_in e t.names) _ (is_in_lem t.descriptors (slot p d) closed (λ q. absurd (let k : e < 64 = target_lt e l in let z : ⊥ = omega (arith, q) in z)))))

  -- ---- links join what is in use
  module _ (reads : Rows t.live t.reads) (boths : Rows t.live t.boths) where
    pub fed_row : (p : ℕ) → Row t.live p (feeds t p)
    unfolding feeds row_of
    fed_row p = row_of_lem (boths.row p)

    pub feeder_row : (p : ℕ) → Row t.live p (feeders_of t p)
    unfolding feeders_of feeds row_of
    feeder_row p = row_union (row_of_lem (reads.row p)) (fed_row p)

    pub linked_used : (u v : ℕ) → linked t u v ≡ true → (used t u ≡ true) × (used t v ≡ true)
    linked_used u v l =
        link_cases t u v
        (λ p hp e k. (used_mapped p u hp ((feeder_row p).maps u k) (or_l _ _ k), rw e (used_process p hp ∙ (feeder_row p).lives u k)))
        (λ p hp e k. (rw e (used_process p hp ∙ (fed_row p).lives v k), used_mapped p v hp ((fed_row p).maps v k) (or_r (has (feeders_of t p) v) _ k)))
        l

    pub linked_joins : (u v : ℕ) → linked t u v ≡ true → ((is_target u ≡ true) × (is_process v ≡ true)) ⊎ ((is_process u ≡ true) × (is_target v ≡ true))
    linked_joins u v l =
        link_cases t u v
        (λ p hp e k. inl ((feeder_row p).maps u k, rw e (container_process p hp)))
        (λ p hp e k. inr (rw e (container_process p hp), (fed_row p).maps v k))
        l

    leads_used : {u v : ℕ} → used t u ≡ true → Reaches t u v → used t v ≡ true
    leads_used h here = h
    leads_used h (onward l k) = (linked_used _ _ k).1

    pub reach_used : (u v : ℕ) → used t u ≡ true → has (reach t u) v ≡ true → used t v ≡ true
    reach_used u v h k = leads_used h (reach_leads t u v k)

-- ---- what keeps a container in use
-- what neither a process is nor a device is a file or pipe
pub is_file_lem : (c : ℕ) → c < 64 → is_device c ≡ false → is_process c ≡ false → is_file c ≡ true
unfolding is_device is_process is_file
is_file_lem c h d q =
    let l : 8 ≤ c = ltb-false c 8 d in
    and_i (leb 24 c) (ltb c 64)
    (by (leb 24 c) (λ e. e) (λ e. no_both (and_i (leb 8 c) (ltb c 24) (le-leb 8 c l) (lt-ltb c 24 (let m : c < 24 = leb-false 24 c e in m))) q))
    (lt-ltb c 64 h)

-- each way in which a container below 64 is in use is kept
pub used_kept : (s t : Tables) (c : ℕ) → c < 64 → (is_process c ≡ true → has s.live (c - 8) ≡ true → has t.live (c - 8) ≡ true)
    → (is_file c ≡ true → is_in c s.names ≡ true → is_in c t.names ≡ true) → (is_file c ≡ true → is_in c s.descriptors ≡ true → is_in c t.descriptors ≡ true)
    → (is_file c ≡ true → mapped s c ≡ true → mapped t c ≡ true) → used s c ≡ true → used t c ≡ true
used_kept s t c h f g k m =
    used_cases s c (used_device t c) (λ d q e. used_live t c d q ∙ f q e)
    (λ d q e. let i : is_file c ≡ true = is_file_lem c h d q in
    used_file t c d q
    ∙ or_elim (is_in c s.names || is_in c s.descriptors) (mapped s c)
    (or_elim (is_in c s.names) (is_in c s.descriptors)
    (λ a. or_l _ (mapped t c) (or_l _ (is_in c t.descriptors) (g i a)))
    (λ a. or_l _ (mapped t c) (or_r (is_in c t.names) _ (k i a))))
    (λ a. or_r (is_in c t.names || is_in c t.descriptors) _ (m i a))
    e)
