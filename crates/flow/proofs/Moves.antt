-- What containers hold after items moved, and that items go along links.
use Prim.Native.Nat.{ℕ, ◌^◌, ◌<◌}
use mathlib.Core.Path.{◌≡◌, refl, sym, ap, ap₂, ◌∙◌}
use mathlib.Core.Logic.{◌⊎◌, ⊎_elim}
use mathlib.Core.Bool.{Bool, true, false, not, ◌&&◌, ◌||◌, or-false}
use mathlib.Core.List.{List}
use lib.Dec.{eqb}
use lib.ListN.{get_or}
use borrow.Author.Tests.{eqb-true, eq-eqb, ne_eqb}
use Rattle.sets.specs.Sets.{has, only, ◌∪◌}
use Rattle.sets.proofs.Members.{union_has, only_has, none_has}
use Rattle.flow.specs.Box.{Tables, State, items_of, holds, feeds}
use Rattle.flow.specs.Links.{linked, reach, given, given_from, used}
use Rattle.flow.specs.MapBoth.{in_sequence}
use Rattle.flow.specs.Calls.{Flow, still, gift, arrival, exchange, copy, clear, moved}
use Rattle.flow.proofs.Bools.{or_elim, or_l, or_r, and_l, and_r, and_i, by, no_both, choice, chosen_l, chosen_r}
use Rattle.flow.proofs.TableLaws.{table_at}
use Rattle.flow.proofs.Reach.{reach_here, reach_onward}

-- container v holds item i, by a list of sets of items
abbrev pub in_list : List ℕ → ℕ → ℕ → Bool
in_list l v i = has (get_or l v 0) i

-- ---- gifts
pub given_at : (l : List ℕ) (r x v : ℕ) → v < 64 → get_or (given l r x) v 0 ≡ elim (has r v) as (λ z. ℕ) [ true ↦ get_or l v 0 ∪ x | false ↦ get_or l v 0 ]
unfolding given
given_at l r x v h = table_at 64 _ v 0 h

added_has : (b : Bool) (x y i : ℕ) → has (elim b as (λ z. ℕ) [ true ↦ x ∪ y | false ↦ x ]) i ≡ (has x i || (b && has y i))
added_has true x y i = union_has x y i
added_has false x y i = sym (or-false (has x i))

pub given_has : (l : List ℕ) (r x v i : ℕ) → v < 64 → in_list (given l r x) v i ≡ (in_list l v i || (has r v && has x i))
given_has l r x v i h = ap (λ (z : ℕ). has z i) (given_at l r x v h) ∙ added_has (has r v) (get_or l v 0) x i

-- what the receiver of a gift then holds
pub receiver_at : (t : Tables) (l : List ℕ) (g u : ℕ) → u < 64 → get_or (given_from t l g u) u 0 ≡ get_or l u 0 ∪ get_or l g 0
receiver_at t l g u h = given_at l (reach t u) (get_or l g 0) u h ∙ chosen_l (has (reach t u) u) _ _ (reach_here t u)

-- it holds all that the giver then holds
receiver_has : (t : Tables) (l : List ℕ) (g u i : ℕ) → g < 64 → u < 64 → in_list (given_from t l g u) g i ≡ true → in_list (given_from t l g u) u i ≡ true
receiver_has t l g u i hg hu h =
    let r : ℕ = reach t u in
    let held : in_list l g i ≡ true =
    or_elim (in_list l g i) (has r g && in_list l g i) (λ e. e) (and_r (has r g) _) (sym (given_has l r (get_or l g 0) g i hg) ∙ h) in
    given_has l r (get_or l g 0) u i hu ∙ or_r (in_list l u i) _ (and_i (has r u) _ (reach_here t u) held)

-- map both in sequence: the second gift is of what b then holds
pub in_sequence_has : (t : Tables) (l : List ℕ) (a b v i : ℕ) → b < 64 → v < 64
    → in_list (in_sequence t l a b) v i ≡ ((in_list l v i || (has (reach t b) v && in_list l a i)) || (has (reach t a) v && (in_list l b i || in_list l a i)))
unfolding in_sequence
in_sequence_has t l a b v i hb hv =
    given_has (given_from t l a b) (reach t a) (get_or (given_from t l a b) b 0) v i hv
    ∙ ap₂ (λ (x y : Bool). x || (has (reach t a) v && y)) (given_has l (reach t b) (get_or l a 0) v i hv) (ap (λ (z : ℕ). has z i) (receiver_at t l a b hb) ∙ union_has (get_or l b 0) (get_or l a 0) i)

-- the container whose items v has after a copy from a to b
unfoldable pub source : ℕ → ℕ → ℕ → ℕ
source a b v = elim (eqb v b) [ true ↦ a | false ↦ v ]

pub source_lt : (a b v : ℕ) → a < 64 → v < 64 → source a b v < 64
unfolding source
source_lt a b v ha hv = choice (λ z. z < 64) (eqb v b) a v (λ e. ha) (λ e. hv)

pub source_copy : (a b v : ℕ) → v ≡ b → source a b v ≡ a
unfolding source
source_copy a b v e = chosen_l (eqb v b) a v (eq-eqb v b e)

pub source_other : (a b v : ℕ) → (v ≡ b → ⊥) → source a b v ≡ v
unfolding source
source_other a b v n = chosen_r (eqb v b) a v (ne_eqb v b n)

-- the items of a state after they moved
abbrev pub moved_in : State → Flow → List ℕ
moved_in s f = moved s.tables s.items f

module _ (s : State) where
  pub copy_at : (a b v : ℕ) → v < 64 → get_or (moved_in s (copy a b)) v 0 ≡ items_of s (source a b v)
  unfolding moved source items_of
  copy_at a b v h = table_at 64 _ v 0 h ∙ choice (λ z. ◌≡◌ {A = ℕ} (elim (eqb v b) as (λ z. ℕ) [ true ↦ items_of s a | false ↦ items_of s v ]) (items_of s z)) (eqb v b) a v (chosen_l (eqb v b) _ _) (chosen_r (eqb v b) _ _)

  pub clear_at : (u v : ℕ) → v < 64 → get_or (moved_in s (clear u)) v 0 ≡ elim (eqb v u) as (λ z. ℕ) [ true ↦ 0 | false ↦ items_of s v ]
  unfolding moved items_of
  clear_at u v h = table_at 64 _ v 0 h

  -- ---- what v holds after each flow
  pub gift_holds : (g u v i : ℕ) → v < 64 → in_list (moved_in s (gift g u)) v i ≡ (holds s v i || (has (reach s.tables u) v && holds s g i))
  unfolding moved holds items_of
  gift_holds g u v i h = given_has s.items (reach s.tables u) (items_of s g) v i h

  pub arrival_holds : (u j v i : ℕ) → v < 64 → in_list (moved_in s (arrival u j)) v i ≡ (holds s v i || (has (reach s.tables u) v && eqb j i))
  unfolding moved holds items_of
  arrival_holds u j v i h = given_has s.items (reach s.tables u) (only j) v i h ∙ ap (λ (b : Bool). holds s v i || (has (reach s.tables u) v && b)) (only_has j i)

  pub exchange_holds : (a b v i : ℕ) → b < 64 → v < 64
      → in_list (moved_in s (exchange a b)) v i ≡ ((holds s v i || (has (reach s.tables b) v && holds s a i)) || (has (reach s.tables a) v && (holds s b i || holds s a i)))
  unfolding moved holds items_of
  exchange_holds = in_sequence_has s.tables s.items

  pub copy_holds : (a b v i : ℕ) → v < 64 → in_list (moved_in s (copy a b)) v i ≡ holds s (source a b v) i
  unfolding holds
  copy_holds a b v i h = ap (λ (x : ℕ). has x i) (copy_at a b v h)

  pub clear_holds : (u v i : ℕ) → v < 64 → in_list (moved_in s (clear u)) v i ≡ (not (eqb v u) && holds s v i)
  unfolding holds
  clear_holds u v i h = ap (λ (x : ℕ). has x i) (clear_at u v h) ∙ cleared (eqb v u)
    where
      cleared : (b : Bool) → has (elim b as (λ z. ℕ) [ true ↦ 0 | false ↦ items_of s v ]) i ≡ (not b && has (items_of s v) i)
      cleared true = none_has i
      cleared false = refl

-- ---- items go along links
abbrev pub Along : Tables → List ℕ → Type 0
Along s l = (u v i : ℕ) → u < 64 → v < 64 → linked s u v ≡ true → in_list l u i ≡ true → in_list l v i ≡ true

-- the links after a change and the ones before, by the flow
unfoldable pub Fit : Tables → Tables → Flow → Type 0
Fit s t still = (x y : ℕ) → linked t x y ≡ true → linked s x y ≡ true
Fit s t (gift g u) =
    (g < 64) × (u < 64) × (used s u ≡ true) × ((x y : ℕ) → linked t x y ≡ true → (linked s x y ≡ true) ⊎ ((x ≡ g) × (y ≡ u)))
Fit s t (arrival u i) = (u < 64) × (i < 64) × (used s u ≡ true) × ((x y : ℕ) → linked t x y ≡ true → linked s x y ≡ true)
Fit s t (exchange a b) =
    (a < 64) × (b < 64) × (used s a ≡ true) × (used s b ≡ true)
    × ((x y : ℕ) → linked t x y ≡ true → (linked s x y ≡ true) ⊎ (((x ≡ a) × (y ≡ b)) ⊎ ((x ≡ b) × (y ≡ a))))
Fit s t (copy a b) =
    (a < 64) × (b < 64) × (used s b ≡ false) × (used t b ≡ true) × ((x y : ℕ) → linked t x y ≡ true → linked s (source a b x) (source a b y) ≡ true)
Fit s t (clear u) = ((x y : ℕ) → linked t x y ≡ true → linked s x y ≡ true) × ((x : ℕ) → linked t x u ≡ false)

module _ (s : State) (bound : (p : ℕ) → feeds s.tables p < 2 ^ 64) where
  -- a gift to a reach
  given_along : (l : List ℕ) (u x : ℕ) → u < 64 → Along s.tables l → Along s.tables (given l (reach s.tables u) x)
  given_along l u x hu k a b i ha hb e h =
      given_has l (reach s.tables u) x b i hb
      ∙ or_elim (in_list l a i) (has (reach s.tables u) a && has x i)
      (λ f. or_l _ _ (k a b i ha hb e f))
      (λ f. or_r (in_list l b i) _ (and_i (has (reach s.tables u) b) _ (reach_onward s.tables bound u a b hu (and_l _ (has x i) f) e) (and_r (has (reach s.tables u) a) _ f)))
      (sym (given_has l (reach s.tables u) x a i ha) ∙ h)

  module _ (t : Tables) (k : Along s.tables s.items) where
    gift_along : (g u : ℕ) → Fit s.tables t (gift g u) → Along t (moved_in s (gift g u))
    unfolding Fit moved items_of holds
    gift_along g u fit a b i ha hb l h =
        ⊎_elim
        (λ e. given_along s.items u (items_of s g) fit.1 k a b i ha hb e h)
        (λ e. rw e.1 (receiver_has s.tables s.items g u i fit.0 fit.1 (rw e.0 at h)))
        (fit.3 a b l)

    -- the second gift is of what b then holds; so b holds what a then holds
    exchange_along : (a b : ℕ) → Fit s.tables t (exchange a b) → Along t (moved_in s (exchange a b))
    unfolding Fit moved in_sequence items_of
    exchange_along a b fit u v i hu hv l h =
        let first : List ℕ = given_from s.tables s.items a b in
        let r : ℕ = reach s.tables a in
        let from-a : in_list (given_from s.tables first b a) a i ≡ true → in_list first b i ≡ true =
        λ e. or_elim (in_list first a i) (has r a && in_list first b i) (receiver_has s.tables s.items a b i fit.0 fit.1) (and_r (has r a) _)
        (sym (given_has first r (get_or first b 0) a i fit.0) ∙ e) in
        ⊎_elim
        (λ e. given_along first a (get_or first b 0) fit.0 (given_along s.items b (items_of s a) fit.1 k) u v i hu hv e h)
        (⊎_elim
        (λ e. rw e.1 (given_has first r (get_or first b 0) b i fit.1 ∙ or_l _ _ (from-a (rw e.0 at h))))
        (λ e. rw e.1 (receiver_has s.tables first b a i fit.1 fit.0 (rw e.0 at h))))
        (fit.4 u v l)

    copy_along : (a b : ℕ) → Fit s.tables t (copy a b) → Along t (moved_in s (copy a b))
    unfolding Fit holds items_of
    copy_along a b fit u v i hu hv l h =
        copy_holds s a b v i hv
        ∙ k (source a b u) (source a b v) i (source_lt a b u fit.0 hu) (source_lt a b v fit.0 hv) (fit.4 u v l) (sym (copy_holds s a b u i hu) ∙ h)

    clear_along : (c : ℕ) → Fit s.tables t (clear c) → Along t (moved_in s (clear c))
    unfolding Fit holds items_of
    clear_along c fit u v i hu hv l h =
        clear_holds s c v i hv
        ∙ and_i (not (eqb v c)) (holds s v i)
        (by (eqb v c) (λ e. no_both (rw (eqb-true v c e) at l) (fit.1 u)) (λ e. ap not e))
        (k u v i hu hv (fit.0 u v l) (and_r (not (eqb u c)) _ (sym (clear_holds s c u i hu) ∙ h)))

    pub moved_along : (f : Flow) → Fit s.tables t f → Along t (moved_in s f)
    unfolding Fit moved
    moved_along still fit = λ u v i hu hv l h. k u v i hu hv (fit u v l) h
    moved_along (gift g u) fit = gift_along g u fit
    moved_along (arrival u i) fit = λ a b j ha hb l h. given_along s.items u (only i) fit.0 k a b j ha hb (fit.3 a b l) h
    moved_along (exchange a b) fit = exchange_along a b fit
    moved_along (copy a b) fit = copy_along a b fit
    moved_along (clear c) fit = clear_along c fit
