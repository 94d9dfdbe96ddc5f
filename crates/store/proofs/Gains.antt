-- Which containers of a set lack an item that they are given: the loops that find them, and two gifts one after the other (02, Paper 5).
use Prim.Native.Nat.{ℕ, ◌%◌, ◌<◌, ◌^◌}
use native.Mathlib.Omega.{arith}
use native.Mathlib.Decide.{ℕ_discrete}
use mathlib.Core.Path.{◌≡◌, refl, sym, ap, ap₂, subst, ◌∙◌}
use mathlib.Core.Bool.{Bool, true, false, not, ◌&&◌, ◌||◌}
use borrow.Author.Tests.{eq-eqb, ne_eqb}
use lib.Dec.{eqb}
use lib.Seq.{set-get_or, get_or-set_same, get_or-set_other}
use mathlib.Core.List.{List}
use lib.ListN.{get_or, length, set, length-set}
use Rattle.sets.specs.Sets.{has, only, without, lowest, ◌∪◌}
use Rattle.sets.proofs.Members.{itself, without_lt, without_at, without_other, without_part, none_has, has_lt, only_has, only_lt, union_has, union_lt, same_set, member}
use Rattle.sets.proofs.Unions.{union_assoc, union_none, none_union}
use Rattle.flow.specs.Links.{given}
use Rattle.flow.specs.Gained.{has_more, gained}
use Rattle.flow.proofs.Bools.{by, no_both, or_elim, or_l, or_r, same, chosen_l, chosen_r}
use Rattle.flow.proofs.TableLaws.{table_at, is_table}
use Rattle.flow.proofs.Moves.{in_list, given_at, given_has}
use Rattle.flow.proofs.GainLaws.{more_none, more_some, some_more, gained_at, gained_lt, gained_is}
use Rattle.store.specs.declared.Plan.{Plan}
use Rattle.store.specs.Maps.{cleared, items_by, replacing}
use Rattle.store.proofs.Worklist.{cleared_none}

-- ---- one container
union_self : (y : ℕ) → y ∪ y ≡ y
union_self y = same_set (y ∪ y) y (λ i. union_has y y i ∙ twice (has y i))
  where
    twice : (b : Bool) → (b || b) ≡ b
    twice true = refl
    twice false = refl

more_union : (y x : ℕ) → has_more y (y ∪ x) ≡ has_more y x
unfolding has_more
more_union y x = rw (sym (union_assoc y y x) ∙ ap (λ (z : ℕ). z ∪ x) (union_self y)) refl

more_self : (y : ℕ) → has_more y y ≡ false
more_self y = more_none y y (λ i h. h)

pub more_given : (l : List ℕ) (r x c : ℕ) → c < 64 → has_more (get_or l c 0) (get_or (given l r x) c 0) ≡ (has r c && has_more (get_or l c 0) x)
more_given l r x c h = ap (has_more (get_or l c 0)) (given_at l r x c h) ∙ cases (has r c)
  where
    cases : (b : Bool) → has_more (get_or l c 0) (elim b as (λ z. ℕ) [ true ↦ get_or l c 0 ∪ x | false ↦ get_or l c 0 ]) ≡ (b && has_more (get_or l c 0) x)
    cases true = more_union (get_or l c 0) x
    cases false = more_self (get_or l c 0)

-- a gift to one container, where it lacks nothing and where it lacks something
pub give_same : (l : List ℕ) (i x : ℕ) → get_or l i 0 ∪ x ≡ get_or l i 0 → (l ≡ set l i (get_or l i 0 ∪ x)) × (false ≡ has_more (get_or l i 0) x)
unfolding has_more
give_same l i x e = (sym (ap (set l i) e ∙ set-get_or l i 0), sym (ap not (eq-eqb _ _ e)))

pub give_more : (y x : ℕ) → (y ∪ x ≡ y → ⊥) → true ≡ has_more y x
unfolding has_more
give_more y x e = sym (ap not (ne_eqb _ _ e))

-- the others stay
set_others : (l l' : List ℕ) (i v n : ℕ) → l' ≡ set l i n → i ≡ v → (c : ℕ) → (c ≡ v → ⊥) → get_or l' c 0 ≡ get_or l c 0
set_others l l' i v n e k c d = rw e (get_or-set_other l i c n 0 (λ z. d (z ∙ k)))

-- the set x where i is to stay in it, else x without i
unfoldable pub keep_if : Bool → ℕ → ℕ → ℕ
keep_if stays x i = elim stays [ true ↦ x | false ↦ without x i ]

pub keep_drops : (b : Bool) (x i : ℕ) → not b ≡ true → without x i ≡ keep_if b x i
unfolding keep_if
keep_drops true x i e = no_both e refl
keep_drops false x i e = refl

pub keep_stays : (b : Bool) (x i : ℕ) → not b ≡ false → x ≡ keep_if b x i
unfolding keep_if
keep_stays true x i e = refl
keep_stays false x i e = no_both refl e

-- ---- the loop: of those that are not left, `lacked` has those of r that lacked one of the items x
pub record Lacking (x : ℕ) (items₀ : List ℕ) (r : ℕ) (items : List ℕ) (left lacked : ℕ) : Type 0 where
  pub small : lacked < 2 ^ 64
  pub part : (c : ℕ) → has left c ≡ true → has r c ≡ true
  pub untouched : (c : ℕ) → has left c ≡ true → get_or items c 0 ≡ get_or items₀ c 0
  pub told : (c : ℕ) → c < 64 → has lacked c ≡ elim (has left c) as (λ z. Bool) [ true ↦ true | false ↦ has r c && has_more (get_or items₀ c 0) x ]

module _ {x : ℕ} {items₀ : List ℕ} {r : ℕ} {items : List ℕ} {left lacked : ℕ} (w : Lacking x items₀ r items left lacked) where
  module _ (less : left < 2 ^ 64) (more : left ≡ 0 → ⊥) (v : ℕ) (is : v ≡ lowest left) (items' : List ℕ) (others : (c : ℕ) → (c ≡ v → ⊥) → get_or items' c 0 ≡ get_or items c 0)
      (lacks : Bool) (is-lacks : lacks ≡ has_more (get_or items (v % 64) 0) x) (lacked' : ℕ) (is-lacked : lacked' ≡ keep_if lacks lacked (v % 64)) (later : ℕ) (is_later : later ≡ without left (lowest left)) where
    k : v % 64 ≡ v
    k = itself left less more v is

    m : has left v ≡ true
    m = member left less more v is

    after : later ≡ without left v
    after = is_later ∙ ap (without left) (sym is)

    later_lacked : lacked' ≡ keep_if lacks lacked v
    later_lacked = is-lacked ∙ ap (keep_if lacks lacked) k

    own : lacks ≡ has_more (get_or items₀ v 0) x
    own = is-lacks ∙ ap (λ (n : ℕ). has_more (get_or items n 0) x) k ∙ ap (λ (y : ℕ). has_more y x) (w.untouched v m)

    kept_small : (b : Bool) → keep_if b lacked v < 2 ^ 64
    unfolding keep_if
    kept_small true = w.small
    kept_small false = without_lt lacked v

    kept_other : (b : Bool) (c : ℕ) → c < 64 → (c ≡ v → ⊥) → has (keep_if b lacked v) c ≡ has lacked c
    unfolding keep_if
    kept_other true c h d = refl
    kept_other false c h d = without_other lacked v c h d

    kept_own : (b : Bool) (c : ℕ) → c < 64 → c ≡ v → has (keep_if b lacked v) c ≡ b
    unfolding keep_if
    kept_own true c h d = w.told c h ∙ chosen_l (has left c) true _ (ap (has left) d ∙ m)
    kept_own false c h d = without_at lacked v c h d

    other : (c : ℕ) → has later c ≡ true → c < 64 → c ≡ v → ⊥
    other c e h d = no_both e (ap (λ (z : ℕ). has z c) after ∙ without_at left v c h d)

    still_left : (c : ℕ) → has later c ≡ true → has left c ≡ true
    still_left c e = without_part left v c (sym (ap (λ (z : ℕ). has z c) after) ∙ e)

    told_now : (c : ℕ) → c < 64 → Dec (c ≡ v) → has lacked' c ≡ elim (has later c) as (λ z. Bool) [ true ↦ true | false ↦ has r c && has_more (get_or items₀ c 0) x ]
    told_now c h (yes d) =
        ap (λ (z : ℕ). has z c) later_lacked ∙ kept_own lacks c h d ∙ own ∙ ap (λ (z : ℕ). has_more (get_or items₀ z 0) x) (sym d)
        ∙ sym (chosen_r (has later c) true _ (ap (λ (z : ℕ). has z c) after ∙ without_at left v c h d) ∙ ap (λ (b : Bool). b && has_more (get_or items₀ c 0) x) (w.part c (ap (has left) d ∙ m)))
    told_now c h (no d) =
        ap (λ (z : ℕ). has z c) later_lacked ∙ kept_other lacks c h d ∙ w.told c h
        ∙ ap (λ (b : Bool). elim b as (λ z. Bool) [ true ↦ true | false ↦ has r c && has_more (get_or items₀ c 0) x ]) (sym (ap (λ (z : ℕ). has z c) after ∙ without_other left v c h d))

    pub lacking_more : Lacking x items₀ r items' later lacked'
    lacking_more =
        record {
          small = subst (λ (n : ℕ). n < 2 ^ 64) (sym later_lacked) (kept_small lacks);
          part = λ c e. w.part c (still_left c e);
          untouched = λ c e. others c (other c e (left_below c e)) ∙ w.untouched c (still_left c e);
          told = λ c h. told_now c h (ℕ_discrete c v);
        }
      where
        left_below : (c : ℕ) → has later c ≡ true → c < 64
        left_below c e = has_lt left c less (still_left c e)

  -- where the container is given the items
  pub lacking_given : (left < 2 ^ 64) → (left ≡ 0 → ⊥) → (v : ℕ) → v ≡ lowest left → (items' : List ℕ)
      → (let y = get_or items (v % 64) 0 in items' ≡ set items (v % 64) (y ∪ x) → (lacks : Bool) → lacks ≡ has_more y x → (lacked' : ℕ) → lacked' ≡ keep_if lacks lacked (v % 64) → (later : ℕ) → later ≡ without left (lowest left)
      → Lacking x items₀ r items' later lacked')
  lacking_given less more v is items' e lacks f lacked' g later h =
      lacking_more less more v is items' (set_others items items' (v % 64) v (get_or items (v % 64) 0 ∪ x) e (itself left less more v is)) lacks f lacked' g later h

  pub lacking_end : left ≡ 0 → lacked ≡ gained items₀ (given items₀ r x)
  lacking_end e =
      gained_is items₀ (given items₀ r x) lacked w.small
      (λ c h. w.told c h ∙ chosen_r (has left c) true _ (ap (λ (z : ℕ). has z c) e ∙ none_has c) ∙ sym (more_given items₀ r x c h))

-- ---- nothing is given
pub given_nothing : (l : List ℕ) (r : ℕ) → length l ≡ 64 → l ≡ given l r 0
unfolding given
given_nothing l r e = is_table 64 _ l e (λ c h. cases (has r c) (get_or l c 0))
  where
    cases : (b : Bool) (y : ℕ) → ◌≡◌ {A = ℕ} y (elim b as (λ z. ℕ) [ true ↦ y ∪ 0 | false ↦ y ])
    cases true y = sym (union_none y)
    cases false y = refl

pub nothing_gained : (l : List ℕ) (r : ℕ) → 0 ≡ gained l (given l r 0)
nothing_gained l r =
    gained_is l (given l r 0) 0 (omega arith) (λ c h. none_has c ∙ sym (more_given l r 0 c h ∙ ap (λ (b : Bool). has r c && b) (more_none (get_or l c 0) 0 (λ i e. no_both e (none_has i))) ∙ none_of (has r c)))
  where
    none_of : (b : Bool) → (b && false) ≡ false
    none_of true = refl
    none_of false = refl

-- ---- two gifts
-- through what lies between
more_between : (b m a : ℕ) → ((i : ℕ) → has b i ≡ true → has m i ≡ true) → ((i : ℕ) → has m i ≡ true → has a i ≡ true) → (has_more b m || has_more m a) ≡ has_more b a
more_between b m a p q =
    same _ _
    (or_elim (has_more b m) (has_more m a)
    (λ e. let z = some_more b m e in more_some b a z.0 (q z.0 z.1) z.2)
    (λ e. let z = some_more m a e in more_some b a z.0 z.1 (by (has b z.0) (λ h. no_both (p z.0 h) z.2) (λ h. h))))
    (λ e. let z = some_more b a e in by (has m z.0) (λ h. or_l (has_more b m) _ (more_some b m z.0 h z.2)) (λ h. or_r (has_more b m) _ (more_some m a z.0 z.1 h)))

given_keeps : (l : List ℕ) (r x c i : ℕ) → c < 64 → in_list l c i ≡ true → in_list (given l r x) c i ≡ true
given_keeps l r x c i h e = given_has l r x c i h ∙ or_l (in_list l c i) _ e

pub gained_join : (l : List ℕ) (r x r2 y : ℕ) → (let m = given l r x in gained l m ∪ gained m (given m r2 y) ≡ gained l (given m r2 y))
gained_join l r x r2 y =
    let m : List ℕ = given l r x in
    let a : List ℕ = given m r2 y in
    gained_is l a (gained l m ∪ gained m a) (union_lt _ _ (gained_lt l m) (gained_lt m a))
    (λ c h. union_has (gained l m) (gained m a) c ∙ ap₂ (λ (p q : Bool). p || q) (gained_at l m c h) (gained_at m a c h)
    ∙ more_between (get_or l c 0) (get_or m c 0) (get_or a c 0) (λ i. given_keeps l r x c i h) (λ i. given_keeps m r2 y c i h))

pub gained_both : (l m a : List ℕ) (p : Plan) (f s : ℕ) → length l ≡ 64 → p.empty ≡ 0 → m ≡ given l p.to p.given → a ≡ given m p.to2 p.given2
    → f ≡ gained l (given l p.to p.given) → s ≡ gained m (given m p.to2 p.given2) → (a ≡ items_by l p) × (f ∪ s ≡ gained l (items_by l p))
unfolding items_by
gained_both l m a p f s n z e₁ e₂ f₁ f₂ =
    let still : cleared l p.empty ≡ l = ap (cleared l) z ∙ sym (cleared_none l n) in
    let whole : items_by l p ≡ given (given l p.to p.given) p.to2 p.given2 = ap (λ (x : List ℕ). given (given x p.to p.given) p.to2 p.given2) still in
    let mid : given m p.to2 p.given2 ≡ given (given l p.to p.given) p.to2 p.given2 = ap (λ (x : List ℕ). given x p.to2 p.given2) e₁ in (
      e₂ ∙ mid ∙ sym whole,
      ap₂ (λ (x y : ℕ). x ∪ y) f₁ (f₂ ∙ ap (λ (x : List ℕ). gained x (given x p.to2 p.given2)) e₁) ∙ gained_join l p.to p.given p.to2 p.given2 ∙ ap (gained l) (sym whole),
    )

-- ---- one container is emptied and given the items x
pub replaced : (l : List ℕ) (v x : ℕ) → length l ≡ 64 → v < 64 → set l v x ≡ items_by l (replacing v x)
unfolding items_by given cleared
replaced l v x e h = is_table 64 _ (set l v x) (length-set l v x ∙ e) (λ c k. at c k (ℕ_discrete c v) ∙ sym (second c k))
  where
    emptied : List ℕ
    emptied = cleared l (only v)

    after : List ℕ
    after = given emptied (only v) x

    -- the second gift is none
    second : (c : ℕ) → c < 64 → elim (has 0 c) as (λ z. ℕ) [ true ↦ get_or after c 0 ∪ 0 | false ↦ get_or after c 0 ] ≡ get_or after c 0
    second c k = chosen_r (has 0 c) _ _ (none_has c)

    own : (c : ℕ) → c ≡ v → has (only v) c ≡ true
    own c d = only_has v c ∙ eq-eqb v c (sym d)

    other : (c : ℕ) → (c ≡ v → ⊥) → has (only v) c ≡ false
    other c d = only_has v c ∙ ne_eqb v c (λ z. d (sym z))

    at : (c : ℕ) → c < 64 → Dec (c ≡ v) → get_or (set l v x) c 0 ≡ get_or after c 0
    at c k (yes d) =
        rw d (get_or-set_same l v x 0 (omega arith)) ∙ sym (given_at emptied (only v) x c k ∙ chosen_l (has (only v) c) _ _ (own c d) ∙ ap (λ (y : ℕ). y ∪ x) (table_at 64 _ c 0 k ∙ chosen_l (has (only v) c) _ _ (own c d)) ∙ none_union x)
    at c k (no d) =
        get_or-set_other l v c x 0 d ∙ sym (given_at emptied (only v) x c k ∙ chosen_r (has (only v) c) _ _ (other c d) ∙ table_at 64 _ c 0 k ∙ chosen_r (has (only v) c) _ _ (other c d))

module _ (l : List ℕ) (v x : ℕ) (e : length l ≡ 64) (h : v < 64) where
  others_same : (c : ℕ) → (c ≡ v → ⊥) → has_more (get_or l c 0) (get_or (set l v x) c 0) ≡ false
  others_same c d = ap (has_more (get_or l c 0)) (get_or-set_other l v c x 0 d) ∙ more_self (get_or l c 0)

  own_more : (c : ℕ) → c ≡ v → has_more (get_or l c 0) (get_or (set l v x) c 0) ≡ has_more (get_or l v 0) x
  own_more c d = rw d (ap (has_more (get_or l v 0)) (get_or-set_same l v x 0 (omega arith)))

  -- it lacked nothing, or something
  pub replaced_same : get_or l v 0 ∪ x ≡ get_or l v 0 → 0 ≡ gained l (set l v x)
  replaced_same z = gained_is l (set l v x) 0 (omega arith) (λ c k. none_has c ∙ sym (cases c (ℕ_discrete c v)))
    where
      cases : (c : ℕ) → Dec (c ≡ v) → has_more (get_or l c 0) (get_or (set l v x) c 0) ≡ false
      cases c (yes d) = own_more c d ∙ sym (give_same l v x z).1
      cases c (no d) = others_same c d

  pub replaced_more : (get_or l v 0 ∪ x ≡ get_or l v 0 → ⊥) → (g : ℕ) → g ≡ 0 ∪ only v → g ≡ gained l (set l v x)
  replaced_more z g s = s ∙ none_union (only v) ∙ gained_is l (set l v x) (only v) (only_lt v h) (λ c k. only_has v c ∙ cases c (ℕ_discrete c v))
    where
      cases : (c : ℕ) → Dec (c ≡ v) → eqb v c ≡ has_more (get_or l c 0) (get_or (set l v x) c 0)
      cases c (yes d) = eq-eqb v c (sym d) ∙ give_more (get_or l v 0) x z ∙ sym (own_more c d)
      cases c (no d) = ne_eqb v c (λ q. d (sym q)) ∙ sym (others_same c d)
