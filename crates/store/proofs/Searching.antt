-- The search for the reach: each process is gone through once.
use Prim.Native.Nat.{ℕ, ◌-◌, ◌/◌, ◌%◌, ◌^◌, ◌≤◌, ◌<◌}
use native.Mathlib.Omega.{arith}
use native.Mathlib.Nat.{mod-eq_of_lt}
use native.Mathlib.Decide.{ℕ_discrete, dec_le}
use mathlib.Core.Path.{◌≡◌, refl, sym, ap, ◌∙◌}
use mathlib.Core.Bool.{Bool, true, false, ◌&&◌}
use mathlib.Core.List.{List}
use lib.Dec.{eqb, ltb}
use lib.ListN.{get_or, length}
use lib.Pow.{shr-shr}
use borrow.Author.Tests.{lt-ltb, eqb-true, eq-eqb}
use Rattle.std.specs.Prelude.{Option, Some, None}
use Rattle.sets.specs.Sets.{has, only, bit, those_from, those, without, ◌∪◌, ◌∩◌, count, lowest, union_of}
use Rattle.sets.proofs.Members.{union_has, inter_has, inter_lt, inter_le, only_has, none_has, those_has, without_le, without_part, without_other, union_lt, only_lt, has_below, count_less, member, turn_below}
use Rattle.sets.proofs.Unions.{none_union, union_of_part}
use Rattle.flow.specs.Box.{container_of, Tables, feeders_of, feeds}
use Rattle.flow.specs.Links.{linked, Reaches, here, onward, reach}
use Rattle.flow.proofs.Bools.{or_elim, or_l, or_r, and_l, and_r, and_i, by, no_both, or_false_l, or_false_r, or_false_i, and_false_l}
use Rattle.flow.proofs.Reach.{link_cases, link_in, link_out, is_reach}
use Rattle.flow.proofs.Meets.{meets_of, meets_at}
use Rattle.store.specs.Maps.{part}
use Rattle.store.specs.Search.{fed_from, comes_next, low_half, high_half, Within, Finds}
use Rattle.store.proofs.Parts.{part_at, part_length}

-- ---- members
in-l : (x y i : ℕ) → has x i ≡ true → has (x ∪ y) i ≡ true
in-l x y i h = union_has x y i ∙ or_l _ _ h

in-r : (x y i : ℕ) → has y i ≡ true → has (x ∪ y) i ≡ true
in-r x y i h = union_has x y i ∙ or_r (has x i) _ h

in_one : (i : ℕ) → has (only i) i ≡ true
in_one i = only_has i i ∙ eq-eqb i i refl

in_cases : (x y i : ℕ) {P : Type 0} → (has x i ≡ true → P) → (has y i ≡ true → P) → has (x ∪ y) i ≡ true → P
in_cases x y i f g h = or_elim (has x i) (has y i) f g (sym (union_has x y i) ∙ h)

no_common : (x y i : ℕ) {P : Type 0} → x ∩ y ≡ 0 → has x i ≡ true → has y i ≡ true → P
no_common x y i e h k = no_both (inter_has x y i ∙ and_i (has x i) _ h k) (ap (λ (z : ℕ). has z i) e ∙ none_has i)

-- ---- the first process of a set that f holds of: todo is what is left to try
pub record Seek (f : ℕ → Bool) (left todo : ℕ) : Type 0 where
  pub small : todo < 65536
  pub part : (p : ℕ) → has todo p ≡ true → has left p ≡ true
  pub rest : (p : ℕ) → has left p ≡ true → has todo p ≡ false → f p ≡ false

pub seek_start : (f : ℕ → Bool) (left : ℕ) → left < 65536 → Seek f left left
seek_start f left h = record { small = h; part = λ p m. m; rest = λ p m n. no_both m n }

pub seek_end : {f : ℕ → Bool} {left todo : ℕ} → Seek f left todo → todo ≡ 0 → Finds f left None
seek_end s e = λ p m. s.rest p m (ap (λ (x : ℕ). has x p) e ∙ none_has p)

module _ {f : ℕ → Bool} {left todo : ℕ} (s : Seek f left todo) (more : todo ≡ 0 → ⊥) (p : ℕ) (is : p ≡ lowest todo) where
  tried : has todo p ≡ true
  tried = member todo (omega (arith, s.small)) more p is

  pub seek_below : p < 16
  seek_below = has_below 16 todo p s.small tried

  pub seek_hit : f p ≡ true → Finds f left (Some p)
  seek_hit e = (s.part p tried, e)

  pub seek_miss : f p ≡ false → (later : ℕ) → later ≡ without todo (lowest todo) → Seek f left later
  seek_miss e later g =
      rw (g ∙ ap (without todo) (sym is))
      (record {
        small = omega (arith, without_le todo p (omega (arith, s.small)) wide, s.small);
        part = λ q m. s.part q (without_part todo p q m);
        rest = λ q m n. go q m n (ℕ_discrete q p);
      })
    where
      wide : p < 64
      wide = omega (arith, seek_below)

      go : (q : ℕ) → has left q ≡ true → has (without todo p) q ≡ false → Dec (q ≡ p) → f q ≡ false
      go q m n (yes d) = rw d e
      go q m n (no d) = by (has todo q) (λ k. no_both (without_other todo p q (omega (arith, has_below 16 todo q s.small k)) d ∙ k) n) (λ k. s.rest q m k)

-- ---- half by half
-- nothing in the set x feeds a process of the set left
pub calm_none : (rows : List ℕ) (x left all : ℕ) → Within rows left all → x ∩ all ≡ 0 → Finds (fed_from rows x) left None
calm_none rows x left all w calm = λ p m. by (fed_from rows x p) (λ k. meeting p m (meets_at x _ k)) (λ k. k)
  where
    meeting : (p : ℕ) → has left p ≡ true → (i : ℕ) × (has x i ≡ true) × (has (get_or rows p 0) i ≡ true) → fed_from rows x p ≡ false
    meeting p m z = no_common x all z.0 calm z.1 (w p m z.0 z.2)

-- all processes
sixteen : 65535 ≡ those (λ p. ltb p 16)
unfolding those those_from bit
sixteen = refl

pub sixteen_has : (p : ℕ) → p < 16 → has 65535 p ≡ true
sixteen_has p h = ap (λ (x : ℕ). has x p) sixteen ∙ those_has (λ p. ltb p 16) p (omega arith) ∙ lt-ltb p 16 h

eight : low_half ≡ those (λ p. ltb p 8)
unfolding those those_from bit
eight = refl

low_has : (p : ℕ) → p < 8 → has low_half p ≡ true
low_has p h = ap (λ (x : ℕ). has x p) eight ∙ those_has (λ p. ltb p 8) p (omega arith) ∙ lt-ltb p 8 h

both_halves : low_half ∪ high_half ≡ 65535
unfolding ◌∪◌
both_halves = refl

no_half : low_half ∩ high_half ≡ 0
unfolding ◌∩◌
no_half = refl

in_half : (p : ℕ) {P : Type 0} → p < 16 → (has low_half p ≡ true → P) → (has high_half p ≡ true → P) → P
in_half p h f g = in_cases low_half high_half p f g (ap (λ (x : ℕ). has x p) both_halves ∙ sixteen_has p h)

-- part of a set
within_part : (rows : List ℕ) (left half all : ℕ) → Within rows half all → Within rows (left ∩ half) all
within_part rows left half all w p m = w p (and_r (has left p) _ (sym (inter_has left half p) ∙ m))

pub half_none : (rows : List ℕ) (x left half all : ℕ) → Within rows half all → x ∩ all ≡ 0 → Finds (fed_from rows x) (left ∩ half) None
half_none rows x left half all w calm = calm_none rows x (left ∩ half) all (within_part rows left half all w) calm

pub half_lt : (left half : ℕ) → left < 65536 → (left ∩ half) < 65536
half_lt left half h = omega (arith, inter_le left half)

module _ (rows : List ℕ) (left : ℕ) (small : left < 65536) where
  pub within_both : (low high : ℕ) → Within rows low_half low → Within rows high_half high → Within rows left (low ∪ high)
  within_both low high l r p m i k = in_half p (has_below 16 left p small m) (λ h. in-l low high i (l p h i k)) (λ h. in-r low high i (r p h i k))

  in_inter : (half p : ℕ) → has left p ≡ true → has half p ≡ true → has (left ∩ half) p ≡ true
  in_inter half p m h = inter_has left half p ∙ and_i (has left p) _ m h

  -- one of the low half, or else what is found in the high half
  pub found_low : (x p : ℕ) → Finds (fed_from rows x) (left ∩ low_half) (Some p) → Finds (fed_from rows x) left (Some p)
  found_low x p w = (and_l _ (has low_half p) (sym (inter_has left low_half p) ∙ w.0), w.1)

  pub found_high : (x : ℕ) (r : Option ℕ) → Finds (fed_from rows x) (left ∩ low_half) None → Finds (fed_from rows x) (left ∩ high_half) r → Finds (fed_from rows x) left r
  found_high x (Some p) l w = (and_l _ (has high_half p) (sym (inter_has left high_half p) ∙ w.0), w.1)
  found_high x None l w = λ k m. in_half k (has_below 16 left k small m) (λ h. l k (in_inter low_half k m h)) (λ h. w k (in_inter high_half k m h))

-- what the rows of a half map, as they lie in the words
pub within_low : (w : List ℕ) (all : ℕ) → length w ≡ 353 → all ≡ union_of (part 65 8 w) → Within (part 65 16 w) low_half all
within_low w all long e p m i k =
    let h : p < 8 = has_below 8 low_half p (omega arith) m in
    rw e (union_of_part (part 65 8 w) p i (rw (part_length 65 8 w (omega arith)) h) (ap (λ (y : ℕ). has y i) (sym (part_at 65 8 w p h) ∙ part_at 65 16 w p (omega arith)) ∙ k))

pub within_high : (w : List ℕ) (all : ℕ) → length w ≡ 353 → all ≡ union_of (part 73 8 w) → Within (part 65 16 w) high_half all
within_high w all long e p m i k =
    let h : p < 16 = has_below 16 high_half p (omega arith) m in
    go (dec_le 8 p) h
  where
    go : Dec (8 ≤ p) → p < 16 → has all i ≡ true
    go (yes l) h =
        let j : p - 8 < 8 = omega arith in
        rw e (union_of_part (part 73 8 w) (p - 8) i (rw (part_length 73 8 w (omega arith)) j) (ap (λ (y : ℕ). has y i) (sym (part_at 73 8 w (p - 8) j) ∙ ap (λ (z : ℕ). get_or w z 0) (omega arith) ∙ part_at 65 16 w p h) ∙ k))
    go (no l) h = no_common low_half high_half p no_half (low_has p (omega arith)) m

-- ---- the process that comes next
pub shifted : (x p : ℕ) → has (x / 2 ^ 8) p ≡ has x (container_of p)
unfolding has
shifted x p = ap (λ (n : ℕ). eqb (n % 2) 1) (shr-shr x 8 p)

-- the processes of the set left that are in the set x
abbrev own_of : ℕ → ℕ → ℕ
own_of x left = (x / 2 ^ 8) ∩ left

module _ (rows : List ℕ) (x left : ℕ) where
  own_has : (p : ℕ) → has (own_of x left) p ≡ (has x (container_of p) && has left p)
  own_has p = inter_has (x / 2 ^ 8) left p ∙ rw (shifted x p) refl

  -- one is in the set
  module _ (fits : x < 2 ^ 64) (more : own_of x left ≡ 0 → ⊥) (p : ℕ) (is : p ≡ lowest (own_of x left)) where
    own_lt : own_of x left < 2 ^ 64
    own_lt = inter_lt (x / 2 ^ 8) left (omega arith)

    pub own_below : p < 64
    own_below = turn_below _ own_lt more p is

    pub next_own : Finds (comes_next rows x) left (Some p)
    next_own =
        let m : (has x (container_of p) && has left p) ≡ true = sym (own_has p) ∙ member _ own_lt more p is in
        (and_r (has x (container_of p)) _ m, or_l (has x (container_of p)) _ (and_l _ (has left p) m))

  module _ (e : own_of x left ≡ 0) where
    not_in : (p : ℕ) → has left p ≡ true → has x (container_of p) ≡ false
    not_in p m = and_false_l _ (has left p) m (sym (own_has p) ∙ ap (λ (z : ℕ). has z p) e ∙ none_has p)

    -- none is, but one may be fed
    pub next_fed : (r : Option ℕ) → Finds (fed_from rows x) left r → Finds (comes_next rows x) left r
    next_fed (Some p) s = (s.0, or_r (has x (container_of p)) _ s.1)
    next_fed None s = λ k m. or_false_i _ _ (not_in k m) (s k m)

    -- none is, and nothing in the set feeds a process
    pub next_none : (all : ℕ) → Within rows left all → x ∩ all ≡ 0 → Finds (comes_next rows x) left None
    next_none all w calm = next_fed None (calm_none rows x left all w calm)

-- ---- the search
-- process p and the containers of its row
abbrev pub near : List ℕ → ℕ → ℕ
near rows p = get_or rows p 0 ∪ only (container_of p % 64)

module _ (rows : List ℕ) (p : ℕ) (hp : p < 16) where
  own_number : container_of p % 64 ≡ container_of p
  own_number = mod-eq_of_lt (omega arith)

  near_own : has (near rows p) (container_of p) ≡ true
  near_own = rw own_number (in-r (get_or rows p 0) _ (container_of p) (in_one (container_of p)))

  near_cases : (v : ℕ) {P : Type 0} → (has (get_or rows p 0) v ≡ true → P) → (container_of p ≡ v → P) → has (near rows p) v ≡ true → P
  near_cases v a b = rw own_number (in_cases (get_or rows p 0) (only (container_of p)) v a (λ k. b (eqb-true (container_of p) v (sym (only_has (container_of p) v) ∙ k))))

-- seen: what is known to be in the reach of u. left: the processes not gone through
pub record Search (t : Tables) (fed : List ℕ) (u seen left : ℕ) : Type 0 where
  pub fits : seen < 2 ^ 64
  pub start : has seen u ≡ true
  pub leads : (v : ℕ) → has seen v ≡ true → Reaches t u v
  pub small : left < 65536
  pub gone : (p : ℕ) → p < 16 → has left p ≡ false → (v : ℕ) → has (near fed p) v ≡ true → has seen v ≡ true

pub search_start : (t : Tables) (g : List ℕ) (u : ℕ) → u < 64 → Search t g u (0 ∪ only u) 65535
search_start t g u h =
    rw none_union
    (record {
      fits = only_lt u h;
      start = in_one u;
      leads = λ v k. rw (← (eqb-true u v (sym (only_has u v) ∙ k))) here;
      small = omega arith;
      gone = λ p hp k. no_both (sixteen_has p hp) k;
    })

-- f: what each process maps, g: what it maps both ways, as the tables have it
module _ (t : Tables) (f g : List ℕ) (ins : (p : ℕ) → p < 16 → feeders_of t p ≡ get_or f p 0) (outs : (p : ℕ) → p < 16 → feeds t p ≡ get_or g p 0)
    {u seen left : ℕ} (s : Search t g u seen left) where
  -- nothing comes next
  pub search_over : u < 64 → ((p : ℕ) → feeds t p < 2 ^ 64) → Finds (comes_next f seen) left None → seen ≡ reach t u
  search_over h bound calm = is_reach t bound u seen h s.fits s.start s.leads (λ v w. shut v w)
    where
      shut : (v w : ℕ) → has seen v ≡ true → linked t v w ≡ true → has seen w ≡ true
      shut v w m =
          link_cases t v w
          (λ p hp q k. by (has left p)
          (λ l. no_both (meets_of seen (get_or f p 0) v m (rw (ins p hp) at k)) (or_false_r (has seen (container_of p)) _ (calm p l)))
          (λ l. rw q (s.gone p hp l (container_of p) (near_own g p hp))))
          (λ p hp q k. by (has left p)
          (λ l. no_both (rw q at m) (or_false_l _ (fed_from f seen p) (calm p l)))
          (λ l. s.gone p hp l w (in-l (get_or g p 0) _ w (rw (outs p hp) at k))))

  -- process p comes next: it and what it feeds are in the reach
  module _ (p : ℕ) (w : (has left p ≡ true) × (comes_next f seen p ≡ true)) where
    pub next_lt : p < 16
    next_lt = has_below 16 left p s.small w.0

    same : p % 64 ≡ p
    same = mod-eq_of_lt (omega (arith, next_lt))

    next_leads : Reaches t u (container_of p)
    next_leads =
        or_elim (has seen (container_of p)) (fed_from f seen p) (s.leads (container_of p))
        (λ k. let i = meets_at seen (get_or f p 0) k in onward (s.leads i.0 i.1) (link_in t p next_lt i.0 (ap (λ (z : ℕ). has z i.0) (ins p next_lt) ∙ i.2))) w.1

    pub search_more : get_or g p 0 < 2 ^ 64 → (seen' left' : ℕ) → seen' ≡ seen ∪ near g p → left' ≡ without left (p % 64) → Search t g u seen' left'
    search_more bound seen' left' e e' =
        rw (e, e', same)
        (record {
          fits = union_lt seen _ s.fits (union_lt _ _ bound (only_lt (container_of p % 64) (omega arith)));
          start = in-l seen _ u s.start;
          leads = λ v.
              in_cases seen (near g p) v (s.leads v)
              (near_cases g p next_lt v (λ k. onward next_leads (link_out t p next_lt v (ap (λ (z : ℕ). has z v) (outs p next_lt) ∙ k))) (λ k. rw k at next_leads));
          small = omega (arith, without_le left p (omega (arith, s.small)) (omega (arith, next_lt)), s.small);
          gone = λ q hq k. go q hq k (ℕ_discrete q p);
        })
      where
        go : (q : ℕ) → q < 16 → has (without left p) q ≡ false → Dec (q ≡ p) → (v : ℕ) → has (near g q) v ≡ true → has (seen ∪ near g p) v ≡ true
        go q hq k (yes d) v m = in-r seen _ v (rw d at m)
        go q hq k (no d) v m = in-l seen _ v (s.gone q hq (sym (without_other left p q (omega arith) d) ∙ k) v m)

    pub more_less : (left' : ℕ) → left' ≡ without left (p % 64) → count left' < count left
    more_less left' e = rw (e, same) (omega (arith, count_less left p (omega (arith, s.small)) w.0))
