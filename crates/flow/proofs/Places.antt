-- The test that decides stands at the earliest place; no record meets two numbers of one place; what the numbers of 8's place say, and 17.
use Prim.Native.Nat.{ℕ, zero, suc, ◌≤◌, ◌<◌}
use native.Mathlib.Nat.{le_refl}
use native.Mathlib.Omega.{arith}
use mathlib.Core.Path.{◌≡◌, refl, sym, ap, ◌∙◌}
use mathlib.Core.Logic.{inl, inr}
use mathlib.Core.Bool.{Bool, true, false, not, ◌&&◌, false≢true}
use mathlib.Core.List.{List, [], ◌∷◌, ◌++◌}
use mathlib.Core.Option.{Option, none, some}
use lib.Dec.{leb, eqb}
use lib.ListN.{get_or, take}
use borrow.Author.Tests.{leb-true, le-leb, eq-eqb, eqb-true, not-true}
use Rattle.flow.specs.Lists.{is_in, Test, ◌⇒◌, first_that}
use Rattle.flow.specs.Box.{Sort, to_read, both_ways, Rule, Tables, State, mappings, descriptor, is_open, is_bound}
use Rattle.flow.specs.Links.{used}
use Rattle.flow.specs.Calls.{map_read, map_both, kind_number, Call, is_kind, sort_of}
use Rattle.flow.specs.Records.{tag_of, call_tag, value_of, call_in, rule_in, a_call, a_rule, frame_tests, content_of, reading_by, reading, call_read, call_of}
use Rattle.flow.specs.Refusals.{Need, no_need, open_descriptor, bound_name, a_mapping, used_container, need_of, missing, full, call_tests, field_tests, rule_tests, tests_of, record_tests, refusal}
use Rattle.flow.specs.Verdicts.{refused, answer}
use Rattle.flow.specs.Consequences.{RefusedExactly, FirstDecides, Applies, this_test, later_test, places, place_in, place_of, StandAt, TestsInPlace, EarliestPlace, OneOfAPlace, Lacks, NumberTells, AtLimit, FullTold, FullExactly}
use Rattle.flow.proofs.Bools.{or_elim, or_l, or_r, and_l, and_r, and_i, no_both, choice}
use Rattle.flow.proofs.TableLaws.{first_some, first_none, holding}
use Rattle.flow.proofs.KindLaws.{kind_is}
use Rattle.flow.proofs.Refused.{refused_exactly}

-- ---- the first test of a list
first_at : (ts : List Test) (n : ℕ) → first_that ts ≡ some n → (k : ℕ) × (get_or ts k none ≡ some n) × ((j : ℕ) → j < k → get_or ts j none ≡ none)
unfolding first_that
first_at [] n e = absurd (let z : ◌≡◌ {A = ℕ} 0 1 = cc in let y : ⊥ = omega arith in y)
first_at (some m ∷ ts) n e = (0, e, λ j l. absurd (let y : ⊥ = omega arith in y))
first_at (none ∷ ts) n e = let h = first_at ts n e in (suc h.0, h.1, λ j l. earlier j l h.2)
  where
    earlier : {k : ℕ} (j : ℕ) → j < suc k → ((i : ℕ) → i < k → get_or ts i none ≡ none) → get_or (none ∷ ts) j none ≡ none
    earlier zero l f = refl
    earlier (suc j) l f = f j (omega arith)

at_first : (ts : List Test) (n k : ℕ) → get_or ts k none ≡ some n → ((j : ℕ) → j < k → get_or ts j none ≡ none) → first_that ts ≡ some n
unfolding first_that
at_first [] n k e f = absurd (let z : ◌≡◌ {A = ℕ} 0 1 = cc in let y : ⊥ = omega arith in y)
at_first (some m ∷ ts) n zero e f = e
at_first (some m ∷ ts) n (suc k) e f = absurd (let w = f 0 (omega arith) in let z : ◌≡◌ {A = ℕ} 0 1 = cc in let y : ⊥ = omega arith in y)
at_first (none ∷ ts) n zero e f = absurd (let z : ◌≡◌ {A = ℕ} 0 1 = cc in let y : ⊥ = omega arith in y)
at_first (none ∷ ts) n (suc k) e f = at_first ts n k e (λ j l. f (suc j) (omega arith))

pub first_decides : FirstDecides
unfolding FirstDecides refusal
first_decides s bytes n = (first_at (record_tests s bytes) n, λ h. at_first (record_tests s bytes) n h.0 h.1 h.2)

-- ---- the tests stand at the places of some numbers
-- as StandAt, and each refuses with bytes alone
unfoldable Stand : List ℕ → List Test → Type 0
Stand [] [] = Unit {0}
Stand (m ∷ ms) (t ∷ ts) = ((n : ℕ) → t ≡ some n → (place_of n ≡ place_of m) × (n < 256)) × Stand ms ts
Stand [] (t ∷ ts) = ⊥
Stand (m ∷ ms) [] = ⊥

stand_at : (ms : List ℕ) (ts : List Test) → Stand ms ts → StandAt ms ts
unfolding Stand StandAt
stand_at [] [] c = tt
stand_at (m ∷ ms) (t ∷ ts) c = (λ n e. (c.0 n e).0, stand_at ms ts c.1)
stand_at [] (t ∷ ts) c = c
stand_at (m ∷ ms) [] c = c

first_byte : (n : ℕ) (ms : List ℕ) (ts : List Test) → Stand ms ts → first_that ts ≡ some n → n < 256
unfolding Stand first_that
first_byte n [] [] c e = absurd (let z : ◌≡◌ {A = ℕ} 0 1 = cc in let y : ⊥ = omega arith in y)
first_byte n (m ∷ ms) (some k ∷ ts) c e = (c.0 n e).1
first_byte n (m ∷ ms) (none ∷ ts) c e = first_byte n ms ts c.1 e
first_byte n [] (t ∷ ts) c e = absurd c
first_byte n (m ∷ ms) [] c e = absurd c

-- the places rise, from k on
climbs : ℕ → List ℕ → Bool
climbs k [] = true
climbs k (m ∷ ms) = leb k (place_of m) && climbs (suc (place_of m)) ms

first_place : (k m : ℕ) (ms : List ℕ) → climbs k (m ∷ ms) ≡ true → (k ≤ place_of m) × (climbs (suc (place_of m)) ms ≡ true)
unfolding climbs
first_place k m ms h = (leb-true k (place_of m) (and_l _ (climbs (suc (place_of m)) ms) h), and_r (leb k (place_of m)) _ h)

above : (k n : ℕ) (ms : List ℕ) (ts : List Test) → climbs k ms ≡ true → StandAt ms ts → Applies n ts → k ≤ place_of n
unfolding StandAt
above k n (m ∷ ms) (t ∷ ts) h c (this_test e) = omega (arith, (first_place k m ms h).0, c.0 n e)
above k n (m ∷ ms) (t ∷ ts) h c (later_test a) = let d = first_place k m ms h in omega (arith, d.0, above (suc (place_of m)) n ms ts d.1 c.1 a)
above k n [] (t ∷ ts) h c a = absurd c
above k n [] [] h c a = elim a [ ]
above k n (m ∷ ms) [] h c a = elim c [ ]

earliest : (k n i : ℕ) (ms : List ℕ) (ts : List Test) → climbs k ms ≡ true → StandAt ms ts → first_that ts ≡ some n → Applies i ts → place_of n ≤ place_of i
unfolding StandAt first_that
earliest k n i (m ∷ ms) (some j ∷ ts) h c e (this_test f) = let q : n ≡ i = cc in rw q (le_refl (place_of i))
earliest k n i (m ∷ ms) (some j ∷ ts) h c e (later_test a) =
    omega (arith, c.0 n e, above (suc (place_of m)) i ms ts (first_place k m ms h).1 c.1 a)
earliest k n i (m ∷ ms) (none ∷ ts) h c e (this_test f) = absurd (let z : ◌≡◌ {A = ℕ} 0 1 = cc in let y : ⊥ = omega arith in y)
earliest k n i (m ∷ ms) (none ∷ ts) h c e (later_test a) = earliest (suc (place_of m)) n i ms ts (first_place k m ms h).1 c.1 e a
earliest k n i [] (t ∷ ts) h c e a = absurd c
earliest k n i [] [] h c e a = elim a [ ]
earliest k n i (m ∷ ms) [] h c e a = elim c [ ]

one_of : (k n i : ℕ) (ms : List ℕ) (ts : List Test) → climbs k ms ≡ true → StandAt ms ts → Applies n ts → Applies i ts → place_of n ≡ place_of i → n ≡ i
unfolding StandAt
one_of k n i (m ∷ ms) (t ∷ ts) h c (this_test e) (this_test f) q = cc
one_of k n i (m ∷ ms) (t ∷ ts) h c (this_test e) (later_test b) q =
    absurd (let y : ⊥ = omega (arith, q, c.0 n e, above (suc (place_of m)) i ms ts (first_place k m ms h).1 c.1 b) in y)
one_of k n i (m ∷ ms) (t ∷ ts) h c (later_test a) (this_test f) q =
    absurd (let y : ⊥ = omega (arith, q, c.0 i f, above (suc (place_of m)) n ms ts (first_place k m ms h).1 c.1 a) in y)
one_of k n i (m ∷ ms) (t ∷ ts) h c (later_test a) (later_test b) q = one_of (suc (place_of m)) n i ms ts (first_place k m ms h).1 c.1 a b q
one_of k n i [] (t ∷ ts) h c a b q = absurd c
one_of k n i [] [] h c a b q = elim a [ ]
one_of k n i (m ∷ ms) [] h c a b q = elim c [ ]

-- ---- those of a record
-- a test of a condition has the place of its number
placed : (b : Bool) (m : ℕ) → m < 256 → (n : ℕ) → (b ⇒ m) ≡ some n → (place_of n ≡ place_of m) × (n < 256)
placed b m l n e = rw (holding b m n e).1 (refl, l)

-- what is missing, by what the call needs
module _ (t : Tables) (p a b : ℕ) where
  need_cases : {P : Type 0} (x : Need) (n : ℕ) → missing t p a b x ≡ some n
      → (n ≡ 14 → x ≡ open_descriptor → is_open t p a ≡ false → P) → (n ≡ 15 → x ≡ bound_name → is_bound t a ≡ false → P)
      → (n ≡ 16 → x ≡ a_mapping → mappings t (sort_of b) p a ≡ 0 → P) → (n ≡ 8 → x ≡ used_container → used t a ≡ false → P) → P
  unfolding missing
  need_cases no_need n e f g h k = absurd (let z : ◌≡◌ {A = ℕ} 0 1 = cc in let y : ⊥ = omega arith in y)
  need_cases open_descriptor n e f g h k = let d = holding _ 14 n e in f d.1 refl (not-true _ d.0)
  need_cases bound_name n e f g h k = let d = holding _ 15 n e in g d.1 refl (not-true _ d.0)
  need_cases a_mapping n e f g h k = let d = holding _ 16 n e in h d.1 refl (eqb-true _ 0 d.0)
  need_cases used_container n e f g h k = let d = holding _ 8 n e in k d.1 refl (not-true _ d.0)

  -- it has the place of 8
  missing_placed : (x : Need) (n : ℕ) → missing t p a b x ≡ some n → (place_of n ≡ place_of 8) × (n < 256)
  unfolding place_of places place_in is_in
  missing_placed x n e = need_cases x n e (λ d y z. rw d (refl, omega arith)) (λ d y z. rw d (refl, omega arith)) (λ d y z. rw d (refl, omega arith)) (λ d y z. rw d (refl, omega arith))

frame_stands : (bytes : List ℕ) → Stand (1 ∷ 2 ∷ 3 ∷ []) (frame_tests bytes)
unfolding Stand frame_tests
frame_stands bytes = (placed _ 1 (omega arith), (placed _ 2 (omega arith), (placed _ 3 (omega arith), tt)))

call_stands : (t : Tables) (q : Call) → Stand (5 ∷ 6 ∷ 7 ∷ 8 ∷ 9 ∷ 10 ∷ 17 ∷ []) (call_tests t (some q))
unfolding Stand call_tests
call_stands t q = (
  placed _ 5 (omega arith),
  (
    placed _ 6 (omega arith),
    (
      placed _ 7 (omega arith),
      (missing_placed t q.process q.a q.b (need_of q.kind), (placed _ 9 (omega arith), (placed _ 10 (omega arith), (placed _ 17 (omega arith), tt)))),
    ),
  ),
)

unknown_stands : (t : Tables) → Stand (4 ∷ []) (call_tests t none)
unfolding Stand call_tests
unknown_stands t = (λ n e. let d : n ≡ 4 = cc in rw d (refl, omega arith), tt)

rule_stands : (s : State) (r : Rule) → Stand (4 ∷ 5 ∷ 9 ∷ 11 ∷ 12 ∷ []) (rule_tests s r)
unfolding Stand rule_tests field_tests
rule_stands s r = (
  placed _ 4 (omega arith),
  (placed _ 5 (omega arith), (placed _ 9 (omega arith), (placed _ 11 (omega arith), (placed _ 12 (omega arith), tt)))),
)

pub tests_in_place : TestsInPlace
unfolding TestsInPlace
tests_in_place = (
  λ bytes. stand_at _ _ (frame_stands bytes),
  λ t q. stand_at _ _ (call_stands t q),
  λ t. stand_at _ _ (unknown_stands t),
  λ s r. stand_at _ _ (rule_stands s r),
)

-- tests at places that rise, from k on
abbrev Placed : ℕ → List Test → Type 0
Placed k ts = (ms : List ℕ) × (climbs k ms ≡ true) × StandAt ms ts

content_placed : (s : State) (bytes : List ℕ) → Placed 3 (tests_of s (content_of bytes))
unfolding TestsInPlace content_of tests_of climbs place_of places place_in is_in
content_placed s bytes =
    choice (λ x. Placed 3 (tests_of s x)) (eqb (tag_of bytes) call_tag) (a_call (call_in (value_of bytes))) (a_rule (rule_in (tag_of bytes) (value_of bytes)))
    (λ e. of_call (call_in (value_of bytes))) (λ e. (_, refl, tests_in_place.3 s (rule_in (tag_of bytes) (value_of bytes))))
  where
    of_call : (q : Option Call) → Placed 3 (call_tests s.tables q)
    of_call none = (_, refl, tests_in_place.2 s.tables)
    of_call (some q) = (_, refl, tests_in_place.1 s.tables q)

tests_placed : (s : State) (bytes : List ℕ) → Placed 0 (record_tests s bytes)
unfolding TestsInPlace record_tests frame_tests StandAt climbs place_of places place_in is_in
tests_placed s bytes =
    let f = tests_in_place.0 bytes in
    let c = content_placed s bytes in
    (1 ∷ 2 ∷ 3 ∷ c.0, c.1, (f.0, (f.1.0, (f.1.1.0, c.2))))

-- ---- numbers are bytes
pub frame_byte : (bytes : List ℕ) (n : ℕ) → first_that (frame_tests bytes) ≡ some n → n < 256
frame_byte bytes n e = first_byte n _ (frame_tests bytes) (frame_stands bytes) e

pub call_byte : (t : Tables) (q : Option Call) (n : ℕ) → first_that (call_tests t q) ≡ some n → n < 256
call_byte t none n e = first_byte n _ (call_tests t none) (unknown_stands t) e
call_byte t (some q) n e = first_byte n _ (call_tests t (some q)) (call_stands t q) e

pub rule_byte : (s : State) (r : Rule) (n : ℕ) → first_that (rule_tests s r) ≡ some n → n < 256
rule_byte s r n e = first_byte n _ (rule_tests s r) (rule_stands s r) e

-- ---- the earliest place
pub earliest_place : EarliestPlace
unfolding EarliestPlace refusal
earliest_place s bytes n m e a = let c = tests_placed s bytes in earliest 0 n m c.0 (record_tests s bytes) c.1 c.2 e a

pub one_of_a_place : OneOfAPlace
unfolding OneOfAPlace
one_of_a_place s bytes n m a b q = let c = tests_placed s bytes in one_of 0 n m c.0 (record_tests s bytes) c.1 c.2 a b q

-- ---- what the numbers of 8's place say
-- none of the numbers has the place p
away : ℕ → List ℕ → Bool
away p [] = true
away p (m ∷ ms) = not (eqb p (place_of m)) && away p ms

elsewhere : (n p : ℕ) (ms : List ℕ) (ts : List Test) → StandAt ms ts → first_that ts ≡ some n → place_of n ≡ p → away p ms ≡ true → ⊥
unfolding StandAt first_that away
elsewhere n p [] [] c e d a = absurd (let z : ◌≡◌ {A = ℕ} 0 1 = cc in let y : ⊥ = omega arith in y)
elsewhere n p (m ∷ ms) (some k ∷ ts) c e d a = no_both (eq-eqb p (place_of m) (sym d ∙ c.0 n e)) (not-true (eqb p (place_of m)) (and_l _ (away p ms) a))
elsewhere n p (m ∷ ms) (none ∷ ts) c e d a = elsewhere n p ms ts c.1 e d (and_r (not (eqb p (place_of m))) _ a)
elsewhere n p [] (t ∷ ts) c e d a = absurd c
elsewhere n p (m ∷ ms) [] c e d a = absurd c

-- between tests that stand elsewhere, the one at the place decides
at_place : (n p : ℕ) (ms is : List ℕ) (ts us : List Test) (t : Test) → StandAt ms ts → StandAt is us → place_of n ≡ p → away p ms ≡ true → away p is ≡ true
    → first_that (ts ++ t ∷ us) ≡ some n → t ≡ some n
unfolding StandAt first_that away
at_place n p [] is [] us (some k) c d at a b e = e
at_place n p [] is [] us none c d at a b e = absurd (elsewhere n p is us d e at b)
at_place n p (m ∷ ms) is (some k ∷ ts) us t c d at a b e = absurd (elsewhere n p (m ∷ ms) (some k ∷ ts) c e at a)
at_place n p (m ∷ ms) is (none ∷ ts) us t c d at a b e = at_place n p ms is ts us t c.1 d at (and_r (not (eqb p (place_of m))) _ a) b e
at_place n p [] is (u ∷ ts) us t c d at a b e = absurd c
at_place n p (m ∷ ms) is [] us t c d at a b e = absurd c

-- a call that is refused with one of them lacks what it needs
call_lacks : (t : Tables) (q : Call) (n : ℕ) → place_of n ≡ place_of 8 → first_that (call_tests t (some q)) ≡ some n → missing t q.process q.a q.b (need_of q.kind) ≡ some n
unfolding TestsInPlace StandAt call_tests away place_of places place_in is_in
call_lacks t q n at e =
    let c = tests_in_place.1 t q in
    at_place n 7 (5 ∷ 6 ∷ 7 ∷ []) (9 ∷ 10 ∷ 17 ∷ []) (_ ∷ _ ∷ _ ∷ []) (_ ∷ _ ∷ _ ∷ []) _ (c.0, (c.1.0, (c.1.1.0, tt))) c.1.1.1.1 at refl refl e

-- a record that is refused with a number of another place than those of the frame, of an unknown kind and of a rule is a call
record_call : (s : State) (bytes : List ℕ) (n p : ℕ) → place_of n ≡ p → away p (1 ∷ 2 ∷ 3 ∷ []) ≡ true → away p (4 ∷ []) ≡ true → away p (4 ∷ 5 ∷ 9 ∷ 11 ∷ 12 ∷ []) ≡ true
    → answer s bytes ≡ refused n → (q : Call) × (call_of bytes ≡ some q) × (first_that (call_tests s.tables (some q)) ≡ some n)
unfolding RefusedExactly TestsInPlace refusal record_tests reading reading_by call_of call_read content_of tests_of
record_call s bytes n p at x y z e = of_frame (first_that (frame_tests bytes)) refl
  where
    Found : Type 0
    Found = (q : Call) × (call_read (reading bytes) ≡ some q) × (first_that (call_tests s.tables (some q)) ≡ some n)

    refuses : refusal s bytes ≡ some n
    refuses = (refused_exactly s bytes n).0 e

    of_call : (o : Option Call) → reading bytes ≡ a_call o → first_that (call_tests s.tables o) ≡ some n → Found
    of_call none r g = absurd (elsewhere n p (4 ∷ []) _ (tests_in_place.2 s.tables) g at y)
    of_call (some q) r g = (q, rw r refl, g)

    of_content : reading bytes ≡ content_of bytes → first_that (tests_of s (content_of bytes)) ≡ some n → Found
    of_content =
        choice (λ x. reading bytes ≡ x → first_that (tests_of s x) ≡ some n → Found) (eqb (tag_of bytes) call_tag) (a_call (call_in (value_of bytes))) (a_rule (rule_in (tag_of bytes) (value_of bytes)))
        (λ d. of_call (call_in (value_of bytes)))
        (λ d r g. absurd (elsewhere n p (4 ∷ 5 ∷ 9 ∷ 11 ∷ 12 ∷ []) _ (tests_in_place.3 s _) g at z))

    of_frame : (o : Option ℕ) → first_that (frame_tests bytes) ≡ o → Found
    of_frame none f = of_content (ap (reading_by bytes) f) (sym (first_none (frame_tests bytes) (tests_of s (content_of bytes)) f) ∙ refuses)
    of_frame (some k) f =
        let g = first_some (frame_tests bytes) (tests_of s (content_of bytes)) k f in
        let w : ◌≡◌ {A = Option ℕ} (some n) (some k) = sym refuses ∙ g in
        let d : n ≡ k = cc in
        absurd (elsewhere k p (1 ∷ 2 ∷ 3 ∷ []) _ (tests_in_place.0 bytes) f (ap place_of (sym d) ∙ at) x)

-- one that is refused with a number of 8's place lacks what it needs
record_lacks : (s : State) (bytes : List ℕ) (n : ℕ) → place_of n ≡ place_of 8 → answer s bytes ≡ refused n
    → (q : Call) × (call_of bytes ≡ some q) × (missing s.tables q.process q.a q.b (need_of q.kind) ≡ some n)
unfolding away place_of places place_in is_in
record_lacks s bytes n at e = let h = record_call s bytes n 7 at refl refl refl e in (h.0, h.1, call_lacks s.tables h.0 n at h.2)

-- the number is another
other : {n m : ℕ} {A B P : Type 0} → eqb n m ≡ false → n ≡ m → A → B → P
other d e a b = no_both (eq-eqb _ _ e) d

pub number_tells : NumberTells
unfolding NumberTells Lacks place_of places place_in is_in
number_tells s bytes = (
  λ e. let h = record_lacks s bytes 14 refl e in let q = h.0 in need_cases s.tables q.process q.a q.b (need_of q.kind) 14 h.2 (λ n y z. (q, h.1, y, z)) (other refl) (other refl) (other refl),
  λ e. let h = record_lacks s bytes 15 refl e in let q = h.0 in need_cases s.tables q.process q.a q.b (need_of q.kind) 15 h.2 (other refl) (λ n y z. (q, h.1, y, z)) (other refl) (other refl),
  λ e. let h = record_lacks s bytes 16 refl e in let q = h.0 in need_cases s.tables q.process q.a q.b (need_of q.kind) 16 h.2 (other refl) (other refl) (λ n y z. (q, h.1, y, z)) (other refl),
  λ e. let h = record_lacks s bytes 8 refl e in let q = h.0 in need_cases s.tables q.process q.a q.b (need_of q.kind) 8 h.2 (other refl) (other refl) (other refl) (λ n y z. (q, h.1, y, z)),
)

-- ---- 17
last_test : (b : Bool) → b ≡ true → first_that ((b ⇒ 17) ∷ []) ≡ some 17
unfolding first_that ◌⇒◌
last_test true e = refl
last_test false e = absurd (false≢true e)

module _ (t : Tables) (q : Call) where
  abbrev count_of : Sort → ℕ
  count_of x = mappings t x q.process (descriptor t q.process q.a)

  -- the test as the words have it
  full_limit : full t q ≡ true → AtLimit t q
  unfolding full AtLimit
  full_limit h =
      or_elim (is_kind map_read q && leb 255 (count_of to_read)) (is_kind map_both q && leb 255 (count_of both_ways))
      (λ e. inl (kind_is map_read q (and_l _ (leb 255 (count_of to_read)) e), leb-true 255 (count_of to_read) (and_r (is_kind map_read q) _ e)))
      (λ e. inr (kind_is map_both q (and_l _ (leb 255 (count_of both_ways)) e), leb-true 255 (count_of both_ways) (and_r (is_kind map_both q) _ e)))
      h

  limit_full : AtLimit t q → full t q ≡ true
  unfolding full AtLimit is_kind
  limit_full (inl h) = or_l _ (is_kind map_both q && leb 255 (count_of both_ways)) (and_i (is_kind map_read q) _ (eq-eqb _ _ (ap kind_number h.0)) (le-leb 255 (count_of to_read) h.1))
  limit_full (inr h) = or_r (is_kind map_read q && leb 255 (count_of to_read)) _ (and_i (is_kind map_both q) _ (eq-eqb _ _ (ap kind_number h.0)) (le-leb 255 (count_of both_ways) h.1))

  -- a call that is refused with 17 is one at the limit
  call_full : first_that (call_tests t (some q)) ≡ some 17 → full t q ≡ true
  unfolding TestsInPlace StandAt call_tests away place_of places place_in is_in
  call_full e =
      let c = tests_in_place.1 t q in
      (holding _ 17 17 (at_place 17 10 (5 ∷ 6 ∷ 7 ∷ 8 ∷ 9 ∷ 10 ∷ []) [] (_ ∷ _ ∷ _ ∷ _ ∷ _ ∷ _ ∷ []) [] _ (c.0, (c.1.0, (c.1.1.0, (c.1.1.1.0, (c.1.1.1.1.0, (c.1.1.1.1.1.0, tt)))))) tt refl refl refl e)).0

pub full_told : FullTold
unfolding FullTold away place_of places place_in is_in
full_told s bytes e = let h = record_call s bytes 17 10 refl refl refl refl e in (h.0, h.1, full_limit s.tables h.0 (call_full s.tables h.0 h.2))

pub full_exactly : FullExactly
unfolding FullExactly call_tests
full_exactly t q h = (
  λ e. full_limit t q (call_full t q e),
  λ l. first_none (take 6 (call_tests t (some q))) ((full t q ⇒ 17) ∷ []) h ∙ last_test (full t q) (limit_full t q l),
)
