-- The files of a list of entries, as a set.
use Prim.Native.Nat.{ℕ, ◌+◌, ◌-◌, ◌*◌, ◌≤◌, ◌<◌}
use native.Mathlib.Omega.{arith}
use native.Mathlib.Decide.{dec_lt}
use mathlib.Core.Path.{◌≡◌, refl, sym, ap, ap₂, ◌∙◌}
use mathlib.Core.Bool.{Bool, true, false, ◌&&◌, ◌||◌, and_comm, and-or_distrib_left}
use mathlib.Core.List.{List, [], ◌∷◌, ◌++◌}
use lib.Dec.{ltb, leb, eqb}
use lib.ListN.{length, get_or, take, drop}
use Rattle.std.specs.Ordering.{is_le, is_lt, nat_cmp}
use lib.Seq.{take-add, drop-drop}
use borrow.Author.Tests.{le-leb, lt-leb, eqb-false, ltb-true, leb-true, eqb-true, lt-ltb, le-ltb}
use Rattle.sets.specs.Sets.{has, only, bit, those_from, those, ◌∪◌}
use Rattle.sets.proofs.Members.{union_has, only_has, none_has, those_has, past_has, eqb_sym}
use Rattle.sets.proofs.Unions.{all_more, union_assoc, union_comm, none_union}
use Rattle.flow.specs.Lists.{is_in}
use Rattle.flow.specs.Box.{is_device, is_file, is_target, slot}
use Rattle.flow.specs.Calls.{block}
use Rattle.flow.proofs.Bools.{and_l, and_r, by, or_false_l, or_false_r, chosen_l, chosen_r}
use Rattle.flow.proofs.TableLaws.{is_in_cons}
use Rattle.store.specs.Maps.{file_set, container_set, files_in, files}

pub file_range : (c : ℕ) → is_file c ≡ true → (24 ≤ c) × (c < 64)
unfolding is_file
file_range c h = (leb-true 24 c (and_l _ (ltb c 64) h), ltb-true c 64 (and_r (leb 24 c) _ h))

pub file_set_file : (e : ℕ) → is_file e ≡ true → file_set e ≡ only e
unfolding file_set
file_set_file e h = chosen_l (is_file e) (only e) 0 h

pub file_set_none : (e : ℕ) → is_file e ≡ false → file_set e ≡ 0
unfolding file_set
file_set_none e h = chosen_r (is_file e) (only e) 0 h

pub file_set_has : (e c : ℕ) → has (file_set e) c ≡ (is_file c && eqb c e)
file_set_has e c =
    by (is_file e)
    (λ h. rw (file_set_file e h, only_has e c, eqb_sym e c) (by (eqb c e) (λ q. rw (q, eqb-true c e q, h)) (λ q. rw (q, and_comm))))
    (λ h. rw (file_set_none e h, none_has c) (by (eqb c e) (λ q. rw (eqb-true c e q, h)) (λ q. rw (q, and_comm))))

files_in_members : (l : List ℕ) (c : ℕ) → has (files_in l) c ≡ (is_file c && is_in c l)
unfolding files_in is_in
files_in_members [] c = none_has c ∙ and_comm false (is_file c)
files_in_members (e ∷ l) c =
    union_has (file_set e) (files_in l) c
    ∙ rw (file_set_has e c, files_in_members l c, is_in_cons c e l) (sym (and-or_distrib_left (is_file c) (eqb c e) (is_in c l)))

pub files_in_has : (l : List ℕ) (c : ℕ) → is_file c ≡ true → has (files_in l) c ≡ is_in c l
files_in_has l c h = rw h at (files_in_members l c)

pub files_in_file : (l : List ℕ) (c : ℕ) → has (files_in l) c ≡ true → is_file c ≡ true
files_in_file l c h = and_l (is_file c) (is_in c l) (sym (files_in_members l c) ∙ h)

files_in_more : (l : List ℕ) (i : ℕ) → i < length l → files_in (take (i + 1) l) ≡ files_in (take i l) ∪ file_set (get_or l i 0)
unfolding files_in
files_in_more = all_more files_in ◌∪◌ file_set (λ x l. refl) union_assoc union_comm

pub files_in_next : (l : List ℕ) (i x y : ℕ) → i < length l → x ≡ files_in (take i l) → y ≡ file_set (get_or l i 0) → x ∪ y ≡ files_in (take (i + 1) l)
files_in_next l i x y h e f = ap₂ ◌∪◌ e f ∙ sym (files_in_more l i h)

-- the test of a range of numbers
less_test : (a b : ℕ) → is_lt (nat_cmp a b) ≡ ltb a b
less_test a b = go (dec_lt a b)
  where
    go : Dec (a < b) → is_lt (nat_cmp a b) ≡ ltb a b
    go (yes h) = rw (lt-ltb a b h) refl
    go (no h) = rw (le-ltb a b (omega arith)) (by (eqb a b) (λ e. rw e refl) (λ e. rw e refl))

least_test : (a b : ℕ) → is_le (nat_cmp a b) ≡ leb a b
least_test a b = go (dec_lt a b)
  where
    go : Dec (a < b) → is_le (nat_cmp a b) ≡ leb a b
    go (yes h) = rw (lt-ltb a b h, le-leb a b (omega arith)) refl
    go (no h) =
        rw (le-ltb a b (omega arith))
        (by (eqb a b) (λ e. let q = eqb-true a b e in rw (e, le-leb a b (omega arith)) refl) (λ e. rw (e, lt-leb a b (let n : a ≡ b → ⊥ = eqb-false a b e in omega arith)) refl))

pub file_test : (e : ℕ) → (is_le (nat_cmp 24 e) && is_lt (nat_cmp e 64)) ≡ is_file e
unfolding is_file
file_test e = rw (least_test 24 e, less_test e 64) refl

files_are : files ≡ those is_file
unfolding those those_from bit is_file
files_are = refl

pub files_has : (c : ℕ) → c < 64 → has files c ≡ is_file c
files_has c h = ap (λ (x : ℕ). has x c) files_are ∙ those_has is_file c h

-- ---- what an entry may lead to
abbrev targets : ℕ
targets = 0xFFFFFFFFFF0000FF

targets_are : targets ≡ those is_target
unfolding those those_from bit is_target is_device is_file
targets_are = refl

pub targets_has : (e : ℕ) → has targets e ≡ is_target e
unfolding is_target is_device is_file
targets_has e = go (dec_lt e 64)
  where
    go : Dec (e < 64) → has targets e ≡ is_target e
    go (yes h) = ap (λ (x : ℕ). has x e) targets_are ∙ those_has is_target e h
    go (no h) = past_has targets e (omega arith) (omega arith) ∙ sym (rw (le-ltb e 8 (omega arith), le-ltb e 64 (omega arith), and_comm (leb 24 e) false))

pub container_set_low : (e : ℕ) → e < 64 → container_set e ≡ only e
unfolding container_set
container_set_low e h = chosen_l (ltb e 64) (only e) 0 (lt-ltb e 64 h)

pub container_set_past : (e : ℕ) → 64 ≤ e → container_set e ≡ 0
unfolding container_set
container_set_past e h = chosen_r (ltb e 64) (only e) 0 (le-ltb e 64 h)

-- ---- entries of 64 or more
pub none_low : (l : List ℕ) (i : ℕ) (found : Bool) → i < length l → (found ≡ false → files_in (take i l) ≡ 0)
    → (found || ltb (get_or l i 0) 64) ≡ false → files_in (take (i + 1) l) ≡ 0
unfolding is_file
none_low l i found h q e =
    let x : ℕ = get_or l i 0 in
    let s : is_file x ≡ false = rw (or_false_r found (ltb x 64) e, and_comm (leb 24 x) false) in
    files_in_more l i h ∙ ap₂ ◌∪◌ (q (or_false_l found (ltb x 64) e)) (file_set_none x s) ∙ none_union 0

-- ---- two parts of a list
files_in_append : (k l : List ℕ) → files_in (k ++ l) ≡ files_in k ∪ files_in l
unfolding files_in
files_in_append [] l = sym (none_union (files_in l))
files_in_append (e ∷ k) l = ap (λ (x : ℕ). file_set e ∪ x) (files_in_append k l) ∙ sym (union_assoc (file_set e) (files_in k) (files_in l))

-- the first 8 descriptors of process p, and the other 24
pub block_files_lem : (l : List ℕ) (p : ℕ) → files_in (take (32 * p + 8 - 32 * p) (drop (32 * p) l)) ∪ files_in (take (32 * p + 32 - (32 * p + 8)) (drop (32 * p + 8) l)) ≡ files_in (block l p)
unfolding block
block_files_lem l p =
    let a : 32 * p + 8 - 32 * p ≡ 8 = omega arith in
    let b : 32 * p + 32 - (32 * p + 8) ≡ 24 = omega arith in
    let i : slot p 0 ≡ 32 * p = omega arith in
    rw (a, b, i, take-add 8 24 (drop (32 * p) l), files_in_append, drop-drop 8 (32 * p) l)
