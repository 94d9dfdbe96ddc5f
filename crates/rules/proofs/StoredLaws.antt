-- How many rules are loaded, and a rule stored behind the others.
use Prim.Native.Nat.{ℕ, zero, suc, ◌+◌, ◌≤◌, ◌<◌, min}
use native.Mathlib.Omega.{arith}
use native.Mathlib.Nat.{mod-eq_of_lt}
use mathlib.Core.Path.{◌≡◌, refl, ap, ap₂, ◌∙◌}
use mathlib.Core.List.{List, [], ◌∷◌, ◌++◌}
use lib.Dec.{ltb}
use lib.ListN.{get_or, length, set, length-set}
use lib.Seq.{get_or-set_same, get_or-set_other}
use borrow.Author.Tests.{ltb-true, ltb-false, lt-ltb, le-ltb}
use Rattle.flow.specs.Box.{Condition, Rule}
use Rattle.flow.specs.Lists.{table_from, table}
use Rattle.flow.specs.Records.{condition_of}
use Rattle.flow.proofs.Bools.{by, chosen_l, chosen_r}
use Rattle.flow.proofs.TableLaws.{table_length}
use Rattle.rules.specs.Stored.{place, tag_field, item_field, action_field, substitute_field, count_field, condition_at, action_at, substitute_at, rule_at, count_of, rules_of}

-- ---- how many rules are loaded
module _ (fields : List ℕ) where
  pub count_all : get_or fields count_field 0 < 32 → count_of fields ≡ get_or fields count_field 0
  unfolding count_of
  count_all l = chosen_l (ltb (get_or fields count_field 0) 32) _ 32 (lt-ltb _ 32 l)

  pub count_full : 32 ≤ get_or fields count_field 0 → count_of fields ≡ 32
  unfolding count_of
  count_full l = chosen_r (ltb (get_or fields count_field 0) 32) _ 32 (le-ltb _ 32 l)

  pub count_le : count_of fields ≤ 32
  count_le =
      by (ltb (get_or fields count_field 0) 32)
      (λ e. let z : get_or fields count_field 0 < 32 = ltb-true _ 32 e in let y : count_of fields ≡ get_or fields count_field 0 = count_all z in omega arith)
      (λ e. let y : count_of fields ≡ 32 = count_full (ltb-false _ 32 e) in omega arith)

-- the count, as it is computed
pub count_min : (fields : List ℕ) → min (get_or fields count_field 0) 32 ≡ count_of fields
count_min fields =
    by (ltb (get_or fields count_field 0) 32)
    (λ e. let z : get_or fields count_field 0 < 32 = ltb-true _ 32 e in omega (arith, count_all fields z))
    (λ e. let z : 32 ≤ get_or fields count_field 0 = ltb-false _ 32 e in omega (arith, count_full fields z))

pub rules_length : (sets fields : List ℕ) → length (rules_of sets fields) ≡ count_of fields
unfolding rules_of
rules_length sets fields = table_length (count_of fields) (rule_at sets fields)

-- ---- a table with one more at its end
table_more : {A : Type 0} (n k : ℕ) (f g : ℕ → A) (x : A) → ((j : ℕ) → j < k + n → g j ≡ f j) → g (k + n) ≡ x → table_from (suc n) k g ≡ table_from n k f ++ (x ∷ [])
unfolding table_from
table_more {A} zero k f g x h e = ap (λ (y : A). y ∷ []) (ap g (let z : k ≡ k + 0 = omega arith in z) ∙ e)
table_more {A} (suc n) k f g x h e =
    ap₂ (λ (y : A) (l : List A). y ∷ l) (h k (omega arith))
    (table_more n (suc k) f g x (λ j l. h j (omega arith)) (ap g (let z : suc k + n ≡ k + suc n = omega arith in z) ∙ e))

-- ---- the fields with those of rule k and the count set
module _ (fields : List ℕ) (size : length fields ≡ 129) (k : ℕ) (below : k < 32) (tag item action substitute : ℕ) where
  abbrev one : List ℕ
  one = set fields (place k tag_field) tag

  abbrev two : List ℕ
  two = set one (place k item_field) item

  abbrev three : List ℕ
  three = set two (place k action_field) action

  abbrev four : List ℕ
  four = set three (place k substitute_field) substitute

  abbrev pub later : List ℕ
  later = set four count_field (k + 1)

  other : (l : List ℕ) (i a m : ℕ) → m < i → get_or (set l i a) m 0 ≡ get_or l m 0
  other l i a m h = get_or-set_other l i m a 0 (λ e. let z : ⊥ = omega (arith, e) in z)

  there : (l : List ℕ) (i a : ℕ) → length l ≡ 129 → i < 129 → get_or (set l i a) i 0 ≡ a
  there l i a e h = get_or-set_same l i a 0 (omega arith)

  earlier : (m : ℕ) → m < place k 0 → get_or later m 0 ≡ get_or fields m 0
  earlier m h =
      other four count_field (k + 1) m (omega arith)
      ∙ other three (place k substitute_field) substitute m (omega arith)
      ∙ other two (place k action_field) action m (omega arith)
      ∙ other one (place k item_field) item m (omega arith)
      ∙ other fields (place k tag_field) tag m (omega arith)

  tag_there : get_or later (place k tag_field) 0 ≡ tag
  tag_there =
      other four count_field (k + 1) (place k tag_field) (omega arith)
      ∙ other three (place k substitute_field) substitute (place k tag_field) (omega arith)
      ∙ other two (place k action_field) action (place k tag_field) (omega arith)
      ∙ other one (place k item_field) item (place k tag_field) (omega arith)
      ∙ there fields (place k tag_field) tag size (omega arith)

  item_there : get_or later (place k item_field) 0 ≡ item
  item_there =
      other four count_field (k + 1) (place k item_field) (omega arith)
      ∙ other three (place k substitute_field) substitute (place k item_field) (omega arith)
      ∙ other two (place k action_field) action (place k item_field) (omega arith)
      ∙ there one (place k item_field) item (simp length-set size) (omega arith)

  action_there : get_or later (place k action_field) 0 ≡ action
  action_there =
      other four count_field (k + 1) (place k action_field) (omega arith)
      ∙ other three (place k substitute_field) substitute (place k action_field) (omega arith)
      ∙ there two (place k action_field) action (simp length-set size) (omega arith)

  substitute_there : get_or later (place k substitute_field) 0 ≡ substitute
  substitute_there =
      other four count_field (k + 1) (place k substitute_field) (omega arith) ∙ there three (place k substitute_field) substitute (simp length-set size) (omega arith)

  count_there : count_of later ≡ suc k
  count_there =
      let e : get_or later count_field 0 ≡ k + 1 = there four count_field (k + 1) (simp length-set size) (omega arith) in
      by (ltb (k + 1) 32)
      (λ h. let l : k + 1 < 32 = ltb-true (k + 1) 32 h in count_all later (omega arith) ∙ omega arith)
      (λ h. let l : 32 ≤ k + 1 = ltb-false (k + 1) 32 h in count_full later (omega arith) ∙ omega arith)

-- ---- a rule stored behind the others, its condition in three parts
module _ (sets fields : List ℕ) (condition : Condition) (tag item x action substitute : ℕ) (parts : condition ≡ condition_of tag item x) (size : length sets ≡ 32) (long : length fields ≡ 129) (n : ℕ) (is : n ≡ count_of fields) (few : n < 32) where
  abbrev stored : Rule
  stored = record { condition = condition; action = action; substitute = substitute }

  abbrev sets' : List ℕ
  sets' = set sets n x

  abbrev fields' : List ℕ
  fields' = later fields long n few tag item action substitute

  same_rule : (j : ℕ) → j < n → rule_at sets' fields' j ≡ rule_at sets fields j
  unfolding condition_at action_at substitute_at
  same_rule j l =
      let other : (m : ℕ) → m < place n 0 → get_or fields' m 0 ≡ get_or fields m 0 = earlier fields long n few tag item action substitute in
      rw (other (place j tag_field) (omega arith), other (place j item_field) (omega arith), other (place j action_field) (omega arith), other (place j substitute_field) (omega arith), get_or-set_other sets n j x 0 (λ e. let z : ⊥ = omega (arith, e) in z)) refl

  last_rule : substitute < 64 → rule_at sets' fields' n ≡ stored
  unfolding condition_at action_at substitute_at
  last_rule l =
      rw (tag_there fields long n few tag item action substitute, item_there fields long n few tag item action substitute, action_there fields long n few tag item action substitute, substitute_there fields long n few tag item action substitute, get_or-set_same sets n x 0 (omega arith), mod-eq_of_lt l, parts) refl

  pub rule_stored : substitute < 64 → rules_of sets' fields' ≡ rules_of sets fields ++ (stored ∷ [])
  unfolding rules_of table
  rule_stored l =
      ap (λ (m : ℕ). table_from m 0 (rule_at sets' fields')) (count_there fields long n few tag item action substitute)
      ∙ table_more n 0 (rule_at sets fields) (rule_at sets' fields') (stored) (λ j h. same_rule j (omega arith)) (ap (rule_at sets' fields') (let z : 0 + n ≡ n = omega arith in z) ∙ last_rule l)
      ∙ ap (λ (m : ℕ). table_from m 0 (rule_at sets fields) ++ (stored ∷ [])) is
