-- The monitor that holds a state, `held`, stands for that state: `held_view`. Its words are cut where they were joined; its rules are read
-- from their stored fields, of which none is lost because each rule can be loaded.
use Prim.Native.Nat.{ℕ, zero, suc, ◌+◌, ◌/◌, ◌%◌, ◌≤◌, ◌<◌}
use native.Mathlib.Omega.{arith}
use native.Mathlib.Nat.{mod-eq_of_lt}
use mathlib.Core.Path.{◌≡◌, refl, ap, ap₂, ◌∙◌}
use mathlib.Core.Bool.{true}
use mathlib.Core.List.{List, [], ◌∷◌, ◌++◌}
use mathlib.Core.Option.{none}
use lib.Dec.{ltb}
use lib.ListN.{get_or, length, get_or-append}
use lib.Seq.{take_all, get_or_at, ext_get_or}
use borrow.Author.Tests.{ltb-true, ltb-false, not-false}
use Rattle.flow.specs.Lists.{table, ◌⇒◌, first_that, is_none}
use Rattle.flow.specs.Box.{Condition, forbid, separate, confine, Rule, State}
use Rattle.flow.specs.Records.{forbid_tag, separate_tag, confine_tag, condition_of}
use Rattle.flow.specs.Refusals.{items_fit, substitute_fits, same_items, field_tests}
use Rattle.flow.specs.Kept.{well_formed, all_well_formed}
use Rattle.flow.proofs.Bools.{and_l, and_r, by}
use Rattle.flow.proofs.TableLaws.{table_at, table_length, none_is, AllNone, all_none, untrue}
use Rattle.flow.proofs.Keeping.{Invariant}
use Rattle.store.specs.Maps.{part, view as maps_of}
use Rattle.store.proofs.Parts.{part_here, part_there}
use Rattle.store.proofs.Packing.{maps_from, ways_from, counts_from, reads_back, boths_back}
use Rattle.rules.specs.Stored.{place, count_field, condition_at, action_at, substitute_at, rule_at, count_of, rules_of}
use Rattle.rules.proofs.StoredLaws.{count_all, count_full}
use Rattle.rules.proofs.LoadingLaws.{fit_substitute}
use Rattle.decision.specs.declared.Monitor.{Monitor}
use Rattle.decision.specs.View.{view}

-- the tag of a condition, its item, and its set or second item
unfoldable pub parts_of : Condition → ℕ × ℕ × ℕ
parts_of (forbid i x) = (forbid_tag, i, x)
parts_of (separate i j) = (separate_tag, i, j)
parts_of (confine i x) = (confine_tag, i, x)

abbrev pub set_in : Rule → ℕ
set_in r = (parts_of r.condition).2

abbrev pub blank : Rule
blank = record { condition = forbid 0 0; action = 0; substitute = 0 }

-- the stored fields of a rule
unfoldable pub field_of : Rule → ℕ → ℕ
field_of r n = get_or ((parts_of r.condition).0 ∷ (parts_of r.condition).1 ∷ r.action ∷ r.substitute ∷ []) n 0

unfoldable pub sets_of : List Rule → List ℕ
sets_of rs = table 32 (λ k. set_in (get_or rs k blank))

unfoldable pub fields_of : List Rule → List ℕ
fields_of rs = table 128 (λ i. field_of (get_or rs (i / 4) blank) (i % 4)) ++ (length rs ∷ [])

unfoldable pub words_of : State → List ℕ
words_of s =
    (s.tables.live ∷ [])
    ++ (s.items ++ (maps_from s.tables.reads s.tables.boths ++ (ways_from s.tables.boths ++ (counts_from s.tables.reads ++ counts_from s.tables.boths))))

unfoldable pub held : State → Monitor
held s =
    record {
      tracker = record { words = words_of s; descriptors = s.tables.descriptors; names = s.tables.names };
      rules = record { sets = sets_of s.rules; fields = fields_of s.rules };
    }

-- ---- a rule that can be loaded, from its stored fields
condition_back : (c : Condition) → condition_of (parts_of c).0 (parts_of c).1 (parts_of c).2 ≡ c
unfolding condition_of parts_of
condition_back (forbid i x) = refl
condition_back (separate i j) = refl
condition_back (confine i x) = refl

module _ (r : Rule) (w : well_formed r ≡ true) where
  untested : first_that (field_tests r) ≡ none
  unfolding well_formed
  untested = none_is (first_that (field_tests r)) w

  pub substitute_lt : r.substitute < 64
  substitute_lt = fit_substitute r untested

  pub fields_fit_lem : (items_fit r.condition ≡ true) × (r.action < 2)
  unfolding field_tests AllNone
  fields_fit_lem = let h = all_none (field_tests r) untested in (and_l _ (substitute_fits r) (not-false _ (untrue _ 5 h.1.0)), ltb-true r.action 2 (not-false _ (untrue _ 4 h.0)))

-- each rule of a list can be loaded
pub formed_at : (rs : List Rule) (k : ℕ) → all_well_formed rs ≡ true → well_formed (get_or rs k blank) ≡ true
unfolding all_well_formed well_formed field_tests first_that ◌⇒◌ is_none items_fit substitute_fits same_items
formed_at [] k h = refl
formed_at (r ∷ rs) zero h = and_l _ (all_well_formed rs) h
formed_at (r ∷ rs) (suc k) h = formed_at rs k (and_r (well_formed r) _ h)

-- ---- the rules
module _ (rs : List Rule) (loadable : all_well_formed rs ≡ true) (counted : length rs ≤ 32) where
  abbrev rule : ℕ → Rule
  rule = rule_at (sets_of rs) (fields_of rs)

  field_held : (k n : ℕ) → k < 32 → n < 4 → get_or (fields_of rs) (place k n) 0 ≡ field_of (get_or rs k blank) n
  unfolding fields_of
  field_held k n h small =
      let f : ℕ → ℕ = λ i. field_of (get_or rs (i / 4) blank) (i % 4) in
      get_or-append (table 128 f) _ 0 (place k n) (omega (arith, table_length 128 f))
      ∙ table_at 128 f (place k n) 0 (omega arith)
      ∙ ap₂ (λ (i j : ℕ). field_of (get_or rs i blank) j) (omega arith) (omega arith)

  rule_held : (k : ℕ) → k < 32 → rule k ≡ get_or rs k blank
  unfolding condition_at action_at substitute_at sets_of field_of
  rule_held k h =
      rw (field_held k 0 h (omega arith), field_held k 1 h (omega arith), field_held k 2 h (omega arith), field_held k 3 h (omega arith), table_at 32 (λ i. set_in (get_or rs i blank)) k 0 h, condition_back (get_or rs k blank).condition, mod-eq_of_lt (substitute_lt (get_or rs k blank) (formed_at rs k loadable))) refl

  count_held : count_of (fields_of rs) ≡ length rs
  unfolding fields_of
  count_held =
      let e : get_or (fields_of rs) count_field 0 ≡ length rs = get_or_at (table 128 _) (length rs) [] 0 128 (table_length 128 _) in
      by (ltb (length rs) 32)
      (λ b. let l : length rs < 32 = ltb-true (length rs) 32 b in count_all (fields_of rs) (omega arith) ∙ e)
      (λ b. let l : 32 ≤ length rs = ltb-false (length rs) 32 b in count_full (fields_of rs) (omega arith) ∙ omega arith)

  rules_held : rules_of (sets_of rs) (fields_of rs) ≡ rs
  unfolding rules_of
  rules_held =
      let size : length (table (length rs) rule) ≡ length rs = table_length (length rs) rule in
      rw count_held (ext_get_or blank (table (length rs) rule) rs size (λ i h. table_at (length rs) rule i blank (omega arith) ∙ rule_held i (omega arith)))

-- ---- the state
module _ (s : State) (i : Invariant s) (items-size : length s.items ≡ 64) where
  abbrev reads : List (List ℕ)
  reads = s.tables.reads

  abbrev boths : List (List ℕ)
  boths = s.tables.boths

  -- behind the live processes and the items
  behind : (a n : ℕ) → part (65 + a) n (words_of s) ≡ part a n (maps_from reads boths ++ (ways_from boths ++ (counts_from reads ++ counts_from boths)))
  unfolding words_of
  behind a n =
      ap (λ (k : ℕ). part k n (words_of s)) (let e : 65 + a ≡ 1 + (64 + a) = omega arith in e) ∙ part_there (s.tables.live ∷ []) _ 1 (64 + a) n refl
      ∙ part_there s.items _ 64 a n items-size

  maps_size : length (maps_from reads boths) ≡ 16
  unfolding maps_from
  maps_size = table_length 16 _

  ways_size : length (ways_from boths) ≡ 16
  unfolding ways_from
  ways_size = table_length 16 _

  counts_size : (rows : List (List ℕ)) → length (counts_from rows) ≡ 128
  unfolding counts_from
  counts_size rows = table_length 128 _

  maps_held : part 65 16 (words_of s) ≡ maps_from reads boths
  maps_held = behind 0 16 ∙ part_here (maps_from reads boths) _ 16 maps_size

  ways_held : part 81 16 (words_of s) ≡ ways_from boths
  ways_held = behind 16 16 ∙ part_there (maps_from reads boths) _ 16 0 16 maps_size ∙ part_here (ways_from boths) _ 16 ways_size

  -- the counts, behind both
  counts_behind : (a n : ℕ) → part (97 + a) n (words_of s) ≡ part a n (counts_from reads ++ counts_from boths)
  counts_behind a n =
      ap (λ (k : ℕ). part k n (words_of s)) (let e : 97 + a ≡ 65 + (16 + (16 + a)) = omega arith in e) ∙ behind (16 + (16 + a)) n
      ∙ part_there (maps_from reads boths) _ 16 (16 + a) n maps_size ∙ part_there (ways_from boths) _ 16 a n ways_size

  read_counts : part 97 128 (words_of s) ≡ counts_from reads
  read_counts = counts_behind 0 128 ∙ part_here (counts_from reads) _ 128 (counts_size reads)

  both_counts : part 225 128 (words_of s) ≡ counts_from boths
  unfolding part
  both_counts = counts_behind 128 128 ∙ part_there (counts_from reads) (counts_from boths) 128 0 128 (counts_size reads) ∙ take_all 128 (counts_from boths) (omega (arith, counts_size boths))

  items_held : part 1 64 (words_of s) ≡ s.items
  unfolding words_of
  items_held = part_there (s.tables.live ∷ []) _ 1 0 64 refl ∙ part_here s.items _ 64 items-size

  pub held_view : view (held s) ≡ s
  unfolding view maps_of held words_of
  held_view =
      λ k. record {
        tables =
            record {
              live = s.tables.live;
              reads = reads_back reads boths i.linking.reads i.linking.boths (words_of s) maps_held ways_held read_counts both_counts k;
              boths = boths_back reads boths i.linking.reads i.linking.boths (words_of s) maps_held ways_held read_counts both_counts k;
              descriptors = s.tables.descriptors;
              names = s.tables.names;
            };
        items = items_held k;
        rules = rules_held s.rules i.loadable i.counted k;
      }
