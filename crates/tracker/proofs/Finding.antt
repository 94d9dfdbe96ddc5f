-- What is released: of the containers whose use may have ended those that are not in use.
use Prim.Native.Nat.{ℕ, ◌^◌, ◌<◌}
use native.Mathlib.Omega.{arith}
use native.Mathlib.Decide.{ℕ_discrete}
use mathlib.Core.Path.{◌≡◌, refl, sym, ap, ap₂, ◌∙◌}
use mathlib.Core.Bool.{Bool, true, false, not, ◌&&◌, ◌||◌, and_comm, or-false, and-or_distrib_right}
use mathlib.Core.List.{List}
use lib.Dec.{eqb}
use lib.ListN.{get_or, length}
use borrow.Author.Tests.{eqb-true, eq-eqb, ne_eqb}
use Rattle.std.specs.Prelude.{Some}
use Rattle.sets.specs.Sets.{has, only, without, ◌∪◌, ◌∩◌}
use Rattle.sets.specs.Members.{TakesLowest}
use Rattle.sets.proofs.Members.{union_has, inter_has, inter_lt, only_has, none_has, those_has, those_lt, only_lt, set_ext, without_lt, without_at, without_other, member, turn_below}
use Rattle.flow.specs.Box.{Tables, is_file, feeders_of}
use Rattle.flow.specs.Links.{is_fed, used}
use Rattle.flow.specs.Calls.{block}
use Rattle.flow.proofs.Bools.{by, and_l, and_r, and_i, or_elim, same, chosen_l, chosen_r}
use Rattle.flow.proofs.TableLaws.{table_at, table_length, is_table}
use Rattle.store.specs.Maps.{Maps, with_items, cleared, files, files_in, file_set, container_set}
use Rattle.store.proofs.Worklist.{cleared_none}
use Rattle.store.proofs.Files.{file_range, file_set_file, file_set_none, file_set_has, files_in_file, files_has, container_set_low}
use Rattle.tracker.specs.Plans.{free_set, held_by, gone_of}

-- ---- what no link leads into
pub fed_none : (t : Tables) (c : ℕ) → is_fed t c ≡ true → 0 ≡ free_set t c
unfolding free_set
fed_none t c e = sym (chosen_l (is_fed t c) 0 (only c) e)

pub fed_some : (t : Tables) (c : ℕ) → c < 64 → is_fed t c ≡ false → container_set c ≡ free_set t c
unfolding free_set container_set
fed_some t c h e = container_set_low c h ∙ sym (chosen_r (is_fed t c) 0 (only c) e)

-- ---- what is emptied in two steps
pub cleared_join : (l : List ℕ) (x y z : ℕ) → ((c : ℕ) → c < 64 → (has x c || has y c) ≡ has z c) → cleared (cleared l x) y ≡ cleared l z
unfolding cleared
cleared_join l x y z h = is_table 64 _ (cleared (cleared l x) y) (table_length 64 _) (λ c k. table_at 64 _ c 0 k ∙ ap (λ (n : ℕ). elim (has y c) [ true ↦ 0 | false ↦ n ]) (table_at 64 _ c 0 k) ∙ both (has x c) (has y c) (get_or l c 0) ∙ ap (λ (b : Bool). elim b as (λ b. ℕ) [ true ↦ 0 | false ↦ get_or l c 0 ]) (h c k))
  where
    both : (a b : Bool) (n : ℕ) → ◌≡◌ {A = ℕ} (elim b [ true ↦ 0 | false ↦ elim a [ true ↦ 0 | false ↦ n ] ]) (elim (a || b) [ true ↦ 0 | false ↦ n ])
    both true true n = refl
    both true false n = refl
    both false true n = refl
    both false false n = refl

-- ---- what is not in use
-- the set of c where it is a container that is not in use
unfoldable pub unused_set : Tables → ℕ → ℕ
unused_set t c = elim (used t c) [ true ↦ 0 | false ↦ container_set c ]

module _ (t : Tables) where
  pub unused_none : (c : ℕ) → used t c ≡ true → 0 ≡ unused_set t c
  unfolding unused_set
  unused_none c h = sym (chosen_l (used t c) 0 (container_set c) h)

  pub unused_one : (c : ℕ) → used t c ≡ false → container_set c ≡ unused_set t c
  unfolding unused_set
  unused_one c h = sym (chosen_r (used t c) 0 (container_set c) h)

  unused_has : (v c : ℕ) → v < 64 → has (unused_set t v) c ≡ (eqb v c && not (used t v))
  unused_has v c l =
      by (used t v)
      (λ h. rw (← (unused_none v h), none_has c, h) (and_comm false (eqb v c)))
      (λ h. rw (← (unused_one v h), container_set_low v l, only_has v c, h) (and_comm true (eqb v c)))

  unused_lt : (v : ℕ) → v < 64 → unused_set t v < 2 ^ 64
  unused_lt v l = by (used t v) (λ h. rw (← (unused_none v h)) (omega arith)) (λ h. rw (← (unused_one v h), container_set_low v l) (only_lt v l))

  gone_has : (x c : ℕ) → c < 64 → has (gone_of t x) c ≡ (has x c && not (used t c))
  unfolding gone_of
  gone_has x c h = those_has _ c h

  gone_lt : (x : ℕ) → gone_of t x < 2 ^ 64
  unfolding gone_of
  gone_lt x = those_lt _

  pub gone_none : gone_of t 0 ≡ 0
  gone_none = set_ext _ 0 (gone_lt 0) (omega arith) (λ c h. gone_has 0 c h ∙ rw (none_has c) refl)

  -- of a file or pipe alone
  pub gone_file : (e : ℕ) → is_file e ≡ true → unused_set t e ≡ gone_of t (file_set e)
  gone_file e f =
      let l : e < 64 = (file_range e f).1 in
      set_ext _ _ (unused_lt e l) (gone_lt _)
      (λ c h.
      let here : has (gone_of t (file_set e)) c ≡ (eqb e c && not (used t c)) = gone_has (file_set e) c h ∙ rw (file_set_file e f, only_has e c) refl in
      let same : (eqb e c && not (used t e)) ≡ (eqb e c && not (used t c)) = by (eqb e c) (λ q. rw (eqb-true e c q) refl) (λ q. rw q refl) in
      unused_has e c l ∙ same ∙ sym here)

  pub gone_no_file : (e : ℕ) → is_file e ≡ false → 0 ≡ gone_of t (file_set e)
  gone_no_file e f = sym (ap (gone_of t) (file_set_none e f) ∙ gone_none)

  -- of two sets
  pub gone_both : (x y c : ℕ) → c < 64 → (has (gone_of t x) c || has (gone_of t y) c) ≡ has (gone_of t (x ∪ y)) c
  gone_both x y c h = rw (gone_has x c h, gone_has y c h, gone_has (x ∪ y) c h, union_has x y c) (sym (and-or_distrib_right (has x c) (has y c) (not (used t c))))

  -- of the files of a set, one of its members first
  gone_turn : (left v : ℕ) → v < 64 → has left v ≡ true → (c : ℕ) → c < 64 → (has (gone_of t (file_set v)) c || has (gone_of t (without left v ∩ files)) c) ≡ has (gone_of t (left ∩ files)) c
  gone_turn left v l m c h =
      gone_both (file_set v) (without left v ∩ files) c h ∙ gone_has (file_set v ∪ (without left v ∩ files)) c h ∙ ap (λ (b : Bool). b && not (used t c)) same ∙ sym (gone_has (left ∩ files) c h)
    where
      go : Dec (c ≡ v) → ((is_file c && eqb c v) || (has (without left v) c && is_file c)) ≡ (has left c && is_file c)
      go (yes d) = rw (without_at left v c h d, eq-eqb c v d, ap (has left) d, m, or-false, and_comm)
      go (no d) = rw (without_other left v c h d, ne_eqb c v d, and_comm (is_file c) false)

      same : has (file_set v ∪ (without left v ∩ files)) c ≡ has (left ∩ files) c
      same = union_has (file_set v) (without left v ∩ files) c ∙ rw (file_set_has v c, inter_has (without left v) files c, inter_has left files c, files_has c h) (go (ℕ_discrete c v))

-- ---- the loop: what is left leads to the whole
pub record Releasing (m₀ m : Maps) (held left : ℕ) : Type 0 where
  pub small : left < 2 ^ 64
  pub long : length m.items ≡ 64
  pub tables : m.tables ≡ m₀.tables
  pub same : cleared m.items (gone_of m₀.tables (left ∩ files)) ≡ cleared m₀.items (gone_of m₀.tables (held ∩ files))

pub releasing_start : (m : Maps) (held : ℕ) → held < 2 ^ 64 → length m.items ≡ 64 → Releasing m m held held
releasing_start m held h l = record { small = h; long = l; tables = refl; same = refl }

module _ {m₀ m : Maps} {held left : ℕ} (r : Releasing m₀ m held left) where
  pub releasing_more : (v later : ℕ) → TakesLowest left (Some v) later → (m' : Maps) → m' ≡ with_items m (cleared m.items (gone_of m.tables (file_set v))) → Releasing m₀ m' held later
  unfolding cleared
  releasing_more v later took m' e =
      let l : v < 64 = turn_below left r.small took.0 v took.1 in
      let g : later ≡ without left v = took.2 ∙ ap (without left) (sym took.1) in
      rw (e, g, r.tables)
      (record {
        small = without_lt left v;
        long = table_length 64 _;
        tables = refl;
        same = cleared_join m.items _ _ _ (gone_turn m₀.tables left v l (member left r.small took.0 v took.1)) ∙ r.same;
      })

  pub releasing_end : left ≡ 0 → m ≡ with_items m₀ (cleared m₀.items (gone_of m₀.tables (held ∩ files)))
  unfolding cleared
  releasing_end e =
      let empty : left ∩ files ≡ 0 = set_ext _ 0 (inter_lt left files r.small) (omega arith) (λ c h. inter_has left files c ∙ rw (e, none_has c) refl) in
      let none : m.items ≡ cleared m.items (gone_of m₀.tables (left ∩ files)) = cleared_none m.items r.long ∙ ap (cleared m.items) (sym (ap (gone_of m₀.tables) empty ∙ gone_none m₀.tables)) in
      ap₂ (λ (t : Tables) (l : List ℕ). record { tables = t; items = l }) r.tables (none ∙ r.same)

-- what a process holds are files and pipes
pub held_files : (t : Tables) (q : ℕ) → (c : ℕ) → c < 64 → has (held_by t q ∩ files) c ≡ has (held_by t q) c
unfolding held_by
held_files t q c h = inter_has x files c ∙ same _ _ (and_l (has x c) (has files c)) (λ e. and_i (has x c) (has files c) e (is_file_lem e))
  where
    d : List ℕ
    d = block t.descriptors q

    x : ℕ
    x = files_in d ∪ (feeders_of t q ∩ files)

    is_file_lem : has x c ≡ true → has files c ≡ true
    is_file_lem e =
        or_elim (has (files_in d) c) _ (λ z. files_has c h ∙ files_in_file d c z) (λ z. and_r (has (feeders_of t q) c) (has files c) (sym (inter_has (feeders_of t q) files c) ∙ z)) (sym (union_has (files_in d) (feeders_of t q ∩ files) c) ∙ e)

pub gone_held : (t u : Tables) (q : ℕ) → gone_of u (held_by t q ∩ files) ≡ gone_of u (held_by t q)
gone_held t u q = set_ext _ _ (gone_lt u _) (gone_lt u _) (λ c h. gone_has u _ c h ∙ ap (λ (b : Bool). b && not (used u c)) (held_files t q c h) ∙ sym (gone_has u _ c h))
