-- 02, Paper 4: a count rises to 255 and no further, and a child has it. By laws, not by computing 255 records.
use Prim.Native.Nat.{ℕ, zero, suc, ◌+◌, ◌-◌, ◌<◌}
use native.Mathlib.Omega.{arith}
use mathlib.Core.Path.{◌≡◌, refl, ap, ap₂, subst, ◌∙◌}
use mathlib.Core.Bool.{Bool, true, false, ◌&&◌, ◌||◌}
use mathlib.Core.List.{List, [], ◌∷◌, ◌++◌}
use mathlib.Core.Option.{none, some}
use lib.ListN.{get_or, length, set, replicate}
use lib.Seq.{get_or-set_same}
use borrow.Author.Tests.{lt-ltb, lt-leb, ne_eqb}
use Rattle.sets.specs.Sets.{has, only, members, ◌∪◌}
use Rattle.sets.proofs.Members.{none_has}
use Rattle.sets.proofs.Rising.{members_none}
use Rattle.flow.specs.Lists.{◌⇒◌, first_that}
use Rattle.flow.specs.Box.{container_of, is_device, is_file, is_target, to_read, Tables, State, fresh, items_of, holds, is_live, row_of, mappings, descriptor, is_open}
use Rattle.flow.specs.Links.{reach}
use Rattle.flow.specs.Calls.{Kind, map_read, unmap, fork, start, create, kind_number, Call, is_kind, with_live, with_descriptors, with_row, raised, lowered, sort_of, block, tables_by, flow_by, moved, Change, change, after}
use Rattle.flow.specs.Rules.{first_broken, lowest_broken}
use Rattle.flow.specs.Records.{a_call, byte_at, tag_of, stated_length, record_length, value_of, cut_short, known_tag, tag_length, wrong_length, kinds, kind_of, call_by, call_from, call_in, frame_tests, content_of, reading_by, reading}
use Rattle.flow.specs.Refusals.{in_range, ranges, fields_fit, dead, taken, need_of, missing, same_descriptors, no_file, full, call_tests}
use Rattle.flow.specs.Verdicts.{Outcome, refuses, allows, gained_from, verdict_by, verdict_at, verdict, outcome_of_call, outcome_of, outcome, Answer, refused, allow, answer_of, answer, state_after, next, answer_all}
use Rattle.flow.specs.Contents.{entry, step_state}
use Rattle.flow.specs.Runs.{call, filling, Filled}
use Rattle.flow.proofs.Bools.{by, no_both, and_r, or_false_i}
use Rattle.flow.proofs.Moves.{in_list, moved_in, source, source_lt, gift_holds, copy_holds}
use Rattle.flow.proofs.After.{after_held}
use Rattle.flow.proofs.Gaining.{adds_none}
use Rattle.flow.proofs.Mapping.{sized_of, row_same, rows_other, wide_of, child_row}
use Rattle.flow.proofs.Blocks.{put_same, put_other, block_length, block_at}
use Rattle.flow.proofs.Keeping.{Invariant, fresh_empty, fresh_kept, step_kept}

-- ---- a call that is read, where no rule is loaded: it is allowed, or refused by its tests
module _ (s : State) (bytes : List ℕ) (q : Call) (r : reading bytes ≡ a_call (some q)) where
  pub allowed_by : first_that (call_tests s.tables (some q)) ≡ none → s.rules ≡ [] → outcome s bytes ≡ allows (change s.tables q) (gained_from s (after s (change s.tables q)))
  unfolding outcome outcome_of outcome_of_call verdict verdict_at verdict_by lowest_broken first_broken after
  allowed_by h e = rw (r, h, e) refl

  pub refused_by : (n : ℕ) → first_that (call_tests s.tables (some q)) ≡ some n → outcome s bytes ≡ refuses n
  unfolding outcome outcome_of outcome_of_call
  refused_by n h = rw (r, h) refl

-- ---- nothing is held anywhere, and so nothing gains
abbrev Empty : State → Type 0
Empty s = (c i : ℕ) → c < 64 → holds s c i ≡ false

empty_by : (s : State) (x : Change) → ((v i : ℕ) → v < 64 → in_list (moved_in s x.flow) v i ≡ false) → Empty (after s x)
empty_by s x m c i h = by (holds (after s x) c i) (λ z. no_both (after_held s x c i h z) (m c i h)) (λ z. z)

none_given : (a b c : Bool) → a ≡ false → c ≡ false → (a || (b && c)) ≡ false
none_given a b c e f = or_false_i a (b && c) e (by (b && c) (λ z. no_both (and_r b c z) f) (λ z. z))

told_none : (s t : State) (o : Outcome) (x : Change) → o ≡ allows x (gained_from s t) → Empty t → answer_of o ≡ allow 0
unfolding answer_of
told_none s t o x e n = ap answer_of e ∙ ap (λ (z : ℕ). allow (length (members z))) (adds_none s t (λ c i h z. no_both z (n c i h))) ∙ ap (λ (z : List ℕ). allow (length z)) members_none

-- ---- the set of live processes is l, descriptor 0 of process p leads to 24, which p maps for reading n times, and no rule is loaded
pub record Ready (l p n : ℕ) (s : State) : Type 0 where
  pub kept : Invariant s
  pub live : s.tables.live ≡ l
  pub leads : descriptor s.tables p 0 ≡ 24
  pub free : s.rules ≡ []
  pub counted : mappings s.tables to_read p 24 ≡ n
  pub empty : Empty s

abbrev asked : Kind → ℕ → ℕ → Call
asked k p a = record { kind = k; process = p; a = a; b = 0; c = 0 }

-- what the records say
mapping : (p : ℕ) → reading (call map_read p 0 0 0) ≡ a_call (some (asked map_read p 0))
unfolding call reading reading_by frame_tests content_of cut_short known_tag wrong_length tag_length tag_of stated_length record_length byte_at value_of call_in call_from call_by kind_of kinds kind_number first_that ◌⇒◌
mapping p = refl

unmapping : (p : ℕ) → reading (call unmap p 24 0 0) ≡ a_call (some (asked unmap p 24))
unfolding call reading reading_by frame_tests content_of cut_short known_tag wrong_length tag_length tag_of stated_length record_length byte_at value_of call_in call_from call_by kind_of kinds kind_number first_that ◌⇒◌
unmapping p = refl

forking : reading (call fork 0 1 0 0) ≡ a_call (some (asked fork 0 1))
unfolding call reading reading_by frame_tests content_of cut_short known_tag wrong_length tag_length tag_of stated_length record_length byte_at value_of call_in call_from call_by kind_of kinds kind_number first_that ◌⇒◌
forking = refl

module _ (l p n : ℕ) (s : State) (hp : p < 16) (alive : has l p ≡ true) (r : Ready l p n s) where
  map_free : n < 255 → first_that (call_tests s.tables (some (asked map_read p 0))) ≡ none
  unfolding call_tests first_that ◌⇒◌ fields_fit ranges in_range dead is_live is_kind kind_number taken need_of missing is_open is_target is_device is_file same_descriptors no_file full descriptor mappings row_of
  map_free b = rw (lt-ltb p 16 hp, r.live, alive, r.leads, r.counted, lt-leb 255 n b) refl

  map_full : n ≡ 255 → first_that (call_tests s.tables (some (asked map_read p 0))) ≡ some 17
  unfolding call_tests first_that ◌⇒◌ fields_fit ranges in_range dead is_live is_kind kind_number taken need_of missing is_open is_target is_device is_file same_descriptors no_file full descriptor mappings row_of
  map_full e = rw (lt-ltb p 16 hp, r.live, alive, r.leads, r.counted, e) refl

  unmap_free : 0 < n → first_that (call_tests s.tables (some (asked unmap p 24))) ≡ none
  unfolding call_tests first_that ◌⇒◌ fields_fit ranges in_range dead is_live is_kind kind_number taken need_of missing sort_of same_descriptors no_file full mappings row_of
  unmap_free b = rw (lt-ltb p 16 hp, r.live, alive, r.counted, ne_eqb n 0 (λ e. let z : ⊥ = omega arith in z)) refl

  -- one count set
  set_count : (m : ℕ) (t : Tables) → t ≡ with_row s.tables to_read p (set (row_of s.tables to_read p) 24 m) → mappings t to_read p 24 ≡ m
  unfolding mappings
  set_count m t e =
      let k = r.kept.linking in
      let w : length (row_of s.tables to_read p) ≡ 64 = wide_of s.tables k p hp to_read in
      rw (e, row_same s.tables (sized_of k) p hp to_read (set (row_of s.tables to_read p) 24 m)) (get_or-set_same (row_of s.tables to_read p) 24 m 0 (omega arith))

  map_empty : Empty (after s (change s.tables (asked map_read p 0)))
  unfolding change flow_by
  map_empty =
      empty_by s _ (λ v i h. gift_holds s (descriptor s.tables p 0) (container_of p) v i h ∙ none_given (holds s v i) (has (reach s.tables (container_of p)) v) _ (r.empty v i h) (r.empty (descriptor s.tables p 0) i (rw r.leads (omega arith))))

  unmap_empty : Empty (after s (change s.tables (asked unmap p 24)))
  unfolding change flow_by moved holds items_of
  unmap_empty = empty_by s _ r.empty

  -- it maps 24 once more, below 255
  pub mapped_more : n < 255 → (answer s (call map_read p 0 0 0) ≡ allow 0) × Ready l p (suc n) (next s (call map_read p 0 0 0))
  unfolding answer answer_of next outcome state_after step_state after change tables_by raised with_row descriptor
  mapped_more b =
      let e = allowed_by s (call map_read p 0 0 0) (asked map_read p 0) (mapping p) (map_free b) r.free in (
        told_none s _ _ _ e map_empty,
        record {
          kept = step_kept s (entry (call map_read p 0 0 0)) r.kept;
          live = rw e r.live;
          leads = rw e r.leads;
          free = rw e r.free;
          empty = rw e map_empty;
          counted = rw e (set_count (suc n) _ (rw (r.leads, r.counted) refl));
        },
      )

  -- at 255 it is refused, and nothing changes
  pub mapped_full : n ≡ 255 → (answer s (call map_read p 0 0 0) ≡ refused 17) × (next s (call map_read p 0 0 0) ≡ s)
  unfolding answer answer_of next state_after
  mapped_full e = let f = refused_by s (call map_read p 0 0 0) (asked map_read p 0) (mapping p) 17 (map_full e) in (ap answer_of f, ap (state_after s) f)

  pub unmapped_one : 0 < n → (answer s (call unmap p 24 0 0) ≡ allow 0) × Ready l p (n - 1) (next s (call unmap p 24 0 0))
  unfolding answer answer_of next outcome state_after step_state after change tables_by lowered sort_of with_row descriptor
  unmapped_one b =
      let e = allowed_by s (call unmap p 24 0 0) (asked unmap p 24) (unmapping p) (unmap_free b) r.free in (
        told_none s _ _ _ e unmap_empty,
        record {
          kept = step_kept s (entry (call unmap p 24 0 0)) r.kept;
          live = rw e r.live;
          leads = rw e r.leads;
          free = rw e r.free;
          empty = rw e unmap_empty;
          counted = rw e (set_count (n - 1) _ (rw r.counted refl));
        },
      )

-- process 0 forks process 1: both have the count
module _ (n : ℕ) (s : State) (r : Ready 1 0 n s) where
  fork_free : first_that (call_tests s.tables (some (asked fork 0 1))) ≡ none
  unfolding has call_tests first_that ◌⇒◌ fields_fit ranges in_range dead is_live is_kind kind_number taken need_of missing same_descriptors no_file full
  fork_free = rw r.live refl

  -- the rows of both
  abbrev pair : Tables
  pair = tables_by s.tables 0 1 0 0 fork

  parent : mappings pair to_read 0 24 ≡ mappings s.tables to_read 0 24
  unfolding tables_by with_live with_descriptors mappings row_of
  parent = ap (λ (row : List ℕ). get_or row 24 0) (rows_other s.tables to_read 1 0 _ _ (λ z. let y : ⊥ = omega arith in y))

  own : mappings pair to_read 1 24 ≡ mappings s.tables to_read 0 24
  unfolding tables_by with_live with_descriptors mappings row_of
  own = ap (λ (row : List ℕ). get_or row 24 0) (child_row s.tables r.kept.linking 0 1 (omega arith) (omega arith) to_read)

  fork_empty : Empty (after s (change s.tables (asked fork 0 1)))
  unfolding change flow_by
  fork_empty =
      empty_by s _ (λ v i h. copy_holds s (container_of 0) (container_of 1) v i h ∙ r.empty (source (container_of 0) (container_of 1) v) i (source_lt (container_of 0) (container_of 1) v (omega arith) h))

  pub forked : (answer s (call fork 0 1 0 0) ≡ allow 0) × Ready 3 0 n (next s (call fork 0 1 0 0)) × Ready 3 1 n (next s (call fork 0 1 0 0))
  unfolding ◌∪◌ only answer answer_of next outcome state_after step_state after change tables_by with_live with_descriptors descriptor
  forked =
      let e = allowed_by s (call fork 0 1 0 0) (asked fork 0 1) forking fork_free r.free in
      let k = r.kept.linking in
      let size = r.kept.quiet.size in
      let l = s.tables.descriptors in (
        told_none s _ _ _ e fork_empty,
        record {
          kept = step_kept s (entry (call fork 0 1 0 0)) r.kept;
          live = rw (e, r.live) refl;
          leads = rw e (put_other l (block l 0) 1 size (block_length l 0 size (omega arith)) (omega arith) 0 0 (omega arith) (λ z. let y : ⊥ = omega arith in y) ∙ r.leads);
          free = rw e r.free;
          empty = rw e fork_empty;
          counted = rw e (parent ∙ r.counted);
        },
        record {
          kept = step_kept s (entry (call fork 0 1 0 0)) r.kept;
          live = rw (e, r.live) refl;
          leads = rw e (put_same l (block l 0) 1 size (block_length l 0 size (omega arith)) (omega arith) 0 (omega arith) ∙ block_at l 0 0 (omega arith) ∙ r.leads);
          free = rw e r.free;
          empty = rw e fork_empty;
          counted = rw e (own ∙ r.counted);
        },
      )

-- ---- the run
-- one record, then the rest
step : (s : State) (r : List ℕ) (rest : List (List ℕ)) (a : Answer) (told : List Answer) → answer s r ≡ a → (answer_all (next s r) rest).answers ≡ told → (answer_all s (r ∷ rest)).answers ≡ a ∷ told
unfolding answer_all answer next
step s r rest a told e f = ap₂ (λ (x : Answer) (y : List Answer). x ∷ y) e f

nothing_left : (s : State) → (answer_all s []).answers ≡ []
unfolding answer_all
nothing_left s = refl

-- as many mappings as lack to 255
many : (n m : ℕ) (s : State) (rest : List (List ℕ)) (told : List Answer) → Ready 1 0 m s → m + n ≡ 255 → ((t : State) → Ready 1 0 255 t → (answer_all t rest).answers ≡ told)
    → (answer_all s (replicate n (call map_read 0 0 0 0) ++ rest)).answers ≡ replicate n (allow 0) ++ told
unfolding has
many zero m s rest told r e k = let z : m ≡ 255 = omega arith in k s (subst (λ (x : ℕ). Ready 1 0 x s) z r)
many (suc n) m s rest told r e k =
    let f = mapped_more 1 0 m s (omega arith) refl r (omega arith) in
    step s (call map_read 0 0 0 0) _ (allow 0) _ f.0 (many n (suc m) (next s (call map_read 0 0 0 0)) rest told f.1 (omega arith) k)

-- what comes behind them
child_last : (s : State) → Ready 3 1 255 s → (answer_all s (call unmap 1 24 0 0 ∷ call map_read 1 0 0 0 ∷ call map_read 1 0 0 0 ∷ [])).answers ≡ allow 0 ∷ allow 0 ∷ refused 17 ∷ []
unfolding has
child_last s r =
    let u = unmapped_one 3 1 255 s (omega arith) refl r (omega arith) in
    let v : State = next s (call unmap 1 24 0 0) in
    let m = mapped_more 3 1 254 v (omega arith) refl u.1 (omega arith) in
    let w : State = next v (call map_read 1 0 0 0) in
    step s (call unmap 1 24 0 0) _ (allow 0) _ u.0
    (step v (call map_read 1 0 0 0) _ (allow 0) _ m.0 (step w (call map_read 1 0 0 0) [] (refused 17) [] (mapped_full 3 1 255 w (omega arith) refl m.1 refl).0 (nothing_left _)))

-- a record that is refused, and the rest from the same state
stays : (s : State) (r : List ℕ) (rest : List (List ℕ)) (told : List Answer) → (answer s r ≡ refused 17) × (next s r ≡ s) → (answer_all s rest).answers ≡ told → (answer_all s (r ∷ rest)).answers ≡ refused 17 ∷ told
stays s r rest told f e = step s r rest (refused 17) told f.0 (rw f.1 e)

both_last : (s : State) → Ready 1 0 255 s
    → (answer_all s (call map_read 0 0 0 0 ∷ call fork 0 1 0 0 ∷ call map_read 0 0 0 0 ∷ call map_read 1 0 0 0 ∷ call unmap 1 24 0 0 ∷ call map_read 1 0 0 0 ∷ call map_read 1 0 0 0 ∷ [])).answers
    ≡ refused 17 ∷ allow 0 ∷ refused 17 ∷ refused 17 ∷ allow 0 ∷ allow 0 ∷ refused 17 ∷ []
unfolding has
both_last s r =
    let f = forked 255 s r in
    stays s _ _ _ (mapped_full 1 0 255 s (omega arith) refl r refl)
    (step s _ _ (allow 0) _ f.0
    (stays _ _ _ _ (mapped_full 3 0 255 _ (omega arith) refl f.1 refl) (stays _ _ _ _ (mapped_full 3 1 255 _ (omega arith) refl f.2 refl) (child_last _ f.2))))

-- the state that process 0 maps 24 in, once it is computed
abbrev opened : State
opened = next (next fresh (call start 0 0 0 0)) (call create 0 0 0 24)

unfoldable pub Opened : Type 0
Opened =
    (answer fresh (call start 0 0 0 0) ≡ allow 0) × (answer (next fresh (call start 0 0 0 0)) (call create 0 0 0 24) ≡ allow 0) × (opened.tables.live ≡ 1)
    × (descriptor opened.tables 0 0 ≡ 24) × (opened.rules ≡ []) × (mappings opened.tables to_read 0 24 ≡ 0) × (opened.items ≡ fresh.items)

bare_holds : (s t : State) → s.items ≡ t.items → t ≡ fresh → (c i : ℕ) → holds s c i ≡ false
unfolding holds items_of
bare_holds s t e f c i = rw (e, f) (ap (λ (x : ℕ). has x i) (fresh_empty c) ∙ none_has i)

pub filled : Opened → Filled
unfolding Opened Filled filling next step_state
filled o =
    let empty : Empty opened = λ c i h. bare_holds opened fresh o.6 refl c i in
    let k = step_kept (next fresh (call start 0 0 0 0)) (entry (call create 0 0 0 24)) (step_kept fresh (entry (call start 0 0 0 0)) fresh_kept) in
    step fresh _ _ (allow 0) _ o.0
    (step _ _ _ (allow 0) _ o.1
    (many 255 0 opened _ _ (record { kept = k; live = o.2; leads = o.3; free = o.4; counted = o.5; empty = empty }) refl both_last))
