-- Every step keeps what Kept says.
use Prim.Native.Nat.{ℕ, zero, suc, ◌^◌, ◌≤◌, ◌<◌, zero-le}
use native.Mathlib.Omega.{arith}
use native.Mathlib.Decide.{dec_lt}
use mathlib.Core.Path.{◌≡◌, refl, ap, ◌∙◌}
use mathlib.Core.Bool.{true, false}
use mathlib.Core.List.{List, [], ◌∷◌, ◌++◌}
use mathlib.Core.Option.{Option, none}
use lib.ListN.{get_or, length, replicate, length-append, length-replicate, get_or-replicate, get_or-eq_default}
use Rattle.sets.specs.Sets.{has}
use Rattle.sets.proofs.Members.{none_has}
use Rattle.flow.specs.Box.{is_file, is_target, closed, slot, Rule, State, no_mappings, no_tables, fresh, items_of, holds, is_live, mappings, feeds, descriptor}
use Rattle.flow.specs.Calls.{Call, Change, after}
use Rattle.flow.specs.Rules.{broken, first_broken, lowest_broken}
use Rattle.flow.specs.Records.{call_of}
use Rattle.flow.specs.Verdicts.{Outcome, refuses, loads, allows, inhibits, modifies, outcome, with_rule, state_after}
use Rattle.flow.specs.Contents.{Step, entry, memory, step_state, step_at, state_at}
use Rattle.flow.specs.Kept.{well_formed, all_well_formed, Kept, EveryRecordKeeps}
use Rattle.flow.proofs.Bools.{and_l, and_r, and_i, no_both}
use Rattle.flow.proofs.Judging.{none_broken, one_more}
use Rattle.flow.proofs.Reach.{reach_exact}
use Rattle.flow.proofs.Rows.{Rows}
use Rattle.flow.proofs.Counts.{zeros, Counts, none_length, counts_none, counts_nil}
use Rattle.flow.proofs.Use.{linked_used, linked_joins, fed_row}
use Rattle.flow.proofs.Moves.{Along, moved_along}
use Rattle.flow.proofs.Mapping.{counts_of}
use Rattle.flow.proofs.After.{Linking, Bare, after_bare, after_along}
use Rattle.flow.proofs.Entries.{Entries, each_closed, each_at}
use Rattle.flow.proofs.Blocks.{Quiet}
use Rattle.flow.proofs.Outcomes.{Made, Sound, outcome_sound}

-- what the proofs carry from state to state
pub record Invariant (s : State) : Type 0 where
  pub linking : Linking s.tables
  pub entries : Entries s.tables
  pub quiet : Quiet s.tables
  pub along : Along s.tables s.items
  pub bare : Bare s
  pub unbroken : lowest_broken s ≡ none
  pub loadable : all_well_formed s.rules ≡ true
  pub counted : length s.rules ≤ 32

pub fed_bound : (s : State) → Linking s.tables → (p : ℕ) → feeds s.tables p < 2 ^ 64
fed_bound s k p = (fed_row s.tables k.reads k.boths p).fits

-- ---- the fresh state
pub fresh_empty : (c : ℕ) → items_of fresh c ≡ 0
unfolding fresh items_of
fresh_empty c = zeros 64 c

fresh_rows : Rows 0 (replicate 16 no_mappings)
fresh_rows =
    record {
      size = length-replicate {A = List ℕ} 16 no_mappings;
      wide = λ p h. ap length (get_or-replicate 16 p no_mappings [] h) ∙ none_length;
      row = λ p. one p (dec_lt p 16);
    }
  where
    one : (p : ℕ) → Dec (p < 16) → Counts 0 p (get_or (replicate 16 no_mappings) p [])
    one p (yes h) = rw (get_or-replicate 16 p no_mappings [] h) (counts_none 0 p)
    one p (no h) = rw (get_or-eq_default (replicate 16 no_mappings) [] {n = p} (omega (arith, length-replicate {A = List ℕ} 16 no_mappings))) (counts_nil 0 p)

pub fresh_kept : Invariant fresh
unfolding fresh no_tables lowest_broken first_broken all_well_formed items_of
fresh_kept =
    record {
      linking = record { reads = fresh_rows; boths = fresh_rows };
      entries = record { described = each_closed is_target 512; named = each_closed is_file 128 };
      quiet = record { size = length-replicate {A = ℕ} 512 closed; dead = λ p d hp hd h. get_or-replicate 512 (slot p d) closed closed (omega arith) };
      along = λ u v i hu hv l h. no_both h (ap (λ (x : ℕ). has x i) (zeros 64 u) ∙ none_has i);
      bare = λ c hc e. zeros 64 c;
      unbroken = refl;
      loadable = refl;
      counted = zero-le;
    }

-- ---- a change
made_kept : (s : State) (q : Option Call) (x : Change) → Invariant s → Made s q x → Invariant (after s x)
unfolding holds items_of after
made_kept s q x k m =
    record {
      linking = m.linking;
      entries = m.entries;
      quiet = m.quiet;
      along = after_along s x m.linking (moved_along s (fed_bound s k.linking) x.tables k.along x.flow m.fit);
      bare = after_bare s k.linking k.bare x m.fit;
      unbroken = m.unbroken;
      loadable = k.loadable;
      counted = k.counted;
    }

-- ---- a rule
one_formed : (rs : List Rule) (x : Rule) → all_well_formed rs ≡ true → well_formed x ≡ true → all_well_formed (rs ++ (x ∷ [])) ≡ true
unfolding all_well_formed
one_formed [] x e f = and_i (well_formed x) true f refl
one_formed (r ∷ rs) x e f = and_i (well_formed r) _ (and_l _ (all_well_formed rs) e) (one_formed rs x (and_r (well_formed r) _ e) f)

rule_kept : (s : State) (x : Rule) → Invariant s → broken s x ≡ false → well_formed x ≡ true → length s.rules < 32 → Invariant (with_rule s x)
unfolding with_rule holds items_of lowest_broken
rule_kept s x k e f l =
    record {
      linking = k.linking;
      entries = k.entries;
      quiet = k.quiet;
      along = k.along;
      bare = k.bare;
      unbroken = none_broken (with_rule s x) s (λ v i h m. m) 0 _ (one_more s 0 s.rules x k.unbroken e);
      loadable = one_formed s.rules x k.loadable f;
      counted = rw (length-append s.rules (x ∷ [])) (omega arith);
    }

-- ---- a step
pub outcome_kept : (s : State) (q : Option Call) (o : Outcome) → Invariant s → Sound s q o → Invariant (state_after s o)
unfolding state_after Sound
outcome_kept s q (refuses n) k h = k
outcome_kept s q (loads n r) k h = rule_kept s r k h.0 h.1 h.2
outcome_kept s q (allows x g) k h = made_kept s q x k h
outcome_kept s q (inhibits n) k h = k
outcome_kept s q (modifies n c x g) k h = made_kept s q x k h

pub sound : (s : State) → Invariant s → (bytes : List ℕ) → Sound s (call_of bytes) (outcome s bytes)
sound s k bytes = outcome_sound s k.linking k.entries k.quiet bytes k.loadable

pub step_kept : (s : State) (x : Step) → Invariant s → Invariant (step_state s x)
unfolding step_state
step_kept s (entry bytes) k = outcome_kept s (call_of bytes) (outcome s bytes) k (sound s k bytes)
step_kept s memory k = k

pub state_kept : (steps : List Step) (k : ℕ) → Invariant (state_at steps k)
unfolding state_at
state_kept steps zero = fresh_kept
state_kept steps (suc k) = step_kept (state_at steps k) (step_at steps k) (state_kept steps k)

pub invariant-keeps : (s : State) → Invariant s → Kept s
unfolding holds items_of descriptor is_live mappings
invariant-keeps s k =
    record {
      along = k.along;
      bare = k.bare;
      unbroken = k.unbroken;
      loadable = k.loadable;
      counted = k.counted;
      live = linked_used s.tables k.linking.reads k.linking.boths;
      joined = linked_joins s.tables k.linking.reads k.linking.boths;
      limited = λ x p c. (counts_of s.tables k.linking p x).limit c;
      mapping = λ x p c h. let r = counts_of s.tables k.linking p x in (r.lives c h, r.maps c h);
      described = λ n. each_at is_target s.tables.descriptors n k.entries.described;
      named = λ n. each_at is_file s.tables.names n k.entries.named;
      dead = k.quiet.dead;
      reached = reach_exact s.tables (fed_bound s k.linking);
    }

pub every_record_keeps : EveryRecordKeeps
unfolding EveryRecordKeeps
every_record_keeps steps k = invariant-keeps (state_at steps k) (state_kept steps k)
