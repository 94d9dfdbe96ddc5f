-- A chain for each list of steps: the monitors that hold the states of the definitions, with the answers of the definitions. Such a monitor
-- is a value of the code's type, array by array, by what the invariant and the bounds say of the state (`held_holdable`); it stands for its
-- state (`views`); and it answers a record as the contract asks (`record_answered`).
use Prim.Native.Nat.{ℕ, suc, zero, ◌/◌, ◌%◌, ◌^◌, ◌≤◌, ◌<◌}
use native.Mathlib.Omega.{arith}
use mathlib.Core.Path.{◌≡◌, sym, ap, ◌∙◌}
use mathlib.Core.List.{List, [], ◌∷◌}
use mathlib.Core.Option.{none}
use mathlib.Core.Logic.{⊎_elim}
use mathlib.Core.Bool.{Bool, true}
use lib.Pow.{pow_pos}
use lib.Dec.{ltb, leb}
use lib.ListN.{get_or, length}
use borrow.Author.Tests.{ltb-true}
use Rattle.sets.proofs.Members.{union_lt}
use Rattle.flow.specs.Box.{State, is_file, is_target, Condition, forbid, separate, confine, Rule}
use Rattle.flow.specs.Rules.{lowest_broken}
use Rattle.flow.specs.Verdicts.{outcome, answer, next}
use Rattle.flow.specs.Contents.{Step, entry, memory, step_state, step_at, state_at}
use Rattle.flow.specs.Consequences.{RefusedExactly, StoppedKeeps}
use Rattle.flow.specs.Refusals.{items_fit}
use Rattle.flow.specs.Kept.{well_formed}
use Rattle.flow.proofs.Refused.{refusal_read, refused_exactly}
use Rattle.flow.proofs.Consequences.{stopped_keeps}
use Rattle.flow.proofs.Keeping.{Invariant, state_kept}
use Rattle.flow.proofs.Bools.{and_l, and_r}
use Rattle.flow.proofs.Rows.{target_lt, row_of_lem, Rows}
use Rattle.store.proofs.Packing.{maps_from, ways_from, counts_from, packed_lt}
use Rattle.flow.proofs.Entries.{Each}
use Rattle.terms.specs.Refusals.{number}
use Rattle.decision.specs.declared.Answer.{Answer}
use Rattle.decision.specs.declared.Answer.TheVariants.{Allow}
use Rattle.decision.specs.View.{view}
use Rattle.decision.specs.Answers.{Sound, AnswersRecord}
use Rattle.decision.specs.Logs.{InBytes}
use Rattle.decision.specs.Chains.{Numbers, Holdable, OfBytes, ChainExists}
use Rattle.decision.proofs.CodeLaws.{answer_is, NamedIn, word_is, gained_is, says_refused, says_inhibited, refusal_said}
use Rattle.decision.proofs.Stored.{held, held_view, parts_of, blank, field_of, sets_of, fields_of, words_of, fields_fit_lem, substitute_lt, formed_at}
use Rattle.decision.proofs.Telling.{kept_ruled, outcome_named, outcome_bytes}
use Rattle.decision.proofs.Bounds.{state_bounded, state_ruled}
use Rattle.decision.proofs.ListLaws.{Below, append_numbers, table_numbers, one_number}

-- ---- entries
each_below : (P : ℕ → Bool) → ((e : ℕ) → P e ≡ true → e < 64) → (l : List ℕ) → Each P l → Below 256 l
unfolding Each
each_below P f [] h k = omega arith
each_below P f (e ∷ l) h zero = ⊎_elim (λ q. omega arith) (λ q. let m : e < 64 = f e q in omega arith) h.0
each_below P f (e ∷ l) h (suc k) = each_below P f l h.1 k

file_lt : (e : ℕ) → is_file e ≡ true → e < 64
unfolding is_file
file_lt e h = ltb-true e 64 (and_r (leb 24 e) _ h)

maps_numbers : {live : ℕ} {reads boths : List (List ℕ)} → Rows live reads → Rows live boths → Numbers 16 (2 ^ 64) (maps_from reads boths)
unfolding maps_from
maps_numbers r b = table_numbers 16 _ (pow_pos 64) (λ p. union_lt _ _ (row_of_lem (r.row p)).fits (row_of_lem (b.row p)).fits)

ways_numbers : {live : ℕ} {rows : List (List ℕ)} → Rows live rows → Numbers 16 (2 ^ 64) (ways_from rows)
unfolding ways_from
ways_numbers r = table_numbers 16 _ (pow_pos 64) (λ p. (row_of_lem (r.row p)).fits)

counts_numbers : {live : ℕ} {rows : List (List ℕ)} → Rows live rows → Numbers 128 (2 ^ 64) (counts_from rows)
unfolding counts_from
counts_numbers r = table_numbers 128 _ (pow_pos 64) (λ k. packed_lt _ _ (r.row (k / 8)).limit)

-- ---- the fields of a rule
parts_lt : (c : Condition) → items_fit c ≡ true → ((parts_of c).0 < 256) × ((parts_of c).1 < 64)
unfolding items_fit parts_of
parts_lt (forbid i x) h = (omega arith, ltb-true i 64 h)
parts_lt (separate i j) h = (omega arith, ltb-true i 64 (and_l _ (ltb j 64) h))
parts_lt (confine i x) h = (omega arith, ltb-true i 64 h)

field_lt : (r : Rule) → well_formed r ≡ true → (n : ℕ) → field_of r n < 256
unfolding field_of
field_lt r w zero = (parts_lt r.condition (fields_fit_lem r w).0).0
field_lt r w (suc zero) = omega (arith, (parts_lt r.condition (fields_fit_lem r w).0).1)
field_lt r w (suc (suc zero)) = omega (arith, (fields_fit_lem r w).1)
field_lt r w (suc (suc (suc zero))) = omega (arith, substitute_lt r w)
field_lt r w (suc (suc (suc (suc k)))) = omega arith

module _ (steps : List Step) (h : (n : ℕ) → OfBytes (step_at steps n)) (k : ℕ) where
  pub held_holdable : Holdable (held (state_at steps k))
  unfolding held words_of sets_of fields_of
  held_holdable =
      let s = state_at steps k in
      let i = state_kept steps k in
      let b = state_bounded steps k in
      record {
        words =
            append_numbers (one_number s.tables.live b.live)
            (append_numbers b.items
            (append_numbers (maps_numbers i.linking.reads i.linking.boths)
            (append_numbers (ways_numbers i.linking.boths) (append_numbers (counts_numbers i.linking.reads) (counts_numbers i.linking.boths)))));
        descriptors = record { size = i.quiet.size; fits = each_below is_target target_lt s.tables.descriptors i.entries.described };
        names = record { size = b.names; fits = each_below is_file file_lt s.tables.names i.entries.named };
        sets = table_numbers 32 _ (pow_pos 64) (state_ruled steps h k).each;
        fields =
            append_numbers (table_numbers 128 _ (omega arith) (λ n. field_lt (get_or s.rules (n / 4) blank) (formed_at s.rules (n / 4) i.loadable) (n % 4)))
            (one_number (length s.rules) (let l : length s.rules ≤ 32 = i.counted in omega arith));
      }

-- ---- one record, from a state that a monitor holds to the state after it, where no rule is broken
module _ (s : State) (bytes : List ℕ) (named : NamedIn (outcome s bytes)) (v : view (held s) ≡ s) (w : view (held (next s bytes)) ≡ next s bytes) (unbroken : lowest_broken (next s bytes) ≡ none) where
  pub record_answered : AnswersRecord (held s) bytes (record { answer = answer_is (outcome s bytes); monitor = held (next s bytes) })
  unfolding Sound outcome answer next RefusedExactly StoppedKeeps
  record_answered =
      record {
        refusal = λ n. let h = refused_exactly s bytes n in let said = refusal_said (outcome s bytes) named n in rw v (λ e. sym (refusal_read s bytes) ∙ h.0 (said.0 e), λ e. said.1 (h.1 (refusal_read s bytes ∙ e)));
        refused_kept = λ r e. ap held ((stopped_keeps s bytes (number r)).0 (says_refused (outcome s bytes) named r e));
        inhibited_kept = λ n e. ap held ((stopped_keeps s bytes n).1 (says_inhibited (outcome s bytes) named n e));
        answer = λ h. rw v (word_is (outcome s bytes) named);
        gained = λ h. rw v (gained_is (outcome s bytes));
        state = λ h. w ∙ ap (λ (u : State). next u bytes) (sym v);
        sound = λ h. ap lowest_broken w ∙ unbroken;
      }

unfoldable pub answer_to : State → Step → Answer
answer_to s (entry bytes) = answer_is (outcome s bytes)
answer_to s memory = Allow 0

pub answer_bytes : (s : State) → Invariant s → (x : Step) → InBytes (answer_to s x)
unfolding answer_to InBytes
answer_bytes s i (entry bytes) = outcome_bytes s (kept_ruled s i) bytes
answer_bytes s i memory = pow_pos 64

-- ---- all steps
pub views : (steps : List Step) (k : ℕ) → view (held (state_at steps k)) ≡ state_at steps k
views steps k = held_view (state_at steps k) (state_kept steps k) (state_bounded steps k).items.size

pub chain_exists : ChainExists
unfolding ChainExists state_at step_state answer_to next
chain_exists steps =
    record {
      x = λ k. held (state_at steps k);
      a = λ n. answer_to (state_at steps n) (step_at steps n);
      chain =
          record {
            made = views steps 0;
            answers = λ n bytes e. rw e (record_answered (state_at steps n) bytes (outcome_named (state_at steps n) (kept_ruled (state_at steps n) (state_kept steps n)) bytes) (views steps n) (rw e at (views steps (suc n))) (rw e at (state_kept steps (suc n)).unbroken));
            rests = λ n e. rw e;
          };
      told = λ n. answer_bytes (state_at steps n) (state_kept steps n) (step_at steps n);
      holdable = held_holdable steps;
    }
