-- Document 01's form of map both and the sequence: the same along every list of steps, and not in every state.
use Prim.Native.Nat.{ℕ, zero, suc}
use mathlib.Core.Path.{◌≡◌, refl, sym, ap, ◌∙◌}
use mathlib.Core.Bool.{Bool, true, false, not, ◌&&◌}
use mathlib.Core.List.{List}
use mathlib.Core.Option.{Option, none, some}
use Rattle.flow.specs.Lists.{first_that}
use Rattle.flow.specs.Box.{container_of, Tables, State, descriptor}
use Rattle.flow.specs.Links.{given, given_from, used}
use Rattle.flow.specs.MapBoth.{in_sequence}
use Rattle.flow.specs.Calls.{map_both, Call, Flow, still, gift, arrival, exchange, copy, clear, tables_by, flow_by, Change, change, moved, ended, items_after, after}
use Rattle.flow.specs.Records.{Reading, unreadable, a_call, a_rule, reading, call_of}
use Rattle.flow.specs.Refusals.{call_tests}
use Rattle.flow.specs.Verdicts.{Outcome, refuses, loads, allows, inhibits, modifies, verdict_at, verdict, outcome_of_call, outcome_of, outcome, state_after, next}
use Rattle.flow.specs.Contents.{Step, entry, memory, step_state, step_at, state_at}
use Rattle.flow.specs.AtOnce.{MapBothInSequence, moved_at_once, after_at_once, verdict_at_once, outcome_of_call_at_once, outcome_of_at_once, outcome_at_once, state_after_at_once, next_at_once, step_state_at_once, state_at_once, FormsAgree}
use Rattle.flow.proofs.TableLaws.{table_length, is_table}
use Rattle.flow.proofs.Moves.{Fit}
use Rattle.flow.proofs.MapBoth.{as_at_once}
use Rattle.flow.proofs.Accepted.{Accepted, accepted, fits_after}
use Rattle.flow.proofs.Outcomes.{Sound}
use Rattle.flow.proofs.Keeping.{Invariant, fed_bound, sound, state_kept}

-- ---- the sequence on whole states
-- a gift that changes no table
given_after : (t : Tables) (l : List ℕ) (g u : ℕ) → items_after t l (record { tables = t; flow = gift g u }) ≡ given_from t l g u
unfolding items_after moved ended given
given_after t l g u = sym (is_table 64 _ _ (table_length 64 _) (λ c h. sym (kept (used t c) _)))
  where
    kept : (b : Bool) (x : ℕ) → elim (b && not b) as (λ z. ℕ) [ true ↦ 0 | false ↦ x ] ≡ x
    kept true x = refl
    kept false x = refl

pub map_both_in_sequence : MapBothInSequence
unfolding MapBothInSequence change tables_by flow_by after items_after moved in_sequence
map_both_in_sequence s p a =
    let t : Tables = s.tables in
    let c : ℕ = descriptor t p a in
    ap (λ (l : List ℕ). after (record { tables = t; items = l; rules = s.rules }) (record { tables = tables_by t p a 0 0 map_both; flow = still }))
    (sym (given_after t _ (container_of p) c ∙ ap (λ (l : List ℕ). given_from t l (container_of p) c) (given_after t s.items c (container_of p))))

-- ---- one state
module _ (s : State) (k : Invariant s) where
  moved_same : (t : Tables) (f : Flow) → Fit s.tables t f → moved_at_once s.tables s.items f ≡ moved s.tables s.items f
  unfolding moved_at_once moved Fit
  moved_same t still fit = refl
  moved_same t (gift g u) fit = refl
  moved_same t (arrival u i) fit = refl
  moved_same t (exchange u v) fit = sym (as_at_once s.tables (fed_bound s k.linking) s.items k.along u v fit.0 fit.1)
  moved_same t (copy u v) fit = refl
  moved_same t (clear u) fit = refl

  after_same : (x : Change) → Fit s.tables x.tables x.flow → after_at_once s x ≡ after s x
  unfolding after_at_once after items_after moved
  after_same x fit =
      ap (λ (l : List ℕ). after (record { tables = s.tables; items = l; rules = s.rules }) (record { tables = x.tables; flow = still })) (moved_same x.tables x.flow fit)

  verdict_same : (q : Call) → Accepted s.tables q → verdict_at_once s q ≡ verdict s q
  unfolding verdict_at_once verdict change
  verdict_same q h =
      ap (verdict_at s q) (after_same (change s.tables q) (fits_after s.tables k.linking q.process q.a q.b q.c q.kind h))

  call_same : (q : Option Call) (o : Option ℕ) → first_that (call_tests s.tables q) ≡ o → outcome_of_call_at_once s q o ≡ outcome_of_call s q o
  unfolding outcome_of_call_at_once outcome_of_call
  call_same (some q) none e = verdict_same q (accepted s.tables q e)
  call_same none none e = refl
  call_same (some q) (some n) e = refl
  call_same none (some n) e = refl

  reading_same : (x : Reading) → outcome_of_at_once s x ≡ outcome_of s x
  unfolding outcome_of_at_once outcome_of
  reading_same (unreadable n) = refl
  reading_same (a_call q) = call_same q _ refl
  reading_same (a_rule r) = refl

  outcome_same : (bytes : List ℕ) → outcome_at_once s bytes ≡ outcome s bytes
  unfolding outcome_at_once outcome
  outcome_same bytes = reading_same (reading bytes)

  left_same : (q : Option Call) (o : Outcome) → Sound s q o → state_after_at_once s o ≡ state_after s o
  unfolding state_after_at_once state_after Sound
  left_same q (refuses n) m = refl
  left_same q (loads n r) m = refl
  left_same q (allows x g) m = after_same x m.fit
  left_same q (inhibits n) m = refl
  left_same q (modifies n c x g) m = after_same x m.fit

  next_same : (bytes : List ℕ) → next_at_once s bytes ≡ next s bytes
  unfolding next_at_once next
  next_same bytes = rw (outcome_same bytes) (left_same (call_of bytes) (outcome s bytes) (sound s k bytes))

  step_same : (x : Step) → step_state_at_once s x ≡ step_state s x
  unfolding step_state_at_once step_state next
  step_same (entry bytes) = next_same bytes
  step_same memory = refl

-- ---- along a list of steps
state_same : (steps : List Step) (k : ℕ) → state_at_once steps k ≡ state_at steps k
unfolding state_at_once state_at
state_same steps zero = refl
state_same steps (suc k) = rw (state_same steps k) (step_same (state_at steps k) (state_kept steps k) (step_at steps k))

pub forms_agree : FormsAgree
unfolding FormsAgree
forms_agree steps k =
    let kept = state_kept steps k in
    (state_same steps k, λ bytes. rw (state_same steps k) (outcome_same (state_at steps k) kept bytes, next_same (state_at steps k) kept bytes))
