-- Short consequences of the definitions.
use Prim.Native.Nat.{ℕ, zero, suc, ◌≤◌, ◌<◌}
use native.Mathlib.Omega.{arith}
use native.Mathlib.Nat.{le_refl, not-suc-le-zero, le_of_suc-le-suc}
use mathlib.Core.Path.{◌≡◌, refl, sym, ap, ◌∙◌}
use mathlib.Core.Bool.{Bool, true, false, ◌&&◌}
use mathlib.Core.List.{List, [], ◌∷◌, ◌++◌, map, append-nil, append_assoc}
use mathlib.Core.Option.{Option, none, some}
use lib.ListN.{get_or, length, take, length-append, get_or-append}
use lib.Seq.{get_or-append_seam}
use Rattle.flow.specs.Lists.{first_that, is_none}
use Rattle.sets.specs.Sets.{has}
use Rattle.flow.specs.Box.{is_target, container_of, Rule, Tables, State, feeders_of, feeds, holds}
use Rattle.flow.specs.Links.{linked}
use Rattle.flow.specs.Calls.{Call, Change, change, after}
use Rattle.flow.specs.Rules.{Numbered, lowest_broken}
use Rattle.flow.specs.Records.{Reading, unreadable, a_call, a_rule, reading, call_read, call_of, records_of}
use Rattle.flow.specs.Refusals.{call_tests, tests_of, refusal}
use Rattle.flow.specs.Verdicts.{Outcome, refuses, loads, allows, inhibits, modifies, diversion, may_divert, breaks_none, gained_from, stopped, verdict_by, verdict_at, verdict, outcome_of_call, outcome_of_rule, outcome_of, outcome, refused, allow, inhibit, answer_of, answer, state_after, next, answer_all, run_log}
use Rattle.flow.specs.Contents.{Step, entry, memory, step_state, state_at}
use Rattle.flow.specs.Consequences.{LinksByCounts, PassedBreaksNone, GainTold, VerdictExactly, NoGainAllowed, StoppedKeeps, OneAnswerEach, AnswersInOrder, LogIsSteps}
use Rattle.flow.proofs.Bools.{by, no_both, choice}
use Rattle.flow.proofs.TableLaws.{none_is}
use Rattle.flow.proofs.Refused.{refusal_read}
use Rattle.flow.proofs.Judging.{none_broken}
use Rattle.flow.proofs.Gaining.{adds_none}
use Rattle.flow.proofs.Reach.{link_cases, link_in, link_out}
use Rattle.flow.proofs.Rows.{target_not}
use Rattle.flow.proofs.Mapping.{fed_by_count, feeder_by_count}

-- ---- links by counts
-- the links between a process and a device, file or pipe are those of the process's two sets
module _ (t : Tables) (p c : ℕ) (hp : p < 16) (hc : is_target c ≡ true) where
  from_target : linked t c (container_of p) ≡ has (feeders_of t p) c
  from_target =
      by (has (feeders_of t p) c) (λ e. link_in t p hp c e ∙ sym e)
      (λ e. by (linked t c (container_of p))
      (link_cases t c (container_of p) (λ q hq d h. let z : q ≡ p = omega arith in no_both (rw z at h) e) (λ q hq d h. absurd (target_not c hc (omega arith) (omega arith))))
      (λ f. f ∙ sym e))

  to_target : linked t (container_of p) c ≡ has (feeds t p) c
  to_target =
      by (has (feeds t p) c) (λ e. link_out t p hp c e ∙ sym e)
      (λ e. by (linked t (container_of p) c)
      (link_cases t (container_of p) c (λ q hq d h. absurd (target_not c hc (omega arith) (omega arith))) (λ q hq d h. let z : q ≡ p = omega arith in no_both (rw z at h) e))
      (λ f. f ∙ sym e))

pub links_by_counts : LinksByCounts
unfolding LinksByCounts
links_by_counts t p c hp hc = (from_target t p c hp hc ∙ feeder_by_count t p c, to_target t p c hp hc ∙ fed_by_count t p c)

-- ---- no rule is broken after a change, and what gained by it is told
unfoldable Whole : State → Outcome → Type 0
Whole s (refuses n) = Unit {0}
Whole s (loads n r) = Unit {0}
Whole s (allows x g) = (lowest_broken (after s x) ≡ none) × (g ≡ gained_from s (after s x))
Whole s (inhibits n) = Unit {0}
Whole s (modifies n c x g) = (lowest_broken (after s x) ≡ none) × (g ≡ gained_from s (after s x))

module _ (s : State) where
  stopped_whole : (q : Call) (n : ℕ) (r : Rule) → Whole s (stopped s q n r)
  unfolding stopped Whole breaks_none
  stopped_whole q n r =
      choice (Whole s) (may_divert s q r) _ _
      (λ e. choice (Whole s) (breaks_none (after s (diversion s q r))) _ _ (λ f. (none_is (lowest_broken (after s (diversion s q r))) f, refl)) (λ f. tt))
      (λ e. tt)

  verdict_whole : (q : Call) (o : Option Numbered) → lowest_broken (after s (change s.tables q)) ≡ o → Whole s (verdict_by s q (after s (change s.tables q)) o)
  unfolding verdict_by Whole
  verdict_whole q none e = (e, refl)
  verdict_whole q (some x) e = stopped_whole q x.number x.rule

  call_whole : (q : Option Call) (o : Option ℕ) → Whole s (outcome_of_call s q o)
  unfolding outcome_of_call verdict verdict_at Whole
  call_whole none none = tt
  call_whole (some q) none = verdict_whole q _ refl
  call_whole none (some n) = tt
  call_whole (some q) (some n) = tt

  rule_whole : (r : Rule) (o : Option ℕ) → Whole s (outcome_of_rule s r o)
  unfolding outcome_of_rule Whole
  rule_whole r none = tt
  rule_whole r (some n) = tt

  read_whole : (x : Reading) → Whole s (outcome_of s x)
  unfolding outcome_of Whole
  read_whole (unreadable n) = tt
  read_whole (a_call q) = call_whole q _
  read_whole (a_rule r) = rule_whole r _

pub passed_breaks_none : PassedBreaksNone
unfolding PassedBreaksNone outcome Whole
passed_breaks_none s bytes x g = (λ e. (rw e at (read_whole s (reading bytes))).0, λ n c e. (rw e at (read_whole s (reading bytes))).0)

pub gain_told : GainTold
unfolding GainTold outcome Whole
gain_told s bytes x g = (λ e. (rw e at (read_whole s (reading bytes))).1, λ n c e. (rw e at (read_whole s (reading bytes))).1)

-- ---- the verdict
read_call : (x : Reading) (q : Call) → call_read x ≡ some q → x ≡ a_call (some q)
unfolding call_read
read_call (unreadable n) q e = absurd (let z : ◌≡◌ {A = ℕ} 0 1 = cc in let y : ⊥ = omega arith in y)
read_call (a_call o) q e = ap a_call e
read_call (a_rule r) q e = absurd (let z : ◌≡◌ {A = ℕ} 0 1 = cc in let y : ⊥ = omega arith in y)

-- a call that is not refused gets its verdict
pub call_verdict : (s : State) (bytes : List ℕ) (q : Call) → refusal s bytes ≡ none → call_of bytes ≡ some q → outcome s bytes ≡ verdict s q
unfolding call_of outcome outcome_of outcome_of_call tests_of
call_verdict s bytes q e f =
    let r : reading bytes ≡ a_call (some q) = read_call (reading bytes) q f in
    let h : first_that (call_tests s.tables (some q)) ≡ none = rw r at (sym (refusal_read s bytes) ∙ e) in
    rw (r, h) refl

inhibited : (x : Numbered) (d : Change) (g : ℕ) (b w : Bool) → (b && w) ≡ false
    → ◌≡◌ {A = Outcome} (elim b as (λ z. Outcome) [ true ↦ elim w as (λ z. Outcome) [ true ↦ modifies x.number x.rule.substitute d g | false ↦ inhibits x.number ] | false ↦ inhibits x.number ]) (inhibits x.number)
inhibited x d g true true m = cc
inhibited x d g true false m = refl
inhibited x d g false w m = refl

pub verdict_exactly : VerdictExactly
unfolding VerdictExactly verdict verdict_at verdict_by stopped breaks_none is_none
verdict_exactly s bytes q e f = (
  λ h. call_verdict s bytes q e f ∙ rw h refl,
  λ x h. (
    λ m w. call_verdict s bytes q e f ∙ rw (h, verdict_by, m, stopped, w) refl,
    λ m. call_verdict s bytes q e f ∙ rw h (inhibited x (diversion s q x.rule) (gained_from s (after s (diversion s q x.rule))) (may_divert s q x.rule) (breaks_none (after s (diversion s q x.rule))) m),
  ),
)

-- ---- nothing gained
none_after : (s : State) (q : Call) → ((c i : ℕ) → c < 64 → holds (after s (change s.tables q)) c i ≡ true → holds s c i ≡ true) → lowest_broken s ≡ none → lowest_broken (after s (change s.tables q)) ≡ none
unfolding lowest_broken after
none_after s q less whole = none_broken (after s (change s.tables q)) s less 0 _ whole

pub no_gain_allowed : NoGainAllowed
unfolding NoGainAllowed verdict verdict_at verdict_by
no_gain_allowed s bytes q whole e f less = call_verdict s bytes q e f ∙ rw unbroken (ap (allows (change s.tables q)) (adds_none s (after s (change s.tables q)) less))
  where
    unbroken : lowest_broken (after s (change s.tables q)) ≡ none
    unbroken = none_after s q less whole

-- ---- nothing changed
stopped_keeps_by : (s : State) (o : Outcome) (n : ℕ) → (answer_of o ≡ refused n → state_after s o ≡ s) × (answer_of o ≡ inhibit n → state_after s o ≡ s)
unfolding answer_of state_after
stopped_keeps_by s (refuses k) n = (λ e. refl, λ e. refl)
stopped_keeps_by s (loads k r) n = (λ e. cc, λ e. cc)
stopped_keeps_by s (allows x g) n = (λ e. cc, λ e. cc)
stopped_keeps_by s (inhibits k) n = (λ e. refl, λ e. refl)
stopped_keeps_by s (modifies k c x g) n = (λ e. cc, λ e. cc)

pub stopped_keeps : StoppedKeeps
unfolding StoppedKeeps answer next
stopped_keeps s bytes n = stopped_keeps_by s (outcome s bytes) n

-- ---- logs
answers_each : (s : State) (rs : List (List ℕ)) → length (answer_all s rs).answers ≡ length rs
unfolding answer_all
answers_each s [] = refl
answers_each s (r ∷ rs) = ap suc (answers_each (state_after s (outcome s r)) rs)

pub one_answer_each : OneAnswerEach
unfolding OneAnswerEach run_log
one_answer_each s log = answers_each s (records_of log)

answer_at : (s : State) (rs : List (List ℕ)) (k : ℕ) → k < length rs → get_or (answer_all s rs).answers k (allow 0) ≡ answer (answer_all s (take k rs)).state (get_or rs k [])
unfolding answer_all answer
answer_at s [] k h = absurd (not-suc-le-zero h)
answer_at s (r ∷ rs) zero h = refl
answer_at s (r ∷ rs) (suc k) h = answer_at (state_after s (outcome s r)) rs k (le_of_suc-le-suc h)

pub answers_in_order : AnswersInOrder
unfolding AnswersInOrder run_log
answers_in_order s log k h = answer_at s (records_of log) k h

-- later steps don't change earlier states
state_front : (xs ys : List Step) (k : ℕ) → k ≤ length xs → state_at (xs ++ ys) k ≡ state_at xs k
unfolding state_at
state_front xs ys zero l = refl
state_front xs ys (suc k) l =
    ap (λ (x : Step). step_state (state_at (xs ++ ys) k) x) (get_or-append xs ys memory k l)
    ∙ ap (λ (s : State). step_state s (get_or xs k memory)) (state_front xs ys k (omega arith))

-- one more step
state_more : (xs : List Step) (x : Step) (ys : List Step) → state_at (xs ++ (x ∷ ys)) (suc (length xs)) ≡ step_state (state_at xs (length xs)) x
unfolding state_at
state_more xs x ys =
    ap (λ (y : Step). step_state (state_at (xs ++ (x ∷ ys)) (length xs)) y) (get_or-append_seam xs x ys memory)
    ∙ ap (λ (s : State). step_state s x) (state_front xs (x ∷ ys) (length xs) (le_refl (length xs)))

records_step : (rs : List (List ℕ)) (xs : List Step) (s : State) → s ≡ state_at xs (length xs)
    → (answer_all s rs).state ≡ state_at (xs ++ map entry rs) (length (xs ++ map entry rs))
unfolding answer_all step_state
records_step [] xs s e = rw append-nil e
records_step (r ∷ rs) xs s e =
    records_step rs (xs ++ (entry r ∷ [])) (state_after s (outcome s r)) (e' ∙ sym (state_more xs (entry r) []) ∙ ap (state_at (xs ++ (entry r ∷ []))) (sym longer))
    ∙ rw (append_assoc xs (entry r ∷ []) (map entry rs)) refl
  where
    e' : state_after s (outcome s r) ≡ step_state (state_at xs (length xs)) (entry r)
    e' = rw e refl

    longer : length (xs ++ (entry r ∷ [])) ≡ suc (length xs)
    longer = length-append xs (entry r ∷ []) ∙ omega arith

pub log_is_steps : LogIsSteps
unfolding LogIsSteps run_log
log_is_steps steps log = records_step (records_of log) steps _ refl
