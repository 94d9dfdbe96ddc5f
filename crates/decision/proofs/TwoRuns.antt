-- Demand 3 of the code follows from demand 3 of the definitions: the trackers of a chain are sound and, viewed, the states of the definitions
-- (`chain_sound`, `chain_view`), and a record that was told "rule" loaded its rule (`forbidden_loaded`).
use Prim.Native.Nat.{ℕ, zero, suc, ◌≤◌, ◌<◌}
use mathlib.Core.Path.{◌≡◌, refl, sym, ap, subst, ◌∙◌}
use mathlib.Core.Logic.{inl, ⊎_elim}
use mathlib.Core.Bool.{Bool, true}
use mathlib.Core.List.{List, [], ◌∷◌, ◌++◌}
use mathlib.Core.Option.{Option, none, some}
use lib.ListN.{length}
use Rattle.flow.specs.Lists.{first_that}
use Rattle.flow.specs.Box.{container_count, Rule, State}
use Rattle.flow.specs.Rules.{forbids, lowest_broken}
use Rattle.flow.specs.Records.{a_rule, reading}
use Rattle.flow.specs.Refusals.{rule_tests}
use Rattle.flow.specs.Verdicts.{outcome_of_rule, outcome_of, outcome, rule, answer_of, answer, with_rule, state_after, next}
use Rattle.flow.specs.Contents.{Step, entry, memory, Machine, run_at, step_state, step_at, state_at}
use Rattle.flow.specs.TwoRuns.{RecordedWithout, Forbidden, first, later, RulesForbid, Agree, Demand3}
use Rattle.flow.specs.Consequences.{LogIsSteps}
use Rattle.flow.proofs.Consequences.{log_is_steps}
use Rattle.flow.proofs.Keeping.{fresh_kept}
use Rattle.flow.proofs.TwoRuns.{run_tracker, forbidden_later, demand3}
use Rattle.tracker.specs.Replies.{reply_of}
use Rattle.decision.specs.declared.Monitor.{Monitor}
use Rattle.decision.specs.declared.Answer.{Answer}
use Rattle.decision.specs.View.{view}
use Rattle.decision.specs.Answers.{word_of, Sound, IsFresh}
use Rattle.decision.specs.Logs.{AnswersLogBy, AnswersLog}
use Rattle.decision.specs.TwoRuns.{Chain, AnswersWithout, RulesLoadedForbid, Demand3OfCode, LogsGoOn}

-- ---- demand 3 of the definitions, asked of one monitor that stands for a state of the run
module _ {W : Type 0} (m : Machine W) (chosen : ℕ → Bool) (steps : List Step) (in₁ in₂ : ℕ → W) (agree : Agree chosen steps in₁ in₂) (c : ℕ) (hc : c < container_count) where
  pub by_items : (k : ℕ) → k ≤ length steps → (x : Monitor) → view x ≡ state_at steps k → AnswersWithout chosen x c → (run_at m in₁ steps k).contents c ≡ (run_at m in₂ steps k).contents c
  unfolding Demand3 AnswersWithout RecordedWithout reply_of
  by_items k l x v h = (demand3 W m chosen steps in₁ in₂ agree k l c hc).0 (inl (λ w e. h w (rw (v, ← (run_tracker m in₁ steps k)) (sym e))))

  pub by_rules : (j k : ℕ) → j ≤ k → k ≤ length steps → RulesForbid chosen (state_at steps j) c → (run_at m in₁ steps k).contents c ≡ (run_at m in₂ steps k).contents c
  unfolding Demand3
  by_rules j k lj lk h = (demand3 W m chosen steps in₁ in₂ agree k lk c hc).1 j lj (inl (rw (run_tracker m in₁ steps j) h))

-- ---- a record that was told "rule" loaded its rule: it is among those of every later state
rule_loaded : (s : State) (bytes : List ℕ) (k : ℕ) (r : Rule) → answer s bytes ≡ rule k → reading bytes ≡ a_rule r → next s bytes ≡ with_rule s r
unfolding answer next outcome outcome_of outcome_of_rule answer_of state_after
rule_loaded s bytes k r e f = rw f (go (first_that (rule_tests s r)) (rw f at e))
  where
    go : (o : Option ℕ) → answer_of (outcome_of_rule s r o) ≡ rule k → state_after s (outcome_of_rule s r o) ≡ with_rule s r
    go none h = refl
    go (some n) h = cc

forbidden_last : (c i : ℕ) (rs : List Rule) (r : Rule) → forbids r.condition c i ≡ true → Forbidden c i (rs ++ (r ∷ []))
forbidden_last c i [] r h = first h
forbidden_last c i (x ∷ rs) r h = later (forbidden_last c i rs r h)

pub forbidden_loaded : (steps : List Step) (place j : ℕ) → place < j → (bytes : List ℕ) → step_at steps place ≡ entry bytes → (k : ℕ) → answer (state_at steps place) bytes ≡ rule k
    → (r : Rule) → reading bytes ≡ a_rule r → (c i : ℕ) → forbids r.condition c i ≡ true → Forbidden c i (state_at steps j).rules
unfolding state_at step_state next with_rule
forbidden_loaded steps place j earlier bytes is_record k answered r is_rule c i f =
    let s : State = state_at steps place in
    let v : step_state s (step_at steps place) ≡ with_rule s r = ap (step_state s) is_record ∙ rule_loaded s bytes k r answered is_rule in
    forbidden_later steps c i (suc place) j earlier (subst (λ (u : State). Forbidden c i u.rules) (sym v) (forbidden_last c i s.rules r f))

-- ---- a chain
pub fresh_sound : (x : Monitor) → IsFresh x → Sound x
unfolding Sound
fresh_sound x h = ap lowest_broken h ∙ fresh_kept.unbroken

module _ (steps : List Step) (x : ℕ → Monitor) (a : ℕ → Answer) (ch : Chain steps x a) where
  next_step : (n : ℕ) (s : Step) → step_at steps n ≡ s → Sound (x n) → Sound (x (suc n)) × (view (x (suc n)) ≡ step_state (view (x n)) s)
  unfolding step_state outcome
  next_step n (entry bytes) e h = ((ch.answers n bytes e).sound h, (ch.answers n bytes e).state h)
  next_step n memory e h = (rw (ch.rests n e) h, ap view (ch.rests n e))

  pub chain_sound : (k : ℕ) → Sound (x k)
  chain_sound zero = fresh_sound (x 0) ch.made
  chain_sound (suc k) = (next_step k _ refl (chain_sound k)).0

  pub chain_view : (k : ℕ) → view (x k) ≡ state_at steps k
  unfolding state_at
  chain_view zero = ch.made
  chain_view (suc k) = (next_step k _ refl (chain_sound k)).1 ∙ ap (λ (s : State). step_state s (step_at steps k)) (chain_view k)

  pub chain_answer : (n : ℕ) (bytes : List ℕ) → step_at steps n ≡ entry bytes → word_of (a n) ≡ answer (state_at steps n) bytes
  unfolding answer outcome
  chain_answer n bytes e = rw (← (chain_view n)) ((ch.answers n bytes e).answer (chain_sound n))

  barred : (chosen : ℕ → Bool) (j c : ℕ) → RulesLoadedForbid chosen steps a j c → RulesForbid chosen (state_at steps j) c
  unfolding RulesLoadedForbid RulesForbid word_of
  barred chosen j c h i l m =
      let w = h i l m in
      forbidden_loaded steps w.place j w.earlier w.bytes w.is_record w.number
      (sym (chain_answer w.place w.bytes w.is_record) ∙ ap word_of w.answered) w.loaded w.is_rule c i w.forbidden

pub demand3_of_code : Demand3OfCode
unfolding Demand3OfCode
demand3_of_code W m chosen steps in₁ in₂ agree x y a b cx cy k l c hc =
    let items = by_items m chosen steps in₁ in₂ agree c hc k l in
    let rules = by_rules m chosen steps in₁ in₂ agree c hc in (
      ⊎_elim (items (x k) (chain_view steps x a cx k)) (items (y k) (chain_view steps y b cy k)),
      λ j lj. ⊎_elim (λ h. rules j k lj l (barred steps x a cx chosen j c h)) (λ h. rules j k lj l (barred steps y b cy chosen j c h)),
    )

pub logs_go_on : LogsGoOn
unfolding LogsGoOn LogIsSteps AnswersLog AnswersLogBy
logs_go_on steps x a c log before now r h room =
    let w : AnswersLogBy true (x (length steps)) log before r now = rw room at h in
    (w.3 (chain_sound steps x a c (length steps))).1 ∙ rw (chain_view steps x a c (length steps)) (log_is_steps steps log)
