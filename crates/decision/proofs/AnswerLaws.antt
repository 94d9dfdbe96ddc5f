-- Each case of an answer, and what is known where it is given.
use Prim.Native.Nat.{ℕ}
use native.Mathlib.Omega.{arith}
use mathlib.Core.Path.{◌≡◌, refl, sym, ap, subst, ◌∙◌}
use mathlib.Core.List.{List}
use mathlib.Core.Option.{Option, none, some}
use lib.ListN.{length}
use Rattle.flow.specs.Lists.{first_that}
use Rattle.flow.specs.Box.{Rule, State, holds, items_of}
use Rattle.flow.specs.Calls.{Call, Change, change, after}
use Rattle.flow.specs.Rules.{lowest_broken}
use Rattle.flow.specs.Records.{Reading, unreadable, a_call, a_rule, reading}
use Rattle.flow.specs.Refusals.{call_tests, rule_tests, tests_of}
use Rattle.flow.specs.Verdicts.{refuses, loads, allows, inhibits, modifies, gained_from, verdict_by, verdict_at, verdict, stopped, outcome_of_call, outcome_of_rule, outcome_of, gained_by, answer_of, with_rule, state_after}
use Rattle.flow.proofs.Outcomes.{accepted_rule}
use Rattle.flow.proofs.Judging.{none_broken, one_more}
use Rattle.terms.specs.declared.refusal.Refusal.{Refusal}
use Rattle.terms.specs.Refusals.{number}
use Rattle.rules.specs.Stored.{rule_at}
use Rattle.decision.specs.declared.Monitor.{Monitor}
use Rattle.decision.specs.declared.Answer.TheVariants.{Refused, Loaded, Allow, Inhibit, Modify}
use Rattle.decision.specs.declared.Answered.{Answered}
use Rattle.decision.specs.View.{view}
use Rattle.decision.specs.Answers.{word_of, gained_in, refusal_in, Sound, Answers, AnswersStopped}

-- ---- outcomes
call_refused : (s : State) (q : Option Call) (n : ℕ) → outcome_of_call s q (some n) ≡ refuses n
unfolding outcome_of_call
call_refused s none n = refl
call_refused s (some q) n = refl

rule_refused : (s : State) (r : Rule) (n : ℕ) → outcome_of_rule s r (some n) ≡ refuses n
unfolding outcome_of_rule
rule_refused s r n = refl

pub outcome_refused : (s : State) (x : Reading) (n : ℕ) → first_that (tests_of s x) ≡ some n → outcome_of s x ≡ refuses n
unfolding tests_of outcome_of first_that
outcome_refused s (unreadable k) n e = let q : k ≡ n = cc in ap refuses q
outcome_refused s (a_call q) n e = ap (outcome_of_call s q) e ∙ call_refused s q n
outcome_refused s (a_rule r) n e = ap (outcome_of_rule s r) e ∙ rule_refused s r n

outcome_call : (s : State) (q : Call) → first_that (call_tests s.tables (some q)) ≡ none → outcome_of s (a_call (some q)) ≡ verdict s q
unfolding outcome_of outcome_of_call
outcome_call s q e = ap (outcome_of_call s (some q)) e

outcome_rule : (s : State) (r : Rule) → first_that (rule_tests s r) ≡ none → outcome_of s (a_rule r) ≡ loads (length s.rules) r
unfolding outcome_of outcome_of_rule
outcome_rule s r e = ap (outcome_of_rule s r) e

-- ---- refused
pub refused_as : (m : Monitor) (x : Reading) (r : Refusal) → first_that (tests_of (view m) x) ≡ some (number r) → Answers m x (record { answer = Refused r; monitor = m })
unfolding word_of gained_in refusal_in gained_by answer_of state_after
refused_as m x r e =
    let o : outcome_of (view m) x ≡ refuses (number r) = outcome_refused (view m) x (number r) e in
    record {
      refusal = λ k. (λ d. e ∙ d, λ d. sym e ∙ d);
      refused_kept = λ k d. refl;
      inhibited_kept = λ k d. refl;
      answer = λ h. sym (ap answer_of o);
      gained = λ h. sym (ap gained_by o);
      state = λ h. sym (ap (state_after (view m)) o);
      sound = λ h. h;
    }

-- ---- a call that is not refused
module _ (m : Monitor) (q : Call) (e : first_that (call_tests (view m).tables (some q)) ≡ none) where
  -- no test holds
  untested : (n : ℕ) → first_that (tests_of (view m) (a_call (some q))) ≡ some n → ⊥
  unfolding tests_of
  untested n d = let z : ◌≡◌ {A = ℕ} 0 1 = cc in let y : ⊥ = omega arith in y

  pub allowed_as : (t : Monitor) (g : ℕ) → view t ≡ after (view m) (change (view m).tables q) → (Sound m → lowest_broken (after (view m) (change (view m).tables q)) ≡ none)
      → g ≡ gained_from (view m) (after (view m) (change (view m).tables q)) → Answers m (a_call (some q)) (record { answer = Allow g; monitor = t })
  unfolding word_of gained_in refusal_in gained_by answer_of state_after verdict verdict_at verdict_by Sound
  allowed_as t g v f i =
      let o : Sound m → outcome_of (view m) (a_call (some q)) ≡ allows (change (view m).tables q) g = λ h. outcome_call (view m) q e ∙ ap (verdict_by (view m) q (after (view m) (change (view m).tables q))) (f h) ∙ ap (allows (change (view m).tables q)) (sym i) in
      record {
        refusal = λ k. (λ d. cc, λ d. absurd (untested k d));
        refused_kept = λ k d. cc;
        inhibited_kept = λ k d. cc;
        answer = λ h. sym (ap answer_of (o h));
        gained = λ h. sym (ap gained_by (o h));
        state = λ h. v ∙ sym (ap (state_after (view m)) (o h));
        sound = λ h. ap lowest_broken v ∙ f h;
      }

  -- stopped by rule k
  pub stopped_as : (k : ℕ) (r : Answered) → AnswersStopped m q k r
      → (Sound m → verdict (view m) q ≡ stopped (view m) q k (rule_at m.rules.sets m.rules.fields k)) → Answers m (a_call (some q)) r
  unfolding refusal_in
  stopped_as k r w f =
      let o : Sound m → outcome_of (view m) (a_call (some q)) ≡ stopped (view m) q k (rule_at m.rules.sets m.rules.fields k) = λ h. outcome_call (view m) q e ∙ f h in
      record {
        refusal = λ n. (λ d. let z : none ≡ some n = sym w.unrefused ∙ d in cc, λ d. absurd (untested n d));
        refused_kept = λ n d. let z : none ≡ some (number n) = sym w.unrefused ∙ ap refusal_in d in cc;
        inhibited_kept = w.inhibited_kept;
        answer = λ h. w.answer h ∙ sym (ap answer_of (o h));
        gained = λ h. w.gained h ∙ sym (ap gained_by (o h));
        state = λ h. w.state h ∙ sym (ap (state_after (view m)) (o h));
        sound = λ h. w.sound h;
      }

-- ---- a rule
module _ (m t : Monitor) (r : Rule) (e : first_that (rule_tests (view m) r) ≡ none) where
  loaded_sound : view t ≡ with_rule (view m) r → Sound m → Sound t
  unfolding Sound lowest_broken with_rule holds items_of
  loaded_sound v h = ap lowest_broken v ∙ none_broken (with_rule (view m) r) (view m) (λ c i l d. d) 0 _ (one_more (view m) 0 (view m).rules r h (accepted_rule (view m) r e).0)

  pub loaded_as : (n : ℕ) → n ≡ length (view m).rules → view t ≡ with_rule (view m) r → Answers m (a_rule r) (record { answer = Loaded n; monitor = t })
  unfolding word_of gained_in refusal_in gained_by answer_of state_after tests_of
  loaded_as n l v =
      let o : outcome_of (view m) (a_rule r) ≡ loads n r = outcome_rule (view m) r e ∙ ap (λ (k : ℕ). loads k r) (sym l) in
      record {
        refusal = λ k. (λ d. cc, λ d. absurd (let z : ◌≡◌ {A = ℕ} 0 1 = cc in let y : ⊥ = omega arith in y));
        refused_kept = λ k d. cc;
        inhibited_kept = λ k d. cc;
        answer = λ h. sym (ap answer_of o);
        gained = λ h. sym (ap gained_by o);
        state = λ h. v ∙ sym (ap (state_after (view m)) o);
        sound = loaded_sound v;
      }

-- ---- a call that rule k stops
module _ (m : Monitor) (q : Call) (k : ℕ) where
  pub inhibited_as : (Sound m → stopped (view m) q k (rule_at m.rules.sets m.rules.fields k) ≡ inhibits k) → AnswersStopped m q k (record { answer = Inhibit k; monitor = m })
  unfolding word_of gained_in refusal_in gained_by answer_of state_after
  inhibited_as f =
      record {
        unrefused = refl;
        inhibited_kept = λ n d. refl;
        answer = λ h. sym (ap answer_of (f h));
        gained = λ h. sym (ap gained_by (f h));
        state = λ h. sym (ap (state_after (view m)) (f h));
        sound = λ h. h;
      }

  pub modified_as : (t : Monitor) (c : ℕ) (x : Change) (i : ℕ) → (Sound m → stopped (view m) q k (rule_at m.rules.sets m.rules.fields k) ≡ modifies k c x i) → view t ≡ after (view m) x
      → (Sound m → lowest_broken (after (view m) x) ≡ none) → AnswersStopped m q k (record { answer = Modify k c i; monitor = t })
  unfolding word_of gained_in refusal_in gained_by answer_of state_after Sound
  modified_as t c x i f v g =
      record {
        unrefused = refl;
        inhibited_kept = λ n d. cc;
        answer = λ h. sym (ap answer_of (f h));
        gained = λ h. sym (ap gained_by (f h));
        state = λ h. v ∙ sym (ap (state_after (view m)) (f h));
        sound = λ h. ap lowest_broken v ∙ g h;
      }

-- a record that was read gets what its reading gets
pub by_reading : (m : Monitor) (bytes : List ℕ) (x : Reading) (r : Answered) → x ≡ reading bytes → Answers m x r → Answers m (reading bytes) r
by_reading m bytes x r e h = subst (λ (y : Reading). Answers m y r) e h
