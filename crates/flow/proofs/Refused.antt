-- A record is refused exactly when a test of its list holds, with the number of the first that does.
use Prim.Native.Nat.{ℕ}
use native.Mathlib.Omega.{arith}
use mathlib.Core.Path.{◌≡◌, refl}
use mathlib.Core.Logic.{◌↔◌}
use mathlib.Core.List.{List, ◌++◌}
use mathlib.Core.Option.{Option, none, some}
use Rattle.flow.specs.Lists.{first_that}
use Rattle.flow.specs.Box.{Rule, State}
use Rattle.flow.specs.Calls.{Call, change, after}
use Rattle.flow.specs.Rules.{Numbered, lowest_broken}
use Rattle.flow.specs.Records.{Reading, unreadable, a_call, a_rule, frame_tests, content_of, reading_by, reading}
use Rattle.flow.specs.Refusals.{call_tests, tests_of, record_tests, refusal}
use Rattle.flow.specs.Verdicts.{Outcome, refuses, loads, allows, inhibits, modifies, diversion, may_divert, breaks_none, stopped, verdict_by, verdict_at, verdict, outcome_of_call, outcome_of_rule, outcome_of, outcome, refused, answer_of, answer}
use Rattle.flow.specs.Consequences.{RefusedExactly}
use Rattle.flow.proofs.Bools.{choice}
use Rattle.flow.proofs.TableLaws.{first_some, first_none}

-- the outcome is no refusal
unfoldable Accepts : Outcome → Type 0
Accepts (refuses n) = ⊥
Accepts (loads n r) = Unit {0}
Accepts (allows x g) = Unit {0}
Accepts (inhibits n) = Unit {0}
Accepts (modifies n c x g) = Unit {0}

stopped_accepts : (s : State) (q : Call) (n : ℕ) (r : Rule) → Accepts (stopped s q n r)
unfolding stopped Accepts
stopped_accepts s q n r = choice Accepts (may_divert s q r) _ _ (λ e. choice Accepts (breaks_none (after s (diversion s q r))) _ _ (λ f. tt) (λ f. tt)) (λ e. tt)

verdict_accepts : (s : State) (q : Call) (t : State) (o : Option Numbered) → Accepts (verdict_by s q t o)
unfolding verdict_by Accepts
verdict_accepts s q t none = tt
verdict_accepts s q t (some x) = stopped_accepts s q x.number x.rule

not_refused : (o : Outcome) (n : ℕ) → Accepts o → answer_of o ≡ refused n → none ≡ some n
unfolding Accepts answer_of
not_refused (refuses k) n a e = absurd a
not_refused (loads k r) n a e = cc
not_refused (allows x g) n a e = cc
not_refused (inhibits k) n a e = cc
not_refused (modifies k c x g) n a e = cc

refused_call : (s : State) (q : Option Call) (o : Option ℕ) (n : ℕ) → first_that (call_tests s.tables q) ≡ o → answer_of (outcome_of_call s q o) ≡ refused n ↔ o ≡ some n
unfolding outcome_of_call verdict verdict_at answer_of call_tests first_that
refused_call s none none n e = absurd (let z : ◌≡◌ {A = ℕ} 0 1 = cc in let y : ⊥ = omega arith in y)
refused_call s (some q) none n e = (not_refused (verdict s q) n (let t : State = after s (change s.tables q) in verdict_accepts s q t (lowest_broken t)), λ d. cc)
refused_call s none (some k) n e = (λ d. cc, λ d. cc)
refused_call s (some q) (some k) n e = (λ d. cc, λ d. cc)

refused_rule : (s : State) (r : Rule) (o : Option ℕ) (n : ℕ) → answer_of (outcome_of_rule s r o) ≡ refused n ↔ o ≡ some n
unfolding outcome_of_rule answer_of
refused_rule s r none n = (λ d. cc, λ d. cc)
refused_rule s r (some k) n = (λ d. cc, λ d. cc)

-- by what was read
refused_read : (s : State) (x : Reading) (n : ℕ) → answer_of (outcome_of s x) ≡ refused n ↔ first_that (tests_of s x) ≡ some n
unfolding outcome_of answer_of tests_of first_that
refused_read s (unreadable k) n = (λ d. cc, λ d. cc)
refused_read s (a_call q) n = refused_call s q _ n refl
refused_read s (a_rule r) n = refused_rule s r _ n

-- the tests of the frame, then those of what was read
by_frame : (s : State) (bytes : List ℕ) (o : Option ℕ) → first_that (frame_tests bytes) ≡ o
    → first_that (frame_tests bytes ++ tests_of s (content_of bytes)) ≡ first_that (tests_of s (reading_by bytes o))
unfolding reading_by tests_of first_that
by_frame s bytes none e = first_none (frame_tests bytes) (tests_of s (content_of bytes)) e
by_frame s bytes (some n) e = first_some (frame_tests bytes) (tests_of s (content_of bytes)) n e

pub refusal_read : (s : State) (bytes : List ℕ) → refusal s bytes ≡ first_that (tests_of s (reading bytes))
unfolding refusal record_tests reading
refusal_read s bytes = by_frame s bytes (first_that (frame_tests bytes)) refl

pub refused_exactly : RefusedExactly
unfolding RefusedExactly answer outcome
refused_exactly s bytes n = rw (refusal_read s bytes) (refused_read s (reading bytes) n)
