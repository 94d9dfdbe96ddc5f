-- The numbers of every answer are bytes, whatever the monitor and whatever the record: the rules of every monitor are few and divert to
-- containers, and then every outcome has bytes (OutcomeLaws). So the codes of a log tell the very answers, and fit their places in the slice:
-- the rules stay few from record to record.
use Prim.Native.Nat.{ℕ, zero, suc, ◌^◌, ◌<◌}
use native.Mathlib.Omega.{arith}
use native.Mathlib.Nat.{mod-lt}
use mathlib.Core.Path.{◌≡◌, refl, sym, ap₂, subst}
use mathlib.Core.List.{List, [], ◌∷◌, map}
use lib.ListN.{get_or}
use lib.Pow.{pow_pos}
use Rattle.flow.specs.Box.{Rule, State}
use Rattle.flow.specs.Records.{call_from, Reading, a_call, reading, records_of}
use Rattle.flow.specs.Verdicts.{Answer as Word, outcome_of, outcome, state_after, answer_all, run_log}
use Rattle.flow.proofs.Keeping.{Invariant}
use Rattle.rules.specs.Stored.{substitute_field, field_at, substitute_at, rule_at, count_of, rules_of}
use Rattle.rules.proofs.StoredLaws.{count_le, rules_length}
use Rattle.decision.specs.declared.Monitor.{Monitor}
use Rattle.decision.specs.declared.Answered.{Answered}
use Rattle.decision.specs.View.{view}
use Rattle.decision.specs.Answers.{Sound, Answers}
use Rattle.decision.specs.Logs.{word_from, InBytes, CodesTell, codes_of}
use Rattle.decision.specs.Telling.{AnswersInBytes, LogCodesTell}
use Rattle.decision.proofs.CodeLaws.{answer_is, NamedIn, answer_told, word_is, codes_tell, code_lt}
use Rattle.decision.proofs.Stored.{blank, formed_at, substitute_lt}
use Rattle.decision.proofs.ListLaws.{Below, every_table}
use Rattle.decision.proofs.OutcomeLaws.{Ruled, ReadingFits, fits_bytes, fits_named, reading_fits, after_ruled, outcome_fits}

-- nothing is asked of the rules that are read
abbrev pub Any : Rule → Type 0
Any r = Unit {0}

pub reading_any : (bytes : List ℕ) → ReadingFits Any (reading bytes)
reading_any bytes = reading_fits Any bytes tt

pub kept_ruled : (s : State) → Invariant s → Ruled Any s.rules
kept_ruled s i = record { counted = i.counted; diverted = λ k. substitute_lt (get_or s.rules k blank) (formed_at s.rules k i.loadable); each = λ k. tt }

pub view_ruled : (m : Monitor) → Ruled Any (view m).rules
unfolding view rules_of substitute_at
view_ruled m =
    record {
      counted = rw (rules_length m.rules.sets m.rules.fields) (count_le m.rules.fields);
      diverted =
          every_table (λ (r : Rule). r.substitute < 64) blank (count_of m.rules.fields) (rule_at m.rules.sets m.rules.fields) (omega arith)
          (λ k. mod-lt (field_at m.rules.fields k substitute_field) (omega arith));
      each = λ k. tt;
    }

-- ---- the answers
module _ (s : State) (ruled : Ruled Any s.rules) where
  read_bytes : (y : Reading) → ReadingFits Any y → InBytes (answer_is (outcome_of s y))
  read_bytes y f = fits_bytes Any s _ (outcome_fits Any s ruled y f)

  pub outcome_named : (bytes : List ℕ) → NamedIn (outcome s bytes)
  unfolding outcome
  outcome_named bytes = fits_named Any s _ (outcome_fits Any s ruled (reading bytes) (reading_any bytes))

  pub outcome_bytes : (bytes : List ℕ) → InBytes (answer_is (outcome s bytes))
  unfolding outcome
  outcome_bytes bytes = read_bytes (reading bytes) (reading_any bytes)

told_bytes : (m : Monitor) (y : Reading) (r : Answered) → ReadingFits Any y → Answers m y r → Sound m → InBytes r.answer
told_bytes m y r f h sound = subst InBytes (sym (answer_told r.answer (outcome_of (view m) y) (h.answer sound) (h.gained sound))) (read_bytes (view m) (view_ruled m) y f)

pub answers_in_bytes : AnswersInBytes
unfolding AnswersInBytes ReadingFits
answers_in_bytes = (λ m bytes r h. told_bytes m (reading bytes) r (reading_any bytes) h, λ m kind p a b c r h. told_bytes m (a_call (call_from kind p a b c)) r tt h)

-- ---- the codes of a log
next_ruled : (s : State) (bytes : List ℕ) → Ruled Any s.rules → Ruled Any (state_after s (outcome s bytes)).rules
unfolding outcome
next_ruled s bytes h = after_ruled Any s _ (outcome_fits Any s h (reading bytes) (reading_any bytes)) h

all_told : (s : State) (rs : List (List ℕ)) → Ruled Any s.rules → map word_from (codes_of (answer_all s rs).answers) ≡ (answer_all s rs).answers
unfolding answer_all codes_of CodesTell
all_told s [] h = refl
all_told s (r ∷ rs) h =
    ap₂ (λ (w : Word) (ws : List Word). w ∷ ws) (rw (word_is (outcome s r) (outcome_named s h r)) at (codes_tell (answer_is (outcome s r)) (outcome_bytes s h r)))
    (all_told (state_after s (outcome s r)) rs (next_ruled s r h))

pub codes_below : (s : State) (rs : List (List ℕ)) → Ruled Any s.rules → Below (2 ^ 32) (codes_of (answer_all s rs).answers)
unfolding answer_all codes_of
codes_below s [] h k = pow_pos 32
codes_below s (r ∷ rs) h zero = rw (word_is (outcome s r) (outcome_named s h r)) at (code_lt (answer_is (outcome s r)) (outcome_bytes s h r))
codes_below s (r ∷ rs) h (suc k) = codes_below (state_after s (outcome s r)) rs (next_ruled s r h) k

pub log_codes_tell : LogCodesTell
unfolding LogCodesTell run_log
log_codes_tell m log = all_told (view m) (records_of log) (view_ruled m)
