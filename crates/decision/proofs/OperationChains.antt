-- A chain for each list of operations: the monitors that hold the states of the definitions. From one that holds a state, each operation goes
-- to one that holds the state after its steps (`operation_answered`).
use Prim.Native.Nat.{ℕ, suc, ◌^◌, ◌<◌}
use native.Mathlib.Omega.{arith}
use mathlib.Core.Path.{◌≡◌, refl, sym, ap, ◌∙◌}
use mathlib.Core.Bool.{true, false}
use mathlib.Core.List.{List, [], ◌∷◌, map}
use mathlib.Core.Option.{none}
use lib.ListN.{length}
use lib.Seq.{take_all}
use lib.Pow.{pow_pos}
use borrow.Author.Tests.{le-leb, lt-leb}
use Rattle.flow.specs.Box.{State}
use Rattle.flow.specs.Rules.{lowest_broken}
use Rattle.flow.specs.Records.{records_of}
use Rattle.flow.specs.Verdicts.{Answer as Word, outcome, next, Replay, run_log}
use Rattle.flow.specs.Contents.{entry, step_state, state_at}
use Rattle.flow.specs.Consequences.{OneAnswerEach}
use Rattle.flow.proofs.Consequences.{one_answer_each}
use Rattle.flow.proofs.Keeping.{Invariant, state_kept}
use Rattle.std.specs.Prelude.{Ok, Err}
use Rattle.terms.specs.declared.refusal.Refusal.TheVariants.{SliceShort}
use Rattle.tracker.specs.Replies.{reply_of}
use Rattle.decision.specs.declared.Answer.{Answer}
use Rattle.decision.specs.declared.Answer.TheVariants.{Allow}
use Rattle.decision.specs.View.{view}
use Rattle.decision.specs.Answers.{Sound}
use Rattle.decision.specs.Logs.{InBytes, codes_of, room_for, AnswersLogBy, AnswersLog}
use Rattle.decision.specs.Chains.{call_record, CallIsRecord, given, called, moves, step_of, Operation, event, run, short, steps_of, all_steps, moment, operation_at, AnswersRun, AnswersOperation, OperationChainExists}
use Rattle.decision.proofs.HookLaws.{call_is_record}
use Rattle.decision.proofs.Stored.{held}
use Rattle.decision.proofs.CodeLaws.{NamedIn}
use Rattle.decision.proofs.ListLaws.{Below}
use Rattle.decision.proofs.Telling.{kept_ruled, outcome_named, codes_below}
use Rattle.decision.proofs.Holding.{held_holdable, record_answered, answer_to, answer_bytes, views}
use Rattle.decision.proofs.Operations.{replay, state_by, records_replayed, next_moment}

codes_length : (ws : List Word) → length (codes_of ws) ≡ length ws
unfolding codes_of
codes_length [] = refl
codes_length (w ∷ ws) = ap suc (codes_length ws)

-- ---- one operation, from a state that a monitor holds to the state after it
unfoldable answer_by : State → Operation → Answer
answer_by s (event e) = answer_to s (step_of e)
answer_by s (run log) = Allow 0
answer_by s (short log some) = Allow 0

unfoldable codes_by : State → Operation → List ℕ
codes_by s (event e) = []
codes_by s (run log) = codes_of (run_log s log).answers
codes_by s (short log some) = []

module _ (s : State) (named : (bytes : List ℕ) → NamedIn (outcome s bytes)) (v : view (held s) ≡ s) where
  run_answered : (log : List ℕ) → (let t = state_by s (map entry (records_of log)) in view (held t) ≡ t → lowest_broken t ≡ none → AnswersRun true (held s) log (codes_of (run_log s log).answers) (held t))
  unfolding AnswersLog AnswersLogBy room_for reply_of Sound OneAnswerEach run_log
  run_answered log w u =
      let n : ℕ = length (records_of log) in
      let codes : List ℕ = codes_of (run_log s log).answers in
      let size : length codes ≡ n = codes_length (run_log s log).answers ∙ one_answer_each s log in
      let room : room_for log codes ≡ true = le-leb n (length codes) (omega arith) in
      record {
        before = codes;
        reply = Ok n;
        room = room;
        answers =
            rw (room, v) (
              refl,
              refl,
              refl,
              λ h. (take_all n codes (omega arith), w ∙ ap (λ (r : Replay). r.state) (sym (records_replayed s (records_of log))), ap lowest_broken w ∙ u),
            );
      }

  short_answered : (log : List ℕ) → 0 < length (records_of log) → AnswersRun false (held s) log [] (held s)
  unfolding AnswersLog AnswersLogBy room_for reply_of
  short_answered log some =
      let room : room_for log [] ≡ false = lt-leb (length (records_of log)) 0 some in
      record { before = []; reply = Err SliceShort; room = room; answers = rw room (refl, refl, refl) }

  operation_answered : (o : Operation) → (let t = state_by s (steps_of o) in view (held t) ≡ t → lowest_broken t ≡ none → AnswersOperation o (held s) (answer_by s o) (codes_by s o) (held t))
  unfolding AnswersOperation steps_of step_of replay step_state answer_by answer_to codes_by CallIsRecord next
  operation_answered (event (given bytes)) w u = record_answered s bytes (named bytes) v w u
  operation_answered (event (called kind p d e f)) w u = (call_is_record (held s) kind p d e f _).1 (record_answered s (call_record kind p d e f) (named (call_record kind p d e f)) v w u)
  operation_answered (event moves) w u = refl
  operation_answered (run log) w u = run_answered log w u
  operation_answered (short log some) w u = short_answered log some

operation_bytes : (s : State) → Invariant s → (o : Operation) → InBytes (answer_by s o) × Below (2 ^ 32) (codes_by s o)
unfolding answer_by codes_by run_log InBytes
operation_bytes s i (event e) = (answer_bytes s i (step_of e), λ k. pow_pos 32)
operation_bytes s i (run log) = (pow_pos 64, codes_below s (records_of log) (kept_ruled s i))
operation_bytes s i (short log some) = (pow_pos 64, λ k. pow_pos 32)

-- ---- all operations
module _ (os : List Operation) where
  abbrev at : ℕ → State
  at n = state_at (all_steps os) (moment os n)

  step_answered : (n : ℕ) → AnswersOperation (operation_at os n) (held (at n)) (answer_by (at n) (operation_at os n)) (codes_by (at n) (operation_at os n)) (held (at (suc n)))
  step_answered n =
      rw (next_moment os n)
      (operation_answered (at n) (outcome_named (at n) (kept_ruled (at n) (state_kept (all_steps os) (moment os n)))) (views (all_steps os) (moment os n)) (operation_at os n)
      (rw (next_moment os n) at (views (all_steps os) (moment os (suc n))))
      (rw (next_moment os n) at (state_kept (all_steps os) (moment os (suc n))).unbroken))

pub operation_chain_exists : OperationChainExists
unfolding OperationChainExists moment all_steps state_at
operation_chain_exists os =
    record {
      x = λ n. held (at os n);
      a = λ n. answer_by (at os n) (operation_at os n);
      codes = λ n. codes_by (at os n) (operation_at os n);
      chain = record { made = views (all_steps os) 0; answers = step_answered os };
      told = λ n. (operation_bytes (at os n) (state_kept (all_steps os) (moment os n)) (operation_at os n)).0;
      coded = λ n. (operation_bytes (at os n) (state_kept (all_steps os) (moment os n)) (operation_at os n)).1;
      holdable = λ h n. held_holdable (all_steps os) h (moment os n);
    }
