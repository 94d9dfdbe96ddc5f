-- A code tells the very answer, and so a kernel that goes by codes is told the words of document 01, and demand 3 holds of it.
use Prim.Native.Nat.{ℕ, suc, ◌^◌, ◌<◌}
use native.Mathlib.Omega.{arith}
use mathlib.Core.Path.{◌≡◌, refl, sym, ap, subst, ◌∙◌}
use mathlib.Core.Logic.{inl, inr, ⊎_elim}
use mathlib.Core.Bool.{Bool, true, false}
use mathlib.Core.List.{List, map}
use lib.ListN.{length, take}
use Rattle.flow.specs.Records.{records_of}
use Rattle.flow.specs.Verdicts.{outcome}
use Rattle.flow.specs.Queries.{Reply as QueryWord, refuse, result, items_query}
use Rattle.tracker.specs.Replies.{reply_of}
use Rattle.decision.specs.declared.Monitor.{Monitor}
use Rattle.decision.specs.declared.Answer.{Answer}
use Rattle.decision.specs.declared.Answer.TheVariants.{Allow}
use Rattle.decision.specs.declared.Answered.{Answered}
use Rattle.decision.specs.View.{view}
use Rattle.decision.specs.Answers.{word_of, Sound, AnswersRecord, AnswersCall}
use Rattle.decision.specs.Logs.{code_of, word_from, InBytes, CodesTell, room_for, AnswersLogBy, AnswersLog, Coded}
use Rattle.decision.specs.TwoRuns.{AnswersWithout}
use Rattle.decision.specs.Chains.{CallIsRecord, call_record, given, called, moves, Operation, event, run, short, steps_of, operation_at, AnswersRun, AnswersOperation, OperationsOver, OperationChainExists, told_to, told_by}
use Rattle.decision.specs.Telling.{AnswersInBytes, LogCodesTell}
use Rattle.decision.proofs.CodeLaws.{codes_tell, code_lt}
use Rattle.decision.proofs.HookLaws.{call_is_record}
use Rattle.decision.proofs.Telling.{answers_in_bytes, log_codes_tell}
use Rattle.decision.proofs.Operations.{Done, answered_by, operation_done, AllDone, demand3_of_done}
use Rattle.decision.proofs.OperationChains.{operation_chain_exists}
use Rattle.hook.specs.Codes.{Given, AnswersLogGiven}
use Rattle.hook.proofs.CodeLaws.{given_by}
use Rattle.hook.specs.Kernels.{CodesTellAnswers, RunGiven, OperationGiven, KernelChain, KernelChainExists, GivenWithout, Demand3OfKernel}

-- ---- the answer that a promise hides
module _ (P : Answered → Type 0) (n : ℕ) (m : Monitor) (bytes : (r : Answered) → P r → InBytes r.answer) (c : Coded P n m) where
  hidden : word_from n ≡ word_of c.answer
  unfolding CodesTell
  hidden = ap word_from c.code ∙ codes_tell c.answer (bytes (record { answer = c.answer; monitor = m }) c.promised)

record_hidden : (m m' : Monitor) (bytes : List ℕ) (n : ℕ) (c : Coded (AnswersRecord m bytes) n m') → Sound m → word_from n ≡ word_of c.answer
unfolding AnswersInBytes
record_hidden m m' bytes n c z = hidden (AnswersRecord m bytes) n m' (λ r h. answers_in_bytes.0 m bytes r h z) c

call_hidden : (m m' : Monitor) (kind p a b d n : ℕ) (c : Coded (AnswersCall m kind p a b d) n m') → Sound m → word_from n ≡ word_of c.answer
unfolding AnswersInBytes
call_hidden m m' kind p a b d n c z = hidden (AnswersCall m kind p a b d) n m' (λ r h. answers_in_bytes.1 m kind p a b d r h z) c

-- ---- a log returns 0 where there is room for its codes, and else 13
module _ {m m' : Monitor} {log codes codes' : List ℕ} {count n count' : ℕ} (g : AnswersLogGiven m log codes count n m' codes' count') where
  by : (b : Bool) → room_for log codes ≡ b → AnswersLogBy b m log codes (record { reply = g.reply; monitor = m' }) codes'
  unfolding AnswersLog
  by b e = subst (λ (x : Bool). AnswersLogBy x m log codes (record { reply = g.reply; monitor = m' }) codes') e g.promised

  given_true : room_for log codes ≡ true → (n ≡ 0) × (count' ≡ length (records_of log))
  unfolding AnswersLogBy Given
  given_true e = given_by (reply_of g.reply) (result (length (records_of log))) (by true e).0 count n count' g.given

  given_false : room_for log codes ≡ false → n ≡ 13
  unfolding AnswersLogBy Given
  given_false e = (given_by (reply_of g.reply) (refuse 13) (by false e).0 count n count' g.given).0

  room : n ≡ 0 → room_for log codes ≡ true
  room z = go (room_for log codes) refl
    where
      go : (b : Bool) → room_for log codes ≡ b → b ≡ true
      go true e = refl
      go false e = absurd (let h : n ≡ 13 = given_false e in let y : ⊥ = omega arith in y)

  no_room : n ≡ 13 → room_for log codes ≡ false
  no_room z = go (room_for log codes) refl
    where
      go : (b : Bool) → room_for log codes ≡ b → b ≡ false
      go true e = absurd (let h : n ≡ 0 = (given_true e).0 in let y : ⊥ = omega arith in y)
      go false e = refl

pub codes_tell_answers : CodesTellAnswers
unfolding CodesTellAnswers CallIsRecord outcome AnswersLogBy LogCodesTell
codes_tell_answers = (
  λ m m' bytes n c z. record { code = c.code ∙ ap code_of (c.promised.answer z); word = record_hidden m m' bytes n c z ∙ c.promised.answer z },
  λ m m' kind p a b d n c z. let r : AnswersRecord m (call_record kind p a b d) (record { answer = c.answer; monitor = m' }) = (call_is_record m kind p a b d (record { answer = c.answer; monitor = m' })).0 c.promised in
      record { code = c.code ∙ ap code_of (r.answer z); word = call_hidden m m' kind p a b d n c z ∙ r.answer z },
  λ m m' log codes codes' count count' g z.
      let e : room_for log codes ≡ true = room g refl in
      let front = ap (λ (k : ℕ). take k codes') (given_true g e).1 ∙ ((by g true e).3 z).0 in
      record { codes = front; words = ap (map word_from) front ∙ log_codes_tell m log },
)

-- ---- each operation is done as the definitions have it
run_answers : {m next : Monitor} {log codes : List ℕ} {n : ℕ} (b : Bool) (g : RunGiven m log n codes next) → room_for log g.before ≡ b → AnswersRun b m log codes next
run_answers b g e = record { before = g.before; reply = g.answers.reply; room = e; answers = g.answers.promised }

kernel_done : (o : Operation) (m : Monitor) (n : ℕ) (codes : List ℕ) (next : Monitor) → OperationGiven o m n codes next → Sound m → Done m (steps_of o) (told_by o (word_from n) codes) next
unfolding OperationGiven AnswersOperation told_by told_to
kernel_done (event (given bytes)) m n codes next g s = rw (record_hidden m next bytes n g s) (operation_done (event (given bytes)) m g.answer codes next g.promised s)
kernel_done (event (called kind p d e f)) m n codes next g s =
    rw (call_hidden m next kind p d e f n g s) (operation_done (event (called kind p d e f)) m g.answer codes next g.promised s)
kernel_done (event moves) m n codes next g s = operation_done (event moves) m (Allow 0) codes next g s
kernel_done (run log) m n codes next g s = operation_done (run log) m (Allow 0) codes next (run_answers true g.1 (room g.1.answers g.0)) s
kernel_done (short log some) m n codes next g s = operation_done (short log some) m (Allow 0) codes next (run_answers false g.1 (no_room g.1.answers g.0)) s

chain_done : (os : List Operation) (x : ℕ → Monitor) (a : ℕ → ℕ) (codes : ℕ → List ℕ) → KernelChain os x a codes → AllDone os x (λ n. word_from (a n)) codes
chain_done os x a codes c n s = kernel_done (operation_at os n) (x n) (a n) (codes n) (x (suc n)) (c.answers n) s

without : (chosen : ℕ → Bool) (m : Monitor) (c : ℕ) → GivenWithout chosen m c → AnswersWithout chosen m c
unfolding GivenWithout AnswersWithout reply_of Given
without chosen m c h w e = h 0 w (given_by (result w) (items_query (view m) c) e 0 0 w (refl, refl))

pub demand3_of_kernel : Demand3OfKernel
unfolding Demand3OfKernel
demand3_of_kernel W m chosen os in₁ in₂ agree x y a b f g cx cy c hc =
    let d = demand3_of_done W m chosen os in₁ in₂ agree x y (λ n. word_from (a n)) (λ n. word_from (b n)) f g cx.made (chain_done os x a f cx) cy.made (chain_done os y b g cy) c hc in (
      λ n h. d.0 n (⊎_elim (λ z. inl (without chosen (x n) c z)) (λ z. inr (without chosen (y n) c z)) h),
      d.1,
    )

-- ---- and there is a chain
-- what the function for an operation returns where `Monitor` answers a
unfoldable number_of : Operation → Answer → ℕ
number_of (event e) a = code_of (word_of a)
number_of (run log) a = 0
number_of (short log some) a = 13

number_lt : (o : Operation) (a : Answer) → InBytes a → number_of o a < 2 ^ 32
unfolding number_of
number_lt (event e) a h = code_lt a h
number_lt (run log) a h = omega arith
number_lt (short log some) a h = omega arith

run_given : {b : Bool} {m next : Monitor} {log codes : List ℕ} (n counted : ℕ) (w : QueryWord) (h : AnswersRun b m log codes next) → reply_of h.reply ≡ w → Given w 0 n counted → RunGiven m log n codes next
run_given n counted w h e g = record { before = h.before; count = 0; counted = counted; answers = record { reply = h.reply; given = given_by w (reply_of h.reply) (sym e) 0 n counted g; promised = h.answers } }

operation_given : (o : Operation) (m : Monitor) (a : Answer) (codes : List ℕ) (next : Monitor) → AnswersOperation o m a codes next → OperationGiven o m (number_of o a) codes next
unfolding AnswersOperation OperationGiven number_of AnswersLogBy Given
operation_given (event (given bytes)) m a codes next h = record { answer = a; code = refl; promised = h }
operation_given (event (called kind p d e f)) m a codes next h = record { answer = a; code = refl; promised = h }
operation_given (event moves) m a codes next h = h
operation_given (run log) m a codes next h = (refl, run_given 0 (length (records_of log)) (result (length (records_of log))) h (answered_by h).0 (refl, refl))
operation_given (short log some) m a codes next h = (refl, run_given 13 0 (refuse 13) h (answered_by h).0 (refl, refl))

pub kernel_chain_exists : KernelChainExists
unfolding KernelChainExists OperationChainExists
kernel_chain_exists os =
    let o : OperationsOver os = operation_chain_exists os in
    record {
      x = o.x;
      returned = λ n. number_of (operation_at os n) (o.a n);
      codes = o.codes;
      chain = record { made = o.chain.made; answers = λ n. operation_given (operation_at os n) (o.x n) (o.a n) (o.codes n) (o.x (suc n)) (o.chain.answers n) };
      told = λ n. number_lt (operation_at os n) (o.a n) (o.told n);
      coded = o.coded;
      holdable = o.holdable;
    }
