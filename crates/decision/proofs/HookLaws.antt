-- A call by the hook is a record, since the record of five numbers reads as their call; and so an event is a step of a chain.
use Prim.Native.Nat.{ℕ, suc}
use native.Mathlib.Omega.{arith}
use mathlib.Core.Path.{◌≡◌, refl, sym, ap, ◌∙◌}
use mathlib.Core.List.{List, map}
use lib.ListN.{get_or-map, length-map}
use Rattle.flow.specs.Lists.{◌⇒◌, first_that}
use Rattle.flow.specs.Records.{byte_at, tag_of, stated_length, record_length, value_of, cut_short, known_tag, tag_length, wrong_length, call_from, call_in, a_call, frame_tests, content_of, reading_by, reading}
use Rattle.flow.specs.Contents.{entry, memory, step_at}
use Rattle.decision.specs.declared.Monitor.{Monitor}
use Rattle.decision.specs.declared.Answer.{Answer}
use Rattle.decision.specs.Answers.{AnswersRecord}
use Rattle.decision.specs.TwoRuns.{Chain, Demand3OfCode}
use Rattle.decision.specs.Chains.{call_record, CallIsRecord, Event, given, called, moves, step_of, event_at, MixedChain, HookIsStep, Demand3OfHook}
use Rattle.decision.proofs.TwoRuns.{demand3_of_code}

read_back : (kind p a b c : ℕ) → reading (call_record kind p a b c) ≡ a_call (call_from kind p a b c)
unfolding call_record reading reading_by frame_tests content_of call_in first_that ◌⇒◌ byte_at tag_of stated_length record_length value_of cut_short known_tag tag_length wrong_length
read_back kind p a b c = refl

pub call_is_record : CallIsRecord
unfolding CallIsRecord
call_is_record m kind p a b c r = (λ h. rw (read_back kind p a b c) h, λ h. rw (read_back kind p a b c) at h)

module _ (events : List Event) where
  pub step_at_lem : (n : ℕ) → step_at (map step_of events) n ≡ step_of (event_at events n)
  unfolding step_of
  step_at_lem n = get_or-map step_of events n moves

  module _ (x : ℕ → Monitor) (a : ℕ → Answer) where
    mixed_chain : MixedChain events x a → Chain (map step_of events) x a
    unfolding step_of CallIsRecord
    mixed_chain c =
        record {
          made = c.made;
          answers = λ n bytes h. by_event n (event_at events n) bytes refl (sym (step_at_lem n) ∙ h);
          rests = λ n h. c.rests n (rests (event_at events n) (sym (step_at_lem n) ∙ h));
        }
      where
        by_event : (n : ℕ) (e : Event) (bytes : List ℕ) → event_at events n ≡ e → step_of e ≡ entry bytes
            → AnswersRecord (x n) bytes (record { answer = a n; monitor = x (suc n) })
        by_event n (given l) bytes h k = c.answers n bytes (h ∙ (cc))
        by_event n (called kind p d e f) bytes h k =
            let q : call_record kind p d e f ≡ bytes = cc in
            rw (← q) ((call_is_record (x n) kind p d e f _).0 (c.calls n kind p d e f h))
        by_event n moves bytes h k = absurd (let z : ◌≡◌ {A = ℕ} 0 1 = cc in let y : ⊥ = omega arith in y)

        rests : (e : Event) → step_of e ≡ memory → e ≡ moves
        rests (given l) k = cc
        rests (called kind p d e f) k = cc
        rests moves k = refl

    chain_mixed : Chain (map step_of events) x a → MixedChain events x a
    unfolding step_of CallIsRecord
    chain_mixed c =
        record {
          made = c.made;
          answers = λ n bytes h. c.answers n bytes (step_at_lem n ∙ ap step_of h);
          calls = λ n kind p d e f h. (call_is_record (x n) kind p d e f _).1 (c.answers n (call_record kind p d e f) (step_at_lem n ∙ ap step_of h));
          rests = λ n h. c.rests n (step_at_lem n ∙ ap step_of h);
        }

pub hook_is_step : HookIsStep
unfolding HookIsStep
hook_is_step events x a = (mixed_chain events x a, chain_mixed events x a)

pub demand3_of_hook : Demand3OfHook
unfolding Demand3OfHook Demand3OfCode
demand3_of_hook W m chosen events in₁ in₂ agree x y a b cx cy k l c hc =
    demand3_of_code W m chosen (map step_of events) in₁ in₂ agree x y a b (mixed_chain events x a cx) (mixed_chain events y b cy) k (rw (length-map events step_of) l) c hc
