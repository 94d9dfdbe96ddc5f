-- The maps are the fresh ones at the start, and after each call those of one call more.
use Rattle.std.proofs.Common.{◌≡◌, ◌/◌, [], get_or, length, ap, ◌∙◌, arith}
use Rattle.tracker.specs.View.{view}
use Rattle.tracker.specs.Worked.{Worked, worked}
use Rattle.test_calls.specs.Calls.{after_calls}
use Rattle.test_calls.proofs.CallLaws.{none_yet, one_more}
use Rattle.test_calls.proofs.Fives.{call_of_five}
use Rattle.test_calls.proofs.run.Goals as goal

pub loop-kind-init : goal.loop-kind-init
loop-kind-init g c = none_yet _ _ c.new-t.ensures

pub loop-kind-preserved : goal.loop-kind-preserved
loop-kind-preserved g c =
    let calls = c.args.calls.now in
    let call = call_of_five calls (length calls / 5) c.loop-kind.kind-index _ [] (ap (λ l. get_or l c.loop-kind.kind-index []) c.as_chunks.ensures.front) (omega (arith, c.as_chunks.ensures.front_len)) in
    one_more _ _ _ _ c.loop-kind.invariant (ap (λ (x : Worked). x.maps) (c.call-called.ensures.works ∙ ap (worked (view c.loop-kind.t)) call))

pub returns : goal.returns
returns g c =
    let done : c.loop-kind.kind-index ≡ length c.args.calls.now / 5 = omega (arith, c.as_chunks.ensures.front_len) in
    c.loop-kind.invariant ∙ ap (λ n. after_calls n c.args.calls.now) done
