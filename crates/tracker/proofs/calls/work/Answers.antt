-- `work` refuses, or gives and finishes, or finishes.
use native.Mathlib.Omega.{arith}
use mathlib.Core.Path.{◌≡◌, sym, ap, ◌∙◌}
use mathlib.Core.Option.{Option, none, some}
use lib.ListN.{length}
use Rattle.std.specs.Prelude.{Err}
use Rattle.flow.specs.Lists.{first_that}
use Rattle.flow.specs.Refusals.{call_tests}
use Rattle.flow.specs.Calls.{Call}
use Rattle.store.specs.Maps.{Maps, view}
use Rattle.store.proofs.Parts.{part_length}
use Rattle.store.proofs.Writes.{sized_view}
use Rattle.terms.specs.Calls.{asked}
use Rattle.tracker.specs.Calling.{gained_by}
use Rattle.tracker.specs.Worked.{finished}
use Rattle.tracker.proofs.Joined.{refused, quiet_given, finished_call, worked_out, gained_call, gained_quiet}
use borrow.Author.Rules.{rules}
use Rattle.tracker.proofs.calls.work.Goals as goal

pub returns-in_err-known-clause-worked : goal.returns-in_err-known-clause-worked
unfolding gained_by
returns-in_err-known-clause-worked c =
    let e : c.from_residual.result ≡ Err c.in_err-known.field-0.0 = search rules in
    rw e (refused _ _ _ c.in_err-known.ensures.tested)

pub returns-then-can_give-clause-worked : goal.returns-then-can_give-clause-worked
unfolding view gained_by
returns-then-can_give-clause-worked c =
    let t = c.args.t.now in
    let m = view t.words t.descriptors t.names in
    let q = asked c.in_ok-known.known in
    let l : length t.words ≡ 353 = search rules in
    let n : length t.names ≡ 128 = search rules in
    let k = part_length 1 64 t.words (omega arith) in
    let f = c.in_ok-known.ensures in
    let h : first_that (call_tests m.tables (some q)) ≡ none = sym (f.tested ∙ ap (λ (o : Option Call). first_that (call_tests m.tables o)) f.known) in
    rw f.known
    (worked_out _ _ _ _ h
    (c.give.ensures.made ∙ finished_call m k (sized_view t.words _ _) n q h)
    (c.give.ensures.told ∙ gained_call m k (sized_view t.words _ _) n q h))

pub returns-clause-worked : goal.returns-clause-worked
unfolding view gained_by
returns-clause-worked c =
    let t = c.args.t.now in
    let m = view t.words t.descriptors t.names in
    let q = asked c.in_ok-known.known in
    let l : length t.words ≡ 353 = search rules in
    let n : length t.names ≡ 128 = search rules in
    let k = part_length 1 64 t.words (omega arith) in
    let f = c.in_ok-known.ensures in
    let h : first_that (call_tests m.tables (some q)) ≡ none = sym (f.tested ∙ ap (λ (o : Option Call). first_that (call_tests m.tables o)) f.known) in
    let quiet = sym c.can_give.ensures ∙ c.if-can_give.false in
    rw f.known
    (worked_out _ _ _ _ h
    (c.finish.ensures ∙ ap (λ (x : Maps). finished x q) (quiet_given m k q quiet) ∙ finished_call m k (sized_view t.words _ _) n q h)
    (gained_quiet m k (sized_view t.words _ _) n q h quiet))
