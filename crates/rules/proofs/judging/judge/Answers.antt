-- `judge` finds the first rule that breaks anew: up to the first that keeps an item given from another, and then from it on.
use Prim.Native.Nat.{ℕ, ◌^◌, ◌<◌}
use mathlib.Core.Path.{◌≡◌, sym, ap, ◌∙◌}
use mathlib.Core.Bool.{true}
use native.Mathlib.Omega.{arith}
use mir.Val.{Fits}
use mir.Syntax.{w64}
use borrow.Author.Count.{below_none, below_more}
use borrow.Author.Rules.{rules}
use Rattle.std.specs.Prelude.{Option}
use Rattle.sets.specs.Sets.{◌∪◌}
use Rattle.sets.proofs.Members.{union_lt}
use Rattle.flow.proofs.Bools.{no_both}
use Rattle.terms.specs.Rules.{condition_in}
use Rattle.store.specs.Maps.{items_in}
use Rattle.rules.specs.Stored.{condition_at}
use Rattle.rules.specs.Judging.{breaks_anew, AnewFrom, Judged}
use Rattle.rules.proofs.Searching.{first_onward}
use Rattle.rules.proofs.StoredLaws.{count_le}
use Rattle.rules.proofs.AnewLaws.{far, nothing_given, judges}
use Rattle.rules.proofs.judging.judge.Goals as goal
use Rattle.rules.proofs.judging.judge.Goals.{Start, in-None, in-Some-Forbid, in-Some-Confine}

answer : (c : Start) (r : Option ℕ)
    → AnewFrom (items_in c.args.words.now) c.args.plan c.args.rules.now.sets c.args.rules.now.fields 0 r
    → Judged (items_in c.args.words.now) c.args.plan c.args.rules.now.sets c.args.rules.now.fields r
answer c r w =
    let x : Fits w64 c.args.plan.to = search rules in
    let y : Fits w64 c.args.plan.to2 = search rules in
    judges _ _ _ _ r x.fits y.fits w

gained_lt : (c : Start) → (c.args.plan.given ∪ c.args.plan.given2) < 2 ^ 64
gained_lt c =
    let x : Fits w64 c.args.plan.given = search rules in
    let y : Fits w64 c.args.plan.given2 = search rules in
    union_lt _ _ x.fits y.fits

pub loop-k-init : goal.loop-k-init
loop-k-init c = below_none _

pub returns-then-given-eq0 : goal.returns-then-given-eq0
unfolding ◌∪◌
returns-then-given-eq0 c = answer (goal.at.returns-then-given-eq0 c).Start _ (nothing_given _ c.if-given-eq0.true _ _ _)

pub touched-requires : goal.touched-requires
touched-requires c = omega (arith, c.count-k-end.ensures, count_le c.args.rules.now.fields)

pub returns-in-Some-Separate : goal.returns-in-Some-Separate
returns-in-Some-Separate c = answer (goal.at.returns-in-Some-Separate c).Start _ (first_onward _ _ _ c.loop-k.invariant _ c.judge_from.ensures)

pub returns-then-breaks : goal.returns-then-breaks
unfolding breaks_anew
returns-then-breaks c =
    let hit : breaks_anew (items_in c.args.words.now) c.args.plan (condition_at c.args.rules.now.sets c.args.rules.now.fields c.loop-k.k) ≡ true =
    elim c.match-touched.branch [
      | in-Some-Forbid w ↦ sym (ap (breaks_anew _ _) (sym (ap condition_in w.in-Some-Forbid.field-0-is) ∙ w.in-Some-Forbid.ensures.0)) ∙ sym w.enters-breaks.ensures ∙ sym w.breaks-is ∙ c.if-breaks.true
      | in-Some-Confine w ↦ sym (ap (breaks_anew _ _) (sym (ap condition_in w.in-Some-Confine.field-0-is) ∙ w.in-Some-Confine.ensures.0)) ∙ sym w.leaves-breaks.ensures ∙ sym w.breaks-is ∙ c.if-breaks.true
      | in-None w ↦ no_both c.if-breaks.true w.breaks-is
    ] in
    answer (goal.at.returns-then-breaks c).Start _ (omega arith, omega (arith, c.count-k-end.ensures), hit, λ j l m. c.loop-k.invariant j m)

pub loop-k-preserved : goal.loop-k-preserved
unfolding breaks_anew ◌∪◌
loop-k-preserved c =
    below_more _ _ c.loop-k.invariant
    (elim c.match-touched.branch [
      | in-Some-Forbid w ↦ sym (ap (breaks_anew _ _) (sym (ap condition_in w.in-Some-Forbid.field-0-is) ∙ w.in-Some-Forbid.ensures.0)) ∙ sym w.enters-breaks.ensures ∙ sym w.breaks-is ∙ c.if-breaks.false
      | in-Some-Confine w ↦ sym (ap (breaks_anew _ _) (sym (ap condition_in w.in-Some-Confine.field-0-is) ∙ w.in-Some-Confine.ensures.0)) ∙ sym w.leaves-breaks.ensures ∙ sym w.breaks-is ∙ c.if-breaks.false
      | in-None w ↦ far _ _ _ (gained_lt (goal.at.loop-k-preserved c).Start) w.in-None.ensures
    ])

pub returns : goal.returns
returns c = answer (goal.at.returns c).Start _ (λ j l m. c.loop-k.invariant j (omega (arith, c.count-k-end.ensures)))
