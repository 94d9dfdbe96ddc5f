-- `breaks_now` asks whether some container breaks the rule.
use mathlib.Core.Path.{◌≡◌, refl}
use mathlib.Core.Bool.{Bool, true, false}
use Prim.Native.Nat.{ℕ}
use lib.ListN.{get_or}
use borrow.Author.Rules.{rules}
use borrow.Author.Tests.{tests}
use Rattle.std.proofs.lemmas.Iterator.{cases_from_any, YieldsList-from_range}
use Rattle.store.specs.Maps.{items_in}
use Rattle.terms.specs.Rules.{condition_in}
use Rattle.rules.specs.Judging.{breaks_with, broken_in}
use Rattle.rules.proofs.Searching.{any_below}
use Rattle.rules.proofs.loading.breaks_now.Goals as goal

pub returns : goal.returns
unfolding broken_in
returns c =
    let f : ℕ → Bool = λ v. breaks_with (get_or (items_in c.args.words.now) v 0) (condition_in c.args.rule.condition) v in
    any_below f 64 _ (cases_from_any _ _ _ (λ v. f v ≡ true) (λ v. f v ≡ false) c.any.ensures.ran (YieldsList-from_range 0 64 64 refl refl) (λ x q k. search (rules, tests)) (λ x q k. search (rules, tests)))
