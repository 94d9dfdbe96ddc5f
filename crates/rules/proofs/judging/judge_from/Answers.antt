-- `judge_from` finds the first rule from `start` on that breaks anew.
use Prim.Native.Nat.{◌<◌}
use mathlib.Core.Path.{◌≡◌, sym}
use mathlib.Core.Bool.{true, false}
use native.Mathlib.Omega.{arith}
use borrow.Author.Rules.{rules}
use borrow.Author.Tests.{tests}
use Rattle.std.proofs.lemmas.Iterator.{first_from_Range, serves_from_Range}
use Rattle.store.specs.Maps.{items_in}
use Rattle.rules.specs.Judging.{breaks_rule}
use Rattle.rules.proofs.StoredLaws.{count_le}
use Rattle.rules.proofs.judging.judge_from.Goals as goal

pub returns : goal.returns
returns c =
    let f = breaks_rule (items_in c.args.words.now) c.args.plan c.args.rules.now.sets c.args.rules.now.fields in
    rw (sym c.count.ensures) (first_from_Range _ _ _ _ (λ k. f k ≡ true) (λ k. f k ≡ false) c.find.ensures.ran (λ x q k. search (rules, tests)) (λ x q k. (search rules, search (rules, tests))))

pub find-requires : goal.find-requires
find-requires c =
    record {
      can = tt;
      finite = tt;
      callable = serves_from_Range (λ x q k. search rules) (λ x low high. let lt : x < 32 = omega (arith, c.count.ensures, count_le c.args.rules.now.fields) in λ y is. rw is (search rules));
    }
