-- `Kind::try_from` goes by the table of kinds.
use Rattle.std.proofs.Common.{rules}
use mathlib.Core.Path.{refl, sym}
use mathlib.Core.List.{[], ◌∷◌}
use mathlib.Core.Option.{Option}
use Rattle.flow.specs.Calls.{Kind}
use Rattle.terms.proofs.Arms.{kind_rest}
use Rattle.flow.specs.Records.{kind_of, kinds}
use Rattle.terms.proofs.kind.KindTryFromU8.try_from.Goals as goal

pub returns-in-1 : goal.returns-in-1
unfolding kind_of kinds
returns-in-1 c = rw c.in-1.is (search rules)

pub returns-in-2 : goal.returns-in-2
unfolding kind_of kinds
returns-in-2 c = rw c.in-2.is (search rules)

pub returns-in-3 : goal.returns-in-3
unfolding kind_of kinds
returns-in-3 c = rw c.in-3.is (search rules)

pub returns-in-4 : goal.returns-in-4
unfolding kind_of kinds
returns-in-4 c = rw c.in-4.is (search rules)

pub returns-in-5 : goal.returns-in-5
unfolding kind_of kinds
returns-in-5 c = rw c.in-5.is (search rules)

pub returns-in-6 : goal.returns-in-6
unfolding kind_of kinds
returns-in-6 c = rw c.in-6.is (search rules)

pub returns-in-7 : goal.returns-in-7
unfolding kind_of kinds
returns-in-7 c = rw c.in-7.is (search rules)

pub returns-in-8 : goal.returns-in-8
unfolding kind_of kinds
returns-in-8 c = rw c.in-8.is (search rules)

pub returns-in-9 : goal.returns-in-9
unfolding kind_of kinds
returns-in-9 c = rw c.in-9.is (search rules)

pub returns-in-10 : goal.returns-in-10
unfolding kind_of kinds
returns-in-10 c = rw c.in-10.is (search rules)

pub returns-in-11 : goal.returns-in-11
unfolding kind_of kinds
returns-in-11 c = rw c.in-11.is (search rules)

pub returns-in-12 : goal.returns-in-12
unfolding kind_of kinds
returns-in-12 c = rw c.in-12.is (search rules)

pub returns-in-13 : goal.returns-in-13
unfolding kind_of kinds
returns-in-13 c = rw c.in-13.is (search rules)

pub returns-in-14 : goal.returns-in-14
unfolding kind_of kinds
returns-in-14 c = rw c.in-14.is (search rules)

pub returns-in-15 : goal.returns-in-15
unfolding kind_of kinds
returns-in-15 c = rw c.in-15.is (search rules)

pub returns-in-16 : goal.returns-in-16
unfolding kind_of kinds
returns-in-16 c = rw c.in-16.is (search rules)

pub returns-in-17 : goal.returns-in-17
unfolding kind_of kinds
returns-in-17 c = rw c.in-17.is (search rules)

pub returns-in-18 : goal.returns-in-18
unfolding kind_of kinds
returns-in-18 c = rw c.in-18.is (search rules)

pub returns-in-19 : goal.returns-in-19
unfolding kind_of kinds
returns-in-19 c = rw c.in-19.is (search rules)

pub returns-in_default : goal.returns-in_default
unfolding kinds
returns-in_default c = (sym (kind_rest (λ (k : Option Kind). k) ((19 ∷ []) ∷ (18 ∷ []) ∷ (17 ∷ []) ∷ (16 ∷ []) ∷ (15 ∷ []) ∷ (14 ∷ []) ∷ (13 ∷ []) ∷ (12 ∷ []) ∷ (11 ∷ []) ∷ (10 ∷ []) ∷ (9 ∷ []) ∷ (8 ∷ []) ∷ (7 ∷ []) ∷ (6 ∷ []) ∷ (5 ∷ []) ∷ (4 ∷ []) ∷ (3 ∷ []) ∷ (2 ∷ []) ∷ (1 ∷ []) ∷ []) refl _ c.in_default.in_default-own.rest), refl)
