use Prim.Native.Nat.{ℕ, ◌<◌}
use mathlib.Core.Path.{◌≡◌}
use mathlib.Core.Bool.{false}
use Rattle.store.specs.Maps.{items_in}
use Rattle.rules.specs.Judging.{breaks_rule}
use Rattle.rules.proofs.judging.judge.Given as goal

abbrev pub invariant-loop-k : goal.invariant-loop-k
invariant-loop-k l = (j : ℕ) → j < l.k → breaks_rule (items_in l.words) l.plan l.rules.sets l.rules.fields j ≡ false
