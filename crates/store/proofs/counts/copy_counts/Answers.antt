-- `copy_counts` puts eight words in the place of eight others.
use Prim.Native.Nat.{ℕ, ◌+◌, ◌-◌}
use native.Mathlib.Omega.{arith}
use mathlib.Core.Path.{◌≡◌, sym, ap, ◌∙◌}
use mathlib.Core.List.{List, ◌++◌}
use lib.ListN.{take, drop}
use lib.Seq.{paste, take-take}
use Rattle.store.specs.Maps.{part}
use Rattle.store.proofs.counts.copy_counts.Goals as goal

pub returns : goal.returns
unfolding part
returns c =
    let w = c.args.words.now in
    let s = c.args.source in
    let at = c.args.at in
    let n : s + 8 - s ≡ 8 = omega arith in
    c.copy_within.ensures.after ∙ ap (paste w at (drop s w)) n ∙ ap (λ (l : List ℕ). take at w ++ l ++ drop (at + 8) w) (sym (take-take 8 8 (drop s w) (omega arith)))
