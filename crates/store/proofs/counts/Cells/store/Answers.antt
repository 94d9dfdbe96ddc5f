-- `store` stores four words.
use Prim.Native.Nat.{◌*◌, ◌/◌}
use native.Mathlib.Nat.{add_assoc}
use mathlib.Core.Path.{refl}
use Rattle.store.specs.Pairs.{stored}
use Rattle.store.proofs.counts.Cells.store.Goals as goal

pub returns : goal.returns
unfolding stored
returns c =
    let p = c.args.p.0 in
    let v = c.args.c.0 in
    rw (add_assoc 97 (8 * p) (v / 8), add_assoc 225 (8 * p) (v / 8)) refl
