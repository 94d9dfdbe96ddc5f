-- `at` reads four words.
use Prim.Native.Nat.{◌*◌, ◌/◌}
use native.Mathlib.Nat.{add_assoc}
use mathlib.Core.Path.{refl}
use Rattle.store.specs.Maps.{maps_in, ways_in}
use Rattle.store.specs.Pairs.{cells_in}
use Rattle.store.proofs.counts.Cells.at.Goals as goal

pub returns : goal.returns
unfolding cells_in maps_in ways_in
returns c =
    let p = c.args.p.0 in
    let v = c.args.c.0 in
    rw (add_assoc 97 (8 * p) (v / 8), add_assoc 225 (8 * p) (v / 8)) refl
