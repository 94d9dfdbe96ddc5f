-- A call that gives once counts a mapping more, or does nothing.
use native.Mathlib.Omega.{arith}
use mathlib.Core.Path.{◌≡◌}
use lib.ListN.{length}
use Rattle.std.proofs.Common.{rules}
use Rattle.store.specs.Maps.{view as maps_of}
use Rattle.store.proofs.Parts.{part_length}
use Rattle.terms.specs.Calls.{asked}
use Rattle.tracker.specs.View.{view}
use Rattle.tracker.proofs.Joined.{finished_raised}
use Rattle.tracker.proofs.giving.OnceGiving.finish.Goals as goal

pub returns : goal.returns
unfolding maps_of
returns c =
    let t = c.args.t.now in
    let long : length t.words ≡ 353 = search rules in
    finished_raised (view t) _ (part_length 1 64 t.words (omega arith)) (asked c.args.q) c.requires.1.0 c.requires.1.2 c.raise_read.ensures
