-- A map both counts a mapping more both ways.
use native.Mathlib.Omega.{arith}
use mathlib.Core.Path.{◌≡◌, refl}
use lib.ListN.{length}
use Rattle.std.proofs.Common.{rules}
use Rattle.store.specs.Maps.{view as maps_of}
use Rattle.store.proofs.Parts.{part_length}
use Rattle.terms.specs.Calls.{asked}
use Rattle.tracker.specs.Plans.{gives_by}
use Rattle.tracker.specs.View.{view}
use Rattle.tracker.proofs.Joined.{both_no_fork, finished_raised}
use Rattle.tracker.proofs.giving.ExchangeGiving.finish.Goals as goal

pub returns : goal.returns
unfolding maps_of gives_by
returns c =
    let t = c.args.t.now in
    let long : length t.words ≡ 353 = search rules in
    finished_raised (view t) _ (part_length 1 64 t.words (omega arith)) (asked c.args.q) (rw c.requires.1 refl) (both_no_fork _ c.requires.1) c.raise_both.ensures
