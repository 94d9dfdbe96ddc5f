-- A fork copies the tables and releases what the child held.
use native.Mathlib.Omega.{arith}
use mathlib.Core.Path.{◌≡◌, refl, ap, ◌∙◌}
use lib.ListN.{length}
use Rattle.std.proofs.Common.{rules}
use Rattle.sets.specs.Sets.{◌∩◌}
use Rattle.flow.specs.Calls.{fork}
use Rattle.flow.specs.Refusals.{ranges}
use Rattle.store.specs.Maps.{Maps, with_items, cleared, files, view as maps_of}
use Rattle.store.proofs.Parts.{part_length}
use Rattle.terms.specs.Calls.{asked}
use Rattle.tracker.specs.Plans.{gone_of}
use Rattle.tracker.specs.View.{view}
use Rattle.tracker.proofs.Facts.{process_lt, process_a}
use Rattle.tracker.proofs.Joined.{finished_fork}
use Rattle.tracker.proofs.giving.CopyingGiving.finish.Goals as goal

pub fork-requires : goal.fork-requires
unfolding ranges
fork-requires c = (process_lt c.requires.0, process_a c.requires.0 fork c.requires.1 refl)

pub returns : goal.returns
unfolding maps_of
returns c =
    let t = c.args.t.now in
    let long : length t.words ≡ 353 = search rules in
    finished_fork (view t) _ (part_length 1 64 t.words (omega arith)) (asked c.args.q) c.requires.1 _ c.held_by-held.ensures
    (c.release_each.ensures ∙ ap (λ (m : Maps). with_items m (cleared m.items (gone_of m.tables (c.held_by-held.result ∩ files)))) c.fork.ensures)
