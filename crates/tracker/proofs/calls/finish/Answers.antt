-- `finish` empties, stores the tables, then releases.
use mathlib.Core.Path.{refl, ap, ◌∙◌}
use Rattle.store.specs.Maps.{Maps}
use Rattle.tracker.specs.Worked.{finished}
use Rattle.tracker.proofs.Joined.{passes_on}
use Rattle.tracker.proofs.calls.finish.Goals as goal

pub change_tables-requires : goal.change_tables-requires
change_tables-requires c = passes_on _ c.requires (ap (λ (m : Maps). m.tables) c.empty.ensures)

pub returns : goal.returns
unfolding finished
returns c = c.release.ensures ∙ rw (c.change_tables.ensures, c.empty.ensures, c.emptied_by-emptied.ensures, c.lost_by-lost.ensures) refl
