-- `unused` asks of a file or pipe whether it is in use.
use mathlib.Core.Path.{sym, ◌∙◌}
use Rattle.flow.specs.Box.{is_file}
use Rattle.store.specs.Maps.{container_set}
use Rattle.tracker.specs.Plans.{set_of}
use Rattle.tracker.proofs.Finding.{unused_none, unused_one, gone_file, gone_no_file}
use Rattle.tracker.proofs.release.unused.Goals as goal

pub returns-then-not-e : goal.returns-then-not-e
unfolding set_of is_file container_set
returns-then-not-e c = gone_no_file _ _ c.if-not-e.true

pub returns-then-in_use : goal.returns-then-in_use
unfolding set_of is_file container_set
returns-then-in_use c = unused_none _ _ (sym c.in_use.ensures ∙ c.if-in_use.true) ∙ gone_file _ _ c.if-not-e.false

pub returns : goal.returns
unfolding set_of is_file container_set
returns c = unused_one _ _ (sym c.in_use.ensures ∙ c.if-in_use.false) ∙ gone_file _ _ c.if-not-e.false
