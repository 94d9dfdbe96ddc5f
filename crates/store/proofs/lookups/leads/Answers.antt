-- `leads` is the test of document 01.
use mathlib.Core.Path.{◌∙◌}
use Rattle.store.proofs.Files.{targets_has}
use Rattle.store.proofs.lookups.leads.Goals as goal

pub returns : goal.returns
returns c = c.holds.ensures ∙ targets_has _
