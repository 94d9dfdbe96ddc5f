-- `substitute_fits` goes by the action.
use Rattle.flow.specs.Box.{is_device, is_file, is_target}
use Rattle.rules.proofs.loading.substitute_fits.Goals as goal

pub returns-in-Divert : goal.returns-in-Divert
unfolding is_target is_device is_file
returns-in-Divert c = rw c.in-Divert.is
