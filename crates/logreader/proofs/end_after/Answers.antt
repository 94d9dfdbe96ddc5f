-- `end_after` goes by what stands at the place.
use Rattle.std.proofs.Common.{ap, ◌∙◌}
use Rattle.logreader.specs.Log.{end_of}
use Rattle.logreader.proofs.PlaceLaws.{end_or}
use Rattle.logreader.proofs.end_after.Goals as goal

pub returns : goal.returns
returns c = c.unwrap_or.ensures ∙ end_or _ _ ∙ ap (end_of _) c.next_at.ensures
