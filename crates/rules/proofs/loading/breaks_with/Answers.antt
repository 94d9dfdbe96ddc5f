-- `breaks_with` goes by the condition.
use Rattle.rules.specs.Judging.{breaks_with}
use Rattle.rules.proofs.loading.breaks_with.Goals as goal

pub returns-in-Forbid : goal.returns-in-Forbid
unfolding breaks_with
returns-in-Forbid c = rw (c.in-Forbid.is, c.has.ensures, c.has-in-Forbid.ensures)

pub returns-in-Separate : goal.returns-in-Separate
unfolding breaks_with
returns-in-Separate c = rw (c.in-Separate.is, c.has-in-Separate.ensures, c.has-in-Separate-2.ensures)

pub returns-in-Confine : goal.returns-in-Confine
unfolding breaks_with
returns-in-Confine c = rw (c.in-Confine.is, c.has-in-Confine.ensures, c.has-in-Confine-2.ensures)
