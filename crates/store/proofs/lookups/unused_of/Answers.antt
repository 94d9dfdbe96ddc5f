-- `unused_of` takes out of the set what each part of the tables keeps in use.
use Rattle.std.proofs.Common.{sym, ◌∙◌}
use Rattle.sets.specs.Sets.{◌∪◌, ◌∩◌}
use Rattle.store.proofs.Unused.{unused_named, unused_set_lem, running_is}
use Rattle.store.proofs.lookups.unused_of.Goals as goal

pub returns-then-unnamed-eq0 : goal.returns-then-unnamed-eq0
unfolding ◌∪◌ ◌∩◌
returns-then-unnamed-eq0 c =
    let a = c.args in
    rw (c.live.ensures, running_is a.words.now a.descriptors.now a.names.now a.x c.ranges.x.fits)
    (unused_named a.words.now a.descriptors.now a.names.now a.x c.ranges.x.fits (sym c.absent-unnamed.ensures ∙ c.if-unnamed-eq0.true))

pub returns : goal.returns
unfolding ◌∪◌ ◌∩◌
returns c =
    let a = c.args in
    rw (c.absent.ensures, c.absent-unnamed.ensures, c.live.ensures, running_is a.words.now a.descriptors.now a.names.now a.x c.ranges.x.fits)
    (unused_set_lem a.words.now a.descriptors.now a.names.now a.x c.ranges.x.fits c.told-words c.mapped.result c.mapped.ensures c.mapped.type_inv)
