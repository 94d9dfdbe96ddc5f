-- `empty` empties a container, or nothing.
use mathlib.Core.Path.{◌≡◌}
use lib.ListN.{length}
use Rattle.store.proofs.Words.{none_cleared}
use Rattle.tracker.specs.Plans.{set_of}
use borrow.Author.Rules.{rules}
use Rattle.tracker.proofs.release.empty.Goals as goal

pub returns-in-Some : goal.returns-in-Some
unfolding set_of
returns-in-Some c = let t = c.args.t.now in rw c.in-Some.is (c.empty_container.ensures t.descriptors t.names)

pub returns-in_default : goal.returns-in_default
unfolding set_of
returns-in_default c =
    let t = c.args.t.now in
    let l : length t.words ≡ 353 = search rules in
    rw c.in_default.is (none_cleared t.words t.descriptors t.names l)
