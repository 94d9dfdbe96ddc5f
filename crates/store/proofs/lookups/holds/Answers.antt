-- `holds` is membership at any number.
use native.Mathlib.Nat.{mod-eq_of_lt}
use mathlib.Core.Path.{sym, ap, ◌∙◌}
use Rattle.sets.specs.Sets.{has}
use Rattle.sets.proofs.Members.{past_has}
use borrow.Author.Rules.{rules}
use borrow.Author.Tests.{le-ltb}
use Rattle.store.proofs.lookups.holds.Goals as goal

pub returns-then-i-lt-CONTAINERS : goal.returns-then-i-lt-CONTAINERS
returns-then-i-lt-CONTAINERS c = c.member.ensures ∙ ap (has _) (mod-eq_of_lt c.if-i-lt-CONTAINERS.true)

pub returns-else-i-lt-CONTAINERS : goal.returns-else-i-lt-CONTAINERS
returns-else-i-lt-CONTAINERS c = le-ltb c.args.i 64 c.if-i-lt-CONTAINERS.false ∙ sym (past_has _ _ (search rules) c.if-i-lt-CONTAINERS.false)
