-- A rule as its record states it, as a rule of document 01.
use Rattle.std.specs.Prelude.{ℕ}
use Rattle.flow.specs.Box.{Condition as Said, forbid, separate, confine, Rule as Stated}
use Rattle.terms.specs.declared.rule.Condition.{Condition}
use Rattle.terms.specs.declared.rule.Condition.TheVariants.{Forbid, Separate, Confine}
use Rattle.terms.specs.declared.rule.Rule.{Rule}

abbrev pub condition_in : Condition → Said
condition_in (Forbid item set) = forbid item set
condition_in (Separate item other) = separate item other
condition_in (Confine item set) = confine item set

abbrev pub rule_in : Rule → Stated
rule_in r = record { condition = condition_in r.condition; action = r.action; substitute = r.substitute }
