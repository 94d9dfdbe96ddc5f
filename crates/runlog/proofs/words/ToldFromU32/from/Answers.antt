-- The four bytes of a code tell the answer.
use Rattle.std.proofs.Common.{get_or, rules, sym, ◌∙◌}
use Rattle.runlog.proofs.WordLaws.{told_by, told_allow, told_inhibit, told_modify, told_rule, told_refused}
use Rattle.runlog.proofs.words.ToldFromU32.from.Goals as goal

pub returns-in-0 : goal.returns-in-0
returns-in-0 c = sym (told_by _ _ c.to_le_bytes.ensures ∙ told_allow _ _ _ _ c.in-0.is)

pub returns-in-1 : goal.returns-in-1
returns-in-1 c = sym (told_by _ _ c.to_le_bytes.ensures ∙ told_inhibit _ _ _ _ c.in-1.is)

pub returns-in-2 : goal.returns-in-2
returns-in-2 c = sym (told_by _ _ c.to_le_bytes.ensures ∙ told_modify _ _ _ _ c.in-2.is)

pub returns-in-3 : goal.returns-in-3
returns-in-3 c = sym (told_by _ _ c.to_le_bytes.ensures ∙ told_rule _ _ _ _ c.in-3.is)

pub returns-in_default : goal.returns-in_default
returns-in_default c =
    sym (told_by _ _ c.to_le_bytes.ensures ∙ told_refused (get_or c.to_le_bytes.result 0 0) _ _ _ (λ e. search rules) (λ e. search rules) (λ e. search rules) (λ e. search rules))
