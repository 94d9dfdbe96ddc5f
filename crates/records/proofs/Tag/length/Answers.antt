use Rattle.std.proofs.Common.{rules, inl, inr, ap, sym}
use Rattle.flow.specs.Records.{tag_length}
use Rattle.records.specs.Tags.{tag_number}
use Rattle.records.proofs.Tag.length.Goals as goal

pub returns-in-Call : goal.returns-in-Call
unfolding tag_length
returns-in-Call c = search rules

pub returns-in-Separate : goal.returns-in-Separate
unfolding tag_length
returns-in-Separate c = search rules

pub returns-in-Forbid : goal.returns-in-Forbid
unfolding tag_length
returns-in-Forbid c = elim c.in-Forbid.is [ inl e ↦ sym (ap (λ t. tag_length (tag_number t)) e) | inr e ↦ sym (ap (λ t. tag_length (tag_number t)) e) ]
