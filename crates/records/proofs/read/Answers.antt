-- `read` reads by the tag what none of the three tests refuses.
use mathlib.Core.Path.{sym, ap, ◌∙◌}
use Rattle.std.proofs.Common.{rules}
use Rattle.records.specs.Reading.{reading_of}
use Rattle.records.specs.Tags.{tag_number}
use Rattle.flow.specs.Records.{byte_at, rule_with}
use Rattle.records.proofs.Frames.{unread, call_read_lem, forbid_read, separate_read, confine_read}
use Rattle.records.proofs.read.Goals as goal

pub returns-in_err-frame : goal.returns-in_err-frame
unfolding reading_of
returns-in_err-frame c = search (rules, unread)

pub returns-in-Call : goal.returns-in-Call
unfolding reading_of byte_at
returns-in-Call c = let f = c.in_ok-frame.ensures in cc (call_read_lem _ (sym f.refusal) (sym f.tag ∙ ap tag_number c.in-Call.is))

pub returns-in-Forbid : goal.returns-in-Forbid
unfolding reading_of rule_with byte_at
returns-in-Forbid c = let f = c.in_ok-frame.ensures in cc (forbid_read _ (sym f.refusal) (sym f.tag ∙ ap tag_number c.in-Forbid.is))

pub returns-in-Separate : goal.returns-in-Separate
unfolding reading_of rule_with byte_at
returns-in-Separate c = let f = c.in_ok-frame.ensures in cc (separate_read _ (sym f.refusal) (sym f.tag ∙ ap tag_number c.in-Separate.is))

pub returns-in-Confine : goal.returns-in-Confine
unfolding reading_of rule_with byte_at
returns-in-Confine c = let f = c.in_ok-frame.ensures in cc (confine_read _ (sym f.refusal) (sym f.tag ∙ ap tag_number c.in-Confine.is))
