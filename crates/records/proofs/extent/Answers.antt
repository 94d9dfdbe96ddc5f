-- `extent` is the length of the record at the front.
use mathlib.Core.Path.{sym, ◌∙◌}
use lib.ListN.{length}
use Rattle.flow.specs.Records.{cut_short, record_length}
use Rattle.flow.proofs.Bools.{chosen_l, chosen_r}
use Rattle.records.specs.Reading.{extent_of}
use Rattle.records.proofs.extent.Goals as goal

pub returns-then-cut_short : goal.returns-then-cut_short
unfolding extent_of record_length
returns-then-cut_short c = sym (chosen_l (cut_short _) _ _ (sym c.cut_short.ensures ∙ c.if-cut_short.true))

pub returns-else-cut_short : goal.returns-else-cut_short
unfolding extent_of record_length
returns-else-cut_short c =
    let b = c.args.bytes.now in
    let e = chosen_r (cut_short b) (length b) (record_length b) (sym c.cut_short.ensures ∙ c.if-cut_short.false) in
    cc
