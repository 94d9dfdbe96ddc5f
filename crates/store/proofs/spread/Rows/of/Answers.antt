-- `of` joins the rows of each half.
use Rattle.store.specs.Maps.{part}
use Rattle.store.proofs.Searching.{within_low, within_high}
use Rattle.store.proofs.spread.Rows.of.Goals as goal

pub invariant_of-result : goal.invariant_of-result
unfolding part
invariant_of-result c = record {
  low_within = within_low c.args.words.now _ c.told-words c.union_of.ensures;
  high_within = within_high c.args.words.now _ c.told-words c.union_of-2.ensures;
}
