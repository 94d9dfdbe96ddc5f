-- `next` gives the record at the reader's place.
use Rattle.std.proofs.Common.{rules, arith}
use Rattle.logreader.specs.Rest.{rest}
use Rattle.logreader.proofs.RestLaws.{none_left, bounds, first_left, fewer_left}
use Rattle.logreader.proofs.LogReaderIterator.next.Goals as goal

pub returns-in_err-end-clause-steps : goal.returns-in_err-end-clause-steps
unfolding rest
returns-in_err-end-clause-steps c = let n = none_left _ _ c.in_err-end.ensures in rw c.from_residual.ensures (n, n)

pub slice_bounds-result-count : goal.slice_bounds-result-count
slice_bounds-result-count c = (bounds _ _ _ c.in_ok-end.ensures).0

pub slice_bounds-result-start : goal.slice_bounds-result-start
slice_bounds-result-start c = let b = bounds _ _ _ c.in_ok-end.ensures in omega arith

pub slice_bounds-result-end : goal.slice_bounds-result-end
slice_bounds-result-end c = let b = bounds _ _ _ c.in_ok-end.ensures in omega arith

pub returns-clause-steps : goal.returns-clause-steps
unfolding rest
returns-clause-steps c = first_left _ _ _ c.in_ok-end.ensures

pub returns-clause-goes : goal.returns-clause-goes
unfolding rest
returns-clause-goes c = let f = fewer_left _ _ _ c.in_ok-end.ensures in search rules
