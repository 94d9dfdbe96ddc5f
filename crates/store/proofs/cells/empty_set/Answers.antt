-- `empty_set` lends the items alone.
use Rattle.store.proofs.Words.{items_cleared}
use Rattle.store.proofs.cells.empty_set.Goals as goal

pub returns : goal.returns
returns c = λ d n. items_cleared _ _ d n c.told-words _ c.empty.ensures
