-- The sorts of mapping (`Sort` of flow), as the code has them.
use Rattle.flow.specs.Box.{Sort, to_read, both_ways}
use Rattle.store.specs.declared.numbers.Sort.{Sort as Named}
use Rattle.store.specs.declared.numbers.Sort.TheVariants.{ToRead, BothWays}

abbrev pub sort_in : Named → Sort
sort_in ToRead = to_read
sort_in BothWays = both_ways
