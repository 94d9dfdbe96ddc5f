use Rattle.std.proofs.Common.{◌≡◌, length, drop}
use Rattle.store.specs.Maps.{part, fed_up_to}
use Rattle.store.proofs.lookups.fed_set.Given as goal

abbrev pub invariant-loop-maps : goal.invariant-loop-maps
invariant-loop-maps l = record {
  fed : l.fed ≡ fed_up_to l.words (length l.yielded);
  maps : l.maps-iterator.a.rest.now ≡ drop (length l.yielded) (part 65 16 l.words);
  ways : l.maps-iterator.b.rest.now ≡ drop (length l.yielded) (part 81 16 l.words);
}
