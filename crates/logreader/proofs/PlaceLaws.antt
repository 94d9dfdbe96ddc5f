-- What stands at a place of a log, as the code reads it.
use Prim.Native.Nat.{ℕ, ◌+◌, ◌-◌, ◌≤◌, ◌<◌}
use mathlib.Core.Path.{◌≡◌, refl, sym, ap, ◌∙◌}
use mathlib.Core.List.{List}
use lib.Dec.{leb}
use lib.ListN.{length, take, drop}
use borrow.Author.Tests.{le-leb, lt-leb}
use Rattle.flow.proofs.Bools.{chosen_l, chosen_r}
use Rattle.records.specs.Reading.{extent_of}
use Rattle.records.proofs.RecordLaws.{tail_extent}
use Rattle.std.proofs.Common.{Option, Some, None, unwrap_or}
use Rattle.logreader.specs.Log.{record_at, end_of, end_after}

pub end_at : (log : List ℕ) (at : ℕ) → length log ≤ at → None ≡ record_at log at
unfolding record_at
end_at log at h = sym (chosen_l (leb (length log) at) None _ (le-leb (length log) at h))

pub found_at : (log : List ℕ) (at e : ℕ) → at < length log → e ≡ extent_of (take (length log - at) (drop at log)) → Some (at + e) ≡ record_at log at
unfolding record_at
found_at log at e l h = ap (λ (n : ℕ). Some (at + n)) (tail_extent log at e h) ∙ sym (chosen_r (leb (length log) at) None _ (lt-leb (length log) at l))

-- within the log, the record there ends after its length
pub end_after_record : (log : List ℕ) (at : ℕ) → at < length log → end_after log at ≡ at + extent_of (drop at log)
unfolding record_at end_of
end_after_record log at l = ap (end_of at) (chosen_r (leb (length log) at) None (Some (at + extent_of (drop at log))) (lt-leb (length log) at l))

-- the end, or the place where there is none
pub end_or : (at : ℕ) (o : Option ℕ) → unwrap_or o at ≡ end_of at o
unfolding end_of
end_or at None = refl
end_or at (Some end) = refl
