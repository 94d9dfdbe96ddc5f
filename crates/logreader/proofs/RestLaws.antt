-- The records before a reader: the one at its place, and those from its end on.
use Prim.Native.Nat.{ℕ, ◌+◌, ◌-◌, ◌≤◌, ◌<◌}
use native.Mathlib.Omega.{arith}
use mathlib.Core.Path.{◌≡◌, sym, ap, ◌∙◌}
use mathlib.Core.List.{List, [], ◌∷◌}
use lib.Dec.{leb}
use lib.ListN.{length, take, drop, length-drop}
use borrow.Author.Tests.{leb-true, leb-false}
use Rattle.std.proofs.Common.{Bor, Some, None}
use Rattle.std.proofs.lemmas.List.{drop-drop, drop_all}
use Rattle.flow.specs.Records.{records_of, records_in}
use Rattle.flow.proofs.Bools.{by, chosen_l, chosen_r}
use Rattle.records.specs.Reading.{extent_of}
use Rattle.records.proofs.RecordLaws.{extent_le, records_first}
use Rattle.logreader.specs.declared.LogReader.{LogReader}
use Rattle.logreader.specs.Log.{record_at}
use Rattle.logreader.specs.Rest.{rest}

-- where a record ends, the place is within the log, and the record as long as it goes
record_there : (log : List ℕ) (at end : ℕ) → Some end ≡ record_at log at → (at < length log) × (end ≡ at + extent_of (drop at log))
unfolding record_at
record_there log at end h =
    by (leb (length log) at)
    (λ b. let e = chosen_l (leb (length log) at) None (Some (at + extent_of (drop at log))) b in absurd (let z : ⊥ = cc in z))
    (λ b. let e = chosen_r (leb (length log) at) None (Some (at + extent_of (drop at log))) b in (leb-false (length log) at b, cc))

-- nothing there: the log has ended
none_there : (log : List ℕ) (at : ℕ) → None ≡ record_at log at → length log ≤ at
unfolding record_at
none_there log at h =
    by (leb (length log) at)
    (λ b. leb-true (length log) at b)
    (λ b. let e = chosen_r (leb (length log) at) None (Some (at + extent_of (drop at log))) b in absurd (let z : ⊥ = cc in z))

pub none_left : (log : List ℕ) (at : ℕ) → None ≡ record_at log at → records_of (drop at log) ≡ []
unfolding records_of records_in
none_left log at h = ap records_of (drop_all at log (none_there log at h))

module _ (log : List ℕ) (at end : ℕ) (h : Some end ≡ record_at log at) where
  there : (at < length log) × (end ≡ at + extent_of (drop at log))
  there = record_there log at end h

  pub bounds : (at ≤ end) × (end ≤ length log)
  bounds =
      let t = there in
      let e : extent_of (drop at log) ≤ length (drop at log) = extent_le (drop at log) in
      let d : length (drop at log) ≡ length log - at = length-drop at log in
      (omega arith, omega arith)

  pub first_left : records_of (drop at log) ≡ take (end - at) (drop at log) ∷ records_of (drop end log)
  first_left =
      let t = there in
      let d : length (drop at log) ≡ length log - at = length-drop at log in
      let e : extent_of (drop at log) ≡ end - at = omega arith in
      let f : drop (extent_of (drop at log)) (drop at log) ≡ drop end log = drop-drop _ at log ∙ ap (λ n. drop n log) (sym t.1) in
      records_first (drop at log) (omega arith) ∙ rw (f, e)

  -- as numbers of records
  pub fewer_left : length (records_of (drop end log)) < length (records_of (drop at log))
  fewer_left = let e = ap length first_left in omega arith

-- a reader at a log's start has all its records before it
pub rest_start : (r : LogReader) (log : Bor (List ℕ)) → (r.log ≡ log) × (r.at ≡ 0) → rest r ≡ records_of log.now
unfolding rest
rest_start r log h = rw (h.0, h.1)
