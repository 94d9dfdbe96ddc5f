-- The refusals by their numbers (`refusal_by`): each number that a test gives is that of a refusal (`frame_named`, `call_named`, `rule_named`).
use Prim.Native.Nat.{ℕ, ◌-◌, ◌<◌}
use native.Mathlib.Omega.{arith}
use mathlib.Core.Path.{◌≡◌, refl}
use mathlib.Core.Bool.{Bool}
use mathlib.Core.List.{List, [], ◌∷◌}
use mathlib.Core.Option.{Option, none, some}
use lib.ListN.{get_or}
use Rattle.flow.specs.Lists.{Test, ◌⇒◌, first_that}
use Rattle.flow.specs.Box.{Rule, Tables, State}
use Rattle.flow.specs.Calls.{Call}
use Rattle.flow.specs.Records.{frame_tests}
use Rattle.flow.specs.Refusals.{Need, no_need, open_descriptor, bound_name, a_mapping, used_container, need_of, missing, call_tests, field_tests, rule_tests}
use Rattle.flow.proofs.TableLaws.{holding}
use Rattle.terms.specs.declared.refusal.Refusal.{Refusal}
use Rattle.terms.specs.declared.refusal.Refusal.TheVariants.{CutShort, UnknownTag, WrongLength, UnknownKind, OutOfRange, DeadProcess, Taken, Missing, SameTwice, NoFile, RulesFull, BrokenAlready, SliceShort, DescriptorClosed, NameUnbound, NoLink, CountFull}
use Rattle.terms.specs.Refusals.{number}

unfoldable pub refusal_by : ℕ → Refusal
refusal_by n = get_or (CutShort ∷ UnknownTag ∷ WrongLength ∷ UnknownKind ∷ OutOfRange ∷ DeadProcess ∷ Taken ∷ Missing ∷ SameTwice ∷ NoFile ∷ RulesFull ∷ BrokenAlready ∷ SliceShort ∷ DescriptorClosed ∷ NameUnbound ∷ NoLink ∷ CountFull ∷ []) (n - 1) CutShort

-- each refusal has its number, which is a byte
by_number : (r : Refusal) → (refusal_by (number r) ≡ r) × (number r < 256)
unfolding refusal_by
by_number CutShort = (refl, omega arith)
by_number UnknownTag = (refl, omega arith)
by_number WrongLength = (refl, omega arith)
by_number UnknownKind = (refl, omega arith)
by_number OutOfRange = (refl, omega arith)
by_number DeadProcess = (refl, omega arith)
by_number Taken = (refl, omega arith)
by_number Missing = (refl, omega arith)
by_number SameTwice = (refl, omega arith)
by_number NoFile = (refl, omega arith)
by_number RulesFull = (refl, omega arith)
by_number BrokenAlready = (refl, omega arith)
by_number SliceShort = (refl, omega arith)
by_number DescriptorClosed = (refl, omega arith)
by_number NameUnbound = (refl, omega arith)
by_number NoLink = (refl, omega arith)
by_number CountFull = (refl, omega arith)

pub refusal_of : (r : Refusal) → refusal_by (number r) ≡ r
refusal_of r = (by_number r).0

pub number_lt : (r : Refusal) → number r < 256
number_lt r = (by_number r).1

-- n is the number of a refusal
unfoldable pub Named : ℕ → Type 0
Named n = number (refusal_by n) ≡ n

-- ---- the tests of a record
abbrev Names : Test → Type 0
Names t = (n : ℕ) → t ≡ some n → Named n

unfoldable AllName : List Test → Type 0
AllName [] = Unit {0}
AllName (t ∷ ts) = Names t × AllName ts

first_named : (ts : List Test) → AllName ts → Names (first_that ts)
unfolding AllName first_that
first_named [] h n e = absurd (let z : ◌≡◌ {A = ℕ} 0 1 = cc in let y : ⊥ = omega arith in y)
first_named (some m ∷ ts) h n e = h.0 n e
first_named (none ∷ ts) h n e = first_named ts h.1 n e

test_named : (b : Bool) (m : ℕ) → Named m → Names (b ⇒ m)
test_named b m h n e = rw (holding b m n e).1 h

missing_named : (t : Tables) (p a b : ℕ) (x : Need) → Names (missing t p a b x)
unfolding missing Named refusal_by
missing_named t p a b no_need n e = absurd (let z : ◌≡◌ {A = ℕ} 0 1 = cc in let y : ⊥ = omega arith in y)
missing_named t p a b open_descriptor n e = test_named _ 14 refl n e
missing_named t p a b bound_name n e = test_named _ 15 refl n e
missing_named t p a b a_mapping n e = test_named _ 16 refl n e
missing_named t p a b used_container n e = test_named _ 8 refl n e

pub frame_named : (bytes : List ℕ) → Names (first_that (frame_tests bytes))
unfolding AllName frame_tests Named refusal_by
frame_named bytes = first_named (frame_tests bytes) (test_named _ 1 refl, (test_named _ 2 refl, (test_named _ 3 refl, tt)))

pub call_named : (t : Tables) (q : Option Call) → Names (first_that (call_tests t q))
unfolding AllName call_tests Named refusal_by
call_named t none = first_named (call_tests t none) (λ n e. let d : n ≡ 4 = cc in rw d refl, tt)
call_named t (some q) =
    first_named (call_tests t (some q)) (
      test_named _ 5 refl,
      (
        test_named _ 6 refl,
        (
          test_named _ 7 refl,
          (missing_named t q.process q.a q.b (need_of q.kind), (test_named _ 9 refl, (test_named _ 10 refl, (test_named _ 17 refl, tt)))),
        ),
      ),
    )

pub rule_named : (s : State) (r : Rule) → Names (first_that (rule_tests s r))
unfolding AllName rule_tests field_tests Named refusal_by
rule_named s r =
    first_named (rule_tests s r) (
      test_named _ 4 refl,
      (test_named _ 5 refl, (test_named _ 9 refl, (test_named _ 11 refl, (test_named _ 12 refl, tt)))),
    )
