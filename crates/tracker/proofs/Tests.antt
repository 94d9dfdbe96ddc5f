-- The rows together decide as the list of tests does, for a call whose kind is known.
use Prim.Native.Nat.{ℕ}
use mathlib.Core.Path.{◌≡◌, refl, sym}
use mathlib.Core.Bool.{Bool, true, false, not}
use mathlib.Core.List.{List, [], ◌∷◌}
use mathlib.Core.Option.{Option, none, some}
use Rattle.flow.specs.Lists.{Test, ◌⇒◌, first_that}
use Rattle.flow.specs.Box.{Tables}
use Rattle.flow.specs.Calls.{Call}
use Rattle.flow.specs.Refusals.{ranges, fields_fit, dead, taken, need_of, missing, same_descriptors, no_file, full, call_tests}
use Rattle.terms.specs.declared.refusal.Refusal.{Refusal}
use Rattle.terms.specs.Refusals.{number}
use Rattle.tracker.specs.Rows.{refused_unless}

module _ (t : Tables) (q : Call) where
  -- what the tests answer
  abbrev answer : Option ℕ
  answer = first_that (call_tests t (some q))

  abbrev lacks : Option ℕ
  lacks = missing t q.process q.a q.b (need_of q.kind)

  -- the tests behind that of the fields
  abbrev behind : List Test
  behind = (dead t q ⇒ 6) ∷ (taken t q.process q.a q.b q.c q.kind ⇒ 7) ∷ lacks ∷ (same_descriptors q ⇒ 9) ∷ (no_file t q ⇒ 10) ∷ (full t q ⇒ 17) ∷ []

  pub five_first : fields_fit (ranges q.kind) q ≡ false → some 5 ≡ answer
  unfolding call_tests first_that ◌⇒◌
  five_first g = rw g refl

  -- the call fits: the first row that holds decides
  module _ (fit : fields_fit (ranges q.kind) q ≡ true) where
    fit_first : first_that behind ≡ answer
    unfolding call_tests first_that ◌⇒◌
    fit_first = rw fit refl

    pub six_first : dead t q ≡ true → some 6 ≡ answer
    unfolding first_that ◌⇒◌
    six_first d = rw d at fit_first

    module _ (lives : dead t q ≡ false) where
      pub seven_first : taken t q.process q.a q.b q.c q.kind ≡ true → some 7 ≡ answer
      unfolding first_that ◌⇒◌
      seven_first a = rw (lives, a) at fit_first

      module _ (free : taken t q.process q.a q.b q.c q.kind ≡ false) where
        pub missing_first : (r : ℕ) → some r ≡ lacks → some r ≡ answer
        unfolding first_that ◌⇒◌
        missing_first r m = rw (lives, free, sym m) at fit_first

        module _ (there : none ≡ lacks) where
          pub nine_first : same_descriptors q ≡ true → some 9 ≡ answer
          unfolding first_that ◌⇒◌
          nine_first x = rw (lives, free, sym there, x) at fit_first

          module _ (apart : same_descriptors q ≡ false) where
            pub ten_first : no_file t q ≡ true → some 10 ≡ answer
            unfolding first_that ◌⇒◌
            ten_first y = rw (lives, free, sym there, apart, y) at fit_first

            module _ (file : no_file t q ≡ false) where
              pub seventeen_first : full t q ≡ true → some 17 ≡ answer
              unfolding first_that ◌⇒◌
              seventeen_first z = rw (lives, free, sym there, apart, file, z) at fit_first

              pub none_first : full t q ≡ false → none ≡ answer
              unfolding first_that ◌⇒◌
              none_first z = rw (lives, free, sym there, apart, file, z) at fit_first

-- the refusal where a thing is not there, as a test
pub unless_test : (there : Bool) (r : Refusal) → refused_unless there r ≡ (not there ⇒ number r)
unfolding refused_unless ◌⇒◌
unless_test true r = refl
unless_test false r = refl
