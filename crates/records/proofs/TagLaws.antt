-- The four tags and their numbers.
use Prim.Native.Nat.{ℕ, ◌+◌, ◌≤◌}
use mathlib.Core.Path.{◌≡◌, refl, sym, ap, ◌∙◌}
use mathlib.Core.Bool.{true, false}
use mathlib.Core.List.{List}
use lib.ListN.{length}
use Rattle.std.proofs.Common.{Result, Ok, Err, IfOk}
use Rattle.flow.specs.Lists.{first_that}
use Rattle.flow.specs.Records.{tag_of, stated_length, cut_short, known_tag, tag_length, frame_tests}
use Rattle.records.specs.declared.Tag.{Tag}
use Rattle.records.specs.declared.Tag.TheVariants.{Call, Forbid, Separate, Confine}
use Rattle.records.specs.Tags.{tag_number, end_of}
use Rattle.terms.specs.declared.refusal.Refusal.{Refusal}
use Rattle.terms.specs.Refusals.{refused}
use Rattle.records.specs.Reading.{header_tests}
use Rattle.records.proofs.Frames.{fits, uncut}

-- each has a known number
known : (t : Tag) → known_tag (tag_number t) ≡ true
unfolding known_tag
known Call = refl
known Forbid = refl
known Separate = refl
known Confine = refl

pub known_of : (t : Tag) (n : ℕ) → tag_number t ≡ n → known_tag n ≡ true
known_of t n e = sym (ap known_tag e) ∙ known t

end_is : (t : Tag) → end_of t ≡ 3 + tag_length (tag_number t)
unfolding tag_length
end_is Call = refl
end_is Forbid = refl
end_is Separate = refl
end_is Confine = refl

-- what is found by tag and length, of a record that is not cut short: its refusal, its tag and that its bytes are all there
module _ (bytes : List ℕ) (r : Result Tag Refusal) (tag stated : ℕ) (uncut_short : cut_short bytes ≡ false) (is_tag : tag ≡ tag_of bytes) (is_stated : stated ≡ stated_length bytes) where
  pub refusal_of : refused r ≡ first_that (header_tests tag stated) → refused r ≡ first_that (frame_tests bytes)
  refusal_of e = e ∙ uncut bytes tag stated uncut_short is_tag is_stated

  pub tag_found : IfOk r (λ t. tag_number t ≡ tag) → IfOk r (λ t. tag_number t ≡ tag_of bytes)
  tag_found h = rw (sym is_tag) h

-- a record that none of the tests refuses is as long as its tag says
pub whole_of : (bytes : List ℕ) (r : Result Tag Refusal) → refused r ≡ first_that (frame_tests bytes) → IfOk r (λ t. tag_number t ≡ tag_of bytes)
    → IfOk r (λ t. end_of t ≤ length bytes)
whole_of bytes (Ok t) e h = rw (end_is t, h) (fits bytes (sym e))
whole_of bytes (Err x) e h = tt
