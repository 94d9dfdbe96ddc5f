-- The tags of document 01, The records.
use Rattle.std.specs.Prelude.{ℕ, ◌≡◌, false, Result, MatchResult}
use Rattle.flow.specs.Records.{call_tag, forbid_tag, separate_tag, confine_tag, known_tag}
use Rattle.terms.specs.declared.refusal.Refusal.{Refusal}
use Rattle.terms.specs.declared.refusal.Refusal.TheVariants.{UnknownTag}
use Rattle.records.specs.declared.Tag.{Tag}
use Rattle.records.specs.declared.Tag.TheVariants.{Call, Forbid, Separate, Confine}

abbrev pub tag_number : Tag → ℕ
tag_number Call = call_tag
tag_number Forbid = forbid_tag
tag_number Separate = separate_tag
tag_number Confine = confine_tag

-- where a record with this tag ends: header and value
abbrev pub end_of : Tag → ℕ
end_of Call = 8
end_of Forbid = 14
end_of Separate = 7
end_of Confine = 14

-- the result is the tag of this number, or it is no tag's
abbrev pub IsTagOf : ℕ → Result Tag Refusal → Type 0
IsTagOf n r = MatchResult r (λ t. tag_number t ≡ n) (λ e. (known_tag n ≡ false) × (e ≡ UnknownTag))
