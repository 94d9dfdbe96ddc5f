-- Document 01, The records: how far the record at the front of the bytes goes, and what a record that was read stands for.
use Rattle.std.specs.Prelude.{ℕ, true, false, not, List, [], ◌∷◌, eqb, length, Result, Ok, Err}
use Rattle.flow.specs.Lists.{Test, ◌⇒◌}
use Rattle.flow.specs.Records.{record_length, cut_short, known_tag, tag_length, Reading, unreadable, a_call, a_rule}
use Rattle.terms.specs.declared.refusal.Refusal.{Refusal}
use Rattle.terms.specs.Refusals.{number}
use Rattle.terms.specs.Calls.{call_in}
use Rattle.terms.specs.Rules.{rule_in}
use Rattle.records.specs.declared.Record.{Record}
use Rattle.records.specs.declared.Record.TheVariants.{Call, Rule}

-- how many bytes the record at the front has: the header's three and the value, or all where it is cut short
unfoldable pub extent_of : List ℕ → ℕ
extent_of bytes = elim (cut_short bytes) [ true ↦ length bytes | false ↦ record_length bytes ]

-- of a record that is not cut short, the tests by its tag and the length that it states (01, What a record gets)
abbrev pub header_tests : ℕ → ℕ → List Test
header_tests tag stated = (not (known_tag tag) ⇒ 2) ∷ (not (eqb stated (tag_length tag)) ⇒ 3) ∷ []

unfoldable pub reading_of : Result Record Refusal → Reading
reading_of (Err r) = unreadable (number r)
reading_of (Ok (Call q)) = a_call (call_in q)
reading_of (Ok (Rule r)) = a_rule (rule_in r)
