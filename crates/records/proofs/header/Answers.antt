-- `header` is the first of the two tests of tag and length that holds.
use mathlib.Core.Path.{sym, ◌∙◌, ap}
use mathlib.Core.Bool.{true, false}
use Rattle.std.proofs.Common.{rules}
use borrow.Author.Tests.{eq-eqb, ne_eqb}
use Rattle.flow.specs.Records.{tag_length}
use Rattle.flow.specs.Lists.{◌⇒◌, first_that}
use Rattle.records.proofs.Frames.{measured}
use Rattle.records.proofs.TagLaws.{known_of}
use Rattle.records.proofs.header.Goals as goal

pub returns-in_err-tag-clause-refusal : goal.returns-in_err-tag-clause-refusal
unfolding first_that ◌⇒◌
returns-in_err-tag-clause-refusal c = rw c.in_err-tag.ensures.0 (search rules)

pub returns-then-stated-length-clause-refusal : goal.returns-then-stated-length-clause-refusal
unfolding first_that ◌⇒◌
returns-then-stated-length-clause-refusal c =
    let t = c.in_ok-tag.ensures in
    sym (measured _ _ _ true false (known_of _ _ t) (c.length.ensures ∙ ap tag_length t) (ne_eqb _ _ c.if-stated-length.true))

pub returns-clause-refusal : goal.returns-clause-refusal
unfolding first_that ◌⇒◌
returns-clause-refusal c =
    let t = c.in_ok-tag.ensures in
    sym (measured _ _ _ true true (known_of _ _ t) (c.length.ensures ∙ ap tag_length t) (eq-eqb _ _ c.if-stated-length.false))
