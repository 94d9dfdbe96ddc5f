-- `frame` is the first of the three tests that holds.
use mathlib.Core.Path.{refl, sym, ◌∙◌}
use mathlib.Core.Bool.{true}
use Rattle.flow.specs.Lists.{◌⇒◌, first_that}
use Rattle.flow.specs.Records.{tag_of}
use Rattle.records.proofs.Frames.{framed}
use Rattle.records.proofs.TagLaws.{refusal_of, tag_found, whole_of}
use Rattle.records.proofs.frame.Goals as goal

pub returns-then-cut_short-clause-refusal : goal.returns-then-cut_short-clause-refusal
unfolding first_that ◌⇒◌
returns-then-cut_short-clause-refusal c = sym (framed _ true _ _ (sym c.cut_short.ensures ∙ c.if-cut_short.true) refl refl)

pub returns-then-number-eq-CALL_TAG : goal.returns-then-number-eq-CALL_TAG
unfolding tag_of
returns-then-number-eq-CALL_TAG c =
    let number = sym c.if-number-eq-CALL_TAG.true ∙ c.at-number.ensures in
    let refusal = refusal_of _ _ _ _ (sym c.cut_short.ensures ∙ c.if-cut_short.false) number c.stated_length-stated.ensures c.header.ensures.refusal in
    let tag = tag_found _ c.header.result _ _ (sym c.cut_short.ensures ∙ c.if-cut_short.false) number c.stated_length-stated.ensures c.header.ensures.tag in
    record { refusal = refusal; tag = tag; whole = whole_of _ _ refusal tag }

pub returns : goal.returns
unfolding tag_of
returns c =
    let refusal = refusal_of _ _ _ _ (sym c.cut_short.ensures ∙ c.if-cut_short.false) c.at-number.ensures c.stated_length-stated.ensures c.header-2.ensures.refusal in
    let tag = tag_found _ c.header-2.result _ _ (sym c.cut_short.ensures ∙ c.if-cut_short.false) c.at-number.ensures c.stated_length-stated.ensures c.header-2.ensures.tag in
    record { refusal = refusal; tag = tag; whole = whole_of _ _ refusal tag }
