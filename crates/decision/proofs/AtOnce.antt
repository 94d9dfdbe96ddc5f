-- A chain has the states and answers of the definitions, and there the forms agree.
use mathlib.Core.Path.{sym, ap, ◌∙◌}
use Rattle.flow.specs.Verdicts.{answer_of, answer}
use Rattle.flow.specs.AtOnce.{FormsAgree}
use Rattle.flow.proofs.AtOnce.{forms_agree}
use Rattle.decision.specs.AtOnce.{FormsAgreeOfCode}
use Rattle.decision.proofs.TwoRuns.{chain_view, chain_answer}

pub forms_agree_of_code : FormsAgreeOfCode
unfolding FormsAgreeOfCode FormsAgree answer
forms_agree_of_code steps x a c k =
    let agree = forms_agree steps k in
    (chain_view steps x a c k ∙ sym agree.0, λ bytes e. chain_answer steps x a c k bytes e ∙ ap answer_of (sym (agree.1 bytes).0))
