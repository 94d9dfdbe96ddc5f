-- `call_in` refuses, or answers a call that passes.
use Rattle.decision.proofs.CallLaws.{refused_call, passes}
use Rattle.decision.proofs.inplace.call_in.Goals as goal

pub returns-in-Err-clause-answers : goal.returns-in-Err-clause-answers
returns-in-Err-clause-answers c = refused_call _ _ _ c.in-Err.ensures.tested

pub admitted-requires : goal.admitted-requires
admitted-requires c = passes c.args.m.now _ _ c.in-Ok.ensures.tested c.in-Ok.ensures.known

pub returns-in-Ok-clause-answers : goal.returns-in-Ok-clause-answers
returns-in-Ok-clause-answers c = rw c.in-Ok.ensures.known c.admitted.ensures.answers
