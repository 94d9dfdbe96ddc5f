-- `code` goes by cases: each arm has the code of its answer.
use mathlib.Core.Path.{refl}
use Rattle.decision.specs.Answers.{word_of}
use Rattle.decision.specs.Logs.{code_of}
use Rattle.decision.proofs.logs.code.Goals as goal

pub returns-in-Allow : goal.returns-in-Allow
unfolding code_of word_of
returns-in-Allow c = rw (c.in-Allow.is, ← c.size.ensures.0) refl

pub returns-in-Inhibit : goal.returns-in-Inhibit
unfolding code_of word_of
returns-in-Inhibit c = rw c.in-Inhibit.is refl

pub returns-in-Modify : goal.returns-in-Modify
unfolding code_of word_of
returns-in-Modify c = rw (c.in-Modify.is, ← c.size-in-Modify.ensures.0) refl

pub returns-in-Loaded : goal.returns-in-Loaded
unfolding code_of word_of
returns-in-Loaded c = rw c.in-Loaded.is refl

pub returns-in-Refused : goal.returns-in-Refused
unfolding code_of word_of
returns-in-Refused c = rw (c.in-Refused.is, ← c.number.ensures) c.refused_code.ensures
