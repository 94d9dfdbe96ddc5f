-- The answer that a line tells.
use Rattle.flow.specs.Verdicts.{Answer as Word, refused, rule, allow, inhibit, modify}
use Rattle.runlog.specs.declared.words.Told.{Told}
use Rattle.runlog.specs.declared.words.Told.TheVariants.{Allow, Inhibit, Modify, Rule, Refused}

abbrev pub word_in : Told → Word
word_in (Allow g) = allow g
word_in (Inhibit n) = inhibit n
word_in (Modify n c g) = modify n c g
word_in (Rule n) = rule n
word_in (Refused n) = refused n
