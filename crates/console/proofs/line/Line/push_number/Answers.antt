-- A number below 10 is one digit.
use Rattle.std.proofs.Common.{◌≡◌, ◌+◌, [], ◌∷◌, rules}
use Rattle.std.proofs.lemmas.Fmt.{decimal_digit}
use Rattle.console.specs.Texts.{appended}
use Rattle.console.proofs.line.Line.push_number.Goals as goal

pub returns-then-n-lt10 : goal.returns-then-n-lt10
returns-then-n-lt10 g c =
    let added : c.try_push.new.self.items ≡ appended g.row.N c.args.self.now.bytes.items ((48 + c.args.n) ∷ []) = search rules in
    rw (decimal_digit c.args.n c.if-n-lt10.true) added
