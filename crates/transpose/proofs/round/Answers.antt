-- `round` goes through the 32 pairs of rows.
use Rattle.std.proofs.Common.{ℕ, Bor, ◌≡◌, ◌*◌, ◌+◌, length, take, drop, [], ◌∷◌, ◌++◌, ◌∙◌, arith, rules}
use Rattle.std.proofs.lemmas.Iterator.{YieldsList-from_slice, YieldsList-from_zip}
use Rattle.std.proofs.lemmas.Iterator.Consumers.{YieldsList-turn, YieldsList-end, YieldsList-from_enumerate}
use Rattle.std.proofs.lemmas.List.{length_push}
use Rattle.transpose.proofs.Words.{even_word, odd_word}
use Rattle.transpose.proofs.Halves.{pair_at, pairs_long}
use Rattle.transpose.proofs.Filling.{Filled, filled_none, filled_more, filled_all}
use Rattle.transpose.proofs.round.Goals as goal

pub loop-i-init : goal.loop-i-init
loop-i-init c = filled_none _ _ _ (search rules)

pub loop-i-preserved : goal.loop-i-preserved
loop-i-preserved c =
    let rows = c.args.rows.now in
    let pairs = YieldsList-from_enumerate {s = c.into_iter-i-iterator.result} (YieldsList-from_zip (YieldsList-from_slice (take 32 rows) cc) (YieldsList-from_slice (drop 32 rows) cc)) cc in
    let turn = YieldsList-turn pairs c.loop-i.yielded c.loop-i.i-iterator c.loop-i.yielded_by _ c.next.new.self _ c.in-Some.is c.next.ensures.steps in
    let p = pair_at rows (search rules) _ c.in-Some.i c.in-Some.lo.now c.in-Some.hi.now turn.0 turn.1 in
    let item : ℕ × (Bor ℕ × Bor ℕ) = (c.in-Some.i, (c.in-Some.lo, c.in-Some.hi)) in
    let filled : Filled c.args.d rows (2 * c.in-Some.i) c.loop-i.cells = rw p.0 c.loop-i.invariant in
    let after : 2 * length (c.loop-i.yielded ++ item ∷ []) ≡ 2 * (c.in-Some.i + 1) = omega (arith, length_push c.loop-i.yielded item, p.0) in
    rw after
    (filled_more c.args.d rows c.in-Some.i c.loop-i.cells _ _ p.1 filled
    (c.blend.ensures ∙ rw (p.2, p.3) (even_word c.args.d c.args.m _ c.requires.1 _ _))
    (c.blend-in-loop-i.ensures ∙ rw (p.2, p.3) (odd_word c.args.d c.args.m _ c.requires.1 _ _)))

pub returns : goal.returns
returns c =
    let rows = c.args.rows.now in
    let pairs = YieldsList-from_enumerate {s = c.into_iter-i-iterator.result} (YieldsList-from_zip (YieldsList-from_slice (take 32 rows) cc) (YieldsList-from_slice (drop 32 rows) cc)) cc in
    let end = YieldsList-end pairs c.loop-i.yielded c.loop-i.i-iterator c.loop-i.yielded_by _ c.next.new.self c.in-None.is c.next.ensures.steps in
    let done : 2 * length c.loop-i.yielded ≡ 64 = omega (arith, end.1, pairs_long rows (search rules)) in
    filled_all _ _ _ (rw done at c.loop-i.invariant)
