-- `put` takes a byte out of a word and adds another in its place.
use Prim.Native.Nat.{ℕ, ◌+◌, ◌-◌, ◌*◌, ◌%◌, ◌^◌, ◌<◌}
use native.Mathlib.Omega.{arith}
use mathlib.Core.Path.{◌≡◌, ap₂, ◌∙◌}
use Rattle.store.specs.Maps.{byte_of, put_byte}
use Rattle.store.proofs.Bytes.{byte_below, put_from, put_lt, shifted_byte, shifted_new}
use borrow.Author.Rules.{rules}
use Rattle.store.proofs.counts.put.Goals as goal
use Rattle.store.proofs.counts.put.Goals.{Start}

pub overflow_sub-result : goal.overflow_sub-result
unfolding byte_of
overflow_sub-result c = let w = c.args.w in let j = c.args.j in rw (shifted_byte w j (search rules)) (byte_below w j)

-- as numbers
shifted : (c : Start) → let w = c.args.w in let j = c.args.j in let n = c.args.n in
    w - byte_of w j * 2 ^ (8 * j) % 18446744073709551616 + n * 2 ^ (8 * j) % 18446744073709551616 ≡ put_byte w j n
shifted c =
    let w = c.args.w in
    let j = c.args.j in
    let n = c.args.n in
    let l : n < 256 = search rules in
    let b : w < 2 ^ 64 = search rules in
    ap₂ (λ (y z : ℕ). w - y + z) (shifted_byte w j b) (shifted_new w j n l c.requires b) ∙ put_from w j n

pub overflow_add-result : goal.overflow_add-result
unfolding byte_of
overflow_add-result c =
    let w = c.args.w in
    let j = c.args.j in
    let n = c.args.n in
    let l : n < 256 = search rules in
    let b : w < 2 ^ 64 = search rules in
    rw (shifted c) (omega (arith, put_lt w j n l c.requires b))

pub returns : goal.returns
unfolding byte_of
returns c = shifted c
