-- A code tells its answer: its bytes are the word and the numbers. The answer to an outcome, and that there is no other.
use Prim.Native.Nat.{ℕ, ◌+◌, ◌*◌, ◌/◌, ◌%◌, ◌^◌, ◌<◌}
use native.Mathlib.Omega.{arith}
use mathlib.Core.Path.{◌≡◌, refl, sym, ap, ap₂, ◌∙◌}
use mathlib.Core.Logic.{◌↔◌}
use mathlib.Core.Option.{some}
use lib.ListN.{length}
use Rattle.sets.specs.Sets.{members, without, lowest, count}
use Rattle.sets.proofs.Members.{count_less, lowest_has}
use Rattle.sets.proofs.Rising.{members_none, members_count, members_le}
use Rattle.flow.specs.Verdicts.{Outcome, refuses, loads, allows, inhibits, modifies, gained_by, refused, rule, allow, inhibit, modify, answer_of}
use Rattle.terms.specs.declared.refusal.Refusal.{Refusal}
use Rattle.terms.specs.Refusals.{number}
use Rattle.decision.specs.declared.Answer.{Answer}
use Rattle.decision.specs.declared.Answer.TheVariants.{Refused, Loaded, Allow, Inhibit, Modify}
use Rattle.decision.specs.Answers.{word_of, gained_in, refusal_in}
use Rattle.decision.specs.Logs.{code_of, word_by, word_from, InBytes, CodesTell, WordInBytes, WordsTell}
use Rattle.decision.proofs.Refusals.{refusal_by, refusal_of, Named}

-- the answer to an outcome
unfoldable pub answer_is : Outcome → Answer
answer_is (refuses n) = Refused (refusal_by n)
answer_is (loads n r) = Loaded n
answer_is (allows x g) = Allow g
answer_is (inhibits n) = Inhibit n
answer_is (modifies n c x g) = Modify n c g

-- an outcome refuses with the number of a refusal
unfoldable pub NamedIn : Outcome → Type 0
NamedIn (refuses n) = Named n
NamedIn (loads n r) = Unit {0}
NamedIn (allows x g) = Unit {0}
NamedIn (inhibits n) = Unit {0}
NamedIn (modifies n c x g) = Unit {0}

pub word_is : (o : Outcome) → NamedIn o → word_of (answer_is o) ≡ answer_of o
unfolding word_of answer_is answer_of NamedIn Named
word_is (refuses n) h = ap refused h
word_is (loads n r) h = refl
word_is (allows x g) h = refl
word_is (inhibits n) h = refl
word_is (modifies n c x g) h = refl

pub gained_is : (o : Outcome) → gained_in (answer_is o) ≡ gained_by o
unfolding gained_in answer_is gained_by
gained_is (refuses n) = refl
gained_is (loads n r) = refl
gained_is (allows x g) = refl
gained_is (inhibits n) = refl
gained_is (modifies n c x g) = refl

-- what an answer says of a refusal and of an inhibited call, its word says
pub says_refused : (o : Outcome) → NamedIn o → (r : Refusal) → answer_is o ≡ Refused r → answer_of o ≡ refused (number r)
unfolding word_of
says_refused o h r e = sym (word_is o h) ∙ ap word_of e

pub says_inhibited : (o : Outcome) → NamedIn o → (n : ℕ) → answer_is o ≡ Inhibit n → answer_of o ≡ inhibit n
unfolding word_of
says_inhibited o h n e = sym (word_is o h) ∙ ap word_of e

-- the refusal in an answer, by its word
pub refusal_said : (o : Outcome) → NamedIn o → (n : ℕ) → (refusal_in (answer_is o) ≡ some n) ↔ (answer_of o ≡ refused n)
unfolding refusal_in answer_is answer_of NamedIn Named
refusal_said (refuses k) h n = (λ e. let z : k ≡ n = cc in ap refused z, λ e. let z : k ≡ n = cc in ap some (h ∙ z))
refusal_said (loads k r) h n = (λ e. cc, λ e. cc)
refusal_said (allows x g) h n = (λ e. cc, λ e. cc)
refusal_said (inhibits k) h n = (λ e. cc, λ e. cc)
refusal_said (modifies k c x g) h n = (λ e. cc, λ e. cc)

-- an answer with the word of an outcome and those that gained by it is the answer to it
pub answer_told : (a : Answer) (o : Outcome) → word_of a ≡ answer_of o → gained_in a ≡ gained_by o → a ≡ answer_is o
unfolding word_of gained_in answer_is answer_of gained_by
answer_told (Refused r) (refuses k) e g = let z : number r ≡ k = cc in ap Refused (rw z at (sym (refusal_of r)))
answer_told (Refused r) (loads k l) e g = cc
answer_told (Refused r) (allows x h) e g = cc
answer_told (Refused r) (inhibits k) e g = cc
answer_told (Refused r) (modifies k c x h) e g = cc
answer_told (Loaded n) (refuses k) e g = cc
answer_told (Loaded n) (loads k l) e g = let z : n ≡ k = cc in ap Loaded z
answer_told (Loaded n) (allows x h) e g = cc
answer_told (Loaded n) (inhibits k) e g = cc
answer_told (Loaded n) (modifies k c x h) e g = cc
answer_told (Allow i) (refuses k) e g = cc
answer_told (Allow i) (loads k l) e g = cc
answer_told (Allow i) (allows x h) e g = ap Allow g
answer_told (Allow i) (inhibits k) e g = cc
answer_told (Allow i) (modifies k c x h) e g = cc
answer_told (Inhibit n) (refuses k) e g = cc
answer_told (Inhibit n) (loads k l) e g = cc
answer_told (Inhibit n) (allows x h) e g = cc
answer_told (Inhibit n) (inhibits k) e g = let z : n ≡ k = cc in ap Inhibit z
answer_told (Inhibit n) (modifies k c x h) e g = cc
answer_told (Modify n d i) (refuses k) e g = cc
answer_told (Modify n d i) (loads k l) e g = cc
answer_told (Modify n d i) (allows x h) e g = cc
answer_told (Modify n d i) (inhibits k) e g = cc
answer_told (Modify n d i) (modifies k c x h) e g =
    let y : n ≡ k = cc in
    let z : d ≡ c = cc in
    ap₂ (λ (u v : ℕ). Modify u v i) y z ∙ ap (Modify k c) g

-- a code of the lowest two bytes
one : (w n : ℕ) → w < 256 → n < 256 → word_from (w + 256 * n) ≡ word_by w n ((w + 256 * n) / 65536 % 256) ((w + 256 * n) / 16777216 % 256)
unfolding word_from
one w n lw ln = ap₂ (λ (x y : ℕ). word_by x y ((w + 256 * n) / 65536 % 256) ((w + 256 * n) / 16777216 % 256)) (omega arith) (omega arith)

-- of all four
four : (w n c g : ℕ) → w < 256 → n < 256 → c < 256 → g < 256 → word_from (w + 256 * n + 65536 * c + 16777216 * g) ≡ word_by w n c g
unfolding word_from
four w n c g lw ln lc lg =
    let x : ℕ = w + 256 * n + 65536 * c + 16777216 * g in
    ap₂ (λ (i j : ℕ). word_by i j (x / 65536 % 256) (x / 16777216 % 256)) (omega arith) (omega arith) ∙ ap₂ (word_by w n) (omega arith) (omega arith)

-- how many gained is a byte
few : (g : ℕ) → g < 2 ^ 64 → length (members g) < 256
few g h = omega (arith, members_le g h)

pub words_tell : WordsTell
unfolding WordsTell WordInBytes code_of word_by word_from
words_tell (refused n) h = one 4 n (omega arith) h
words_tell (rule n) h = one 3 n (omega arith) h
words_tell (allow g) h =
    let e : 16777216 * g ≡ 0 + 256 * 0 + 65536 * 0 + 16777216 * g = omega arith in
    ap word_from e ∙ four 0 0 0 g (omega arith) (omega arith) (omega arith) h
words_tell (inhibit n) h = one 1 n (omega arith) h
words_tell (modify n c g) h = four 2 n c g (omega arith) h.0 h.1 h.2

word_bytes : (a : Answer) → InBytes a → WordInBytes (word_of a)
unfolding InBytes word_of WordInBytes
word_bytes (Refused r) h = h
word_bytes (Loaded n) h = h
word_bytes (Allow g) h = few g h
word_bytes (Inhibit n) h = h
word_bytes (Modify n c g) h = (h.0, h.1, few g h.2)

pub codes_tell : CodesTell
unfolding CodesTell WordsTell
codes_tell a h = words_tell (word_of a) (word_bytes a h)

-- a code fits its place in the slice
pub code_lt : (a : Answer) → InBytes a → code_of (word_of a) < 2 ^ 32
unfolding InBytes word_of code_of
code_lt (Refused r) h = omega arith
code_lt (Loaded n) h = omega arith
code_lt (Allow g) h = omega (arith, few g h)
code_lt (Inhibit n) h = omega arith
code_lt (Modify n c g) h = omega (arith, h.0, h.1, few g h.2)

-- a set has one member more than the set without its lowest
pub size_none : 0 ≡ length (members 0)
size_none = ap length (sym members_none)

pub size_more : (x more : ℕ) → x < 2 ^ 64 → (x ≡ 0 → ⊥) → more ≡ without x (lowest x) → count more + 1 ≡ length (members x)
size_more x more h z e = sym (members_count x h ∙ count_less x (lowest x) h (lowest_has x h (omega (arith, z))) ∙ ap (λ (y : ℕ). count y + 1) (sym e))
