-- Of a set of containers, those that are not in use.
use Prim.Native.Nat.{ℕ, ◌-◌, ◌*◌, ◌/◌, ◌%◌, ◌^◌, ◌≤◌, ◌<◌}
use native.Mathlib.Omega.{arith}
use native.Mathlib.Decide.{ℕ_discrete}
use native.Mathlib.Nat.{mod-eq_of_lt}
use mathlib.Core.Path.{◌≡◌, refl, sym, ap, ap₂, ◌∙◌}
use mathlib.Core.Bool.{Bool, true, false, not, ◌&&◌, ◌||◌, and_comm}
use mathlib.Core.List.{List}
use lib.ListN.{length, get_or}
use lib.Bits.{and_le_r}
use borrow.Author.Tests.{eq-eqb, ne_eqb, ltb-true, lt-leb}
use Rattle.sets.specs.Sets.{has, those, those_from, bit, only, without, lowest, ◌∪◌, ◌∩◌, union_of}
use Rattle.sets.proofs.Unions.{union_none}
use Rattle.sets.proofs.Members.{union_has, union_lt, inter_has, inter_lt, less_has, none_has, only_has, only_lt, those_has, those_lt, set_ext, without_lt, without_at, without_other, member, itself}
use Rattle.flow.specs.Lists.{is_in}
use Rattle.flow.specs.Box.{Tables, is_device, is_process, is_file, container_of}
use Rattle.flow.specs.Links.{mapped, used}
use Rattle.flow.proofs.Bools.{by}
use Rattle.flow.proofs.Reach.{process_range}
use Rattle.flow.proofs.Use.{used_device, used_live, used_file, is_file_lem}
use Rattle.store.specs.Maps.{part, view, files}
use Rattle.store.proofs.Files.{files_has}
use Rattle.store.proofs.Searching.{shifted, sixteen_has}
use Rattle.store.proofs.Use.{mapped_is}

-- ---- the members of x of which `keep` holds, while those left are gone through
pub record Sifting (keep : ℕ → Bool) (x found left : ℕ) : Type 0 where
  pub small : left < 2 ^ 64
  pub low : found < 2 ^ 64
  pub same : (c : ℕ) → c < 64 → (has found c || (has left c && keep c)) ≡ (has x c && keep c)

pub sifting_start : (keep : ℕ → Bool) (x : ℕ) → x < 2 ^ 64 → Sifting keep x 0 x
sifting_start keep x h = record { small = h; low = omega arith; same = λ c l. rw (none_has c) refl }

module _ {keep : ℕ → Bool} {x found left : ℕ} (s : Sifting keep x found left) where
  pub sifting_end : left ≡ 0 → found ≡ those (λ c. has x c && keep c)
  sifting_end e =
      set_ext found _ s.low (those_lt _) (λ c l. ends (has found c) (keep c) ∙ ap (λ (b : Bool). has found c || (b && keep c)) (sym (ap (λ (y : ℕ). has y c) e ∙ none_has c)) ∙ s.same c l ∙ sym (those_has (λ i. has x i && keep i) c l))
    where
      ends : (a b : Bool) → a ≡ (a || (false && b))
      ends true b = refl
      ends false b = refl

  module _ (more : left ≡ 0 → ⊥) (v : ℕ) (is : v ≡ lowest left) (later : ℕ) (e : later ≡ without left (lowest left)) where
    own : has left v ≡ true
    own = member left s.small more v is

    then_small : later < 2 ^ 64
    then_small = rw e (without_lt left (lowest left))

    -- a member elsewhere, and v itself
    others : (c : ℕ) → c < 64 → (c ≡ v → ⊥) → has later c ≡ has left c
    others c l d = rw (e ∙ ap (without left) (sym is)) (without_other left v c l d)

    gone : (c : ℕ) → c < 64 → c ≡ v → has later c ≡ false
    gone c l d = rw (e ∙ ap (without left) (sym is)) (without_at left v c l d)

    pub sifting_kept : keep v ≡ true → Sifting keep x (found ∪ only (v % 64)) later
    sifting_kept k =
        record {
          small = then_small;
          low = union_lt found (only (v % 64)) s.low (only_lt (v % 64) (omega arith));
          same = λ c l. one c l (ℕ_discrete c v) ∙ s.same c l;
        }
      where
        one : (c : ℕ) → c < 64 → Dec (c ≡ v) → (has (found ∪ only (v % 64)) c || (has later c && keep c)) ≡ (has found c || (has left c && keep c))
        one c l (yes d) =
            rw (union_has found (only (v % 64)) c, itself left s.small more v is, only_has v c, eq-eqb v c (sym d), gone c l d, d, own, k) (ends (has found v))
          where
            ends : (a : Bool) → ((a || true) || false) ≡ (a || true)
            ends true = refl
            ends false = refl
        one c l (no d) =
            rw (union_has found (only (v % 64)) c, itself left s.small more v is, only_has v c, ne_eqb v c (λ q. d (sym q)), others c l d) (ends (has found c) _)
          where
            ends : (a b : Bool) → ((a || false) || b) ≡ (a || b)
            ends true b = refl
            ends false b = refl

    pub sifting_left : keep v ≡ false → Sifting keep x found later
    sifting_left k = record { small = then_small; low = s.low; same = λ c l. one c l (ℕ_discrete c v) ∙ s.same c l }
      where
        one : (c : ℕ) → c < 64 → Dec (c ≡ v) → (has found c || (has later c && keep c)) ≡ (has found c || (has left c && keep c))
        one c l (yes d) = rw (gone c l d, d, own, k) refl
        one c l (no d) = rw (others c l d) refl

-- ---- the sets of containers by their kinds
processes_are : 0xFFFF00 ≡ those is_process
unfolding those those_from bit is_process
processes_are = refl

processes_has : (c : ℕ) → c < 64 → has 0xFFFF00 c ≡ is_process c
processes_has c h = ap (λ (x : ℕ). has x c) processes_are ∙ those_has is_process c h

device_file : (c : ℕ) → is_device c ≡ true → is_file c ≡ false
unfolding is_device is_file
device_file c d = let l : c < 8 = ltb-true c 8 d in rw (lt-leb 24 c (omega arith)) refl

device_process : (c : ℕ) → is_device c ≡ true → is_process c ≡ false
unfolding is_device is_process
device_process c d = let l : c < 8 = ltb-true c 8 d in rw (lt-leb 8 c (omega arith)) refl

process_file : (c : ℕ) → is_process c ≡ true → is_file c ≡ false
unfolding is_file
process_file c d = let r = process_range c d in rw (lt-leb 24 c (omega (arith, r.1))) refl

-- by cases of what is said of a container: of a device, a process, a file or pipe
of_device : (a r n m d : Bool) → (((a && false) && not r) || ((((a && false) && not n) && not m) && not d)) ≡ (a && not true)
of_device true r n m d = refl
of_device false r n m d = refl

of_process : (a r n m d : Bool) → (((a && true) && not r) || ((((a && false) && not n) && not m) && not d)) ≡ (a && not r)
of_process true true n m d = refl
of_process true false n m d = refl
of_process false r n m d = refl

of_file : (a r n m d : Bool) → (((a && false) && not r) || ((((a && true) && not n) && not m) && not d)) ≡ (a && not (n || d || m))
of_file true r true m d = refl
of_file true r false true true = refl
of_file true r false true false = refl
of_file true r false false true = refl
of_file true r false false false = refl
of_file false r n m d = refl

module _ (w d n : List ℕ) (x : ℕ) (small : x < 2 ^ 64) where
  abbrev t : Tables
  t = (view w d n).tables

  abbrev running : ℕ
  running = (get_or w 0 0 ∩ 65535) * 2 ^ 8

  abbrev dead : ℕ
  dead = (x ∩ 0xFFFF00) ∩ (2 ^ 64 - 1 - running)

  abbrev unnamed : ℕ
  unnamed = those (λ c. has (x ∩ files) c && not (is_in c n))

  running_lt : running < 2 ^ 64
  unfolding ◌∩◌
  running_lt = let l : (get_or w 0 0 ∩ 65535) ≤ 65535 = and_le_r (get_or w 0 0) 65535 in omega arith

  pub running_is : running % 2 ^ 64 ≡ running
  running_is = mod-eq_of_lt running_lt

  running_has : (p : ℕ) → p < 16 → has running (container_of p) ≡ has (get_or w 0 0) p
  running_has p h =
      sym (shifted running p) ∙ ap (λ (y : ℕ). has y p) (let q : running / 2 ^ 8 ≡ get_or w 0 0 ∩ 65535 = omega arith in q)
      ∙ inter_has (get_or w 0 0) 65535 p ∙ ap (λ (b : Bool). has (get_or w 0 0) p && b) (sixteen_has p h) ∙ and_comm (has (get_or w 0 0) p) true

  dead_has : (c : ℕ) → c < 64 → has dead c ≡ ((has x c && is_process c) && not (has running c))
  dead_has c h =
      less_has (x ∩ 0xFFFF00) running c running_lt h ∙ ap (λ (b : Bool). b && not (has running c)) (inter_has x 0xFFFF00 c ∙ ap (λ (b : Bool). has x c && b) (processes_has c h))

  unnamed_has : (c : ℕ) → c < 64 → has unnamed c ≡ ((has x c && is_file c) && not (is_in c n))
  unnamed_has c h =
      those_has (λ i. has (x ∩ files) i && not (is_in i n)) c h ∙ ap (λ (b : Bool). b && not (is_in c n)) (inter_has x files c ∙ ap (λ (b : Bool). has x c && b) (files_has c h))

  -- with the files and pipes of x that nothing keeps in use, all that is not in use
  together : (f : ℕ) → f < 2 ^ 64 → ((c : ℕ) → c < 64 → has f c ≡ ((((has x c && is_file c) && not (is_in c n)) && not (mapped t c)) && not (is_in c d)))
      → dead ∪ f ≡ those (λ c. has x c && not (used t c))
  unfolding view
  together f low each =
      set_ext (dead ∪ f) _ (union_lt dead f (inter_lt (x ∩ 0xFFFF00) _ (inter_lt x 0xFFFF00 small)) low) (those_lt _)
      (λ c h. one c h ∙ sym (those_has (λ i. has x i && not (used t i)) c h))
    where
      one : (c : ℕ) → c < 64 → has (dead ∪ f) c ≡ (has x c && not (used t c))
      one c h =
          union_has dead f c ∙ ap₂ ◌||◌ (dead_has c h) (each c h)
          ∙ by (is_device c) (λ e. rw (used_device t c e, device_process c e, device_file c e) (of_device (has x c) (has running c) (is_in c n) (mapped t c) (is_in c d)))
          (λ e. by (is_process c)
          (λ q. let r = process_range c q in
          let g : c ≡ container_of (c - 8) = omega (arith, r.0) in
          rw (used_live t c e q, q, process_file c q, ap (has running) g ∙ running_has (c - 8) (omega (arith, r.1))) (of_process (has x c) (has (get_or w 0 0) (c - 8)) (is_in c n) (mapped t c) (is_in c d)))
          (λ q. rw (used_file t c e q, q, is_file_lem c h e q) (of_file (has x c) (has running c) (is_in c n) (mapped t c) (is_in c d))))

  -- where every file and pipe of x has a name
  pub unused_named : unnamed ≡ 0 → dead ≡ those (λ c. has x c && not (used t c))
  unused_named e =
      sym (union_none dead)
      ∙ together 0 (omega arith)
      (λ c h. none_has c ∙ ap (λ (b : Bool). (b && not (mapped t c)) && not (is_in c d)) (sym (ap (λ (y : ℕ). has y c) e ∙ none_has c) ∙ unnamed_has c h))

  module _ (long : length w ≡ 353) (all : ℕ) (is : all ≡ union_of (part 65 16 w)) (fits : all < 2 ^ 64) where
    abbrev unopened : ℕ
    unopened = those (λ c. has (unnamed ∩ (2 ^ 64 - 1 - all)) c && not (is_in c d))

    pub unused_set_lem : dead ∪ unopened ≡ those (λ c. has x c && not (used t c))
    unused_set_lem =
        together unopened (those_lt _)
        (λ c h. those_has (λ i. has (unnamed ∩ (2 ^ 64 - 1 - all)) i && not (is_in i d)) c h
        ∙ ap (λ (b : Bool). b && not (is_in c d))
        (less_has unnamed all c fits h ∙ ap₂ (λ (a b : Bool). a && not b) (unnamed_has c h) (ap (λ (y : ℕ). has y c) is ∙ mapped_is w d n long c (rw is at fits))))
