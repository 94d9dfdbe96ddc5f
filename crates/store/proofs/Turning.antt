-- The cells of one process and container: what they count, and with another count.
use Prim.Native.Nat.{ℕ, ◌%◌, ◌<◌}
use native.Mathlib.Nat.{mod-eq_of_lt}
use mathlib.Core.Path.{◌≡◌, refl, sym, ap, ◌∙◌}
use mathlib.Core.Bool.{Bool, true, false, ◌&&◌, or_comm}
use lib.Bits.{bit_and}
use borrow.Author.Tests.{eq-eqb, ne_eqb}
use Rattle.sets.specs.Sets.{has, only, without, ◌∪◌, ◌∩◌}
use Rattle.sets.proofs.Members.{union_has, inter_has, only_has, without_at, without_other}
use Rattle.flow.proofs.Bools.{by, or_r}
use Rattle.store.specs.declared.counts.Cells.{Cells}
use Rattle.store.specs.Maps.{byte_of, put_byte, count_by}
use Rattle.store.specs.Pairs.{read_in, both_in, Turned}
use Rattle.store.proofs.Bytes.{byte_put, byte_other}
use Rattle.store.proofs.Counting.{least_more}

-- ---- one byte of a word, one member of a set
-- of the word v the byte of number j is n, and the others are those of w
record Bytes (w v j n : ℕ) : Type 0 where
  own : byte_of v j ≡ n
  others : (i : ℕ) → (i ≡ j → ⊥) → byte_of v i ≡ byte_of w i

put_bytes : (w j n : ℕ) → n < 256 → Bytes w (put_byte w j n) j n
put_bytes w j n l = record { own = byte_put w j n l; others = λ i h. byte_other w j n l i h }

same_bytes : (w j : ℕ) → Bytes w w j (byte_of w j)
same_bytes w j = record { own = refl; others = λ i h. refl }

with_own : (s c : ℕ) → has (s ∪ only c) c ≡ true
with_own s c = union_has s (only c) c ∙ or_r (has s c) _ (only_has c c ∙ eq-eqb c c refl)

with_other : (s c e : ℕ) → (e ≡ c → ⊥) → has (s ∪ only c) e ≡ has s e
with_other s c e h = union_has s (only c) e ∙ rw (only_has c e, ne_eqb c e (λ q. h (sym q))) (or_comm (has s e) false)

-- ---- a count by its byte
apart : (n : ℕ) → count_by false false n ≡ 0
unfolding count_by
apart n = refl

itself : (n : ℕ) → count_by true true n ≡ n
unfolding count_by
itself n = refl

module _ (x : Cells) (c : ℕ) where
  abbrev j : ℕ
  j = c % 8

  abbrev reads : ℕ
  reads = byte_of x.reads j

  abbrev boths : ℕ
  boths = byte_of x.boths j

  -- what they count, by the sets
  pub read_both : has x.maps c ≡ true → has x.ways c ≡ true → read_in x c ≡ reads
  unfolding read_in count_by
  read_both e f = rw (e, f) refl

  pub read_alone : has x.maps c ≡ true → has x.ways c ≡ false → read_in x c ≡ count_by true false reads
  unfolding read_in
  read_alone e f = rw (e, f) refl

  pub read_none : has x.maps c ≡ false → read_in x c ≡ 0
  unfolding read_in count_by
  read_none e = rw e refl

  pub both_some : (has x.maps c && has x.ways c) ≡ true → both_in x c ≡ count_by true false boths
  unfolding both_in
  both_some e = rw e refl

  pub both_none : (has x.maps c && has x.ways c) ≡ false → both_in x c ≡ 0
  unfolding both_in count_by
  both_none e = rw e refl

  -- by the test that the code makes
  pub read_more : has x.maps c ≡ true → (reads ≡ 0 → ⊥) → read_in x c ≡ reads
  read_more e z = by (has x.ways c) (λ w. read_both e w) (λ w. read_alone e w ∙ least_more reads z)

  pub two_ways : (b : Bool) → c < 64 → has (bit_and x.maps x.ways) (c % 64) ≡ b → (has x.maps c && has x.ways c) ≡ b
  unfolding ◌∩◌
  two_ways b h e = sym (inter_has x.maps x.ways c) ∙ ap (has (bit_and x.maps x.ways)) (sym (mod-eq_of_lt h)) ∙ e

  -- ---- other cells, of which bytes and members but those of c are as before
  module _ (hc : c < 64) where
    turned : (m v rw' bw' i k : ℕ) → ((d : ℕ) → d < 64 → (d ≡ c → ⊥) → has m d ≡ has x.maps d) → ((d : ℕ) → d < 64 → (d ≡ c → ⊥) → has v d ≡ has x.ways d)
        → Bytes x.reads rw' j i → Bytes x.boths bw' j k → (p q : Bool) → has m c ≡ p → has v c ≡ q
        → (n l : ℕ) → count_by p q i ≡ n → count_by (p && q) false k ≡ l → Turned x (record { maps = m; ways = v; reads = rw'; boths = bw' }) c n l
    unfolding read_in both_in
    turned m v rw' bw' i k f g h o p q e u n l s t =
        record {
          maps = f;
          ways = g;
          reads = λ a z. h.others a z;
          boths = λ a z. o.others a z;
          read = rw (e, u, h.own) s;
          both = rw (e, u, o.own) t;
        }

    kept : (s : ℕ) (d : ℕ) → d < 64 → (d ≡ c → ⊥) → has s d ≡ has s d
    kept s d l n = refl

    added : (s : ℕ) (d : ℕ) → d < 64 → (d ≡ c → ⊥) → has (s ∪ only c) d ≡ has s d
    added s d l n = with_other s c d n

    taken : (s : ℕ) (d : ℕ) → d < 64 → (d ≡ c → ⊥) → has (without s c) d ≡ has s d
    taken s d l n = without_other s c d l n

    -- n for reading: beside some both ways, none, some alone
    pub reads_beside : (n : ℕ) → n < 256 → has x.maps c ≡ true → has x.ways c ≡ true
        → Turned x (record { maps = x.maps; ways = x.ways; reads = put_byte x.reads j n; boths = x.boths }) c n (both_in x c)
    unfolding both_in
    reads_beside n l e f =
        turned _ _ _ x.boths n boths (kept x.maps) (kept x.ways) (put_bytes x.reads j n l) (same_bytes x.boths j) true true e f n _ (itself n) (rw (e, f) refl)

    -- the container is not mapped then
    pub mapped_none : (n : ℕ) → n ≡ 0 → (m : ℕ) → m ≡ 0 → Turned x (record { maps = without x.maps c; ways = x.ways; reads = x.reads; boths = x.boths }) c n m
    unfolding count_by
    mapped_none n e m f =
        turned _ _ x.reads x.boths reads boths (taken x.maps) (kept x.ways) (same_bytes x.reads j) (same_bytes x.boths j) false (has x.ways c)
        (without_at x.maps c c hc refl) refl n m (sym e) (sym f)

    pub reads_alone : (n : ℕ) → n < 256 → (n ≡ 0 → ⊥) → (has x.maps c && has x.ways c) ≡ false
        → Turned x (record { maps = x.maps ∪ only c; ways = without x.ways c; reads = put_byte x.reads j n; boths = x.boths }) c n (both_in x c)
    reads_alone n l z e =
        turned _ _ _ x.boths n boths (added x.maps) (taken x.ways) (put_bytes x.reads j n l) (same_bytes x.boths j) true false
        (with_own x.maps c) (without_at x.ways c c hc refl) n _ (least_more n z) (apart boths ∙ sym (both_none e))

    -- n both ways, beside r for reading; none, where some are for reading
    pub boths_some : (r n : ℕ) → r < 256 → n < 256 → (n ≡ 0 → ⊥)
        → Turned x (record { maps = x.maps ∪ only c; ways = x.ways ∪ only c; reads = put_byte x.reads j r; boths = put_byte x.boths j n }) c r n
    boths_some r n k l z =
        turned _ _ _ _ r n (added x.maps) (added x.ways) (put_bytes x.reads j r k) (put_bytes x.boths j n l) true true
        (with_own x.maps c) (with_own x.ways c) r n (itself r) (least_more n z)

    pub boths_ended : (r : ℕ) → r ≡ read_in x c → (r ≡ 0 → ⊥) → (n : ℕ) → n ≡ 0
        → Turned x (record { maps = x.maps; ways = without x.ways c; reads = x.reads; boths = x.boths }) c r n
    boths_ended r e z n f =
        turned _ _ x.reads x.boths reads boths (kept x.maps) (taken x.ways) (same_bytes x.reads j) (same_bytes x.boths j) true false
        mapped (without_at x.ways c c hc refl) r n (by (has x.ways c) (λ w. both w) (λ w. sym (e ∙ read_alone mapped w))) (apart boths ∙ sym f)
      where
        mapped : has x.maps c ≡ true
        mapped = by (has x.maps c) (λ m. m) (λ m. absurd (z (e ∙ read_none m)))

        both : has x.ways c ≡ true → count_by true false reads ≡ r
        both w = let q : r ≡ reads = e ∙ read_both mapped w in least_more reads (λ i. z (q ∙ i)) ∙ sym q
