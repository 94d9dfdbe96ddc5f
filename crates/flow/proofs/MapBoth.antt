-- The two forms of map both: document 01's in every state, and that they are the same where items go along links.
use Prim.Native.Nat.{ℕ, ◌^◌, ◌<◌}
use mathlib.Core.Path.{◌≡◌, refl, sym, ap, ap₂, ◌∙◌}
use mathlib.Core.Bool.{Bool, true, false, ◌&&◌, ◌||◌}
use mathlib.Core.List.{List}
use lib.ListN.{get_or}
use Rattle.sets.specs.Sets.{has}
use Rattle.sets.proofs.Members.{has_lt, union_has, same_set}
use Rattle.flow.specs.Box.{Tables, feeds}
use Rattle.flow.specs.Links.{Reaches, here, onward, reach, given, given_from}
use Rattle.flow.specs.MapBoth.{in_sequence, at_once}
use Rattle.flow.specs.AtOnce.{MapBothAtOnce}
use Rattle.flow.proofs.TableLaws.{table_at, table_length, is_table}
use Rattle.flow.proofs.Reach.{reach_leads, reach_lt, reach_exact}
use Rattle.flow.proofs.Moves.{in_list, given_has, in_sequence_has, Along}

at_once_has : (t : Tables) (l : List ℕ) (c p v i : ℕ) → v < 64
    → in_list (at_once t l c p) v i ≡ ((in_list l v i || (has (reach t p) v && in_list l c i)) || (has (reach t c) v && in_list l p i))
unfolding at_once
at_once_has t l c p v i h =
    given_has (given_from t l c p) (reach t c) (get_or l p 0) v i h ∙ ap (λ (b : Bool). b || (has (reach t c) v && in_list l p i)) (given_has l (reach t p) (get_or l c 0) v i h)

pub map_both_at_once : MapBothAtOnce
unfolding MapBothAtOnce
map_both_at_once t l c p v h =
    same_set _ _ (λ i. at_once_has t l c p v i h ∙ both (in_list l v i) _ _
    ∙ sym (union_has (get_or (given_from t l c p) v 0) (get_or (given_from t l p c) v 0) i ∙ ap₂ ◌||◌ (given_has l (reach t p) (get_or l c 0) v i h) (given_has l (reach t c) (get_or l p 0) v i h)))
  where
    both : (x y z : Bool) → ((x || y) || z) ≡ ((x || y) || (x || z))
    both true y z = refl
    both false y z = refl

module _ (t : Tables) (bound : (p : ℕ) → feeds t p < 2 ^ 64) (l : List ℕ) (along : Along t l) where
  -- what u holds is held in all its reach
  reach_along : (u i : ℕ) → u < 64 → in_list l u i ≡ true → {v : ℕ} → Reaches t u v → in_list l v i ≡ true
  reach_along u i hu h here = h
  reach_along u i hu h (onward r e) = along _ _ i (inside r) (inside (onward r e)) e (reach_along u i hu h r)
    where
      inside : {v : ℕ} → Reaches t u v → v < 64
      inside r = has_lt (reach t u) _ (reach_lt t bound u hu) ((reach_exact t bound u _ hu).1 r)

  module _ (c p : ℕ) (hc : c < 64) (hp : p < 64) where
    -- the container's own items, which the second gift has too, are in its reach already
    no_more : (v i : ℕ) → v < 64 → in_list (in_sequence t l c p) v i ≡ in_list (at_once t l c p) v i
    no_more v i hv =
        in_sequence_has t l c p v i hp hv
        ∙ held (in_list l v i) (has (reach t p) v && in_list l c i) (has (reach t c) v) (in_list l p i) (in_list l c i) (λ e h. reach_along c i hc h (reach_leads t c v e))
        ∙ sym (at_once_has t l c p v i hv)
      where
        held : (x y reached own given : Bool) → (reached ≡ true → given ≡ true → x ≡ true) → ((x || y) || (reached && (own || given))) ≡ ((x || y) || (reached && own))
        held x y false own given f = refl
        held x y true true given f = refl
        held x y true false false f = refl
        held x y true false true f = rw (f refl refl) refl

    pub as_at_once : in_sequence t l c p ≡ at_once t l c p
    unfolding in_sequence at_once given
    as_at_once = is_table 64 _ _ (table_length 64 _) (λ v hv. same_set _ _ (λ i. no_more v i hv) ∙ table_at 64 _ v 0 hv)
