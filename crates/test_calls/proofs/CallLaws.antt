-- The maps after no calls, and after one more.
use Prim.Native.Nat.{ℕ, suc, ◌+◌, ◌*◌}
use native.Mathlib.Numerals.{add-one}
use mathlib.Core.Path.{◌≡◌, refl, sym, ap, ◌∙◌}
use mathlib.Core.List.{List, []}
use Rattle.flow.specs.Box.{State, fresh}
use Rattle.store.specs.Maps.{Maps}
use Rattle.tracker.specs.View.{state}
use Rattle.tracker.specs.Worked.{worked}
use Rattle.test_calls.specs.Calls.{call_at, after_calls}

pub none_yet : (l : List ℕ) (m : Maps) → state m [] ≡ fresh → m ≡ after_calls 0 l
unfolding after_calls
none_yet l m e = ap {B = Maps} (λ (s : State). record { tables = s.tables; items = s.items }) e

next : (l : List ℕ) (n : ℕ) → after_calls (suc n) l ≡ (worked (after_calls n l) (call_at l (5 * n))).maps
unfolding after_calls
next l n = refl

pub one_more : (l : List ℕ) (n : ℕ) (s t : Maps) → s ≡ after_calls n l → t ≡ (worked s (call_at l (5 * n))).maps → t ≡ after_calls (n + 1) l
one_more l n s t e w =
    w
    ∙ ap (λ (x : Maps). (worked x (call_at l (5 * n))).maps) e
    ∙ sym (next l n)
    ∙ ap (λ (m : ℕ). after_calls m l) (sym (add-one n))
