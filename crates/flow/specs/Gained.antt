-- 02, Paper 5: how far a call spread. Which containers gained an item that they lacked, by the items of all before the call and after it.
use Rattle.std.specs.Prelude.{ℕ, Bool, not, List, eqb, get_or}
use Rattle.sets.specs.Sets.{those, ◌∪◌}

-- the set y has a member that the set x lacks: with y's members x is another set
unfoldable pub has_more : ℕ → ℕ → Bool
has_more x y = not (eqb (x ∪ y) x)

-- the containers that hold an item after it that they lacked before
unfoldable pub gained : List ℕ → List ℕ → ℕ
gained before after = those (λ c. has_more (get_or before c 0) (get_or after c 0))
