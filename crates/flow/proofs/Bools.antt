-- Truth values.
use mathlib.Core.Path.{◌≡◌, refl, sym, ◌∙◌}
use mathlib.Core.Bool.{Bool, true, false, ◌&&◌, ◌||◌, true≢false, false≢true}

pub or_elim : (a b : Bool) {P : Type 0} → (a ≡ true → P) → (b ≡ true → P) → (a || b) ≡ true → P
or_elim true b f g h = f refl
or_elim false b f g h = g h

pub or_l : (a b : Bool) → a ≡ true → (a || b) ≡ true
or_l true b h = refl
or_l false b h = absurd (false≢true h)

pub or_r : (a b : Bool) → b ≡ true → (a || b) ≡ true
or_r true b h = refl
or_r false b h = h

pub and_l : (a b : Bool) → (a && b) ≡ true → a ≡ true
and_l true b h = refl
and_l false b h = h

pub and_r : (a b : Bool) → (a && b) ≡ true → b ≡ true
and_r true b h = h
and_r false b h = absurd (false≢true h)

pub and_i : (a b : Bool) → a ≡ true → b ≡ true → (a && b) ≡ true
and_i true b h k = k
and_i false b h k = h

pub or_false_l : (a b : Bool) → (a || b) ≡ false → a ≡ false
or_false_l true b h = h
or_false_l false b h = refl

pub or_false_r : (a b : Bool) → (a || b) ≡ false → b ≡ false
or_false_r true b h = absurd (true≢false h)
or_false_r false b h = h

pub or_false_i : (a b : Bool) → a ≡ false → b ≡ false → (a || b) ≡ false
or_false_i true b h k = h
or_false_i false b h k = k

pub and_false_l : (a b : Bool) → b ≡ true → (a && b) ≡ false → a ≡ false
and_false_l true b h k = sym h ∙ k
and_false_l false b h k = refl

pub and_false_r : (a b : Bool) → a ≡ true → (a && b) ≡ false → b ≡ false
and_false_r true b h k = k
and_false_r false b h k = absurd (false≢true h)

-- by cases of a truth value, with the equation
pub by : (b : Bool) {P : Type 0} → (b ≡ true → P) → (b ≡ false → P) → P
by true f g = f refl
by false f g = g refl

pub no_both : {b : Bool} {P : Type 0} → b ≡ true → b ≡ false → P
no_both h k = absurd (true≢false (sym h ∙ k))

-- what holds of each case holds of the choice
pub choice : {A : Type 0} (P : A → Type 0) (b : Bool) (x y : A) → (b ≡ true → P x) → (b ≡ false → P y)
    → P (elim b as (λ z. A) [ true ↦ x | false ↦ y ])
choice P true x y f g = f refl
choice P false x y f g = g refl

-- two choices by one test
pub choices : {A : Type 0} (b : Bool) (x x' y y' : A) → (b ≡ true → x ≡ x') → (b ≡ false → y ≡ y')
    → ◌≡◌ {A = A} (elim b as (λ z. A) [ true ↦ x | false ↦ y ]) (elim b as (λ z. A) [ true ↦ x' | false ↦ y' ])
choices true x x' y y' f g = f refl
choices false x x' y y' f g = g refl

-- a choice, where the test is known
pub chosen_l : {A : Type 0} (b : Bool) (x y : A) → b ≡ true → ◌≡◌ {A = A} (elim b as (λ z. A) [ true ↦ x | false ↦ y ]) x
chosen_l true x y e = refl
chosen_l false x y e = absurd (false≢true e)

pub chosen_r : {A : Type 0} (b : Bool) (x y : A) → b ≡ false → ◌≡◌ {A = A} (elim b as (λ z. A) [ true ↦ x | false ↦ y ]) y
chosen_r true x y e = absurd (true≢false e)
chosen_r false x y e = refl

-- two truth values, each of which implies the other
pub same : (a b : Bool) → (a ≡ true → b ≡ true) → (b ≡ true → a ≡ true) → a ≡ b
same true b f g = sym (f refl)
same false true f g = g refl
same false false f g = refl

pub or_choice : (b c : Bool) → ◌≡◌ {A = Bool} (elim b as (λ z. Bool) [ true ↦ true | false ↦ c ]) (b || c)
or_choice true c = refl
or_choice false c = refl
