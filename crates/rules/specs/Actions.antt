-- The actions of rules, by their numbers (01, The records), and the substitutes that suit them.
use Rattle.std.specs.Prelude.{ℕ, ◌≡◌, ◌≤◌, Bool, eqb, Result, MatchResult}
use Rattle.flow.specs.Box.{is_target}
use Rattle.terms.specs.declared.refusal.Refusal.{Refusal}
use Rattle.terms.specs.declared.refusal.Refusal.TheVariants.{UnknownKind}
use Rattle.rules.specs.declared.action.Action.{Action}
use Rattle.rules.specs.declared.action.Action.TheVariants.{Inhibit, Divert}

abbrev pub number : Action → ℕ
number Inhibit = 0
number Divert = 1

-- the result is the action of this number, or it is no action's
abbrev pub IsActionOf : ℕ → Result Action Refusal → Type 0
IsActionOf n r = MatchResult r (λ a. n ≡ number a) (λ e. (2 ≤ n) × (e ≡ UnknownKind))

-- the substitute suits the action
abbrev pub suits : Action → ℕ → Bool
suits Inhibit c = eqb c 0
suits Divert c = is_target c
