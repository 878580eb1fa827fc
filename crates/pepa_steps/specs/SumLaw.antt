-- The sums of the rates of transitions.
use Rattle.std.specs.Prelude.{ℕ, ◌==◌, if◌then◌else◌, List, [], ◌∷◌}
use Rattle.pepa_model.specs.Apparent.{Apparent, NoRate, Rated, together}
use Rattle.pepa_steps.specs.States.{StateTransition}

-- the exact sum of the rates of the transitions of an action, in their order; none if there is none
abbrev pub sum_of_rates : ℕ → List StateTransition → Apparent
sum_of_rates a [] = NoRate
sum_of_rates a (t ∷ ts) = together (if t.action == a then Rated t.rate else NoRate) (sum_of_rates a ts)
