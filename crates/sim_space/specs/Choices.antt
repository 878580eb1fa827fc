-- The weights by which one of a state's transitions is chosen: their rates over the least common denominator.
use Rattle.std.specs.Prelude.{⊤, List, map, Result, Ok, Err}
use Rattle.pepa_rates.specs.Sum.{fraction_of}
use Rattle.pepa_rates.specs.Weights.{IsWeightsOf}
use Rattle.pepa_rates.specs.declared.rate.Rate.{Rate}
use Rattle.pepa_rates.specs.declared.weight_list.Weights.{Weights}
use Rattle.pepa_steps.specs.WholeVerdict.{HasPassive, AreWeighed}
use Rattle.sim_space.specs.declared.choices.ChoiceEnd.{ChoiceEnd}
use Rattle.sim_space.specs.declared.choices.ChoiceEnd.TheVariants.{Stop, Memory}
use Rattle.sim_space.specs.declared.stop.Stop.TheVariants.{PassiveLeft, WeightOverflow}

-- the answer for these rates: their weights, none being passive; a passive one is left; else they have no weights in range. Want of
-- memory says nothing
abbrev pub AnswersWeights : List Rate → Result Weights ChoiceEnd → Type 0
AnswersWeights rates (Ok weights) = (¬ HasPassive rates) × IsWeightsOf (map fraction_of rates) (Ok weights)
AnswersWeights rates (Err (Stop PassiveLeft)) = HasPassive rates
AnswersWeights rates (Err (Stop WeightOverflow)) = (¬ HasPassive rates) × (¬ AreWeighed rates)
AnswersWeights rates (Err (Stop _)) = ⊥
AnswersWeights rates (Err Memory) = ⊤
