-- The text of steps, by the numbers of their targets.
use Rattle.std.specs.Prelude.{◌≡◌, ℕ, ◌<◌, List, [], ◌∷◌, ◌++◌, length, codes}
use Rattle.std.specs.List.{All, flat_map}
use Rattle.pepa_model.specs.PepaModel.{PepaModel}
use Rattle.pepa_model.specs.Terms.{IsTermOf}
use Rattle.pepa_model.specs.declared.term.Step.{Step}
use Rattle.pepa_text.specs.RateText.{rate_text}
use Rattle.pepa_text.specs.ComponentText.{name_of}
use Rattle.pepa_text.specs.SystemText.{term_text}

-- the action type, the rate and the target, with single spaces, and a line feed
abbrev pub step_text : PepaModel → Step → List ℕ
step_text m step = name_of m.actions step.action ++ codes " " ++ rate_text step.rate ++ codes " " ++ term_text m step.target ++ 10 ∷ []

-- a line for each step, in their order
abbrev pub steps_text_of : PepaModel → List Step → List ℕ
steps_text_of m steps = flat_map (step_text m) steps

-- the step's numbers are the model's, and it has no signals
pub record CanPrintStep (m : PepaModel) (step : Step) : Type 0 where
  pub action : step.action < length m.actions
  pub signals : step.signals ≡ 0
  pub target : IsTermOf m step.target

-- each step can be printed
abbrev pub CanPrint : PepaModel → List Step → Type 0
CanPrint m steps = All (CanPrintStep m) steps
