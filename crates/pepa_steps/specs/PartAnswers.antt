-- What is found of the parts of a state: their steps and their apparent rates, or their first fault.
use Rattle.std.specs.Prelude.{ℕ, ◌<◌, ◌≤◌, List, length}
use Rattle.std.specs.List.{AllByRecursion, AllZip}
use Rattle.pepa_rates.specs.declared.rate.Rate.{Rate}
use Rattle.pepa_model.specs.Apparent.{Apparent, IsFine}
use Rattle.pepa_model.specs.PepaModel.{PepaModel}
use Rattle.pepa_model.specs.Terms.{TermNode}
use Rattle.pepa_model.specs.Verdict.{IsLeastFault}
use Rattle.pepa_steps.specs.Moves.{Move}
use Rattle.pepa_steps.specs.Alike.{Alike}
use Rattle.pepa_steps.specs.States.{State, NodeStandsFor}
use Rattle.pepa_steps.specs.OpenStates.{OpenState, parts_in, moves_in}
use Rattle.pepa_steps.specs.StateVerdict.{PartFault, OfRates, OfLength, OfDerivation, IsFinePart}
use Rattle.pepa_steps.specs.StateRates.{AreStateRates}
use Rattle.pepa_steps.specs.Combined.{AreMovesInRange}

-- a step of a term, without pointers
abbrev pub StepNode : Type 0
StepNode = Move TermNode

-- the term that a step leads to stands for the state
abbrev pub LeadsTo : PepaModel → TermNode → State → Type 0
LeadsTo m x p = NodeStandsFor m p x

-- no part below has a fault, and these are the state's apparent rates, and its transitions, which lead to terms for what follows
pub record IsPartOf (m : PepaModel) (tree : OpenState) (rates : List (ℕ × Rate)) (steps : List StepNode) : Type 0 where
  pub fine : AllByRecursion IsFinePart (parts_in tree)
  pub rates_are : AreStateRates rates tree
  pub moves : AllZip (Alike (LeadsTo m)) steps (moves_in tree)

-- what is wrong with a part of these apparent rates and these transitions
abbrev pub HasFaultOf : {X : Type 0} → (ℕ → Apparent) → List (Move X) → PartFault → Type 0
HasFaultOf rates us (OfRates fault) = IsLeastFault rates 0 fault
HasFaultOf rates us OfLength = ((action : ℕ) → IsFine (rates action)) × (65535 < length us)
HasFaultOf rates us OfDerivation = ((action : ℕ) → IsFine (rates action)) × (length us ≤ 65535) × (¬ AreMovesInRange us)
