-- What the calls of a space answer.
use Rattle.std.specs.Prelude.{◌≡◌, ℕ, ◌<◌, ◌-◌, ◌^◌, ◌⊎◌, ⊤, Result, Ok, Err, List}
use Rattle.pepa_model.specs.PepaModel.{PepaModel}
use Rattle.pepa_steps.specs.States.{State}
use Rattle.pepa_steps.specs.WholeVerdict.{StateStop, IsWholeVerdict}
use Rattle.pepa_steps.specs.declared.entries.Entry.{Entry}
use Rattle.sim_space.specs.LoadedLists.{IsChoiceList}
use Rattle.pepa_steps.specs.declared.transitions.StepsEnd.{StepsEnd}
use Rattle.pepa_steps.specs.declared.transitions.StepsEnd.TheVariants as steps
use Rattle.sim_space.specs.Stops.{stop_of, stop_of_verdict}
use Rattle.sim_space.specs.declared.space.Loaded.{Loaded}
use Rattle.sim_space.specs.declared.space.Halt.{Halt}
use Rattle.sim_space.specs.declared.space.Halt.TheVariants.{Memory, Full, Stop}

-- what `load` answers for a state: its list; or the stop that its verdict names; else it says nothing
abbrev pub AnswersSpaceLoad : PepaModel → State → List Entry → Result Loaded Halt → Type 0
AnswersSpaceLoad m state entries (Ok loaded) = IsChoiceList m state entries
AnswersSpaceLoad m state entries (Err (Stop s)) =
    (verdict : StateStop) × IsWholeVerdict m.bodies state verdict × (s ≡ stop_of_verdict verdict)
AnswersSpaceLoad m state entries (Err _) = ⊤

-- no stop is answered
abbrev pub AnswersNoStop : {X : Type 0} → Result X Halt → Type 0
AnswersNoStop (Err (Stop s)) = ⊥
AnswersNoStop _ = ⊤

-- full is answered only where the count of such answers rose, or is at its last value
abbrev pub IsFullBy : ℕ → ℕ → Halt → Type 0
IsFullBy before after Full = (before < after) ⊎ (after ≡ 2 ^ 64 - 1)
IsFullBy before after _ = ⊤

-- how an end of the steps is told: the fault of a part by its stop
abbrev pub halt_of : StepsEnd → Halt
halt_of (steps.Fault name) = Stop (stop_of name)
halt_of steps.Memory = Memory
