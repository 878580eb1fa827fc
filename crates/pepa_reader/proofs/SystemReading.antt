-- What the reader of systems answers.
use Rattle.std.proofs.Common.{◌≡◌, ℕ, List, [], ◌∷◌, drop, refl, Some, Ok, Err, inl, inr}
use Rattle.pepa_lexer.specs.declared.kinds.Sign.TheVariants.{Equals, Semicolon}
use Rattle.token_grammar.specs.declared.terminal.Terminal.{Terminal}
use Rattle.token_grammar.specs.declared.terminal.Terminal.TheVariants.{Capital, Mark, End}
use Rattle.fault_ends.specs.declared.end.End.TheVariants.{Fault, Memory}
use Rattle.token_grammar.proofs.Runs.{halts_here, halts_after}
use Rattle.token_grammar.specs.Machines.{runs}
use Rattle.token_grammar.specs.SmallNames.{NoSmall}
use Rattle.pepa_reader.specs.declared.processes.ProcessRead.{ProcessRead}
use Rattle.pepa_reader.specs.declared.items.Item.TheVariants as items
use Rattle.pepa_reader.specs.Grammar.{Process, OneChoice, OneHidden, OnePrefix, Constant, System, process_spelled}
use Rattle.pepa_reader.specs.Machine.{InSystem, WantEnd, step, run, start, behind_process}
use Rattle.token_grammar.specs.Cursors.{Begins, IsSpelledFrom, PartEnd}
use Rattle.pepa_reader.specs.Reading.{CannotGoOn, EndsProcess, IsProcess, ReadsProcess}
use Rattle.pepa_reader.specs.ItemReading.{NoLineHead, ReadsEnding, ReadsItem, IsItemRead}
use Rattle.token_grammar.proofs.Spelled.{spelled_append}
use Rattle.pepa_reader.proofs.MachineRuns.{process_runs, process_closes}
use Rattle.pepa_reader.proofs.ProcessStates.{NoName, refuses_behind_process, undone_behind_process}

-- no process
pub system_fails : (kinds : List Terminal) (at : ℕ) (fault : PartEnd) → NoSmall (drop at kinds) → ReadsProcess kinds at (Err fault) → ReadsItem kinds at (Err fault)
system_fails kinds at (Fault i) small process = process InSystem small
system_fails kinds at Memory small process = tt

-- a constant without a `=`
no_head : (front rest : List Terminal) → NoLineHead front → front ≡ Capital ∷ rest → ¬ Begins rest (Mark Equals)
no_head front [] none e b = b
no_head front (first ∷ more) none e b = rw (e, b) at none

-- a system's only constant isn't the name of a line
no_name : (kinds : List Terminal) (at next : ℕ) (process : Process) → NoLineHead (drop at kinds) → IsSpelledFrom kinds at next (process_spelled process) → NoName process (drop next kinds)
no_name kinds at next (OneChoice (OneHidden (OnePrefix Constant))) none spelled = no_head (drop at kinds) (drop next kinds) none spelled.whole
no_name kinds at next _ none spelled = tt

-- behind the `;` only the end can follow
refuses_other : (process : Process) (rest : List Terminal) → ¬ Begins rest End → CannotGoOn (WantEnd process) rest
unfolding step
refuses_other process [] other = tt
refuses_other process (End ∷ more) other = absurd (other refl)
refuses_other process (_ ∷ more) other = refl

-- behind a system's `;` the end is wanted
semicolon_runs : (process : Process) → run (behind_process process InSystem) (Mark Semicolon ∷ []) ≡ Some (WantEnd process)
unfolding runs
semicolon_runs process = rw (process_closes process InSystem (Mark Semicolon) (WantEnd process) refl) refl

-- no end behind the process
pub system_stays : (kinds : List Terminal) (at : ℕ) (read : ProcessRead) (fault : PartEnd) → NoLineHead (drop at kinds) → IsProcess kinds at read → EndsProcess (drop read.next kinds) → ReadsEnding kinds read.next (Err fault) → ReadsItem kinds at (Err fault)
system_stays kinds at read (Fault i) none process ends e =
    halts_after start (behind_process process.process InSystem) process.spelled (process_runs process.process InSystem) (elim e [
      | inl h ↦ rw h.0 (halts_here (undone_behind_process process.process InSystem) (refuses_behind_process process.process InSystem (drop read.next kinds) ends (h.2, h.1, no_name kinds at read.next process.process none process.spelled)))
      | inr h ↦ halts_after (behind_process process.process InSystem) (WantEnd process.process) h.0.spelled (semicolon_runs process.process) (halts_here tt (refuses_other process.process (drop i kinds) h.1))
    ])
system_stays kinds at read Memory none process ends e = tt

-- a whole system
pub is_system : (kinds : List Terminal) (at next : ℕ) (read : ProcessRead) → IsProcess kinds at read → ReadsEnding kinds read.next (Ok next) → IsItemRead kinds at (record { item = items.System read.tree; next = next })
is_system kinds at next read process ending =
    record { item = System process.process ending.0; spelled = spelled_append process.spelled ending.1; tree = process.tree }
