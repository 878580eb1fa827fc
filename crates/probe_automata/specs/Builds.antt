-- What `build` answers.
use Rattle.std.specs.Prelude.{◌≤◌, ◌<◌, length, Result, Ok, Err}
use Rattle.probe_words.specs.declared.position_list.Positions.{Positions}
use Rattle.probe_words.specs.declared.probe.ProbeTable.{ProbeTable}
use Rattle.probe_words.specs.ProbeTables.{table_guards, IsProbeTableOf, ReachesTooMany}
use Rattle.probe_automata.specs.declared.build_fault.BuildFault.{BuildFault}
use Rattle.probe_automata.specs.declared.build_fault.BuildFault.TheVariants.{TooManyGuards, TooManyStates, Memory}

-- the table; or there are more than 4 distinct guards; or no more than 4, and more than 1,024 sets are reached
abbrev pub IsBuildAnswer : Positions → Result ProbeTable BuildFault → Type 0
IsBuildAnswer p (Ok table) = IsProbeTableOf p table
IsBuildAnswer p (Err TooManyGuards) = 4 < length (table_guards p)
IsBuildAnswer p (Err TooManyStates) = (length (table_guards p) ≤ 4) × ReachesTooMany p
IsBuildAnswer p (Err Memory) = Unit {0}
