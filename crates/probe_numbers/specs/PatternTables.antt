-- The table of an expression, and expressions that are too large for one.
use Rattle.std.specs.Prelude.{◌≤◌, ◌<◌, ◌⊎◌, length, Result, Ok, Err}
use Rattle.probe_words.specs.declared.position_list.Positions.{Positions}
use Rattle.probe_words.specs.declared.probe.ProbeTable.{ProbeTable}
use Rattle.probe_words.specs.Words.{Pattern}
use Rattle.probe_words.specs.CoreForm.{core_of}
use Rattle.probe_words.specs.Sizes.{size_of_pattern}
use Rattle.probe_words.specs.PositionsOf.{ArePositions}
use Rattle.probe_words.specs.ProbeTables.{table_guards, IsProbeTableOf, ReachesTooMany}
use Rattle.probe_numbers.specs.declared.pattern_tables.TableFault.{TableFault}
use Rattle.probe_numbers.specs.declared.pattern_tables.TableFault.TheVariants.{TooLarge, Memory}

-- the table of the expression's positions, of which there are at most 63
abbrev pub IsTableOfPattern : Pattern → ProbeTable → Type 0
IsTableOfPattern r table = (size_of_pattern r ≤ 63) × ((p : Positions) × ArePositions (core_of r) p × IsProbeTableOf p table)

-- there are more than 4 distinct guards, else more than 1,024 states
abbrev pub IsTooLargeAt : Positions → Type 0
IsTooLargeAt p = (4 < length (table_guards p)) ⊎ ((length (table_guards p) ≤ 4) × ReachesTooMany p)

-- there are more than 63 positions, else more than 4 distinct guards, else more than 1,024 states
abbrev pub IsTooLarge : Pattern → Type 0
IsTooLarge r = (63 < size_of_pattern r) ⊎ ((size_of_pattern r ≤ 63) × ((p : Positions) × ArePositions (core_of r) p × IsTooLargeAt p))

-- the table, or that the expression is too large
abbrev pub IsTableAnswer : Pattern → Result ProbeTable TableFault → Type 0
IsTableAnswer r (Ok table) = IsTableOfPattern r table
IsTableAnswer r (Err TooLarge) = IsTooLarge r
IsTableAnswer r (Err Memory) = Unit {0}
