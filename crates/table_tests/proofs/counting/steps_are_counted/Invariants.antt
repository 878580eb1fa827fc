-- The counter's ledger is the blank's.
use Rattle.table_tests.proofs.counting.steps_are_counted.Given as goal

abbrev pub ghosts-counted : goal.ghosts-counted
ghosts-counted g a = record { name = a.blank.name; parts = a.blank.parts }
