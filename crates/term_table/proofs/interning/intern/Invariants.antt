-- The counter's ledger is the blank's.
use Rattle.term_table.proofs.interning.intern.Given as goal

abbrev pub ghosts-intern_with : goal.ghosts-intern_with
ghosts-intern_with g a = record { name = a.blank.name; parts = a.blank.parts }
