-- The counter's ledger is the blank's.
use Rattle.term_table.proofs.looking.key_of.Given as goal

abbrev pub ghosts-look : goal.ghosts-look
ghosts-look g a = record { name = a.blank.name; parts = a.blank.parts }
