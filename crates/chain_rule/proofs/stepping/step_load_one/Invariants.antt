-- The call begins with a look at this number.
use Rattle.std.proofs.Common.{[]}
use Rattle.chain_rule.proofs.stepping.step_load_one.Given as goal

abbrev pub ghosts-advance : goal.ghosts-advance
ghosts-advance g a = record { begins = a.begins.now; told = [] }
