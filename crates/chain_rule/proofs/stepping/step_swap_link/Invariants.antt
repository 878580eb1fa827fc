-- No call begins.
use Rattle.std.proofs.Common.{[]}
use Rattle.chain_rule.proofs.stepping.step_swap_link.Given as goal

abbrev pub ghosts-advance : goal.ghosts-advance
ghosts-advance g a = record { begins = a.begins.now; told = [] }
