-- The words are told.
use Rattle.intern_core.specs.declared.seat.Phase.TheVariants.{Idle}
use Rattle.chain_rule.proofs.listing.step_claim_block.Given as goal

abbrev pub ghosts-claim_told : goal.ghosts-claim_told
ghosts-claim_told g a = record { begins = Idle; told = a.words.now }
