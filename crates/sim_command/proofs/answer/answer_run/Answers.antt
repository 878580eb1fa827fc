use Rattle.std.proofs.Common.{ℕ, Option, MatchOption, subst}
use Rattle.std.specs.Prelude.{⊤}
use Rattle.model_maker.specs.MadeModel.{IsMadeSize}
use Rattle.sim_command.proofs.answer.answer_run.Goals as goal

pub answer_made-requires-clause-size : goal.answer_made-requires-clause-size
answer_made-requires-clause-size c = subst (λ (m : Option ℕ). MatchOption m ⊤ IsMadeSize) c.in-Some.is c.requires.range.1
