use Rattle.std.proofs.Common.{sym}
use Rattle.pepa_steps.proofs.KeptLeaves.{kept_answers}
use Rattle.pepa_steps.proofs.leaf_rates.leaf_rates.Goals as goal

pub returns-in-Some-clause-answers : goal.returns-in-Some-clause-answers
returns-in-Some-clause-answers c = kept_answers c.args.model.now c.args.leaf c.in-Some.found.now c.copied.result (c.requires.kept c.args.leaf c.in-Some.found.now (sym c.in-Some.ensures.value)) c.copied.ensures
