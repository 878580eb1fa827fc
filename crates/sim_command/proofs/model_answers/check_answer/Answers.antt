use Rattle.std.proofs.Common.{sym, subst}
use Rattle.sim_report.specs.CheckText.{IsCheckText}
use Rattle.sim_command.proofs.model_answers.check_answer.Goals as goal

pub returns : goal.returns
returns c = record {
  status_is = c.fine.ensures.status_is;
  out_is = subst (IsCheckText c.args.model.now) (sym c.fine.ensures.out_is) c.in_ok-text.ensures;
  line_is = c.fine.ensures.line_is;
}
