use Rattle.std.proofs.Common.{ℕ, List, sym, ◌∙◌, subst}
use Rattle.pepa_checks.specs.CheckedFiles.{IsTextOf}
use Rattle.sim_command.proofs.model_answers.print_answer.Goals as goal

pub returns : goal.returns
returns c = record {
  status_is = c.fine.ensures.status_is;
  out_is = c.fine.ensures.out_is ∙ c.in_ok-text.ensures.text;
  reads_back = subst (λ (t : List ℕ). IsTextOf t c.args.model.now) (sym c.fine.ensures.out_is) c.in_ok-text.ensures.reads_back;
  line_is = c.fine.ensures.line_is;
}
