use Rattle.std.proofs.Common.{ℕ, List, ◌≤◌, ◌^◌, length, Some, IfOk, sym, subst, ◌∙◌}
use Rattle.call_words.specs.declared.command.Command.TheVariants.{Run}
use Rattle.sim_command.specs.Answer.{IsTextAnswer}
use Rattle.sim_command.proofs.Answers.{run_of_text}
use Rattle.sim_command.proofs.MadeTexts.{made_text_is_short}
use Rattle.sim_command.proofs.answer.answer_made.Goals as goal

pub answer_run_alone-requires-clause-bytes : goal.answer_run_alone-requires-clause-bytes
answer_run_alone-requires-clause-bytes c =
    subst (λ (t : List ℕ). length t ≤ 2 ^ 20) (sym (c.as_slice.ensures ∙ c.in_ok-text.ensures)) (made_text_is_short c.args.size c.requires.size)

pub returns : goal.returns
returns c =
    let command = Run c.args.order.now (Some c.args.size) in
    subst (λ (t : List ℕ). IfOk c.answer_run_alone.result (IsTextAnswer command t)) (c.as_slice.ensures ∙ c.in_ok-text.ensures)
    (run_of_text c.args.order.now (Some c.args.size) c.as_slice.result.now c.answer_run_alone.result c.answer_run_alone.ensures)
