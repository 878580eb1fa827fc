-- Which statuses an answer has.
use Rattle.std.proofs.Common.{◌≡◌, ℕ, Some, List, inl, inr, arith, sym, ◌∙◌}
use Rattle.pepa_model.specs.PepaModel.{PepaModel}
use Rattle.sim_command.specs.declared.answered.Answered.{Answered}
use Rattle.call_words.specs.declared.command.Command.{Command}
use Rattle.call_words.specs.declared.command.Command.TheVariants.{Steps, Check, Print, Probe, Run, Gen}
use Rattle.sim_command.specs.ModelAnswers.{IsModelAnswer}
use Rattle.sim_command.specs.AnswerForms.{IsFineAnswer}
use Rattle.sim_command.specs.Answer.{IsTextAnswer, IsAnswer}
use Rattle.sim_command.specs.TopCall.{Seen, IsDelivery}

abbrev pub IsNoDeviceFault : Answered → Type 0
IsNoDeviceFault answer = ¬ (answer.status ≡ 4) × ¬ (answer.status ≡ 5)

of_fine : (answer : Answered) (text : List ℕ) → IsFineAnswer answer text → IsNoDeviceFault answer
of_fine answer text h = (λ four. omega (arith, four, h.status_is), λ five. omega (arith, five, h.status_is))

of_model : (command : Command) (m : PepaModel) (answer : Answered) → IsModelAnswer command m answer → IsNoDeviceFault answer
of_model Steps m answer (inl stopped) = (λ four. omega (arith, four, stopped.refused.status_is), λ five. omega (arith, five, stopped.refused.status_is))
of_model Steps m answer (inr listed) = (λ four. omega (arith, four, listed.status_is), λ five. omega (arith, five, listed.status_is))
of_model Check m answer counted = (λ four. omega (arith, four, counted.status_is), λ five. omega (arith, five, counted.status_is))
of_model Print m answer printed = (λ four. omega (arith, four, printed.status_is), λ five. omega (arith, five, printed.status_is))
of_model (Probe ask) m answer told = of_fine answer _ told
of_model (Run order made) m answer (inl stopped) = (λ four. omega (arith, four, stopped.refused.status_is), λ five. omega (arith, five, stopped.refused.status_is))
of_model (Run order made) m answer (inr reported) = of_fine answer _ reported.report.fine
of_model (Gen size) m answer made = of_fine answer _ made

of_text : (command : Command) (text : List ℕ) (answer : Answered) → IsTextAnswer command text answer → IsNoDeviceFault answer
of_text command text answer (inl unread) = (λ four. omega (arith, four, unread.refused.status_is), λ five. omega (arith, five, unread.refused.status_is))
of_text command text answer (inr read) = of_model command read.model answer read.answer

-- an answer's status tells no failure of a device
pub no_fault : (command : Command) (input : List ℕ) (answer : Answered) → IsAnswer command input answer → IsNoDeviceFault answer
no_fault (Run order (Some size)) input answer h = of_text (Run order (Some size)) _ answer h
no_fault (Gen size) input answer h = of_fine answer _ h
no_fault command input answer h = of_text command input answer h

-- an answer that is delivered doesn't end with status 4
pub not_a_read_fault : (answer : Answered) (out : Seen) (line : List ℕ) (status : ℕ) → ¬ (answer.status ≡ 4) → IsDelivery answer out line status → ¬ (status ≡ 4)
not_a_read_fault answer out line status other (inl delivered) four = other (sym delivered.0 ∙ four)
not_a_read_fault answer out line status other (inr failed) four = omega (arith, failed.0, four)
