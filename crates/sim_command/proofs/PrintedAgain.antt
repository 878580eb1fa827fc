-- A printed text is answered as the text that it was printed from.
use Rattle.std.proofs.Common.{◌≡◌, ℕ, Some, List, inl, inr, sym, ◌∙◌, subst}
use Rattle.pepa_model.specs.PepaModel.{PepaModel}
use Rattle.pepa_checks.specs.CheckedFiles.{IsTextOf, IsShortTextOf}
use Rattle.pepa_checks.proofs.OneModel.{one_model}
use Rattle.sim_command.specs.declared.answered.Answered.{Answered}
use Rattle.call_words.specs.declared.command.Command.{Command}
use Rattle.call_words.specs.declared.command.Command.TheVariants.{Print, Run, Gen}
use Rattle.sim_command.specs.ModelAnswers.{IsModelAnswer}
use Rattle.sim_command.specs.Answer.{IsTextAnswer}
use Rattle.sim_command.specs.AnswerLaws.{HasAnswerOfPrinted}
use Rattle.sim_command.specs.ShortTexts.{IsShort}
use Rattle.sim_command.proofs.OneOutcome.{model_or_fault}
use Rattle.sim_command.proofs.OneAnswer.{one_model_answer, one_answer}

-- a short text of a model is read as this model
read_back : (text : List ℕ) (m : PepaModel) → IsTextOf text m → IsShort text → IsShortTextOf text m
read_back text m is short = record {
  text = is;
  short = short.bytes;
  short_lines = short.lines is.tokens is.file is.are_tokens is.spelled;
  short_system = short.system is.tokens is.file is.are_tokens is.spelled;
}

-- an input that is read as a model is answered for this model
for_model : (command : Command) (input : List ℕ) (m : PepaModel) (x : Answered) → IsShortTextOf input m → IsTextAnswer command input x → IsModelAnswer command m x
for_model command input m x reads (inl h) = absurd (model_or_fault input m h.place h.name reads h.is_fault)
for_model command input m x reads (inr h) = subst (λ (n : PepaModel). IsModelAnswer command n x) (one_model input h.model m h.reads reads) h.answer

three_is_not_zero : (status : ℕ) → status ≡ 3 → status ≡ 0 → ⊥
three_is_not_zero status three zero = let e = sym three ∙ zero in cc

text_printed_again : (command : Command) (input : List ℕ) (printed x y : Answered) → IsTextAnswer Print input printed → printed.status ≡ 0 → IsShort printed.out → IsTextAnswer command input x → IsTextAnswer command printed.out y → y ≡ x
text_printed_again command input printed x y (inl h) fine short a b = absurd (three_is_not_zero printed.status h.refused.status_is fine)
text_printed_again command input printed x y (inr h) fine short a b =
    let again : IsShortTextOf printed.out h.model = read_back printed.out h.model h.answer.reads_back short in
    one_model_answer command h.model y x (for_model command printed.out h.model y again b) (for_model command input h.model x h.reads a)

pub printed_again : (command : Command) (input : List ℕ) → HasAnswerOfPrinted command input
printed_again (Run order (Some size)) input printed x y is fine short a b = one_answer (Run order (Some size)) input y x b a
printed_again (Gen size) input printed x y is fine short a b = one_answer (Gen size) input y x b a
printed_again command input printed x y is fine short a b = text_printed_again command input printed x y is fine short a b
