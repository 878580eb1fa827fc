-- How a call ends, from how its input was read and its answer delivered.
use Rattle.std.proofs.Common.{◌≡◌, ◌⊎◌, ℕ, List, [], length, Option, None, Some, Ok, inl, inr, ap, arith}
use Rattle.sim_outside.specs.ReadAll.{ReadsToEnd}
use Rattle.pepa_model.specs.PepaModel.{PepaModel}
use Rattle.sim_command.specs.declared.answered.Answered.{Answered}
use Rattle.call_words.specs.declared.command.Command.{Command}
use Rattle.call_words.specs.declared.command.Command.TheVariants.{Steps, Check, Print, Probe, Run, Gen}
use Rattle.call_words.specs.CommandWords.{GivesCommand}
use Rattle.sim_command.specs.ModelAnswers.{IsModelAnswer}
use Rattle.sim_command.specs.Inputs.{NeedSource}
use Rattle.sim_command.specs.Answer.{IsTextAnswer, IsAnswer}
use Rattle.sim_command.specs.TopCall.{Seen, AreAllLeft, IsAsBefore, WroteFront, IsReadThrough, IsGiven, IsAnswered, IsInputEnding, IsEnding}

pub all_left : (before after : Option (List ℕ)) (limit : ℕ) (bytes : List ℕ) → ReadsToEnd before after limit (Ok bytes) → AreAllLeft before after bytes
all_left None after limit bytes h = tt
all_left (Some left) after limit bytes h = (h.0, h.2)

-- a front of no bytes isn't short
no_front : (out : Seen) (piece : List ℕ) → piece ≡ [] → WroteFront out piece → ⊥
no_front out piece none wrote = omega (arith, ap length none, wrote.short)

-- an answer for a model whose bytes could not all be written has status 0
written_of_model : (command : Command) (m : PepaModel) (answer : Answered) (out : Seen) → IsModelAnswer command m answer → WroteFront out answer.out → answer.status ≡ 0
written_of_model Steps m answer out (inl stopped) wrote = absurd (no_front out answer.out stopped.refused.out_is wrote)
written_of_model Steps m answer out (inr listed) wrote = listed.status_is
written_of_model Check m answer out counted wrote = counted.status_is
written_of_model Print m answer out printed wrote = printed.status_is
written_of_model (Probe ask) m answer out told wrote = told.status_is
written_of_model (Run order made) m answer out (inl stopped) wrote = absurd (no_front out answer.out stopped.refused.out_is wrote)
written_of_model (Run order made) m answer out (inr reported) wrote = reported.report.fine.status_is
written_of_model (Gen size) m answer out made wrote = made.status_is

written_of_text : (command : Command) (text : List ℕ) (answer : Answered) (out : Seen) → IsTextAnswer command text answer → WroteFront out answer.out → answer.status ≡ 0
written_of_text command text answer out (inl unread) wrote = absurd (no_front out answer.out unread.refused.out_is wrote)
written_of_text command text answer out (inr read) wrote = written_of_model command read.model answer out read.answer wrote

-- so has any answer
written_has_status_0 : (command : Command) (input : List ℕ) (answer : Answered) (out : Seen) → IsAnswer command input answer → WroteFront out answer.out → answer.status ≡ 0
written_has_status_0 (Run order (Some size)) input answer out h wrote = written_of_text (Run order (Some size)) _ answer out h wrote
written_has_status_0 (Gen size) input answer out h wrote = h.status_is
written_has_status_0 command input answer out h wrote = written_of_text command input answer out h wrote

-- where memory ran out after the source gave these bytes
source_is : (words : List (List ℕ)) (command : Command) (source : Seen) (input : List ℕ) → GivesCommand words command → IsGiven command source input → IsAsBefore source ⊎ IsReadThrough words source
source_is words command source input is_command (inl (reads, read)) =
    inr (record { needed = (command, is_command, reads); input = input; read = read })
source_is words command source input is_command (inr (own, stays, none)) = inl stays

pub ending : (words : List (List ℕ)) (command : Command) (source out : Seen) (input line : List ℕ) (status : ℕ) → GivesCommand words command
    → IsGiven command source input → IsInputEnding command input out line status → IsEnding words source out line status
ending words command source out input line status is_command given (inl memory) =
    inr (inl (record { ended = memory; source_is = source_is words command source input is_command given }))
ending words command source out input line status is_command given (inr (answer, is, inl delivered)) =
    let answered : IsAnswered words source answer = record { command = command; is_command = is_command; input = input; given = given; is = is } in
    inr (inr (inr (inr (inl (record { answer = answer; answered = answered; status_is = delivered.0; wrote = delivered.1; line_is = delivered.2 })))))
ending words command source out input line status is_command given (inr (answer, is, inr failed)) =
    let answered : IsAnswered words source answer = record { command = command; is_command = is_command; input = input; given = given; is = is } in
    let fine = written_has_status_0 command input answer out is failed.1 in
    inr (inr (inr (inr (inr (record { answer = answer; answered = answered; is_fine = fine; status_is = failed.0; wrote = failed.1; line_is = failed.2 })))))
