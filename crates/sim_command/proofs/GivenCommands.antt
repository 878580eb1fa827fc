-- Commands that words give, and what a command needs of the source.
use Rattle.std.proofs.Common.{◌≡◌, ℕ, true, false, List, [], ◌∷◌, Option, None, Some, MatchOption, codes, sym, subst}
use Rattle.std.specs.Prelude.{⊤}
use Rattle.model_maker.specs.MadeModel.{IsMadeSize}
use Rattle.call_words.specs.declared.command.Command.{Command}
use Rattle.call_words.specs.declared.command.Command.TheVariants.{Steps, Check, Print, Probe, Run, Gen}
use Rattle.call_words.specs.OptionTable.{IsMadeOption}
use Rattle.call_words.specs.CommandWords.{GivesCommand}
use Rattle.call_words.proofs.CommandLaws.{order_in_range}
use Rattle.sim_command.specs.declared.answered.Answered.{Answered}
use Rattle.sim_command.specs.Inputs.{reads_source, IsCommandInRange}
use Rattle.sim_command.specs.Answer.{IsTextAnswer, IsAnswer}
use Rattle.sim_command.specs.AnswerLaws.{HasCommandsInRange, HasAnswerOfItsOwn}

made_in_range : (text : Option (List ℕ)) (made : Option ℕ) → IsMadeOption text made → MatchOption made ⊤ IsMadeSize
made_in_range None made h = subst (λ (m : Option ℕ). MatchOption m ⊤ IsMadeSize) (sym h) tt
made_in_range (Some text) None h = absurd h
made_in_range (Some text) (Some size) h = (h.at_least, h.at_most)

pub given_in_range : (words : List (List ℕ)) → HasCommandsInRange words
given_in_range [] command h = absurd h
given_in_range (first ∷ others) Steps h = tt
given_in_range (first ∷ others) Check h = tt
given_in_range (first ∷ others) Print h = tt
given_in_range (first ∷ others) (Probe ask) h = tt
given_in_range (first ∷ others) (Run order made) h =
    (order_in_range (first ∷ others) order made h, made_in_range (h.1.0 (codes "made")) made h.1.2.1)
given_in_range (first ∷ others) (Gen size) h = (h.1.2.at_least, h.1.2.at_most)

-- a command that works on the bytes of the source answers them as a text
pub of_text : (command : Command) (input : List ℕ) (answer : Answered) → reads_source command ≡ true → IsTextAnswer command input answer → IsAnswer command input answer
of_text (Run order (Some size)) input answer reads h = absurd cc
of_text (Gen size) input answer reads h = absurd cc
of_text command input answer reads h = h

-- another command has an answer of its own
pub own_answer : (command : Command) → HasAnswerOfItsOwn command
own_answer (Run order (Some size)) own input other answer h = h
own_answer (Gen size) own input other answer h = h
own_answer command own input other answer h = absurd cc
