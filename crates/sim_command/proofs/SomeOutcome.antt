-- An input of at most 2^20 bytes has a model or a first fault, and an answer to each command.
use Rattle.std.proofs.Common.{ℕ, ◌^◌, ◌≤◌, Some, List, [], length, get_or, inl, inr, refl}
use Rattle.std.proofs.lemmas.Option.{slice_get-get_or}
use Rattle.pepa_lexer.specs.declared.kinds.Place.{Place}
use Rattle.pepa_lexer.specs.declared.kinds.Kind.TheVariants.{End}
use Rattle.pepa_lexer.specs.declared.kinds.Token.{Token}
use Rattle.pepa_lexer.specs.declared.kinds.LexFault.{LexFault}
use Rattle.pepa_lexer.specs.declared.kinds.LexFault.TheVariants as lexer
use Rattle.pepa_lexer.specs.TokenLists.{IsTokens}
use Rattle.pepa_lexer.specs.Faults.{IsLexFaultOf}
use Rattle.pepa_reader.specs.declared.trees.FileTree.{FileTree}
use Rattle.pepa_reader.specs.declared.fault.FileFault.{FileFault}
use Rattle.pepa_reader.specs.declared.fault.FileFault.TheVariants as reader
use Rattle.token_grammar.specs.Terminals.{terminals}
use Rattle.pepa_reader.specs.Trees.{file_node_of}
use Rattle.pepa_reader.specs.FileAnswers.{IsFileTree, IsFileFault}
use Rattle.pepa_checks.specs.declared.cause.CheckCause.{CheckCause}
use Rattle.pepa_checks.specs.CheckedFiles.{IsRefusedFor}
use Rattle.pepa_checks.proofs.ProbeLines.{refused_at_a_token}
use Rattle.pepa_checks.proofs.SomeFiles.{some_file}
use Rattle.pepa_checks.proofs.SomeModels.{some_model, text_keeps}
use Rattle.pepa_checks.proofs.SomeTokens.{some_tokens}
use Rattle.sim_report.specs.declared.fault.Fault.TheVariants.{Model}
use Rattle.sim_report.specs.declared.fault.FaultName.{FaultName}
use Rattle.sim_report.specs.declared.fault.FaultName.TheVariants as names
use Rattle.sim_report.specs.FaultLine.{fault_text}
use Rattle.model_maker.specs.MadeModel.{made_text}
use Rattle.call_words.specs.declared.command.Command.{Command}
use Rattle.call_words.specs.declared.command.Command.TheVariants.{Run, Gen}
use Rattle.sim_command.specs.ModelFaults.{cause_name, IsModelFault}
use Rattle.sim_command.specs.declared.answered.Answered.{Answered}
use Rattle.sim_command.specs.Answer.{IsTextAnswer}
use Rattle.sim_command.specs.OutcomeLaws.{HasSomeOutcome, HasAnswerIfRead, HasSomeAnswer}
use Rattle.sim_command.proofs.MadeTexts.{made_text_is_short}
use Rattle.sim_command.proofs.ModelReading.{has_model}
use Rattle.sim_command.proofs.SomeAnswer.{some_model_answer}

-- ---- no fault

module _ (input : List ℕ) (none : (place : Place) (name : FaultName) → ¬ IsModelFault input place name) where
  tokens_not : (fault : LexFault) → ¬ IsLexFaultOf input fault
  tokens_not (lexer.BadByte place) h = none place names.BadByte (inl (record { fault = lexer.BadByte place; is_fault = h; named = refl }))
  tokens_not (lexer.BadNumber place) h = none place names.BadNumber (inl (record { fault = lexer.BadNumber place; is_fault = h; named = refl }))
  tokens_not (lexer.LongName place) h = none place names.LongName (inl (record { fault = lexer.LongName place; is_fault = h; named = refl }))
  tokens_not (lexer.OpenComment place) h = none place names.OpenComment (inl (record { fault = lexer.OpenComment place; is_fault = h; named = refl }))
  tokens_not lexer.Memory h = h.refuses

  module _ (tokens : List Token) (are : IsTokens input tokens) where
    file_not : (fault : FileFault) → ¬ IsFileFault input tokens fault
    file_not (reader.Expected place) h = none place names.Expected (inr (inl (record { tokens = tokens; are_tokens = are; fault = reader.Expected place; is_fault = h; named = refl })))
    file_not (reader.TooDeep place) h = none place names.TooDeep (inr (inl (record { tokens = tokens; are_tokens = are; fault = reader.TooDeep place; is_fault = h; named = refl })))
    file_not (reader.Array place) h = none place names.Array (inr (inl (record { tokens = tokens; are_tokens = are; fault = reader.Array place; is_fault = h; named = refl })))
    file_not (reader.Wildcard place) h = none place names.Wildcard (inr (inl (record { tokens = tokens; are_tokens = are; fault = reader.Wildcard place; is_fault = h; named = refl })))
    file_not reader.Memory h = h.is_fault

    check_not : (tree : FileTree) → IsFileTree (terminals input tokens) tree → (cause : CheckCause) (i : ℕ) → ¬ IsRefusedFor input tokens (file_node_of tree) cause i
    check_not tree is_tree cause i h =
        let low = refused_at_a_token input tokens tree cause i is_tree h in
        let token = get_or tokens i no_token in
        none token.place (cause_name cause) (inr (inr (record {
          tokens = tokens;
          are_tokens = are;
          tree = tree;
          is_tree = is_tree;
          cause = cause;
          refused = record { i = i; refused = h; token = token; is_token = slice_get-get_or tokens i no_token low; place_is = refl };
          name_is = refl;
        })))
      where
        no_token : Token
        no_token = record { kind = End; place = record { line = 0; column = 0 }; from = 0; to = 0 }

-- ---- an outcome, and an answer

pub some_outcome : (input : List ℕ) → HasSomeOutcome input
some_outcome input short no_model none =
    elim (some_tokens input) [
      | inr fault ↦ tokens_not input none fault.0 fault.1
      | inl found ↦
          let tokens = found.0 in
          let are = found.1 in
          some_file input tokens are
          (λ tree is_tree. some_model input tokens tree is_tree (λ m is. no_model m (has_model input tokens are tree is_tree m short is)) (check_not input none tokens are tree is_tree))
          (file_not input none tokens are)
    ]

pub answer_if_read : (command : Command) (input : List ℕ) → HasAnswerIfRead command input
answer_if_read command input m reads =
    let answer = some_model_answer command m (text_keeps input m reads) in
    (answer.0, inr (record { model = m; reads = reads; answer = answer.1 }))

-- a text of at most 2^20 bytes can't have no answer
some_text_answer : (command : Command) (text : List ℕ) → length text ≤ 2 ^ 20 → ((answered : Answered) → ¬ IsTextAnswer command text answered) → ⊥
some_text_answer command text short apart =
    some_outcome text short
    (λ m reads. let answer = answer_if_read command text m reads in apart answer.0 answer.1)
    (λ place name is_fault. apart (record { status = 3; out = []; line = fault_text (Model place name) }) (inl (record { place = place; name = name; is_fault = is_fault; refused = record { status_is = refl; out_is = refl; line_is = refl } })))

pub some_answer : (command : Command) (input : List ℕ) → HasSomeAnswer command input
some_answer (Run order (Some size)) input range short apart =
    some_text_answer (Run order (Some size)) (made_text size) (made_text_is_short size range.1) apart
some_answer (Gen size) input range short apart =
    apart (record { status = 0; out = made_text size; line = [] }) (record { status_is = refl; out_is = refl; line_is = refl })
some_answer command input range short apart = some_text_answer command input (short refl) apart
