-- That there is an answer: tokens or a fault of them, a file or a fault of it, a model or the cause of a refusal. Where a
-- definition ends in ⊥ it is a double negation: whoever shows that there is neither has a contradiction.
use Rattle.std.specs.Prelude.{ℕ, ◌⊎◌, List}
use Rattle.pepa_lexer.specs.declared.kinds.Token.{Token}
use Rattle.pepa_lexer.specs.TokenLists.{IsTokens}
use Rattle.pepa_lexer.specs.Faults.{HasLexFault}
use Rattle.pepa_reader.specs.declared.trees.FileTree.{FileTree}
use Rattle.pepa_reader.specs.declared.fault.FileFault.{FileFault}
use Rattle.token_grammar.specs.Terminals.{terminals}
use Rattle.pepa_reader.specs.Trees.{file_node_of}
use Rattle.pepa_reader.specs.FileAnswers.{IsFileTree, IsFileFault}
use Rattle.pepa_model.specs.PepaModel.{PepaModel}
use Rattle.pepa_checks.specs.declared.cause.CheckCause.{CheckCause}
use Rattle.pepa_checks.specs.CheckedFiles.{IsRefusedFor, IsModelOf}

-- the input has tokens, or it has a fault
abbrev pub HasTokensOrFault : List ℕ → Type 0
HasTokensOrFault input = ((tokens : List Token) × IsTokens input tokens) ⊎ HasLexFault input

-- the tokens are a file whose items are short enough, or they have a fault: they can't have neither
abbrev pub HasTreeOrFault : List ℕ → List Token → Type 0
HasTreeOrFault input tokens =
    ((tree : FileTree) → ¬ IsFileTree (terminals input tokens) tree) → ((fault : FileFault) → ¬ IsFileFault input tokens fault) → ⊥

-- the file has a model, or it is refused for a cause at an index: it can't have neither
abbrev pub HasModelOrRefusal : List ℕ → List Token → FileTree → Type 0
HasModelOrRefusal input tokens tree =
    ((m : PepaModel) → ¬ IsModelOf input tokens (file_node_of tree) m)
    → ((cause : CheckCause) (i : ℕ) → ¬ IsRefusedFor input tokens (file_node_of tree) cause i) → ⊥
