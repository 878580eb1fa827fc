-- Texts that are short enough to be read.
use Rattle.std.specs.Prelude.{◌≡◌, ℕ, ◌^◌, ◌≤◌, List, length}
use Rattle.pepa_lexer.specs.TokenLists.{IsTokens}
use Rattle.pepa_lexer.specs.declared.kinds.Token.{Token}
use Rattle.pepa_reader.specs.Grammar.{File, System, item_spelled, file_spelled}
use Rattle.token_grammar.specs.Terminals.{terminals}
use Rattle.pepa_reader.specs.FileAnswers.{AreShort, most_tokens}

-- at most 2^20 bytes, and at most 2,048 tokens in each item of the file that they are, if they are one
pub record IsShort (text : List ℕ) : Type 0 where
  pub bytes : length text ≤ 2 ^ 20
  pub lines : (tokens : List Token) (file : File) → IsTokens text tokens → terminals text tokens ≡ file_spelled file → AreShort file.lines
  pub system : (tokens : List Token) (file : File) → IsTokens text tokens → terminals text tokens ≡ file_spelled file → length (item_spelled (System file.system file.ending)) ≤ most_tokens
