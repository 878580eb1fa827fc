-- What the scanner answers of the first lexeme of a text.
use Rattle.std.specs.Prelude.{◌≡◌, ℕ, List, ◌∷◌, ◌++◌, length, Result, Ok, Err}
use Rattle.pepa_lexer.specs.Lexemes.{Lexeme, spelled, IsOpen, IsLexeme, EndsBefore}
use Rattle.pepa_lexer.specs.TokenLists.{kind_of}
use Rattle.pepa_lexer.specs.Faults.{Refuses}
use Rattle.pepa_lexer.specs.declared.kinds.Place.{Place}
use Rattle.pepa_lexer.specs.declared.kinds.LexFault.{LexFault}
use Rattle.pepa_lexer.specs.declared.lexeme.Scanned.{Scanned}

-- a lexeme stands in front of the bytes, of this kind and length
pub record IsScanned (bytes : List ℕ) (scanned : Scanned) : Type 0 where
  pub lexeme : Lexeme
  pub rest : List ℕ
  pub whole : bytes ≡ spelled lexeme ++ rest
  pub form : IsLexeme lexeme
  pub ends : EndsBefore lexeme rest
  pub kind : scanned.kind ≡ kind_of lexeme
  pub len : scanned.len ≡ length (spelled lexeme)

-- the first lexeme, or why there is none
abbrev pub Scans : List ℕ → Place → Result Scanned LexFault → Type 0
Scans bytes place (Ok scanned) = IsScanned bytes scanned
Scans bytes place (Err fault) = Refuses bytes place fault

-- the body of a block comment in front of the bytes behind its `/*` has this length
pub record IsBlockBody (bytes : List ℕ) (len : ℕ) : Type 0 where
  pub body : List ℕ
  pub rest : List ℕ
  pub whole : bytes ≡ body ++ (42 ∷ 47 ∷ rest)
  pub open_body : IsOpen body
  pub len_is : len ≡ length body
