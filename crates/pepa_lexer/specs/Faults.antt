-- Why an input has no tokens, and where.
use Rattle.std.specs.Prelude.{◌≡◌, ◌≢◌, ℕ, ◌+◌, ◌<◌, ◌⊎◌, true, false, List, ◌∷◌, ◌++◌, length, drop, Result, Ok, Err}
use Rattle.pepa_lexer.specs.Bytes.{is_digit, is_letter, is_word_byte, is_space, begins}
use Rattle.pepa_lexer.specs.Signs.{sign_bytes}
use Rattle.pepa_lexer.specs.Lexemes.{Lexeme, IsOpen, IsWord, AreDigits, StartsWithLexemes}
use Rattle.pepa_lexer.specs.TokenLists.{place_of, IsTokens}
use Rattle.pepa_lexer.specs.declared.kinds.Place.{Place}
use Rattle.pepa_lexer.specs.declared.kinds.Sign.{Sign}
use Rattle.pepa_lexer.specs.declared.kinds.Token.{Token}
use Rattle.pepa_lexer.specs.declared.kinds.LexFault.{LexFault}
use Rattle.pepa_lexer.specs.declared.kinds.LexFault.TheVariants.{BadByte, BadNumber, LongName, OpenComment, Memory}

-- the first byte is no white space, and begins no name, no number, no sign and so no comment
pub record BeginsNothing (bytes : List ℕ) : Type 0 where
  pub byte : ℕ
  pub more : List ℕ
  pub whole : bytes ≡ byte ∷ more
  pub no_space : is_space byte ≡ false
  pub no_letter : is_letter byte ≡ false
  pub no_digit : is_digit byte ≡ false
  pub no_sign : (sign : Sign) (rest : List ℕ) → bytes ≢ sign_bytes sign ++ rest

-- behind a number's point, which has this many digits before it: no digit, too many, or a letter or `_` behind them
abbrev pub IsBadFraction : ℕ → List ℕ → Type 0
IsBadFraction count bytes =
    (begins is_digit bytes ≡ false)
    ⊎ ((digits rest : List ℕ) × (bytes ≡ digits ++ rest) × AreDigits digits × (begins is_digit rest ≡ false)
    × ((30 < count + length digits) ⊎ (begins is_word_byte rest ≡ true)))

-- behind all digits that a number begins with: they are too many, a letter or `_` follows, or a point and a bad fraction
abbrev pub IsBadBehind : List ℕ → List ℕ → Type 0
IsBadBehind digits bytes =
    (30 < length digits) ⊎ (begins is_word_byte bytes ≡ true) ⊎ ((more : List ℕ) × (bytes ≡ 46 ∷ more) × IsBadFraction (length digits) more)

-- a number that has more than 30 digits, or no digit behind its point, or a letter or `_` at once behind it
abbrev pub BeginsBadNumber : List ℕ → Type 0
BeginsBadNumber bytes =
    (digits rest : List ℕ) × (bytes ≡ digits ++ rest) × AreDigits digits × (begins is_digit rest ≡ false) × IsBadBehind digits rest

-- a name of more than 64 bytes
abbrev pub BeginsLongName : List ℕ → Type 0
BeginsLongName bytes = (name rest : List ℕ) × (bytes ≡ name ++ rest) × IsWord name × (64 < length name)

-- `/*`, and no `*/` behind it
abbrev pub BeginsOpenComment : List ℕ → Type 0
BeginsOpenComment bytes = (body : List ℕ) × (bytes ≡ 47 ∷ 42 ∷ body) × IsOpen body

-- no token begins here, for the fault's cause, and the fault's place is this place
abbrev pub Refuses : List ℕ → Place → LexFault → Type 0
Refuses bytes here (BadByte place) = (place ≡ here) × BeginsNothing bytes
Refuses bytes here (BadNumber place) = (place ≡ here) × BeginsBadNumber bytes
Refuses bytes here (LongName place) = (place ≡ here) × BeginsLongName bytes
Refuses bytes here (OpenComment place) = (place ≡ here) × BeginsOpenComment bytes
Refuses bytes here Memory = ⊥

-- behind lexemes stands what the fault refuses
pub record IsLexFaultOf (input : List ℕ) (fault : LexFault) : Type 0 where
  pub at : ℕ
  pub lexemes : List Lexeme
  pub leads : StartsWithLexemes lexemes input (drop at input)
  pub refuses : Refuses (drop at input) (place_of input at) fault

-- the input has a fault
abbrev pub HasLexFault : List ℕ → Type 0
HasLexFault input = (fault : LexFault) × IsLexFaultOf input fault

-- what may be answered of an input: its tokens, its fault, or that memory ran out
abbrev pub AnswersTokens : List ℕ → Result (List Token) LexFault → Type 0
AnswersTokens input (Ok tokens) = IsTokens input tokens
AnswersTokens input (Err Memory) = Unit {0}
AnswersTokens input (Err fault) = IsLexFaultOf input fault
