-- What the bytes of a token are.
use Rattle.std.specs.Prelude.{◌≡◌, ℕ, ◌≤◌, ◌⊎◌, true, false, List, [], ◌∷◌, ◌++◌, length, slice_range}
use Rattle.std.specs.Str.Parse.{digits_value}
use Rattle.pepa_lexer.specs.Bytes.{is_capital, begins}
use Rattle.pepa_lexer.specs.Signs.{sign_bytes}
use Rattle.pepa_lexer.specs.Lexemes.{IsWord, AreDigits}
use Rattle.pepa_lexer.specs.TokenLists.{place_of}
use Rattle.pepa_lexer.specs.declared.kinds.Kind.{Kind}
use Rattle.pepa_lexer.specs.declared.kinds.Kind.TheVariants.{Small, Capital, Number, Sign, End}
use Rattle.pepa_lexer.specs.declared.kinds.Token.{Token}

-- digits before a point and behind it, with the value of them all
pub record IsDecimal (text : List ℕ) (digits scale : ℕ) : Type 0 where
  pub before : List ℕ
  pub behind : List ℕ
  pub whole : text ≡ before ++ 46 ∷ behind
  pub are_before : AreDigits before
  pub are_behind : AreDigits behind
  pub value : digits ≡ digits_value 10 (before ++ behind)
  pub count : scale ≡ length behind

-- the bytes are a token of this kind
abbrev pub IsTokenText : Kind → List ℕ → Type 0
IsTokenText Small text = IsWord text × (begins is_capital text ≡ false)
IsTokenText Capital text = IsWord text × (begins is_capital text ≡ true)
IsTokenText (Number digits scale) text = ((scale ≡ 0) × AreDigits text × (digits ≡ digits_value 10 text)) ⊎ IsDecimal text digits scale
IsTokenText (Sign sign) text = text ≡ sign_bytes sign
IsTokenText End text = text ≡ []

-- the tokens stand in the input one behind the other, from this byte on, each with its bytes and its place
abbrev pub AreInOrder : List ℕ → ℕ → List Token → Type 0
AreInOrder input at [] = Unit {0}
AreInOrder input at (token ∷ tokens) =
    (at ≤ token.from)
    × (token.to ≤ length input)
    × IsTokenText token.kind (slice_range input token.from token.to)
    × (token.place ≡ place_of input token.from)
    × AreInOrder input token.to tokens
