-- The tokens of a text: its names, numbers and signs, each with its place, and the end.
use Rattle.std.specs.Prelude.{◌≡◌, ℕ, ◌+◌, not, if◌then◌else◌, List, [], ◌∷◌, ◌++◌, length, take, count_by, Option, Some, None}
use Rattle.std.specs.List.{suffix_len}
use Rattle.std.specs.Str.Parse.{digits_value}
use Rattle.pepa_lexer.specs.Bytes.{is_capital, is_line_feed, begins}
use Rattle.pepa_lexer.specs.Lexemes.{Lexeme, Blank, LineComment, BlockComment, Word, Whole, Pointed, Mark, spelled, AreLexemes}
use Rattle.pepa_lexer.specs.declared.kinds.Place.{Place}
use Rattle.pepa_lexer.specs.declared.kinds.Kind.{Kind}
use Rattle.pepa_lexer.specs.declared.kinds.Kind.TheVariants.{Small, Capital, Number, Sign, End}
use Rattle.pepa_lexer.specs.declared.kinds.Token.{Token}

-- the place behind these bytes: one line more than the line feeds, and one column more than the bytes behind the last of them
abbrev pub place_after : List ℕ → Place
place_after bytes = record { line = 1 + count_by is_line_feed bytes; column = 1 + suffix_len (λ byte. not (is_line_feed byte)) bytes }

-- the place of the byte that has this many before it
abbrev pub place_of : List ℕ → ℕ → Place
place_of input at = place_after (take at input)

-- the kind of token that a lexeme is, if it is one
abbrev pub kind_of : Lexeme → Option Kind
kind_of (Blank byte) = None
kind_of (LineComment body) = None
kind_of (BlockComment body) = None
kind_of (Word bytes) = Some (if begins is_capital bytes then Capital else Small)
kind_of (Whole digits) = Some (Number (digits_value 10 digits) 0)
kind_of (Pointed digits behind) = Some (Number (digits_value 10 (digits ++ behind)) (length behind))
kind_of (Mark sign) = Some (Sign sign)

-- a token of this kind, or none
abbrev pub token_at : Option Kind → Place → ℕ → ℕ → List Token
token_at None place from to = []
token_at (Some kind) place from to = record { kind = kind; place = place; from = from; to = to } ∷ []

-- the tokens among lexemes, the first of which begins at this byte of the input
abbrev pub tokens_along : List ℕ → ℕ → List Lexeme → List Token
tokens_along input at [] = []
tokens_along input at (lexeme ∷ lexemes) =
    token_at (kind_of lexeme) (place_of input at) at (at + length (spelled lexeme)) ++ tokens_along input (at + length (spelled lexeme)) lexemes

-- the token behind the last byte
abbrev pub end_of : List ℕ → List Token
end_of input = token_at (Some End) (place_of input (length input)) (length input) (length input)

-- the input's tokens
abbrev pub IsTokens : List ℕ → List Token → Type 0
IsTokens input tokens =
    (lexemes : List Lexeme) × AreLexemes lexemes input × (tokens ≡ tokens_along input 0 lexemes ++ end_of input)
