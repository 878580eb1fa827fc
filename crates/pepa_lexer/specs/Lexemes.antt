-- What a text is made of: white space, comments, names, numbers and signs, each as long as it can be.
use Rattle.std.specs.Prelude.{◌≡◌, ℕ, ◌+◌, ◌≤◌, true, false, not, ◌||◌, ◌==◌, List, [], ◌∷◌, ◌++◌, length, slice_index}
use Rattle.std.specs.List.{list_all}
use Rattle.pepa_lexer.specs.Bytes.{is_digit, is_letter, is_word_byte, is_space, is_line_feed, begins}
use Rattle.pepa_lexer.specs.Signs.{sign_bytes, goes_on}
use Rattle.pepa_lexer.specs.declared.kinds.Sign.{Sign}

pub data Lexeme : Type 0 where
  -- one byte of white space
  Blank : ℕ → Lexeme
  -- what stands behind `//`
  LineComment : List ℕ → Lexeme
  -- what stands between `/*` and `*/`
  BlockComment : List ℕ → Lexeme
  -- a name
  Word : List ℕ → Lexeme
  -- the digits of a number without a point
  Whole : List ℕ → Lexeme
  -- the digits before and behind a number's point
  Pointed : List ℕ → List ℕ → Lexeme
  Mark : Sign → Lexeme

-- its bytes
abbrev pub spelled : Lexeme → List ℕ
spelled (Blank byte) = byte ∷ []
spelled (LineComment body) = 47 ∷ 47 ∷ body
spelled (BlockComment body) = 47 ∷ 42 ∷ (body ++ 42 ∷ 47 ∷ [])
spelled (Word bytes) = bytes
spelled (Whole digits) = digits
spelled (Pointed digits behind) = digits ++ 46 ∷ behind
spelled (Mark sign) = sign_bytes sign

-- `*/` stands at this place of the bytes
abbrev pub IsCloseAt : List ℕ → ℕ → Type 0
IsCloseAt bytes at = (slice_index bytes at ≡ 42) × (slice_index bytes (at + 1) ≡ 47)

-- `*/` stands at no place of the bytes
abbrev pub IsOpen : List ℕ → Type 0
IsOpen bytes = (at : ℕ) → ¬ IsCloseAt bytes at

-- a letter, and then letters, digits and `_`
abbrev pub IsWord : List ℕ → Type 0
IsWord bytes = (begins is_letter bytes ≡ true) × (list_all is_word_byte bytes ≡ true)

-- one digit or more
abbrev pub AreDigits : List ℕ → Type 0
AreDigits bytes = (begins is_digit bytes ≡ true) × (list_all is_digit bytes ≡ true)

-- its own form
abbrev pub IsLexeme : Lexeme → Type 0
IsLexeme (Blank byte) = is_space byte ≡ true
IsLexeme (LineComment body) = list_all (λ byte. not (is_line_feed byte)) body ≡ true
IsLexeme (BlockComment body) = IsOpen body
IsLexeme (Word bytes) = IsWord bytes × (length bytes ≤ 64)
IsLexeme (Whole digits) = AreDigits digits × (length digits ≤ 30)
IsLexeme (Pointed digits behind) = AreDigits digits × AreDigits behind × (length digits + length behind ≤ 30)
IsLexeme (Mark sign) = Unit {0}

-- it can't be longer, where these bytes follow it; a point or a letter behind a whole number is a part of it, or a fault
abbrev pub EndsBefore : Lexeme → List ℕ → Type 0
EndsBefore (Blank byte) rest = Unit {0}
EndsBefore (LineComment body) rest = begins (λ byte. not (is_line_feed byte)) rest ≡ false
EndsBefore (BlockComment body) rest = Unit {0}
EndsBefore (Word bytes) rest = begins is_word_byte rest ≡ false
EndsBefore (Whole digits) rest = begins (λ byte. is_word_byte byte || byte == 46) rest ≡ false
EndsBefore (Pointed digits behind) rest = begins is_word_byte rest ≡ false
EndsBefore (Mark sign) rest = begins (goes_on sign) rest ≡ false

-- the lexemes stand in front of the bytes, and `rest` behind them
abbrev pub StartsWithLexemes : List Lexeme → List ℕ → List ℕ → Type 0
StartsWithLexemes [] bytes rest = bytes ≡ rest
StartsWithLexemes (lexeme ∷ lexemes) bytes rest =
    (more : List ℕ) × (bytes ≡ spelled lexeme ++ more) × IsLexeme lexeme × EndsBefore lexeme more × StartsWithLexemes lexemes more rest

-- the lexemes of the bytes
abbrev pub AreLexemes : List Lexeme → List ℕ → Type 0
AreLexemes lexemes bytes = StartsWithLexemes lexemes bytes []
