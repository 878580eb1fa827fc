-- Kinds of bytes, by their ASCII codes.
use Rattle.std.specs.Prelude.{ℕ, Bool, false, ◌&&◌, ◌||◌, List, [], ◌∷◌, nat_le, ◌==◌}

-- from one byte up to another
abbrev pub is_from_to : ℕ → ℕ → ℕ → Bool
is_from_to first last byte = nat_le first byte && nat_le byte last

-- `0` to `9`
abbrev pub is_digit : ℕ → Bool
is_digit byte = is_from_to 48 57 byte

-- `A` to `Z`
abbrev pub is_capital : ℕ → Bool
is_capital byte = is_from_to 65 90 byte

-- `A` to `Z` or `a` to `z`
abbrev pub is_letter : ℕ → Bool
is_letter byte = is_capital byte || is_from_to 97 122 byte

-- a letter, a digit or `_`
abbrev pub is_word_byte : ℕ → Bool
is_word_byte byte = is_letter byte || is_digit byte || byte == 95

-- tab, line feed, carriage return or space
abbrev pub is_space : ℕ → Bool
is_space byte = byte == 9 || byte == 10 || byte == 13 || byte == 32

abbrev pub is_line_feed : ℕ → Bool
is_line_feed byte = byte == 10

-- the bytes begin with one of this kind
abbrev pub begins : (ℕ → Bool) → List ℕ → Bool
begins is_kind [] = false
begins is_kind (byte ∷ bytes) = is_kind byte
