-- The test of each word before `clap` reads the words.
use Rattle.std.specs.Prelude.{◌≡◌, ℕ, ◌⊎◌, List, [], ◌∷◌, Bool, true, false, ◌==◌, ◌&&◌, ◌||◌, not}
use Rattle.call_words.specs.OptionUses.{BeginsWithHyphen, name_word, joined_word}
use Rattle.pepa_model.specs.Derivation.{Among}

-- a word that begins with `-` is an option, spelled in full, alone or with `=` and a value
abbrev pub IsOptionOrPlain : List (List ℕ) → List ℕ → Type 0
IsOptionOrPlain names word =
    BeginsWithHyphen word
    → (name : List ℕ) × Among name names
    × ((word ≡ name_word name) ⊎ ((value : List ℕ) × (word ≡ joined_word name value)))

-- each word is such an option, or doesn't begin with `-`
abbrev pub AreOptionsOrPlain : List (List ℕ) → List (List ℕ) → Type 0
AreOptionsOrPlain names [] = Unit {0}
AreOptionsOrPlain names (word ∷ words) = IsOptionOrPlain names word × AreOptionsOrPlain names words

-- the bytes are this name, alone or followed by `=` (61)
abbrev pub spells_name : List ℕ → List ℕ → Bool
spells_name [] [] = true
spells_name [] (y ∷ ys) = y == 61
spells_name (n ∷ ns) [] = false
spells_name (n ∷ ns) (y ∷ ys) = (y == n) && spells_name ns ys

-- the bytes are one of these names, alone or followed by `=`
abbrev pub spells_one : List (List ℕ) → List ℕ → Bool
spells_one [] word = false
spells_one (name ∷ names) word = spells_name name word || spells_one names word

-- the word doesn't begin with `-` (45), or is an option with one of the names
abbrev pub is_option_or_plain : List (List ℕ) → List ℕ → Bool
is_option_or_plain names [] = true
is_option_or_plain names (x ∷ []) = not (x == 45)
is_option_or_plain names (x ∷ y ∷ ys) = not (x == 45) || (y == 45 && spells_one names ys)
