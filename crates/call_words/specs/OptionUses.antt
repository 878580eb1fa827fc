-- The uses of options in words.
use Rattle.std.specs.Prelude.{◌≡◌, ℕ, Option, None, List, [], ◌∷◌, ◌++◌, find, option_map}
use Rattle.std.specs.Str.{bytes_eq}
use Rattle.pepa_model.specs.Derivation.{Among}

-- a use of an option: its name and its value
pub record OptionUse : Type 0 where
  pub name : List ℕ
  pub value : List ℕ

-- the word begins with `-` (45)
abbrev pub BeginsWithHyphen : List ℕ → Type 0
BeginsWithHyphen [] = ⊥
BeginsWithHyphen (x ∷ xs) = x ≡ 45

-- `--name`
abbrev pub name_word : List ℕ → List ℕ
name_word name = 45 ∷ 45 ∷ name

-- `--name=value`; `=` is 61
abbrev pub joined_word : List ℕ → List ℕ → List ℕ
joined_word name value = 45 ∷ 45 ∷ name ++ 61 ∷ value

-- the words are these uses of options with these names: each use is `--name=value`, or `--name`
-- and then a value that doesn't begin with `-`
pub data AreUses (names : List (List ℕ)) : List (List ℕ) → List OptionUse → Type 0 where
  NoUse : AreUses names [] []
  JoinedUse : (name value : List ℕ) (words : List (List ℕ)) (uses : List OptionUse) → Among name names
      → AreUses names words uses
      → AreUses names (joined_word name value ∷ words) (record { name = name; value = value } ∷ uses)
  ApartUse : (name value : List ℕ) (words : List (List ℕ)) (uses : List OptionUse) → Among name names
      → (BeginsWithHyphen value → ⊥) → AreUses names words uses
      → AreUses names (name_word name ∷ value ∷ words) (record { name = name; value = value } ∷ uses)

-- the value that a name has in the uses, if any
abbrev pub value_in : List OptionUse → List ℕ → Option (List ℕ)
value_in uses name = option_map (λ u. u.value) (find (λ u. bytes_eq u.name name) uses)

-- no use has the name of another one, or of one of those before
abbrev pub AreOnce : List OptionUse → List OptionUse → Type 0
AreOnce before [] = Unit {0}
AreOnce before (u ∷ uses) = (value_in before u.name ≡ None) × AreOnce (before ++ u ∷ []) uses

-- the words give these values to the options with these names, each at most once
pub record GiveValues (names words : List (List ℕ)) (value : List ℕ → Option (List ℕ)) : Type 0 where
  pub uses : List OptionUse
  pub are_uses : AreUses names words uses
  pub are_once : AreOnce [] uses
  pub values : (name : List ℕ) → value name ≡ value_in uses name
