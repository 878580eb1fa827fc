-- The text of sets of action types, and of the signs with them.
use Rattle.std.specs.Prelude.{ℕ, List, [], ◌∷◌, ◌++◌, flat_map, slice_index_or, codes}
use Rattle.pepa_model.specs.PepaModel.{PepaModel}
use Rattle.pepa_text.specs.ComponentText.{name_of}

-- a comma and the name of an action type
abbrev pub further_text : PepaModel → ℕ → List ℕ
further_text m a = codes "," ++ name_of m.actions a

-- the names of a set's action types in the order of their numbers, with commas between: `a,b`
abbrev pub set_text : PepaModel → List ℕ → List ℕ
set_text m [] = []
set_text m (a ∷ set) = name_of m.actions a ++ flat_map (further_text m) set

-- the set of this number
abbrev pub set_of : PepaModel → ℕ → List ℕ
set_of m number = slice_index_or m.sets number []

-- the sign of a cooperation: `||` for the empty set, and else `<a,b>`
abbrev pub sign_text : PepaModel → List ℕ → List ℕ
sign_text m [] = codes "||"
sign_text m (a ∷ set) = codes "<" ++ set_text m (a ∷ set) ++ codes ">"

-- `/{a,b}`
abbrev pub hiding_text : PepaModel → List ℕ → List ℕ
hiding_text m set = codes "/{" ++ set_text m set ++ codes "}"

-- the sign of a cooperation over the set of this number
abbrev pub sign_text_of : PepaModel → ℕ → List ℕ
sign_text_of m number = sign_text m (set_of m number)

-- it between two spaces
abbrev pub spaced_sign_of : PepaModel → ℕ → List ℕ
spaced_sign_of m number = codes " " ++ sign_text_of m number ++ codes " "

-- the sign of a hiding of the set of this number
abbrev pub hiding_text_of : PepaModel → ℕ → List ℕ
hiding_text_of m number = hiding_text m (set_of m number)
