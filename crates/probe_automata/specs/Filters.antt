-- The positions to which a letter and a valuation may lead, whatever comes before.
use Rattle.std.proofs.Common.{suc}
use Rattle.std.specs.Prelude.{◌≡◌, ◌==◌, ℕ, ◌<◌, ◌↔◌, ◌&&◌, Bool, true, false, if◌then◌else◌, List, [], ◌∷◌, ◌++◌, length, map, Some, slice_get, slice_index}
use Rattle.std.specs.Int.{bit_at}
use Rattle.std.specs.List.{list_all}
use Rattle.probe_words.specs.declared.letter.Letter.{Letter}
use Rattle.probe_words.specs.declared.guard.Guard.{Guard}
use Rattle.probe_words.specs.declared.position_list.Position.{Position}
use Rattle.probe_words.specs.Guards.{Condition, same_condition}
use Rattle.probe_words.specs.Twins.{condition_of}
use Rattle.probe_words.specs.ProbeTables.{same_letter}
use Rattle.probe_words.specs.Sets.{HasMember}

-- the valuation says that the guard holds; j is the number of the first of the guards
abbrev pub is_opened : List Condition → ℕ → ℕ → Condition → Bool
is_opened [] j v g = false
is_opened (x ∷ xs) j v g = if same_condition x g && (bit_at v j == 1) then true else is_opened xs (suc j) v g

-- the position has the letter, and its guards hold
abbrev pub passes : List Guard → ℕ → Letter → Position → Bool
passes guards v a p = same_letter p.letter a && list_all (λ g. is_opened (map condition_of guards) 0 v (condition_of g)) p.guards

-- the set has the positions that pass
abbrev pub IsFilterOf : List Position → List Guard → ℕ → Letter → ℕ → Type 0
IsFilterOf each guards v a set = (i : ℕ) → HasMember set i ↔ ((x : Position) × (slice_get each i ≡ Some x) × (passes guards v a x ≡ true))

-- one set for each valuation
pub record IsFilterRow (each : List Position) (guards : List Guard) (a : Letter) (width : ℕ) (row : List ℕ) : Type 0 where
  pub row_length : length row ≡ width
  pub row_sets : (v : ℕ) → v < width → IsFilterOf each guards v a (slice_index row v)

-- one row for each letter
abbrev pub AreFilterRows : List Position → List Guard → ℕ → List Letter → List ℕ → Type 0
AreFilterRows each guards width [] filters = filters ≡ []
AreFilterRows each guards width (a ∷ letters) filters = (row rest : List ℕ) × IsFilterRow each guards a width row × AreFilterRows each guards width letters rest × (filters ≡ row ++ rest)
