-- Which transitions of both sides of a cooperation go together.
use Rattle.std.specs.Prelude.{◌≡◌, ◌≢◌, ◌==◌, ℕ, ◌+◌, true, if◌then◌else◌, Option, None, Some, List, [], ◌∷◌, ◌++◌, filter, length, sum_by}
use Rattle.std.specs.Ordering.{nat_cmp}
use Rattle.std.specs.BTreeMap.{is_at}
use Rattle.std.specs.Map.{lookup}
use Rattle.pepa_steps.specs.Moves.{Move, has}

-- the places of the transitions of this action, from this one on
abbrev pub places_from : {X : Type 0} → ℕ → ℕ → List (Move X) → List ℕ
places_from at action [] = []
places_from at action (v ∷ vs) = if action == v.action then at ∷ places_from (at + 1) action vs else places_from (at + 1) action vs

-- the indices that the entries have for an action; none if they don't have it
abbrev pub listed_indices : Option (List ℕ) → List ℕ
listed_indices None = []
listed_indices (Some indices) = indices

abbrev pub indices_in : List (ℕ × List ℕ) → ℕ → List ℕ
indices_in entries action = listed_indices (lookup (is_at (nat_cmp action)) entries)

-- the entries have the places of the transitions of each type in the set
abbrev pub HasPartners : {X : Type 0} → List ℕ → List (Move X) → List (ℕ × List ℕ) → Type 0
HasPartners types vs entries = (action : ℕ) → has types action ≡ true → indices_in entries action ≡ places_from 0 action vs

-- the action gets one more index, after its others
pub record AddsPartner (old new : List (ℕ × List ℕ)) (action index : ℕ) : Type 0 where
  pub here : indices_in new action ≡ indices_in old action ++ index ∷ []
  pub elsewhere : (other : ℕ) → other ≢ action → indices_in new other ≡ indices_in old other

-- how many pairs of transitions by one type of the set there are
abbrev pub pair_count : {X Y : Type 0} → List ℕ → List (Move X) → List (Move Y) → ℕ
pair_count types us vs = sum_by (λ u. length (filter (λ v. u.action == v.action) vs)) (filter (λ u. has types u.action) us)
