-- Sets numbered as they are first reached.
use Rattle.std.proofs.Common.{zero, suc}
use Rattle.std.specs.Prelude.{◌≡◌, ◌==◌, ℕ, ◌≤◌, ◌<◌, ◌||◌, Bool, true, false, if◌then◌else◌, List, [], ◌∷◌, ◌++◌, map, length, flat_map, bit_and, bit_or, slice_index, Result, Ok, Err}
use Rattle.std.specs.Int.{bit_at}
use Rattle.probe_words.specs.declared.position_list.Positions.{Positions}
use Rattle.probe_automata.specs.declared.exploring.Explored.{Explored}
use Rattle.probe_automata.specs.declared.build_fault.BuildFault.{BuildFault}
use Rattle.probe_automata.specs.declared.build_fault.BuildFault.TheVariants.{TooManyGuards, TooManyStates, Memory}
use Rattle.probe_words.specs.ProbeTables.{state_number_of}
use Rattle.probe_words.specs.Laying.{united_if}

abbrev pub is_in : ℕ → List ℕ → Bool
is_in x [] = false
is_in x (y ∷ ys) = (x == y) || is_in x ys

-- the sets, with one more where it is new
abbrev pub with_new : List ℕ → ℕ → List ℕ
with_new sets x = if is_in x sets then sets else sets ++ x ∷ []

-- the sets, with those of these that are new, in the order of their first places
abbrev pub numbering : List ℕ → List ℕ → List ℕ
numbering sets [] = sets
numbering sets (x ∷ xs) = numbering (with_new sets x) xs

abbrev pub move_at : ℕ → ℕ → ℕ
move_at zero place = 65535
move_at (suc x) place = place

-- the positions that follow a member of the set; `acc` are those so far, i is the index of the first of `follow`
abbrev pub unite : ℕ → ℕ → ℕ → List ℕ → ℕ
unite set i acc [] = acc
unite set i acc (x ∷ xs) = unite set (suc i) (united_if (bit_at set i) acc x) xs

-- more than nothing
abbrev pub more_if : ℕ → ℕ → ℕ → ℕ
more_if zero set more = set
more_if (suc n) set more = bit_or set more

-- the positions that can come next: the empty set is the start's
abbrev pub candidates_of : Positions → ℕ → ℕ
candidates_of g zero = g.first
candidates_of g (suc set) = more_if (bit_and (suc set) g.last) (unite (suc set) 0 0 g.follow) g.first

-- the sets to which a set leads, for each filter (a letter and a valuation) in order
abbrev pub row_from : Positions → List ℕ → ℕ → List ℕ
row_from g filters set = map (λ f. bit_and (candidates_of g set) f) filters

abbrev pub rows_from : Positions → List ℕ → List ℕ → List ℕ
rows_from g filters sets = flat_map (λ set. row_from g filters set) sets

-- a set that the start leads to
pub data Reachable (g : Positions) (filters : List ℕ) : ℕ → Type 0 where
  from_start : Reachable g filters 0
  next : {set : ℕ} → Reachable g filters set → (i : ℕ) → i < length filters → Reachable g filters (bit_and (candidates_of g set) (slice_index filters i))

-- the start and the sets reached, in the order of their first places, and the number of each lead
pub record IsExplored (g : Positions) (filters sets moves : List ℕ) : Type 0 where
  pub few : length sets ≤ 1024
  pub numbered : sets ≡ numbering (0 ∷ []) (rows_from g filters sets)
  pub moves_are : moves ≡ map (λ x. state_number_of sets x) (rows_from g filters sets)
  pub reached : (x : ℕ) → is_in x sets ≡ true → Reachable g filters x

abbrev pub Numbers : List ℕ → List ℕ → ℕ → Result ℕ BuildFault → Type 0
Numbers old new set (Ok n) = (new ≡ with_new old set) × (length new ≤ 1024) × (n ≡ state_number_of new set)
Numbers old new set (Err TooManyStates) = (length old ≡ 1024) × (is_in set old ≡ false)
Numbers old new set (Err TooManyGuards) = ⊥
Numbers old new set (Err Memory) = Unit {0}

-- more than 1,024 sets are reached, the start among them
pub record IsTooMuch (g : Positions) (filters : List ℕ) : Type 0 where
  pub sets : List ℕ
  pub one_more : ℕ
  pub many : length sets ≡ 1024
  pub fresh : is_in one_more sets ≡ false
  pub done : List ℕ
  pub numbered : sets ≡ numbering (0 ∷ []) done
  pub reached : (x : ℕ) → is_in x (one_more ∷ sets) ≡ true → Reachable g filters x

abbrev pub Explores : Positions → List ℕ → Result Explored BuildFault → Type 0
Explores g filters (Ok e) = IsExplored g filters e.sets.keys e.moves
Explores g filters (Err TooManyStates) = IsTooMuch g filters
Explores g filters (Err TooManyGuards) = ⊥
Explores g filters (Err Memory) = Unit {0}
