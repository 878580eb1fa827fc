-- The positions of an expression, as the program answers them.
use Rattle.std.specs.Prelude.{◌≡◌, ℕ, ◌≤◌, ◌<◌, ◌↔◌, List, [], ◌∷◌, true, length, map, slice_get, slice_index, Some, Result, Ok, Err}
use Rattle.probe_words.specs.declared.position_list.Position.{Position}
use Rattle.probe_words.specs.declared.position_list.Positions.{Positions}
use Rattle.probe_words.specs.declared.position_list.PositionsFault.{PositionsFault}
use Rattle.probe_words.specs.declared.position_list.PositionsFault.TheVariants.{TooManyPositions, Memory}
use Rattle.probe_words.specs.MarkedLetters.{IsAmong, GuardedLetter}
use Rattle.probe_words.specs.WordKinds.{WordKind, WholeWord, WordPrefix, LabelledPrefix}
use Rattle.probe_words.specs.Words.{Pattern}
use Rattle.probe_words.specs.Sizes.{size_of_pattern}
use Rattle.probe_words.specs.Core.{Core, size_of, firsts, empty_of, IsLast, HasLabel, IsLetterAt, Follows}
use Rattle.probe_words.specs.CoreForm.{core_of}
use Rattle.probe_words.specs.Paths.{GoesOn}
use Rattle.probe_words.specs.Twins.{condition_of}
use Rattle.probe_words.specs.Sets.{HasMember}

-- a position's letter with its guards
abbrev pub position_letter : Position → GuardedLetter
position_letter x = record { letter = x.letter; guards = map condition_of x.guards }

-- these are the positions of the expression, numbered from 0
pub record ArePositions (r : Core) (p : Positions) : Type 0 where
  pub count : length p.each ≡ size_of r
  pub follow_count : length p.follow ≡ size_of r
  pub first_is : (i : ℕ) → HasMember p.first i ↔ IsAmong i (firsts r 0)
  pub empty_is : p.empty ≡ empty_of r
  pub last_is : (i : ℕ) → HasMember p.last i ↔ IsLast r 0 i
  pub marks_are : (i : ℕ) (x : Position) → slice_get p.each i ≡ Some x → IsLetterAt r 0 i (position_letter x)
  pub labels_are : (i l : ℕ) (x : Position) → slice_get p.each i ≡ Some x → HasMember x.labels l ↔ HasLabel r 0 l i
  pub follow_are : (i j : ℕ) → HasMember (slice_index p.follow i) j ↔ Follows r 0 i j

-- there are at most 63 positions, as many sets of those that follow, and every set holds numbers below that many
pub record ArePositionSets (p : Positions) : Type 0 where
  pub few_positions : length p.each ≤ 63
  pub follow_each : length p.follow ≡ length p.each
  pub first_inside : (i : ℕ) → HasMember p.first i → i < length p.each
  pub last_inside : (i : ℕ) → HasMember p.last i → i < length p.each
  pub follow_inside : (x i : ℕ) → HasMember (slice_index p.follow x) i → i < length p.each

-- the positions, of which there are at most 63; or there are more than 63
abbrev pub IsPositionsAnswer : Pattern → Result Positions PositionsFault → Type 0
IsPositionsAnswer r (Ok p) = ArePositions (core_of r) p × (size_of_pattern r ≤ 63)
IsPositionsAnswer r (Err TooManyPositions) = 63 < size_of_pattern r
IsPositionsAnswer r (Err Memory) = Unit {0}

-- ---- paths through the positions that the program answers

-- position i has this letter with these guards
abbrev pub HasLetterAt : Positions → ℕ → GuardedLetter → Type 0
HasLetterAt p i m = (x : Position) × (slice_get p.each i ≡ Some x) × (position_letter x ≡ m)

-- a path that spells a list of this kind ends here
abbrev pub EndsPathIn : Positions → WordKind → ℕ → Type 0
EndsPathIn p WholeWord i = HasMember p.last i
EndsPathIn p WordPrefix i = Unit {0}
EndsPathIn p (LabelledPrefix l) i = (x : Position) × (slice_get p.each i ≡ Some x) × HasMember x.labels l

-- the empty list is of this kind
abbrev pub BeginsPathIn : Positions → WordKind → Type 0
BeginsPathIn p WholeWord = p.empty ≡ true
BeginsPathIn p WordPrefix = Unit {0}
BeginsPathIn p (LabelledPrefix l) = ⊥

-- a path from `first` along `follow` spells these letters
abbrev pub SpellsIn : Positions → WordKind → List GuardedLetter → Type 0
SpellsIn p kind [] = BeginsPathIn p kind
SpellsIn p kind (m ∷ v) = (y : ℕ) × HasMember p.first y × HasLetterAt p y m
    × GoesOn (λ i j. HasMember (slice_index p.follow i) j) (HasLetterAt p) (EndsPathIn p kind) y v
