-- What a part of an expression adds to the positions laid so far.
use Rattle.std.specs.Prelude.{◌≡◌, ℕ, ◌+◌, ◌≤◌, ◌<◌, ◌↔◌, ◌||◌, ◌&&◌, Bool, false, List, [], ◌∷◌, ◌++◌, length, map, slice_get, slice_index, Some, Result, Ok, Err, bit_or}
use Rattle.std.proofs.Common.{zero, suc}
use Rattle.std.specs.Int.{bit_at}
use Rattle.probe_words.specs.declared.work.Placed.{Placed}
use Rattle.probe_words.specs.declared.position_list.Position.{Position}
use Rattle.probe_words.specs.declared.work.Work.{Work}
use Rattle.probe_words.specs.declared.work.Part.{Part}
use Rattle.probe_words.specs.declared.position_list.PositionsFault.{PositionsFault}
use Rattle.probe_words.specs.declared.position_list.PositionsFault.TheVariants.{TooManyPositions, Memory}
use Rattle.probe_words.specs.MarkedLetters.{guard_added}
use Rattle.probe_words.specs.Guards.{Condition}
use Rattle.probe_words.specs.Core.{Core, size_of, firsts, empty_of, IsLast, HasLabel, IsLetterAt, Follows}
use Rattle.probe_words.specs.Twins.{mark_of}
use Rattle.probe_words.specs.Sets.{HasMember}
use Rattle.probe_words.specs.Sizes.{is_zero_count}
use Rattle.probe_words.specs.Words.{Pattern, Only, Then, Or, Label, Star, Plus, Maybe, Times, Between, Reset, Guarded}

-- the three lists have one length
pub record IsEven (work : Work) : Type 0 where
  pub labels_too : length work.labels ≡ length work.places
  pub follow_too : length work.follow ≡ length work.places

-- new is old and then the positions of r, which are numbered from `at` on
pub record LaysPart (r : Core) (at : ℕ) (old new : Work) (part : Part) : Type 0 where
  pub begin : length old.places ≡ at
  pub count : length new.places ≡ at + size_of r
  pub labels_count : length new.labels ≡ at + size_of r
  pub follow_count : length new.follow ≡ at + size_of r
  pub kept_places : (i : ℕ) → i < at → slice_get new.places i ≡ slice_get old.places i
  pub kept_labels : (i : ℕ) → i < at → slice_index new.labels i ≡ slice_index old.labels i
  pub kept_follow : (i : ℕ) → i < at → slice_index new.follow i ≡ slice_index old.follow i
  pub first_is : part.first ≡ firsts r at
  pub empty_is : part.empty ≡ empty_of r
  pub last_is : (i : ℕ) → HasMember part.last i ↔ IsLast r at i
  pub marks_are : (i : ℕ) (p : Placed) → at ≤ i → slice_get new.places i ≡ Some p → IsLetterAt r at i (mark_of p)
  pub labels_are : (i l : ℕ) → at ≤ i → HasMember (slice_index new.labels i) l ↔ HasLabel r at l i
  pub follow_are : (i j : ℕ) → at ≤ i → HasMember (slice_index new.follow i) j ↔ Follows r at i j

abbrev pub AnswersLaying : Core → Work → Work → Result Part PositionsFault → Type 0
AnswersLaying r old new (Ok part) = LaysPart r (length old.places) old new part × (length new.places ≤ 63)
AnswersLaying r old new (Err TooManyPositions) = 63 < length old.places + size_of r
AnswersLaying r old new (Err Memory) = Unit {0}

-- the set, with more in it where the test is 1
abbrev pub united_if : ℕ → ℕ → ℕ → ℕ
united_if zero set more = set
united_if (suc n) set more = bit_or set more

-- to each set whose place is in `which`, more is added
pub record JoinsEach (old new : List ℕ) (which more : ℕ) : Type 0 where
  pub same_length : length new ≡ length old
  pub each : (i : ℕ) → i < length old → slice_index new i ≡ united_if (bit_at which i) (slice_index old i) more

abbrev pub AnswersLayingFrom : Core → ℕ → Work → Work → Result Part PositionsFault → Type 0
AnswersLayingFrom r at old new (Ok part) = LaysPart r at old new part × (length new.places ≤ 63)
AnswersLayingFrom r at old new (Err TooManyPositions) = 63 < at + size_of r
AnswersLayingFrom r at old new (Err Memory) = Unit {0}

abbrev pub JoinsParts : Core → ℕ → Work → Work → Result Part PositionsFault → Type 0
JoinsParts r at old new (Ok part) = LaysPart r at old new part
JoinsParts r at old new (Err TooManyPositions) = ⊥
JoinsParts r at old new (Err Memory) = Unit {0}

-- one position is at the end; else there are 63
abbrev pub PushesPosition : Placed → ℕ → Work → Work → Result (Unit {0}) PositionsFault → Type 0
PushesPosition place follow old new (Ok _) = (new ≡ record { places = old.places ++ place ∷ []; labels = old.labels ++ 0 ∷ []; follow = old.follow ++ follow ∷ [] }) × (length old.places < 63)
PushesPosition place follow old new (Err TooManyPositions) = length old.places ≡ 63
PushesPosition place follow old new (Err Memory) = Unit {0}

abbrev pub PushesGuardedCopy : ℕ → Condition → Work → Work → Result (Unit {0}) PositionsFault → Type 0
PushesGuardedCopy at g old new (Ok _) = (p q : Placed) × (slice_get old.places at ≡ Some q) × (mark_of p ≡ guard_added g (mark_of q)) × (new ≡ record { places = old.places ++ p ∷ []; labels = old.labels ++ slice_index old.labels at ∷ []; follow = old.follow ++ slice_index old.follow at ∷ [] }) × (length old.places < 63)
PushesGuardedCopy at g old new (Err TooManyPositions) = length old.places ≡ 63
PushesGuardedCopy at g old new (Err Memory) = Unit {0}

-- an expression without positions
abbrev pub has_no_position : Pattern → Bool
has_no_position (Only a) = false
has_no_position (Then r s) = has_no_position r && has_no_position s
has_no_position (Or r s) = has_no_position r && has_no_position s
has_no_position (Label r l) = has_no_position r
has_no_position (Guarded g r) = has_no_position r
has_no_position (Star r) = has_no_position r
has_no_position (Plus r) = has_no_position r
has_no_position (Maybe r) = has_no_position r
has_no_position (Times r n) = is_zero_count n || has_no_position r
has_no_position (Between r m n) = (is_zero_count m && is_zero_count n) || has_no_position r
has_no_position (Reset r a) = false

-- how deep an expression is
abbrev pub pattern_height : Pattern → ℕ
pattern_height (Only a) = 1
pattern_height (Then r s) = pattern_height r + pattern_height s + 1
pattern_height (Or r s) = pattern_height r + pattern_height s + 1
pattern_height (Label r l) = pattern_height r + 1
pattern_height (Guarded g r) = pattern_height r + 1
pattern_height (Star r) = pattern_height r + 1
pattern_height (Plus r) = pattern_height r + 1
pattern_height (Maybe r) = pattern_height r + 1
pattern_height (Times r n) = pattern_height r + 1
pattern_height (Between r m n) = pattern_height r + 1
pattern_height (Reset r a) = pattern_height r + 1

abbrev pub placed_of : Position → Placed
placed_of p = record { letter = p.letter; guards = p.guards }

-- these positions have the letters and guards, and the labels, that were laid
pub record AreLabelled (places : List Placed) (labels : List ℕ) (each : List Position) : Type 0 where
  pub places_are : map placed_of each ≡ places
  pub labels_are : map (λ p. p.labels) each ≡ labels
