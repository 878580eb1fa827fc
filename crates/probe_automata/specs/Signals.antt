-- The labels of the positions of a set.
use Rattle.std.specs.Prelude.{◌≡◌, ℕ, ◌<◌, ◌↔◌, List, length, Some, slice_get, slice_index}
use Rattle.probe_words.specs.declared.position_list.Position.{Position}
use Rattle.probe_words.specs.Sets.{HasMember}

-- these are the labels of the set's positions
abbrev pub AreLabelsOf : List Position → ℕ → ℕ → Type 0
AreLabelsOf each set labels = (l : ℕ) → HasMember labels l ↔ ((y : ℕ) × (x : Position) × HasMember set y × (slice_get each y ≡ Some x) × HasMember x.labels l)

-- one set of labels for each of the sets
pub record AreSignals (each : List Position) (sets signals : List ℕ) : Type 0 where
  pub signals_length : length signals ≡ length sets
  pub signals_of : (q : ℕ) → q < length sets → AreLabelsOf each (slice_index sets q) (slice_index signals q)
