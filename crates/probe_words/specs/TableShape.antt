-- The lengths of a table's lists, and its targets.
use Rattle.std.specs.Prelude.{◌≡◌, ◌≢◌, ℕ, ◌*◌, ◌^◌, ◌<◌, List, length, slice_index}

-- one target for each state, letter and valuation of the guards, and one set of labels for each state; 65,535 in place of a target says
-- that the event is ignored, and each other target is a state
pub record HasTableShape (states letters guards : ℕ) (moves signals : List ℕ) : Type 0 where
  pub moves_count : length moves ≡ states * (letters * 2 ^ guards)
  pub signals_count : length signals ≡ states
  pub targets : (i : ℕ) → i < length moves → slice_index moves i ≢ 65535 → slice_index moves i < states
