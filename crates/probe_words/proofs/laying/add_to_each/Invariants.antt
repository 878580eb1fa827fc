use Rattle.std.proofs.Common.{◌≡◌, ◌≤◌, ◌<◌, ℕ, length, get_or}
use Rattle.std.specs.Int.{bit_at}
use Rattle.probe_words.specs.Laying.{united_if}
use Rattle.probe_words.proofs.laying.add_to_each.Given as goal

abbrev pub invariant-loop-at : goal.invariant-loop-at
invariant-loop-at l = record {
  same : length l.sets ≡ length l.initial.sets;
  below : (k : ℕ) → k < l.at → get_or l.sets k 0 ≡ united_if (bit_at l.which k) (get_or l.initial.sets k 0) l.more;
  above : (k : ℕ) → l.at ≤ k → get_or l.sets k 0 ≡ get_or l.initial.sets k 0;
}
