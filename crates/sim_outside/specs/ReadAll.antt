-- Reading a source to its end, with a limit on the number of bytes.
use Rattle.std.specs.Prelude.{◌≡◌, ℕ, ◌+◌, ◌<◌, ◌≤◌, Option, None, Some, Result, Ok, Err, List, [], length, drop}
use Rattle.sim_outside.specs.declared.reading.ReadEnd.{ReadEnd}
use Rattle.sim_outside.specs.declared.reading.ReadEnd.TheVariants.{ReadFault, TooLong, Memory}

-- what was left before, what is left after, the limit, and the answer, where the bytes to come are told
abbrev pub ReadsToEnd : Option (List ℕ) → Option (List ℕ) → ℕ → Result (List ℕ) ReadEnd → Type 0
ReadsToEnd None after limit result = Unit {0}
-- all of it was read, and it is no longer than the limit
ReadsToEnd (Some input) after limit (Ok bytes) = (bytes ≡ input) × (length input ≤ limit) × (after ≡ Some [])
-- a front of it was taken, no longer than the limit
ReadsToEnd (Some input) after limit (Err ReadFault) =
    (count : ℕ) × (count ≤ limit) × (count ≤ length input) × (after ≡ Some (drop count input))
-- it is longer than the limit, and one byte more than the limit was taken
ReadsToEnd (Some input) after limit (Err TooLong) =
    (limit < length input) × (after ≡ Some (drop (limit + 1) input))
-- nothing was taken
ReadsToEnd (Some input) after limit (Err Memory) = after ≡ Some input
