-- What a call does to the bytes that were written to a sink, where it tells them. Of what was not told before, nothing
-- is said after.
use Rattle.std.specs.Prelude.{◌≡◌, ℕ, ◌<◌, ◌≤◌, Option, None, Some, Result, Ok, Err, List, ◌++◌, length, take}

-- a write takes so many bytes of a piece of that length: at most all, and at least one of a piece that is not empty
abbrev pub IsTaken : ℕ → ℕ → Type 0
IsTaken len count = (count ≤ len) × (0 < len → 0 < count)

-- the bytes written grow by these
abbrev pub GrowsBy : Option (List ℕ) → Option (List ℕ) → List ℕ → Type 0
GrowsBy None after piece = Unit {0}
GrowsBy (Some written) after piece = after ≡ Some (written ++ piece)

-- the bytes written stay as they were
abbrev pub KeepsBytes : Option (List ℕ) → Option (List ℕ) → Type 0
KeepsBytes None after = Unit {0}
KeepsBytes (Some written) after = after ≡ Some written

-- a write adds the bytes that it takes, the first ones of the piece; one that fails adds none
abbrev pub Writes : {E : Type 0} → Option (List ℕ) → Option (List ℕ) → Result ℕ E → List ℕ → Type 0
Writes before after (Ok count) piece = GrowsBy before after (take count piece)
Writes before after (Err e) piece = KeepsBytes before after

-- the whole piece is added; where that fails, a part of its front is, and not all of it
abbrev pub WritesAll : {X E : Type 0} → Option (List ℕ) → Option (List ℕ) → Result X E → List ℕ → Type 0
WritesAll before after (Ok x) piece = GrowsBy before after piece
WritesAll before after (Err e) piece =
    (count : ℕ) × (count < length piece) × GrowsBy before after (take count piece)
