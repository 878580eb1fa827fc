-- What a call does to the bytes that a source has left, where it tells them. Of what was not told before, nothing is
-- said after.
use Rattle.std.specs.Prelude.{◌≡◌, ℕ, ◌<◌, Option, None, Some, Result, Ok, Err, List, [], ◌++◌, length, take}

-- what is left begins with these bytes, and loses them
abbrev pub Takes : Option (List ℕ) → Option (List ℕ) → List ℕ → Type 0
Takes None after taken = Unit {0}
Takes (Some input) None taken = ⊥
Takes (Some input) (Some rest) taken = input ≡ taken ++ rest

-- no byte is left
abbrev pub IsAtEnd : Option (List ℕ) → Type 0
IsAtEnd None = Unit {0}
IsAtEnd (Some rest) = rest ≡ []

-- a read takes the bytes that it puts at the front of the buffer, and none into a buffer that is not empty only at the
-- end; one that fails takes none
abbrev pub Reads : {E : Type 0} → Option (List ℕ) → Option (List ℕ) → Result ℕ E → List ℕ → Type 0
Reads before after (Ok count) buffer =
    Takes before after (take count buffer) × (count ≡ 0 → 0 < length buffer → IsAtEnd after)
Reads before after (Err e) buffer = Takes before after []
