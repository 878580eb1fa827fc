-- Reads of a source one after another, and no other call of it. What one read does to a source is a relation: the source before
-- it, the room that it is given, in bytes, the bytes that it gives or that it failed, and the source after it.
use Rattle.std.specs.Prelude.{◌≡◌, ℕ, ◌+◌, ◌-◌, ◌<◌, ◌≤◌, Result, Ok, Err, List, [], ◌∷◌, ◌++◌, length, take}
use Rattle.sim_outside.specs.declared.source.Failed.{Failed}
use Rattle.sim_outside.specs.declared.reading.ReadEnd.{ReadEnd}
use Rattle.sim_outside.specs.declared.reading.ReadEnd.TheVariants.{ReadFault, TooLong, Memory}

-- the reads that succeed and give at least one byte, each with these bytes and the source after it: each is given all of the room
-- that is left; they lead from one source to another, and leave this room
abbrev pub Readings : {S : Type 0} → (S → ℕ → Result (List ℕ) Failed → S → Type 0) → List (List ℕ × S) → S → ℕ → S → ℕ → Type 0
Readings Read [] from room to rest = (to ≡ from) × (rest ≡ room)
Readings Read ((bytes, next) ∷ reads) from room to rest =
    (0 < length bytes) × Read from room (Ok bytes) next × Readings Read reads next (room - length bytes) to rest

-- the bytes that these reads gave, in order
abbrev pub given_bytes : {S : Type 0} → List (List ℕ × S) → List ℕ
given_bytes [] = []
given_bytes ((bytes, next) ∷ reads) = bytes ++ given_bytes reads

-- a source is read by such reads alone: to its end, which a read shows that gives no byte; until the first read that fails; until
-- one byte more than the limit has come; or not at all, for want of memory. No read comes after these
abbrev pub ReadsOnly : {S : Type 0} → (S → ℕ → Result (List ℕ) Failed → S → Type 0) → S → ℕ → Result (List ℕ) ReadEnd → S → Type 0
ReadsOnly {S} Read from limit (Ok input) to =
    (reads : List (List ℕ × S)) × (at : S) × (rest : ℕ) × Readings Read reads from (limit + 1) at rest
    × (length reads ≤ limit) × (0 < rest) × Read at rest (Ok []) to × (input ≡ given_bytes reads)
ReadsOnly {S} Read from limit (Err ReadFault) to =
    (reads : List (List ℕ × S)) × (at : S) × (rest : ℕ) × Readings Read reads from (limit + 1) at rest
    × (length reads ≤ limit) × (0 < rest) × Read at rest (Err (record {})) to
ReadsOnly {S} Read from limit (Err TooLong) to =
    (reads : List (List ℕ × S)) × Readings Read reads from (limit + 1) to 0 × (length reads ≤ limit + 1)
ReadsOnly Read from limit (Err Memory) to = to ≡ from

-- the bytes that a read gave, which it put at the front of the buffer, or that it failed
abbrev pub bytes_given : {E : Type 0} → Result ℕ E → List ℕ → Result (List ℕ) E
bytes_given (Ok count) buffer = Ok (take count buffer)
bytes_given (Err e) buffer = Err e
