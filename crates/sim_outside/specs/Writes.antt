-- Writes of a sink one after another, and no other call of it. What one write does to a sink is a relation: the sink before it,
-- the bytes that it is offered, its answer, and the sink after it.
use Rattle.std.specs.Prelude.{◌≡◌, ℕ, ◌<◌, Result, Ok, Err, List, [], ◌∷◌, length, drop}
use Rattle.sim_outside.specs.declared.source.Failed.{Failed}

-- the writes that succeed, each with the number of bytes that it took and the sink after it: each is offered all of the piece
-- that isn't taken yet, at least one byte; they lead from one sink to another, and leave these bytes of the piece
abbrev pub Offered : {K : Type 0} → (K → List ℕ → Result ℕ Failed → K → Type 0) → List (ℕ × K) → K → List ℕ → K → List ℕ → Type 0
Offered Write [] from piece to rest = (to ≡ from) × (rest ≡ piece)
Offered Write ((count, next) ∷ writes) from piece to rest =
    (0 < length piece) × Write from piece (Ok count) next × Offered Write writes next (drop count piece) to rest

-- a piece is written by such writes alone, until nothing is left of it, or until the first write that fails
abbrev pub OffersAll : {K X E : Type 0} → (K → List ℕ → Result ℕ Failed → K → Type 0) → K → List ℕ → Result X E → K → Type 0
OffersAll {K} Write from piece (Ok x) to = (writes : List (ℕ × K)) × Offered Write writes from piece to []
OffersAll {K} Write from piece (Err e) to =
    (writes : List (ℕ × K)) × (at : K) × (rest : List ℕ) × Offered Write writes from piece at rest
    × (0 < length rest) × Write at rest (Err (record {})) to
