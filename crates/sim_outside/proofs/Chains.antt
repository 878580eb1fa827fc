-- One more call at the end of a chain of calls.
use Rattle.std.proofs.Common.{◌≡◌, ℕ, ◌+◌, ◌-◌, ◌<◌, ◌≤◌, Result, Ok, List, [], ◌∷◌, ◌++◌, length, take, drop, subst, sym, ap, ◌∙◌, refl, arith, append_assoc, append-nil, length-append, length-take, length-drop}
use Rattle.std.proofs.Math.Seq.{take-add}
use Rattle.std.proofs.lemmas.List.{drop-drop, drop_all}
use Rattle.sim_outside.specs.declared.source.Failed.{Failed}
use Rattle.sim_outside.specs.Writes.{Offered}
use Rattle.sim_outside.specs.Readings.{Readings, given_bytes}

-- a write after other writes
offered_more : {K : Type 0} (Write : K → List ℕ → Result ℕ Failed → K → Type 0) (writes : List (ℕ × K)) (from : K) (piece : List ℕ) (at : K) (rest : List ℕ) (count : ℕ) (to : K)
    → Offered Write writes from piece at rest → 0 < length rest → Write at rest (Ok count) to
    → Offered Write (writes ++ (count, to) ∷ []) from piece to (drop count rest)
offered_more Write [] from piece at rest count to (same, whole) some wrote =
    subst (λ p. (0 < length p) × Write from p (Ok count) to × ((to ≡ to) × (drop count rest ≡ drop count p))) whole
    (some, subst (λ s. Write s rest (Ok count) to) same wrote, (refl, refl))
offered_more Write ((taken, next) ∷ writes) from piece at rest count to (more, first, others) some wrote =
    (more, first, offered_more Write writes next (drop taken piece) at rest count to others some wrote)

-- writes alone lead from a sink to another, and leave this part of the piece
abbrev pub WroteTo : {K : Type 0} → (K → List ℕ → Result ℕ Failed → K → Type 0) → K → List ℕ → K → List ℕ → Type 0
WroteTo {K} Write from piece at rest = (writes : List (ℕ × K)) × Offered Write writes from piece at rest

pub wrote_more : {K : Type 0} (Write : K → List ℕ → Result ℕ Failed → K → Type 0) (from : K) (piece : List ℕ) (at : K) (taken count : ℕ) (to : K)
    → WroteTo Write from piece at (drop taken piece) → 0 < length (drop taken piece) → Write at (drop taken piece) (Ok count) to
    → WroteTo Write from piece to (drop (taken + count) piece)
wrote_more {K = K} Write from piece at taken count to chain some wrote =
    let writes : List (ℕ × K) = chain.0 ++ (count, to) ∷ [] in
    let more : Offered Write writes from piece to (drop count (drop taken piece)) = offered_more Write chain.0 from piece at (drop taken piece) count to chain.1 some wrote in
    (writes, subst (λ rest. Offered Write writes from piece to rest) (drop-drop count taken piece) more)

-- a read after other reads
readings_more : {S : Type 0} (Read : S → ℕ → Result (List ℕ) Failed → S → Type 0) (reads : List (List ℕ × S)) (from : S) (room : ℕ) (at : S) (rest : ℕ) (bytes : List ℕ) (to : S)
    → Readings Read reads from room at rest → 0 < length bytes → Read at rest (Ok bytes) to
    → Readings Read (reads ++ (bytes, to) ∷ []) from room to (rest - length bytes)
readings_more Read [] from room at rest bytes to (same, whole) some gave =
    subst (λ r. (0 < length bytes) × Read from r (Ok bytes) to × ((to ≡ to) × (rest - length bytes ≡ r - length bytes))) whole
    (some, subst (λ s. Read s rest (Ok bytes) to) same gave, (refl, refl))
readings_more Read ((first, next) ∷ reads) from room at rest bytes to (more, gave_first, others) some gave =
    (more, gave_first, readings_more Read reads next (room - length first) at rest bytes to others some gave)

-- the bytes of reads and of one more
given_more : {S : Type 0} (reads : List (List ℕ × S)) (bytes : List ℕ) (to : S) → given_bytes (reads ++ (bytes, to) ∷ []) ≡ given_bytes reads ++ bytes
given_more [] bytes to = append-nil bytes
given_more ((first, next) ∷ reads) bytes to = rw (given_more reads bytes to) (sym (append_assoc first (given_bytes reads) bytes))

-- reads alone, at most so many, lead from a source to another, give these bytes, and leave this room
pub record ReadTo {S : Type 0} (Read : S → ℕ → Result (List ℕ) Failed → S → Type 0) (from : S) (room : ℕ) (at : S) (rest : ℕ) (given : List ℕ) : Type 0 where
  pub reads : List (List ℕ × S)
  pub chain : Readings Read reads from room at rest
  pub few : length reads + rest ≤ room
  pub gave : given_bytes reads ≡ given

pub read_more : {S : Type 0} (Read : S → ℕ → Result (List ℕ) Failed → S → Type 0) (from : S) (room : ℕ) (at : S) (rest : ℕ) (given bytes : List ℕ) (to : S)
    → ReadTo Read from room at rest given → 0 < length bytes → length bytes ≤ rest → Read at rest (Ok bytes) to
    → ReadTo Read from room to (rest - length bytes) (given ++ bytes)
read_more Read from room at rest given bytes to before some fits gave = record {
  reads = before.reads ++ (bytes, to) ∷ [];
  chain = readings_more Read before.reads from room at rest bytes to before.chain some gave;
  few = let one : length (before.reads ++ (bytes, to) ∷ []) ≡ length before.reads + 1 = length-append before.reads ((bytes, to) ∷ []) in omega (arith, before.few, one, some, fits);
  gave = given_more before.reads bytes to ∙ ap (λ l. l ++ bytes) before.gave;
}

-- nothing is left
pub wrote_whole : {K : Type 0} (Write : K → List ℕ → Result ℕ Failed → K → Type 0) (from : K) (piece : List ℕ) (to : K) (taken : ℕ)
    → WroteTo Write from piece to (drop taken piece) → length piece ≤ taken → WroteTo Write from piece to []
wrote_whole Write from piece to taken chain all =
    (chain.0, subst (λ rest. Offered Write chain.0 from piece to rest) (drop_all taken piece all) chain.1)

same_read : {S : Type 0} (Read : S → ℕ → Result (List ℕ) Failed → S → Type 0) (from : S) (room : ℕ) (at : S) (rest rest2 : ℕ) (given given2 : List ℕ)
    → rest ≡ rest2 → given ≡ given2 → ReadTo Read from room at rest given → ReadTo Read from room at rest2 given2
same_read Read from room at rest rest2 given given2 e f read =
    subst (λ g. ReadTo Read from room at rest2 g) f (subst (λ r. ReadTo Read from room at r given) e read)

-- a read into a buffer behind what was read before
pub read_behind_more : {S : Type 0} (Read : S → ℕ → Result (List ℕ) Failed → S → Type 0) (from : S) (room : ℕ) (at : S) (filled count : ℕ) (old new : List ℕ) (to : S)
    → ReadTo Read from room at (room - filled) (take filled old) → take filled new ≡ take filled old → length new ≡ room → 0 < count
    → filled + count ≤ length new → Read at (room - filled) (Ok (take count (drop filled new))) to
    → ReadTo Read from room to (room - (filled + count)) (take (filled + count) new)
read_behind_more Read from room at filled count old new to before front kept some fits gave =
    let len : length (take count (drop filled new)) ≡ count = simp (length-take, length-drop) (omega (arith, fits)) in
    let more = read_more Read from room at (room - filled) (take filled old) (take count (drop filled new)) to before (omega (arith, len, some)) (omega (arith, len, kept, fits)) gave in
    let joined : take filled old ++ take count (drop filled new) ≡ take (filled + count) new = ap (λ l. l ++ take count (drop filled new)) (sym front) ∙ sym (take-add filled count new) in
    same_read Read from room to _ (room - (filled + count)) _ (take (filled + count) new) (omega (arith, len, kept, fits)) joined more
