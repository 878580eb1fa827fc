-- Which calls of its devices a call of the program makes.
use Rattle.std.specs.Prelude.{◌≡◌, ℕ, ◌^◌, List, Result, Err, MatchResult, ◌⊎◌}
use Rattle.sim_outside.specs.declared.source.Failed.{Failed}
use Rattle.sim_outside.specs.declared.reading.ReadEnd.{ReadEnd}
use Rattle.sim_outside.specs.declared.reading.ReadEnd.TheVariants.{ReadFault}
use Rattle.sim_outside.specs.Readings.{ReadsOnly}
use Rattle.sim_outside.specs.Writes.{OffersAll}
use Rattle.sim_command.specs.Inputs.{NeedSource}

-- the source isn't called; or the words give a command that works on its bytes, and it is read once, up to 2^20 bytes and to the
-- first read that fails. Status 4 is such a failure
abbrev pub IsReadOnce : {S : Type 0} → (S → ℕ → Result (List ℕ) Failed → S → Type 0) → List (List ℕ) → S → ℕ → S → Type 0
IsReadOnce Read words from status to =
    ((to ≡ from) × ¬ (status ≡ 4))
    ⊎ (NeedSource words × ((end : Result (List ℕ) ReadEnd) × ReadsOnly Read from (2 ^ 20) end to × (status ≡ 4 → end ≡ Err ReadFault)))

-- one piece is written to the output, to the first write that fails, or the output isn't called, as for an empty piece; status 5 is
-- such a failure
abbrev pub IsWrittenOnce : {K : Type 0} → (K → List ℕ → Result ℕ Failed → K → Type 0) → K → ℕ → K → Type 0
IsWrittenOnce Write from status to =
    (piece : List ℕ) × (end : Result (Unit {0}) Failed) × OffersAll Write from piece end to × (status ≡ 5 → end ≡ Err (record {}))

-- a piece is written so, with this status where that succeeds, and else status 5
abbrev pub IsDeliveredBy : {K : Type 0} → (K → List ℕ → Result ℕ Failed → K → Type 0) → K → List ℕ → ℕ → ℕ → K → Type 0
IsDeliveredBy Write from piece wanted status to =
    (end : Result (Unit {0}) Failed) × OffersAll Write from piece end to × MatchResult end (λ _. status ≡ wanted) (λ _. status ≡ 5)
