-- Calls of the output.
use Rattle.std.proofs.Common.{◌≡◌, ℕ, List, [], Result, Ok, Err, refl, sym, ◌∙◌}
use Rattle.sim_outside.specs.declared.source.Failed.{Failed}
use Rattle.sim_command.specs.DeviceCalls.{IsWrittenOnce, IsDeliveredBy}

-- no write at all writes an empty piece
pub not_written : {K : Type 0} (Write : K → List ℕ → Result ℕ Failed → K → Type 0) (out : K) (status : ℕ) → ¬ (status ≡ 5) → IsWrittenOnce Write out status out
not_written Write out status other = ([], Ok tt, ([], (refl, refl)), λ five. absurd (other five))

-- a piece that is delivered is written once
pub delivered : {K : Type 0} (Write : K → List ℕ → Result ℕ Failed → K → Type 0) (from : K) (piece : List ℕ) (wanted status : ℕ) (to : K)
    → ¬ (wanted ≡ 5) → IsDeliveredBy Write from piece wanted status to → IsWrittenOnce Write from status to
delivered Write from piece wanted status to other (Ok x, offered, same) = (piece, Ok x, offered, λ five. absurd (other (sym same ∙ five)))
delivered Write from piece wanted status to other (Err e, offered, same) = (piece, Err e, offered, λ five. refl)
