-- Numbers from lists, one entry for each token.
use Rattle.std.proofs.Common.{zero, suc}
use Rattle.std.specs.Prelude.{ℕ, List, Option, Some, None, slice_get}

-- an entry is 0 where there is no number, else one more than the number
abbrev pub entry_number : Option ℕ → Option ℕ
entry_number None = None
entry_number (Some zero) = None
entry_number (Some (suc n)) = Some n

-- the number that the list gives for an index
abbrev pub listed_number : List ℕ → ℕ → Option ℕ
listed_number list at = entry_number (slice_get list at)
