-- Where an entry of a cooperation comes from, read from the buffers.
use Rattle.std.specs.Prelude.{ℕ, ◌+◌, ◌-◌, ◌^◌, if◌then◌else◌, nat_lt, min, Option, None, Some, List, slice_get}
use Rattle.pepa_steps.specs.declared.entries.Origin.{Origin}
use Rattle.pepa_steps.specs.declared.entries.Origin.TheVariants as origin
use Rattle.pepa_steps.specs.declared.buffers.Mark.{Mark}
use Rattle.pepa_steps.specs.declared.buffers.Mark.TheVariants as mark
use Rattle.pepa_steps.specs.declared.sources.Source.{Source}
use Rattle.pepa_steps.specs.declared.sources.Source.TheVariants.{Lost, Left, Right, Both}

abbrev pub origin_in : List Origin → ℕ → ℕ → Option Origin
origin_in origins start index = slice_get origins (min (start + index) (2 ^ 64 - 1))

abbrev pub beside_source_in : ℕ → ℕ → ℕ → ℕ → Source
beside_source_in l r count index = if nat_lt index count then Left l index else Right r (index - count)

abbrev pub joined_source_in : ℕ → ℕ → Option Origin → Source
joined_source_in l r (Some (origin.Left i)) = Left l i
joined_source_in l r (Some (origin.Right j)) = Right r j
joined_source_in l r (Some (origin.Both i j)) = Both l i r j
joined_source_in l r None = Lost

abbrev pub source_by : List Origin → ℕ → Option Mark → Source
source_by origins index (Some (mark.Beside l r n)) = beside_source_in l r n index
source_by origins index (Some (mark.Joined l r n)) = joined_source_in l r (origin_in origins n index)
source_by origins index None = Lost

abbrev pub source_in : List Mark → List Origin → ℕ → ℕ → Source
source_in marks origins at index = source_by origins index (slice_get marks at)
