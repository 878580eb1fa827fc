-- How the check of a file without a fault up to its structure ends.
use Rattle.std.specs.Prelude.{◌≡◌, ℕ}
use Rattle.pepa_resolver.specs.Named.{first_at}
use Rattle.pepa_checks.specs.declared.cause.CheckCause.{CheckCause}
use Rattle.pepa_checks.specs.declared.cause.CheckCause.TheVariants.{TooMany, MixedChoice}
use Rattle.pepa_checks.specs.declared.counting.Counted.{Counted}
use Rattle.pepa_checks.specs.declared.structured_file.StructuredFile.{StructuredFile}
use Rattle.pepa_checks.specs.Activities.{HasNoMixed, IsFirstMixed, written_leaves}
use Rattle.pepa_checks.specs.FileViews.{flags_in, bodies_in, system_in, outline_in, IsCountedFile, IsPastLimit}

-- what is counted of a file that passes no limit and has no mixed activity
abbrev pub IsUnmixedFile : StructuredFile → Counted → Type 0
IsUnmixedFile file counted = IsCountedFile file counted × HasNoMixed (outline_in file)

-- the refusal of a file that passes a limit, or has a mixed activity
abbrev pub IsLateRefusal : StructuredFile → CheckCause → ℕ → Type 0
IsLateRefusal file TooMany i = IsPastLimit file × (i ≡ first_at (system_in file))
IsLateRefusal file MixedChoice i =
    (¬ IsPastLimit file) × IsFirstMixed (outline_in file) (bodies_in file) (written_leaves (flags_in file) (bodies_in file) (system_in file)) i
IsLateRefusal file _ i = ⊥
