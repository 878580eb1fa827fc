-- The options of `run` and of `probe`, and what their values are.
use Rattle.std.specs.Prelude.{◌≡◌, ◌≤◌, ◌==◌, ℕ, Option, None, Some, List, [], ◌∷◌, codes}
use Rattle.std.specs.List.{AllByRecursion, slice_split}
use Rattle.std.specs.Str.Parse.{digits_value, without_leading_plus, IsNumeral}
use Rattle.pepa_model.specs.Spelling.{IsActionName}

-- an option whose value is a number: its name, the least number, the greatest, and the number where
-- the option isn't used
pub record NumberOption : Type 0 where
  pub name : List ℕ
  pub least : ℕ
  pub most : ℕ
  pub default : ℕ

abbrev pub seed_option : NumberOption
seed_option = record { name = codes "seed"; least = 0; most = 18446744073709551615; default = 1 }

abbrev pub runs_option : NumberOption
runs_option = record { name = codes "runs"; least = 1; most = 1000000; default = 1000 }

abbrev pub passages_option : NumberOption
passages_option = record { name = codes "passages"; least = 1; most = 1000000; default = 1 }

abbrev pub jumps_option : NumberOption
jumps_option = record { name = codes "jumps"; least = 1; most = 1000000000; default = 100000 }

abbrev pub workers_option : NumberOption
workers_option = record { name = codes "workers"; least = 1; most = 64; default = 1 }

abbrev pub table_option : NumberOption
table_option = record { name = codes "table"; least = 8; most = 4194304; default = 262144 }

abbrev pub entries_option : NumberOption
entries_option = record { name = codes "entries"; least = 8; most = 16777216; default = 1048576 }

abbrev pub bin_option : NumberOption
bin_option = record { name = codes "bin"; least = 1; most = 1000000; default = 1 }

abbrev pub bins_option : NumberOption
bins_option = record { name = codes "bins"; least = 1; most = 10000; default = 20 }

-- the names of the options of `run`
abbrev pub run_names : List (List ℕ)
run_names =
    seed_option.name
    ∷ runs_option.name
    ∷ passages_option.name
    ∷ jumps_option.name
    ∷ workers_option.name
    ∷ table_option.name
    ∷ entries_option.name
    ∷ bin_option.name
    ∷ bins_option.name
    ∷ codes "made"
    ∷ []

-- the names of the options of `probe`
abbrev pub probe_names : List (List ℕ)
probe_names = codes "number" ∷ codes "events" ∷ []

-- the text is a number in the range: an optional `+`, and then decimal digits
pub record IsNumberText (least most : ℕ) (text : List ℕ) (n : ℕ) : Type 0 where
  pub digits : IsNumeral 10 (without_leading_plus text)
  pub number : n ≡ digits_value 10 (without_leading_plus text)
  pub at_least : least ≤ n
  pub at_most : n ≤ most

-- the number of an option that has this value, or none
abbrev pub IsOptionNumber : NumberOption → Option (List ℕ) → ℕ → Type 0
IsOptionNumber option None n = n ≡ option.default
IsOptionNumber option (Some text) n = IsNumberText option.least option.most text n

-- the size of a made model, from 1 to 100, where `--made` has this value or none
abbrev pub IsMadeOption : Option (List ℕ) → Option ℕ → Type 0
IsMadeOption None made = made ≡ None
IsMadeOption (Some text) None = ⊥
IsMadeOption (Some text) (Some size) = IsNumberText 1 100 text size

-- the parts of the text between its commas (44) are these names, each the name of an action type
abbrev pub AreEventNames : List ℕ → List (List ℕ) → Type 0
AreEventNames text names = (names ≡ slice_split (λ byte. byte == 44) text) × AllByRecursion IsActionName names
