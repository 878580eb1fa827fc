-- The three words of a transition in an interner's list: target, action and kind of rate with the high part of its denominator;
-- the signals; the numerator with the low part of the denominator.
use Rattle.std.specs.Prelude.{◌≡◌, ℕ, ◌+◌, ◌*◌, ◌/◌, ◌%◌, ◌^◌, ◌≤◌, [], ◌∷◌, slice_index, Option, Some, None}
use Rattle.intern_core.specs.declared.history.EntryWords.{EntryWords}
use Rattle.pepa_rates.specs.declared.rate.Rate.{Rate}
use Rattle.pepa_rates.specs.declared.rate.Rate.TheVariants.{Active, Passive}
use Rattle.pepa_rates.specs.Fraction.{IsProper}
use Rattle.pepa_rates.specs.Sum.{fraction_of}
use Rattle.node_words.specs.declared.node.CodeStep.{CodeStep}
use Rattle.node_words.specs.Keys.{IsNumber}

-- the action and the target are in their ranges
abbrev pub FitsEntry : CodeStep → Type 0
FitsEntry step = (step.action ≤ 1024) × IsNumber step.target

-- a transition in range, with a rate as every rate of the program is
abbrev pub IsCodeStep : CodeStep → Type 0
IsCodeStep step = FitsEntry step × IsProper (fraction_of step.rate)

abbrev pub passive_bit : Rate → ℕ
passive_bit (Active q) = 0
passive_bit (Passive q) = 1

-- target, action, whether the rate is passive, and the denominator from its bit 22 on
abbrev pub first_word : CodeStep → ℕ
first_word step =
    step.target + 2 ^ 32 * step.action + 2 ^ 43 * passive_bit step.rate + 2 ^ 44 * ((fraction_of step.rate).den / 2 ^ 22)

-- the numerator, and the low 22 bits of the denominator
abbrev pub last_word : CodeStep → ℕ
last_word step = (fraction_of step.rate).num + 2 ^ 42 * ((fraction_of step.rate).den % 2 ^ 22)

-- the words of a transition
abbrev pub packed_entry : CodeStep → EntryWords
packed_entry step = record { 0 = first_word step ∷ step.signals ∷ last_word step ∷ [] }

-- an entry has these three words
abbrev pub HasWordsOf : EntryWords → CodeStep → Type 0
HasWordsOf words step =
    (slice_index words.0 0 ≡ first_word step) × (slice_index words.0 1 ≡ step.signals) × (slice_index words.0 2 ≡ last_word step)

-- the transition that an entry unpacks to: the one in range that has its words, or none where no transition in range has them
abbrev pub IsUnpackedEntry : EntryWords → Option CodeStep → Type 0
IsUnpackedEntry words (Some step) = IsCodeStep step × HasWordsOf words step
IsUnpackedEntry words None = (step : CodeStep) → IsCodeStep step → ¬ HasWordsOf words step
