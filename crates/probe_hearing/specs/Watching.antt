-- What a watch makes of one transition of what it watches, by words alone: there is no table here and no state of one. The rule is the
-- one of stochastic probes: A. Clark and S. Gilmore, State-Aware Performance Analysis with eXtended Stochastic Probes, 2008.
use Rattle.std.specs.Prelude.{◌≡◌, ◌==◌, ℕ, ◌↔◌, ◌⊎◌, if◌then◌else◌, List, [], ◌∷◌, ◌++◌, map, filter}
use Rattle.std.specs.Int.{bit_at}
use Rattle.std.specs.List.{range_with_len}
use Rattle.probe_words.specs.declared.letter.Letter.{Letter}
use Rattle.probe_words.specs.declared.letter.Letter.TheVariants.{Action, Signal}
use Rattle.probe_words.specs.Sets.{HasMember}
use Rattle.probe_words.specs.Words.{Pattern}
use Rattle.probe_words.specs.Hearing.{ProbeEvent, Hear, Out}

-- labels are below this
unfoldable pub label_limit : ℕ
label_limit = 64

-- the labels of a set, in ascending order
abbrev pub labels_in : ℕ → List ℕ
labels_in signals = filter (λ l. bit_at signals l == 1) (range_with_len 0 label_limit)

-- the letters that a transition gives a watch: its action, unless it is `tau`, which is action 0; then its signals, in the order of their
-- labels' numbers
abbrev pub letters_of : ℕ → ℕ → List Letter
letters_of action signals = (if action == 0 then [] else Action action ∷ []) ++ map Signal (labels_in signals)

-- the letter with the counts of that moment
abbrev pub event_of : List ℕ → Letter → ProbeEvent
event_of counts letter = record { letter = letter; counts = counts }

-- the events that a transition gives a watch: all have the counts of the component before the transition
abbrev pub events_of : ℕ → ℕ → List ℕ → List ProbeEvent
events_of action signals counts = map (event_of counts) (letters_of action signals)

-- after the events h are heard, these events come one after another: `next` are the events heard after them, and `sent` is the set of the
-- labels that are sent at any of them
abbrev pub HearsAll : Pattern → List ProbeEvent → List ProbeEvent → List ProbeEvent → ℕ → Type 0
HearsAll p h [] next sent = (next ≡ h) × ((l : ℕ) → HasMember sent l → ⊥)
HearsAll p h (e ∷ es) next sent = (mid : List ProbeEvent) × (later : ℕ) × Hear p h e mid × HearsAll p mid es next later
    × ((l : ℕ) → HasMember sent l ↔ (Out p h e l ⊎ HasMember later l))

-- the watch has heard h, and what it watches takes a transition with this action and these signals, where the counts before it are these:
-- then the watch has heard `next`, and its own transition has the signals `out`, which are those of the component and all that are sent
abbrev pub IsWatched : Pattern → List ProbeEvent → ℕ → ℕ → List ℕ → List ProbeEvent → ℕ → Type 0
IsWatched p h action signals counts next out = (sent : ℕ) × HearsAll p h (events_of action signals counts) next sent
    × ((l : ℕ) → HasMember out l ↔ (HasMember signals l ⊎ HasMember sent l))
