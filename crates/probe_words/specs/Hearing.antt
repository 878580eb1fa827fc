-- What a probe hears: events that fit prefixes of words of the repeated expression. There are no states here.
use Rattle.std.specs.Prelude.{◌≡◌, ℕ, true, List, [], ◌∷◌, ◌++◌, ◌⊎◌}
use Rattle.probe_words.specs.declared.letter.Letter.{Letter}
use Rattle.probe_words.specs.Guards.{Condition, holds_for}
use Rattle.probe_words.specs.MarkedLetters.{GuardedLetter}
use Rattle.probe_words.specs.WordKinds.{WordKind, WordPrefix, LabelledPrefix, IsOfKind}
use Rattle.probe_words.specs.Words.{Pattern, Star, IsProbeWord}

-- a letter, with the counts of leaves at that moment
pub record ProbeEvent : Type 0 where
  pub letter : Letter
  pub counts : List ℕ

-- all these guards hold for these counts
abbrev pub AllHoldFor : List ℕ → List Condition → Type 0
AllHoldFor counts [] = Unit {0}
AllHoldFor counts (g ∷ gs) = (holds_for counts g ≡ true) × AllHoldFor counts gs

-- the event has this letter, and the letter's guards hold in its counts
abbrev pub FitsLetter : ProbeEvent → GuardedLetter → Type 0
FitsLetter e m = (e.letter ≡ m.letter) × AllHoldFor e.counts m.guards

-- each event fits the letter at its place
abbrev pub FitsLetters : List ProbeEvent → List GuardedLetter → Type 0
FitsLetters [] [] = Unit {0}
FitsLetters (e ∷ h) (m ∷ w) = FitsLetter e m × FitsLetters h w
FitsLetters [] (m ∷ w) = ⊥
FitsLetters (e ∷ h) [] = ⊥

-- the events fit letters that are of this kind among the words of the repeated expression
abbrev pub FitsWordKind : Pattern → WordKind → List ProbeEvent → Type 0
FitsWordKind p kind h = (w : List GuardedLetter) × IsOfKind (λ u. IsProbeWord (Star p) u) kind w × FitsLetters h w

-- the event is heard: those heard before, with it, fit a prefix of a word of the repeated expression
abbrev pub IsHeard : Pattern → List ProbeEvent → ProbeEvent → Type 0
IsHeard p h e = FitsWordKind p WordPrefix (h ++ e ∷ [])

-- the events heard after one more event: an event that isn't heard is ignored and changes nothing
abbrev pub Hear : Pattern → List ProbeEvent → ProbeEvent → List ProbeEvent → Type 0
Hear p h e next = (IsHeard p h e × (next ≡ h ++ e ∷ [])) ⊎ ((IsHeard p h e → ⊥) × (next ≡ h))

-- the label is sent at that event: it is on the last letter of such a prefix
abbrev pub Out : Pattern → List ProbeEvent → ProbeEvent → ℕ → Type 0
Out p h e l = FitsWordKind p (LabelledPrefix l) (h ++ e ∷ [])
