-- Paths through the positions that the program answers are those of the definition.
use Rattle.std.proofs.Common.{◌≡◌, ℕ, List, [], ◌∷◌, inl, inr, sym, arith, ◌∙◌, subst, Some}
use Rattle.std.specs.Prelude.{slice_get, slice_index}
use Rattle.std.proofs.lemmas.Option.{slice_get_cases}
use Rattle.probe_words.specs.declared.position_list.Position.{Position}
use Rattle.probe_words.specs.declared.position_list.Positions.{Positions}
use Rattle.probe_words.specs.MarkedLetters.{GuardedLetter}
use Rattle.probe_words.specs.WordKinds.{WordKind, WholeWord, WordPrefix, LabelledPrefix}
use Rattle.probe_words.specs.Core.{Core, IsLetterAt, Follows, InPart}
use Rattle.probe_words.specs.Paths.{GoesOn, EndsPath, AtStart, Spells}
use Rattle.probe_words.specs.Sets.{HasMember}
use Rattle.probe_words.specs.PositionsOf.{position_letter, ArePositions, HasLetterAt, EndsPathIn, BeginsPathIn, SpellsIn}
use Rattle.probe_words.proofs.Ranges.{at_within, label_within}
use Rattle.probe_words.proofs.OneLetter.{at_one}

-- a path of one graph is a path of another
goes_on_in : (F G : ℕ → ℕ → Type 0) (A B : ℕ → GuardedLetter → Type 0) (T U : ℕ → Type 0) → ((x y : ℕ) → F x y → G x y) → ((y : ℕ) (m : GuardedLetter) → A y m → B y m) → ((x : ℕ) → T x → U x) → (x : ℕ) (w : List GuardedLetter) → GoesOn F A T x w → GoesOn G B U x w
goes_on_in F G A B T U f a t x [] h = t x h
goes_on_in F G A B T U f a t x (m ∷ w) (y, g, i, h) = (y, f x y g, a y m i, goes_on_in F G A B T U f a t y w h)

module _ (r : Core) (p : Positions) (are : ArePositions r p) where
  some_position : (i : ℕ) → InPart r 0 i → (x : Position) × (slice_get p.each i ≡ Some x)
  some_position i w =
      let n = are.count in
      elim (slice_get_cases p.each i).1 [
        | inl (x, k, s, d) ↦ (x, s)
        | inr o ↦ absurd (let z = o.0 in omega arith)
      ]

  pub letter_in : (i : ℕ) (m : GuardedLetter) → IsLetterAt r 0 i m → HasLetterAt p i m
  letter_in i m h = let (x, s) = some_position i (at_within r 0 i m h) in (x, s, at_one r 0 i (position_letter x) m (are.marks_are i x s) h)

  pub letter_out : (i : ℕ) (m : GuardedLetter) → HasLetterAt p i m → IsLetterAt r 0 i m
  letter_out i m (x, s, e) = subst (λ (z : GuardedLetter). IsLetterAt r 0 i z) e (are.marks_are i x s)

  end_in : (kind : WordKind) (i : ℕ) → EndsPath r 0 kind i → EndsPathIn p kind i
  end_in WholeWord i h = (are.last_is i).1 h
  end_in WordPrefix i h = tt
  end_in (LabelledPrefix l) i h = let (x, s) = some_position i (label_within r 0 l i h) in (x, s, (are.labels_are i l x s).1 h)

  end_out : (kind : WordKind) (i : ℕ) → EndsPathIn p kind i → EndsPath r 0 kind i
  end_out WholeWord i h = (are.last_is i).0 h
  end_out WordPrefix i h = tt
  end_out (LabelledPrefix l) i (x, s, h) = (are.labels_are i l x s).0 h

  begin_in : (kind : WordKind) → AtStart r kind → BeginsPathIn p kind
  begin_in WholeWord h = are.empty_is ∙ h
  begin_in WordPrefix h = tt
  begin_in (LabelledPrefix l) h = absurd h

  begin_out : (kind : WordKind) → BeginsPathIn p kind → AtStart r kind
  begin_out WholeWord h = sym are.empty_is ∙ h
  begin_out WordPrefix h = tt
  begin_out (LabelledPrefix l) h = absurd h

  abbrev FollowsIn : ℕ → ℕ → Type 0
  FollowsIn i j = HasMember (slice_index p.follow i) j

  pub spells_in : (kind : WordKind) (w : List GuardedLetter) → Spells r 0 kind w → SpellsIn p kind w
  spells_in kind [] h = begin_in kind h
  spells_in kind (m ∷ w) (y, f, a, g) = (
    y,
    (are.first_is y).1 f,
    letter_in y m a,
    goes_on_in (Follows r 0) FollowsIn (IsLetterAt r 0) (HasLetterAt p) (EndsPath r 0 kind) (EndsPathIn p kind) (λ i j. (are.follow_are i j).1) letter_in (end_in kind) y w g,
  )

  pub spells_out : (kind : WordKind) (w : List GuardedLetter) → SpellsIn p kind w → Spells r 0 kind w
  spells_out kind [] h = begin_out kind h
  spells_out kind (m ∷ w) (y, f, a, g) = (
    y,
    (are.first_is y).0 f,
    letter_out y m a,
    goes_on_in FollowsIn (Follows r 0) (HasLetterAt p) (IsLetterAt r 0) (EndsPathIn p kind) (EndsPath r 0 kind) (λ i j. (are.follow_are i j).0) letter_out (end_out kind) y w g,
  )
