-- Paths through an expression's positions spell what its words begin with.
use Rattle.std.proofs.Common.{ℕ, zero, suc, ◌+◌, List, [], ◌∷◌, ◌++◌, inl, inr, refl}
use Rattle.probe_words.specs.declared.letter.Letter.{Letter}
use Rattle.probe_words.specs.Guards.{Condition}
use Rattle.probe_words.specs.MarkedLetters.{GuardedLetter, MarkedLetter, without_guards}
use Rattle.probe_words.specs.Core.{Core, Epsilon, Symbol, Sequence, Alternative, LastLabelled, Repeated, Restarted, FirstGuarded, size_of}
use Rattle.probe_words.specs.WordKinds.{WordKind, WholeWord, WordPrefix, IsOfKind}
use Rattle.probe_words.proofs.Shapes.{SequenceOf, LastLabelledOf, RepeatedOf, RestartedOf, FirstGuardedOf}
use Rattle.probe_words.specs.Words.{IsRow, IsFronts, unmarked, label_last, guard_first}
use Rattle.probe_words.specs.Paths.{Spells}
use Rattle.probe_words.proofs.CoreWords.{CoreWord}
use Rattle.probe_words.proofs.KindsOfSequences.{epsilon_ends, ends_epsilon, symbol_ends, ends_symbol, sequence_ends, ends_sequence, alternative_ends, ends_alternative}
use Rattle.probe_words.proofs.KindsOfLabels.{labelled_ends, ends_labelled, guarded_ends, ends_guarded}
use Rattle.probe_words.proofs.KindsOfRepeats.{repeated_ends, ends_repeated, reset_ends, ends_reset}
use Rattle.probe_words.proofs.PathsOfSequences.{sequence_sound, sequence_complete}
use Rattle.probe_words.proofs.PathsOfAlternatives.{epsilon_sound, epsilon_complete, symbol_sound, symbol_complete, alternative_sound, alternative_complete, labelled_sound, labelled_complete}
use Rattle.probe_words.proofs.PathsOfRepeats.{repeated_sound, repeated_complete}
use Rattle.probe_words.proofs.PathsOfResets.{reset_sound, reset_complete}
use Rattle.probe_words.proofs.PathsOfGuards.{guarded_sound, guarded_complete}

-- ---- each shape keeps what holds of its parts

pub row_map : {X : Type 0} (P Q : List X → Type 0) → ((w : List X) → P w → Q w) → (n : ℕ) (w : List X) → IsRow P n w → IsRow Q n w
row_map P Q f zero w e = e
row_map P Q f (suc n) w (u, v, g, r, e) = (u, v, f u g, row_map P Q f n v r, e)

pub fronts_map : {X : Type 0} (P Q : List X → Type 0) (a : X) → ((w : List X) → P w → Q w) → (n : ℕ) (w : List X) → IsFronts P a n w → IsFronts Q a n w
fronts_map P Q a f zero w e = e
fronts_map P Q a f (suc n) w (u, v, g, r, e) = (u, v, f u g, fronts_map P Q a f n v r, e)

module _ (P Q : WordKind → List GuardedLetter → Type 0) (f : (kind : WordKind) (w : List GuardedLetter) → P kind w → Q kind w) where
  labelled_map : (l : ℕ) (kind : WordKind) (w : List GuardedLetter) → LastLabelledOf P l kind w → LastLabelledOf Q l kind w
  labelled_map l kind w (inl h) = inl (f kind w h)
  labelled_map l kind w (inr (k, h, n)) = inr (k, f WholeWord w h, n)

  repeated_map : (kind : WordKind) (w : List GuardedLetter) → RepeatedOf P kind w → RepeatedOf Q kind w
  repeated_map kind w (n, u, v, r, h, e) = (n, u, v, row_map (P WholeWord) (Q WholeWord) (f WholeWord) n u r, f kind v h, e)

  reset_map : (a : Letter) (kind : WordKind) (w : List GuardedLetter) → RestartedOf P a kind w → RestartedOf Q a kind w
  reset_map a kind w (n, u, v, r, h, e) = (n, u, v, fronts_map (P WordPrefix) (Q WordPrefix) (without_guards a) (f WordPrefix) n u r, f kind v h, e)

  guarded_map : (g : Condition) (kind : WordKind) (w : List GuardedLetter) → FirstGuardedOf P g kind w → FirstGuardedOf Q g kind w
  guarded_map g kind w (v, h, e) = (v, f kind v h, e)

  sequence_map : (R S : WordKind → List GuardedLetter → Type 0) → ((kind : WordKind) (w : List GuardedLetter) → R kind w → S kind w) → (kind : WordKind) (w : List GuardedLetter) → SequenceOf P R kind w → SequenceOf Q S kind w
  sequence_map R S k kind w (inl (i, h)) = inl (i, f kind w h)
  sequence_map R S k kind w (inr (u, v, g, h, e)) = inr (u, v, f WholeWord u g, k kind v h, e)

-- each expression has a word
pub some_word : (r : Core) → (w : List MarkedLetter) × CoreWord r w
some_word Epsilon = ([], refl)
some_word (Symbol a) = (unmarked a ∷ [], refl)
some_word (Sequence r s) = let u = some_word r in let v = some_word s in (u.0 ++ v.0, (u.0, v.0, u.1, v.1, refl))
some_word (Alternative r s) = let u = some_word r in (u.0, inl u.1)
some_word (LastLabelled r l) = let u = some_word r in (label_last l u.0, (u.0, u.1, refl))
some_word (Repeated r) = let u = some_word r in (u.0 ++ [], (zero, (u.0, [], u.1, refl, refl)))
some_word (Restarted r a) = let u = some_word r in (u.0, (zero, [], u.0, refl, u.1, refl))
some_word (FirstGuarded g r) = let u = some_word r in (guard_first g u.0, (u.0, u.1, refl))

-- what a path spells is as its kind asks of a word
pub spelled_ends : (r : Core) (at : ℕ) (kind : WordKind) (w : List GuardedLetter) → Spells r at kind w → IsOfKind (CoreWord r) kind w
spelled_ends Epsilon at kind w h = ends_epsilon kind w (epsilon_sound at kind w h)
spelled_ends (Symbol a) at kind w h = ends_symbol a kind w (symbol_sound a at kind w h)
spelled_ends (Sequence r s) at kind w h =
    let d = some_word s in
    ends_sequence (CoreWord r) (CoreWord s) d.0 d.1 kind w (sequence_map (Spells r at) (IsOfKind (CoreWord r)) (spelled_ends r at) (Spells s (at + size_of r)) (IsOfKind (CoreWord s)) (spelled_ends s (at + size_of r)) kind w (sequence_sound r s at kind w h))
spelled_ends (Alternative r s) at kind w h =
    ends_alternative (CoreWord r) (CoreWord s) kind w (elim (alternative_sound r s at kind w h) [ inl g ↦ inl (spelled_ends r at kind w g) | inr g ↦ inr (spelled_ends s (at + size_of r) kind w g) ])
spelled_ends (LastLabelled r l) at kind w h = ends_labelled (CoreWord r) l kind w (labelled_map (Spells r at) (IsOfKind (CoreWord r)) (spelled_ends r at) l kind w (labelled_sound r l at kind w h))
spelled_ends (Repeated r) at kind w h = ends_repeated (CoreWord r) kind w (repeated_map (Spells r at) (IsOfKind (CoreWord r)) (spelled_ends r at) kind w (repeated_sound r at kind w h))
spelled_ends (Restarted r a) at kind w h = ends_reset (CoreWord r) a kind w (reset_map (Spells r at) (IsOfKind (CoreWord r)) (spelled_ends r at) a kind w (reset_sound r a at kind w h))
spelled_ends (FirstGuarded g r) at kind w h = ends_guarded (CoreWord r) g kind w (guarded_map (Spells r at) (IsOfKind (CoreWord r)) (spelled_ends r at) g kind w (guarded_sound g r at kind w h))

pub ends_spelled : (r : Core) (at : ℕ) (kind : WordKind) (w : List GuardedLetter) → IsOfKind (CoreWord r) kind w → Spells r at kind w
ends_spelled Epsilon at kind w h = epsilon_complete at kind w (epsilon_ends kind w h)
ends_spelled (Symbol a) at kind w h = symbol_complete a at kind w (symbol_ends a kind w h)
ends_spelled (Sequence r s) at kind w h =
    sequence_complete r s at kind w (sequence_map (IsOfKind (CoreWord r)) (Spells r at) (ends_spelled r at) (IsOfKind (CoreWord s)) (Spells s (at + size_of r)) (ends_spelled s (at + size_of r)) kind w (sequence_ends (CoreWord r) (CoreWord s) kind w h))
ends_spelled (Alternative r s) at kind w h =
    alternative_complete r s at kind w (elim (alternative_ends (CoreWord r) (CoreWord s) kind w h) [ inl g ↦ inl (ends_spelled r at kind w g) | inr g ↦ inr (ends_spelled s (at + size_of r) kind w g) ])
ends_spelled (LastLabelled r l) at kind w h = labelled_complete r l at kind w (labelled_map (IsOfKind (CoreWord r)) (Spells r at) (ends_spelled r at) l kind w (labelled_ends (CoreWord r) l kind w h))
ends_spelled (Repeated r) at kind w h = repeated_complete r at kind w (repeated_map (IsOfKind (CoreWord r)) (Spells r at) (ends_spelled r at) kind w (repeated_ends (CoreWord r) kind w h))
ends_spelled (Restarted r a) at kind w h = reset_complete r a at kind w (reset_map (IsOfKind (CoreWord r)) (Spells r at) (ends_spelled r at) a kind w (reset_ends (CoreWord r) a kind w h))
ends_spelled (FirstGuarded g r) at kind w h = guarded_complete g r at kind w (guarded_map (IsOfKind (CoreWord r)) (Spells r at) (ends_spelled r at) g kind w (guarded_ends (CoreWord r) g kind w h))
