-- Paths through the positions of one letter, of an alternative and of a labelled part.
use Rattle.std.proofs.Common.{◌≡◌, ◌≢◌, ℕ, ◌+◌, List, [], ◌∷◌, ◌⊎◌, inl, inr, refl, ap, arith}
use Rattle.probe_words.specs.declared.letter.Letter.{Letter}
use Rattle.probe_words.specs.MarkedLetters.{GuardedLetter}
use Rattle.probe_words.specs.Core.{Core, Epsilon, Symbol, Alternative, LastLabelled, empty_of, size_of, firsts, InPart, IsLast, HasLabel, IsLetterAt, Follows}
use Rattle.probe_words.specs.Paths.{GoesOn, EndsPath, AtStart, Spells}
use Rattle.probe_words.specs.WordKinds.{WordKind, WholeWord, WordPrefix, LabelledPrefix}
use Rattle.probe_words.proofs.Shapes.{EpsilonOf, SymbolOf, LastLabelledOf}
use Rattle.probe_words.proofs.PlaceLists.{among_front, among_back, among_either, true_left, true_right, either_true}
use Rattle.probe_words.proofs.Ranges.{first_within, last_within, label_within, at_within, follow_within}
use Rattle.probe_words.proofs.PathsOfSequences.{stay}

pub epsilon_sound : (at : ℕ) (kind : WordKind) (w : List GuardedLetter) → Spells Epsilon at kind w → EpsilonOf kind w
epsilon_sound at WholeWord [] h = refl
epsilon_sound at WordPrefix [] h = refl
epsilon_sound at (LabelledPrefix l) [] h = h
epsilon_sound at kind (m ∷ w) h = absurd h.1

pub epsilon_complete : (at : ℕ) (kind : WordKind) (w : List GuardedLetter) → EpsilonOf kind w → Spells Epsilon at kind w
epsilon_complete at WholeWord [] h = refl
epsilon_complete at WordPrefix [] h = tt
epsilon_complete at (LabelledPrefix l) w h = absurd h
epsilon_complete at WholeWord (m ∷ w) h = cc
epsilon_complete at WordPrefix (m ∷ w) h = cc

pub symbol_sound : (a : Letter) (at : ℕ) (kind : WordKind) (w : List GuardedLetter) → Spells (Symbol a) at kind w → SymbolOf a kind w
symbol_sound a at WholeWord [] h = cc
symbol_sound a at WordPrefix [] h = inl refl
symbol_sound a at (LabelledPrefix l) [] h = h
symbol_sound a at WholeWord (m ∷ []) h = ap (λ (n : GuardedLetter). n ∷ []) h.2.1
symbol_sound a at WordPrefix (m ∷ []) h = inr (ap (λ (n : GuardedLetter). n ∷ []) h.2.1)
symbol_sound a at (LabelledPrefix l) (m ∷ []) h = h.3
symbol_sound a at kind (m ∷ n ∷ w) h = absurd h.3.1

pub symbol_complete : (a : Letter) (at : ℕ) (kind : WordKind) (w : List GuardedLetter) → SymbolOf a kind w → Spells (Symbol a) at kind w
symbol_complete a at WholeWord w h = rw h (at, inl refl, (refl, refl), refl)
symbol_complete a at WordPrefix w (inl h) = rw h tt
symbol_complete a at WordPrefix w (inr h) = rw h (at, inl refl, (refl, refl), tt)
symbol_complete a at (LabelledPrefix l) w h = absurd h

module _ (r s : Core) (at : ℕ) where
  at_left : (y : ℕ) (m : GuardedLetter) → InPart r at y → IsLetterAt (Alternative r s) at y m → IsLetterAt r at y m
  at_left y m p (inl h) = h
  at_left y m p (inr h) = absurd (let q = at_within s (at + size_of r) y m h in omega arith)

  at_right : (y : ℕ) (m : GuardedLetter) → InPart s (at + size_of r) y → IsLetterAt (Alternative r s) at y m → IsLetterAt s (at + size_of r) y m
  at_right y m p (inl h) = absurd (let q = at_within r at y m h in omega arith)
  at_right y m p (inr h) = h

  edge_left : (x y : ℕ) → InPart r at x → Follows (Alternative r s) at x y → Follows r at x y × InPart r at y
  edge_left x y p (inl h) = (h, (follow_within r at x y h).1)
  edge_left x y p (inr h) = absurd (let q = follow_within s (at + size_of r) x y h in omega arith)

  edge_right : (x y : ℕ) → InPart s (at + size_of r) x → Follows (Alternative r s) at x y → Follows s (at + size_of r) x y × InPart s (at + size_of r) y
  edge_right x y p (inl h) = absurd (let q = follow_within r at x y h in omega arith)
  edge_right x y p (inr h) = (h, (follow_within s (at + size_of r) x y h).1)

  target_left : (kind : WordKind) (z : ℕ) → InPart r at z → EndsPath (Alternative r s) at kind z → EndsPath r at kind z
  target_left WholeWord z p (inl h) = h
  target_left WholeWord z p (inr h) = absurd (let q = last_within s (at + size_of r) z h in omega arith)
  target_left WordPrefix z p h = tt
  target_left (LabelledPrefix l) z p (inl h) = h
  target_left (LabelledPrefix l) z p (inr h) = absurd (let q = label_within s (at + size_of r) l z h in omega arith)

  target_right : (kind : WordKind) (z : ℕ) → InPart s (at + size_of r) z → EndsPath (Alternative r s) at kind z → EndsPath s (at + size_of r) kind z
  target_right WholeWord z p (inl h) = absurd (let q = last_within r at z h in omega arith)
  target_right WholeWord z p (inr h) = h
  target_right WordPrefix z p h = tt
  target_right (LabelledPrefix l) z p (inl h) = absurd (let q = label_within r at l z h in omega arith)
  target_right (LabelledPrefix l) z p (inr h) = h

  alt_start : (kind : WordKind) → AtStart (Alternative r s) kind → AtStart r kind ⊎ AtStart s kind
  alt_start WholeWord h = either_true (empty_of r) (empty_of s) h
  alt_start WordPrefix h = inl tt
  alt_start (LabelledPrefix l) h = absurd h

  pub alternative_sound : (kind : WordKind) (w : List GuardedLetter) → Spells (Alternative r s) at kind w → Spells r at kind w ⊎ Spells s (at + size_of r) kind w
  alternative_sound kind [] h = alt_start kind h
  alternative_sound kind (m ∷ w) h =
      elim (among_either h.0 (firsts r at) (firsts s (at + size_of r)) h.1) [
        | inl f ↦ (let q = first_within r at h.0 f in inl (h.0, f, at_left h.0 m q h.2, stay (Follows (Alternative r s) at) (Follows r at) (IsLetterAt (Alternative r s) at) (IsLetterAt r at) (EndsPath (Alternative r s) at kind) (EndsPath r at kind) (InPart r at) edge_left at_left (target_left kind) w h.0 q h.3))
        | inr f ↦ (let q = first_within s (at + size_of r) h.0 f in inr (h.0, f, at_right h.0 m q h.2, stay (Follows (Alternative r s) at) (Follows s (at + size_of r)) (IsLetterAt (Alternative r s) at) (IsLetterAt s (at + size_of r)) (EndsPath (Alternative r s) at kind) (EndsPath s (at + size_of r) kind) (InPart s (at + size_of r)) edge_right at_right (target_right kind) w h.0 q h.3))
      ]

  left_target : (kind : WordKind) (z : ℕ) → InPart r at z → EndsPath r at kind z → EndsPath (Alternative r s) at kind z
  left_target WholeWord z p h = inl h
  left_target WordPrefix z p h = tt
  left_target (LabelledPrefix l) z p h = inl h

  right_target : (kind : WordKind) (z : ℕ) → InPart s (at + size_of r) z → EndsPath s (at + size_of r) kind z → EndsPath (Alternative r s) at kind z
  right_target WholeWord z p h = inr h
  right_target WordPrefix z p h = tt
  right_target (LabelledPrefix l) z p h = inr h

  start_alt : (kind : WordKind) → AtStart r kind ⊎ AtStart s kind → AtStart (Alternative r s) kind
  start_alt WholeWord (inl h) = true_left (empty_of r) (empty_of s) h
  start_alt WholeWord (inr h) = true_right (empty_of r) (empty_of s) h
  start_alt WordPrefix h = tt
  start_alt (LabelledPrefix l) (inl h) = h
  start_alt (LabelledPrefix l) (inr h) = h

  pub alternative_complete : (kind : WordKind) (w : List GuardedLetter) → Spells r at kind w ⊎ Spells s (at + size_of r) kind w → Spells (Alternative r s) at kind w
  alternative_complete kind [] h = start_alt kind h
  alternative_complete kind (m ∷ w) (inl h) =
      let q = first_within r at h.0 h.1 in
      (h.0, among_front h.0 (firsts r at) (firsts s (at + size_of r)) h.1, inl h.2, stay (Follows r at) (Follows (Alternative r s) at) (IsLetterAt r at) (IsLetterAt (Alternative r s) at) (EndsPath r at kind) (EndsPath (Alternative r s) at kind) (InPart r at) (λ x y p f. (inl f, (follow_within r at x y f).1)) (λ y n p k. inl k) (left_target kind) w h.0 q h.3)
  alternative_complete kind (m ∷ w) (inr h) =
      let q = first_within s (at + size_of r) h.0 h.1 in
      (h.0, among_back h.0 (firsts r at) (firsts s (at + size_of r)) h.1, inr h.2, stay (Follows s (at + size_of r)) (Follows (Alternative r s) at) (IsLetterAt s (at + size_of r)) (IsLetterAt (Alternative r s) at) (EndsPath s (at + size_of r) kind) (EndsPath (Alternative r s) at kind) (InPart s (at + size_of r)) (λ x y p f. (inr f, (follow_within s (at + size_of r) x y f).1)) (λ y n p k. inr k) (right_target kind) w h.0 q h.3)

-- ---- labels: only the ends of paths change

module _ (r : Core) (k at : ℕ) where
  end_either : (l : ℕ) (w : List GuardedLetter) (x : ℕ) → GoesOn (Follows r at) (IsLetterAt r at) (HasLabel (LastLabelled r k) at l) x w → GoesOn (Follows r at) (IsLetterAt r at) (HasLabel r at l) x w ⊎ ((l ≡ k) × GoesOn (Follows r at) (IsLetterAt r at) (IsLast r at) x w)
  end_either l [] x h = h
  end_either l (m ∷ w) x h =
      elim (end_either l w h.0 h.3) [
        | inl g ↦ inl (h.0, h.1, h.2, g)
        | inr g ↦ inr (g.0, (h.0, h.1, h.2, g.1))
      ]

  pub labelled_sound : (kind : WordKind) (w : List GuardedLetter) → Spells (LastLabelled r k) at kind w → LastLabelledOf (Spells r at) k kind w
  labelled_sound WholeWord [] h = inl h
  labelled_sound WordPrefix [] h = inl h
  labelled_sound (LabelledPrefix l) [] h = inl h
  labelled_sound WholeWord (m ∷ w) h = inl h
  labelled_sound WordPrefix (m ∷ w) h = inl h
  labelled_sound (LabelledPrefix l) (m ∷ w) h =
      elim (end_either l w h.0 h.3) [
        | inl g ↦ inl (h.0, h.1, h.2, g)
        | inr g ↦ inr (ap LabelledPrefix g.0, (h.0, h.1, h.2, g.1), λ e. cc)
      ]

  tag_now : (w : List GuardedLetter) → Spells r at WholeWord w → w ≢ [] → Spells (LastLabelled r k) at (LabelledPrefix k) w
  tag_now [] h e = absurd (e refl)
  tag_now (m ∷ w) h e = (h.0, h.1, h.2, stay (Follows r at) (Follows r at) (IsLetterAt r at) (IsLetterAt r at) (IsLast r at) (HasLabel (LastLabelled r k) at k) (λ x. Unit {0}) (λ x y p f. (f, tt)) (λ y n p i. i) (λ z p i. inr (refl, i)) w h.0 tt h.3)

  pub labelled_complete : (kind : WordKind) (w : List GuardedLetter) → LastLabelledOf (Spells r at) k kind w → Spells (LastLabelled r k) at kind w
  labelled_complete WholeWord [] (inl h) = h
  labelled_complete WordPrefix [] (inl h) = h
  labelled_complete (LabelledPrefix l) [] (inl h) = h
  labelled_complete WholeWord (m ∷ w) (inl h) = h
  labelled_complete WordPrefix (m ∷ w) (inl h) = h
  labelled_complete (LabelledPrefix l) (m ∷ w) (inl h) = (h.0, h.1, h.2, stay (Follows r at) (Follows r at) (IsLetterAt r at) (IsLetterAt r at) (HasLabel r at l) (HasLabel (LastLabelled r k) at l) (λ x. Unit {0}) (λ x y p f. (f, tt)) (λ y n p i. i) (λ z p i. inl i) w h.0 tt h.3)
  labelled_complete kind w (inr h) = rw h.0 (tag_now w h.1 h.2)
