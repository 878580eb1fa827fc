-- Paths through the positions of a repeated part.
use Rattle.std.proofs.Common.{◌≡◌, ℕ, zero, suc, List, [], ◌∷◌, ◌++◌, ◌⊎◌, inl, inr, refl, sym, ap, append_assoc}
use Rattle.probe_words.specs.MarkedLetters.{IsAmong, GuardedLetter}
use Rattle.probe_words.specs.Core.{Core, Repeated, firsts, IsLast, IsLetterAt, Follows}
use Rattle.probe_words.specs.Paths.{GoesOn, EndsPath, AtStart, Spells}
use Rattle.probe_words.specs.WordKinds.{WordKind, WholeWord, WordPrefix, LabelledPrefix}
use Rattle.probe_words.proofs.Shapes.{RepeatedOf}
use Rattle.probe_words.specs.Words.{IsRow}
use Rattle.probe_words.proofs.PathsOfSequences.{glue, stay}

module _ (r : Core) (at : ℕ) where
  abbrev RepTail : WordKind → ℕ → List GuardedLetter → Type 0
  RepTail kind x w = GoesOn (Follows r at) (IsLetterAt r at) (EndsPath r at kind) x w ⊎ ((u v : List GuardedLetter) × GoesOn (Follows r at) (IsLetterAt r at) (IsLast r at) x u × RepeatedOf (Spells r at) kind v × (w ≡ u ++ v))

  rep_target : (kind : WordKind) (z : ℕ) → EndsPath (Repeated r) at kind z → EndsPath r at kind z
  rep_target WholeWord z h = h
  rep_target WordPrefix z h = h
  rep_target (LabelledPrefix l) z h = h

  target_rep : (kind : WordKind) (z : ℕ) → EndsPath r at kind z → EndsPath (Repeated r) at kind z
  target_rep WholeWord z h = h
  target_rep WordPrefix z h = h
  target_rep (LabelledPrefix l) z h = h

  rep_start : (kind : WordKind) → AtStart (Repeated r) kind → AtStart r kind
  rep_start WholeWord h = h
  rep_start WordPrefix h = h
  rep_start (LabelledPrefix l) h = h

  start_rep : (kind : WordKind) → AtStart r kind → AtStart (Repeated r) kind
  start_rep WholeWord h = h
  start_rep WordPrefix h = h
  start_rep (LabelledPrefix l) h = h

  once : (kind : WordKind) (w : List GuardedLetter) → Spells r at kind w → RepeatedOf (Spells r at) kind w
  once kind w h = (zero, [], w, refl, h, refl)

  once_more : (kind : WordKind) (u v : List GuardedLetter) → Spells r at WholeWord u → RepeatedOf (Spells r at) kind v → RepeatedOf (Spells r at) kind (u ++ v)
  once_more kind u v g h = (suc h.0, u ++ h.1, h.2, (u, h.1, g, h.3, refl), h.4, rw h.5 (sym (append_assoc u h.1 h.2)))

  rep_step : (kind : WordKind) (m : GuardedLetter) (w : List GuardedLetter) (x y : ℕ) → Follows r at x y → IsLetterAt r at y m → RepTail kind y w → RepTail kind x (m ∷ w)
  rep_step kind m w x y f a (inl h) = inl (y, f, a, h)
  rep_step kind m w x y f a (inr h) = inr (m ∷ h.0, h.1, (y, f, a, h.2), h.3, ap (λ (z : List GuardedLetter). m ∷ z) h.4)

  -- a word that begins at y, of which the rest is such a tail
  rep_begin : (kind : WordKind) (m : GuardedLetter) (w : List GuardedLetter) (y : ℕ) → IsAmong y (firsts r at) → IsLetterAt r at y m → RepTail kind y w → RepeatedOf (Spells r at) kind (m ∷ w)
  rep_begin kind m w y f a (inl h) = once kind (m ∷ w) (y, f, a, h)
  rep_begin kind m w y f a (inr h) = rw h.4 (once_more kind (m ∷ h.0) h.1 (y, f, a, h.2) h.3)

  rep_tail : (kind : WordKind) (w : List GuardedLetter) (x : ℕ) → GoesOn (Follows (Repeated r) at) (IsLetterAt (Repeated r) at) (EndsPath (Repeated r) at kind) x w → RepTail kind x w
  rep_tail kind [] x h = inl (rep_target kind x h)
  rep_tail kind (m ∷ w) x h =
      elim h.1 [
        | inl f ↦ rep_step kind m w x h.0 f h.2 (rep_tail kind w h.0 h.3)
        | inr f ↦ inr ([], m ∷ w, f.0, rep_begin kind m w h.0 f.1 h.2 (rep_tail kind w h.0 h.3), refl)
      ]

  pub repeated_sound : (kind : WordKind) (w : List GuardedLetter) → Spells (Repeated r) at kind w → RepeatedOf (Spells r at) kind w
  repeated_sound kind [] h = once kind [] (rep_start kind h)
  repeated_sound kind (m ∷ w) h = rep_begin kind m w h.0 h.1 h.2 (rep_tail kind w h.0 h.3)

  inner : (T T' : ℕ → Type 0) → ((z : ℕ) → T z → T' z) → (v : List GuardedLetter) (x : ℕ) → GoesOn (Follows r at) (IsLetterAt r at) T x v → GoesOn (Follows (Repeated r) at) (IsLetterAt (Repeated r) at) T' x v
  inner T T' t v x h = stay (Follows r at) (Follows (Repeated r) at) (IsLetterAt r at) (IsLetterAt (Repeated r) at) T T' (λ z. Unit {0}) (λ y z p f. (inl f, tt)) (λ y n p i. i) (λ z p i. t z i) v x tt h

  last_target : (kind : WordKind) (z : ℕ) → IsLast r at z → AtStart (Repeated r) kind → EndsPath (Repeated r) at kind z
  last_target WholeWord z l h = l
  last_target WordPrefix z l h = tt
  last_target (LabelledPrefix k) z l h = absurd h

  across : (kind : WordKind) (v : List GuardedLetter) → Spells (Repeated r) at kind v → (z : ℕ) → IsLast r at z → GoesOn (Follows (Repeated r) at) (IsLetterAt (Repeated r) at) (EndsPath (Repeated r) at kind) z v
  across kind [] h z l = last_target kind z l h
  across kind (m ∷ v) h z l = (h.0, inr (l, h.1), h.2, h.3)

  rep_again : (kind : WordKind) (u v : List GuardedLetter) → Spells r at WholeWord u → Spells (Repeated r) at kind v → Spells (Repeated r) at kind (u ++ v)
  rep_again kind [] v g h = h
  rep_again kind (m ∷ u) v g h = (g.0, g.1, g.2, glue (Follows r at) (Follows (Repeated r) at) (IsLetterAt r at) (IsLetterAt (Repeated r) at) (IsLast r at) (EndsPath (Repeated r) at kind) (λ z. Unit {0}) (λ y z p f. (inl f, tt)) (λ y n p i. i) u v g.0 tt g.3 (λ z p l. across kind v h z l))

  rep_last : (kind : WordKind) (w : List GuardedLetter) → Spells r at kind w → Spells (Repeated r) at kind w
  rep_last kind [] h = start_rep kind h
  rep_last kind (m ∷ w) h = (h.0, h.1, h.2, inner (EndsPath r at kind) (EndsPath (Repeated r) at kind) (target_rep kind) w h.0 h.3)

  rep_rows : (kind : WordKind) (n : ℕ) (u v : List GuardedLetter) → IsRow (Spells r at WholeWord) n u → Spells r at kind v → Spells (Repeated r) at kind (u ++ v)
  rep_rows kind zero u v g h = rw g (rep_last kind v h)
  rep_rows kind (suc n) u v g h = rw (g.4, append_assoc g.0 g.1 v) (rep_again kind g.0 (g.1 ++ v) g.2 (rep_rows kind n g.1 v g.3 h))

  pub repeated_complete : (kind : WordKind) (w : List GuardedLetter) → RepeatedOf (Spells r at) kind w → Spells (Repeated r) at kind w
  repeated_complete kind w h = rw h.5 (rep_rows kind h.0 h.1 h.2 h.3 h.4)
