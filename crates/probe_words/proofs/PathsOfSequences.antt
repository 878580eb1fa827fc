-- Paths through the positions of each constructor, by those of its parts.
use Rattle.std.proofs.Common.{◌≡◌, ℕ, ◌+◌, List, [], ◌∷◌, ◌++◌, ◌⊎◌, inl, inr, refl, ap, arith}
use Rattle.probe_words.specs.MarkedLetters.{GuardedLetter}
use Rattle.probe_words.specs.Core.{Core, Sequence, empty_of, list_if, size_of, firsts, InPart, IsLast, IsLetterAt, Follows}
use Rattle.probe_words.specs.Paths.{GoesOn, EndsPath, AtStart, Spells}
use Rattle.probe_words.specs.WordKinds.{WordKind, WholeWord, WordPrefix, LabelledPrefix}
use Rattle.probe_words.proofs.Shapes.{IsPartial, SequenceOf}
use Rattle.probe_words.proofs.PlaceLists.{among_front, among_back, among_either, among_only_if, only_if_among, true_both, both_true}
use Rattle.probe_words.proofs.Ranges.{first_within, last_within, label_within, at_within, follow_within}

module _ (F F' : ℕ → ℕ → Type 0) (A A' : ℕ → GuardedLetter → Type 0) (T T' : ℕ → Type 0) (S : ℕ → Type 0) (f : (x y : ℕ) → S x → F x y → F' x y × S y) (a : (y : ℕ) (m : GuardedLetter) → S y → A y m → A' y m) where
  -- a path of one graph, and what goes on from its end in another
  pub glue : (v w : List GuardedLetter) (x : ℕ) → S x → GoesOn F A T x v → ((z : ℕ) → S z → T z → GoesOn F' A' T' z w) → GoesOn F' A' T' x (v ++ w)
  glue [] w x s h k = k x s h
  glue (m ∷ v) w x s h k =
      let g = f x h.0 s h.1 in
      (h.0, g.0, a h.0 m g.1 h.2, glue v w h.0 g.1 h.3 k)

  -- a path of one graph is a path of another, as long as it stays
  pub stay : ((z : ℕ) → S z → T z → T' z) → (v : List GuardedLetter) (x : ℕ) → S x → GoesOn F A T x v → GoesOn F' A' T' x v
  stay t [] x s h = t x s h
  stay t (m ∷ v) x s h =
      let g = f x h.0 s h.1 in
      (h.0, g.0, a h.0 m g.1 h.2, stay t v h.0 g.1 h.3)

-- ---- sequences

module _ (r s : Core) (at : ℕ) where
  at_left : (y : ℕ) (m : GuardedLetter) → InPart r at y → IsLetterAt (Sequence r s) at y m → IsLetterAt r at y m
  at_left y m p (inl h) = h
  at_left y m p (inr h) = absurd (let q = at_within s (at + size_of r) y m h in omega arith)

  at_right : (y : ℕ) (m : GuardedLetter) → InPart s (at + size_of r) y → IsLetterAt (Sequence r s) at y m → IsLetterAt s (at + size_of r) y m
  at_right y m p (inl h) = absurd (let q = at_within r at y m h in omega arith)
  at_right y m p (inr h) = h

  follow_right : (x y : ℕ) → InPart s (at + size_of r) x → Follows (Sequence r s) at x y → Follows s (at + size_of r) x y × InPart s (at + size_of r) y
  follow_right x y p (inl h) = absurd (let q = follow_within r at x y h in omega arith)
  follow_right x y p (inr (inl h)) = (h, (follow_within s (at + size_of r) x y h).1)
  follow_right x y p (inr (inr h)) = absurd (let q = last_within r at x h.0 in omega arith)

  target_right : (kind : WordKind) (z : ℕ) → InPart s (at + size_of r) z → EndsPath (Sequence r s) at kind z → EndsPath s (at + size_of r) kind z
  target_right WholeWord z p (inl h) = absurd (let q = last_within r at z h.0 in omega arith)
  target_right WholeWord z p (inr h) = h
  target_right WordPrefix z p h = tt
  target_right (LabelledPrefix l) z p (inl h) = absurd (let q = label_within r at l z h in omega arith)
  target_right (LabelledPrefix l) z p (inr h) = h

  on_right : (kind : WordKind) (v : List GuardedLetter) (x : ℕ) → InPart s (at + size_of r) x → GoesOn (Follows (Sequence r s) at) (IsLetterAt (Sequence r s) at) (EndsPath (Sequence r s) at kind) x v → GoesOn (Follows s (at + size_of r)) (IsLetterAt s (at + size_of r)) (EndsPath s (at + size_of r) kind) x v
  on_right kind = stay (Follows (Sequence r s) at) (Follows s (at + size_of r)) (IsLetterAt (Sequence r s) at) (IsLetterAt s (at + size_of r)) (EndsPath (Sequence r s) at kind) (EndsPath s (at + size_of r) kind) (InPart s (at + size_of r)) follow_right at_right (target_right kind)

  abbrev SeqTail : WordKind → ℕ → List GuardedLetter → Type 0
  SeqTail kind x w = (IsPartial kind × GoesOn (Follows r at) (IsLetterAt r at) (EndsPath r at kind) x w) ⊎ ((u v : List GuardedLetter) × GoesOn (Follows r at) (IsLetterAt r at) (IsLast r at) x u × Spells s (at + size_of r) kind v × (w ≡ u ++ v))

  seq_end : (kind : WordKind) (x : ℕ) → InPart r at x → EndsPath (Sequence r s) at kind x → SeqTail kind x []
  seq_end WholeWord x p (inl h) = inr ([], [], h.0, h.1, refl)
  seq_end WholeWord x p (inr h) = absurd (let q = last_within s (at + size_of r) x h in omega arith)
  seq_end WordPrefix x p h = inl (tt, tt)
  seq_end (LabelledPrefix l) x p (inl h) = inl (tt, h)
  seq_end (LabelledPrefix l) x p (inr h) = absurd (let q = label_within s (at + size_of r) l x h in omega arith)

  seq_step : (kind : WordKind) (m : GuardedLetter) (w : List GuardedLetter) (x y : ℕ) → Follows r at x y → IsLetterAt r at y m → SeqTail kind y w → SeqTail kind x (m ∷ w)
  seq_step kind m w x y f a (inl h) = inl (h.0, (y, f, a, h.1))
  seq_step kind m w x y f a (inr h) = inr (m ∷ h.0, h.1, (y, f, a, h.2), h.3, ap (λ (z : List GuardedLetter). m ∷ z) h.4)

  seq_tail : (kind : WordKind) (w : List GuardedLetter) (x : ℕ) → InPart r at x → GoesOn (Follows (Sequence r s) at) (IsLetterAt (Sequence r s) at) (EndsPath (Sequence r s) at kind) x w → SeqTail kind x w
  seq_tail kind [] x p h = seq_end kind x p h
  seq_tail kind (m ∷ w) x p h =
      elim h.1 [
        | inl f ↦ (let q = (follow_within r at x h.0 f).1 in seq_step kind m w x h.0 f (at_left h.0 m q h.2) (seq_tail kind w h.0 q h.3))
        | inr (inl f) ↦ absurd (let q = follow_within s (at + size_of r) x h.0 f in omega arith)
        | inr (inr f) ↦ (let q = first_within s (at + size_of r) h.0 f.1 in inr ([], m ∷ w, f.0, (h.0, f.1, at_right h.0 m q h.2, on_right kind w h.0 q h.3), refl))
      ]

  seq_start : (kind : WordKind) → AtStart (Sequence r s) kind → SequenceOf (Spells r at) (Spells s (at + size_of r)) kind []
  seq_start WholeWord h = let p = both_true (empty_of r) (empty_of s) h in inr ([], [], p.0, p.1, refl)
  seq_start WordPrefix h = inl (tt, tt)
  seq_start (LabelledPrefix l) h = absurd h

  pub sequence_sound : (kind : WordKind) (w : List GuardedLetter) → Spells (Sequence r s) at kind w → SequenceOf (Spells r at) (Spells s (at + size_of r)) kind w
  sequence_sound kind [] h = seq_start kind h
  sequence_sound kind (m ∷ w) h =
      elim (among_either h.0 (firsts r at) (list_if (empty_of r) (firsts s (at + size_of r))) h.1) [
        | inl f ↦ (
            let q = first_within r at h.0 f in
            elim (seq_tail kind w h.0 q h.3) [
              | inl t ↦ inl (t.0, (h.0, f, at_left h.0 m q h.2, t.1))
              | inr t ↦ inr (m ∷ t.0, t.1, (h.0, f, at_left h.0 m q h.2, t.2), t.3, ap (λ (z : List GuardedLetter). m ∷ z) t.4)
            ])
        | inr f ↦ (
            let g = among_only_if (empty_of r) h.0 (firsts s (at + size_of r)) f in
            let q = first_within s (at + size_of r) h.0 g.1 in
            inr ([], m ∷ w, g.0, (h.0, g.1, at_right h.0 m q h.2, on_right kind w h.0 q h.3), refl))
      ]

  left_edge : (x y : ℕ) → InPart r at x → Follows r at x y → Follows (Sequence r s) at x y × InPart r at y
  left_edge x y p f = (inl f, (follow_within r at x y f).1)

  right_edge : (x y : ℕ) → InPart s (at + size_of r) x → Follows s (at + size_of r) x y → Follows (Sequence r s) at x y × InPart s (at + size_of r) y
  right_edge x y p f = (inr (inl f), (follow_within s (at + size_of r) x y f).1)

  partial_target : (kind : WordKind) → IsPartial kind → (z : ℕ) → InPart r at z → EndsPath r at kind z → EndsPath (Sequence r s) at kind z
  partial_target WholeWord k z p h = absurd k
  partial_target WordPrefix k z p h = tt
  partial_target (LabelledPrefix l) k z p h = inl h

  right_target : (kind : WordKind) (z : ℕ) → InPart s (at + size_of r) z → EndsPath s (at + size_of r) kind z → EndsPath (Sequence r s) at kind z
  right_target WholeWord z p h = inr h
  right_target WordPrefix z p h = tt
  right_target (LabelledPrefix l) z p h = inr h

  last_target : (kind : WordKind) (z : ℕ) → IsLast r at z → AtStart s kind → EndsPath (Sequence r s) at kind z
  last_target WholeWord z l h = inl (l, h)
  last_target WordPrefix z l h = tt
  last_target (LabelledPrefix k) z l h = absurd h

  from_right : (kind : WordKind) (v : List GuardedLetter) (x : ℕ) → InPart s (at + size_of r) x → GoesOn (Follows s (at + size_of r)) (IsLetterAt s (at + size_of r)) (EndsPath s (at + size_of r) kind) x v → GoesOn (Follows (Sequence r s) at) (IsLetterAt (Sequence r s) at) (EndsPath (Sequence r s) at kind) x v
  from_right kind = stay (Follows s (at + size_of r)) (Follows (Sequence r s) at) (IsLetterAt s (at + size_of r)) (IsLetterAt (Sequence r s) at) (EndsPath s (at + size_of r) kind) (EndsPath (Sequence r s) at kind) (InPart s (at + size_of r)) right_edge (λ y m p h. inr h) (right_target kind)

  -- from a last position of r a word of s goes on
  across : (kind : WordKind) (v : List GuardedLetter) → Spells s (at + size_of r) kind v → (z : ℕ) → InPart r at z → IsLast r at z → GoesOn (Follows (Sequence r s) at) (IsLetterAt (Sequence r s) at) (EndsPath (Sequence r s) at kind) z v
  across kind [] h z p l = last_target kind z l h
  across kind (m ∷ v) h z p l =
      let q = first_within s (at + size_of r) h.0 h.1 in
      (h.0, inr (inr (l, h.1)), inr h.2, from_right kind v h.0 q h.3)

  seq_both : (kind : WordKind) (u v : List GuardedLetter) → Spells r at WholeWord u → Spells s (at + size_of r) kind v → Spells (Sequence r s) at kind (u ++ v)
  seq_both WholeWord [] [] e h = true_both (empty_of r) (empty_of s) e h
  seq_both WordPrefix [] [] e h = tt
  seq_both (LabelledPrefix l) [] [] e h = absurd h
  seq_both kind [] (m ∷ v) e h =
      let q = first_within s (at + size_of r) h.0 h.1 in
      (h.0, among_back h.0 (firsts r at) (list_if (empty_of r) (firsts s (at + size_of r))) (only_if_among (empty_of r) h.0 (firsts s (at + size_of r)) e h.1), inr h.2, from_right kind v h.0 q h.3)
  seq_both kind (m ∷ u) v g h =
      let q = first_within r at g.0 g.1 in (
        g.0,
        among_front g.0 (firsts r at) (list_if (empty_of r) (firsts s (at + size_of r))) g.1,
        inl g.2,
        glue (Follows r at) (Follows (Sequence r s) at) (IsLetterAt r at) (IsLetterAt (Sequence r s) at) (IsLast r at) (EndsPath (Sequence r s) at kind) (InPart r at) left_edge (λ y n p k. inl k) u v g.0 q g.3 (across kind v h),
      )

  seq_left : (kind : WordKind) (w : List GuardedLetter) → IsPartial kind → Spells r at kind w → Spells (Sequence r s) at kind w
  seq_left WholeWord w k h = absurd k
  seq_left WordPrefix [] k h = tt
  seq_left (LabelledPrefix l) [] k h = absurd h
  seq_left kind (m ∷ w) k h =
      let q = first_within r at h.0 h.1 in (
        h.0,
        among_front h.0 (firsts r at) (list_if (empty_of r) (firsts s (at + size_of r))) h.1,
        inl h.2,
        stay (Follows r at) (Follows (Sequence r s) at) (IsLetterAt r at) (IsLetterAt (Sequence r s) at) (EndsPath r at kind) (EndsPath (Sequence r s) at kind) (InPart r at) left_edge (λ y n p k. inl k) (partial_target kind k) w h.0 q h.3,
      )

  pub sequence_complete : (kind : WordKind) (w : List GuardedLetter) → SequenceOf (Spells r at) (Spells s (at + size_of r)) kind w → Spells (Sequence r s) at kind w
  sequence_complete kind w (inl h) = seq_left kind w h.0 h.1
  sequence_complete kind w (inr h) = rw h.4 (seq_both kind h.0 h.1 h.2 h.3)
