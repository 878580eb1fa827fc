-- Paths through the positions of a guard_added part: they begin at copies.
use Rattle.std.proofs.Common.{◌≡◌, ℕ, ◌+◌, List, [], ◌∷◌, inl, inr, refl, ap, arith, subst}
use Rattle.probe_words.specs.Guards.{Condition}
use Rattle.probe_words.specs.MarkedLetters.{GuardedLetter}
use Rattle.probe_words.specs.Core.{Core, FirstGuarded, heads_of, size_of, firsts, CopyOf, InPart, IsLast, HasLabel, IsLetterAt, Follows}
use Rattle.probe_words.specs.Paths.{GoesOn, EndsPath, AtStart, Spells}
use Rattle.probe_words.specs.WordKinds.{WordKind, WholeWord, WordPrefix, LabelledPrefix}
use Rattle.probe_words.proofs.Shapes.{guard_first_letter, FirstGuardedOf}
use Rattle.probe_words.proofs.PlaceLists.{copy_original, copy_place, copied_place, copied_original, copy_one}
use Rattle.probe_words.proofs.Ranges.{last_within, label_within, at_within, follow_within, copy_within, length-firsts}
use Rattle.probe_words.proofs.PathsOfSequences.{stay}

module _ (g : Condition) (r : Core) (at : ℕ) where
  abbrev from : ℕ
  from = at + size_of r

  one : (c x z : ℕ) → CopyOf r at c x → CopyOf r at c z → x ≡ z
  one c x z i j = copy_one (firsts r at) from c x z i j

  outside : (c x : ℕ) → CopyOf r at c x → InPart r at c → ⊥
  outside c x i p = let q = copy_within r at c x i in omega arith

  edge_back : (x y : ℕ) → InPart r at x → Follows (FirstGuarded g r) at x y → Follows r at x y × InPart r at y
  edge_back x y p (inl f) = (f, (follow_within r at x y f).1)
  edge_back x y p (inr f) = absurd (outside x f.0 f.1 p)

  at_back : (y : ℕ) (m : GuardedLetter) → InPart r at y → IsLetterAt (FirstGuarded g r) at y m → IsLetterAt r at y m
  at_back y m p (inl h) = h
  at_back y m p (inr h) = absurd (outside y h.0 h.2 p)

  target_back : (kind : WordKind) (z : ℕ) → InPart r at z → EndsPath (FirstGuarded g r) at kind z → EndsPath r at kind z
  target_back WholeWord z p (inl h) = h
  target_back WholeWord z p (inr h) = absurd (outside z h.0 h.1 p)
  target_back WordPrefix z p h = tt
  target_back (LabelledPrefix l) z p (inl h) = h
  target_back (LabelledPrefix l) z p (inr h) = absurd (outside z h.0 h.1 p)

  -- from a copy, as from what it copies
  copy_end : (kind : WordKind) (c x : ℕ) → CopyOf r at c x → EndsPath (FirstGuarded g r) at kind c → EndsPath r at kind x
  copy_end WholeWord c x i (inl h) = absurd (outside c x i (last_within r at c h))
  copy_end WholeWord c x i (inr h) = subst (λ (z : ℕ). IsLast r at z) (one c h.0 x h.1 i) h.2
  copy_end WordPrefix c x i h = tt
  copy_end (LabelledPrefix l) c x i (inl h) = absurd (outside c x i (label_within r at l c h))
  copy_end (LabelledPrefix l) c x i (inr h) = subst (λ (z : ℕ). HasLabel r at l z) (one c h.0 x h.1 i) h.2

  copy_edge : (c x y : ℕ) → CopyOf r at c x → Follows (FirstGuarded g r) at c y → Follows r at x y
  copy_edge c x y i (inl f) = absurd (outside c x i (follow_within r at c y f).0)
  copy_edge c x y i (inr f) = subst (λ (z : ℕ). Follows r at z y) (one c f.0 x f.1 i) f.2

  copy_on : (kind : WordKind) (w : List GuardedLetter) (c x : ℕ) → CopyOf r at c x → GoesOn (Follows (FirstGuarded g r) at) (IsLetterAt (FirstGuarded g r) at) (EndsPath (FirstGuarded g r) at kind) c w → GoesOn (Follows r at) (IsLetterAt r at) (EndsPath r at kind) x w
  copy_on kind [] c x i h = copy_end kind c x i h
  copy_on kind (m ∷ w) c x i h =
      let f = copy_edge c x h.0 i h.1 in
      let q = (follow_within r at x h.0 f).1 in
      (h.0, f, at_back h.0 m q h.2, stay (Follows (FirstGuarded g r) at) (Follows r at) (IsLetterAt (FirstGuarded g r) at) (IsLetterAt r at) (EndsPath (FirstGuarded g r) at kind) (EndsPath r at kind) (InPart r at) edge_back at_back (target_back kind) w h.0 q h.3)

  grd_start : (kind : WordKind) → AtStart (FirstGuarded g r) kind → AtStart r kind
  grd_start WholeWord h = h
  grd_start WordPrefix h = h
  grd_start (LabelledPrefix l) h = h

  pub guarded_sound : (kind : WordKind) (w : List GuardedLetter) → Spells (FirstGuarded g r) at kind w → FirstGuardedOf (Spells r at) g kind w
  guarded_sound kind [] h = ([], grd_start kind h, refl)
  guarded_sound kind (m ∷ w) h =
      elim h.2 [
        | inl i ↦ absurd (let o = copied_place (firsts r at) from (heads_of r) h.0 (length-firsts r at) h.1 in outside h.0 o.0 o.1 (at_within r at h.0 m i))
        | inr i ↦ (i.1 ∷ w, (i.0, copy_original (firsts r at) from h.0 i.0 i.2, i.3, copy_on kind w h.0 i.0 i.2 h.3), ap (λ (n : GuardedLetter). n ∷ w) i.4)
      ]

  edge_on : (x y : ℕ) → InPart r at x → Follows r at x y → Follows (FirstGuarded g r) at x y × InPart r at y
  edge_on x y p f = (inl f, (follow_within r at x y f).1)

  target_on : (kind : WordKind) (z : ℕ) → InPart r at z → EndsPath r at kind z → EndsPath (FirstGuarded g r) at kind z
  target_on WholeWord z p h = inl h
  target_on WordPrefix z p h = tt
  target_on (LabelledPrefix l) z p h = inl h

  end_copy : (kind : WordKind) (c x : ℕ) → CopyOf r at c x → EndsPath r at kind x → EndsPath (FirstGuarded g r) at kind c
  end_copy WholeWord c x i h = inr (x, i, h)
  end_copy WordPrefix c x i h = tt
  end_copy (LabelledPrefix l) c x i h = inr (x, i, h)

  on_copy : (kind : WordKind) (w : List GuardedLetter) (c x : ℕ) → CopyOf r at c x → GoesOn (Follows r at) (IsLetterAt r at) (EndsPath r at kind) x w → GoesOn (Follows (FirstGuarded g r) at) (IsLetterAt (FirstGuarded g r) at) (EndsPath (FirstGuarded g r) at kind) c w
  on_copy kind [] c x i h = end_copy kind c x i h
  on_copy kind (m ∷ w) c x i h =
      let q = (follow_within r at x h.0 h.1).1 in
      (h.0, inr (x, i, h.1), inl h.2, stay (Follows r at) (Follows (FirstGuarded g r) at) (IsLetterAt r at) (IsLetterAt (FirstGuarded g r) at) (EndsPath r at kind) (EndsPath (FirstGuarded g r) at kind) (InPart r at) edge_on (λ y n p i. inl i) (target_on kind) w h.0 q h.3)

  start_grd : (kind : WordKind) → AtStart r kind → AtStart (FirstGuarded g r) kind
  start_grd WholeWord h = h
  start_grd WordPrefix h = h
  start_grd (LabelledPrefix l) h = h

  grd_spells : (kind : WordKind) (v : List GuardedLetter) → Spells r at kind v → Spells (FirstGuarded g r) at kind (guard_first_letter g v)
  grd_spells kind [] h = start_grd kind h
  grd_spells kind (n ∷ v) h =
      let c = copied_original (firsts r at) from h.0 h.1 in
      (c.0, copy_place (firsts r at) from (heads_of r) c.0 h.0 (length-firsts r at) c.1, inr (h.0, n, c.1, h.2, refl), on_copy kind v c.0 h.0 c.1 h.3)

  pub guarded_complete : (kind : WordKind) (w : List GuardedLetter) → FirstGuardedOf (Spells r at) g kind w → Spells (FirstGuarded g r) at kind w
  guarded_complete kind w h = rw h.2 (grd_spells kind h.0 h.1)
