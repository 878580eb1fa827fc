-- Paths through the positions of a part that can begin anew.
use Rattle.std.proofs.Common.{◌≡◌, ℕ, zero, suc, ◌+◌, List, [], ◌∷◌, ◌++◌, ◌⊎◌, inl, inr, refl, sym, ap, arith, append_assoc, subst}
use Rattle.probe_words.specs.declared.letter.Letter.{Letter}
use Rattle.probe_words.specs.MarkedLetters.{IsAmong, GuardedLetter, without_guards}
use Rattle.probe_words.specs.Core.{Core, Restarted, size_of, firsts, InPart, IsLetterAt, Follows}
use Rattle.probe_words.specs.Paths.{GoesOn, EndsPath, AtStart, Spells}
use Rattle.probe_words.specs.WordKinds.{WordKind, WholeWord, WordPrefix, LabelledPrefix}
use Rattle.probe_words.proofs.Shapes.{RestartedOf}
use Rattle.probe_words.specs.Words.{IsFronts}
use Rattle.probe_words.proofs.PlaceLists.{among_front, among_back, among_either}
use Rattle.probe_words.proofs.Ranges.{first_within, last_within, label_within, at_within, follow_within}
use Rattle.probe_words.proofs.PathsOfSequences.{glue, stay}

module _ (r : Core) (a : Letter) (at : ℕ) where
  abbrev new : ℕ
  new = at + size_of r

  abbrev On : WordKind → ℕ → List GuardedLetter → Type 0
  On kind x w = GoesOn (Follows (Restarted r a) at) (IsLetterAt (Restarted r a) at) (EndsPath (Restarted r a) at kind) x w

  abbrev Outcome : WordKind → List GuardedLetter → Type 0
  Outcome kind w = RestartedOf (Spells r at) a kind w

  -- from a position of r: the path stays there, or reaches the new position
  abbrev ResTail : WordKind → ℕ → List GuardedLetter → Type 0
  ResTail kind x w = GoesOn (Follows r at) (IsLetterAt r at) (EndsPath r at kind) x w ⊎ ((u v : List GuardedLetter) × GoesOn (Follows r at) (IsLetterAt r at) (λ z. Unit {0}) x u × Outcome kind v × (w ≡ u ++ without_guards a ∷ v))

  last_front : (kind : WordKind) (w : List GuardedLetter) → Spells r at kind w → Outcome kind w
  last_front kind w h = (zero, [], w, refl, h, refl)

  one_more : (kind : WordKind) (u v : List GuardedLetter) → Spells r at WordPrefix u → Outcome kind v → Outcome kind (u ++ without_guards a ∷ v)
  one_more kind u v g h = (suc h.0, u ++ without_guards a ∷ h.1, h.2, (u, h.1, g, h.3, refl), h.4, rw h.5 (sym (append_assoc u (without_guards a ∷ h.1) h.2)))

  end_here : (kind : WordKind) (x : ℕ) → InPart r at x → EndsPath (Restarted r a) at kind x → EndsPath r at kind x
  end_here WholeWord x p (inl h) = h
  end_here WholeWord x p (inr h) = absurd (omega arith)
  end_here WordPrefix x p h = tt
  end_here (LabelledPrefix l) x p h = h

  end_new : (kind : WordKind) → EndsPath (Restarted r a) at kind new → AtStart r kind
  end_new WholeWord (inl h) = absurd (let q = last_within r at new h in omega arith)
  end_new WholeWord (inr h) = h.1
  end_new WordPrefix h = tt
  end_new (LabelledPrefix l) h = absurd (let q = label_within r at l new h in omega arith)

  at_here : (y : ℕ) (m : GuardedLetter) → InPart r at y → IsLetterAt (Restarted r a) at y m → IsLetterAt r at y m
  at_here y m p (inl h) = h
  at_here y m p (inr h) = absurd (omega arith)

  at_new : (y : ℕ) (m : GuardedLetter) → y ≡ new → IsLetterAt (Restarted r a) at y m → m ≡ without_guards a
  at_new y m e (inl h) = absurd (let q = at_within r at y m h in omega arith)
  at_new y m e (inr h) = h.1

  res_step : (kind : WordKind) (m : GuardedLetter) (w : List GuardedLetter) (x y : ℕ) → Follows r at x y → IsLetterAt r at y m → ResTail kind y w → ResTail kind x (m ∷ w)
  res_step kind m w x y f i (inl h) = inl (y, f, i, h)
  res_step kind m w x y f i (inr h) = inr (m ∷ h.0, h.1, (y, f, i, h.2), h.3, ap (λ (z : List GuardedLetter). m ∷ z) h.4)

  res_begin : (kind : WordKind) (m : GuardedLetter) (w : List GuardedLetter) (y : ℕ) → IsAmong y (firsts r at) → IsLetterAt r at y m → ResTail kind y w → Outcome kind (m ∷ w)
  res_begin kind m w y f i (inl h) = last_front kind (m ∷ w) (y, f, i, h)
  res_begin kind m w y f i (inr h) = rw h.4 (one_more kind (m ∷ h.0) h.1 (y, f, i, h.2) h.3)

  abbrev Both : WordKind → List GuardedLetter → Type 0
  Both kind w = ((x : ℕ) → InPart r at x → On kind x w → ResTail kind x w) × (On kind new w → Outcome kind w)

  -- the next letter, from a position of r
  step_here : (kind : WordKind) (m : GuardedLetter) (w : List GuardedLetter) (x y : ℕ) → Both kind w → InPart r at x → Follows (Restarted r a) at x y → IsLetterAt (Restarted r a) at y m → On kind y w → ResTail kind x (m ∷ w)
  step_here kind m w x y ih p (inl f) i h = let q = (follow_within r at x y f).1 in res_step kind m w x y f (at_here y m q i) (ih.0 y q h)
  step_here kind m w x y ih p (inr (inl f)) i h =
      inr ([], w, tt, ih.1 (subst (λ (z : ℕ). On kind z w) f.1 h), ap (λ (n : GuardedLetter). n ∷ w) (at_new y m f.1 i))
  step_here kind m w x y ih p (inr (inr f)) i h = absurd (omega arith)

  -- the next letter, from the new position
  step_new : (kind : WordKind) (m : GuardedLetter) (w : List GuardedLetter) (y : ℕ) → Both kind w → Follows (Restarted r a) at new y → IsLetterAt (Restarted r a) at y m → On kind y w → Outcome kind (m ∷ w)
  step_new kind m w y ih (inl f) i h = absurd (let q = (follow_within r at new y f).0 in omega arith)
  step_new kind m w y ih (inr (inl f)) i h =
      rw (at_new y m f.1 i) (one_more kind [] w tt (ih.1 (subst (λ (z : ℕ). On kind z w) f.1 h)))
  step_new kind m w y ih (inr (inr f)) i h = let q = first_within r at y f.1 in res_begin kind m w y f.1 (at_here y m q i) (ih.0 y q h)

  both : (kind : WordKind) (w : List GuardedLetter) → Both kind w
  both kind [] = (λ x p h. inl (end_here kind x p h), λ h. last_front kind [] (end_new kind h))
  both kind (m ∷ w) = let ih = both kind w in (
    λ x p h. step_here kind m w x h.0 ih p h.1 h.2 h.3,
    λ h. step_new kind m w h.0 ih h.1 h.2 h.3,
  )

  -- what begins at the start goes on from the new position, and the other way round
  new_end : (kind : WordKind) → AtStart (Restarted r a) kind → EndsPath (Restarted r a) at kind new
  new_end WholeWord h = inr (refl, h)
  new_end WordPrefix h = tt
  new_end (LabelledPrefix l) h = absurd h

  new_within : InPart (Restarted r a) at new
  new_within = (omega arith, omega arith)

  as_new : (kind : WordKind) (w : List GuardedLetter) → Spells (Restarted r a) at kind w → On kind new w
  as_new kind [] h = new_end kind h
  as_new kind (m ∷ w) h =
      elim (among_either h.0 (firsts r at) ((at + size_of r) ∷ []) h.1) [
        | inl f ↦ (h.0, inr (inr (refl, f)), h.2, h.3)
        | inr (inl f) ↦ (h.0, inr (inl (new_within, f)), h.2, h.3)
        | inr (inr f) ↦ absurd f
      ]

  end_start : (kind : WordKind) → EndsPath (Restarted r a) at kind new → AtStart (Restarted r a) kind
  end_start WholeWord (inl h) = absurd (let q = last_within r at new h in omega arith)
  end_start WholeWord (inr h) = h.1
  end_start WordPrefix h = tt
  end_start (LabelledPrefix l) h = absurd (let q = label_within r at l new h in omega arith)

  from_new : (kind : WordKind) (w : List GuardedLetter) → On kind new w → Spells (Restarted r a) at kind w
  from_new kind [] h = end_start kind h
  from_new kind (m ∷ w) h =
      elim h.1 [
        | inl f ↦ absurd (let q = (follow_within r at new h.0 f).0 in omega arith)
        | inr (inl f) ↦ (h.0, among_back h.0 (firsts r at) ((at + size_of r) ∷ []) (inl f.1), h.2, h.3)
        | inr (inr f) ↦ (h.0, among_front h.0 (firsts r at) ((at + size_of r) ∷ []) f.1, h.2, h.3)
      ]

  pub reset_sound : (kind : WordKind) (w : List GuardedLetter) → Spells (Restarted r a) at kind w → RestartedOf (Spells r at) a kind w
  reset_sound kind w h = (both kind w).1 (as_new kind w h)

  here_end : (kind : WordKind) (z : ℕ) → InPart r at z → EndsPath r at kind z → EndsPath (Restarted r a) at kind z
  here_end WholeWord z p h = inl h
  here_end WordPrefix z p h = tt
  here_end (LabelledPrefix l) z p h = h

  start_end : (kind : WordKind) → AtStart r kind → EndsPath (Restarted r a) at kind new
  start_end WholeWord h = inr (refl, h)
  start_end WordPrefix h = tt
  start_end (LabelledPrefix l) h = absurd h

  edge : (x y : ℕ) → InPart r at x → Follows r at x y → Follows (Restarted r a) at x y × InPart r at y
  edge x y p f = (inl f, (follow_within r at x y f).1)

  last_on : (kind : WordKind) (v : List GuardedLetter) → Spells r at kind v → On kind new v
  last_on kind [] h = start_end kind h
  last_on kind (m ∷ v) h =
      let q = first_within r at h.0 h.1 in
      (h.0, inr (inr (refl, h.1)), inl h.2, stay (Follows r at) (Follows (Restarted r a) at) (IsLetterAt r at) (IsLetterAt (Restarted r a) at) (EndsPath r at kind) (EndsPath (Restarted r a) at kind) (InPart r at) edge (λ y n p i. inl i) (here_end kind) v h.0 q h.3)

  begin_anew : (kind : WordKind) (v : List GuardedLetter) → On kind new v → (z : ℕ) → InPart (Restarted r a) at z → On kind z (without_guards a ∷ v)
  begin_anew kind v h z p = (new, inr (inl (p, refl)), inr (refl, refl), h)

  front_on : (kind : WordKind) (u v : List GuardedLetter) → Spells r at WordPrefix u → On kind new v → On kind new (u ++ without_guards a ∷ v)
  front_on kind [] v g h = begin_anew kind v h new new_within
  front_on kind (m ∷ u) v g h =
      let q = first_within r at g.0 g.1 in (
        g.0,
        inr (inr (refl, g.1)),
        inl g.2,
        glue (Follows r at) (Follows (Restarted r a) at) (IsLetterAt r at) (IsLetterAt (Restarted r a) at) (λ z. Unit {0}) (EndsPath (Restarted r a) at kind) (InPart r at) edge (λ y n p i. inl i) u (without_guards a ∷ v) g.0 q g.3 (λ z p i. begin_anew kind v h z (omega arith, omega arith)),
      )

  fronts_on : (kind : WordKind) (n : ℕ) (u v : List GuardedLetter) → IsFronts (Spells r at WordPrefix) (without_guards a) n u → Spells r at kind v → On kind new (u ++ v)
  fronts_on kind zero u v g h = rw g (last_on kind v h)
  fronts_on kind (suc n) u v g h = rw (g.4, append_assoc g.0 (without_guards a ∷ g.1) v) (front_on kind g.0 (g.1 ++ v) g.2 (fronts_on kind n g.1 v g.3 h))

  pub reset_complete : (kind : WordKind) (w : List GuardedLetter) → RestartedOf (Spells r at) a kind w → Spells (Restarted r a) at kind w
  reset_complete kind w h = from_new kind w (rw h.5 (fronts_on kind h.0 h.1 h.2 h.3 h.4))
