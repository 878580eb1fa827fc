-- Prefixes of words of a repeated part, and of one that can begin anew.
use Rattle.std.proofs.Common.{◌≡◌, ℕ, zero, suc, List, [], ◌∷◌, ◌++◌, inl, inr, refl, sym, ap, ◌∙◌, append_assoc, subst}
use Rattle.probe_words.specs.declared.letter.Letter.{Letter}
use Rattle.probe_words.specs.MarkedLetters.{GuardedLetter, MarkedLetter, without_guards}
use Rattle.probe_words.specs.WordKinds.{WordKind, WholeWord, WordPrefix, LabelledPrefix, LastHas, CutsAs, without_labels, IsOfKind}
use Rattle.probe_words.proofs.Shapes.{RepeatedOf, RestartedOf}
use Rattle.probe_words.specs.Words.{IsRow, IsFronts, unmarked, IsPrefixOf}
use Rattle.probe_words.proofs.KindsOfSequences.{split_append, append_nil, left_nil, marks-append, last_rest, tip_back}

whole_word : (W : List MarkedLetter → Type 0) (u v : List MarkedLetter) → v ≡ [] → W (u ++ v) → W u
whole_word W u v e h = subst (λ (z : List MarkedLetter). W z) (ap (λ (z : List MarkedLetter). u ++ z) e ∙ append_nil u) h

tip_cut : (kind : WordKind) (c : List MarkedLetter) (x : MarkedLetter) (z v : List MarkedLetter) → CutsAs kind (c ++ x ∷ z) v → CutsAs kind (x ∷ z) v
tip_cut WholeWord c x z v t = t
tip_cut WordPrefix c x z v t = tt
tip_cut (LabelledPrefix l) c x z v t = last_rest l c x z t

module _ (W : List MarkedLetter → Type 0) where
  abbrev RepeatedWord : List MarkedLetter → Type 0
  RepeatedWord w = (n : ℕ) × IsRow W (suc n) w

  once : (kind : WordKind) (w : List GuardedLetter) → IsOfKind W kind w → RepeatedOf (IsOfKind W) kind w
  once kind w h = (zero, [], w, refl, h, refl)

  -- u ends within a word
  within : (kind : WordKind) (u v z d : List MarkedLetter) (w : List GuardedLetter) → W (u ++ z) → v ≡ z ++ d → without_labels u ≡ w → CutsAs kind u v → RepeatedOf (IsOfKind W) kind w
  within WholeWord u v z d w g e m t = let p = left_nil z d (sym e ∙ t) in once WholeWord w (u, z, g, m, p.0)
  within WordPrefix u v z d w g e m t = once WordPrefix w (u, z, g, m, tt)
  within (LabelledPrefix l) u v z d w g e m t = once (LabelledPrefix l) w (u, z, g, m, t)

  more : (kind : WordKind) (c : List MarkedLetter) (w : List GuardedLetter) → W c → RepeatedOf (IsOfKind W) kind w → RepeatedOf (IsOfKind W) kind (without_labels c ++ w)
  more kind c w g (n, x, y, r, h, e) = (suc n, without_labels c ++ x, y, (without_labels c, x, (c, [], rw append_nil g, refl, refl), r, refl), h, rw e (sym (append_assoc (without_labels c) x y)))

  -- u ends after the word c
  later : (kind : WordKind) (u c z v : List MarkedLetter) → W c → u ≡ c ++ z → CutsAs kind u v → (CutsAs kind z v → RepeatedOf (IsOfKind W) kind (without_labels z)) → RepeatedOf (IsOfKind W) kind (without_labels u)
  later kind u c [] v g p t k = within kind u v [] v (without_labels u) (subst (λ (z : List MarkedLetter). W z) (sym (append_nil c) ∙ sym p ∙ sym (append_nil u)) g) refl refl t
  later kind u c (x ∷ z) v g p t k =
      rw p (rw marks-append (more kind c (without_labels (x ∷ z)) g (k (tip_cut kind c x z v (subst (λ (n : List MarkedLetter). CutsAs kind n v) p t)))))

  row_ends : (kind : WordKind) (n : ℕ) (u v : List MarkedLetter) → IsRow W (suc n) (u ++ v) → CutsAs kind u v → RepeatedOf (IsOfKind W) kind (without_labels u)
  row_ends kind zero u v (c, d, g, r, e) t = within kind u v v [] (without_labels u) (subst (λ (z : List MarkedLetter). W z) (sym (append_nil c) ∙ ap (λ (z : List MarkedLetter). c ++ z) (sym r) ∙ sym e) g) (sym (append_nil v)) refl t
  row_ends kind (suc n) u v (c, d, g, r, e) t =
      elim (split_append u v c d e) [
        | inl p ↦ later kind u c p.0 v g p.1 t (λ s. row_ends kind n p.0 v (subst (λ (z : List MarkedLetter). IsRow W (suc n) z) p.2 r) s)
        | inr p ↦ within kind u v p.0 d (without_labels u) (subst (λ (z : List MarkedLetter). W z) p.1 g) p.2 refl t
      ]

  pub repeated_ends : (kind : WordKind) (w : List GuardedLetter) → IsOfKind RepeatedWord kind w → RepeatedOf (IsOfKind W) kind w
  repeated_ends kind w (u, v, (n, r), m, t) = rw (← m) (row_ends kind n u v r t)

  rows : (n : ℕ) (x : List GuardedLetter) → IsRow (IsOfKind W WholeWord) n x → (p : List MarkedLetter) × IsRow W n p × (without_labels p ≡ x)
  rows zero x e = ([], refl, sym e)
  rows (suc n) x (a, b, (u, v, g, m, t), r, e) =
      let q = rows n b r in
      (u ++ q.0, (u, q.0, whole_word W u v t g, q.1, refl), marks-append u q.0 ∙ rw (m, q.2, e) refl)

  snoc_row : (n : ℕ) (p z : List MarkedLetter) → IsRow W n p → W z → IsRow W (suc n) (p ++ z)
  snoc_row zero p z e g = (z, [], g, refl, rw e (sym (append_nil z)))
  snoc_row (suc n) p z (a, b, h, r, e) g = (a, b ++ z, h, snoc_row n b z r g, rw e (append_assoc a b z))

  pub ends_repeated : (kind : WordKind) (w : List GuardedLetter) → RepeatedOf (IsOfKind W) kind w → IsOfKind RepeatedWord kind w
  ends_repeated kind w (n, x, y, r, (u, v, g, m, t), e) =
      let q = rows n x r in
      (q.0 ++ u, v, (n, rw append_assoc (snoc_row n q.0 (u ++ v) q.1 g)), marks-append q.0 u ∙ rw (q.2, m, e) refl, tip_back kind q.0 u v t)

module _ (W : List MarkedLetter → Type 0) (a : Letter) where
  abbrev Anew : List MarkedLetter → Type 0
  Anew w = (n : ℕ) × (u v : List MarkedLetter) × IsFronts (IsPrefixOf W) (unmarked a) n u × W v × (w ≡ u ++ v)

  at_last : (kind : WordKind) (w : List GuardedLetter) → IsOfKind W kind w → RestartedOf (IsOfKind W) a kind w
  at_last kind w h = (zero, [], w, refl, h, refl)

  anew : (kind : WordKind) (p : List MarkedLetter) (w : List GuardedLetter) → IsPrefixOf W p → RestartedOf (IsOfKind W) a kind w → RestartedOf (IsOfKind W) a kind (without_labels p ++ without_guards a ∷ w)
  anew kind p w (q, g) (n, x, y, r, h, e) = (suc n, without_labels p ++ without_guards a ∷ x, y, (without_labels p, x, (p, q, g, refl, tt), r, refl), h, rw e (sym (append_assoc (without_labels p) (without_guards a ∷ x) y)))

  -- u ends within a prefix, after which the letter a follows
  inside : (kind : WordKind) (u v z : List MarkedLetter) (d : List MarkedLetter) → IsPrefixOf W (u ++ z) → v ≡ z ++ unmarked a ∷ d → CutsAs kind u v → RestartedOf (IsOfKind W) a kind (without_labels u)
  inside WholeWord u v [] d h e t = cc
  inside WholeWord u v (x ∷ z) d h e t = cc
  inside WordPrefix u v z d (q, g) e t = at_last WordPrefix (without_labels u) (u, z ++ q, rw append_assoc at g, refl, tt)
  inside (LabelledPrefix l) u v z d (q, g) e t = at_last (LabelledPrefix l) (without_labels u) (u, z ++ q, rw append_assoc at g, refl, t)

  no_label : (l : ℕ) (p : List MarkedLetter) → LastHas l (p ++ unmarked a ∷ []) → ⊥
  no_label l [] h = h
  no_label l (x ∷ []) h = h
  no_label l (x ∷ y ∷ p) h = no_label l (y ∷ p) h

  tip_after : (kind : WordKind) (p z v : List MarkedLetter) → CutsAs kind (p ++ unmarked a ∷ z) v → CutsAs kind z v
  tip_after WholeWord p z v t = t
  tip_after WordPrefix p z v t = tt
  tip_after (LabelledPrefix l) p [] v t = absurd (no_label l p t)
  tip_after (LabelledPrefix l) p (x ∷ z) v t = last_rest l [] x z (last_rest l (unmarked a ∷ []) x z (last_rest l p (unmarked a) (x ∷ z) t))

  -- u ends after a prefix p: right there, or after the letter a
  behind : (kind : WordKind) (u p z v d : List MarkedLetter) → IsPrefixOf W p → u ≡ p ++ z → unmarked a ∷ d ≡ z ++ v → CutsAs kind u v → ((y : List MarkedLetter) → d ≡ y ++ v → CutsAs kind y v → RestartedOf (IsOfKind W) a kind (without_labels y)) → RestartedOf (IsOfKind W) a kind (without_labels u)
  behind kind u p [] v d h e f t k = inside kind u v [] d (subst (λ (n : List MarkedLetter). IsPrefixOf W n) (sym (append_nil p) ∙ sym e ∙ sym (append_nil u)) h) (sym f) t
  behind kind u p (x ∷ z) v d h e f t k =
      let i : x ≡ unmarked a = cc in
      let j : d ≡ z ++ v = cc in
      let s : u ≡ p ++ unmarked a ∷ z = e ∙ ap (λ (n : MarkedLetter). p ++ n ∷ z) i in
      rw s (rw marks-append (anew kind p (without_labels z) h (k z j (tip_after kind p z v (subst (λ (n : List MarkedLetter). CutsAs kind n v) s t)))))

  fronts_end : (kind : WordKind) (n : ℕ) (u v f y : List MarkedLetter) → IsFronts (IsPrefixOf W) (unmarked a) n f → W y → u ++ v ≡ f ++ y → CutsAs kind u v → RestartedOf (IsOfKind W) a kind (without_labels u)
  fronts_end kind zero u v f y r g e t = at_last kind (without_labels u) (u, v, subst (λ (z : List MarkedLetter). W z) (sym (e ∙ ap (λ (z : List MarkedLetter). z ++ y) r)) g, refl, t)
  fronts_end kind (suc n) u v f y (p, q, h, r, d) g e t =
      let s : u ++ v ≡ p ++ unmarked a ∷ (q ++ y) = e ∙ ap (λ (z : List MarkedLetter). z ++ y) d ∙ append_assoc p (unmarked a ∷ q) y in
      elim (split_append u v p (unmarked a ∷ (q ++ y)) s) [
        | inl i ↦ behind kind u p i.0 v (q ++ y) h i.1 i.2 t (λ z j k. fronts_end kind n z v q y r g (sym j) k)
        | inr i ↦ inside kind u v i.0 (q ++ y) (subst (λ (z : List MarkedLetter). IsPrefixOf W z) i.1 h) i.2 t
      ]

  pub reset_ends : (kind : WordKind) (w : List GuardedLetter) → IsOfKind Anew kind w → RestartedOf (IsOfKind W) a kind w
  reset_ends kind w (u, v, (n, f, y, r, g, e), m, t) = rw (← m) (fronts_end kind n u v f y r g e t)

  fronts : (n : ℕ) (x : List GuardedLetter) → IsFronts (IsOfKind W WordPrefix) (without_guards a) n x → (p : List MarkedLetter) × IsFronts (IsPrefixOf W) (unmarked a) n p × (without_labels p ≡ x)
  fronts zero x e = ([], refl, sym e)
  fronts (suc n) x (y, b, (u, v, g, m, t), r, e) =
      let q = fronts n b r in
      (u ++ unmarked a ∷ q.0, (u, q.0, (v, g), q.1, refl), marks-append u (unmarked a ∷ q.0) ∙ rw (m, q.2, e) refl)

  pub ends_reset : (kind : WordKind) (w : List GuardedLetter) → RestartedOf (IsOfKind W) a kind w → IsOfKind Anew kind w
  ends_reset kind w (n, x, y, r, (u, v, g, m, t), e) =
      let q = fronts n x r in
      (q.0 ++ u, v, (n, q.0, u ++ v, q.1, g, append_assoc q.0 u v), marks-append q.0 u ∙ rw (q.2, m, e) refl, tip_back kind q.0 u v t)
