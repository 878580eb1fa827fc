-- Prefixes of words of a labelled and of a guard_added part.
use Rattle.std.proofs.Common.{◌≡◌, ◌≢◌, ℕ, List, [], ◌∷◌, ◌++◌, ◌⊎◌, inl, inr, refl, sym, ap, ◌∙◌, subst}
use Rattle.probe_words.specs.Guards.{Condition}
use Rattle.probe_words.specs.MarkedLetters.{IsAmong, GuardedLetter, MarkedLetter}
use Rattle.probe_words.specs.WordKinds.{WordKind, WholeWord, WordPrefix, LabelledPrefix, LastHas, CutsAs, without_labels, IsOfKind}
use Rattle.probe_words.proofs.Shapes.{guard_first_letter, LastLabelledOf, FirstGuardedOf}
use Rattle.probe_words.specs.Words.{with_guard, label_last, guard_first}
use Rattle.probe_words.proofs.KindsOfSequences.{append_nil, left_nil}

marks-label_last : (l : ℕ) (u : List MarkedLetter) → without_labels (label_last l u) ≡ without_labels u
marks-label_last l [] = refl
marks-label_last l (x ∷ []) = refl
marks-label_last l (x ∷ y ∷ u) = ap (λ (z : List GuardedLetter). x.mark ∷ z) (marks-label_last l (y ∷ u))

last_labelled : (k l : ℕ) (u : List MarkedLetter) → LastHas k (label_last l u) → LastHas k u ⊎ ((k ≡ l) × (without_labels u ≢ []))
last_labelled k l [] h = inl h
last_labelled k l (x ∷ []) (inl e) = inr (e, λ d. cc)
last_labelled k l (x ∷ []) (inr h) = inl h
last_labelled k l (x ∷ y ∷ []) (inl e) = inr (e, λ d. cc)
last_labelled k l (x ∷ y ∷ []) (inr h) = inl h
last_labelled k l (x ∷ y ∷ z ∷ u) h =
    elim (last_labelled k l (y ∷ z ∷ u) h) [ inl p ↦ inl p | inr p ↦ inr (p.0, λ d. cc) ]

labelled_last : (k l : ℕ) (u : List MarkedLetter) → LastHas k u → LastHas k (label_last l u)
labelled_last k l [] h = h
labelled_last k l (x ∷ []) h = inr h
labelled_last k l (x ∷ y ∷ []) h = inr h
labelled_last k l (x ∷ y ∷ z ∷ u) h = labelled_last k l (y ∷ z ∷ u) h

labelled_now : (l : ℕ) (u : List MarkedLetter) → without_labels u ≢ [] → LastHas l (label_last l u)
labelled_now l [] h = h refl
labelled_now l (x ∷ []) h = inl refl
labelled_now l (x ∷ y ∷ []) h = inl refl
labelled_now l (x ∷ y ∷ z ∷ u) h = labelled_now l (y ∷ z ∷ u) (λ d. cc)

-- the label is on a letter after u, where there is one
label_last-append : (l : ℕ) (u : List MarkedLetter) (x : MarkedLetter) (v : List MarkedLetter) → label_last l (u ++ x ∷ v) ≡ u ++ label_last l (x ∷ v)
label_last-append l [] x v = refl
label_last-append l (y ∷ []) x v = refl
label_last-append l (y ∷ z ∷ u) x v = ap (λ (n : List MarkedLetter). y ∷ n) (label_last-append l (z ∷ u) x v)

label_last_split : (l : ℕ) (u : List MarkedLetter) (x : MarkedLetter) (v y : List MarkedLetter) → u ++ x ∷ v ≡ label_last l y → (z : List MarkedLetter) × (y ≡ u ++ z)
label_last_split l [] x v y e = (y, refl)
label_last_split l (n ∷ u) x v [] e = cc
label_last_split l (n ∷ u) x v (m ∷ []) e = absurd (let t : u ++ x ∷ v ≡ [] = cc in let p = left_nil u (x ∷ v) t in let q : x ∷ v ≡ [] = p.1 in cc)
label_last_split l (n ∷ u) x v (m ∷ k ∷ y) e =
    let h : n ≡ m = cc in
    let t : u ++ x ∷ v ≡ label_last l (k ∷ y) = cc in
    let p = label_last_split l u x v (k ∷ y) t in
    (p.0, let q : k ∷ y ≡ u ++ p.0 = p.1 in cc)

module _ (W : List MarkedLetter → Type 0) (l : ℕ) where
  abbrev Labelled : List MarkedLetter → Type 0
  Labelled w = (u : List MarkedLetter) × W u × (w ≡ label_last l u)

  kept_tip : (kind : WordKind) (u : List MarkedLetter) (x : MarkedLetter) (v z : List MarkedLetter) → CutsAs kind u (x ∷ v) → CutsAs kind u z
  kept_tip WholeWord u x v z t = cc
  kept_tip WordPrefix u x v z t = tt
  kept_tip (LabelledPrefix k) u x v z t = t

  whole_tag : (kind : WordKind) (y : List MarkedLetter) (w : List GuardedLetter) → W y → without_labels (label_last l y) ≡ w → CutsAs kind (label_last l y) [] → LastLabelledOf (IsOfKind W) l kind w
  whole_tag WholeWord y w g m t = inl (y, [], rw append_nil g, sym (marks-label_last l y) ∙ m, refl)
  whole_tag WordPrefix y w g m t = inl (y, [], rw append_nil g, sym (marks-label_last l y) ∙ m, tt)
  whole_tag (LabelledPrefix k) y w g m t =
      let f : without_labels y ≡ w = sym (marks-label_last l y) ∙ m in
      elim (last_labelled k l y t) [
        | inl p ↦ inl (y, [], rw append_nil g, f, p)
        | inr p ↦ inr (ap LabelledPrefix p.0, (y, [], rw append_nil g, f, refl), λ d. p.1 (f ∙ d))
      ]

  pub labelled_ends : (kind : WordKind) (w : List GuardedLetter) → IsOfKind Labelled kind w → LastLabelledOf (IsOfKind W) l kind w
  labelled_ends kind w (u, [], (y, g, e), m, t) =
      let f : u ≡ label_last l y = sym (append_nil u) ∙ e in
      whole_tag kind y w g (ap (λ (n : List MarkedLetter). without_labels n) (sym f) ∙ m) (subst (λ (n : List MarkedLetter). CutsAs kind n []) f t)
  labelled_ends kind w (u, x ∷ v, (y, g, e), m, t) =
      let p = label_last_split l u x v y e in
      inl (u, p.0, subst (λ (n : List MarkedLetter). W n) p.1 g, m, kept_tip kind u x v p.0 t)

  now_tip : (kind : WordKind) (u : List MarkedLetter) → CutsAs kind u [] → CutsAs kind (label_last l u) []
  now_tip WholeWord u t = refl
  now_tip WordPrefix u t = tt
  now_tip (LabelledPrefix k) u t = labelled_last k l u t

  later_tip : (kind : WordKind) (u : List MarkedLetter) (x : MarkedLetter) (v z : List MarkedLetter) → CutsAs kind u (x ∷ v) → CutsAs kind u z
  later_tip = kept_tip

  pub ends_labelled : (kind : WordKind) (w : List GuardedLetter) → LastLabelledOf (IsOfKind W) l kind w → IsOfKind Labelled kind w
  ends_labelled kind w (inl (u, [], g, m, t)) = (label_last l u, [], (u ++ [], g, append_nil (label_last l u) ∙ ap (λ (n : List MarkedLetter). label_last l n) (sym (append_nil u))), marks-label_last l u ∙ m, now_tip kind u t)
  ends_labelled kind w (inl (u, x ∷ v, g, m, t)) = (u, label_last l (x ∷ v), (u ++ x ∷ v, g, sym (label_last-append l u x v)), m, kept_tip kind u x v (label_last l (x ∷ v)) t)
  ends_labelled kind w (inr (k, (u, v, g, m, t), n)) =
      let f : u ++ v ≡ u = ap (λ (z : List MarkedLetter). u ++ z) t ∙ append_nil u in
      let h : W u = subst (λ (z : List MarkedLetter). W z) f g in
      rw k (label_last l u, [], (u, h, append_nil (label_last l u)), marks-label_last l u ∙ m, labelled_now l u (λ d. n (sym m ∙ d)))

module _ (W : List MarkedLetter → Type 0) (g : Condition) where
  abbrev Guards : List MarkedLetter → Type 0
  Guards w = (u : List MarkedLetter) × W u × (w ≡ guard_first g u)

  marks-guard_first : (u : List MarkedLetter) → without_labels (guard_first g u) ≡ guard_first_letter g (without_labels u)
  marks-guard_first [] = refl
  marks-guard_first (x ∷ u) = refl

  nil_tip : (kind : WordKind) (v y : List MarkedLetter) → v ≡ guard_first g y → CutsAs kind [] v → CutsAs kind [] y
  nil_tip WholeWord v [] e t = refl
  nil_tip WholeWord v (x ∷ y) e t = cc
  nil_tip WordPrefix v y e t = tt
  nil_tip (LabelledPrefix k) v y e t = t

  front_tip : (kind : WordKind) (x n : MarkedLetter) (u v : List MarkedLetter) → n ≡ with_guard g x → CutsAs kind (n ∷ u) v → CutsAs kind (x ∷ u) v
  front_tip WholeWord x n u v e t = t
  front_tip WordPrefix x n u v e t = tt
  front_tip (LabelledPrefix k) x n [] v e t = subst (λ (z : MarkedLetter). IsAmong k z.labels) e t
  front_tip (LabelledPrefix k) x n (y ∷ u) v e t = t

  pub guarded_ends : (kind : WordKind) (w : List GuardedLetter) → IsOfKind Guards kind w → FirstGuardedOf (IsOfKind W) g kind w
  guarded_ends kind w ([], v, (y, h, e), m, t) = ([], ([], y, h, refl, nil_tip kind v y e t), sym m)
  guarded_ends kind w (n ∷ u, v, ([], h, e), m, t) = cc
  guarded_ends kind w (n ∷ u, v, (x ∷ y, h, e), m, t) =
      let d : n ≡ with_guard g x = cc in
      let f : u ++ v ≡ y = cc in
      (without_labels (x ∷ u), (x ∷ u, v, subst (λ (z : List MarkedLetter). W (x ∷ z)) (sym f) h, refl, front_tip kind x n u v d t), sym m ∙ ap (λ (z : MarkedLetter). z.mark ∷ without_labels u) d)

  tip_front : (kind : WordKind) (x : MarkedLetter) (u v : List MarkedLetter) → CutsAs kind (x ∷ u) v → CutsAs kind (with_guard g x ∷ u) v
  tip_front WholeWord x u v t = t
  tip_front WordPrefix x u v t = tt
  tip_front (LabelledPrefix k) x [] v t = t
  tip_front (LabelledPrefix k) x (y ∷ u) v t = t

  tip_nil : (kind : WordKind) (v : List MarkedLetter) → CutsAs kind [] v → CutsAs kind [] (guard_first g v)
  tip_nil WholeWord [] t = refl
  tip_nil WholeWord (x ∷ v) t = cc
  tip_nil WordPrefix v t = tt
  tip_nil (LabelledPrefix k) v t = t

  pub ends_guarded : (kind : WordKind) (w : List GuardedLetter) → FirstGuardedOf (IsOfKind W) g kind w → IsOfKind Guards kind w
  ends_guarded kind w (x, ([], v, h, m, t), e) = ([], guard_first g v, (v, h, refl), sym (e ∙ ap (λ (z : List GuardedLetter). guard_first_letter g z) (sym m)), tip_nil kind v t)
  ends_guarded kind w (x, (n ∷ u, v, h, m, t), e) = (with_guard g n ∷ u, v, (n ∷ u ++ v, h, refl), sym (e ∙ ap (λ (z : List GuardedLetter). guard_first_letter g z) (sym m)), tip_front kind n u v t)
