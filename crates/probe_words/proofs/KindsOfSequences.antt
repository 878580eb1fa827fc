-- Prefixes of words and their last labels, for each constructor, by those of its parts.
use Rattle.std.proofs.Common.{◌≡◌, ℕ, List, [], ◌∷◌, ◌++◌, ◌⊎◌, inl, inr, refl, sym, ap, ◌∙◌, append_assoc, subst}
use Rattle.probe_words.specs.declared.letter.Letter.{Letter}
use Rattle.probe_words.specs.MarkedLetters.{GuardedLetter, MarkedLetter, without_guards}
use Rattle.probe_words.specs.WordKinds.{WordKind, WholeWord, WordPrefix, LabelledPrefix, LastHas, CutsAs, without_labels, IsOfKind}
use Rattle.probe_words.proofs.Shapes.{IsPartial, EpsilonOf, SymbolOf, SequenceOf}
use Rattle.probe_words.specs.Words.{unmarked}

pub split_append : {X : Type 0} (a b c d : List X) → a ++ b ≡ c ++ d → ((z : List X) × (a ≡ c ++ z) × (d ≡ z ++ b)) ⊎ ((z : List X) × (c ≡ a ++ z) × (b ≡ z ++ d))
split_append [] b c d e = inr (c, refl, e)
split_append (x ∷ a) b [] d e = inl (x ∷ a, refl, sym e)
split_append (x ∷ a) b (y ∷ c) d e =
    let h : x ≡ y = cc in
    let t : a ++ b ≡ c ++ d = cc in
    elim (split_append a b c d t) [
      | inl p ↦ inl (p.0, cc, p.2)
      | inr p ↦ inr (p.0, cc, p.2)
    ]

pub last_rest : (l : ℕ) (c : List MarkedLetter) (x : MarkedLetter) (z : List MarkedLetter) → LastHas l (c ++ x ∷ z) → LastHas l (x ∷ z)
last_rest l [] x z h = h
last_rest l (y ∷ []) x z h = h
last_rest l (y ∷ n ∷ c) x z h = last_rest l (n ∷ c) x z h

pub append_nil : {X : Type 0} (a : List X) → a ++ [] ≡ a
append_nil [] = refl
append_nil (x ∷ a) = ap (λ z. x ∷ z) (append_nil a)

pub left_nil : {X : Type 0} (a b : List X) → a ++ b ≡ [] → (a ≡ []) × (b ≡ [])
left_nil [] b e = (refl, e)
left_nil (x ∷ a) b e = cc

pub marks-append : (u v : List MarkedLetter) → without_labels (u ++ v) ≡ without_labels u ++ without_labels v
marks-append [] v = refl
marks-append (x ∷ u) v = ap (λ (z : List GuardedLetter). x.mark ∷ z) (marks-append u v)

pub last_back : (l : ℕ) (p u : List MarkedLetter) → LastHas l u → LastHas l (p ++ u)
last_back l [] u h = h
last_back l (x ∷ []) [] h = absurd h
last_back l (x ∷ []) (y ∷ u) h = h
last_back l (x ∷ z ∷ p) u h = last_back l (z ∷ p) u h

pub tip_back : (kind : WordKind) (p u v : List MarkedLetter) → CutsAs kind u v → CutsAs kind (p ++ u) v
tip_back WholeWord p u v h = h
tip_back WordPrefix p u v h = tt
tip_back (LabelledPrefix l) p u v h = last_back l p u h

-- ---- one letter, none

pub epsilon_ends : (kind : WordKind) (w : List GuardedLetter) → IsOfKind (λ z. z ≡ []) kind w → EpsilonOf kind w
epsilon_ends WholeWord w (u, v, e, m, t) = let p = left_nil u v e in rw (← m, p.0) refl
epsilon_ends WordPrefix w (u, v, e, m, t) = let p = left_nil u v e in rw (← m, p.0) refl
epsilon_ends (LabelledPrefix l) w (u, v, e, m, t) = let p = left_nil u v e in subst (λ (z : List MarkedLetter). LastHas l z) p.0 t

pub ends_epsilon : (kind : WordKind) (w : List GuardedLetter) → EpsilonOf kind w → IsOfKind (λ z. z ≡ []) kind w
ends_epsilon WholeWord w h = ([], [], refl, sym h, refl)
ends_epsilon WordPrefix w h = ([], [], refl, sym h, tt)
ends_epsilon (LabelledPrefix l) w h = absurd h

module _ (a : Letter) where
  abbrev Single : List MarkedLetter → Type 0
  Single z = z ≡ unmarked a ∷ []

  single_left : (u v : List MarkedLetter) → u ++ v ≡ unmarked a ∷ [] → ((u ≡ []) × (v ≡ unmarked a ∷ [])) ⊎ ((u ≡ unmarked a ∷ []) × (v ≡ []))
  single_left [] v e = inl (refl, e)
  single_left (x ∷ u) v e =
      let h : x ≡ unmarked a = cc in
      let t : u ++ v ≡ [] = cc in
      let p = left_nil u v t in
      let q : u ≡ [] = p.0 in
      inr (cc, p.1)

  single_marks : (u : List MarkedLetter) (w : List GuardedLetter) → u ≡ unmarked a ∷ [] → without_labels u ≡ w → w ≡ without_guards a ∷ []
  single_marks u w e m = sym m ∙ ap (λ (z : List MarkedLetter). without_labels z) e

  nil_marks : (u : List MarkedLetter) (w : List GuardedLetter) → u ≡ [] → without_labels u ≡ w → w ≡ []
  nil_marks u w e m = sym m ∙ ap (λ (z : List MarkedLetter). without_labels z) e

  pub symbol_ends : (kind : WordKind) (w : List GuardedLetter) → IsOfKind Single kind w → SymbolOf a kind w
  symbol_ends WholeWord w (u, v, e, m, t) =
      elim (single_left u v e) [
        | inl p ↦ absurd (let q : v ≡ unmarked a ∷ [] = p.1 in cc)
        | inr p ↦ single_marks u w p.0 m
      ]
  symbol_ends WordPrefix w (u, v, e, m, t) =
      elim (single_left u v e) [
        | inl p ↦ inl (nil_marks u w p.0 m)
        | inr p ↦ inr (single_marks u w p.0 m)
      ]
  symbol_ends (LabelledPrefix l) w (u, v, e, m, t) =
      elim (single_left u v e) [
        | inl p ↦ subst (λ (z : List MarkedLetter). LastHas l z) p.0 t
        | inr p ↦ subst (λ (z : List MarkedLetter). LastHas l z) p.0 t
      ]

  pub ends_symbol : (kind : WordKind) (w : List GuardedLetter) → SymbolOf a kind w → IsOfKind Single kind w
  ends_symbol WholeWord w h = (unmarked a ∷ [], [], refl, sym h, refl)
  ends_symbol WordPrefix w (inl h) = ([], unmarked a ∷ [], refl, sym h, tt)
  ends_symbol WordPrefix w (inr h) = (unmarked a ∷ [], [], refl, sym h, tt)
  ends_symbol (LabelledPrefix l) w h = absurd h

-- ---- sequences

module _ (W V : List MarkedLetter → Type 0) where
  abbrev Both : List MarkedLetter → Type 0
  Both w = (u v : List MarkedLetter) × W u × V v × (w ≡ u ++ v)

  -- u ends within the first part, and what follows it is whole
  whole_left : (kind : WordKind) (u v z d : List MarkedLetter) (w : List GuardedLetter) → W (u ++ z) → V d → v ≡ z ++ d → without_labels u ≡ w → CutsAs kind u v → SequenceOf (IsOfKind W) (IsOfKind V) kind w
  whole_left WholeWord u v z d w g h e m t =
      let p = left_nil z d (sym e ∙ t) in
      inr (w, [], (u, z, g, m, p.0), ([], d, h, refl, p.1), sym (append_nil w))
  whole_left WordPrefix u v z d w g h e m t = inl (tt, (u, z, g, m, tt))
  whole_left (LabelledPrefix l) u v z d w g h e m t = inl (tt, (u, z, g, m, t))

  -- the second part begins at the end of u or before
  seq_long : (kind : WordKind) (c z v : List MarkedLetter) (w : List GuardedLetter) → W c → V (z ++ v) → without_labels (c ++ z) ≡ w → CutsAs kind (c ++ z) v → SequenceOf (IsOfKind W) (IsOfKind V) kind w
  seq_long kind c [] v w g h m t =
      whole_left kind c v [] v w (rw append_nil g) h refl (rw append_nil at m) (subst (λ (n : List MarkedLetter). CutsAs kind n v) (append_nil c) t)
  seq_long WholeWord c (x ∷ z) v w g h m t = inr (without_labels c, without_labels (x ∷ z), (c, [], rw append_nil g, refl, refl), (x ∷ z, v, h, refl, t), sym m ∙ marks-append c (x ∷ z))
  seq_long WordPrefix c (x ∷ z) v w g h m t = inr (without_labels c, without_labels (x ∷ z), (c, [], rw append_nil g, refl, refl), (x ∷ z, v, h, refl, t), sym m ∙ marks-append c (x ∷ z))
  seq_long (LabelledPrefix l) c (x ∷ z) v w g h m t = inr (without_labels c, without_labels (x ∷ z), (c, [], rw append_nil g, refl, refl), (x ∷ z, v, h, refl, last_rest l c x z t), sym m ∙ marks-append c (x ∷ z))

  pub sequence_ends : (kind : WordKind) (w : List GuardedLetter) → IsOfKind Both kind w → SequenceOf (IsOfKind W) (IsOfKind V) kind w
  sequence_ends kind w (u, v, (c, d, g, h, e), m, t) =
      elim (split_append u v c d e) [
        | inl (z, p, q) ↦ seq_long kind c z v w g (subst (λ (n : List MarkedLetter). V n) q h) (ap (λ (n : List MarkedLetter). without_labels n) (sym p) ∙ m) (subst (λ (n : List MarkedLetter). CutsAs kind n v) p t)
        | inr (z, p, q) ↦ whole_left kind u v z d w (subst (λ (n : List MarkedLetter). W n) p g) h q m t
      ]

  partial_ends : (kind : WordKind) (w : List GuardedLetter) (d : List MarkedLetter) → V d → IsPartial kind → IsOfKind W kind w → IsOfKind Both kind w
  partial_ends WholeWord w d h k e = absurd k
  partial_ends WordPrefix w d h k (u, v, g, m, t) = (u, v ++ d, (u ++ v, d, g, h, sym (append_assoc u v d)), m, tt)
  partial_ends (LabelledPrefix l) w d h k (u, v, g, m, t) = (u, v ++ d, (u ++ v, d, g, h, sym (append_assoc u v d)), m, t)

  pub ends_sequence : (d : List MarkedLetter) → V d → (kind : WordKind) (w : List GuardedLetter) → SequenceOf (IsOfKind W) (IsOfKind V) kind w → IsOfKind Both kind w
  ends_sequence d h kind w (inl p) = partial_ends kind w d h p.0 p.1
  ends_sequence d h kind w (inr (x, y, (u, n, g, m, t), (p, q, i, k, s), e)) =
      let whole : W u = subst (λ (z : List MarkedLetter). W z) (ap (λ (z : List MarkedLetter). u ++ z) t ∙ append_nil u) g in
      (u ++ p, q, (u, p ++ q, whole, i, append_assoc u p q), marks-append u p ∙ rw (m, k, e) refl, tip_back kind u p q s)

-- ---- alternatives

module _ (W V : List MarkedLetter → Type 0) where
  pub alternative_ends : (kind : WordKind) (w : List GuardedLetter) → IsOfKind (λ z. W z ⊎ V z) kind w → IsOfKind W kind w ⊎ IsOfKind V kind w
  alternative_ends kind w (u, v, inl g, m, t) = inl (u, v, g, m, t)
  alternative_ends kind w (u, v, inr g, m, t) = inr (u, v, g, m, t)

  pub ends_alternative : (kind : WordKind) (w : List GuardedLetter) → IsOfKind W kind w ⊎ IsOfKind V kind w → IsOfKind (λ z. W z ⊎ V z) kind w
  ends_alternative kind w (inl (u, v, g, m, t)) = (u, v, inl g, m, t)
  ends_alternative kind w (inr (u, v, g, m, t)) = (u, v, inr g, m, t)
