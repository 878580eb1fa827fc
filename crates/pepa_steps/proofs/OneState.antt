-- A state opens into one tree, and has one transition list.
use Rattle.std.proofs.Common.{◌≡◌, ℕ, List, [], ◌∷◌, ◌⊎◌, inl, inr, refl, sym, ap, subst, ◌∙◌}
use Rattle.std.specs.List.{AllZip}
use Rattle.pepa_rates.specs.declared.rate.Rate.{Rate}
use Rattle.pepa_model.specs.Expression.{Definition}
use Rattle.pepa_model.specs.Derivation.{Among}
use Rattle.pepa_model.specs.Apparent.{Rated}
use Rattle.pepa_model.proofs.OneList.{one_opening, each_among}
use Rattle.pepa_model.proofs.OneList as leaves
use Rattle.pepa_steps.specs.States.{State, AtLeaf, Cooperating, Hiding, StateTransition}
use Rattle.pepa_steps.specs.OpenStates.{OpenState, LeafOpen, CoopOpen, HideOpen, OpensState, apparent_in, leaf_move, left_move, right_move, joint_move, hidden_move}
use Rattle.pepa_steps.specs.Rules.{StateDerivation, OfLeaf, OnLeft, OnRight, OnBoth, Under, HasApparent, StateConcludes, StatePrecedes, InOrder, IsTransitionList}

-- ---- trees

coop_tree : (s s' t t' : OpenState) (set a b : List ℕ) → s ≡ s' → t ≡ t' → a ≡ set → b ≡ set → CoopOpen s t a ≡ CoopOpen s' t' b
coop_tree s s' t t' set a b same_s same_t a_is b_is =
    ap (λ (x : OpenState). CoopOpen x t a) same_s ∙ ap (λ (x : OpenState). CoopOpen s' x a) same_t ∙ ap (λ (l : List ℕ). CoopOpen s' t' l) (a_is ∙ sym b_is)

hide_tree : (s s' : OpenState) (set a b : List ℕ) → s ≡ s' → a ≡ set → b ≡ set → HideOpen s a ≡ HideOpen s' b
hide_tree s s' set a b same_s a_is b_is = ap (λ (x : OpenState). HideOpen x a) same_s ∙ ap (λ (l : List ℕ). HideOpen s' l) (a_is ∙ sym b_is)

pub one_tree : (definitions : List Definition) (state : State) (s t : OpenState) → OpensState definitions state s → OpensState definitions state t → s ≡ t
one_tree definitions (AtLeaf e) (LeafOpen o) (LeafOpen p) h k = ap LeafOpen (one_opening definitions e e o p refl h k)
one_tree definitions (AtLeaf e) (LeafOpen o) (CoopOpen s t set) h k = absurd k
one_tree definitions (AtLeaf e) (LeafOpen o) (HideOpen s set) h k = absurd k
one_tree definitions (Cooperating p q set) (CoopOpen s t a) (CoopOpen s' t' b) (opens_s, opens_t, a_is) (opens_s', opens_t', b_is) =
    coop_tree s s' t t' set a b (one_tree definitions p s s' opens_s opens_s') (one_tree definitions q t t' opens_t opens_t') a_is b_is
one_tree definitions (Cooperating p q set) (CoopOpen s t a) (LeafOpen o) h k = absurd k
one_tree definitions (Cooperating p q set) (CoopOpen s t a) (HideOpen s' b) h k = absurd k
one_tree definitions (Hiding p set) (HideOpen s a) (HideOpen s' b) (opens_s, a_is) (opens_s', b_is) =
    hide_tree s s' set a b (one_tree definitions p s s' opens_s opens_s') a_is b_is
one_tree definitions (Hiding p set) (HideOpen s a) (LeafOpen o) h k = absurd k
one_tree definitions (Hiding p set) (HideOpen s a) (CoopOpen s' t' b) h k = absurd k
one_tree definitions state s t h k = absurd h

-- so it has one apparent rate of an action
pub same_apparent : (definitions : List Definition) (state : State) (a : ℕ) (r s : Rate) → HasApparent definitions state a r → HasApparent definitions state a s → r ≡ s
same_apparent definitions state a r s (t, opens, rated) (t', opens', rated') =
    let same = one_tree definitions state t t' opens opens' in
    let h : Rated r ≡ Rated s = sym rated ∙ ap (λ (x : OpenState). apparent_in x a) same ∙ rated' in
    cc

-- ---- derivations

same_joint : (set : List ℕ) (ra ra' rb rb' : Rate) (u u' v v' : StateTransition) → u ≡ u' → v ≡ v' → ra ≡ ra' → rb ≡ rb' → joint_move set ra rb u v ≡ joint_move set ra' rb' u' v'
same_joint set ra ra' rb rb' u u' v v' same_u same_v same_ra same_rb =
    ap (λ (x : StateTransition). joint_move set ra rb x v) same_u ∙ ap (λ (x : StateTransition). joint_move set ra rb u' x) same_v
    ∙ ap (λ (r : Rate). joint_move set r rb u' v') same_ra ∙ ap (λ (r : Rate). joint_move set ra' r u' v') same_rb

-- a derivation concludes one transition of a state
module _ (definitions : List Definition) where
  pub same_conclusion : (d : StateDerivation) (state : State) (s t : StateTransition) → StateConcludes definitions d state s → StateConcludes definitions d state t → s ≡ t
  same_conclusion (OfLeaf d) (AtLeaf e) s t (u, h, s_is) (v, k, t_is) = s_is ∙ ap leaf_move (leaves.same_conclusion definitions d e u v h k) ∙ sym t_is
  same_conclusion (OnLeft d) (Cooperating p q set) s t (u, h, _, s_is) (v, k, _, t_is) = s_is ∙ ap (left_move q set) (same_conclusion d p u v h k) ∙ sym t_is
  same_conclusion (OnRight d) (Cooperating p q set) s t (u, h, _, s_is) (v, k, _, t_is) = s_is ∙ ap (right_move p set) (same_conclusion d q u v h k) ∙ sym t_is
  same_conclusion (OnBoth d e) (Cooperating p q set) s t (u, v, h, k, _, _, (ra, rb, of_p, of_q, s_is)) (u', v', h', k', _, _, (ra', rb', of_p', of_q', t_is)) =
      let same_u = same_conclusion d p u u' h h' in
      let same_v = same_conclusion e q v v' k k' in
      let same_ra = same_apparent definitions p u.action ra ra' of_p (subst (λ (x : StateTransition). HasApparent definitions p x.action ra') (sym same_u) of_p') in
      let same_rb = same_apparent definitions q u.action rb rb' of_q (subst (λ (x : StateTransition). HasApparent definitions q x.action rb') (sym same_u) of_q') in
      s_is ∙ same_joint set ra ra' rb rb' u u' v v' same_u same_v same_ra same_rb ∙ sym t_is
  same_conclusion (Under d) (Hiding p set) s t (u, h, s_is) (v, k, t_is) = s_is ∙ ap (hidden_move set) (same_conclusion d p u v h k) ∙ sym t_is
  same_conclusion d state s t h k = absurd h

-- no derivation precedes one that precedes it, and none itself
never_both : (d e : StateDerivation) → StatePrecedes d e → StatePrecedes e d → ⊥
never_both (OfLeaf d) (OfLeaf e) h k = leaves.never_both d e h k
never_both (OnLeft d) (OnLeft e) h k = never_both d e h k
never_both (OnLeft d) (OnRight e) h k = absurd k
never_both (OnLeft d) (OnBoth e f) h k = absurd k
never_both (OnRight d) (OnRight e) h k = never_both d e h k
never_both (OnRight d) (OnBoth e f) h k = absurd k
never_both (OnBoth d e) (OnBoth f g) (inl h) (inl k) = never_both d f h k
never_both (OnBoth d e) (OnBoth f g) (inl h) (inr (same, k)) =
    let itself : StatePrecedes d d = subst (λ (x : StateDerivation). StatePrecedes d x) same h in
    never_both d d itself itself
never_both (OnBoth d e) (OnBoth f g) (inr (same, h)) (inl k) =
    let itself : StatePrecedes d d = subst (λ (x : StateDerivation). StatePrecedes x d) (sym same) k in
    never_both d d itself itself
never_both (OnBoth d e) (OnBoth f g) (inr (same, h)) (inr (same', k)) = never_both e g h k
never_both (Under d) (Under e) h k = never_both d e h k
never_both d e h k = absurd h

-- ---- lists of derivations

abbrev Within : List StateDerivation → List StateDerivation → Type 0
Within ds es = (d : StateDerivation) → Among d ds → Among d es

-- the first ones of two lists in order with the same elements are the same
same_first : (d e : StateDerivation) (ds es : List StateDerivation) → InOrder (d ∷ ds) → InOrder (e ∷ es) → Within (d ∷ ds) (e ∷ es) → Within (e ∷ es) (d ∷ ds) → d ≡ e
same_first d e ds es h k to from = of_cases (to d (inl refl)) (from e (inl refl))
  where
    of_cases : (d ≡ e) ⊎ Among d es → (e ≡ d) ⊎ Among e ds → d ≡ e
    of_cases (inl same) other = same
    of_cases (inr later) (inl same) = sym same
    of_cases (inr later) (inr later_too) = absurd (never_both d e (each_among (StatePrecedes d) e ds h.0 later_too) (each_among (StatePrecedes e) d es k.0 later))

within_rest : (d : StateDerivation) (ds es : List StateDerivation) → InOrder (d ∷ ds) → Within (d ∷ ds) (d ∷ es) → Within ds es
within_rest d ds es h to x among = of_cases (to x (inr among))
  where
    of_cases : (x ≡ d) ⊎ Among x es → Among x es
    of_cases (inl same) =
        let before : StatePrecedes d d = subst (λ (y : StateDerivation). StatePrecedes d y) same (each_among (StatePrecedes d) x ds h.0 among) in
        absurd (never_both d d before before)
    of_cases (inr later) = later

same_derivations : (ds es : List StateDerivation) → InOrder ds → InOrder es → Within ds es → Within es ds → ds ≡ es
same_derivations [] [] h k to from = refl
same_derivations [] (e ∷ es) h k to from = absurd (from e (inl refl))
same_derivations (d ∷ ds) [] h k to from = absurd (to d (inl refl))
same_derivations (d ∷ ds) (e ∷ es) h k to from =
    let same = same_first d e ds es h k to from in
    let k' : InOrder (d ∷ es) = subst (λ (x : StateDerivation). InOrder (x ∷ es)) (sym same) k in
    let to' : Within (d ∷ ds) (d ∷ es) = subst (λ (x : StateDerivation). Within (d ∷ ds) (x ∷ es)) (sym same) to in
    let from' : Within (d ∷ es) (d ∷ ds) = subst (λ (x : StateDerivation). Within (x ∷ es) (d ∷ ds)) (sym same) from in
    let rest = same_derivations ds es h.1 k'.1 (within_rest d ds es h to') (within_rest d es ds k' from') in
    ap (λ (l : List StateDerivation). d ∷ l) rest ∙ ap (λ (x : StateDerivation). x ∷ es) same

-- ---- the transition list

module _ (definitions : List Definition) (state : State) where
  abbrev Concluded : StateDerivation → StateTransition → Type 0
  Concluded d t = StateConcludes definitions d state t

  has_conclusion : (d : StateDerivation) (ds : List StateDerivation) (ts : List StateTransition) → AllZip Concluded ds ts → Among d ds → (t : StateTransition) × Concluded d t
  has_conclusion d [] ts h k = absurd k
  has_conclusion d (x ∷ ds) [] h k = absurd h
  has_conclusion d (x ∷ ds) (t ∷ ts) h (inl same) = (t, subst (λ (x : StateDerivation). Concluded x t) (sym same) h.0)
  has_conclusion d (x ∷ ds) (t ∷ ts) h (inr k) = has_conclusion d ds ts h.1 k

  within : (ts us : List StateTransition) (x : IsTransitionList definitions state ts) (y : IsTransitionList definitions state us) → Within x.derivations y.derivations
  within ts us x y d among =
      let (t, concluded) = has_conclusion d x.derivations ts x.conclusions among in
      y.complete d t concluded

  same_conclusions : (ds : List StateDerivation) (ts us : List StateTransition) → AllZip Concluded ds ts → AllZip Concluded ds us → ts ≡ us
  same_conclusions [] [] [] h k = refl
  same_conclusions [] [] (u ∷ us) h k = absurd k
  same_conclusions [] (t ∷ ts) us h k = absurd h
  same_conclusions (d ∷ ds) [] us h k = absurd h
  same_conclusions (d ∷ ds) (t ∷ ts) [] h k = absurd k
  same_conclusions (d ∷ ds) (t ∷ ts) (u ∷ us) h k =
      ap (λ (x : StateTransition). x ∷ ts) (same_conclusion definitions d state t u h.0 k.0) ∙ ap (λ (l : List StateTransition). u ∷ l) (same_conclusions ds ts us h.1 k.1)

pub one_list : (definitions : List Definition) (state : State) (ts us : List StateTransition) → IsTransitionList definitions state ts → IsTransitionList definitions state us → ts ≡ us
one_list definitions state ts us x y =
    let same = same_derivations x.derivations y.derivations x.in_order y.in_order (within definitions state ts us x y) (within definitions state us ts y x) in
    same_conclusions definitions state x.derivations ts us x.conclusions (subst (λ (ds : List StateDerivation). AllZip (Concluded definitions state) ds us) (sym same) y.conclusions)
