-- The apparent rate of one action, from a state's parts.
use Rattle.std.proofs.Common.{◌≡◌, ℕ, Bool, true, false, List, [], ◌∷◌, ◌++◌, map, Option, None, Some, slice_get, if◌then◌else◌, Result, Ok, Err, refl, sym, ap, subst, ◌∙◌}
use Rattle.std.proofs.lemmas.List.{map-append}
use Rattle.pepa_rates.specs.declared.rate.Rate.{Rate}
use Rattle.pepa_rates.specs.declared.rate.RateFault.{RateFault}
use Rattle.pepa_model.specs.Expression.{Expression}
use Rattle.pepa_model.specs.Opened.{Opened, Opens, parts}
use Rattle.pepa_model.specs.Apparent.{Apparent, NoRate, together, IsFine, HasFault}
use Rattle.pepa_model.specs.Verdict.{IsFirstFault}
use Rattle.pepa_model.specs.PepaModel.{PepaModel}
use Rattle.pepa_model.specs.Terms.{TermNode, LeafNode, CoopNode, HideNode}
use Rattle.pepa_steps.specs.States.{State, AtLeaf, Cooperating, Hiding, has, NodeStandsFor}
use Rattle.pepa_steps.specs.OpenStates.{OpenState, LeafOpen, CoopOpen, HideOpen, OpensState, parts_in, apparent_in, least_if_both}
use Rattle.pepa_steps.specs.ApparentAnswers.{apparent_of, AnswersOpened}
use Rattle.pepa_steps.specs.StateRates.{AnswersTree, IsOfCooperation, IsApparentAnswer}
use Rattle.pepa_steps.proofs.CoopStates.{types_same}
use Rattle.pepa_steps.proofs.Faults.{all_append, first_in_front, first_in_back, first_at_last}
use Rattle.pepa_steps.proofs.MappedRates.{jointly_fine}
use Rattle.pepa_steps.proofs.StateOpens.{all_map, state_from_parts}

-- the first fault of the parts of a component is that of its leaf
first_map : {P Q F : Type 0} (Fine : P → Type 0) (Faulty : P → F → Type 0) (f : Q → P) (fault : F) (xs : List Q)
    → IsFirstFault (λ x. Fine (f x)) (λ x. Faulty (f x)) xs fault → IsFirstFault Fine Faulty (map f xs) fault
first_map Fine Faulty f fault xs h = record {
  before = map f h.before;
  at = f h.at;
  after = map f h.after;
  whole = ap (map f) h.whole ∙ map-append f h.before (h.at ∷ h.after);
  fine = all_map Fine f h.before h.fine;
  faulty = h.faulty;
}

module _ (action : ℕ) where
  abbrev Fine : OpenState → Type 0
  Fine p = IsFine (apparent_in p action)

  abbrev Faulty : OpenState → RateFault → Type 0
  Faulty p f = HasFault (apparent_in p action) f

  of_opened : (o : Opened) (result : Result (Option Rate) RateFault) → AnswersOpened o action result → AnswersTree (LeafOpen o) action result
  of_opened o (Ok rate) h = (all_map Fine LeafOpen (parts o) h.0, h.1)
  of_opened o (Err fault) h = first_map Fine Faulty LeafOpen fault (parts o) h

  -- ---- the trees of a cooperation and of a hiding

  of_left : (s t : OpenState) (set : List ℕ) (fault : RateFault) → AnswersTree s action (Err fault) → AnswersTree (CoopOpen s t set) action (Err fault)
  of_left s t set fault h =
      first_in_front Fine Faulty fault (parts_in s ++ parts_in t) (CoopOpen s t set ∷ []) (first_in_front Fine Faulty fault (parts_in s) (parts_in t) h)

  of_right : (s t : OpenState) (set : List ℕ) (rate : Option Rate) (fault : RateFault) → AnswersTree s action (Ok rate) → AnswersTree t action (Err fault) → AnswersTree (CoopOpen s t set) action (Err fault)
  of_right s t set rate fault h k =
      first_in_front Fine Faulty fault (parts_in s ++ parts_in t) (CoopOpen s t set ∷ []) (first_in_back Fine Faulty fault (parts_in s) (parts_in t) h.0 k)

  sides : (b : Bool) (x y x' y' : Apparent) → x ≡ x' → y ≡ y' → (if b then least_if_both x y else together x y) ≡ (if b then least_if_both x' y' else together x' y')
  sides b x y x' y' e f = ap (λ (v : Apparent). if b then least_if_both v y else together v y) e ∙ ap (λ (v : Apparent). if b then least_if_both x' v else together x' v) f

  abbrev Both : Bool → Option Rate → Option Rate → Apparent
  Both b l r = if b then least_if_both (apparent_of l) (apparent_of r) else together (apparent_of l) (apparent_of r)

  -- what is answered of the sides' rates, the sides being in order
  both_fine : (b : Bool) (l r rate : Option Rate) → IsFine (apparent_of l) → IsFine (apparent_of r) → IsOfCooperation b l r (Ok rate)
      → (Both b l r ≡ apparent_of rate) × IsFine (apparent_of rate)
  both_fine true l r rate h k (found, same, is) =
      let it : found ≡ rate = cc in
      let value : least_if_both (apparent_of l) (apparent_of r) ≡ apparent_of rate = is ∙ ap apparent_of it in
      (value, subst IsFine value (jointly_fine (apparent_of l) (apparent_of r) h k))
  both_fine false l r rate h k both = (both.0, both.1 h k)

  both_faulty : (b : Bool) (l r : Option Rate) (fault : RateFault) → IsOfCooperation b l r (Err fault) → HasFault (Both b l r) fault
  both_faulty true l r fault (found, same, is) = absurd cc
  both_faulty false l r fault both = both

  of_sides : (s t : OpenState) (set : List ℕ) (l r : Option Rate) (result : Result (Option Rate) RateFault) → AnswersTree s action (Ok l) → AnswersTree t action (Ok r)
      → IsOfCooperation (has set action) l r result → AnswersTree (CoopOpen s t set) action result
  of_sides s t set l r (Ok rate) left right both =
      let fine_left : IsFine (apparent_of l) = subst IsFine left.1 (state_from_parts Fine s left.0) in
      let fine_right : IsFine (apparent_of r) = subst IsFine right.1 (state_from_parts Fine t right.0) in
      let answer = both_fine (has set action) l r rate fine_left fine_right both in
      let total : apparent_in (CoopOpen s t set) action ≡ apparent_of rate =
      sides (has set action) (apparent_in s action) (apparent_in t action) (apparent_of l) (apparent_of r) left.1 right.1 ∙ answer.0 in (
        all_append Fine (parts_in s ++ parts_in t) (CoopOpen s t set ∷ []) (all_append Fine (parts_in s) (parts_in t) left.0 right.0) (subst IsFine (sym total) answer.1, tt),
        total,
      )
  of_sides s t set l r (Err fault) left right both =
      let same = sides (has set action) (apparent_in s action) (apparent_in t action) (apparent_of l) (apparent_of r) left.1 right.1 in
      first_at_last Fine Faulty fault (parts_in s ++ parts_in t) (CoopOpen s t set) (all_append Fine (parts_in s) (parts_in t) left.0 right.0)
      (subst (λ (v : Apparent). HasFault v fault) (sym same) (both_faulty (has set action) l r fault both))

  -- ---- the nodes of a model

  module _ (m : PepaModel) where
    -- the answer is that of each state that the term stands for
    abbrev pub Answers : TermNode → Result (Option Rate) RateFault → Type 0
    Answers node result = (state : State) (tree : OpenState) → NodeStandsFor m state node → OpensState m.bodies state tree → AnswersTree tree action result

    at_leaf : (number : ℕ) (e : Expression) (result : Result (Option Rate) RateFault) → slice_get m.leaves number ≡ Some e
        → ((o : Opened) → Opens m.bodies e o → AnswersOpened o action result) → Answers (LeafNode number) result
    at_leaf number e result is h (AtLeaf f) (LeafOpen o) stands opens =
        let same : f ≡ e = cc (stands, is) in
        of_opened o result (h o (subst (λ (x : Expression). Opens m.bodies x o) same opens))
    at_leaf number e result is h (AtLeaf f) (CoopOpen s t other) stands opens = absurd opens
    at_leaf number e result is h (AtLeaf f) (HideOpen s other) stands opens = absurd opens
    at_leaf number e result is h state tree stands opens = absurd stands

    pub leaf_answers : (node : TermNode) (number : ℕ) (e : Expression) (result : Result (Option Rate) RateFault) → node ≡ LeafNode number → slice_get m.leaves number ≡ Some e
        → ((o : Opened) → Opens m.bodies e o → AnswersOpened o action result) → Answers node result
    leaf_answers node number e result is at h = subst (λ (n : TermNode). Answers n result) (sym is) (at_leaf number e result at h)

    -- what holds of the trees of both sides holds of the tree
    on_sides : (x y : TermNode) (number : ℕ) (result : Result (Option Rate) RateFault)
        → ((p q : State) (s t : OpenState) (set : List ℕ) → NodeStandsFor m p x → NodeStandsFor m q y → OpensState m.bodies p s → OpensState m.bodies q t → slice_get m.sets number ≡ Some set
        → AnswersTree (CoopOpen s t set) action result)
        → Answers (CoopNode x y number) result
    on_sides x y number result h (Cooperating p q set) (CoopOpen s t other) (of_x, of_y, is) (opens_x, opens_y, same) =
        subst (λ (o : List ℕ). AnswersTree (CoopOpen s t o) action result) (sym same) (h p q s t set of_x of_y opens_x opens_y is)
    on_sides x y number result h (Cooperating p q set) (LeafOpen o) stands opens = absurd opens
    on_sides x y number result h (Cooperating p q set) (HideOpen s other) stands opens = absurd opens
    on_sides x y number result h state tree stands opens = absurd stands

    on_inner : (x : TermNode) (number : ℕ) (result : Result (Option Rate) RateFault)
        → ((p : State) (s : OpenState) (set : List ℕ) → NodeStandsFor m p x → OpensState m.bodies p s → slice_get m.sets number ≡ Some set → AnswersTree (HideOpen s set) action result)
        → Answers (HideNode x number) result
    on_inner x number result h (Hiding p set) (HideOpen s other) (of_x, is) (opens, same) =
        subst (λ (o : List ℕ). AnswersTree (HideOpen s o) action result) (sym same) (h p s set of_x opens is)
    on_inner x number result h (Hiding p set) (LeafOpen o) stands opens = absurd opens
    on_inner x number result h (Hiding p set) (CoopOpen s t other) stands opens = absurd opens
    on_inner x number result h state tree stands opens = absurd stands

    pub left_fault : (node x y : TermNode) (set : ℕ) (fault : RateFault) → node ≡ CoopNode x y set → Answers x (Err fault) → Answers node (Err fault)
    left_fault node x y set fault is left =
        subst (λ (n : TermNode). Answers n (Err fault)) (sym is)
        (on_sides x y set (Err fault) (λ p q s t types of_x of_y opens_x opens_y at. of_left s t types fault (left p s of_x opens_x)))

    pub right_fault : (node x y : TermNode) (set : ℕ) (rate : Option Rate) (fault : RateFault) → node ≡ CoopNode x y set → Answers x (Ok rate) → Answers y (Err fault) → Answers node (Err fault)
    right_fault node x y set rate fault is left right =
        subst (λ (n : TermNode). Answers n (Err fault)) (sym is)
        (on_sides x y set (Err fault) (λ p q s t types of_x of_y opens_x opens_y at. of_right s t types rate fault (left p s of_x opens_x) (right q t of_y opens_y)))

    pub coop_answers : (node x y : TermNode) (set : ℕ) (types : List ℕ) (l r : Option Rate) (result : Result (Option Rate) RateFault) → node ≡ CoopNode x y set
        → slice_get m.sets set ≡ Some types → Answers x (Ok l) → Answers y (Ok r) → IsOfCooperation (has types action) l r result → Answers node result
    coop_answers node x y set types l r result is are left right both =
        subst (λ (n : TermNode). Answers n result) (sym is)
        (on_sides x y set result (λ p q s t own of_x of_y opens_x opens_y at. of_sides s t own l r result (left p s of_x opens_x) (right q t of_y opens_y)
        (subst (λ (set : List ℕ). IsOfCooperation (has set action) l r result) (types_same m set types own are at) both)))

    pub inner_fault : (node x : TermNode) (set : ℕ) (fault : RateFault) → node ≡ HideNode x set → Answers x (Err fault) → Answers node (Err fault)
    inner_fault node x set fault is inner =
        subst (λ (n : TermNode). Answers n (Err fault)) (sym is)
        (on_inner x set (Err fault) (λ p s types of_x opens at. first_in_front Fine Faulty fault (parts_in s) (HideOpen s types ∷ []) (inner p s of_x opens)))

    pub hide_answers : (node x : TermNode) (set : ℕ) (types : List ℕ) (b : Bool) (rate shown : Option Rate) → node ≡ HideNode x set → slice_get m.sets set ≡ Some types → b ≡ has types action
        → Answers x (Ok rate) → shown ≡ (if b then None else rate) → Answers node (Ok shown)
    hide_answers node x set types b rate shown is are hides inner shown_is =
        subst (λ (n : TermNode). Answers n (Ok shown)) (sym is)
        (on_inner x set (Ok shown) (λ p s own of_x opens at.
        let h = inner p s of_x opens in
        let same : b ≡ has own action = hides ∙ ap (λ (l : List ℕ). has l action) (types_same m set types own are at) in
        let it = of_test b rate (apparent_in s action) h.1 (state_from_parts Fine s h.0) in
        let value : apparent_in (HideOpen s own) action ≡ apparent_of shown = ap (λ (c : Bool). if c then NoRate else apparent_in s action) (sym same) ∙ it.0 ∙ ap apparent_of (sym shown_is) in
        (all_append Fine (parts_in s) (HideOpen s own ∷ []) h.0 (subst IsFine (ap (λ (c : Bool). if c then NoRate else apparent_in s action) same) it.1, tt), value)))
      where
        of_test : (c : Bool) (rate : Option Rate) (x : Apparent) → x ≡ apparent_of rate → IsFine x → ((if c then NoRate else x) ≡ apparent_of (if c then None else rate)) × IsFine (if c then NoRate else x)
        of_test true rate x e fine = (refl, tt)
        of_test false rate x e fine = (e, fine)

    -- one tree tells the answer
    pub of_tree : (node : TermNode) (result : Result (Option Rate) RateFault) → Answers node result → (state : State) (tree : OpenState) → NodeStandsFor m state node → OpensState m.bodies state tree
        → IsApparentAnswer m.bodies state action result
    of_tree node (Ok rate) h state tree stands opens = let answer = h state tree stands opens in (tree, opens, answer.0, answer.1)
    of_tree node (Err fault) h state tree stands opens = (tree, opens, h state tree stands opens)
