-- The rules of PEPA's operational semantics for systems (Hillston 1996, chapter 3), the derivations that they allow, and the
-- transition list of a state.
use Rattle.std.specs.Prelude.{◌≡◌, ℕ, true, false, ◌⊎◌, ⊤, List, [], ◌∷◌}
use Rattle.std.specs.List.{AllByRecursion, AllZip}
use Rattle.pepa_rates.specs.declared.rate.Rate.{Rate}
use Rattle.pepa_model.specs.Expression.{Definition}
use Rattle.pepa_model.specs.Derivation.{Derivation, Transition, Among}
use Rattle.pepa_model.specs.Derivation as leaf
use Rattle.pepa_model.specs.Apparent.{Rated}
use Rattle.pepa_steps.specs.States.{State, AtLeaf, Cooperating, Hiding, has, StateTransition}
use Rattle.pepa_steps.specs.OpenStates.{OpenState, OpensState, apparent_in, leaf_move, left_move, right_move, joint_move, hidden_move}

-- a derivation is a tree of rule names
pub data StateDerivation : Type 0 where
  OfLeaf : Derivation → StateDerivation
  OnLeft : StateDerivation → StateDerivation
  OnRight : StateDerivation → StateDerivation
  OnBoth : StateDerivation → StateDerivation → StateDerivation
  Under : StateDerivation → StateDerivation

-- the state has this apparent rate of the action
abbrev pub HasApparent : List Definition → State → ℕ → Rate → Type 0
HasApparent definitions state a rate = (tree : OpenState) × OpensState definitions state tree × (apparent_in tree a ≡ Rated rate)

-- the rules, one case each: a leaf does what its component does; one side of a cooperation moves alone by a type outside the set;
-- both move together by a type in the set, at their share of the apparent rates; a hiding does what is hidden, by `tau` for a
-- hidden type
abbrev pub StateConcludes : List Definition → StateDerivation → State → StateTransition → Type 0
StateConcludes definitions (OfLeaf d) (AtLeaf e) t = (u : Transition) × leaf.Concludes definitions d e u × (t ≡ leaf_move u)
StateConcludes definitions (OnLeft d) (Cooperating p q set) t = (u : StateTransition) × StateConcludes definitions d p u × (has set u.action ≡ false) × (t ≡ left_move q set u)
StateConcludes definitions (OnRight d) (Cooperating p q set) t = (v : StateTransition) × StateConcludes definitions d q v × (has set v.action ≡ false) × (t ≡ right_move p set v)
StateConcludes definitions (OnBoth d e) (Cooperating p q set) t =
    (u : StateTransition) × (v : StateTransition) × StateConcludes definitions d p u × StateConcludes definitions e q v × (has set u.action ≡ true) × (v.action ≡ u.action)
    × ((ra : Rate) × (rb : Rate) × HasApparent definitions p u.action ra × HasApparent definitions q u.action rb × (t ≡ joint_move set ra rb u v))
StateConcludes definitions (Under d) (Hiding p set) t = (u : StateTransition) × StateConcludes definitions d p u × (t ≡ hidden_move set u)
StateConcludes definitions _ _ t = ⊥

-- derivation order: of a cooperation the derivations of the left side alone come before those of the right side alone, and these
-- before the joint ones, which go by the left side's and then by the right side's
abbrev pub StatePrecedes : StateDerivation → StateDerivation → Type 0
StatePrecedes (OfLeaf d) (OfLeaf e) = leaf.Precedes d e
StatePrecedes (OnLeft d) (OnLeft e) = StatePrecedes d e
StatePrecedes (OnLeft d) (OnRight e) = ⊤
StatePrecedes (OnLeft d) (OnBoth e f) = ⊤
StatePrecedes (OnRight d) (OnRight e) = StatePrecedes d e
StatePrecedes (OnRight d) (OnBoth e f) = ⊤
StatePrecedes (OnBoth d e) (OnBoth f g) = StatePrecedes d f ⊎ ((d ≡ f) × StatePrecedes e g)
StatePrecedes (Under d) (Under e) = StatePrecedes d e
StatePrecedes _ _ = ⊥

-- each derivation precedes all later ones, so none comes twice
abbrev pub InOrder : List StateDerivation → Type 0
InOrder [] = ⊤
InOrder (d ∷ ds) = AllByRecursion (StatePrecedes d) ds × InOrder ds

-- the transition list of a state has the conclusion of each of its derivations, each derivation once, in derivation order
pub record IsTransitionList (definitions : List Definition) (state : State) (transitions : List StateTransition) : Type 0 where
  pub derivations : List StateDerivation
  pub conclusions : AllZip (λ d t. StateConcludes definitions d state t) derivations transitions
  pub complete : (d : StateDerivation) (t : StateTransition) → StateConcludes definitions d state t → Among d derivations
  pub in_order : InOrder derivations
