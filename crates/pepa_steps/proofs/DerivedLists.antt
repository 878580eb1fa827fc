-- Lists of derivations with what they conclude, and their order.
use Rattle.std.proofs.Common.{◌≡◌, Bool, true, false, List, [], ◌∷◌, ◌++◌, ◌⊎◌, map, cond, inl, inr, refl, sym, subst}
use Rattle.std.specs.List.{AllZip, filter, flat_map}
use Rattle.pepa_model.specs.Derivation.{Among}
use Rattle.pepa_model.specs.Expression.{Definition}
use Rattle.pepa_steps.specs.States.{StateTransition}
use Rattle.pepa_steps.specs.OpenStates.{OpenState, closed_state, moves_in}
use Rattle.pepa_steps.specs.Rules.{StateDerivation, StateConcludes, StatePrecedes, InOrder}
use Rattle.pepa_steps.proofs.ElementsOf.{from_append, from_map, from_filter, from_flat_map, all_from}

-- a derivation and what it concludes
pub record Derived : Type 0 where
  pub derivation : StateDerivation
  pub transition : StateTransition

abbrev pub derived : StateDerivation → StateTransition → Derived
derived d t = record { derivation = d; transition = t }

abbrev pub derivation_in : Derived → StateDerivation
derivation_in p = p.derivation

abbrev pub transition_in : Derived → StateTransition
transition_in p = p.transition

abbrev pub Before : Derived → Derived → Type 0
Before p q = StatePrecedes p.derivation q.derivation

-- each one is before all later ones
abbrev pub Ascends : List Derived → Type 0
Ascends [] = Unit {0}
Ascends (p ∷ ps) = ((q : Derived) → Among q ps → Before p q) × Ascends ps

pub Ascends-append : (xs ys : List Derived) → Ascends xs → Ascends ys → ((p q : Derived) → Among p xs → Among q ys → Before p q) → Ascends (xs ++ ys)
Ascends-append [] ys h k across = k
Ascends-append (x ∷ xs) ys h k across = (λ q among. of_cases q (from_append q xs ys among), Ascends-append xs ys h.1 k (λ p q among. across p q (inr among)))
  where
    of_cases : (q : Derived) → Among q xs ⊎ Among q ys → Before x q
    of_cases q (inl among) = h.0 q among
    of_cases q (inr among) = across x q (inl refl) among

pub Ascends-map : (f : Derived → Derived) → ((p q : Derived) → Before p q → Before (f p) (f q)) → (ps : List Derived) → Ascends ps → Ascends (map f ps)
Ascends-map f k [] h = tt
Ascends-map f k (p ∷ ps) h = (λ q among. of_found q (from_map f q ps among), Ascends-map f k ps h.1)
  where
    of_found : (q : Derived) → (x : Derived) × Among x ps × (q ≡ f x) → Before (f p) q
    of_found q (x, among, is) = subst (λ (q : Derived). Before (f p) q) (sym is) (k p x (h.0 x among))

Ascends-kept : (b : Bool) (p : Derived) (rest : List Derived) → ((q : Derived) → Among q rest → Before p q) → Ascends rest → Ascends (cond b (p ∷ rest) rest)
Ascends-kept true p rest h k = (h, k)
Ascends-kept false p rest h k = k

pub Ascends-filter : (test : Derived → Bool) (ps : List Derived) → Ascends ps → Ascends (filter test ps)
Ascends-filter test [] h = tt
Ascends-filter test (p ∷ ps) h =
    Ascends-kept (test p) p (filter test ps) (λ q among. h.0 q (from_filter test q ps among).0) (Ascends-filter test ps h.1)

pub Ascends-flat_map : (f : Derived → List Derived) → ((x : Derived) → Ascends (f x)) → ((x y : Derived) → Before x y → (p q : Derived) → Among p (f x) → Among q (f y) → Before p q)
    → (xs : List Derived) → Ascends xs → Ascends (flat_map f xs)
Ascends-flat_map f each across [] h = tt
Ascends-flat_map f each across (x ∷ xs) h =
    Ascends-append (f x) (flat_map f xs) (each x) (Ascends-flat_map f each across xs h.1) (λ p q here there. of_found p q here (from_flat_map f q xs there))
  where
    of_found : (p q : Derived) → Among p (f x) → (y : Derived) × Among y xs × Among q (f y) → Before p q
    of_found p q here (y, among, there) = across x y (h.0 y among) p q here there

-- ---- the derivations, and what they conclude

pub derivations_ascend : (ps : List Derived) → Ascends ps → InOrder (map derivation_in ps)
derivations_ascend [] h = tt
derivations_ascend (p ∷ ps) h =
    (all_from (StatePrecedes p.derivation) (map derivation_in ps) (λ d among. of_found d (from_map derivation_in d ps among)), derivations_ascend ps h.1)
  where
    of_found : (d : StateDerivation) → (q : Derived) × Among q ps × (d ≡ derivation_in q) → StatePrecedes p.derivation d
    of_found d (q, among, is) = subst (λ (d : StateDerivation). StatePrecedes p.derivation d) (sym is) (h.0 q among)

pub zip_of_all : (R : StateDerivation → StateTransition → Type 0) (ps : List Derived)
    → ((p : Derived) → Among p ps → R p.derivation p.transition) → AllZip R (map derivation_in ps) (map transition_in ps)
zip_of_all R [] h = tt
zip_of_all R (p ∷ ps) h = (h p (inl refl), zip_of_all R ps (λ q among. h q (inr among)))

-- ---- lists of derivations of an opened state

-- the derivations of a tree, with what they conclude: the moves of the tree
pub record DerivedMoves (definitions : List Definition) (tree : OpenState) : Type 0 where
  pub all : List Derived
  pub moves_are : map transition_in all ≡ moves_in tree
  pub concluded : (p : Derived) → Among p all → StateConcludes definitions p.derivation (closed_state tree) p.transition
  pub complete : (d : StateDerivation) (t : StateTransition) → StateConcludes definitions d (closed_state tree) t → Among (derived d t) all
  pub ascends : Ascends all
