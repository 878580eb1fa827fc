-- The rules of PEPA's operational semantics (Hillston 1996, chapter 3) for sequential components, the derivations that they allow,
-- and the transition list of a component.
use Rattle.std.specs.Prelude.{◌≡◌, ℕ, List, [], ◌∷◌, ◌⊎◌, ⊤}
use Rattle.std.specs.List.{AllByRecursion, AllZip}
use Rattle.pepa_rates.specs.declared.rate.Rate.{Rate}
use Rattle.pepa_model.specs.Expression.{Expression, Const, Prefixed, Chosen, Definition, Defines}

-- a derivation is a tree of rule names
pub data Derivation : Type 0 where
  ByPrefix : Derivation
  ByLeft : Derivation → Derivation
  ByRight : Derivation → Derivation
  ByConstant : Derivation → Derivation

-- what a derivation concludes of a component: an action type, signals (as bits, one a label), a rate, and the component that follows
pub record Transition : Type 0 where
  pub action : ℕ
  pub signals : ℕ
  pub rate : Rate
  pub target : Expression

-- a leaf's transition has no signals
abbrev pub leaf_transition : ℕ → Rate → Expression → Transition
leaf_transition a r next = record { action = a; signals = 0; rate = r; target = next }

-- Hillston's rules, one case each: the prefix performs its activity; a choice does what either operand does; a constant
-- does what its body does
abbrev pub Concludes : List Definition → Derivation → Expression → Transition → Type 0
Concludes definitions ByPrefix (Prefixed a r next) t = t ≡ leaf_transition a r next
Concludes definitions (ByLeft d) (Chosen x y) t = Concludes definitions d x t
Concludes definitions (ByRight d) (Chosen x y) t = Concludes definitions d y t
Concludes definitions (ByConstant d) (Const c) t = (e : Expression) × Defines definitions c e × Concludes definitions d e t
Concludes definitions _ _ t = ⊥

-- derivation order: the derivations of a choice's left operand stand before those of its right one
abbrev pub Precedes : Derivation → Derivation → Type 0
Precedes (ByLeft d) (ByLeft e) = Precedes d e
Precedes (ByLeft d) (ByRight e) = ⊤
Precedes (ByRight d) (ByRight e) = Precedes d e
Precedes (ByConstant d) (ByConstant e) = Precedes d e
Precedes _ _ = ⊥

-- each derivation precedes all later ones, so none stands twice
abbrev pub InDerivationOrder : List Derivation → Type 0
InDerivationOrder [] = ⊤
InDerivationOrder (d ∷ ds) = AllByRecursion (Precedes d) ds × InDerivationOrder ds

-- x is an element of the list
abbrev pub Among : {X : Type 0} → X → List X → Type 0
Among x [] = ⊥
Among x (y ∷ ys) = (x ≡ y) ⊎ Among x ys

-- the transition list of a component has the conclusion of each of its derivations, each derivation once, in derivation order
pub record IsComponentTransitionList (definitions : List Definition) (e : Expression) (transitions : List Transition) : Type 0 where
  pub derivations : List Derivation
  pub conclusions : AllZip (λ d t. Concludes definitions d e t) derivations transitions
  pub complete : (d : Derivation) (t : Transition) → Concludes definitions d e t → Among d derivations
  pub in_order : InDerivationOrder derivations
