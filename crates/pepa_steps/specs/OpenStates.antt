-- States with the constants of their sequential components opened, and what is computed along these trees.
use Rattle.std.specs.Prelude.{◌≡◌, ℕ, if◌then◌else◌, List, [], ◌∷◌, ◌++◌, map}
use Rattle.pepa_rates.specs.declared.rate.Rate.{Rate}
use Rattle.pepa_rates.specs.declared.rate.Rate.TheVariants.{Passive}
use Rattle.pepa_rates.specs.Share.{least_of}
use Rattle.pepa_model.specs.Expression.{Expression, Const, Prefixed, Chosen, Definition}
use Rattle.pepa_model.specs.Derivation.{Transition}
use Rattle.pepa_model.specs.Opened.{Opened, OpenPrefix, OpenChoice, OpenConst, Opens, parts, moves}
use Rattle.pepa_model.specs.Apparent.{Apparent, NoRate, Rated, Undefined, together, apparent_rate}
use Rattle.pepa_steps.specs.Moves.{carry, joint_of, under_hiding, cooperation}
use Rattle.pepa_steps.specs.States.{State, AtLeaf, Cooperating, Hiding, has, StateTransition, state_transition}

pub data OpenState : Type 0 where
  LeafOpen : Opened → OpenState
  CoopOpen : OpenState → OpenState → List ℕ → OpenState
  HideOpen : OpenState → List ℕ → OpenState

-- the state opens into the tree
abbrev pub OpensState : List Definition → State → OpenState → Type 0
OpensState definitions (AtLeaf e) (LeafOpen o) = Opens definitions e o
OpensState definitions (Cooperating p q set) (CoopOpen s t other) = OpensState definitions p s × OpensState definitions q t × (other ≡ set)
OpensState definitions (Hiding p set) (HideOpen s other) = OpensState definitions p s × (other ≡ set)
OpensState definitions _ _ = ⊥

-- the parts of a state in post-order: the left side, the right side, the whole; a hiding after what it hides. The parts of a
-- leaf are those of its component
abbrev pub parts_in : OpenState → List OpenState
parts_in (LeafOpen o) = map LeafOpen (parts o)
parts_in (CoopOpen s t set) = (parts_in s ++ parts_in t) ++ CoopOpen s t set ∷ []
parts_in (HideOpen s set) = parts_in s ++ HideOpen s set ∷ []

-- ---- apparent rates (chapter 3)

-- for a type in the set of a cooperation, the lesser of both sides' rates, or none if one side has none
abbrev pub least_if_both : Apparent → Apparent → Apparent
least_if_both NoRate y = NoRate
least_if_both (Rated r) NoRate = NoRate
least_if_both (Rated r) (Rated s) = Rated (least_of r s)
least_if_both (Rated r) Undefined = Undefined
least_if_both Undefined NoRate = NoRate
least_if_both Undefined (Rated s) = Undefined
least_if_both Undefined Undefined = Undefined

-- for a type outside the set it is that of a choice; a hidden type has none
abbrev pub apparent_in : OpenState → ℕ → Apparent
apparent_in (LeafOpen o) a = apparent_rate o a
apparent_in (CoopOpen s t set) a = if has set a then least_if_both (apparent_in s a) (apparent_in t a) else together (apparent_in s a) (apparent_in t a)
apparent_in (HideOpen s set) a = if has set a then NoRate else apparent_in s a

-- ---- transitions

abbrev pub leaf_move : Transition → StateTransition
leaf_move t = state_transition t.action t.signals t.rate (AtLeaf t.target)

-- one side moves alone
abbrev pub left_move : State → List ℕ → StateTransition → StateTransition
left_move q set = carry (λ p. Cooperating p q set)

abbrev pub right_move : State → List ℕ → StateTransition → StateTransition
right_move p set = carry (λ q. Cooperating p q set)

-- both sides move together, where these are their apparent rates of the action
abbrev pub joint_move : List ℕ → Rate → Rate → StateTransition → StateTransition → StateTransition
joint_move set = joint_of (λ p q. Cooperating p q set)

abbrev pub hidden_move : List ℕ → StateTransition → StateTransition
hidden_move set = under_hiding (λ p. Hiding p set) set

-- the expression that a component opened from, and the state
abbrev pub unopened : Opened → Expression
unopened (OpenPrefix a r next) = Prefixed a r next
unopened (OpenChoice p q) = Chosen (unopened p) (unopened q)
unopened (OpenConst c p) = Const c

abbrev pub closed_state : OpenState → State
closed_state (LeafOpen o) = AtLeaf (unopened o)
closed_state (CoopOpen s t set) = Cooperating (closed_state s) (closed_state t) set
closed_state (HideOpen s set) = Hiding (closed_state s) set

-- a rate; where there is none it doesn't matter what stands for it
abbrev pub rate_of : Apparent → Rate
rate_of NoRate = Passive (record { num = 1; den = 1 })
rate_of (Rated r) = r
rate_of Undefined = Passive (record { num = 1; den = 1 })

-- the transitions of a state
abbrev pub moves_in : OpenState → List StateTransition
moves_in (LeafOpen o) = map leaf_move (moves o)
moves_in (CoopOpen s t set) =
    cooperation (λ p. Cooperating p (closed_state t) set) (λ q. Cooperating (closed_state s) q set) (λ p q. Cooperating p q set) set
    (λ a. rate_of (apparent_in s a)) (λ a. rate_of (apparent_in t a)) (moves_in s) (moves_in t)
moves_in (HideOpen s set) = map (hidden_move set) (moves_in s)
