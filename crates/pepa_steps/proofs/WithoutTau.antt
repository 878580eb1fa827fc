-- The sets of a model, and so those of its opened states, don't have `tau`.
use Rattle.std.proofs.Common.{◌≡◌, ℕ, ◌<◌, ◌==◌, ◌||◌, Bool, false, List, [], ◌∷◌, Some, slice_get, refl, sym, subst, arith}
use Rattle.std.specs.List.{AllByRecursion}
use Rattle.std.proofs.lemmas.Bool.Decides.{nat_tests}
use Rattle.pepa_model.specs.PepaModel.{PepaModel, IsModel}
use Rattle.pepa_model.specs.Terms.{TermNode, LeafNode, CoopNode, HideNode}
use Rattle.pepa_steps.specs.States.{State, AtLeaf, Cooperating, Hiding, has, NodeStandsFor}
use Rattle.pepa_steps.specs.OpenStates.{OpenState, LeafOpen, CoopOpen, HideOpen, OpensState}
use Rattle.pepa_steps.proofs.StateLists.{HasNoTau}

or_none : (b : Bool) (x : ℕ) → 0 < x → b ≡ false → ((0 == x) || b) ≡ false
or_none b x positive none = grind (arith, nat_tests)

none_positive : (set : List ℕ) → AllByRecursion (λ a. 0 < a) set → has set 0 ≡ false
none_positive [] h = refl
none_positive (x ∷ set) h = or_none (has set 0) x h.0 (none_positive set h.1)

set_without : (m : PepaModel) → IsModel m → (number : ℕ) (set : List ℕ) → slice_get m.sets number ≡ Some set → has set 0 ≡ false
set_without m sound number set is = none_positive set (sound.sets number set is).no_tau

pub state_without_tau : (m : PepaModel) → IsModel m → (state : State) (x : TermNode) (tree : OpenState) → NodeStandsFor m state x → OpensState m.bodies state tree → HasNoTau tree
state_without_tau m sound (AtLeaf e) (LeafNode number) (LeafOpen o) stands opens = tt
state_without_tau m sound (Cooperating p q set) (CoopNode x y number) (CoopOpen s t other) (of_x, of_y, is) (opens_s, opens_t, same) = (
  state_without_tau m sound p x s of_x opens_s,
  state_without_tau m sound q y t of_y opens_t,
  subst (λ (l : List ℕ). has l 0 ≡ false) (sym same) (set_without m sound number set is),
)
state_without_tau m sound (Hiding p set) (HideNode x number) (HideOpen s other) (of_x, is) (opens_s, same) =
    (state_without_tau m sound p x s of_x opens_s, subst (λ (l : List ℕ). has l 0 ≡ false) (sym same) (set_without m sound number set is))
state_without_tau m sound (AtLeaf e) (LeafNode number) (CoopOpen s t other) stands opens = absurd opens
state_without_tau m sound (AtLeaf e) (LeafNode number) (HideOpen s other) stands opens = absurd opens
state_without_tau m sound (Cooperating p q set) (CoopNode x y number) (LeafOpen o) stands opens = absurd opens
state_without_tau m sound (Cooperating p q set) (CoopNode x y number) (HideOpen s other) stands opens = absurd opens
state_without_tau m sound (Hiding p set) (HideNode x number) (LeafOpen o) stands opens = absurd opens
state_without_tau m sound (Hiding p set) (HideNode x number) (CoopOpen s t other) stands opens = absurd opens
state_without_tau m sound state x tree stands opens = absurd stands
