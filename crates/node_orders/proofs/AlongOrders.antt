-- What holds of a number if it holds of those that its edges lead to, along an order of the numbers.
use Rattle.std.proofs.Common.{◌≡◌, ℕ, suc, ◌+◌, ◌*◌, ◌<◌, ◌≤◌, List, [], ◌∷◌, ◌++◌, length, inl, inr, refl, sym, subst, ◌∙◌, arith, append_assoc, append-nil}
use Rattle.std.proofs.Math.Nat.{mul-le-mul_right}
use Rattle.std.specs.List.{Contains}
use Rattle.std.proofs.lemmas.List.Elements.{Contains-push_cases}
use Rattle.std.proofs.lemmas.Bool.{cases_lt}
use Rattle.node_orders.specs.Cycles.{ReachesIn, ReachesItself, IsFirstCycle, HasNoCycle}
use Rattle.node_orders.specs.Graphs.{EdgeOf, IsOrder}
use Rattle.node_orders.proofs.Elements.{no_element}
use Rattle.node_orders.proofs.Reaching.{leads_more, edge_within}

-- the property has a bound, which grows by so much with each number
module _ (step : ℕ) (Edge : ℕ → ℕ → Type 0) (count : ℕ) (order : List ℕ) (is : IsOrder Edge count order) (Holds : ℕ → ℕ → Type 0)
    (more : (k m c : ℕ) → k ≤ m → Holds k c → Holds m c) (next : (k c : ℕ) → ((d : ℕ) → Edge c d → Holds k d) → Holds (k + step) c) where
  along : (before rest : List ℕ) (k : ℕ) → order ≡ before ++ rest → ((d : ℕ) → Contains before d → Holds k d) → (d : ℕ) → Contains order d → Holds (k + length rest * step) d
  along before [] k e holds d among =
      more k (k + 0 * step) d (omega arith) (holds d (subst (λ (l : List ℕ). Contains l d) (e ∙ append-nil before) among))
  along before (c ∷ rest) k e holds d among =
      let here : Holds (k + step) c = next k c (λ target edge. holds target (is.behind before rest c target e edge)) in
      let further = along (before ++ c ∷ []) rest (k + step) (e ∙ sym (append_assoc before (c ∷ []) rest))
      (λ x h. elim (Contains-push_cases before c x h) [
        | inl there ↦ more k (k + step) x (omega arith) (holds x there)
        | inr same ↦ subst (λ (y : ℕ). Holds (k + step) y) same here
      ]) d among in
      more (k + step + length rest * step) (k + suc (length rest) * step) d (omega arith) further

  -- it holds of each number, with a bound by the count
  pub along_order : (c : ℕ) → c < count → Holds (count * step) c
  along_order c within =
      let short : length order ≤ count = is.short in
      more (0 + length order * step) (count * step) c (omega (arith, mul-le-mul_right step short)) (along [] order 0 refl (λ d h. absurd (no_element d h)) c (is.each c within))

-- ---- an order leaves no way back

-- who reaches itself by way of another leads that one back to itself
led_back : (Edge : ℕ → ℕ → Type 0) (c d n : ℕ) → Edge c d → ReachesIn Edge n d c → ReachesItself Edge d
led_back Edge c d n edge way = (n, leads_more Edge n d c d way edge)

pub order_no_cycle : (edges : List (List ℕ)) (order : List ℕ) → IsOrder (EdgeOf edges) (length edges) order → HasNoCycle (EdgeOf edges)
order_no_cycle edges order is = λ c back.
    along_order 0 (EdgeOf edges) (length edges) order is (λ k x. ¬ ReachesItself (EdgeOf edges) x)
    (λ k m x le holds. holds)
    (λ k x none again. none (again.1).0 (again.1).1 (led_back (EdgeOf edges) x (again.1).0 again.0 (again.1).1 (again.1).2))
    c (edge_within edges c (back.1).0 (back.1).1) back

-- ---- the first one is one

pub one_first : (Edge : ℕ → ℕ → Type 0) (c d : ℕ) → IsFirstCycle Edge c → IsFirstCycle Edge d → c ≡ d
one_first Edge c d of_c of_d = elim (cases_lt c d) [
  | inl less ↦ absurd (of_d.first c less of_c.cycle)
  | inr more ↦ elim (cases_lt d c) [
    | inl less ↦ absurd (of_c.first d less of_d.cycle)
    | inr same ↦ omega arith
  ]
]
