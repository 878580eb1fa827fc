-- Lists of edges, one after another, and what is found of their nodes.
use Rattle.std.proofs.Common.{◌≡◌, ℕ, zero, suc, ◌+◌, ◌<◌, inl, inr, List, [], ◌∷◌, ◌++◌, length, get_or, refl, sym, ◌∙◌, ap, subst, arith, length-append}
use Rattle.std.specs.List.{Contains}
use Rattle.std.proofs.lemmas.Bool.{cases_lt}
use Rattle.std.proofs.lemmas.List.{get_or_append_left}
use Rattle.std.proofs.Math.Seq.{get_or-append_seam}
use Rattle.node_orders.specs.declared.cycles.CycleOrOrder.{CycleOrOrder}
use Rattle.node_orders.specs.declared.cycles.CycleOrOrder.TheVariants.{Cycle, Order}
use Rattle.node_orders.specs.Cycles.{ReachesIn, ReachesItself, IsFirstCycle, HasNoCycle}
use Rattle.node_orders.specs.Graphs.{EdgeOf, IsOrder, HasTheEdges}
use Rattle.node_orders.specs.Ranks.{IsCycleOrOrder}
use Rattle.node_orders.proofs.Reaching.{edge_at, edge_among, edge_within}
use Rattle.node_orders.proofs.Falling.{order_along}

-- ---- one list more

pub record HasEdgesUpTo (Edge : ℕ → ℕ → Type 0) (edges : List (List ℕ)) (at : ℕ) : Type 0 where
  pub sizes : length edges ≡ at
  pub sound : (c d : ℕ) → EdgeOf edges c d → Edge c d
  pub complete : (c d : ℕ) → c < at → Edge c d → EdgeOf edges c d

pub edges_begin : (Edge : ℕ → ℕ → Type 0) → HasEdgesUpTo Edge [] 0
edges_begin Edge = record {
  sizes = refl;
  sound = λ c d edge. absurd (omega (arith, edge_within [] c d edge));
  complete = λ c d low. absurd (omega (arith, low));
}

pub edges_more : (Edge : ℕ → ℕ → Type 0) (edges : List (List ℕ)) (at : ℕ) (targets : List ℕ) → HasEdgesUpTo Edge edges at → ((d : ℕ) → Contains targets d → Edge at d) → ((d : ℕ) → Edge at d → Contains targets d) → HasEdgesUpTo Edge (edges ++ targets ∷ []) (at + 1)
edges_more Edge edges at targets so_far to from =
    let size = length-append edges (targets ∷ []) in
    let last : get_or (edges ++ targets ∷ []) at [] ≡ targets = ap (λ n. get_or (edges ++ targets ∷ []) n []) (sym so_far.sizes) ∙ get_or-append_seam edges targets [] [] in
    record {
      sizes = omega (arith, size, so_far.sizes);
      sound = λ c d edge. elim (cases_lt c at) [
        | inl before ↦
            so_far.sound c d (edge_at edges c d [] (omega (arith, so_far.sizes)) (subst (λ ts. Contains ts d) (get_or_append_left edges (targets ∷ []) [] c (omega (arith, so_far.sizes))) (edge_among (edges ++ targets ∷ []) c d [] edge)))
        | inr after ↦
            let is : at ≡ c = omega (arith, size, so_far.sizes, edge_within (edges ++ targets ∷ []) c d edge) in
            subst (λ x. Edge x d) is (to d (subst (λ ts. Contains ts d) last (edge_among (edges ++ targets ∷ []) at d [] (subst (λ x. EdgeOf (edges ++ targets ∷ []) x d) (sym is) edge))))
      ];
      complete = λ c d low edge. elim (cases_lt c at) [
        | inl before ↦
            edge_at (edges ++ targets ∷ []) c d [] (omega (arith, size, so_far.sizes)) (subst (λ ts. Contains ts d) (sym (get_or_append_left edges (targets ∷ []) [] c (omega (arith, so_far.sizes)))) (edge_among edges c d [] (so_far.complete c d before edge)))
        | inr after ↦
            let is : at ≡ c = omega arith in
            subst (λ x. EdgeOf (edges ++ targets ∷ []) x d) is (edge_at (edges ++ targets ∷ []) at d [] (omega (arith, size, so_far.sizes)) (subst (λ ts. Contains ts d) (sym last) (from d (subst (λ x. Edge x d) (sym is) edge))))
      ];
    }

pub edges_end : (Edge : ℕ → ℕ → Type 0) (edges : List (List ℕ)) (at : ℕ) → ((c d : ℕ) → Edge c d → c < at) → HasEdgesUpTo Edge edges at → HasTheEdges Edge edges
edges_end Edge edges at within so_far = record { sound = so_far.sound; complete = λ c d edge. so_far.complete c d (within c d edge) edge }

-- ---- the same edges lead the same way

leads_same : (E F : ℕ → ℕ → Type 0) → ((c d : ℕ) → E c d → F c d) → (n c d : ℕ) → ReachesIn E n c d → ReachesIn F n c d
leads_same E F to zero c d way = way
leads_same E F to (suc n) c d way = (way.0, to c way.0 way.1, leads_same E F to n way.0 d way.2)

reaches_same : (E F : ℕ → ℕ → Type 0) → ((c d : ℕ) → E c d → F c d) → (c : ℕ) → ReachesItself E c → ReachesItself F c
reaches_same E F to c back = (back.0, leads_same E F to (suc back.0) c c back.1)

no_cycle_same : (Edge : ℕ → ℕ → Type 0) (edges : List (List ℕ)) → HasTheEdges Edge edges → HasNoCycle (EdgeOf edges) → HasNoCycle Edge
no_cycle_same Edge edges told none = λ c back. none c (reaches_same Edge (EdgeOf edges) told.complete c back)

first_cycle_same : (Edge : ℕ → ℕ → Type 0) (edges : List (List ℕ)) (c : ℕ) → HasTheEdges Edge edges → IsFirstCycle (EdgeOf edges) c → IsFirstCycle Edge c
first_cycle_same Edge edges c told given = record {
  cycle = reaches_same (EdgeOf edges) Edge told.sound c given.cycle;
  first = λ other low back. given.first other low (reaches_same Edge (EdgeOf edges) told.complete other back);
}

order_same : (Edge : ℕ → ℕ → Type 0) (edges : List (List ℕ)) (count : ℕ) (order : List ℕ) → HasTheEdges Edge edges → IsOrder (EdgeOf edges) count order → IsOrder Edge count order
order_same Edge edges count order told given = order_along (EdgeOf edges) Edge count order told.complete given

found_same : (Edge : ℕ → ℕ → Type 0) (edges : List (List ℕ)) (count : ℕ) → HasTheEdges Edge edges → (found : CycleOrOrder) → IsCycleOrOrder (EdgeOf edges) count found → IsCycleOrOrder Edge count found
found_same Edge edges count told (Cycle c) given = first_cycle_same Edge edges c told given
found_same Edge edges count told (Order order) given = (no_cycle_same Edge edges told given.0, order_same Edge edges count order told given.1)

-- the same, by the lists that the program read
pub found_read : (Edge : ℕ → ℕ → Type 0) (edges read : List (List ℕ)) (count : ℕ) (found : CycleOrOrder) → HasTheEdges Edge edges → read ≡ edges → length edges ≡ count → IsCycleOrOrder (EdgeOf read) (length read) found → IsCycleOrOrder Edge count found
found_read Edge edges read count found told is size given =
    found_same Edge edges count told found
    (subst (λ n. IsCycleOrOrder (EdgeOf edges) n found) size (subst (λ e. IsCycleOrOrder (EdgeOf e) (length e) found) is given))
