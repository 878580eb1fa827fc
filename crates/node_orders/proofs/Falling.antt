-- Ranks that fall along each edge, and how many nodes each one leads on to.
use Rattle.std.proofs.Common.{◌≡◌, ℕ, zero, suc, ◌+◌, ◌<◌, ◌≤◌, inl, inr, Bool, true, false, cond, List, [], ◌∷◌, ◌++◌, length, get_or, count_by, Some, refl, sym, ◌∙◌, ap, subst, arith, length-append}
use Rattle.std.specs.List.{Contains}
use Rattle.std.proofs.lemmas.Bool.{false≢true, cases_lt}
use Rattle.std.proofs.lemmas.List.{get_or_default, get_or_append_left}
use Rattle.std.proofs.Math.Seq.{get_or-append_seam}
use Rattle.std.proofs.lemmas.List.Sums.{sum_by-cons}
use Rattle.std.proofs.lemmas.Option.{get_or_from_slice_get, slice_get-get_or}
use Rattle.node_orders.specs.declared.cycles.CycleOrOrder.TheVariants.{Order}
use Rattle.node_orders.specs.Cycles.{ReachesIn, ReachesItself, HasNoCycle}
use Rattle.node_orders.specs.Graphs.{EdgeOf, HasEdgesBelow, SaysYes, IsReached, IsTableOf, IsOrder}
use Rattle.node_orders.specs.Ranks.{IsRankedAbove, AreRanks, LeadsOn, HasReach, IsCycleOrOrder}
use Rattle.node_orders.proofs.Reaching.{edge_at, edge_among, edge_within}

-- ---- ranks that fall leave no way back

module _ (Edge : ℕ → ℕ → Type 0) (rank : ℕ → ℕ) (falls : (c d : ℕ) → Edge c d → rank d < rank c) where
  leads_down : (n c d : ℕ) → ReachesIn Edge n c d → rank d ≤ rank c
  leads_down zero c d same = omega (arith, ap rank same)
  leads_down (suc n) c d way = omega (arith, falls c way.0 way.1, leads_down n way.0 d way.2)

  falling : HasNoCycle Edge
  falling c back = absurd (omega (arith, falls c (back.1).0 (back.1).1, leads_down back.0 (back.1).0 c (back.1).2))

-- an order along more edges is one along these
pub order_along : (E F : ℕ → ℕ → Type 0) (count : ℕ) (order : List ℕ) → ((c d : ℕ) → F c d → E c d) → IsOrder E count order → IsOrder F count order
order_along E F count order to given = record {
  each = given.each;
  below = given.below;
  short = given.short;
  behind = λ before after c d whole edge. given.behind before after c d whole (to c d edge);
}

-- the order by such ranks is what is found
pub order_found : (edges : List (List ℕ)) (ranks order : List ℕ) → HasEdgesBelow (length edges) edges → AreRanks (EdgeOf edges) (length edges) ranks → IsOrder (IsRankedAbove ranks) (length ranks) order → IsCycleOrOrder (EdgeOf edges) (length edges) (Order order)
order_found edges ranks order below given in_order = (
  falling (EdgeOf edges) (λ c. get_or ranks c 0) given.fall,
  subst (λ n. IsOrder (EdgeOf edges) n order) given.one_each
      (order_along (IsRankedAbove ranks) (EdgeOf edges) (length ranks) order
      (λ c d edge. (subst (λ n. d < n) (sym given.one_each) (below c d edge), given.fall c d edge)) in_order),
)

-- ---- one node after another

pub lower_each : (ranks : List ℕ) (rank : ℕ) (targets : List ℕ) → ((k : ℕ) → k < length targets → get_or ranks (get_or targets k 0) 0 < rank) → (d : ℕ) → Contains targets d → get_or ranks d 0 < rank
lower_each ranks rank targets each d among =
    subst (λ x. get_or ranks x 0 < rank) (get_or_default targets among.0 0 d among.1 ∙ among.2) (each among.0 among.1)

pub falls_more : (edges : List (List ℕ)) (ranks : List ℕ) (at : ℕ) (e targets : List ℕ) → ((c : ℕ) → c < at → (d : ℕ) → EdgeOf edges c d → get_or ranks d 0 < get_or ranks c 0) → targets ≡ get_or edges at e → ((d : ℕ) → Contains targets d → get_or ranks d 0 < get_or ranks at 0) → (c : ℕ) → c < at + 1 → (d : ℕ) → EdgeOf edges c d → get_or ranks d 0 < get_or ranks c 0
falls_more edges ranks at e targets so_far read here c low d edge = elim (cases_lt c at) [
  | inl before ↦ so_far c before d edge
  | inr after ↦
      let is : c ≡ at = omega arith in
      let edge2 : EdgeOf edges at d = subst (λ x. EdgeOf edges x d) is edge in
      subst (λ x. get_or ranks d 0 < get_or ranks x 0) (sym is)
      (here d (subst (λ ts. Contains ts d) (sym read) (edge_among edges at d e edge2)))
]

pub falls_all : (edges : List (List ℕ)) (ranks : List ℕ) (at : ℕ) → length ranks ≡ length edges → length edges ≤ at → ((c : ℕ) → c < at → (d : ℕ) → EdgeOf edges c d → get_or ranks d 0 < get_or ranks c 0) → AreRanks (EdgeOf edges) (length edges) ranks
falls_all edges ranks at one_each all so_far = record {
  one_each = one_each;
  fall = λ c d edge. so_far c (omega (arith, edge_within edges c d edge)) d edge;
}

-- ---- counts of marks

abbrev marks : List Bool → ℕ
marks table = count_by (λ marked. marked) table

marks_cons : (x : Bool) (xs : List Bool) → marks (x ∷ xs) ≡ cond x 1 0 + marks xs
marks_cons x xs = sum_by-cons (λ marked. cond marked 1 0) x xs

no_mark : Some false ≡ Some true → ⊥
no_mark e = cc

first_le : (x y : Bool) → (Some x ≡ Some true → Some y ≡ Some true) → ◌≤◌ (cond x 1 0) (cond y 1 0)
first_le false y same = omega arith
first_le true true same = omega arith
first_le true false same = absurd (no_mark (same refl))

first_less : (x y : Bool) → Some y ≡ Some true → (Some x ≡ Some true → ⊥) → ◌<◌ (cond x 1 0) (cond y 1 0)
first_less false true hit miss = omega arith
first_less x false hit miss = absurd (no_mark hit)
first_less true true hit miss = absurd (miss refl)

marks_le : (xs ys : List Bool) → length xs ≡ length ys → ((k : ℕ) → SaysYes xs k → SaysYes ys k) → marks xs ≤ marks ys
marks_le [] ys long same = omega arith
marks_le (x ∷ xs) [] long same = absurd (omega arith)
marks_le (x ∷ xs) (y ∷ ys) long same =
    omega (arith, marks_cons x xs, marks_cons y ys, first_le x y (same 0), marks_le xs ys (omega arith) (λ k hit. same (suc k) hit))

marks_less : (xs ys : List Bool) → length xs ≡ length ys → ((k : ℕ) → SaysYes xs k → SaysYes ys k) → (k : ℕ) → SaysYes ys k → (SaysYes xs k → ⊥) → marks xs < marks ys
marks_less xs [] long same k hit miss = cc
marks_less [] (y ∷ ys) long same k hit miss = absurd (omega arith)
marks_less (x ∷ xs) (y ∷ ys) long same zero hit miss =
    omega (arith, marks_cons x xs, marks_cons y ys, first_less x y hit miss, marks_le xs ys (omega arith) (λ k hit. same (suc k) hit))
marks_less (x ∷ xs) (y ∷ ys) long same (suc k) hit miss =
    omega (arith, marks_cons x xs, marks_cons y ys, first_le x y (same 0), marks_less xs ys (omega arith) (λ k hit. same (suc k) hit) k hit miss)

-- ---- what each one leads on to

leads_on_more : (Edge : ℕ → ℕ → Type 0) (c d e : ℕ) → Edge c d → LeadsOn Edge d e → LeadsOn Edge c e
leads_on_more Edge c d e edge on = (suc on.0, (d, edge, on.1))

-- a table of what the successors reach is one of what the node leads on to
reach_table : (edges : List (List ℕ)) (c : ℕ) (e targets : List ℕ) (table : List Bool) → c < length edges → targets ≡ get_or edges c e → IsTableOf (IsReached edges targets) table → IsTableOf (LeadsOn (EdgeOf edges) c) table
reach_table edges c e targets table within read given = record {
  sound = λ d hit.
      let way = given.sound d hit in
      ((way.2).0, (way.0, edge_at edges c way.0 e within (subst (λ ts. Contains ts way.0) read way.1), (way.2).1));
  complete = λ d on.
      given.complete d ((on.1).0, subst (λ ts. Contains ts (on.1).0) (sym read) (edge_among edges c (on.1).0 e (on.1).1), (on.0, (on.1).2));
}

pub has_reach : (edges : List (List ℕ)) (c : ℕ) (e targets : List ℕ) (table : List Bool) (reach : ℕ) → c < length edges → targets ≡ get_or edges c e → (length table ≡ length edges) × IsTableOf (IsReached edges targets) table → get_or table c false ≡ false → reach ≡ count_by (λ marked. marked) table → HasReach edges c reach
has_reach edges c e targets table reach within read given miss is =
    let told = reach_table edges c e targets table within read given.1 in
    record {
      not_back = λ back. false≢true (sym miss ∙ get_or_from_slice_get table c true false (told.complete c back));
      table = table;
      one_each = given.0;
      table_is = told;
      reach_is = is;
    }

pub reaches_back : (edges : List (List ℕ)) (c : ℕ) (e targets : List ℕ) (table : List Bool) → c < length edges → targets ≡ get_or edges c e → (length table ≡ length edges) × IsTableOf (IsReached edges targets) table → get_or table c false ≡ true → ReachesItself (EdgeOf edges) c
reaches_back edges c e targets table within read given hit =
    (reach_table edges c e targets table within read given.1).sound c (slice_get-get_or table c false (omega (arith, given.0)) ∙ ap Some hit)

reach_falls : (edges : List (List ℕ)) (c d : ℕ) (reach_c reach_d : ℕ) → HasReach edges c reach_c → HasReach edges d reach_d → EdgeOf edges c d → reach_d < reach_c
reach_falls edges c d reach_c reach_d of_c of_d edge =
    let less = marks_less of_d.table of_c.table (of_d.one_each ∙ sym of_c.one_each)
    (λ k hit. of_c.table_is.complete k (leads_on_more (EdgeOf edges) c d k edge (of_d.table_is.sound k hit)))
    d (of_c.table_is.complete d (0, (d, edge, refl))) (λ hit. of_d.not_back (of_d.table_is.sound d hit)) in
    omega (arith, less, of_c.reach_is, of_d.reach_is)

pub record HasReachesUpTo (edges : List (List ℕ)) (ranks : List ℕ) (at : ℕ) : Type 0 where
  pub one_each : length ranks ≡ at
  pub each : (c : ℕ) → c < at → HasReach edges c (get_or ranks c 0)

pub reaches_begin : (edges : List (List ℕ)) → HasReachesUpTo edges [] 0
reaches_begin edges = record { one_each = refl; each = λ c low. absurd (omega (arith, low)) }

pub reaches_more : (edges : List (List ℕ)) (ranks : List ℕ) (at reach : ℕ) → HasReachesUpTo edges ranks at → HasReach edges at reach → HasReachesUpTo edges (ranks ++ reach ∷ []) (at + 1)
reaches_more edges ranks at reach so_far here = record {
  one_each = omega (arith, so_far.one_each, length-append ranks (reach ∷ []));
  each = λ c low. elim (cases_lt c at) [
    | inl before ↦ subst (HasReach edges c) (sym (get_or_append_left ranks (reach ∷ []) 0 c (omega (arith, so_far.one_each)))) (so_far.each c before)
    | inr after ↦
        let is : at ≡ c = omega arith in
        let last : get_or (ranks ++ reach ∷ []) at 0 ≡ reach = ap (λ n. get_or (ranks ++ reach ∷ []) n 0) (sym so_far.one_each) ∙ get_or-append_seam ranks reach [] 0 in
        subst (λ n. HasReach edges n (get_or (ranks ++ reach ∷ []) n 0)) is (subst (HasReach edges at) (sym last) here)
  ];
}

pub reaches_end : (edges : List (List ℕ)) (ranks : List ℕ) (at : ℕ) → at ≡ length edges → HasEdgesBelow (length edges) edges → HasReachesUpTo edges ranks at → AreRanks (EdgeOf edges) (length edges) ranks
reaches_end edges ranks at all below so_far = record {
  one_each = so_far.one_each ∙ all;
  fall = λ c d edge.
      reach_falls edges c d (get_or ranks c 0) (get_or ranks d 0) (so_far.each c (omega (arith, edge_within edges c d edge))) (so_far.each d (omega (arith, below c d edge))) edge;
}
