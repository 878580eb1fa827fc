-- Where no node reaches itself, there is an order of the nodes.
use Rattle.std.proofs.Common.{◌≡◌, ℕ, zero, suc, ◌+◌, ◌*◌, max, ◌<◌, ◌≤◌, ◌⊎◌, inl, inr, Bool, true, false, List, [], ◌∷◌, ◌++◌, length, get_or, Some, slice_get, nat_lt, if◌then◌else◌, refl, sym, ◌∙◌, ap, subst, arith, count_by}
use Rattle.std.specs.List.{Contains, AllByRecursion}
use Rattle.std.proofs.lemmas.Bool.{cases_lt}
use Rattle.std.proofs.lemmas.Bool.Decides.{nat_tests}
use Rattle.std.proofs.lemmas.List.{get_or_past}
use Rattle.std.proofs.lemmas.Option.{slice_get-get_or, slice_get_within, same_Some}
use Rattle.node_orders.specs.Cycles.{ReachesIn, ReachesItself, HasNoCycle}
use Rattle.node_orders.specs.Graphs.{EdgeOf, HasEdgesBelow, HasTheEdges, IsOrder}
use Rattle.node_orders.specs.Ranks.{IsRankedAbove, AreRanks, LeadsOn, HasReach}
use Rattle.node_orders.proofs.Elements.{no_element, contains_here, contains_there, contains_cases}
use Rattle.node_orders.proofs.AlongOrders.{along_order}
use Rattle.node_orders.proofs.Reaching.{edge_at, edge_among, edge_within}
use Rattle.node_orders.proofs.Falling.{HasReachesUpTo, reaches_end, order_along}
use Rattle.pepa_checks.proofs.Unavoidable.{values, some_values, some_table}

-- ---- numbers in the order of their ranks

module _ (rank : ℕ → ℕ) where
  abbrev Ascends : List ℕ → Type 0
  Ascends [] = Unit {0}
  Ascends (c ∷ cs) = AllByRecursion (λ d. rank c ≤ rank d) cs × Ascends cs

  -- a number put behind those of less rank
  abbrev put : ℕ → List ℕ → List ℕ
  put c [] = c ∷ []
  put c (d ∷ ds) = if nat_lt (rank d) (rank c) then d ∷ put c ds else c ∷ d ∷ ds

  put_length : (c : ℕ) (ds : List ℕ) → length (put c ds) ≡ suc (length ds)
  put_length c [] = refl
  put_length c (d ∷ ds) = by (nat_lt (rank d) (rank c)) (put_length c ds)
    where
      by : (b : Bool) → length (put c ds) ≡ suc (length ds) → length (if b then d ∷ put c ds else c ∷ d ∷ ds) ≡ suc (suc (length ds))
      by true e = ap suc e
      by false e = refl

  put_new : (c : ℕ) (ds : List ℕ) → Contains (put c ds) c
  put_new c [] = contains_here c []
  put_new c (d ∷ ds) = by (nat_lt (rank d) (rank c)) (put_new c ds)
    where
      by : (b : Bool) → Contains (put c ds) c → Contains (if b then d ∷ put c ds else c ∷ d ∷ ds) c
      by true h = contains_there d (put c ds) c h
      by false h = contains_here c (d ∷ ds)

  put_old : (c : ℕ) (ds : List ℕ) (x : ℕ) → Contains ds x → Contains (put c ds) x
  put_old c [] x h = absurd (no_element x h)
  put_old c (d ∷ ds) x h = by (nat_lt (rank d) (rank c)) (λ there. put_old c ds x there) (contains_cases d ds x h)
    where
      by : (b : Bool) → (Contains ds x → Contains (put c ds) x) → (d ≡ x) ⊎ Contains ds x → Contains (if b then d ∷ put c ds else c ∷ d ∷ ds) x
      by true rest (inl e) = subst (λ (y : ℕ). Contains (d ∷ put c ds) y) e (contains_here d (put c ds))
      by true rest (inr there) = contains_there d (put c ds) x (rest there)
      by false rest case = contains_there c (d ∷ ds) x h

  put_from : (c : ℕ) (ds : List ℕ) (x : ℕ) → Contains (put c ds) x → (c ≡ x) ⊎ Contains ds x
  put_from c [] x h = contains_cases c [] x h
  put_from c (d ∷ ds) x h = by (nat_lt (rank d) (rank c)) (λ there. put_from c ds x there) h
    where
      by : (b : Bool) → (Contains (put c ds) x → (c ≡ x) ⊎ Contains ds x) → Contains (if b then d ∷ put c ds else c ∷ d ∷ ds) x → (c ≡ x) ⊎ Contains (d ∷ ds) x
      by true rest there = elim (contains_cases d (put c ds) x there) [
        | inl e ↦ inr (subst (λ (y : ℕ). Contains (d ∷ ds) y) e (contains_here d ds))
        | inr more ↦ elim (rest more) [ inl same ↦ inl same | inr old ↦ inr (contains_there d ds x old) ]
      ]
      by false rest there = contains_cases c (d ∷ ds) x there

  put_above : (P : ℕ → Type 0) (c : ℕ) (ds : List ℕ) → P c → AllByRecursion P ds → AllByRecursion P (put c ds)
  put_above P c [] h all = (h, tt)
  put_above P c (d ∷ ds) h all = by (nat_lt (rank d) (rank c)) (put_above P c ds h all.1)
    where
      by : (b : Bool) → AllByRecursion P (put c ds) → AllByRecursion P (if b then d ∷ put c ds else c ∷ d ∷ ds)
      by true rest = (all.0, rest)
      by false rest = (h, all)

  higher : (c d : ℕ) (ds : List ℕ) → rank c ≤ rank d → AllByRecursion (λ x. rank d ≤ rank x) ds → AllByRecursion (λ x. rank c ≤ rank x) ds
  higher c d [] le all = tt
  higher c d (x ∷ ds) le all = let first : rank d ≤ rank x = all.0 in (omega arith, higher c d ds le all.1)

  put_ascends : (c : ℕ) (ds : List ℕ) → Ascends ds → Ascends (put c ds)
  put_ascends c [] up = (tt, tt)
  put_ascends c (d ∷ ds) up = by (nat_lt (rank d) (rank c)) refl (put_ascends c ds up.1)
    where
      by : (b : Bool) → nat_lt (rank d) (rank c) ≡ b → Ascends (put c ds) → Ascends (if b then d ∷ put c ds else c ∷ d ∷ ds)
      by true e rest = let lt : rank d < rank c = grind (arith, nat_tests) in (put_above (λ x. rank d ≤ rank x) c ds (omega arith) up.0, rest)
      by false e rest = let le : rank c ≤ rank d = grind (arith, nat_tests) in ((le, higher c d ds le up.0), up)

  -- what has less rank stands before
  stands_before : (before after : List ℕ) (c d : ℕ) → Ascends (before ++ c ∷ after) → Contains (before ++ c ∷ after) d → rank d < rank c → Contains before d
  stands_before [] after c d up among less = elim (contains_cases c after d among) [
    | inl e ↦ let same = ap rank e in absurd (omega arith)
    | inr there ↦ let le = among_all after up.0 there in absurd (omega arith)
  ]
    where
      among_all : (xs : List ℕ) → AllByRecursion (λ x. rank c ≤ rank x) xs → Contains xs d → rank c ≤ rank d
      among_all [] all h = absurd (no_element d h)
      among_all (x ∷ xs) all h = elim (contains_cases x xs d h) [ inl e ↦ subst (λ (y : ℕ). rank c ≤ rank y) e all.0 | inr more ↦ among_all xs all.1 more ]
  stands_before (b ∷ before) after c d up among less = elim (contains_cases b (before ++ c ∷ after) d among) [
    | inl e ↦ subst (λ (y : ℕ). Contains (b ∷ before) y) e (contains_here b before)
    | inr there ↦ contains_there b before d (stands_before before after c d up.1 there less)
  ]

  abbrev arranged : ℕ → List ℕ
  arranged zero = []
  arranged (suc n) = put n (arranged n)

  arranged_length : (n : ℕ) → length (arranged n) ≡ n
  arranged_length zero = refl
  arranged_length (suc n) = put_length n (arranged n) ∙ ap suc (arranged_length n)

  arranged_ascends : (n : ℕ) → Ascends (arranged n)
  arranged_ascends zero = tt
  arranged_ascends (suc n) = put_ascends n (arranged n) (arranged_ascends n)

  arranged_has : (n c : ℕ) → c < n → Contains (arranged n) c
  arranged_has zero c low = absurd (omega arith)
  arranged_has (suc n) c low = elim (cases_lt c n) [
    | inl less ↦ put_old n (arranged n) c (arranged_has n c less)
    | inr le ↦ let e : n ≡ c = omega arith in subst (λ (y : ℕ). Contains (put n (arranged n)) y) e (put_new n (arranged n))
  ]

  arranged_below : (n c : ℕ) → Contains (arranged n) c → c < n
  arranged_below zero c h = absurd (no_element c h)
  arranged_below (suc n) c h = elim (put_from n (arranged n) c h) [
    | inl e ↦ omega (arith, e)
    | inr there ↦ let low = arranged_below n c there in omega arith
  ]

  pub arranged_order : (Edge : ℕ → ℕ → Type 0) (n : ℕ) → ((c d : ℕ) → Edge c d → (d < n) × (rank d < rank c)) → IsOrder Edge n (arranged n)
  arranged_order Edge n falls = record {
    each = arranged_has n;
    below = arranged_below n;
    short = omega (arith, arranged_length n);
    behind = λ before after c d whole edge.
        let down = falls c d edge in
        stands_before before after c d (subst Ascends whole (arranged_ascends n)) (subst (λ (l : List ℕ). Contains l d) whole (arranged_has n d down.0)) down.1;
  }

-- ---- an order along edges without a cycle

last_below : (Edge : ℕ → ℕ → Type 0) (n : ℕ) → ((c d : ℕ) → Edge c d → d < n) → (k c d : ℕ) → ReachesIn Edge (suc k) c d → d < n
last_below Edge n below zero c d way = subst (λ (x : ℕ). x < n) way.2 (below c way.0 way.1)
last_below Edge n below (suc k) c d way = last_below Edge n below k way.0 d way.2

carried : (E F : ℕ → ℕ → Type 0) → ((c d : ℕ) → E c d → F c d) → (k c d : ℕ) → ReachesIn E k c d → ReachesIn F k c d
carried E F to zero c d way = way
carried E F to (suc k) c d way = (way.0, to c way.0 way.1, carried E F to k way.0 d way.2)

order_of_lists : (edges : List (List ℕ)) → HasEdgesBelow (length edges) edges → HasNoCycle (EdgeOf edges) → ((order : List ℕ) × IsOrder (EdgeOf edges) (length edges) order → ⊥) → ⊥
order_of_lists edges below none apart =
    some_values (HasReach edges) (length edges)
    (λ c low missing. some_table (LeadsOn (EdgeOf edges) c) (length edges) (λ d on. last_below (EdgeOf edges) (length edges) below on.0 c d on.1)
    (λ table. missing (count_by (λ marked. marked) table.0, record { not_back = none c; table = table.0; one_each = table.1; table_is = table.2; reach_is = refl })))
    (λ ranks.
    let reaches : HasReachesUpTo edges ranks.0 (length edges) = record { one_each = ranks.1.one_each; each = λ c low. ranks.1.each c (get_or ranks.0 c 0) (slice_get-get_or ranks.0 c 0 (omega (arith, ranks.1.one_each))) } in
    let are = reaches_end edges ranks.0 (length edges) refl below reaches in
    apart (arranged (λ c. get_or ranks.0 c 0) (length edges), arranged_order (λ c. get_or ranks.0 c 0) (EdgeOf edges) (length edges) (λ c d edge. (below c d edge, are.fall c d edge))))

-- ---- ranks by the longest way of so many edges

-- one more than the greatest of these
abbrev above_all : (ℕ → ℕ) → List ℕ → ℕ
above_all rank [] = 0
above_all rank (d ∷ ds) = max (suc (rank d)) (above_all rank ds)

is_above : (rank : ℕ → ℕ) (ds : List ℕ) (d : ℕ) → Contains ds d → rank d < above_all rank ds
is_above rank [] d h = absurd (no_element d h)
is_above rank (x ∷ ds) d h = elim (contains_cases x ds d h) [
  | inl e ↦ let same = ap rank e in omega arith
  | inr there ↦ let rest = is_above rank ds d there in omega arith
]

same_above : (p q : ℕ → ℕ) (ds : List ℕ) → ((d : ℕ) → Contains ds d → p d ≡ q d) → above_all p ds ≡ above_all q ds
same_above p q [] same = refl
same_above p q (d ∷ ds) same =
    let first = same d (contains_here d ds) in
    let rest = same_above p q ds (λ x h. same x (contains_there d ds x h)) in
    omega arith

module _ (edges : List (List ℕ)) where
  -- how many edges a way from the number has, counted up to so many
  depth : ℕ → ℕ → ℕ
  depth zero c = 0
  depth (suc n) c = above_all (depth n) (get_or edges c [])

  -- it doesn't grow from so many on
  abbrev IsSteady : ℕ → ℕ → Type 0
  IsSteady n c = (m : ℕ) → n ≤ m → depth m c ≡ depth n c

  edge_there : (c d : ℕ) → Contains (get_or edges c []) d → EdgeOf edges c d
  edge_there c d h = elim (cases_lt c (length edges)) [
    | inl low ↦ edge_at edges c d [] low h
    | inr past ↦ absurd (no_element d (subst (λ (l : List ℕ). Contains l d) (get_or_past edges c [] past) h))
  ]

  steady_next : (n c : ℕ) → ((d : ℕ) → EdgeOf edges c d → IsSteady n d) → IsSteady (n + 1) c
  unfolding depth
  steady_next n c each zero le = absurd (omega arith)
  steady_next n c each (suc m) le =
      let e : n + 1 ≡ suc n = omega arith in
      rw e (same_above (depth m) (depth n) (get_or edges c []) (λ d h. each d (edge_there c d h) m (omega arith)))

  -- where there is an order, it falls along each edge
  depth_falls : (order : List ℕ) → IsOrder (EdgeOf edges) (length edges) order → (c d : ℕ) → EdgeOf edges c d → depth (length edges) d < depth (length edges) c
  unfolding depth
  depth_falls order is c d edge =
      let steady : IsSteady (length edges * 1) c =
      along_order 1 (EdgeOf edges) (length edges) order is IsSteady (λ k m x le holds j more. holds j (omega arith) ∙ sym (holds m le)) steady_next c (edge_within edges c d edge) in
      let e : length edges * 1 ≡ length edges = omega arith in
      let same : depth (suc (length edges)) c ≡ depth (length edges) c = (subst (λ (k : ℕ). IsSteady k c) e steady) (suc (length edges)) (omega arith) in
      let less : depth (length edges) d < depth (suc (length edges)) c = is_above (depth (length edges)) (get_or edges c []) d (edge_among edges c d [] edge) in
      omega arith

  order_of : HasEdgesBelow (length edges) edges → HasNoCycle (EdgeOf edges) → (order : List ℕ) × IsOrder (EdgeOf edges) (length edges) order
  order_of below none = (
    arranged (depth (length edges)) (length edges),
    arranged_order (depth (length edges)) (EdgeOf edges) (length edges)
        (λ c d edge. (below c d edge, by c d edge (nat_lt (depth (length edges) d) (depth (length edges) c)) refl)),
  )
    where
      by : (c d : ℕ) → EdgeOf edges c d → (b : Bool) → nat_lt (depth (length edges) d) (depth (length edges) c) ≡ b → depth (length edges) d < depth (length edges) c
      by c d edge true e = grind (arith, nat_tests)
      by c d edge false e = absurd (order_of_lists edges below none (λ order. let less = depth_falls order.0 order.1 c d edge in grind (arith, nat_tests)))

-- ---- an order along edges

-- the edges of a number are those that a list has
pub record AreTargets (Edge : ℕ → ℕ → Type 0) (c : ℕ) (targets : List ℕ) : Type 0 where
  pub sound : (d : ℕ) → Contains targets d → Edge c d
  pub complete : (d : ℕ) → Edge c d → Contains targets d

-- where each number has a list of its edges and none reaches itself, there is an order
pub some_order : (Edge : ℕ → ℕ → Type 0) (n : ℕ) → ((c d : ℕ) → Edge c d → c < n) → ((edges : List (List ℕ)) → HasTheEdges Edge edges → HasEdgesBelow n edges) → ((c : ℕ) → c < n → (targets : List ℕ) × AreTargets Edge c targets) → HasNoCycle Edge → (order : List ℕ) × IsOrder Edge n order
some_order Edge n within below lists none =
    let edges = values (AreTargets Edge) n lists in
    let the : HasTheEdges Edge edges.0 = record {
      sound = λ c d edge. (edges.1.each c edge.0 edge.1).sound d edge.2;
      complete = λ c d edge.
          let at = slice_get-get_or edges.0 c [] (omega (arith, edges.1.one_each, within c d edge)) in
          (get_or edges.0 c [], at, (edges.1.each c (get_or edges.0 c []) at).complete d edge);
    } in
    let order = order_of edges.0
    (subst (λ (k : ℕ). HasEdgesBelow k edges.0) (sym edges.1.one_each) (below edges.0 the))
    (λ c back. none c (back.0, carried (EdgeOf edges.0) Edge the.sound (suc back.0) c c back.1)) in
    (order.0, subst (λ (k : ℕ). IsOrder Edge k order.0) edges.1.one_each (order_along (EdgeOf edges.0) Edge (length edges.0) order.0 the.complete order.1))
