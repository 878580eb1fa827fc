-- Nodes in the order of their ranks.
use Rattle.std.proofs.Common.{◌≡◌, ℕ, ◌<◌, inl, inr, List, ◌∷◌, map, length, get_or, refl, sym, ◌∙◌, ap, subst, arith, length-append}
use Rattle.std.specs.List.{Contains}
use Rattle.std.specs.List.Sorted.{IsNonDecreasingBy, IsPermutation}
use Rattle.std.proofs.lemmas.Bool.{cases_lt}
use Rattle.std.proofs.lemmas.List.{length-map, get_or-map, get_or_default, get_or_append_left}
use Rattle.std.proofs.Math.Seq.{get_or-append_seam}
use Rattle.std.proofs.lemmas.List.Sorted.{Contains-permutation, IsPermutation-sym, length_permutation}
use Rattle.std.proofs.lemmas.Option.{get_or_from_slice_get, slice_get_within}
use Rattle.node_orders.specs.declared.orders.Ranked.{Ranked}
use Rattle.node_orders.specs.Graphs.{IsOrder}
use Rattle.node_orders.specs.Ranks.{IsRankedAbove}
use Rattle.node_orders.specs.RankLists.{AreRanked}
use Rattle.node_orders.proofs.Elements.{contains_map_from, contains_map_to}

-- a node with its rank
abbrev pub at_rank : List ℕ → ℕ → Ranked
at_rank ranks c = record { rank = get_or ranks c 0; node = c }

-- ---- the sorted list

module _ (ranks : List ℕ) (list sorted : List Ranked) (are : AreRanked ranks (length ranks) list) (moved : IsPermutation list sorted) (up : IsNonDecreasingBy (λ r. r.rank) sorted) where
  abbrev pub in_order : List ℕ
  in_order = map (λ r. r.node) sorted

  is_ranked : (r : Ranked) → Contains sorted r → (r.node < length ranks) × (r.rank ≡ get_or ranks r.node 0)
  is_ranked r among =
      let first = Contains-permutation sorted list r (IsPermutation-sym list sorted moved) among in
      let low : first.0 < length ranks = omega (arith, first.1, are.one_each) in
      let is : at_rank ranks first.0 ≡ r = sym (get_or_from_slice_get list first.0 (at_rank ranks first.0) r (are.each first.0 low)) ∙ first.2 in
      subst (λ x. (x.node < length ranks) × (x.rank ≡ get_or ranks x.node 0)) is (low, refl)

  has_each : (c : ℕ) → c < length ranks → Contains sorted (at_rank ranks c)
  has_each c low =
      let read = are.each c low in
      Contains-permutation list sorted (at_rank ranks c) moved (c, slice_get_within list c (at_rank ranks c) read, get_or_from_slice_get list c (at_rank ranks c) (at_rank ranks c) read)

  pub is_order : IsOrder (IsRankedAbove ranks) (length ranks) in_order
  is_order = record {
    each = λ c low. contains_map_to (λ r. r.node) sorted (at_rank ranks c) (has_each c low);
    below = λ d among.
        let from = contains_map_from (λ r. r.node) sorted d among in
        subst (λ x. x < length ranks) from.2 (is_ranked from.0 from.1).0;
    short = omega (arith, length-map sorted (λ r. r.node), length_permutation list sorted moved, are.one_each);
    behind = λ before after c d whole above.
        let there = has_each d above.0 in
        let long = length-map sorted (λ r. r.node) in
        let sizes = length-append before (c ∷ after) in
        let within : length before < length sorted = omega (arith, long, sizes, ap length whole) in
        let r = get_or sorted (length before) (at_rank ranks d) in
        let among : Contains sorted r = (length before, within, get_or_default sorted (length before) r (at_rank ranks d) within) in
        let is_c : r.node ≡ c =
        sym (get_or-map (λ x. x.node) sorted (length before) (at_rank ranks d) 0 within)
        ∙ ap (λ xs. get_or xs (length before) 0) whole ∙ get_or-append_seam before c after 0 in
        let rank_is : r.rank ≡ get_or ranks c 0 = (is_ranked r among).1 ∙ ap (λ n. get_or ranks n 0) is_c in
        elim (cases_lt there.0 (length before)) [
          | inl front ↦ (
            there.0,
            front,
            sym (get_or_append_left before (c ∷ after) d there.0 front) ∙ ap (λ xs. get_or xs there.0 d) (sym whole)
                ∙ get_or-map (λ x. x.node) sorted there.0 (at_rank ranks d) d there.1 ∙ ap (λ x. x.node) there.2,
          )
          | inr later ↦
              absurd (omega (arith, up (length before) there.0 (at_rank ranks d) later there.1, ap (λ x. x.rank) there.2, rank_is, above.1))
        ];
  }

-- the same, by the list that the program read
pub order_read : (ranks : List ℕ) (list sorted read : List Ranked) (order : List ℕ) → AreRanked ranks (length ranks) list → IsPermutation list sorted → IsNonDecreasingBy (λ r. r.rank) sorted → read ≡ sorted → order ≡ map (λ r. r.node) read → IsOrder (IsRankedAbove ranks) (length ranks) order
order_read ranks list sorted read order are moved up same is =
    subst (λ xs. IsOrder (IsRankedAbove ranks) (length ranks) xs) (sym (is ∙ ap (λ xs. map (λ r. r.node) xs) same)) (is_order ranks list sorted are moved up)
