-- Sums of the first weights of a loaded list.
use Rattle.std.proofs.Common.{◌≡◌, ℕ, zero, suc, ◌+◌, ◌<◌, ◌≤◌, List, [], ◌∷◌, length, sum, sum_by, take, get_or, map, Some, slice_get, refl, ap, sym, ◌∙◌, arith}
use Rattle.std.proofs.lemmas.List.Sums.{sum_by_more, sum_by-take-le, sum-map}
use Rattle.std.proofs.lemmas.List.{take_all, length-map}
use Rattle.std.proofs.lemmas.Option.{slice_get-map, slice_get_within, get_or_from_slice_get}
use Rattle.pepa_rates.specs.Sum.{fraction_of}
use Rattle.pepa_rates.specs.Weights.{common_den, weight_of}
use Rattle.pepa_steps.specs.declared.entries.Entry.{Entry}
use Rattle.sim_space.specs.LoadedLists.{fractions_in, weights_in}

map_self : (ws : List ℕ) → map (λ (a : ℕ). a) ws ≡ ws
map_self [] = refl
map_self (w ∷ ws) = ap (λ (r : List ℕ). w ∷ r) (map_self ws)

sum_self : (ws : List ℕ) → sum ws ≡ sum_by (λ (a : ℕ). a) ws
sum_self ws = ap sum (sym (map_self ws)) ∙ sum-map (λ (a : ℕ). a) ws

sum-take-more : (ws : List ℕ) (i w : ℕ) → slice_get ws i ≡ Some w → sum (take (i + 1) ws) ≡ sum (take i ws) + w
sum-take-more ws i w h =
    let less = slice_get_within ws i w h in
    let e : get_or ws i 0 ≡ w = get_or_from_slice_get ws i w 0 h in
    let a = sum_self (take (i + 1) ws) in
    let b = sum_self (take i ws) in
    let d = sum_by_more (λ (a : ℕ). a) ws i 0 less in
    omega arith

sum-take-le : (ws : List ℕ) (i : ℕ) → sum (take i ws) ≤ sum ws
sum-take-le ws i =
    let a = sum_self (take i ws) in
    let b = sum_self ws in
    let d = sum_by-take-le (λ (a : ℕ). a) ws i in
    omega arith

weight_at : (entries : List Entry) (i : ℕ) (e : Entry) → slice_get entries i ≡ Some e
    → slice_get (weights_in entries) i ≡ Some (weight_of (common_den (fractions_in entries)) (fraction_of e.rate))
weight_at entries i e h =
    slice_get-map (weight_of (common_den (fractions_in entries))) (fractions_in entries) i
    ∙ rw (slice_get-map (λ (x : Entry). fraction_of x.rate) entries i, h) refl

-- the sum so far, with the next weight
pub sum_more : (entries : List Entry) (i : ℕ) (e : Entry) → slice_get entries i ≡ Some e
    → sum (take (i + 1) (weights_in entries)) ≡ sum (take i (weights_in entries)) + weight_of (common_den (fractions_in entries)) (fraction_of e.rate)
sum_more entries i e h = sum-take-more (weights_in entries) i _ (weight_at entries i e h)

pub sum_within : (entries : List Entry) (i : ℕ) → sum (take i (weights_in entries)) ≤ sum (weights_in entries)
sum_within entries i = sum-take-le (weights_in entries) i

pub weights_long : (entries : List Entry) → length (weights_in entries) ≡ length entries
weights_long entries =
    length-map (fractions_in entries) (weight_of (common_den (fractions_in entries))) ∙ length-map entries (λ (x : Entry). fraction_of x.rate)

pub sum_all : (entries : List Entry) (i : ℕ) → length entries ≤ i → sum (take i (weights_in entries)) ≡ sum (weights_in entries)
sum_all entries i h =
    let long : length (weights_in entries) ≤ i = omega (arith, weights_long entries) in
    ap sum (take_all i (weights_in entries) long)
