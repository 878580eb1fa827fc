-- What a loop over entries has so far, and what one more entry adds.
use Rattle.std.proofs.Common.{◌≡◌, ◌≢◌, ℕ, zero, suc, ◌+◌, ◌<◌, ◌≤◌, Bool, true, false, not, cond, ◌⊎◌, inl, inr, List, [], ◌∷◌, ◌++◌, map, length, get_or, take, Some, None}
use Rattle.std.proofs.Common.{refl, sym, ap, subst, ◌∙◌, append_assoc, arith}
use Rattle.std.specs.Prelude.{filter, sum_by, ◌==◌, if◌then◌else◌}
use Rattle.std.specs.List.{All}
use Rattle.std.specs.Ordering.{nat_cmp}
use Rattle.std.specs.BTreeMap.{is_at}
use Rattle.std.specs.Map.{lookup}
use Rattle.std.proofs.lemmas.List.{append-nil, length_push, get_or_at, length-map, take_more, length-take-le}
use Rattle.std.proofs.lemmas.List.Elements.{filter-append, All-nil, All-cons}
use Rattle.std.proofs.lemmas.List.Sums.{sum_by_push, length-filter, count_by-le-length}
use Rattle.std.proofs.lemmas.Bool.{cases_eq, eq-eqb, ne_eqb}
use Rattle.pepa_steps.specs.Moves.{Move, move, has, outside_set}
use Rattle.pepa_steps.specs.Combined.{numbered}
use Rattle.pepa_steps.specs.JointSteps.{HasPartners, listed_indices, indices_in, places_from, AddsPartner, pair_count}
use Rattle.pepa_steps.specs.declared.entries.Entry.{Entry}

-- ---- entries that lead to their places

pub get_or_same : {X : Type 0} (xs : List X) (i : ℕ) (d : X) → i < length xs → get_or xs i d ≡ get_or xs i (get_or xs i d)
get_or_same [] i d below = absurd (omega (arith, below))
get_or_same (x ∷ xs) zero d below = refl
get_or_same (x ∷ xs) (suc i) d below = get_or_same xs i d (omega (arith, below))

numbered_push : (at : ℕ) (es : List Entry) (e : Entry) → numbered at (es ++ e ∷ []) ≡ numbered at es ++ move e.action e.signals e.rate (at + length es) ∷ []
numbered_push at [] e =
    let same : at ≡ at + 0 = omega arith in
    ap (λ (n : ℕ). move e.action e.signals e.rate n ∷ []) same
numbered_push at (x ∷ es) e =
    let same : (at + 1) + length es ≡ at + length (x ∷ es) = omega arith in
    ap (λ (l : List (Move ℕ)). move x.action x.signals x.rate at ∷ l) (numbered_push (at + 1) es e ∙ ap (λ (n : ℕ). numbered (at + 1) es ++ move e.action e.signals e.rate n ∷ []) same)

-- an entry that leads to this place
abbrev pub at_place : ℕ → Entry → Move ℕ
at_place i e = move e.action e.signals e.rate i

-- the entries before the next index
pub numbered_more : (es : List Entry) (i : ℕ) (e : Entry) → i < length es → e ≡ get_or es i e → numbered 0 (take (i + 1) es) ≡ numbered 0 (take i es) ++ at_place i e ∷ []
numbered_more es i e below is =
    let long : 0 + length (take i es) ≡ i = omega (arith, length-take-le i es (omega (arith, below))) in
    ap (numbered 0) (take_more es i e below ∙ ap (λ (x : Entry). take i es ++ x ∷ []) (sym is))
    ∙ numbered_push 0 (take i es) e
    ∙ ap (λ (n : ℕ). numbered 0 (take i es) ++ at_place n e ∷ []) long

-- the same, whatever stands for an entry behind the end
pub numbered_next : (es : List Entry) (i : ℕ) (d : Entry) → i < length es → numbered 0 (take (i + 1) es) ≡ numbered 0 (take i es) ++ at_place i (get_or es i d) ∷ []
numbered_next es i d below = numbered_more es i (get_or es i d) below (get_or_same es i d below)

pub numbered_length : (at : ℕ) (es : List Entry) → length (numbered at es) ≡ length es
numbered_length at [] = refl
numbered_length at (e ∷ es) = ap suc (numbered_length (at + 1) es)

-- ---- one more element of a list that is filtered

pub filter_keeps : {X : Type 0} (p : X → Bool) (us : List X) (u : X) → p u ≡ true → filter p (us ++ u ∷ []) ≡ filter p us ++ u ∷ []
filter_keeps {X} p us u h = filter-append p us (u ∷ []) ∙ ap (λ (b : Bool). filter p us ++ cond b (u ∷ []) []) h

pub filter_skips : {X : Type 0} (p : X → Bool) (us : List X) (u : X) → p u ≡ false → filter p (us ++ u ∷ []) ≡ filter p us
filter_skips {X} p us u h = filter-append p us (u ∷ []) ∙ ap (λ (b : Bool). filter p us ++ cond b (u ∷ []) []) h ∙ append-nil (filter p us)

-- ---- steps alone, and steps by the types of the set

abbrev pub shared : List ℕ → List (Move ℕ) → List (Move ℕ)
shared types us = filter (λ u. has types u.action) us

module _ (types : List ℕ) (us us' : List (Move ℕ)) (u : (Move ℕ)) (grows : us' ≡ us ++ u ∷ []) where
  alone_more : has types u.action ≡ false → outside_set types us' ≡ outside_set types us ++ u ∷ []
  alone_more h = ap (outside_set types) grows ∙ filter_keeps (λ (v : (Move ℕ)). not (has types v.action)) us u (ap not h)

  alone_same : has types u.action ≡ true → outside_set types us' ≡ outside_set types us
  alone_same h = ap (outside_set types) grows ∙ filter_skips (λ (v : (Move ℕ)). not (has types v.action)) us u (ap not h)

  pub counts_alone : (count : ℕ) → has types u.action ≡ false → count ≡ length (outside_set types us) → count + 1 ≡ length (outside_set types us')
  counts_alone count h so_far = ap (λ (n : ℕ). n + 1) so_far ∙ sym (length_push (outside_set types us) u) ∙ ap length (sym (alone_more h))

  pub same_alone : (count : ℕ) → has types u.action ≡ true → count ≡ length (outside_set types us) → count ≡ length (outside_set types us')
  same_alone count h so_far = so_far ∙ ap length (sym (alone_same h))

  pub shared_more : has types u.action ≡ true → shared types us' ≡ shared types us ++ u ∷ []
  shared_more h = ap (shared types) grows ∙ filter_keeps (λ (v : (Move ℕ)). has types v.action) us u h

  pub shared_same : has types u.action ≡ false → shared types us' ≡ shared types us
  shared_same h = ap (shared types) grows ∙ filter_skips (λ (v : (Move ℕ)). has types v.action) us u h

-- ---- the places of steps by one action

push_at : (b : Bool) (at : ℕ) (xs : List ℕ) (n m : ℕ) → n ≡ m → (if b then at ∷ (xs ++ n ∷ []) else (xs ++ n ∷ [])) ≡ (if b then at ∷ xs else xs) ++ m ∷ []
push_at true at xs n m e = ap (λ (k : ℕ). at ∷ (xs ++ k ∷ [])) e
push_at false at xs n m e = ap (λ (k : ℕ). xs ++ k ∷ []) e

pub places_more : (at action : ℕ) (vs : List (Move ℕ)) (v : (Move ℕ)) → (action == v.action) ≡ true → places_from at action (vs ++ v ∷ []) ≡ places_from at action vs ++ (at + length vs) ∷ []
places_more at action [] v h =
    let e : at ≡ at + 0 = omega arith in
    ap (λ (b : Bool). if b then at ∷ [] else []) h ∙ ap (λ (k : ℕ). k ∷ []) e
places_more at action (w ∷ vs) v h =
    let e : (at + 1) + length vs ≡ at + length (w ∷ vs) = omega arith in
    ap (λ (r : List ℕ). if action == w.action then at ∷ r else r) (places_more (at + 1) action vs v h)
    ∙ push_at (action == w.action) at (places_from (at + 1) action vs) ((at + 1) + length vs) (at + length (w ∷ vs)) e

pub places_same : (at action : ℕ) (vs : List (Move ℕ)) (v : (Move ℕ)) → (action == v.action) ≡ false → places_from at action (vs ++ v ∷ []) ≡ places_from at action vs
places_same at action [] v h = ap (λ (b : Bool). if b then at ∷ [] else []) h
places_same at action (w ∷ vs) v h = ap (λ (r : List ℕ). if action == w.action then at ∷ r else r) (places_same (at + 1) action vs v h)

-- one more step by a type of the set is noted; one by another type changes nothing
module _ (types : List ℕ) (vs vs' : List (Move ℕ)) (v : (Move ℕ)) (grows : vs' ≡ vs ++ v ∷ []) (old : List (ℕ × List ℕ)) (so_far : HasPartners types vs old) where
  pub notes : (new : List (ℕ × List ℕ)) (index : ℕ) → index ≡ length vs → AddsPartner old new v.action index → HasPartners types vs' new
  notes new index is adds action h = of_cases (cases_eq action v.action)
    where
      of_cases : (action ≡ v.action) ⊎ (action ≡ v.action → ⊥) → indices_in new action ≡ places_from 0 action vs'
      of_cases (inl e) =
          let at : index ≡ 0 + length vs = omega (arith, is) in
          ap (indices_in new) e
          ∙ adds.here
          ∙ ap (λ (a : ℕ). indices_in old a ++ index ∷ []) (sym e)
          ∙ ap (λ (xs : List ℕ). xs ++ index ∷ []) (so_far action h)
          ∙ ap (λ (n : ℕ). places_from 0 action vs ++ n ∷ []) at
          ∙ sym (places_more 0 action vs v (eq-eqb action v.action e))
          ∙ ap (places_from 0 action) (sym grows)
      of_cases (inr ne) =
          adds.elsewhere action ne
          ∙ so_far action h
          ∙ sym (places_same 0 action vs v (ne_eqb action v.action ne))
          ∙ ap (places_from 0 action) (sym grows)

  pub passes_over : has types v.action ≡ false → HasPartners types vs' old
  passes_over out action h =
      let ne : action ≢ v.action = λ (e : action ≡ v.action). let differs : true ≡ false = sym h ∙ ap (has types) e ∙ out in absurd cc in
      so_far action h ∙ sym (places_same 0 action vs v (ne_eqb action v.action ne)) ∙ ap (places_from 0 action) (sym grows)

-- ---- the steps at the places

-- the steps by an action
abbrev pub steps_by : ℕ → List (Move ℕ) → List (Move ℕ)
steps_by action vs = filter (λ v. action == v.action) vs

map_at : {X : Type 0} (f : ℕ → X) (g : (Move ℕ) → X) (b : Bool) (at : ℕ) (v : (Move ℕ)) (is : List ℕ) (us : List (Move ℕ)) → f at ≡ g v → map f is ≡ map g us
    → map f (if b then at ∷ is else is) ≡ map g (cond b (v ∷ us) us)
map_at {X} f g true at v is us here rest = ap (λ (x : X). x ∷ map f is) here ∙ ap (λ (xs : List X). g v ∷ xs) rest
map_at f g false at v is us here rest = rest

stood_at : {X : Type 0} (g : (Move ℕ) → X) (d : (Move ℕ)) (action : ℕ) (front vs : List (Move ℕ)) (n : ℕ) → length front ≡ n
    → map (λ i. g (get_or (front ++ vs) i d)) (places_from n action vs) ≡ map g (steps_by action vs)
stood_at g d action front [] n e = refl
stood_at g d action front (v ∷ vs) n e =
    let longer : length (front ++ v ∷ []) ≡ n + 1 = length_push front v ∙ ap (λ (k : ℕ). k + 1) e in
    map_at (λ (i : ℕ). g (get_or (front ++ v ∷ vs) i d)) g (action == v.action) n v (places_from (n + 1) action vs) (steps_by action vs)
    (ap g (get_or_at front v vs d n e))
    (subst (λ (xs : List (Move ℕ)). map (λ i. g (get_or xs i d)) (places_from (n + 1) action vs) ≡ map g (steps_by action vs))
    (append_assoc front (v ∷ []) vs) (stood_at g d action (front ++ v ∷ []) vs (n + 1) longer))

pub at_places : {X : Type 0} (g : (Move ℕ) → X) (d : (Move ℕ)) (action : ℕ) (vs : List (Move ℕ)) → map (λ i. g (get_or vs i d)) (places_from 0 action vs) ≡ map g (steps_by action vs)
at_places g d action vs = stood_at g d action [] vs 0 refl

pub as_many : (action : ℕ) (vs : List (Move ℕ)) → length (places_from 0 action vs) ≡ length (steps_by action vs)
as_many action [] = refl
as_many action (d ∷ vs) =
    sym (length-map (places_from 0 action (d ∷ vs)) (λ i. get_or (d ∷ vs) i d))
    ∙ ap length (at_places (λ (v : (Move ℕ)). v) d action (d ∷ vs))
    ∙ length-map (steps_by action (d ∷ vs)) (λ (v : (Move ℕ)). v)

-- the indices that a look-up has found; none where it has found none
pub found_places : (types : List ℕ) (vs : List (Move ℕ)) (entries : List (ℕ × List ℕ)) (action : ℕ) (indices : List ℕ) → HasPartners types vs entries → has types action ≡ true
    → Some indices ≡ lookup (is_at (nat_cmp action)) entries → indices ≡ places_from 0 action vs
found_places types vs entries action indices partners h found = ap listed_indices found ∙ partners action h

pub no_places : (types : List ℕ) (vs : List (Move ℕ)) (entries : List (ℕ × List ℕ)) (action : ℕ) → HasPartners types vs entries → has types action ≡ true
    → None ≡ lookup (is_at (nat_cmp action)) entries → [] ≡ places_from 0 action vs
no_places types vs entries action partners h found = ap listed_indices found ∙ partners action h

pub no_more_than : (action : ℕ) (vs : List (Move ℕ)) → length (places_from 0 action vs) ≤ length vs
no_more_than action vs = let e = as_many action vs ∙ length-filter (λ (v : (Move ℕ)). action == v.action) vs in omega (arith, e, count_by-le-length (λ (v : (Move ℕ)). action == v.action) vs)

below_if : (n : ℕ) (b : Bool) (at : ℕ) (is : List ℕ) → at < n → All (λ i. i < n) is → All (λ i. i < n) (if b then at ∷ is else is)
below_if n true at is lt rest = All-cons (λ i. i < n) at is lt rest
below_if n false at is lt rest = rest

pub places_below : (n at action : ℕ) (vs : List (Move ℕ)) → at + length vs ≤ n → All (λ i. i < n) (places_from at action vs)
places_below n at action [] le = All-nil (λ i. i < n)
places_below n at action (v ∷ vs) le = below_if n (action == v.action) at (places_from (at + 1) action vs) (omega (arith, le)) (places_below n (at + 1) action vs (omega (arith, le)))

-- ---- the number of pairs

abbrev partner_count : List (Move ℕ) → (Move ℕ) → ℕ
partner_count vs u = length (steps_by u.action vs)

module _ (types : List ℕ) (us us' : List (Move ℕ)) (u : (Move ℕ)) (grows : us' ≡ us ++ u ∷ []) (vs : List (Move ℕ)) where
  pub counts_pairs : (count more : ℕ) → has types u.action ≡ true → count ≡ pair_count types us vs → more ≡ length (places_from 0 u.action vs) → count + more ≡ pair_count types us' vs
  counts_pairs count more h so_far is =
      ap (λ (n : ℕ). n + more) so_far
      ∙ ap (λ (n : ℕ). pair_count types us vs + n) (is ∙ as_many u.action vs)
      ∙ sym (sum_by_push (partner_count vs) (shared types us) u)
      ∙ ap (sum_by (partner_count vs)) (sym (shared_more types us us' u grows h))

  pub same_pairs : (count : ℕ) → has types u.action ≡ false → count ≡ pair_count types us vs → count ≡ pair_count types us' vs
  same_pairs count h so_far = so_far ∙ ap (sum_by (partner_count vs)) (sym (shared_same types us us' u grows h))
