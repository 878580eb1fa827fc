-- Each action but `tau` that an opened state can do has an apparent rate, of the kind of the transition.
use Rattle.std.proofs.Common.{◌≡◌, ◌==◌, ℕ, ◌<◌, Bool, true, false, not, if◌then◌else◌, List, [], ◌∷◌, ◌++◌, ◌⊎◌, map, inl, inr, refl, sym, subst, arith}
use Rattle.std.specs.List.{AllByRecursion, Contains, filter, flat_map}
use Rattle.std.proofs.lemmas.Bool.{not-true, eqb-true}
use Rattle.std.proofs.lemmas.Bool.Decides.{nat_tests}
use Rattle.pepa_rates.specs.declared.rate.Rate.{Rate}
use Rattle.pepa_rates.specs.declared.rate.Rate.TheVariants.{Active, Passive}
use Rattle.pepa_rates.specs.Fraction.{Fraction}
use Rattle.pepa_rates.specs.Share.{SameKind, least_of, share_of, with_fraction}
use Rattle.pepa_model.specs.Expression.{Expression}
use Rattle.pepa_model.specs.Derivation.{Among, Transition}
use Rattle.pepa_model.specs.Opened.{Opened, OpenPrefix, OpenChoice, OpenConst, parts, moves}
use Rattle.pepa_model.specs.Apparent.{Apparent, NoRate, Rated, Undefined, together, apparent_rate, IsFine}
use Rattle.pepa_steps.specs.States.{has, StateTransition}
use Rattle.pepa_steps.specs.OpenStates.{OpenState, LeafOpen, CoopOpen, HideOpen, parts_in, least_if_both, apparent_in, closed_state, rate_of}
use Rattle.pepa_steps.specs.OpenStates.{leaf_move, left_move, right_move, joint_move, hidden_move, moves_in}
use Rattle.pepa_steps.specs.StateVerdict.{HasFineStateRates}
use Rattle.pepa_steps.proofs.ElementsOf.{from_append, from_map, from_filter, from_flat_map, among_from_contains, all_of_front, all_of_back, all_of_map}

-- ---- apparent rates of what is done

-- there is an apparent rate, of the kind of this rate
pub record IsRatedAs (x : Apparent) (r : Rate) : Type 0 where
  pub rate : Rate
  pub rated : x ≡ Rated rate
  pub kind : SameKind r rate

-- the state has an apparent rate of the transition's action, of the transition's kind
pub record IsRated (tree : OpenState) (u : StateTransition) : Type 0 where
  pub rate : Rate
  pub rated : apparent_in tree u.action ≡ Rated rate
  pub kind : SameKind u.rate rate

-- ---- sums, and the lesser rate

kind-refl : (r : Rate) → SameKind r r
kind-refl (Active p) = tt
kind-refl (Passive p) = tt

of_left_sum : (r s t : Rate) → SameKind t r → IsFine (together (Rated r) (Rated s)) → IsRatedAs (together (Rated r) (Rated s)) t
of_left_sum (Active p) (Active q) (Active t) kind fine = record { rate = _; rated = refl; kind = tt }
of_left_sum (Passive p) (Passive q) (Passive t) kind fine = record { rate = _; rated = refl; kind = tt }
of_left_sum (Active p) (Active q) (Passive t) kind fine = absurd kind
of_left_sum (Passive p) (Passive q) (Active t) kind fine = absurd kind
of_left_sum (Active p) (Passive q) t kind fine = absurd fine
of_left_sum (Passive p) (Active q) t kind fine = absurd fine

of_right_sum : (r s t : Rate) → SameKind t s → IsFine (together (Rated r) (Rated s)) → IsRatedAs (together (Rated r) (Rated s)) t
of_right_sum (Active p) (Active q) (Active t) kind fine = record { rate = _; rated = refl; kind = tt }
of_right_sum (Passive p) (Passive q) (Passive t) kind fine = record { rate = _; rated = refl; kind = tt }
of_right_sum (Active p) (Active q) (Passive t) kind fine = absurd kind
of_right_sum (Passive p) (Passive q) (Active t) kind fine = absurd kind
of_right_sum (Active p) (Passive q) t kind fine = absurd fine
of_right_sum (Passive p) (Active q) t kind fine = absurd fine

-- what one operand has, both have together, where their rate is in order
of_left : (x y : Apparent) (t : Rate) → IsRatedAs x t → IsFine (together x y) → IsRatedAs (together x y) t
of_left (Rated r) (Rated s) t h fine =
    let same : h.rate ≡ r = cc (h.rated) in
    of_left_sum r s t (subst (λ (k : Rate). SameKind t k) same h.kind) fine
of_left (Rated r) NoRate t h fine = h
of_left (Rated r) Undefined t h fine = absurd fine
of_left NoRate y t h fine = absurd (cc (h.rated))
of_left Undefined y t h fine = absurd fine

of_right : (x y : Apparent) (t : Rate) → IsRatedAs y t → IsFine (together x y) → IsRatedAs (together x y) t
of_right NoRate y t h fine = h
of_right (Rated r) (Rated s) t h fine =
    let same : h.rate ≡ s = cc (h.rated) in
    of_right_sum r s t (subst (λ (k : Rate). SameKind t k) same h.kind) fine
of_right (Rated r) NoRate t h fine = absurd (cc (h.rated))
of_right (Rated r) Undefined t h fine = absurd fine
of_right Undefined y t h fine = absurd fine

with_kind : (r : Rate) (f : Fraction) → SameKind (with_fraction r f) r
with_kind (Active p) f = tt
with_kind (Passive p) f = tt

-- both sides together
of_both : (x y : Apparent) (ra rb r s : Rate) → x ≡ Rated ra → y ≡ Rated rb → IsRatedAs (least_if_both x y) (share_of r (rate_of x) s (rate_of y))
of_both (Rated a) (Rated b) ra rb r s x_is y_is = record { rate = least_of a b; rated = refl; kind = with_kind (least_of a b) _ }
of_both (Rated a) NoRate ra rb r s x_is y_is = absurd (cc (y_is))
of_both (Rated a) Undefined ra rb r s x_is y_is = absurd (cc (y_is))
of_both NoRate y ra rb r s x_is y_is = absurd (cc (x_is))
of_both Undefined y ra rb r s x_is y_is = absurd (cc (x_is))

-- ---- leaves

own_rate : (a : ℕ) (r : Rate) → (if a == a then Rated r else NoRate) ≡ Rated r
own_rate a r = grind (arith, nat_tests)

abbrev FineLeaf : Opened → Type 0
FineLeaf o = HasFineStateRates (LeafOpen o)

abbrev IsRatedLeaf : Opened → Type 0
IsRatedLeaf o = (u : Transition) → Among u (moves o) → 0 < u.action → IsRatedAs (apparent_rate o u.action) u.rate

choice_rated : (p q : Opened) → FineLeaf (OpenChoice p q) → IsRatedLeaf p → IsRatedLeaf q → IsRatedLeaf (OpenChoice p q)
choice_rated p q fine left right u among positive = of_side (from_append u (moves p) (moves q) among)
  where
    of_side : Among u (moves p) ⊎ Among u (moves q) → IsRatedAs (apparent_rate (OpenChoice p q) u.action) u.rate
    of_side (inl h) = of_left (apparent_rate p u.action) (apparent_rate q u.action) u.rate (left u h positive) (fine u.action positive)
    of_side (inr h) = of_right (apparent_rate p u.action) (apparent_rate q u.action) u.rate (right u h positive) (fine u.action positive)

prefix_rated : (a : ℕ) (r : Rate) (next : Expression) → IsRatedLeaf (OpenPrefix a r next)
prefix_rated a r next u (inl is) positive =
    subst (λ (u : Transition). IsRatedAs (apparent_rate (OpenPrefix a r next) u.action) u.rate) (sym is) (record { rate = r; rated = own_rate a r; kind = kind-refl r })
prefix_rated a r next u (inr h) positive = absurd h

leaf_rated : (o : Opened) → AllByRecursion FineLeaf (parts o) → IsRatedLeaf o
leaf_rated (OpenPrefix a r next) fine = prefix_rated a r next
leaf_rated (OpenChoice p q) fine =
    let within = all_of_front FineLeaf (parts p ++ parts q) (OpenChoice p q ∷ []) fine in
    choice_rated p q (all_of_back FineLeaf (parts p ++ parts q) (OpenChoice p q ∷ []) fine).0
    (leaf_rated p (all_of_front FineLeaf (parts p) (parts q) within)) (leaf_rated q (all_of_back FineLeaf (parts p) (parts q) within))
leaf_rated (OpenConst c p) fine = leaf_rated p (all_of_front FineLeaf (parts p) (OpenConst c p ∷ []) fine)

-- ---- states

abbrev pub RatedMove : OpenState → StateTransition → Type 0
RatedMove tree u = IsRatedAs (apparent_in tree u.action) u.rate

abbrev pub AreRated : OpenState → Type 0
AreRated tree = (u : StateTransition) → Among u (moves_in tree) → 0 < u.action → RatedMove tree u

of_then : (b : Bool) (x y : Apparent) (r : Rate) → b ≡ true → IsRatedAs x r → IsRatedAs (if b then x else y) r
of_then true x y r is h = h
of_then false x y r is h = absurd cc

of_else : (b : Bool) (x y : Apparent) (r : Rate) → b ≡ false → IsRatedAs y r → IsRatedAs (if b then x else y) r
of_else true x y r is h = absurd cc
of_else false x y r is h = h

else_fine : (b : Bool) (x y : Apparent) → b ≡ false → IsFine (if b then x else y) → IsFine y
else_fine true x y is h = absurd cc
else_fine false x y is h = h

module _ (s t : OpenState) (set : List ℕ) (fine : HasFineStateRates (CoopOpen s t set)) (left : AreRated s) (right : AreRated t) where
  abbrev Rates : StateTransition → Type 0
  Rates u = 0 < u.action → RatedMove (CoopOpen s t set) u

  left_rated : (u : StateTransition) → Among u (moves_in s) → has set u.action ≡ false → Rates (left_move (closed_state t) set u)
  left_rated u among outside positive =
      let x : Apparent = apparent_in s u.action in
      let y : Apparent = apparent_in t u.action in
      let fine_sum = else_fine (has set u.action) (least_if_both x y) (together x y) outside (fine u.action positive) in
      of_else (has set u.action) (least_if_both x y) (together x y) u.rate outside (of_left x y u.rate (left u among positive) fine_sum)

  right_rated : (v : StateTransition) → Among v (moves_in t) → has set v.action ≡ false → Rates (right_move (closed_state s) set v)
  right_rated v among outside positive =
      let x : Apparent = apparent_in s v.action in
      let y : Apparent = apparent_in t v.action in
      let fine_sum = else_fine (has set v.action) (least_if_both x y) (together x y) outside (fine v.action positive) in
      of_else (has set v.action) (least_if_both x y) (together x y) v.rate outside (of_right x y v.rate (right v among positive) fine_sum)

  both_rated : (u v : StateTransition) → Among u (moves_in s) → Among v (moves_in t) → has set u.action ≡ true → u.action ≡ v.action
      → Rates (joint_move set (rate_of (apparent_in s u.action)) (rate_of (apparent_in t u.action)) u v)
  both_rated u v among_u among_v inside same positive =
      let x : Apparent = apparent_in s u.action in
      let y : Apparent = apparent_in t u.action in
      let h = left u among_u positive in
      let k = right v among_v (subst (λ (n : ℕ). 0 < n) same positive) in
      let y_is : y ≡ Rated k.rate = subst (λ (n : ℕ). apparent_in t n ≡ Rated k.rate) (sym same) k.rated in
      of_then (has set u.action) (least_if_both x y) (together x y) (share_of u.rate (rate_of x) v.rate (rate_of y)) inside (of_both x y h.rate k.rate u.rate v.rate h.rated y_is)

  abbrev lefts : List StateTransition
  lefts = map (left_move (closed_state t) set) (filter (λ u. not (has set u.action)) (moves_in s))

  abbrev rights : List StateTransition
  rights = map (right_move (closed_state s) set) (filter (λ v. not (has set v.action)) (moves_in t))

  abbrev joint_of : StateTransition → List StateTransition
  joint_of u = map (joint_move set (rate_of (apparent_in s u.action)) (rate_of (apparent_in t u.action)) u) (filter (λ v. u.action == v.action) (moves_in t))

  abbrev joints : List StateTransition
  joints = flat_map joint_of (filter (λ u. has set u.action) (moves_in s))

  among_lefts : (w : StateTransition) → Among w lefts → Rates w
  among_lefts w among =
      let (u, kept, is) = from_map (left_move (closed_state t) set) w (filter (λ u. not (has set u.action)) (moves_in s)) among in
      let (found, outside) = from_filter (λ (u : StateTransition). not (has set u.action)) u (moves_in s) kept in
      subst Rates (sym is) (left_rated u found (not-true (has set u.action) outside))

  among_rights : (w : StateTransition) → Among w rights → Rates w
  among_rights w among =
      let (v, kept, is) = from_map (right_move (closed_state s) set) w (filter (λ v. not (has set v.action)) (moves_in t)) among in
      let (found, outside) = from_filter (λ (v : StateTransition). not (has set v.action)) v (moves_in t) kept in
      subst Rates (sym is) (right_rated v found (not-true (has set v.action) outside))

  among_joints : (w : StateTransition) → Among w joints → Rates w
  among_joints w among =
      let (u, kept, among_u) = from_flat_map joint_of w (filter (λ u. has set u.action) (moves_in s)) among in
      let (found, inside) = from_filter (λ (u : StateTransition). has set u.action) u (moves_in s) kept in
      let (v, kept_too, is) = from_map (joint_move set (rate_of (apparent_in s u.action)) (rate_of (apparent_in t u.action)) u) w (filter (λ v. u.action == v.action) (moves_in t)) among_u in
      let (found_too, same) = from_filter (λ (v : StateTransition). u.action == v.action) v (moves_in t) kept_too in
      subst Rates (sym is) (both_rated u v found found_too inside (eqb-true u.action v.action same))

  coop_rated : AreRated (CoopOpen s t set)
  coop_rated w among = of_list (from_append w (lefts ++ rights) joints among)
    where
      of_alone : Among w lefts ⊎ Among w rights → Rates w
      of_alone (inl h) = among_lefts w h
      of_alone (inr h) = among_rights w h

      of_list : Among w (lefts ++ rights) ⊎ Among w joints → Rates w
      of_list (inl h) = of_alone (from_append w lefts rights h)
      of_list (inr h) = among_joints w h

-- a hidden type isn't above 0
stays : (b : Bool) (a : ℕ) → 0 < (if b then 0 else a) → (b ≡ false) × ((if b then 0 else a) ≡ a)
stays true a h = absurd (omega arith)
stays false a h = (refl, refl)

abbrev RatedHidden : OpenState → List ℕ → StateTransition → Type 0
RatedHidden s set w = 0 < w.action → RatedMove (HideOpen s set) w

hidden_rated : (s : OpenState) (set : List ℕ) → AreRated s → (u : StateTransition) → Among u (moves_in s) → RatedHidden s set (hidden_move set u)
hidden_rated s set inner u found positive =
    let (outside, same) = stays (has set u.action) u.action positive in
    let positive' : 0 < u.action = subst (λ (n : ℕ). 0 < n) same positive in
    subst (λ (n : ℕ). IsRatedAs (apparent_in (HideOpen s set) n) u.rate) (sym same)
    (of_else (has set u.action) NoRate (apparent_in s u.action) u.rate outside (inner u found positive'))

hiding_rated : (s : OpenState) (set : List ℕ) → AreRated s → AreRated (HideOpen s set)
hiding_rated s set inner w among =
    let (u, found, is) = from_map (hidden_move set) w (moves_in s) among in
    subst (RatedHidden s set) (sym is) (hidden_rated s set inner u found)

leaf_state_rated : (o : Opened) → IsRatedLeaf o → AreRated (LeafOpen o)
leaf_state_rated o rated w among =
    let (u, found, is) = from_map leaf_move w (moves o) among in
    subst (λ (w : StateTransition). 0 < w.action → RatedMove (LeafOpen o) w) (sym is) (rated u found)

pub are_rated : (tree : OpenState) → AllByRecursion HasFineStateRates (parts_in tree) → AreRated tree
are_rated (LeafOpen o) fine = leaf_state_rated o (leaf_rated o (all_of_map HasFineStateRates LeafOpen (parts o) fine))
are_rated (CoopOpen s t set) fine =
    let within = all_of_front HasFineStateRates (parts_in s ++ parts_in t) (CoopOpen s t set ∷ []) fine in
    coop_rated s t set (all_of_back HasFineStateRates (parts_in s ++ parts_in t) (CoopOpen s t set ∷ []) fine).0
    (are_rated s (all_of_front HasFineStateRates (parts_in s) (parts_in t) within)) (are_rated t (all_of_back HasFineStateRates (parts_in s) (parts_in t) within))
are_rated (HideOpen s set) fine = hiding_rated s set (are_rated s (all_of_front HasFineStateRates (parts_in s) (HideOpen s set ∷ []) fine))

pub move_rated : (tree : OpenState) → AllByRecursion HasFineStateRates (parts_in tree) → (u : StateTransition) → Among u (moves_in tree) → 0 < u.action → IsRated tree u
move_rated tree fine u among positive =
    let h = are_rated tree fine u among positive in
    record { rate = h.rate; rated = h.rated; kind = h.kind }

-- the same for std's word
pub contained_rated : (tree : OpenState) → AllByRecursion HasFineStateRates (parts_in tree) → (u : StateTransition) → Contains (moves_in tree) u → 0 < u.action → IsRated tree u
contained_rated tree fine u contained positive = move_rated tree fine u (among_from_contains (moves_in tree) u contained) positive
