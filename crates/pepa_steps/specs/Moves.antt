-- Lists of transitions whose targets are anything, and how cooperations and hidings make theirs from those of their parts
-- (J. Hillston, A Compositional Approach to Performance Modelling, 1996, chapter 3).
use Rattle.std.specs.Prelude.{◌==◌, ℕ, Bool, not, if◌then◌else◌, bit_or, List, ◌++◌, map, filter, flat_map}
use Rattle.std.specs.List.{list_any}
use Rattle.pepa_rates.specs.declared.rate.Rate.{Rate}
use Rattle.pepa_rates.specs.Share.{share_of}

-- the action type is in the set
abbrev pub has : List ℕ → ℕ → Bool
has set action = list_any (λ other. action == other) set

-- a transition: its action type, its signals (as bits, one a label), its rate, and what it leads to: a state, a term, or a place in
-- a list
pub record Move (X : Type 0) : Type 0 where
  pub action : ℕ
  pub signals : ℕ
  pub rate : Rate
  pub target : X

abbrev pub move : {X : Type 0} → ℕ → ℕ → Rate → X → Move X
move a s r x = record { action = a; signals = s; rate = r; target = x }

-- the same with another target
abbrev pub carry : {X Y : Type 0} → (X → Y) → Move X → Move Y
carry f u = move u.action u.signals u.rate (f u.target)

-- those by types outside the set
abbrev pub outside_set : {X : Type 0} → List ℕ → List (Move X) → List (Move X)
outside_set set us = filter (λ u. not (has set u.action)) us

-- two transitions together, at their share of these apparent rates of the sides; their signals are united
abbrev pub joint_of : {X Y Z : Type 0} → (X → Y → Z) → Rate → Rate → Move X → Move Y → Move Z
joint_of both ra rb u v = move u.action (bit_or u.signals v.signals) (share_of u.rate ra v.rate rb) (both u.target v.target)

-- one of the left side's with each of the right side's by its type
abbrev pub joints_with : {X Y Z : Type 0} → (X → Y → Z) → (ℕ → Rate) → (ℕ → Rate) → List (Move Y) → Move X → List (Move Z)
joints_with both ra rb vs u = map (joint_of both (ra u.action) (rb u.action) u) (filter (λ v. u.action == v.action) vs)

-- those of both sides together, in the order of the left side's, and then of the right side's
abbrev pub joint_moves : {X Y Z : Type 0} → (X → Y → Z) → List ℕ → (ℕ → Rate) → (ℕ → Rate) → List (Move X) → List (Move Y) → List (Move Z)
joint_moves both set ra rb us vs = flat_map (joints_with both ra rb vs) (filter (λ u. has set u.action) us)

-- what a cooperation does, where these are the apparent rates of its sides: the left side alone, the right side alone, and both
-- together
abbrev pub cooperation : {X Y Z : Type 0} → (X → Z) → (Y → Z) → (X → Y → Z) → List ℕ → (ℕ → Rate) → (ℕ → Rate) → List (Move X) → List (Move Y) → List (Move Z)
cooperation left right both set ra rb us vs = (map (carry left) (outside_set set us) ++ map (carry right) (outside_set set vs)) ++ joint_moves both set ra rb us vs

-- what a hiding does of a transition: a hidden type becomes `tau`, whose number is 0
abbrev pub under_hiding : {X Y : Type 0} → (X → Y) → List ℕ → Move X → Move Y
under_hiding under set u = move (if has set u.action then 0 else u.action) u.signals u.rate (under u.target)
