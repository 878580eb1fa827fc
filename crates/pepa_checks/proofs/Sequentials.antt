-- The parts that have to be sequential, and the least index where one isn't.
use Rattle.std.proofs.Common.{◌≡◌, ℕ, ◌≤◌, ◌⊎◌, inl, inr, Bool, true, false, cond, ◌||◌, List, [], ◌∷◌, ◌++◌, min, Option, Some, None, refl, sym, ◌∙◌, ap, subst, arith}
use Rattle.std.specs.List.{Contains}
use Rattle.std.proofs.lemmas.Bool.{false≢true, cases_lt}
use Rattle.std.proofs.lemmas.List.Elements.{Contains-append_left, Contains-append_right, Contains-append_cases, Contains-push, Contains-push_cases}
use Rattle.pepa_checks.specs.declared.structure.Parts.{Parts}
use Rattle.pepa_rates.specs.declared.rate.Rate.{Rate}
use Rattle.pepa_resolver.specs.Named.{Named, NamedConstant, NamedPrefix, NamedChoice, NamedCoop, NamedHide, first_at, sequential_parts}
use Rattle.pepa_checks.specs.Structure.{has_system, IsSystem, NotSequentialAt}
use Rattle.pepa_resolver.specs.Finding.{FindsLeast, lesser_index}
use Rattle.pepa_checks.specs.StructureAnswers.{PartAt, TellsParts, fault_of}

-- ---- the least index

pub least_same : (P Q : ℕ → Type 0) → ((i : ℕ) → P i → Q i) → ((i : ℕ) → Q i → P i) → (o : Option ℕ) → FindsLeast P o → FindsLeast Q o
least_same P Q to from None none = λ i holds. none i (from i holds)
least_same P Q to from (Some i) given = record { stands = to i given.stands; least = λ other holds. given.least other (from other holds) }

pub least_union : (P Q : ℕ → Type 0) (a b : Option ℕ) → FindsLeast P a → FindsLeast Q b → FindsLeast (λ i. P i ⊎ Q i) (lesser_index a b)
least_union P Q None None first second = λ i holds. elim holds [ inl p ↦ first i p | inr q ↦ second i q ]
least_union P Q None (Some j) first second = record {
  stands = inr second.stands;
  least = λ other holds. elim holds [ inl p ↦ absurd (first other p) | inr q ↦ second.least other q ];
}
least_union P Q (Some i) None first second = record {
  stands = inl first.stands;
  least = λ other holds. elim holds [ inl p ↦ first.least other p | inr q ↦ absurd (second other q) ];
}
least_union P Q (Some i) (Some j) first second = record {
  stands = elim (cases_lt i j) [
    | inl low ↦ let is : i ≡ min i j = omega arith in subst (λ n. P n ⊎ Q n) is (inl first.stands)
    | inr high ↦ let is : j ≡ min i j = omega arith in subst (λ n. P n ⊎ Q n) is (inr second.stands)
  ];
  least = λ other holds. elim holds [
    | inl p ↦ let low : i ≤ other = first.least other p in omega arith
    | inr q ↦ let low : j ≤ other = second.least other q in omega arith
  ];
}

-- ---- one element in front

pub contains_cons : {X : Type 0} → (x : X) (xs : List X) (y : X) → Contains (x ∷ xs) y → (x ≡ y) ⊎ Contains xs y
contains_cons x xs y among = elim (Contains-append_cases (x ∷ []) xs y among) [
  | inl front ↦ elim (Contains-push_cases [] x y front) [ inl none ↦ absurd (omega (arith, none.1)) | inr is ↦ inl is ]
  | inr behind ↦ inr behind
]

contains_head : {X : Type 0} → (x : X) (xs : List X) → Contains (x ∷ xs) x
contains_head x xs = Contains-append_left (x ∷ []) xs x (Contains-push [] x)

contains_tail : {X : Type 0} → (x : X) (xs : List X) (y : X) → Contains xs y → Contains (x ∷ xs) y
contains_tail x xs y among = Contains-append_right (x ∷ []) xs y among

-- ---- a process that has to be sequential

-- it isn't, or a part of it isn't
abbrev pub FaultAt : List Named → Named → ℕ → Type 0
FaultAt bodies process i = PartAt bodies process i ⊎ (IsSystem bodies process × (first_at process ≡ i))

least_single : (bodies : List Named) (process : Named) (i : ℕ) → i ≡ first_at process → IsSystem bodies process → FindsLeast (λ j. IsSystem bodies process × (first_at process ≡ j)) (Some i)
least_single bodies process i first holds = record { stands = (holds, sym first); least = λ other stands. omega (arith, first, stands.1) }

fault_by : (bodies : List Named) (process : Named) (parts : Parts) → TellsParts bodies process parts → (b : Bool) → parts.is_system ≡ b → FindsLeast (FaultAt bodies process) (cond b (lesser_index parts.least (Some parts.first)) parts.least)
fault_by bodies process parts told true is =
    least_union (PartAt bodies process) (λ j. IsSystem bodies process × (first_at process ≡ j)) parts.least (Some parts.first) told.least_is
    (least_single bodies process parts.first told.first_is (told.sound is))
fault_by bodies process parts told false is =
    least_same (PartAt bodies process) (FaultAt bodies process) (λ i part. inl part)
    (λ i fault. elim fault [ inl part ↦ part | inr here ↦ absurd (false≢true (sym is ∙ told.complete here.0)) ])
    parts.least told.least_is

pub fault_least : (bodies : List Named) (process : Named) (parts : Parts) → TellsParts bodies process parts → FindsLeast (FaultAt bodies process) (fault_of parts)
fault_least bodies process parts told = fault_by bodies process parts told parts.is_system refl

-- ---- where each operator's parts stand

prefix_to : (bodies : List Named) (at action : ℕ) (rate : Rate) (next : Named) (i : ℕ) → FaultAt bodies next i → PartAt bodies (NamedPrefix at action rate next) i
prefix_to bodies at action rate next i (inl part) = (part.0, contains_tail next (sequential_parts next) part.0 part.1, part.2, part.3)
prefix_to bodies at action rate next i (inr here) = (next, contains_head next (sequential_parts next), here.0, here.1)

prefix_from : (bodies : List Named) (at action : ℕ) (rate : Rate) (next : Named) (i : ℕ) → PartAt bodies (NamedPrefix at action rate next) i → FaultAt bodies next i
prefix_from bodies at action rate next i part = elim (contains_cons next (sequential_parts next) part.0 part.1) [
  | inl is ↦ inr (subst (λ p. IsSystem bodies p) (sym is) part.2, ap first_at is ∙ part.3)
  | inr behind ↦ inl (part.0, behind, part.2, part.3)
]

choice_to : (bodies : List Named) (left right : Named) (i : ℕ) → FaultAt bodies left i ⊎ FaultAt bodies right i → PartAt bodies (NamedChoice left right) i
choice_to bodies left right i (inl (inl part)) =
    (part.0, contains_tail left (right ∷ (sequential_parts left ++ sequential_parts right)) part.0 (contains_tail right (sequential_parts left ++ sequential_parts right) part.0 (Contains-append_left (sequential_parts left) (sequential_parts right) part.0 part.1)), part.2, part.3)
choice_to bodies left right i (inl (inr here)) = (left, contains_head left (right ∷ (sequential_parts left ++ sequential_parts right)), here.0, here.1)
choice_to bodies left right i (inr (inl part)) =
    (part.0, contains_tail left (right ∷ (sequential_parts left ++ sequential_parts right)) part.0 (contains_tail right (sequential_parts left ++ sequential_parts right) part.0 (Contains-append_right (sequential_parts left) (sequential_parts right) part.0 part.1)), part.2, part.3)
choice_to bodies left right i (inr (inr here)) =
    (right, contains_tail left (right ∷ (sequential_parts left ++ sequential_parts right)) right (contains_head right (sequential_parts left ++ sequential_parts right)), here.0, here.1)

choice_from : (bodies : List Named) (left right : Named) (i : ℕ) → PartAt bodies (NamedChoice left right) i → FaultAt bodies left i ⊎ FaultAt bodies right i
choice_from bodies left right i part = elim (contains_cons left (right ∷ (sequential_parts left ++ sequential_parts right)) part.0 part.1) [
  | inl is ↦ inl (inr (subst (λ p. IsSystem bodies p) (sym is) part.2, ap first_at is ∙ part.3))
  | inr behind ↦ elim (contains_cons right (sequential_parts left ++ sequential_parts right) part.0 behind) [
    | inl is ↦ inr (inr (subst (λ p. IsSystem bodies p) (sym is) part.2, ap first_at is ∙ part.3))
    | inr inside ↦ elim (Contains-append_cases (sequential_parts left) (sequential_parts right) part.0 inside) [
      | inl first ↦ inl (inl (part.0, first, part.2, part.3))
      | inr second ↦ inr (inl (part.0, second, part.2, part.3))
    ]
  ]
]

coop_to : (bodies : List Named) (left right : Named) (set : List ℕ) (i : ℕ) → PartAt bodies left i ⊎ PartAt bodies right i → PartAt bodies (NamedCoop left right set) i
coop_to bodies left right set i (inl part) = (part.0, Contains-append_left (sequential_parts left) (sequential_parts right) part.0 part.1, part.2, part.3)
coop_to bodies left right set i (inr part) = (part.0, Contains-append_right (sequential_parts left) (sequential_parts right) part.0 part.1, part.2, part.3)

coop_from : (bodies : List Named) (left right : Named) (set : List ℕ) (i : ℕ) → PartAt bodies (NamedCoop left right set) i → PartAt bodies left i ⊎ PartAt bodies right i
coop_from bodies left right set i part = elim (Contains-append_cases (sequential_parts left) (sequential_parts right) part.0 part.1) [
  | inl first ↦ inl (part.0, first, part.2, part.3)
  | inr second ↦ inr (part.0, second, part.2, part.3)
]

-- what is no constant is a system by its operators alone
by_operators : (bodies : List Named) (process : Named) → ((at c : ℕ) → process ≡ NamedConstant at c → ⊥) → IsSystem bodies process → has_system process ≡ true
by_operators bodies process other (inl holds) = holds
by_operators bodies process other (inr constant) = absurd (other constant.0 constant.1 constant.2)

-- ---- what is told of each operator

pub tells_prefix : (bodies : List Named) (at action : ℕ) (rate : Rate) (next : Named) (behind : Parts) → TellsParts bodies next behind → TellsParts bodies (NamedPrefix at action rate next) (record { has_system = behind.has_system; is_system = behind.has_system; first = at; least = fault_of behind })
tells_prefix bodies at action rate next behind told = record {
  has_system_is = told.has_system_is;
  sound = λ is. inl (sym told.has_system_is ∙ is);
  complete = λ holds. told.has_system_is ∙ by_operators bodies (NamedPrefix at action rate next) (λ a c e. cc) holds;
  first_is = refl;
  least_is = least_same (FaultAt bodies next) (PartAt bodies (NamedPrefix at action rate next)) (prefix_to bodies at action rate next) (prefix_from bodies at action rate next) (fault_of behind) (fault_least bodies next behind told);
}

both : (bodies : List Named) (left right : Named) (before behind : Parts) → TellsParts bodies left before → TellsParts bodies right behind → (before.has_system || behind.has_system) ≡ (has_system left || has_system right)
both bodies left right before behind told told2 = ap (λ b. b || behind.has_system) told.has_system_is ∙ ap (λ b. has_system left || b) told2.has_system_is

pub tells_choice : (bodies : List Named) (left right : Named) (before behind : Parts) → TellsParts bodies left before → TellsParts bodies right behind → TellsParts bodies (NamedChoice left right) (record { has_system = before.has_system || behind.has_system; is_system = before.has_system || behind.has_system; first = before.first; least = lesser_index (fault_of before) (fault_of behind) })
tells_choice bodies left right before behind told told2 = record {
  has_system_is = both bodies left right before behind told told2;
  sound = λ is. inl (sym (both bodies left right before behind told told2) ∙ is);
  complete = λ holds. both bodies left right before behind told told2 ∙ by_operators bodies (NamedChoice left right) (λ a c e. cc) holds;
  first_is = told.first_is;
  least_is = least_same (λ i. FaultAt bodies left i ⊎ FaultAt bodies right i) (PartAt bodies (NamedChoice left right)) (choice_to bodies left right) (choice_from bodies left right) (lesser_index (fault_of before) (fault_of behind))
      (least_union (FaultAt bodies left) (FaultAt bodies right) (fault_of before) (fault_of behind) (fault_least bodies left before told) (fault_least bodies right behind told2));
}

pub tells_coop : (bodies : List Named) (left right : Named) (set : List ℕ) (before behind : Parts) → TellsParts bodies left before → TellsParts bodies right behind → TellsParts bodies (NamedCoop left right set) (record { has_system = true; is_system = true; first = before.first; least = lesser_index before.least behind.least })
tells_coop bodies left right set before behind told told2 = record {
  has_system_is = refl;
  sound = λ _. inl refl;
  complete = λ _. refl;
  first_is = told.first_is;
  least_is = least_same (λ i. PartAt bodies left i ⊎ PartAt bodies right i) (PartAt bodies (NamedCoop left right set)) (coop_to bodies left right set) (coop_from bodies left right set) (lesser_index before.least behind.least)
      (least_union (PartAt bodies left) (PartAt bodies right) before.least behind.least told.least_is told2.least_is);
}

pub tells_hide : (bodies : List Named) (inner : Named) (set : List ℕ) (inside : Parts) → TellsParts bodies inner inside → TellsParts bodies (NamedHide inner set) (record { has_system = true; is_system = true; first = inside.first; least = inside.least })
tells_hide bodies inner set inside told = record {
  has_system_is = refl;
  sound = λ _. inl refl;
  complete = λ _. refl;
  first_is = told.first_is;
  least_is = told.least_is;
}

-- ---- over all processes

-- a part of the system, or of one of the bodies so far
abbrev pub SoFarAt : List Named → List Named → Named → ℕ → Type 0
SoFarAt bodies some system i = PartAt bodies system i ⊎ ((process : Named) × Contains some process × PartAt bodies process i)

pub so_far_begin : (bodies : List Named) (system : Named) (o : Option ℕ) → FindsLeast (PartAt bodies system) o → FindsLeast (SoFarAt bodies [] system) o
so_far_begin bodies system o given =
    least_same (PartAt bodies system) (SoFarAt bodies [] system) (λ i part. inl part)
    (λ i holds. elim holds [ inl part ↦ part | inr body ↦ absurd (omega (arith, (body.1).1)) ]) o given

more_to : (bodies some : List Named) (system body : Named) (i : ℕ) → SoFarAt bodies some system i ⊎ PartAt bodies body i → SoFarAt bodies (some ++ body ∷ []) system i
more_to bodies some system body i (inl (inl part)) = inl part
more_to bodies some system body i (inl (inr before)) = inr (before.0, Contains-append_left some (body ∷ []) before.0 before.1, before.2)
more_to bodies some system body i (inr part) = inr (body, Contains-push some body, part)

more_from : (bodies some : List Named) (system body : Named) (i : ℕ) → SoFarAt bodies (some ++ body ∷ []) system i → SoFarAt bodies some system i ⊎ PartAt bodies body i
more_from bodies some system body i (inl part) = inl (inl part)
more_from bodies some system body i (inr found) = elim (Contains-push_cases some body found.0 found.1) [
  | inl before ↦ inl (inr (found.0, before, found.2))
  | inr is ↦ inr (subst (λ p. PartAt bodies p i) (sym is) found.2)
]

pub so_far_more : (bodies some : List Named) (system body : Named) (a b : Option ℕ) → FindsLeast (SoFarAt bodies some system) a → FindsLeast (PartAt bodies body) b → FindsLeast (SoFarAt bodies (some ++ body ∷ []) system) (lesser_index a b)
so_far_more bodies some system body a b first second =
    least_same (λ i. SoFarAt bodies some system i ⊎ PartAt bodies body i) (SoFarAt bodies (some ++ body ∷ []) system) (more_to bodies some system body) (more_from bodies some system body) (lesser_index a b)
    (least_union (SoFarAt bodies some system) (PartAt bodies body) a b first second)

all_to : (bodies : List Named) (system : Named) (i : ℕ) → SoFarAt bodies bodies system i → NotSequentialAt bodies system i
all_to bodies system i (inl part) = (system, Contains-push bodies system, part)
all_to bodies system i (inr found) = (found.0, Contains-append_left bodies (system ∷ []) found.0 found.1, found.2)

all_from : (bodies : List Named) (system : Named) (i : ℕ) → NotSequentialAt bodies system i → SoFarAt bodies bodies system i
all_from bodies system i found = elim (Contains-push_cases bodies system found.0 found.1) [
  | inl before ↦ inr (found.0, before, found.2)
  | inr is ↦ inl (subst (λ p. PartAt bodies p i) (sym is) found.2)
]

pub so_far_end : (bodies : List Named) (system : Named) (o : Option ℕ) → FindsLeast (SoFarAt bodies bodies system) o → FindsLeast (NotSequentialAt bodies system) o
so_far_end bodies system o given =
    least_same (SoFarAt bodies bodies system) (NotSequentialAt bodies system) (all_to bodies system) (all_from bodies system) o given
