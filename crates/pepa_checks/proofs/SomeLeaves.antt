-- The leaves of a file without a fault of its structure: how each is first written, and where its activities stand.
use Rattle.std.proofs.Common.{◌≡◌, ℕ, zero, suc, ◌+◌, ◌<◌, ◌≤◌, ◌⊎◌, inl, inr, Bool, List, [], ◌∷◌, ◌++◌, map, length, Some, get_or, slice_get, refl, sym, ◌∙◌, ap, subst, arith, length-append}
use Rattle.std.specs.List.{Contains, AllZip}
use Rattle.std.proofs.lemmas.List.{length-map}
use Rattle.std.proofs.lemmas.List.Elements.{Contains-append_right, Contains-append_cases}
use Rattle.std.proofs.lemmas.Option.{slice_get_within, slice_get-get_or, get_or_from_slice_get}
use Rattle.pepa_model.specs.Derivation.{Among}
use Rattle.pepa_model.specs.Expression.{Expression, Const, Prefixed, Chosen, Definition}
use Rattle.pepa_model.specs.Opened.{Opened, OpenPrefix, OpenChoice, OpenConst, Opens, moves}
use Rattle.pepa_model.specs.declared.term.Activity.{Activity}
use Rattle.pepa_resolver.specs.Named.{Named, NamedConstant, NamedPrefix, NamedChoice, NamedCoop, NamedHide}
use Rattle.node_orders.proofs.Elements.{no_element, contains_here, contains_cases}
use Rattle.pepa_checks.specs.Outline.{Outline, expression_in, definitions_in, outline_with}
use Rattle.pepa_checks.specs.Activities.{activity_in, activities_in, AreActivitiesOf, sites, written_leaves, IsFirstWritten, HasMixed, IsMixedLeaf}
use Rattle.pepa_model.specs.PepaModel.{IsMixedAt}
use Rattle.pepa_checks.specs.Built.{constant_names, leaf_processes, IsBuilt}
use Rattle.pepa_checks.proofs.Counted.{EachOpens}
use Rattle.pepa_checks.proofs.DefinitionsByNumber.{defines_by}
use Rattle.pepa_checks.proofs.LeafProcesses.{leaf_written}
use Rattle.pepa_checks.proofs.PlainProcesses.{IsPlain, constant_named, sequential_body, leaf_process}
use Rattle.pepa_checks.proofs.Unavoidable.{not_both, split, some_least}

-- ---- the activities of leaves

pub some_activities : (outline : Outline) (leaves : List Expression) → ((number : ℕ) (leaf : Expression) → slice_get leaves number ≡ Some leaf → (opened : Opened) × Opens outline.definitions leaf opened)
    → (activities : List (List Activity)) × AllZip (AreActivitiesOf outline) leaves activities
some_activities outline [] each = ([], tt)
some_activities outline (leaf ∷ leaves) each =
    let first = each zero leaf refl in
    let rest = some_activities outline leaves (λ n e is. each (suc n) e is) in
    (activities_in outline.leaves first.0 ∷ rest.0, ((first.0, first.1, refl), rest.1))

-- ---- where a leaf is first written

abbrev FirstOf : (Named → Type 0) → List Named → Type 0
FirstOf Is written =
    (process : Named) × (before : List Named) × (behind : List Named) × (written ≡ before ++ process ∷ behind) × Is process × ((other : Named) → Among other before → ¬ Is other)

first_of : (Is : Named → Type 0) (written : List Named) (process : Named) → Contains written process → Is process → (FirstOf Is written → ⊥) → ⊥
first_of Is [] process among is apart = no_element process among
first_of Is (p ∷ written) process among is apart =
    split (Is p) (λ here. elim here [
      | inl h ↦ apart (p, [], written, refl, h, λ other none. absurd none)
      | inr none ↦ elim (contains_cases p written process among) [
        | inl e ↦ none (subst Is (sym e) is)
        | inr there ↦ first_of Is written process there is (λ found. apart (
          found.0,
          p ∷ found.1,
          found.2,
          ap (λ (l : List Named). p ∷ l) found.3,
          found.4,
          λ other earlier. elim earlier [
            | inl e ↦ λ h. none (subst Is e h)
            | inr more ↦ found.5 other more
          ],
        ))
      ]
    ])

-- ---- as many places as activities

module _ (sets : List (List ℕ)) (compounds : List Bool) (bodies : List Named) (system : Named) (built : IsBuilt compounds bodies system) where
  abbrev outline : Outline
  outline = outline_with sets compounds bodies system

  abbrev definitions : List Definition
  definitions = definitions_in compounds sets compounds bodies

  as_many : (process : Named) (opened : Opened) → IsPlain compounds process → Opens definitions (expression_in process) opened → length (sites bodies process opened) ≡ length (moves opened)
  as_many (NamedPrefix at action rate next) (OpenPrefix a r e) fine opens = refl
  as_many (NamedPrefix at action rate next) (OpenChoice p q) fine opens = absurd (clash opens.2)
    where
      clash : {a : ℕ} {e x y : Expression} → Prefixed a rate e ≡ Chosen x y → ⊥
      clash e = cc
  as_many (NamedPrefix at action rate next) (OpenConst c p) fine opens = absurd (let e = opens.0 in cc)
  as_many (NamedChoice left right) (OpenPrefix a r e) fine opens = absurd (let e = opens in cc)
  as_many (NamedChoice left right) (OpenConst c p) fine opens = absurd (let e = opens.0 in cc)
  as_many (NamedChoice left right) (OpenChoice p q) fine opens =
      let first : expression_in left ≡ opens.0 = let e = opens.2 in cc in
      let second : expression_in right ≡ opens.1 = let e = opens.2 in cc in
      let l = as_many left p fine.0 (subst (λ (e : Expression). Opens definitions e p) (sym first) opens.3) in
      let r = as_many right q fine.1 (subst (λ (e : Expression). Opens definitions e q) (sym second) opens.4) in
      omega (arith, length-append (sites bodies left p) (sites bodies right q), length-append (moves p) (moves q), l, r)
  as_many (NamedConstant at c) (OpenPrefix a r e) fine opens = absurd (let e = opens in cc)
  as_many (NamedConstant at c) (OpenChoice p q) fine opens = absurd (let e = opens.2 in cc)
  as_many (NamedConstant at c) (OpenConst d p) fine opens =
      let same : d ≡ c = let e = opens.0 in cc in
      let by = defines_by compounds sets compounds bodies d opens.1.0 opens.1.1 in
      let there : slice_get bodies c ≡ Some by.body = subst (λ (n : ℕ). slice_get bodies n ≡ Some by.body) same by.body_at in
      let read : get_or bodies c (NamedConstant at c) ≡ by.body = get_or_from_slice_get bodies c by.body (NamedConstant at c) there in
      let plain = sequential_body compounds bodies system built c by.body fine there in
      subst (λ (b : Named). length (sites bodies b p) ≡ length (moves p)) (sym read)
      (as_many by.body p plain.0 (subst (λ (e : Expression). Opens definitions e p) (sym by.is) opens.1.2))
  as_many (NamedCoop left right set) opened fine opens = absurd fine
  as_many (NamedHide inner set) opened fine opens = absurd fine

  -- ---- the first mixed activity of a leaf

  abbrev written : List Named
  written = written_leaves compounds bodies system

  -- a process that the leaf is first written as
  abbrev Writes : Expression → Named → Type 0
  Writes leaf process = IsFirstWritten written leaf process × IsPlain compounds process × (expression_in process ≡ leaf)

  no_constant : (c : ℕ) (process : Named) (leaf : Expression) → process ≡ NamedConstant 0 c → expression_in process ≡ leaf → leaf ≡ Const c
  no_constant c process leaf e is = sym is ∙ ap expression_in e

  middle_plain : (p : Named) (before behind : List Named) → written ≡ before ++ p ∷ behind → IsPlain compounds p
  middle_plain p before behind whole =
      let there = Contains-append_right before (p ∷ behind) p (contains_here p behind) in
      (leaf_process compounds bodies system built p
      (Contains-append_right (constant_names 0 compounds) written p (subst (λ (l : List Named). Contains l p) (sym whole) there))).0

  some_written : (leaf : Expression) → (process : Named) → Contains (leaf_processes compounds bodies system) process → expression_in process ≡ leaf → ((process : Named) × Writes leaf process → ⊥) → ⊥
  some_written (Const c) process among is apart = by process (leaf_process compounds bodies system built process among).0 is
    where
      by : (p : Named) → IsPlain compounds p → expression_in p ≡ Const c → ⊥
      by (NamedConstant at d) plain e =
          let same : d ≡ c = cc in
          apart (NamedConstant 0 c, (refl, subst (λ (n : ℕ). IsPlain compounds (NamedConstant 0 n)) same plain, refl))
      by (NamedPrefix at action rate next) plain e = cc
      by (NamedChoice left right) plain e = cc
      by (NamedCoop left right set) plain e = plain
      by (NamedHide inner set) plain e = plain
  some_written (Prefixed a r next) process among is apart =
      elim (Contains-append_cases (constant_names 0 compounds) written process among) [
        | inl h ↦ let one = constant_named 0 compounds process h in let e = no_constant (0 + one.0) process (Prefixed a r next) one.1 is in cc
        | inr h ↦ first_of (λ p. expression_in p ≡ Prefixed a r next) written process h is (λ found.
            apart (found.0, ((found.1, found.2, found.3, found.4, found.5), middle_plain found.0 found.1 found.2 found.3, found.4)))
      ]
  some_written (Chosen x y) process among is apart =
      elim (Contains-append_cases (constant_names 0 compounds) written process among) [
        | inl h ↦ let one = constant_named 0 compounds process h in let e = no_constant (0 + one.0) process (Chosen x y) one.1 is in cc
        | inr h ↦ first_of (λ p. expression_in p ≡ Chosen x y) written process h is (λ found.
            apart (found.0, ((found.1, found.2, found.3, found.4, found.5), middle_plain found.0 found.1 found.2 found.3, found.4)))
      ]

  -- a leaf with a mixed activity has a first one, which is written at an index
  pub some_mixed : EachOpens (outline_with sets compounds bodies system) → (number : ℕ) (leaf : Expression) → slice_get (outline_with sets compounds bodies system).leaves number ≡ Some leaf → HasMixed (outline_with sets compounds bodies system) leaf
      → ((i : ℕ) × IsMixedLeaf (outline_with sets compounds bodies system) bodies (written_leaves compounds bodies system) leaf i → ⊥) → ⊥
  some_mixed each number leaf at (opened, opens, some) apart =
      let from = leaf_written sets compounds bodies system built.one_each number leaf at in
      some_least (λ place. IsMixedAt (activities_in outline.leaves opened) place) (λ found. elim found [
        | inl none ↦ none some.0 some.1
        | inr first ↦ some_written leaf from.0 from.1 from.2 (λ writes.
            let mixed = first.1.stands in
            let many = as_many writes.0 opened writes.1.1 (subst (λ (e : Expression). Opens definitions e opened) (sym writes.1.2) opens) in
            let low : first.0 < length (sites bodies writes.0 opened) =
            let within = slice_get_within (activities_in outline.leaves opened) first.0 mixed.later mixed.later_is in
            omega (arith, within, many, length-map (moves opened) (activity_in outline.leaves)) in
            apart (
              get_or (sites bodies writes.0 opened) first.0 0,
              record {
                opened = opened;
                opens = opens;
                place = first.0;
                mixed = mixed;
                first = λ other less again. not_both other first.0 less (first.1.least other again);
                process = writes.0;
                first_written = writes.1.0;
                site = slice_get-get_or (sites bodies writes.0 opened) first.0 0 low;
              },
            ))
      ])
