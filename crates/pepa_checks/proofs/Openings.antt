-- Each leaf of an outline opens into a tree, not too high.
use Rattle.std.proofs.Common.{◌≡◌, ℕ, ◌+◌, ◌*◌, ◌^◌, ◌<◌, ◌≤◌, Bool, false, List, [], length, get_or, Some, slice_get, refl, subst, arith}
use Rattle.std.specs.List.{Contains}
use Rattle.std.proofs.lemmas.Option.{slice_get_within, slice_get-get_or}
use Rattle.std.proofs.lemmas.List.Elements.{Contains-append_left, Contains-append_right}
use Rattle.pepa_model.specs.Expression.{Expression, Const, Definition}
use Rattle.pepa_model.specs.Opened.{Opened, OpenPrefix, OpenChoice, OpenConst, Opens, height}
use Rattle.pepa_resolver.specs.Named.{Named, NamedConstant, NamedPrefix, NamedChoice, NamedCoop, NamedHide, unguarded}
use Rattle.pepa_checks.specs.Structure.{UnguardedEdge}
use Rattle.node_orders.specs.Graphs.{IsOrder}
use Rattle.node_orders.proofs.Elements.{contains_here}
use Rattle.pepa_checks.specs.Outline.{expression_in, definitions_in, outline_with}
use Rattle.pepa_checks.specs.Heights.{height_in}
use Rattle.pepa_checks.specs.Built.{IsBuilt}
use Rattle.pepa_checks.proofs.DefinitionsByNumber.{defines_at}
use Rattle.pepa_checks.proofs.LeafProcesses.{leaf_written}
use Rattle.pepa_checks.proofs.PlainProcesses.{IsPlain, IsLeafProcess, not_compound, sequential_body, leaf_process}
use Rattle.node_orders.proofs.AlongOrders.{along_order}

-- with each constant of an order the bound of a height grows by so much, and by this for 1,024 of them
abbrev pub step : ℕ
step = 1025

abbrev pub most_steps : ℕ
most_steps = 1024 * step

-- the expression opens into a tree that is no higher
pub record OpensWithin (definitions : List Definition) (most : ℕ) (e : Expression) : Type 0 where
  pub opened : Opened
  pub opens : Opens definitions e opened
  pub low : height opened ≤ most

pub opens_higher : (definitions : List Definition) (k m : ℕ) (e : Expression) → k ≤ m → OpensWithin definitions k e → OpensWithin definitions m e
opens_higher definitions k m e le o = record { opened = o.opened; opens = o.opens; low = omega (arith, o.low) }

module _ (definitions : List Definition) (compounds : List Bool) where
  -- the constants that stand behind no activity open
  abbrev EachOpens : ℕ → List ℕ → Type 0
  EachOpens k constants = (d : ℕ) → Contains constants d → slice_get compounds d ≡ Some false → OpensWithin definitions k (Const d)

  plain_opens : (k : ℕ) (process : Named) → IsPlain compounds process → EachOpens k (unguarded process) → OpensWithin definitions (k + height_in process) (expression_in process)
  plain_opens k (NamedConstant at c) fine each = opens_higher definitions k (k + 1) (Const c) (omega arith) (each c (contains_here c []) fine)
  plain_opens k (NamedPrefix at action rate next) fine each = record { opened = OpenPrefix action rate (expression_in next); opens = refl; low = omega arith }
  plain_opens k (NamedChoice left right) fine each =
      let p = plain_opens k left fine.0 (λ d h. each d (Contains-append_left (unguarded left) (unguarded right) d h)) in
      let q = plain_opens k right fine.1 (λ d h. each d (Contains-append_right (unguarded left) (unguarded right) d h)) in
      record {
        opened = OpenChoice p.opened q.opened;
        opens = (expression_in left, expression_in right, refl, p.opens, q.opens);
        low = omega (arith, p.low, q.low);
      }
  plain_opens k (NamedCoop left right set) fine each = absurd fine
  plain_opens k (NamedHide inner set) fine each = absurd fine

module _ (sets : List (List ℕ)) (compounds : List Bool) (bodies : List Named) (system : Named) (order : List ℕ) (built : IsBuilt compounds bodies system)
    (ordered : IsOrder (UnguardedEdge bodies) (length bodies) order) where
  abbrev definitions : List Definition
  definitions = definitions_in compounds sets compounds bodies

  -- a sequential constant opens
  abbrev Holds : ℕ → ℕ → Type 0
  Holds k c = slice_get compounds c ≡ Some false → OpensWithin definitions k (Const c)

  next : (k c : ℕ) → ((d : ℕ) → UnguardedEdge bodies c d → Holds k d) → Holds (k + step) c
  next k c each unset =
      let count : length compounds ≡ length bodies = built.one_each in
      let inside : c < length compounds = slice_get_within compounds c false unset in
      let body = get_or bodies c (NamedConstant 0 0) in
      let at : slice_get bodies c ≡ Some body = slice_get-get_or bodies c (NamedConstant 0 0) (omega arith) in
      let fine = sequential_body compounds bodies system built c body unset at in
      let inner = plain_opens definitions compounds k body fine.0
      (λ d h unset_too. each d (not_compound compounds bodies built.one_each built.table c unset, (body, at, h)) unset_too) in
      record {
        opened = OpenConst c inner.opened;
        opens = (refl, (expression_in body, defines_at compounds sets compounds bodies c body unset at, inner.opens));
        low = omega (arith, inner.low, fine.1);
      }

  pub constant_opens : (c : ℕ) → slice_get compounds c ≡ Some false → OpensWithin (definitions_in compounds sets compounds bodies) most_steps (Const c)
  constant_opens c unset =
      let count : length compounds ≡ length bodies = built.one_each in
      let few : length bodies ≤ 1024 = built.few in
      let inside : c < length compounds = slice_get_within compounds c false unset in
      opens_higher definitions (length bodies * step) most_steps (Const c) (omega arith)
      (along_order step (UnguardedEdge bodies) (length bodies) order ordered Holds
      (λ k m d le holds unset_too. opens_higher definitions k m (Const d) le (holds unset_too)) next c (omega arith) unset)

  -- a process whose expression may be a leaf opens
  pub process_opens : (process : Named) → IsLeafProcess compounds process → (opened : Opened) × Opens (definitions_in compounds sets compounds bodies) (expression_in process) opened × (height opened ≤ 2 ^ 21)
  process_opens process fine =
      let o = plain_opens definitions compounds most_steps process fine.0 (λ d h unset. constant_opens d unset) in
      (o.opened, o.opens, omega (arith, o.low, fine.1))

  -- each leaf opens, not too high
  pub leaf_opens : (number : ℕ) (leaf : Expression) → slice_get (outline_with sets compounds bodies system).leaves number ≡ Some leaf → (opened : Opened) × Opens (outline_with sets compounds bodies system).definitions leaf opened × (height opened ≤ 2 ^ 21)
  leaf_opens number leaf at =
      let written = leaf_written sets compounds bodies system built.one_each number leaf at in
      subst (λ (e : Expression). (opened : Opened) × Opens definitions e opened × (height opened ≤ 2 ^ 21)) written.2
      (process_opens written.0 (leaf_process compounds bodies system built written.0 written.1))
