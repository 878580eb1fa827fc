-- The processes of leaves are sequential, and so are the bodies of sequential constants.
use Rattle.std.proofs.Common.{◌≡◌, ℕ, suc, ◌+◌, ◌<◌, ◌≤◌, Bool, true, false, if◌then◌else◌, List, [], ◌∷◌, ◌++◌, length, Some, slice_get, inl, inr, refl, sym, ap, subst, ◌∙◌, arith}
use Rattle.std.specs.List.{Contains}
use Rattle.std.proofs.lemmas.List.Elements.{Contains-append_left, Contains-append_right, Contains-append_cases, Contains-push}
use Rattle.pepa_resolver.specs.Named.{Named, NamedConstant, NamedPrefix, NamedChoice, NamedCoop, NamedHide, constants_named, sequential_parts, first_at}
use Rattle.pepa_checks.specs.Structure.{IsCompoundConstant, IsSystem}
use Rattle.node_orders.specs.Graphs.{AreBelow, IsTableOf}
use Rattle.node_orders.proofs.Elements.{no_element, one_element, contains_here, contains_there, contains_cases, contains_from_get}
use Rattle.pepa_checks.specs.Outline.{is_compound}
use Rattle.pepa_checks.specs.Activities.{written_followers, written_components, written_in, written_leaves}
use Rattle.pepa_checks.specs.Heights.{height_in, most_height}
use Rattle.pepa_checks.specs.Built.{constant_names, leaf_processes, IsBuilt}
use Rattle.pepa_checks.proofs.DefinitionsByNumber.{flag_false, flag_of}

-- a sequential process: no cooperation, no hiding, and each constant sequential
abbrev pub IsPlain : List Bool → Named → Type 0
IsPlain compounds (NamedConstant at c) = slice_get compounds c ≡ Some false
IsPlain compounds (NamedPrefix at action rate next) = IsPlain compounds next
IsPlain compounds (NamedChoice left right) = IsPlain compounds left × IsPlain compounds right
IsPlain compounds (NamedCoop left right set) = ⊥
IsPlain compounds (NamedHide inner set) = ⊥

-- a process whose parts are sequential where they have to be
abbrev pub HasPlainParts : List Bool → Named → Type 0
HasPlainParts compounds (NamedConstant at c) = c < length compounds
HasPlainParts compounds (NamedPrefix at action rate next) = IsPlain compounds next
HasPlainParts compounds (NamedChoice left right) = IsPlain compounds left × IsPlain compounds right
HasPlainParts compounds (NamedCoop left right set) = HasPlainParts compounds left × HasPlainParts compounds right
HasPlainParts compounds (NamedHide inner set) = HasPlainParts compounds inner

-- a sequential process that isn't too high
abbrev pub IsLeafProcess : List Bool → Named → Type 0
IsLeafProcess compounds process = IsPlain compounds process × (height_in process ≤ most_height)

-- ---- from the structure

module _ (compounds : List Bool) (bodies : List Named) (one_each : length compounds ≡ length bodies) (table : IsTableOf (IsCompoundConstant bodies) compounds) where
  abbrev AreSequential : Named → Type 0
  AreSequential process = (part : Named) → Contains (sequential_parts process) part → ¬ IsSystem bodies part

  -- such a process is sequential, unless it is a system
  plain : (process : Named) → ¬ IsSystem bodies process → HasPlainParts compounds process → IsPlain compounds process
  plain (NamedConstant at c) sequential parts = flag_false compounds c parts (λ hit. sequential (inr (at, c, refl, table.sound c hit)))
  plain (NamedPrefix at action rate next) sequential parts = parts
  plain (NamedChoice left right) sequential parts = parts
  plain (NamedCoop left right set) sequential parts = absurd (sequential (inl refl))
  plain (NamedHide inner set) sequential parts = absurd (sequential (inl refl))

  plain_parts : (process : Named) → AreSequential process → AreBelow (length bodies) (constants_named process) → HasPlainParts compounds process
  plain_parts (NamedConstant at c) parts below = let within : c < length bodies = below c (contains_here c []) in omega arith
  plain_parts (NamedPrefix at action rate next) parts below =
      plain next (parts next (contains_here next (sequential_parts next)))
      (plain_parts next (λ part h. parts part (contains_there next (sequential_parts next) part h)) below)
  plain_parts (NamedChoice left right) parts below =
      let inner = sequential_parts left ++ sequential_parts right in
      let among : (part : Named) → Contains inner part → Contains (left ∷ right ∷ inner) part = λ part h. contains_there left (right ∷ inner) part (contains_there right inner part h) in (
        plain left (parts left (contains_here left (right ∷ inner)))
            (plain_parts left (λ part h. parts part (among part (Contains-append_left (sequential_parts left) (sequential_parts right) part h)))
            (λ d h. below d (Contains-append_left (constants_named left) (constants_named right) d h))),
        plain right (parts right (contains_there left (right ∷ inner) right (contains_here right inner)))
            (plain_parts right (λ part h. parts part (among part (Contains-append_right (sequential_parts left) (sequential_parts right) part h)))
            (λ d h. below d (Contains-append_right (constants_named left) (constants_named right) d h))),
      )
  plain_parts (NamedCoop left right set) parts below = (
    plain_parts left (λ part h. parts part (Contains-append_left (sequential_parts left) (sequential_parts right) part h)) (λ d h. below d (Contains-append_left (constants_named left) (constants_named right) d h)),
    plain_parts right (λ part h. parts part (Contains-append_right (sequential_parts left) (sequential_parts right) part h)) (λ d h. below d (Contains-append_right (constants_named left) (constants_named right) d h)),
  )
  plain_parts (NamedHide inner set) parts below = plain_parts inner parts below

  -- a sequential constant isn't compound
  pub not_compound : (c : ℕ) → slice_get compounds c ≡ Some false → ¬ IsCompoundConstant bodies c
  not_compound c unset compound = let set : slice_get compounds c ≡ Some true = table.complete c compound in cc

  -- so its body is no system
  no_system : (c : ℕ) (body : Named) → slice_get compounds c ≡ Some false → slice_get bodies c ≡ Some body → ¬ IsSystem bodies body
  no_system c body unset is (inl operator) = not_compound c unset (0, (body, is, operator))
  no_system c body unset is (inr (at, d, alone, compound)) = not_compound c unset (suc compound.0, (at, d, is ∙ ap (λ (p : Named). Some p) alone, compound.1))

-- ---- the processes of leaves

module _ (compounds : List Bool) where
  followers_plain : (process : Named) → IsLeafProcess compounds process → (q : Named) → Contains (written_followers process) q → IsLeafProcess compounds q
  followers_plain (NamedConstant at c) fine q h = absurd (no_element q h)
  followers_plain (NamedPrefix at action rate next) fine q h =
      let behind : IsLeafProcess compounds next = (fine.0, omega (arith, fine.1)) in
      elim (contains_cases next (written_followers next) q h) [
        | inl e ↦ subst (λ (p : Named). IsLeafProcess compounds p) e behind
        | inr there ↦ followers_plain next behind q there
      ]
  followers_plain (NamedChoice left right) fine q h =
      elim (Contains-append_cases (written_followers left) (written_followers right) q h) [
        | inl there ↦ followers_plain left (fine.0.0, omega (arith, fine.1)) q there
        | inr there ↦ followers_plain right (fine.0.1, omega (arith, fine.1)) q there
      ]
  followers_plain (NamedCoop left right set) fine q h = absurd fine.0
  followers_plain (NamedHide inner set) fine q h = absurd fine.0

  body_followers : (process : Named) → HasPlainParts compounds process → height_in process ≤ most_height → (q : Named) → Contains (written_followers process) q → IsLeafProcess compounds q
  body_followers (NamedConstant at c) parts low q h = absurd (no_element q h)
  body_followers (NamedPrefix at action rate next) parts low q h = followers_plain (NamedPrefix at action rate next) (parts, low) q h
  body_followers (NamedChoice left right) parts low q h = followers_plain (NamedChoice left right) (parts, low) q h
  body_followers (NamedCoop left right set) parts low q h = absurd (no_element q h)
  body_followers (NamedHide inner set) parts low q h = absurd (no_element q h)

  constant_component : (at c : ℕ) (b : Bool) → is_compound compounds c ≡ b → c < length compounds → (q : Named) → Contains (if b then [] else NamedConstant at c ∷ []) q → IsLeafProcess compounds q
  constant_component at c true e within q h = absurd (no_element q h)
  constant_component at c false e within q h =
      subst (λ (p : Named). IsLeafProcess compounds p) (one_element (NamedConstant at c) q h) (flag_of compounds c false e within, omega arith)

  itself : (process : Named) → IsLeafProcess compounds process → (q : Named) → Contains (process ∷ written_followers process) q → IsLeafProcess compounds q
  itself process fine q h =
      elim (contains_cases process (written_followers process) q h) [
        | inl e ↦ subst (λ (p : Named). IsLeafProcess compounds p) e fine
        | inr there ↦ followers_plain process fine q there
      ]

  components_plain : (process : Named) → HasPlainParts compounds process → height_in process ≤ most_height → (q : Named) → Contains (written_components compounds process) q → IsLeafProcess compounds q
  components_plain (NamedConstant at c) parts low q h = constant_component at c (is_compound compounds c) refl parts q h
  components_plain (NamedPrefix at action rate next) parts low q h = itself (NamedPrefix at action rate next) (parts, low) q h
  components_plain (NamedChoice left right) parts low q h = itself (NamedChoice left right) (parts, low) q h
  components_plain (NamedCoop left right set) parts low q h =
      elim (Contains-append_cases (written_components compounds left) (written_components compounds right) q h) [
        | inl there ↦ components_plain left parts.0 (omega (arith, low)) q there
        | inr there ↦ components_plain right parts.1 (omega (arith, low)) q there
      ]
  components_plain (NamedHide inner set) parts low q h = components_plain inner parts (omega (arith, low)) q h

  body_plain_leaves : (flag : Bool) (body : Named) → HasPlainParts compounds body → height_in body ≤ most_height → (q : Named) → Contains (if flag then written_components compounds body else written_followers body) q → IsLeafProcess compounds q
  body_plain_leaves true body parts low q h = components_plain body parts low q h
  body_plain_leaves false body parts low q h = body_followers body parts low q h

  written_plain : (flags : List Bool) (bodies : List Named) → ((body : Named) → Contains bodies body → HasPlainParts compounds body × (height_in body ≤ most_height)) → (q : Named) → Contains (written_in compounds flags bodies) q → IsLeafProcess compounds q
  written_plain [] bodies each q h = absurd (no_element q h)
  written_plain (flag ∷ flags) [] each q h = absurd (no_element q h)
  written_plain (flag ∷ flags) (body ∷ bodies) each q h =
      elim (Contains-append_cases (if flag then written_components compounds body else written_followers body) (written_in compounds flags bodies) q h) [
        | inl here ↦ let one = each body (contains_here body bodies) in body_plain_leaves flag body one.0 one.1 q here
        | inr there ↦ written_plain flags bodies (λ b among. each b (contains_there body bodies b among)) q there
      ]

-- each name is a sequential constant's
pub constant_named : (n : ℕ) (flags : List Bool) (q : Named) → Contains (constant_names n flags) q → (c : ℕ) × (q ≡ NamedConstant 0 (n + c)) × (slice_get flags c ≡ Some false)
constant_named n [] q h = absurd (no_element q h)
constant_named n (true ∷ flags) q h =
    let rest = constant_named (suc n) flags q h in
    (suc rest.0, rest.1 ∙ ap (NamedConstant 0) (omega arith), rest.2)
constant_named n (false ∷ flags) q h =
    elim (contains_cases (NamedConstant 0 n) (constant_names (suc n) flags) q h) [
      | inl e ↦ (0, sym e ∙ ap (NamedConstant 0) (omega arith), refl)
      | inr there ↦ let rest = constant_named (suc n) flags q there in
          (suc rest.0, rest.1 ∙ ap (NamedConstant 0) (omega arith), rest.2)
    ]

module _ (compounds : List Bool) (bodies : List Named) (system : Named) (built : IsBuilt compounds bodies system) where
  -- a body, or the system, has sequential parts
  pub process_parts : (process : Named) → Contains (bodies ++ system ∷ []) process → HasPlainParts compounds process
  process_parts process among =
      plain_parts compounds bodies built.one_each built.table process
      (λ part h is_system. built.sequential (first_at part) (process, among, (part, h, is_system, refl)))
      (built.known process among)

  pub body_among : (c : ℕ) (body : Named) → slice_get bodies c ≡ Some body → Contains (bodies ++ system ∷ []) body
  body_among c body is = Contains-append_left bodies (system ∷ []) body (contains_from_get bodies c body is)

  -- the body of a sequential constant is sequential, and not too high
  pub sequential_body : (c : ℕ) (body : Named) → slice_get compounds c ≡ Some false → slice_get bodies c ≡ Some body → IsLeafProcess compounds body
  sequential_body c body unset is =
      let among = body_among c body is in
      (plain compounds bodies built.one_each built.table body (no_system compounds bodies built.one_each built.table c body unset is) (process_parts body among), built.low body among)

  -- so are the processes of leaves
  pub leaf_process : (process : Named) → Contains (leaf_processes compounds bodies system) process → IsLeafProcess compounds process
  leaf_process process among =
      elim (Contains-append_cases (constant_names 0 compounds) (written_leaves compounds bodies system) process among) [
        | inl h ↦ let one = constant_named 0 compounds process h in
            let e : 0 + one.0 ≡ one.0 = omega arith in
            subst (λ (p : Named). IsLeafProcess compounds p) (sym (one.1 ∙ ap (NamedConstant 0) e)) (one.2, omega arith)
        | inr h ↦ elim (Contains-append_cases (written_in compounds compounds bodies) (written_components compounds system) process h) [
          | inl there ↦ written_plain compounds compounds bodies
              (λ body within. let inside = Contains-append_left bodies (system ∷ []) body within in (process_parts body inside, built.low body inside)) process there
          | inr there ↦ let whole = Contains-push bodies system in
              components_plain compounds system (process_parts system whole) (built.low system whole) process there
        ]
      ]
