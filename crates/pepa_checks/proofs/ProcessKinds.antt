-- The processes whose expressions are leaves have no cooperation and no hiding.
use Rattle.std.proofs.Common.{◌≡◌, ℕ, inl, inr, Bool, true, false, ◌||◌, List, [], ◌∷◌, ◌++◌, refl, sym, ◌∙◌, ap, subst, arith, zero, Some}
use Rattle.std.specs.Prelude.{if◌then◌else◌, slice_get}
use Rattle.std.specs.List.{Contains}
use Rattle.std.proofs.lemmas.List.Elements.{Contains-append_left, Contains-append_right, Contains-append_cases, Contains-push}
use Rattle.pepa_rates.specs.declared.rate.Rate.{Rate}
use Rattle.pepa_resolver.specs.Named.{Named, NamedConstant, NamedPrefix, NamedChoice, NamedCoop, NamedHide, sequential_parts}
use Rattle.pepa_resolver.specs.Faults.{HasNone}
use Rattle.pepa_checks.specs.Structure.{has_system, IsCompoundConstant, NotSequentialAt}
use Rattle.node_orders.specs.Graphs.{IsTableOf}
use Rattle.pepa_checks.proofs.Sequentials.{contains_cons}
use Rattle.pepa_checks.specs.Outline.{is_compound}
use Rattle.pepa_checks.specs.Activities.{written_followers, written_components, written_in, written_leaves}

not_true : (b : Bool) → (b ≡ true → ⊥) → b ≡ false
not_true true h = absurd (h refl)
not_true false h = refl

none_in : {X : Type 0} (x : X) → Contains [] x → ⊥
none_in x among = omega (arith, among.1)

contains_head : {X : Type 0} → (x : X) (xs : List X) → Contains (x ∷ xs) x
contains_head x xs = Contains-append_left (x ∷ []) xs x (Contains-push [] x)

contains_tail : {X : Type 0} → (x : X) (xs : List X) (y : X) → Contains xs y → Contains (x ∷ xs) y
contains_tail x xs y among = Contains-append_right (x ∷ []) xs y among

-- what has to be sequential in the process is
abbrev ArePartsPlain : Named → Type 0
ArePartsPlain process = (part : Named) → Contains (sequential_parts process) part → has_system part ≡ false

plain_parts : (bodies : List Named) (system : Named) → HasNone (NotSequentialAt bodies system) → (process : Named) → Contains (bodies ++ system ∷ []) process → ArePartsPlain process
plain_parts bodies system sequential process among part inside =
    not_true (has_system part) (λ is_so. sequential _ (process, among, (part, inside, inl is_so, refl)))

plain_followers : (process x : Named) → ArePartsPlain process → Contains (written_followers process) x → has_system x ≡ false
plain_followers (NamedConstant at c) x plain among = absurd (none_in x among)
plain_followers (NamedPrefix at action rate next) x plain among = elim (contains_cons next (written_followers next) x among) [
  | inl same ↦ subst (λ y. has_system y ≡ false) same (plain next (contains_head next (sequential_parts next)))
  | inr there ↦ plain_followers next x (λ part inside. plain part (contains_tail next (sequential_parts next) part inside)) there
]
plain_followers (NamedChoice left right) x plain among = elim (Contains-append_cases (written_followers left) (written_followers right) x among) [
  | inl there ↦ plain_followers left x (λ part inside. plain part (contains_tail left (right ∷ (sequential_parts left ++ sequential_parts right)) part (contains_tail right (sequential_parts left ++ sequential_parts right) part (Contains-append_left (sequential_parts left) (sequential_parts right) part inside)))) there
  | inr there ↦ plain_followers right x (λ part inside. plain part (contains_tail left (right ∷ (sequential_parts left ++ sequential_parts right)) part (contains_tail right (sequential_parts left ++ sequential_parts right) part (Contains-append_right (sequential_parts left) (sequential_parts right) part inside)))) there
]
plain_followers (NamedCoop left right set) x plain among = absurd (none_in x among)
plain_followers (NamedHide inner set) x plain among = absurd (none_in x among)

plain_constant : (compound : Bool) (at c : ℕ) (x : Named) → Contains (if compound then [] else NamedConstant at c ∷ []) x → has_system x ≡ false
plain_constant true at c x among = absurd (none_in x among)
plain_constant false at c x among = elim (contains_cons (NamedConstant at c) [] x among) [
  | inl same ↦ subst (λ y. has_system y ≡ false) same refl
  | inr there ↦ absurd (none_in x there)
]

plain_prefix : (at action : ℕ) (rate : Rate) (next : Named) → ArePartsPlain (NamedPrefix at action rate next) → has_system (NamedPrefix at action rate next) ≡ false
plain_prefix at action rate next plain = plain next (contains_head next (sequential_parts next))

plain_choice : (left right : Named) → ArePartsPlain (NamedChoice left right) → has_system (NamedChoice left right) ≡ false
plain_choice left right plain =
    let rest = sequential_parts left ++ sequential_parts right in
    ap (λ b. b || has_system right) (plain left (contains_head left (right ∷ rest)))
    ∙ plain right (contains_tail left (right ∷ rest) right (contains_head right rest))

plain_components : (compounds : List Bool) (process x : Named) → ArePartsPlain process → Contains (written_components compounds process) x → has_system x ≡ false
plain_components compounds (NamedConstant at c) x plain among = plain_constant (is_compound compounds c) at c x among
plain_components compounds (NamedPrefix at action rate next) x plain among =
    elim (contains_cons (NamedPrefix at action rate next) (written_followers (NamedPrefix at action rate next)) x among) [
      | inl same ↦ subst (λ y. has_system y ≡ false) same (plain_prefix at action rate next plain)
      | inr there ↦ plain_followers (NamedPrefix at action rate next) x plain there
    ]
plain_components compounds (NamedChoice left right) x plain among =
    elim (contains_cons (NamedChoice left right) (written_followers (NamedChoice left right)) x among) [
      | inl same ↦ subst (λ y. has_system y ≡ false) same (plain_choice left right plain)
      | inr there ↦ plain_followers (NamedChoice left right) x plain there
    ]
plain_components compounds (NamedCoop left right set) x plain among =
    elim (Contains-append_cases (written_components compounds left) (written_components compounds right) x among) [
      | inl there ↦ plain_components compounds left x (λ part inside. plain part (Contains-append_left (sequential_parts left) (sequential_parts right) part inside)) there
      | inr there ↦ plain_components compounds right x (λ part inside. plain part (Contains-append_right (sequential_parts left) (sequential_parts right) part inside)) there
    ]
plain_components compounds (NamedHide inner set) x plain among = plain_components compounds inner x plain among

plain_either : (compounds : List Bool) (flag : Bool) (process x : Named) → ArePartsPlain process → Contains (if flag then written_components compounds process else written_followers process) x → has_system x ≡ false
plain_either compounds true process x plain among = plain_components compounds process x plain among
plain_either compounds false process x plain among = plain_followers process x plain among

plain_in : (compounds flags : List Bool) (bodies : List Named) (x : Named) → ((process : Named) → Contains bodies process → ArePartsPlain process) → Contains (written_in compounds flags bodies) x → has_system x ≡ false
plain_in compounds [] bodies x plain among = absurd (none_in x among)
plain_in compounds (flag ∷ flags) [] x plain among = absurd (none_in x among)
plain_in compounds (flag ∷ flags) (body ∷ bodies) x plain among =
    elim (Contains-append_cases (if flag then written_components compounds body else written_followers body) (written_in compounds flags bodies) x among) [
      | inl here ↦ plain_either compounds flag body x (plain body (contains_head body bodies)) here
      | inr there ↦ plain_in compounds flags bodies x (λ process inside. plain process (contains_tail body bodies process inside)) there
    ]

module _ (compounds : List Bool) (bodies : List Named) (system : Named) (sequential : HasNone (NotSequentialAt bodies system)) where
  pub plain_written : (x : Named) → Contains (written_leaves compounds bodies system) x → has_system x ≡ false
  plain_written x among =
      let plain = plain_parts bodies system sequential in
      elim (Contains-append_cases (written_in compounds compounds bodies) (written_components compounds system) x among) [
        | inl there ↦ plain_in compounds compounds bodies x (λ process inside. plain process (Contains-append_left bodies (system ∷ []) process inside)) there
        | inr there ↦ plain_components compounds system x (plain system (Contains-append_right bodies (system ∷ []) system (Contains-push [] system))) there
      ]

-- the body of a sequential constant
pub plain_body : (compounds : List Bool) (bodies : List Named) (c : ℕ) (body : Named) → IsTableOf (IsCompoundConstant bodies) compounds → slice_get compounds c ≡ Some false → slice_get bodies c ≡ Some body → has_system body ≡ false
plain_body compounds bodies c body table flag_is body_is =
    not_true (has_system body) (λ is_so. let marked = table.complete c (zero, (body, body_is, is_so)) in some_apart (sym flag_is ∙ marked))
  where
    some_apart : Some false ≡ Some true → ⊥
    some_apart e = cc
