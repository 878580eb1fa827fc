-- The processes whose expressions are leaves are sequential.
use Rattle.std.proofs.Common.{◌≡◌, ℕ, Bool, true, false, ◌||◌, if◌then◌else◌, List, [], ◌∷◌, ◌++◌, unwrap_or, Some, ◌⊎◌, inl, inr, refl, sym, ap, ◌∙◌, subst, slice_get, true≢false}
use Rattle.std.specs.List.{Contains}
use Rattle.std.proofs.lemmas.List.Elements.{Contains-append_left, Contains-append_right, Contains-push}
use Rattle.pepa_model.specs.Derivation.{Among}
use Rattle.pepa_resolver.specs.Named.{Named, NamedConstant, NamedPrefix, NamedChoice, NamedCoop, NamedHide, first_at, sequential_parts}
use Rattle.pepa_checks.specs.Structure.{has_system, IsCompoundConstant, NotSequentialAt}
use Rattle.pepa_resolver.specs.Faults.{HasNone}
use Rattle.node_orders.specs.Graphs.{IsTableOf}
use Rattle.pepa_checks.specs.Outline.{is_compound}
use Rattle.pepa_checks.specs.Activities.{written_followers, written_components, written_in, written_leaves}
use Rattle.pepa_checks.proofs.ListReads.{true_or_false}
use Rattle.pepa_checks.proofs.FileWalks.{contains_head, contains_tail}

pub among_cases : {X : Type 0} (x : X) (xs ys : List X) → Among x (xs ++ ys) → Among x xs ⊎ Among x ys
among_cases x [] ys h = inr h
among_cases x (y ∷ xs) ys (inl is) = inl (inl is)
among_cases x (y ∷ xs) ys (inr h) = elim (among_cases x xs ys h) [ inl a ↦ inl (inr a) | inr b ↦ inr b ]

pub among_middle : {X : Type 0} (x : X) (xs ys : List X) → Among x (xs ++ x ∷ ys)
among_middle x [] ys = inl refl
among_middle x (y ∷ xs) ys = inr (among_middle x xs ys)

-- a sequential process, and no compound constant
pub record IsPlain (compounds : List Bool) (process : Named) : Type 0 where
  pub plain : has_system process ≡ false
  pub constant : (at c : ℕ) → process ≡ NamedConstant at c → slice_get compounds c ≡ Some true → ⊥

follower_part : (process p : Named) → Among p (written_followers process) → Contains (sequential_parts process) p
follower_part (NamedConstant at c) p h = absurd h
follower_part (NamedPrefix at action rate next) p (inl is) = subst (λ q. Contains (next ∷ sequential_parts next) q) (sym is) (contains_head next (sequential_parts next))
follower_part (NamedPrefix at action rate next) p (inr h) = contains_tail next (sequential_parts next) p (follower_part next p h)
follower_part (NamedChoice left right) p h =
    let rest = sequential_parts left ++ sequential_parts right in
    let inside : Contains rest p = elim (among_cases p (written_followers left) (written_followers right) h) [
      | inl a ↦ Contains-append_left (sequential_parts left) (sequential_parts right) p (follower_part left p a)
      | inr b ↦ Contains-append_right (sequential_parts left) (sequential_parts right) p (follower_part right p b)
    ] in
    contains_tail left (right ∷ rest) p (contains_tail right rest p inside)
follower_part (NamedCoop left right set) p h = absurd h
follower_part (NamedHide inner set) p h = absurd h

module _ (compounds : List Bool) where
  -- what has to be sequential in a process is
  abbrev HasPlainParts : Named → Type 0
  HasPlainParts process = (part : Named) → Contains (sequential_parts process) part → IsPlain compounds part

  is_flag : (c : ℕ) → is_compound compounds c ≡ false → slice_get compounds c ≡ Some true → ⊥
  is_flag c e marked = true≢false (sym (ap (λ o. unwrap_or o false) marked) ∙ e)

  constant_plain : (b : Bool) (at c : ℕ) (p : Named) → is_compound compounds c ≡ b → Among p (if b then [] else NamedConstant at c ∷ []) → IsPlain compounds p
  constant_plain true at c p e h = absurd h
  constant_plain false at c p e (inr h) = absurd h
  constant_plain false at c p e (inl is) = subst (IsPlain compounds) (sym is) (record { plain = refl; constant = λ at' d same marked. is_flag c e (subst (λ k. slice_get compounds k ≡ Some true) (sym (number at at' c d same)) marked) })
    where
      number : (i j k l : ℕ) → NamedConstant i k ≡ NamedConstant j l → k ≡ l
      number i j k l same = cc

  component_plain : (process p : Named) → HasPlainParts process → Among p (written_components compounds process) → IsPlain compounds p
  component_plain (NamedConstant at c) p parts h = constant_plain (is_compound compounds c) at c p refl h
  component_plain (NamedPrefix at action rate next) p parts (inl is) =
      subst (IsPlain compounds) (sym is) (record { plain = (parts next (contains_head next (sequential_parts next))).plain; constant = λ i c same marked. absurd cc })
  component_plain (NamedPrefix at action rate next) p parts (inr h) = parts p (follower_part (NamedPrefix at action rate next) p h)
  component_plain (NamedChoice left right) p parts (inl is) =
      let rest = sequential_parts left ++ sequential_parts right in
      let first : has_system left ≡ false = (parts left (contains_head left (right ∷ rest))).plain in
      let second : has_system right ≡ false = (parts right (contains_tail left (right ∷ rest) right (contains_head right rest))).plain in
      subst (IsPlain compounds) (sym is) (record { plain = λ i. first i || second i; constant = λ i c same marked. absurd cc })
  component_plain (NamedChoice left right) p parts (inr h) = parts p (follower_part (NamedChoice left right) p h)
  component_plain (NamedCoop left right set) p parts h = elim (among_cases p (written_components compounds left) (written_components compounds right) h) [
    | inl a ↦ component_plain left p (λ part among. parts part (Contains-append_left (sequential_parts left) (sequential_parts right) part among)) a
    | inr b ↦ component_plain right p (λ part among. parts part (Contains-append_right (sequential_parts left) (sequential_parts right) part among)) b
  ]
  component_plain (NamedHide inner set) p parts h = component_plain inner p parts h

  line_plain : (flag : Bool) (body p : Named) → HasPlainParts body → Among p (if flag then written_components compounds body else written_followers body) → IsPlain compounds p
  line_plain true body p parts h = component_plain body p parts h
  line_plain false body p parts h = parts p (follower_part body p h)

  lines_plain : (flags : List Bool) (bodies : List Named) (p : Named) → ((body : Named) → Contains bodies body → HasPlainParts body) → Among p (written_in compounds flags bodies) → IsPlain compounds p
  lines_plain [] bodies p each h = absurd h
  lines_plain (flag ∷ flags) [] p each h = absurd h
  lines_plain (flag ∷ flags) (body ∷ bodies) p each h = elim (among_cases p (if flag then written_components compounds body else written_followers body) (written_in compounds flags bodies) h) [
    | inl a ↦ line_plain flag body p (each body (contains_head body bodies)) a
    | inr b ↦ lines_plain flags bodies p (λ other among. each other (contains_tail body bodies other among)) b
  ]

  module _ (bodies : List Named) (system : Named) (table : IsTableOf (IsCompoundConstant bodies) compounds) (none : HasNone (NotSequentialAt bodies system)) where
    parts_plain : (process : Named) → Contains (bodies ++ system ∷ []) process → HasPlainParts process
    parts_plain process there part among = record {
      plain = elim (true_or_false (has_system part)) [
        | inl holds ↦ absurd (none (first_at part) (process, there, (part, among, inl holds, refl)))
        | inr not ↦ not
      ];
      constant = λ at c is marked. none (first_at part) (process, there, (part, among, inr (at, c, is, table.sound c marked), refl));
    }

    pub written_plain : (p : Named) → Among p (written_leaves compounds bodies system) → IsPlain compounds p
    written_plain p h = elim (among_cases p (written_in compounds compounds bodies) (written_components compounds system) h) [
      | inl a ↦ lines_plain compounds bodies p (λ body among. parts_plain body (Contains-append_left bodies (system ∷ []) body among)) a
      | inr b ↦ component_plain system p (parts_plain system (Contains-push bodies system)) b
    ]
