-- The bodies of constants, one after another.
use Rattle.std.proofs.Common.{◌≡◌, ℕ, zero, suc, ◌+◌, ◌<◌, ◌≤◌, ◌⊎◌, inl, inr, Bool, true, false, List, [], ◌∷◌, ◌++◌, length, get_or, set, replicate, Option, Some, None, slice_get, option_map, refl, sym, ◌∙◌, ap, subst, arith, length-set, get_or-set_same, get_or-set_other}
use Rattle.std.specs.List.{Contains}
use Rattle.std.proofs.lemmas.Bool.{false≢true, cases_lt, cases_eq}
use Rattle.std.proofs.lemmas.List.{length-replicate, get_or-replicate}
use Rattle.std.proofs.lemmas.Option.{slice_get_within, get_or_from_slice_get, slice_get-map, slice_get_read}
use Rattle.std.proofs.lemmas.List.Elements.{Contains-append_left, Contains-push, Contains-push_cases}
use Rattle.pepa_resolver.specs.declared.named.NamedProcess.{NamedProcess}
use Rattle.pepa_resolver.specs.Named.{Named, constants_named, NamedConstant, NamedPrefix, NamedChoice, NamedCoop, NamedHide}
use Rattle.pepa_checks.specs.Structure.{IsCompoundConstant, IsCompoundBy, has_system}
use Rattle.node_orders.specs.Graphs.{EdgeOf, AreBelow, HasEdgesBelow, IsReached, IsTableOf}
use Rattle.pepa_resolver.specs.NamedTypes.{named_of, bodies_of, HasConstantsBelow}
use Rattle.pepa_checks.specs.Aliases.{lone_constant, IsAlias, IsSystemList, IsUserTable}
use Rattle.node_orders.proofs.Elements.{contains_from_get}
use Rattle.node_orders.proofs.Reaching.{leads_more, leads_within, edge_at, edge_among, edge_within}

-- ---- the body at a place

pub body_at : (bodies : List NamedProcess) (at : ℕ) (process : NamedProcess) → at < length bodies → process ≡ get_or bodies at process → slice_get (bodies_of bodies) at ≡ Some (named_of process)
body_at bodies at process within read =
    slice_get-map named_of bodies at ∙ ap (λ o. option_map named_of o) (slice_get_read bodies (length bodies) at process refl within read)

pub same_body : (bodies : List Named) (c : ℕ) (x y : Named) → slice_get bodies c ≡ Some x → slice_get bodies c ≡ Some y → x ≡ y
same_body bodies c x y p q = cc

same_some : (x y : ℕ) → ◌≡◌ {A = Option ℕ} (Some x) (Some y) → x ≡ y
same_some x y e = cc

not_both : (x : ℕ) → ◌≡◌ {A = Option ℕ} (Some x) None → ⊥
not_both x e = cc

-- ---- the bodies with a system

pub record HasSystemsUpTo (bodies : List Named) (systems : List ℕ) (at : ℕ) : Type 0 where
  pub sound : (c : ℕ) → Contains systems c → IsCompoundBy bodies zero c
  pub complete : (c : ℕ) → c < at → IsCompoundBy bodies zero c → Contains systems c

pub systems_begin : (bodies : List Named) → HasSystemsUpTo bodies [] 0
systems_begin bodies = record { sound = λ c among. absurd (omega (arith, among.1)); complete = λ c low. absurd (omega (arith, low)) }

pub systems_hit : (bodies : List Named) (systems : List ℕ) (at : ℕ) (body : Named) → HasSystemsUpTo bodies systems at → slice_get bodies at ≡ Some body → has_system body ≡ true → HasSystemsUpTo bodies (systems ++ at ∷ []) (at + 1)
systems_hit bodies systems at body so_far read hit = record {
  sound = λ c among. elim (Contains-push_cases systems at c among) [
    | inl before ↦ so_far.sound c before
    | inr same ↦ subst (λ x. IsCompoundBy bodies zero x) same (body, read, hit)
  ];
  complete = λ c low by. elim (cases_lt c at) [
    | inl before ↦ Contains-append_left systems (at ∷ []) c (so_far.complete c before by)
    | inr after ↦ let is : at ≡ c = omega arith in subst (λ x. Contains (systems ++ at ∷ []) x) is (Contains-push systems at)
  ];
}

pub systems_miss : (bodies : List Named) (systems : List ℕ) (at : ℕ) (body : Named) → HasSystemsUpTo bodies systems at → slice_get bodies at ≡ Some body → has_system body ≡ false → HasSystemsUpTo bodies systems (at + 1)
systems_miss bodies systems at body so_far read miss = record {
  sound = so_far.sound;
  complete = λ c low by. elim (cases_lt c at) [
    | inl before ↦ so_far.complete c before by
    | inr after ↦
        let is : c ≡ at = omega arith in
        let same : by.0 ≡ body = same_body bodies at by.0 body (subst (λ x. slice_get bodies x ≡ Some by.0) is by.1) read in
        absurd (false≢true (sym miss ∙ ap has_system (sym same) ∙ by.2))
  ];
}

pub systems_end : (bodies : List Named) (systems : List ℕ) (at : ℕ) → length bodies ≤ at → HasSystemsUpTo bodies systems at → IsSystemList bodies systems
systems_end bodies systems at all so_far = record {
  sound = so_far.sound;
  complete = λ c by. so_far.complete c (omega (arith, slice_get_within bodies c by.0 by.1)) by;
}

-- ---- the constants that stand for another one

pub record HasUsersUpTo (bodies : List Named) (users : List (List ℕ)) (at : ℕ) : Type 0 where
  pub sizes : length users ≡ length bodies
  pub sound : (c d : ℕ) → EdgeOf users d c → IsAlias bodies c d
  pub complete : (c d : ℕ) → c < at → IsAlias bodies c d → EdgeOf users d c

none_in_empty : (n d c : ℕ) → EdgeOf (replicate n []) d c → ⊥
none_in_empty n d c edge =
    let within = edge_within (replicate n []) d c edge in
    let among = edge_among (replicate n []) d c [] edge in
    let empty = get_or-replicate n d [] [] (omega (arith, length-replicate {A = List ℕ} n [])) in
    let none : Contains [] c = subst (λ ts. Contains ts c) empty among in
    absurd (omega (arith, none.1))

pub users_begin : (bodies : List Named) (n : ℕ) → length bodies ≡ n → HasUsersUpTo bodies (replicate n []) 0
users_begin bodies n is = record {
  sizes = length-replicate n [] ∙ sym is;
  sound = λ c d edge. absurd (none_in_empty n d c edge);
  complete = λ c d low. absurd (omega (arith, low));
}

edge_kept : (users : List (List ℕ)) (at u d c : ℕ) → at < length users → EdgeOf users d c → EdgeOf (set users at (get_or users at [] ++ u ∷ [])) d c
edge_kept users at u d c within edge =
    let v = get_or users at [] ++ u ∷ [] in
    let low = edge_within users d c edge in
    let among = edge_among users d c [] edge in
    elim (cases_eq d at) [
      | inl same ↦ edge_at (set users at v) d c [] (omega (arith, length-set users at v))
          (subst (λ ts. Contains ts c) (sym (ap (λ x. get_or (set users at v) x []) same ∙ get_or-set_same users at v [] within)) (Contains-append_left (get_or users at []) (u ∷ []) c (subst (λ x. Contains (get_or users x []) c) same among)))
      | inr other ↦ edge_at (set users at v) d c [] (omega (arith, length-set users at v))
          (subst (λ ts. Contains ts c) (sym (get_or-set_other users at d v [] other)) among)
    ]

edge_new : (users : List (List ℕ)) (at u : ℕ) → at < length users → EdgeOf (set users at (get_or users at [] ++ u ∷ [])) at u
edge_new users at u within =
    let v = get_or users at [] ++ u ∷ [] in
    edge_at (set users at v) at u [] (omega (arith, length-set users at v))
    (subst (λ ts. Contains ts u) (sym (get_or-set_same users at v [] within)) (Contains-push (get_or users at []) u))

edge_before : (users : List (List ℕ)) (at u d c : ℕ) → at < length users → EdgeOf (set users at (get_or users at [] ++ u ∷ [])) d c → EdgeOf users d c ⊎ ((at ≡ d) × (u ≡ c))
edge_before users at u d c within edge =
    let v = get_or users at [] ++ u ∷ [] in
    let low = edge_within (set users at v) d c edge in
    let among = edge_among (set users at v) d c [] edge in
    elim (cases_eq d at) [
      | inl same ↦
          let here : Contains v c = subst (λ ts. Contains ts c) (ap (λ x. get_or (set users at v) x []) same ∙ get_or-set_same users at v [] within) among in
          elim (Contains-push_cases (get_or users at []) u c here) [
            | inl before ↦ inl (edge_at users d c [] (omega (arith, length-set users at v)) (subst (λ x. Contains (get_or users x []) c) (sym same) before))
            | inr is ↦ inr (sym same, is)
          ]
      | inr other ↦ inl (edge_at users d c [] (omega (arith, length-set users at v)) (subst (λ ts. Contains ts c) (get_or-set_other users at d v [] other) among))
    ]

pub users_hit : (bodies : List Named) (users : List (List ℕ)) (user d : ℕ) (body : Named) → HasUsersUpTo bodies users user → slice_get bodies user ≡ Some body → lone_constant body ≡ Some d → d < length users → HasUsersUpTo bodies (set users d (get_or users d [] ++ user ∷ [])) (user + 1)
users_hit bodies users user d body so_far read is within = record {
  sizes = length-set users d (get_or users d [] ++ user ∷ []) ∙ so_far.sizes;
  sound = λ c e edge. elim (edge_before users d user e c within edge) [
    | inl before ↦ so_far.sound c e before
    | inr new ↦ subst (λ x. IsAlias bodies c x) new.0 (subst (λ x. IsAlias bodies x d) new.1 (body, read, is))
  ];
  complete = λ c e low alias. elim (cases_lt c user) [
    | inl before ↦ edge_kept users d user e c within (so_far.complete c e before alias)
    | inr after ↦
        let at : c ≡ user = omega arith in
        let same : alias.0 ≡ body = same_body bodies user alias.0 body (subst (λ x. slice_get bodies x ≡ Some alias.0) at alias.1) read in
        let target : e ≡ d = same_some e d (sym alias.2 ∙ ap lone_constant same ∙ is) in
        subst (λ x. EdgeOf (set users d (get_or users d [] ++ user ∷ [])) e x) (sym at)
        (subst (λ x. EdgeOf (set users d (get_or users d [] ++ user ∷ [])) x user) (sym target) (edge_new users d user within))
  ];
}

pub users_miss : (bodies : List Named) (users : List (List ℕ)) (user : ℕ) (body : Named) → HasUsersUpTo bodies users user → slice_get bodies user ≡ Some body → lone_constant body ≡ None → HasUsersUpTo bodies users (user + 1)
users_miss bodies users user body so_far read miss = record {
  sizes = so_far.sizes;
  sound = so_far.sound;
  complete = λ c e low alias. elim (cases_lt c user) [
    | inl before ↦ so_far.complete c e before alias
    | inr after ↦
        let at : c ≡ user = omega arith in
        let same : alias.0 ≡ body = same_body bodies user alias.0 body (subst (λ x. slice_get bodies x ≡ Some alias.0) at alias.1) read in
        absurd (not_both e (sym alias.2 ∙ ap lone_constant same ∙ miss))
  ];
}

pub users_end : (bodies : List Named) (users : List (List ℕ)) (user : ℕ) → length bodies ≤ user → HasUsersUpTo bodies users user → IsUserTable bodies users
users_end bodies users user all so_far = record {
  sound = so_far.sound;
  complete = λ c d alias. so_far.complete c d (omega (arith, slice_get_within bodies c alias.0 alias.1)) alias;
}

-- ---- a constant alone

pub alone_among : (body : Named) (d : ℕ) → lone_constant body ≡ Some d → Contains (constants_named body) d
alone_among (NamedConstant at constant) d is = (0, omega arith, same_some constant d is)
alone_among (NamedPrefix at action rate next) d is = absurd (not_both d (sym is))
alone_among (NamedChoice left right) d is = absurd (not_both d (sym is))
alone_among (NamedCoop left right set) d is = absurd (not_both d (sym is))
alone_among (NamedHide inner set) d is = absurd (not_both d (sym is))

alone_is : (body : Named) (d : ℕ) → lone_constant body ≡ Some d → (at : ℕ) × (body ≡ NamedConstant at d)
alone_is (NamedConstant at constant) d is = (at, ap (λ x. NamedConstant at x) (same_some constant d is))
alone_is (NamedPrefix at action rate next) d is = absurd (not_both d (sym is))
alone_is (NamedChoice left right) d is = absurd (not_both d (sym is))
alone_is (NamedCoop left right set) d is = absurd (not_both d (sym is))
alone_is (NamedHide inner set) d is = absurd (not_both d (sym is))

pub alias_below : (n : ℕ) (bodies : List Named) (c d : ℕ) (body : Named) → HasConstantsBelow n bodies → slice_get bodies c ≡ Some body → lone_constant body ≡ Some d → d < n
alias_below n bodies c d body below read is = below body (contains_from_get bodies c body read) d (alone_among body d is)

-- ---- the compound ones

pub users_below : (bodies : List Named) (users : List (List ℕ)) → length users ≡ length bodies → IsUserTable bodies users → HasEdgesBelow (length users) users
users_below bodies users sizes given = λ c d edge.
    let alias = given.sound d c edge in
    omega (arith, slice_get_within bodies d alias.0 alias.1)

pub systems_below : (bodies : List Named) (systems : List ℕ) → IsSystemList bodies systems → AreBelow (length bodies) systems
systems_below bodies systems given = λ d among. let by = given.sound d among in slice_get_within bodies d by.0 by.1

reached_by : (bodies : List Named) (users : List (List ℕ)) (systems : List ℕ) → IsUserTable bodies users → IsSystemList bodies systems → (n d : ℕ) → IsCompoundBy bodies n d → IsReached users systems d
reached_by bodies users systems using starts zero d by = (d, starts.complete d by, (0, refl))
reached_by bodies users systems using starts (suc n) d by =
    let way = reached_by bodies users systems using starts n by.1 by.3 in
    (way.0, way.1, (suc (way.2).0, leads_more (EdgeOf users) (way.2).0 way.0 by.1 d (way.2).1 (using.complete d by.1 (NamedConstant by.0 by.1, by.2, refl))))

compound_user : (bodies : List Named) (users : List (List ℕ)) → IsUserTable bodies users → (c d : ℕ) → IsCompoundConstant bodies c → EdgeOf users c d → IsCompoundConstant bodies d
compound_user bodies users using c d holds edge =
    let alias = using.sound d c edge in
    let is = alone_is alias.0 c alias.2 in
    (suc holds.0, (is.0, c, alias.1 ∙ ap Some is.1, holds.1))

pub compounds_reached : (bodies : List Named) (users : List (List ℕ)) (systems : List ℕ) (table : List Bool) → IsUserTable bodies users → IsSystemList bodies systems → IsTableOf (IsReached users systems) table → IsTableOf (IsCompoundConstant bodies) table
compounds_reached bodies users systems table using starts given = record {
  sound = λ d hit.
      let way = given.sound d hit in
      leads_within (EdgeOf users) (IsCompoundConstant bodies) (compound_user bodies users using) (way.2).0 way.0 d (way.2).1 (0, starts.sound way.0 way.1);
  complete = λ d by. given.complete d (reached_by bodies users systems using starts by.0 d by.1);
}
