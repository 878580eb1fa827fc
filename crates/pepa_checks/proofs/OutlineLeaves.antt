-- The leaves of an outline, one expression after another.
use Rattle.std.proofs.Common.{◌≡◌, ℕ, suc, ◌+◌, ◌≤◌, Bool, true, false, cond, not, ◌||◌, if◌then◌else◌, List, [], ◌∷◌, ◌++◌, map, flat_map, length, inl, inr, refl, sym, ap, ◌∙◌, subst, append_assoc, true≢false, arith}
use Rattle.std.specs.List.{list_any}
use Rattle.std.proofs.lemmas.List.{map-append, append-nil, length-append}
use Rattle.std.proofs.lemmas.List.Elements.{filter-append}
use Rattle.pepa_model.specs.Expression.{Expression, Const, LeafShape, ConstShape}
use Rattle.pepa_model.specs.Leaves.{without, each_once, same_expression, followers, components, components_defined, sequential_constants}
use Rattle.pepa_resolver.specs.Named.{Named, NamedConstant, NamedPrefix, NamedChoice, NamedCoop, NamedHide}
use Rattle.pepa_checks.specs.Outline.{is_compound, expression_in, shape_in, definition_in, definitions_in, outline_with}
use Rattle.pepa_checks.specs.Activities.{written_followers, written_components, written_in, written_leaves}
use Rattle.pepa_checks.specs.Candidates.{ConstantLine, sequential_lines}
use Rattle.pepa_checks.specs.LeafTables.{with_expression, with_expressions}
use Rattle.pepa_checks.proofs.ListReads.{true_or_false}
use Rattle.pepa_checks.proofs.LeafSteps.{expression_same, expression_equal}

abbrev Expressions : Type 0
Expressions = List Expression

-- ---- each once

any-without : (x e : Expression) (es : Expressions) → same_expression e x ≡ false → list_any (same_expression e) (without same_expression x es) ≡ list_any (same_expression e) es
any-without x e [] apart = refl
any-without x e (f ∷ es) apart =
    elim (true_or_false (same_expression x f)) [
      | inl s ↦ let same : x ≡ f = expression_same x f s in
          let apart' : same_expression e f ≡ false = subst (λ y. same_expression e y ≡ false) same apart in
          ap (λ (b : Bool). list_any (same_expression e) (cond (not b) (f ∷ without same_expression x es) (without same_expression x es))) s
          ∙ any-without x e es apart
          ∙ sym (ap (λ (b : Bool). b || list_any (same_expression e) es) apart')
      | inr s ↦ ap (λ (b : Bool). list_any (same_expression e) (cond (not b) (f ∷ without same_expression x es) (without same_expression x es))) s
          ∙ ap (λ (b : Bool). same_expression e f || b) (any-without x e es apart)
    ]

pub with_there : (es : Expressions) (e : Expression) → list_any (same_expression e) es ≡ true → with_expression es e ≡ es
with_there es e h = ap (λ (b : Bool). if b then es else (es ++ e ∷ [])) h

pub with_new : (es : Expressions) (e : Expression) → list_any (same_expression e) es ≡ false → with_expression es e ≡ es ++ e ∷ []
with_new es e h = ap (λ (b : Bool). if b then es else (es ++ e ∷ [])) h

without-push : (x e : Expression) (es : Expressions) (b : Bool) → same_expression x e ≡ b → without same_expression x (es ++ e ∷ []) ≡ without same_expression x es ++ (cond (not b) (e ∷ []) [])
without-push x e es b h = filter-append (λ f. not (same_expression x f)) es (e ∷ []) ∙ ap (λ (c : Bool). without same_expression x es ++ cond (not c) (e ∷ []) []) h

turned_apart : (x y : Expression) → same_expression x y ≡ false → same_expression y x ≡ false
turned_apart x y e =
    elim (true_or_false (same_expression y x)) [
      | inl k ↦ absurd (true≢false (sym (expression_equal x y (sym (expression_same y x k))) ∙ e))
      | inr k ↦ k
    ]

without-with : (x e : Expression) (es : Expressions) → x ∷ without same_expression x (with_expression es e) ≡ with_expression (x ∷ without same_expression x es) e
without-with x e es =
    elim (true_or_false (same_expression e x)) [
      | inl s ↦ ap (λ (k : Expressions). x ∷ k) (same s) ∙ sym (with_there (x ∷ without same_expression x es) e (ap (λ (b : Bool). b || list_any (same_expression e) (without same_expression x es)) s))
      | inr s ↦ other s
    ]
  where
    same : same_expression e x ≡ true → without same_expression x (with_expression es e) ≡ without same_expression x es
    same s =
        let back : same_expression x e ≡ true = expression_equal x e (sym (expression_same e x s)) in
        elim (true_or_false (list_any (same_expression e) es)) [
          | inl a ↦ ap (without same_expression x) (with_there es e a)
          | inr a ↦ ap (without same_expression x) (with_new es e a) ∙ without-push x e es true back ∙ append-nil (without same_expression x es)
        ]

    other : same_expression e x ≡ false → x ∷ without same_expression x (with_expression es e) ≡ with_expression (x ∷ without same_expression x es) e
    other s =
        let kept : list_any (same_expression e) (x ∷ without same_expression x es) ≡ list_any (same_expression e) es = ap (λ (b : Bool). b || list_any (same_expression e) (without same_expression x es)) s ∙ any-without x e es s in
        elim (true_or_false (list_any (same_expression e) es)) [
          | inl a ↦ ap (λ (k : Expressions). x ∷ without same_expression x k) (with_there es e a) ∙ sym (with_there (x ∷ without same_expression x es) e (kept ∙ a))
          | inr a ↦ ap (λ (k : Expressions). x ∷ without same_expression x k) (with_new es e a)
              ∙ ap (λ (k : Expressions). x ∷ k) (without-push x e es false (turned_apart e x s))
              ∙ sym (with_new (x ∷ without same_expression x es) e (kept ∙ a))
        ]

each_once-push : (es : Expressions) (e : Expression) → each_once same_expression (es ++ e ∷ []) ≡ with_expression (each_once same_expression es) e
each_once-push [] e = refl
each_once-push (x ∷ es) e =
    ap (λ (k : Expressions). x ∷ without same_expression x k) (each_once-push es e) ∙ without-with x e (each_once same_expression es)

together : (before more : Expressions) → with_expressions (each_once same_expression before) more ≡ each_once same_expression (before ++ more)
together before [] = ap (each_once same_expression) (sym (append-nil before))
together before (e ∷ more) =
    ap (λ (k : Expressions). with_expressions k more) (sym (each_once-push before e))
    ∙ together (before ++ e ∷ []) more
    ∙ ap (each_once same_expression) (append_assoc before (e ∷ []) more)

pub with_expressions-append : (es more others : Expressions) → with_expressions es (more ++ others) ≡ with_expressions (with_expressions es more) others
with_expressions-append es [] others = refl
with_expressions-append es (e ∷ more) others = with_expressions-append (with_expression es e) more others

-- ---- what stays as more come

with_grows : (es : Expressions) (e : Expression) → (more : Expressions) × (with_expression es e ≡ es ++ more)
with_grows es e = elim (true_or_false (list_any (same_expression e) es)) [
  | inl there ↦ ([], with_there es e there ∙ sym (append-nil es))
  | inr new ↦ (e ∷ [], with_new es e new)
]

pub all_grow : (es more : Expressions) → (others : Expressions) × (with_expressions es more ≡ es ++ others)
all_grow es [] = ([], sym (append-nil es))
all_grow es (e ∷ more) =
    let first = with_grows es e in
    let rest = all_grow (with_expression es e) more in
    (first.0 ++ rest.0, rest.1 ∙ ap (λ (k : Expressions). k ++ rest.0) first.1 ∙ append_assoc es first.0 rest.0)

pub length_grows : (es more : Expressions) → length es ≤ length (with_expressions es more)
length_grows es more =
    let grown = all_grow es more in
    omega (arith, ap length grown.1, length-append es grown.0)

pub length_limit : (es more : Expressions) → length (with_expressions es more) ≤ length es + length more
length_limit es [] = omega arith
length_limit es (e ∷ more) =
    let rest = length_limit (with_expression es e) more in
    let one : length (with_expression es e) ≤ length es + 1 = elim (true_or_false (list_any (same_expression e) es)) [
      | inl there ↦ omega (arith, ap length (with_there es e there))
      | inr new ↦ omega (arith, ap length (with_new es e new), length-append es (e ∷ []))
    ] in
    omega (arith, rest, one)

any_append : (test : Expression → Bool) (es more : Expressions) → list_any test es ≡ true → list_any test (es ++ more) ≡ true
any_append test [] more h = absurd (true≢false (sym h))
any_append test (e ∷ es) more h = by (test e) (list_any test es) (list_any test (es ++ more)) h (any_append test es more)
  where
    by : (b c d : Bool) → (b || c) ≡ true → (c ≡ true → d ≡ true) → (b || d) ≡ true
    by true c d h k = refl
    by false c d h k = k h

any_last : (es : Expressions) (e : Expression) → list_any (same_expression e) (es ++ e ∷ []) ≡ true
any_last [] e = ap (λ b. b || false) (expression_equal e e refl)
any_last (f ∷ es) e = by (same_expression e f) (list_any (same_expression e) (es ++ e ∷ [])) (any_last es e)
  where
    by : (b c : Bool) → c ≡ true → (b || c) ≡ true
    by true c h = refl
    by false c h = h

any_with : (es : Expressions) (e : Expression) → list_any (same_expression e) (with_expression es e) ≡ true
any_with es e = elim (true_or_false (list_any (same_expression e) es)) [
  | inl there ↦ subst (λ k. list_any (same_expression e) k ≡ true) (sym (with_there es e there)) there
  | inr new ↦ subst (λ k. list_any (same_expression e) k ≡ true) (sym (with_new es e new)) (any_last es e)
]

-- what was put among the others is there
pub any_listed : (es before : Expressions) (e : Expression) (behind : Expressions) → list_any (same_expression e) (with_expressions es (before ++ e ∷ behind)) ≡ true
any_listed es before e behind =
    let start = with_expressions es before in
    let grown = all_grow (with_expression start e) behind in
    subst (λ k. list_any (same_expression e) k ≡ true) (sym (with_expressions-append es before (e ∷ behind) ∙ grown.1)) (any_append (same_expression e) (with_expression start e) grown.0 (any_with start e))

-- ---- the expressions of a file's leaves

abbrev pub line_const : ConstantLine → Expression
line_const line = Const line.constant

-- the sequential constants, and then the expressions of the processes
abbrev pub listed : List Bool → List Named → List Named → Expressions
listed compounds bodies written = map line_const (sequential_lines 0 compounds bodies) ++ map expression_in written

followers_same : (process : Named) → followers (expression_in process) ≡ map expression_in (written_followers process)
followers_same (NamedConstant at c) = refl
followers_same (NamedPrefix at action rate next) = ap (λ (k : Expressions). expression_in next ∷ k) (followers_same next)
followers_same (NamedChoice left right) =
    (λ i. followers_same left i ++ followers_same right i) ∙ sym (map-append expression_in (written_followers left) (written_followers right))
followers_same (NamedCoop left right set) = refl
followers_same (NamedHide inner set) = refl

constant_components : (b : Bool) (at c : ℕ) → components (if b then ConstShape c else LeafShape (Const c)) ≡ map expression_in (if b then [] else NamedConstant at c ∷ [])
constant_components true at c = refl
constant_components false at c = refl

module _ (compounds : List Bool) (sets : List (List ℕ)) where
  components_same : (process : Named) → components (shape_in compounds sets process) ≡ map expression_in (written_components compounds process)
  components_same (NamedConstant at c) = constant_components (is_compound compounds c) at c
  components_same (NamedPrefix at action rate next) = ap (λ (k : Expressions). expression_in (NamedPrefix at action rate next) ∷ k) (followers_same (NamedPrefix at action rate next))
  components_same (NamedChoice left right) = ap (λ (k : Expressions). expression_in (NamedChoice left right) ∷ k) (followers_same (NamedChoice left right))
  components_same (NamedCoop left right set) =
      (λ i. components_same left i ++ components_same right i) ∙ sym (map-append expression_in (written_components compounds left) (written_components compounds right))
  components_same (NamedHide inner set) = components_same inner

  constants_same : (k : ℕ) (flags : List Bool) (bodies : List Named) → sequential_constants k (definitions_in compounds sets flags bodies) ≡ map line_const (sequential_lines k flags bodies)
  constants_same k [] bodies = refl
  constants_same k (flag ∷ flags) [] = refl
  constants_same k (true ∷ flags) (body ∷ bodies) = constants_same (suc k) flags bodies
  constants_same k (false ∷ flags) (body ∷ bodies) = ap (λ (es : Expressions). Const k ∷ es) (constants_same (suc k) flags bodies)

  defined_same : (flag : Bool) (body : Named) → components_defined (definition_in compounds sets flag body) ≡ map expression_in (if flag then written_components compounds body else written_followers body)
  defined_same true body = components_same body
  defined_same false body = followers_same body

  written_same : (flags : List Bool) (bodies : List Named) → flat_map components_defined (definitions_in compounds sets flags bodies) ≡ map expression_in (written_in compounds flags bodies)
  written_same [] bodies = refl
  written_same (flag ∷ flags) [] = refl
  written_same (flag ∷ flags) (body ∷ bodies) =
      (λ i. defined_same flag body i ++ written_same flags bodies i) ∙ sym (map-append expression_in (if flag then written_components compounds body else written_followers body) (written_in compounds flags bodies))

  pub leaves_are : (bodies : List Named) (system : Named) → (outline_with sets compounds bodies system).leaves ≡ with_expressions [] (listed compounds bodies (written_leaves compounds bodies system))
  leaves_are bodies system =
      ap (each_once same_expression)
      ((λ i. constants_same 0 compounds bodies i ++ (written_same compounds bodies i ++ components_same system i))
      ∙ ap (λ (k : Expressions). map line_const (sequential_lines 0 compounds bodies) ++ k) (sym (map-append expression_in (written_in compounds compounds bodies) (written_components compounds system))))
      ∙ sym (together [] (listed compounds bodies (written_leaves compounds bodies system)))
