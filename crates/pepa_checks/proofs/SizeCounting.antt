-- How large the compound constants are, as one after another is counted.
use Rattle.std.proofs.Common.{◌≡◌, ℕ, zero, suc, ◌+◌, ◌<◌, ◌≤◌, inl, inr, Bool, true, false, List, [], ◌∷◌, ◌++◌, length, get_or, set, take, drop, Some, refl, sym, ◌∙◌, ap, subst, arith, get_or-set_same, get_or-set_other, take-append-drop, option_map}
use lib.Dec.{ltb}
use Rattle.std.specs.Prelude.{◌↔◌, IsTrue, slice_get, if◌then◌else◌}
use Rattle.std.specs.List.{Contains}
use Rattle.std.proofs.lemmas.Bool.{cases_eq, false≢true, ltb-true, lt-ltb}
use Rattle.std.proofs.lemmas.List.{take_all, take_more, drop_more}
use Rattle.std.proofs.lemmas.List.Elements.{Contains-append_left, Contains-append_right, Contains-push, Contains-push_cases, Contains-get_or}
use Rattle.std.proofs.lemmas.Option.{slice_get-get_or, slice_get-map, slice_get_read, same_Some, get_or_from_slice_get}
use Rattle.pepa_model.specs.Expression.{Expression, Const, Shape, LeafShape, ConstShape, CoopShape, HideShape, Definition, Compoundly, IsCompound}
use Rattle.pepa_model.specs.Expanded.{Expanded, LeafTree, ConstTree, CoopTree, HideTree, Expands}
use Rattle.pepa_resolver.specs.Named.{Named, NamedConstant, NamedCoop, NamedHide, constants_named}
use Rattle.pepa_resolver.specs.declared.named.NamedProcess.{NamedProcess}
use Rattle.pepa_resolver.specs.NamedTypes.{named_of, bodies_of}
use Rattle.node_orders.specs.Graphs.{IsOrder, IsTableOf, AreBelow}
use Rattle.pepa_checks.specs.Structure.{CompoundEdge}
use Rattle.pepa_checks.specs.Structure as structure
use Rattle.pepa_checks.specs.declared.system_size.Measure.{Measure}
use Rattle.pepa_checks.specs.declared.system_size.Measure.TheVariants.{Leaves, Nodes}
use Rattle.pepa_checks.specs.Outline.{is_compound, shape_in, definition_in, definitions_in}
use Rattle.pepa_checks.specs.SystemSizes.{measured, own_count, most_of, capped_count, CountsSize, HasCounts, IsCountIn}

-- ---- definitions

pub record DefinedBy (compounds : List Bool) (sets : List (List ℕ)) (flags : List Bool) (bodies : List Named) (c : ℕ) (definition : Definition) : Type 0 where
  pub flag : Bool
  pub body : Named
  pub flag_is : slice_get flags c ≡ Some flag
  pub body_is : slice_get bodies c ≡ Some body
  pub definition_is : definition ≡ definition_in compounds sets flag body

module _ (compounds : List Bool) (sets : List (List ℕ)) where
  pub defined_by : (flags : List Bool) (bodies : List Named) (c : ℕ) (definition : Definition) → slice_get (definitions_in compounds sets flags bodies) c ≡ Some definition → DefinedBy compounds sets flags bodies c definition
  defined_by [] bodies c definition is = absurd cc
  defined_by (flag ∷ flags) [] c definition is = absurd cc
  defined_by (flag ∷ flags) (body ∷ bodies) zero definition is = record { flag = flag; body = body; flag_is = refl; body_is = refl; definition_is = cc }
  defined_by (flag ∷ flags) (body ∷ bodies) (suc c) definition is =
      let rest = defined_by flags bodies c definition is in
      record { flag = rest.flag; body = rest.body; flag_is = rest.flag_is; body_is = rest.body_is; definition_is = rest.definition_is }

  -- a compound definition
  compound_definition : (flag : Bool) (body : Named) (shape : Shape) → Compoundly shape ≡ definition_in compounds sets flag body → (flag ≡ true) × (shape ≡ shape_in compounds sets body)
  compound_definition true body shape is = (refl, cc)
  compound_definition false body shape is = absurd cc

-- ---- the trees of one shape

-- a cooperation has what its sides have and its own, and a hiding what it hides has and its own
coop_measured : (measure : Measure) (p q : Expanded) (set : ℕ) → measured measure (CoopTree p q set) ≡ (measured measure p + measured measure q) + own_count measure
coop_measured Leaves p q set = omega arith
coop_measured Nodes p q set = refl

hide_measured : (measure : Measure) (p : Expanded) (set : ℕ) → measured measure (HideTree p set) ≡ (measured measure p + 0) + own_count measure
hide_measured Leaves p set = omega arith
hide_measured Nodes p set = omega arith

one_leaf : (measure : Measure) (e : Expression) → 1 ≡ capped_count measure (measured measure (LeafTree e))
one_leaf Leaves e = refl
one_leaf Nodes e = refl

none_capped : (measure : Measure) → 0 ≡ capped_count measure 0
none_capped Leaves = refl
none_capped Nodes = refl

const_measured : (measure : Measure) (c : ℕ) (p : Expanded) → measured measure (ConstTree c p) ≡ measured measure p
const_measured Leaves c p = refl
const_measured Nodes c p = refl

module _ (measure : Measure) (definitions : List Definition) where
  const_counts : (c : ℕ) (n : ℕ) → ((body : Shape) → IsCompound definitions c body → CountsSize measure definitions body n) → CountsSize measure definitions (ConstShape c) n
  const_counts c n counts (LeafTree e) is = absurd cc
  const_counts c n counts (ConstTree d p) (is, (body, compound, expands)) =
      let same : c ≡ d = cc in
      counts body (subst (λ x. IsCompound definitions x body) (sym same) compound) p expands ∙ ap (capped_count measure) (sym (const_measured measure d p))
  const_counts c n counts (CoopTree p q members) (x, y, is, first, second) = absurd cc
  const_counts c n counts (HideTree p members) (x, is, rest) = absurd cc

  leaf_counts : (e : Expression) → CountsSize measure definitions (LeafShape e) 1
  leaf_counts e (LeafTree d) is = one_leaf measure d
  leaf_counts e (ConstTree d p) (is, rest) = absurd cc
  leaf_counts e (CoopTree p q members) (x, y, is, first, second) = absurd cc
  leaf_counts e (HideTree p members) (x, is, rest) = absurd cc

  coop_counts : (x y : Shape) (set a b r : ℕ) → ((m n : ℕ) → a ≡ capped_count measure m → b ≡ capped_count measure n → r ≡ capped_count measure ((m + n) + own_count measure)) → CountsSize measure definitions x a → CountsSize measure definitions y b → CountsSize measure definitions (CoopShape x y set) r
  coop_counts x y set a b r joined left right (LeafTree e) is = absurd cc
  coop_counts x y set a b r joined left right (ConstTree d p) (is, rest) = absurd cc
  coop_counts x y set a b r joined left right (CoopTree p q s) (v, w, is, first, second) =
      let same : x ≡ v = cc in
      let also : y ≡ w = cc in
      joined (measured measure p) (measured measure q) (left p (subst (λ z. Expands definitions z p) (sym same) first)) (right q (subst (λ z. Expands definitions z q) (sym also) second))
      ∙ ap (capped_count measure) (sym (coop_measured measure p q s))
  coop_counts x y set a b r joined left right (HideTree p s) (v, is, rest) = absurd cc

  hide_counts : (x : Shape) (set n r : ℕ) → ((m k : ℕ) → n ≡ capped_count measure m → 0 ≡ capped_count measure k → r ≡ capped_count measure ((m + k) + own_count measure)) → CountsSize measure definitions x n → CountsSize measure definitions (HideShape x set) r
  hide_counts x set n r joined counts (LeafTree e) is = absurd cc
  hide_counts x set n r joined counts (ConstTree d p) (is, rest) = absurd cc
  hide_counts x set n r joined counts (CoopTree p q s) (v, w, is, first, second) = absurd cc
  hide_counts x set n r joined counts (HideTree p s) (v, is, inner) =
      let same : x ≡ v = cc in
      joined (measured measure p) 0 (counts p (subst (λ z. Expands definitions z p) (sym same) inner)) (none_capped measure) ∙ ap (capped_count measure) (sym (hide_measured measure p s))

-- ---- the processes

pub contains_one : (c : ℕ) → Contains (c ∷ []) c
contains_one c = Contains-push [] c

constant_shape : (measure : Measure) (definitions : List Definition) (c n : ℕ) (flag : Bool)
    → (flag ≡ true → CountsSize measure definitions (ConstShape c) n) → (flag ≡ false → CountsSize measure definitions (LeafShape (Const c)) n)
    → CountsSize measure definitions (if flag then ConstShape c else LeafShape (Const c)) n
constant_shape measure definitions c n flag first second = go flag first second
  where
    go : (b : Bool) → (b ≡ true → CountsSize measure definitions (ConstShape c) n) → (b ≡ false → CountsSize measure definitions (LeafShape (Const c)) n)
        → CountsSize measure definitions (if b then ConstShape c else LeafShape (Const c)) n
    go true first second = first refl
    go false first second = second refl

module _ (measure : Measure) (compounds : List Bool) (counts : List ℕ) where
  pub counted_as : (p q : Named) (n : ℕ) → p ≡ q → IsCountIn measure compounds counts (constants_named q) q n → IsCountIn measure compounds counts (constants_named p) p n
  counted_as p q n same counted = subst (λ (x : Named). IsCountIn measure compounds counts (constants_named x) x n) (sym same) counted

  pub count_compound : (at c : ℕ) → is_compound compounds c ≡ true → IsCountIn measure compounds counts (c ∷ []) (NamedConstant at c) (get_or counts c 0)
  count_compound at c is sets bodies has =
      let definitions = definitions_in compounds sets compounds bodies in
      constant_shape measure definitions c (get_or counts c 0) (is_compound compounds c)
      (λ is_so. const_counts measure definitions c (get_or counts c 0) (λ body compound. has c body (contains_one c) compound))
      (λ is_not. absurd (false≢true (sym is_not ∙ is)))

  pub count_sequential : (at c : ℕ) → is_compound compounds c ≡ false → IsCountIn measure compounds counts (c ∷ []) (NamedConstant at c) 1
  count_sequential at c is sets bodies has =
      let definitions = definitions_in compounds sets compounds bodies in
      constant_shape measure definitions c 1 (is_compound compounds c)
      (λ is_so. absurd (false≢true (sym is ∙ is_so)))
      (λ is_not. leaf_counts measure definitions (Const c))

  pub count_leaf : (constants : List ℕ) (process : Named) (e : Expression) → ((sets : List (List ℕ)) → shape_in compounds sets process ≡ LeafShape e) → IsCountIn measure compounds counts constants process 1
  count_leaf constants process e is sets bodies has =
      let definitions = definitions_in compounds sets compounds bodies in
      subst (λ shape. CountsSize measure definitions shape 1) (sym (is sets)) (leaf_counts measure definitions e)

  pub count_coop : (left right : Named) (set : List ℕ) (a b r : ℕ) → ((m n : ℕ) → a ≡ capped_count measure m → b ≡ capped_count measure n → r ≡ capped_count measure ((m + n) + own_count measure))
      → IsCountIn measure compounds counts (constants_named left) left a → IsCountIn measure compounds counts (constants_named right) right b
      → IsCountIn measure compounds counts (constants_named (NamedCoop left right set)) (NamedCoop left right set) r
  count_coop left right set a b r joined first second sets bodies has =
      let definitions = definitions_in compounds sets compounds bodies in
      coop_counts measure definitions (shape_in compounds sets left) (shape_in compounds sets right) _ a b r joined
      (first sets bodies (λ c shape among compound. has c shape (Contains-append_left (constants_named left) (constants_named right) c among) compound))
      (second sets bodies (λ c shape among compound. has c shape (Contains-append_right (constants_named left) (constants_named right) c among) compound))

  pub count_hide : (inner : Named) (set : List ℕ) (n r : ℕ) → ((m k : ℕ) → n ≡ capped_count measure m → 0 ≡ capped_count measure k → r ≡ capped_count measure ((m + k) + own_count measure))
      → IsCountIn measure compounds counts (constants_named inner) inner n → IsCountIn measure compounds counts (constants_named inner) (NamedHide inner set) r
  count_hide inner set n r joined inside sets bodies has =
      hide_counts measure (definitions_in compounds sets compounds bodies) (shape_in compounds sets inner) _ n r joined (inside sets bodies has)

-- ---- one constant after another

module _ (measure : Measure) (compounds : List Bool) (bodies : List Named) (sets : List (List ℕ)) where
  abbrev defined : List Definition
  defined = definitions_in compounds sets compounds bodies

  pub none_counted : (counts : List ℕ) → HasCounts measure defined counts []
  none_counted counts c shape among = absurd (omega (arith, among.1))

  -- the constants in the body of one that stands in the order are counted in front of it
  pub body_counted : (count : ℕ) (order counts : List ℕ) (k at : ℕ) (body : Named) → IsTableOf (structure.IsCompoundConstant bodies) compounds → IsOrder (CompoundEdge bodies) count order
      → k < length order → at ≡ get_or order k 0 → get_or compounds at false ≡ true → at < length compounds → slice_get bodies at ≡ Some body
      → HasCounts measure defined counts (take k order) → HasCounts measure defined counts (constants_named body)
  body_counted count order counts k at body table in_order low at_is marked within body_is so_far c shape among compound =
      let split : order ≡ take k order ++ at ∷ drop (k + 1) order =
      sym (take-append-drop k order) ∙ (ap (λ xs. take k order ++ xs) (drop_more order k 0 low) ∙ ap (λ x. take k order ++ x ∷ drop (k + 1) order) (sym at_is)) in
      let is_compound = table.sound at (slice_get-get_or compounds at false within ∙ ap Some marked) in
      so_far c shape (in_order.behind (take k order) (drop (k + 1) order) at c split (is_compound, (body, body_is, among))) compound

  -- a compound constant more
  pub counted_more : (order counts : List ℕ) (k at n : ℕ) (body : Named) → k < length order → at ≡ get_or order k 0 → at < length counts → slice_get bodies at ≡ Some body
      → CountsSize measure defined (shape_in compounds sets body) n → HasCounts measure defined counts (take k order) → HasCounts measure defined (set counts at n) (take (k + 1) order)
  counted_more order counts k at n body low at_is within body_is here so_far c shape among compound = elim (cases_eq c at) [
    | inl same ↦
        let by = defined_by compounds sets compounds bodies c (Compoundly shape) compound in
        let shape_is = (compound_definition compounds sets by.flag by.body shape by.definition_is).1 in
        let body_same : by.body ≡ body = same_Some by.body body (sym by.body_is ∙ (ap (slice_get bodies) same ∙ body_is)) in
        let count_is : n ≡ get_or (set counts at n) c 0 = sym (ap (λ x. get_or (set counts at n) x 0) same ∙ get_or-set_same counts at n 0 within) in
        let shape_same : shape_in compounds sets body ≡ shape = sym (shape_is ∙ ap (shape_in compounds sets) body_same) in
        subst (CountsSize measure defined shape) count_is (subst (λ s. CountsSize measure defined s n) shape_same here)
    | inr apart ↦
        let e = get_or-set_other counts at c n 0 apart in
        subst (CountsSize measure defined shape) (sym e) (so_far c shape (before order k at c low at_is apart among) compound)
  ]
    where
      before : (order : List ℕ) (k at c : ℕ) → k < length order → at ≡ get_or order k 0 → (c ≡ at → ⊥) → Contains (take (k + 1) order) c → Contains (take k order) c
      before order k at c low at_is apart among = elim (Contains-push_cases (take k order) (get_or order k 0) c (subst (λ xs. Contains xs c) (take_more order k 0 low) among)) [
        | inl there ↦ there
        | inr here ↦ absurd (apart (sym here ∙ sym at_is))
      ]

  -- a sequential constant more
  pub counted_skip : (order counts : List ℕ) (k at : ℕ) → k < length order → at ≡ get_or order k 0 → get_or compounds at false ≡ false
      → HasCounts measure defined counts (take k order) → HasCounts measure defined counts (take (k + 1) order)
  counted_skip order counts k at low at_is unmarked so_far c shape among compound =
      elim (Contains-push_cases (take k order) (get_or order k 0) c (subst (λ xs. Contains xs c) (take_more order k 0 low) among)) [
        | inl there ↦ so_far c shape there compound
        | inr here ↦
            let by = defined_by compounds sets compounds bodies c (Compoundly shape) compound in
            let flag_is = (compound_definition compounds sets by.flag by.body shape by.definition_is).0 in
            let read : get_or compounds c false ≡ true = get_or_from_slice_get compounds c by.flag false by.flag_is ∙ flag_is in
            absurd (false≢true (sym unmarked ∙ (ap (λ x. get_or compounds x false) (at_is ∙ here) ∙ read)))
      ]

  -- all of them
  pub all_counted : (count : ℕ) (order counts : List ℕ) (k : ℕ) (constants : List ℕ) → IsOrder (CompoundEdge bodies) count order → AreBelow count constants
      → length order ≤ k → HasCounts measure defined counts (take k order) → HasCounts measure defined counts constants
  all_counted count order counts k constants in_order below whole so_far c shape among compound =
      so_far c shape (subst (λ xs. Contains xs c) (sym (take_all k order whole)) (in_order.each c (below c among))) compound

pub below_at : (n : ℕ) (numbers : List ℕ) (k : ℕ) → AreBelow n numbers → k < length numbers → get_or numbers k 0 < n
below_at n numbers k below low = below (get_or numbers k 0) (Contains-get_or numbers k 0 low)

pub body_at : (bodies : List NamedProcess) (at : ℕ) (body : NamedProcess) → at < length bodies → body ≡ get_or bodies at body → slice_get (bodies_of bodies) at ≡ Some (named_of body)
body_at bodies at body low is = slice_get-map named_of bodies at ∙ ap (option_map named_of) (slice_get_read bodies (length bodies) at body refl low is)

-- whether the kept count is above the most
pub is_many : (measure : Measure) (size count : ℕ) → count ≡ capped_count measure size → IsTrue (ltb (most_of measure) count) ↔ (most_of measure < size)
is_many measure size count is = (
  (λ many. let low = ltb-true (most_of measure) count many in omega arith),
  (λ many. lt-ltb (most_of measure) count (omega arith)),
)
