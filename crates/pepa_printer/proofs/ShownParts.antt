-- The parts and the constants of processes that are parts of a model: what has to be sequential opens, and along unguarded
-- constants and along those in systems the trees get lower.
use Rattle.std.proofs.Common.{◌≡◌, ℕ, ◌+◌, ◌<◌, max, ◌⊎◌, inl, inr, List, ◌∷◌, ◌++◌, Some, slice_get, refl, sym, ap, ◌∙◌, subst, arith}
use Rattle.std.specs.List.{Contains}
use Rattle.std.proofs.lemmas.List.Elements.{Contains-append_left, Contains-append_right, Contains-append_cases}
use Rattle.pepa_model.specs.Expression.{Expression, Const, Prefixed, Chosen, Shape, LeafShape, ConstShape, CoopShape, HideShape, Definition, Compoundly, Defines}
use Rattle.pepa_model.specs.Opened.{Opened, Opens, height}
use Rattle.pepa_model.specs.Expanded.{Expanded, LeafTree, ConstTree, CoopTree, HideTree, Expands, height_of}
use Rattle.pepa_model.specs.Leaves.{followers, components}
use Rattle.pepa_model.specs.PepaModel.{PepaModel}
use Rattle.pepa_resolver.specs.Named.{Named, NamedConstant, NamedPrefix, NamedChoice, NamedCoop, NamedHide, constants_named, unguarded, sequential_parts}
use Rattle.node_orders.proofs.Elements.{no_element, one_element, contains_here, contains_there, contains_cases}
use Rattle.pepa_printer.proofs.Shown.{Shows, ShowsShape}
use Rattle.pepa_printer.proofs.OpenedLeaves.{HasOpening, OpensConstant, opens_constant, opens_choice}

-- ---- parts

-- the process is an expression that opens
pub record IsOpenPart (definitions : List Definition) (part : Named) : Type 0 where
  pub e : Expression
  pub opening : HasOpening definitions e
  pub shows : Shows e part

abbrev pub EachOpens : List Definition → List Expression → Type 0
EachOpens definitions es = (f : Expression) → Contains es f → HasOpening definitions f

each_left : (definitions : List Definition) (xs ys : List Expression) → EachOpens definitions (xs ++ ys) → EachOpens definitions xs
each_left definitions xs ys each f among = each f (Contains-append_left xs ys f among)

each_right : (definitions : List Definition) (xs ys : List Expression) → EachOpens definitions (xs ++ ys) → EachOpens definitions ys
each_right definitions xs ys each f among = each f (Contains-append_right xs ys f among)

each_first : (definitions : List Definition) (x : Expression) (xs : List Expression) → EachOpens definitions (x ∷ xs) → HasOpening definitions x
each_first definitions x xs each = each x (contains_here x xs)

each_next : (definitions : List Definition) (x : Expression) (xs : List Expression) → EachOpens definitions (x ∷ xs) → EachOpens definitions xs
each_next definitions x xs each f among = each f (contains_there x xs f among)

left_opens : (definitions : List Definition) (x y : Expression) → HasOpening definitions (Chosen x y) → HasOpening definitions x
left_opens definitions x y (o, opens) = let k = opens_choice definitions x y o opens in (k.left, k.opens_left)

right_opens : (definitions : List Definition) (x y : Expression) → HasOpening definitions (Chosen x y) → HasOpening definitions y
right_opens definitions x y (o, opens) = let k = opens_choice definitions x y o opens in (k.right, k.opens_right)

-- a part is the first one, or one of the others
first_part : (definitions : List Definition) (e : Expression) (node : Named) (rest : List Named) (part : Named) → HasOpening definitions e → Shows e node → Contains (node ∷ rest) part
    → (Contains rest part → IsOpenPart definitions part) → IsOpenPart definitions part
first_part definitions e node rest part opening shows among others =
    elim (contains_cases node rest part among) [
      | inl is ↦ subst (IsOpenPart definitions) is (record { e = e; opening = opening; shows = shows })
      | inr there ↦ others there
    ]

module _ (definitions : List Definition) where
  -- what has to be sequential in an expression that opens, and so do its followers
  pub expression_parts : (e : Expression) (node : Named) → Shows e node → HasOpening definitions e → EachOpens definitions (followers e) → (part : Named)
      → Contains (sequential_parts node) part → IsOpenPart definitions part
  expression_parts (Const c) (NamedConstant at d) h opening each part among = absurd (no_element part among)
  expression_parts (Prefixed a r next) (NamedPrefix at b s node) h opening each part among =
      let here = each_first definitions next (followers next) each in
      first_part definitions next node (sequential_parts node) part here h.2 among
      (λ there. expression_parts next node h.2 here (each_next definitions next (followers next) each) part there)
  expression_parts (Chosen x y) (NamedChoice left right) h opening each part among =
      let ls = sequential_parts left in
      let rs = sequential_parts right in
      let open_x = left_opens definitions x y opening in
      let open_y = right_opens definitions x y opening in
      first_part definitions x left (right ∷ (ls ++ rs)) part open_x h.0 among (λ behind.
      first_part definitions y right (ls ++ rs) part open_y h.1 behind (λ inside.
      elim (Contains-append_cases ls rs part inside) [
        | inl there ↦ expression_parts x left h.0 open_x (each_left definitions (followers x) (followers y) each) part there
        | inr there ↦ expression_parts y right h.1 open_y (each_right definitions (followers x) (followers y) each) part there
      ]))
  expression_parts e node h opening each part among = absurd h

  -- what has to be sequential in a system whose components open
  pub shape_parts : (m : PepaModel) (shape : Shape) (node : Named) → ShowsShape m shape node → EachOpens definitions (components shape) → (part : Named)
      → Contains (sequential_parts node) part → IsOpenPart definitions part
  shape_parts m (LeafShape e) node h each part among =
      expression_parts e node h (each_first definitions e (followers e) each) (each_next definitions e (followers e) each) part among
  shape_parts m (ConstShape c) (NamedConstant at d) h each part among = absurd (no_element part among)
  shape_parts m (CoopShape x y k) (NamedCoop left right set) h each part among =
      elim (Contains-append_cases (sequential_parts left) (sequential_parts right) part among) [
        | inl there ↦ shape_parts m x left h.0 (each_left definitions (components x) (components y) each) part there
        | inr there ↦ shape_parts m y right h.1 (each_right definitions (components x) (components y) each) part there
      ]
  shape_parts m (HideShape x k) (NamedHide inner set) h each part among = shape_parts m x inner h.0 each part among
  shape_parts m shape node h each part among = absurd h

  -- ---- constants

  -- each constant in an expression opens
  expression_constants : (e : Expression) (node : Named) → Shows e node → HasOpening definitions e → EachOpens definitions (followers e) → (d : ℕ) → Contains (constants_named node) d
      → HasOpening definitions (Const d)
  expression_constants (Const c) (NamedConstant at k) h opening each d among =
      let same : c ≡ d = sym h ∙ one_element k d among in
      subst (λ (n : ℕ). HasOpening definitions (Const n)) same opening
  expression_constants (Prefixed a r next) (NamedPrefix at b s node) h opening each d among =
      expression_constants next node h.2 (each_first definitions next (followers next) each) (each_next definitions next (followers next) each) d among
  expression_constants (Chosen x y) (NamedChoice left right) h opening each d among =
      elim (Contains-append_cases (constants_named left) (constants_named right) d among) [
        | inl there ↦ expression_constants x left h.0 (left_opens definitions x y opening) (each_left definitions (followers x) (followers y) each) d there
        | inr there ↦ expression_constants y right h.1 (right_opens definitions x y opening) (each_right definitions (followers x) (followers y) each) d there
      ]
  expression_constants e node h opening each d among = absurd h

  -- a constant stands for a system that expands into a tree below this height
  pub record IsLowerSystem (d below : ℕ) : Type 0 where
    pub shape : Shape
    pub at : slice_get definitions d ≡ Some (Compoundly shape)
    pub tree : Expanded
    pub expands : Expands definitions shape tree
    pub lower : height_of tree < below

  lower_system : (d n k : ℕ) → n < k → HasOpening definitions (Const d) ⊎ IsLowerSystem d n → HasOpening definitions (Const d) ⊎ IsLowerSystem d k
  lower_system d n k lt (inl h) = inl h
  lower_system d n k lt (inr s) = inr (record { shape = s.shape; at = s.at; tree = s.tree; expands = s.expands; lower = let low = s.lower in omega arith })

  const_expands : (c : ℕ) (shape : Shape) (tree : Expanded) → Expands definitions shape tree → shape ≡ ConstShape c → IsLowerSystem c (height_of tree)
  const_expands c shape (LeafTree e) h is = absurd cc
  const_expands c shape (ConstTree d p) (shape_is, (body, body_at, inner)) is =
      let same : d ≡ c = cc in
      record {
        shape = body;
        at = subst (λ (n : ℕ). slice_get definitions n ≡ Some (Compoundly body)) same body_at;
        tree = p;
        expands = inner;
        lower = omega arith;
      }
  const_expands c shape (CoopTree p q k) (x, y, shape_is, left, right) is = absurd cc
  const_expands c shape (HideTree p k) (x, shape_is, inner) is = absurd cc

  record IsPairOf (x y : Shape) (tree : Expanded) : Type 0 where
    first : Expanded
    second : Expanded
    expands_first : Expands definitions x first
    expands_second : Expands definitions y second
    first_lower : height_of first < height_of tree
    second_lower : height_of second < height_of tree

  coop_expands : (x y : Shape) (k : ℕ) (shape : Shape) (tree : Expanded) → Expands definitions shape tree → shape ≡ CoopShape x y k → IsPairOf x y tree
  coop_expands x y k shape (LeafTree e) h is = absurd cc
  coop_expands x y k shape (ConstTree d p) (shape_is, h) is = absurd cc
  coop_expands x y k shape (CoopTree p q n) (v, w, shape_is, left, right) is =
      let same_x : v ≡ x = cc in
      let same_y : w ≡ y = cc in
      record {
        first = p;
        second = q;
        expands_first = subst (λ (s : Shape). Expands definitions s p) same_x left;
        expands_second = subst (λ (s : Shape). Expands definitions s q) same_y right;
        first_lower = omega arith;
        second_lower = omega arith;
      }
  coop_expands x y k shape (HideTree p n) (v, shape_is, inner) is = absurd cc

  hide_expands : (x : Shape) (k : ℕ) (shape : Shape) (tree : Expanded) → Expands definitions shape tree → shape ≡ HideShape x k
      → (p : Expanded) × Expands definitions x p × (height_of p < height_of tree)
  hide_expands x k shape (LeafTree e) h is = absurd cc
  hide_expands x k shape (ConstTree d p) (shape_is, h) is = absurd cc
  hide_expands x k shape (CoopTree p q n) (v, w, shape_is, left, right) is = absurd cc
  hide_expands x k shape (HideTree p n) (v, shape_is, inner) is =
      let same : v ≡ x = cc in
      (p, subst (λ (s : Shape). Expands definitions s p) same inner, omega arith)

  -- each constant in a system opens, or stands for a system with a lower tree
  pub shape_constants : (m : PepaModel) (shape : Shape) (node : Named) → ShowsShape m shape node → EachOpens definitions (components shape) → (tree : Expanded)
      → Expands definitions shape tree → (d : ℕ) → Contains (constants_named node) d → HasOpening definitions (Const d) ⊎ IsLowerSystem d (height_of tree)
  shape_constants m (LeafShape e) node h each tree expands d among =
      inl (expression_constants e node h (each_first definitions e (followers e) each) (each_next definitions e (followers e) each) d among)
  shape_constants m (ConstShape c) (NamedConstant at k) h each tree expands d among =
      let same : c ≡ d = sym h ∙ one_element k d among in
      inr (subst (λ (n : ℕ). IsLowerSystem n (height_of tree)) same (const_expands c (ConstShape c) tree expands refl))
  shape_constants m (CoopShape x y k) (NamedCoop left right set) h each tree expands d among =
      let pair = coop_expands x y k (CoopShape x y k) tree expands refl in
      elim (Contains-append_cases (constants_named left) (constants_named right) d among) [
        | inl there ↦ lower_system d (height_of pair.first) (height_of tree) pair.first_lower
            (shape_constants m x left h.0 (each_left definitions (components x) (components y) each) pair.first pair.expands_first d there)
        | inr there ↦ lower_system d (height_of pair.second) (height_of tree) pair.second_lower
            (shape_constants m y right h.1 (each_right definitions (components x) (components y) each) pair.second pair.expands_second d there)
      ]
  shape_constants m (HideShape x k) (NamedHide inner set) h each tree expands d among =
      let (p, expands_p, lower) = hide_expands x k (HideShape x k) tree expands refl in
      lower_system d (height_of p) (height_of tree) lower (shape_constants m x inner h.0 each p expands_p d among)
  shape_constants m shape node h each tree expands d among = absurd h

  -- ---- unguarded constants

  -- a constant stands for an expression that opens into a tree below this height
  pub record IsLowerExpression (d below : ℕ) : Type 0 where
    pub body : Expression
    pub defines : Defines definitions d body
    pub tree : Opened
    pub opens : Opens definitions body tree
    pub lower : height tree < below

  lower_expression : (d n k : ℕ) → n < k → IsLowerExpression d n → IsLowerExpression d k
  lower_expression d n k lt s = record { body = s.body; defines = s.defines; tree = s.tree; opens = s.opens; lower = let low = s.lower in omega arith }

  constant_lower : (c : ℕ) (tree : Opened) → OpensConstant definitions c tree → IsLowerExpression c (height tree)
  constant_lower c tree k = record {
    body = k.body;
    defines = k.defines;
    tree = k.inner;
    opens = k.opens;
    lower = let whole : height tree ≡ height k.inner + 1 = ap height k.whole in omega arith;
  }

  -- each constant that stands behind no activity has a lower tree
  pub unguarded_lower : (e : Expression) (node : Named) → Shows e node → (tree : Opened) → Opens definitions e tree → (d : ℕ) → Contains (unguarded node) d → IsLowerExpression d (height tree)
  unguarded_lower (Const c) (NamedConstant at k) h tree opens d among =
      let same : c ≡ d = sym h ∙ one_element k d among in
      subst (λ (n : ℕ). IsLowerExpression n (height tree)) same (constant_lower c tree (opens_constant definitions c tree opens))
  unguarded_lower (Prefixed a r next) (NamedPrefix at b s node) h tree opens d among = absurd (no_element d among)
  unguarded_lower (Chosen x y) (NamedChoice left right) h tree opens d among =
      let k = opens_choice definitions x y tree opens in
      let whole : height tree ≡ max (height k.left) (height k.right) + 1 = ap height k.whole in
      elim (Contains-append_cases (unguarded left) (unguarded right) d among) [
        | inl there ↦ lower_expression d (height k.left) (height tree) (omega arith) (unguarded_lower x left h.0 k.left k.opens_left d there)
        | inr there ↦ lower_expression d (height k.right) (height tree) (omega arith) (unguarded_lower y right h.1 k.right k.opens_right d there)
      ]
  unguarded_lower e node h tree opens d among = absurd h
