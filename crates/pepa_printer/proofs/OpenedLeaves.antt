-- What of a model opens: its leaves, what follows their activities, and what its sequential constants stand for.
use Rattle.std.proofs.Common.{◌≡◌, ℕ, zero, suc, ◌+◌, List, [], ◌∷◌, ◌++◌, flat_map, Some, slice_get, refl, sym, ap, ◌∙◌, subst, arith}
use Rattle.std.specs.List.{Contains}
use Rattle.std.proofs.lemmas.List.Elements.{Contains-append_left}
use Rattle.std.proofs.lemmas.Option.{slice_get-get_or}
use Rattle.pepa_model.specs.Expression.{Expression, Const, Chosen, Shape, Definition, Sequentially, Compoundly, Defines}
use Rattle.pepa_model.specs.Opened.{Opened, OpenPrefix, OpenChoice, OpenConst, Opens}
use Rattle.pepa_model.specs.Leaves.{components, components_defined, sequential_constants, leaves_of}
use Rattle.pepa_model.specs.PepaModel.{PepaModel, IsModel}
use Rattle.node_orders.proofs.Elements.{contains_here, contains_there}
use Rattle.pepa_checks.proofs.LeafClosure.{leaf_to, component_leaf, defined_leaf}

-- ---- how choices and constants open

pub record OpensConstant (definitions : List Definition) (c : ℕ) (o : Opened) : Type 0 where
  pub body : Expression
  pub inner : Opened
  pub defines : Defines definitions c body
  pub opens : Opens definitions body inner
  pub whole : o ≡ OpenConst c inner

pub opens_constant : (definitions : List Definition) (c : ℕ) (o : Opened) → Opens definitions (Const c) o → OpensConstant definitions c o
opens_constant definitions c (OpenPrefix a r next) h = absurd cc
opens_constant definitions c (OpenChoice p q) (x, y, is, left, right) = absurd cc
opens_constant definitions c (OpenConst d p) (is, (body, defines, opens)) =
    let same : d ≡ c = cc in
    record {
      body = body;
      inner = p;
      defines = subst (λ (n : ℕ). Defines definitions n body) same defines;
      opens = opens;
      whole = ap (λ (n : ℕ). OpenConst n p) same;
    }

pub record OpensChoice (definitions : List Definition) (x y : Expression) (o : Opened) : Type 0 where
  pub left : Opened
  pub right : Opened
  pub opens_left : Opens definitions x left
  pub opens_right : Opens definitions y right
  pub whole : o ≡ OpenChoice left right

pub opens_choice : (definitions : List Definition) (x y : Expression) (o : Opened) → Opens definitions (Chosen x y) o → OpensChoice definitions x y o
opens_choice definitions x y (OpenPrefix a r next) h = absurd cc
opens_choice definitions x y (OpenConst d p) (is, h) = absurd cc
opens_choice definitions x y (OpenChoice p q) (v, w, is, left, right) =
    let same_x : v ≡ x = cc in
    let same_y : w ≡ y = cc in
    record {
      left = p;
      right = q;
      opens_left = subst (λ (e : Expression). Opens definitions e p) same_x left;
      opens_right = subst (λ (e : Expression). Opens definitions e q) same_y right;
      whole = refl;
    }

-- ---- places

pub place_at : {X : Type 0} (xs : List X) (x : X) → Contains xs x → (i : ℕ) × (slice_get xs i ≡ Some x)
place_at {X} xs x (k, within, is) = (k, slice_get-get_or xs k x within ∙ ap (λ (y : X). Some y) is)

-- a constant with a sequential body stands among the sequential constants
constant_among : (from i c : ℕ) (definitions : List Definition) (e : Expression) → slice_get definitions i ≡ Some (Sequentially e) → c ≡ from + i
    → Contains (sequential_constants from definitions) (Const c)
constant_among from i c [] e at is = absurd cc
constant_among from zero c (Sequentially x ∷ definitions) e at is =
    let same : from ≡ c = omega arith in
    subst (λ (n : ℕ). Contains (Const from ∷ sequential_constants (suc from) definitions) (Const n)) same (contains_here (Const from) (sequential_constants (suc from) definitions))
constant_among from zero c (Compoundly shape ∷ definitions) e at is = absurd cc
constant_among from (suc i) c (Sequentially x ∷ definitions) e at is =
    contains_there (Const from) (sequential_constants (suc from) definitions) (Const c) (constant_among (suc from) i c definitions e at (omega arith))
constant_among from (suc i) c (Compoundly shape ∷ definitions) e at is = constant_among (suc from) i c definitions e at (omega arith)

-- ---- the model

abbrev pub HasOpening : List Definition → Expression → Type 0
HasOpening definitions e = (o : Opened) × Opens definitions e o

-- a constant that opens is sequential
pub opened_sequential : (definitions : List Definition) (c : ℕ) → HasOpening definitions (Const c) → (body : Expression) × Defines definitions c body
opened_sequential definitions c (o, opens) = let k = opens_constant definitions c o opens in (k.body, k.defines)

pub opened_not_compound : (definitions : List Definition) (c : ℕ) (shape : Shape) → HasOpening definitions (Const c) → ¬ (slice_get definitions c ≡ Some (Compoundly shape))
opened_not_compound definitions c shape opening at =
    let (body, defines) = opened_sequential definitions c opening in
    absurd cc

module _ (m : PepaModel) (sound : IsModel m) where
  leaf_opens : (e : Expression) → Contains (leaves_of m.bodies m.system) e → HasOpening m.bodies e
  leaf_opens e among =
      let (number, at) = place_at m.leaves e (subst (λ (l : List Expression). Contains l e) (sym sound.numbered.leaves_by_place) among) in
      let leaf = sound.leaves number e at in
      (leaf.opened, leaf.opens)

  pub component_opens : (e : Expression) → Contains (components m.system) e → HasOpening m.bodies e
  component_opens e among = leaf_opens e (component_leaf m.bodies m.system e among)

  pub defined_opens : (d : Definition) (c : ℕ) (e : Expression) → slice_get m.bodies c ≡ Some d → Contains (components_defined d) e → HasOpening m.bodies e
  defined_opens d c e at among = leaf_opens e (defined_leaf m.bodies m.system d c e at among)

  pub constant_opens : (c : ℕ) (e : Expression) → Defines m.bodies c e → HasOpening m.bodies (Const c)
  constant_opens c e at =
      leaf_opens (Const c) (leaf_to m.bodies m.system (Const c)
      (Contains-append_left (sequential_constants 0 m.bodies) (flat_map components_defined m.bodies ++ components m.system) (Const c) (constant_among 0 c c m.bodies e at (omega arith))))

  pub body_opens : (c : ℕ) (e : Expression) → Defines m.bodies c e → HasOpening m.bodies e
  body_opens c e at =
      let (o, opens) = constant_opens c e at in
      let k = opens_constant m.bodies c o opens in
      (k.inner, subst (λ (x : Expression). Opens m.bodies x k.inner) (one_body m.bodies c k.body e k.defines at) k.opens)
    where
      one_body : (definitions : List Definition) (c : ℕ) (x y : Expression) → Defines definitions c x → Defines definitions c y → x ≡ y
      one_body definitions c x y h k = cc
