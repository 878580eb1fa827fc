-- Counting the leaves of a system, one compound constant after the other.
use Rattle.std.proofs.Common.{◌≡◌, ℕ, zero, suc, ◌+◌, ◌^◌, ◌<◌, ◌≤◌, List, [], ◌∷◌, ◌++◌, sum_by, Option, None, Some, slice_get, refl, sym, ap, subst, ◌∙◌, arith}
use Rattle.std.specs.List.{AllZip}
use Rattle.std.proofs.lemmas.List.Sums.{sum_by-append, sum_by-cons, sum_by_push}
use Rattle.pepa_model.specs.Expression.{Shape, ConstShape, Definition, Sequentially, Compoundly, IsCompound}
use Rattle.pepa_model.specs.Expanded.{Expanded, LeafTree, ConstTree, CoopTree, HideTree, Expands, leaves_in, height_of}
use Rattle.pepa_model.specs.PepaModel.{PepaModel, IsModel}
use Rattle.probe_attach.specs.Systems.{own_leaves, compounds_in, HasLeaves}

-- how many compound constants are expanded in a tree
abbrev pub constants_of : Expanded → ℕ
constants_of (LeafTree e) = 0
constants_of (ConstTree c p) = constants_of p + 1
constants_of (CoopTree p q set) = constants_of p + constants_of q
constants_of (HideTree p set) = constants_of p

-- the constants expand into these trees, none of which is higher
abbrev pub AreTrees : List Definition → ℕ → List ℕ → List Expanded → Type 0
AreTrees definitions most constants trees = AllZip (λ c t. Expands definitions (ConstShape c) t × (height_of t ≤ most)) constants trees

raised : (definitions : List Definition) (low most : ℕ) (constants : List ℕ) (trees : List Expanded) → low ≤ most → AreTrees definitions low constants trees → AreTrees definitions most constants trees
raised definitions low most [] [] le h = tt
raised definitions low most [] (t ∷ trees) le h = absurd h
raised definitions low most (c ∷ constants) [] le h = absurd h
raised definitions low most (c ∷ constants) (t ∷ trees) le h = let below = h.0.1 in ((h.0.0, omega arith), raised definitions low most constants trees le h.1)

both : (definitions : List Definition) (most : ℕ) (cs ds : List ℕ) (ts us : List Expanded) → AreTrees definitions most cs ts → AreTrees definitions most ds us → AreTrees definitions most (cs ++ ds) (ts ++ us)
both definitions most [] ds [] us h k = k
both definitions most [] ds (t ∷ ts) us h k = absurd h
both definitions most (c ∷ cs) ds [] us h k = absurd h
both definitions most (c ∷ cs) ds (t ∷ ts) us h k = (h.0, both definitions most cs ds ts us h.1 k)

-- ---- a system's tree, from those of its constants

pub record OwnTrees (definitions : List Definition) (most : ℕ) (s : Shape) (p : Expanded) : Type 0 where
  pub trees : List Expanded
  pub each : AreTrees definitions most (compounds_in s) trees
  pub leaves : leaves_in p ≡ own_leaves s + sum_by leaves_in trees
  pub constants : constants_of p ≡ sum_by constants_of trees

module _ (definitions : List Definition) (most : ℕ) where
  pub own_trees : (s : Shape) (p : Expanded) → Expands definitions s p → height_of p ≤ most → OwnTrees definitions most s p
  own_trees s (LeafTree e) is low = subst (λ (s : Shape). OwnTrees definitions most s (LeafTree e)) (sym is) (record { trees = []; each = tt; leaves = refl; constants = refl })
  own_trees s (ConstTree c p) (is, more) low =
      subst (λ (s : Shape). OwnTrees definitions most s (ConstTree c p)) (sym is)
      (record { trees = ConstTree c p ∷ []; each = (((refl, more), low), tt); leaves = omega arith; constants = omega arith })
  own_trees s (CoopTree p q set) (x, y, is, left, right) low =
      let l = own_trees x p left (omega arith) in
      let r = own_trees y q right (omega arith) in
      let l_leaves : leaves_in p ≡ own_leaves x + sum_by leaves_in l.trees = l.leaves in
      let r_leaves : leaves_in q ≡ own_leaves y + sum_by leaves_in r.trees = r.leaves in
      let l_constants : constants_of p ≡ sum_by constants_of l.trees = l.constants in
      let r_constants : constants_of q ≡ sum_by constants_of r.trees = r.constants in
      let leaves = sum_by-append leaves_in l.trees r.trees in
      let constants = sum_by-append constants_of l.trees r.trees in
      subst (λ (s : Shape). OwnTrees definitions most s (CoopTree p q set)) (sym is)
      (record {
        trees = l.trees ++ r.trees;
        each = both definitions most (compounds_in x) (compounds_in y) l.trees r.trees l.each r.each;
        leaves = omega arith;
        constants = omega arith;
      })
  own_trees s (HideTree p set) (x, is, inner) low =
      let i = own_trees x p inner (omega arith) in
      subst (λ (s : Shape). OwnTrees definitions most s (HideTree p set)) (sym is) (record { trees = i.trees; each = i.each; leaves = i.leaves; constants = i.constants })

-- ---- how many constants a constant expands into, by the definitions alone

abbrev written : Option Definition → List ℕ
written (Some (Compoundly shape)) = compounds_in shape
written (Some (Sequentially e)) = []
written None = []

-- one, and those that its system expands into, for a tree that isn't higher than this
abbrev pub weight : List Definition → ℕ → ℕ → ℕ
weight definitions zero c = 0
weight definitions (suc most) c = 1 + sum_by (weight definitions most) (written (slice_get definitions c))

module _ (definitions : List Definition) where
  same_weights : (most low : ℕ) (constants : List ℕ) (trees : List Expanded) → ((c : ℕ) (t : Expanded) → Expands definitions (ConstShape c) t → height_of t ≤ low → weight definitions most c ≡ constants_of t) → AreTrees definitions low constants trees → sum_by (weight definitions most) constants ≡ sum_by constants_of trees
  same_weights most low [] [] each h = refl
  same_weights most low [] (t ∷ trees) each h = absurd h
  same_weights most low (c ∷ constants) [] each h = absurd h
  same_weights most low (c ∷ constants) (t ∷ trees) each h =
      let first = each c t h.0.0 h.0.1 in
      let rest = same_weights most low constants trees each h.1 in
      omega (arith, sum_by-cons (weight definitions most) c constants, sum_by-cons constants_of t trees)

  weighs : (most c : ℕ) (t : Expanded) → Expands definitions (ConstShape c) t → height_of t ≤ most → weight definitions most c ≡ constants_of t
  weighs most c (LeafTree e) h low = absurd cc
  weighs most c (CoopTree p q set) (x, y, is, h, k) low = absurd cc
  weighs most c (HideTree p set) (x, is, h) low = absurd cc
  weighs zero c (ConstTree d p) h low = absurd (omega arith)
  weighs (suc most) c (ConstTree d p) (is, (body, body_is, inner)) low =
      let same : d ≡ c = cc in
      let at : slice_get definitions c ≡ Some (Compoundly body) = subst (λ (n : ℕ). IsCompound definitions n body) same body_is in
      let own = own_trees definitions most body p inner (omega arith) in
      let sum = same_weights most most (compounds_in body) own.trees (weighs most) own.each in
      let total : constants_of p ≡ sum_by constants_of own.trees = own.constants in
      let read : sum_by (weight definitions most) (written (slice_get definitions c)) ≡ sum_by (weight definitions most) (compounds_in body) = ap (λ o. sum_by (weight definitions most) (written o)) at in
      omega arith

  -- the weight of constants is how many they expand into
  pub weight_is : (most : ℕ) (constants : List ℕ) (trees : List Expanded) → AreTrees definitions most constants trees → sum_by (weight definitions most) constants ≡ sum_by constants_of trees
  weight_is most constants trees h = same_weights most most constants trees (weighs most) h

-- ---- the loop

-- how many constants a list of constants expands into, where none of their trees is higher than this
unfoldable pub load : List Definition → ℕ → List ℕ → ℕ
load definitions most constants = sum_by (weight definitions most) constants

lighter_load : (definitions : List Definition) (most : ℕ) (less more : List ℕ) → sum_by (weight definitions most) less < sum_by (weight definitions most) more → load definitions most less < load definitions most more
unfolding load
lighter_load definitions most less more h = h

-- with the constants that are left, the leaves so far come to those of the system
pub record CountsSoFar (m : PepaModel) (most count : ℕ) (constants : List ℕ) : Type 0 where
  pub tree : Expanded
  pub expands : Expands m.bodies m.system tree
  pub few : leaves_in tree ≤ 255
  pub trees : List Expanded
  pub each : AreTrees m.bodies most constants trees
  pub whole : leaves_in tree ≡ count + sum_by leaves_in trees

pub counts_first : (m : PepaModel) (count : ℕ) (constants : List ℕ) → IsModel m → count ≡ own_leaves m.system → constants ≡ compounds_in m.system → CountsSoFar m (2 ^ 21) count constants
counts_first m count constants sound count_is constants_is =
    let system = sound.small_tree.expanded in
    let own = own_trees m.bodies (2 ^ 21) m.system system.tree system.expands system.shallow in
    let leaves : leaves_in system.tree ≡ own_leaves m.system + sum_by leaves_in own.trees = own.leaves in
    record {
      tree = system.tree;
      expands = system.expands;
      few = sound.small_tree.leaves;
      trees = own.trees;
      each = subst (λ (l : List ℕ). AreTrees m.bodies (2 ^ 21) l own.trees) (sym constants_is) own.each;
      whole = omega arith;
    }

pub own_is_few : (m : PepaModel) → IsModel m → own_leaves m.system ≤ 255
own_is_few m sound =
    let first = counts_first m (own_leaves m.system) (compounds_in m.system) sound refl refl in
    let whole : leaves_in first.tree ≡ own_leaves m.system + sum_by leaves_in first.trees = first.whole in
    let few = first.few in
    omega arith

pub counted : (m : PepaModel) (most count : ℕ) (constants : List ℕ) → CountsSoFar m most count constants → constants ≡ [] → HasLeaves m count
counted m most count constants h none = of_trees h.trees (subst (λ (l : List ℕ). AreTrees m.bodies most l h.trees) none h.each) h.whole
  where
    of_trees : (trees : List Expanded) → AreTrees m.bodies most [] trees → leaves_in h.tree ≡ count + sum_by leaves_in trees → HasLeaves m count
    of_trees [] each whole = record { tree = h.tree; expands = h.expands; count_is = omega arith }
    of_trees (t ∷ trees) each whole = absurd each

record LastTree (definitions : List Definition) (most : ℕ) (front : List ℕ) (c : ℕ) (trees : List Expanded) : Type 0 where
  before : List Expanded
  last : Expanded
  whole : trees ≡ before ++ last ∷ []
  each : AreTrees definitions most front before
  expands : Expands definitions (ConstShape c) last
  low : height_of last ≤ most

last_tree : (definitions : List Definition) (most : ℕ) (front : List ℕ) (c : ℕ) (trees : List Expanded) → AreTrees definitions most (front ++ c ∷ []) trees → LastTree definitions most front c trees
last_tree definitions most [] c [] h = absurd h
last_tree definitions most [] c (t ∷ []) h = record { before = []; last = t; whole = refl; each = tt; expands = h.0.0; low = h.0.1 }
last_tree definitions most [] c (t ∷ u ∷ trees) h = absurd h.1
last_tree definitions most (d ∷ front) c [] h = absurd h
last_tree definitions most (d ∷ front) c (t ∷ trees) h =
    let more = last_tree definitions most front c trees h.1 in
    record { before = t ∷ more.before; last = more.last; whole = ap (λ l. t ∷ l) more.whole; each = (h.0, more.each); expands = more.expands; low = more.low }

-- the last constant with its system, where the rest is counted so far
pub record NextConstant (m : PepaModel) (most count : ℕ) (front : List ℕ) (c : ℕ) : Type 0 where
  pub shape : Shape
  pub is : IsCompound m.bodies c shape
  pub few : count + own_leaves shape ≤ 255
  pub more : CountsSoFar m most (count + own_leaves shape) (front ++ compounds_in shape)
  pub lighter : load m.bodies most (front ++ compounds_in shape) < load m.bodies most (front ++ c ∷ [])

pub next_constant : (m : PepaModel) (most count : ℕ) (constants front : List ℕ) (c : ℕ) → CountsSoFar m most count constants → constants ≡ front ++ c ∷ [] → NextConstant m most count front c
next_constant m most count constants front c h is =
    let split = last_tree m.bodies most front c h.trees (subst (λ (l : List ℕ). AreTrees m.bodies most l h.trees) is h.each) in
    of_tree split split.last split.whole split.expands split.low
  where
    of_tree : (split : LastTree m.bodies most front c h.trees) (t : Expanded) → h.trees ≡ split.before ++ t ∷ [] → Expands m.bodies (ConstShape c) t → height_of t ≤ most → NextConstant m most count front c
    of_tree split (LeafTree e) whole expands low = absurd cc
    of_tree split (CoopTree p q set) whole (x, y, is_coop, left, right) low = absurd cc
    of_tree split (HideTree p set) whole (x, is_hide, more) low = absurd cc
    of_tree split (ConstTree d p) whole (is_constant, (body, body_is, inner)) low =
        let same : d ≡ c = cc in
        let own = own_trees m.bodies most body p inner (omega arith) in
        let each = both m.bodies most front (compounds_in body) split.before own.trees split.each own.each in
        let total : leaves_in h.tree ≡ count + sum_by leaves_in h.trees = h.whole in
        let old_leaves : sum_by leaves_in h.trees ≡ sum_by leaves_in split.before + leaves_in p = ap (sum_by leaves_in) whole ∙ sum_by_push leaves_in split.before (ConstTree d p) in
        let new_leaves = sum_by-append leaves_in split.before own.trees in
        let own_are : leaves_in p ≡ own_leaves body + sum_by leaves_in own.trees = own.leaves in
        let few : leaves_in h.tree ≤ 255 = h.few in
        let old_each : AreTrees m.bodies most (front ++ c ∷ []) h.trees = subst (λ (l : List ℕ). AreTrees m.bodies most l h.trees) is h.each in
        let old_weight = weight_is m.bodies most (front ++ c ∷ []) h.trees old_each in
        let new_weight = weight_is m.bodies most (front ++ compounds_in body) (split.before ++ own.trees) each in
        let old_constants : sum_by constants_of h.trees ≡ sum_by constants_of split.before + (constants_of p + 1) = ap (sum_by constants_of) whole ∙ sum_by_push constants_of split.before (ConstTree d p) in
        let new_constants = sum_by-append constants_of split.before own.trees in
        let own_constants : constants_of p ≡ sum_by constants_of own.trees = own.constants in
        record {
          shape = body;
          is = subst (λ (n : ℕ). IsCompound m.bodies n body) same body_is;
          few = omega arith;
          more = record { tree = h.tree; expands = h.expands; few = few; trees = split.before ++ own.trees; each = each; whole = omega arith };
          lighter = lighter_load m.bodies most (front ++ compounds_in body) (front ++ c ∷ []) (omega arith);
        }

-- the same of the constant's system
pub record NextSystem (m : PepaModel) (most count : ℕ) (front : List ℕ) (c : ℕ) (shape : Shape) : Type 0 where
  pub few : count + own_leaves shape ≤ 255
  pub more : CountsSoFar m most (count + own_leaves shape) (front ++ compounds_in shape)
  pub lighter : load m.bodies most (front ++ compounds_in shape) < load m.bodies most (front ++ c ∷ [])

same_system : (definitions : List Definition) (c : ℕ) (x y : Shape) → IsCompound definitions c x → IsCompound definitions c y → x ≡ y
same_system definitions c x y h k = cc

pub next_system : (m : PepaModel) (most count : ℕ) (constants front : List ℕ) (c : ℕ) (shape : Shape) → CountsSoFar m most count constants → constants ≡ front ++ c ∷ [] → IsCompound m.bodies c shape → NextSystem m most count front c shape
next_system m most count constants front c shape h is shape_is =
    let n = next_constant m most count constants front c h is in
    subst (λ (s : Shape). NextSystem m most count front c s) (same_system m.bodies c n.shape shape n.is shape_is) (record { few = n.few; more = n.more; lighter = n.lighter })
