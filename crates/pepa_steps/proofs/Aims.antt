-- What the calls for the parts of a target need, and what comes of them.
use Rattle.std.proofs.Common.{◌≡◌, ℕ, zero, suc, ◌+◌, ◌-◌, ◌<◌, ◌^◌, min, Bool, true, false, List, [], ◌∷◌, ◌++◌, map, length, slice_get, slice_index_or, Some, Option, Result, Ok, Err, refl, sym, ap, subst, ◌∙◌, inl, inr, ltb-true, ltb-false, arith}
use Rattle.std.specs.Prelude.{nat_lt, if◌then◌else◌, IfOk}
use Rattle.std.proofs.lemmas.List.{length-map}
use Rattle.std.proofs.lemmas.Option.{get_or_from_slice_get}
use Rattle.pepa_model.specs.PepaModel.{PepaModel}
use Rattle.pepa_model.specs.Terms.{TermNode, LeafNode, CoopNode, HideNode, IsNodeOf}
use Rattle.pepa_model.specs.declared.term.Activity.{Activity}
use Rattle.pepa_steps.specs.Moves.{carry, under_hiding}
use Rattle.pepa_steps.specs.PartAnswers.{StepNode}
use Rattle.pepa_steps.specs.Traces.{activity_node, IsTargetOf, steps_side_by_side, Traces}
use Rattle.pepa_steps.specs.Sources.{joined_source_in, source_by, source_in}
use Rattle.pepa_steps.specs.declared.entries.Origin.{Origin}
use Rattle.pepa_steps.specs.declared.entries.Origin.TheVariants as origin
use Rattle.pepa_steps.specs.declared.buffers.Mark.{Mark}
use Rattle.pepa_steps.specs.declared.sources.Source.{Source}
use Rattle.pepa_steps.specs.declared.sources.Source.TheVariants.{Lost, Left, Right, Both}

pub get_inside : {X : Type 0} (xs : List X) (i : ℕ) (x : X) → slice_get xs i ≡ Some x → i < length xs
get_inside [] i x h = absurd cc
get_inside (y ∷ xs) zero x h = omega arith
get_inside (y ∷ xs) (suc i) x h = omega (arith, get_inside xs i x h)

get_front : {X : Type 0} (xs ys : List X) (i : ℕ) (x : X) → i < length xs → slice_get (xs ++ ys) i ≡ Some x → slice_get xs i ≡ Some x
get_front [] ys i x below h = absurd (omega (arith, below))
get_front (y ∷ xs) ys zero x below h = h
get_front (y ∷ xs) ys (suc i) x below h = get_front xs ys i x (omega (arith, below)) h

get_back : {X : Type 0} (xs ys : List X) (i j : ℕ) (x : X) → i ≡ length xs + j → slice_get (xs ++ ys) i ≡ Some x → slice_get ys j ≡ Some x
get_back [] ys i j x e h = let same : i ≡ j = omega (arith, e) in sym (ap (slice_get ys) same) ∙ h
get_back (y ∷ xs) ys zero j x e h = absurd (omega (arith, e))
get_back (y ∷ xs) ys (suc i) j x e h = get_back xs ys i j x (omega (arith, e)) h

get_unmap : {X Y : Type 0} (f : X → Y) (xs : List X) (i : ℕ) (y : Y) → slice_get (map f xs) i ≡ Some y → (x : X) × (slice_get xs i ≡ Some x) × (y ≡ f x)
get_unmap f [] i y h = absurd cc
get_unmap f (x ∷ xs) zero y h = (x, refl, cc)
get_unmap f (x ∷ xs) (suc i) y h = get_unmap f xs i y h

pub get_some : {X : Type 0} (xs : List X) (i : ℕ) → i < length xs → (x : X) × (slice_get xs i ≡ Some x)
get_some [] i below = absurd (omega (arith, below))
get_some (x ∷ xs) zero below = (x, refl)
get_some (x ∷ xs) (suc i) below = get_some xs i (omega (arith, below))

module _ (m : PepaModel) (marks : List Mark) (origins : List Origin) (fits : length origins < 2 ^ 64) where
  -- the term can be traced from this mark, and this step of it is this one
  pub record IsStepAt (x : TermNode) (at i : ℕ) (step : StepNode) : Type 0 where
    pub steps : List StepNode
    pub traced : Traces m marks origins x at steps
    pub here : slice_get steps i ≡ Some step

  -- the source leads to the target of the step
  abbrev pub Leads : TermNode → TermNode → ℕ → TermNode → Source → Type 0
  Leads x y set z (Left l i) = (u : StepNode) × IsStepAt x l i u × (z ≡ CoopNode u.target y set)
  Leads x y set z (Right r j) = (v : StepNode) × IsStepAt y r j v × (z ≡ CoopNode x v.target set)
  Leads x y set z (Both l i r j) = (u : StepNode) × (v : StepNode) × IsStepAt x l i u × IsStepAt y r j v × (z ≡ CoopNode u.target v.target set)
  Leads x y set z Lost = ⊥

  module _ (x y : TermNode) (set l r : ℕ) (us vs : List StepNode) (of_x : Traces m marks origins x l us) (of_y : Traces m marks origins y r vs) where
    of_origin : (o : Origin) (z : TermNode) → IsTargetOf x y set us vs o z → Leads x y set z (joined_source_in l r (Some o))
    of_origin (origin.Left i) z (u, at, is) = (u, record { steps = us; traced = of_x; here = at }, is)
    of_origin (origin.Right j) z (v, at, is) = (v, record { steps = vs; traced = of_y; here = at }, is)
    of_origin (origin.Both i j) z (u, v, at, at_too, is) = (u, v, record { steps = us; traced = of_x; here = at }, record { steps = vs; traced = of_y; here = at_too }, is)

    beside_leads : (n index : ℕ) (step : StepNode) → n ≡ length us → slice_get (steps_side_by_side x y set us vs) index ≡ Some step
        → (b : Bool) → nat_lt index n ≡ b → Leads x y set step.target (if b then Left l index else Right r (index - n))
    beside_leads n index step count at true lt =
        let below : index < length (map (carry (λ a. CoopNode a y set)) us) = omega (arith, ltb-true index n lt, count, length-map us (carry {X = TermNode} {Y = TermNode} (λ a. CoopNode a y set))) in
        let found = get_unmap (carry (λ a. CoopNode a y set)) us index step (get_front (map (carry (λ a. CoopNode a y set)) us) _ index step below at) in
        (found.0, record { steps = us; traced = of_x; here = found.1 }, ap (λ (v : StepNode). v.target) found.2)
    beside_leads n index step count at false lt =
        let behind : index ≡ length (map (carry (λ a. CoopNode a y set)) us) + (index - n) = omega (arith, ltb-false index n lt, count, length-map us (carry {X = TermNode} {Y = TermNode} (λ a. CoopNode a y set))) in
        let found = get_unmap (carry (λ b. CoopNode x b set)) vs (index - n) step (get_back (map (carry (λ a. CoopNode a y set)) us) _ index (index - n) step behind at) in
        (found.0, record { steps = vs; traced = of_y; here = found.1 }, ap (λ (v : StepNode). v.target) found.2)

  coop_leads : (x y : TermNode) (set at index : ℕ) (steps : List StepNode) (step : StepNode) → Traces m marks origins (CoopNode x y set) at steps → slice_get steps index ≡ Some step
      → Leads x y set step.target (source_in marks origins at index)
  coop_leads x y set at index steps step (l, r, n, us, vs, of_x, of_y, inl (is, count, whole)) here =
      subst (λ (o : Option Mark). Leads x y set step.target (source_by origins index o)) (sym is)
      (beside_leads x y set l r us vs of_x of_y n index step count (subst (λ (ws : List StepNode). slice_get ws index ≡ Some step) whole here) (nat_lt index n) refl)
  coop_leads x y set at index steps step (l, r, n, us, vs, of_x, of_y, inr (is, tell)) here =
      let found = tell index step here in
      let within = get_inside origins (n + index) found.0 found.1 in
      let same : min (n + index) (2 ^ 64 - 1) ≡ n + index = omega (arith, within, fits) in
      subst (λ (o : Option Mark). Leads x y set step.target (source_by origins index o)) (sym is)
      (subst (λ (o : Option Origin). Leads x y set step.target (joined_source_in l r o)) (sym (ap (slice_get origins) same ∙ found.1)) (of_origin x y set l r us vs of_x of_y found.0 step.target found.2))

  -- what is known of a call: there are such steps
  abbrev pub HasStep : TermNode → ℕ → ℕ → Type 0
  HasStep x at i = (steps : List StepNode) × Traces m marks origins x at steps × (i < length steps)

  has_step : (x : TermNode) (at i : ℕ) (step : StepNode) → IsStepAt x at i step → HasStep x at i
  has_step x at i step h = (h.steps, h.traced, get_inside h.steps i step h.here)

  -- what is known of its result: it is the target, whatever the steps are called
  abbrev pub Aims : TermNode → ℕ → ℕ → TermNode → Type 0
  Aims x at i made = (steps : List StepNode) → Traces m marks origins x at steps → (step : StepNode) → slice_get steps i ≡ Some step → made ≡ step.target

  module _ (node x y : TermNode) (set at index : ℕ) (source : Source) (is : node ≡ CoopNode x y set) (read : source ≡ source_in marks origins at index) where
    leads_of : (steps : List StepNode) (step : StepNode) → Traces m marks origins node at steps → slice_get steps index ≡ Some step → (s : Source) → source ≡ s → Leads x y set step.target s
    leads_of steps step traced here s same =
        subst (Leads x y set step.target) (sym read ∙ same) (coop_leads x y set at index steps step (subst (λ (z : TermNode). Traces m marks origins z at steps) is traced) here)

    first_leads : HasStep node at index → (s : Source) → source ≡ s → (step : StepNode) × Leads x y set step.target s
    first_leads (steps, traced, below) s same = let u = get_some steps index below in (u.0, leads_of steps u.0 traced u.1 s same)

    pub left_ready : HasStep node at index → (l i : ℕ) → source ≡ Left l i → HasStep x l i
    left_ready has l i same = let h = (first_leads has (Left l i) same).1 in has_step x l i h.0 h.1

    pub right_ready : HasStep node at index → (r j : ℕ) → source ≡ Right r j → HasStep y r j
    right_ready has r j same = let h = (first_leads has (Right r j) same).1 in has_step y r j h.0 h.1

    pub both_ready : HasStep node at index → (l i r j : ℕ) → source ≡ Both l i r j → HasStep x l i × HasStep y r j
    both_ready has l i r j same = let h = (first_leads has (Both l i r j) same).1 in (has_step x l i h.0 h.2, has_step y r j h.1 h.3)

    pub never_lost : HasStep node at index → source ≡ Lost → ⊥
    never_lost has same = (first_leads has Lost same).1

    pub left_aimed : (l i : ℕ) → source ≡ Left l i → (moved stays made : TermNode) → Aims x l i moved → stays ≡ y → made ≡ CoopNode moved stays set → Aims node at index made
    left_aimed l i same moved stays made aims stays_is made_is steps traced step here =
        let (u, at_u, is_target) = leads_of steps step traced here (Left l i) same in
        made_is ∙ ap (λ (z : TermNode). CoopNode z stays set) (aims at_u.steps at_u.traced u at_u.here) ∙ ap (λ (z : TermNode). CoopNode u.target z set) stays_is ∙ sym is_target

    pub right_aimed : (r j : ℕ) → source ≡ Right r j → (moved stays made : TermNode) → Aims y r j moved → stays ≡ x → made ≡ CoopNode stays moved set → Aims node at index made
    right_aimed r j same moved stays made aims stays_is made_is steps traced step here =
        let (v, at_v, is_target) = leads_of steps step traced here (Right r j) same in
        made_is ∙ ap (λ (z : TermNode). CoopNode stays z set) (aims at_v.steps at_v.traced v at_v.here) ∙ ap (λ (z : TermNode). CoopNode z v.target set) stays_is ∙ sym is_target

    pub both_aimed : (l i r j : ℕ) → source ≡ Both l i r j → (moved other made : TermNode) → Aims x l i moved → Aims y r j other → made ≡ CoopNode moved other set → Aims node at index made
    both_aimed l i r j same moved other made aims aims_too made_is steps traced step here =
        let (u, v, at_u, at_v, is_target) = leads_of steps step traced here (Both l i r j) same in
        made_is ∙ ap (λ (z : TermNode). CoopNode z other set) (aims at_u.steps at_u.traced u at_u.here) ∙ ap (λ (z : TermNode). CoopNode u.target z set) (aims_too at_v.steps at_v.traced v at_v.here) ∙ sym is_target

  -- ---- hidings and leaves

  module _ (node x : TermNode) (set at index : ℕ) (is : node ≡ HideNode x set) where
    pub inner_ready : HasStep node at index → HasStep x at index
    inner_ready (steps, traced, below) =
        let (us, of_x, whole) = subst (λ (z : TermNode). Traces m marks origins z at steps) is traced in
        (us, of_x, omega (arith, below, ap length whole, length-map us (under_hiding {X = TermNode} {Y = TermNode} (λ a. HideNode a set) (slice_index_or m.sets set []))))

    pub inner_aimed : (moved made : TermNode) → Aims x at index moved → made ≡ HideNode moved set → Aims node at index made
    inner_aimed moved made aims made_is steps traced step here =
        let (us, of_x, whole) = subst (λ (z : TermNode). Traces m marks origins z at steps) is traced in
        let found = get_unmap (under_hiding (λ a. HideNode a set) (slice_index_or m.sets set [])) us index step (subst (λ (ws : List StepNode). slice_get ws index ≡ Some step) whole here) in
        made_is ∙ ap (λ (z : TermNode). HideNode z set) (aims us of_x found.0 found.1) ∙ sym (ap (λ (v : StepNode). v.target) found.2)

  module _ (node : TermNode) (n at index : ℕ) (activities : List Activity) (is : node ≡ LeafNode n) (stored : slice_get m.activities n ≡ Some activities) where
    own_steps : (steps : List StepNode) → Traces m marks origins node at steps → steps ≡ map activity_node activities
    own_steps steps traced = subst (λ (z : TermNode). Traces m marks origins z at steps) is traced ∙ ap (map activity_node) (get_or_from_slice_get m.activities n activities [] stored)

    pub leaf_inside : HasStep node at index → index < length activities
    leaf_inside (steps, traced, below) = omega (arith, below, ap length (own_steps steps traced), length-map activities activity_node)

    pub leaf_aimed : (activity : Activity) → slice_get activities index ≡ Some activity → Aims node at index (LeafNode activity.target)
    leaf_aimed activity there steps traced step here =
        let found = get_unmap activity_node activities index step (subst (λ (ws : List StepNode). slice_get ws index ≡ Some step) (own_steps steps traced) here) in
        let same : activity ≡ found.0 = cc (there, found.1) in
        ap (λ (a : Activity). LeafNode a.target) same ∙ sym (ap (λ (v : StepNode). v.target) found.2)

pub ok_then : {X E : Type 0} {P Q : X → Type 0} (r : Result X E) → ((x : X) → P x → Q x) → IfOk r P → IfOk r Q
ok_then (Ok x) f h = f x h
ok_then (Err e) f h = tt

-- ---- what a call goes down along

pub height_of : TermNode → ℕ
height_of (LeafNode n) = zero
height_of (CoopNode x y set) = suc (height_of x + height_of y)
height_of (HideNode x set) = suc (height_of x)

pub left_smaller : (node x y : TermNode) (set : ℕ) → node ≡ CoopNode x y set → height_of x < height_of node
unfolding height_of
left_smaller node x y set is = let h : height_of node ≡ suc (height_of x + height_of y) = ap height_of is in omega (arith, h)

pub right_smaller : (node x y : TermNode) (set : ℕ) → node ≡ CoopNode x y set → height_of y < height_of node
unfolding height_of
right_smaller node x y set is = let h : height_of node ≡ suc (height_of x + height_of y) = ap height_of is in omega (arith, h)

pub inner_smaller : (node x : TermNode) (set : ℕ) → node ≡ HideNode x set → height_of x < height_of node
unfolding height_of
inner_smaller node x set is = let h : height_of node ≡ suc (height_of x) = ap height_of is in omega (arith, h)

-- ---- the parts of a term are the model's

pub left_of_model : (m : PepaModel) (node x y : TermNode) (set : ℕ) → node ≡ CoopNode x y set → IsNodeOf m node → IsNodeOf m x
left_of_model m node x y set is h = (subst (IsNodeOf m) is h).0

pub right_of_model : (m : PepaModel) (node x y : TermNode) (set : ℕ) → node ≡ CoopNode x y set → IsNodeOf m node → IsNodeOf m y
right_of_model m node x y set is h = (subst (IsNodeOf m) is h).1

pub inner_of_model : (m : PepaModel) (node x : TermNode) (set : ℕ) → node ≡ HideNode x set → IsNodeOf m node → IsNodeOf m x
inner_of_model m node x set is h = (subst (IsNodeOf m) is h).0
