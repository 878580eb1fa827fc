-- A file is refused for at most one cause, at one index, and then it has no model.
use Rattle.std.proofs.Common.{◌≡◌, ℕ, ◌<◌, inl, inr, Bool, List, [], ◌∷◌, ◌++◌, slice_get, refl, sym, ◌∙◌, ap, subst, arith}
use Rattle.std.proofs.lemmas.Option.{same_Some}
use Rattle.pepa_rates.specs.declared.rate.Rate.{Rate}
use Rattle.pepa_lexer.specs.declared.kinds.Token.{Token}
use Rattle.pepa_reader.specs.declared.trees.FileTree.{FileTree}
use Rattle.token_grammar.specs.Terminals.{terminals, name_at}
use Rattle.pepa_reader.specs.Trees.{FileNode, file_node_of}
use Rattle.pepa_reader.specs.FileAnswers.{IsFileTree}
use Rattle.pepa_model.specs.Expression.{Expression, Const, Prefixed, Chosen}
use Rattle.pepa_model.specs.Derivation.{Among}
use Rattle.pepa_model.specs.Opened.{Opened}
use Rattle.pepa_model.specs.PepaModel.{PepaModel, IsMixedAt}
use Rattle.pepa_checks.specs.declared.cause.CheckCause.{CheckCause}
use Rattle.pepa_checks.specs.declared.cause.CheckCause.TheVariants.{Unsupported, Twice, UnknownName, TauInSet, BadRate, NotSequential, ModelCycle, Unguarded, TooMany, MixedChoice}
use Rattle.node_orders.specs.Cycles.{IsFirstCycle, HasNoCycle}
use Rattle.node_orders.proofs.AlongOrders.{one_first}
use Rattle.pepa_resolver.specs.declared.refusal.ResolveCause.{ResolveCause}
use Rattle.pepa_resolver.specs.declared.refusal.ResolveCause.TheVariants as resolver
use Rattle.pepa_resolver.specs.Faults.{HasNone, IsLeast}
use Rattle.pepa_resolver.specs.NamesAnswers.{IsNamesRefusedFor}
use Rattle.pepa_checks.specs.Structure.{NotSequentialAt, CompoundEdge, UnguardedEdge}
use Rattle.pepa_checks.specs.StructureAnswers.{IsStructured}
use Rattle.pepa_resolver.specs.Named.{Named, first_at}
use Rattle.pepa_resolver.specs.Numbers.{actions_of}
use Rattle.pepa_resolver.specs.ResolvedFiles.{IsNumberedFile}
use Rattle.pepa_checks.specs.StructuredFiles.{told_cause_of, IsLineAt, IsMisbuilt, IsMisbuiltFile, IsStoppedFor}
use Rattle.pepa_resolver.proofs.Judges.{Judges, For, for_one, Behind, behind, any, fewer, told_by}
use Rattle.pepa_resolver.proofs.OneRefusal.{least_judges, Numbering, file_judges}
use Rattle.pepa_resolver.proofs.OneNumbering.{one_list_of_bodies, one_named_system}
use Rattle.pepa_checks.specs.Outline.{Outline, outline_of, expression_in}
use Rattle.pepa_checks.specs.Activities.{activities_in, sites, written_leaves, IsFirstWritten, HasMixed, HasNoMixed, IsMixedLeaf, IsFirstMixed}
use Rattle.pepa_checks.specs.Limits.{PassesLimit}
use Rattle.pepa_checks.specs.CheckedFiles.{Sound, IsAtFaultFor, IsModelOf}
use Rattle.pepa_checks.proofs.OneTree.{one_opening}
use Rattle.pepa_checks.proofs.OneModel.{same_bodies, same_system, same_compounds}

-- ---- up to the structure

-- the line of the first constant that reaches itself
abbrev CycleAt : FileNode → (ℕ → ℕ → Type 0) → ℕ → Type 0
CycleAt file Edge i = (c : ℕ) × IsFirstCycle Edge c × IsLineAt file c i

cycle_judges : (file : FileNode) (cause : CheckCause) (Edge : ℕ → ℕ → Type 0) → Judges (For cause (CycleAt file Edge)) (HasNoCycle Edge)
cycle_judges file cause Edge =
    for_one cause (CycleAt file Edge) (HasNoCycle Edge)
    (λ i j h k. one i j h k)
    (λ i h none. none h.0 h.1.cycle)
  where
    one : (i j : ℕ) → CycleAt file Edge i → CycleAt file Edge j → i ≡ j
    one i j (c, h, at) (d, k, there) =
        let same = one_first Edge c d h k in
        same_Some i j (sym (subst (λ n. IsLineAt file n i) same at) ∙ there)

-- ---- the structure

module _ (file : FileNode) (bodies : List Named) (system : Named) where
  abbrev Sequential : CheckCause → ℕ → Type 0
  Sequential = For NotSequential (IsLeast (NotSequentialAt bodies system))

  abbrev Compound : CheckCause → ℕ → Type 0
  Compound = For ModelCycle (CycleAt file (CompoundEdge bodies))

  abbrev Guarded : CheckCause → ℕ → Type 0
  Guarded = For Unguarded (CycleAt file (UnguardedEdge bodies))

  abbrev BuiltInTurn : CheckCause → ℕ → Type 0
  BuiltInTurn = Behind Sequential (HasNone (NotSequentialAt bodies system)) (Behind Compound (HasNoCycle (CompoundEdge bodies)) Guarded)

  built_in_turn : (cause : CheckCause) (i : ℕ) → IsMisbuilt file bodies system cause i → BuiltInTurn cause i
  built_in_turn NotSequential i h = inl (refl, h)
  built_in_turn ModelCycle i h = inr (h.0, inl (refl, h.1))
  built_in_turn Unguarded i h = inr (h.0, inr (h.1, (refl, h.2)))
  built_in_turn _ i h = elim h [ ]

  structure_judges : Judges (IsMisbuilt file bodies system) (IsStructured bodies system)
  structure_judges =
      fewer BuiltInTurn (IsMisbuilt file bodies system) (HasNone (NotSequentialAt bodies system) × (HasNoCycle (CompoundEdge bodies) × HasNoCycle (UnguardedEdge bodies))) (IsStructured bodies system)
      built_in_turn (λ fine. (fine.sequential, (fine.compound, fine.guarded)))
      (behind Sequential (Behind Compound (HasNoCycle (CompoundEdge bodies)) Guarded) (HasNone (NotSequentialAt bodies system)) (HasNoCycle (CompoundEdge bodies) × HasNoCycle (UnguardedEdge bodies))
      (least_judges NotSequential (NotSequentialAt bodies system))
      (behind Compound Guarded (HasNoCycle (CompoundEdge bodies)) (HasNoCycle (UnguardedEdge bodies))
      (cycle_judges file ModelCycle (CompoundEdge bodies))
      (cycle_judges file Unguarded (UnguardedEdge bodies))))

module _ (input : List ℕ) (tokens : List Token) (file : FileNode) where
  abbrev Built : CheckCause → ℕ → Type 0
  Built cause i = (x : Numbering input tokens file) × IsMisbuilt file x.bodies x.system cause i

  -- the numbers are there, and the structure is fine
  abbrev pub IsFine : Type 0
  IsFine = (x : Numbering input tokens file) × IsStructured x.bodies x.system

  built_judges : Judges Built IsFine
  built_judges =
      any (Numbering input tokens file) (λ x. IsMisbuilt file x.bodies x.system) (λ x. IsStructured x.bodies x.system)
      (λ x y c i h. moved x y (λ bodies system. IsMisbuilt file bodies system c i) h)
      (λ x y h. moved x y IsStructured h)
      (λ x. structure_judges file x.bodies x.system)
    where
      moved : (x y : Numbering input tokens file) (P : List Named → Named → Type 0) → P y.bodies y.system → P x.bodies x.system
      moved x y P h =
          subst (λ bodies. P bodies x.system) (sym (one_list_of_bodies input tokens file x.values y.values x.bodies y.bodies x.system y.system x.numbered y.numbered))
          (subst (P y.bodies) (sym (one_named_system input tokens file x.values y.values x.bodies y.bodies x.system y.system x.numbered y.numbered)) h)

  -- a fault of names, sets and rates, by the cause that is told of it
  abbrev FirstNamed : CheckCause → ℕ → Type 0
  FirstNamed told i = (cause : ResolveCause) × (told ≡ told_cause_of cause) × IsNamesRefusedFor input tokens file cause i

  misbuilt_behind : (cause : CheckCause) (i : ℕ) → IsMisbuiltFile input tokens file cause i → Behind FirstNamed (Numbering input tokens file) Built cause i
  misbuilt_behind cause i h =
      let x : Numbering input tokens file = record { values = h.values; bodies = h.bodies; system = h.system; numbered = h.numbered } in
      inr (x, (x, h.misbuilt))

  stopped_in_order : (cause : CheckCause) (i : ℕ) → IsStoppedFor input tokens file cause i → Behind FirstNamed (Numbering input tokens file) Built cause i
  stopped_in_order TooMany i h = inl (resolver.TooManyLines, refl, h)
  stopped_in_order Twice i h = inl (resolver.Twice, refl, h)
  stopped_in_order UnknownName i h = inl (resolver.UnknownName, refl, h)
  stopped_in_order TauInSet i h = inl (resolver.TauInSet, refl, h)
  stopped_in_order BadRate i h = inl (resolver.BadRate, refl, h)
  stopped_in_order NotSequential i h = misbuilt_behind NotSequential i h
  stopped_in_order ModelCycle i h = misbuilt_behind ModelCycle i h
  stopped_in_order Unguarded i h = misbuilt_behind Unguarded i h
  stopped_in_order MixedChoice i h = elim h [ ]
  stopped_in_order Unsupported i h = elim h [ ]

  stopped_judges : Judges (IsNamesRefusedFor input tokens file) (Numbering input tokens file) → Judges (IsStoppedFor input tokens file) IsFine
  stopped_judges named =
      fewer (Behind FirstNamed (Numbering input tokens file) Built) (IsStoppedFor input tokens file) (Numbering input tokens file × IsFine) IsFine
      stopped_in_order (λ fine. (fine.0, fine))
      (behind FirstNamed Built (Numbering input tokens file) IsFine
      (told_by told_cause_of (IsNamesRefusedFor input tokens file) (Numbering input tokens file) named) built_judges)

-- ---- the first mixed activity

neither : (m n : ℕ) → ¬ (m < n) → ¬ (n < m) → m ≡ n
neither m n a b = omega arith

-- the first process of a list with an expression is one
same_first : (e : Expression) (before others behind rest : List Named) (p q : Named) → before ++ p ∷ behind ≡ others ++ q ∷ rest → expression_in p ≡ e → expression_in q ≡ e → ((x : Named) → Among x before → ¬ (expression_in x ≡ e)) → ((x : Named) → Among x others → ¬ (expression_in x ≡ e)) → p ≡ q
same_first e [] [] behind rest p q is p_is q_is none no_other = cc
same_first e [] (y ∷ others) behind rest p q is p_is q_is none no_other =
    let same : p ≡ y = cc in
    absurd (no_other y (inl refl) (ap expression_in (sym same) ∙ p_is))
same_first e (x ∷ before) [] behind rest p q is p_is q_is none no_other =
    let same : q ≡ x = cc in
    absurd (none x (inl refl) (ap expression_in (sym same) ∙ q_is))
same_first e (x ∷ before) (y ∷ others) behind rest p q is p_is q_is none no_other =
    let more : before ++ p ∷ behind ≡ others ++ q ∷ rest = cc in
    same_first e before others behind rest p q more p_is q_is (λ z among. none z (inr among)) (λ z among. no_other z (inr among))

one_written : (written : List Named) (e : Expression) (p q : Named) → IsFirstWritten written e p → IsFirstWritten written e q → p ≡ q
one_written written (Const c) p q h k = h ∙ sym k
one_written written (Prefixed action rate next) p q (before, behind, whole, is, none) (others, rest, whole', is', no_other) =
    same_first (Prefixed action rate next) before others behind rest p q (sym whole ∙ whole') is is' none no_other
one_written written (Chosen left right) p q (before, behind, whole, is, none) (others, rest, whole', is', no_other) =
    same_first (Chosen left right) before others behind rest p q (sym whole ∙ whole') is is' none no_other

has_mixed : (o : Outline) (bodies written : List Named) (leaf : Expression) (i : ℕ) → IsMixedLeaf o bodies written leaf i → HasMixed o leaf
has_mixed o bodies written leaf i h = (h.opened, h.opens, (h.place, h.mixed))

one_site : (o : Outline) (bodies written : List Named) (leaf : Expression) (i j : ℕ) → IsMixedLeaf o bodies written leaf i → IsMixedLeaf o bodies written leaf j → i ≡ j
one_site o bodies written leaf i j h k =
    let tree : h.opened ≡ k.opened = one_opening o.definitions leaf h.opened k.opened h.opens k.opens in
    let mixed : IsMixedAt (activities_in o.leaves k.opened) h.place = subst (λ (t : Opened). IsMixedAt (activities_in o.leaves t) h.place) tree h.mixed in
    let kept : IsMixedAt (activities_in o.leaves h.opened) k.place = subst (λ (t : Opened). IsMixedAt (activities_in o.leaves t) k.place) (sym tree) k.mixed in
    let place : h.place ≡ k.place = neither h.place k.place (λ lt. k.first h.place lt mixed) (λ lt. h.first k.place lt kept) in
    let process : h.process ≡ k.process = one_written written leaf h.process k.process h.first_written k.first_written in
    same_Some i j (
    sym h.site
    ∙ ap (λ (t : Opened). slice_get (sites bodies h.process t) h.place) tree
    ∙ ap (λ (p : Named). slice_get (sites bodies p k.opened) h.place) process
    ∙ ap (slice_get (sites bodies k.process k.opened)) place
    ∙ k.site
    )

one_mixed : (o : Outline) (bodies written : List Named) (i j : ℕ) → IsFirstMixed o bodies written i → IsFirstMixed o bodies written j → i ≡ j
one_mixed o bodies written i j h k =
    let number : h.number ≡ k.number =
    neither h.number k.number
    (λ lt. k.first h.number h.leaf lt h.is_leaf (has_mixed o bodies written h.leaf i h.mixed))
    (λ lt. h.first k.number k.leaf lt k.is_leaf (has_mixed o bodies written k.leaf j k.mixed)) in
    let leaf : h.leaf ≡ k.leaf = same_Some h.leaf k.leaf (sym h.is_leaf ∙ ap (slice_get o.leaves) number ∙ k.is_leaf) in
    one_site o bodies written k.leaf i j (subst (λ (e : Expression). IsMixedLeaf o bodies written e i) leaf h.mixed) k.mixed

-- ---- behind the structure

module _ (actions : List (List ℕ)) (compounds : List Bool) (bodies : List Named) (system : Named) where
  abbrev IsOver : Type 0
  IsOver = PassesLimit actions (outline_of compounds bodies system)

  abbrev Limited : CheckCause → ℕ → Type 0
  Limited = For TooMany (λ i. IsOver × (i ≡ first_at system))

  abbrev Mixed : CheckCause → ℕ → Type 0
  Mixed = For MixedChoice (IsFirstMixed (outline_of compounds bodies system) bodies (written_leaves compounds bodies system))

  abbrev Last : CheckCause → ℕ → Type 0
  Last = Behind Limited (¬ IsOver) Mixed

  abbrev IsLastFine : Type 0
  IsLastFine = (¬ IsOver) × HasNoMixed (outline_of compounds bodies system)

  last_judges : Judges Last IsLastFine
  last_judges =
      behind Limited Mixed (¬ IsOver) (HasNoMixed (outline_of compounds bodies system))
      (for_one TooMany (λ i. IsOver × (i ≡ first_at system)) (¬ IsOver) (λ i j h k. h.1 ∙ sym k.1) (λ i h within. within h.0))
      (for_one MixedChoice (IsFirstMixed (outline_of compounds bodies system) bodies (written_leaves compounds bodies system)) (HasNoMixed (outline_of compounds bodies system))
      (one_mixed (outline_of compounds bodies system) bodies (written_leaves compounds bodies system))
      (λ i h none. none h.number h.leaf h.is_leaf (has_mixed (outline_of compounds bodies system) bodies (written_leaves compounds bodies system) h.leaf i h.mixed)))

-- ---- a whole file

module _ (input : List ℕ) (tokens : List Token) (file : FileNode) where
  abbrev actions : List (List ℕ)
  actions = actions_of (name_at input tokens) file

  abbrev LastOf : CheckCause → ℕ → Type 0
  LastOf cause i = (s : Sound input tokens file) × Last actions s.compounds s.bodies s.system cause i

  abbrev FineOf : Type 0
  FineOf = (s : Sound input tokens file) × IsLastFine actions s.compounds s.bodies s.system

  sound_judges : Judges LastOf FineOf
  sound_judges =
      any (Sound input tokens file) (λ s. Last actions s.compounds s.bodies s.system) (λ s. IsLastFine actions s.compounds s.bodies s.system)
      (λ s t cause i h. moved s t (λ compounds bodies system. Last actions compounds bodies system cause i) h)
      (λ s t h. moved s t (IsLastFine actions) h)
      (λ s. last_judges actions s.compounds s.bodies s.system)
    where
      moved : (s t : Sound input tokens file) (P : List Bool → List Named → Named → Type 0) → P t.compounds t.bodies t.system → P s.compounds s.bodies s.system
      moved s t P h =
          subst (λ compounds. P compounds s.bodies s.system) (sym (same_compounds input tokens file s t))
          (subst (λ bodies. P t.compounds bodies s.system) (sym (same_bodies input tokens file s t))
          (subst (P t.compounds t.bodies) (sym (same_system input tokens file s t)) h))

  abbrev InTurn : CheckCause → ℕ → Type 0
  InTurn = Behind (IsStoppedFor input tokens file) (IsFine input tokens file) LastOf

  is_fine : Sound input tokens file → IsFine input tokens file
  is_fine s = (record { values = s.values; bodies = s.bodies; system = s.system; numbered = s.numbered }, s.structured)

  in_turn : (cause : CheckCause) (i : ℕ) → IsAtFaultFor input tokens file cause i → InTurn cause i
  in_turn TooMany i (inl h) = inl h
  in_turn TooMany i (inr (sound, over, at)) = inr (is_fine sound, (sound, inl (refl, (over, at))))
  in_turn MixedChoice i (sound, within, mixed) = inr (is_fine sound, (sound, inr (within, (refl, mixed))))
  in_turn _ i h = inl h

  abbrev HasModel : Type 0
  HasModel = (m : PepaModel) × IsModelOf input tokens file m

  node_judges : Judges (IsStoppedFor input tokens file) (IsFine input tokens file) → Judges (IsAtFaultFor input tokens file) HasModel
  node_judges stopped =
      fewer InTurn (IsAtFaultFor input tokens file) (IsFine input tokens file × FineOf) HasModel
      in_turn (λ read. (is_fine read.1.sound, (read.1.sound, (read.1.within, read.1.unmixed))))
      (behind (IsStoppedFor input tokens file) LastOf (IsFine input tokens file) FineOf stopped sound_judges)

judges : (input : List ℕ) (tokens : List Token) (tree : FileTree) → IsFileTree (terminals input tokens) tree → Judges (IsAtFaultFor input tokens (file_node_of tree)) (HasModel input tokens (file_node_of tree))
judges input tokens tree is = node_judges input tokens (file_node_of tree) (stopped_judges input tokens (file_node_of tree) (file_judges input tokens tree is))

pub one_fault : (input : List ℕ) (tokens : List Token) (tree : FileTree) (cause other : CheckCause) (i j : ℕ) → IsFileTree (terminals input tokens) tree → IsAtFaultFor input tokens (file_node_of tree) cause i → IsAtFaultFor input tokens (file_node_of tree) other j → (cause ≡ other) × (i ≡ j)
one_fault input tokens tree cause other i j is h k =
    ((judges input tokens tree is).same_cause cause other i j h k, (judges input tokens tree is).same_index cause other i j h k)

pub at_fault_or_read : (input : List ℕ) (tokens : List Token) (tree : FileTree) (cause : CheckCause) (i : ℕ) (m : PepaModel) → IsFileTree (terminals input tokens) tree → IsAtFaultFor input tokens (file_node_of tree) cause i → ¬ IsModelOf input tokens (file_node_of tree) m
at_fault_or_read input tokens tree cause i m is h read = (judges input tokens tree is).apart cause i h (m, read)

pub refused_or_structured : (input : List ℕ) (tokens : List Token) (tree : FileTree) (cause : CheckCause) (i : ℕ) (values : List Rate) (bodies : List Named) (system : Named) → IsFileTree (terminals input tokens) tree → IsStoppedFor input tokens (file_node_of tree) cause i → IsNumberedFile input tokens (file_node_of tree) values bodies system → ¬ IsStructured bodies system
refused_or_structured input tokens tree cause i values bodies system is h numbered structured =
    (stopped_judges input tokens (file_node_of tree) (file_judges input tokens tree is)).apart cause i h (record { values = values; bodies = bodies; system = system; numbered = numbered }, structured)
