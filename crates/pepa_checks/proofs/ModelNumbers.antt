-- The action types and the sets of a file's model are numbered by their first places.
use Rattle.std.proofs.Common.{◌≡◌, ℕ, zero, suc, Bool, true, false, if◌then◌else◌, nat_eq, ◌||◌, List, [], ◌∷◌, ◌++◌, map, flat_map, length, Some, get_or, inl, inr, refl, sym, ap, ◌∙◌, subst, arith, codes, append-nil}
use Rattle.std.specs.List.{Contains}
use Rattle.std.proofs.lemmas.List.{map-append}
use Rattle.std.proofs.lemmas.List.Concat.{flat_map-append}
use Rattle.std.proofs.lemmas.List.Elements.{Contains-append_left, Contains-append_right}
use Rattle.std.proofs.lemmas.Option.{get_or_from_slice_get}
use Rattle.pepa_model.specs.Expression.{Shape, LeafShape, ConstShape, Const, Definition}
use Rattle.pepa_model.specs.Leaves.{each_once, actions_in, actions_of_shape, actions_defined, action_numbers, sets_in, sets_defined, set_numbers}
use Rattle.pepa_model.specs.PepaModel.{AreByFirstPlaces}
use Rattle.pepa_reader.specs.Trees.{ProcessNode, ConstantAt, PrefixAt, ChoiceOf, CoopAt, HideOf, ProcessLineNode, FileNode}
use Rattle.pepa_resolver.specs.Parts.{processes_of}
use Rattle.pepa_resolver.specs.Named.{Named, NamedConstant, NamedPrefix, NamedChoice, NamedCoop, NamedHide, Naming, named, ascending_set}
use Rattle.pepa_checks.specs.Structure.{has_system}
use Rattle.pepa_resolver.specs.Numbers.{words_in, place_in, actions_of, actions_named, named_bodies, named_system}
use Rattle.node_orders.proofs.Elements.{contains_here, contains_there}
use Rattle.pepa_resolver.proofs.NumberMeanings.{place_stands, first_there}
use Rattle.pepa_checks.specs.Outline.{is_compound, expression_in, sets_written, sets_of, shape_in, definition_in, definitions_in}
use Rattle.pepa_checks.specs.Sequences.{HasSequentialParts, AreBodies}
use Rattle.pepa_checks.proofs.FirstPlaceNumbers.{Grows, grows_append, grows_split, set_grows, placed, places_grow, once_grown}

-- ---- numbers of processes grow as their words do

-- it grows by a part as it does by another one
abbrev GrowsAs : List ℕ → List ℕ → Type 0
GrowsAs words numbers = (from to : ℕ) → Grows from words to → Grows from numbers to

grows_both : (words numbers others more : List ℕ) → GrowsAs words numbers → GrowsAs others more → GrowsAs (words ++ others) (numbers ++ more)
grows_both words numbers others more left right from to g =
    let parts = grows_split from to words others g in
    grows_append from parts.0 to numbers more (left from parts.0 parts.1) (right parts.0 to parts.2)

mapped : (f : ℕ → ℕ) (words others numbers : List ℕ) → GrowsAs (map f words ++ map f others) numbers → GrowsAs (map f (words ++ others)) numbers
mapped f words others numbers h from to g = h from to (subst (λ (l : List ℕ). Grows from l to) (map-append f words others) g)

module _ (naming : Naming) where
  process_grows : (process : ProcessNode) → GrowsAs (map naming.action (words_in process)) (actions_named (named naming process))
  process_grows (ConstantAt at) = λ from to g. g
  process_grows (PrefixAt at rate next) = λ from to g. elim g [ inl h ↦ inl (h.0, process_grows next from to h.1) | inr h ↦ inr (h.0, process_grows next (suc from) to h.1) ]
  process_grows (ChoiceOf left right) =
      mapped naming.action (words_in left) (words_in right) (actions_named (named naming left) ++ actions_named (named naming right))
      (grows_both (map naming.action (words_in left)) (actions_named (named naming left)) (map naming.action (words_in right)) (actions_named (named naming right)) (process_grows left) (process_grows right))
  process_grows (CoopAt at left right set) =
      let l = actions_named (named naming left) in
      let r = actions_named (named naming right) in
      let s = ascending_set (map naming.action set) in
      mapped naming.action (words_in left) (set ++ words_in right) (l ++ (s ++ r))
      (grows_both (map naming.action (words_in left)) l (map naming.action (set ++ words_in right)) (s ++ r) (process_grows left)
      (mapped naming.action set (words_in right) (s ++ r)
      (grows_both (map naming.action set) s (map naming.action (words_in right)) r (λ from to g. set_grows from to (map naming.action set) g) (process_grows right))))
  process_grows (HideOf inner set) =
      let i = actions_named (named naming inner) in
      let s = ascending_set (map naming.action set) in
      mapped naming.action (words_in inner) set (i ++ s)
      (grows_both (map naming.action (words_in inner)) i (map naming.action set) s (process_grows inner) (λ from to g. set_grows from to (map naming.action set) g))

  processes_grow : (processes : List ProcessNode) → GrowsAs (map naming.action (flat_map words_in processes)) (flat_map actions_named (map (named naming) processes))
  processes_grow [] = λ from to g. g
  processes_grow (process ∷ processes) =
      mapped naming.action (words_in process) (flat_map words_in processes) (actions_named (named naming process) ++ flat_map actions_named (map (named naming) processes))
      (grows_both (map naming.action (words_in process)) (actions_named (named naming process)) (map naming.action (flat_map words_in processes)) (flat_map actions_named (map (named naming) processes)) (process_grows process) (processes_grow processes))

-- ---- the action types of an outline are those of its processes

no_left : (a b : Bool) → (a || b) ≡ false → a ≡ false
no_left true b h = absurd cc
no_left false b h = refl

no_right : (a b : Bool) → (a || b) ≡ false → b ≡ false
no_right true b h = absurd cc
no_right false b h = h

actions_expression : (process : Named) → has_system process ≡ false → actions_in (expression_in process) ≡ actions_named process
actions_expression (NamedConstant at c) h = refl
actions_expression (NamedPrefix at action rate next) h = ap (λ (l : List ℕ). action ∷ l) (actions_expression next h)
actions_expression (NamedChoice left right) h =
    ap (λ (l : List ℕ). l ++ actions_in (expression_in right)) (actions_expression left (no_left (has_system left) (has_system right) h))
    ∙ ap (λ (l : List ℕ). actions_named left ++ l) (actions_expression right (no_right (has_system left) (has_system right) h))
actions_expression (NamedCoop left right set) h = absurd cc
actions_expression (NamedHide inner set) h = absurd cc

no_sets : (process : Named) → has_system process ≡ false → sets_written process ≡ []
no_sets (NamedConstant at c) h = refl
no_sets (NamedPrefix at action rate next) h = no_sets next h
no_sets (NamedChoice left right) h =
    ap (λ (l : List (List ℕ)). l ++ sets_written right) (no_sets left (no_left (has_system left) (has_system right) h))
    ∙ no_sets right (no_right (has_system left) (has_system right) h)
no_sets (NamedCoop left right set) h = absurd cc
no_sets (NamedHide inner set) h = absurd cc

neither : (a b : Bool) → a ≡ false → b ≡ false → (a || b) ≡ false
neither true b h k = absurd cc
neither false b h k = k

module _ (compounds : List Bool) (sets : List (List ℕ)) where
  -- the sets of the process stand at the places of their numbers
  abbrev pub HasItsSets : Named → Type 0
  HasItsSets process = (set : List ℕ) → Contains (sets_written process) set → get_or sets (place_in sets set) [] ≡ set

  actions_shape : (process : Named) → HasSequentialParts process → HasItsSets process → actions_of_shape sets (shape_in compounds sets process) ≡ actions_named process
  actions_shape (NamedConstant at c) parts found = by (is_compound compounds c)
    where
      by : (b : Bool) → actions_of_shape sets (if b then ConstShape c else LeafShape (Const c)) ≡ []
      by true = refl
      by false = refl
  actions_shape (NamedPrefix at action rate next) parts found = actions_expression (NamedPrefix at action rate next) parts
  actions_shape (NamedChoice left right) parts found = actions_expression (NamedChoice left right) (neither (has_system left) (has_system right) parts.0 parts.1)
  actions_shape (NamedCoop left right set) parts found =
      let l = actions_shape left parts.0 (λ s among. found s (Contains-append_left (sets_written left) (set ∷ sets_written right) s among)) in
      let r = actions_shape right parts.1 (λ s among. found s (Contains-append_right (sets_written left) (set ∷ sets_written right) s (contains_there set (sets_written right) s among))) in
      let s = found set (Contains-append_right (sets_written left) (set ∷ sets_written right) set (contains_here set (sets_written right))) in
      ap (λ (x : List ℕ). x ++ (get_or sets (place_in sets set) [] ++ actions_of_shape sets (shape_in compounds sets right))) l
      ∙ ap (λ (x : List ℕ). actions_named left ++ (x ++ actions_of_shape sets (shape_in compounds sets right))) s
      ∙ ap (λ (x : List ℕ). actions_named left ++ (set ++ x)) r
  actions_shape (NamedHide inner set) parts found =
      let i = actions_shape inner parts (λ s among. found s (Contains-append_left (sets_written inner) (set ∷ []) s among)) in
      let s = found set (Contains-append_right (sets_written inner) (set ∷ []) set (contains_here set [])) in
      ap (λ (x : List ℕ). x ++ get_or sets (place_in sets set) []) i ∙ ap (λ (x : List ℕ). actions_named inner ++ x) s

  sets_shape : (process : Named) → HasSequentialParts process → sets_in (shape_in compounds sets process) ≡ map (place_in sets) (sets_written process)
  sets_shape (NamedConstant at c) parts = by (is_compound compounds c)
    where
      by : (b : Bool) → sets_in (if b then ConstShape c else LeafShape (Const c)) ≡ []
      by true = refl
      by false = refl
  sets_shape (NamedPrefix at action rate next) parts = sym (ap (map (place_in sets)) (no_sets (NamedPrefix at action rate next) parts))
  sets_shape (NamedChoice left right) parts = sym (ap (map (place_in sets)) (no_sets (NamedChoice left right) (neither (has_system left) (has_system right) parts.0 parts.1)))
  sets_shape (NamedCoop left right set) parts =
      ap (λ (x : List ℕ). x ++ (place_in sets set ∷ sets_in (shape_in compounds sets right))) (sets_shape left parts.0)
      ∙ ap (λ (x : List ℕ). map (place_in sets) (sets_written left) ++ (place_in sets set ∷ x)) (sets_shape right parts.1)
      ∙ sym (map-append (place_in sets) (sets_written left) (set ∷ sets_written right))
  sets_shape (NamedHide inner set) parts =
      ap (λ (x : List ℕ). x ++ place_in sets set ∷ []) (sets_shape inner parts)
      ∙ sym (map-append (place_in sets) (sets_written inner) (set ∷ []))

  record AreSound (flags : List Bool) (bodies : List Named) : Type 0 where
    one_each : length flags ≡ length bodies
    are : AreBodies flags bodies
    found : (set : List ℕ) → Contains (flat_map sets_written bodies) set → get_or sets (place_in sets set) [] ≡ set

  rest_sound : (flag : Bool) (flags : List Bool) (body : Named) (bodies : List Named) → AreSound (flag ∷ flags) (body ∷ bodies) → AreSound flags bodies
  rest_sound flag flags body bodies sound = record {
    one_each = let e : suc (length flags) ≡ suc (length bodies) = sound.one_each in omega arith;
    are = record { parts = λ c b is. sound.are.parts (suc c) b is; plain = λ c b is flagged. sound.are.plain (suc c) b is flagged };
    found = λ set among. sound.found set (Contains-append_right (sets_written body) (flat_map sets_written bodies) set among);
  }

  actions_definition : (flag : Bool) (body : Named) → HasSequentialParts body → (flag ≡ false → has_system body ≡ false) → HasItsSets body → actions_defined sets (definition_in compounds sets flag body) ≡ actions_named body
  actions_definition true body parts plain found = actions_shape body parts found
  actions_definition false body parts plain found = actions_expression body (plain refl)

  actions_definitions : (flags : List Bool) (bodies : List Named) → AreSound flags bodies → flat_map (actions_defined sets) (definitions_in compounds sets flags bodies) ≡ flat_map actions_named bodies
  actions_definitions [] [] sound = refl
  actions_definitions [] (body ∷ bodies) sound = let e = sound.one_each in absurd (omega arith)
  actions_definitions (flag ∷ flags) [] sound = let e = sound.one_each in absurd (omega arith)
  actions_definitions (flag ∷ flags) (body ∷ bodies) sound =
      ap (λ (l : List ℕ). l ++ flat_map (actions_defined sets) (definitions_in compounds sets flags bodies))
      (actions_definition flag body (sound.are.parts zero body refl) (λ e. sound.are.plain zero body refl (ap Some e)) (λ set among. sound.found set (Contains-append_left (sets_written body) (flat_map sets_written bodies) set among)))
      ∙ ap (λ (l : List ℕ). actions_named body ++ l) (actions_definitions flags bodies (rest_sound flag flags body bodies sound))

  sets_definition : (flag : Bool) (body : Named) → HasSequentialParts body → (flag ≡ false → has_system body ≡ false) → sets_defined (definition_in compounds sets flag body) ≡ map (place_in sets) (sets_written body)
  sets_definition true body parts plain = sets_shape body parts
  sets_definition false body parts plain = sym (ap (map (place_in sets)) (no_sets body (plain refl)))

  sets_definitions : (flags : List Bool) (bodies : List Named) → AreSound flags bodies → flat_map sets_defined (definitions_in compounds sets flags bodies) ≡ map (place_in sets) (flat_map sets_written bodies)
  sets_definitions [] [] sound = refl
  sets_definitions [] (body ∷ bodies) sound = let e = sound.one_each in absurd (omega arith)
  sets_definitions (flag ∷ flags) [] sound = let e = sound.one_each in absurd (omega arith)
  sets_definitions (flag ∷ flags) (body ∷ bodies) sound =
      ap (λ (l : List ℕ). l ++ flat_map sets_defined (definitions_in compounds sets flags bodies))
      (sets_definition flag body (sound.are.parts zero body refl) (λ e. sound.are.plain zero body refl (ap Some e)))
      ∙ ap (λ (l : List ℕ). map (place_in sets) (sets_written body) ++ l) (sets_definitions flags bodies (rest_sound flag flags body bodies sound))
      ∙ sym (map-append (place_in sets) (sets_written body) (flat_map sets_written bodies))

-- ---- a file's sets, at the places of their numbers

module _ (compounds : List Bool) (bodies : List Named) (system : Named) (one_each : length compounds ≡ length bodies) (are : AreBodies compounds bodies) (parts : HasSequentialParts system) where
  abbrev written : List (List ℕ)
  written = flat_map sets_written bodies ++ sets_written system

  abbrev sets : List (List ℕ)
  sets = sets_of bodies system

  abbrev definitions : List Definition
  definitions = definitions_in compounds sets compounds bodies

  abbrev shape : Shape
  shape = shape_in compounds sets system

  set_found : (set : List ℕ) → Contains written set → get_or sets (place_in sets set) [] ≡ set
  set_found set among = get_or_from_slice_get sets (place_in sets set) set [] (place_stands set sets (first_there set written among))

  bodies_sound : AreSound compounds sets compounds bodies
  bodies_sound = record {
    one_each = one_each;
    are = are;
    found = λ set among. set_found set (Contains-append_left (flat_map sets_written bodies) (sets_written system) set among);
  }

  pub sets_by_place : AreByFirstPlaces (set_numbers definitions shape) (length sets)
  sets_by_place =
      let numbers : set_numbers definitions shape ≡ map (place_in sets) written =
      ap (λ (l : List ℕ). l ++ sets_in shape) (sets_definitions compounds sets compounds bodies bodies_sound)
      ∙ ap (λ (l : List ℕ). map (place_in sets) (flat_map sets_written bodies) ++ l) (sets_shape compounds sets system parts)
      ∙ sym (map-append (place_in sets) (flat_map sets_written bodies) (sets_written system)) in
      ap (each_once nat_eq) numbers ∙ once_grown (length sets) (map (place_in sets) written) (places_grow written)

  actions_outline : action_numbers sets definitions shape ≡ 0 ∷ flat_map actions_named (bodies ++ system ∷ [])
  actions_outline =
      ap (λ (l : List ℕ). 0 ∷ (l ++ actions_of_shape sets shape)) (actions_definitions compounds sets compounds bodies bodies_sound)
      ∙ ap (λ (l : List ℕ). 0 ∷ (flat_map actions_named bodies ++ l))
      (actions_shape compounds sets system parts (λ set among. set_found set (Contains-append_right (flat_map sets_written bodies) (sets_written system) set among))
      ∙ sym (append-nil (actions_named system)))
      ∙ ap (λ (l : List ℕ). 0 ∷ l) (sym (flat_map-append actions_named bodies (system ∷ [])))

  -- where the processes are those of a file, named so that an action type has the place of its name
  pub actions_by_place : (name : ℕ → List ℕ) (file : FileNode) (naming : Naming) → ((i : ℕ) → naming.action i ≡ place_in (actions_of name file) (name i)) → bodies ≡ named_bodies naming file → system ≡ named_system naming file → AreByFirstPlaces (action_numbers sets definitions shape) (length (actions_of name file))
  actions_by_place name file naming acts bodies_are system_is =
      let words = flat_map words_in (processes_of file) in
      let actions = actions_of name file in
      let tau : place_in actions (codes "tau") ≡ 0 = placed actions (codes "tau") 0 refl (omega arith) in
      let by_names : map naming.action words ≡ map (place_in actions) (map name words) = each words in
      let grown : Grows zero (0 ∷ map naming.action words) (length actions) =
      subst (λ (l : List ℕ). Grows zero (0 ∷ l) (length actions)) (sym by_names)
      (subst (λ (n : ℕ). Grows zero (n ∷ map (place_in actions) (map name words)) (length actions)) tau (places_grow (codes "tau" ∷ map name words))) in
      let numbers : bodies ++ system ∷ [] ≡ map (named naming) (processes_of file) =
      ap (λ (l : List Named). l ++ system ∷ []) bodies_are ∙ ap (λ (p : Named). named_bodies naming file ++ p ∷ []) system_is
      ∙ ap (λ (l : List Named). l ++ named_system naming file ∷ []) (sym (bodies_mapped file.processes))
      ∙ sym (map-append (named naming) (map (λ (line : ProcessLineNode). line.body) file.processes) (file.system ∷ [])) in
      ap (each_once nat_eq) actions_outline
      ∙ once_grown (length actions) (0 ∷ flat_map actions_named (bodies ++ system ∷ []))
      (subst (λ (l : List Named). Grows zero (0 ∷ flat_map actions_named l) (length actions)) (sym numbers) (tail grown))
    where
      bodies_mapped : (lines : List ProcessLineNode) → map (named naming) (map (λ (line : ProcessLineNode). line.body) lines) ≡ map (λ (line : ProcessLineNode). named naming line.body) lines
      bodies_mapped [] = refl
      bodies_mapped (line ∷ lines) = ap (λ (l : List Named). named naming line.body ∷ l) (bodies_mapped lines)

      each : (words : List ℕ) → map naming.action words ≡ map (place_in (actions_of name file)) (map name words)
      each [] = refl
      each (word ∷ words) = ap (λ (n : ℕ). n ∷ map naming.action words) (acts word) ∙ ap (λ (l : List ℕ). place_in (actions_of name file) (name word) ∷ l) (each words)

      tail : Grows zero (0 ∷ map naming.action (flat_map words_in (processes_of file))) (length (actions_of name file)) → Grows zero (0 ∷ flat_map actions_named (map (named naming) (processes_of file))) (length (actions_of name file))
      tail (inl g) = inl (g.0, processes_grow naming (processes_of file) zero (length (actions_of name file)) g.1)
      tail (inr g) = inr (g.0, processes_grow naming (processes_of file) (suc zero) (length (actions_of name file)) g.1)
