-- The names of a file that is written as the parts of a model are: its constants and action types are the model's.
use Rattle.std.proofs.Common.{◌≡◌, ℕ, List, [], ◌∷◌, ◌++◌, map, flat_map, codes, refl, sym, ap, ◌∙◌, append-nil}
use Rattle.std.specs.List.{AllZip}
use Rattle.std.proofs.lemmas.List.{map-append}
use Rattle.std.proofs.lemmas.List.Concat.{flat_map-append}
use Rattle.std.proofs.lemmas.Option.{get_or_from_slice_get}
use Rattle.pepa_lexer.specs.declared.kinds.Token.{Token}
use Rattle.pepa_reader.specs.Trees.{ProcessNode, ConstantAt, PrefixAt, ChoiceOf, CoopAt, HideOf, ProcessLineNode, FileNode}
use Rattle.pepa_model.specs.Expression.{Expression, Const, Prefixed, Chosen, Shape, LeafShape, ConstShape, CoopShape, HideShape, Definition, Sequentially, Compoundly}
use Rattle.pepa_model.specs.Leaves.{actions_in, actions_of_shape, actions_defined, action_numbers}
use Rattle.pepa_model.specs.PepaModel.{PepaModel, IsModel}
use Rattle.token_grammar.specs.Terminals.{name_at}
use Rattle.pepa_resolver.specs.Parts.{process_ats, processes_of}
use Rattle.pepa_resolver.specs.Numbers.{words_in, first_places, actions_of, constants_of}
use Rattle.pepa_text.specs.ComponentText.{name_of}
use Rattle.pepa_text.specs.SetText.{set_of}
use Rattle.pepa_printer.proofs.PrintedFiles.{IsExpressionAt, IsShapeAt, IsDefinitionAt, AreLinesAt, IsPrintedFile}
use Rattle.pepa_printer.proofs.FirstPlaces.{first_places_are}

module _ (input : List ℕ) (tokens : List Token) (m : PepaModel) where
  abbrev name : ℕ → List ℕ
  name = name_at input tokens

  abbrev action_name : ℕ → List ℕ
  action_name = name_of m.actions

  -- ---- words

  set_words : (words numbers : List ℕ) → AllZip (λ i a. name i ≡ action_name a) words numbers → map name words ≡ map action_name numbers
  set_words [] [] h = refl
  set_words [] (a ∷ numbers) h = absurd h
  set_words (i ∷ words) [] h = absurd h
  set_words (i ∷ words) (a ∷ numbers) h =
      ap (λ (n : List ℕ). n ∷ map name words) h.0 ∙ ap (λ (list : List (List ℕ)). action_name a ∷ list) (set_words words numbers h.1)

  -- two lists, one behind the other
  both_words : (words others numbers more : List ℕ) → map name words ≡ map action_name numbers → map name others ≡ map action_name more → map name (words ++ others) ≡ map action_name (numbers ++ more)
  both_words words others numbers more e h =
      map-append name words others
      ∙ ap (λ (list : List (List ℕ)). list ++ map name others) e
      ∙ ap (λ (list : List (List ℕ)). map action_name numbers ++ list) h
      ∙ sym (map-append action_name numbers more)

  expression_words : (e : Expression) (node : ProcessNode) → IsExpressionAt input tokens m e node → map name (words_in node) ≡ map action_name (actions_in e)
  expression_words (Const c) (ConstantAt at) h = refl
  expression_words (Prefixed a r next) (PrefixAt at rate node) h =
      ap (λ (n : List ℕ). n ∷ map name (words_in node)) h.0 ∙ ap (λ (list : List (List ℕ)). action_name a ∷ list) (expression_words next node h.2)
  expression_words (Chosen x y) (ChoiceOf left right) h =
      both_words (words_in left) (words_in right) (actions_in x) (actions_in y) (expression_words x left h.0) (expression_words y right h.1)
  expression_words e node h = absurd h

  shape_words : (shape : Shape) (node : ProcessNode) → IsShapeAt input tokens m shape node → map name (words_in node) ≡ map action_name (actions_of_shape m.sets shape)
  shape_words (LeafShape e) node h = expression_words e node h
  shape_words (ConstShape c) (ConstantAt at) h = refl
  shape_words (CoopShape x y set) (CoopAt at left right words) h =
      both_words (words_in left) (words ++ words_in right) (actions_of_shape m.sets x) (set_of m set ++ actions_of_shape m.sets y) (shape_words x left h.0)
      (both_words words (words_in right) (set_of m set) (actions_of_shape m.sets y) (set_words words (set_of m set) h.2) (shape_words y right h.1))
  shape_words (HideShape x set) (HideOf node words) h =
      both_words (words_in node) words (actions_of_shape m.sets x) (set_of m set) (shape_words x node h.0) (set_words words (set_of m set) h.1)
  shape_words shape node h = absurd h

  definition_words : (definition : Definition) (node : ProcessNode) → IsDefinitionAt input tokens m definition node → map name (words_in node) ≡ map action_name (actions_defined m.sets definition)
  definition_words (Sequentially e) node h = expression_words e node h
  definition_words (Compoundly shape) node h = shape_words shape node h

  -- ---- lines

  abbrev bodies_of : List ProcessLineNode → List ProcessNode
  bodies_of lines = map (λ line. line.body) lines

  lines_words : (names : List (List ℕ)) (definitions : List Definition) (lines : List ProcessLineNode) → AreLinesAt input tokens m names definitions lines
      → map name (flat_map words_in (bodies_of lines)) ≡ map action_name (flat_map (actions_defined m.sets) definitions)
  lines_words [] [] [] h = refl
  lines_words (n ∷ names) (definition ∷ definitions) (line ∷ lines) h =
      both_words (words_in line.body) (flat_map words_in (bodies_of lines)) (actions_defined m.sets definition) (flat_map (actions_defined m.sets) definitions)
      (definition_words definition line.body h.1) (lines_words names definitions lines h.2)
  lines_words names definitions lines h = absurd h

  pub lines_names : (names : List (List ℕ)) (definitions : List Definition) (lines : List ProcessLineNode) → AreLinesAt input tokens m names definitions lines → map name (process_ats lines) ≡ names
  lines_names [] [] [] h = refl
  lines_names (n ∷ names) (definition ∷ definitions) (line ∷ lines) h =
      ap (λ (k : List ℕ). k ∷ map name (process_ats lines)) h.0 ∙ ap (λ (list : List (List ℕ)). n ∷ list) (lines_names names definitions lines h.2)
  lines_names names definitions lines h = absurd h

  -- ---- files

  module _ (file : FileNode) (is : IsModel m) (printed : IsPrintedFile input tokens m file) where
    pub printed_constants : constants_of name file ≡ m.constants
    printed_constants = lines_names m.constants m.bodies file.processes printed.lines

    file_words : map name (flat_map words_in (processes_of file)) ≡ map action_name (flat_map (actions_defined m.sets) m.bodies ++ actions_of_shape m.sets m.system)
    file_words =
        ap (map name) (flat_map-append words_in (bodies_of file.processes) (file.system ∷ [])
        ∙ ap (λ (list : List ℕ). flat_map words_in (bodies_of file.processes) ++ list) (append-nil (words_in file.system)))
        ∙ both_words (flat_map words_in (bodies_of file.processes)) (words_in file.system) (flat_map (actions_defined m.sets) m.bodies) (actions_of_shape m.sets m.system)
        (lines_words m.constants m.bodies file.processes printed.lines) (shape_words m.system file.system printed.system)

    pub printed_actions : actions_of name file ≡ m.actions
    printed_actions =
        let tau : codes "tau" ≡ action_name 0 = sym (get_or_from_slice_get m.actions 0 (codes "tau") [] is.tau) in
        ap (λ (list : List (List ℕ)). first_places (codes "tau" ∷ list)) file_words
        ∙ ap (λ (n : List ℕ). first_places (n ∷ map action_name (flat_map (actions_defined m.sets) m.bodies ++ actions_of_shape m.sets m.system))) tau
        ∙ first_places_are m.actions (action_numbers m.sets m.bodies m.system) is.numbered.actions is.numbered.actions_by_place
