-- Processes that are written as the parts of a model are: with numbers in place of their names they are those parts.
use Rattle.std.proofs.Common.{◌≡◌, ℕ, suc, ◌+◌, ◌<◌, List, [], ◌∷◌, map, length, Some, slice_get, refl, sym, ap, ◌∙◌}
use Rattle.std.specs.List.{AllZip, AllByRecursion}
use Rattle.std.specs.List.Sorted.{IsStrictlyIncreasing}
use Rattle.std.proofs.lemmas.Option.{slice_get-get_or}
use Rattle.pepa_rates.specs.declared.rate.Rate.{Rate}
use Rattle.pepa_lexer.specs.declared.kinds.Token.{Token}
use Rattle.pepa_reader.specs.Trees.{RateNode, ProcessNode, ConstantAt, PrefixAt, ChoiceOf, CoopAt, HideOf, ProcessLineNode}
use Rattle.pepa_model.specs.Expression.{Expression, Const, Prefixed, Chosen, Shape, LeafShape, ConstShape, CoopShape, HideShape, Definition, Sequentially, Compoundly}
use Rattle.pepa_model.specs.PepaModel.{PepaModel, IsModel, IsNamed, IsShapeOf}
use Rattle.token_grammar.specs.Terminals.{name_at}
use Rattle.pepa_resolver.specs.Named.{Naming, named, ascending_set}
use Rattle.pepa_resolver.proofs.Ascending.{is_set_of}
use Rattle.pepa_text.specs.ComponentText.{name_of}
use Rattle.pepa_text.specs.SetText.{set_of as model_set}
use Rattle.pepa_printer.specs.KnownBodies.{IsBodyOf}
use Rattle.pepa_model.specs.Spelling.{IsWrittenRate, HasWrittenRates, HasWrittenShape, HasWrittenDefinition}
use Rattle.pepa_text.proofs.ModelNumbers.{leaf_named, constant_known}
use Rattle.pepa_printer.proofs.PrintedFiles.{IsRateAt, IsExpressionAt, IsShapeAt, IsDefinitionAt, AreLinesAt}
use Rattle.pepa_printer.proofs.Shown.{Shows, ShowsShape, ShowsDefinition}

-- the numbers and rates that a naming gives are the model's
pub record IsNamingOf (input : List ℕ) (tokens : List Token) (m : PepaModel) (naming : Naming) : Type 0 where
  pub constant_is : (i c : ℕ) → c < length m.constants → name_at input tokens i ≡ name_of m.constants c → naming.constant i ≡ c
  pub action_is : (i a : ℕ) → a < length m.actions → name_at input tokens i ≡ name_of m.actions a → naming.action i ≡ a
  pub rate_is : (r : Rate) (node : RateNode) → IsRateAt tokens r node → IsWrittenRate r → naming.rate_of node ≡ r

module _ (input : List ℕ) (tokens : List Token) (m : PepaModel) (naming : Naming) (fits : IsNamingOf input tokens m naming) where
  -- ---- sequential components

  pub shows_expression : (e : Expression) (node : ProcessNode) → IsNamed m e → HasWrittenRates e → IsExpressionAt input tokens m e node → Shows e (named naming node)
  shows_expression (Const c) (ConstantAt at) known written h = fits.constant_is at c known h
  shows_expression (Prefixed a r next) (PrefixAt at rate node) known written h =
      (fits.action_is (at + 1) a known.0 h.0, fits.rate_is r rate h.1 written.0, shows_expression next node known.1 written.1 h.2)
  shows_expression (Chosen x y) (ChoiceOf left right) known written h =
      (shows_expression x left known.0 written.0 h.0, shows_expression y right known.1 written.1 h.1)
  shows_expression e node known written h = absurd h

  -- ---- sets

  -- the name at the index is that of the action type
  abbrev IsWordAt : ℕ → ℕ → Type 0
  IsWordAt i a = name_at input tokens i ≡ name_of m.actions a

  set_numbers : (words numbers : List ℕ) → AllByRecursion (λ a. a < length m.actions) numbers → AllZip IsWordAt words numbers → map naming.action words ≡ numbers
  set_numbers [] [] known h = refl
  set_numbers [] (a ∷ numbers) known h = absurd h
  set_numbers (i ∷ words) [] known h = absurd h
  set_numbers (i ∷ words) (a ∷ numbers) known h =
      ap (λ (n : ℕ). n ∷ map naming.action words) (fits.action_is i a known.0 h.0) ∙ ap (λ (list : List ℕ). a ∷ list) (set_numbers words numbers known.1 h.1)

  already_ascending : (numbers : List ℕ) → IsStrictlyIncreasing numbers → ascending_set numbers ≡ numbers
  already_ascending numbers up = sym (is_set_of numbers numbers up (λ n h. h) (λ n h. h))

  shows_set : IsModel m → (k : ℕ) (words : List ℕ) → k < length m.sets → AllZip IsWordAt words (model_set m k) → slice_get m.sets k ≡ Some (ascending_set (map naming.action words))
  shows_set is k words lt h =
      let at : slice_get m.sets k ≡ Some (model_set m k) = slice_get-get_or m.sets k [] lt in
      let set = is.sets k (model_set m k) at in
      let same : map naming.action words ≡ model_set m k = set_numbers words (model_set m k) set.known h in
      at ∙ ap (λ (s : List ℕ). Some s) (sym (ap ascending_set same ∙ already_ascending (model_set m k) set.ascends))

  -- ---- systems

  pub shows_shape : IsModel m → (shape : Shape) (node : ProcessNode) → IsShapeOf m shape → HasWrittenShape shape → IsShapeAt input tokens m shape node → ShowsShape m shape (named naming node)
  shows_shape is (LeafShape e) node known written h = shows_expression e node (leaf_named m is e known) written h
  shows_shape is (ConstShape c) (ConstantAt at) known written h = fits.constant_is at c (constant_known m is c known) h
  shows_shape is (CoopShape x y set) (CoopAt at left right words) known written h =
      (shows_shape is x left known.0 written.0 h.0, shows_shape is y right known.1 written.1 h.1, shows_set is set words known.2 h.2)
  shows_shape is (HideShape x set) (HideOf node words) known written h =
      (shows_shape is x node known.0 written h.0, shows_set is set words known.1 h.1)
  shows_shape is shape node known written h = absurd h

  shows_definition : IsModel m → (definition : Definition) (node : ProcessNode) → IsBodyOf m definition → HasWrittenDefinition definition
      → IsDefinitionAt input tokens m definition node → ShowsDefinition m definition (named naming node)
  shows_definition is (Sequentially e) node known written h = shows_expression e node known written h
  shows_definition is (Compoundly shape) node known written h = shows_shape is shape node known written h

  pub shows_lines : IsModel m → (names : List (List ℕ)) (definitions : List Definition) (lines : List ProcessLineNode)
      → ((c : ℕ) (d : Definition) → slice_get definitions c ≡ Some d → IsBodyOf m d × HasWrittenDefinition d)
      → AreLinesAt input tokens m names definitions lines
      → AllZip (ShowsDefinition m) definitions (map (λ (line : ProcessLineNode). named naming line.body) lines)
  shows_lines is [] [] [] known h = tt
  shows_lines is (n ∷ names) (d ∷ definitions) (line ∷ lines) known h =
      let here = known 0 d refl in
      (shows_definition is d line.body here.0 here.1 h.1, shows_lines is names definitions lines (λ c e at. known (suc c) e at) h.2)
  shows_lines is names definitions lines known h = absurd h
