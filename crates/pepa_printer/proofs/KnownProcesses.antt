-- Processes that are written as the parts of a model are: their constants and the words of their sets are the model's names,
-- and their rates are rates of a model.
use Rattle.std.proofs.Common.{◌≡◌, ℕ, suc, ◌<◌, List, [], ◌∷◌, ◌++◌, map, length, Some, slice_get, refl}
use Rattle.std.specs.List.{All, AllZip, AllByRecursion}
use Rattle.std.proofs.lemmas.Option.{slice_get-get_or}
use Rattle.std.proofs.lemmas.List.Elements.{All-nil, All-cons, All-append}
use Rattle.pepa_rates.specs.declared.rate.Rate.{Rate}
use Rattle.pepa_lexer.specs.declared.kinds.Token.{Token}
use Rattle.pepa_reader.specs.Trees.{ProcessNode, ConstantAt, PrefixAt, ChoiceOf, CoopAt, HideOf, ProcessLineNode, FileNode}
use Rattle.pepa_model.specs.Expression.{Expression, Const, Prefixed, Chosen, Shape, LeafShape, ConstShape, CoopShape, HideShape, Definition, Sequentially, Compoundly}
use Rattle.pepa_model.specs.PepaModel.{PepaModel, IsModel, IsNamed, IsShapeOf, IsSpelled}
use Rattle.token_grammar.specs.Terminals.{name_at}
use Rattle.pepa_resolver.specs.Parts.{constants_in, RateSite, rates_in, set_words_in, processes_of}
use Rattle.pepa_text.specs.ComponentText.{name_of}
use Rattle.pepa_text.specs.SetText.{set_of}
use Rattle.pepa_printer.specs.KnownBodies.{IsBodyOf}
use Rattle.pepa_model.specs.Spelling.{IsWrittenRate, HasWrittenRates, HasWrittenShape, HasWrittenDefinition}
use Rattle.pepa_printer.proofs.KnownBodies.{body_known}
use Rattle.pepa_text.proofs.ModelNumbers.{leaf_named, constant_known}
use Rattle.pepa_printer.proofs.PrintedFiles.{IsRateAt, IsExpressionAt, IsShapeAt, IsDefinitionAt, AreLinesAt, IsPrintedFile}

module _ (input : List ℕ) (tokens : List Token) (m : PepaModel) where
  -- the name at the index is that of a constant, or of an action type other than `tau`
  abbrev pub IsConstantAt : ℕ → Type 0
  IsConstantAt i = (c : ℕ) × (c < length m.constants) × (name_at input tokens i ≡ name_of m.constants c)

  abbrev pub IsActionAt : ℕ → Type 0
  IsActionAt i = (a : ℕ) × (0 < a) × (a < length m.actions) × (name_at input tokens i ≡ name_of m.actions a)

  abbrev pub IsSiteOf : RateSite → Type 0
  IsSiteOf site = (r : Rate) × IsRateAt tokens r site.rate × IsWrittenRate r

  pub record IsKnownProcess (node : ProcessNode) : Type 0 where
    pub constants : All IsConstantAt (constants_in node)
    pub rates : All IsSiteOf (rates_in node)
    pub words : All IsActionAt (set_words_in node)

  -- ---- sequential components

  both_known : (left right : ProcessNode) → IsKnownProcess left → IsKnownProcess right → IsKnownProcess (ChoiceOf left right)
  both_known left right l r = record {
    constants = All-append IsConstantAt (constants_in left) (constants_in right) l.constants r.constants;
    rates = All-append IsSiteOf (rates_in left) (rates_in right) l.rates r.rates;
    words = All-append IsActionAt (set_words_in left) (set_words_in right) l.words r.words;
  }

  constant_alone : (at c : ℕ) → c < length m.constants → name_at input tokens at ≡ name_of m.constants c → IsKnownProcess (ConstantAt at)
  constant_alone at c known h = record {
    constants = All-cons IsConstantAt at [] (c, known, h) (All-nil IsConstantAt);
    rates = All-nil IsSiteOf;
    words = All-nil IsActionAt;
  }

  expression_known : (e : Expression) (node : ProcessNode) → IsNamed m e → HasWrittenRates e → IsExpressionAt input tokens m e node → IsKnownProcess node
  expression_known (Const c) (ConstantAt at) known written h = constant_alone at c known h
  expression_known (Prefixed a r next) (PrefixAt at rate node) known written h =
      let rest = expression_known next node known.1 written.1 h.2 in
      record {
        constants = rest.constants;
        rates = All-cons IsSiteOf (record { site_at = at; rate = rate }) (rates_in node) (r, h.1, written.0) rest.rates;
        words = rest.words;
      }
  expression_known (Chosen x y) (ChoiceOf left right) known written h =
      both_known left right (expression_known x left known.0 written.0 h.0) (expression_known y right known.1 written.1 h.1)
  expression_known e node known written h = absurd h

  -- ---- systems

  module _ (is : IsModel m) where
    words_known : (words numbers : List ℕ) → AllByRecursion (λ a. 0 < a) numbers → AllByRecursion (λ a. a < length m.actions) numbers
        → AllZip (λ i a. name_at input tokens i ≡ name_of m.actions a) words numbers → All IsActionAt words
    words_known [] [] some known h = All-nil IsActionAt
    words_known [] (a ∷ numbers) some known h = absurd h
    words_known (i ∷ words) [] some known h = absurd h
    words_known (i ∷ words) (a ∷ numbers) some known h =
        All-cons IsActionAt i words (a, some.0, known.0, h.0) (words_known words numbers some.1 known.1 h.1)

    set_known : (k : ℕ) (words : List ℕ) → k < length m.sets → AllZip (λ i a. name_at input tokens i ≡ name_of m.actions a) words (set_of m k) → All IsActionAt words
    set_known k words lt h =
        let at : slice_get m.sets k ≡ Some (set_of m k) = slice_get-get_or m.sets k [] lt in
        let set = is.sets k (set_of m k) at in
        words_known words (set_of m k) set.no_tau set.known h

    shape_known : (shape : Shape) (node : ProcessNode) → IsShapeOf m shape → HasWrittenShape shape → IsShapeAt input tokens m shape node → IsKnownProcess node
    shape_known (LeafShape e) node known written h = expression_known e node (leaf_named m is e known) written h
    shape_known (ConstShape c) (ConstantAt at) known written h = constant_alone at c (constant_known m is c known) h
    shape_known (CoopShape x y set) (CoopAt at left right words) known written h =
        let l = shape_known x left known.0 written.0 h.0 in
        let r = shape_known y right known.1 written.1 h.1 in
        record {
          constants = All-append IsConstantAt (constants_in left) (constants_in right) l.constants r.constants;
          rates = All-append IsSiteOf (rates_in left) (rates_in right) l.rates r.rates;
          words = All-append IsActionAt (set_words_in left) (words ++ set_words_in right) l.words (All-append IsActionAt words (set_words_in right) (set_known set words known.2 h.2) r.words);
        }
    shape_known (HideShape x set) (HideOf node words) known written h =
        let inner = shape_known x node known.0 written h.0 in
        record {
          constants = inner.constants;
          rates = inner.rates;
          words = All-append IsActionAt (set_words_in node) words inner.words (set_known set words known.1 h.1);
        }
    shape_known shape node known written h = absurd h

    definition_known : (definition : Definition) (node : ProcessNode) → IsBodyOf m definition → HasWrittenDefinition definition → IsDefinitionAt input tokens m definition node → IsKnownProcess node
    definition_known (Sequentially e) node known written h = expression_known e node known written h
    definition_known (Compoundly shape) node known written h = shape_known shape node known written h

    -- ---- files

    lines_known : (names : List (List ℕ)) (definitions : List Definition) (lines : List ProcessLineNode)
        → ((c : ℕ) (d : Definition) → slice_get definitions c ≡ Some d → IsBodyOf m d × HasWrittenDefinition d)
        → AreLinesAt input tokens m names definitions lines → All IsKnownProcess (map (λ (line : ProcessLineNode). line.body) lines)
    lines_known [] [] [] known h = All-nil IsKnownProcess
    lines_known (n ∷ names) (d ∷ definitions) (line ∷ lines) known h =
        let here = known 0 d refl in
        All-cons IsKnownProcess line.body (map (λ (l : ProcessLineNode). l.body) lines) (definition_known d line.body here.0 here.1 h.1)
        (lines_known names definitions lines (λ c e at. known (suc c) e at) h.2)
    lines_known names definitions lines known h = absurd h

    pub processes_known : IsSpelled m → (file : FileNode) → IsPrintedFile input tokens m file → All IsKnownProcess (processes_of file)
    processes_known spelled file printed =
        All-append IsKnownProcess (map (λ (line : ProcessLineNode). line.body) file.processes) (file.system ∷ [])
        (lines_known m.constants m.bodies file.processes (λ c d at. (body_known m is c d at, spelled.bodies c d at)) printed.lines)
        (All-cons IsKnownProcess file.system [] (shape_known m.system file.system is.system spelled.system printed.system) (All-nil IsKnownProcess))
