-- The model of a file has names that are spelled as those of a text, and rates that can be written.
use Rattle.std.proofs.Common.{◌≡◌, ℕ, zero, suc, ◌<◌, Bool, true, false, if◌then◌else◌, List, [], ◌∷◌, map, flat_map, Some, slice_get, codes, inl, inr, sym, ◌∙◌, subst, arith}
use Rattle.std.proofs.lemmas.Option.{same_Some}
use Rattle.pepa_lexer.specs.TokenLists.{IsTokens}
use Rattle.pepa_lexer.specs.declared.kinds.Token.{Token}
use Rattle.pepa_reader.specs.Grammar.{File, file_spelled}
use Rattle.token_grammar.specs.Terminals.{terminals, name_at}
use Rattle.pepa_reader.specs.Trees.{RateNode, ProcessNode, ConstantAt, PrefixAt, ChoiceOf, CoopAt, HideOf, ProcessLineNode, file_tree}
use Rattle.pepa_model.specs.Derivation.{Among}
use Rattle.pepa_model.specs.Expression.{Const, LeafShape, ConstShape, Definition}
use Rattle.pepa_model.specs.Spelling.{IsConstantName, IsActionName, IsWrittenRate, HasWrittenRates, HasWrittenShape, HasWrittenDefinition}
use Rattle.pepa_model.specs.PepaModel.{AreDistinct}
use Rattle.pepa_resolver.specs.Parts.{process_ats, processes_of}
use Rattle.pepa_resolver.specs.Named.{Naming, named}
use Rattle.pepa_resolver.specs.Numbers.{words_in, first_places, actions_of, constants_of}
use Rattle.node_orders.proofs.Elements.{contains_cases, contains_map_from, contains_from_get}
use Rattle.pepa_checks.specs.Outline.{is_compound, expression_in, shape_in, definition_in, definitions_in}
use Rattle.pepa_checks.proofs.ModelNames.{distinct_places, first_no_more}
use Rattle.pepa_checks.proofs.TextNames.{constant_name, action_name}
use Rattle.pepa_checks.proofs.WordIndices.{line_name, word_there}

-- ---- rates

module _ (naming : Naming) (written : (node : RateNode) → IsWrittenRate (naming.rate_of node)) where
  rates_written : (node : ProcessNode) → HasWrittenRates (expression_in (named naming node))
  rates_written (ConstantAt at) = tt
  rates_written (PrefixAt at rate next) = (written rate, rates_written next)
  rates_written (ChoiceOf left right) = (rates_written left, rates_written right)
  rates_written (CoopAt at left right set) = tt
  rates_written (HideOf inner set) = tt

  pub shape_written : (compounds : List Bool) (sets : List (List ℕ)) (node : ProcessNode) → HasWrittenShape (shape_in compounds sets (named naming node))
  shape_written compounds sets (ConstantAt at) = by (is_compound compounds (naming.constant at))
    where
      by : (b : Bool) → HasWrittenShape (if b then ConstShape (naming.constant at) else LeafShape (Const (naming.constant at)))
      by true = tt
      by false = tt
  shape_written compounds sets (PrefixAt at rate next) = (written rate, rates_written next)
  shape_written compounds sets (ChoiceOf left right) = (rates_written left, rates_written right)
  shape_written compounds sets (CoopAt at left right set) = (shape_written compounds sets left, shape_written compounds sets right)
  shape_written compounds sets (HideOf inner set) = shape_written compounds sets inner

  one_written : (compounds : List Bool) (sets : List (List ℕ)) (flag : Bool) (node : ProcessNode) → HasWrittenDefinition (definition_in compounds sets flag (named naming node))
  one_written compounds sets true node = shape_written compounds sets node
  one_written compounds sets false node = rates_written node

  pub definitions_written : (compounds : List Bool) (sets : List (List ℕ)) (flags : List Bool) (lines : List ProcessLineNode) (c : ℕ) (definition : Definition)
      → slice_get (definitions_in compounds sets flags (map (λ (line : ProcessLineNode). named naming line.body) lines)) c ≡ Some definition → HasWrittenDefinition definition
  definitions_written compounds sets [] lines c definition is = absurd cc
  definitions_written compounds sets (flag ∷ flags) [] c definition is = absurd cc
  definitions_written compounds sets (flag ∷ flags) (line ∷ lines) zero definition is =
      subst HasWrittenDefinition (same_Some (definition_in compounds sets flag (named naming line.body)) definition is) (one_written compounds sets flag line.body)
  definitions_written compounds sets (flag ∷ flags) (line ∷ lines) (suc c) definition is = definitions_written compounds sets flags lines c definition is

-- ---- names

among_at : (x : List ℕ) (names : List (List ℕ)) (n : ℕ) → slice_get names n ≡ Some x → Among x names
among_at x [] n is = absurd cc
among_at x (y ∷ names) zero is = inl (sym (same_Some y x is))
among_at x (y ∷ names) (suc n) is = inr (among_at x names n is)

-- behind the first of distinct names, none is the same
apart_from_first : (x y : List ℕ) (names : List (List ℕ)) (n : ℕ) → AreDistinct (x ∷ names) → 0 < n → slice_get (x ∷ names) n ≡ Some y → ¬ (y ≡ x)
apart_from_first x y names zero apart some is same = omega arith
apart_from_first x y names (suc n) apart some is same = apart.0 (subst (λ (z : List ℕ). Among z names) same (among_at y names n is))

module _ (input : List ℕ) (tokens : List Token) (file : File) (are : IsTokens input tokens) (spelled : terminals input tokens ≡ file_spelled file) where
  pub constants_spelled : (c : ℕ) (name : List ℕ) → slice_get (constants_of (name_at input tokens) (file_tree file)) c ≡ Some name → IsConstantName name
  constants_spelled c name is =
      let found = contains_map_from (name_at input tokens) (process_ats (file_tree file).processes) name (contains_from_get (constants_of (name_at input tokens) (file_tree file)) c name is) in
      subst IsConstantName found.2 (constant_name input tokens found.0 are (line_name (terminals input tokens) file spelled found.0 found.1))

  pub actions_spelled : (a : ℕ) (name : List ℕ) → 0 < a → slice_get (actions_of (name_at input tokens) (file_tree file)) a ≡ Some name → IsActionName name
  actions_spelled a name some is =
      let words : List ℕ = flat_map words_in (processes_of (file_tree file)) in
      let names : List (List ℕ) = codes "tau" ∷ map (name_at input tokens) words in
      let no_tau : ¬ (name ≡ codes "tau") = apart_from_first (codes "tau") name _ a (distinct_places names) some is in
      elim (contains_cases (codes "tau") (map (name_at input tokens) words) name (first_no_more name names (contains_from_get (first_places names) a name is))) [
        | inl e ↦ absurd (no_tau (sym e))
        | inr k ↦
            let found = contains_map_from (name_at input tokens) words name k in
            let there = word_there (terminals input tokens) file spelled found.0 found.1 in
            elim (action_name input tokens found.0 are there.0 there.1) [
              | inl tau ↦ absurd (no_tau (sym found.2 ∙ tau))
              | inr action ↦ subst IsActionName found.2 action
            ]
      ]
