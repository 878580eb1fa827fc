-- The pieces of a system are a process of the grammar, and with their brackets a choice or a hiding's system, with its tree.
use Rattle.std.proofs.Common.{◌≡◌, ℕ, ◌+◌, ◌<◌, true, List, [], ◌∷◌, ◌++◌, length, sym, ap, subst, arith, append_assoc, length-append}
use Rattle.pepa_lexer.specs.declared.kinds.Sign.TheVariants.{Slash, OpeningBrace, ClosingBrace}
use Rattle.pepa_lexer.specs.declared.kinds.Token.{Token}
use Rattle.token_grammar.specs.declared.terminal.Terminal.{Terminal}
use Rattle.token_grammar.specs.declared.terminal.Terminal.TheVariants.{Mark}
use Rattle.pepa_reader.specs.Grammar as g
use Rattle.pepa_reader.specs.Grammar.{words_spelled, cooperation_spelled, process_spelled, choice_spelled, hidden_spelled}
use Rattle.pepa_model.specs.Expression.{Expression, Const, Prefixed, Chosen, Shape, LeafShape, ConstShape, CoopShape, HideShape, Definition, Sequentially, Compoundly}
use Rattle.pepa_model.specs.PepaModel.{PepaModel, IsModel, IsShapeOf, IsSpelled}
use Rattle.pepa_text.specs.ComponentText.{name_of, is_composed}
use Rattle.pepa_text.specs.SetText.{set_of}
use Rattle.pepa_text.specs.SystemText.{written_shape, is_cooperation, is_bracketed}
use Rattle.pepa_printer.specs.KnownBodies.{IsBodyOf}
use Rattle.pepa_model.specs.Spelling.{HasWrittenShape, HasWrittenDefinition}
use Rattle.pepa_text.proofs.ModelNumbers.{leaf_named, constant_known, set_actions}
use Rattle.pepa_printer.proofs.Pieces.{Piece, sign_piece, capital_piece, operand_pieces, expression_pieces, set_pieces, coop_pieces, hiding_pieces, shape_pieces, definition_pieces}
use Rattle.pepa_printer.proofs.PrintedFiles.{IsExpressionAt, IsShapeAt, IsDefinitionAt}
use Rattle.pepa_printer.proofs.PieceTerminals.{terminals_append, same_length, StandAt, part_stands, rest_stands, front_stands}
use Rattle.pepa_printer.proofs.PieceParts.{AsProcess, AsChoice, AsHidden, as_hidden, as_choice, as_process}
use Rattle.pepa_printer.proofs.PrintedSets.{AsWords, AsSign, set_written, sign_written, hiding_spelled}
use Rattle.pepa_printer.proofs.PrintedComponents.{HasForms, forms, constant_spelled, constant_there, group_written}

-- the pieces of a system are a process, with brackets around a cooperation a choice, and with brackets around what is neither
-- a constant nor a hiding one that can hide a set
pub record HasShapes (input : List ℕ) (tokens : List Token) (m : PepaModel) (x : Shape) : Type 0 where
  pub plain : (at : ℕ) → StandAt input tokens at (shape_pieces m x) → AsProcess (λ node. IsShapeAt input tokens m x node) at (shape_pieces m x)
  pub operand : (at : ℕ) → StandAt input tokens at (operand_pieces (is_cooperation (written_shape m x)) (shape_pieces m x))
      → AsChoice (λ node. IsShapeAt input tokens m x node) at (operand_pieces (is_cooperation (written_shape m x)) (shape_pieces m x))
  pub hidden : (at : ℕ) → StandAt input tokens at (operand_pieces (is_bracketed (written_shape m x)) (shape_pieces m x))
      → AsHidden (λ node. IsShapeAt input tokens m x node) at (operand_pieces (is_bracketed (written_shape m x)) (shape_pieces m x))

module _ (input : List ℕ) (tokens : List Token) (m : PepaModel) (is : IsModel m) (spelled : IsSpelled m) where
  -- a component stands in brackets before `/` if it is no constant
  leaf_hidden : (e : Expression) → HasForms input tokens m e → (at : ℕ) → StandAt input tokens at (operand_pieces (is_composed e) (expression_pieces m e))
      → AsHidden (λ node. IsExpressionAt input tokens m e node) at (operand_pieces (is_composed e) (expression_pieces m e))
  leaf_hidden (Const c) has at h = as_hidden (has.operand at h)
  leaf_hidden (Prefixed a r next) has at h =
      let e = Prefixed a r next in
      as_hidden (group_written input tokens m is spelled (λ node. IsExpressionAt input tokens m e node) (expression_pieces m e) at h (λ n there. as_process (has.plain n there)))
  leaf_hidden (Chosen x y) has at h = as_hidden (has.operand at h)

  constant_written : (c : ℕ) → c < length m.constants → (at : ℕ) → StandAt input tokens at (capital_piece (name_of m.constants c) ∷ [])
      → AsHidden (λ node. IsShapeAt input tokens m (ConstShape c) node) at (capital_piece (name_of m.constants c) ∷ [])
  constant_written c known at h =
      record {
        part = g.OnePrefix g.Constant;
        spelled = ap (λ (t : Terminal). t ∷ []) (constant_spelled input tokens m is spelled c known);
        tree = constant_there input tokens m is spelled c at h;
      }

  coop_written : (x y : Shape) (k : ℕ) → k < length m.sets → HasShapes input tokens m x → HasShapes input tokens m y → (at : ℕ)
      → StandAt input tokens at (shape_pieces m (CoopShape x y k)) → AsProcess (λ node. IsShapeAt input tokens m (CoopShape x y k) node) at (shape_pieces m (CoopShape x y k))
  coop_written x y k known first second at h =
      let set = set_of m k in
      let xs = shape_pieces m x in
      let signs = coop_pieces m set in
      let behind = operand_pieces (is_cooperation (written_shape m y)) (shape_pieces m y) in
      let left : AsProcess (λ node. IsShapeAt input tokens m x node) at xs = first.plain at (front_stands input tokens xs (signs ++ behind) at h) in
      let left_size : length (process_spelled left.part) ≡ length xs = same_length xs (process_spelled left.part) left.spelled in
      let i = at + length (process_spelled left.part) in
      let there : i ≡ at + length xs = omega arith in
      let sign : AsSign input tokens m set i =
      sign_written input tokens m is spelled set i (set_actions m is k known) (part_stands input tokens xs signs behind at i h there) in
      let sign_size : length (cooperation_spelled sign.part) ≡ length signs = same_length signs (cooperation_spelled sign.part) sign.spelled in
      let n = i + length (cooperation_spelled sign.part) in
      let front = xs ++ signs in
      let far : length front ≡ length xs + length signs = length-append xs signs in
      let beyond : n ≡ at + length front = omega arith in
      let h2 : StandAt input tokens at (front ++ behind) = subst (λ (l : List Piece). StandAt input tokens at l) (sym (append_assoc xs signs behind)) h in
      let right : AsChoice (λ node. IsShapeAt input tokens m y node) n behind = second.operand n (rest_stands input tokens front behind at n h2 beyond) in
      record {
        part = g.Cooperating left.part sign.part right.part;
        spelled =
            terminals_append xs (signs ++ behind) (process_spelled left.part) (cooperation_spelled sign.part ++ choice_spelled right.part) left.spelled
            (terminals_append signs behind (cooperation_spelled sign.part) (choice_spelled right.part) sign.spelled right.spelled);
        tree = (left.tree, right.tree, sign.indices);
      }

  hiding_written : (x : Shape) (k : ℕ) → k < length m.sets → HasShapes input tokens m x → (at : ℕ)
      → StandAt input tokens at (shape_pieces m (HideShape x k)) → AsHidden (λ node. IsShapeAt input tokens m (HideShape x k) node) at (shape_pieces m (HideShape x k))
  hiding_written x k known inner at h =
      let set = set_of m k in
      let xs = operand_pieces (is_bracketed (written_shape m x)) (shape_pieces m x) in
      let signs = hiding_pieces m set in
      let opened = sign_piece Slash ∷ sign_piece OpeningBrace ∷ [] in
      let left : AsHidden (λ node. IsShapeAt input tokens m x node) at xs = inner.hidden at (front_stands input tokens xs signs at h) in
      let left_size : length (hidden_spelled left.part) ≡ length xs = same_length xs (hidden_spelled left.part) left.spelled in
      let n = at + length (hidden_spelled left.part) + 2 in
      let front = xs ++ opened in
      let far : length front ≡ length xs + 2 = length-append xs opened in
      let there : n ≡ at + length front = omega arith in
      let h2 : StandAt input tokens at (front ++ (set_pieces m set ++ sign_piece ClosingBrace ∷ [])) =
      subst (λ (l : List Piece). StandAt input tokens at l) (sym (append_assoc xs opened (set_pieces m set ++ sign_piece ClosingBrace ∷ []))) h in
      let words : AsWords input tokens m set n =
      set_written input tokens m is spelled set n (set_actions m is k known) (part_stands input tokens front (set_pieces m set) (sign_piece ClosingBrace ∷ []) at n h2 there) in
      record {
        part = g.Hiding left.part words.words;
        spelled =
            terminals_append xs signs (hidden_spelled left.part) (Mark Slash ∷ Mark OpeningBrace ∷ (words_spelled words.words ++ Mark ClosingBrace ∷ [])) left.spelled
            (hiding_spelled input tokens m is spelled set words.words words.spelled);
        tree = (left.tree, words.indices);
      }

  pub shapes : (x : Shape) → IsShapeOf m x → HasWrittenShape x → HasShapes input tokens m x
  shapes (LeafShape e) known written =
      let has = forms input tokens m is spelled e (leaf_named m is e known) written in
      record {
        plain = λ at h. as_process (has.plain at h);
        operand = λ at h. has.plain at h;
        hidden = λ at h. leaf_hidden e has at h;
      }
  shapes (ConstShape c) known written =
      let defined = constant_known m is c known in
      record {
        plain = λ at h. as_process (as_choice (constant_written c defined at h));
        operand = λ at h. as_choice (constant_written c defined at h);
        hidden = λ at h. constant_written c defined at h;
      }
  shapes (CoopShape x y k) known written =
      let first = shapes x known.0 written.0 in
      let second = shapes y known.1 written.1 in
      let whole = coop_written x y k known.2 first second in
      let z = CoopShape x y k in
      let closed = λ (at : ℕ). λ (h : StandAt input tokens at (operand_pieces true (shape_pieces m z))).
      as_hidden (group_written input tokens m is spelled (λ node. IsShapeAt input tokens m z node) (shape_pieces m z) at h whole) in
      record {
        plain = whole;
        operand = λ at h. as_choice (closed at h);
        hidden = closed;
      }
  shapes (HideShape x k) known written =
      let whole = hiding_written x k known.1 (shapes x known.0 written) in
      record {
        plain = λ at h. as_process (as_choice (whole at h));
        operand = λ at h. as_choice (whole at h);
        hidden = whole;
      }

  -- what a constant stands for
  pub definition_written : (definition : Definition) → IsBodyOf m definition → HasWrittenDefinition definition → (at : ℕ) → StandAt input tokens at (definition_pieces m definition)
      → AsProcess (λ node. IsDefinitionAt input tokens m definition node) at (definition_pieces m definition)
  definition_written (Sequentially e) known written at h = as_process ((forms input tokens m is spelled e known written).plain at h)
  definition_written (Compoundly shape) known written at h = (shapes shape known written).plain at h
