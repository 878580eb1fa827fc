-- The printed text of a model has lexemes, and these are the pieces of the model.
use Rattle.std.proofs.Common.{◌≡◌, ℕ, suc, List, [], ◌∷◌, ◌++◌, Some, slice_get, refl, append_assoc}
use Rattle.pepa_lexer.specs.declared.kinds.Kind.TheVariants as kinds
use Rattle.pepa_lexer.specs.declared.kinds.Sign.TheVariants.{Equals, Semicolon}
use Rattle.pepa_model.specs.Expression.{Shape, LeafShape, ConstShape, CoopShape, HideShape, Definition, Sequentially, Compoundly}
use Rattle.pepa_model.specs.PepaModel.{PepaModel, IsModel, IsShapeOf, IsSpelled}
use Rattle.pepa_text.specs.ComponentText.{operand_text}
use Rattle.pepa_printer.specs.KnownBodies.{IsBodyOf}
use Rattle.pepa_text.specs.SetText.{set_of, sign_text, hiding_text}
use Rattle.pepa_text.specs.SystemText.{written_shape, is_cooperation, is_bracketed, shape_text}
use Rattle.pepa_printer.specs.ModelText.{definition_text, line_text, lines_text, model_text}
use Rattle.pepa_model.specs.Spelling.{IsConstantName, HasWrittenShape, HasWrittenDefinition}
use Rattle.pepa_printer.proofs.KnownBodies.{body_known}
use Rattle.pepa_text.proofs.ModelNumbers.{leaf_named, constant_known, set_actions}
use Rattle.pepa_printer.proofs.Pieces.{Piece, piece, sign_piece, capital_piece, operand_pieces, coop_pieces, hiding_pieces, shape_pieces, definition_pieces, line_pieces, lines_pieces, model_pieces}
use Rattle.pepa_printer.proofs.Lexed.{Lexes, at_end, as_written, after_sign, after_lone, after_space, after_line_feed, after_capital}
use Rattle.pepa_printer.proofs.LexedParts.{Prints, after_both, after_operand, prints_constant, prints_expression, after_coop, after_hiding}

module _ (m : PepaModel) (sound : IsModel m) (words : IsSpelled m) where
  -- ---- systems

  prints_shape : (shape : Shape) → IsShapeOf m shape → HasWrittenShape shape → Prints (shape_text m shape) (shape_pieces m shape)
  prints_shape (LeafShape e) known rates = prints_expression m sound words e (leaf_named m sound e known) rates
  prints_shape (ConstShape c) known rates = prints_constant m sound words c (constant_known m sound c known)
  prints_shape (CoopShape x y set) known rates = λ rest behind ends is.
      let sign = sign_text m (set_of m set) in
      let signs = coop_pieces m (set_of m set) in
      let text = operand_text (is_cooperation (written_shape m y)) (shape_text m y) in
      let pieces = operand_pieces (is_cooperation (written_shape m y)) (shape_pieces m y) in
      let right = after_operand (is_cooperation (written_shape m y)) (shape_text m y) (shape_pieces m y) (prints_shape y known.1 rates.1) rest behind ends is in
      as_written (shape_text m x ++ (32 ∷ (sign ++ (32 ∷ (text ++ rest))))) (shape_text m (CoopShape x y set) ++ rest)
      (shape_pieces m x ++ (signs ++ (pieces ++ behind))) (shape_pieces m (CoopShape x y set) ++ behind)
      (simp append_assoc) (simp append_assoc)
      (prints_shape x known.0 rates.0 (32 ∷ (sign ++ (32 ∷ (text ++ rest)))) (signs ++ (pieces ++ behind)) refl
      (after_space (sign ++ (32 ∷ (text ++ rest))) (signs ++ (pieces ++ behind))
      (after_coop m sound words (set_of m set) (text ++ rest) (pieces ++ behind) (set_actions m sound set known.2) (after_space (text ++ rest) (pieces ++ behind) right))))
  prints_shape (HideShape x set) known rates = λ rest behind ends is.
      let hidden = after_hiding m sound words (set_of m set) rest behind (set_actions m sound set known.1) is in
      after_both (operand_text (is_bracketed (written_shape m x)) (shape_text m x)) (hiding_text m (set_of m set)) rest (operand_pieces (is_bracketed (written_shape m x)) (shape_pieces m x)) (hiding_pieces m (set_of m set)) behind
      (after_operand (is_bracketed (written_shape m x)) (shape_text m x) (shape_pieces m x) (prints_shape x known.0 rates)
      (hiding_text m (set_of m set) ++ rest) (hiding_pieces m (set_of m set) ++ behind) refl hidden)

  -- ---- lines

  prints_definition : (d : Definition) → IsBodyOf m d → HasWrittenDefinition d → Prints (definition_text m d) (definition_pieces m d)
  prints_definition (Sequentially e) known rates = prints_expression m sound words e known rates
  prints_definition (Compoundly shape) known rates = prints_shape shape known rates

  after_line : (name rest : List ℕ) (d : Definition) (behind : List Piece) → IsConstantName name → IsBodyOf m d → HasWrittenDefinition d → Lexes rest behind
      → Lexes (line_text m name d ++ rest) (line_pieces m name d ++ behind)
  after_line name rest d behind word known rates is =
      let text = definition_text m d in
      let pieces = definition_pieces m d in
      as_written (name ++ (32 ∷ 61 ∷ 32 ∷ (text ++ (59 ∷ 10 ∷ rest)))) (line_text m name d ++ rest)
      (capital_piece name ∷ sign_piece Equals ∷ (pieces ++ (sign_piece Semicolon ∷ behind))) (line_pieces m name d ++ behind)
      (simp append_assoc) (simp append_assoc)
      (after_capital name (32 ∷ 61 ∷ 32 ∷ (text ++ (59 ∷ 10 ∷ rest))) (sign_piece Equals ∷ (pieces ++ (sign_piece Semicolon ∷ behind))) word.0 word.1 refl
      (after_space (61 ∷ 32 ∷ (text ++ (59 ∷ 10 ∷ rest))) (sign_piece Equals ∷ (pieces ++ (sign_piece Semicolon ∷ behind)))
      (after_sign Equals (32 ∷ (text ++ (59 ∷ 10 ∷ rest))) (pieces ++ (sign_piece Semicolon ∷ behind)) refl
      (after_space (text ++ (59 ∷ 10 ∷ rest)) (pieces ++ (sign_piece Semicolon ∷ behind))
      (prints_definition d known rates (59 ∷ 10 ∷ rest) (sign_piece Semicolon ∷ behind) refl
      (after_lone Semicolon (10 ∷ rest) behind (λ byte. refl) (after_line_feed rest behind is)))))))

  -- each name is a constant's, and each definition can be written
  abbrev AreNames : List (List ℕ) → Type 0
  AreNames names = (c : ℕ) (name : List ℕ) → slice_get names c ≡ Some name → IsConstantName name

  abbrev AreWritten : List Definition → Type 0
  AreWritten definitions = (c : ℕ) (d : Definition) → slice_get definitions c ≡ Some d → IsBodyOf m d × HasWrittenDefinition d

  after_lines : (names : List (List ℕ)) (definitions : List Definition) (rest : List ℕ) (behind : List Piece) → AreNames names → AreWritten definitions → Lexes rest behind
      → Lexes (lines_text m names definitions ++ rest) (lines_pieces m names definitions ++ behind)
  after_lines [] definitions rest behind named written is = is
  after_lines (name ∷ names) [] rest behind named written is = is
  after_lines (name ∷ names) (d ∷ definitions) rest behind named written is =
      let body = written 0 d refl in
      after_both (line_text m name d) (lines_text m names definitions) rest (line_pieces m name d) (lines_pieces m names definitions) behind
      (after_line name (lines_text m names definitions ++ rest) d (lines_pieces m names definitions ++ behind) (named 0 name refl) body.0 body.1
      (after_lines names definitions rest behind (λ c n at. named (suc c) n at) (λ c e at. written (suc c) e at) is))

  pub model_lexes : Lexes (model_text m) (model_pieces m)
  model_lexes =
      let closed = piece kinds.End [] ∷ [] in
      let system = prints_shape m.system sound.system words.system (10 ∷ []) closed refl (after_line_feed [] closed at_end) in
      as_written (lines_text m m.constants m.bodies ++ (shape_text m m.system ++ 10 ∷ [])) (model_text m)
      (model_pieces m) (model_pieces m) (append_assoc (lines_text m m.constants m.bodies) (shape_text m m.system) (10 ∷ [])) refl
      (after_lines m.constants m.bodies (shape_text m m.system ++ 10 ∷ []) (shape_pieces m m.system ++ closed)
      words.constants (λ c d at. (body_known m sound c d at, words.bodies c d at)) system)
