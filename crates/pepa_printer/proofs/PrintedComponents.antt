-- The pieces of a sequential component are a choice of the grammar, and with their brackets a prefix, with its tree.
use Rattle.std.proofs.Common.{◌≡◌, ℕ, ◌+◌, ◌<◌, true, List, [], ◌∷◌, ◌++◌, length, refl, sym, ap, ◌∙◌, subst, arith, append_assoc, length-append}
use Rattle.std.proofs.lemmas.Option.{slice_get-get_or}
use Rattle.pepa_rates.specs.declared.rate.Rate.{Rate}
use Rattle.pepa_lexer.specs.declared.kinds.Sign.TheVariants.{Opening, Closing, Comma, Dot, Plus}
use Rattle.pepa_lexer.specs.declared.kinds.Token.{Token}
use Rattle.token_grammar.specs.declared.terminal.Terminal.{Terminal}
use Rattle.token_grammar.specs.declared.terminal.Terminal.TheVariants.{Mark, Capital}
use Rattle.pepa_reader.specs.Grammar as g
use Rattle.pepa_reader.specs.Grammar.{word_spelled, rate_spelled, choice_spelled, prefix_spelled}
use Rattle.token_grammar.specs.Terminals.{small_terminal, capital_terminal, name_at}
use Rattle.pepa_reader.specs.Trees.{ProcessNode}
use Rattle.pepa_model.specs.Expression.{Expression, Const, Prefixed, Chosen}
use Rattle.pepa_model.specs.PepaModel.{PepaModel, IsModel, IsNamed, IsSpelled}
use Rattle.pepa_text.specs.ComponentText.{name_of, is_choice}
use Rattle.pepa_model.specs.Spelling.{IsWrittenRate, HasWrittenRates}
use Rattle.pepa_printer.proofs.Pieces.{Piece, sign_piece, capital_piece, small_piece, rate_pieces, operand_pieces, expression_pieces}
use Rattle.pepa_printer.proofs.PrintedFiles.{IsExpressionAt}
use Rattle.pepa_printer.proofs.PieceTerminals.{terminals_of, terminals_append, same_length, is_capital_name, IsWordFor, StandAt, part_stands, rest_stands, front_stands, name_there}
use Rattle.pepa_printer.proofs.PieceParts.{AsProcess, AsChoice, AsPrefix, as_hidden, as_choice, as_process, as_grouped}
use Rattle.pepa_printer.proofs.PieceRates.{AsRate, rate_written}
use Rattle.pepa_printer.proofs.PrintedSets.{action_word}

-- the component's pieces are a choice, and with brackets where it is a choice a prefix
pub record HasForms (input : List ℕ) (tokens : List Token) (m : PepaModel) (e : Expression) : Type 0 where
  pub plain : (at : ℕ) → StandAt input tokens at (expression_pieces m e) → AsChoice (λ node. IsExpressionAt input tokens m e node) at (expression_pieces m e)
  pub operand : (at : ℕ) → StandAt input tokens at (operand_pieces (is_choice e) (expression_pieces m e))
      → AsPrefix (λ node. IsExpressionAt input tokens m e node) at (operand_pieces (is_choice e) (expression_pieces m e))

module _ (input : List ℕ) (tokens : List Token) (m : PepaModel) (is : IsModel m) (spelled : IsSpelled m) where
  -- a constant's name is no word of the grammar
  pub constant_spelled : (c : ℕ) → c < length m.constants → capital_terminal (name_of m.constants c) ≡ Capital
  constant_spelled c known =
      is_capital_name (name_of m.constants c) (spelled.constants c (name_of m.constants c) (slice_get-get_or m.constants c [] known)).2

  pub constant_there : (c at : ℕ) → StandAt input tokens at (capital_piece (name_of m.constants c) ∷ []) → name_at input tokens at ≡ name_of m.constants c
  constant_there c at h = name_there input tokens (capital_piece (name_of m.constants c) ∷ []) at 0 at (capital_piece (name_of m.constants c)) h refl (omega arith)

  constant_written : (c : ℕ) → c < length m.constants → (at : ℕ) → StandAt input tokens at (capital_piece (name_of m.constants c) ∷ [])
      → AsPrefix (λ node. IsExpressionAt input tokens m (Const c) node) at (capital_piece (name_of m.constants c) ∷ [])
  constant_written c known at h =
      record { part = g.Constant; spelled = ap (λ (t : Terminal). t ∷ []) (constant_spelled c known); tree = constant_there c at h }

  -- a prefix is spelled by its word, its rate and what it goes on to
  prefix_is : (name : List ℕ) (rates behind : List Piece) (word : g.Word) (rate after : List Terminal)
      → small_terminal name ≡ word_spelled word → terminals_of rates ≡ rate → terminals_of behind ≡ after
      → terminals_of (sign_piece Opening ∷ small_piece name ∷ sign_piece Comma ∷ ((rates ++ sign_piece Closing ∷ sign_piece Dot ∷ []) ++ behind))
      ≡ Mark Opening ∷ word_spelled word ∷ Mark Comma ∷ (rate ++ Mark Closing ∷ Mark Dot ∷ after)
  prefix_is name rates behind word rate after p q r =
      let close = sign_piece Closing ∷ sign_piece Dot ∷ [] in
      ap (λ (l : List Piece). terminals_of (sign_piece Opening ∷ small_piece name ∷ sign_piece Comma ∷ l)) (append_assoc rates close behind)
      ∙ ap (λ (t : Terminal). Mark Opening ∷ t ∷ Mark Comma ∷ terminals_of (rates ++ (close ++ behind))) p
      ∙ ap (λ (l : List Terminal). Mark Opening ∷ word_spelled word ∷ Mark Comma ∷ l)
      (terminals_append rates (close ++ behind) rate (Mark Closing ∷ Mark Dot ∷ after) q (ap (λ (l : List Terminal). Mark Closing ∷ Mark Dot ∷ l) r))

  -- a prefix, by what it goes on to
  prefix_written : (a : ℕ) (r : Rate) (next : Expression) → a < length m.actions → IsWrittenRate r → HasForms input tokens m next → (at : ℕ)
      → StandAt input tokens at (expression_pieces m (Prefixed a r next)) → AsPrefix (λ node. IsExpressionAt input tokens m (Prefixed a r next) node) at (expression_pieces m (Prefixed a r next))
  prefix_written a r next known written forms at h =
      let name = name_of m.actions a in
      let head = sign_piece Opening ∷ small_piece name ∷ sign_piece Comma ∷ [] in
      let close = sign_piece Closing ∷ sign_piece Dot ∷ [] in
      let behind = operand_pieces (is_choice next) (expression_pieces m next) in
      let regrouped : (rate_pieces r ++ close) ++ behind ≡ rate_pieces r ++ (close ++ behind) = append_assoc (rate_pieces r) close behind in
      let h2 : StandAt input tokens at (head ++ (rate_pieces r ++ (close ++ behind))) =
      subst (λ (l : List Piece). StandAt input tokens at (head ++ l)) regrouped h in
      let word : IsWordFor name = action_word input tokens m is spelled a known in
      let rate : AsRate tokens r (at + 3) (rate_pieces r) =
      rate_written input tokens (at + 3) r written (part_stands input tokens head (rate_pieces r) (close ++ behind) at (at + 3) h2 refl) in
      let sizes : length (rate_spelled rate.part) ≡ length (rate_pieces r) = same_length (rate_pieces r) (rate_spelled rate.part) rate.spelled in
      let n = at + 3 + length (rate_spelled rate.part) + 2 in
      let front = head ++ (rate_pieces r ++ close) in
      let long : length (rate_pieces r ++ close) ≡ length (rate_pieces r) + 2 = length-append (rate_pieces r) close in
      let far : length front ≡ 3 + length (rate_pieces r ++ close) = omega arith in
      let there : n ≡ at + length front = omega arith in
      let after : AsPrefix (λ node. IsExpressionAt input tokens m next node) n behind = forms.operand n (rest_stands input tokens front behind at n h there) in
      record {
        part = g.Activity word.word rate.part after.part;
        spelled = prefix_is name (rate_pieces r) behind word.word (rate_spelled rate.part) (prefix_spelled after.part) word.is rate.spelled after.spelled;
        tree = (name_there input tokens (expression_pieces m (Prefixed a r next)) at 1 (at + 1) (small_piece name) h refl refl, rate.tree, after.tree);
      }

  choice_written : (x y : Expression) → HasForms input tokens m x → HasForms input tokens m y → (at : ℕ)
      → StandAt input tokens at (expression_pieces m (Chosen x y)) → AsChoice (λ node. IsExpressionAt input tokens m (Chosen x y) node) at (expression_pieces m (Chosen x y))
  choice_written x y first second at h =
      let behind = operand_pieces (is_choice y) (expression_pieces m y) in
      let left : AsChoice (λ node. IsExpressionAt input tokens m x node) at (expression_pieces m x) =
      first.plain at (front_stands input tokens (expression_pieces m x) (sign_piece Plus ∷ behind) at h) in
      let sizes : length (choice_spelled left.part) ≡ length (expression_pieces m x) = same_length (expression_pieces m x) (choice_spelled left.part) left.spelled in
      let n = at + length (choice_spelled left.part) + 1 in
      let front = expression_pieces m x ++ sign_piece Plus ∷ [] in
      let far : length front ≡ length (expression_pieces m x) + 1 = length-append (expression_pieces m x) (sign_piece Plus ∷ []) in
      let there : n ≡ at + length front = omega arith in
      let h2 : StandAt input tokens at (front ++ behind) =
      subst (λ (l : List Piece). StandAt input tokens at l) (sym (append_assoc (expression_pieces m x) (sign_piece Plus ∷ []) behind)) h in
      let right : AsPrefix (λ node. IsExpressionAt input tokens m y node) n behind = second.operand n (rest_stands input tokens front behind at n h2 there) in
      record {
        part = g.Chosen left.part (g.OnePrefix right.part);
        spelled =
            terminals_append (expression_pieces m x) (sign_piece Plus ∷ behind) (choice_spelled left.part) (Mark Plus ∷ prefix_spelled right.part) left.spelled
            (ap (λ (l : List Terminal). Mark Plus ∷ l) right.spelled);
        tree = (left.tree, right.tree);
      }

  -- brackets around a component's pieces
  pub group_written : (Is : ProcessNode → Type 0) (pieces : List Piece) (at : ℕ) → StandAt input tokens at (operand_pieces true pieces)
      → ((n : ℕ) → StandAt input tokens n pieces → AsProcess Is n pieces) → AsPrefix Is at (operand_pieces true pieces)
  group_written Is pieces at h inside =
      as_grouped Is at pieces (inside (at + 1) (part_stands input tokens (sign_piece Opening ∷ []) pieces (sign_piece Closing ∷ []) at (at + 1) h refl))

  pub forms : (e : Expression) → IsNamed m e → HasWrittenRates e → HasForms input tokens m e
  forms (Const c) known written = record {
    plain = λ at h. as_choice (as_hidden (constant_written c known at h));
    operand = λ at h. constant_written c known at h;
  }
  forms (Prefixed a r next) known written =
      let behind = forms next known.1 written.1 in
      record {
        plain = λ at h. as_choice (as_hidden (prefix_written a r next known.0 written.0 behind at h));
        operand = λ at h. prefix_written a r next known.0 written.0 behind at h;
      }
  forms (Chosen x y) known written =
      let first = forms x known.0 written.0 in
      let second = forms y known.1 written.1 in
      record {
        plain = λ at h. choice_written x y first second at h;
        operand = λ at h.
            group_written (λ node. IsExpressionAt input tokens m (Chosen x y) node) (expression_pieces m (Chosen x y)) at h (λ n there. as_process (choice_written x y first second n there));
      }
