-- Parts of the grammar that pieces are, with their trees, and how they stand for one another.
use Rattle.std.proofs.Common.{◌≡◌, ℕ, ◌+◌, List, [], ◌∷◌, refl, ap}
use Rattle.pepa_lexer.specs.declared.kinds.Sign.TheVariants.{Opening, Closing}
use Rattle.token_grammar.specs.declared.terminal.Terminal.{Terminal}
use Rattle.token_grammar.specs.declared.terminal.Terminal.TheVariants.{Mark}
use Rattle.pepa_reader.specs.Grammar.{Process, OneChoice, Choice, OneHidden, Hidden, OnePrefix, Prefix, Grouped, process_spelled, choice_spelled, hidden_spelled, prefix_spelled}
use Rattle.pepa_reader.specs.Trees.{ProcessNode, process_tree, choice_tree, hidden_tree, prefix_tree}
use Rattle.pepa_printer.proofs.Pieces.{Piece, sign_piece, bracketed}
use Rattle.pepa_printer.proofs.PieceTerminals.{terminals_of, terminals_append}

-- the pieces are a process of the grammar, whose tree from this index on is so
pub record AsProcess (Is : ProcessNode → Type 0) (at : ℕ) (pieces : List Piece) : Type 0 where
  pub part : Process
  pub spelled : terminals_of pieces ≡ process_spelled part
  pub tree : Is (process_tree at part)

pub record AsChoice (Is : ProcessNode → Type 0) (at : ℕ) (pieces : List Piece) : Type 0 where
  pub part : Choice
  pub spelled : terminals_of pieces ≡ choice_spelled part
  pub tree : Is (choice_tree at part)

pub record AsHidden (Is : ProcessNode → Type 0) (at : ℕ) (pieces : List Piece) : Type 0 where
  pub part : Hidden
  pub spelled : terminals_of pieces ≡ hidden_spelled part
  pub tree : Is (hidden_tree at part)

pub record AsPrefix (Is : ProcessNode → Type 0) (at : ℕ) (pieces : List Piece) : Type 0 where
  pub part : Prefix
  pub spelled : terminals_of pieces ≡ prefix_spelled part
  pub tree : Is (prefix_tree at part)

-- each one is also one of the next kind
pub as_hidden : {Is : ProcessNode → Type 0} {at : ℕ} {pieces : List Piece} → AsPrefix Is at pieces → AsHidden Is at pieces
as_hidden h = record { part = OnePrefix h.part; spelled = h.spelled; tree = h.tree }

pub as_choice : {Is : ProcessNode → Type 0} {at : ℕ} {pieces : List Piece} → AsHidden Is at pieces → AsChoice Is at pieces
as_choice h = record { part = OneHidden h.part; spelled = h.spelled; tree = h.tree }

pub as_process : {Is : ProcessNode → Type 0} {at : ℕ} {pieces : List Piece} → AsChoice Is at pieces → AsProcess Is at pieces
as_process h = record { part = OneChoice h.part; spelled = h.spelled; tree = h.tree }

-- and a process in brackets is a prefix
pub as_grouped : (Is : ProcessNode → Type 0) (at : ℕ) (pieces : List Piece) → AsProcess Is (at + 1) pieces → AsPrefix Is at (bracketed pieces)
as_grouped Is at pieces h =
    record {
      part = Grouped h.part;
      spelled = ap (λ (l : List Terminal). Mark Opening ∷ l) (terminals_append pieces (sign_piece Closing ∷ []) (process_spelled h.part) (Mark Closing ∷ []) h.spelled refl);
      tree = h.tree;
    }
