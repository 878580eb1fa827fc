-- The printed text of a model has tokens, and these are the pieces of the model.
use Rattle.std.proofs.Common.{◌≡◌, List, ◌++◌, map, refl}
use Rattle.pepa_lexer.specs.TokenLists.{tokens_along, end_of, IsTokens}
use Rattle.pepa_lexer.specs.declared.kinds.Token.{Token}
use Rattle.pepa_model.specs.PepaModel.{PepaModel, IsModel, IsSpelled}
use Rattle.pepa_printer.specs.ModelText.{model_text}
use Rattle.pepa_printer.proofs.Pieces.{piece_of, model_pieces}
use Rattle.pepa_printer.proofs.Lexed.{Lexes, lexed_pieces}
use Rattle.pepa_printer.proofs.LexedModels.{model_lexes}

pub record HasTokens (m : PepaModel) : Type 0 where
  pub tokens : List Token
  pub are_tokens : IsTokens (model_text m) tokens
  pub pieces : map (piece_of (model_text m)) tokens ≡ model_pieces m

pub printed_tokens : (m : PepaModel) → IsModel m → IsSpelled m → HasTokens m
printed_tokens m is spelled =
    let lexes : Lexes (model_text m) (model_pieces m) = model_lexes m is spelled in
    record {
      tokens = tokens_along (model_text m) 0 lexes.lexemes ++ end_of (model_text m);
      are_tokens = (lexes.lexemes, lexes.leads, refl);
      pieces = lexed_pieces (model_text m) (model_pieces m) lexes;
    }
