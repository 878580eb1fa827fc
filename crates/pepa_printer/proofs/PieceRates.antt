-- The pieces of a rate are a rate of the grammar, whose tree is written as the rate is.
use Rattle.std.proofs.Common.{◌≡◌, ℕ, ◌+◌, ◌==◌, ◌&&◌, Bool, true, false, if◌then◌else◌, List, [], ◌∷◌, ◌++◌, codes, inl, inr, refl, arith}
use Rattle.std.proofs.lemmas.Bool.{false≢true}
use Rattle.std.proofs.lemmas.Bool.Decides.{Decides-eqb}
use Rattle.pepa_rates.specs.Fraction.{Fraction}
use Rattle.pepa_rates.specs.declared.rate.Rate.{Rate}
use Rattle.pepa_rates.specs.declared.rate.Rate.TheVariants.{Active, Passive}
use Rattle.pepa_lexer.specs.declared.kinds.Sign.TheVariants.{Star, Slash}
use Rattle.pepa_lexer.specs.declared.kinds.Token.{Token}
use Rattle.pepa_reader.specs.Grammar as g
use Rattle.pepa_reader.specs.Grammar.{rate_spelled}
use Rattle.pepa_reader.specs.Trees.{rate_tree}
use Rattle.pepa_text.specs.RateText.{is_one}
use Rattle.pepa_model.specs.Spelling.{IsWrittenRate}
use Rattle.pepa_printer.proofs.Pieces.{Piece, sign_piece, number_piece, small_piece, rate_pieces}
use Rattle.pepa_printer.proofs.PrintedFiles.{IsRateAt}
use Rattle.pepa_printer.proofs.PieceTerminals.{terminals_of, StandAt, kind_there}

-- the pieces are a rate of the grammar, whose tree from this index on is this rate
pub record AsRate (tokens : List Token) (r : Rate) (at : ℕ) (pieces : List Piece) : Type 0 where
  pub part : g.Rate
  pub spelled : terminals_of pieces ≡ rate_spelled part
  pub tree : IsRateAt tokens r (rate_tree at part)

both_true : (a b : Bool) → (a && b) ≡ true → (a ≡ true) × (b ≡ true)
both_true true true e = (refl, refl)
both_true true false e = absurd (false≢true e)
both_true false b e = absurd (false≢true e)

-- a fraction's pieces by the test of its denominator, and a weight's by the tests whether it is 1 and whole
abbrev fraction_by : Fraction → Bool → List Piece
fraction_by q whole = if whole then number_piece q.num ∷ [] else number_piece q.num ∷ sign_piece Slash ∷ number_piece q.den ∷ []

abbrev multiple_by : Fraction → Bool → Bool → List Piece
multiple_by q one whole = if one then small_piece (codes "infty") ∷ [] else fraction_by q whole ++ sign_piece Star ∷ small_piece (codes "infty") ∷ []

module _ (input : List ℕ) (tokens : List Token) (at : ℕ) where
  -- a number, or a number over a number
  active_by : (q : Fraction) (b : Bool) → (q.den == 1) ≡ b → StandAt input tokens at (fraction_by q b) → AsRate tokens (Active q) at (fraction_by q b)
  active_by q true e h =
      record {
        part = g.Computed (g.OneProduct (g.OneFactor g.Amount));
        spelled = refl;
        tree = inl (at, refl, (Decides-eqb q.den 1).0 e, kind_there input tokens (number_piece q.num ∷ []) at 0 at (number_piece q.num) h refl (omega arith));
      }
  active_by q false e h =
      let all = number_piece q.num ∷ sign_piece Slash ∷ number_piece q.den ∷ [] in
      record {
        part = g.Computed (g.OneProduct (g.Produced (g.OneFactor g.Amount) g.Divided g.Amount));
        spelled = refl;
        tree = inr (
          at + 1,
          at,
          at + 1 + 1,
          refl,
          kind_there input tokens all at 1 (at + 1) (sign_piece Slash) h refl refl,
          kind_there input tokens all at 0 at (number_piece q.num) h refl (omega arith),
          kind_there input tokens all at 2 (at + 1 + 1) (number_piece q.den) h refl (omega arith),
        );
      }

  -- `infty`, or a whole number times `infty`
  weight_by : (q : Fraction) (b c : Bool) → is_one q ≡ b → (q.den == 1) ≡ c → c ≡ true → StandAt input tokens at (multiple_by q b c) → AsRate tokens (Passive q) at (multiple_by q b c)
  weight_by q b false one whole is h = absurd (false≢true is)
  weight_by q true true one whole is h =
      let parts = both_true (q.num == 1) (q.den == 1) one in
      record { part = g.Passive; spelled = refl; tree = inl (at, refl, (Decides-eqb q.num 1).0 parts.0, (Decides-eqb q.den 1).0 parts.1) }
  weight_by q false true one whole is h =
      let all = number_piece q.num ∷ sign_piece Star ∷ small_piece (codes "infty") ∷ [] in
      record {
        part = g.Weighted;
        spelled = refl;
        tree = inr (at + 2, at, refl, (Decides-eqb q.den 1).0 whole, kind_there input tokens all at 0 at (number_piece q.num) h refl (omega arith));
      }

  pub rate_written : (r : Rate) → IsWrittenRate r → StandAt input tokens at (rate_pieces r) → AsRate tokens r at (rate_pieces r)
  rate_written (Active q) written h = active_by q (q.den == 1) refl h
  rate_written (Passive q) written h = weight_by q (is_one q) (q.den == 1) refl refl ((Decides-eqb q.den 1).1 written.1) h
