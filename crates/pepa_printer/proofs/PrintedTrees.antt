-- The pieces of a model are a file of the grammar, whose tree is written as the parts of the model are.
use Rattle.std.proofs.Common.{◌≡◌, ℕ, suc, ◌+◌, List, [], ◌∷◌, ◌++◌, map, length, Some, slice_get, refl, ap, ◌∙◌, subst, arith}
use Rattle.pepa_lexer.specs.declared.kinds.Kind.TheVariants as kinds
use Rattle.pepa_lexer.specs.declared.kinds.Sign.TheVariants.{Equals, Semicolon}
use Rattle.pepa_lexer.specs.declared.kinds.Token.{Token}
use Rattle.token_grammar.specs.declared.terminal.Terminal.{Terminal}
use Rattle.token_grammar.specs.declared.terminal.Terminal.TheVariants.{Capital, Mark, End}
use Rattle.token_grammar.specs.Terminals.{terminals}
use Rattle.pepa_reader.specs.Grammar.{File, Line, ProcessNamed, Open, process_spelled, line_spelled, lines_spelled, file_spelled}
use Rattle.pepa_reader.specs.Trees.{rate_lines_from, process_lines_from, probe_lines_from, file_tree}
use Rattle.pepa_model.specs.Expression.{Definition}
use Rattle.pepa_model.specs.PepaModel.{PepaModel, IsModel, IsSpelled}
use Rattle.pepa_printer.specs.KnownBodies.{IsBodyOf}
use Rattle.pepa_model.specs.Spelling.{IsConstantName, HasWrittenDefinition}
use Rattle.pepa_printer.proofs.KnownBodies.{body_known}
use Rattle.pepa_printer.proofs.Pieces.{Piece, piece, piece_of, sign_piece, capital_piece, shape_pieces, definition_pieces, line_pieces, lines_pieces, model_pieces}
use Rattle.pepa_printer.proofs.PrintedFiles.{IsShapeAt, IsDefinitionAt, AreLinesAt, IsPrintedFile}
use Rattle.pepa_printer.proofs.PieceTerminals.{terminals_of, terminals_by_pieces, terminals_append, same_length, is_capital_name, StandAt, part_stands, rest_stands, front_stands, name_there}
use Rattle.pepa_printer.proofs.PieceParts.{AsProcess}
use Rattle.pepa_printer.proofs.PrintedSystems.{shapes, definition_written}

pub record HasFile (input : List ℕ) (tokens : List Token) (m : PepaModel) : Type 0 where
  pub file : File
  pub spelled : terminals input tokens ≡ file_spelled file
  pub printed : IsPrintedFile input tokens m (file_tree file)

-- the pieces of constants' lines are lines of the grammar
record AsLines (input : List ℕ) (tokens : List Token) (m : PepaModel) (names : List (List ℕ)) (definitions : List Definition) (at : ℕ) : Type 0 where
  lines : List Line
  spelled : terminals_of (lines_pieces m names definitions) ≡ lines_spelled lines
  no_rates : rate_lines_from at lines ≡ []
  no_probes : probe_lines_from at lines ≡ []
  tree : AreLinesAt input tokens m names definitions (process_lines_from at lines)

-- the names and the definitions are those of lines that can be written
record AreFine (m : PepaModel) (names : List (List ℕ)) (definitions : List Definition) : Type 0 where
  sizes : length definitions ≡ length names
  names_are : (c : ℕ) (name : List ℕ) → slice_get names c ≡ Some name → IsConstantName name
  known : (c : ℕ) (d : Definition) → slice_get definitions c ≡ Some d → IsBodyOf m d
  written : (c : ℕ) (d : Definition) → slice_get definitions c ≡ Some d → HasWrittenDefinition d

others_fine : (m : PepaModel) (name : List ℕ) (names : List (List ℕ)) (d : Definition) (definitions : List Definition) → AreFine m (name ∷ names) (d ∷ definitions) → AreFine m names definitions
others_fine m name names d definitions fine = record {
  sizes = omega (arith, fine.sizes);
  names_are = λ c n e. fine.names_are (suc c) n e;
  known = λ c b e. fine.known (suc c) b e;
  written = λ c b e. fine.written (suc c) b e;
}

module _ (input : List ℕ) (tokens : List Token) (m : PepaModel) (is : IsModel m) (spelled : IsSpelled m) where
  lines_written : (names : List (List ℕ)) (definitions : List Definition) → AreFine m names definitions → (at : ℕ)
      → StandAt input tokens at (lines_pieces m names definitions) → AsLines input tokens m names definitions at
  lines_written [] [] fine at h = record { lines = []; spelled = refl; no_rates = refl; no_probes = refl; tree = tt }
  lines_written [] (d ∷ definitions) fine at h = absurd (omega (arith, fine.sizes))
  lines_written (name ∷ names) [] fine at h = absurd (omega (arith, fine.sizes))
  lines_written (name ∷ names) (d ∷ definitions) fine at h =
      let body = definition_pieces m d in
      let head = capital_piece name ∷ sign_piece Equals ∷ [] in
      let end = sign_piece Semicolon ∷ [] in
      let first = line_pieces m name d in
      let others = lines_pieces m names definitions in
      let process : AsProcess (λ node. IsDefinitionAt input tokens m d node) (at + 2) body =
      definition_written input tokens m is spelled d (fine.known 0 d refl) (fine.written 0 d refl) (at + 2)
      (part_stands input tokens head body end at (at + 2) (front_stands input tokens first others at h) refl) in
      let line_is : terminals_of first ≡ line_spelled (ProcessNamed process.part) =
      ap (λ (t : Terminal). t ∷ Mark Equals ∷ terminals_of (body ++ end)) (is_capital_name name (fine.names_are 0 name refl).2)
      ∙ ap (λ (l : List Terminal). Capital ∷ Mark Equals ∷ l) (terminals_append body end (process_spelled process.part) (Mark Semicolon ∷ []) process.spelled refl) in
      let n = at + length (line_spelled (ProcessNamed process.part)) in
      let long : length (line_spelled (ProcessNamed process.part)) ≡ length first = same_length first (line_spelled (ProcessNamed process.part)) line_is in
      let there : n ≡ at + length first = ap (λ (k : ℕ). at + k) long in
      let more : AsLines input tokens m names definitions n = lines_written names definitions (others_fine m name names d definitions fine) n (rest_stands input tokens first others at n h there) in
      record {
        lines = ProcessNamed process.part ∷ more.lines;
        spelled = terminals_append first others (line_spelled (ProcessNamed process.part)) (lines_spelled more.lines) line_is more.spelled;
        no_rates = more.no_rates;
        no_probes = more.no_probes;
        tree = (name_there input tokens (first ++ others) at 0 at (capital_piece name) h refl (omega arith), process.tree, more.tree);
      }

  -- lines and a system are a file
  file_is : (lines_are system_is : List Piece) (a b : List Terminal)
      → map (piece_of input) tokens ≡ lines_are ++ (system_is ++ piece kinds.End [] ∷ []) → terminals_of lines_are ≡ a → terminals_of system_is ≡ b
      → terminals input tokens ≡ a ++ (b ++ End ∷ [])
  file_is lines_are system_is a b pieces p q =
      let end : List Piece = piece kinds.End [] ∷ [] in
      terminals_by_pieces input tokens
      ∙ ap terminals_of pieces
      ∙ terminals_append lines_are (system_is ++ end) a (b ++ End ∷ []) p (terminals_append system_is end b (End ∷ []) q refl)

  file_written : map (piece_of input) tokens ≡ model_pieces m → HasFile input tokens m
  file_written pieces =
      let lines_are = lines_pieces m m.constants m.bodies in
      let system_is = shape_pieces m m.system in
      let end : List Piece = piece kinds.End [] ∷ [] in
      let whole : StandAt input tokens 0 (model_pieces m) = record {
        here = λ i p e.
            let same : i ≡ 0 + i = omega arith in
            let there : slice_get (map (piece_of input) tokens) i ≡ Some p = ap (λ (l : List Piece). slice_get l i) pieces ∙ e in
            subst (λ (k : ℕ). slice_get (map (piece_of input) tokens) k ≡ Some p) same there;
      } in
      let fine : AreFine m m.constants m.bodies = record {
        sizes = is.bodies;
        names_are = spelled.constants;
        known = λ c d at. body_known m is c d at;
        written = spelled.bodies;
      } in
      let lines : AsLines input tokens m m.constants m.bodies 0 = lines_written m.constants m.bodies fine 0 (front_stands input tokens lines_are (system_is ++ end) 0 whole) in
      let n = length (lines_spelled lines.lines) in
      let long : n ≡ length lines_are = same_length lines_are (lines_spelled lines.lines) lines.spelled in
      let there : n ≡ 0 + length lines_are = omega arith in
      let system : AsProcess (λ node. IsShapeAt input tokens m m.system node) n system_is =
      (shapes input tokens m is spelled m.system is.system spelled.system).plain n (part_stands input tokens lines_are system_is end 0 n whole there) in
      record {
        file = record { lines = lines.lines; system = system.part; ending = Open };
        spelled = file_is lines_are system_is (lines_spelled lines.lines) (process_spelled system.part) pieces lines.spelled system.spelled;
        printed = record { no_rates = lines.no_rates; no_probes = lines.no_probes; lines = lines.tree; system = system.tree };
      }

pub printed_tree : (input : List ℕ) (tokens : List Token) (m : PepaModel) → IsModel m → IsSpelled m → map (piece_of input) tokens ≡ model_pieces m → HasFile input tokens m
printed_tree input tokens m is spelled pieces = file_written input tokens m is spelled pieces
