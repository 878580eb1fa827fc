-- The pieces of a set of action types are words of the grammar, and those of a cooperation's sign are one.
use Rattle.std.proofs.Common.{◌≡◌, ℕ, zero, suc, ◌+◌, ◌<◌, List, [], ◌∷◌, ◌++◌, length, flat_map, codes, refl, sym, ap, ◌∙◌, arith}
use Rattle.std.specs.List.{AllByRecursion, AllZip}
use Rattle.std.proofs.lemmas.Option.{slice_get-get_or, same_Some}
use Rattle.pepa_lexer.specs.declared.kinds.Sign.TheVariants.{Comma, Less, Greater, Slash, OpeningBrace, ClosingBrace}
use Rattle.pepa_lexer.specs.declared.kinds.Token.{Token}
use Rattle.token_grammar.specs.declared.terminal.Terminal.{Terminal}
use Rattle.token_grammar.specs.declared.terminal.Terminal.TheVariants.{Mark}
use Rattle.pepa_reader.specs.Grammar.{Word, Cooperation, Parallel, Sharing, word_spelled, further_words, words_spelled, cooperation_spelled}
use Rattle.pepa_reader.specs.Trees.{word_indices, cooperation_indices}
use Rattle.pepa_model.specs.PepaModel.{PepaModel, IsModel, IsSpelled}
use Rattle.token_grammar.specs.Terminals.{name_at}
use Rattle.pepa_text.specs.ComponentText.{name_of}
use Rattle.pepa_printer.proofs.Pieces.{sign_piece, small_piece, further_pieces, set_pieces, coop_pieces, hiding_pieces}
use Rattle.pepa_printer.proofs.PieceTerminals.{terminals_of, terminals_append, IsWordFor, word_for, StandAt, rest_stands, part_stands, name_there}

-- the indices are those of the names of these action types
abbrev pub AreNames : List ℕ → List Token → PepaModel → List ℕ → List ℕ → Type 0
AreNames input tokens m set words = AllZip (λ i a. name_at input tokens i ≡ name_of m.actions a) words set

-- the pieces of a set are words
pub record AsWords (input : List ℕ) (tokens : List Token) (m : PepaModel) (set : List ℕ) (at : ℕ) : Type 0 where
  pub words : List Word
  pub spelled : terminals_of (set_pieces m set) ≡ words_spelled words
  pub indices : AreNames input tokens m set (word_indices at words)

record AsFurther (input : List ℕ) (tokens : List Token) (m : PepaModel) (set : List ℕ) (at : ℕ) : Type 0 where
  words : List Word
  spelled : terminals_of (flat_map (further_pieces m) set) ≡ further_words words
  indices : AreNames input tokens m set (word_indices at words)

pub record AsSign (input : List ℕ) (tokens : List Token) (m : PepaModel) (set : List ℕ) (at : ℕ) : Type 0 where
  pub part : Cooperation
  pub spelled : terminals_of (coop_pieces m set) ≡ cooperation_spelled part
  pub indices : AreNames input tokens m set (cooperation_indices at part)

module _ (input : List ℕ) (tokens : List Token) (m : PepaModel) (is : IsModel m) (spelled : IsSpelled m) where
  -- an action type's name isn't `infty`
  not_infty : (a : ℕ) → a < length m.actions → ¬ (name_of m.actions a ≡ codes "infty")
  not_infty zero known same =
      let tau : name_of m.actions 0 ≡ codes "tau" = same_Some (name_of m.actions 0) (codes "tau") (sym (slice_get-get_or m.actions 0 [] known) ∙ is.tau) in
      let clash : codes "tau" ≡ codes "infty" = sym tau ∙ same in
      cc
  not_infty (suc a) known same = (spelled.actions (suc a) (name_of m.actions (suc a)) (omega arith) (slice_get-get_or m.actions (suc a) [] known)).2 same

  pub action_word : (a : ℕ) → a < length m.actions → IsWordFor (name_of m.actions a)
  action_word a known = word_for (name_of m.actions a) (not_infty a known)

  -- the words behind the first, each behind a comma
  further_written : (set : List ℕ) (at n : ℕ) → n ≡ at + 1 → AllByRecursion (λ a. a < length m.actions) set → StandAt input tokens at (flat_map (further_pieces m) set) → AsFurther input tokens m set n
  further_written [] at n next known h = record { words = []; spelled = refl; indices = tt }
  further_written (a ∷ set) at n next known h =
      let first = action_word a known.0 in
      let all = sign_piece Comma ∷ small_piece (name_of m.actions a) ∷ flat_map (further_pieces m) set in
      let more = further_written set (at + 2) (n + 2) (omega arith) known.1 (rest_stands input tokens (further_pieces m a) (flat_map (further_pieces m) set) at (at + 2) h refl) in
      record {
        words = first.word ∷ more.words;
        spelled = ap (λ (t : Terminal). Mark Comma ∷ t ∷ terminals_of (flat_map (further_pieces m) set)) first.is ∙ ap (λ (l : List Terminal). Mark Comma ∷ word_spelled first.word ∷ l) more.spelled;
        indices = (name_there input tokens all at 1 n (small_piece (name_of m.actions a)) h refl next, more.indices);
      }

  pub set_written : (set : List ℕ) (at : ℕ) → AllByRecursion (λ a. a < length m.actions) set → StandAt input tokens at (set_pieces m set) → AsWords input tokens m set at
  set_written [] at known h = record { words = []; spelled = refl; indices = tt }
  set_written (a ∷ set) at known h =
      let first = action_word a known.0 in
      let all = small_piece (name_of m.actions a) ∷ flat_map (further_pieces m) set in
      let more = further_written set (at + 1) (at + 2) (omega arith) known.1 (rest_stands input tokens (small_piece (name_of m.actions a) ∷ []) (flat_map (further_pieces m) set) at (at + 1) h refl) in
      record {
        words = first.word ∷ more.words;
        spelled = ap (λ (t : Terminal). t ∷ terminals_of (flat_map (further_pieces m) set)) first.is ∙ ap (λ (l : List Terminal). word_spelled first.word ∷ l) more.spelled;
        indices = (name_there input tokens all at 0 at (small_piece (name_of m.actions a)) h refl (omega arith), more.indices);
      }

  -- the sign of a cooperation
  pub sign_written : (set : List ℕ) (at : ℕ) → AllByRecursion (λ a. a < length m.actions) set → StandAt input tokens at (coop_pieces m set) → AsSign input tokens m set at
  sign_written [] at known h = record { part = Parallel; spelled = refl; indices = tt }
  sign_written (a ∷ set) at known h =
      let inside = set_written (a ∷ set) (at + 1) known (part_stands input tokens (sign_piece Less ∷ []) (set_pieces m (a ∷ set)) (sign_piece Greater ∷ []) at (at + 1) h refl) in
      record {
        part = Sharing inside.words;
        spelled = ap (λ (l : List Terminal). Mark Less ∷ l) (terminals_append (set_pieces m (a ∷ set)) (sign_piece Greater ∷ []) (words_spelled inside.words) (Mark Greater ∷ []) inside.spelled refl);
        indices = inside.indices;
      }

  -- what stands behind a system that hides a set
  pub hiding_spelled : (set : List ℕ) (words : List Word) → terminals_of (set_pieces m set) ≡ words_spelled words
      → terminals_of (hiding_pieces m set) ≡ Mark Slash ∷ Mark OpeningBrace ∷ (words_spelled words ++ Mark ClosingBrace ∷ [])
  hiding_spelled set words e =
      ap (λ (l : List Terminal). Mark Slash ∷ Mark OpeningBrace ∷ l) (terminals_append (set_pieces m set) (sign_piece ClosingBrace ∷ []) (words_spelled words) (Mark ClosingBrace ∷ []) e refl)
