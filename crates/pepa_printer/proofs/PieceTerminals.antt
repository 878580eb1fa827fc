-- What pieces are to the grammar, and what stands at an index of tokens whose pieces are known.
use Rattle.std.proofs.Common.{◌≡◌, ℕ, zero, suc, ◌+◌, Bool, true, false, if◌then◌else◌, List, [], ◌∷◌, ◌++◌, map, length, codes, nat_eq, Some, slice_get, refl, sym, ap, ◌∙◌, subst, arith}
use Rattle.std.specs.Cmp.Lexicographic.{pointwise, bytes_decides}
use Rattle.std.proofs.lemmas.List.{map-append, length-map}
use Rattle.std.proofs.lemmas.Option.{same_Some}
use Rattle.pepa_lexer.specs.declared.kinds.Token.{Token}
use Rattle.token_grammar.specs.declared.terminal.Terminal.{Terminal}
use Rattle.token_grammar.specs.declared.terminal.Terminal.TheVariants.{Small, Probe, Tau, Capital, Top}
use Rattle.token_grammar.specs.SmallNames.{Plain, Probing}
use Rattle.pepa_reader.specs.Grammar.{Word, Named, Internal, word_spelled}
use Rattle.token_grammar.specs.Terminals.{small_terminal, capital_terminal, terminal_from, terminal_of, terminals, bytes_of, name_at}
use Rattle.pepa_printer.proofs.Pieces.{Piece, piece_of}
use Rattle.pepa_printer.proofs.PrintedFiles.{IsKindAt}

-- ---- what a piece is to the grammar

abbrev pub terminal_of_piece : Piece → Terminal
terminal_of_piece p = terminal_from p.kind p.bytes

abbrev pub terminals_of : List Piece → List Terminal
terminals_of pieces = map terminal_of_piece pieces

pub terminals_by_pieces : (input : List ℕ) (tokens : List Token) → terminals input tokens ≡ terminals_of (map (piece_of input) tokens)
terminals_by_pieces input [] = refl
terminals_by_pieces input (token ∷ tokens) = ap (λ (ts : List Terminal). terminal_of input token ∷ ts) (terminals_by_pieces input tokens)

pub terminals_append : (xs ys : List Piece) (a b : List Terminal) → terminals_of xs ≡ a → terminals_of ys ≡ b → terminals_of (xs ++ ys) ≡ a ++ b
terminals_append xs ys a b p q =
    map-append terminal_of_piece xs ys ∙ ap (λ (l : List Terminal). l ++ terminals_of ys) p ∙ ap (λ (l : List Terminal). a ++ l) q

-- as many terminals as pieces
pub same_length : (xs : List Piece) (a : List Terminal) → terminals_of xs ≡ a → length a ≡ length xs
same_length xs a p = ap length (sym p) ∙ length-map xs terminal_of_piece

-- a constant's name isn't the word `T`
pub is_capital_name : (name : List ℕ) → ¬ (name ≡ codes "T") → capital_terminal name ≡ Capital
is_capital_name name apart = by (pointwise nat_eq name (codes "T")) (λ e. apart ((bytes_decides name (codes "T")).0 e))
  where
    by : (b : Bool) → (b ≡ true → ⊥) → (if b then Top else Capital) ≡ Capital
    by true away = absurd (away refl)
    by false away = refl

-- the word that a name is
pub record IsWordFor (name : List ℕ) : Type 0 where
  pub word : Word
  pub is : small_terminal name ≡ word_spelled word

-- a name that isn't `infty` is a word
pub word_for : (name : List ℕ) → ¬ (name ≡ codes "infty") → IsWordFor name
word_for name apart =
    let found = by (pointwise nat_eq name (codes "infty")) (pointwise nat_eq name (codes "tau")) (pointwise nat_eq name (codes "probe")) (λ e. apart ((bytes_decides name (codes "infty")).0 e)) in
    record { word = found.0; is = found.1 }
  where
    by : (a b c : Bool) → (a ≡ true → ⊥) → (word : Word) × ((if a then Top else (if b then Tau else (if c then Probe else Small))) ≡ word_spelled word)
    by true b c away = absurd (away refl)
    by false true c away = (Internal, refl)
    by false false true away = (Named Probing, refl)
    by false false false away = (Named Plain, refl)

-- ---- what stands at an index

-- the tokens have these pieces from an index on
pub record StandAt (input : List ℕ) (tokens : List Token) (at : ℕ) (pieces : List Piece) : Type 0 where
  pub here : (i : ℕ) (p : Piece) → slice_get pieces i ≡ Some p → slice_get (map (piece_of input) tokens) (at + i) ≡ Some p

get_append : (xs ys : List Piece) (i : ℕ) (p : Piece) → slice_get xs i ≡ Some p → slice_get (xs ++ ys) i ≡ Some p
get_append [] ys i p e = absurd cc
get_append (x ∷ xs) ys zero p e = e
get_append (x ∷ xs) ys (suc i) p e = get_append xs ys i p e

get_behind : (xs ys : List Piece) (i k : ℕ) (p : Piece) → k ≡ length xs + i → slice_get ys i ≡ Some p → slice_get (xs ++ ys) k ≡ Some p
get_behind [] ys i k p is e = let same : i ≡ k = omega arith in subst (λ (n : ℕ). slice_get ys n ≡ Some p) same e
get_behind (x ∷ xs) ys i zero p is e = absurd (omega arith)
get_behind (x ∷ xs) ys i (suc k) p is e = get_behind xs ys i k p (omega arith) e

-- the token behind a piece
token_there : (input : List ℕ) (tokens : List Token) (n : ℕ) (p : Piece) → slice_get (map (piece_of input) tokens) n ≡ Some p
    → (token : Token) × (slice_get tokens n ≡ Some token) × (piece_of input token ≡ p)
token_there input [] n p e = absurd cc
token_there input (token ∷ tokens) zero p e = (token, refl, same_Some (piece_of input token) p e)
token_there input (token ∷ tokens) (suc n) p e = token_there input tokens n p e

module _ (input : List ℕ) (tokens : List Token) where
  -- a part of the pieces stands at its own index
  pub part_stands : (front pieces rest : List Piece) (at n : ℕ) → StandAt input tokens at (front ++ (pieces ++ rest)) → n ≡ at + length front → StandAt input tokens n pieces
  part_stands front pieces rest at n h is =
      record {
        here = λ i p e.
            let found = h.here (length front + i) p (get_behind front (pieces ++ rest) i (length front + i) p refl (get_append pieces rest i p e)) in
            let same : at + (length front + i) ≡ n + i = omega arith in
            subst (λ (k : ℕ). slice_get (map (piece_of input) tokens) k ≡ Some p) same found;
      }

  -- the last part
  pub rest_stands : (front pieces : List Piece) (at n : ℕ) → StandAt input tokens at (front ++ pieces) → n ≡ at + length front → StandAt input tokens n pieces
  rest_stands front pieces at n h is =
      record {
        here = λ i p e.
            let found = h.here (length front + i) p (get_behind front pieces i (length front + i) p refl e) in
            let same : at + (length front + i) ≡ n + i = omega arith in
            subst (λ (k : ℕ). slice_get (map (piece_of input) tokens) k ≡ Some p) same found;
      }

  -- the first part
  pub front_stands : (pieces rest : List Piece) (at : ℕ) → StandAt input tokens at (pieces ++ rest) → StandAt input tokens at pieces
  front_stands pieces rest at h = record { here = λ i p e. h.here i p (get_append pieces rest i p e) }

  -- the bytes and the kind of a piece at its index
  pub name_there : (pieces : List Piece) (at i n : ℕ) (p : Piece) → StandAt input tokens at pieces → slice_get pieces i ≡ Some p → n ≡ at + i → name_at input tokens n ≡ p.bytes
  name_there pieces at i n p h e is =
      let found = token_there input tokens (at + i) p (h.here i p e) in
      ap (λ (k : ℕ). name_at input tokens k) is ∙ ap (bytes_of input) found.1 ∙ ap (λ (q : Piece). q.bytes) found.2

  pub kind_there : (pieces : List Piece) (at i n : ℕ) (p : Piece) → StandAt input tokens at pieces → slice_get pieces i ≡ Some p → n ≡ at + i → IsKindAt tokens n p.kind
  kind_there pieces at i n p h e is =
      let found = token_there input tokens (at + i) p (h.here i p e) in
      (found.0, ap (slice_get tokens) is ∙ found.1, ap (λ (q : Piece). q.kind) found.2)
