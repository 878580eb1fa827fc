-- The tokens of a text of lexemes are these lexemes' kinds and bytes, and a text is put together of lexemes from its end on.
use Rattle.std.proofs.Common.{◌≡◌, ℕ, ◌+◌, ◌-◌, ◌^◌, ◌<◌, ◌==◌, ◌||◌, Bool, true, false, cond, List, [], ◌∷◌, ◌++◌, map, length, drop, decimal, Option, Some, None, refl, sym, ap, ◌∙◌, subst, arith, append_assoc}
use Rattle.std.specs.Prelude.{slice_range}
use Rattle.std.specs.Str.Parse.{digits_value}
use Rattle.std.proofs.lemmas.List.{take_at, drop_at, drop-drop}
use Rattle.pepa_lexer.specs.Bytes.{is_capital, is_word_byte, begins}
use Rattle.pepa_lexer.specs.Signs.{sign_bytes, goes_on}
use Rattle.pepa_lexer.specs.Lexemes.{Lexeme, Blank, Word, Whole, Mark, spelled, IsLexeme, EndsBefore, StartsWithLexemes, AreLexemes}
use Rattle.pepa_lexer.specs.TokenLists.{place_of, kind_of, token_at, tokens_along, end_of}
use Rattle.pepa_lexer.specs.declared.kinds.Kind.{Kind}
use Rattle.pepa_lexer.specs.declared.kinds.Kind.TheVariants as kinds
use Rattle.pepa_lexer.specs.declared.kinds.Place.{Place}
use Rattle.pepa_lexer.specs.declared.kinds.Sign.{Sign}
use Rattle.pepa_lexer.specs.declared.kinds.Token.{Token}
use Rattle.pepa_printer.proofs.Pieces.{Piece, piece, piece_of, sign_piece, number_piece, capital_piece, small_piece}
use Rattle.pepa_printer.proofs.DecimalDigits.{IsDecimalText, decimal_text}
use Rattle.pepa_model.specs.Spelling.{IsShortWord}

-- ---- pieces of lexemes

-- the piece that a lexeme of this kind is, if it is one
abbrev pub kind_pieces : Option Kind → List ℕ → List Piece
kind_pieces None bytes = []
kind_pieces (Some kind) bytes = piece kind bytes ∷ []

abbrev pub lexeme_pieces : Lexeme → List Piece
lexeme_pieces lexeme = kind_pieces (kind_of lexeme) (spelled lexeme)

-- the pieces of lexemes, and the end
abbrev pub pieces_of : List Lexeme → List Piece
pieces_of [] = piece kinds.End [] ∷ []
pieces_of (lexeme ∷ lexemes) = lexeme_pieces lexeme ++ pieces_of lexemes

-- the bytes at a place of the input, and what stands behind them
text_at : (input front more : List ℕ) (at : ℕ) → drop at input ≡ front ++ more → slice_range input at (at + length front) ≡ front
text_at input front more at e =
    let len : at + length front - at ≡ length front = omega arith in
    rw (len, e) (take_at front more (length front) refl)

rest_at : (input front more : List ℕ) (at : ℕ) → drop at input ≡ front ++ more → drop (at + length front) input ≡ more
rest_at input front more at e =
    sym (drop-drop (length front) at input) ∙ ap (drop (length front)) e ∙ drop_at front more (length front) refl

one_token : (input text : List ℕ) (kind : Option Kind) (place : Place) (at to : ℕ) (tokens : List Token) (pieces : List Piece) → slice_range input at to ≡ text
    → map (piece_of input) tokens ≡ pieces → map (piece_of input) (token_at kind place at to ++ tokens) ≡ kind_pieces kind text ++ pieces
one_token input text None place at to tokens pieces bytes more = more
one_token input text (Some kind) place at to tokens pieces bytes more =
    ap (λ (l : List Piece). piece kind (slice_range input at to) ∷ l) more ∙ ap (λ (b : List ℕ). piece kind b ∷ pieces) bytes

end_text : (input : List ℕ) (n : ℕ) → slice_range input n n ≡ []
end_text input n = let none : n - n ≡ 0 = omega arith in rw none refl

-- the tokens from a place on are the pieces of the lexemes from there on
pieces_along : (input : List ℕ) (lexemes : List Lexeme) (bytes : List ℕ) (at : ℕ) → drop at input ≡ bytes → StartsWithLexemes lexemes bytes []
    → map (piece_of input) (tokens_along input at lexemes ++ end_of input) ≡ pieces_of lexemes
pieces_along input [] bytes at e leads =
    one_token input [] (Some kinds.End) (place_of input (length input)) (length input) (length input) [] [] (end_text input (length input)) refl
pieces_along input (lexeme ∷ lexemes) bytes at e leads =
    let whole = e ∙ leads.1 in
    let to = at + length (spelled lexeme) in
    let here = token_at (kind_of lexeme) (place_of input at) at to in
    let more = pieces_along input lexemes leads.0 to (rest_at input (spelled lexeme) leads.0 at whole) leads.4 in
    ap (map (piece_of input)) (append_assoc here (tokens_along input to lexemes) (end_of input))
    ∙ one_token input (spelled lexeme) (kind_of lexeme) (place_of input at) at to (tokens_along input to lexemes ++ end_of input) (pieces_of lexemes)
    (text_at input (spelled lexeme) leads.0 at whole) more

-- ---- texts from their end on

-- the text has lexemes, and these are its pieces
pub record Lexes (text : List ℕ) (pieces : List Piece) : Type 0 where
  pub lexemes : List Lexeme
  pub leads : AreLexemes lexemes text
  pub pieces_are : pieces_of lexemes ≡ pieces

pub lexed_pieces : (text : List ℕ) (pieces : List Piece) (is : Lexes text pieces) → map (piece_of text) (tokens_along text 0 is.lexemes ++ end_of text) ≡ pieces
lexed_pieces text pieces is = pieces_along text is.lexemes text 0 refl is.leads ∙ is.pieces_are

pub at_end : Lexes [] (piece kinds.End [] ∷ [])
at_end = record { lexemes = []; leads = refl; pieces_are = refl }

-- the same text and pieces, written in another way
pub as_written : (text other : List ℕ) (pieces others : List Piece) → other ≡ text → others ≡ pieces → Lexes text pieces → Lexes other others
as_written text other pieces others e f is =
    subst (λ (t : List ℕ). Lexes t others) (sym e) (subst (λ (p : List Piece). Lexes text p) (sym f) is)

one_lexeme : (lexeme : Lexeme) (rest : List ℕ) (pieces : List Piece) → IsLexeme lexeme → EndsBefore lexeme rest → Lexes rest pieces
    → Lexes (spelled lexeme ++ rest) (lexeme_pieces lexeme ++ pieces)
one_lexeme lexeme rest pieces form ends is = record {
  lexemes = lexeme ∷ is.lexemes;
  leads = (rest, refl, form, ends, is.leads);
  pieces_are = ap (λ (l : List Piece). lexeme_pieces lexeme ++ l) is.pieces_are;
}

pub after_sign : (sign : Sign) (rest : List ℕ) (pieces : List Piece) → begins (goes_on sign) rest ≡ false → Lexes rest pieces → Lexes (sign_bytes sign ++ rest) (sign_piece sign ∷ pieces)
after_sign sign rest pieces ends is = one_lexeme (Mark sign) rest pieces tt ends is

-- no byte makes the sign longer
pub never_longer : (sign : Sign) (rest : List ℕ) → ((byte : ℕ) → goes_on sign byte ≡ false) → begins (goes_on sign) rest ≡ false
never_longer sign [] short = refl
never_longer sign (byte ∷ rest) short = short byte

pub after_lone : (sign : Sign) (rest : List ℕ) (pieces : List Piece) → ((byte : ℕ) → goes_on sign byte ≡ false) → Lexes rest pieces
    → Lexes (sign_bytes sign ++ rest) (sign_piece sign ∷ pieces)
after_lone sign rest pieces short is = after_sign sign rest pieces (never_longer sign rest short) is

pub after_space : (rest : List ℕ) (pieces : List Piece) → Lexes rest pieces → Lexes (32 ∷ rest) pieces
after_space rest pieces is = one_lexeme (Blank 32) rest pieces refl tt is

pub after_line_feed : (rest : List ℕ) (pieces : List Piece) → Lexes rest pieces → Lexes (10 ∷ rest) pieces
after_line_feed rest pieces is = one_lexeme (Blank 10) rest pieces refl tt is

-- ---- names and numbers

name_pieces : (name : List ℕ) (kind : Kind) (b : Bool) (pieces : List Piece) → begins is_capital name ≡ b → cond b kinds.Capital kinds.Small ≡ kind
    → lexeme_pieces (Word name) ++ pieces ≡ piece kind name ∷ pieces
name_pieces name kind b pieces h k = ap (λ (l : Kind). piece l name ∷ pieces) (ap (λ (c : Bool). cond c kinds.Capital kinds.Small) h ∙ k)

after_name : (name : List ℕ) (kind : Kind) (b : Bool) (rest : List ℕ) (pieces : List Piece) → IsShortWord name → begins is_capital name ≡ b
    → cond b kinds.Capital kinds.Small ≡ kind → begins is_word_byte rest ≡ false → Lexes rest pieces → Lexes (name ++ rest) (piece kind name ∷ pieces)
after_name name kind b rest pieces word h k ends is =
    subst (λ (p : List Piece). Lexes (name ++ rest) p) (name_pieces name kind b pieces h k) (one_lexeme (Word name) rest pieces word ends is)

pub after_small : (name rest : List ℕ) (pieces : List Piece) → IsShortWord name → begins is_capital name ≡ false → begins is_word_byte rest ≡ false → Lexes rest pieces
    → Lexes (name ++ rest) (small_piece name ∷ pieces)
after_small name rest pieces word h ends is = after_name name kinds.Small false rest pieces word h refl ends is

pub after_capital : (name rest : List ℕ) (pieces : List Piece) → IsShortWord name → begins is_capital name ≡ true → begins is_word_byte rest ≡ false → Lexes rest pieces
    → Lexes (name ++ rest) (capital_piece name ∷ pieces)
after_capital name rest pieces word h ends is = after_name name kinds.Capital true rest pieces word h refl ends is

pub after_number : (n : ℕ) (rest : List ℕ) (pieces : List Piece) → n < 2 ^ 42 → begins (λ byte. is_word_byte byte || byte == 46) rest ≡ false → Lexes rest pieces
    → Lexes (decimal n ++ rest) (number_piece n ∷ pieces)
after_number n rest pieces small ends is =
    let text : IsDecimalText n = decimal_text n small in
    let value : digits_value 10 (decimal n) ≡ n = text.value in
    subst (λ (p : List Piece). Lexes (decimal n ++ rest) p) (ap (λ (v : ℕ). piece (kinds.Number v 0) (decimal n) ∷ pieces) value)
    (one_lexeme (Whole (decimal n)) rest pieces ((text.digit, text.digits), text.few) ends is)
