-- The tokens of an input stand in it in order, each with its bytes.
use Rattle.std.proofs.Common.{◌≡◌, ℕ, ◌+◌, ◌-◌, ◌≤◌, Bool, true, false, cond, List, [], ◌∷◌, ◌++◌, length, drop, Option, Some, None, refl, sym, ap, ◌∙◌, subst, arith, inl, inr, append_assoc, length-append, length-drop}
use Rattle.std.specs.Prelude.{slice_range}
use Rattle.std.proofs.lemmas.List.{take_at, drop_at, drop-drop}
use Rattle.pepa_lexer.specs.Bytes.{is_capital, begins}
use Rattle.pepa_lexer.specs.Lexemes.{Lexeme, Blank, LineComment, BlockComment, Word, Whole, Pointed, Mark, spelled, IsLexeme, IsWord, StartsWithLexemes}
use Rattle.pepa_lexer.specs.TokenLists.{place_of, kind_of, token_at, tokens_along, end_of, IsTokens}
use Rattle.pepa_lexer.specs.TokenTexts.{IsTokenText, AreInOrder}
use Rattle.pepa_lexer.specs.declared.kinds.Kind.{Kind}
use Rattle.pepa_lexer.specs.declared.kinds.Kind.TheVariants.{Small, Capital}
use Rattle.pepa_lexer.specs.declared.kinds.Token.{Token}

name_text : (name : List ℕ) (b : Bool) → IsWord name → begins is_capital name ≡ b → IsTokenText (cond b Capital Small) name
name_text name true word h = (word, h)
name_text name false word h = (word, h)

IsText : Option Kind → List ℕ → Type 0
IsText None text = Unit {0}
IsText (Some kind) text = IsTokenText kind text

text_of : (lexeme : Lexeme) → IsLexeme lexeme → IsText (kind_of lexeme) (spelled lexeme)
unfolding IsText
text_of (Blank byte) form = tt
text_of (LineComment body) form = tt
text_of (BlockComment body) form = tt
text_of (Word name) form = name_text name (begins is_capital name) form.0 refl
text_of (Whole digits) form = inl (refl, form.0, refl)
text_of (Pointed digits behind) form = inr (record { before = digits; behind = behind; whole = refl; are_before = form.0; are_behind = form.1; value = refl; count = refl })
text_of (Mark sign) form = refl

one_more : (input : List ℕ) (last at to : ℕ) (kind : Option Kind) (tokens : List Token) → last ≤ at → at ≤ to → to ≤ length input → IsText kind (slice_range input at to) → ((from : ℕ) → from ≤ to → AreInOrder input from tokens) → AreInOrder input last (token_at kind (place_of input at) at to ++ tokens)
unfolding IsText
one_more input last at to None tokens low high within text rest = rest last (omega arith)
one_more input last at to (Some kind) tokens low high within text rest = (low, within, text, refl, rest to (omega arith))

text_at : (input front more : List ℕ) (at : ℕ) → drop at input ≡ front ++ more → slice_range input at (at + length front) ≡ front
text_at input front more at e =
    let len : at + length front - at ≡ length front = omega arith in
    rw (len, e) (take_at front more (length front) refl)

rest_at : (input front more : List ℕ) (at : ℕ) → drop at input ≡ front ++ more → drop (at + length front) input ≡ more
rest_at input front more at e =
    sym (drop-drop (length front) at input) ∙ ap (drop (length front)) e ∙ drop_at front more (length front) refl

in_order : (input : List ℕ) (lexemes : List Lexeme) (bytes : List ℕ) (at last : ℕ) → drop at input ≡ bytes → at ≤ length input → last ≤ at → StartsWithLexemes lexemes bytes [] → AreInOrder input last (tokens_along input at lexemes ++ end_of input)
in_order input [] bytes at last e within low leads =
    let l = length-drop at input in
    let len = ap length (e ∙ leads) in
    let n : length input - length input ≡ 0 = omega arith in
    (omega arith, omega arith, rw n refl, refl, tt)
in_order input (lexeme ∷ lexemes) bytes at last e within low leads =
    let whole = e ∙ leads.1 in
    let l = length-drop at input in
    let len = ap length whole ∙ length-append (spelled lexeme) leads.0 in
    let to = at + length (spelled lexeme) in
    let fits : to ≤ length input = omega arith in
    let text = subst (IsText (kind_of lexeme)) (sym (text_at input (spelled lexeme) leads.0 at whole)) (text_of lexeme leads.2) in
    let more = one_more input last at to (kind_of lexeme) (tokens_along input to lexemes ++ end_of input) low (omega arith) fits text (λ from h. in_order input lexemes leads.0 to from (rest_at input (spelled lexeme) leads.0 at whole) fits h leads.4) in
    subst (AreInOrder input last) (sym (append_assoc (token_at (kind_of lexeme) (place_of input at) at to) (tokens_along input to lexemes) (end_of input))) more

pub texts_in_order : (input : List ℕ) (list : List Token) → IsTokens input list → AreInOrder input 0 list
texts_in_order input list is =
    subst (AreInOrder input 0) (sym is.2) (in_order input is.0 input 0 0 refl (omega arith) (omega arith) is.1)
