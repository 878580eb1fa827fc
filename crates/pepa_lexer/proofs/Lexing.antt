-- The tokens of the lexemes that are done, with one lexeme more.
use Rattle.std.proofs.Common.{◌≡◌, ℕ, zero, suc, Option, ◌+◌, ◌≤◌, not, List, [], ◌∷◌, ◌++◌, length, take, drop, refl, sym, ap, ◌∙◌, arith, append_assoc, append-nil, length-append, length-drop}
use Rattle.std.specs.List.{suffix_len}
use Rattle.std.proofs.lemmas.List.{length-take-le, drop_at}
use Rattle.std.proofs.lemmas.List.Sums.{suffix_len-le-length}
use Rattle.pepa_lexer.specs.Bytes.{is_line_feed}
use Rattle.pepa_lexer.specs.Lexemes.{Lexeme, spelled, IsLexeme, EndsBefore, StartsWithLexemes}
use Rattle.pepa_lexer.specs.TokenLists.{place_of, kind_of, token_at, tokens_along}
use Rattle.pepa_lexer.specs.Scans.{IsScanned}
use Rattle.pepa_lexer.specs.declared.kinds.Kind.{Kind}
use Rattle.pepa_lexer.specs.declared.kinds.Place.{Place}
use Rattle.pepa_lexer.specs.declared.kinds.Token.{Token}
use Rattle.pepa_lexer.specs.declared.lexeme.Scanned.{Scanned}

-- how many bytes lexemes have
total : List Lexeme → ℕ
total [] = 0
total (lexeme ∷ lexemes) = length (spelled lexeme) + total lexemes

leads_more : (lexemes : List Lexeme) (bytes rest : List ℕ) (x : Lexeme) → StartsWithLexemes lexemes bytes (spelled x ++ rest) → IsLexeme x → EndsBefore x rest → StartsWithLexemes (lexemes ++ x ∷ []) bytes rest
leads_more [] bytes rest x leads form ends = (rest, leads, form, ends, refl)
leads_more (lexeme ∷ lexemes) bytes rest x leads form ends =
    (leads.0, leads.1, leads.2, leads.3, leads_more lexemes leads.0 rest x leads.4 form ends)

leads_len : (lexemes : List Lexeme) (bytes rest : List ℕ) → StartsWithLexemes lexemes bytes rest → total lexemes + length rest ≡ length bytes
unfolding total
leads_len [] bytes rest leads = let e = ap length leads in omega arith
leads_len (lexeme ∷ lexemes) bytes rest leads =
    let inner = leads_len lexemes leads.0 rest leads.4 in
    let e = ap length leads.1 in
    let l = length-append (spelled lexeme) leads.0 in
    omega arith

tokens_along-push : (input : List ℕ) (at : ℕ) (lexemes : List Lexeme) (x : Lexeme) → tokens_along input at (lexemes ++ x ∷ []) ≡ tokens_along input at lexemes ++ token_at (kind_of x) (place_of input (at + total lexemes)) (at + total lexemes) (at + total lexemes + length (spelled x))
unfolding total
tokens_along-push input at [] x =
    let e : at + 0 ≡ at = omega arith in
    rw e (append-nil (token_at (kind_of x) (place_of input at) at (at + length (spelled x))))
tokens_along-push input at (lexeme ∷ lexemes) x =
    let front = token_at (kind_of lexeme) (place_of input at) at (at + length (spelled lexeme)) in
    let e : at + length (spelled lexeme) + total lexemes ≡ at + (length (spelled lexeme) + total lexemes) = omega arith in
    let inner = tokens_along-push input (at + length (spelled lexeme)) lexemes x in
    let moved = rw e at inner in
    ap (λ (ts : List Token). front ++ ts) moved ∙ sym (append_assoc front (tokens_along input (at + length (spelled lexeme)) lexemes) _)

abbrev pub IsDone : List ℕ → List ℕ → List Token → Type 0
IsDone input rest tokens = (lexemes : List Lexeme) × StartsWithLexemes lexemes input rest × (tokens ≡ tokens_along input 0 lexemes)

pub done_more : (input rest after : List ℕ) (at to : ℕ) (tokens : List Token) (x : Lexeme) → at ≤ length input → rest ≡ drop at input → IsDone input rest tokens → rest ≡ spelled x ++ after → IsLexeme x → EndsBefore x after → to ≡ at + length (spelled x) → IsDone input after (tokens ++ token_at (kind_of x) (place_of input at) at to)
done_more input rest after at to tokens x within left done whole form ends to_is =
    let leads = done.1 in
    let l = leads_len done.0 input rest leads in
    let d = length-drop at input in
    let e = ap length left in
    let here : 0 + total done.0 ≡ at = omega arith in
    let more : StartsWithLexemes done.0 input (spelled x ++ after) = rw whole at leads in
    let pushed = tokens_along-push input 0 done.0 x in
    let moved = rw here at pushed in
    (done.0 ++ x ∷ [], leads_more done.0 input after x more form ends, rw (to_is, done.2) (sym moved))

pub column_fits : (input : List ℕ) (at : ℕ) (place : Place) → at ≤ length input → place ≡ place_of input at → place.column ≤ 1 + at
column_fits input at place within is =
    let l = length-take-le at input within in
    let s = suffix_len-le-length (λ byte. not (is_line_feed byte)) (take at input) in
    let column : place.column ≡ 1 + suffix_len (λ byte. not (is_line_feed byte)) (take at input) = ap (λ (p : Place). p.column) is in
    omega arith

after_is : (rest behind : List ℕ) (scanned : Scanned) (is : IsScanned rest scanned) → behind ≡ drop scanned.len rest → behind ≡ is.rest
after_is rest behind scanned is back = back ∙ ap (drop scanned.len) is.whole ∙ drop_at (spelled is.lexeme) is.rest scanned.len (sym is.len)

-- the tokens, once the next lexeme is taken
pub next_done : (input rest behind : List ℕ) (from : ℕ) (place : Place) (tokens more : List Token) (scanned : Scanned) → from ≤ length input → rest ≡ drop from input → place ≡ place_of input from → IsDone input rest tokens → IsScanned rest scanned → behind ≡ drop scanned.len rest → more ≡ tokens ++ token_at scanned.kind place from (from + scanned.len) → IsDone input behind more
next_done input rest behind from place tokens more scanned within left here done is back more_is =
    let next = done_more input rest is.rest from (from + scanned.len) tokens is.lexeme within left done is.whole is.form is.ends (ap (λ (n : ℕ). from + n) is.len) in
    let after = after_is rest behind scanned is back in
    (next.0, rw after next.1, more_is ∙ ap (λ (k : Option Kind). tokens ++ token_at k place from (from + scanned.len)) is.kind ∙ ap (λ (p : Place). tokens ++ token_at (kind_of is.lexeme) p from (from + scanned.len)) here ∙ next.2)

take-none : (n : ℕ) → take {A = ℕ} n [] ≡ []
take-none zero = refl
take-none (suc n) = refl

take-add : (n m : ℕ) (xs : List ℕ) → take (n + m) xs ≡ take n xs ++ take m (drop n xs)
take-add zero m xs = let e : 0 + m ≡ m = omega arith in rw e refl
take-add (suc n) m [] = rw (take-none m) (take-none (suc n + m))
take-add (suc n) m (x ∷ xs) = let e : suc n + m ≡ suc (n + m) = omega arith in rw e (ap (λ (ys : List ℕ). x ∷ ys) (take-add n m xs))

pub next_front : (input rest bytes : List ℕ) (from n : ℕ) → rest ≡ drop from input → bytes ≡ take n rest → take from input ++ bytes ≡ take (from + n) input
next_front input rest bytes from n left front = ap (λ (xs : List ℕ). take from input ++ xs) (front ∙ ap (take n) left) ∙ sym (take-add from n input)
