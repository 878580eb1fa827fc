-- What stands at an index, and terminals spelled one after the other.
use Rattle.std.proofs.Common.{◌≡◌, ◌≢◌, ℕ, ◌+◌, ◌<◌, ◌≤◌, Bool, true, false, MatchBool, List, [], ◌∷◌, ◌++◌, length, map, drop, refl, sym, ap, subst, get_or, add-one, suc, ◌∙◌, append_assoc, length-append, arith}
use Rattle.std.proofs.lemmas.List.{drop-map, length-map}
use Rattle.std.proofs.Math.ListN.{drop_of_length-le}
use Rattle.std.proofs.Math.Seq.{drop-cons}
use Rattle.pepa_lexer.specs.declared.kinds.Token.{Token}
use Rattle.token_grammar.specs.declared.terminal.Terminal.{Terminal}
use Rattle.token_grammar.specs.declared.cursor.Text.{Text}
use Rattle.token_grammar.specs.Terminals.{terminal_of}
use Rattle.token_grammar.specs.Cursors.{kinds_of, Begins, IsSpelledFrom, IsAt}

-- ---- what stands at an index

pub begins_yes : (rest : List Terminal) (first other : Terminal) (more : List Terminal) → rest ≡ first ∷ more → first ≡ other → Begins rest other
begins_yes rest first other more e same = rw e same

pub begins_no : (rest : List Terminal) (first other : Terminal) (more : List Terminal) → rest ≡ first ∷ more → first ≢ other → ¬ Begins rest other
begins_no rest first other more e other_one b = other_one (rw e at b)

pub begins_cases : (b : Bool) (rest : List Terminal) (first other : Terminal) (more : List Terminal) → rest ≡ first ∷ more → MatchBool b (first ≡ other) (first ≢ other) → MatchBool b (Begins rest other) (¬ Begins rest other)
begins_cases true rest first other more e h = begins_yes rest first other more e h
begins_cases false rest first other more e h = begins_no rest first other more e h

pub begins_nothing : (rest : List Terminal) (other : Terminal) → rest ≡ [] → ¬ Begins rest other
begins_nothing rest other e b = rw e at b

drop_mapped : {X Y : Type 0} (f : X → Y) (xs : List X) (at : ℕ) (x : X) → at < length xs → x ≡ get_or xs at x → drop at (map f xs) ≡ f x ∷ drop (at + 1) (map f xs)
drop_mapped f xs at x within is =
    drop-map f at xs ∙ ap (map f) (drop-cons xs at x within) ∙ ap (λ y. f y ∷ map f (drop (suc at) xs)) (sym is) ∙ ap (λ ys. f x ∷ ys) (sym (rw add-one (drop-map f (suc at) xs)))

pub kinds_at : (text : Text) (at : ℕ) (token : Token) → at < length text.tokens.now → token ≡ get_or text.tokens.now at token → drop at (kinds_of text) ≡ terminal_of text.input.now token ∷ drop (at + 1) (kinds_of text)
unfolding kinds_of
kinds_at text at token within is = drop_mapped (terminal_of text.input.now) text.tokens.now at token within is

pub kinds_past : (text : Text) (at : ℕ) → length text.tokens.now ≤ at → drop at (kinds_of text) ≡ []
unfolding kinds_of
kinds_past text at past = drop-map (terminal_of text.input.now) at text.tokens.now ∙ ap (map (terminal_of text.input.now)) (drop_of_length-le text.tokens.now past)

kinds_len : (text : Text) → length (kinds_of text) ≡ length text.tokens.now
unfolding kinds_of
kinds_len text = length-map text.tokens.now (terminal_of text.input.now)

front_of : (kinds : List Terminal) (at : ℕ) (terminal : Terminal) → at < length kinds → Begins (drop at kinds) terminal → drop at kinds ≡ terminal ∷ drop (at + 1) kinds
front_of kinds at terminal within b =
    let e : drop at kinds ≡ get_or kinds at terminal ∷ drop (suc at) kinds = drop-cons kinds at terminal within in
    let same : get_or kinds at terminal ≡ terminal = rw e at b in
    e ∙ ap (λ first. first ∷ drop (suc at) kinds) same ∙ rw add-one refl

pub is_at : (text : Text) (at : ℕ) (terminal : Terminal) → at < length text.tokens.now → Begins (drop at (kinds_of text)) terminal → IsAt (kinds_of text) at (at + 1) terminal
is_at text at terminal within b =
    let inside : at < length (kinds_of text) = rw (kinds_len text) within in
    record { spelled = record { whole = front_of (kinds_of text) at terminal inside b; index = refl }; within = inside }

-- ---- one after the other

pub spelled_nothing : (kinds : List Terminal) (at : ℕ) → IsSpelledFrom kinds at at []
spelled_nothing kinds at = record { whole = refl; index = omega arith }

pub spelled_append : {kinds : List Terminal} {at mid next : ℕ} {a b : List Terminal} → IsSpelledFrom kinds at mid a → IsSpelledFrom kinds mid next b → IsSpelledFrom kinds at next (a ++ b)
spelled_append {kinds = kinds} {at = at} {mid = mid} {next = next} {a = a} {b = b} first second =
    record { whole = first.whole ∙ ap (λ more. a ++ more) second.whole ∙ sym (append_assoc a b (drop next kinds)); index = omega (arith, first.index, second.index, length-append a b) }

pub spelled_one : {kinds : List Terminal} {at next : ℕ} {terminal : Terminal} → IsAt kinds at next terminal → IsSpelledFrom kinds at next (terminal ∷ [])
spelled_one h = h.spelled

-- the same text, written otherwise
pub spelled_as : {kinds : List Terminal} {at next : ℕ} {a b : List Terminal} → a ≡ b → IsSpelledFrom kinds at next a → IsSpelledFrom kinds at next b
spelled_as {kinds = kinds} {at = at} {next = next} e h = subst (λ text. IsSpelledFrom kinds at next text) e h
