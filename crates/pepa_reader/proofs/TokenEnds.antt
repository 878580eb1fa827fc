-- The last token of a text is its end, and no other is.
use Rattle.std.proofs.Common.{◌≢◌, ℕ, ◌+◌, ◌<◌, Bool, true, false, if◌then◌else◌, nat_eq, codes, List, [], ◌∷◌, length, map, ap, ◌∙◌, arith, length-append}
use Rattle.std.specs.List.{AllByRecursion}
use Rattle.std.specs.Cmp.Lexicographic.{pointwise}
use Rattle.std.proofs.lemmas.List.{map-append}
use Rattle.pepa_lexer.specs.Lexemes.{Lexeme, Blank, LineComment, BlockComment, Word, Whole, Pointed, Mark, spelled}
use Rattle.pepa_lexer.specs.Bytes.{is_capital, begins}
use Rattle.pepa_lexer.specs.TokenLists.{IsTokens, tokens_along, place_of, end_of}
use Rattle.pepa_lexer.specs.declared.kinds.Kind.TheVariants as kinds
use Rattle.pepa_lexer.specs.declared.kinds.Token.{Token}
use Rattle.token_grammar.specs.declared.terminal.Terminal.{Terminal}
use Rattle.token_grammar.specs.declared.terminal.Terminal.TheVariants.{Small, Probe, Tau, Capital, Top, End}
use Rattle.token_grammar.specs.Terminals.{terminals, terminal_of, terminal_from, text_of}
use Rattle.pepa_reader.specs.ItemReading.{IsEnded}

-- a word is no end
no_small_end : (a b c : Bool) → (if a then Top else (if b then Tau else (if c then Probe else Small))) ≢ End
no_small_end true b c e = cc
no_small_end false true c e = cc
no_small_end false false true e = cc
no_small_end false false false e = cc

-- and a name that begins with a capital
no_capital_end : (a : Bool) → (if a then Top else Capital) ≢ End
no_capital_end true e = cc
no_capital_end false e = cc

-- a name is no end
no_word_end : (b : Bool) (text : List ℕ) → terminal_from (if b then kinds.Capital else kinds.Small) text ≢ End
no_word_end true text e = no_capital_end (pointwise nat_eq text (codes "T")) e
no_word_end false text e = no_small_end (pointwise nat_eq text (codes "infty")) (pointwise nat_eq text (codes "tau")) (pointwise nat_eq text (codes "probe")) e

-- none of the terminals is the end
abbrev NoEnd : List Terminal → Type 0
NoEnd kinds = AllByRecursion (λ terminal. terminal ≢ End) kinds

-- a lexeme is no end
no_end_along : (input : List ℕ) (at : ℕ) (lexemes : List Lexeme) → NoEnd (map (terminal_of input) (tokens_along input at lexemes))
no_end_along input at [] = tt
no_end_along input at (Blank byte ∷ more) = no_end_along input (at + length (spelled (Blank byte))) more
no_end_along input at (LineComment body ∷ more) = no_end_along input (at + length (spelled (LineComment body))) more
no_end_along input at (BlockComment body ∷ more) = no_end_along input (at + length (spelled (BlockComment body))) more
no_end_along input at (Word bytes ∷ more) =
    let token : Token = record { kind = if begins is_capital bytes then kinds.Capital else kinds.Small; place = place_of input at; from = at; to = at + length bytes } in
    (no_word_end (begins is_capital bytes) (text_of input token), no_end_along input (at + length bytes) more)
no_end_along input at (Whole digits ∷ more) = ((λ e. cc), no_end_along input (at + length (spelled (Whole digits))) more)
no_end_along input at (Pointed digits behind ∷ more) = ((λ e. cc), no_end_along input (at + length (spelled (Pointed digits behind))) more)
no_end_along input at (Mark sign ∷ more) = ((λ e. cc), no_end_along input (at + length (spelled (Mark sign))) more)

-- only the last token is the end
pub tokens_ended : (input : List ℕ) (tokens : List Token) → IsTokens input tokens → IsEnded (terminals input tokens)
tokens_ended input tokens h = (
  map (terminal_of input) (tokens_along input 0 h.0),
  ap (terminals input) h.2 ∙ map-append (terminal_of input) (tokens_along input 0 h.0) (end_of input),
  no_end_along input 0 h.0,
)

-- a text has a token
pub some_token : (input : List ℕ) (tokens : List Token) → IsTokens input tokens → 0 < length tokens
some_token input tokens h = omega (arith, ap length h.2, length-append (tokens_along input 0 h.0) (end_of input))
