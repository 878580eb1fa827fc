-- What a token is to a grammar, and its bytes.
use Rattle.std.specs.Prelude.{ℕ, List, [], map, codes, nat_eq, if◌then◌else◌, slice_range, slice_get, Option, Some, None}
use Rattle.std.specs.Cmp.Lexicographic.{pointwise}
use Rattle.pepa_lexer.specs.declared.kinds.Token.{Token}
use Rattle.pepa_lexer.specs.declared.kinds.Kind.{Kind}
use Rattle.pepa_lexer.specs.declared.kinds.Kind.TheVariants as kinds
use Rattle.token_grammar.specs.declared.terminal.Terminal.{Terminal}
use Rattle.token_grammar.specs.declared.terminal.Terminal.TheVariants.{Small, Probe, Tau, Capital, Top, Number, Mark, End}

-- the bytes of a token
abbrev pub text_of : List ℕ → Token → List ℕ
text_of input token = slice_range input token.from token.to

-- the bytes of a token, if there is one
abbrev pub bytes_of : List ℕ → Option Token → List ℕ
bytes_of input None = []
bytes_of input (Some token) = text_of input token

-- the bytes of the token at an index: a name, where it is one
abbrev pub name_at : List ℕ → List Token → ℕ → List ℕ
name_at input tokens i = bytes_of input (slice_get tokens i)

-- a name that begins with a small letter, or a word of the grammar
abbrev pub small_terminal : List ℕ → Terminal
small_terminal text =
    if pointwise nat_eq text (codes "infty") then Top
    else (if pointwise nat_eq text (codes "tau") then Tau
    else (if pointwise nat_eq text (codes "probe") then Probe
    else Small))

-- a name that begins with a capital, or the word `T`
abbrev pub capital_terminal : List ℕ → Terminal
capital_terminal text = if pointwise nat_eq text (codes "T") then Top else Capital

-- what a token of this kind and text is
abbrev pub terminal_from : Kind → List ℕ → Terminal
terminal_from kinds.Small text = small_terminal text
terminal_from kinds.Capital text = capital_terminal text
terminal_from (kinds.Number digits scale) text = Number
terminal_from (kinds.Sign sign) text = Mark sign
terminal_from kinds.End text = End

-- what a token of an input is
abbrev pub terminal_of : List ℕ → Token → Terminal
terminal_of input token = terminal_from token.kind (text_of input token)

-- what the tokens of an input are
abbrev pub terminals : List ℕ → List Token → List Terminal
terminals input tokens = map (terminal_of input) tokens
