-- What stands at an index, and the place that is told of it.
use Rattle.std.proofs.Common.{◌≡◌, ℕ, zero, suc, ◌<◌, List, [], ◌∷◌, length, take, drop, Some, slice_get, slice_index_or, refl, sym, ap, ◌∙◌}
use Rattle.std.proofs.lemmas.List.{take-map}
use Rattle.std.proofs.lemmas.Option.{slice_get-get_or, same_Some}
use Rattle.pepa_lexer.specs.declared.kinds.Token.{Token}
use Rattle.token_grammar.specs.declared.terminal.Terminal.{Terminal}
use Rattle.token_grammar.specs.Terminals.{terminals, terminal_of}
use Rattle.token_grammar.specs.Languages.{StandsAt}
use Rattle.token_grammar.specs.Cursors.{Begins}

-- what stands at the index begins what is left there
pub begins_there : (kinds : List Terminal) (at : ℕ) (terminal : Terminal) → StandsAt kinds at terminal → Begins (drop at kinds) terminal
begins_there [] at terminal s = cc
begins_there (first ∷ more) zero terminal s = same_Some first terminal s
begins_there (first ∷ more) (suc at) terminal s = begins_there more at terminal s

-- and the other way
pub stands_there : (kinds : List Terminal) (at : ℕ) (terminal : Terminal) → Begins (drop at kinds) terminal → StandsAt kinds at terminal
stands_there [] zero terminal b = absurd b
stands_there [] (suc at) terminal b = absurd b
stands_there (first ∷ more) zero terminal b = cc
stands_there (first ∷ more) (suc at) terminal b = stands_there more at terminal b

-- the token at an index, by its place
pub has_place : (tokens : List Token) (i : ℕ) (d : Token) → i < length tokens → (token : Token) × (slice_get tokens i ≡ Some token) × ((slice_index_or tokens i d).place ≡ token.place)
has_place tokens i d within = (slice_index_or tokens i d, slice_get-get_or tokens i d within, refl)

-- the terminals of the first tokens
pub front_kinds : (input : List ℕ) (tokens few : List Token) (n : ℕ) → few ≡ take n tokens → terminals input few ≡ take n (terminals input tokens)
front_kinds input tokens few n e = ap (terminals input) e ∙ sym (take-map (terminal_of input) n tokens)
