-- Names at the indices of a text's tokens.
use Rattle.std.specs.Prelude.{ℕ, List}
use Rattle.pepa_resolver.specs.declared.source.Source.{Source}
use Rattle.token_grammar.specs.Terminals.{name_at}

-- the name of the token at an index
abbrev pub name_in : Source → ℕ → List ℕ
name_in source = name_at source.input.now source.tokens.now
