use Rattle.std.proofs.Common.{◌≡◌, ◌≤◌, List, length, drop}
use Rattle.pepa_lexer.specs.Lexemes.{Lexeme, StartsWithLexemes}
use Rattle.pepa_lexer.specs.TokenLists.{place_of, tokens_along}
use Rattle.pepa_lexer.proofs.lexer.tokens.Given as goal

abbrev pub invariant-loop-rest : goal.invariant-loop-rest
invariant-loop-rest l = record {
  within : l.from ≤ length l.input;
  left : l.rest ≡ drop l.from l.input;
  place : l.place ≡ place_of l.input l.from;
  done : (lexemes : List Lexeme) × StartsWithLexemes lexemes l.input l.rest × (l.list ≡ tokens_along l.input 0 lexemes);
}

abbrev pub decreases-loop-rest : goal.decreases-loop-rest
decreases-loop-rest l = length l.rest
