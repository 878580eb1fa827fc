use Rattle.std.proofs.Common.{◌≡◌, ℕ, ◌+◌, ◌≤◌, List, ◌++◌, take}
use Rattle.pepa_lexer.specs.TokenLists.{place_after}
use Rattle.pepa_lexer.proofs.lexer.place_behind.Given as goal

abbrev pub invariant-loop-byte : goal.invariant-loop-byte
invariant-loop-byte l = record {
  line : l.line ≤ l.fn.place.line + l.byte-index;
  column : l.column ≤ l.fn.place.column + l.byte-index;
  place : (front : List ℕ) → l.fn.place ≡ place_after front → record { line = l.line; column = l.column } ≡ place_after (front ++ take l.byte-index l.bytes);
}
