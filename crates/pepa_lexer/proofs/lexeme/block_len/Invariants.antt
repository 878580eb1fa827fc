use Rattle.std.proofs.Common.{◌≡◌, ◌≢◌, ℕ, ◌+◌, ◌-◌, ◌<◌, true, false, get_or}
use Rattle.pepa_lexer.specs.Lexemes.{IsCloseAt}
use Rattle.pepa_lexer.proofs.lexeme.block_len.Given as goal

abbrev pub invariant-loop-at : goal.invariant-loop-at
invariant-loop-at l = record {
  open_before : (k : ℕ) → k + 1 < l.at → ¬ IsCloseAt l.text k;
  star : l.behind_star ≡ true → (0 < l.at) × (get_or l.text (l.at - 1) 0 ≡ 42);
  no_star : l.behind_star ≡ false → 0 < l.at → get_or l.text (l.at - 1) 0 ≢ 42;
}
