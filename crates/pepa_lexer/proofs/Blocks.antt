-- The first `*/` in a text.
use Rattle.std.proofs.Common.{◌≡◌, ℕ, ◌+◌, ◌-◌, ◌<◌, ◌≤◌, ◌⊎◌, List, ◌∷◌, ◌++◌, length, get_or, take, drop, sym, ap, ◌∙◌, arith, inl, inr}
use Rattle.std.proofs.lemmas.List.{get_or-take, get_or_past, length-take-le, take-append-drop, drop_more}
use Rattle.pepa_lexer.specs.Lexemes.{IsCloseAt, IsOpen}
use Rattle.pepa_lexer.specs.Scans.{IsBlockBody}

below_or_not : (k n : ℕ) → (k < n) ⊎ (n ≤ k)
below_or_not k n = grind arith

open_front : (text : List ℕ) (n : ℕ) → n ≤ length text → ((k : ℕ) → k + 1 < n + 1 → ¬ IsCloseAt text k) → IsOpen (take n text)
open_front text n within before k close =
    elim (below_or_not (k + 1) n) [
      | inl lt ↦ before k (omega arith) (sym (get_or-take n text k 0 (omega arith)) ∙ close.0, sym (get_or-take n text (k + 1) 0 lt) ∙ close.1)
      | inr ge ↦ let short : length (take n text) ≤ k + 1 = omega (arith, length-take-le n text within) in let past = get_or_past (take n text) (k + 1) 0 short in let is = close.1 in absurd (omega arith)
    ]

block_at : (text : List ℕ) (n : ℕ) → n + 1 < length text → get_or text n 0 ≡ 42 → get_or text (n + 1) 0 ≡ 47 → ((k : ℕ) → k + 1 < n + 1 → ¬ IsCloseAt text k) → IsBlockBody text n
block_at text n lt star slash before =
    let first = drop_more text n 0 (omega arith) in
    let second = drop_more text (n + 1) 0 lt in
    let cut : drop n text ≡ 42 ∷ 47 ∷ drop (n + 1 + 1) text = first ∙ ap (λ (x : ℕ). x ∷ drop (n + 1) text) star ∙ ap (λ (x : List ℕ). 42 ∷ x) second ∙ ap (λ (x : ℕ). 42 ∷ x ∷ drop (n + 1 + 1) text) slash in
    record {
      body = take n text;
      rest = drop (n + 1 + 1) text;
      whole = sym (take-append-drop n text) ∙ ap (λ (x : List ℕ). take n text ++ x) cut;
      open_body = open_front text n (omega arith) before;
      len_is = sym (length-take-le n text (omega arith));
    }

pub block_is : (text : List ℕ) (at : ℕ) → 0 < at → at < length text → get_or text (at - 1) 0 ≡ 42 → get_or text at 0 ≡ 47 → ((k : ℕ) → k + 1 < at → ¬ IsCloseAt text k) → IsBlockBody text (at - 1)
block_is text at some lt star slash before =
    let e : at - 1 + 1 ≡ at = omega arith in
    block_at text (at - 1) (omega arith) star (rw e slash) (λ k h. before k (omega arith))
