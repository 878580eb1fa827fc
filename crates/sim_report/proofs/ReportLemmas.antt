-- One bin more.
use Rattle.std.proofs.Common.{◌≡◌, ℕ, zero-add, ◌+◌, List, [], ◌∷◌, ◌++◌, sym, ap, ◌∙◌, map-id, append-nil}
use Rattle.std.specs.List.{flat_map, range_with_len}
use Rattle.std.proofs.lemmas.List.FromFn.{map-range_with_len_more}
use Rattle.std.proofs.lemmas.List.Concat.{flat_map-append}

pub one_more : (f : ℕ → List ℕ) (n : ℕ)
    → flat_map f (range_with_len 0 (n + 1)) ≡ flat_map f (range_with_len 0 n) ++ f n
one_more f n =
    let more : range_with_len 0 (n + 1) ≡ range_with_len 0 n ++ n ∷ [] =
    sym (map-id (range_with_len 0 (n + 1))) ∙ map-range_with_len_more (λ k. k) 0 n n (zero-add n)
    ∙ ap (λ (ks : List ℕ). ks ++ n ∷ []) (map-id (range_with_len 0 n)) in
    ap (λ (ks : List ℕ). flat_map f ks) more ∙ flat_map-append f (range_with_len 0 n) (n ∷ [])
    ∙ ap (λ (end : List ℕ). flat_map f (range_with_len 0 n) ++ end) (append-nil (f n))
