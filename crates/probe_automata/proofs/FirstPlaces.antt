-- The loops that collect distinct letters and guards.
use Rattle.std.proofs.Common.{◌≡◌, ℕ, ◌+◌, ◌<◌, Bool, List, [], ◌∷◌, ◌++◌, map, take, refl, sym, ap, length, get_or, ◌∙◌}
use Rattle.std.specs.Prelude.{flat_map}
use Rattle.std.proofs.lemmas.Grind.{take_at_read, flat_map-append}
use Rattle.probe_words.specs.ProbeTables.{with_new_by, by_first_places}
use Rattle.probe_words.proofs.KindsOfSequences.{append_nil}

pub by_first_places-append : {X : Type 0} (same : X → X → Bool) (done xs ys : List X) → by_first_places same done (xs ++ ys) ≡ by_first_places same (by_first_places same done xs) ys
by_first_places-append same done [] ys = refl
by_first_places-append same done (x ∷ xs) ys = by_first_places-append same (with_new_by same done x) xs ys

map_snoc : {X Y : Type 0} (f : X → Y) (xs : List X) (x : X) → map f (xs ++ x ∷ []) ≡ map f xs ++ f x ∷ []
map_snoc f [] x = refl
map_snoc f (y ∷ xs) x = ap (λ (z : List _). f y ∷ z) (map_snoc f xs x)

taken : {X : Type 0} (xs : List X) (k : ℕ) (x : X) → k < length xs → x ≡ get_or xs k x → take (k + 1) xs ≡ take k xs ++ x ∷ []
taken xs k x l e = (take_at_read xs k x l).1 ∙ ap (λ (z : _). take k xs ++ z ∷ []) (sym e)

pub once_step : {X Y : Type 0} (same : Y → Y → Bool) (f : X → Y) (xs : List X) (k : ℕ) (x : X) (start now more : List Y) → k < length xs → x ≡ get_or xs k x → now ≡ by_first_places same start (map f (take k xs)) → more ≡ with_new_by same now (f x) → more ≡ by_first_places same start (map f (take (k + 1) xs))
once_step same f xs k x start now more l e h m =
    m ∙ ap (λ (z : List _). with_new_by same z (f x)) h ∙ sym (by_first_places-append same start (map f (take k xs)) (f x ∷ []))
    ∙ ap (λ (z : List _). by_first_places same start z) (sym (map_snoc f (take k xs) x) ∙ ap (λ (z : List _). map f z) (sym (taken xs k x l e)))

pub once_all_step : {X Y : Type 0} (same : Y → Y → Bool) (f : X → List Y) (xs : List X) (k : ℕ) (x : X) (start now more : List Y) → k < length xs → x ≡ get_or xs k x → now ≡ by_first_places same start (flat_map f (take k xs)) → more ≡ by_first_places same now (f x) → more ≡ by_first_places same start (flat_map f (take (k + 1) xs))
once_all_step same f xs k x start now more l e h m =
    let q : flat_map f (take (k + 1) xs) ≡ flat_map f (take k xs) ++ f x =
    ap (λ (z : List _). flat_map f z) (taken xs k x l e) ∙ flat_map-append f (take k xs) (x ∷ []) ∙ ap (λ (z : List _). flat_map f (take k xs) ++ z) (append_nil (f x)) in
    m ∙ ap (λ (z : List _). by_first_places same z (f x)) h ∙ sym (by_first_places-append same start (flat_map f (take k xs)) (f x)) ∙ ap (λ (z : List _). by_first_places same start z) (sym q)
