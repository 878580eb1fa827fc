-- A made text is short enough to be read.
use Rattle.std.proofs.Common.{◌≡◌, ℕ, zero, suc, ◌+◌, ◌*◌, ◌/◌, ◌^◌, ◌≤◌, List, [], ◌∷◌, ◌++◌, length, codes, replicate, refl, arith, length-append}
use Rattle.std.specs.List.{flat_map}
use Rattle.model_maker.specs.MadeModel.{IsMadeSize, made_lines, joined_names, made_system, made_text}

-- what comes after the first name
abbrev more_names : List ℕ → ℕ → List ℕ
more_names name count = flat_map (λ (each : List ℕ). codes " || " ++ each) (replicate count name)

more_length : (name : List ℕ) (count : ℕ) → length name ≡ 4 → length (more_names name count) ≡ count * 8
more_length name zero four = refl
more_length name (suc count) four =
    let rest : length (more_names name count) ≡ count * 8 = more_length name count four in
    let split : length (more_names name (suc count)) ≡ length (codes " || " ++ name) + length (more_names name count) =
    length-append (codes " || " ++ name) (more_names name count) in
    let here : length (codes " || " ++ name) ≡ 4 + length name = length-append (codes " || ") name in
    omega (arith, four, rest, split, here)

joined_length : (name : List ℕ) (count : ℕ) → length name ≡ 4 → length (joined_names name count) ≤ count * 8
joined_length name zero four = omega arith
joined_length name (suc count) four =
    let split : length (joined_names name (suc count)) ≡ length name + length (more_names name count) =
    length-append name (more_names name count) in
    let rest = more_length name count four in
    omega (arith, four, split, rest)

pub made_text_is_short : (size : ℕ) → IsMadeSize size → length (made_text size) ≤ 2 ^ 20
made_text_is_short size (one, most) =
    let lines = flat_map (λ (line : List ℕ). line ++ 10 ∷ []) made_lines in
    let users = joined_names (codes "Idle") size in
    let servers = joined_names (codes "Free") ((size + 3) / 4) in
    let of_lines : length lines ≡ 184 = refl in
    let of_users : length users ≤ size * 8 = joined_length (codes "Idle") size refl in
    let of_servers : length servers ≤ (size + 3) / 4 * 8 = joined_length (codes "Free") ((size + 3) / 4) refl in
    let few : (size + 3) / 4 ≤ 25 = omega (arith, most) in
    let whole : length (made_text size) ≡ length lines + length (made_system size ++ 10 ∷ []) = length-append lines (made_system size ++ 10 ∷ []) in
    let system : length (made_system size ++ 10 ∷ []) ≡ length (made_system size) + 1 = length-append (made_system size) (10 ∷ []) in
    let open_text = users ++ codes " <ask,reply> (" in
    let first : length (made_system size) ≡ length (open_text ++ servers) + 1 = length-append (open_text ++ servers) (codes ")") in
    let second : length (open_text ++ servers) ≡ length open_text + length servers = length-append open_text servers in
    let third : length open_text ≡ length users + 14 = length-append users (codes " <ask,reply> (") in
    omega (arith, of_lines, of_users, of_servers, few, whole, system, first, second, third, most)
