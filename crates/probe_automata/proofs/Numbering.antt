-- Numbering sets as they are first reached.
use Rattle.std.proofs.Common.{◌≡◌, ◌≢◌, ◌==◌, ℕ, zero, suc, ◌+◌, ◌≤◌, ◌<◌, ◌||◌, Bool, true, false, if◌then◌else◌, List, [], ◌∷◌, ◌++◌, map, take, refl, sym, ap, arith, length, get_or, ◌∙◌, eqb-true, eq-eqb}
use Rattle.std.proofs.lemmas.Grind.{take_at_read}
use Rattle.probe_automata.specs.Exploring.{is_in, with_new, numbering}
use Rattle.probe_words.specs.ProbeTables.{place_among, state_number_of}

or_false : (a b : Bool) → (a || b) ≡ false → (a ≡ false) × (b ≡ false)
or_false true b e = cc
or_false false b e = (refl, e)

pub is_in-append : (x : ℕ) (xs ys : List ℕ) → is_in x (xs ++ ys) ≡ (is_in x xs || is_in x ys)
is_in-append x [] ys = refl
is_in-append x (y ∷ xs) ys = go (x == y) (is_in x (xs ++ ys)) (is_in x xs) (is_in x ys) (is_in-append x xs ys)
  where
    go : (a b c d : Bool) → b ≡ (c || d) → (a || b) ≡ ((a || c) || d)
    go true b c d e = refl
    go false b c d e = e

pub missing_place : (x : ℕ) (xs : List ℕ) → is_in x xs ≡ false → place_among x xs ≡ length xs
missing_place x [] e = refl
missing_place x (y ∷ xs) e = go (x == y) (is_in x xs) (place_among x xs) (length xs) (missing_place x xs) e
  where
    go : (a b : Bool) (m n : ℕ) → (b ≡ false → m ≡ n) → (a || b) ≡ false → (if a then 0 else suc m) ≡ suc n
    go true b m n f e = cc
    go false b m n f e = ap suc (f e)

pub found_place : (x : ℕ) (xs : List ℕ) → is_in x xs ≡ true → place_among x xs < length xs
found_place x [] e = cc
found_place x (y ∷ xs) e = go (x == y) (is_in x xs) (place_among x xs) (length xs) (found_place x xs) e
  where
    go : (a b : Bool) (m n : ℕ) → (b ≡ true → m < n) → (a || b) ≡ true → (if a then 0 else suc m) < suc n
    go true b m n f e = omega arith
    go false b m n f e = let p = f e in omega arith

pub place_here : (x : ℕ) (xs : List ℕ) (at : ℕ) → at < length xs → is_in x (take at xs) ≡ false → get_or xs at 0 ≡ x → (is_in x xs ≡ true) × (place_among x xs ≡ at)
place_here x [] at l e h = absurd (omega arith)
place_here x (y ∷ xs) zero l e h = rw (eq-eqb x y (sym h)) (refl, refl)
place_here x (y ∷ xs) (suc at) l e h =
    let p = or_false (x == y) (is_in x (take at xs)) e in
    let q = place_here x xs at (omega arith) p.1 h in
    rw (p.0) (q.0, ap suc q.1)

pub still_missing : (x : ℕ) (xs : List ℕ) (at : ℕ) → at < length xs → is_in x (take at xs) ≡ false → get_or xs at 0 ≢ x → is_in x (take (at + 1) xs) ≡ false
still_missing x xs at l e n =
    rw ((take_at_read xs at 0 l).1, is_in-append, e) (go (x == get_or xs at 0) refl)
  where
    go : (b : Bool) → (x == get_or xs at 0) ≡ b → (b || false) ≡ false
    go true h = absurd (n (sym (eqb-true x (get_or xs at 0) h)))
    go false h = refl

pub place_stays : (x : ℕ) (xs ys : List ℕ) → is_in x xs ≡ true → place_among x (xs ++ ys) ≡ place_among x xs
place_stays x [] ys e = cc
place_stays x (y ∷ xs) ys e = go (x == y) (is_in x xs) (place_among x (xs ++ ys)) (place_among x xs) (place_stays x xs ys) e
  where
    go : (a b : Bool) (m n : ℕ) → (b ≡ true → m ≡ n) → (a || b) ≡ true → (if a then 0 else suc m) ≡ (if a then 0 else suc n)
    go true b m n f e = refl
    go false b m n f e = ap suc (f e)

pub move_stays : (xs ys : List ℕ) (x : ℕ) → is_in x xs ≡ true → state_number_of (xs ++ ys) x ≡ state_number_of xs x
move_stays xs ys zero e = refl
move_stays xs ys (suc x) e = place_stays (suc x) xs ys e

-- with one more, what was in stays, and the one is in
pub new_grows : (sets : List ℕ) (x : ℕ) → (ys : List ℕ) × (with_new sets x ≡ sets ++ ys)
new_grows sets x = go (is_in x sets)
  where
    go : (b : Bool) → (ys : List ℕ) × ((if b then sets else sets ++ x ∷ []) ≡ sets ++ ys)
    go true = ([], sym (nil sets))
      where
        nil : (zs : List ℕ) → zs ++ [] ≡ zs
        nil [] = refl
        nil (z ∷ zs) = ap (λ (v : List ℕ). z ∷ v) (nil zs)
    go false = (x ∷ [], refl)

pub new_in : (sets : List ℕ) (x : ℕ) → is_in x (with_new sets x) ≡ true
new_in sets x = go (is_in x sets) refl
  where
    here : (is_in x sets || ((x == x) || false)) ≡ true
    here = rw (eq-eqb x x refl) (or_true (is_in x sets))
      where
        or_true : (b : Bool) → (b || true) ≡ true
        or_true true = refl
        or_true false = refl

    go : (b : Bool) → is_in x sets ≡ b → is_in x (if b then sets else sets ++ x ∷ []) ≡ true
    go true e = e
    go false e = is_in-append x sets (x ∷ []) ∙ here

pub in_grown : (x : ℕ) (xs ys : List ℕ) → is_in x xs ≡ true → is_in x (xs ++ ys) ≡ true
in_grown x xs ys e = is_in-append x xs ys ∙ rw e refl

pub numbering-append : (sets xs ys : List ℕ) → numbering sets (xs ++ ys) ≡ numbering (numbering sets xs) ys
numbering-append sets [] ys = refl
numbering-append sets (x ∷ xs) ys = numbering-append (with_new sets x) xs ys

-- all of these are in the sets
abbrev pub AllIn : List ℕ → List ℕ → Type 0
AllIn [] sets = Unit {0}
AllIn (x ∷ xs) sets = (is_in x sets ≡ true) × AllIn xs sets

pub all_grown : (xs sets ys : List ℕ) → AllIn xs sets → AllIn xs (sets ++ ys)
all_grown [] sets ys h = tt
all_grown (x ∷ xs) sets ys h = (in_grown x sets ys h.0, all_grown xs sets ys h.1)

pub moves_stay : (xs sets ys : List ℕ) → AllIn xs sets → map (λ x. state_number_of (sets ++ ys) x) xs ≡ map (λ x. state_number_of sets x) xs
moves_stay [] sets ys h = refl
moves_stay (x ∷ xs) sets ys h = let a = move_stays sets ys x h.0 in let b = moves_stay xs sets ys h.1 in cc

pub AllIn-append : (xs ys sets : List ℕ) → AllIn xs sets → AllIn ys sets → AllIn (xs ++ ys) sets
AllIn-append [] ys sets g h = h
AllIn-append (x ∷ xs) ys sets g h = (g.0, AllIn-append xs ys sets g.1 h)

pub map-append : (f : ℕ → ℕ) (xs ys : List ℕ) → map f (xs ++ ys) ≡ map f xs ++ map f ys
map-append f [] ys = refl
map-append f (x ∷ xs) ys = ap (λ (z : List ℕ). f x ∷ z) (map-append f xs ys)

-- the sets and the moves of these leads
pub record AreNumbered (done sets moves : List ℕ) : Type 0 where
  pub few : length sets ≤ 1024
  pub numbered : sets ≡ numbering (0 ∷ []) done
  pub within : AllIn done sets
  pub moves_are : moves ≡ map (λ x. state_number_of sets x) done

pub one_more : (done sets moves : List ℕ) (x : ℕ) (n : ℕ) (more : List ℕ) → AreNumbered done sets moves → more ≡ with_new sets x → length more ≤ 1024 → n ≡ state_number_of more x → AreNumbered (done ++ x ∷ []) more (moves ++ n ∷ [])
one_more done sets moves x n more a e l m =
    let g = new_grows sets x in
    let k : more ≡ sets ++ g.0 = e ∙ g.1 in
    record {
      few = l;
      numbered = e ∙ ap (λ (z : List ℕ). with_new z x) a.numbered ∙ sym (numbering-append (0 ∷ []) done (x ∷ []));
      within = AllIn-append done (x ∷ []) more (rw k (all_grown done sets g.0 a.within)) (rw e (new_in sets x), tt);
      moves_are = rw (map-append (λ x. state_number_of more x) done (x ∷ []), m) (ap (λ (z : List ℕ). z ++ state_number_of more x ∷ []) (a.moves_are ∙ sym (moves_stay done sets g.0 a.within) ∙ ap (λ (z : List ℕ). map (λ x. state_number_of z x) done) (sym k)));
    }
