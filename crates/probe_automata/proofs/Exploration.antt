-- The loops that explore.
use Rattle.std.proofs.Common.{◌≡◌, ◌==◌, ℕ, zero, suc, ◌+◌, ◌≤◌, ◌<◌, ◌||◌, Bool, true, false, if◌then◌else◌, List, [], ◌∷◌, ◌++◌, map, take, ◌⊎◌, inl, inr, refl, sym, ap, arith, length, get_or, ◌∙◌, subst, eqb-true, eq-eqb, length-append, append_assoc}
use Rattle.std.specs.Prelude.{bit_and, slice_get, Some, None, Ok, Err, nat_eq, cond}
use Rattle.std.specs.List.{position_or_len}
use Rattle.std.proofs.lemmas.List.Recursion.{is_position_or_len}
use Rattle.probe_automata.specs.declared.build_fault.BuildFault.{BuildFault}
use Rattle.probe_automata.specs.declared.build_fault.BuildFault.TheVariants.{TooManyGuards, TooManyStates, Memory}
use Rattle.std.proofs.lemmas.Grind.{take_at_read, flat_map-append}
use Rattle.std.proofs.lemmas.List.{take-append-le}
use Rattle.std.proofs.lemmas.Option.{slice_get_within, get_or_from_slice_get}
use Rattle.probe_words.specs.declared.position_list.Positions.{Positions}
use Rattle.probe_automata.specs.Exploring.{is_in, with_new, numbering, move_at, Explores, candidates_of, row_from, rows_from, IsExplored, Numbers, Reachable, from_start, next, IsTooMuch}
use Rattle.probe_words.specs.ProbeTables.{place_among, state_number_of}
use Rattle.probe_words.proofs.KindsOfSequences.{append_nil}
use Rattle.probe_automata.proofs.Numbering.{missing_place, found_place, is_in-append, in_grown, new_grows, AreNumbered, one_more, map-append}

pub in_new : (x y : ℕ) (sets : List ℕ) → is_in x (with_new sets y) ≡ true → (is_in x sets ≡ true) ⊎ (x ≡ y)
in_new x y sets e = go (is_in y sets) e
  where
    one : (a b : Bool) → a ≡ (x == y) → (b || (a || false)) ≡ true → (b ≡ true) ⊎ (x ≡ y)
    one a true h e = inl refl
    one true false h e = inr (eqb-true x y (sym h))
    one false false h e = cc

    go : (b : Bool) → is_in x (if b then sets else sets ++ y ∷ []) ≡ true → (is_in x sets ≡ true) ⊎ (x ≡ y)
    go true e = inl e
    go false e = one (x == y) (is_in x sets) refl (sym (is_in-append x sets (y ∷ [])) ∙ e)

pub in_at : (sets : List ℕ) (at x : ℕ) → slice_get sets at ≡ Some x → is_in x sets ≡ true
in_at [] at x e = cc
in_at (y ∷ sets) zero x e = let h : x ≡ y = cc in rw (eq-eqb x y h) refl
in_at (y ∷ sets) (suc at) x e = rw (in_at sets at x e) (or_true (x == y))
  where
    or_true : (b : Bool) → (b || true) ≡ true
    or_true true = refl
    or_true false = refl

pub record ExploredStates (g : Positions) (filters : List ℕ) (state : ℕ) (sets : List ℕ) (moves : List ℕ) : Type 0 where
  pub numbered : AreNumbered (rows_from g filters (take state sets)) sets moves
  pub reached : (x : ℕ) → is_in x sets ≡ true → Reachable g filters x
  pub inside : state ≤ length sets

pub record ExploredRow (g : Positions) (filters base : List ℕ) (state set k : ℕ) (sets moves : List ℕ) : Type 0 where
  pub numbered : AreNumbered (rows_from g filters (take state base) ++ map (λ f. bit_and (candidates_of g set) f) (take k filters)) sets moves
  pub more : List ℕ
  pub grown : sets ≡ base ++ more
  pub here : slice_get base state ≡ Some set
  pub reached : (x : ℕ) → is_in x sets ≡ true → Reachable g filters x

pub outer_start : (g : Positions) (filters : List ℕ) → ExploredStates g filters 0 (0 ∷ []) []
outer_start g filters = record {
  numbered = record { few = omega arith; numbered = refl; within = tt; moves_are = refl };
  reached = λ x e. go x (x == 0) refl e;
  inside = omega arith;
}
  where
    go : (x : ℕ) (b : Bool) → b ≡ (x == 0) → (b || false) ≡ true → Reachable g filters x
    go x true h e = rw (eqb-true x 0 (sym h)) from_start
    go x false h e = cc

pub inner_start : (g : Positions) (filters : List ℕ) (state set : ℕ) (sets moves : List ℕ) → ExploredStates g filters state sets moves → slice_get sets state ≡ Some set → ExploredRow g filters sets state set 0 sets moves
inner_start g filters state set sets moves o e = record {
  numbered = subst (λ (z : List ℕ). AreNumbered z sets moves) (sym (append_nil (rows_from g filters (take state sets)))) o.numbered;
  more = [];
  grown = sym (append_nil sets);
  here = e;
  reached = o.reached;
}

pub inner_step : (g : Positions) (filters base : List ℕ) (state set k : ℕ) (sets moves : List ℕ) (f n : ℕ) (more : List ℕ) → ExploredRow g filters base state set k sets moves → k < length filters → f ≡ get_or filters k 0 → more ≡ with_new sets (bit_and (candidates_of g set) f) → length more ≤ 1024 → n ≡ state_number_of more (bit_and (candidates_of g set) f) → ExploredRow g filters base state set (k + 1) more (moves ++ n ∷ [])
inner_step g filters base state set k sets moves f n more i l h e few m =
    let x : ℕ = bit_and (candidates_of g set) f in
    let h1 = map-append (λ f. bit_and (candidates_of g set) f) (take k filters) (get_or filters k 0 ∷ []) in
    let q : rows_from g filters (take state base) ++ map (λ f. bit_and (candidates_of g set) f) (take (k + 1) filters) ≡ (rows_from g filters (take state base) ++ map (λ f. bit_and (candidates_of g set) f) (take k filters)) ++ x ∷ [] =
    rw ((take_at_read filters k 0 l).1, h1, h) (sym (append_assoc (rows_from g filters (take state base)) (map (λ f. bit_and (candidates_of g set) f) (take k filters)) (bit_and (candidates_of g set) (get_or filters k 0) ∷ []))) in
    let w = new_grows sets x in
    let inn : is_in set sets ≡ true = rw i.grown (in_grown set base i.more (in_at base state set i.here)) in
    record {
      numbered = subst (λ (z : List ℕ). AreNumbered z more (moves ++ n ∷ [])) (sym q) (one_more (rows_from g filters (take state base) ++ map (λ f. bit_and (candidates_of g set) f) (take k filters)) sets moves x n more i.numbered e few m);
      more = i.more ++ w.0;
      grown = e ∙ w.1 ∙ ap (λ (z : List ℕ). z ++ w.0) i.grown ∙ append_assoc base i.more w.0;
      here = i.here;
      reached = λ y a. elim (in_new y x sets (sym (ap (λ (z : List ℕ). is_in y z) e) ∙ a)) [
        | inl b ↦ i.reached y b
        | inr b ↦ rw (b, h) (next (i.reached set inn) k l)
      ];
    }

pub inner_done : (g : Positions) (filters base : List ℕ) (state set k : ℕ) (sets moves : List ℕ) → ExploredRow g filters base state set k sets moves → take k filters ≡ filters → ExploredStates g filters (state + 1) sets moves
inner_done g filters base state set k sets moves i e =
    let l = slice_get_within base state set i.here in
    let t : take (state + 1) sets ≡ take state base ++ set ∷ [] =
    rw (i.grown, take-append-le (state + 1) base i.more (omega arith), (take_at_read base state set l).1, get_or_from_slice_get base state set set i.here) refl in
    let q : rows_from g filters (take (state + 1) sets) ≡ rows_from g filters (take state base) ++ row_from g filters set =
    rw t (flat_map-append (λ z. row_from g filters z) (take state base) (set ∷ []) ∙ ap (λ (z : List ℕ). rows_from g filters (take state base) ++ z) (append_nil (row_from g filters set))) in
    record {
      numbered = subst (λ (z : List ℕ). AreNumbered z sets moves) (ap (λ (z : List ℕ). rows_from g filters (take state base) ++ map (λ f. bit_and (candidates_of g set) f) z) e ∙ sym q) i.numbered;
      reached = i.reached;
      inside = rw i.grown (let a = length-append base i.more in omega arith);
    }

pub too_much : (g : Positions) (filters base : List ℕ) (state set k : ℕ) (sets moves : List ℕ) (f : ℕ) → ExploredRow g filters base state set k sets moves → k < length filters → f ≡ get_or filters k 0 → length sets ≡ 1024 → is_in (bit_and (candidates_of g set) f) sets ≡ false → IsTooMuch g filters
too_much g filters base state set k sets moves f i l h many fresh =
    let x : ℕ = bit_and (candidates_of g set) f in
    let inn : is_in set sets ≡ true = rw i.grown (in_grown set base i.more (in_at base state set i.here)) in
    record {
      sets = sets;
      one_more = x;
      many = many;
      fresh = fresh;
      done = rows_from g filters (take state base) ++ map (λ f. bit_and (candidates_of g set) f) (take k filters);
      numbered = i.numbered.numbered;
      reached = λ y a. go y (y == x) refl a;
    }
  where
    go : (y : ℕ) (b : Bool) → b ≡ (y == bit_and (candidates_of g set) f) → (b || is_in y sets) ≡ true → Reachable g filters y
    go y true q a = rw (eqb-true y (bit_and (candidates_of g set) f) (sym q), h) (next (i.reached set (rw i.grown (in_grown set base i.more (in_at base state set i.here)))) k l)
    go y false q a = i.reached y a

move_is : (sets : List ℕ) (x : ℕ) → state_number_of sets x ≡ move_at x (place_among x sets)
move_is sets zero = refl
move_is sets (suc x) = refl

place_end : (x : ℕ) (sets : List ℕ) → is_in x sets ≡ false → place_among x (sets ++ x ∷ []) ≡ length sets
place_end x [] e = rw (eq-eqb x x refl) refl
place_end x (y ∷ sets) e = go (x == y) (is_in x sets) (place_among x (sets ++ x ∷ [])) (length sets) (place_end x sets) e
  where
    go : (a b : Bool) (m n : ℕ) → (b ≡ false → m ≡ n) → (a || b) ≡ false → (if a then 0 else suc m) ≡ suc n
    go true b m n f e = cc
    go false b m n f e = ap suc (f e)

pub insert_place : (x : ℕ) (sets : List ℕ) (place : ℕ) → place ≡ position_or_len (nat_eq x) sets → place ≡ place_among x (with_new sets x)
insert_place x sets place e = e ∙ first_is sets ∙ go (is_in x sets) refl
  where
    first_is : (xs : List ℕ) → position_or_len (nat_eq x) xs ≡ place_among x xs
    first_is xs = sym (is_position_or_len (λ ys. place_among x ys) (nat_eq x) refl (λ y ys. step (x == y) (place_among x ys)) xs)
      where
        step : (b : Bool) (n : ℕ) → (if b then 0 else suc n) ≡ cond b 0 (1 + n)
        step true n = refl
        step false n = omega arith

    go : (b : Bool) → is_in x sets ≡ b → place_among x sets ≡ place_among x (if b then sets else sets ++ x ∷ [])
    go true h = refl
    go false h = missing_place x sets h ∙ sym (place_end x sets h)

pub number_refused : (old new : List ℕ) (set place : ℕ) → length old ≤ 1024 → new ≡ with_new old set → place ≡ place_among set new → 1024 ≤ place → (length old ≡ 1024) × (is_in set old ≡ false)
number_refused old new set place l e p m = go (is_in set old) refl (p ∙ ap (λ (z : List ℕ). place_among set z) e)
  where
    go : (b : Bool) → is_in set old ≡ b → place ≡ place_among set (if b then old else old ++ set ∷ []) → (length old ≡ 1024) × (is_in set old ≡ false)
    go true h q = absurd (let f = found_place set old h in omega arith)
    go false h q = let f = place_end set old h in (omega arith, h)

pub number_given : (old new : List ℕ) (set place n : ℕ) → length old ≤ 1024 → new ≡ with_new old set → place ≡ place_among set new → place < 1024 → n ≡ move_at set place → Numbers old new set (Ok n)
number_given old new set place n l e p m k = (e, rw e (go (is_in set old) refl (p ∙ ap (λ (z : List ℕ). place_among set z) e)), k ∙ ap (λ (x : ℕ). move_at set x) p ∙ sym (move_is new set))
  where
    go : (b : Bool) → is_in set old ≡ b → place ≡ place_among set (if b then old else old ++ set ∷ []) → length (if b then old else old ++ set ∷ []) ≤ 1024
    go true h q = l
    go false h q = let f = place_end set old h in let a = length-append old (set ∷ []) in omega arith

pub explored : (g : Positions) (filters sets : List ℕ) (moves : List ℕ) (state : ℕ) → ExploredStates g filters state sets moves → take state sets ≡ sets → IsExplored g filters sets moves
explored g filters sets moves state o e = record {
  few = o.numbered.few;
  numbered = o.numbered.numbered ∙ ap (λ (z : List ℕ). numbering (0 ∷ []) (rows_from g filters z)) e;
  moves_are = o.numbered.moves_are ∙ ap (λ (z : List ℕ). map (λ x. state_number_of sets x) (rows_from g filters z)) e;
  reached = o.reached;
}

pub number_fails : (g : Positions) (filters base : List ℕ) (state set k : ℕ) (sets moves new : List ℕ) (f : ℕ) (e : BuildFault) → ExploredRow g filters base state set k sets moves → k < length filters → f ≡ get_or filters k 0 → Numbers sets new (bit_and (candidates_of g set) f) (Err e) → Explores g filters (Err e)
number_fails g filters base state set k sets moves new f TooManyStates i l h n = too_much g filters base state set k sets moves f i l h n.0 n.1
number_fails g filters base state set k sets moves new f TooManyGuards i l h n = absurd n
number_fails g filters base state set k sets moves new f Memory i l h n = tt

pub all_taken : (xs : List ℕ) (k : ℕ) → length xs ≤ k → take k xs ≡ xs
all_taken [] zero l = refl
all_taken [] (suc k) l = refl
all_taken (x ∷ xs) zero l = absurd (omega arith)
all_taken (x ∷ xs) (suc k) l = ap (λ (z : List ℕ). x ∷ z) (all_taken xs k (omega arith))

pub number_fails_by : (g : Positions) (filters base : List ℕ) (state set k : ℕ) (sets moves new : List ℕ) (f candidates : ℕ) (e : BuildFault) → candidates ≡ candidates_of g set → ExploredRow g filters base state set k sets moves → k < length filters → f ≡ get_or filters k 0 → Numbers sets new (bit_and candidates f) (Err e) → Explores g filters (Err e)
number_fails_by g filters base state set k sets moves new f candidates e q i l h n =
    number_fails g filters base state set k sets moves new f e i l h (subst (λ (x : ℕ). Numbers sets new (bit_and x f) (Err e)) q n)

pub none_left : (xs : List ℕ) (i : ℕ) → slice_get xs i ≡ None → length xs ≤ i
none_left [] i e = omega arith
none_left (x ∷ xs) zero e = cc
none_left (x ∷ xs) (suc i) e = let p = none_left xs i e in omega arith
