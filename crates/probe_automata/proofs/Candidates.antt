-- The positions that can come next, and the sets to which a set leads.
use Rattle.std.proofs.Common.{◌≡◌, ◌≢◌, ◌==◌, ℕ, zero, suc, ◌+◌, ◌/◌, ◌%◌, ◌≤◌, ◌<◌, ◌&&◌, if◌then◌else◌, Bool, true, false, List, [], ◌∷◌, map, ◌⊎◌, ◌↔◌, inl, inr, refl, sym, ap, arith, get_or, ◌∙◌, subst, eqb-true, eq-eqb, Some}
use Rattle.std.specs.Prelude.{bit_and, slice_get}
use Rattle.std.specs.Int.{bit_at}
use Rattle.std.specs.List.{list_all}
use Rattle.std.proofs.lemmas.Nat.Bits.{bit_at_and, bit_at-lt, bit_at_lowest, bit_at-suc}
use Rattle.probe_words.specs.declared.letter.Letter.{Letter}
use Rattle.probe_words.specs.declared.letter.Letter.TheVariants.{Action, Signal}
use Rattle.probe_words.specs.declared.guard.Guard.{Guard}
use Rattle.probe_words.specs.declared.position_list.Positions.{Positions}
use Rattle.probe_words.specs.Guards.{Condition, same_condition}
use Rattle.probe_words.specs.MarkedLetters.{IsAmong}
use Rattle.probe_words.specs.Twins.{condition_of}
use Rattle.probe_words.specs.Sets.{HasMember}
use Rattle.probe_words.specs.Laying.{united_if}
use Rattle.probe_words.specs.ProbeTables.{same_letter, table_guards, CanFollow, SaysHolds, IsOpenAt, LeadsToSet}
use Rattle.probe_words.proofs.Sets.{has_or, or_left, or_right, has_none, joined_has, joined_keeps, joined_more}
use Rattle.probe_words.proofs.PlaceLists.{both_true, true_both}
use Rattle.probe_words.proofs.GuardsAlike.{same_equal, same_self}
use Rattle.probe_automata.specs.Exploring.{unite, more_if, candidates_of}
use Rattle.probe_automata.specs.Filters.{is_opened, IsFilterOf}

-- ---- bits

pub has_and : (a b i : ℕ) → HasMember (bit_and a b) i → HasMember a i × HasMember b i
has_and a b i h = (omega (arith, bit_at_and a b i, bit_at-lt a i, bit_at-lt b i), omega (arith, bit_at_and a b i, bit_at-lt a i, bit_at-lt b i))

pub and_has : (a b i : ℕ) → HasMember a i → HasMember b i → HasMember (bit_and a b) i
and_has a b i g h = omega (arith, bit_at_and a b i, bit_at-lt a i, bit_at-lt b i)

-- a number other than 0 has a member
pub some_member : (n : ℕ) → n ≢ 0 → (i : ℕ) × HasMember n i
some_member n h = go n n (omega arith) h
  where
    go : (fuel n : ℕ) → n ≤ fuel → n ≢ 0 → (i : ℕ) × HasMember n i
    go zero n l h = absurd (omega arith)
    go (suc fuel) n l h =
        elim (odd (n % 2) (omega arith)) [
          | inl e ↦ (zero, bit_at_lowest n ∙ e)
          | inr e ↦ (let (i, m) = go fuel (n / 2) (omega arith) (λ z. h (omega arith)) in (suc i, bit_at-suc n i ∙ m))
        ]
      where
        odd : (b : ℕ) → b < 2 → (b ≡ 1) ⊎ (b ≡ 0)
        odd b l = grind arith

-- ---- what can come next

pub unite_has : (set i acc : ℕ) (xs : List ℕ) (y : ℕ) → HasMember (unite set i acc xs) y → HasMember acc y ⊎ ((k : ℕ) × HasMember set (i + k) × HasMember (get_or xs k 0) y)
unite_has set i acc [] y h = inl h
unite_has set i acc (x ∷ xs) y h =
    elim (unite_has set (suc i) (united_if (bit_at set i) acc x) xs y h) [
      | inl p ↦ (
          elim (joined_has (bit_at set i) acc x y p) [
            | inl q ↦ inl q
            | inr q ↦ inr (zero, (let b = bit_at-lt set i in let n : bit_at set i ≢ 0 = q.0 in let e : i + 0 ≡ i = omega arith in rw e (omega arith)), q.1)
          ])
      | inr (k, p, q) ↦ inr (suc k, (let e : i + suc k ≡ suc i + k = omega arith in rw e p), q)
    ]

pub unite_keeps : (set i acc : ℕ) (xs : List ℕ) (y : ℕ) → HasMember acc y → HasMember (unite set i acc xs) y
unite_keeps set i acc [] y h = h
unite_keeps set i acc (x ∷ xs) y h = unite_keeps set (suc i) (united_if (bit_at set i) acc x) xs y (joined_keeps (bit_at set i) acc x y h)

pub unite_more : (set i acc : ℕ) (xs : List ℕ) (k y : ℕ) → HasMember set (i + k) → HasMember (get_or xs k 0) y → HasMember (unite set i acc xs) y
unite_more set i acc [] k y g h = absurd (has_none y h)
unite_more set i acc (x ∷ xs) zero y g h =
    let e : i + 0 ≡ i = omega arith in
    unite_keeps set (suc i) (united_if (bit_at set i) acc x) xs y (joined_more (bit_at set i) acc x y (rw e at g) h)
unite_more set i acc (x ∷ xs) (suc k) y g h =
    let e : i + suc k ≡ suc i + k = omega arith in
    unite_more set (suc i) (united_if (bit_at set i) acc x) xs k y (rw e at g) h

more_has : (n set more y : ℕ) → HasMember (more_if n set more) y → HasMember set y ⊎ ((n ≢ 0) × HasMember more y)
more_has zero set more y h = inl h
more_has (suc n) set more y h = elim (has_or set more y h) [ inl p ↦ inl p | inr p ↦ inr (omega arith, p) ]

more_keeps : (n set more y : ℕ) → HasMember set y → HasMember (more_if n set more) y
more_keeps zero set more y h = h
more_keeps (suc n) set more y h = or_left set more y h

more_more : (n set more y : ℕ) → n ≢ 0 → HasMember more y → HasMember (more_if n set more) y
more_more zero set more y n h = absurd (n refl)
more_more (suc k) set more y n h = or_right set more y h

pub candidate_can : (p : Positions) (set y : ℕ) → HasMember (candidates_of p set) y → CanFollow p set y
candidate_can p zero y h = inl (refl, h)
candidate_can p (suc set) y h =
    elim (more_has (bit_and (suc set) p.last) (unite (suc set) 0 0 p.follow) p.first y h) [
      | inl k ↦ (
          elim (unite_has (suc set) 0 0 p.follow y k) [
            | inl q ↦ absurd (has_none y q)
            | inr (x, q, f) ↦ (let e : 0 + x ≡ x = omega arith in inr (x, rw e at q, inl f))
          ])
      | inr k ↦ (
          let (x, b) = some_member (bit_and (suc set) p.last) k.0 in
          let c = has_and (suc set) p.last x b in
          inr (x, c.0, inr (c.1, k.1)))
    ]

pub can_candidate : (p : Positions) (set y : ℕ) → CanFollow p set y → HasMember (candidates_of p set) y
can_candidate p zero y (inl h) = h.1
can_candidate p zero y (inr (x, h, f)) = absurd (has_none x h)
can_candidate p (suc set) y (inl h) = absurd (let e = h.0 in omega arith)
can_candidate p (suc set) y (inr (x, h, inl f)) =
    let e : 0 + x ≡ x = omega arith in
    more_keeps (bit_and (suc set) p.last) (unite (suc set) 0 0 p.follow) p.first y (unite_more (suc set) 0 0 p.follow x y (rw e h) f)
can_candidate p (suc set) y (inr (x, h, inr f)) =
    let b = and_has (suc set) p.last x h f.0 in
    more_more (bit_and (suc set) p.last) (unite (suc set) 0 0 p.follow) p.first y (λ e. has_none x (subst (λ (z : ℕ). HasMember z x) e b)) f.1

-- ---- what a letter and a valuation let through

pub letters_equal : (a b : Letter) → same_letter a b ≡ true → a ≡ b
letters_equal (Action a) (Action b) e = ap Action (eqb-true a b e)
letters_equal (Signal a) (Signal b) e = ap Signal (eqb-true a b e)
letters_equal (Action a) (Signal b) e = cc
letters_equal (Signal a) (Action b) e = cc

pub equal_letters : (a : Letter) → same_letter a a ≡ true
equal_letters (Action a) = eq-eqb a a refl
equal_letters (Signal a) = eq-eqb a a refl

some_first : (x g : Condition) → Some x ≡ Some g → x ≡ g
some_first x g e = cc

pub opened_says : (gs : List Condition) (j v : ℕ) (g : Condition) → is_opened gs j v g ≡ true → (k : ℕ) × (slice_get gs k ≡ Some g) × HasMember v (j + k)
opened_says [] j v g e = cc
opened_says (x ∷ xs) j v g e = go (same_condition x g && (bit_at v j == 1)) refl (λ f. opened_says xs (suc j) v g f) e
  where
    go : (b : Bool) → (same_condition x g && (bit_at v j == 1)) ≡ b → (is_opened xs (suc j) v g ≡ true → (k : ℕ) × (slice_get xs k ≡ Some g) × HasMember v (suc j + k)) → (if b then true else is_opened xs (suc j) v g) ≡ true → (k : ℕ) × (slice_get (x ∷ xs) k ≡ Some g) × HasMember v (j + k)
    go true h r f =
        let q = both_true (same_condition x g) (bit_at v j == 1) h in
        let z : j + 0 ≡ j = omega arith in
        (zero, ap Some (same_equal x g q.0), rw z (eqb-true (bit_at v j) 1 q.1))
    go false h r f =
        let (k, s, m) = r f in
        let z : j + suc k ≡ suc j + k = omega arith in
        (suc k, s, rw z m)

pub says_opened : (gs : List Condition) (j v : ℕ) (g : Condition) (k : ℕ) → slice_get gs k ≡ Some g → HasMember v (j + k) → is_opened gs j v g ≡ true
says_opened [] j v g k s m = cc
says_opened (x ∷ xs) j v g zero s m =
    let z : j + 0 ≡ j = omega arith in
    let e : x ≡ g = some_first x g s in
    let t : (same_condition x g && (bit_at v j == 1)) ≡ true = true_both (same_condition x g) (bit_at v j == 1) (rw e (same_self g)) (eq-eqb (bit_at v j) 1 (rw z at m)) in
    rw t refl
says_opened (x ∷ xs) j v g (suc k) s m =
    let z : j + suc k ≡ suc j + k = omega arith in
    go (same_condition x g && (bit_at v j == 1)) (says_opened xs (suc j) v g k s (rw z at m))
  where
    go : (b : Bool) → is_opened xs (suc j) v g ≡ true → (if b then true else is_opened xs (suc j) v g) ≡ true
    go true f = refl
    go false f = f

module _ (p : Positions) (guards : List Guard) (are : map condition_of guards ≡ table_guards p) (v : ℕ) where
  says_of : (g : Condition) → is_opened (map condition_of guards) 0 v g ≡ true → SaysHolds (table_guards p) v g
  says_of g e =
      let (k, s, m) = opened_says (map condition_of guards) 0 v g e in
      let z : 0 + k ≡ k = omega arith in
      (k, subst (λ (w : List Condition). slice_get w k ≡ Some g) are s, rw z at m)

  of_says : (g : Condition) → SaysHolds (table_guards p) v g → is_opened (map condition_of guards) 0 v g ≡ true
  of_says g (k, s, m) =
      let z : 0 + k ≡ k = omega arith in
      says_opened (map condition_of guards) 0 v g k (subst (λ (w : List Condition). slice_get w k ≡ Some g) (sym are) s) (rw z m)

  all_say : (needed : List Guard) → list_all (λ g. is_opened (map condition_of guards) 0 v (condition_of g)) needed ≡ true → (g : Condition) → IsAmong g (map condition_of needed) → SaysHolds (table_guards p) v g
  all_say [] e g i = absurd i
  all_say (x ∷ xs) e g (inl i) = let q = both_true (is_opened (map condition_of guards) 0 v (condition_of x)) (list_all (λ g. is_opened (map condition_of guards) 0 v (condition_of g)) xs) e in rw i (says_of (condition_of x) q.0)
  all_say (x ∷ xs) e g (inr i) = let q = both_true (is_opened (map condition_of guards) 0 v (condition_of x)) (list_all (λ g. is_opened (map condition_of guards) 0 v (condition_of g)) xs) e in all_say xs q.1 g i

  say_all : (needed : List Guard) → ((g : Condition) → IsAmong g (map condition_of needed) → SaysHolds (table_guards p) v g) → list_all (λ g. is_opened (map condition_of guards) 0 v (condition_of g)) needed ≡ true
  say_all [] f = refl
  say_all (x ∷ xs) f = true_both (is_opened (map condition_of guards) 0 v (condition_of x)) (list_all (λ g. is_opened (map condition_of guards) 0 v (condition_of g)) xs) (of_says (condition_of x) (f (condition_of x) (inl refl))) (say_all xs (λ g i. f g (inr i)))

  pub filter_open : (letter : Letter) (f : ℕ) → IsFilterOf p.each guards v letter f → (y : ℕ) → HasMember f y ↔ IsOpenAt p letter v y
  filter_open letter f is y = (
    λ b. let (x, s, t) = (is y).0 b in
        let q = both_true (same_letter x.letter letter) (list_all (λ g. is_opened (map condition_of guards) 0 v (condition_of g)) x.guards) t in
        (x, s, letters_equal x.letter letter q.0, all_say x.guards q.1),
    λ (x, s, e, h). (is y).1 (x, s, true_both (same_letter x.letter letter) (list_all (λ g. is_opened (map condition_of guards) 0 v (condition_of g)) x.guards) (rw e (equal_letters letter)) (say_all x.guards h)),
  )

  pub lead_is : (set : ℕ) (letter : Letter) (f : ℕ) → IsFilterOf p.each guards v letter f → LeadsToSet p set letter v (bit_and (candidates_of p set) f)
  lead_is set letter f is y = (
    λ b. let c = has_and (candidates_of p set) f y b in (candidate_can p set y c.0, (filter_open letter f is y).0 c.1),
    λ h. and_has (candidates_of p set) f y (can_candidate p set y h.0) ((filter_open letter f is y).1 h.1),
  )
