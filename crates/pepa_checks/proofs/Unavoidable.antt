-- Classical steps: where nothing is to be found but a contradiction, a statement may be taken to hold or not.
use Rattle.std.proofs.Common.{◌≡◌, ℕ, zero, suc, ◌+◌, ◌<◌, ◌≤◌, ◌⊎◌, inl, inr, Bool, true, false, List, [], ◌∷◌, length, get_or, Some, slice_get, refl, sym, ap, subst, arith}
use Rattle.std.proofs.lemmas.Bool.{cases_eq}
use Rattle.std.proofs.lemmas.Option.{same_Some, slice_get-get_or}
use Rattle.node_orders.specs.Graphs.{SaysYes, IsTableOf}
use Rattle.pepa_resolver.specs.Faults.{HasNone, IsLeast}

-- a statement holds or not
pub split : (P : Type 0) → (P ⊎ (¬ P) → ⊥) → ⊥
split P apart = apart (inr (λ p. apart (inl p)))

-- a number isn't below another and at least as great
pub not_both : (n m : ℕ) → n < m → m ≤ n → ⊥
not_both n m less le = omega arith

-- ---- the least number

least_below : (P : ℕ → Type 0) (n : ℕ) → (((i : ℕ) → P i → n ≤ i) ⊎ ((i : ℕ) × IsLeast P i) → ⊥) → ⊥
least_below P zero apart = apart (inl (λ i h. omega arith))
least_below P (suc n) apart =
    least_below P n (λ so_far. elim so_far [
      | inl above ↦ split (P n) (λ here. elim here [
        | inl h ↦ apart (inr (n, record { stands = h; least = above }))
        | inr none ↦ apart (inl (λ i h. higher i h (above i h) none))
      ])
      | inr found ↦ apart (inr found)
    ])
  where
    higher : (i : ℕ) → P i → n ≤ i → (P n → ⊥) → suc n ≤ i
    higher i h le none = elim (cases_eq n i) [
      | inl e ↦ absurd (none (subst P (sym e) h))
      | inr other ↦ omega arith
    ]

-- nothing has the property, or a least number has it
pub some_least : (P : ℕ → Type 0) → (HasNone P ⊎ ((i : ℕ) × IsLeast P i) → ⊥) → ⊥
some_least P apart =
    split ((i : ℕ) × P i) (λ case. elim case [
      | inl h ↦ least_below P (h.0 + 1) (λ found. elim found [
        | inl above ↦ past h.0 (above h.0 h.1)
        | inr least ↦ apart (inr least)
      ])
      | inr none ↦ apart (inl (λ i h. none (i, h)))
    ])
  where
    past : (n : ℕ) → n + 1 ≤ n → ⊥
    past n le = omega arith

-- ---- one value for each number below a bound

pub record AreChosen {X : Type 0} (R : ℕ → X → Type 0) (n : ℕ) (xs : List X) : Type 0 where
  pub one_each : length xs ≡ n
  pub each : (c : ℕ) (x : X) → slice_get xs c ≡ Some x → R c x

-- one value in front
value_more : {X : Type 0} (R : ℕ → X → Type 0) (n : ℕ) (x : X) (xs : List X) → R zero x → AreChosen (λ c y. R (suc c) y) n xs → AreChosen R (suc n) (x ∷ xs)
value_more {X} R n x xs first rest = record { one_each = ap suc rest.one_each; each = joined }
  where
    joined : (c : ℕ) (y : X) → slice_get (x ∷ xs) c ≡ Some y → R c y
    joined zero y at = subst (R zero) (same_Some x y at) first
    joined (suc c) y at = rest.each c y at

pub values : {X : Type 0} (R : ℕ → X → Type 0) (n : ℕ) → ((c : ℕ) → c < n → (x : X) × R c x) → (xs : List X) × AreChosen R n xs
values R zero some = ([], record { one_each = refl; each = λ c x at. absurd cc })
values R (suc n) some =
    let first = some zero (omega arith) in
    let rest = values (λ c x. R (suc c) x) n (λ c low. some (suc c) (omega arith)) in
    (first.0 ∷ rest.0, value_more R n first.0 rest.0 first.1 rest.1)

-- the same, where there can't be none
pub some_values : {X : Type 0} (R : ℕ → X → Type 0) (n : ℕ) → ((c : ℕ) → c < n → ((x : X) × R c x → ⊥) → ⊥) → ((xs : List X) × AreChosen R n xs → ⊥) → ⊥
some_values R zero some apart = apart ([], record { one_each = refl; each = λ c x at. absurd cc })
some_values R (suc n) some apart =
    some zero (omega arith) (λ first. some_values (λ c x. R (suc c) x) n (λ c low. some (suc c) (omega arith)) (λ rest. apart (first.0 ∷ rest.0, value_more R n first.0 rest.0 first.1 rest.1)))

-- ---- a table of a property that holds below a bound alone

abbrev Tells : Type 0 → Bool → Type 0
Tells P true = P
Tells P false = ¬ P

pub some_table : (P : ℕ → Type 0) (n : ℕ) → ((c : ℕ) → P c → c < n) → ((table : List Bool) × (length table ≡ n) × IsTableOf P table → ⊥) → ⊥
some_table P n below apart =
    some_values (λ c b. Tells (P c) b) n
    (λ c low none. split (P c) (λ here. elim here [ inl h ↦ none (true, h) | inr h ↦ none (false, h) ]))
    (λ table. apart (
      table.0,
      table.1.one_each,
      record {
        sound = λ c yes. table.1.each c true yes;
        complete = λ c h. complete table.0 table.1 c h (below c h);
      },
    ))
  where
    complete : (table : List Bool) → AreChosen (λ c b. Tells (P c) b) n table → (c : ℕ) → P c → c < n → SaysYes table c
    complete table are c h low =
        let at = slice_get-get_or table c false (omega (arith, are.one_each)) in
        by (get_or table c false) at (are.each c (get_or table c false) at)
      where
        by : (b : Bool) → slice_get table c ≡ Some b → Tells (P c) b → slice_get table c ≡ Some true
        by true at told = at
        by false at told = absurd (told h)
