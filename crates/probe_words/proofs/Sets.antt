-- Sets of numbers as words.
use Rattle.std.proofs.Common.{◌≡◌, ◌≢◌, ◌==◌, ℕ, zero, suc, ◌-◌, ◌≤◌, ◌<◌, ◌^◌, true, false, List, [], ◌∷◌, ◌++◌, ◌⊎◌, ◌↔◌, inl, inr, refl, sym, arith, ◌∙◌, subst, eqb-true, eq-eqb}
use Rattle.std.specs.Prelude.{bit_or}
use Rattle.std.specs.Int.{bit_at}
use Rattle.std.proofs.lemmas.Nat.Bits.{bit_at_or, bit_at-zero, bit_at-pow_same, bit_at-pow_other, bit_at-lt, bit_at_mask_inside, bit_at_mask_below, bit_at_mask_above}
use Rattle.std.proofs.lemmas.Bool.{cases_eq}
use Rattle.probe_words.specs.MarkedLetters.{IsAmong}
use Rattle.probe_words.specs.Sets.{HasMember}
use Rattle.probe_words.specs.Laying.{united_if}
use Rattle.probe_words.proofs.PlaceLists.{among_either, among_front, among_back}

pub split_lt : (a b : ℕ) → (a < b) ⊎ (b ≤ a)
split_lt a b = grind arith

pub has_or : (a b i : ℕ) → HasMember (bit_or a b) i → HasMember a i ⊎ HasMember b i
has_or a b i h =
    elim (cases_eq (bit_at a i) 1) [
      | inl e ↦ inl e
      | inr n ↦ inr (omega (arith, bit_at_or a b i, bit_at-lt a i, bit_at-lt b i))
    ]

pub or_left : (a b i : ℕ) → HasMember a i → HasMember (bit_or a b) i
or_left a b i h = omega (arith, bit_at_or a b i, bit_at-lt a i, bit_at-lt b i)

pub or_right : (a b i : ℕ) → HasMember b i → HasMember (bit_or a b) i
or_right a b i h = omega (arith, bit_at_or a b i, bit_at-lt a i, bit_at-lt b i)

pub has_none : (i : ℕ) → HasMember 0 i → ⊥
has_none i h = omega (arith, bit_at-zero i)

pub has_one : (k i : ℕ) → HasMember (2 ^ k) i → i ≡ k
has_one k i h =
    elim (cases_eq i k) [
      | inl e ↦ e
      | inr n ↦ absurd (omega (arith, bit_at-pow_other k i n))
    ]

pub one_has : (k i : ℕ) → i ≡ k → HasMember (2 ^ k) i
one_has k i e = rw e (bit_at-pow_same k)

pub more_set : (set x : ℕ) (xs ys : List ℕ) → ys ≡ xs ++ x ∷ [] → ((j : ℕ) → HasMember set j ↔ IsAmong j xs) → (j : ℕ) → HasMember (bit_or set (2 ^ x)) j ↔ IsAmong j ys
more_set set x xs ys e h j = (
  λ b. rw e (elim (has_or set (2 ^ x) j b) [
    | inl p ↦ among_front j xs (x ∷ []) ((h j).0 p)
    | inr p ↦ among_back j xs (x ∷ []) (inl (has_one x j p))
  ]),
  λ a. elim (among_either j xs (x ∷ []) (rw e at a)) [
    | inl p ↦ or_left set (2 ^ x) j ((h j).1 p)
    | inr p ↦ (elim p [ inl q ↦ or_right set (2 ^ x) j (one_has x j q) | inr q ↦ absurd q ])
  ],
)

pub joined_has : (b set more j : ℕ) → HasMember (united_if b set more) j → HasMember set j ⊎ ((b ≢ 0) × HasMember more j)
joined_has zero set more j h = inl h
joined_has (suc b) set more j h = elim (has_or set more j h) [ inl p ↦ inl p | inr p ↦ inr (omega arith, p) ]

pub joined_keeps : (b set more j : ℕ) → HasMember set j → HasMember (united_if b set more) j
joined_keeps zero set more j h = h
joined_keeps (suc b) set more j h = or_left set more j h

pub joined_more : (b set more j : ℕ) → b ≡ 1 → HasMember more j → HasMember (united_if b set more) j
joined_more zero set more j e h = absurd (omega arith)
joined_more (suc b) set more j e h = or_right set more j h

pub joined_at : (b set more : ℕ) → b ≡ 1 → united_if b set more ≡ bit_or set more
joined_at zero set more e = absurd (omega arith)
joined_at (suc b) set more e = refl

pub joined_not : (b set more : ℕ) → b < 2 → (b ≢ 1) → united_if b set more ≡ set
joined_not zero set more l n = refl
joined_not (suc zero) set more l n = absurd (n refl)
joined_not (suc (suc b)) set more l n = absurd (omega arith)

pub only_one : (set k : ℕ) → set ≡ bit_or 0 (2 ^ k) → (i : ℕ) → HasMember set i ↔ (i ≡ k)
only_one set k e i = (
  λ q. elim (has_or 0 (2 ^ k) i (rw e at q)) [ inl p ↦ absurd (has_none i p) | inr p ↦ has_one k i p ],
  λ q. rw e (or_right 0 (2 ^ k) i (one_has k i q)),
)

pub range_has : (from to set : ℕ) → set ≡ 2 ^ to - 2 ^ from → (i : ℕ) → HasMember set i ↔ ((from ≤ i) × (i < to))
range_has from to set e i = (
  λ h.
      elim (split_lt i from) [
        | inl l ↦ absurd (let z = bit_at_mask_below from to i l in let q : bit_at (2 ^ to - 2 ^ from) i ≡ 1 = subst (λ (x : ℕ). bit_at x i ≡ 1) e h in omega arith)
        | inr l ↦ (
            elim (split_lt i to) [
              | inl m ↦ (l, m)
              | inr m ↦ absurd (let z = bit_at_mask_above from to i m in let q : bit_at (2 ^ to - 2 ^ from) i ≡ 1 = subst (λ (x : ℕ). bit_at x i ≡ 1) e h in omega arith)
            ])
      ],
  λ p. rw e (bit_at_mask_inside from to i p.0 p.1),
)

pub own_set : (own base k n : ℕ) (xs : List ℕ) → ((i : ℕ) → HasMember base i ↔ IsAmong i xs) → own ≡ bit_or base (2 ^ k) → k ≡ n → (i : ℕ) → HasMember own i ↔ (IsAmong i xs ⊎ (i ≡ n))
own_set own base k n xs h e q i = (
  λ b. elim (has_or base (2 ^ k) i (rw e at b)) [ inl p ↦ inl ((h i).0 p) | inr p ↦ inr (has_one k i p ∙ q) ],
  λ b. rw e (elim b [ inl p ↦ or_left base (2 ^ k) i ((h i).1 p) | inr p ↦ or_right base (2 ^ k) i (one_has k i (p ∙ sym q)) ]),
)

pub joined_where : (b set more : ℕ) → (b == 1) ≡ true → united_if b set more ≡ bit_or set more
joined_where b set more e = joined_at b set more (eqb-true b 1 e)

pub joined_elsewhere : (set at all more : ℕ) → (bit_at set at == 1) ≡ false → united_if (bit_at set at) all more ≡ all
joined_elsewhere set at all more e = joined_not (bit_at set at) all more (bit_at-lt set at) (λ h. let t = eq-eqb (bit_at set at) 1 h in cc)
