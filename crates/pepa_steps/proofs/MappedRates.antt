-- A map made of another one entry by entry: each rate becomes another one, or none, and keeps its action.
use Rattle.std.proofs.Common.{◌≡◌, ◌≢◌, ℕ, ◌<◌, Bool, true, false, ◌⊎◌, List, ◌∷◌, map, refl, sym, ap, subst, ◌∙◌, inl, inr, arith, if◌then◌else◌}
use Rattle.std.specs.Ordering.{nat_cmp, is_eq}
use Rattle.std.specs.List.Sorted.{IsStrictlySortedBy}
use Rattle.std.proofs.lemmas.Bool.{cases_order}
use Rattle.std.proofs.lemmas.Map.Keys.{sorted_tail}
use Rattle.pepa_rates.specs.Fraction.{InRange, Fraction}
use Rattle.pepa_rates.specs.Sum.{fraction_of}
use Rattle.pepa_rates.specs.Share.{least_of, lesser_of, less}
use Rattle.pepa_rates.specs.declared.rate.Rate.{Rate}
use Rattle.pepa_rates.specs.declared.rate.Rate.TheVariants.{Active, Passive}
use Rattle.pepa_model.specs.Apparent.{Apparent, NoRate, Rated, Undefined, IsFine}
use Rattle.pepa_steps.specs.States.{has}
use Rattle.pepa_steps.specs.OpenStates.{least_if_both}
use Rattle.pepa_steps.specs.ActionRates.{rate_in}
use Rattle.pepa_steps.specs.CooperationRates.{SetsRate, left_rate}
use Rattle.pepa_steps.proofs.RateMaps.{at_other, at_own, same_action, below_action, above_action, none_behind}

-- an action's entry has been gone through, or is left
pub record IsDone (f : ℕ → Apparent → Apparent) (whole all rest : List (ℕ × Rate)) (a : ℕ) : Type 0 where
  pub gone : rate_in rest a ≡ NoRate
  pub found : rate_in all a ≡ f a (rate_in whole a)

pub record IsLeft (whole all rest : List (ℕ × Rate)) (a : ℕ) : Type 0 where
  pub same : rate_in rest a ≡ rate_in whole a
  pub not_yet : rate_in all a ≡ NoRate

pub record MapKeeps (f : ℕ → Apparent → Apparent) (whole all rest : List (ℕ × Rate)) : Type 0 where
  pub split : (a : ℕ) → IsDone f whole all rest a ⊎ IsLeft whole all rest a
  pub ascending : IsStrictlySortedBy nat_cmp (map (λ e. e.0) rest)

differs_at : (a k : ℕ) → (a < k) ⊎ (k < a) → is_eq (nat_cmp a k) ≡ false
differs_at a k (inl lt) = below_action a k lt
differs_at a k (inr gt) = above_action a k gt

module _ (f : ℕ → Apparent → Apparent) (whole all : List (ℕ × Rate)) (k : ℕ) (r : Rate) (rest : List (ℕ × Rate)) where
  -- the entry at hand is one that is left
  own_left : MapKeeps f whole all ((k, r) ∷ rest) → IsLeft whole all ((k, r) ∷ rest) k
  own_left h = of_split (h.split k)
    where
      of_split : IsDone f whole all ((k, r) ∷ rest) k ⊎ IsLeft whole all ((k, r) ∷ rest) k → IsLeft whole all ((k, r) ∷ rest) k
      of_split (inl d) = let own : rate_in ((k, r) ∷ rest) k ≡ Rated r = at_own k r rest (same_action k) in let gone = d.gone in absurd cc
      of_split (inr l) = l

  own_whole : MapKeeps f whole all ((k, r) ∷ rest) → rate_in whole k ≡ Rated r
  own_whole h = sym (own_left h).same ∙ at_own k r rest (same_action k)

  -- it goes over
  steps : (new : List (ℕ × Rate)) → MapKeeps f whole all ((k, r) ∷ rest) → rate_in new k ≡ f k (Rated r) → ((other : ℕ) → other ≢ k → rate_in new other ≡ rate_in all other)
      → MapKeeps f whole new rest
  steps new h here elsewhere = record {
    split = λ a. split a (cases_order a k);
    ascending = sorted_tail nat_cmp k (map (λ e. e.0) rest) h.ascending;
  }
    where
      at_own_action : IsDone f whole new rest k
      at_own_action = record { gone = none_behind k rest h.ascending; found = here ∙ ap (λ (x : Apparent). f k x) (sym (own_whole h)) }

      at_other_action : (a : ℕ) → a ≢ k → is_eq (nat_cmp a k) ≡ false → IsDone f whole all ((k, r) ∷ rest) a ⊎ IsLeft whole all ((k, r) ∷ rest) a → IsDone f whole new rest a ⊎ IsLeft whole new rest a
      at_other_action a apart differs (inl d) = inl (record { gone = sym (at_other a k r rest differs) ∙ d.gone; found = elsewhere a apart ∙ d.found })
      at_other_action a apart differs (inr l) = inr (record { same = sym (at_other a k r rest differs) ∙ l.same; not_yet = elsewhere a apart ∙ l.not_yet })

      split : (a : ℕ) → (a ≡ k) ⊎ ((a < k) ⊎ (k < a)) → IsDone f whole new rest a ⊎ IsLeft whole new rest a
      split a (inl e) = inl (subst (λ (n : ℕ). IsDone f whole new rest n) (sym e) at_own_action)
      split a (inr (inl lt)) = at_other_action a (λ e. omega (arith, e)) (differs_at a k (inl lt)) (h.split a)
      split a (inr (inr gt)) = at_other_action a (λ e. omega (arith, e)) (differs_at a k (inr gt)) (h.split a)

  -- the rate becomes another one
  pub puts : (new : List (ℕ × Rate)) (s : Rate) → MapKeeps f whole all ((k, r) ∷ rest) → f k (Rated r) ≡ Rated s → SetsRate all new k s → MapKeeps f whole new rest
  puts new s h becomes sets = steps new h (sets.here ∙ sym becomes) sets.elsewhere

  -- it becomes none
  pub skips : MapKeeps f whole all ((k, r) ∷ rest) → f k (Rated r) ≡ NoRate → MapKeeps f whole all rest
  skips h becomes = steps all h ((own_left h).not_yet ∙ sym becomes) (λ other apart. refl)

-- ---- a hiding

abbrev pub hide : List ℕ → ℕ → Apparent → Apparent
hide types a x = if has types a then NoRate else x

pub hidden : (types : List ℕ) (a : ℕ) (x : Apparent) → has types a ≡ true → hide types a x ≡ NoRate
hidden types a x is = ap (λ (b : Bool). if b then NoRate else x) is

pub seen : (types : List ℕ) (a : ℕ) (x : Apparent) → has types a ≡ false → hide types a x ≡ x
seen types a x is = ap (λ (b : Bool). if b then NoRate else x) is

-- ---- the left side of a cooperation

pub left_alone : (types : List ℕ) (right : List (ℕ × Rate)) (a : ℕ) (x : Apparent) → has types a ≡ false → left_rate types right a x ≡ x
left_alone types right a x is = ap (λ (b : Bool). if b then least_if_both x (rate_in right a) else x) is

pub left_jointly : (types : List ℕ) (right : List (ℕ × Rate)) (a : ℕ) (x y : Apparent) → has types a ≡ true → rate_in right a ≡ y → left_rate types right a x ≡ least_if_both x y
left_jointly types right a x y is same = ap (λ (b : Bool). if b then least_if_both x (rate_in right a) else x) is ∙ ap (λ (z : Apparent). least_if_both x z) same

lesser_in_range : (p q : Fraction) → InRange p → InRange q → InRange (lesser_of p q)
lesser_in_range p q h k = of_test (less q p)
  where
    of_test : (b : Bool) → InRange (if b then q else p)
    of_test true = k
    of_test false = h

least_in_range : (r s : Rate) → InRange (fraction_of r) → InRange (fraction_of s) → InRange (fraction_of (least_of r s))
least_in_range (Active p) (Active q) h k = lesser_in_range p q h k
least_in_range (Passive p) (Passive q) h k = lesser_in_range p q h k
least_in_range (Active p) (Passive q) h k = h
least_in_range (Passive p) (Active q) h k = k

pub jointly_fine : (x y : Apparent) → IsFine x → IsFine y → IsFine (least_if_both x y)
jointly_fine NoRate y h k = tt
jointly_fine (Rated r) NoRate h k = tt
jointly_fine (Rated r) (Rated s) h k = least_in_range r s h k
jointly_fine (Rated r) Undefined h k = absurd k
jointly_fine Undefined y h k = absurd h
