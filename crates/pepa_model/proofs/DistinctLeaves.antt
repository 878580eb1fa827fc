-- Each thing once: no two are equal, so each stands at one place only.
use Rattle.std.proofs.Common.{◌≡◌, ℕ, zero, suc, ◌==◌, Bool, true, false, cond, not, ◌&&◌, List, [], ◌∷◌, Some, slice_get, inl, inr, refl, sym, ap, ◌∙◌, subst, arith}
use Rattle.std.specs.Bool.{Decides}
use Rattle.std.proofs.lemmas.Bool.{false≢true}
use Rattle.std.proofs.lemmas.Bool.Decides.{Decides-eqb}
use Rattle.std.proofs.lemmas.Option.{slice_get_within, same_Some}
use Rattle.pepa_rates.specs.Fraction.{Fraction}
use Rattle.pepa_rates.specs.declared.rate.Rate.{Rate}
use Rattle.pepa_rates.specs.declared.rate.Rate.TheVariants.{Active, Passive}
use Rattle.pepa_model.specs.Expression.{Expression, Const, Prefixed, Chosen}
use Rattle.pepa_model.specs.Derivation.{Among}
use Rattle.pepa_model.specs.Leaves.{without, each_once, same_rate, same_expression}
use Rattle.pepa_model.specs.PepaModel.{PepaModel, IsModel, AreDistinct}

-- ---- equal expressions

both_true : (a b : Bool) → (a && b) ≡ true → (a ≡ true) × (b ≡ true)
both_true true true e = (refl, refl)
both_true true false e = absurd (false≢true e)
both_true false b e = absurd (false≢true e)

true_both : (a b : Bool) → a ≡ true → b ≡ true → (a && b) ≡ true
true_both true b d e = e
true_both false b d e = d

same_fraction : (p q : Fraction) → ((p.num == q.num) && (p.den == q.den)) ≡ true → p ≡ q
same_fraction p q e =
    let parts = both_true (p.num == q.num) (p.den == q.den) e in
    let make : ℕ → ℕ → Fraction = λ n d. record { num = n; den = d } in
    ap (λ (n : ℕ). make n p.den) ((Decides-eqb p.num q.num).0 parts.0) ∙ ap (λ (d : ℕ). make q.num d) ((Decides-eqb p.den q.den).0 parts.1)

fraction_same : (p : Fraction) → ((p.num == p.num) && (p.den == p.den)) ≡ true
fraction_same p = true_both (p.num == p.num) (p.den == p.den) ((Decides-eqb p.num p.num).1 refl) ((Decides-eqb p.den p.den).1 refl)

rates_same : (r s : Rate) → same_rate r s ≡ true → r ≡ s
rates_same (Active p) (Active q) e = ap (λ (f : Fraction). Active f) (same_fraction p q e)
rates_same (Passive p) (Passive q) e = ap (λ (f : Fraction). Passive f) (same_fraction p q e)
rates_same (Active p) (Passive q) e = absurd (false≢true e)
rates_same (Passive p) (Active q) e = absurd (false≢true e)

rate_same : (r : Rate) → same_rate r r ≡ true
rate_same (Active p) = fraction_same p
rate_same (Passive p) = fraction_same p

expressions_same : (x y : Expression) → same_expression x y ≡ true → x ≡ y
expressions_same (Const c) (Const d) e = ap (λ (n : ℕ). Const n) ((Decides-eqb c d).0 e)
expressions_same (Const c) (Prefixed b s y) e = absurd (false≢true e)
expressions_same (Const c) (Chosen y v) e = absurd (false≢true e)
expressions_same (Prefixed a r x) (Const d) e = absurd (false≢true e)
expressions_same (Prefixed a r x) (Prefixed b s y) e =
    let first = both_true (a == b) (same_rate r s && same_expression x y) e in
    let others = both_true (same_rate r s) (same_expression x y) first.1 in
    ap (λ (n : ℕ). Prefixed n r x) ((Decides-eqb a b).0 first.0)
    ∙ ap (λ (t : Rate). Prefixed b t x) (rates_same r s others.0)
    ∙ ap (λ (z : Expression). Prefixed b s z) (expressions_same x y others.1)
expressions_same (Prefixed a r x) (Chosen y v) e = absurd (false≢true e)
expressions_same (Chosen x w) (Const d) e = absurd (false≢true e)
expressions_same (Chosen x w) (Prefixed b s y) e = absurd (false≢true e)
expressions_same (Chosen x w) (Chosen y v) e =
    let parts = both_true (same_expression x y) (same_expression w v) e in
    ap (λ (z : Expression). Chosen z w) (expressions_same x y parts.0) ∙ ap (λ (z : Expression). Chosen y z) (expressions_same w v parts.1)

expression_same : (x : Expression) → same_expression x x ≡ true
expression_same (Const c) = (Decides-eqb c c).1 refl
expression_same (Prefixed a r x) =
    true_both (a == a) (same_rate r r && same_expression x x) ((Decides-eqb a a).1 refl) (true_both (same_rate r r) (same_expression x x) (rate_same r) (expression_same x))
expression_same (Chosen x y) = true_both (same_expression x x) (same_expression y y) (expression_same x) (expression_same y)

pub same_expression-Decides : (x y : Expression) → Decides (same_expression x y) (x ≡ y)
same_expression-Decides x y = (expressions_same x y, λ e. subst (λ (z : Expression). same_expression x z ≡ true) e (expression_same x))

-- ---- each thing once

module _ {X : Type 0} (same : X → X → Bool) (decides : (x y : X) → Decides (same x y) (x ≡ y)) where
  among_without : (x y : X) (ys : List X) → Among y (without same x ys) → (¬ (x ≡ y)) × Among y ys
  among_without x y [] h = absurd h
  among_without x y (z ∷ ys) h = by (same x z) refl h (among_without x y ys)
    where
      by : (b : Bool) → same x z ≡ b → Among y (cond (not b) (z ∷ without same x ys) (without same x ys)) → (Among y (without same x ys) → (¬ (x ≡ y)) × Among y ys) → (¬ (x ≡ y)) × Among y (z ∷ ys)
      by true e h rest = let r = rest h in (r.0, inr r.1)
      by false e (inl is) rest = (λ equal. false≢true (sym e ∙ (decides x z).1 (equal ∙ is)), inl is)
      by false e (inr h) rest = let r = rest h in (r.0, inr r.1)

  distinct_without : (x : X) (ys : List X) → AreDistinct ys → AreDistinct (without same x ys)
  distinct_without x [] h = tt
  distinct_without x (z ∷ ys) h = by (same x z) (distinct_without x ys h.1)
    where
      by : (b : Bool) → AreDistinct (without same x ys) → AreDistinct (cond (not b) (z ∷ without same x ys) (without same x ys))
      by true rest = rest
      by false rest = (λ among. h.0 (among_without x z ys among).1, rest)

  pub once_distinct : (xs : List X) → AreDistinct (each_once same xs)
  once_distinct [] = tt
  once_distinct (x ∷ xs) = (λ among. (among_without x x (each_once same xs) among).0 refl, distinct_without x (each_once same xs) (once_distinct xs))

-- ---- places

module _ {X : Type 0} where
  among_at : (xs : List X) (i : ℕ) (x : X) → slice_get xs i ≡ Some x → Among x xs
  among_at [] i x e = let within = slice_get_within [] i x e in absurd (omega arith)
  among_at (y ∷ xs) zero x e = inl (sym (same_Some y x e))
  among_at (y ∷ xs) (suc i) x e = inr (among_at xs i x e)

  pub one_place : (xs : List X) (i j : ℕ) (x : X) → AreDistinct xs → slice_get xs i ≡ Some x → slice_get xs j ≡ Some x → i ≡ j
  one_place [] i j x distinct e f = let within = slice_get_within [] i x e in absurd (omega arith)
  one_place (y ∷ xs) zero zero x distinct e f = refl
  one_place (y ∷ xs) zero (suc j) x distinct e f = absurd (distinct.0 (subst (λ (z : X). Among z xs) (sym (same_Some y x e)) (among_at xs j x f)))
  one_place (y ∷ xs) (suc i) zero x distinct e f = absurd (distinct.0 (subst (λ (z : X). Among z xs) (sym (same_Some y x f)) (among_at xs i x e)))
  one_place (y ∷ xs) (suc i) (suc j) x distinct e f = let same = one_place xs i j x distinct.1 e f in omega arith

-- ---- the leaves of a model

pub one_number : (m : PepaModel) → IsModel m → (i j : ℕ) (e : Expression) → slice_get m.leaves i ≡ Some e → slice_get m.leaves j ≡ Some e → i ≡ j
one_number m sound i j e at_i at_j =
    one_place m.leaves i j e (subst AreDistinct (sym sound.numbered.leaves_by_place) (once_distinct same_expression same_expression-Decides _)) at_i at_j
