-- A process that is an expression, but for the places: it has no cooperation and no hiding, and its parts are expressions.
use Rattle.std.proofs.Common.{◌≡◌, ℕ, Bool, true, false, ◌||◌, List, [], ◌++◌, refl, sym, ap, ◌∙◌}
use Rattle.pepa_rates.specs.declared.rate.Rate.{Rate}
use Rattle.pepa_model.specs.Expression.{Expression, Const, Prefixed, Chosen}
use Rattle.pepa_resolver.specs.Named.{Named, NamedConstant, NamedPrefix, NamedChoice}
use Rattle.pepa_checks.specs.Structure.{has_system}
use Rattle.pepa_checks.specs.Outline.{expression_in, sets_written}
use Rattle.pepa_printer.proofs.Shown.{Shows}

neither : (a b : Bool) → a ≡ false → b ≡ false → (a || b) ≡ false
neither true b h k = absurd cc
neither false b h k = k

pub shown_plain : (e : Expression) (node : Named) → Shows e node → has_system node ≡ false
shown_plain (Const c) (NamedConstant at d) h = refl
shown_plain (Prefixed a r next) (NamedPrefix at b s node) h = shown_plain next node h.2
shown_plain (Chosen x y) (NamedChoice left right) h = neither (has_system left) (has_system right) (shown_plain x left h.0) (shown_plain y right h.1)
shown_plain e node h = absurd h

pub shown_no_sets : (e : Expression) (node : Named) → Shows e node → sets_written node ≡ []
shown_no_sets (Const c) (NamedConstant at d) h = refl
shown_no_sets (Prefixed a r next) (NamedPrefix at b s node) h = shown_no_sets next node h.2
shown_no_sets (Chosen x y) (NamedChoice left right) h =
    ap (λ (l : List (List ℕ)). l ++ sets_written right) (shown_no_sets x left h.0) ∙ shown_no_sets y right h.1
shown_no_sets e node h = absurd h

pub shown_expression : (e : Expression) (node : Named) → Shows e node → expression_in node ≡ e
shown_expression (Const c) (NamedConstant at d) h = ap (λ (n : ℕ). Const n) h
shown_expression (Prefixed a r next) (NamedPrefix at b s node) h =
    ap (λ (n : ℕ). Prefixed n s (expression_in node)) h.0
    ∙ ap (λ (t : Rate). Prefixed a t (expression_in node)) h.1
    ∙ ap (λ (x : Expression). Prefixed a r x) (shown_expression next node h.2)
shown_expression (Chosen x y) (NamedChoice left right) h =
    ap (λ (z : Expression). Chosen z (expression_in right)) (shown_expression x left h.0) ∙ ap (λ (z : Expression). Chosen x z) (shown_expression y right h.1)
shown_expression e node h = absurd h

-- a constant's name shows the constant
pub shown_constant : (e : Expression) (at c : ℕ) → Shows e (NamedConstant at c) → e ≡ Const c
shown_constant (Const d) at c h = ap (λ (n : ℕ). Const n) (sym h)
shown_constant (Prefixed a r next) at c h = absurd h
shown_constant (Chosen x y) at c h = absurd h
