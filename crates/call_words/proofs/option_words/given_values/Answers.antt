use Rattle.std.proofs.Common.{◌≡◌, ℕ, List, [], map, string_bytes, ap, sym, ◌∙◌, subst, refl, true, false, inl, inr}
use Rattle.clap.specs.Words.{App, fault_of, is_simple_and_free}
use Rattle.clap.specs.Kinds.{HasKind, Kinds}
use Rattle.call_words.specs.OptionsApp.{options_app}
use Rattle.call_words.proofs.OptionRules.{options_free, text_of_matches}
use Rattle.call_words.proofs.UsesTaken.{uses_are_taken, fresh_uses}
use Rattle.call_words.proofs.TakenUses.{taken_give_values, uses_are_tested}
use Rattle.call_words.proofs.option_words.given_values.Goals as goal

pub returns-then-not-are_options_or_plain : goal.returns-then-not-are_options_or_plain
returns-then-not-are_options_or_plain c =
    λ u value g. let bad : false ≡ true = c.if-not-are_options_or_plain.ensures.1 (uses_are_tested _ _ g.uses g.are_uses) in absurd cc

pub returns-in-Ok-try_get_matches_from : goal.returns-in-Ok-try_get_matches_from
returns-in-Ok-try_get_matches_from c =
    let names : List (List ℕ) = map (λ name. name.now) c.args.names.now in
    let words : List (List ℕ) = map string_bytes c.args.words.now in
    let app = c.in-Ok.ensures in
    let found = c.in-Ok-try_get_matches_from.ensures in
    let taken : fault_of (options_app names) words ≡ [] =
    ap (λ (a : App). fault_of a words) (sym app) ∙ found.kinds (ap is_simple_and_free app ∙ options_free names) in
    let g = taken_give_values names c.requires words (c.if-not-are_options_or_plain.ensures.0 refl) taken in
    record {
      uses = g.uses;
      are_uses = g.are_uses;
      are_once = g.are_once;
      values = λ name. text_of_matches _ names words c.in-Ok-try_get_matches_from.matches app found.matches name ∙ g.values name;
    }

pub returns : goal.returns
returns c = λ u value g.
    let names : List (List ℕ) = map (λ name. name.now) c.args.names.now in
    let words : List (List ℕ) = map string_bytes c.args.words.now in
    let app = c.in-Ok.ensures in
    let taken : fault_of (options_app names) words ≡ [] = uses_are_taken names c.requires words g.uses g.are_uses (fresh_uses [] g.uses g.are_once) in
    let P : Kinds → Type 0 = λ kinds. HasKind kinds c.in-Err.error in
    let kind = subst P (ap (λ (a : App). fault_of a words) app ∙ taken) (c.in-Err.ensures.kinds (ap is_simple_and_free app ∙ options_free names)) in
    elim kind [
      | inl e ↦ (let bad = rw (c.kind.ensures ∙ e) at (sym c.eq.ensures ∙ c.if-eq.false) in absurd cc)
      | inr e ↦ absurd e
    ]
