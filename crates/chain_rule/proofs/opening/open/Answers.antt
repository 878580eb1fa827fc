-- All words are 0, and nothing was seen.
use Rattle.std.proofs.Common.{◌≡◌, ℕ, ap, sym, ◌∙◌, subst, refl, rules, replicate}
use Rattle.chain_rule.specs.declared.meaning.Setting.{Setting}
use Rattle.chain_rule.specs.Passes.{IsPassOf}
use Rattle.chain_rule.specs.Rule.{first_view}
use Rattle.chain_rule.proofs.Splitting.{rules_opening}
use Rattle.chain_rule.proofs.Passing.{fresh_pass}
use Rattle.chain_rule.proofs.opening.open.Goals as goal

pub of_words-requires : goal.of_words-requires
of_words-requires g c =
    let zeros : c.in_ok-words.words.items ≡ replicate c.word_count.result 0 = search rules in
    rules_opening g.M.Meaning.lawful g.M.Meaning.allowed g.M.Meaning.stands record { shape = c.args.shape; meaning = c.args.meaning } c.requires c.as_slice.result.now
    (c.as_slice.ensures.value ∙ zeros ∙ ap (λ (n : ℕ). replicate {A = ℕ} n 0) c.word_count.ensures)

pub invariant_of-pass : goal.invariant_of-pass
invariant_of-pass g c =
    let key : Setting g.row.M.Denot = record { shape = c.args.shape; meaning = c.args.meaning } in
    subst (λ me. IsPassOf g.M.Meaning.lawful g.M.Meaning.allowed g.M.Meaning.stands me c.idle_seat.result) (sym c.in_ok-table.ensures.4)
    (fresh_pass g.M.Meaning.lawful g.M.Meaning.allowed g.M.Meaning.stands key (first_view key) 0 c.idle_seat.result c.requires refl refl refl refl refl c.idle_seat.ensures)
