use Rattle.std.proofs.Common.{◌≡◌, ℕ, List, false, true, string_bytes, map, sym, ◌∙◌, subst}
use Rattle.call_words.specs.HyphenTest.{is_option_or_plain}
use Rattle.call_words.proofs.SpelledOptions.{one_more_word, refused_word}
use Rattle.call_words.proofs.hyphens.are_options_or_plain.Goals as goal

pub loop-word-preserved : goal.loop-word-preserved
loop-word-preserved c =
    let names : List (List ℕ) = map (λ name. name.now) c.args.names.now in
    let P : List ℕ → Type 0 = λ w. is_option_or_plain names w ≡ true in
    let passes = subst P c.as_bytes.ensures.value (sym c.is_option_or_plain.ensures ∙ c.if-not-is_option_or_plain.false) in
    let more = one_more_word string_bytes names c.args.words.now c.loop-word.word-index c.word-item.result c.loop-word-test.true c.word-item.is passes in
    record {
      all = λ h. c.loop-word.invariant.all (more.0 h);
      left = λ h. more.1 (c.loop-word.invariant.left h);
    }

pub returns-then-not-is_option_or_plain : goal.returns-then-not-is_option_or_plain
returns-then-not-is_option_or_plain c =
    let names : List (List ℕ) = map (λ name. name.now) c.args.names.now in
    let P : List ℕ → Type 0 = λ w. is_option_or_plain names w ≡ false in
    let refused = subst P c.as_bytes.ensures.value (sym c.is_option_or_plain.ensures ∙ c.if-not-is_option_or_plain.true) in (
      λ e. (let bad : false ≡ true = e in absurd cc),
      λ h. absurd (refused_word string_bytes names c.args.words.now c.loop-word.word-index c.word-item.result c.loop-word-test.true c.word-item.is refused (c.loop-word.invariant.left h)),
    )
