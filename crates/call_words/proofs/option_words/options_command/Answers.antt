use Rattle.std.proofs.Common.{rules, ◌≡◌, ◌∙◌, ap, ap₂}
use Rattle.clap.specs.Words.{rule_of, with_rule}
use Rattle.call_words.specs.OptionsApp.{option_rule}
use Rattle.call_words.proofs.OptionRules.{one_more_option}
use Rattle.call_words.proofs.option_words.options_command.Goals as goal

pub loop-name-preserved : goal.loop-name-preserved
loop-name-preserved c =
    let option : rule_of c.action-option.result ≡ option_rule c.new-in-loop-name.result.id.now = search rules in
    let named = ap (λ n. n.now) c.new-in-loop-name.ensures.id in
    let added = c.in_ok-command.ensures.shape (search rules) in
    added ∙ ap₂ with_rule c.loop-name.invariant (option ∙ ap option_rule named) ∙ one_more_option c.args.names.now c.loop-name.name-index _ c.loop-name-test.true
