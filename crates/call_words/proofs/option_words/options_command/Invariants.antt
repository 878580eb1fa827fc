use Rattle.std.proofs.Common.{◌≡◌, map, take}
use Rattle.clap.specs.Words.{app_of}
use Rattle.call_words.specs.OptionsApp.{options_app}
use Rattle.call_words.proofs.option_words.options_command.Given as goal

-- the options so far
abbrev pub invariant-loop-name : goal.invariant-loop-name
invariant-loop-name l = app_of l.command ≡ options_app (map (λ name. name.now) (take l.name-index l.names))
