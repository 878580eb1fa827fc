-- Options with values, as the contracts of `clap` see them.
use Rattle.std.specs.Prelude.{Bool, not, List, [], ◌∷◌, Some, map, codes, true, false}
use Rattle.clap.specs.Words.{App, Rule, Text, new_app, new_rule}
use Rattle.clap.specs.Lexer.{has_byte}
use Rattle.clap.specs.Simple.{on_top}
use Rattle.clap.specs.declared.builder.action.ArgAction.TheVariants.{Set}

-- an option with this name and a value
abbrev pub option_rule : Text → Rule
option_rule name = record (new_rule name) { long = Some name; action = Some Set }

-- no option at all, and no word in front of the options
abbrev pub no_options_app : App
no_options_app =
    on_top (λ s. record s { no_binary_name = true; disable_help_flag = true }) (new_app (codes "options"))

-- options with these names
abbrev pub options_app : List Text → App
options_app names = on_top (λ s. record s { rules = map option_rule names }) no_options_app

-- the name isn't empty and has no `=` (61), so words spell it in one way
abbrev pub is_option_name : Text → Bool
is_option_name [] = false
is_option_name (x ∷ xs) = not (has_byte 61 (x ∷ xs))
