-- What `clap` makes of the options, and how it finds one by its name.
use Rattle.std.proofs.Common.{◌≡◌, ◌<◌, ◌+◌, ℕ, List, [], ◌∷◌, ◌++◌, None, Some, Bool, true, false, not, refl, sym, ap, ◌∙◌, inl, inr, map, take, get_or, length, ◌&&◌}
use Rattle.std.proofs.lemmas.List.{take_more, map-append}
use Rattle.std.proofs.lemmas.Slice.Eq.{bytes_eq-Decides}
use Rattle.std.specs.Borrow.{Bor}
use Rattle.std.specs.Str.{bytes_eq}
use Rattle.std.specs.List.{list_any, list_all}
use Rattle.clap.specs.Words.{App, Rule, Text, built, is_simple, is_simple_and_free, with_rule, found_of, first_value, first_of, HasMatchesOf, matches_of}
use Rattle.clap.specs.Simple.{Shape, filled_from}
use Rattle.clap.specs.Walk.{arg_by_id, arg_by_long, arg_by_index, is_early_multiple}
use Rattle.clap.specs.declared.builder.value_parser.ValueParser.TheVariants as parsers
use Rattle.clap.specs.declared.parser.matches.ArgMatches.{ArgMatches}
use Rattle.clap.proofs.WalkLemmas.{first_value-rows}
use Rattle.call_words.specs.OptionsApp.{option_rule, no_options_app, options_app}
use Rattle.pepa_model.specs.Derivation.{Among}

-- an option as `clap` fills it in
abbrev pub filled_option : Text → Rule
filled_option name = record (option_rule name) { parser = Some parsers.String; range = Some (record { start_inclusive = 1; end_inclusive = 1 }) }

-- the command with these options, as `clap` builds it
abbrev pub options_shape : List Rule → Shape
options_shape rules = record no_options_app.top { rules = rules; is_built = true; disable_help_subcommand = true }

filled_rules : (i : ℕ) (names : List Text) → filled_from i (map option_rule names) ≡ map filled_option names
filled_rules i [] = refl
filled_rules i (name ∷ names) = ap (λ (rules : List Rule). filled_option name ∷ rules) (filled_rules i names)

abbrev pub built_app : List Text → App
built_app names = record { top = options_shape (map filled_option names); subs = [] }

pub built_options : (names : List Text) → built (options_app names) ≡ built_app names
built_options names = ap (λ (rules : List Rule). record { top = options_shape rules; subs = [] }) (filled_rules 1 names)

-- one more option
pub one_more_option : (names : List (Bor Text)) (i : ℕ) (d : Bor Text) → i < length names
    → with_rule (options_app (map (λ name. name.now) (take i names))) (option_rule (get_or names i d).now) ≡ options_app (map (λ name. name.now) (take (i + 1) names))
one_more_option names i d less =
    let texts : List (Bor Text) → List Text = map (λ name. name.now) in
    let more : texts (take (i + 1) names) ≡ texts (take i names) ++ (get_or names i d).now ∷ [] =
    ap texts (take_more names i d less) ∙ map-append (λ (name : Bor Text). name.now) (take i names) (get_or names i d ∷ []) in
    let rules : map option_rule (texts (take (i + 1) names)) ≡ map option_rule (texts (take i names)) ++ option_rule (get_or names i d).now ∷ [] =
    ap (map option_rule) more ∙ map-append option_rule (texts (take i names)) ((get_or names i d).now ∷ []) in
    ap (λ (rs : List Rule). record no_options_app { top = record no_options_app.top { rules = rs } }) (sym rules)

-- ---- the command is one of which the contracts of `clap` are exact

simple_rules : (names : List Text) → list_all (λ a. a.is_simple) (map option_rule names) ≡ true
simple_rules [] = refl
simple_rules (name ∷ names) = simple_rules names

simple_filled : (names : List Text) → list_all (λ a. a.is_simple) (map filled_option names) ≡ true
simple_filled [] = refl
simple_filled (name ∷ names) = simple_filled names

free_filled : (names : List Text) → list_all (λ a. a.is_free) (map filled_option names) ≡ true
free_filled [] = refl
free_filled (name ∷ names) = free_filled names

never_early : (n : ℕ) (names : List Text) → list_any (is_early_multiple n) (map filled_option names) ≡ false
never_early n [] = refl
never_early n (name ∷ names) = never_early n names

all_true : (a b c : Bool) → a ≡ true → b ≡ true → c ≡ false → (a && true) && ((b && not c) && true) ≡ true
all_true a b c e f g = rw (e, f, g) refl

both_true : (a b : Bool) → a ≡ true → b ≡ true → a && (b && true) ≡ true
both_true a b e f = rw (e, f) refl

pub options_simple : (names : List Text) → is_simple (options_app names) ≡ true
options_simple names =
    let filled = filled_rules 1 names in
    all_true _ _ _ (simple_rules names) (ap (list_all (λ a. a.is_simple)) filled ∙ simple_filled names)
    (ap (list_any (is_early_multiple _)) filled ∙ never_early _ names)

pub options_free : (names : List Text) → is_simple_and_free (options_app names) ≡ true
options_free names = both_true _ _ (options_simple names) (ap (list_all (λ a. a.is_free)) (filled_rules 1 names) ∙ free_filled names)

-- what a getter gives is what the words name
pub text_of_matches : (a : App) (names words : List Text) (m : ArgMatches) → a ≡ options_app names → HasMatchesOf a words m
    → (id : Text) → first_value (found_of m) id ≡ first_of id (matches_of (options_app names) words)
text_of_matches a names words m e h id =
    first_value-rows (found_of m) id ∙ ap (first_of id) ((h (ap is_simple e ∙ options_simple names)).0 ∙ ap (λ (x : App). matches_of x words) e)

-- ---- an option by its name

-- the rules have an option with this name, and no argument has a position
pub record HasOption (rules : List Rule) (name : Text) : Type 0 where
  pub by_long : arg_by_long rules name ≡ Some (filled_option name)
  pub by_id : arg_by_id rules name ≡ Some (filled_option name)

pub same_text : (name : Text) → bytes_eq name name ≡ true
same_text name = (bytes_eq-Decides name name).1 refl

has_option_at : (x : Text) (names : List Text) (name : Text) (b : Bool) → bytes_eq x name ≡ b → (b ≡ false → HasOption (map filled_option names) name)
    → HasOption (map filled_option (x ∷ names)) name
has_option_at x names name true e more =
    let same : Some (filled_option x) ≡ Some (filled_option name) = ap (λ (y : Text). Some (filled_option y)) ((bytes_eq-Decides x name).0 e) in
    record { by_long = rw e same; by_id = rw e same }
has_option_at x names name false e more = record { by_long = rw e (more refl).by_long; by_id = rw e (more refl).by_id }

pub has_option : (names : List Text) (name : Text) → Among name names → HasOption (map filled_option names) name
has_option [] name h = absurd h
has_option (x ∷ names) name (inl e) =
    has_option_at x names name (bytes_eq x name) refl (λ no. let bad : true ≡ false = sym (same_text x) ∙ ap (bytes_eq x) (sym e) ∙ no in absurd cc)
has_option (x ∷ names) name (inr h) = has_option_at x names name (bytes_eq x name) refl (λ _. has_option names name h)

pub no_position : (names : List Text) (i : ℕ) → arg_by_index (map filled_option names) i ≡ None
no_position [] i = refl
no_position (name ∷ names) i = no_position names i
