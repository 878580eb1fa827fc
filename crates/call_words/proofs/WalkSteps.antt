-- The steps of `clap`'s walk over the words of options.
use Rattle.std.proofs.Common.{◌≡◌, ℕ, List, [], ◌∷◌, Option, None, Some, Bool, false, refl, sym, ap, ap₂, ◌∙◌, if◌then◌else◌}
use Rattle.std.specs.Option.{option_map_or}
use Rattle.std.specs.Prelude.{nat_lt}
use Rattle.clap.specs.Words.{Row, Rule, Text}
use Rattle.clap.specs.Values.{reading_of}
use Rattle.clap.specs.Walk.{Walk, Held, idle, option, trailing, walked, walk_from, settled, with_values, without, arg_by_index, long_or_other, long_met, after_flag, after_step, used_by_id, short_or_plain, option_word}
use Rattle.clap.specs.Faults.{turn_fault, settle_fault, use_fault, repeat_fault, flag_word_fault, long_fault, step_fault, bundle_fault, positional_fault}
use Rattle.clap.specs.Kinds.{or_else, Kinds}
use Rattle.clap.specs.declared.error.kind.ErrorKind.{ErrorKind}
use Rattle.clap.specs.declared.error.kind.ErrorKind.TheVariants.{InvalidValue, UnknownArgument}
use Rattle.clap.specs.declared.builder.value_parser.ValueParser.TheVariants as parsers
use Rattle.clap.specs.declared.parser.matches.ValueSource.TheVariants.{CommandLine}
use Rattle.call_words.proofs.OptionRules.{filled_option, options_shape, HasOption, same_text}
use Rattle.call_words.proofs.LongWords.{IsLong, IsPlain}

-- nothing is pending
abbrev pub at_rest : List Row → Walk
at_rest rows = walk_from (record { rows = rows; pending = None; skip = 0 })

-- an option with its value is pending
abbrev pub with_value : List Row → Text → Text → Walk
with_value rows name value = walk_from (record { rows = rows; pending = Some (name, value ∷ []); skip = 0 })

-- an option waits for its value
abbrev pub in_wait : List Row → Text → Walk
in_wait rows name = record (walk_from (record { rows = rows; pending = Some (name, []); skip = 0 })) { waiting = option name }

-- the rows after a use of an option
abbrev pub put : Text → Text → List Row → List Row
put name value rows = with_values name (reading_of parsers.String) CommandLine (value ∷ []) (without name rows)

-- what a second use is refused for
abbrev pub clash : Text → List Row → Kinds
clash name rows = or_else (repeat_fault false name rows) []

-- ---- where an option leads

abbrev by_parts : List Rule → Walk → Text → Bool → Option (Text × Option Text) → Walk
by_parts c w word dashes parts =
    let met = if dashes then (w.held, trailing w.position) else long_or_other c w.waiting word parts w.held in
    after_step c word w met.0 met.1

abbrev by_rule : List Rule → Walk → Text → Option Text → Option Rule → Walk
by_rule c w word value rule =
    let met = after_flag c w.waiting word (long_met c rule value w.held).0 (long_met c rule value w.held).1 in
    after_step c word w met.0 met.1

long_walk : (c : List Rule) (h : Held) (word name : Text) (value : Option Text) → IsLong word name value → HasOption c name
    → walked c [] (walk_from h) word ≡ by_rule c (walk_from h) word value (Some (filled_option name))
unfolding walked
long_walk c h word name value l k =
    ap₂ (by_parts c (walk_from h) word) l.other l.parts ∙ ap (by_rule c (walk_from h) word value) k.by_long

abbrev fault_by_parts : List Rule → Walk → Text → Bool → Option (Text × Option Text) → Kinds
fault_by_parts c w word dashes parts =
    let met = if dashes then (w.held, trailing w.position) else long_or_other c w.waiting word parts w.held in
    or_else (if dashes then [] else flag_word_fault c false parts word w.held) (step_fault (options_shape c) w.position met.0 met.1)

abbrev fault_by_rule : List Rule → Walk → Text → Option Text → Option Rule → Kinds
fault_by_rule c w word value rule =
    let met = after_flag c w.waiting word (long_met c rule value w.held).0 (long_met c rule value w.held).1 in
    or_else (long_fault c false rule value w.held) (step_fault (options_shape c) w.position met.0 met.1)

long_turn : (c : List Rule) (h : Held) (word name : Text) (value : Option Text) → IsLong word name value → HasOption c name
    → turn_fault (options_shape c) [] (walk_from h) word ≡ fault_by_rule c (walk_from h) word value (Some (filled_option name))
long_turn c h word name value l k =
    ap₂ (fault_by_parts c (walk_from h) word) l.other l.parts ∙ ap (fault_by_rule c (walk_from h) word value) k.by_long

-- ---- at rest

pub rest_joined : (c : List Rule) (rows : List Row) (word name value : Text) → IsLong word name (Some value) → HasOption c name
    → walked c [] (at_rest rows) word ≡ at_rest (put name value rows)
rest_joined c rows word name value l k = long_walk c (at_rest rows).held word name (Some value) l k

pub rest_joined_fault : (c : List Rule) (rows : List Row) (word name value : Text) → IsLong word name (Some value) → HasOption c name
    → turn_fault (options_shape c) [] (at_rest rows) word ≡ or_else (clash name rows) []
rest_joined_fault c rows word name value l k = long_turn c (at_rest rows).held word name (Some value) l k

pub rest_name : (c : List Rule) (rows : List Row) (word name : Text) → IsLong word name None → HasOption c name
    → walked c [] (at_rest rows) word ≡ in_wait rows name
rest_name c rows word name l k = long_walk c (at_rest rows).held word name None l k

pub rest_name_fault : (c : List Rule) (rows : List Row) (word name : Text) → IsLong word name None → HasOption c name
    → turn_fault (options_shape c) [] (at_rest rows) word ≡ []
rest_name_fault c rows word name l k = long_turn c (at_rest rows).held word name None l k

-- ---- a pending value is used before what an option does

or_else_more : (a b c : Kinds) → or_else (or_else a b) c ≡ or_else a (or_else b c)
or_else_more [] b c = refl
or_else_more (k ∷ ks) b c = refl

pub settles_first : (c : List Rule) (rows : List Row) (m u word name : Text) (value : Option Text) → IsLong word name value → HasOption c name → HasOption c m
    → walked c [] (with_value rows m u) word ≡ walked c [] (at_rest (put m u rows)) word
settles_first c rows m u word name (Some v) l k p =
    long_walk c (with_value rows m u).held word name (Some v) l k
    ∙ ap (λ rule. at_rest (put name v (used_by_id rule (u ∷ []) rows))) p.by_id ∙ sym (rest_joined c (put m u rows) word name v l k)
settles_first c rows m u word name None l k p =
    long_walk c (with_value rows m u).held word name None l k
    ∙ ap (λ rule. in_wait (used_by_id rule (u ∷ []) rows) name) p.by_id ∙ sym (rest_name c (put m u rows) word name l k)

abbrev pending_fault : Text → List Row → Option Rule → Kinds
pending_fault u rows rule = option_map_or (λ a. use_fault false a (u ∷ []) rows) rule []

pub settles_first_fault : (c : List Rule) (rows : List Row) (m u word name : Text) (value : Option Text) → IsLong word name value → HasOption c name → HasOption c m
    → turn_fault (options_shape c) [] (with_value rows m u) word ≡ or_else (clash m rows) (turn_fault (options_shape c) [] (at_rest (put m u rows)) word)
settles_first_fault c rows m u word name (Some v) l k p =
    long_turn c (with_value rows m u).held word name (Some v) l k
    ∙ ap (λ rule. or_else (or_else (pending_fault u rows rule) (clash name (used_by_id rule (u ∷ []) rows))) []) p.by_id
    ∙ or_else_more (clash m rows) (clash name (put m u rows)) [] ∙ ap (or_else (clash m rows)) (sym (rest_joined_fault c (put m u rows) word name v l k))
settles_first_fault c rows m u word name None l k p =
    long_turn c (with_value rows m u).held word name None l k
    ∙ ap (λ rule. or_else (pending_fault u rows rule) []) p.by_id ∙ ap (or_else (clash m rows)) (sym (rest_name_fault c (put m u rows) word name l k))

-- ---- an option that waits for its value

abbrev by_flags : List Rule → Walk → Text → Option Text → Walk
by_flags c w word flags =
    let met = short_or_plain c w.waiting word flags w.held in
    after_step c word w met.0 met.1

abbrev fault_by_flags : List Rule → Walk → Text → Option Text → Kinds
fault_by_flags c w word flags =
    let met = short_or_plain c w.waiting word flags w.held in
    or_else (option_map_or (λ f. bundle_fault c false f w.held) flags []) (step_fault (options_shape c) w.position met.0 met.1)

abbrev with_one_more : List Row → Text → Text → Option Rule → Walk
with_one_more rows m word rule =
    let met = option_word rule m word (in_wait rows m).held in
    record (in_wait rows m) { held = met.0; waiting = met.1 }

pub wait_plain : (c : List Rule) (rows : List Row) (m word : Text) → IsPlain word → HasOption c m
    → walked c [] (in_wait rows m) word ≡ with_value rows m word
unfolding walked
wait_plain c rows m word l p =
    ap₂ (by_parts c (in_wait rows m) word) l.other l.not_long ∙ ap (by_flags c (in_wait rows m) word) l.not_short
    ∙ ap (with_one_more rows m word) p.by_id
    ∙ ap (λ b. record (with_value rows m word) { waiting = if nat_lt (if b then 1 else 0) 1 then option m else idle }) (same_text m)

pub wait_plain_fault : (c : List Rule) (rows : List Row) (m word : Text) → IsPlain word → turn_fault (options_shape c) [] (in_wait rows m) word ≡ []
wait_plain_fault c rows m word l =
    ap₂ (fault_by_parts c (in_wait rows m) word) l.other l.not_long ∙ ap (fault_by_flags c (in_wait rows m) word) l.not_short

-- a pending option that has no value
pub wait_ends : (c : List Rule) (rows : List Row) (m : Text) → HasOption c m → settle_fault c false (in_wait rows m).held ≡ InvalidValue ∷ []
wait_ends c rows m p = ap (λ rule. option_map_or (λ a. use_fault false a [] rows) rule []) p.by_id

first_of_two : (a b : Kinds) (k : ErrorKind) → a ≡ k ∷ [] → or_else a b ≡ k ∷ []
first_of_two a b k e = rw e refl

first_of_three : (a b c : Kinds) (k : ErrorKind) → a ≡ k ∷ [] → or_else (or_else a b) c ≡ k ∷ []
first_of_three a b c k e = rw e refl

pub wait_long_fault : (c : List Rule) (rows : List Row) (m word name : Text) (value : Option Text) → IsLong word name value → HasOption c name → HasOption c m
    → turn_fault (options_shape c) [] (in_wait rows m) word ≡ InvalidValue ∷ []
wait_long_fault c rows m word name (Some v) l k p =
    ap₂ (fault_by_parts c (in_wait rows m) word) l.other l.parts ∙ ap (fault_by_rule c (in_wait rows m) word (Some v)) k.by_long
    ∙ first_of_three (settle_fault c false (in_wait rows m).held) _ _ InvalidValue (wait_ends c rows m p)
wait_long_fault c rows m word name None l k p =
    ap₂ (fault_by_parts c (in_wait rows m) word) l.other l.parts ∙ ap (fault_by_rule c (in_wait rows m) word None) k.by_long
    ∙ first_of_two (settle_fault c false (in_wait rows m).held) _ InvalidValue (wait_ends c rows m p)

-- ---- a stray word

stray : (c : List Rule) (h : Held) (word : Text) → IsPlain word → ((i : ℕ) → arg_by_index c i ≡ None)
    → turn_fault (options_shape c) [] (walk_from h) word ≡ UnknownArgument ∷ []
stray c h word l none =
    ap₂ (fault_by_parts c (walk_from h) word) l.other l.not_long ∙ ap (fault_by_flags c (walk_from h) word) l.not_short
    ∙ ap (λ rule. option_map_or (λ a. positional_fault c false a h) rule (UnknownArgument ∷ [])) (none 1)

pub rest_plain_fault : (c : List Rule) (rows : List Row) (word : Text) → IsPlain word → ((i : ℕ) → arg_by_index c i ≡ None)
    → turn_fault (options_shape c) [] (at_rest rows) word ≡ UnknownArgument ∷ []
rest_plain_fault c rows word l none = stray c (at_rest rows).held word l none

pub value_plain_fault : (c : List Rule) (rows : List Row) (m u word : Text) → IsPlain word → ((i : ℕ) → arg_by_index c i ≡ None)
    → turn_fault (options_shape c) [] (with_value rows m u) word ≡ UnknownArgument ∷ []
value_plain_fault c rows m u word l none = stray c (with_value rows m u).held word l none

-- ---- the end

pub value_settles : (c : List Rule) (rows : List Row) (m u : Text) → HasOption c m → (settled c (with_value rows m u).held).rows ≡ put m u rows
value_settles c rows m u p = ap (λ rule. used_by_id rule (u ∷ []) rows) p.by_id

pub value_settles_fault : (c : List Rule) (rows : List Row) (m u : Text) → HasOption c m → settle_fault c false (with_value rows m u).held ≡ clash m rows
value_settles_fault c rows m u p = ap (pending_fault u rows) p.by_id
