-- Words that are uses of options, each at most once, are taken, and the matches have the values.
use Rattle.std.proofs.Common.{◌≡◌, List, [], ◌∷◌, ◌++◌, Option, None, Some, Bool, true, false, refl, sym, ap, ap₂, ◌∙◌, inl, inr, subst, fold, ◌||◌, ◌&&◌, not, if◌then◌else◌, map, append_assoc}
use Rattle.std.proofs.lemmas.List.{append-nil, map-append}
use Rattle.std.specs.List.{list_any, list_all}
use Rattle.std.specs.Str.{bytes_eq}
use Rattle.clap.specs.Words.{App, Row, Rule, Text, first_of, matches_of}
use Rattle.clap.specs.Values.{reading_of}
use Rattle.clap.specs.Simple.{names_of}
use Rattle.clap.specs.Walk.{Walk, walked, settled, has_row, with_default, nothing_held, at_row, with_values, without, more_values, rows_after}
use Rattle.clap.specs.Faults.{turn_fault, walk_fault, settle_fault, defaults_fault, given_default_fault, check_fault, fault_of, built_fault}
use Rattle.clap.specs.Kinds.{or_else, Kinds, check_kinds}
use Rattle.clap.specs.Takes.{is_given}
use Rattle.clap.specs.declared.builder.value_parser.ValueParser.TheVariants as parsers
use Rattle.clap.specs.declared.parser.matches.ValueSource.TheVariants.{CommandLine}
use Rattle.clap.proofs.FaultLemmas.{leaf_fault}
use Rattle.call_words.specs.OptionUses.{OptionUse, AreUses, NoUse, JoinedUse, ApartUse, AreOnce, value_in, name_word, joined_word}
use Rattle.call_words.specs.OptionsApp.{options_app, is_option_name}
use Rattle.call_words.proofs.OptionRules.{filled_option, options_shape, built_app, built_options, HasOption, has_option}
use Rattle.call_words.proofs.LongWords.{IsLong, joined_is_long, name_is_long, is_plain}
use Rattle.call_words.proofs.WalkSteps.{at_rest, with_value, in_wait, put, clash, rest_joined, rest_joined_fault, rest_name, rest_name_fault, settles_first, settles_first_fault, wait_plain, wait_plain_fault, value_settles, value_settles_fault}
use Rattle.pepa_model.specs.Derivation.{Among}

abbrev pub rules_for : List Text → List Rule
rules_for names = map filled_option names

-- each of the names is one that words spell in one way
abbrev pub AreNames : List Text → Type 0
AreNames names = list_all is_option_name names ≡ true

both_parts : (a b : Bool) → a && b ≡ true → (a ≡ true) × (b ≡ true)
both_parts true b h = (refl, h)
both_parts false b h = absurd cc

pub name_of_names : (names : List Text) (name : Text) → AreNames names → Among name names → is_option_name name ≡ true
name_of_names [] name h among = absurd among
name_of_names (x ∷ names) name h (inl e) = ap is_option_name e ∙ (both_parts _ _ h).0
name_of_names (x ∷ names) name h (inr among) = name_of_names names name (both_parts _ _ h).1 among

-- the words are walked without a fault, and leave these rows
pub record Takes (c : List Rule) (w : Walk) (words : List Text) (rows : List Row) : Type 0 where
  pub walks : walk_fault (options_shape c) [] w words ≡ []
  pub ends : settle_fault c false (fold (walked c []) w words).held ≡ []
  pub rows_are : (settled c (fold (walked c []) w words).held).rows ≡ rows

takes_none : (c : List Rule) (w : Walk) (rows : List Row) → settle_fault c false w.held ≡ [] → (settled c w.held).rows ≡ rows → Takes c w [] rows
unfolding walk_fault
takes_none c w rows e r = record { walks = refl; ends = e; rows_are = r }

pub or_nil : (a b : Kinds) → a ≡ [] → b ≡ [] → or_else a b ≡ []
or_nil a b e f = rw (e, f) refl

takes_one : (c : List Rule) (w v : Walk) (word : Text) (words : List Text) (rows : List Row) → turn_fault (options_shape c) [] w word ≡ []
    → walked c [] w word ≡ v → Takes c v words rows → Takes c w (word ∷ words) rows
unfolding walk_fault
takes_one c w v word words rows f e t =
    let P : Walk → Type 0 = λ x. Takes c x words rows in
    let u = subst P (sym e) t in
    record { walks = or_nil _ _ f u.walks; ends = u.ends; rows_are = u.rows_are }

-- a pending value is used first
takes_settled : (c : List Rule) (w v : Walk) (word : Text) (words : List Text) (rows : List Row) (k : Kinds) → k ≡ []
    → turn_fault (options_shape c) [] w word ≡ or_else k (turn_fault (options_shape c) [] v word) → walked c [] w word ≡ walked c [] v word
    → Takes c v (word ∷ words) rows → Takes c w (word ∷ words) rows
unfolding walk_fault
takes_settled c w v word words rows k none f e t = record {
  walks = ap₂ or_else (f ∙ ap (λ x. or_else x (turn_fault (options_shape c) [] v word)) none) (ap (λ x. walk_fault (options_shape c) [] x words) e) ∙ t.walks;
  ends = ap (λ x. settle_fault c false (fold (walked c []) x words).held) e ∙ t.ends;
  rows_are = ap (λ x. (settled c (fold (walked c []) x words).held).rows) e ∙ t.rows_are;
}

-- the rows after these uses
abbrev pub rows_of_uses : List Row → List OptionUse → List Row
rows_of_uses rows [] = rows
rows_of_uses rows (u ∷ us) = rows_of_uses (put u.name u.value rows) us

-- no use is of a name that was used before
abbrev pub AllFresh : List Row → List OptionUse → Type 0
AllFresh rows [] = Unit {0}
AllFresh rows (u ∷ us) = (has_row u.name rows ≡ false) × AllFresh (put u.name u.value rows) us

pub clash_none : (name : Text) (rows : List Row) → has_row name rows ≡ false → clash name rows ≡ []
clash_none name rows h = rw h refl

record FromBoth (c : List Rule) (ws : List Text) (us : List OptionUse) : Type 0 where
  rest : (rows : List Row) → AllFresh rows us → Takes c (at_rest rows) ws (rows_of_uses rows us)
  value : (rows : List Row) (m u : Text) → HasOption c m → has_row m rows ≡ false → AllFresh (put m u rows) us
      → Takes c (with_value rows m u) ws (rows_of_uses (put m u rows) us)

-- the first word is an option
from_rest : (c : List Rule) (word name : Text) (v : Option Text) (ws : List Text) (us : List OptionUse) → IsLong word name v → HasOption c name
    → ((rows : List Row) → AllFresh rows us → Takes c (at_rest rows) (word ∷ ws) (rows_of_uses rows us)) → FromBoth c (word ∷ ws) us
from_rest c word name v ws us l k rest = record {
  rest = rest;
  value = λ rows m u p new f.
      takes_settled c (with_value rows m u) (at_rest (put m u rows)) word ws (rows_of_uses (put m u rows) us) (clash m rows) (clash_none m rows new)
      (settles_first_fault c rows m u word name v l k p) (settles_first c rows m u word name v l k p) (rest (put m u rows) f);
}

from_both : (names : List Text) → AreNames names → (ws : List Text) (us : List OptionUse) → AreUses names ws us → FromBoth (rules_for names) ws us
from_both names good _ _ NoUse =
    let c = rules_for names in
    record {
      rest = λ rows f. takes_none c (at_rest rows) rows refl refl;
      value = λ rows m u p new f. takes_none c (with_value rows m u) (put m u rows) (value_settles_fault c rows m u p ∙ clash_none m rows new) (value_settles c rows m u p);
    }
from_both names good _ _ (JoinedUse name v ws us among h) =
    let c = rules_for names in
    let l = joined_is_long name v (name_of_names names name good among) in
    let k = has_option names name among in
    let more = from_both names good ws us h in
    from_rest c (joined_word name v) name (Some v) ws (record { name = name; value = v } ∷ us) l k (λ rows f.
    takes_one c (at_rest rows) (at_rest (put name v rows)) (joined_word name v) ws (rows_of_uses (put name v rows) us)
    (rest_joined_fault c rows (joined_word name v) name v l k ∙ or_nil (clash name rows) [] (clash_none name rows f.0) refl)
    (rest_joined c rows (joined_word name v) name v l k) (more.rest (put name v rows) f.1))
from_both names good _ _ (ApartUse name v ws us among plain h) =
    let c = rules_for names in
    let l = name_is_long name (name_of_names names name good among) in
    let k = has_option names name among in
    let more = from_both names good ws us h in
    let q = is_plain v plain in
    from_rest c (name_word name) name None (v ∷ ws) (record { name = name; value = v } ∷ us) l k (λ rows f.
    takes_one c (at_rest rows) (in_wait rows name) (name_word name) (v ∷ ws) (rows_of_uses (put name v rows) us)
    (rest_name_fault c rows (name_word name) name l k) (rest_name c rows (name_word name) name l k)
    (takes_one c (in_wait rows name) (with_value rows name v) v ws (rows_of_uses (put name v rows) us)
    (wait_plain_fault c rows name v q) (wait_plain c rows name v q k) (more.value rows name v k f.0 f.1)))

-- ---- no option has a default or is required

no_default_rows : (names : List Text) (rows : List Row) → fold with_default rows (rules_for names) ≡ rows
no_default_rows [] rows = refl
no_default_rows (name ∷ names) rows = ap (λ rs. fold with_default rs (rules_for names)) (same_either (has_row name rows)) ∙ no_default_rows names rows where
  same_either : (b : Bool) → (if b then rows else rows) ≡ rows
  same_either true = refl
  same_either false = refl

none_either : (b : Bool) (k : Kinds) → (if b || true then [] else k) ≡ []
none_either true k = refl
none_either false k = refl

no_default_faults : (names : List Text) (rows : List Row) → defaults_fault rows (rules_for names) ≡ []
unfolding defaults_fault
no_default_faults [] rows = refl
no_default_faults (name ∷ names) rows =
    or_nil _ _ (none_either (has_row name rows) (given_default_fault (filled_option name) [])) (no_default_faults names (with_default rows (filled_option name)))

none_required : (names : List Text) (rows : List Row) → list_any (λ a. a.required && not (is_given a.id rows)) (rules_for names) ≡ false
none_required [] rows = refl
none_required (name ∷ names) rows = none_required names rows

pub no_check_fault : (names : List Text) (rows : List Row) → check_fault (options_shape (rules_for names)) rows false ≡ []
no_check_fault names rows = ap (check_kinds false false) (none_required names rows)

level_nil : (a b c d e : Kinds) → a ≡ [] → b ≡ [] → c ≡ [] → d ≡ [] → e ≡ [] → or_else a (or_else b (or_else c (or_else d e))) ≡ []
level_nil a b c d e p q r s t = rw (p, q, r, s, t) refl

pub fault_is : (names words : List Text)
    → fault_of (options_app names) words ≡ built_fault (built_app names) nothing_held words
fault_is names words = ap (λ (a : App). built_fault a nothing_held words) (built_options names)

pub uses_are_taken : (names : List Text) → AreNames names → (ws : List Text) (us : List OptionUse) → AreUses names ws us → AllFresh [] us
    → fault_of (options_app names) ws ≡ []
uses_are_taken names good ws us h fresh =
    let t = (from_both names good ws us h).rest [] fresh in
    fault_is names ws ∙ leaf_fault (built_app names) nothing_held ws refl
    ∙ level_nil _ _ _ _ _ t.walks refl t.ends (no_default_faults names _) (no_check_fault names _)

-- ---- the rows of uses

abbrev pub use_row : OptionUse → Row
use_row u = record { id = u.name; values = u.value ∷ []; count = None; source = Some CommandLine; reading = reading_of parsers.String }

absent : (id : Text) (change : Row → List Row) (missing rows : List Row) → has_row id rows ≡ false → at_row id change missing rows ≡ rows ++ missing
absent id change missing [] h = refl
absent id change missing (r ∷ rs) h = absent_at (λ k. absent id change missing rs k) (bytes_eq r.id id) refl
  where
    absent_at : (has_row id rs ≡ false → at_row id change missing rs ≡ rs ++ missing) → (b : Bool) → bytes_eq r.id id ≡ b
        → at_row id change missing (r ∷ rs) ≡ (r ∷ rs) ++ missing
    absent_at more true e = let bad : true ≡ false = (rw e at h) in absurd cc
    absent_at more false e = rw e (ap (λ (x : List Row). r ∷ x) (more (rw e at h)))

pub put_fresh : (name v : Text) (rows : List Row) → has_row name rows ≡ false → put name v rows ≡ rows ++ use_row (record { name = name; value = v }) ∷ []
put_fresh name v rows h =
    let gone : without name rows ≡ rows = absent name (λ _. []) [] rows h ∙ append-nil rows in
    ap (λ (rs : List Row). with_values name (reading_of parsers.String) CommandLine (v ∷ []) rs) gone
    ∙ absent name (more_values CommandLine (v ∷ [])) (use_row (record { name = name; value = v }) ∷ []) rows h

has_none : (name : Text) (us : List OptionUse) → value_in us name ≡ None → has_row name (map use_row us) ≡ false
has_none name [] h = refl
has_none name (u ∷ us) h = has_at (λ k. has_none name us k) (bytes_eq u.name name) refl
  where
    has_at : (value_in us name ≡ None → has_row name (map use_row us) ≡ false) → (b : Bool) → bytes_eq u.name name ≡ b
        → has_row name (map use_row (u ∷ us)) ≡ false
    has_at more true e = let bad : Some u.value ≡ None = rw e at h in absurd cc
    has_at more false e = rw e (more (rw e at h))

pub fresh_uses : (before us : List OptionUse) → AreOnce before us → AllFresh (map use_row before) us
fresh_uses before [] h = tt
fresh_uses before (u ∷ us) h =
    let new = has_none u.name before h.0 in
    let P : List Row → Type 0 = λ rows. AllFresh rows us in
    let same : map use_row (before ++ u ∷ []) ≡ put u.name u.value (map use_row before) = map-append use_row before (u ∷ []) ∙ sym (put_fresh u.name u.value (map use_row before) new) in
    (new, subst P same (fresh_uses (before ++ u ∷ []) us h.1))

rows_are_uses : (rows : List Row) (us : List OptionUse) → AllFresh rows us → rows_of_uses rows us ≡ rows ++ map use_row us
rows_are_uses rows [] f = sym (append-nil rows)
rows_are_uses rows (u ∷ us) f =
    rows_are_uses (put u.name u.value rows) us f.1 ∙ ap (λ (rs : List Row). rs ++ map use_row us) (put_fresh u.name u.value rows f.0)
    ∙ append_assoc rows (use_row u ∷ []) (map use_row us)

first_use : (name : Text) (us : List OptionUse) → first_of name (map use_row us) ≡ value_in us name
first_use name [] = refl
first_use name (u ∷ us) = first_at (first_use name us) (bytes_eq u.name name) refl
  where
    first_at : first_of name (map use_row us) ≡ value_in us name → (b : Bool) → bytes_eq u.name name ≡ b
        → first_of name (map use_row (u ∷ us)) ≡ value_in (u ∷ us) name
    first_at more true e = rw e refl
    first_at more false e = rw e more

-- the matches have the values of the uses
pub values_are : (names : List Text) → AreNames names → (ws : List Text) (us : List OptionUse) → AreUses names ws us → AreOnce [] us
    → (name : Text) → first_of name (matches_of (options_app names) ws) ≡ value_in us name
values_are names good ws us h once name =
    let fresh = fresh_uses [] us once in
    let t = (from_both names good ws us h).rest [] fresh in
    ap (λ (a : App). first_of name (rows_after a.top.rules (names_of a) ws)) (built_options names)
    ∙ ap (first_of name) (no_default_rows names _ ∙ t.rows_are ∙ rows_are_uses [] us fresh) ∙ first_use name us
