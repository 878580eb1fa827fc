-- Words in which what begins with `-` is an option, and that are taken, are uses of options, each at most once.
use Rattle.std.proofs.Common.{◌≡◌, List, [], ◌∷◌, ◌++◌, Option, None, Some, Bool, true, false, eqb, refl, sym, ap, ◌∙◌, ◌⊎◌, inl, inr, subst, fold, map}
use Rattle.std.proofs.lemmas.Bool.{eqb-true, eqb-false}
use Rattle.std.proofs.lemmas.List.{map-append}
use Rattle.std.specs.Str.{bytes_eq}
use Rattle.clap.specs.Words.{Row, Rule, Text, first_of, matches_of}
use Rattle.clap.specs.Walk.{Walk, walked, has_row, nothing_held, settled, finished}
use Rattle.clap.specs.Faults.{turn_fault, walk_fault, settle_fault, fault_of, defaults_fault, check_fault}
use Rattle.clap.specs.Kinds.{or_else, Kinds}
use Rattle.clap.specs.declared.error.kind.ErrorKind.{ErrorKind}
use Rattle.clap.proofs.FaultLemmas.{leaf_fault}
use Rattle.call_words.specs.OptionUses.{OptionUse, AreUses, NoUse, JoinedUse, ApartUse, AreOnce, BeginsWithHyphen, value_in, name_word, joined_word, GiveValues}
use Rattle.call_words.specs.OptionsApp.{options_app}
use Rattle.call_words.specs.HyphenTest.{IsOptionOrPlain, AreOptionsOrPlain}
use Rattle.call_words.proofs.OptionRules.{options_shape, built_app, HasOption, has_option, no_position}
use Rattle.call_words.proofs.LongWords.{IsLong, joined_is_long, name_is_long, is_plain}
use Rattle.call_words.proofs.WalkSteps.{at_rest, with_value, in_wait, put, clash, rest_joined, rest_joined_fault, rest_name, settles_first, settles_first_fault, wait_plain, value_settles_fault, wait_ends, wait_long_fault, rest_plain_fault, value_plain_fault}
use Rattle.call_words.proofs.UsesTaken.{rules_for, AreNames, name_of_names, AllFresh, use_row, put_fresh, fault_is, values_are}
use Rattle.pepa_model.specs.Derivation.{Among}

-- the words are walked without a fault
record Walks (c : List Rule) (w : Walk) (words : List Text) : Type 0 where
  walks : walk_fault (options_shape c) [] w words ≡ []
  ends : settle_fault c false (fold (walked c []) w words).held ≡ []

or_split : (a b : Kinds) → or_else a b ≡ [] → (a ≡ []) × (b ≡ [])
or_split [] b h = (refl, h)
or_split (k ∷ ks) b h = absurd cc

walks_one : (c : List Rule) (w : Walk) (word : Text) (words : List Text) → Walks c w (word ∷ words)
    → (turn_fault (options_shape c) [] w word ≡ []) × Walks c (walked c [] w word) words
unfolding walk_fault
walks_one c w word words h = let p = or_split _ _ h.walks in (p.0, record { walks = p.1; ends = h.ends })

walks_back : (c : List Rule) (w : Walk) (word : Text) (words : List Text) → turn_fault (options_shape c) [] w word ≡ [] → Walks c (walked c [] w word) words
    → Walks c w (word ∷ words)
unfolding walk_fault
walks_back c w word words f h = record { walks = ap (λ k. or_else k (walk_fault (options_shape c) [] (walked c [] w word) words)) f ∙ h.walks; ends = h.ends }

refused : {A : Type 0} (ks : Kinds) (k : ErrorKind) → ks ≡ k ∷ [] → ks ≡ [] → A
refused ks k e f = let bad : k ∷ [] ≡ [] = sym e ∙ f in absurd cc

none_clash : (name : Text) (rows : List Row) → clash name rows ≡ [] → has_row name rows ≡ false
none_clash name rows h = go (has_row name rows) refl
  where
    go : (b : Bool) → has_row name rows ≡ b → has_row name rows ≡ false
    go false e = e
    go true e = let bad = rw e at h in absurd cc

-- a word begins with `-`, or does not
hyphen_or_not : (w : Text) → BeginsWithHyphen w ⊎ (BeginsWithHyphen w → ⊥)
hyphen_or_not [] = inr (λ h. h)
hyphen_or_not (x ∷ xs) = go (eqb x 45) refl
  where
    go : (b : Bool) → eqb x 45 ≡ b → (x ≡ 45) ⊎ (x ≡ 45 → ⊥)
    go true e = inl (eqb-true x 45 e)
    go false e = inr (eqb-false x 45 e)

record FreshUses (names : List Text) (ws : List Text) (rows : List Row) : Type 0 where
  uses : List OptionUse
  are_uses : AreUses names ws uses
  fresh : AllFresh rows uses

record Sound (names : List Text) (ws : List Text) : Type 0 where
  rest : (rows : List Row) → Walks (rules_for names) (at_rest rows) ws → FreshUses names ws rows
  value : (rows : List Row) (m u : Text) → Among m names → Walks (rules_for names) (with_value rows m u) ws
      → (has_row m rows ≡ false) × FreshUses names ws (put m u rows)
  wait : (rows : List Row) (m : Text) → Among m names → Walks (rules_for names) (in_wait rows m) ws → FreshUses names (name_word m ∷ ws) rows

moved : (c : List Rule) (w v : Walk) (ws : List Text) → w ≡ v → Walks c w ws → Walks c v ws
moved c w v ws e h = let P : Walk → Type 0 = λ x. Walks c x ws in subst P e h

sound_none : (names : List Text) → Sound names []
sound_none names =
    let c = rules_for names in
    record {
      rest = λ rows h. record { uses = []; are_uses = NoUse; fresh = tt };
      value = λ rows m u among h.
          (none_clash m rows (sym (value_settles_fault c rows m u (has_option names m among)) ∙ h.ends), record { uses = []; are_uses = NoUse; fresh = tt });
      wait = λ rows m among h. refused _ _ (wait_ends c rows m (has_option names m among)) h.ends;
    }

-- the first word is an option: what is pending was used before
sound_long : (names : List Text) (word name : Text) (v : Option Text) (ws : List Text) → IsLong word name v → HasOption (rules_for names) name
    → ((rows : List Row) → Walks (rules_for names) (at_rest rows) (word ∷ ws) → FreshUses names (word ∷ ws) rows) → Sound names (word ∷ ws)
sound_long names word name v ws l k rest =
    let c = rules_for names in
    record {
      rest = rest;
      value = λ rows m u among h.
          let p = has_option names m among in
          let one = walks_one c (with_value rows m u) word ws h in
          let parts = or_split (clash m rows) _ (sym (settles_first_fault c rows m u word name v l k p) ∙ one.0) in (
            none_clash m rows parts.0,
            rest (put m u rows) (walks_back c (at_rest (put m u rows)) word ws parts.1 (moved c _ _ ws (settles_first c rows m u word name v l k p) one.1)),
          );
      wait = λ rows m among h.
          refused _ _ (wait_long_fault c rows m word name v l k (has_option names m among)) (walks_one c (in_wait rows m) word ws h).0;
    }

sound_joined : (names : List Text) → AreNames names → (ws : List Text) → Sound names ws → (name : Text) → Among name names → (v : Text)
    → Sound names (joined_word name v ∷ ws)
sound_joined names good ws s name among v =
    let c = rules_for names in
    let k = has_option names name among in
    let l = joined_is_long name v (name_of_names names name good among) in
    sound_long names (joined_word name v) name (Some v) ws l k (λ rows h.
    let one = walks_one c (at_rest rows) (joined_word name v) ws h in
    let new = none_clash name rows (or_split (clash name rows) [] (sym (rest_joined_fault c rows (joined_word name v) name v l k) ∙ one.0)).0 in
    let more = s.rest (put name v rows) (moved c _ _ ws (rest_joined c rows (joined_word name v) name v l k) one.1) in
    record { uses = record { name = name; value = v } ∷ more.uses; are_uses = JoinedUse name v ws more.uses among more.are_uses; fresh = (new, more.fresh) })

sound_name : (names : List Text) → AreNames names → (ws : List Text) → Sound names ws → (name : Text) → Among name names → Sound names (name_word name ∷ ws)
sound_name names good ws s name among =
    let c = rules_for names in
    let k = has_option names name among in
    let l = name_is_long name (name_of_names names name good among) in
    sound_long names (name_word name) name None ws l k (λ rows h.
    let one = walks_one c (at_rest rows) (name_word name) ws h in
    s.wait rows name among (moved c _ _ ws (rest_name c rows (name_word name) name l k) one.1))

sound_plain : (names : List Text) (ws : List Text) → Sound names ws → (w : Text) → (BeginsWithHyphen w → ⊥) → Sound names (w ∷ ws)
sound_plain names ws s w n =
    let c = rules_for names in
    let q = is_plain w n in
    record {
      rest = λ rows h. refused _ _ (rest_plain_fault c rows w q (no_position names)) (walks_one c (at_rest rows) w ws h).0;
      value = λ rows m u among h. refused _ _ (value_plain_fault c rows m u w q (no_position names)) (walks_one c (with_value rows m u) w ws h).0;
      wait = λ rows m among h.
          let one = walks_one c (in_wait rows m) w ws h in
          let more = s.value rows m w among (moved c _ _ ws (wait_plain c rows m w q (has_option names m among)) one.1) in
          record { uses = record { name = m; value = w } ∷ more.1.uses; are_uses = ApartUse m w ws more.1.uses among n more.1.are_uses; fresh = (more.0, more.1.fresh) };
    }

sound_word : (names : List Text) → AreNames names → (ws : List Text) → Sound names ws → (w : Text) → IsOptionOrPlain names w → Sound names (w ∷ ws)
sound_word names good ws s w tested =
    let P : Text → Type 0 = λ x. Sound names (x ∷ ws) in
    elim (hyphen_or_not w) [
      | inr n ↦ sound_plain names ws s w n
      | inl h ↦
          let t = tested h in
          elim t.2 [
            | inl e ↦ subst P (sym e) (sound_name names good ws s t.0 t.1)
            | inr e ↦ subst P (sym e.1) (sound_joined names good ws s t.0 t.1 e.0)
          ]
    ]

sound : (names : List Text) → AreNames names → (ws : List Text) → AreOptionsOrPlain names ws → Sound names ws
sound names good [] t = sound_none names
sound names good (w ∷ ws) t = sound_word names good ws (sound names good ws t.1) w t.0

taken_are_uses : (names : List Text) → AreNames names → (ws : List Text) → AreOptionsOrPlain names ws → fault_of (options_app names) ws ≡ []
    → FreshUses names ws []
taken_are_uses names good ws t h =
    let c = rules_for names in
    let held = (fold (walked c []) (at_rest []) ws).held in
    let last : Kinds = or_else (defaults_fault (settled c held).rows c) (check_fault (options_shape c) (finished c held) false) in
    let settle : Kinds = settle_fault c false held in
    let whole = or_split (walk_fault (options_shape c) [] (at_rest []) ws) (or_else [] (or_else settle last))
    (sym (fault_is names ws ∙ leaf_fault (built_app names) nothing_held ws refl) ∙ h) in
    (sound names good ws t).rest [] (record { walks = whole.0; ends = (or_split settle last whole.1).0 })

-- ---- each name once

found_none : (name : Text) (us : List OptionUse) → has_row name (map use_row us) ≡ false → value_in us name ≡ None
found_none name [] h = refl
found_none name (u ∷ us) h = go (λ k. found_none name us k) (bytes_eq u.name name) refl
  where
    go : (has_row name (map use_row us) ≡ false → value_in us name ≡ None) → (b : Bool) → bytes_eq u.name name ≡ b → value_in (u ∷ us) name ≡ None
    go more true e = let bad : true ≡ false = rw e at h in absurd cc
    go more false e = rw e (more (rw e at h))

uses_once : (before us : List OptionUse) → AllFresh (map use_row before) us → AreOnce before us
uses_once before [] f = tt
uses_once before (u ∷ us) f =
    let P : List Row → Type 0 = λ rows. AllFresh rows us in
    let same : put u.name u.value (map use_row before) ≡ map use_row (before ++ u ∷ []) = put_fresh u.name u.value (map use_row before) f.0 ∙ sym (map-append use_row before (u ∷ [])) in
    (found_none u.name before f.0, uses_once (before ++ u ∷ []) us (subst P same f.1))

-- words that are taken give the values that the matches have
pub taken_give_values : (names : List Text) → AreNames names → (ws : List Text) → AreOptionsOrPlain names ws → fault_of (options_app names) ws ≡ []
    → GiveValues names ws (λ name. first_of name (matches_of (options_app names) ws))
taken_give_values names good ws t h =
    let us = taken_are_uses names good ws t h in
    let once = uses_once [] us.uses us.fresh in
    record { uses = us.uses; are_uses = us.are_uses; are_once = once; values = values_are names good ws us.uses us.are_uses once }

-- words of uses have only options and words that don't begin with `-`
pub uses_are_tested : (names : List Text) (ws : List Text) (us : List OptionUse) → AreUses names ws us → AreOptionsOrPlain names ws
uses_are_tested names _ _ NoUse = tt
uses_are_tested names _ _ (JoinedUse name v ws us among h) = (λ _. (name, among, inr (v, refl)), uses_are_tested names ws us h)
uses_are_tested names _ _ (ApartUse name v ws us among n h) = (λ _. (name, among, inl refl), (λ k. absurd (n k), uses_are_tested names ws us h))
