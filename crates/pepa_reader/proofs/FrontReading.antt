-- What is read of the first tokens is read of them all.
use Rattle.std.proofs.Common.{◌≡◌, ◌≢◌, ℕ, zero, suc, ◌+◌, ◌-◌, ◌<◌, ◌≤◌, min, List, [], ◌∷◌, ◌++◌, length, take, drop, refl, sym, ap, subst, ◌∙◌, append_assoc, append-nil, length-append, arith, Some}
use Rattle.std.proofs.lemmas.List.{take-append-drop, length-drop, length-take-le, length-map}
use Rattle.std.proofs.Math.ListN.{drop_of_length-le}
use Rattle.token_grammar.specs.declared.terminal.Terminal.{Terminal}
use Rattle.token_grammar.specs.declared.terminal.Terminal.TheVariants.{End}
use Rattle.pepa_reader.specs.Machine.{ParserState, IsUndone, run, start}
use Rattle.pepa_reader.specs.Grammar.{item_spelled}
use Rattle.pepa_reader.specs.FileAnswers.{most_tokens}
use Rattle.token_grammar.specs.Terminals.{terminals, terminal_of}
use Rattle.token_grammar.specs.Cursors.{IsSpelledFrom}
use Rattle.token_grammar.proofs.Places.{front_kinds}
use Rattle.pepa_reader.specs.Reading.{CannotGoOn, Stops}
use Rattle.pepa_reader.specs.ItemReading.{IsEnded, IsItemRead, IsCause, IsItemFault}
use Rattle.pepa_reader.specs.declared.items.ItemRead.{ItemRead}
use Rattle.pepa_reader.specs.declared.fault.FileFault.{FileFault}
use Rattle.pepa_lexer.specs.declared.kinds.Token.{Token}
use Rattle.pepa_reader.proofs.ItemLaws.{no_end_inside}

-- what stands behind an index in a front, and behind the front
drop_front : (kinds : List Terminal) (at n : ℕ) → at ≤ n → drop at kinds ≡ drop at (take n kinds) ++ drop n kinds
drop_front kinds zero n h = sym (take-append-drop n kinds)
drop_front [] (suc at) zero h = absurd (omega arith)
drop_front [] (suc at) (suc n) h = refl
drop_front (first ∷ more) (suc at) zero h = absurd (omega arith)
drop_front (first ∷ more) (suc at) (suc n) h = drop_front more at n (omega arith)

-- a text in a front ends in it
pub ends_in_front : (kinds : List Terminal) (n at next : ℕ) (text : List Terminal) → at ≤ n → n ≤ length kinds → IsSpelledFrom (take n kinds) at next text → next ≤ n
ends_in_front kinds n at next text within short h =
    omega (arith, h.index, ap length h.whole, length-append text (drop next (take n kinds)), length-drop at (take n kinds), length-drop next (take n kinds), length-take-le n kinds short)

-- what stands in the front stands in the whole
pub spelled_in_front : (kinds : List Terminal) (n at next : ℕ) (text : List Terminal) → at ≤ n → next ≤ n → IsSpelledFrom (take n kinds) at next text → IsSpelledFrom kinds at next text
spelled_in_front kinds n at next text within behind h =
    record {
      whole = drop_front kinds at n within ∙ ap (λ l. l ++ drop n kinds) h.whole ∙ append_assoc text (drop next (take n kinds)) (drop n kinds) ∙ ap (λ l. text ++ l) (sym (drop_front kinds next n behind));
      index = h.index;
    }

-- only the first terminal counts
refuses_longer : (state : ParserState) (front back : List Terminal) → 0 < length front → CannotGoOn state front → CannotGoOn state (front ++ back)
refuses_longer state [] back some r = absurd (omega arith)
refuses_longer state (first ∷ more) back some r = r

-- what is refused before the front's end is refused
pub refuses_in_front : (kinds : List Terminal) (n i : ℕ) (state : ParserState) → i < n → n ≤ length kinds → CannotGoOn state (drop i (take n kinds)) → CannotGoOn state (drop i kinds)
refuses_in_front kinds n i state within short r =
    let some : 0 < length (drop i (take n kinds)) = omega (arith, length-drop i (take n kinds), length-take-le n kinds short) in
    rw (drop_front kinds i n (omega arith)) (refuses_longer state (drop i (take n kinds)) (drop n kinds) some r)

-- what is left of the left list
drop_in_left : (a b : List Terminal) (at : ℕ) → at ≤ length a → drop at (a ++ b) ≡ drop at a ++ b
drop_in_left a b zero h = refl
drop_in_left [] b (suc at) h = absurd (omega arith)
drop_in_left (first ∷ more) b (suc at) h = drop_in_left more b at (omega arith)

-- an item that isn't whole stops before the end of the tokens
pub stops_inside : (kinds : List Terminal) (at i : ℕ) (text : List Terminal) (state : ParserState) → IsEnded kinds → at < length kinds → IsSpelledFrom kinds at i text → run start text ≡ Some state → IsUndone state → i < length kinds
stops_inside kinds at i text state ended within h ran undone = omega (arith, λ (past : length kinds ≤ i). no_end_inside (drop at ended.0) state (ran_to_end past) undone)
  where
    inside : at ≤ length ended.0
    inside = omega (arith, ap length ended.1, length-append ended.0 (End ∷ []))

    ran_to_end : length kinds ≤ i → run start (drop at ended.0 ++ End ∷ []) ≡ Some state
    ran_to_end past = ap (run start) (sym (drop_in_left ended.0 (End ∷ []) at inside) ∙ ap (drop at) (sym ended.1) ∙ h.whole ∙ ap (λ l. text ++ l) (drop_of_length-le kinds past) ∙ append-nil text) ∙ ran

-- ---- what is read of the first tokens

-- as many terminals as tokens
kinds_len : (input : List ℕ) (tokens : List Token) → length (terminals input tokens) ≡ length tokens
kinds_len input tokens = length-map tokens (terminal_of input)

-- an item of the first tokens
pub item_in_front : (input : List ℕ) (tokens few : List Token) (at n : ℕ) (read : ItemRead) → few ≡ take n tokens → at ≤ n → n ≤ length tokens → n ≤ at + most_tokens → IsItemRead (terminals input few) at read → IsItemRead (terminals input tokens) at read × (read.next ≤ at + most_tokens)
item_in_front input tokens few at n read front within short room h =
    let kinds = terminals input tokens in
    let spelled = subst (λ l. IsSpelledFrom l at read.next (item_spelled h.item)) (front_kinds input tokens few n front) h.spelled in
    let behind : read.next ≤ n = ends_in_front kinds n at read.next (item_spelled h.item) within (rw (kinds_len input tokens) short) spelled in
    (record { item = h.item; spelled = spelled_in_front kinds n at read.next (item_spelled h.item) within behind spelled; tree = h.tree }, omega arith)

-- where the machine stops is before the end
pub stop_in_front : (input : List ℕ) (tokens few : List Token) (at n i : ℕ) → few ≡ take n tokens → at ≤ n → n ≤ length tokens → at < length tokens → IsEnded (terminals input tokens) → Stops (terminals input few) at i start → (i ≤ n) × (i < length tokens)
stop_in_front input tokens few at n i front within short inside ended h =
    let kinds = terminals input tokens in
    let len = kinds_len input tokens in
    let spelled = subst (λ l. IsSpelledFrom l at i h.text) (front_kinds input tokens few n front) h.spelled in
    let behind : i ≤ n = ends_in_front kinds n at i h.text within (omega arith) spelled in
    let before : i < length kinds = stops_inside kinds at i h.text h.state ended (omega arith) (spelled_in_front kinds n at i h.text within behind spelled) h.ran h.undone in
    (behind, omega arith)

-- a fault of the first tokens
pub fault_in_front : (input : List ℕ) (tokens few : List Token) (at n i : ℕ) (fault : FileFault) → few ≡ take n tokens → n ≡ at + min (length tokens - at) most_tokens → at < length tokens → IsEnded (terminals input tokens) → Stops (terminals input few) at i start → IsCause input tokens at i fault → IsItemFault input tokens at fault
fault_in_front input tokens few at n i fault front room inside ended h cause =
    let kinds = terminals input tokens in
    let len = kinds_len input tokens in
    let within : at ≤ n = omega arith in
    let short : n ≤ length tokens = omega arith in
    let stop = stop_in_front input tokens few at n i front within short inside ended h in
    let same = front_kinds input tokens few n front in
    let spelled = subst (λ l. IsSpelledFrom l at i h.text) same h.spelled in
    let refused = subst (λ l. CannotGoOn h.state (drop i l)) same h.refused in
    record {
      i = i;
      state = h.state;
      text = h.text;
      spelled = spelled_in_front kinds n at i h.text within stop.0 spelled;
      ran = h.ran;
      undone = h.undone;
      refused = λ not_deep. refuses_in_front kinds n i h.state (before_end not_deep stop.0 stop.1) (omega arith) refused;
      within = stop.1;
      few = omega (arith, stop.0);
      cause = cause;
    }
  where
    before_end : i ≢ at + most_tokens → i ≤ n → i < length tokens → i < n
    before_end not_deep behind before = omega (arith, room, λ (e : i ≡ at + most_tokens). not_deep e)
