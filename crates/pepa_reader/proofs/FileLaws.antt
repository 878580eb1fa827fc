-- Tokens have one answer: a file has no fault, and there is one fault at most.
use Rattle.std.proofs.Common.{◌≡◌, ℕ, ◌+◌, ◌<◌, ◌≤◌, List, [], ◌∷◌, ◌++◌, length, take, drop, Some, slice_get, ◌⊎◌, inl, inr, refl, sym, ap, subst, ◌∙◌, append_assoc, append-nil, length-append, arith}
use Rattle.std.proofs.lemmas.List.{take-append-drop, length-take-le}
use Rattle.std.proofs.lemmas.Option.{same_Some}
use Rattle.pepa_lexer.specs.declared.kinds.Token.{Token}
use Rattle.pepa_lexer.specs.declared.kinds.Place.{Place}
use Rattle.pepa_lexer.specs.declared.kinds.Sign.TheVariants.{Star, OpeningBracket}
use Rattle.token_grammar.specs.declared.terminal.Terminal.{Terminal}
use Rattle.token_grammar.specs.declared.terminal.Terminal.TheVariants.{Mark}
use Rattle.token_grammar.proofs.GoingOn.{not_before, cant_cant}
use Rattle.pepa_reader.specs.declared.fault.FileFault.{FileFault}
use Rattle.pepa_reader.specs.declared.fault.FileFault.TheVariants.{Expected, TooDeep, Array, Wildcard, Memory}
use Rattle.token_grammar.specs.Terminals.{terminals}
use Rattle.pepa_reader.specs.Grammar.{Process, Line, Ending, Item, OneLine, System, File, line_spelled, item_spelled, lines_spelled, file_spelled}
use Rattle.pepa_reader.specs.FileAnswers.{most_tokens, AreShort, IsInItem, IsFile, IsRefusedAtToken, IsWildcard, IsFaultAt, IsPlaceOf, IsFileFault}
use Rattle.token_grammar.specs.Languages.{CanGoOn, StandsAt, CantFollow}
use Rattle.pepa_reader.proofs.ItemLaws.{one_item, item_goes_on}

-- ---- lines in front of one list

-- behind the lines stands one more of the others
record Ahead (lines others : List Line) (behind : List Terminal) : Type 0 where
  line : Line
  more : List Terminal
  spelled : behind ≡ line_spelled line ++ more
  within : length (lines_spelled lines) + length (line_spelled line) ≤ length (lines_spelled others)
  short : AreShort others → length (line_spelled line) ≤ most_tokens

-- the lines are as many
record Even (lines others : List Line) (x y : List Terminal) : Type 0 where
  same : x ≡ y
  len : length (lines_spelled lines) ≡ length (lines_spelled others)

-- lines in front of one list are as many, or one of them stands behind the others
line_up : (lines others : List Line) (x y : List Terminal) → lines_spelled lines ++ x ≡ lines_spelled others ++ y → Even lines others x y ⊎ (Ahead lines others x ⊎ Ahead others lines y)
line_up [] [] x y e = inl (record { same = e; len = refl })
line_up [] (other ∷ others) x y e = inr (inl (record { line = other; more = lines_spelled others ++ y; spelled = e ∙ append_assoc (line_spelled other) (lines_spelled others) y; within = omega (arith, length-append (line_spelled other) (lines_spelled others)); short = λ s. s.0 }))
line_up (line ∷ lines) [] x y e = inr (inr (record { line = line; more = lines_spelled lines ++ x; spelled = sym e ∙ append_assoc (line_spelled line) (lines_spelled lines) x; within = omega (arith, length-append (line_spelled line) (lines_spelled lines)); short = λ s. s.0 }))
line_up (line ∷ lines) (other ∷ others) x y e =
    let first = one_item (OneLine line) (OneLine other) (lines_spelled lines ++ x) (lines_spelled others ++ y) (sym (append_assoc (line_spelled line) (lines_spelled lines) x) ∙ e ∙ append_assoc (line_spelled other) (lines_spelled others) y) in
    let one : length (line_spelled line) ≡ length (line_spelled other) = ap (λ item. length (item_spelled item)) first.0 in
    let front = length-append (line_spelled line) (lines_spelled lines) in
    let back = length-append (line_spelled other) (lines_spelled others) in
    elim (line_up lines others x y first.1) [
      | inl h ↦ inl (record { same = h.same; len = omega (arith, h.len, one, front, back) })
      | inr h ↦ elim h [
        | inl a ↦ inr (inl (record { line = a.line; more = a.more; spelled = a.spelled; within = omega (arith, a.within, one, front, back); short = λ s. a.short s.1 }))
        | inr a ↦ inr (inr (record { line = a.line; more = a.more; spelled = a.spelled; within = omega (arith, a.within, one, front, back); short = λ s. a.short s.1 }))
      ]
    ]

-- ---- parts of items

-- of two fronts the longer begins with the shorter
longer_front : (u v r s : List Terminal) → u ++ r ≡ v ++ s → length v ≤ length u → u ≡ v ++ drop (length v) u
longer_front u [] r s e h = refl
longer_front [] (y ∷ v) r s e h = absurd (omega arith)
longer_front (x ∷ u) (y ∷ v) r s e h = joined (longer_front u v r s (cc) (omega arith))
  where
    joined : u ≡ v ++ drop (length v) u → x ∷ u ≡ (y ∷ v) ++ drop (length v) u
    joined h' = cc

-- a part of an item doesn't begin with an item that is no longer than the part
part_front : (n : ℕ) (item other : Item) (rest more : List Terminal) → n < length (item_spelled item) → length (item_spelled other) ≤ n → take n (item_spelled item) ++ rest ≡ item_spelled other ++ more → ⊥
part_front n item other rest more part short e =
    let len : length (take n (item_spelled item)) ≡ n = length-take-le n (item_spelled item) (omega arith) in
    let front = longer_front (take n (item_spelled item)) (item_spelled other) rest more e (omega arith) in
    let behind = drop (length (item_spelled other)) (take n (item_spelled item)) in
    let whole : item_spelled item ++ [] ≡ item_spelled other ++ (behind ++ drop n (item_spelled item)) =
    append-nil (item_spelled item) ∙ sym (take-append-drop n (item_spelled item)) ∙ ap (λ l. l ++ drop n (item_spelled item)) front ∙ append_assoc (item_spelled other) behind (drop n (item_spelled item)) in
    let same : length (item_spelled item) ≡ length (item_spelled other) = ap (λ i. length (item_spelled i)) (one_item item other [] (behind ++ drop n (item_spelled item)) whole).0 in
    omega arith

-- a system begins with no line
no_line_in_front : (line : Line) (process : Process) (ending : Ending) (more : List Terminal) → item_spelled (System process ending) ≡ line_spelled line ++ more → ⊥
no_line_in_front line process ending more e = differ (one_item (System process ending) (OneLine line) [] more (append-nil (item_spelled (System process ending)) ∙ e)).0
  where
    differ : System process ending ≡ OneLine line → ⊥
    differ h = cc

-- ---- where terminals can go on

-- what stands behind the lines
behind_lines : (kinds : List Terminal) (i begun : ℕ) (h : IsInItem kinds i begun) → kinds ≡ lines_spelled h.lines ++ (take begun (item_spelled h.item) ++ drop i kinds)
behind_lines kinds i begun h = sym (take-append-drop i kinds) ∙ ap (λ l. l ++ drop i kinds) h.before ∙ append_assoc (lines_spelled h.lines) (take begun (item_spelled h.item)) (drop i kinds)

-- a part of an item can go on
item_can_go_on : (kinds : List Terminal) (i begun : ℕ) → IsInItem kinds i begun → CanGoOn IsFile (take i kinds)
item_can_go_on kinds i begun h = subst (CanGoOn IsFile) (sym h.before) (item_goes_on h.lines h.item (take begun (item_spelled h.item)) (drop begun (item_spelled h.item)) (sym (take-append-drop begun (item_spelled h.item))))

-- ---- two faults

-- no item of too many terminals beside a refused terminal
refused_deep : (kinds : List Terminal) (i j : ℕ) → IsRefusedAtToken kinds i → IsInItem kinds j most_tokens → ⊥
refused_deep kinds i j h k =
    let a = h.in_item in
    let before : j ≤ i = not_before kinds i j h.first (item_can_go_on kinds j most_tokens k) in
    let x = take h.begun (item_spelled a.item) ++ drop i kinds in
    let y = take most_tokens (item_spelled k.item) ++ drop j kinds in
    elim (line_up a.lines k.lines x y (sym (behind_lines kinds i h.begun a) ∙ behind_lines kinds j most_tokens k)) [
      | inl e ↦ absurd (omega (arith, h.few, e.len, a.index, k.index))
      | inr e ↦ elim e [
        | inl l ↦ part_front h.begun a.item (OneLine l.line) (drop i kinds) l.more a.more (omega (arith, l.within, a.index, k.index)) l.spelled
        | inr l ↦ part_front most_tokens k.item (OneLine l.line) (drop j kinds) l.more k.more (l.short a.short) l.spelled
      ]
    ]

-- one item is the first of too many terminals
deep_deep : (kinds : List Terminal) (i j : ℕ) → IsInItem kinds i most_tokens → IsInItem kinds j most_tokens → i ≡ j
deep_deep kinds i j h k =
    let x = take most_tokens (item_spelled h.item) ++ drop i kinds in
    let y = take most_tokens (item_spelled k.item) ++ drop j kinds in
    elim (line_up h.lines k.lines x y (sym (behind_lines kinds i most_tokens h) ∙ behind_lines kinds j most_tokens k)) [
      | inl e ↦ omega (arith, e.len, h.index, k.index)
      | inr e ↦ elim e [
        | inl l ↦ absurd (part_front most_tokens h.item (OneLine l.line) (drop i kinds) l.more h.more (l.short k.short) l.spelled)
        | inr l ↦ absurd (part_front most_tokens k.item (OneLine l.line) (drop j kinds) l.more k.more (l.short h.short) l.spelled)
      ]
    ]

-- ---- files and faults

-- in a file every terminal can follow
file_cant : (file : File) (i : ℕ) → ¬ CantFollow IsFile (file_spelled file) i
file_cant file i h = h.behind (drop (i + 1) (file_spelled file), (file, take-append-drop (i + 1) (file_spelled file)))

-- its items are short
file_deep : (file : File) (i : ℕ) → AreShort file.lines → length (item_spelled (System file.system file.ending)) ≤ most_tokens → ¬ IsInItem (file_spelled file) i most_tokens
file_deep file i short short_system h =
    let last = System file.system file.ending in
    let rest = drop i (file_spelled file) in
    let part = take most_tokens (item_spelled h.item) ++ rest in
    elim (line_up h.lines file.lines part (item_spelled last) (sym (behind_lines (file_spelled file) i most_tokens h))) [
      | inl e ↦ part_front most_tokens h.item last rest [] h.more short_system (e.same ∙ sym (append-nil (item_spelled last)))
      | inr e ↦ elim e [
        | inl l ↦ part_front most_tokens h.item (OneLine l.line) rest l.more h.more (l.short short) l.spelled
        | inr l ↦ no_line_in_front l.line file.system file.ending l.more l.spelled
      ]
    ]

-- a file has no fault
pub no_fault : (file : File) (i : ℕ) (fault : FileFault) → AreShort file.lines → length (item_spelled (System file.system file.ending)) ≤ most_tokens → ¬ IsFaultAt (file_spelled file) i fault
no_fault file i (Expected place) short short_system h = file_cant file i h.0.first
no_fault file i (Array place) short short_system h = file_cant file i h.0.first
no_fault file i (Wildcard place) short short_system h = file_cant file i h.0.first
no_fault file i (TooDeep place) short short_system h = file_deep file i short short_system h.0
no_fault file i Memory short short_system h = h

-- ---- one fault

-- why there is a fault at an index
abbrev Class : List Terminal → ℕ → Type 0
Class kinds i = IsRefusedAtToken kinds i ⊎ IsInItem kinds i most_tokens

-- a refused terminal, or an item of too many
class_of : (kinds : List Terminal) (i : ℕ) (fault : FileFault) → IsFaultAt kinds i fault → Class kinds i
class_of kinds i (Expected place) h = inl h.0
class_of kinds i (Array place) h = inl h.0
class_of kinds i (Wildcard place) h = inl h.0
class_of kinds i (TooDeep place) h = inr h.0
class_of kinds i Memory h = absurd h

-- they stand at one index
one_place : (kinds : List Terminal) (i j : ℕ) → Class kinds i → Class kinds j → i ≡ j
one_place kinds i j (inl h) (inl k) = cant_cant kinds i j h.first k.first
one_place kinds i j (inl h) (inr k) = absurd (refused_deep kinds i j h k)
one_place kinds i j (inr h) (inl k) = absurd (refused_deep kinds j i k h)
one_place kinds i j (inr h) (inr k) = deep_deep kinds i j h k

-- faults stand at one index
pub one_index : (kinds : List Terminal) (i j : ℕ) (fault other : FileFault) → IsFaultAt kinds i fault → IsFaultAt kinds j other → i ≡ j
one_index kinds i j fault other h k = one_place kinds i j (class_of kinds i fault h) (class_of kinds j other k)

-- no wildcard is a `[`
no_wild_array : (kinds : List Terminal) (i : ℕ) → StandsAt kinds i (Mark OpeningBracket) → ¬ IsWildcard kinds i
no_wild_array kinds i array wildcard = differ (sym array ∙ wildcard.0)
  where
    differ : Some (Mark OpeningBracket) ≡ Some (Mark Star) → ⊥
    differ e = cc

-- faults at one index, at one place, are one
same_fault : (kinds : List Terminal) (i : ℕ) (place : Place) (fault other : FileFault) → IsFaultAt kinds i fault → IsFaultAt kinds i other → IsPlaceOf fault place → IsPlaceOf other place → fault ≡ other
same_fault kinds i place (Expected p) (Expected q) h k there here = cc
same_fault kinds i place (Expected p) (Array q) h k there here = absurd (h.1 k.1)
same_fault kinds i place (Expected p) (Wildcard q) h k there here = absurd (h.2 k.1)
same_fault kinds i place (Expected p) (TooDeep q) h k there here = absurd (refused_deep kinds i i h.0 k.0)
same_fault kinds i place (Array p) (Expected q) h k there here = absurd (k.1 h.1)
same_fault kinds i place (Array p) (Array q) h k there here = cc
same_fault kinds i place (Array p) (Wildcard q) h k there here = absurd (no_wild_array kinds i h.1 k.1)
same_fault kinds i place (Array p) (TooDeep q) h k there here = absurd (refused_deep kinds i i h.0 k.0)
same_fault kinds i place (Wildcard p) (Expected q) h k there here = absurd (k.2 h.1)
same_fault kinds i place (Wildcard p) (Array q) h k there here = absurd (no_wild_array kinds i k.1 h.1)
same_fault kinds i place (Wildcard p) (Wildcard q) h k there here = cc
same_fault kinds i place (Wildcard p) (TooDeep q) h k there here = absurd (refused_deep kinds i i h.0 k.0)
same_fault kinds i place (TooDeep p) (Expected q) h k there here = absurd (refused_deep kinds i i k.0 h.0)
same_fault kinds i place (TooDeep p) (Array q) h k there here = absurd (refused_deep kinds i i k.0 h.0)
same_fault kinds i place (TooDeep p) (Wildcard q) h k there here = absurd (refused_deep kinds i i k.0 h.0)
same_fault kinds i place (TooDeep p) (TooDeep q) h k there here = cc
same_fault kinds i place Memory other h k there here = absurd h
same_fault kinds i place _ Memory h k there here = absurd k

-- tokens have one fault
pub one_fault : (input : List ℕ) (tokens : List Token) (fault other : FileFault) → IsFileFault input tokens fault → IsFileFault input tokens other → fault ≡ other
one_fault input tokens fault other h k =
    let kinds = terminals input tokens in
    let index = one_index kinds h.i k.i fault other h.is_fault k.is_fault in
    let token : h.token ≡ k.token = same_Some h.token k.token (sym h.is_token ∙ ap (slice_get tokens) index ∙ k.is_token) in
    same_fault kinds h.i h.token.place fault other h.is_fault (subst (λ n. IsFaultAt kinds n other) (sym index) k.is_fault) h.place (subst (λ t. IsPlaceOf other t.place) (sym token) k.place)
