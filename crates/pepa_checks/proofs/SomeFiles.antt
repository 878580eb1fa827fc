-- Tokens are a file whose items are short enough, or they have a fault.
use Rattle.std.proofs.Common.{◌≡◌, ◌≢◌, ℕ, zero, suc, ◌+◌, ◌<◌, ◌≤◌, ◌⊎◌, inl, inr, List, [], ◌∷◌, ◌++◌, length, take, drop, Some, get_or, slice_get, refl, sym, ◌∙◌, ap, subst, arith, append_assoc, append-nil, length-append, length-drop}
use Rattle.std.specs.List.{AllByRecursion}
use Rattle.std.proofs.lemmas.Bool.{cases_lt}
use Rattle.std.proofs.lemmas.Grind.{flat_map-append}
use Rattle.std.proofs.lemmas.List.{length-map, length-take-le, take-append-drop, take_all, take_at, take_more}
use Rattle.std.proofs.lemmas.Option.{slice_get-get_or, option_and_then_some}
use Rattle.std.proofs.Math.Seq.{take-length, take-append_seam, drop-cons}
use Rattle.pepa_lexer.specs.declared.kinds.Kind.TheVariants.{Small}
use Rattle.pepa_lexer.specs.declared.kinds.Sign.TheVariants.{Equals, Semicolon, OpeningBracket}
use Rattle.pepa_lexer.specs.declared.kinds.Token.{Token}
use Rattle.pepa_lexer.specs.TokenLists.{IsTokens}
use Rattle.token_grammar.specs.declared.terminal.Terminal.{Terminal}
use Rattle.token_grammar.specs.declared.terminal.Terminal.TheVariants.{Probe, Capital, Top, Mark, End}
use Rattle.token_grammar.specs.Terminals.{terminals, terminal_of}
use Rattle.token_grammar.specs.Languages.{StandsAt, CanGoOn, CantFollow}
use Rattle.pepa_reader.specs.declared.fault.FileFault.{FileFault}
use Rattle.pepa_reader.specs.declared.fault.FileFault.TheVariants.{Expected, TooDeep, Array, Wildcard}
use Rattle.pepa_reader.specs.declared.trees.FileTree.{FileTree}
use Rattle.pepa_reader.specs.Grammar.{Passive, File, Line, RateNamed, ProcessNamed, Ending, Open, Closed, Item, OneLine, System, rate_spelled, process_spelled, line_spelled, ending_spelled, item_spelled, lines_spelled, file_spelled}
use Rattle.token_grammar.specs.SmallNames.{Probing}
use Rattle.pepa_reader.specs.ItemReading.{IsEnded}
use Rattle.pepa_reader.specs.Machine.{ParserState, Done, IsUndone, step, run, start}
use Rattle.pepa_reader.specs.Trees.{file_tree, file_node_of}
use Rattle.pepa_reader.specs.FileAnswers.{most_tokens, IsFile, AreShort, IsInItem, IsWildcard, IsRefusedAtToken, IsFaultAt, IsFileTree, IsFileFault}
use Rattle.token_grammar.proofs.Runs.{run-append}
use Rattle.pepa_reader.proofs.FileReading.{lines_more, short_more, line_front, ending_front, last_same, only_end}
use Rattle.pepa_reader.proofs.ItemLaws.{one_item, item_goes_on, no_end_inside}
use Rattle.pepa_reader.proofs.MachineRuns.{item_runs}
use Rattle.pepa_reader.proofs.MachineTexts.{run_reads}
use Rattle.pepa_reader.proofs.TokenEnds.{tokens_ended}
use Rattle.pepa_resolver.specs.Faults.{IsLeast}
use Rattle.node_orders.proofs.Elements.{take_next}
use Rattle.pepa_checks.specs.Existence.{HasTreeOrFault}
use Rattle.pepa_checks.proofs.SomeTrees.{some_tree}
use Rattle.pepa_checks.proofs.Unavoidable.{split, some_least}

-- ---- fronts of lists

module _ {X : Type 0} where
  -- of two fronts of one list, the longer one begins with the shorter one
  longer_front : (a b s t : List X) → a ++ b ≡ s ++ t → length s ≤ length a → (more : List X) × (a ≡ s ++ more) × (more ++ b ≡ t)
  longer_front a b [] t e le = (a, refl, e)
  longer_front [] b (x ∷ s) t e le = absurd (omega arith)
  longer_front (y ∷ a) b (x ∷ s) t e le =
      let same : y ≡ x = cc in
      let behind : a ++ b ≡ s ++ t = cc in
      let less : length s ≤ length a = omega arith in
      let rest = longer_front a b s t behind less in
      (rest.0, ap (λ (z : X). z ∷ a) same ∙ ap (λ (l : List X). x ∷ l) rest.1, rest.2)

  front_within : (n : ℕ) (a b : List X) → n ≤ length a → take n (a ++ b) ≡ take n a
  front_within zero a b le = refl
  front_within (suc n) [] b le = absurd (omega arith)
  front_within (suc n) (x ∷ a) b le = ap (λ (l : List X). x ∷ l) (front_within n a b (omega arith))

  front_past : (n : ℕ) (a b : List X) → take (length a + n) (a ++ b) ≡ a ++ take n b
  front_past n [] b = let e : 0 + n ≡ n = omega arith in rw e refl
  front_past n (x ∷ a) b = let e : suc (length a) + n ≡ suc (length a + n) = omega arith in rw e (ap (λ (l : List X). x ∷ l) (front_past n a b))

  taken : (n i : ℕ) (xs : List X) → i ≤ n → take i (take n xs) ≡ take i xs
  taken n zero xs le = refl
  taken zero (suc i) xs le = absurd (omega arith)
  taken (suc n) (suc i) [] le = refl
  taken (suc n) (suc i) (x ∷ xs) le = ap (λ (l : List X). x ∷ l) (taken n i xs (omega arith))

-- ---- the end of a file

-- lines don't end with the end
lines_no_end : (lines : List Line) (front : List Terminal) → lines_spelled lines ≡ front ++ End ∷ [] → ⊥
lines_no_end lines front e = by lines front (lines_front lines) e
  where
    LastLine : List Line → Type 0
    LastLine lines = (lines_spelled lines ≡ []) ⊎ ((before : List Terminal) × (lines_spelled lines ≡ before ++ Mark Semicolon ∷ []))

    lines_front : (lines : List Line) → LastLine lines
    lines_front [] = inl refl
    lines_front (line ∷ lines) =
        let first = line_front line in
        elim (lines_front lines) [
          | inl none ↦ inr (first.0, ap (λ (l : List Terminal). line_spelled line ++ l) none ∙ append-nil (line_spelled line) ∙ first.1)
          | inr more ↦ inr (line_spelled line ++ more.0, ap (λ (l : List Terminal). line_spelled line ++ l) more.1 ∙ sym (append_assoc (line_spelled line) more.0 (Mark Semicolon ∷ [])))
        ]

    empty : (front : List Terminal) → [] ≡ front ++ End ∷ [] → ⊥
    empty [] e = cc
    empty (x ∷ front) e = cc

    differ : Mark Semicolon ≡ End → ⊥
    differ e = cc

    by : (lines : List Line) (front : List Terminal) → LastLine lines → lines_spelled lines ≡ front ++ End ∷ [] → ⊥
    by lines front (inl none) e = empty front (sym none ∙ e)
    by lines front (inr last) e = differ (last_same last.0 front (Mark Semicolon) End (sym last.1 ∙ e))

-- a file ends with the end
file_end : (file : File) → (front : List Terminal) × (file_spelled file ≡ front ++ End ∷ [])
file_end file =
    let end = ending_front file.ending in (
      lines_spelled file.lines ++ (process_spelled file.system ++ end.0),
      ap (λ (l : List Terminal). lines_spelled file.lines ++ (process_spelled file.system ++ l)) end.1 ∙ simp append_assoc,
    )

-- ---- where the end stands in an item

undone_or_done : (state : ParserState) → IsUndone state ⊎ ((item : Item) × (state ≡ Done item))
undone_or_done (Done item) = inr (item, refl)
undone_or_done _ = inl tt

-- behind the end no item goes on
end_last : (item : Item) (part more : List Terminal) → item_spelled item ≡ part ++ End ∷ more → more ≡ []
end_last item part more e =
    option_and_then_some (λ next. run next more) (run start (part ++ End ∷ [])) (Done item)
    (sym (run-append step start (part ++ End ∷ []) more) ∙ ap (run start) (append_assoc part (End ∷ []) more ∙ sym e) ∙ item_runs item)
    (λ state ran behind. elim (undone_or_done state) [
      | inl undone ↦ absurd (no_end_inside part state ran undone)
      | inr done ↦
          let other = run_reads (part ++ End ∷ []) (Done done.0) (ran ∙ ap Some done.1) in
          let whole : item_spelled item ++ [] ≡ item_spelled done.0 ++ more =
          append-nil (item_spelled item) ∙ e ∙ sym (append_assoc part (End ∷ []) more) ∙ ap (λ (l : List Terminal). l ++ more) (sym other) in
          sym (one_item item done.0 [] more whole).1
    ])

-- no part of an item that isn't whole has the end behind lines
end_in_part : (lines : List Line) (item : Item) (begun : ℕ) (front : List Terminal) → begun < length (item_spelled item) → lines_spelled lines ++ take begun (item_spelled item) ≡ front ++ End ∷ [] → ⊥
end_in_part lines item zero front less e = lines_no_end lines front (sym (append-nil (lines_spelled lines)) ∙ e)
end_in_part lines item (suc k) front less e =
    let s = item_spelled item in
    let cut : take (suc k) s ≡ take k s ++ get_or s k End ∷ [] = let f : k + 1 ≡ suc k = omega arith in rw f at (take_more s k End (omega arith)) in
    let is : get_or s k End ≡ End = last_same (lines_spelled lines ++ take k s) front (get_or s k End) End (append_assoc (lines_spelled lines) (take k s) (get_or s k End ∷ []) ∙ ap (λ (l : List Terminal). lines_spelled lines ++ l) (sym cut) ∙ e) in
    let whole : s ≡ take k s ++ End ∷ drop (suc k) s = sym (take-append-drop k s) ∙ ap (λ (l : List Terminal). take k s ++ l) (drop-cons s k End (omega arith) ∙ ap (λ (t : Terminal). t ∷ drop (suc k) s) is) in
    let nothing = ap length (end_last item (take k s) (drop (suc k) s) whole) in
    omega (arith, nothing, length-drop (suc k) s)

-- ---- where the front of a file ends

-- it ends in an item, behind short lines, and few terminals of it stand before the end
record EndsInItem (front : List Terminal) : Type 0 where
  begun : ℕ
  in_item : IsInItem front (length front) begun
  few : begun < most_tokens

-- it has many terminals of an item with more than these, behind short lines
record EndsDeep (front : List Terminal) : Type 0 where
  i : ℕ
  within : i ≤ length front
  deep : IsInItem front i most_tokens

-- it is the file, whose items are short
record IsWhole (lines : List Line) (last : Item) (front rest : List Terminal) : Type 0 where
  nothing_left : rest ≡ []
  short : AreShort lines
  short_last : length (item_spelled last) ≤ most_tokens

abbrev Ends : List Line → Item → List Terminal → List Terminal → Type 0
Ends lines last front rest = IsWhole lines last front rest ⊎ (EndsInItem front ⊎ EndsDeep front)

-- it has many terminals of the item
deep_in : (lines : List Line) (item : Item) (front part : List Terminal) → AreShort lines → front ≡ lines_spelled lines ++ part → most_tokens ≤ length part → take most_tokens (item_spelled item) ≡ take most_tokens part → most_tokens < length (item_spelled item) → EndsDeep front
deep_in lines item front part short whole many is more =
    let sizes = length-append (lines_spelled lines) part in
    let size = ap length whole in
    record {
      i = length (lines_spelled lines) + most_tokens;
      within = omega arith;
      deep = record {
        lines = lines;
        short = short;
        item = item;
        before = ap (take (length (lines_spelled lines) + most_tokens)) whole ∙ front_past most_tokens (lines_spelled lines) part ∙ ap (λ (l : List Terminal). lines_spelled lines ++ l) (sym is);
        index = refl;
        more = more;
      };
    }

-- it ends before the item does
ends_inside : (lines : List Line) (item : Item) (front part more : List Terminal) → AreShort lines → front ≡ lines_spelled lines ++ part → item_spelled item ≡ part ++ more → length part < length (item_spelled item) → EndsInItem front ⊎ EndsDeep front
ends_inside lines item front part more short whole is less =
    let sizes = length-append (lines_spelled lines) part in
    let size = ap length whole in
    elim (cases_lt (length part) most_tokens) [
      | inl few ↦ inl (record {
        begun = length part;
        in_item = record {
          lines = lines;
          short = short;
          item = item;
          before = take-length front ∙ whole ∙ ap (λ (l : List Terminal). lines_spelled lines ++ l) (sym (ap (take (length part)) is ∙ take-append_seam part more));
          index = omega arith;
          more = less;
        };
        few = few;
      })
      | inr many ↦ inr (deep_in lines item front part short whole many (ap (take most_tokens) is ∙ front_within most_tokens part more many) (omega arith))
    ]

module _ (all : List Line) (last : Item) (front rest : List Terminal) where
  -- the front is lines that are done and a part, which with the rest is the lines to come and the last item
  ends_along : (lines done : List Line) (part : List Terminal) → all ≡ done ++ lines → AreShort done → front ≡ lines_spelled done ++ part → part ++ rest ≡ lines_spelled lines ++ item_spelled last → Ends all last front rest
  ends_along [] done part whole short at e =
      let s = item_spelled last in
      let begins : part ++ rest ≡ s ++ [] = e ∙ sym (append-nil s) in
      elim (cases_lt (length part) (length s)) [
        | inl less ↦
            let more = longer_front s [] part rest (sym begins) (omega arith) in
            inr (ends_inside done last front part more.0 short at more.1 less)
        | inr le ↦
            let more = longer_front part rest s [] begins le in
            elim (cases_lt most_tokens (length s)) [
              | inl long ↦ inr (inr (deep_in done last front part short at (omega arith) (sym (ap (take most_tokens) more.1 ∙ front_within most_tokens s more.0 (omega arith))) long))
              | inr few ↦ inl (record { nothing_left = nothing more.0 rest more.2; short = subst AreShort (sym (whole ∙ append-nil done)) short; short_last = few })
            ]
      ]
    where
      nothing : (a b : List Terminal) → a ++ b ≡ [] → b ≡ []
      nothing [] b e = e
      nothing (x ∷ a) b e = absurd cc
  ends_along (line ∷ lines) done part whole short at e =
      let s = line_spelled line in
      let begins : part ++ rest ≡ s ++ (lines_spelled lines ++ item_spelled last) = e ∙ append_assoc s (lines_spelled lines) (item_spelled last) in
      elim (cases_lt (length part) (length s)) [
        | inl less ↦
            let more = longer_front s (lines_spelled lines ++ item_spelled last) part rest (sym begins) (omega arith) in
            inr (ends_inside done (OneLine line) front part more.0 short at more.1 less)
        | inr le ↦
            let more = longer_front part rest s (lines_spelled lines ++ item_spelled last) begins le in
            elim (cases_lt most_tokens (length s)) [
              | inl long ↦ inr (inr (deep_in done (OneLine line) front part short at (omega arith) (sym (ap (take most_tokens) more.1 ∙ front_within most_tokens s more.0 (omega arith))) long))
              | inr few ↦ ends_along lines (done ++ line ∷ []) more.0 (whole ∙ sym (append_assoc done (line ∷ []) lines)) (short_more done line short few)
                  (at ∙ ap (λ (l : List Terminal). lines_spelled done ++ l) more.1 ∙ sym (append_assoc (lines_spelled done) s more.0) ∙ ap (λ (l : List Terminal). l ++ more.0) (sym (lines_more done line))) more.2
            ]
      ]

ends_of : (file : File) (front rest : List Terminal) → front ++ rest ≡ file_spelled file → Ends file.lines (System file.system file.ending) front rest
ends_of file front rest e = ends_along file.lines (System file.system file.ending) front rest file.lines [] front refl tt refl e

-- the same in terminals of which it is the front
in_front : (kinds : List Terminal) (n i begun : ℕ) → i ≤ n → IsInItem (take n kinds) i begun → IsInItem kinds i begun
in_front kinds n i begun le h = record { lines = h.lines; short = h.short; item = h.item; before = sym (taken n i kinds le) ∙ h.before; index = h.index; more = h.more }

-- ---- the first fault

module _ (input : List ℕ) (tokens : List Token) where
  abbrev kinds : List Terminal
  kinds = terminals input tokens

  -- no fault stands at the index
  NoFault : Type 0
  NoFault = (fault : FileFault) → ¬ IsFileFault input tokens fault

  no_token : Token
  no_token = record { kind = Small; place = record { line = 0; column = 0 }; from = 0; to = 0 }

  token_within : (i : ℕ) → i < length (terminals input tokens) → (token : Token) × (slice_get tokens i ≡ Some token)
  token_within i low = (get_or tokens i no_token, slice_get-get_or tokens i no_token (omega (arith, length-map tokens (terminal_of input))))

  deep_not : NoFault → (i : ℕ) → IsInItem (terminals input tokens) i most_tokens → i < length (terminals input tokens) → ⊥
  unfolding NoFault
  deep_not none i deep low =
      let token = token_within i low in
      none (TooDeep token.0.place) (record { i = i; is_fault = (deep, low); token = token.0; is_token = token.1; place = refl })

  refused_not : NoFault → (i : ℕ) → IsRefusedAtToken (terminals input tokens) i → i < length (terminals input tokens) → ⊥
  unfolding NoFault
  refused_not none i refused low =
      let token = token_within i low in
      split (StandsAt kinds i (Mark OpeningBracket)) (λ array. elim array [
        | inl h ↦ none (Array token.0.place) (record { i = i; is_fault = (refused, h); token = token.0; is_token = token.1; place = refl })
        | inr no_array ↦ split (IsWildcard kinds i) (λ wild. elim wild [
          | inl h ↦ none (Wildcard token.0.place) (record { i = i; is_fault = (refused, h); token = token.0; is_token = token.1; place = refl })
          | inr no_wild ↦ none (Expected token.0.place) (record { i = i; is_fault = (refused, no_array, no_wild); token = token.0; is_token = token.1; place = refl })
        ])
      ])

  -- ---- terminals that can all follow

  -- a file that begins with all tokens has no more
  whole_not : NoFault → ((tree : FileTree) → ¬ IsFileTree (terminals input tokens) tree) → IsEnded (terminals input tokens) → CanGoOn IsFile (terminals input tokens) → ⊥
  unfolding NoFault
  whole_not none no_tree ended (more, (file, e)) =
      elim (ends_of file kinds more e) [
        | inl whole ↦
            let tree = some_tree (file_tree file) in
            no_tree tree.0 (record {
              file = file;
              spelled = sym (append-nil kinds) ∙ ap (λ (l : List Terminal). kinds ++ l) (sym whole.nothing_left) ∙ e;
              short = whole.short;
              short_system = whole.short_last;
              tree_is = tree.1;
            })
        | inr ends ↦ elim ends [
          | inl inside ↦
              let h = inside.in_item in
              end_in_part h.lines h.item inside.begun ended.0 h.more (sym h.before ∙ take-length kinds ∙ ended.1)
          | inr deep ↦
              let h = deep.deep in
              deep_not none deep.i h (omega (arith, deep.within, h.index, h.more, λ (past : length kinds ≤ deep.i). end_in_part h.lines h.item most_tokens ended.0 h.more (sym h.before ∙ take_all deep.i kinds past ∙ ended.1)))
        ]
      ]

  -- ---- the first terminal that can't follow

  first_not : NoFault → IsEnded (terminals input tokens) → (i : ℕ) → CantFollow IsFile (terminals input tokens) i → ⊥
  unfolding NoFault
  first_not none ended i cant =
      let (more, (file, e)) = cant.before in
      let size : length (take i kinds) ≡ i = length-take-le i kinds (omega (arith, cant.within)) in
      elim (ends_of file (take i kinds) more e) [
        | inl whole ↦
            let end = file_end file in
            let all : take i kinds ≡ file_spelled file = sym (append-nil (take i kinds)) ∙ ap (λ (l : List Terminal). take i kinds ++ l) (sym whole.nothing_left) ∙ e in
            let parts : ended.0 ++ End ∷ [] ≡ end.0 ++ End ∷ drop i kinds =
            sym ended.1 ∙ sym (take-append-drop i kinds) ∙ ap (λ (l : List Terminal). l ++ drop i kinds) (all ∙ end.1) ∙ append_assoc end.0 (End ∷ []) (drop i kinds) in
            let nothing = ap length (only_end ended.0 end.0 (drop i kinds) ended.2 parts) in
            omega (arith, nothing, length-drop i kinds, cant.within)
        | inr ends ↦ elim ends [
          | inl inside ↦
              let h : IsInItem kinds i inside.begun = subst (λ (n : ℕ). IsInItem kinds n inside.begun) size (in_front kinds i (length (take i kinds)) inside.begun (omega (arith, size)) inside.in_item) in
              refused_not none i (record { first = cant; begun = inside.begun; in_item = h; few = inside.few }) cant.within
          | inr deep ↦ deep_not none deep.i (in_front kinds i deep.i most_tokens (omega (arith, deep.within, size)) deep.deep) (omega (arith, deep.within, size, cant.within))
        ]
      ]

-- tokens can't have neither a tree nor a fault
pub some_file : (input : List ℕ) (tokens : List Token) → IsTokens input tokens → HasTreeOrFault input tokens
unfolding NoFault
some_file input tokens are no_tree none =
    let kinds = terminals input tokens in
    let ended = tokens_ended input tokens are in
    some_least (λ n. (n ≤ length kinds) × (¬ CanGoOn IsFile (take n kinds))) (λ found. elim found [
      | inl all ↦ all (length kinds) (omega arith, λ go. whole_not input tokens none no_tree ended (subst (CanGoOn IsFile) (take-length kinds) go))
      | inr first ↦ by (terminals input tokens) (λ i cant. first_not input tokens none ended i cant) first.0 first.1
    ])
  where
    by : (kinds : List Terminal) → ((i : ℕ) → CantFollow IsFile kinds i → ⊥) → (n : ℕ) → IsLeast (λ n. (n ≤ length kinds) × (¬ CanGoOn IsFile (take n kinds))) n → ⊥
    by kinds refuse zero least = least.stands.1 (item_goes_on [] (OneLine (RateNamed Probing Passive)) [] (line_spelled (RateNamed Probing Passive)) refl)
    by kinds refuse (suc i) least =
        split (CanGoOn IsFile (take i kinds)) (λ go. elim go [
          | inl before ↦ refuse i (record { within = least.stands.0; before = before; behind = λ more. least.stands.1 (let e : i + 1 ≡ suc i = omega arith in rw e at more) })
          | inr cant ↦ let le = least.least i (let low = least.stands.0 in omega arith, cant) in omega arith
        ])
