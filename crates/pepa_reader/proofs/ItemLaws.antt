-- What the machine shows of the grammar: an unfinished item can go on, what the machine refuses can't stand there, and terminals
-- spell one item, or one file, at most.
use Rattle.std.proofs.Common.{◌≡◌, ◌<◌, List, [], ◌∷◌, ◌++◌, length, take, Some, None, option_and_then, ◌⊎◌, inl, inr, refl, ap, sym, subst, ◌∙◌, append_assoc, append-nil, length-append, arith}
use Rattle.std.proofs.lemmas.Option.{same_Some, option_and_then_some}
use Rattle.std.proofs.lemmas.List.{append_cancel_left}
use Rattle.std.proofs.lemmas.Grind.{flat_map-append}
use Rattle.std.proofs.Math.Seq.{take-append_seam}
use Rattle.token_grammar.specs.declared.terminal.Terminal.{Terminal}
use Rattle.token_grammar.specs.declared.terminal.Terminal.TheVariants.{Capital, End}
use Rattle.token_grammar.proofs.Runs.{run-append, run_along}
use Rattle.token_grammar.specs.Machines.{runs}
use Rattle.pepa_reader.specs.Grammar.{Process, OneChoice, OneHidden, OnePrefix, Constant, Line, Ending, Open, Item, OneLine, System, File, line_spelled, item_spelled, lines_spelled, file_spelled}
use Rattle.pepa_reader.specs.Machine.{ParserState, Done, step, run, start, IsUndone}
use Rattle.token_grammar.specs.Languages.{CanGoOn}
use Rattle.pepa_reader.specs.FileAnswers.{IsFile}
use Rattle.pepa_reader.proofs.MachineRuns.{item_runs}
use Rattle.pepa_reader.proofs.MachineTexts.{run_reads}
use Rattle.pepa_reader.proofs.MachineEnds.{ends, end_ends}

-- ---- fronts of one list

-- `d` stands between the end of the front `a` and the end of the longer front `b`
record Between (a b x y : List Terminal) : Type 0 where
  d : List Terminal
  longer : b ≡ a ++ d
  behind : x ≡ d ++ y

-- of two fronts of one list, one is a front of the other
one_front : (a b x y : List Terminal) → a ++ x ≡ b ++ y → Between a b x y ⊎ Between b a y x
one_front [] b x y e = inl (record { d = b; longer = refl; behind = e })
one_front (t ∷ a) [] x y e = inr (record { d = t ∷ a; longer = refl; behind = sym e })
one_front (t ∷ a) (u ∷ b) x y e = elim (one_front a b x y (cc)) [ inl h ↦ inl (record { d = h.d; longer = joined_left h.d h.longer; behind = h.behind }) | inr h ↦ inr (record { d = h.d; longer = joined_right h.d h.longer; behind = h.behind }) ]
  where
    joined_left : (d : List Terminal) → b ≡ a ++ d → u ∷ b ≡ (t ∷ a) ++ d
    joined_left d l = cc

    joined_right : (d : List Terminal) → a ≡ b ++ d → t ∷ a ≡ (u ∷ b) ++ d
    joined_right d l = cc

-- ---- items that are whole

-- behind a whole item nothing is read
done_stays : (item : Item) (text : List Terminal) (state : ParserState) → run (Done item) text ≡ Some state → (text ≡ []) × (state ≡ Done item)
unfolding step runs
done_stays item [] state h = (refl, sym (same_Some (Done item) state h))
done_stays item (terminal ∷ more) state h = cc

-- an unfinished state is no item's end
not_done : (state : ParserState) (item : Item) → IsUndone state → state ≡ Done item → ⊥
not_done state item undone e = subst IsUndone e undone

-- no item begins with another
item_alone : (a b : Item) (d : List Terminal) → item_spelled b ≡ item_spelled a ++ d → a ≡ b
item_alone a b d e = same_item (done_stays a d (Done b) (sym (run_along step start (Done a) (item_spelled a) d (item_runs a)) ∙ ap (run start) (sym e) ∙ item_runs b)).1
  where
    same_item : Done b ≡ Done a → a ≡ b
    same_item h = cc

-- where the items are one, so is what stands behind
same_front : (a b : Item) (x y : List Terminal) → a ≡ b → item_spelled a ++ x ≡ item_spelled b ++ y → (a ≡ b) × (x ≡ y)
same_front a b x y same e = (same, append_cancel_left (item_spelled b) x y (ap (λ item. item_spelled item ++ x) (sym same) ∙ e))

-- terminals begin with one item at most
pub one_item : (a b : Item) (x y : List Terminal) → item_spelled a ++ x ≡ item_spelled b ++ y → (a ≡ b) × (x ≡ y)
one_item a b x y e = elim (one_front (item_spelled a) (item_spelled b) x y e) [ inl h ↦ same_front a b x y (item_alone a b h.d h.longer) e | inr h ↦ same_front a b x y (sym (item_alone b a h.d h.longer)) e ]

-- ---- items that are begun

-- what completes an item that isn't whole
pub record Completed (text : List Terminal) : Type 0 where
  pub item : Item
  pub more : List Terminal
  pub spelled : item_spelled item ≡ text ++ more
  pub some : 0 < length more

-- each begun item is completed by some terminals
pub completed : (text : List Terminal) (state : ParserState) → run start text ≡ Some state → IsUndone state → Completed text
unfolding runs
completed text state ran undone = go (ends state undone).0 (ends state undone).1 (ends state undone).2
  where
    some_more : (more : List Terminal) (item : Item) → run state more ≡ Some (Done item) → 0 < length more
    some_more [] item h = absurd (not_done state item undone (same_Some state (Done item) h))
    some_more (terminal ∷ more) item h = omega arith

    go : (more : List Terminal) (item : Item) → run state more ≡ Some (Done item) → Completed text
    go more item h = record { item = item; more = more; spelled = run_reads (text ++ more) (Done item) (run_along step start state text more ran ∙ h); some = some_more more item h }

-- terminals that lead to an unfinished state begin an item
pub begins_item : (text : List Terminal) (state : ParserState) → run start text ≡ Some state → IsUndone state → (item : Item) × (text ≡ take (length text) (item_spelled item)) × (length text < length (item_spelled item))
begins_item text state ran undone =
    let done = completed text state ran undone in
    (done.item, sym (ap (take (length text)) done.spelled ∙ take-append_seam text done.more), omega (arith, ap length done.spelled, length-append text done.more, done.some))

-- behind a line a system can stand, and behind a system nothing
pub item_goes_on : (lines : List Line) (item : Item) (text more : List Terminal) → item_spelled item ≡ text ++ more → CanGoOn IsFile (lines_spelled lines ++ text)
item_goes_on lines (OneLine line) text more e = (
  more ++ Capital ∷ End ∷ [],
  (
    record { lines = lines ++ line ∷ []; system = OneChoice (OneHidden (OnePrefix Constant)); ending = Open },
    append_assoc (lines_spelled lines) text (more ++ Capital ∷ End ∷ [])
        ∙ ap (λ l. lines_spelled lines ++ l) (sym (append_assoc text more (Capital ∷ End ∷ [])) ∙ ap (λ l. l ++ Capital ∷ End ∷ []) (sym e ∙ sym (append-nil (line_spelled line))))
        ∙ sym (append_assoc (lines_spelled lines) (line_spelled line ++ []) (Capital ∷ End ∷ []))
        ∙ ap (λ l. l ++ Capital ∷ End ∷ []) (sym (flat_map-append line_spelled lines (line ∷ []))),
  ),
)
item_goes_on lines (System process ending) text more e = (
  more,
  (
    record { lines = lines; system = process; ending = ending },
    append_assoc (lines_spelled lines) text more ∙ ap (λ l. lines_spelled lines ++ l) (sym e),
  ),
)

-- lines and a begun item can be continued to a file
pub can_go_on : (lines : List Line) (text : List Terminal) (state : ParserState) → run start text ≡ Some state → IsUndone state → CanGoOn IsFile (lines_spelled lines ++ text)
can_go_on lines text state ran undone =
    let done = completed text state ran undone in
    item_goes_on lines done.item text done.more done.spelled

-- an item can't begin with what the machine refuses
refused : (text : List Terminal) (state : ParserState) (terminal : Terminal) (more : List Terminal) (item : Item) (rest : List Terminal) → run start text ≡ Some state → IsUndone state → step state terminal ≡ None → text ++ terminal ∷ more ≡ item_spelled item ++ rest → ⊥
unfolding runs
refused text state terminal more item rest ran undone none e = elim (one_front text (item_spelled item) (terminal ∷ more) rest e) [ inl h ↦ longer h.d h.longer h.behind | inr h ↦ not_done state item undone (done_stays item h.d state (sym (run_along step start (Done item) (item_spelled item) h.d (item_runs item)) ∙ ap (run start) (sym h.longer) ∙ ran)).1 ]
  where
    no_step : (d : List Terminal) → run state (terminal ∷ d) ≡ Some (Done item) → ⊥
    no_step d h = none_made (sym (ap (λ o. option_and_then (λ next. run next d) o) none) ∙ h)
      where
        none_made : None ≡ Some (Done item) → ⊥
        none_made h' = cc

    longer : (d : List Terminal) → item_spelled item ≡ text ++ d → terminal ∷ more ≡ d ++ rest → ⊥
    longer [] l b = not_done state item undone (same_Some state (Done item) (sym ran ∙ ap (run start) (sym (append-nil text) ∙ sym l) ∙ item_runs item))
    longer (t ∷ d) l b = no_step d (sym (run_along step start state text (terminal ∷ d) ran) ∙ ap (λ u. run start (text ++ u ∷ d)) same ∙ ap (run start) (sym l) ∙ item_runs item)
      where
        same : terminal ≡ t
        same = cc

-- a line is never a system
no_line : (line : Line) (process : Process) (ending : Ending) (x y : List Terminal) → line_spelled line ++ x ≡ item_spelled (System process ending) ++ y → ⊥
no_line line process ending x y e = differ (one_item (OneLine line) (System process ending) x y e).0
  where
    differ : OneLine line ≡ System process ending → ⊥
    differ h = cc

-- lines, a begun item and a terminal that the machine refuses aren't the front of a file
no_file : (lines others : List Line) (process : Process) (ending : Ending) (text : List Terminal) (state : ParserState) (terminal : Terminal) (more : List Terminal) → run start text ≡ Some state → IsUndone state → step state terminal ≡ None → lines_spelled lines ++ (text ++ terminal ∷ more) ≡ lines_spelled others ++ item_spelled (System process ending) → ⊥
no_file [] [] process ending text state terminal more ran undone none e = refused text state terminal more (System process ending) [] ran undone none (e ∙ sym (append-nil (item_spelled (System process ending))))
no_file [] (other ∷ others) process ending text state terminal more ran undone none e = refused text state terminal more (OneLine other) (lines_spelled others ++ item_spelled (System process ending)) ran undone none (e ∙ append_assoc (line_spelled other) (lines_spelled others) (item_spelled (System process ending)))
no_file (line ∷ lines) [] process ending text state terminal more ran undone none e = no_line line process ending (lines_spelled lines ++ (text ++ terminal ∷ more)) [] (sym (append_assoc (line_spelled line) (lines_spelled lines) (text ++ terminal ∷ more)) ∙ e ∙ sym (append-nil (item_spelled (System process ending))))
no_file (line ∷ lines) (other ∷ others) process ending text state terminal more ran undone none e = no_file lines others process ending text state terminal more ran undone none (one_item (OneLine line) (OneLine other) (lines_spelled lines ++ (text ++ terminal ∷ more)) (lines_spelled others ++ item_spelled (System process ending)) (sym (append_assoc (line_spelled line) (lines_spelled lines) (text ++ terminal ∷ more)) ∙ e ∙ append_assoc (line_spelled other) (lines_spelled others) (item_spelled (System process ending)))).1

-- no file begins with lines, a begun item, and what the machine refuses
pub cant_go_on : (lines : List Line) (text : List Terminal) (state : ParserState) (terminal : Terminal) → run start text ≡ Some state → IsUndone state → step state terminal ≡ None → ¬ CanGoOn IsFile (lines_spelled lines ++ (text ++ terminal ∷ []))
cant_go_on lines text state terminal ran undone none go =
    let more = go.0 in
    let file = go.1.0 in
    no_file lines file.lines file.system file.ending text state terminal more ran undone none
    (ap (λ l. lines_spelled lines ++ l) (sym (append_assoc text (terminal ∷ []) more)) ∙ sym (append_assoc (lines_spelled lines) (text ++ terminal ∷ []) more) ∙ go.1.1)

-- the end of the text ends an item
pub no_end_inside : (text : List Terminal) (state : ParserState) → run start (text ++ End ∷ []) ≡ Some state → ¬ IsUndone state
unfolding runs
no_end_inside text state ran undone =
    option_and_then_some (λ next. run next (End ∷ [])) (run start text) state (sym (run-append step start text (End ∷ [])) ∙ ran) (λ mid came last.
    option_and_then_some (λ next. Some next) (step mid End) state last (λ next made same.
    let ended = end_ends mid next made in
    not_done state ended.0 undone (sym (same_Some next state same) ∙ ended.1)))

-- ---- files

-- two files part by part
record SameFile (lines others : List Line) (p q : Process) (e f : Ending) : Type 0 where
  same_lines : lines ≡ others
  same_system : p ≡ q
  same_ending : e ≡ f

-- lines are compared one by one, and then the systems
same_lines_and_system : (lines others : List Line) (p q : Process) (e f : Ending) → lines_spelled lines ++ item_spelled (System p e) ≡ lines_spelled others ++ item_spelled (System q f) → SameFile lines others p q e f
same_lines_and_system [] [] p q e f h = systems (one_item (System p e) (System q f) [] [] (append-nil (item_spelled (System p e)) ∙ h ∙ sym (append-nil (item_spelled (System q f))))).0
  where
    systems : System p e ≡ System q f → SameFile [] [] p q e f
    systems s = record { same_lines = refl; same_system = cc; same_ending = cc }
same_lines_and_system [] (other ∷ others) p q e f h = absurd (no_line other p e (lines_spelled others ++ item_spelled (System q f)) [] (sym (append_assoc (line_spelled other) (lines_spelled others) (item_spelled (System q f))) ∙ sym h ∙ sym (append-nil (item_spelled (System p e)))))
same_lines_and_system (line ∷ lines) [] p q e f h = absurd (no_line line q f (lines_spelled lines ++ item_spelled (System p e)) [] (sym (append_assoc (line_spelled line) (lines_spelled lines) (item_spelled (System p e))) ∙ h ∙ sym (append-nil (item_spelled (System q f)))))
same_lines_and_system (line ∷ lines) (other ∷ others) p q e f h =
    let first : (OneLine line ≡ OneLine other) × (lines_spelled lines ++ item_spelled (System p e) ≡ lines_spelled others ++ item_spelled (System q f)) = one_item (OneLine line) (OneLine other) (lines_spelled lines ++ item_spelled (System p e)) (lines_spelled others ++ item_spelled (System q f)) (sym (append_assoc (line_spelled line) (lines_spelled lines) (item_spelled (System p e))) ∙ h ∙ append_assoc (line_spelled other) (lines_spelled others) (item_spelled (System q f))) in
    let rest : SameFile lines others p q e f = same_lines_and_system lines others p q e f first.1 in
    record { same_lines = longer first.0 rest.same_lines; same_system = rest.same_system; same_ending = rest.same_ending }
  where
    longer : OneLine line ≡ OneLine other → lines ≡ others → line ∷ lines ≡ other ∷ others
    longer a b = cc

file_of : List Line → Process → Ending → File
file_of lines process ending = record { lines = lines; system = process; ending = ending }

-- terminals spell one file at most
pub one_file : (f g : File) → file_spelled f ≡ file_spelled g → f ≡ g
unfolding file_of
one_file f g h =
    let same = same_lines_and_system f.lines g.lines f.system g.system f.ending g.ending h in
    ap (λ lines. file_of lines f.system f.ending) same.same_lines ∙ ap (λ system. file_of g.lines system f.ending) same.same_system ∙ ap (λ ending. file_of g.lines g.system ending) same.same_ending
