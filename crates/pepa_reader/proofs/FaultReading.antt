-- Why a file isn't read: what the machine shows of the first token that can't follow.
use Rattle.std.proofs.Common.{◌≡◌, ◌≢◌, ℕ, suc, ◌+◌, ◌<◌, ◌≤◌, List, [], ◌∷◌, ◌++◌, length, get_or, take, drop, sym, ap, subst, ◌∙◌, append_assoc, length-append, arith, Some, None, Err}
use Rattle.std.proofs.lemmas.List.{length-map}
use Rattle.std.proofs.Math.Seq.{drop-cons, take-append_seam}
use Rattle.pepa_lexer.specs.declared.kinds.Token.{Token}
use Rattle.token_grammar.specs.declared.terminal.Terminal.{Terminal}
use Rattle.token_grammar.specs.declared.terminal.Terminal.TheVariants.{End}
use Rattle.pepa_reader.specs.declared.fault.FileFault.{FileFault}
use Rattle.pepa_reader.specs.declared.fault.FileFault.TheVariants as faults
use Rattle.token_grammar.specs.Terminals.{terminals, terminal_of}
use Rattle.pepa_reader.specs.Grammar.{Line, lines_spelled}
use Rattle.pepa_reader.specs.FileAnswers.{most_tokens, AreShort, IsInItem, IsFile, IsRefusedAtToken, ReadsFile}
use Rattle.token_grammar.specs.Languages.{CanGoOn, CantFollow}
use Rattle.pepa_reader.specs.Machine.{ParserState, IsUndone, step, run, start}
use Rattle.pepa_reader.specs.Reading.{CannotGoOn}
use Rattle.pepa_reader.specs.ItemReading.{IsItemFault, ReadsItemAt}
use Rattle.pepa_reader.proofs.ItemLaws.{begins_item, can_go_on, cant_go_on}

-- ---- items that aren't read

-- for every fault
pub item_fails : (input : List ℕ) (tokens : List Token) (at : ℕ) (fault : FileFault) → IsItemFault input tokens at fault → ReadsItemAt input tokens at (Err fault)
item_fails input tokens at (faults.Expected place) h = h
item_fails input tokens at (faults.TooDeep place) h = h
item_fails input tokens at (faults.Array place) h = h
item_fails input tokens at (faults.Wildcard place) h = h
item_fails input tokens at faults.Memory h = tt

-- ---- lines, and a part of an item

-- the terminals are lines, a text that the machine reads, and what stands behind it, at i
pub record Stopped (kinds : List Terminal) (at i : ℕ) : Type 0 where
  pub lines : List Line
  pub short : AreShort lines
  pub text : List Terminal
  pub state : ParserState
  pub whole : kinds ≡ (lines_spelled lines ++ text) ++ drop i kinds
  pub from : at ≡ length (lines_spelled lines)
  pub index : i ≡ at + length text
  pub ran : run start text ≡ Some state
  pub undone : IsUndone state
  pub within : i < length kinds

-- a front, by its length
pub front_taken : (kinds front behind : List Terminal) (i : ℕ) → kinds ≡ front ++ behind → i ≡ length front → take i kinds ≡ front
front_taken kinds front behind i whole index = rw (whole, index) (take-append_seam front behind)

-- what stands before the stop
before_stop : (kinds : List Terminal) (at i : ℕ) (h : Stopped kinds at i) → take i kinds ≡ lines_spelled h.lines ++ h.text
before_stop kinds at i h = front_taken kinds (lines_spelled h.lines ++ h.text) (drop i kinds) i h.whole (omega (arith, h.from, h.index, length-append (lines_spelled h.lines) h.text))

-- and with the terminal there
behind_stop : (kinds : List Terminal) (at i : ℕ) (h : Stopped kinds at i) (terminal : Terminal) → drop i kinds ≡ terminal ∷ drop (suc i) kinds → take (i + 1) kinds ≡ lines_spelled h.lines ++ (h.text ++ terminal ∷ [])
behind_stop kinds at i h terminal e =
    let parts = lines_spelled h.lines ++ h.text in
    let whole : kinds ≡ (parts ++ terminal ∷ []) ++ drop (suc i) kinds = h.whole ∙ ap (λ l. parts ++ l) e ∙ sym (append_assoc parts (terminal ∷ []) (drop (suc i) kinds)) in
    front_taken kinds (parts ++ terminal ∷ []) (drop (suc i) kinds) (i + 1) whole (omega (arith, h.from, h.index, length-append (lines_spelled h.lines) h.text, length-append parts (terminal ∷ [])))
    ∙ append_assoc (lines_spelled h.lines) h.text (terminal ∷ [])

-- the stop is inside an item
pub in_item : (kinds : List Terminal) (at i : ℕ) (h : Stopped kinds at i) → IsInItem kinds i (length h.text)
in_item kinds at i h =
    let begun = begins_item h.text h.state h.ran h.undone in
    record {
      lines = h.lines;
      short = h.short;
      item = begun.0;
      before = before_stop kinds at i h ∙ ap (λ l. lines_spelled h.lines ++ l) begun.1;
      index = omega (arith, h.from, h.index);
      more = begun.2;
    }

-- the first terminal is refused
refused_step : (state : ParserState) (terminal : Terminal) (rest more : List Terminal) → rest ≡ terminal ∷ more → CannotGoOn state rest → step state terminal ≡ None
refused_step state terminal rest more e r = rw e at r

-- where the machine refuses the terminal, it can't follow
pub cant_follow : (kinds : List Terminal) (at i : ℕ) (h : Stopped kinds at i) → CannotGoOn h.state (drop i kinds) → CantFollow IsFile kinds i
cant_follow kinds at i h refused =
    let terminal = get_or kinds i End in
    let e : drop i kinds ≡ terminal ∷ drop (suc i) kinds = drop-cons kinds i End h.within in
    record {
      within = h.within;
      before = subst (CanGoOn IsFile) (sym (before_stop kinds at i h)) (can_go_on h.lines h.text h.state h.ran h.undone);
      behind = λ go. cant_go_on h.lines h.text h.state terminal h.ran h.undone (refused_step h.state terminal (drop i kinds) (drop (suc i) kinds) e refused) (subst (CanGoOn IsFile) (behind_stop kinds at i h terminal e) go);
    }

-- a refused terminal of the first 2,048
pub is_refused : (kinds : List Terminal) (at i : ℕ) (h : Stopped kinds at i) → i ≤ at + most_tokens → i ≢ at + most_tokens → CannotGoOn h.state (drop i kinds) → IsRefusedAtToken kinds i
is_refused kinds at i h few not_deep refused =
    record {
      first = cant_follow kinds at i h refused;
      begun = length h.text;
      in_item = in_item kinds at i h;
      few = omega (arith, h.index, λ (e : i ≡ at + most_tokens). not_deep e);
    }

-- ---- faults

-- the stop of an item behind lines
stopped : (input : List ℕ) (tokens : List Token) (at : ℕ) (lines : List Line) (fault : FileFault) → AreShort lines → terminals input tokens ≡ lines_spelled lines ++ drop at (terminals input tokens) → at ≡ length (lines_spelled lines) → (h : IsItemFault input tokens at fault) → Stopped (terminals input tokens) at h.i
stopped input tokens at lines fault short whole from h =
    record {
      lines = lines;
      short = short;
      text = h.text;
      state = h.state;
      whole = whole ∙ ap (λ l. lines_spelled lines ++ l) h.spelled.whole ∙ sym (append_assoc (lines_spelled lines) h.text (drop h.i (terminals input tokens)));
      from = from;
      index = h.spelled.index;
      ran = h.ran;
      undone = h.undone;
      within = omega (arith, h.within, length-map tokens (terminal_of input));
    }

-- a fault of an item is the file's
pub file_fails : (input : List ℕ) (tokens : List Token) (at : ℕ) (lines : List Line) (fault : FileFault) → AreShort lines → terminals input tokens ≡ lines_spelled lines ++ drop at (terminals input tokens) → at ≡ length (lines_spelled lines) → ReadsItemAt input tokens at (Err fault) → ReadsFile input tokens (Err fault)
unfolding stopped
file_fails input tokens at lines (faults.Expected place) short whole from h =
    let kinds = terminals input tokens in
    let s = stopped input tokens at lines (faults.Expected place) short whole from h in
    record { i = h.i; is_fault = (is_refused kinds at h.i s h.few h.cause.0 (h.refused h.cause.0), h.cause.1, h.cause.2); token = h.cause.3.0; is_token = h.cause.3.1; place = h.cause.3.2 }
file_fails input tokens at lines (faults.TooDeep place) short whole from h =
    let kinds = terminals input tokens in
    let s = stopped input tokens at lines (faults.TooDeep place) short whole from h in
    let deep : length s.text ≡ most_tokens = omega (arith, h.spelled.index, h.cause.0) in
    record { i = h.i; is_fault = (subst (λ n. IsInItem kinds h.i n) deep (in_item kinds at h.i s), s.within); token = h.cause.1.0; is_token = h.cause.1.1; place = h.cause.1.2 }
file_fails input tokens at lines (faults.Array place) short whole from h =
    let kinds = terminals input tokens in
    let s = stopped input tokens at lines (faults.Array place) short whole from h in
    record { i = h.i; is_fault = (is_refused kinds at h.i s h.few h.cause.0 (h.refused h.cause.0), h.cause.1); token = h.cause.2.0; is_token = h.cause.2.1; place = h.cause.2.2 }
file_fails input tokens at lines (faults.Wildcard place) short whole from h =
    let kinds = terminals input tokens in
    let s = stopped input tokens at lines (faults.Wildcard place) short whole from h in
    record { i = h.i; is_fault = (is_refused kinds at h.i s h.few h.cause.0 (h.refused h.cause.0), h.cause.1); token = h.cause.2.0; is_token = h.cause.2.1; place = h.cause.2.2 }
file_fails input tokens at lines faults.Memory short whole from h = tt
