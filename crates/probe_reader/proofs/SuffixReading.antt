-- What the readers of suffixes answer.
use Rattle.std.proofs.Common.{◌≡◌, ℕ, ◌+◌, List, [], ◌∷◌, drop, refl, ap, ◌∙◌, Option, Some, Err, arith}
use Rattle.pepa_lexer.specs.declared.kinds.Sign.TheVariants.{Comma, Slash, OpeningBrace, ClosingBrace, Colon}
use Rattle.token_grammar.specs.declared.terminal.Terminal.{Terminal}
use Rattle.token_grammar.specs.declared.terminal.Terminal.TheVariants.{Small, Probe, Number, Mark}
use Rattle.fault_ends.specs.declared.end.End.TheVariants.{Fault, Memory}
use Rattle.token_grammar.specs.Cursors.{Begins, IsSpelledFrom, IsAt, Expects, PartEnd}
use Rattle.token_grammar.specs.Machines.{runs}
use Rattle.token_grammar.specs.SmallNames.{SmallName, small_spelled, NoSmall}
use Rattle.token_grammar.proofs.Runs.{halts_here, halts_after}
use Rattle.token_grammar.proofs.Spelled.{spelled_append}
use Rattle.probe_reader.specs.declared.suffixes.SuffixRead.{SuffixRead}
use Rattle.probe_reader.specs.declared.suffixes.WrittenSuffix.TheVariants.{Label, Between, Reset}
use Rattle.probe_reader.specs.ProbeGrammar.{Disjunction, Labelled, Ranged, ResetBy, Alternatives, Sequence, Postfixed}
use Rattle.probe_reader.specs.ProbeTrees.{LabelOf, BetweenOf, ResetOf}
use Rattle.probe_reader.specs.ProbeMachine.{ProbeOuter, SuffixPart, BehindColon, BehindSlash, BehindBrace, BehindLeast, BehindRangeComma, BehindMost, AfterPart, InSuffix, probe_step, probe_run}
use Rattle.probe_reader.specs.ProbeReading.{IsRefusedInProbe, ExpectsSmall, with_suffix, IsSuffixRead, ReadsRange, ReadsSuffix, range_spelled}

-- ---- what can't follow

-- no name after a colon, and none after a slash
no_label : (postfixed : Postfixed) (guards : List Disjunction) (sequence : Option Sequence) (alternatives : Option Alternatives) (outer : ProbeOuter) (rest : List Terminal) → NoSmall rest → IsRefusedInProbe (InSuffix BehindColon postfixed guards sequence alternatives outer) rest
unfolding probe_step
no_label postfixed guards sequence alternatives outer [] small = tt
no_label postfixed guards sequence alternatives outer (Small ∷ more) small = absurd (small.0 refl)
no_label postfixed guards sequence alternatives outer (Probe ∷ more) small = absurd (small.1 refl)
no_label postfixed guards sequence alternatives outer (_ ∷ more) small = refl

no_reset : (postfixed : Postfixed) (guards : List Disjunction) (sequence : Option Sequence) (alternatives : Option Alternatives) (outer : ProbeOuter) (rest : List Terminal) → NoSmall rest → IsRefusedInProbe (InSuffix BehindSlash postfixed guards sequence alternatives outer) rest
unfolding probe_step
no_reset postfixed guards sequence alternatives outer [] small = tt
no_reset postfixed guards sequence alternatives outer (Small ∷ more) small = absurd (small.0 refl)
no_reset postfixed guards sequence alternatives outer (Probe ∷ more) small = absurd (small.1 refl)
no_reset postfixed guards sequence alternatives outer (_ ∷ more) small = refl

-- the four tokens of a repeat after its brace: what was read of it, and what is wanted next
abbrev pub wanted_in_range : SuffixPart → Terminal
wanted_in_range BehindLeast = Mark Comma
wanted_in_range BehindMost = Mark ClosingBrace
wanted_in_range _ = Number

-- the parts of a repeat
abbrev pub InRange : SuffixPart → Type 0
InRange BehindColon = ⊥
InRange BehindSlash = ⊥
InRange _ = Unit {0}

refuses_in_range : (part : SuffixPart) (postfixed : Postfixed) (guards : List Disjunction) (sequence : Option Sequence) (alternatives : Option Alternatives) (outer : ProbeOuter) (rest : List Terminal) → InRange part → ¬ Begins rest (wanted_in_range part) → IsRefusedInProbe (InSuffix part postfixed guards sequence alternatives outer) rest
unfolding probe_step
refuses_in_range part postfixed guards sequence alternatives outer [] inside other = tt
refuses_in_range BehindColon postfixed guards sequence alternatives outer (_ ∷ more) inside other = absurd inside
refuses_in_range BehindSlash postfixed guards sequence alternatives outer (_ ∷ more) inside other = absurd inside
refuses_in_range BehindBrace postfixed guards sequence alternatives outer (Number ∷ more) inside other = absurd (other refl)
refuses_in_range BehindBrace postfixed guards sequence alternatives outer (_ ∷ more) inside other = refl
refuses_in_range BehindLeast postfixed guards sequence alternatives outer (Mark Comma ∷ more) inside other = absurd (other refl)
refuses_in_range BehindLeast postfixed guards sequence alternatives outer (_ ∷ more) inside other = refl
refuses_in_range BehindRangeComma postfixed guards sequence alternatives outer (Number ∷ more) inside other = absurd (other refl)
refuses_in_range BehindRangeComma postfixed guards sequence alternatives outer (_ ∷ more) inside other = refl
refuses_in_range BehindMost postfixed guards sequence alternatives outer (Mark ClosingBrace ∷ more) inside other = absurd (other refl)
refuses_in_range BehindMost postfixed guards sequence alternatives outer (_ ∷ more) inside other = refl

-- ---- repeats

-- what has been read of a repeat, after its brace
abbrev pub range_read : SuffixPart → List Terminal
range_read BehindLeast = Number ∷ []
range_read BehindRangeComma = Number ∷ Mark Comma ∷ []
range_read BehindMost = Number ∷ Mark Comma ∷ Number ∷ []
range_read _ = []

range_runs : (part : SuffixPart) (postfixed : Postfixed) (guards : List Disjunction) (sequence : Option Sequence) (alternatives : Option Alternatives) (outer : ProbeOuter) → InRange part → probe_run (InSuffix BehindBrace postfixed guards sequence alternatives outer) (range_read part) ≡ Some (InSuffix part postfixed guards sequence alternatives outer)
unfolding runs probe_step
range_runs BehindColon postfixed guards sequence alternatives outer inside = absurd inside
range_runs BehindSlash postfixed guards sequence alternatives outer inside = absurd inside
range_runs BehindBrace postfixed guards sequence alternatives outer inside = refl
range_runs BehindLeast postfixed guards sequence alternatives outer inside = refl
range_runs BehindRangeComma postfixed guards sequence alternatives outer inside = refl
range_runs BehindMost postfixed guards sequence alternatives outer inside = refl

-- what isn't there, after what was read of the repeat
pub range_fails : (kinds : List Terminal) (at here : ℕ) (part : SuffixPart) (fault : PartEnd) → InRange part → IsSpelledFrom kinds at here (range_read part) → Expects kinds here (wanted_in_range part) (Err fault) → ReadsRange kinds at (Err fault)
range_fails kinds at here part (Fault i) inside spelled e =
    rw e.0 (λ postfixed guards sequence alternatives outer.
    halts_after (InSuffix BehindBrace postfixed guards sequence alternatives outer) (InSuffix part postfixed guards sequence alternatives outer) spelled (range_runs part postfixed guards sequence alternatives outer inside)
    (halts_here tt (refuses_in_range part postfixed guards sequence alternatives outer (drop here kinds) inside e.1)))
range_fails kinds at here part Memory inside spelled e = tt

-- ---- suffixes of several tokens

colon_runs : (postfixed : Postfixed) (guards : List Disjunction) (sequence : Option Sequence) (alternatives : Option Alternatives) (outer : ProbeOuter) → probe_run (AfterPart postfixed guards sequence alternatives outer) (Mark Colon ∷ []) ≡ Some (InSuffix BehindColon postfixed guards sequence alternatives outer)
unfolding runs probe_step
colon_runs postfixed guards sequence alternatives outer = refl

slash_runs : (postfixed : Postfixed) (guards : List Disjunction) (sequence : Option Sequence) (alternatives : Option Alternatives) (outer : ProbeOuter) → probe_run (AfterPart postfixed guards sequence alternatives outer) (Mark Slash ∷ []) ≡ Some (InSuffix BehindSlash postfixed guards sequence alternatives outer)
unfolding runs probe_step
slash_runs postfixed guards sequence alternatives outer = refl

brace_runs : (postfixed : Postfixed) (guards : List Disjunction) (sequence : Option Sequence) (alternatives : Option Alternatives) (outer : ProbeOuter) → probe_run (AfterPart postfixed guards sequence alternatives outer) (Mark OpeningBrace ∷ []) ≡ Some (InSuffix BehindBrace postfixed guards sequence alternatives outer)
unfolding runs probe_step
brace_runs postfixed guards sequence alternatives outer = refl

pub label_fails : (kinds : List Terminal) (at name : ℕ) (fault : PartEnd) → IsAt kinds at name (Mark Colon) → ExpectsSmall kinds name (Err fault) → ReadsSuffix kinds at (Err fault)
label_fails kinds at name (Fault i) colon e =
    rw e.0 (λ postfixed guards sequence alternatives outer.
    halts_after (AfterPart postfixed guards sequence alternatives outer) (InSuffix BehindColon postfixed guards sequence alternatives outer) colon.spelled (colon_runs postfixed guards sequence alternatives outer)
    (halts_here tt (no_label postfixed guards sequence alternatives outer (drop name kinds) e.1)))
label_fails kinds at name Memory colon e = tt

pub reset_fails : (kinds : List Terminal) (at name : ℕ) (fault : PartEnd) → IsAt kinds at name (Mark Slash) → ExpectsSmall kinds name (Err fault) → ReadsSuffix kinds at (Err fault)
reset_fails kinds at name (Fault i) slash e =
    rw e.0 (λ postfixed guards sequence alternatives outer.
    halts_after (AfterPart postfixed guards sequence alternatives outer) (InSuffix BehindSlash postfixed guards sequence alternatives outer) slash.spelled (slash_runs postfixed guards sequence alternatives outer)
    (halts_here tt (no_reset postfixed guards sequence alternatives outer (drop name kinds) e.1)))
reset_fails kinds at name Memory slash e = tt

pub repeat_fails : (kinds : List Terminal) (at least : ℕ) (fault : PartEnd) → IsAt kinds at least (Mark OpeningBrace) → ReadsRange kinds least (Err fault) → ReadsSuffix kinds at (Err fault)
repeat_fails kinds at least (Fault i) brace range = λ postfixed guards sequence alternatives outer.
    halts_after (AfterPart postfixed guards sequence alternatives outer) (InSuffix BehindBrace postfixed guards sequence alternatives outer) brace.spelled (brace_runs postfixed guards sequence alternatives outer)
    (range postfixed guards sequence alternatives outer)
repeat_fails kinds at least Memory brace range = tt

pub is_label : (kinds : List Terminal) (at label next : ℕ) (name : SmallName) → IsAt kinds at label (Mark Colon) → IsAt kinds label next (small_spelled name) → IsSuffixRead kinds at (record { suffix = Label label; next = next })
is_label kinds at label next name colon small = record { suffix = Labelled name; spelled = spelled_append colon.spelled small.spelled; means = λ inner. ap (LabelOf inner) colon.spelled.index }

pub is_reset : (kinds : List Terminal) (at letter next : ℕ) (name : SmallName) → IsAt kinds at letter (Mark Slash) → IsAt kinds letter next (small_spelled name) → IsSuffixRead kinds at (record { suffix = Reset letter; next = next })
is_reset kinds at letter next name slash small = record { suffix = ResetBy name; spelled = spelled_append slash.spelled small.spelled; means = λ inner. ap (ResetOf inner) slash.spelled.index }

pub is_range : (kinds : List Terminal) (at least : ℕ) (read : SuffixRead) → IsAt kinds at least (Mark OpeningBrace) → IsSpelledFrom kinds least read.next range_spelled → read.suffix ≡ Between least (least + 2) → IsSuffixRead kinds at read
is_range kinds at least read brace spelled suffix =
    let first : least ≡ at + 1 = brace.spelled.index in
    let second : least + 2 ≡ at + 3 = omega (arith, brace.spelled.index) in
    record {
      suffix = Ranged;
      spelled = spelled_append brace.spelled spelled;
      means = λ inner. ap (λ s. with_suffix s inner) suffix ∙ ap (λ n. BetweenOf inner n (least + 2)) first ∙ ap (BetweenOf inner (at + 1)) second;
    }
