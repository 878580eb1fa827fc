-- What the readers of sets and of cooperations answer.
use Rattle.std.proofs.Common.{◌≡◌, ◌≢◌, ℕ, ◌+◌, List, [], ◌∷◌, ◌++◌, length, drop, refl, sym, ap, ◌∙◌, append_assoc, append-nil, Some, None, Err, arith}
use Rattle.pepa_lexer.specs.declared.kinds.Sign.TheVariants.{Comma, Less, Greater, ClosingBrace}
use Rattle.token_grammar.specs.declared.terminal.Terminal.{Terminal}
use Rattle.token_grammar.specs.declared.terminal.Terminal.TheVariants.{Small, Probe, Tau, Mark}
use Rattle.fault_ends.specs.declared.end.End.TheVariants.{Fault, Memory}
use Rattle.token_grammar.proofs.Runs.{halts_here, halts_after, run_step}
use Rattle.token_grammar.specs.Machines.{runs}
use Rattle.token_grammar.specs.SmallNames.{Plain, Probing}
use Rattle.pepa_reader.specs.declared.words.WordsRead.{WordsRead}
use Rattle.pepa_reader.specs.Grammar.{Word, Named, Internal, word_spelled, words_spelled, Sharing, Process}
use Rattle.pepa_reader.specs.Trees.{word_indices}
use Rattle.pepa_reader.specs.Machine.{Outer, SetPlace, OfCooperation, OfHiding, ParserState, AtSet, AfterWord, WantWord, IsUndone, step, run, closes_set, behind_process}
use Rattle.token_grammar.specs.Cursors.{Begins, IsSpelledFrom, IsAt, Expects, PartEnd}
use Rattle.pepa_reader.specs.Reading.{NoWord, CannotGoOn, closing_of, AreWords, ReadsSet, IsCooperation, ReadsCooperation}
use Rattle.token_grammar.proofs.Spelled.{spelled_append, spelled_as}
use Rattle.pepa_reader.proofs.MachineRuns.{less_behind_process}

-- ---- words with a comma behind each

abbrev pub listed : List Word → List Terminal
listed [] = []
listed (word ∷ words) = word_spelled word ∷ Mark Comma ∷ listed words

-- the last word has no comma behind it
last_listed : (words : List Word) (word : Word) → listed words ++ word_spelled word ∷ [] ≡ words_spelled (words ++ word ∷ [])
last_listed [] word = refl
last_listed (first ∷ []) word = refl
last_listed (first ∷ second ∷ more) word = ap (λ l. word_spelled first ∷ Mark Comma ∷ l) (last_listed (second ∷ more) word)

-- one more word, with its comma
listed_more : (words : List Word) (word : Word) → listed words ++ word_spelled word ∷ Mark Comma ∷ [] ≡ listed (words ++ word ∷ [])
listed_more [] word = refl
listed_more (first ∷ more) word = ap (λ l. word_spelled first ∷ Mark Comma ∷ l) (listed_more more word)

-- the last word stands behind the others and their commas
last_index : (at : ℕ) (words : List Word) (word : Word) → word_indices at (words ++ word ∷ []) ≡ word_indices at words ++ (at + length (listed words)) ∷ []
last_index at [] word = ap (λ n. n ∷ []) (omega arith)
last_index at (first ∷ more) word =
    let e : at + 2 + length (listed more) ≡ at + length (listed (first ∷ more)) = omega arith in
    ap (λ l. at ∷ l) (last_index (at + 2) more word ∙ ap (λ n. word_indices (at + 2) more ++ n ∷ []) e)

-- ---- what the machine does with them

-- where the next word is wanted
abbrev pub wants : SetPlace → List Word → ParserState
wants place [] = AtSet place
wants place (word ∷ words) = WantWord place (word ∷ words)

-- a word is added at the end of those that were read
takes : (place : SetPlace) (words : List Word) (word : Word) → step (wants place words) (word_spelled word) ≡ Some (AfterWord place (words ++ word ∷ []))
unfolding step
takes place [] (Named Plain) = refl
takes place [] (Named Probing) = refl
takes place [] Internal = refl
takes place (first ∷ words) (Named Plain) = refl
takes place (first ∷ words) (Named Probing) = refl
takes place (first ∷ words) Internal = refl

comma_behind : (place : SetPlace) (words : List Word) (word : Word) → step (AfterWord place (words ++ word ∷ [])) (Mark Comma) ≡ Some (wants place (words ++ word ∷ []))
unfolding step
comma_behind place [] word = refl
comma_behind place (first ∷ words) word = refl

-- all words that are left, each with its comma
listed_onward : (place : SetPlace) (read more : List Word) → run (wants place read) (listed more) ≡ Some (wants place (read ++ more))
unfolding runs
listed_onward place read [] = ap (λ l. Some (wants place l)) (sym (append-nil read))
listed_onward place read (word ∷ more) =
    run_step step (wants place read) (AfterWord place (read ++ word ∷ [])) (word_spelled word) (Mark Comma ∷ listed more) (takes place read word)
    ∙ run_step step (AfterWord place (read ++ word ∷ [])) (wants place (read ++ word ∷ [])) (Mark Comma) (listed more) (comma_behind place read word)
    ∙ listed_onward place (read ++ word ∷ []) more
    ∙ ap (λ l. Some (wants place l)) (append_assoc read (word ∷ []) more)

one_more_runs : (place : SetPlace) (words : List Word) (word : Word) → run (wants place words) (word_spelled word ∷ []) ≡ Some (AfterWord place (words ++ word ∷ []))
unfolding runs
one_more_runs place words word = run_step step (wants place words) (AfterWord place (words ++ word ∷ [])) (word_spelled word) [] (takes place words word)

undone_wants : (place : SetPlace) (words : List Word) → IsUndone (wants place words)
undone_wants place [] = tt
undone_wants place (word ∷ words) = tt

-- ---- what can't follow

-- a set without words isn't closed there
abbrev pub StaysUnclosed : List Word → Terminal → List Terminal → Type 0
StaysUnclosed [] close rest = ¬ Begins rest close
StaysUnclosed (word ∷ words) close rest = Unit {0}

-- only `>` and `}` close a set
set_stays : (place : SetPlace) (words : List Word) (terminal : Terminal) → terminal ≢ closing_of place → closes_set place words terminal ≡ None
set_stays (OfCooperation process outer) words (Mark Greater) other = absurd (other refl)
set_stays (OfCooperation process outer) words _ other = refl
set_stays (OfHiding hidden chosen joining outer) words (Mark ClosingBrace) other = absurd (other refl)
set_stays (OfHiding hidden chosen joining outer) words _ other = refl

pub refuses_at_set : (place : SetPlace) (rest : List Terminal) → NoWord rest → ¬ Begins rest (closing_of place) → CannotGoOn (AtSet place) rest
unfolding step
refuses_at_set place [] word close = tt
refuses_at_set place (Small ∷ more) word close = absurd (word.0 refl)
refuses_at_set place (Probe ∷ more) word close = absurd (word.1 refl)
refuses_at_set place (Tau ∷ more) word close = absurd (word.2 refl)
refuses_at_set place (terminal ∷ more) word close = set_stays place [] terminal close

pub refuses_word : (place : SetPlace) (words : List Word) (rest : List Terminal) → NoWord rest → CannotGoOn (WantWord place words) rest
unfolding step
refuses_word place words [] word = tt
refuses_word place words (Small ∷ more) word = absurd (word.0 refl)
refuses_word place words (Probe ∷ more) word = absurd (word.1 refl)
refuses_word place words (Tau ∷ more) word = absurd (word.2 refl)
refuses_word place words (_ ∷ more) word = refl

pub refuses_after_word : (place : SetPlace) (words : List Word) (rest : List Terminal) → ¬ Begins rest (Mark Comma) → ¬ Begins rest (closing_of place) → CannotGoOn (AfterWord place words) rest
unfolding step
refuses_after_word place words [] comma close = tt
refuses_after_word place words (Mark Comma ∷ more) comma close = absurd (comma refl)
refuses_after_word place words (terminal ∷ more) comma close = set_stays place words terminal close

refuses_wants : (place : SetPlace) (words : List Word) (close : Terminal) (rest : List Terminal) → closing_of place ≡ close → NoWord rest → StaysUnclosed words close rest → CannotGoOn (wants place words) rest
refuses_wants place [] close rest same word stays = refuses_at_set place rest word (rw same stays)
refuses_wants place (first ∷ words) close rest same word stays = refuses_word place (first ∷ words) rest word

-- ---- sets

-- the words read so far, each with a comma behind it
pub record AreListed (kinds : List Terminal) (at : ℕ) (close : Terminal) (set : List ℕ) (next : ℕ) : Type 0 where
  pub words : List Word
  pub spelled : IsSpelledFrom kinds at next (listed words)
  pub indices : set ≡ word_indices at words
  pub stays : StaysUnclosed words close (drop next kinds)

stays_behind : (words : List Word) (word : Word) (close : Terminal) (rest : List Terminal) → StaysUnclosed (words ++ word ∷ []) close rest
stays_behind [] word close rest = tt
stays_behind (first ∷ words) word close rest = tt

-- the indices with that of one more word
indices_more : (at next : ℕ) (set : List ℕ) (words : List Word) (word : Word) → next ≡ at + length (listed words) → set ≡ word_indices at words → set ++ next ∷ [] ≡ word_indices at (words ++ word ∷ [])
indices_more at next set words word n e = ap (λ l. l ++ next ∷ []) e ∙ ap (λ m. word_indices at words ++ m ∷ []) n ∙ sym (last_index at words word)

pub one_more_listed : (kinds : List Terminal) (at mid behind next : ℕ) (close : Terminal) (set : List ℕ) (word : Word) → AreListed kinds at close set mid → IsAt kinds mid behind (word_spelled word) → IsAt kinds behind next (Mark Comma) → AreListed kinds at close (set ++ mid ∷ []) next
one_more_listed kinds at mid behind next close set word so_far is_word comma =
    record {
      words = so_far.words ++ word ∷ [];
      spelled = spelled_as (listed_more so_far.words word) (spelled_append so_far.spelled (spelled_append is_word.spelled comma.spelled));
      indices = indices_more at mid set so_far.words word so_far.spelled.index so_far.indices;
      stays = stays_behind so_far.words word close (drop next kinds);
    }

pub are_words : (kinds : List Terminal) (at mid behind next : ℕ) (close : Terminal) (read : WordsRead) (set : List ℕ) (word : Word) → AreListed kinds at close set mid → IsAt kinds mid behind (word_spelled word) → IsAt kinds behind next close → read.set ≡ set ++ mid ∷ [] → read.next ≡ next → AreWords kinds at close read
are_words kinds at mid behind next close read set word so_far is_word closing is_set is_next =
    record {
      words = so_far.words ++ word ∷ [];
      spelled = rw is_next (spelled_append (spelled_as (last_listed so_far.words word) (spelled_append so_far.spelled is_word.spelled)) closing.spelled);
      set = is_set ∙ indices_more at mid set so_far.words word so_far.spelled.index so_far.indices;
    }

-- the set stops where no word stands
pub no_word : (kinds : List Terminal) (at next : ℕ) (close : Terminal) (set : List ℕ) → AreListed kinds at close set next → NoWord (drop next kinds) → ReadsSet kinds at close (Err (Fault next))
no_word kinds at next close set so_far none = λ place same.
    halts_after (AtSet place) (wants place so_far.words) so_far.spelled (listed_onward place [] so_far.words)
    (halts_here (undone_wants place so_far.words) (refuses_wants place so_far.words close (drop next kinds) same none so_far.stays))

-- the set stops where neither a comma nor the closing sign stands behind a word
pub no_comma : (kinds : List Terminal) (at mid behind : ℕ) (close : Terminal) (set : List ℕ) (word : Word) (fault : PartEnd) → AreListed kinds at close set mid → IsAt kinds mid behind (word_spelled word) → ¬ Begins (drop behind kinds) close → Expects kinds behind (Mark Comma) (Err fault) → ReadsSet kinds at close (Err fault)
no_comma kinds at mid behind close set word (Fault i) so_far is_word stays e =
    rw e.0 (λ place same.
    halts_after (AtSet place) (wants place so_far.words) so_far.spelled (listed_onward place [] so_far.words)
    (halts_after (wants place so_far.words) (AfterWord place (so_far.words ++ word ∷ [])) is_word.spelled (one_more_runs place so_far.words word)
    (halts_here tt (refuses_after_word place (so_far.words ++ word ∷ []) (drop behind kinds) e.1 (rw same stays)))))
no_comma kinds at mid behind close set word Memory so_far is_word stays e = tt

-- ---- cooperations

less_runs : (process : Process) (outer : Outer) → run (behind_process process outer) (Mark Less ∷ []) ≡ Some (AtSet (OfCooperation process outer))
unfolding runs
less_runs process outer = run_step step (behind_process process outer) (AtSet (OfCooperation process outer)) (Mark Less) [] (less_behind_process process outer)

-- what stops in the set of a cooperation stops behind the process
pub sharing_fails : (kinds : List Terminal) (at inside : ℕ) (fault : PartEnd) → IsAt kinds at inside (Mark Less) → ReadsSet kinds inside (Mark Greater) (Err fault) → ReadsCooperation kinds at (Err fault)
sharing_fails kinds at inside (Fault i) less words = λ process outer.
    halts_after (behind_process process outer) (AtSet (OfCooperation process outer)) less.spelled (less_runs process outer) (words (OfCooperation process outer) refl)
sharing_fails kinds at inside Memory less words = tt

pub is_sharing : (kinds : List Terminal) (at inside : ℕ) (read : WordsRead) → IsAt kinds at inside (Mark Less) → AreWords kinds inside (Mark Greater) read → IsCooperation kinds at read
is_sharing kinds at inside read less words =
    record {
      coop = Sharing words.words;
      spelled = spelled_append less.spelled words.spelled;
      set = words.set ∙ ap (λ n. word_indices n words.words) less.spelled.index;
    }
