-- The parts of a file's tree that the checks speak of, each list in the order of the text.
use Rattle.std.specs.Prelude.{ℕ, List, [], ◌∷◌, ◌++◌, map}
use Rattle.pepa_reader.specs.Trees.{RateNode, NumberAt, NameAt, TopAt, OpAt, BracketOf, ProcessNode, ConstantAt, PrefixAt, ChoiceOf, CoopAt, HideOf, RateLineNode, ProcessLineNode, FileNode}

-- the rate names in a rate
abbrev pub names_in : RateNode → List ℕ
names_in (NumberAt at) = []
names_in (NameAt at) = at ∷ []
names_in (TopAt weight at) = []
names_in (OpAt at left right) = names_in left ++ names_in right
names_in (BracketOf inner) = names_in inner

-- the constants in a process
abbrev pub constants_in : ProcessNode → List ℕ
constants_in (ConstantAt at) = at ∷ []
constants_in (PrefixAt at rate next) = constants_in next
constants_in (ChoiceOf left right) = constants_in left ++ constants_in right
constants_in (CoopAt at left right set) = constants_in left ++ constants_in right
constants_in (HideOf inner set) = constants_in inner

-- the rate of an activity, with the index of the activity's `(`
pub record RateSite : Type 0 where
  pub site_at : ℕ
  pub rate : RateNode

-- the rates of the activities in a process
abbrev pub rates_in : ProcessNode → List RateSite
rates_in (ConstantAt at) = []
rates_in (PrefixAt at rate next) = record { site_at = at; rate = rate } ∷ rates_in next
rates_in (ChoiceOf left right) = rates_in left ++ rates_in right
rates_in (CoopAt at left right set) = rates_in left ++ rates_in right
rates_in (HideOf inner set) = rates_in inner

-- the words in the sets of a process
abbrev pub set_words_in : ProcessNode → List ℕ
set_words_in (ConstantAt at) = []
set_words_in (PrefixAt at rate next) = set_words_in next
set_words_in (ChoiceOf left right) = set_words_in left ++ set_words_in right
set_words_in (CoopAt at left right set) = set_words_in left ++ (set ++ set_words_in right)
set_words_in (HideOf inner set) = set_words_in inner ++ set

-- the names of the lines
abbrev pub rate_ats : List RateLineNode → List ℕ
rate_ats lines = map (λ line. line.line_at) lines

abbrev pub process_ats : List ProcessLineNode → List ℕ
process_ats lines = map (λ line. line.line_at) lines

-- the right sides of the process lines, and the system
abbrev pub processes_of : FileNode → List ProcessNode
processes_of file = map (λ line. line.body) file.processes ++ file.system ∷ []
