-- Each file has a tree of the program: the boxes in it may lie anywhere.
use Rattle.std.proofs.Common.{◌≡◌, List, [], ◌∷◌, map, refl, sym, ap, ◌∙◌, Box, Global}
use denote.RawPtr.{null_ptr}
use Rattle.pepa_reader.specs.declared.trees.RateTree.{RateTree, Number, Name, Top, Op', Bracket'}
use Rattle.pepa_reader.specs.declared.trees.ProcessTree.{ProcessTree, Constant, Prefix', Choice', Coop', Hide'}
use Rattle.pepa_reader.specs.declared.trees.RateLine.{RateLine}
use Rattle.pepa_reader.specs.declared.trees.ProcessLine.{ProcessLine}
use Rattle.pepa_reader.specs.declared.trees.ProbeLine.{ProbeLine}
use Rattle.pepa_reader.specs.declared.trees.FileTree.{FileTree}
use Rattle.probe_reader.specs.declared.trees.GuardTree.{GuardTree, Count, Both', Either', Not'}
use Rattle.probe_reader.specs.declared.trees.ProbeTree.{ProbeTree, One, Then', Or', Label', Star', Plus', Maybe', Times', Between', Reset', Guarded'}
use Rattle.probe_reader.specs.ProbeTrees.{GuardNode, CountAt, BothOf, EitherOf, NotOf, ProbeNode, OneAt, ThenOf, OrOf, LabelOf, StarOf, PlusOf, MaybeOf, TimesOf, BetweenOf, ResetOf, GuardedOf, guard_node_of, probe_node_of}
use Rattle.pepa_reader.specs.Trees.{RateNode, NumberAt, NameAt, TopAt, OpAt, BracketOf, ProcessNode, ConstantAt, PrefixAt, ChoiceOf, CoopAt, HideOf, RateLineNode, ProcessLineNode, ProbeLineNode, FileNode, rate_node_of, process_node_of, rate_line_of, process_line_of, probe_line_of, file_node_of}

-- a box, whose place doesn't matter
pub no_box : Box (Unit {0}) Global
no_box = record { ptr = null_ptr; alloc = record { memory = record { seal = tt } }; value = tt }

rate_of : RateNode → RateTree
rate_of (NumberAt at) = Number at
rate_of (NameAt at) = Name at
rate_of (TopAt weight at) = Top weight at
rate_of (OpAt at left right) = Op' at no_box (rate_of left) no_box (rate_of right)
rate_of (BracketOf inner) = Bracket' no_box (rate_of inner)

rate_back : (node : RateNode) → rate_node_of (rate_of node) ≡ node
unfolding rate_of
rate_back (NumberAt at) = refl
rate_back (NameAt at) = refl
rate_back (TopAt weight at) = refl
rate_back (OpAt at left right) = ap (λ (x : RateNode). OpAt at x (rate_node_of (rate_of right))) (rate_back left) ∙ ap (OpAt at left) (rate_back right)
rate_back (BracketOf inner) = ap BracketOf (rate_back inner)

process_of : ProcessNode → ProcessTree
process_of (ConstantAt at) = Constant at
process_of (PrefixAt at rate next) = Prefix' at (rate_of rate) no_box (process_of next)
process_of (ChoiceOf left right) = Choice' no_box (process_of left) no_box (process_of right)
process_of (CoopAt at left right set) = Coop' at no_box (process_of left) no_box (process_of right) set
process_of (HideOf inner set) = Hide' no_box (process_of inner) set

process_back : (node : ProcessNode) → process_node_of (process_of node) ≡ node
unfolding process_of
process_back (ConstantAt at) = refl
process_back (PrefixAt at rate next) = ap (λ (r : RateNode). PrefixAt at r (process_node_of (process_of next))) (rate_back rate) ∙ ap (PrefixAt at rate) (process_back next)
process_back (ChoiceOf left right) = ap (λ (x : ProcessNode). ChoiceOf x (process_node_of (process_of right))) (process_back left) ∙ ap (ChoiceOf left) (process_back right)
process_back (CoopAt at left right set) = ap (λ (x : ProcessNode). CoopAt at x (process_node_of (process_of right)) set) (process_back left) ∙ ap (λ (x : ProcessNode). CoopAt at left x set) (process_back right)
process_back (HideOf inner set) = ap (λ (x : ProcessNode). HideOf x set) (process_back inner)

guard_of : GuardNode → GuardTree
guard_of (CountAt which relation number) = Count which relation number
guard_of (BothOf left right) = Both' no_box (guard_of left) no_box (guard_of right)
guard_of (EitherOf left right) = Either' no_box (guard_of left) no_box (guard_of right)
guard_of (NotOf inner) = Not' no_box (guard_of inner)

guard_back : (node : GuardNode) → guard_node_of (guard_of node) ≡ node
unfolding guard_of
guard_back (CountAt which relation number) = refl
guard_back (BothOf left right) = ap (λ (x : GuardNode). BothOf x (guard_node_of (guard_of right))) (guard_back left) ∙ ap (BothOf left) (guard_back right)
guard_back (EitherOf left right) = ap (λ (x : GuardNode). EitherOf x (guard_node_of (guard_of right))) (guard_back left) ∙ ap (EitherOf left) (guard_back right)
guard_back (NotOf inner) = ap NotOf (guard_back inner)

probe_of : ProbeNode → ProbeTree
probe_of (OneAt at) = One at
probe_of (ThenOf left right) = Then' no_box (probe_of left) no_box (probe_of right)
probe_of (OrOf left right) = Or' no_box (probe_of left) no_box (probe_of right)
probe_of (LabelOf inner name) = Label' no_box (probe_of inner) name
probe_of (StarOf inner) = Star' no_box (probe_of inner)
probe_of (PlusOf inner) = Plus' no_box (probe_of inner)
probe_of (MaybeOf inner) = Maybe' no_box (probe_of inner)
probe_of (TimesOf inner number) = Times' no_box (probe_of inner) number
probe_of (BetweenOf inner least most) = Between' no_box (probe_of inner) least most
probe_of (ResetOf inner name) = Reset' no_box (probe_of inner) name
probe_of (GuardedOf guard inner) = Guarded' (guard_of guard) no_box (probe_of inner)

probe_back : (node : ProbeNode) → probe_node_of (probe_of node) ≡ node
unfolding probe_of
probe_back (OneAt at) = refl
probe_back (ThenOf left right) = ap (λ (x : ProbeNode). ThenOf x (probe_node_of (probe_of right))) (probe_back left) ∙ ap (ThenOf left) (probe_back right)
probe_back (OrOf left right) = ap (λ (x : ProbeNode). OrOf x (probe_node_of (probe_of right))) (probe_back left) ∙ ap (OrOf left) (probe_back right)
probe_back (LabelOf inner name) = ap (λ (x : ProbeNode). LabelOf x name) (probe_back inner)
probe_back (StarOf inner) = ap StarOf (probe_back inner)
probe_back (PlusOf inner) = ap PlusOf (probe_back inner)
probe_back (MaybeOf inner) = ap MaybeOf (probe_back inner)
probe_back (TimesOf inner number) = ap (λ (x : ProbeNode). TimesOf x number) (probe_back inner)
probe_back (BetweenOf inner least most) = ap (λ (x : ProbeNode). BetweenOf x least most) (probe_back inner)
probe_back (ResetOf inner name) = ap (λ (x : ProbeNode). ResetOf x name) (probe_back inner)
probe_back (GuardedOf guard inner) = ap (λ (g : GuardNode). GuardedOf g (probe_node_of (probe_of inner))) (guard_back guard) ∙ ap (GuardedOf guard) (probe_back inner)

module _ {A B : Type 0} (f : A → B) (g : B → A) (back : (b : B) → f (g b) ≡ b) where
  lines_back : (lines : List B) → map f (map g lines) ≡ lines
  lines_back [] = refl
  lines_back (line ∷ lines) = ap (λ (l : B). l ∷ map f (map g lines)) (back line) ∙ ap (λ (l : List B). line ∷ l) (lines_back lines)

rate_line : RateLineNode → RateLine
rate_line line = record { at = line.line_at; rate = rate_of line.rate }

rate_line_back : (line : RateLineNode) → rate_line_of (rate_line line) ≡ line
unfolding rate_line
rate_line_back line = ap (λ (r : RateNode). record { line_at = line.line_at; rate = r }) (rate_back line.rate)

process_line : ProcessLineNode → ProcessLine
process_line line = record { at = line.line_at; body = process_of line.body }

process_line_back : (line : ProcessLineNode) → process_line_of (process_line line) ≡ line
unfolding process_line
process_line_back line = ap (λ (b : ProcessNode). record { line_at = line.line_at; body = b }) (process_back line.body)

probe_line : ProbeLineNode → ProbeLine
probe_line line = record { at = line.line_at; target = line.target; expr = probe_of line.expr }

probe_line_back : (line : ProbeLineNode) → probe_line_of (probe_line line) ≡ line
unfolding probe_line
probe_line_back line = ap (λ (e : ProbeNode). record { line_at = line.line_at; target = line.target; expr = e }) (probe_back line.expr)

abbrev file_with : List RateLineNode → List ProcessLineNode → List ProbeLineNode → ProcessNode → FileNode
file_with rates processes probes system = record { rates = rates; processes = processes; probes = probes; system = system }

pub some_tree : (file : FileNode) → (tree : FileTree) × (file_node_of tree ≡ file)
some_tree file =
    let processes = map process_line_of (map process_line file.processes) in
    let probes = map probe_line_of (map probe_line file.probes) in
    let system = process_node_of (process_of file.system) in (
      record { rates = map rate_line file.rates; processes = map process_line file.processes; probes = map probe_line file.probes; system = process_of file.system },
      ap (λ (l : List RateLineNode). file_with l processes probes system) (lines_back rate_line_of rate_line rate_line_back file.rates)
          ∙ ap (λ (l : List ProcessLineNode). file_with file.rates l probes system) (lines_back process_line_of process_line process_line_back file.processes)
          ∙ ap (λ (l : List ProbeLineNode). file_with file.rates file.processes l system) (lines_back probe_line_of probe_line probe_line_back file.probes)
          ∙ ap (λ (p : ProcessNode). file_with file.rates file.processes file.probes p) (process_back file.system),
    )
