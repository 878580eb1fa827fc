-- The trees of the grammar, without pointers, and the indices of tokens in them.
use Rattle.std.specs.Prelude.{ℕ, ◌+◌, List, [], ◌∷◌, map, length, Option, Some, None}
use Rattle.pepa_reader.specs.declared.trees.RateTree.{RateTree, Number, Name, Top, Op', Bracket'}
use Rattle.pepa_reader.specs.declared.trees.ProcessTree.{ProcessTree, Constant, Prefix', Choice', Coop', Hide'}
use Rattle.pepa_reader.specs.declared.trees.RateLine.{RateLine}
use Rattle.pepa_reader.specs.declared.trees.ProcessLine.{ProcessLine}
use Rattle.pepa_reader.specs.declared.trees.ProbeLine.{ProbeLine}
use Rattle.pepa_reader.specs.declared.trees.FileTree.{FileTree}
use Rattle.probe_reader.specs.ProbeTrees.{ProbeNode, probe_node_of, alternatives_tree}
use Rattle.pepa_reader.specs.Grammar as g
use Rattle.pepa_reader.specs.Grammar.{sum_spelled, product_spelled, factor_spelled, rate_spelled, cooperation_spelled, process_spelled, choice_spelled, hidden_spelled, prefix_spelled, target_spelled, line_spelled, lines_spelled}

-- ---- trees without pointers

pub data RateNode : Type 0 where
  NumberAt : ℕ → RateNode
  NameAt : ℕ → RateNode
  -- the index of the weight, if there is one, and of the `infty` or `T`
  TopAt : Option ℕ → ℕ → RateNode
  OpAt : ℕ → RateNode → RateNode → RateNode
  BracketOf : RateNode → RateNode

pub data ProcessNode : Type 0 where
  ConstantAt : ℕ → ProcessNode
  PrefixAt : ℕ → RateNode → ProcessNode → ProcessNode
  ChoiceOf : ProcessNode → ProcessNode → ProcessNode
  CoopAt : ℕ → ProcessNode → ProcessNode → List ℕ → ProcessNode
  HideOf : ProcessNode → List ℕ → ProcessNode

pub record RateLineNode : Type 0 where
  pub line_at : ℕ
  pub rate : RateNode

pub record ProcessLineNode : Type 0 where
  pub line_at : ℕ
  pub body : ProcessNode

-- the index of the target, if there is one
pub record ProbeLineNode : Type 0 where
  pub line_at : ℕ
  pub target : Option ℕ
  pub expr : ProbeNode

pub record FileNode : Type 0 where
  pub rates : List RateLineNode
  pub processes : List ProcessLineNode
  pub probes : List ProbeLineNode
  pub system : ProcessNode

-- ---- what the program's trees are

abbrev pub rate_node_of : RateTree → RateNode
rate_node_of (Number at) = NumberAt at
rate_node_of (Name at) = NameAt at
rate_node_of (Top weight at) = TopAt weight at
rate_node_of (Op' at p left q right) = OpAt at (rate_node_of left) (rate_node_of right)
rate_node_of (Bracket' p inner) = BracketOf (rate_node_of inner)

abbrev pub process_node_of : ProcessTree → ProcessNode
process_node_of (Constant at) = ConstantAt at
process_node_of (Prefix' at rate p next) = PrefixAt at (rate_node_of rate) (process_node_of next)
process_node_of (Choice' p left q right) = ChoiceOf (process_node_of left) (process_node_of right)
process_node_of (Coop' at p left q right set) = CoopAt at (process_node_of left) (process_node_of right) set
process_node_of (Hide' p inner set) = HideOf (process_node_of inner) set

abbrev pub rate_line_of : RateLine → RateLineNode
rate_line_of line = record { line_at = line.at; rate = rate_node_of line.rate }

abbrev pub process_line_of : ProcessLine → ProcessLineNode
process_line_of line = record { line_at = line.at; body = process_node_of line.body }

abbrev pub probe_line_of : ProbeLine → ProbeLineNode
probe_line_of line = record { line_at = line.at; target = line.target; expr = probe_node_of line.expr }

abbrev pub file_node_of : FileTree → FileNode
file_node_of file =
    record { rates = map rate_line_of file.rates; processes = map process_line_of file.processes; probes = map probe_line_of file.probes; system = process_node_of file.system }

-- ---- the trees of what the grammar spells, from the index of its first token on

abbrev mutual
  pub sum_tree : ℕ → g.Sum → RateNode
  sum_tree at (g.OneProduct product) = product_tree at product
  sum_tree at (g.Summed sum sign product) =
      OpAt (at + length (sum_spelled sum)) (sum_tree at sum) (product_tree (at + length (sum_spelled sum) + 1) product)

  pub product_tree : ℕ → g.Product → RateNode
  product_tree at (g.OneFactor factor) = factor_tree at factor
  product_tree at (g.Produced product sign factor) =
      OpAt (at + length (product_spelled product)) (product_tree at product) (factor_tree (at + length (product_spelled product) + 1) factor)

  pub factor_tree : ℕ → g.Factor → RateNode
  factor_tree at g.Amount = NumberAt at
  factor_tree at (g.Naming name) = NameAt at
  factor_tree at (g.Bracketed sum) = BracketOf (sum_tree (at + 1) sum)

abbrev pub rate_tree : ℕ → g.Rate → RateNode
rate_tree at g.Passive = TopAt None at
rate_tree at g.Weighted = TopAt (Some at) (at + 2)
rate_tree at (g.Computed sum) = sum_tree at sum

-- the indices of words, each one with a comma before the next
abbrev pub word_indices : ℕ → List g.Word → List ℕ
word_indices at [] = []
word_indices at (word ∷ words) = at ∷ word_indices (at + 2) words

abbrev pub cooperation_indices : ℕ → g.Cooperation → List ℕ
cooperation_indices at g.Parallel = []
cooperation_indices at (g.Sharing words) = word_indices (at + 1) words

abbrev mutual
  pub process_tree : ℕ → g.Process → ProcessNode
  process_tree at (g.OneChoice choice) = choice_tree at choice
  process_tree at (g.Cooperating process coop choice) =
      CoopAt (at + length (process_spelled process)) (process_tree at process) (choice_tree (at + length (process_spelled process) + length (cooperation_spelled coop)) choice) (cooperation_indices (at + length (process_spelled process)) coop)

  pub choice_tree : ℕ → g.Choice → ProcessNode
  choice_tree at (g.OneHidden hidden) = hidden_tree at hidden
  choice_tree at (g.Chosen choice hidden) = ChoiceOf (choice_tree at choice) (hidden_tree (at + length (choice_spelled choice) + 1) hidden)

  pub hidden_tree : ℕ → g.Hidden → ProcessNode
  hidden_tree at (g.OnePrefix prefix) = prefix_tree at prefix
  hidden_tree at (g.Hiding hidden words) = HideOf (hidden_tree at hidden) (word_indices (at + length (hidden_spelled hidden) + 2) words)

  pub prefix_tree : ℕ → g.Prefix → ProcessNode
  prefix_tree at (g.Activity word rate prefix) = PrefixAt at (rate_tree (at + 3) rate) (prefix_tree (at + 3 + length (rate_spelled rate) + 2) prefix)
  prefix_tree at g.Constant = ConstantAt at
  prefix_tree at (g.Grouped process) = process_tree (at + 1) process

abbrev pub rate_lines_from : ℕ → List g.Line → List RateLineNode
rate_lines_from at [] = []
rate_lines_from at (g.RateNamed name rate ∷ lines) =
    record { line_at = at; rate = rate_tree (at + 2) rate } ∷ rate_lines_from (at + length (line_spelled (g.RateNamed name rate))) lines
rate_lines_from at (g.ProcessNamed process ∷ lines) = rate_lines_from (at + length (line_spelled (g.ProcessNamed process))) lines
rate_lines_from at (g.ProbeWritten target alternatives ∷ lines) = rate_lines_from (at + length (line_spelled (g.ProbeWritten target alternatives))) lines

abbrev pub process_lines_from : ℕ → List g.Line → List ProcessLineNode
process_lines_from at [] = []
process_lines_from at (g.RateNamed name rate ∷ lines) = process_lines_from (at + length (line_spelled (g.RateNamed name rate))) lines
process_lines_from at (g.ProcessNamed process ∷ lines) =
    record { line_at = at; body = process_tree (at + 2) process } ∷ process_lines_from (at + length (line_spelled (g.ProcessNamed process))) lines
process_lines_from at (g.ProbeWritten target alternatives ∷ lines) = process_lines_from (at + length (line_spelled (g.ProbeWritten target alternatives))) lines

-- the target of a probe line whose word `probe` is before the index
abbrev pub target_at : ℕ → g.ProbeTarget → Option ℕ
target_at at g.Overall = None
target_at at g.OnConstant = Some at

abbrev pub probe_lines_from : ℕ → List g.Line → List ProbeLineNode
probe_lines_from at [] = []
probe_lines_from at (g.RateNamed name rate ∷ lines) = probe_lines_from (at + length (line_spelled (g.RateNamed name rate))) lines
probe_lines_from at (g.ProcessNamed process ∷ lines) = probe_lines_from (at + length (line_spelled (g.ProcessNamed process))) lines
probe_lines_from at (g.ProbeWritten target alternatives ∷ lines) =
    record { line_at = at; target = target_at (at + 1) target; expr = alternatives_tree (at + 1 + length (target_spelled target)) alternatives }
    ∷ probe_lines_from (at + length (line_spelled (g.ProbeWritten target alternatives))) lines

-- the tree of a file
abbrev pub file_tree : g.File → FileNode
file_tree file =
    record { rates = rate_lines_from 0 file.lines; processes = process_lines_from 0 file.lines; probes = probe_lines_from 0 file.lines; system = process_tree (length (lines_spelled file.lines)) file.system }
