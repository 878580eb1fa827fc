-- What has been read of a file: its lines so far, and then the whole of it.
use Rattle.std.proofs.Common.{◌≡◌, ◌≢◌, ℕ, ◌+◌, ◌<◌, ◌≤◌, List, [], ◌∷◌, ◌++◌, length, map, drop, refl, sym, ap, ◌∙◌, append_assoc, append-nil, length-append, arith, Option, Ok, Err}
use Rattle.std.specs.List.{AllByRecursion}
use Rattle.std.proofs.lemmas.Grind.{flat_map-append}
use Rattle.std.proofs.lemmas.List.{map-append, length-map}
use Rattle.std.proofs.Math.ListN.{drop_of_length-le}
use Rattle.pepa_lexer.specs.declared.kinds.Token.{Token}
use Rattle.pepa_lexer.specs.declared.kinds.Sign.TheVariants.{Equals, Semicolon}
use Rattle.token_grammar.specs.declared.terminal.Terminal.{Terminal}
use Rattle.token_grammar.specs.declared.terminal.Terminal.TheVariants.{Capital, Mark, End}
use Rattle.token_grammar.specs.declared.terminal.Terminal.TheVariants as marks
use Rattle.token_grammar.specs.SmallNames.{small_spelled}
use Rattle.pepa_reader.specs.declared.trees.RateLine.{RateLine}
use Rattle.pepa_reader.specs.declared.trees.ProcessLine.{ProcessLine}
use Rattle.pepa_reader.specs.declared.trees.ProbeLine.{ProbeLine}
use Rattle.pepa_reader.specs.declared.trees.ProcessTree.{ProcessTree}
use Rattle.pepa_reader.specs.declared.trees.FileTree.{FileTree}
use Rattle.pepa_reader.specs.declared.items.Item.TheVariants.{Rate, Process, Probe, System}
use Rattle.pepa_reader.specs.declared.fault.FileFault.{FileFault}
use Rattle.token_grammar.specs.Terminals.{terminals, terminal_of}
use Rattle.probe_reader.specs.ProbeGrammar.{alternatives_spelled}
use Rattle.probe_reader.specs.ProbeTrees.{ProbeNode, probe_node_of, alternatives_tree}
use Rattle.pepa_reader.specs.Grammar as g
use Rattle.pepa_reader.specs.Grammar.{Line, RateNamed, ProcessNamed, ProbeWritten, target_spelled, Ending, Open, Closed, OneLine, rate_spelled, process_spelled, ending_spelled, line_spelled, lines_spelled, item_spelled}
use Rattle.pepa_reader.specs.Trees.{RateNode, ProcessNode, RateLineNode, ProcessLineNode, ProbeLineNode, FileNode, rate_node_of, rate_tree, process_tree, rate_line_of, process_line_of, probe_line_of, process_node_of, target_at, rate_lines_from, process_lines_from, probe_lines_from}
use Rattle.pepa_reader.specs.FileAnswers.{most_tokens, AreShort, IsFileTree, ReadsFile}
use Rattle.token_grammar.specs.Cursors.{IsSpelledFrom}
use Rattle.pepa_reader.specs.ItemReading.{IsEnded, IsItem, ReadsItemAt}
use Rattle.pepa_reader.proofs.FaultReading.{file_fails}

-- ---- one more line

-- the node of a probe line by its parts
abbrev probe_node : ℕ → Option ℕ → ProbeNode → ProbeLineNode
probe_node n target expr = record { line_at = n; target = target; expr = expr }

-- what lines spell with one more
pub lines_more : (lines : List Line) (line : Line) → lines_spelled (lines ++ line ∷ []) ≡ lines_spelled lines ++ line_spelled line
lines_more lines line = flat_map-append line_spelled lines (line ∷ []) ∙ ap (λ l. lines_spelled lines ++ l) (append-nil (line_spelled line))

-- they stay short
pub short_more : (lines : List Line) (line : Line) → AreShort lines → length (line_spelled line) ≤ most_tokens → AreShort (lines ++ line ∷ [])
short_more [] line short one = (one, tt)
short_more (first ∷ more) line short one = (short.0, short_more more line short.1 one)

-- behind a line the next begins
next_line : (at : ℕ) (line : Line) (lines : List Line) → at + length (line_spelled line) + length (lines_spelled lines) ≡ at + length (lines_spelled (line ∷ lines))
next_line at line lines = omega (arith, length-append (line_spelled line) (lines_spelled lines))

-- their rate lines
rates_more : (at : ℕ) (lines : List Line) (line : Line) → rate_lines_from at (lines ++ line ∷ []) ≡ rate_lines_from at lines ++ rate_lines_from (at + length (lines_spelled lines)) (line ∷ [])
rates_more at [] line = ap (λ n. rate_lines_from n (line ∷ [])) (omega arith)
rates_more at (RateNamed name rate ∷ lines) line =
    ap (λ l. record { line_at = at; rate = rate_tree (at + 2) rate } ∷ l) (rates_more (at + length (line_spelled (RateNamed name rate))) lines line ∙ ap (λ n. rate_lines_from (at + length (line_spelled (RateNamed name rate))) lines ++ rate_lines_from n (line ∷ [])) (next_line at (RateNamed name rate) lines))
rates_more at (ProcessNamed process ∷ lines) line =
    rates_more (at + length (line_spelled (ProcessNamed process))) lines line ∙ ap (λ n. rate_lines_from (at + length (line_spelled (ProcessNamed process))) lines ++ rate_lines_from n (line ∷ [])) (next_line at (ProcessNamed process) lines)
rates_more at (ProbeWritten target whole ∷ lines) line =
    rates_more (at + length (line_spelled (ProbeWritten target whole))) lines line ∙ ap (λ n. rate_lines_from (at + length (line_spelled (ProbeWritten target whole))) lines ++ rate_lines_from n (line ∷ [])) (next_line at (ProbeWritten target whole) lines)

-- their process lines
processes_more : (at : ℕ) (lines : List Line) (line : Line) → process_lines_from at (lines ++ line ∷ []) ≡ process_lines_from at lines ++ process_lines_from (at + length (lines_spelled lines)) (line ∷ [])
processes_more at [] line = ap (λ n. process_lines_from n (line ∷ [])) (omega arith)
processes_more at (RateNamed name rate ∷ lines) line =
    processes_more (at + length (line_spelled (RateNamed name rate))) lines line ∙ ap (λ n. process_lines_from (at + length (line_spelled (RateNamed name rate))) lines ++ process_lines_from n (line ∷ [])) (next_line at (RateNamed name rate) lines)
processes_more at (ProcessNamed process ∷ lines) line =
    ap (λ l. record { line_at = at; body = process_tree (at + 2) process } ∷ l) (processes_more (at + length (line_spelled (ProcessNamed process))) lines line ∙ ap (λ n. process_lines_from (at + length (line_spelled (ProcessNamed process))) lines ++ process_lines_from n (line ∷ [])) (next_line at (ProcessNamed process) lines))
processes_more at (ProbeWritten target whole ∷ lines) line =
    processes_more (at + length (line_spelled (ProbeWritten target whole))) lines line ∙ ap (λ n. process_lines_from (at + length (line_spelled (ProbeWritten target whole))) lines ++ process_lines_from n (line ∷ [])) (next_line at (ProbeWritten target whole) lines)

-- their probe lines
probes_more : (at : ℕ) (lines : List Line) (line : Line) → probe_lines_from at (lines ++ line ∷ []) ≡ probe_lines_from at lines ++ probe_lines_from (at + length (lines_spelled lines)) (line ∷ [])
probes_more at [] line = ap (λ n. probe_lines_from n (line ∷ [])) (omega arith)
probes_more at (RateNamed name rate ∷ lines) line =
    probes_more (at + length (line_spelled (RateNamed name rate))) lines line ∙ ap (λ n. probe_lines_from (at + length (line_spelled (RateNamed name rate))) lines ++ probe_lines_from n (line ∷ [])) (next_line at (RateNamed name rate) lines)
probes_more at (ProcessNamed process ∷ lines) line =
    probes_more (at + length (line_spelled (ProcessNamed process))) lines line ∙ ap (λ n. probe_lines_from (at + length (line_spelled (ProcessNamed process))) lines ++ probe_lines_from n (line ∷ [])) (next_line at (ProcessNamed process) lines)
probes_more at (ProbeWritten target whole ∷ lines) line =
    ap (λ l. probe_node at (target_at (at + 1) target) (alternatives_tree (at + 1 + length (target_spelled target)) whole) ∷ l) (probes_more (at + length (line_spelled (ProbeWritten target whole))) lines line ∙ ap (λ n. probe_lines_from (at + length (line_spelled (ProbeWritten target whole))) lines ++ probe_lines_from n (line ∷ [])) (next_line at (ProbeWritten target whole) lines))

-- ---- the end

-- a line ends with its `;`
pub line_front : (line : Line) → (front : List Terminal) × (line_spelled line ≡ front ++ Mark Semicolon ∷ [])
line_front (RateNamed name rate) = (small_spelled name ∷ Mark Equals ∷ rate_spelled rate, refl)
line_front (ProcessNamed process) = (Capital ∷ Mark Equals ∷ process_spelled process, refl)
line_front (ProbeWritten target whole) = (marks.Probe ∷ (target_spelled target ++ alternatives_spelled whole), ap (λ l. marks.Probe ∷ l) (sym (append_assoc (target_spelled target) (alternatives_spelled whole) (Mark Semicolon ∷ []))))

-- an item's system ends with the end
pub ending_front : (ending : Ending) → (front : List Terminal) × (ending_spelled ending ≡ front ++ End ∷ [])
ending_front Open = ([], refl)
ending_front Closed = (Mark Semicolon ∷ [], refl)

-- two lists that are one end alike
pub last_same : (a b : List Terminal) (x y : Terminal) → a ++ x ∷ [] ≡ b ++ y ∷ [] → x ≡ y
last_same [] [] x y e = cc
last_same [] (u ∷ []) x y e = cc
last_same [] (u ∷ v ∷ b) x y e = cc
last_same (t ∷ []) [] x y e = cc
last_same (t ∷ u ∷ a) [] x y e = cc
last_same (t ∷ a) (u ∷ b) x y e = last_same a b x y (cc)

-- behind the only end stands nothing
pub only_end : (front a behind : List Terminal) → AllByRecursion (λ terminal. terminal ≢ End) front → front ++ End ∷ [] ≡ a ++ End ∷ behind → behind ≡ []
only_end [] [] behind others e = cc
only_end [] (u ∷ []) behind others e = cc
only_end [] (u ∷ v ∷ a) behind others e = cc
only_end (t ∷ front) [] behind others e = absurd (others.0 (cc))
only_end (t ∷ front) (u ∷ a) behind others e = only_end front a behind others.1 (cc)

-- ---- what has been read

-- the lines before an index, and their trees
pub record ReadSoFar (kinds : List Terminal) (at : ℕ) (rates : List RateLine) (processes : List ProcessLine) (probes : List ProbeLine) : Type 0 where
  pub lines : List Line
  pub short : AreShort lines
  pub whole : kinds ≡ lines_spelled lines ++ drop at kinds
  pub from : at ≡ length (lines_spelled lines)
  pub rates_are : map rate_line_of rates ≡ rate_lines_from 0 lines
  pub processes_are : map process_line_of processes ≡ process_lines_from 0 lines
  pub probes_are : map probe_line_of probes ≡ probe_lines_from 0 lines

-- none
pub nothing_read : (kinds : List Terminal) → ReadSoFar kinds 0 [] [] []
nothing_read kinds = record { lines = []; short = tt; whole = refl; from = refl; rates_are = refl; processes_are = refl; probes_are = refl }

-- one more line has been read
more_whole : (kinds : List Terminal) (at next : ℕ) (lines : List Line) (line : Line) → kinds ≡ lines_spelled lines ++ drop at kinds → IsSpelledFrom kinds at next (line_spelled line) → kinds ≡ lines_spelled (lines ++ line ∷ []) ++ drop next kinds
more_whole kinds at next lines line whole spelled =
    whole ∙ ap (λ l. lines_spelled lines ++ l) spelled.whole ∙ sym (append_assoc (lines_spelled lines) (line_spelled line) (drop next kinds)) ∙ ap (λ l. l ++ drop next kinds) (sym (lines_more lines line))

-- the index behind it
more_from : (at next : ℕ) (kinds : List Terminal) (lines : List Line) (line : Line) → at ≡ length (lines_spelled lines) → IsSpelledFrom kinds at next (line_spelled line) → next ≡ length (lines_spelled (lines ++ line ∷ []))
more_from at next kinds lines line from spelled = omega (arith, from, spelled.index, ap length (lines_more lines line), length-append (lines_spelled lines) (line_spelled line))

-- behind a line something stands
line_inside : (kinds : List Terminal) (at next : ℕ) (lines : List Line) (line : Line) → IsEnded kinds → kinds ≡ lines_spelled lines ++ drop at kinds → IsSpelledFrom kinds at next (line_spelled line) → next < length kinds
line_inside kinds at next lines line ended whole spelled = omega (arith, λ (past : length kinds ≤ next). other (last_same (lines_spelled lines ++ (line_front line).0) ended.0 (Mark Semicolon) End (sym (at_end past) ∙ ended.1)))
  where
    other : Mark Semicolon ≡ End → ⊥
    other e = cc

    at_end : length kinds ≤ next → kinds ≡ (lines_spelled lines ++ (line_front line).0) ++ Mark Semicolon ∷ []
    at_end past =
        whole ∙ ap (λ l. lines_spelled lines ++ l) (spelled.whole ∙ ap (λ l. line_spelled line ++ l) (drop_of_length-le kinds past) ∙ append-nil (line_spelled line) ∙ (line_front line).1)
        ∙ sym (append_assoc (lines_spelled lines) (line_front line).0 (Mark Semicolon ∷ []))

-- the terminals and the lines so far, before an item
pub record Going (input : List ℕ) (tokens : List Token) (at : ℕ) (rates : List RateLine) (processes : List ProcessLine) (probes : List ProbeLine) : Type 0 where
  pub so_far : ReadSoFar (terminals input tokens) at rates processes probes
  pub ended : IsEnded (terminals input tokens)
  pub within : at < length tokens

-- nodes by their parts
rate_node : ℕ → RateNode → RateLineNode
rate_node n tree = record { line_at = n; rate = tree }

process_node : ℕ → ProcessNode → ProcessLineNode
process_node n tree = record { line_at = n; body = tree }

-- a rate line more
rate_more : (kinds : List Terminal) (at next : ℕ) (rates : List RateLine) (processes : List ProcessLine) (probes : List ProbeLine) (line : RateLine) (item : g.Item) → ReadSoFar kinds at rates processes probes → IsEnded kinds → IsSpelledFrom kinds at next (item_spelled item) → IsItem at (Rate line) item → next ≤ at + most_tokens → ReadSoFar kinds next (rates ++ line ∷ []) processes probes × (next < length kinds)
unfolding rate_node
rate_more kinds at next rates processes probes line (OneLine (RateNamed name rate)) h ended spelled is few =
    let added = RateNamed name rate in
    let len = 0 + length (lines_spelled h.lines) in
    let front : at ≡ len = omega (arith, h.from) in
    let this : rate_line_of line ≡ rate_node len (rate_tree (len + 2) rate) =
    ap (λ n. rate_node n (rate_node_of line.rate)) is.0 ∙ ap (rate_node at) is.1 ∙ ap (λ n. rate_node n (rate_tree (n + 2) rate)) front in (
      record {
        lines = h.lines ++ added ∷ [];
        short = short_more h.lines added h.short (omega (arith, few, spelled.index));
        whole = more_whole kinds at next h.lines added h.whole spelled;
        from = more_from at next kinds h.lines added h.from spelled;
        rates_are = map-append rate_line_of rates (line ∷ []) ∙ ap (λ l. l ++ rate_line_of line ∷ []) h.rates_are ∙ ap (λ n. rate_lines_from 0 h.lines ++ n ∷ []) this ∙ sym (rates_more 0 h.lines added);
        processes_are = h.processes_are ∙ sym (processes_more 0 h.lines added ∙ append-nil (process_lines_from 0 h.lines));
        probes_are = h.probes_are ∙ sym (probes_more 0 h.lines added ∙ append-nil (probe_lines_from 0 h.lines));
      },
      line_inside kinds at next h.lines added ended h.whole spelled,
    )
rate_more kinds at next rates processes probes line _ h ended spelled is few = absurd is

-- a process line more
process_more : (kinds : List Terminal) (at next : ℕ) (rates : List RateLine) (processes : List ProcessLine) (probes : List ProbeLine) (line : ProcessLine) (item : g.Item) → ReadSoFar kinds at rates processes probes → IsEnded kinds → IsSpelledFrom kinds at next (item_spelled item) → IsItem at (Process line) item → next ≤ at + most_tokens → ReadSoFar kinds next rates (processes ++ line ∷ []) probes × (next < length kinds)
unfolding process_node
process_more kinds at next rates processes probes line (OneLine (ProcessNamed process)) h ended spelled is few =
    let added = ProcessNamed process in
    let len = 0 + length (lines_spelled h.lines) in
    let front : at ≡ len = omega (arith, h.from) in
    let this : process_line_of line ≡ process_node len (process_tree (len + 2) process) =
    ap (λ n. process_node n (process_node_of line.body)) is.0 ∙ ap (process_node at) is.1 ∙ ap (λ n. process_node n (process_tree (n + 2) process)) front in (
      record {
        lines = h.lines ++ added ∷ [];
        short = short_more h.lines added h.short (omega (arith, few, spelled.index));
        whole = more_whole kinds at next h.lines added h.whole spelled;
        from = more_from at next kinds h.lines added h.from spelled;
        rates_are = h.rates_are ∙ sym (rates_more 0 h.lines added ∙ append-nil (rate_lines_from 0 h.lines));
        processes_are = map-append process_line_of processes (line ∷ []) ∙ ap (λ l. l ++ process_line_of line ∷ []) h.processes_are ∙ ap (λ n. process_lines_from 0 h.lines ++ n ∷ []) this ∙ sym (processes_more 0 h.lines added);
        probes_are = h.probes_are ∙ sym (probes_more 0 h.lines added ∙ append-nil (probe_lines_from 0 h.lines));
      },
      line_inside kinds at next h.lines added ended h.whole spelled,
    )
process_more kinds at next rates processes probes line _ h ended spelled is few = absurd is

-- a probe line more
probe_more : (kinds : List Terminal) (at next : ℕ) (rates : List RateLine) (processes : List ProcessLine) (probes : List ProbeLine) (line : ProbeLine) (item : g.Item) → ReadSoFar kinds at rates processes probes → IsEnded kinds → IsSpelledFrom kinds at next (item_spelled item) → IsItem at (Probe line) item → next ≤ at + most_tokens → ReadSoFar kinds next rates processes (probes ++ line ∷ []) × (next < length kinds)
probe_more kinds at next rates processes probes line (OneLine (ProbeWritten target whole)) h ended spelled is few =
    let added = ProbeWritten target whole in
    let len = 0 + length (lines_spelled h.lines) in
    let front : at ≡ len = omega (arith, h.from) in
    let this : probe_line_of line ≡ probe_node len (target_at (len + 1) target) (alternatives_tree (len + 1 + length (target_spelled target)) whole) =
    ap (λ n. probe_node n line.target (probe_node_of line.expr)) is.0 ∙ ap (λ t. probe_node at t (probe_node_of line.expr)) is.1 ∙ ap (probe_node at (target_at (at + 1) target)) is.2
    ∙ ap (λ n. probe_node n (target_at (n + 1) target) (alternatives_tree (n + 1 + length (target_spelled target)) whole)) front in (
      record {
        lines = h.lines ++ added ∷ [];
        short = short_more h.lines added h.short (omega (arith, few, spelled.index));
        whole = more_whole kinds at next h.lines added h.whole spelled;
        from = more_from at next kinds h.lines added h.from spelled;
        rates_are = h.rates_are ∙ sym (rates_more 0 h.lines added ∙ append-nil (rate_lines_from 0 h.lines));
        processes_are = h.processes_are ∙ sym (processes_more 0 h.lines added ∙ append-nil (process_lines_from 0 h.lines));
        probes_are = map-append probe_line_of probes (line ∷ []) ∙ ap (λ l. l ++ probe_line_of line ∷ []) h.probes_are ∙ ap (λ n. probe_lines_from 0 h.lines ++ n ∷ []) this ∙ sym (probes_more 0 h.lines added);
      },
      line_inside kinds at next h.lines added ended h.whole spelled,
    )
probe_more kinds at next rates processes probes line _ h ended spelled is few = absurd is

-- behind the system nothing stands
system_ends : (kinds : List Terminal) (at next : ℕ) (lines : List Line) (process : g.Process) (ending : Ending) → IsEnded kinds → kinds ≡ lines_spelled lines ++ drop at kinds → IsSpelledFrom kinds at next (item_spelled (g.System process ending)) → drop next kinds ≡ []
system_ends kinds at next lines process ending ended whole spelled =
    let end = ending_front ending in
    let rest = drop next kinds in
    only_end ended.0 (lines_spelled lines ++ (process_spelled process ++ end.0)) rest ended.2
    (sym ended.1 ∙ whole ∙ ap (λ l. lines_spelled lines ++ l) (spelled.whole ∙ ap (λ l. (process_spelled process ++ l) ++ rest) end.1) ∙ simp append_assoc)

-- the node of a file by its parts
file_node : List RateLineNode → List ProcessLineNode → List ProbeLineNode → ProcessNode → FileNode
file_node rates processes probes system = record { rates = rates; processes = processes; probes = probes; system = system }

same_parts : (a b : List RateLineNode) (c d : List ProcessLineNode) (x y : List ProbeLineNode) (p q : ProcessNode) → a ≡ b → c ≡ d → x ≡ y → p ≡ q → file_node a c x p ≡ file_node b d y q
same_parts a b c d x y p q e f g h = ap (λ r. file_node r c x p) e ∙ ap (λ r. file_node b r x p) f ∙ ap (λ r. file_node b d r p) g ∙ ap (file_node b d y) h

-- the system is read last
is_file : (kinds : List Terminal) (at next : ℕ) (file : FileTree) (item : g.Item) → ReadSoFar kinds at file.rates file.processes file.probes → IsEnded kinds → IsSpelledFrom kinds at next (item_spelled item) → IsItem at (System file.system) item → next ≤ at + most_tokens → IsFileTree kinds file
unfolding file_node
is_file kinds at next file (g.System process ending) h ended spelled is few =
    record {
      file = record { lines = h.lines; system = process; ending = ending };
      spelled = h.whole ∙ ap (λ l. lines_spelled h.lines ++ l) (spelled.whole ∙ ap (λ l. item_spelled (g.System process ending) ++ l) (system_ends kinds at next h.lines process ending ended h.whole spelled) ∙ append-nil (item_spelled (g.System process ending)));
      short = h.short;
      short_system = omega (arith, few, spelled.index);
      tree_is = same_parts _ _ _ _ _ _ _ _ h.rates_are h.processes_are h.probes_are (is ∙ ap (λ n. process_tree n process) h.from);
    }
is_file kinds at next file _ h ended spelled is few = absurd is

-- ---- the steps of the loop

-- at the start
pub starts : (input : List ℕ) (tokens : List Token) → IsEnded (terminals input tokens) → 0 < length tokens → Going input tokens 0 [] [] []
starts input tokens ended some = record { so_far = nothing_read (terminals input tokens); ended = ended; within = some }

-- behind a rate line
pub rate_goes_on : (input : List ℕ) (tokens : List Token) (at next : ℕ) (rates : List RateLine) (processes : List ProcessLine) (probes : List ProbeLine) (line : RateLine) → Going input tokens at rates processes probes → ReadsItemAt input tokens at (Ok (record { item = Rate line; next = next })) → Going input tokens next (rates ++ line ∷ []) processes probes
rate_goes_on input tokens at next rates processes probes line h read =
    let more = rate_more (terminals input tokens) at next rates processes probes line read.0.item h.so_far h.ended read.0.spelled read.0.tree read.1 in
    record { so_far = more.0; ended = h.ended; within = omega (arith, more.1, length-map tokens (terminal_of input)) }

-- behind a process line
pub process_goes_on : (input : List ℕ) (tokens : List Token) (at next : ℕ) (rates : List RateLine) (processes : List ProcessLine) (probes : List ProbeLine) (line : ProcessLine) → Going input tokens at rates processes probes → ReadsItemAt input tokens at (Ok (record { item = Process line; next = next })) → Going input tokens next rates (processes ++ line ∷ []) probes
process_goes_on input tokens at next rates processes probes line h read =
    let more = process_more (terminals input tokens) at next rates processes probes line read.0.item h.so_far h.ended read.0.spelled read.0.tree read.1 in
    record { so_far = more.0; ended = h.ended; within = omega (arith, more.1, length-map tokens (terminal_of input)) }

-- after a probe line
pub probe_goes_on : (input : List ℕ) (tokens : List Token) (at next : ℕ) (rates : List RateLine) (processes : List ProcessLine) (probes : List ProbeLine) (line : ProbeLine) → Going input tokens at rates processes probes → ReadsItemAt input tokens at (Ok (record { item = Probe line; next = next })) → Going input tokens next rates processes (probes ++ line ∷ [])
probe_goes_on input tokens at next rates processes probes line h read =
    let more = probe_more (terminals input tokens) at next rates processes probes line read.0.item h.so_far h.ended read.0.spelled read.0.tree read.1 in
    record { so_far = more.0; ended = h.ended; within = omega (arith, more.1, length-map tokens (terminal_of input)) }

-- at the end
pub whole_file : (input : List ℕ) (tokens : List Token) (at next : ℕ) (rates : List RateLine) (processes : List ProcessLine) (probes : List ProbeLine) (system : ProcessTree) → Going input tokens at rates processes probes → ReadsItemAt input tokens at (Ok (record { item = System system; next = next })) → IsFileTree (terminals input tokens) (record { rates = rates; processes = processes; probes = probes; system = system })
whole_file input tokens at next rates processes probes system h read =
    is_file (terminals input tokens) at next (record { rates = rates; processes = processes; probes = probes; system = system }) read.0.item h.so_far h.ended read.0.spelled read.0.tree read.1

-- at a fault
pub file_stops : (input : List ℕ) (tokens : List Token) (at : ℕ) (rates : List RateLine) (processes : List ProcessLine) (probes : List ProbeLine) (fault : FileFault) → Going input tokens at rates processes probes → ReadsItemAt input tokens at (Err fault) → ReadsFile input tokens (Err fault)
file_stops input tokens at rates processes probes fault h read = file_fails input tokens at h.so_far.lines fault h.so_far.short h.so_far.whole h.so_far.from read
