-- The leaves of a file, put into a table one after another.
use Rattle.std.proofs.Common.{◌≡◌, ℕ, zero, suc, ◌+◌, ◌<◌, ◌≤◌, Bool, true, false, List, [], ◌∷◌, ◌++◌, map, reverse, length, get_or, Option, Some, None, inl, inr, refl, sym, ap, ◌∙◌, subst, slice_get, append_assoc, true≢false, arith}
use Rattle.std.specs.List.{AllZip, list_any}
use Rattle.std.proofs.lemmas.List.{map-append, append-nil, reverse-append, length-append, length-map}
use Rattle.pepa_model.specs.Derivation.{Among}
use Rattle.pepa_model.specs.Expression.{Expression, Const, Prefixed, Chosen}
use Rattle.pepa_model.specs.Leaves.{same_expression}
use Rattle.pepa_resolver.specs.Named.{Named, NamedConstant, NamedPrefix, NamedChoice, NamedCoop, NamedHide}
use Rattle.pepa_resolver.specs.NamedTypes.{named_of}
use Rattle.pepa_checks.specs.Structure.{has_system}
use Rattle.pepa_checks.specs.declared.summand.Summand.{Summand}
use Rattle.pepa_checks.specs.declared.expressions.Candidate.{Candidate}
use Rattle.pepa_checks.specs.declared.expressions.Head.{Head}
use Rattle.pepa_checks.specs.declared.expressions.FileWalk.{FileWalk}
use Rattle.pepa_checks.specs.declared.leaf_table.LeafTable.{LeafTable}
use Rattle.pepa_checks.specs.Outline.{expression_in, outline_with}
use Rattle.pepa_checks.specs.Activities.{written_leaves}
use Rattle.pepa_checks.specs.NodeTables.{expressions_by}
use Rattle.pepa_checks.specs.Candidates.{AreOperands, IsCandidate, ConstantLine, sequential_lines, IsHead, IsFileWalk}
use Rattle.pepa_checks.specs.LeafTables.{with_expression, with_expressions, Text, chooser, IsChoiceOf, IsNodeAt, IsLeafTable, AddsNode}
use Rattle.pepa_checks.proofs.ListReads.{some_same, some_none, read_or}
use Rattle.pepa_checks.proofs.OutlineLeaves.{line_const, listed, with_expressions-append, length_grows, length_limit, any_listed, leaves_are}
use Rattle.pepa_checks.proofs.WrittenLeaves.{IsPlain, among_middle}

-- ---- lines

-- a line's place among those from a number on
lines_read : (k : ℕ) (flags : List Bool) (bodies : List Named) (line : ConstantLine) → Among line (sequential_lines k flags bodies)
    → (j : ℕ) × (line.constant ≡ j + k) × (slice_get bodies j ≡ Some line.body)
lines_read k [] bodies line h = absurd h
lines_read k (flag ∷ flags) [] line h = absurd h
lines_read k (true ∷ flags) (body ∷ bodies) line h =
    let rest = lines_read (suc k) flags bodies line h in
    (suc rest.0, omega (arith, rest.1), rest.2)
lines_read k (false ∷ flags) (body ∷ bodies) line (inl is) =
    let number : line.constant ≡ k = ap (λ l. l.constant) is in
    (0, omega (arith, number), ap (λ l. Some l.body) (sym is))
lines_read k (false ∷ flags) (body ∷ bodies) line (inr h) =
    let rest = lines_read (suc k) flags bodies line h in
    (suc rest.0, omega (arith, rest.1), rest.2)

line_body : (flags : List Bool) (bodies : List Named) (line : ConstantLine) → Among line (sequential_lines 0 flags bodies) → slice_get bodies line.constant ≡ Some line.body
line_body flags bodies line h =
    let read = lines_read 0 flags bodies line h in
    let same : read.0 ≡ line.constant = omega (arith, read.1) in
    subst (λ j. slice_get bodies j ≡ Some line.body) same read.2

-- each constant that isn't compound has a line
lines_have : (k : ℕ) (flags : List Bool) (bodies : List Named) (j : ℕ) → length flags ≡ length bodies → slice_get flags j ≡ Some false
    → (before : List Expression) × (behind : List Expression) × (map line_const (sequential_lines k flags bodies) ≡ before ++ Const (j + k) ∷ behind)
lines_have k [] bodies j sizes e = absurd (some_none false e)
lines_have k (flag ∷ flags) [] j sizes e = absurd (omega (arith, sizes))
lines_have k (true ∷ flags) (body ∷ bodies) zero sizes e = absurd (true≢false (some_same true false e))
lines_have k (true ∷ flags) (body ∷ bodies) (suc j) sizes e =
    let rest = lines_have (suc k) flags bodies j (omega (arith, sizes)) e in
    let same : j + suc k ≡ suc j + k = omega arith in
    (rest.0, rest.1, rest.2 ∙ ap (λ n. rest.0 ++ Const n ∷ rest.1) same)
lines_have k (false ∷ flags) (body ∷ bodies) zero sizes e =
    let same : k ≡ 0 + k = omega arith in
    ([], map line_const (sequential_lines (suc k) flags bodies), ap (λ n. Const n ∷ map line_const (sequential_lines (suc k) flags bodies)) same)
lines_have k (false ∷ flags) (body ∷ bodies) (suc j) sizes e =
    let rest = lines_have (suc k) flags bodies j (omega (arith, sizes)) e in
    let same : j + suc k ≡ suc j + k = omega arith in
    (Const k ∷ rest.0, rest.1, ap (λ (es : List Expression). Const k ∷ es) (rest.2 ∙ ap (λ n. rest.0 ++ Const n ∷ rest.1) same))

pub lines_few : (k : ℕ) (flags : List Bool) (bodies : List Named) → length (sequential_lines k flags bodies) ≤ length bodies
lines_few k [] bodies = omega arith
lines_few k (flag ∷ flags) [] = omega arith
lines_few k (true ∷ flags) (body ∷ bodies) = let rest = lines_few (suc k) flags bodies in omega (arith, rest)
lines_few k (false ∷ flags) (body ∷ bodies) = let rest = lines_few (suc k) flags bodies in omega (arith, rest)

-- ---- lists that stand for others from the last one to the first

pub zip_none : {X Y : Type 0} (R : X → Y → Type 0) (xs : List X) (stack : List Y) → AllZip R xs (reverse stack) → stack ≡ [] → xs ≡ []
zip_none {X = X} R xs stack h none = empty xs (subst (λ l. AllZip R xs (reverse l)) none h)
  where
    empty : (ys : List X) → AllZip R ys [] → ys ≡ []
    empty [] g = refl
    empty (y ∷ ys) g = absurd g

record Top {X Y : Type 0} (R : X → Y → Type 0) (xs : List X) (rest : List Y) (last : Y) : Type 0 where
  pub first : X
  pub others : List X
  pub is : xs ≡ first ∷ others
  pub holds : R first last
  pub zipped : AllZip R others (reverse rest)

zip_top : {X Y : Type 0} (R : X → Y → Type 0) (xs : List X) (stack rest : List Y) (last : Y) → AllZip R xs (reverse stack) → stack ≡ rest ++ last ∷ [] → Top R xs rest last
zip_top {X = X} R xs stack rest last h longer = front xs (subst (λ l. AllZip R xs l) (ap reverse longer ∙ reverse-append rest (last ∷ [])) h)
  where
    front : (ys : List X) → AllZip R ys (last ∷ reverse rest) → Top R ys rest last
    front [] g = absurd g
    front (y ∷ ys) g = record { first = y; others = ys; is = refl; holds = g.0; zipped = g.1 }

-- ---- the invariants

module _ (compounds : List Bool) (bodies : List Named) (system : Named) where
  abbrev pub Apart : List Expression → Type 0
  Apart nodes = (m n : ℕ) (e : Expression) → slice_get nodes m ≡ Some e → slice_get nodes n ≡ Some e → m ≡ n

  abbrev pub text : (nodes : List Expression) → Apart nodes → Text
  text nodes apart = record { nodes = nodes; apart = apart; bodies = bodies; written = written_leaves compounds bodies system }

  -- sequential constants are put into the table
  pub record AddsHeads (table : LeafTable) (heads : List Head) (candidates : List Candidate) : Type 0 where
    pub nodes : List Expression
    pub apart : Apart nodes
    pub before : List ConstantLine
    pub rest : List ConstantLine
    pub lines_are : sequential_lines 0 compounds bodies ≡ before ++ rest
    pub heads_are : AllZip (IsHead nodes) rest (reverse heads)
    pub table_is : IsLeafTable (text nodes apart) (with_expressions [] (map line_const before)) table
    pub candidates_are : AllZip (IsCandidate nodes) (written_leaves compounds bodies system) (reverse candidates)

  -- other expressions are put into the table
  pub record AddsCandidates (table : LeafTable) (candidates : List Candidate) : Type 0 where
    pub nodes : List Expression
    pub apart : Apart nodes
    pub before : List Named
    pub rest : List Named
    pub written_are : written_leaves compounds bodies system ≡ before ++ rest
    pub candidates_are : AllZip (IsCandidate nodes) rest (reverse candidates)
    pub table_is : IsLeafTable (text nodes apart) (with_expressions [] (listed compounds bodies before)) table

  -- ---- sequential constants

  pub heads_begin : (found : FileWalk) (table : LeafTable) → IsFileWalk compounds bodies system found → table.numbers.keys ≡ [] → table.expressions ≡ [] → table.operands ≡ [] → AddsHeads table found.heads found.walk.candidates
  heads_begin found table walked numbers expressions operands =
      let nodes = expressions_by found.walk.nodes.keys in
      let here = text nodes walked.stands.table.apart in
      record {
        nodes = nodes;
        apart = walked.stands.table.apart;
        before = [];
        rest = sequential_lines 0 compounds bodies;
        lines_are = refl;
        heads_are = walked.heads_are;
        table_is = record {
          numbers_are = subst (λ k. AllZip (IsNodeAt nodes) k []) (sym numbers) tt;
          expressions_are = ap (map _) expressions;
          operands_are = subst (λ l. AllZip (IsChoiceOf here) [] l) (sym operands) tt;
        };
        candidates_are = walked.stands.candidates_are;
      }

  pub heads_more : (old new : LeafTable) (heads rest : List Head) (head : Head) (candidates : List Candidate) → AddsHeads old heads candidates → heads ≡ rest ++ head ∷ [] → AddsNode old new head.number (Const head.constant) head.operands → AddsHeads new rest candidates
  heads_more old new heads rest head candidates so_far popped adds =
      let top = zip_top (IsHead so_far.nodes) so_far.rest heads rest head so_far.heads_are popped in
      let line = top.first in
      let here = text so_far.nodes so_far.apart in
      let leaves = with_expressions [] (map line_const so_far.before) in
      let number_is : IsNodeAt so_far.nodes head.number (Const head.constant) = top.holds.number_is ∙ ap (λ c. Some (Const c)) (sym top.holds.constant_is) in
      let lines : sequential_lines 0 compounds bodies ≡ so_far.before ++ line ∷ top.others = so_far.lines_are ∙ ap (λ l. so_far.before ++ l) top.is in
      let body : slice_get bodies line.constant ≡ Some line.body = line_body compounds bodies line (subst (Among line) (sym lines) (among_middle line so_far.before top.others)) in
      let body_is : chooser bodies (NamedConstant 0 head.constant) ≡ line.body = ap (λ c. chooser bodies (NamedConstant 0 c)) top.holds.constant_is ∙ read_or bodies line.constant line.body (NamedConstant 0 line.constant) body in
      let choice : IsChoiceOf here (Const head.constant) head.operands = record {
        process = NamedConstant 0 head.constant;
        first_written = refl;
        operands_are = subst (λ p. AreOperands so_far.nodes p head.operands) (sym body_is) top.holds.operands_are;
      } in
      let added = adds here leaves number_is so_far.table_is (λ fresh. choice) in
      let more : with_expression leaves (Const head.constant) ≡ with_expressions [] (map line_const (so_far.before ++ line ∷ [])) =
      ap (λ c. with_expression leaves (Const c)) top.holds.constant_is
      ∙ sym (with_expressions-append [] (map line_const so_far.before) (Const line.constant ∷ []))
      ∙ ap (with_expressions []) (sym (map-append line_const so_far.before (line ∷ []))) in
      record {
        nodes = so_far.nodes;
        apart = so_far.apart;
        before = so_far.before ++ line ∷ [];
        rest = top.others;
        lines_are = lines ∙ sym (append_assoc so_far.before (line ∷ []) top.others);
        heads_are = top.zipped;
        table_is = subst (λ l. IsLeafTable here l new) more added;
        candidates_are = so_far.candidates_are;
      }

  pub heads_end : (table : LeafTable) (heads : List Head) (candidates : List Candidate) → AddsHeads table heads candidates → heads ≡ [] → AddsCandidates table candidates
  heads_end table heads candidates so_far none =
      let no_rest = zip_none (IsHead so_far.nodes) so_far.rest heads so_far.heads_are none in
      let all : so_far.before ≡ sequential_lines 0 compounds bodies = sym (so_far.lines_are ∙ ap (λ l. so_far.before ++ l) no_rest ∙ append-nil so_far.before) in
      let here = text so_far.nodes so_far.apart in
      record {
        nodes = so_far.nodes;
        apart = so_far.apart;
        before = [];
        rest = written_leaves compounds bodies system;
        written_are = refl;
        candidates_are = so_far.candidates_are;
        table_is = subst (λ l. IsLeafTable here l table) (ap (λ l. with_expressions [] (map line_const l)) all ∙ ap (with_expressions []) (sym (append-nil (map line_const (sequential_lines 0 compounds bodies))))) so_far.table_is;
      }

  -- ---- other expressions

  listed_there : (before : List Named) (other : Named) (e : Expression) → Among other before → expression_in other ≡ e → list_any (same_expression e) (with_expressions [] (listed compounds bodies before)) ≡ true
  listed_there before other e among is =
      let split = parts before among in
      let consts = map line_const (sequential_lines 0 compounds bodies) in
      let spread : listed compounds bodies before ≡ (consts ++ map expression_in split.0) ++ e ∷ map expression_in split.1 =
      ap (λ l. consts ++ map expression_in l) split.2
      ∙ ap (λ l. consts ++ l) (map-append expression_in split.0 (other ∷ split.1))
      ∙ ap (λ f. consts ++ (map expression_in split.0 ++ f ∷ map expression_in split.1)) is
      ∙ sym (append_assoc consts (map expression_in split.0) (e ∷ map expression_in split.1)) in
      subst (λ l. list_any (same_expression e) (with_expressions [] l) ≡ true) (sym spread) (any_listed [] (consts ++ map expression_in split.0) e (map expression_in split.1))
    where
      parts : (xs : List Named) → Among other xs → (front : List Named) × (behind : List Named) × (xs ≡ front ++ other ∷ behind)
      parts [] h = absurd h
      parts (x ∷ xs) (inl same) = ([], xs, ap (λ y. y ∷ xs) (sym same))
      parts (x ∷ xs) (inr h) = let rest = parts xs h in (x ∷ rest.0, rest.1, ap (λ (l : List Named). x ∷ l) rest.2)

  constant_there : (before : List Named) (c : ℕ) → length compounds ≡ length bodies → slice_get compounds c ≡ Some false → list_any (same_expression (Const c)) (with_expressions [] (listed compounds bodies before)) ≡ true
  constant_there before c sizes flag =
      let line = lines_have 0 compounds bodies c sizes flag in
      let same : c + 0 ≡ c = omega arith in
      let spread : listed compounds bodies before ≡ line.0 ++ Const c ∷ (line.1 ++ map expression_in before) =
      ap (λ l. l ++ map expression_in before) (line.2 ∙ ap (λ n. line.0 ++ Const n ∷ line.1) same) ∙ append_assoc line.0 (Const c ∷ line.1) (map expression_in before) in
      subst (λ l. list_any (same_expression (Const c)) (with_expressions [] l) ≡ true) (sym spread) (any_listed [] line.0 (Const c) (line.1 ++ map expression_in before))

  not_before : (before : List Named) (e : Expression) → list_any (same_expression e) (with_expressions [] (listed compounds bodies before)) ≡ false → (other : Named) → Among other before → ¬ (expression_in other ≡ e)
  not_before before e fresh other among is = true≢false (sym (listed_there before other e among is) ∙ fresh)

  past_end : (flags : List Bool) (ps : List Named) (c : ℕ) (d : Named) → length flags ≡ length ps → slice_get flags c ≡ None → get_or ps c d ≡ d
  past_end [] [] c d sizes e = refl
  past_end [] (p ∷ ps) c d sizes e = absurd (omega (arith, sizes))
  past_end (flag ∷ flags) [] c d sizes e = refl
  past_end (flag ∷ flags) (p ∷ ps) zero d sizes e = absurd (some_none flag (sym e))
  past_end (flag ∷ flags) (p ∷ ps) (suc c) d sizes e = past_end flags ps c d (omega (arith, sizes)) e

  constant_chosen : (nodes : List Expression) (apart : Apart nodes) (before : List Named) (at c : ℕ) (operands : List Summand) (o : Option Bool) → slice_get compounds c ≡ o → length compounds ≡ length bodies → IsPlain compounds (NamedConstant at c) → AreOperands nodes (NamedConstant at c) operands
      → list_any (same_expression (Const c)) (with_expressions [] (listed compounds bodies before)) ≡ false → IsChoiceOf (text nodes apart) (Const c) operands
  constant_chosen nodes apart before at c operands (Some true) flag sizes plain are fresh = absurd (plain.constant at c refl flag)
  constant_chosen nodes apart before at c operands (Some false) flag sizes plain are fresh = absurd (true≢false (sym (constant_there before c sizes flag) ∙ fresh))
  constant_chosen nodes apart before at c operands None flag sizes plain are fresh = record {
    process = NamedConstant 0 c;
    first_written = refl;
    operands_are = subst (λ p. AreOperands nodes p operands) (sym (past_end compounds bodies c (NamedConstant 0 c) sizes flag)) are;
  }

  chosen : (nodes : List Expression) (apart : Apart nodes) (before behind : List Named) (process : Named) (operands : List Summand) → length compounds ≡ length bodies → IsPlain compounds process → written_leaves compounds bodies system ≡ before ++ process ∷ behind → AreOperands nodes process operands
      → list_any (same_expression (expression_in process)) (with_expressions [] (listed compounds bodies before)) ≡ false → IsChoiceOf (text nodes apart) (expression_in process) operands
  chosen nodes apart before behind (NamedConstant at c) operands sizes plain written are fresh = constant_chosen nodes apart before at c operands (slice_get compounds c) refl sizes plain are fresh
  chosen nodes apart before behind (NamedPrefix at action rate next) operands sizes plain written are fresh = record {
    process = NamedPrefix at action rate next;
    first_written = (before, behind, written, refl, not_before before (Prefixed action rate (expression_in next)) fresh);
    operands_are = are;
  }
  chosen nodes apart before behind (NamedChoice left right) operands sizes plain written are fresh = record {
    process = NamedChoice left right;
    first_written = (before, behind, written, refl, not_before before (Chosen (expression_in left) (expression_in right)) fresh);
    operands_are = are;
  }
  chosen nodes apart before behind (NamedCoop left right set) operands sizes plain written are fresh = absurd (true≢false plain.plain)
  chosen nodes apart before behind (NamedHide inner set) operands sizes plain written are fresh = absurd (true≢false plain.plain)

  module _ (sizes : length compounds ≡ length bodies) (plain : (p : Named) → Among p (written_leaves compounds bodies system) → IsPlain compounds p) where
    pub candidate_plain : (table : LeafTable) (candidates rest : List Candidate) (candidate : Candidate) → AddsCandidates table candidates → candidates ≡ rest ++ candidate ∷ [] → has_system (named_of candidate.process.now) ≡ false
    candidate_plain table candidates rest candidate so_far popped =
        let top = zip_top (IsCandidate so_far.nodes) so_far.rest candidates rest candidate so_far.candidates_are popped in
        let written : written_leaves compounds bodies system ≡ so_far.before ++ top.first ∷ top.others = so_far.written_are ∙ ap (λ l. so_far.before ++ l) top.is in
        ap has_system top.holds.process_is ∙ (plain top.first (subst (Among top.first) (sym written) (among_middle top.first so_far.before top.others))).plain

    pub candidates_more : (old new : LeafTable) (candidates rest : List Candidate) (candidate : Candidate) → AddsCandidates old candidates → candidates ≡ rest ++ candidate ∷ []
        → AddsNode old new candidate.number (expression_in (named_of candidate.process.now)) candidate.operands → AddsCandidates new rest
    candidates_more old new candidates rest candidate so_far popped adds =
        let top = zip_top (IsCandidate so_far.nodes) so_far.rest candidates rest candidate so_far.candidates_are popped in
        let process = top.first in
        let e = expression_in process in
        let same : expression_in (named_of candidate.process.now) ≡ e = ap expression_in top.holds.process_is in
        let here = text so_far.nodes so_far.apart in
        let leaves = with_expressions [] (listed compounds bodies so_far.before) in
        let written : written_leaves compounds bodies system ≡ so_far.before ++ process ∷ top.others = so_far.written_are ∙ ap (λ l. so_far.before ++ l) top.is in
        let is_plain = plain process (subst (Among process) (sym written) (among_middle process so_far.before top.others)) in
        let adds_it : AddsNode old new candidate.number e candidate.operands = subst (λ f. AddsNode old new candidate.number f candidate.operands) same adds in
        let added = adds_it here leaves top.holds.number_is so_far.table_is (chosen so_far.nodes so_far.apart so_far.before top.others process candidate.operands sizes is_plain written top.holds.operands_are) in
        let consts = map line_const (sequential_lines 0 compounds bodies) in
        let more : with_expression leaves e ≡ with_expressions [] (listed compounds bodies (so_far.before ++ process ∷ [])) =
        sym (with_expressions-append [] (listed compounds bodies so_far.before) (e ∷ []))
        ∙ ap (with_expressions []) (append_assoc consts (map expression_in so_far.before) (e ∷ []) ∙ ap (λ l. consts ++ l) (sym (map-append expression_in so_far.before (process ∷ [])))) in
        record {
          nodes = so_far.nodes;
          apart = so_far.apart;
          before = so_far.before ++ process ∷ [];
          rest = top.others;
          written_are = written ∙ sym (append_assoc so_far.before (process ∷ []) top.others);
          candidates_are = top.zipped;
          table_is = subst (λ l. IsLeafTable here l new) more added;
        }

  -- ---- how many

  pub zip_long : {X Y : Type 0} (R : X → Y → Type 0) (xs : List X) (ys : List Y) → AllZip R xs ys → length xs ≡ length ys
  zip_long R [] [] h = refl
  zip_long R [] (y ∷ ys) h = absurd h
  zip_long R (x ∷ xs) [] h = absurd h
  zip_long R (x ∷ xs) (y ∷ ys) h = ap suc (zip_long R xs ys h.1)

  -- a table behind the constants alone has few leaves
  pub heads_few : (table : LeafTable) (heads : List Head) (candidates : List Candidate) → AddsHeads table heads candidates → length bodies ≤ 1024 → length table.numbers.keys ≤ 65535
  heads_few table heads candidates so_far few =
      let long = zip_long (IsNodeAt so_far.nodes) table.numbers.keys (with_expressions [] (map line_const so_far.before)) so_far.table_is.numbers_are in
      let limit = length_limit [] (map line_const so_far.before) in
      let lines = lines_few 0 compounds bodies in
      omega (arith, long, limit, length-map so_far.before line_const, ap length so_far.lines_are, length-append so_far.before so_far.rest, lines, few)

  -- a table with too many leaves
  pub too_many : (sets : List (List ℕ)) (table : LeafTable) (candidates : List Candidate) → AddsCandidates table candidates → 65535 < length table.numbers.keys → 65535 < length (outline_with sets compounds bodies system).leaves
  too_many sets table candidates so_far many =
      let long = zip_long (IsNodeAt so_far.nodes) table.numbers.keys (with_expressions [] (listed compounds bodies so_far.before)) so_far.table_is.numbers_are in
      let consts = map line_const (sequential_lines 0 compounds bodies) in
      let spread : listed compounds bodies (written_leaves compounds bodies system) ≡ listed compounds bodies so_far.before ++ map expression_in so_far.rest =
      ap (λ l. consts ++ map expression_in l) so_far.written_are ∙ ap (λ l. consts ++ l) (map-append expression_in so_far.before so_far.rest) ∙ sym (append_assoc consts (map expression_in so_far.before) (map expression_in so_far.rest)) in
      let all : (outline_with sets compounds bodies system).leaves ≡ with_expressions (with_expressions [] (listed compounds bodies so_far.before)) (map expression_in so_far.rest) =
      leaves_are compounds sets bodies system ∙ ap (with_expressions []) spread ∙ with_expressions-append [] (listed compounds bodies so_far.before) (map expression_in so_far.rest) in
      let grows = length_grows (with_expressions [] (listed compounds bodies so_far.before)) (map expression_in so_far.rest) in
      omega (arith, long, many, ap length all, grows)
