-- Walking the lines of a file.
use Rattle.std.proofs.Common.{◌≡◌, ℕ, zero, suc, ◌-◌, ◌<◌, ◌≤◌, Bool, true, false, ◌||◌, List, [], ◌∷◌, ◌++◌, length, drop, reverse, get_or, Some, option_map, inl, inr, refl, sym, ap, ◌∙◌, subst, slice_get, append_assoc, true≢false, arith}
use Rattle.std.specs.List.{AllZip, Contains}
use Rattle.std.proofs.lemmas.List.{reverse-append, append-nil}
use Rattle.std.proofs.lemmas.Option.{slice_get-map, slice_get_read}
use Rattle.std.proofs.lemmas.List.Elements.{Contains-append_left, Contains-append_right, Contains-push}
use Rattle.pepa_model.specs.Expression.{Expression, Const}
use Rattle.pepa_resolver.specs.declared.named.NamedProcess.{NamedProcess}
use Rattle.pepa_resolver.specs.Named.{Named, NamedConstant, NamedPrefix, NamedChoice, NamedCoop, NamedHide, first_at, sequential_parts}
use Rattle.pepa_resolver.specs.NamedTypes.{named_of, bodies_of}
use Rattle.pepa_checks.specs.Structure.{has_system, IsCompoundConstant, NotSequentialAt}
use Rattle.pepa_resolver.specs.Faults.{HasNone}
use Rattle.node_orders.specs.Graphs.{IsTableOf}
use Rattle.pepa_checks.specs.declared.nodes.Node.TheVariants as node
use Rattle.pepa_checks.specs.declared.summand.Summand.{Summand}
use Rattle.pepa_checks.specs.declared.expressions.Walk.{Walk}
use Rattle.pepa_checks.specs.declared.expressions.Head.{Head}
use Rattle.pepa_checks.specs.Activities.{written_followers, written_components, written_in}
use Rattle.pepa_checks.specs.NodeTables.{expressions_by, Builds, IsNodeTable, ExtendsNodes, Has}
use Rattle.pepa_checks.specs.Candidates.{AreOperands, IsCandidate, Stands, Walked, Put, has_system_part, ConstantLine, sequential_lines, IsHead, AreHeads, LineWalked, IsFileWalk, IsWalking}
use Rattle.pepa_checks.proofs.ListReads.{true_or_false, one_read, read_within}
use Rattle.pepa_checks.proofs.NodeSteps.{grows_itself, grows_again}
use Rattle.pepa_checks.proofs.WalkSteps.{operands_grown, number_grown, stands_grown}

-- ---- what is sequential

pub contains_head : {X : Type 0} (x : X) (xs : List X) → Contains (x ∷ xs) x
contains_head x xs = Contains-append_left (x ∷ []) xs x (Contains-push [] x)

pub contains_tail : {X : Type 0} (x : X) (xs : List X) (y : X) → Contains xs y → Contains (x ∷ xs) y
contains_tail x xs y among = Contains-append_right (x ∷ []) xs y among

-- no part that has to be sequential has a system in it
abbrev HasSequentialParts : Named → Type 0
HasSequentialParts process = (part : Named) → Contains (sequential_parts process) part → has_system part ≡ false

neither : (b c : Bool) → b ≡ false → c ≡ false → (b || c) ≡ false
neither b c p q = λ i. p i || q i

plain_parts : (process : Named) → HasSequentialParts process → has_system_part process ≡ false
plain_parts (NamedConstant at c) parts = refl
plain_parts (NamedPrefix at action rate next) parts = parts next (contains_head next (sequential_parts next))
plain_parts (NamedChoice left right) parts =
    let rest = sequential_parts left ++ sequential_parts right in
    neither (has_system left) (has_system right) (parts left (contains_head left (right ∷ rest))) (parts right (contains_tail left (right ∷ rest) right (contains_head right rest)))
plain_parts (NamedCoop left right set) parts =
    neither (has_system_part left) (has_system_part right)
    (plain_parts left (λ part among. parts part (Contains-append_left (sequential_parts left) (sequential_parts right) part among)))
    (plain_parts right (λ part among. parts part (Contains-append_right (sequential_parts left) (sequential_parts right) part among)))
plain_parts (NamedHide inner set) parts = plain_parts inner parts

pub all_parts : (bodies : List Named) (system process : Named) → HasNone (NotSequentialAt bodies system) → Contains (bodies ++ system ∷ []) process → has_system_part process ≡ false
all_parts bodies system process none there = plain_parts process each
  where
    each : HasSequentialParts process
    each part among = elim (true_or_false (has_system part)) [
      | inl holds ↦ absurd (none (first_at part) (process, there, (part, among, inl holds, refl)))
      | inr not ↦ not
    ]

pub plain_body : (compounds : List Bool) (bodies : List Named) (c : ℕ) (body : Named) → IsTableOf (IsCompoundConstant bodies) compounds → slice_get compounds c ≡ Some false → slice_get bodies c ≡ Some body → has_system body ≡ false
plain_body compounds bodies c body table flag read = elim (true_or_false (has_system body)) [
  | inl holds ↦
      let marked = table.complete c (zero, (body, read, holds)) in
      absurd (true≢false (one_read (slice_get compounds c) true false marked flag))
  | inr not ↦ not
]

-- ---- components

pub put_itself : (walk : Walk) (written : List Named) → Stands walk written → Put walk walk written
put_itself walk written stands = record { stands = stands; grows = grows_itself (expressions_by walk.nodes.keys) }

pub coop_put : (old mid new : Walk) (compounds : List Bool) (left right : Named) (written : List Named)
    → Put old mid (written_components compounds right ++ written)
    → Put mid new (written_components compounds left ++ (written_components compounds right ++ written))
    → Put old new ((written_components compounds left ++ written_components compounds right) ++ written)
coop_put old mid new compounds left right written behind front = record {
  stands = subst (λ w. Stands new w) (sym (append_assoc (written_components compounds left) (written_components compounds right) written)) front.stands;
  grows = grows_again (expressions_by old.nodes.keys) (expressions_by mid.nodes.keys) (expressions_by new.nodes.keys) behind.grows front.grows;
}

-- ---- heads

head_grown : (es fs : List Expression) (line : ConstantLine) (head : Head) → ExtendsNodes es fs → IsHead es line head → IsHead fs line head
head_grown es fs line head grows h = record {
  constant_is = h.constant_is;
  number_is = number_grown es fs head.number (Const line.constant) grows h.number_is;
  operands_are = operands_grown es fs line.body head.operands grows h.operands_are;
}

pub heads_grown : (es fs : List Expression) (lines : List ConstantLine) (heads : List Head) → ExtendsNodes es fs → AllZip (IsHead es) lines heads → AllZip (IsHead fs) lines heads
heads_grown es fs [] [] grows h = h
heads_grown es fs [] (head ∷ heads) grows h = h
heads_grown es fs (line ∷ lines) [] grows h = h
heads_grown es fs (line ∷ lines) (head ∷ heads) grows h = (head_grown es fs line head grows h.0, heads_grown es fs lines heads grows h.1)

pub line_walked : (old mid new : Walk) (nothing operands : List Summand) (heads after : List Head) (written : List Named) (lines : List ConstantLine) (constant : ℕ) (body : Named) (head : Head) (whole : ℕ)
    → nothing ≡ []
    → Walked old mid nothing operands written body whole
    → new.candidates ≡ mid.candidates
    → ((e : Expression) → IsNodeTable mid.nodes.keys → Builds (expressions_by mid.nodes.keys) (node.Constant constant) e → Has mid.nodes.keys new.nodes.keys head.number e)
    → head.constant ≡ constant
    → head.operands ≡ operands
    → after ≡ heads ++ head ∷ []
    → AreHeads old lines heads
    → LineWalked new after written lines (record { constant = constant; body = body })
line_walked old mid new nothing operands heads after written lines constant body head whole none inner same add constant_is operands_is longer are =
    let has = add (Const constant) inner.stands.table refl in
    let olds = expressions_by old.nodes.keys in
    let mids = expressions_by mid.nodes.keys in
    let news = expressions_by new.nodes.keys in
    let line : ConstantLine = record { constant = constant; body = body } in
    let turned : reverse after ≡ head ∷ reverse heads = ap reverse longer ∙ reverse-append heads (head ∷ []) in
    let is : IsHead news line head = record {
      constant_is = constant_is;
      number_is = has.number_is;
      operands_are = subst (λ l. AreOperands news body l) (sym (operands_is ∙ inner.after_is ∙ ap (λ l. l ++ inner.operands) none)) (operands_grown mids news body inner.operands has.grows inner.operands_are);
    } in
    record {
      stands = stands_grown mid new (written_followers body ++ written) head.number (Const constant) inner.stands same has;
      heads_are = subst (λ l. AllZip (IsHead news) (line ∷ lines) l) (sym turned) (is, heads_grown olds news lines (reverse heads) (grows_again olds mids news inner.has.grows has.grows) are);
    }

-- ---- one line more

pub drop_read : {X : Type 0} (xs : List X) (i : ℕ) (x : X) → slice_get xs i ≡ Some x → drop i xs ≡ x ∷ drop (suc i) xs
drop_read [] i x e = absurd cc
drop_read (z ∷ xs) zero x e = let same : z ≡ x = cc in ap (λ y. y ∷ xs) same
drop_read (z ∷ xs) (suc i) x e = drop_read xs i x e

pub body_at : (bodies : List NamedProcess) (at : ℕ) (process : NamedProcess) → at < length bodies → process ≡ get_or bodies at process → slice_get (bodies_of bodies) at ≡ Some (named_of process)
body_at bodies at process within read =
    slice_get-map named_of bodies at ∙ ap (λ o. option_map named_of o) (slice_get_read bodies (length bodies) at process refl within read)

pub body_there : (bodies : List Named) (system body : Named) (at : ℕ) → slice_get bodies at ≡ Some body → Contains (bodies ++ system ∷ []) body
body_there bodies system body at read = Contains-append_left bodies (system ∷ []) body (at, read_within bodies at body read, contained bodies at body read)
  where
    contained : (xs : List Named) (k : ℕ) (x : Named) → slice_get xs k ≡ Some x → get_or xs k x ≡ x
    contained [] k x e = refl
    contained (z ∷ xs) zero x e = cc
    contained (z ∷ xs) (suc k) x e = contained xs k x e

module _ (compounds : List Bool) (bodies : List Named) (system : Named) where
  pub begins : (walk : Walk) (heads : List Head) (left : ℕ) → length compounds ≡ length bodies → left ≡ length bodies → heads ≡ [] → Stands walk (written_components compounds system) → IsWalking compounds bodies system walk heads left
  begins walk heads left sizes is none stands =
      let flags : drop left compounds ≡ [] = past compounds left (omega (arith, sizes, is)) in
      let rest : drop left bodies ≡ [] = past bodies left (omega (arith, is)) in
      record {
        within = omega (arith, is);
        stands = subst (λ l. Stands walk (written_in compounds l (drop left bodies) ++ written_components compounds system)) (sym flags) stands;
        heads_are = subst (λ l. AreHeads walk (sequential_lines left l (drop left bodies)) heads) (sym flags) (subst (λ l. AreHeads walk [] l) (sym none) tt);
      }
    where
      past : {X : Type 0} (xs : List X) (i : ℕ) → length xs ≤ i → drop i xs ≡ []
      past [] zero low = refl
      past [] (suc i) low = refl
      past (x ∷ xs) zero low = absurd (omega (arith, low))
      past (x ∷ xs) (suc i) low = past xs i (omega (arith, low))

  rest_in : (left : ℕ) (flag : Bool) (body : Named) → slice_get compounds left ≡ Some flag → slice_get bodies left ≡ Some body → written_in compounds (drop left compounds) (drop left bodies) ≡ written_in compounds (flag ∷ drop (suc left) compounds) (body ∷ drop (suc left) bodies)
  rest_in left flag body flag_is body_is = λ i. written_in compounds (drop_read compounds left flag flag_is i) (drop_read bodies left body body_is i)

  rest_lines : (left : ℕ) (flag : Bool) (body : Named) → slice_get compounds left ≡ Some flag → slice_get bodies left ≡ Some body → sequential_lines left (drop left compounds) (drop left bodies) ≡ sequential_lines left (flag ∷ drop (suc left) compounds) (body ∷ drop (suc left) bodies)
  rest_lines left flag body flag_is body_is = λ i. sequential_lines left (drop_read compounds left flag flag_is i) (drop_read bodies left body body_is i)

  pub compound_line : (old new : Walk) (heads : List Head) (left : ℕ) (body : Named) → slice_get compounds left ≡ Some true → slice_get bodies left ≡ Some body → IsWalking compounds bodies system old heads (suc left)
      → ((written : List Named) → Stands old written → Put old new (written_components compounds body ++ written))
      → IsWalking compounds bodies system new heads left
  compound_line old new heads left body flag_is body_is so_far more =
      let before = written_in compounds (drop (suc left) compounds) (drop (suc left) bodies) in
      let put = more (before ++ written_components compounds system) so_far.stands in
      record {
        within = omega (arith, so_far.within);
        stands = subst (λ w. Stands new w) (sym (ap (λ w. w ++ written_components compounds system) (rest_in left true body flag_is body_is) ∙ append_assoc (written_components compounds body) before (written_components compounds system))) put.stands;
        heads_are = subst (λ l. AreHeads new l heads) (sym (rest_lines left true body flag_is body_is)) (heads_grown (expressions_by old.nodes.keys) (expressions_by new.nodes.keys) (sequential_lines (suc left) (drop (suc left) compounds) (drop (suc left) bodies)) (reverse heads) put.grows so_far.heads_are);
      }

  pub sequential_line : (old new : Walk) (heads after : List Head) (left : ℕ) (body : Named) → slice_get compounds left ≡ Some false → slice_get bodies left ≡ Some body → IsWalking compounds bodies system old heads (suc left)
      → ((written : List Named) (lines : List ConstantLine) → Stands old written → AreHeads old lines heads → LineWalked new after written lines (record { constant = left; body = body }))
      → IsWalking compounds bodies system new after left
  sequential_line old new heads after left body flag_is body_is so_far more =
      let before = written_in compounds (drop (suc left) compounds) (drop (suc left) bodies) in
      let walked = more (before ++ written_components compounds system) (sequential_lines (suc left) (drop (suc left) compounds) (drop (suc left) bodies)) so_far.stands so_far.heads_are in
      record {
        within = omega (arith, so_far.within);
        stands = subst (λ w. Stands new w) (sym (ap (λ w. w ++ written_components compounds system) (rest_in left false body flag_is body_is) ∙ append_assoc (written_followers body) before (written_components compounds system))) walked.stands;
        heads_are = subst (λ l. AreHeads new l after) (sym (rest_lines left false body flag_is body_is)) walked.heads_are;
      }

  pub walk_ends : (walk : Walk) (heads : List Head) (left : ℕ) → left ≡ 0 → IsWalking compounds bodies system walk heads left → IsFileWalk compounds bodies system (record { walk = walk; heads = heads })
  walk_ends walk heads left none so_far =
      let at_end = subst (λ n. IsWalking compounds bodies system walk heads n) none so_far in
      record { stands = at_end.stands; heads_are = at_end.heads_are }

  -- the line in front of those from a number on
  pub compound_more : (old new : Walk) (heads : List Head) (from : ℕ) (body : Named) → 0 < from → slice_get compounds (from - 1) ≡ Some true → slice_get bodies (from - 1) ≡ Some body → IsWalking compounds bodies system old heads from
      → ((written : List Named) → Stands old written → Put old new (written_components compounds body ++ written))
      → IsWalking compounds bodies system new heads (from - 1)
  compound_more old new heads from body some flag_is body_is so_far more =
      let same : from ≡ suc (from - 1) = omega (arith, some) in
      compound_line old new heads (from - 1) body flag_is body_is (subst (λ n. IsWalking compounds bodies system old heads n) same so_far) more

  pub sequential_more : (old new : Walk) (heads after : List Head) (from : ℕ) (body : Named) → 0 < from → slice_get compounds (from - 1) ≡ Some false → slice_get bodies (from - 1) ≡ Some body → IsWalking compounds bodies system old heads from
      → ((written : List Named) (lines : List ConstantLine) → Stands old written → AreHeads old lines heads → LineWalked new after written lines (record { constant = from - 1; body = body }))
      → IsWalking compounds bodies system new after (from - 1)
  sequential_more old new heads after from body some flag_is body_is so_far more =
      let same : from ≡ suc (from - 1) = omega (arith, some) in
      sequential_line old new heads after (from - 1) body flag_is body_is (subst (λ n. IsWalking compounds bodies system old heads n) same so_far) more

  pub system_first : (old new : Walk) (heads : List Head) (left : ℕ) → length compounds ≡ length bodies → left ≡ length bodies → heads ≡ [] → old.nodes.keys ≡ [] → old.candidates ≡ []
      → ((written : List Named) → Stands old written → Put old new (written_components compounds system ++ written))
      → IsWalking compounds bodies system new heads left
  system_first old new heads left sizes is none no_nodes no_candidates more =
      begins new heads left sizes is none (subst (λ w. Stands new w) (append-nil (written_components compounds system)) (more [] empty).stands)
    where
      empty : Stands old []
      empty = record {
        table = subst IsNodeTable (sym no_nodes) (record { one_each = refl; each = λ n node e read. absurd cc; apart = λ m n e read. absurd cc });
        candidates_are = subst (λ l. AllZip (IsCandidate (expressions_by old.nodes.keys)) [] (reverse l)) (sym no_candidates) tt;
      }

pub flag_at : (flags : List Bool) (i : ℕ) (flag : Bool) → i < length flags → get_or flags i false ≡ flag → slice_get flags i ≡ Some flag
flag_at [] i flag low e = absurd (omega (arith, low))
flag_at (other ∷ flags) zero flag low e = ap Some e
flag_at (other ∷ flags) (suc i) flag low e = flag_at flags i flag (omega (arith, low)) e
