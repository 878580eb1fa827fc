-- What walking each kind of process does.
use Rattle.std.proofs.Common.{◌≡◌, ℕ, List, [], ◌∷◌, ◌++◌, reverse, Result, Ok, Err, IfOk, refl, sym, ap, ◌∙◌, subst, slice_get, Some, append_assoc}
use Rattle.std.specs.List.{AllZip}
use Rattle.std.proofs.lemmas.List.{reverse-append}
use Rattle.pepa_rates.specs.declared.rate.Rate.{Rate}
use Rattle.pepa_model.specs.Expression.{Expression, Const, Prefixed, Chosen}
use Rattle.pepa_resolver.specs.Named.{Named, NamedConstant, NamedPrefix, NamedChoice, NamedCoop, NamedHide}
use Rattle.pepa_resolver.specs.NamedTypes.{named_of}
use Rattle.pepa_checks.specs.declared.nodes.RateKey.{RateKey}
use Rattle.pepa_checks.specs.declared.nodes.Node.TheVariants as node
use Rattle.pepa_checks.specs.declared.summand.Summand.{Summand}
use Rattle.pepa_checks.specs.declared.summand.Summand.TheVariants.{Constant, Activity}
use Rattle.pepa_checks.specs.declared.expressions.Candidate.{Candidate}
use Rattle.pepa_checks.specs.declared.expressions.Walk.{Walk}
use Rattle.pepa_checks.specs.Outline.{expression_in}
use Rattle.pepa_checks.specs.Activities.{written_followers}
use Rattle.pepa_checks.specs.NodeTables.{rate_by, expressions_by, Builds, IsNodeTable, ExtendsNodes, Has}
use Rattle.pepa_checks.specs.Candidates.{AreOperands, IsCandidate, Stands, Walked}
use Rattle.pepa_checks.proofs.ListReads.{read_more}
use Rattle.pepa_checks.proofs.NodeSteps.{grows_again}

pub if_ok_then : {X E : Type 0} {P Q : X → Type 0} (r : Result X E) → IfOk r P → ((x : X) → P x → Q x) → IfOk r Q
if_ok_then (Ok x) h f = f x h
if_ok_then (Err e) h f = h

-- ---- what stays as more expressions come

operands_more : (es more : List Expression) (process : Named) (operands : List Summand) → AreOperands es process operands → AreOperands (es ++ more) process operands
operands_more es more (NamedConstant at c) operands h = h
operands_more es more (NamedPrefix at action rate next) operands h = (h.0, read_more es more h.0 (expression_in next) h.1, h.2)
operands_more es more (NamedChoice left right) operands h = (h.0, h.1, operands_more es more left h.0 h.2, operands_more es more right h.1 h.3, h.4)
operands_more es more (NamedCoop left right set) operands h = h
operands_more es more (NamedHide inner set) operands h = h

pub operands_grown : (es fs : List Expression) (process : Named) (operands : List Summand) → ExtendsNodes es fs → AreOperands es process operands → AreOperands fs process operands
operands_grown es fs process operands grows h = subst (λ gs. AreOperands gs process operands) (sym grows.1) (operands_more es grows.0 process operands h)

pub number_grown : (es fs : List Expression) (n : ℕ) (e : Expression) → ExtendsNodes es fs → slice_get es n ≡ Some e → slice_get fs n ≡ Some e
number_grown es fs n e grows h = subst (λ gs. slice_get gs n ≡ Some e) (sym grows.1) (read_more es grows.0 n e h)

pub candidate_grown : (es fs : List Expression) (process : Named) (candidate : Candidate) → ExtendsNodes es fs → IsCandidate es process candidate → IsCandidate fs process candidate
candidate_grown es fs process candidate grows h = record {
  process_is = h.process_is;
  number_is = number_grown es fs candidate.number (expression_in process) grows h.number_is;
  operands_are = operands_grown es fs process candidate.operands grows h.operands_are;
}

pub candidates_grown : (es fs : List Expression) (written : List Named) (candidates : List Candidate) → ExtendsNodes es fs → AllZip (IsCandidate es) written candidates → AllZip (IsCandidate fs) written candidates
candidates_grown es fs [] [] grows h = h
candidates_grown es fs [] (candidate ∷ candidates) grows h = h
candidates_grown es fs (process ∷ written) [] grows h = h
candidates_grown es fs (process ∷ written) (candidate ∷ candidates) grows h =
    (candidate_grown es fs process candidate grows h.0, candidates_grown es fs written candidates grows h.1)

-- what stands after a node is added
pub stands_grown : (old new : Walk) (written : List Named) (number : ℕ) (e : Expression) → Stands old written → new.candidates ≡ old.candidates → Has old.nodes.keys new.nodes.keys number e → Stands new written
stands_grown old new written number e stands same has = record {
  table = has.table;
  candidates_are = subst (λ l. AllZip (IsCandidate (expressions_by new.nodes.keys)) written (reverse l)) (sym same)
      (candidates_grown (expressions_by old.nodes.keys) (expressions_by new.nodes.keys) written (reverse old.candidates) has.grows stands.candidates_are);
}

pub candidates_push : (es : List Expression) (written : List Named) (before after : List Candidate) (process : Named) (candidate : Candidate) → AllZip (IsCandidate es) written (reverse before) → IsCandidate es process candidate → after ≡ before ++ candidate ∷ [] → AllZip (IsCandidate es) (process ∷ written) (reverse after)
candidates_push es written before after process candidate h is longer =
    let turned : reverse after ≡ candidate ∷ reverse before = ap reverse longer ∙ reverse-append before (candidate ∷ []) in
    subst (λ l. AllZip (IsCandidate es) (process ∷ written) l) (sym turned) (is, h)

-- ---- each kind of process

pub constant_walked : (old new : Walk) (before after : List Summand) (written : List Named) (at c number : ℕ)
    → Stands old written
    → new.candidates ≡ old.candidates
    → after ≡ before ++ Constant c ∷ []
    → ((e : Expression) → IsNodeTable old.nodes.keys → Builds (expressions_by old.nodes.keys) (node.Constant c) e → Has old.nodes.keys new.nodes.keys number e)
    → Walked old new before after written (NamedConstant at c) number
constant_walked old new before after written at c number stands same pushed add =
    let has = add (Const c) stands.table refl in
    record {
      stands = stands_grown old new written number (Const c) stands same has;
      has = has;
      operands = Constant c ∷ [];
      operands_are = refl;
      after_is = pushed;
    }

pub prefix_walked : (old mid new : Walk) (before after behind nothing : List Summand) (written : List Named) (at action : ℕ) (rate : Rate) (key : RateKey) (next : Named) (candidate : Candidate) (number : ℕ)
    → Stands old written
    → nothing ≡ []
    → Walked old mid nothing behind written next candidate.number
    → named_of candidate.process.now ≡ next
    → candidate.operands ≡ behind
    → new.candidates ≡ mid.candidates ++ candidate ∷ []
    → after ≡ before ++ Activity at action rate candidate.number ∷ []
    → rate_by key ≡ rate
    → ((e : Expression) → IsNodeTable mid.nodes.keys → Builds (expressions_by mid.nodes.keys) (node.Activity action key candidate.number) e → Has mid.nodes.keys new.nodes.keys number e)
    → Walked old new before after written (NamedPrefix at action rate next) number
prefix_walked old mid new before after behind nothing written at action rate key next candidate number stands none inner process_is operands_is kept pushed rate_is add =
    let e = Prefixed action rate (expression_in next) in
    let has = add e inner.stands.table (expression_in next, inner.has.number_is, ap (λ r. Prefixed action r (expression_in next)) (sym rate_is)) in
    let olds = expressions_by old.nodes.keys in
    let mids = expressions_by mid.nodes.keys in
    let news = expressions_by new.nodes.keys in
    let is : IsCandidate news next candidate = record {
      process_is = process_is;
      number_is = number_grown mids news candidate.number (expression_in next) has.grows inner.has.number_is;
      operands_are = subst (λ l. AreOperands news next l) (sym (operands_is ∙ inner.after_is ∙ ap (λ l. l ++ inner.operands) none)) (operands_grown mids news next inner.operands has.grows inner.operands_are);
    } in
    record {
      stands = record {
        table = has.table;
        candidates_are = candidates_push news (written_followers next ++ written) mid.candidates new.candidates next candidate (candidates_grown mids news (written_followers next ++ written) (reverse mid.candidates) has.grows inner.stands.candidates_are) is kept;
      };
      has = record { table = has.table; grows = grows_again olds mids news inner.has.grows has.grows; number_is = has.number_is };
      operands = Activity at action rate candidate.number ∷ [];
      operands_are = (candidate.number, is.number_is, refl);
      after_is = pushed;
    }

pub choice_walked : (old mid end new : Walk) (before between after : List Summand) (written : List Named) (left right : Named) (first second number : ℕ)
    → Walked old mid before between written right second
    → Walked mid end between after (written_followers right ++ written) left first
    → new.candidates ≡ end.candidates
    → ((e : Expression) → IsNodeTable end.nodes.keys → Builds (expressions_by end.nodes.keys) (node.Choice first second) e → Has end.nodes.keys new.nodes.keys number e)
    → Walked old new before after written (NamedChoice left right) number
choice_walked old mid end new before between after written left right first second number behind front same add =
    let olds = expressions_by old.nodes.keys in
    let mids = expressions_by mid.nodes.keys in
    let ends = expressions_by end.nodes.keys in
    let news = expressions_by new.nodes.keys in
    let e = Chosen (expression_in left) (expression_in right) in
    let has = add e front.stands.table (expression_in left, expression_in right, front.has.number_is, number_grown mids ends second (expression_in right) front.has.grows behind.has.number_is, refl) in
    record {
      stands = subst (λ w. Stands new w) (sym (append_assoc (written_followers left) (written_followers right) written)) (stands_grown end new (written_followers left ++ (written_followers right ++ written)) number e front.stands same has);
      has = record { table = has.table; grows = grows_again olds mids news behind.has.grows (grows_again mids ends news front.has.grows has.grows); number_is = has.number_is };
      operands = behind.operands ++ front.operands;
      operands_are = (front.operands, behind.operands, operands_grown ends news left front.operands has.grows front.operands_are, operands_grown mids news right behind.operands (grows_again mids ends news front.has.grows has.grows) behind.operands_are, refl);
      after_is = front.after_is ∙ ap (λ l. l ++ front.operands) behind.after_is ∙ append_assoc before behind.operands front.operands;
    }
