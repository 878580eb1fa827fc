-- The printed text of a model has this model.
use Rattle.std.proofs.Common.{◌≡◌, ℕ, List, [], Result, Ok, Err, IfOk, sym, ap, subst}
use Rattle.std.specs.List.{AllZip}
use Rattle.pepa_lexer.specs.declared.kinds.Token.{Token}
use Rattle.pepa_reader.specs.Trees.{FileNode, file_tree}
use Rattle.pepa_model.specs.PepaModel.{PepaModel, IsModel}
use Rattle.token_grammar.specs.Terminals.{name_at}
use Rattle.pepa_resolver.specs.Numbers.{actions_of}
use Rattle.pepa_checks.specs.Outline.{Outline}
use Rattle.pepa_checks.specs.Activities.{AreActivitiesOf, HasNoMixed}
use Rattle.pepa_checks.specs.Limits.{PassesLimit}
use Rattle.pepa_checks.specs.CheckedFiles.{Sound, outline, IsModelOf, IsTextOf}
use Rattle.pepa_checks.proofs.OneModel.{one_text}
use Rattle.pepa_printer.specs.ModelText.{model_text}
use Rattle.pepa_printer.proofs.Shown.{model_outline}
use Rattle.pepa_printer.proofs.PrintedFiles.{IsPrintedFile}
use Rattle.pepa_printer.proofs.PrintedTokens.{HasTokens, printed_tokens}
use Rattle.pepa_printer.proofs.PrintedTrees.{HasFile, printed_tree}
use Rattle.pepa_printer.proofs.PrintedNumbers.{HasNumbers, printed_numbers}
use Rattle.pepa_printer.proofs.ShownOutlines.{HasOutline, shown_outline}
use Rattle.pepa_printer.proofs.ModelOutlines.{within_limits, has_no_mixed, has_activities}

printed_model : (input : List ℕ) (tokens : List Token) (m : PepaModel) (file : FileNode) → IsModel m → IsPrintedFile input tokens m file → IsModelOf input tokens file m
printed_model input tokens m file is printed =
    let n : HasNumbers input tokens m file = printed_numbers input tokens m file is is.spelled printed in
    let o : HasOutline m n.bodies n.system = shown_outline m n.bodies n.system is n.shown in
    let sound : Sound input tokens file = record {
      values = [];
      bodies = n.bodies;
      system = n.system;
      numbered = n.numbered;
      structured = o.structured;
      compounds = o.compounds;
      one_each = o.one_each;
      table = o.table;
    } in
    let same : model_outline m ≡ outline sound = sym o.outline_is in
    record {
      no_probes = printed.no_probes;
      sound = sound;
      within =
          subst (λ (l : Outline). ¬ PassesLimit (actions_of (name_at input tokens) file) l) same
          (subst (λ (a : List (List ℕ)). ¬ PassesLimit a (model_outline m)) (sym n.actions_are) (within_limits m is));
      unmixed = subst HasNoMixed same (has_no_mixed m is);
      constants_are = sym n.constants_are;
      actions_are = sym n.actions_are;
      bodies_are = ap (λ (l : Outline). l.definitions) same;
      sets_are = ap (λ (l : Outline). l.sets) same;
      leaves_are = ap (λ (l : Outline). l.leaves) same;
      system_is = ap (λ (l : Outline). l.system) same;
      activities_are = subst (λ (l : Outline). AllZip (AreActivitiesOf l) m.leaves m.activities) same (has_activities m is);
    }

pub reads_back : (m : PepaModel) → IsModel m → IsTextOf (model_text m) m
reads_back m is =
    let t : HasTokens m = printed_tokens m is is.spelled in
    let f : HasFile (model_text m) t.tokens m = printed_tree (model_text m) t.tokens m is is.spelled t.pieces in
    record {
      tokens = t.tokens;
      are_tokens = t.are_tokens;
      file = f.file;
      spelled = f.spelled;
      is_model = printed_model (model_text m) t.tokens m (file_tree f.file) is f.printed;
    }

pub no_other : (m n : PepaModel) → IsModel m → IsTextOf (model_text m) n → n ≡ m
no_other m n is other = one_text (model_text m) n m other (reads_back m is)

pub one_text_each : (m n : PepaModel) → IsModel m → IsModel n → model_text m ≡ model_text n → m ≡ n
one_text_each m n is also same = sym (no_other m n is (subst (λ (text : List ℕ). IsTextOf text n) (sym same) (reads_back n also)))

pub written_back : {E : Type 0} (m : PepaModel) (result : Result (List ℕ) E) → IsModel m → IfOk result (λ text. text ≡ model_text m) → IfOk result (λ text. IsTextOf text m)
written_back m (Ok text) is h = subst (λ (t : List ℕ). IsTextOf t m) (sym h) (reads_back m is)
written_back m (Err e) is h = tt
