-- An input has one model or one fault, and not both.
use Rattle.std.proofs.Common.{◌≡◌, ℕ, List, Some, slice_get, inl, inr, sym, ap, subst, ◌∙◌}
use Rattle.pepa_lexer.specs.declared.kinds.Place.{Place}
use Rattle.pepa_lexer.specs.declared.kinds.Token.{Token}
use Rattle.pepa_lexer.proofs.OneAnswer.{one_list, no_fault, one_fault}
use Rattle.token_grammar.specs.declared.terminal.Terminal.{Terminal}
use Rattle.pepa_reader.specs.declared.trees.FileTree.{FileTree}
use Rattle.pepa_reader.specs.declared.fault.FileFault.{FileFault}
use Rattle.token_grammar.specs.Terminals.{terminals}
use Rattle.pepa_reader.specs.Trees.{FileNode, file_node_of, file_tree}
use Rattle.pepa_reader.specs.FileAnswers.{IsFaultAt, IsFileFault, IsFileTree}
use Rattle.pepa_reader.proofs.ItemLaws.{one_file}
use Rattle.pepa_reader.proofs.FileLaws as files
use Rattle.pepa_model.specs.PepaModel.{PepaModel}
use Rattle.pepa_checks.specs.declared.cause.CheckCause.{CheckCause}
use Rattle.pepa_checks.specs.CheckedFiles.{IsRefused, IsModelOf, IsShortTextOf}
use Rattle.pepa_checks.proofs.ProbeLines.{one_refusal, refused_or_read}
use Rattle.sim_report.specs.declared.fault.FaultName.{FaultName}
use Rattle.sim_command.specs.declared.model_reading.ModelFault.{ModelFault}
use Rattle.sim_command.specs.declared.model_reading.ModelFault.TheVariants.{Refused}
use Rattle.sim_command.specs.ModelFaults.{fault_from_tokens, fault_from_file, cause_name, IsTokensFault, IsGrammarFault, IsCheckFault, IsModelFault}

-- ---- a fault has one place and one name

abbrev Same : Place → Place → FaultName → FaultName → Type 0
Same here there name other = (here ≡ there) × (name ≡ other)

same_parts : (here there : Place) (name other : FaultName) → Refused here name ≡ Refused there other → Same here there name other
same_parts here there name other e = (cc, cc)

same_named : {X : Type 0} (named : X → ModelFault) (x y : X) (here there : Place) (name other : FaultName) → x ≡ y → named x ≡ Refused here name → named y ≡ Refused there other → Same here there name other
same_named named x y here there name other same h k = same_parts here there name other (sym h ∙ ap named same ∙ k)

-- ---- files

file_or_fault : (input : List ℕ) (tokens : List Token) (fault : FileFault) (tree : FileTree) → IsFileFault input tokens fault → IsFileTree (terminals input tokens) tree → ⊥
file_or_fault input tokens fault tree h t =
    files.no_fault t.file h.i fault t.short t.short_system (subst (λ (ts : List Terminal). IsFaultAt ts h.i fault) t.spelled h.is_fault)

one_node : (spelled : List Terminal) (tree other : FileTree) → IsFileTree spelled tree → IsFileTree spelled other → file_node_of tree ≡ file_node_of other
one_node spelled tree other t u = t.tree_is ∙ ap file_tree (one_file t.file u.file (sym t.spelled ∙ u.spelled)) ∙ sym u.tree_is

same_token : (tokens : List Token) (i j : ℕ) (x y : Token) → i ≡ j → slice_get tokens i ≡ Some x → slice_get tokens j ≡ Some y → x ≡ y
same_token tokens i j x y same h k = cc

-- a file is refused at one place, for one cause
same_refusal : (input : List ℕ) (tokens : List Token) (tree other : FileTree) (cause because : CheckCause) (here there : Place)
    → IsFileTree (terminals input tokens) tree → IsFileTree (terminals input tokens) other
    → IsRefused input tokens (file_node_of tree) cause here → IsRefused input tokens (file_node_of other) because there
    → (here ≡ there) × (cause ≡ because)
same_refusal input tokens tree other cause because here there t u h k =
    let node = one_node (terminals input tokens) tree other t u in
    let k' : IsRefused input tokens (file_node_of tree) because there = subst (λ (f : FileNode). IsRefused input tokens f because there) (sym node) k in
    let (same_cause, same_index) = one_refusal input tokens tree cause because h.i k'.i t h.refused k'.refused in
    (h.place_is ∙ ap (λ (x : Token). x.place) (same_token tokens h.i k'.i h.token k'.token same_index h.is_token k'.is_token) ∙ sym k'.place_is, same_cause)

-- ---- faults

module _ (input : List ℕ) (here there : Place) (name other : FaultName) where
  two_of_tokens : IsTokensFault input here name → IsTokensFault input there other → Same here there name other
  two_of_tokens h k = same_named fault_from_tokens h.fault k.fault here there name other (one_fault input h.fault k.fault h.is_fault k.is_fault) h.named k.named

  two_of_grammar : IsGrammarFault input here name → IsGrammarFault input there other → Same here there name other
  two_of_grammar h k =
      let tokens = one_list input k.tokens h.tokens k.are_tokens h.are_tokens in
      let k_fault = subst (λ (l : List Token). IsFileFault input l k.fault) tokens k.is_fault in
      same_named fault_from_file h.fault k.fault here there name other (files.one_fault input h.tokens h.fault k.fault h.is_fault k_fault) h.named k.named

  two_of_check : IsCheckFault input here name → IsCheckFault input there other → Same here there name other
  two_of_check h k =
      let tokens = one_list input k.tokens h.tokens k.are_tokens h.are_tokens in
      let k_tree : IsFileTree (terminals input h.tokens) k.tree = subst (λ (l : List Token). IsFileTree (terminals input l) k.tree) tokens k.is_tree in
      let k_refused : IsRefused input h.tokens (file_node_of k.tree) k.cause there =
      subst (λ (l : List Token). IsRefused input l (file_node_of k.tree) k.cause there) tokens k.refused in
      let (place, cause) = same_refusal input h.tokens h.tree k.tree h.cause k.cause here there h.is_tree k_tree h.refused k_refused in
      (place, h.name_is ∙ ap cause_name cause ∙ sym k.name_is)

-- a fault of the grammar and one of the check exclude each other
no_file_of : (input : List ℕ) (here there : Place) (name other : FaultName) → IsGrammarFault input here name → IsCheckFault input there other → ⊥
no_file_of input here there name other h k =
    let tokens = one_list input k.tokens h.tokens k.are_tokens h.are_tokens in
    file_or_fault input h.tokens h.fault k.tree h.is_fault (subst (λ (l : List Token). IsFileTree (terminals input l) k.tree) tokens k.is_tree)

pub one_model_fault : (input : List ℕ) (here there : Place) (name other : FaultName) → IsModelFault input here name → IsModelFault input there other → (here ≡ there) × (name ≡ other)
one_model_fault input here there name other (inl h) (inl k) = two_of_tokens input here there name other h k
one_model_fault input here there name other (inl h) (inr (inl k)) = absurd (no_fault input k.tokens h.fault k.are_tokens h.is_fault)
one_model_fault input here there name other (inl h) (inr (inr k)) = absurd (no_fault input k.tokens h.fault k.are_tokens h.is_fault)
one_model_fault input here there name other (inr (inl h)) (inl k) = absurd (no_fault input h.tokens k.fault h.are_tokens k.is_fault)
one_model_fault input here there name other (inr (inl h)) (inr (inl k)) = two_of_grammar input here there name other h k
one_model_fault input here there name other (inr (inl h)) (inr (inr k)) = absurd (no_file_of input here there name other h k)
one_model_fault input here there name other (inr (inr h)) (inl k) = absurd (no_fault input h.tokens k.fault h.are_tokens k.is_fault)
one_model_fault input here there name other (inr (inr h)) (inr (inl k)) = absurd (no_file_of input there here other name k h)
one_model_fault input here there name other (inr (inr h)) (inr (inr k)) = two_of_check input here there name other h k

pub model_or_fault : (input : List ℕ) (m : PepaModel) (place : Place) (name : FaultName) → IsShortTextOf input m → ¬ IsModelFault input place name
model_or_fault input m place name r (inl h) = no_fault input r.text.tokens h.fault r.text.are_tokens h.is_fault
model_or_fault input m place name r (inr (inl h)) =
    let tokens = one_list input h.tokens r.text.tokens h.are_tokens r.text.are_tokens in
    let there : IsFileFault input r.text.tokens h.fault = subst (λ (l : List Token). IsFileFault input l h.fault) tokens h.is_fault in
    files.no_fault r.text.file there.i h.fault r.short_lines r.short_system (subst (λ (ts : List Terminal). IsFaultAt ts there.i h.fault) r.text.spelled there.is_fault)
model_or_fault input m place name r (inr (inr h)) =
    let tokens = one_list input h.tokens r.text.tokens h.are_tokens r.text.are_tokens in
    let h_tree : IsFileTree (terminals input r.text.tokens) h.tree = subst (λ (l : List Token). IsFileTree (terminals input l) h.tree) tokens h.is_tree in
    let h_refused : IsRefused input r.text.tokens (file_node_of h.tree) h.cause place =
    subst (λ (l : List Token). IsRefused input l (file_node_of h.tree) h.cause place) tokens h.refused in
    let file : r.text.file ≡ h_tree.file = one_file r.text.file h_tree.file (sym r.text.spelled ∙ h_tree.spelled) in
    let node : file_tree r.text.file ≡ file_node_of h.tree = ap file_tree file ∙ sym h_tree.tree_is in
    refused_or_read input r.text.tokens h.tree h.cause h_refused.i m h_tree h_refused.refused (subst (λ (f : FileNode). IsModelOf input r.text.tokens f m) node r.text.is_model)
