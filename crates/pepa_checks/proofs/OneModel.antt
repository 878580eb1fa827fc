-- A text has at most one model.
use Rattle.std.proofs.Common.{◌≡◌, ℕ, Bool, List, [], ◌∷◌, length, refl, sym, ap, ◌∙◌, subst}
use Rattle.std.specs.List.{AllZip}
use Rattle.pepa_lexer.specs.declared.kinds.Token.{Token}
use Rattle.pepa_lexer.proofs.OneAnswer.{one_list}
use Rattle.pepa_reader.specs.Grammar.{File, file_spelled}
use Rattle.token_grammar.specs.Terminals.{terminals}
use Rattle.pepa_reader.specs.Trees.{FileNode, file_tree}
use Rattle.pepa_reader.proofs.ItemLaws.{one_file}
use Rattle.pepa_model.specs.Expression.{Expression, Definition, Shape}
use Rattle.pepa_model.specs.PepaModel.{PepaModel}
use Rattle.pepa_model.specs.declared.term.Activity.{Activity}
use Rattle.pepa_resolver.specs.Named.{Named}
use Rattle.pepa_checks.specs.Structure.{IsCompoundConstant}
use Rattle.node_orders.specs.Graphs.{IsTableOf}
use Rattle.pepa_resolver.proofs.OneNumbering.{one_table, one_list_of_bodies, one_named_system}
use Rattle.pepa_checks.specs.Outline.{Outline, outline_of}
use Rattle.pepa_checks.specs.Activities.{AreActivitiesOf, activities_in}
use Rattle.pepa_checks.specs.CheckedFiles.{Sound, outline, IsModelOf, IsTextOf, IsShortTextOf}
use Rattle.pepa_checks.proofs.OneTree.{one_opening}

-- ---- a file without a fault of its structure

module _ (input : List ℕ) (tokens : List Token) (file : FileNode) (s t : Sound input tokens file) where
  pub same_bodies : s.bodies ≡ t.bodies
  same_bodies = one_list_of_bodies input tokens file s.values t.values s.bodies t.bodies s.system t.system s.numbered t.numbered

  pub same_system : s.system ≡ t.system
  same_system = one_named_system input tokens file s.values t.values s.bodies t.bodies s.system t.system s.numbered t.numbered

  pub same_compounds : s.compounds ≡ t.compounds
  same_compounds =
      one_table (IsCompoundConstant s.bodies) s.compounds t.compounds (s.one_each ∙ ap (λ (l : List Named). length l) same_bodies ∙ sym t.one_each) s.table
      (subst (λ (bs : List Named). IsTableOf (IsCompoundConstant bs) t.compounds) (sym same_bodies) t.table)

  pub same_outline : outline s ≡ outline t
  same_outline =
      ap (λ (c : List Bool). outline_of c s.bodies s.system) same_compounds
      ∙ ap (λ (bs : List Named). outline_of t.compounds bs s.system) same_bodies
      ∙ ap (outline_of t.compounds t.bodies) same_system

-- ---- models

one_activities : (o : Outline) (leaves : List Expression) (xs ys : List (List Activity)) → AllZip (AreActivitiesOf o) leaves xs → AllZip (AreActivitiesOf o) leaves ys → xs ≡ ys
one_activities o [] [] [] h k = refl
one_activities o [] (x ∷ xs) ys h k = absurd h
one_activities o [] [] (y ∷ ys) h k = absurd k
one_activities o (e ∷ leaves) [] ys h k = absurd h
one_activities o (e ∷ leaves) (x ∷ xs) [] h k = absurd k
one_activities o (e ∷ leaves) (x ∷ xs) (y ∷ ys) h k =
    let same = one_opening o.definitions e h.0.0 k.0.0 h.0.1 k.0.1 in
    let first : x ≡ y = h.0.2 ∙ ap (activities_in o.leaves) same ∙ sym k.0.2 in
    ap (λ (z : List Activity). z ∷ xs) first ∙ ap (λ (l : List (List Activity)). y ∷ l) (one_activities o leaves xs ys h.1 k.1)

abbrev made : (constants actions : List (List ℕ)) (bodies : List Definition) (leaves : List Expression) (activities : List (List Activity)) (sets : List (List ℕ)) (system : Shape) → PepaModel
made constants actions bodies leaves activities sets system = record { constants = constants; actions = actions; bodies = bodies; leaves = leaves; activities = activities; sets = sets; system = system }

pub same_parts : (m n : PepaModel) → m.constants ≡ n.constants → m.actions ≡ n.actions → m.bodies ≡ n.bodies → m.leaves ≡ n.leaves → m.activities ≡ n.activities → m.sets ≡ n.sets → m.system ≡ n.system → m ≡ n
same_parts m n c a b l t s y =
    ap (λ (x : List (List ℕ)). made x m.actions m.bodies m.leaves m.activities m.sets m.system) c
    ∙ ap (λ (x : List (List ℕ)). made n.constants x m.bodies m.leaves m.activities m.sets m.system) a
    ∙ ap (λ (x : List Definition). made n.constants n.actions x m.leaves m.activities m.sets m.system) b
    ∙ ap (λ (x : List Expression). made n.constants n.actions n.bodies x m.activities m.sets m.system) l
    ∙ ap (λ (x : List (List Activity)). made n.constants n.actions n.bodies n.leaves x m.sets m.system) t
    ∙ ap (λ (x : List (List ℕ)). made n.constants n.actions n.bodies n.leaves n.activities x m.system) s
    ∙ ap (made n.constants n.actions n.bodies n.leaves n.activities n.sets) y

pub one_file_model : (input : List ℕ) (tokens : List Token) (file : FileNode) (m n : PepaModel) → IsModelOf input tokens file m → IsModelOf input tokens file n → m ≡ n
one_file_model input tokens file m n a b =
    let same = same_outline input tokens file a.sound b.sound in
    let leaves : m.leaves ≡ n.leaves = a.leaves_are ∙ ap (λ (o : Outline). o.leaves) same ∙ sym b.leaves_are in
    let others : AllZip (AreActivitiesOf (outline a.sound)) m.leaves n.activities =
    subst (λ (l : List Expression). AllZip (AreActivitiesOf (outline a.sound)) l n.activities) (sym leaves)
    (subst (λ (o : Outline). AllZip (AreActivitiesOf o) n.leaves n.activities) (sym same) b.activities_are) in
    same_parts m n
    (a.constants_are ∙ sym b.constants_are) (a.actions_are ∙ sym b.actions_are)
    (a.bodies_are ∙ ap (λ (o : Outline). o.definitions) same ∙ sym b.bodies_are)
    leaves
    (one_activities (outline a.sound) m.leaves m.activities n.activities a.activities_are others)
    (a.sets_are ∙ ap (λ (o : Outline). o.sets) same ∙ sym b.sets_are)
    (a.system_is ∙ ap (λ (o : Outline). o.system) same ∙ sym b.system_is)

-- ---- texts

pub one_text : (input : List ℕ) (m n : PepaModel) → IsTextOf input m → IsTextOf input n → m ≡ n
one_text input m n a b =
    let tokens : a.tokens ≡ b.tokens = one_list input a.tokens b.tokens a.are_tokens b.are_tokens in
    let spelled : terminals input a.tokens ≡ file_spelled b.file = ap (terminals input) tokens ∙ b.spelled in
    let file : a.file ≡ b.file = one_file a.file b.file (sym a.spelled ∙ spelled) in
    let model : IsModelOf input a.tokens (file_tree a.file) n =
    subst (λ (f : File). IsModelOf input a.tokens (file_tree f) n) (sym file) (subst (λ (l : List Token). IsModelOf input l (file_tree b.file) n) (sym tokens) b.is_model) in
    one_file_model input a.tokens (file_tree a.file) m n a.is_model model

pub one_model : (input : List ℕ) (m n : PepaModel) → IsShortTextOf input m → IsShortTextOf input n → m ≡ n
one_model input m n a b = one_text input m n a.text b.text
