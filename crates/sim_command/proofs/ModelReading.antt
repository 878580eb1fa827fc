-- How reading a model ends.
use Rattle.std.proofs.Common.{◌≡◌, ℕ, ◌^◌, ◌≤◌, List, length, Ok, Err, inl, inr, refl, sym, subst}
use Rattle.pepa_lexer.specs.declared.kinds.Token.{Token}
use Rattle.pepa_lexer.specs.declared.kinds.LexFault.{LexFault}
use Rattle.pepa_lexer.specs.declared.kinds.LexFault.TheVariants as lexer
use Rattle.pepa_lexer.specs.TokenLists.{IsTokens}
use Rattle.pepa_lexer.specs.Faults.{AnswersTokens}
use Rattle.pepa_reader.specs.declared.trees.FileTree.{FileTree}
use Rattle.pepa_reader.specs.declared.fault.FileFault.{FileFault}
use Rattle.pepa_reader.specs.declared.fault.FileFault.TheVariants as reader
use Rattle.token_grammar.specs.Terminals.{terminals}
use Rattle.pepa_reader.specs.Trees.{FileNode, file_node_of}
use Rattle.pepa_reader.specs.FileAnswers.{IsFileTree, ReadsFile}
use Rattle.pepa_model.specs.PepaModel.{PepaModel}
use Rattle.pepa_checks.specs.declared.cause.CheckEnd.{CheckEnd}
use Rattle.pepa_checks.specs.declared.cause.CheckEnd.TheVariants as ends
use Rattle.pepa_checks.specs.CheckedFiles.{IsModelOf, Checks}
use Rattle.sim_command.specs.declared.model_reading.ModelFault.{ModelFault}
use Rattle.sim_command.specs.ModelFaults.{fault_from_tokens, fault_from_file, fault_from_check, ReadsModel}

module _ (input : List ℕ) where
  of_tokens : (fault : LexFault) → AnswersTokens input (Err fault) → ReadsModel input (Err (fault_from_tokens fault))
  of_tokens (lexer.BadByte place) h = inl (record { fault = lexer.BadByte place; is_fault = h; named = refl })
  of_tokens (lexer.BadNumber place) h = inl (record { fault = lexer.BadNumber place; is_fault = h; named = refl })
  of_tokens (lexer.LongName place) h = inl (record { fault = lexer.LongName place; is_fault = h; named = refl })
  of_tokens (lexer.OpenComment place) h = inl (record { fault = lexer.OpenComment place; is_fault = h; named = refl })
  of_tokens lexer.Memory h = tt

  pub no_tokens : (fault : LexFault) (end : ModelFault) → end ≡ fault_from_tokens fault → AnswersTokens input (Err fault) → ReadsModel input (Err end)
  no_tokens fault end named h = subst (λ (f : ModelFault). ReadsModel input (Err f)) (sym named) (of_tokens fault h)

  module _ (tokens : List Token) (are : IsTokens input tokens) where
    of_file : (fault : FileFault) → ReadsFile input tokens (Err fault) → ReadsModel input (Err (fault_from_file fault))
    of_file (reader.Expected place) h = inr (inl (record { tokens = tokens; are_tokens = are; fault = reader.Expected place; is_fault = h; named = refl }))
    of_file (reader.TooDeep place) h = inr (inl (record { tokens = tokens; are_tokens = are; fault = reader.TooDeep place; is_fault = h; named = refl }))
    of_file (reader.Array place) h = inr (inl (record { tokens = tokens; are_tokens = are; fault = reader.Array place; is_fault = h; named = refl }))
    of_file (reader.Wildcard place) h = inr (inl (record { tokens = tokens; are_tokens = are; fault = reader.Wildcard place; is_fault = h; named = refl }))
    of_file reader.Memory h = tt

    pub no_file : (fault : FileFault) (end : ModelFault) → end ≡ fault_from_file fault → ReadsFile input tokens (Err fault) → ReadsModel input (Err end)
    no_file fault end named h = subst (λ (f : ModelFault). ReadsModel input (Err f)) (sym named) (of_file fault h)

    module _ (tree : FileTree) (is_tree : IsFileTree (terminals input tokens) tree) where
      of_check : (end : CheckEnd) → Checks input tokens (file_node_of tree) (Err end) → ReadsModel input (Err (fault_from_check end))
      of_check (ends.Refused cause place) h =
          inr (inr (record { tokens = tokens; are_tokens = are; tree = tree; is_tree = is_tree; cause = cause; refused = h; name_is = refl }))
      of_check ends.Memory h = tt

      pub has_model : (m : PepaModel) → length input ≤ 2 ^ 20 → Checks input tokens (file_node_of tree) (Ok m) → ReadsModel input (Ok m)
      has_model m short is = record {
        text = record {
          tokens = tokens;
          are_tokens = are;
          file = is_tree.file;
          spelled = is_tree.spelled;
          is_model = subst (λ (f : FileNode). IsModelOf input tokens f m) is_tree.tree_is is;
        };
        short = short;
        short_lines = is_tree.short;
        short_system = is_tree.short_system;
      }

      pub no_model : (why : CheckEnd) (end : ModelFault) → end ≡ fault_from_check why → Checks input tokens (file_node_of tree) (Err why) → ReadsModel input (Err end)
      no_model why end named h = subst (λ (f : ModelFault). ReadsModel input (Err f)) (sym named) (of_check why h)
