-- A file that is written as the parts of a model are has the model's numbers, and no fault of its names, sets and rates.
use Rattle.std.proofs.Common.{◌≡◌, ℕ, ◌<◌, List, [], length, refl, ap, ◌∙◌}
use Rattle.pepa_lexer.specs.declared.kinds.Token.{Token}
use Rattle.pepa_reader.specs.Trees.{FileNode}
use Rattle.pepa_model.specs.PepaModel.{PepaModel, IsModel, AreDistinct, IsSpelled}
use Rattle.token_grammar.specs.Terminals.{name_at}
use Rattle.pepa_resolver.specs.Outcomes.{looked_up}
use Rattle.pepa_resolver.specs.Named.{Named, Naming}
use Rattle.pepa_resolver.specs.Numbers.{constants_of, actions_of, place_in, rate_of_outcome, naming_of, named_bodies, named_system}
use Rattle.pepa_resolver.specs.ResolvedFiles.{IsNumberedFile}
use Rattle.pepa_text.specs.ComponentText.{name_of}
use Rattle.pepa_printer.proofs.KnownBodies.{body_known}
use Rattle.pepa_printer.proofs.FirstPlaces.{place_found}
use Rattle.pepa_printer.proofs.PrintedFiles.{IsPrintedFile}
use Rattle.pepa_printer.proofs.PrintedNames.{printed_constants, printed_actions}
use Rattle.pepa_printer.proofs.PrintedRates.{rate_good}
use Rattle.pepa_printer.proofs.PrintedProcesses.{IsNamingOf, shows_shape, shows_lines}
use Rattle.pepa_printer.proofs.PrintedFaults.{printed_fine, printed_rates}
use Rattle.pepa_printer.proofs.Shown.{AreShown}

pub record HasNumbers (input : List ℕ) (tokens : List Token) (m : PepaModel) (file : FileNode) : Type 0 where
  pub bodies : List Named
  pub system : Named
  pub numbered : IsNumberedFile input tokens file [] bodies system
  pub shown : AreShown m bodies system
  pub constants_are : constants_of (name_at input tokens) file ≡ m.constants
  pub actions_are : actions_of (name_at input tokens) file ≡ m.actions

-- the place of a name among names that are these is its number
place_named : (names others : List (List ℕ)) (n : ℕ) (name : List ℕ) → names ≡ others → AreDistinct others → n < length others → name ≡ name_of others n → place_in names name ≡ n
place_named names others n name same distinct lt e =
    ap (λ (list : List (List ℕ)). place_in list name) same ∙ ap (place_in others) e ∙ place_found others n distinct lt

printed_naming : (input : List ℕ) (tokens : List Token) (m : PepaModel) (file : FileNode) → IsModel m → IsPrintedFile input tokens m file
    → IsNamingOf input tokens m (naming_of (name_at input tokens) tokens file [])
printed_naming input tokens m file is printed = record {
  constant_is = λ i c lt e. place_named (constants_of (name_at input tokens) file) m.constants c (name_at input tokens i) (printed_constants input tokens m file is printed) is.numbered.constants lt e;
  action_is = λ i a lt e. place_named (actions_of (name_at input tokens) file) m.actions a (name_at input tokens i) (printed_actions input tokens m file is printed) is.numbered.actions lt e;
  rate_is = λ r node at written. ap rate_of_outcome (rate_good tokens (looked_up (name_at input tokens) file.rates []) r node at written);
}

pub printed_numbers : (input : List ℕ) (tokens : List Token) (m : PepaModel) (file : FileNode) → IsModel m → IsSpelled m → IsPrintedFile input tokens m file → HasNumbers input tokens m file
printed_numbers input tokens m file is spelled printed =
    let naming : Naming = naming_of (name_at input tokens) tokens file [] in
    let fits : IsNamingOf input tokens m naming = printed_naming input tokens m file is printed in
    record {
      bodies = named_bodies naming file;
      system = named_system naming file;
      numbered = record {
        fine = printed_fine input tokens m file is spelled printed;
        rates = printed_rates input tokens m file is spelled printed;
        bodies_are = refl;
        system_is = refl;
      };
      shown = record {
        bodies_are = shows_lines input tokens m naming fits is m.constants m.bodies file.processes (λ c d at. (body_known m is c d at, spelled.bodies c d at)) printed.lines;
        system_is = shows_shape input tokens m naming fits is m.system file.system is.system spelled.system printed.system;
      };
      constants_are = printed_constants input tokens m file is printed;
      actions_are = printed_actions input tokens m file is printed;
    }
