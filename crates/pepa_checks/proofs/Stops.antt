-- What is told of a file that is refused up to its structure.
use Rattle.std.proofs.Common.{◌≡◌, ℕ, ◌<◌, List, length, sym, subst, Some, slice_get}
use Rattle.pepa_rates.specs.declared.rate.Rate.{Rate}
use Rattle.pepa_lexer.specs.declared.kinds.Token.{Token}
use Rattle.pepa_reader.specs.declared.trees.FileTree.{FileTree}
use Rattle.token_grammar.specs.Terminals.{terminals}
use Rattle.pepa_reader.specs.Trees.{FileNode, file_node_of}
use Rattle.pepa_reader.specs.FileAnswers.{IsFileTree}
use Rattle.pepa_resolver.specs.declared.refusal.ResolveCause.{ResolveCause}
use Rattle.pepa_resolver.specs.declared.refusal.ResolveCause.TheVariants.{TooManyLines, Twice, UnknownName, TauInSet, BadRate}
use Rattle.pepa_resolver.specs.NamesAnswers.{IsNamesRefusedFor}
use Rattle.pepa_resolver.specs.Named.{Named}
use Rattle.pepa_resolver.specs.ResolvedFiles.{IsNumberedFile}
use Rattle.pepa_resolver.proofs.Within.{refused_within}
use Rattle.pepa_checks.specs.declared.cause.CheckCause.{CheckCause}
use Rattle.pepa_checks.specs.declared.cause.CheckCause.TheVariants as causes
use Rattle.pepa_checks.specs.declared.structure.Misbuilt.{Misbuilt}
use Rattle.pepa_checks.specs.declared.structure.Misbuilt.TheVariants.{NotSequential, ModelCycle, Unguarded}
use Rattle.pepa_checks.specs.StructureAnswers.{IsMisbuiltBy}
use Rattle.pepa_checks.specs.StructuredFiles.{told_cause_of, IsMisbuiltFile, IsStoppedFor, HasItsLine, IsToldAt}
use Rattle.pepa_checks.proofs.Structured.{part_within, compound_line, unguarded_line, line_within}

pub told_stops : (input : List ℕ) (tokens : List Token) (file : FileNode) (cause : ResolveCause) (i : ℕ) → IsNamesRefusedFor input tokens file cause i → IsStoppedFor input tokens file (told_cause_of cause) i
told_stops input tokens file TooManyLines i h = h
told_stops input tokens file Twice i h = h
told_stops input tokens file UnknownName i h = h
told_stops input tokens file TauInSet i h = h
told_stops input tokens file BadRate i h = h

module _ (input : List ℕ) (tokens : List Token) (file : FileNode) (values : List Rate) (bodies : List Named) (system : Named) (numbered : IsNumberedFile input tokens file values bodies system) where
  pub has_line : (fault : Misbuilt) → IsMisbuiltBy bodies system fault → HasItsLine file.processes fault
  has_line (NotSequential i) h = tt
  has_line (ModelCycle c) h = compound_line input tokens file values bodies system c numbered h.1
  has_line (Unguarded c) h = unguarded_line input tokens file values bodies system c numbered h.2

  pub misbuilt_stops : (fault : Misbuilt) (cause : CheckCause) (at : ℕ) → IsMisbuiltBy bodies system fault → IsToldAt file.processes fault cause at → IsStoppedFor input tokens file cause at
  misbuilt_stops (NotSequential i) cause at h told =
      subst (λ (because : CheckCause). IsStoppedFor input tokens file because at) (sym told.0)
      (subst (λ (j : ℕ). IsMisbuiltFile input tokens file causes.NotSequential j) (sym told.1) (record { values = values; bodies = bodies; system = system; numbered = numbered; misbuilt = h }))
  misbuilt_stops (ModelCycle c) cause at h told =
      subst (λ (because : CheckCause). IsStoppedFor input tokens file because at) (sym told.0)
      (record { values = values; bodies = bodies; system = system; numbered = numbered; misbuilt = (h.0, (c, h.1, told.1)) })
  misbuilt_stops (Unguarded c) cause at h told =
      subst (λ (because : CheckCause). IsStoppedFor input tokens file because at) (sym told.0)
      (record { values = values; bodies = bodies; system = system; numbered = numbered; misbuilt = (h.0, h.1, (c, h.2, told.1)) })

-- the index is that of a token
misbuilt_within : (input : List ℕ) (tokens : List Token) (tree : FileTree) (cause : CheckCause) (i : ℕ) → IsFileTree (terminals input tokens) tree → IsMisbuiltFile input tokens (file_node_of tree) cause i → i < length tokens
misbuilt_within input tokens tree causes.NotSequential i is h = part_within input tokens tree h.values h.bodies h.system i is h.numbered h.misbuilt
misbuilt_within input tokens tree causes.ModelCycle i is h = line_within input tokens tree h.misbuilt.1.0 i is h.misbuilt.1.2
misbuilt_within input tokens tree causes.Unguarded i is h = line_within input tokens tree h.misbuilt.2.0 i is h.misbuilt.2.2
misbuilt_within input tokens tree _ i is h = elim h.misbuilt [ ]

pub stopped_within : (input : List ℕ) (tokens : List Token) (tree : FileTree) (cause : CheckCause) (i : ℕ) → IsFileTree (terminals input tokens) tree → IsStoppedFor input tokens (file_node_of tree) cause i → i < length tokens
stopped_within input tokens tree causes.TooMany i is h = refused_within input tokens tree TooManyLines i is h
stopped_within input tokens tree causes.Twice i is h = refused_within input tokens tree Twice i is h
stopped_within input tokens tree causes.UnknownName i is h = refused_within input tokens tree UnknownName i is h
stopped_within input tokens tree causes.TauInSet i is h = refused_within input tokens tree TauInSet i is h
stopped_within input tokens tree causes.BadRate i is h = refused_within input tokens tree BadRate i is h
stopped_within input tokens tree causes.NotSequential i is h = misbuilt_within input tokens tree causes.NotSequential i is h
stopped_within input tokens tree causes.ModelCycle i is h = misbuilt_within input tokens tree causes.ModelCycle i is h
stopped_within input tokens tree causes.Unguarded i is h = misbuilt_within input tokens tree causes.Unguarded i is h
stopped_within input tokens tree causes.MixedChoice i is h = elim h [ ]
stopped_within input tokens tree causes.Unsupported i is h = elim h [ ]
