use Rattle.std.proofs.Common.{◌≡◌, [], ◌∷◌, map, flat_map, take, codes}
use Rattle.indexmap.specs.IndexMap.{keys}
use Rattle.token_grammar.specs.Terminals.{name_at}
use Rattle.pepa_resolver.specs.Numbers.{words_in}
use Rattle.pepa_resolver.specs.NumberSteps.{with_names}
use Rattle.pepa_resolver.proofs.FileLines.{bodies_of}
use Rattle.pepa_resolver.proofs.naming.actions_of.Given as goal

abbrev pub invariant-loop-line : goal.invariant-loop-line
invariant-loop-line l = keys l.actions ≡ with_names (codes "tau" ∷ []) (map (name_at l.source.input.now l.source.tokens.now) (flat_map words_in (bodies_of (take l.line-index l.line-items))))
