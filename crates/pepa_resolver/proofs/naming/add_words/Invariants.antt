use Rattle.std.proofs.Common.{◌≡◌, map, take}
use Rattle.indexmap.specs.IndexMap.{keys}
use Rattle.token_grammar.specs.Terminals.{name_at}
use Rattle.pepa_resolver.specs.NumberSteps.{with_names}
use Rattle.pepa_resolver.proofs.naming.add_words.Given as goal

abbrev pub invariant-loop-word : goal.invariant-loop-word
invariant-loop-word l = keys l.actions ≡ with_names (keys l.fn.actions) (map (name_at l.source.input.now l.source.tokens.now) (take l.word-index l.words))
