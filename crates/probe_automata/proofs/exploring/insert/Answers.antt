use Rattle.std.proofs.Common.{ap, ◌∙◌, sym, List, ℕ}
use Rattle.probe_words.specs.ProbeTables.{place_among}
use Rattle.probe_automata.proofs.Exploration.{insert_place}
use Rattle.probe_automata.proofs.exploring.insert.Goals as goal

pub returns-clause-place : goal.returns-clause-place
returns-clause-place c = insert_place c.args.set c.args.sets.now.keys c.in_ok-place.place c.in_ok-place.ensures.index ∙ ap (λ (z : List ℕ). place_among c.args.set z) (sym c.in_ok-place.ensures.keys)
