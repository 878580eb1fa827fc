use Rattle.std.proofs.Common.{refl}
use Rattle.probe_words.proofs.LayingParts.{rep_adds}
use Rattle.probe_words.proofs.laying.repeated.Goals as goal

pub returns : goal.returns
returns c = λ r at before a. rep_adds r at before c.args.work.now _ c.args.part.now c.set_of-first.result a refl refl c.add_to_each.ensures c.set_of-first.ensures
