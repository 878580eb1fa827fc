use Rattle.std.proofs.Common.{refl}
use Rattle.probe_words.proofs.LayingParts.{tag_adds}
use Rattle.probe_words.proofs.Sets.{only_one}
use Rattle.probe_words.proofs.laying.label_last.Goals as goal

pub returns : goal.returns
returns c = λ r at before a. tag_adds r at before c.args.work.now _ c.args.part.now c.args.label c.with-more.result a refl refl c.add_to_each.ensures
    (only_one c.with-more.result c.args.label c.with-more.ensures)
