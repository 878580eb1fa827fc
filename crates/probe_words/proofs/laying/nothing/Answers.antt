use Rattle.std.proofs.Common.{refl}
use Rattle.probe_words.proofs.LayingParts.{nothing_adds}
use Rattle.probe_words.proofs.laying.nothing.Goals as goal

pub returns : goal.returns
returns c = λ work even. nothing_adds work _ even c.new.ensures refl refl
