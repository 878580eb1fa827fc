use Rattle.probe_words.specs.CoreForm.{core_of}
use Rattle.probe_words.proofs.PathsSpellWords.{ends_spelled, spelled_ends}
use Rattle.probe_words.proofs.PathsInPositions.{spells_in, spells_out}
use Rattle.probe_words.proofs.CoreWordsAgree.{word_core, core_word}
use Rattle.probe_words.proofs.laws.paths_spell_words.Goals as goal

pub returns : goal.returns
returns c = λ r p s are kind w. (
  λ (u, v, g, m, t). spells_in (core_of r) p are kind w (ends_spelled (core_of r) 0 kind w (u, v, word_core r s _ g, m, t)),
  λ h. let (u, v, g, m, t) = spelled_ends (core_of r) 0 kind w (spells_out (core_of r) p are kind w h) in (u, v, core_word r s _ g, m, t),
)
