use Rattle.sim_command.proofs.SoundEndings.{sound_ending}
use Rattle.sim_command.proofs.laws.sound_ending.Goals as goal

pub returns : goal.returns
returns c = sound_ending
