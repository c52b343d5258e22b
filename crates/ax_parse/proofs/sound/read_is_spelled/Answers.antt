use Rattle.ax_parse.proofs.SourcesSound.{source_sound}
use Rattle.ax_parse.proofs.sound.read_is_spelled.Goals as goal

pub returns : goal.returns
returns c = λ n tokens parts h. source_sound n tokens parts h
