use Rattle.ax_front_facts.proofs.Names.{names_words}
use Rattle.ax_front_facts.proofs.names_are_words.Goals as goal

pub returns : goal.returns
returns c = names_words
