use Rattle.ax_words.proofs.Single.{one_order as law}
use Rattle.ax_words.proofs.laws.one_order.Goals as goal

pub returns : goal.returns
returns c = law
