use Rattle.ax_words.proofs.Single.{orders_have_no_fault as law}
use Rattle.ax_words.proofs.laws.orders_have_no_fault.Goals as goal

pub returns : goal.returns
returns c = law
