use Rattle.ax_blast.proofs.BlockLaws.{test_law, test_extends}
use Rattle.ax_blast.proofs.blocks.test_block.Goals as goal

pub returns-clause-means : goal.returns-clause-means
returns-clause-means c = λ v e h. test_law v c.args.cnf.now.vars c.args.op c.args.a.now c.args.b.now c.requires.first c.requires.second e h

pub returns-clause-extends : goal.returns-clause-extends
returns-clause-extends c = λ low oa ob. test_extends c.args.cnf.now.vars c.args.op c.args.a.now c.args.b.now c.requires.first c.requires.second low oa ob
