-- Counts as the code holds them; private contracts alone cite this.
use Rattle.ax_rank.specs.Runs.{Counts}
use Rattle.ax_rank.specs.declared.kept.Tally.{Tally}

abbrev pub counts : Tally → Counts
counts t = record { ef = t.ef; ep = t.ep; nf = t.nf; np = t.np }
