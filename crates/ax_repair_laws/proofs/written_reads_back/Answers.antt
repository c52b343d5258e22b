use Rattle.std.proofs.Common.{subst}
use Rattle.ax_prog.specs.Same.{SameProgram}
use Rattle.ax_repair.specs.Written.{changes_of}
use Rattle.ax_repair_laws.proofs.Changing.{changes_are, replaced-patched}
use Rattle.ax_repair_laws.proofs.written_reads_back.Goals as goal

pub returns : goal.returns
returns c = λ source program ids sets grow patch w is.
    let read = w.text in
    let fit = c.slots_fit.ensures source read.tokens read.tree program read.spelled read.parsed read.meant in
    let b = c.reads_back.ensures source program (changes_of program ids patch.trees) w.text (changes_are program ids sets grow patch fit w.chosen w.writable is) in
    record { new = b.new; read = b.read; same = subst (SameProgram b.new) (replaced-patched program ids patch w.chosen) b.same }
