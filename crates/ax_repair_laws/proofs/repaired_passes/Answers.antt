use Rattle.ax_space.specs.Patches.{patched}
use Rattle.ax_repair_laws.proofs.Passing.{passes-alike}
use Rattle.ax_repair_laws.proofs.repaired_passes.Goals as goal

pub returns : goal.returns
returns c = λ source program tests bounds ids sets grow patch w repair.
    let back = c.written_reads_back.ensures source program ids sets grow patch w repair.in_space in
    record { back = back; passes = passes-alike c.same_runs.ensures back.new (patched program ids patch) back.same bounds ids tests repair.passes }
