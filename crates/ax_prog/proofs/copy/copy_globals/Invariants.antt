use Rattle.std.proofs.Common.{◌≡◌, take}
use Rattle.ax_prog.proofs.copy.copy_globals.Given as goal

abbrev pub invariant-loop-global : goal.invariant-loop-global
invariant-loop-global l = l.all ≡ take l.global-index l.globals
