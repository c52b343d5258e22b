use Rattle.std.proofs.Common.{◌≡◌, ◌++◌, drop, length}
use Rattle.ax_flow.specs.Drafts.{funs_code, funs_starts}
use Rattle.ax_flow.proofs.lowering.code_of.Given as goal

abbrev pub invariant-loop-fun : goal.invariant-loop-fun
invariant-loop-fun l = record {
  codes : l.code ++ funs_code (drop l.fun-index l.funs) (length l.code) ≡ funs_code l.funs 0;
  places : l.starts ++ funs_starts (drop l.fun-index l.funs) (length l.code) ≡ funs_starts l.funs 0;
}
