-- Runs of a program that is the patched one, spans aside.
use Rattle.std.proofs.Common.{List, get_or, sym, ap, ◌∙◌, subst}
use Rattle.std.specs.List.{All}
use Rattle.ax_prog.specs.declared.Bounds.{Bounds}
use Rattle.ax_prog.specs.declared.Program.{Program}
use Rattle.ax_prog.specs.declared.SlotId.{SlotId}
use Rattle.ax_prog.specs.declared.Test.{Test}
use Rattle.ax_prog.specs.Same.{SameProgram}
use Rattle.ax_meaning.specs.Runs.{Seen}
use Rattle.ax_least.specs.Least.{KeepsBounds, PassesWithin}
use Rattle.ax_meaning.specs.Alike.{SameRuns}

pub passes-alike : SameRuns → (new old : Program) → SameProgram new old → (bounds : Bounds) (ids : List SlotId) (tests : List Test) → All (PassesWithin old bounds ids) tests → All (PassesWithin new bounds ids) tests
passes-alike law new old same bounds ids tests all = λ k d h.
    let test = get_or tests k d in
    let e = law new old same test.inputs bounds.steps in
    let p = all k d h in
    record {
      passes = record { returned = ap (λ (s : Seen). s.ending) e ∙ (p.passes).returned; printed = ap (λ (s : Seen). s.output) e ∙ (p.passes).printed };
      keeps = subst (KeepsBounds bounds ids) (sym e) p.keeps;
    }
