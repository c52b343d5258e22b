use Rattle.std.proofs.Common.{◌≡◌, List, Ok, ap, ◌∙◌}
use Rattle.ax_names_rules.specs.Values.{function_at}
use Rattle.ax_names_rules.specs.Programs.{definitions_of, start}
use Rattle.ax_names_rules.specs.FileWalk.{parts_of}
use Rattle.ax_names.proofs.Steps.{program_found}
use Rattle.ax_names.proofs.program_of.Goals as goal

pub returns : goal.returns
returns c =
    let tree = c.args.tree.now in
    let defs = c.in_ok-defs.defs in
    let d : defs ≡ definitions_of tree.parts = c.in_ok-defs.ensures ∙ ap definitions_of c.as_slice-parts.ensures in
    let e : parts_of defs tree.parts start ≡ Ok c.parts_of.new.st = rw (c.as_slice.ensures, c.as_slice-parts.ensures, c.start-st.ensures) at c.in_ok-parts_of.ensures in
    program_found tree defs c.parts_of.new.st c.main_in.result c.main_at.result d e (rw c.as_slice-2.ensures at c.main_in.ensures) c.main_at.ensures
