use Rattle.std.proofs.Common.{ℕ, List, length, subst, sym, ◌∙◌, ap}
use Rattle.ax_print.specs.Spliced.{spliced, AreParts}
use Rattle.ax_front.specs.Texts.{IsProgramOfText}
use Rattle.ax_print_back.proofs.write_changes.Goals as goal

pub splice-requires : goal.splice-requires
splice-requires c =
    let back = c.reads_back.ensures c.args.source.now c.args.program.now c.args.changes.now c.requires.text c.requires.changes in
    subst (AreParts 0 (length c.args.source.now)) (sym (c.as_slice.ensures ∙ c.in_ok-parts.ensures)) back.parts

pub returns-clause-back : goal.returns-clause-back
returns-clause-back c =
    let back = c.reads_back.ensures c.args.source.now c.args.program.now c.args.changes.now c.requires.text c.requires.changes in
    let text = c.in_ok-text.ensures ∙ ap (spliced c.args.source.now) (c.as_slice.ensures ∙ c.in_ok-parts.ensures) in
    (back.new, subst (λ (bytes : List ℕ). IsProgramOfText bytes back.new) (sym text) back.read, back.same)
