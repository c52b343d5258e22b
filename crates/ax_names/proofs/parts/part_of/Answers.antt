use Rattle.std.proofs.Common.{List, sym, subst}
use Rattle.ax_parse_grammar.specs.declared.tree.Members.{Members}
use Rattle.ax_parse_grammar.specs.declared.tree.Part.{Part}
use Rattle.ax_names_rules.specs.FileWalk.{part_of}
use Rattle.ax_names.specs.Answers.{IsDone}
use Rattle.ax_names.specs.Structs.{struct_in}
use Rattle.ax_names.proofs.parts.part_of.Goals as goal

pub returns-in-Struct-clause-done : goal.returns-in-Struct-clause-done
returns-in-Struct-clause-done c =
    let defs = c.args.defs.now in
    let st = c.args.st.now in
    let d : IsDone (struct_in c.in-Struct.name c.in-Struct.members st) c.struct_in.result c.struct_in.new.st = subst (λ (l : List Members). IsDone (struct_in c.in-Struct.name l st) c.struct_in.result c.struct_in.new.st) c.as_slice.ensures c.struct_in.ensures.done in
    subst (λ (p : Part). IsDone (part_of defs p st) c.struct_in.result c.struct_in.new.st) (sym c.in-Struct.is) d

pub returns-in-Prototype-clause-done : goal.returns-in-Prototype-clause-done
returns-in-Prototype-clause-done c = subst (λ (p : Part). IsDone (part_of c.args.defs.now p c.args.st.now) c.prototype_in.result c.prototype_in.new.st) (sym c.in-Prototype.is) c.prototype_in.ensures.done
