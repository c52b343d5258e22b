use Rattle.std.proofs.Common.{◌≡◌, sym, ap, ◌∙◌}
use Rattle.ax_parse_grammar.specs.declared.tree.Prefix.{Prefix}
use Rattle.ax_parse_grammar.specs.declared.tree.Expr.TheVariants as e
use Rattle.ax_names_rules.specs.StatementWalk.{literal_of}
use Rattle.ax_names.specs.Answers.{negated_number}
use Rattle.ax_names.proofs.Layers.{literal_of-Neg}
use Rattle.ax_names.proofs.initials.literal_of.Goals as goal

pub returns-in-Neg : goal.returns-in-Neg
returns-in-Neg c =
    let at = c.in-Unary.field-0 in
    let b = c.in-Unary.b in
    let is : literal_of c.args.a.now ≡ negated_number c.get.result.now = ap literal_of c.in-Unary.is ∙ ap (λ (op : Prefix). literal_of (e.Unary at op b)) c.in-Neg.is ∙ literal_of-Neg at b ∙ ap negated_number (sym c.get.ensures) in
    rw is c.negated_literal.ensures
