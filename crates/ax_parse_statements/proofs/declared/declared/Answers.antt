use Rattle.std.proofs.Common.{◌+◌, true, Some, refl, drop}
use Rattle.ax_parse_grammar.specs.ReadExpressions.{expr}
use Rattle.ax_parse_grammar.specs.ReadDeclarations.{declarator, numbers, declared}
use Rattle.ax_parse_statements.specs.DeclarationsFound.{initialised_by}
use Rattle.ax_parse_statements.proofs.DeclarationTurns.{gives_behind}
use Rattle.ax_parse_statements.proofs.ListTurns.{declared_on}
use Rattle.ax_parse_statements.proofs.declared.declared.Goals as goal

pub returns-then-is_at-clause-exact : goal.returns-then-is_at-clause-exact
returns-then-is_at-clause-exact c =
    let tokens = c.args.tokens.now in
    let ts = drop c.args.at tokens in
    let us = drop c.in_ok-name.next tokens in
    let vs = drop (c.in_ok-name.next + 1) tokens in
    gives_behind tokens c.initialised.result (λ n. declarator true n ts) (Some (c.in_ok-name.name, us)) (λ n. initialised_by (expr n) (numbers n) ts c.in_ok-name.name vs) (λ n. declared n ts) c.in_ok-name.ensures.exact (declared_on ts us vs c.in_ok-name.name (c.if-is_at.ensures.some refl).1) c.initialised.ensures.exact
