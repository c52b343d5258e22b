use Rattle.std.proofs.Common.{arith, Err, refl, ap, ◌∙◌}
use Rattle.ax_parse_grammar.specs.declared.tree.Expr.{Expr}
use Rattle.ax_parse_grammar.specs.Trees.{span_of}
use Rattle.ax_names_types.specs.Scopes.{env_of, is_function}
use Rattle.ax_names_types.specs.Types.{is_zero}
use Rattle.ax_names_values.specs.declared.walk.Step.TheVariants as step
use Rattle.ax_names_values.specs.Steps.{operand_of}
use Rattle.ax_names_values.proofs.Walks.{cond_below, right_below, index_below, unary_down, binary_down, index_down, member_down, arrow_down, leaf_ends, name_leaf, number_leaf, cond_leaf, call_leaf}
use Rattle.ax_names_values.proofs.walk.+judging.Goals as goal

pub typed-returns-in-Name : goal.typed-returns-in-Name
typed-returns-in-Name t c = leaf_ends c.in_ok-verdict-in-Name.verdict c.finish.result c.down.invariant (name_leaf (env_of c.args.names.now c.args.structs.now) c.in-Name.at c.in-Name.x c.as_slice.result.now c.in_ok-verdict-in-Name.verdict c.in-Name.is c.as_slice.ensures c.in_ok-verdict-in-Name.ensures) c.finish.ensures

pub typed-returns-in-Number : goal.typed-returns-in-Number
typed-returns-in-Number t c = leaf_ends c.literal.result c.finish-in-Number.result c.down.invariant (number_leaf (env_of c.args.names.now c.args.structs.now) c.in-Number.field-0 c.in-Number.n c.literal.result c.in-Number.is c.literal.ensures) c.finish-in-Number.ensures

pub typed-conditional-requires : goal.typed-conditional-requires
typed-conditional-requires t c =
    let h = cond_below c.in-Cond.field-0 c.in-Cond.c c.in-Cond.a c.in-Cond.b c.get.result.now c.get-in-Cond.result.now c.get-in-Cond-2.result.now c.in-Cond.is c.get.ensures c.get-in-Cond.ensures c.get-in-Cond-2.ensures in
    omega arith

pub typed-returns-in-Cond : goal.typed-returns-in-Cond
typed-returns-in-Cond t c = leaf_ends c.in_ok-verdict-in-Cond.verdict c.finish-in-Cond.result c.down.invariant (cond_leaf (env_of c.args.names.now c.args.structs.now) c.in-Cond.field-0 c.in-Cond.c c.in-Cond.a c.in-Cond.b c.get.result.now c.get-in-Cond.result.now c.get-in-Cond-2.result.now c.in_ok-verdict-in-Cond.verdict c.in-Cond.is c.get.ensures c.get-in-Cond.ensures c.get-in-Cond-2.ensures c.in_ok-verdict-in-Cond.ensures) c.finish-in-Cond.ensures

pub typed-returns-in-Call : goal.typed-returns-in-Call
typed-returns-in-Call t c = leaf_ends (Err c.wrong_type.result) c.finish-in-Call.result c.down.invariant (call_leaf (env_of c.args.names.now c.args.structs.now) c.in-Call.at c.in-Call.field-1 c.in-Call.field-2 c.wrong_type.result (Err c.wrong_type.result) c.in-Call.is c.wrong_type.ensures refl) c.finish-in-Call.ensures

pub typed-judged_operand-requires : goal.typed-judged_operand-requires
typed-judged_operand-requires t c =
    let h = right_below c.in-Binary.at c.in-Binary.op c.in-Binary.a c.in-Binary.b c.get-in-Binary.result.now c.in-Binary.is c.get-in-Binary.ensures in
    omega arith

pub typed-judged_operand-requires-in-Index : goal.typed-judged_operand-requires-in-Index
typed-judged_operand-requires-in-Index t c =
    let h = index_below c.in-Index.field-0 c.in-Index.a c.in-Index.i c.get-in-Index.result.now c.in-Index.is c.get-in-Index.ensures in
    omega arith

pub typed-down-smaller-in-Unary : goal.typed-down-smaller-in-Unary
typed-down-smaller-in-Unary t c =
    (unary_down c.push.new.self c.in-Unary.field-0 c.in-Unary.op c.in-Unary.a c.get-part.result.now c.unary_step.result c.down.invariant c.in-Unary.is c.get-part.ensures
    (c.unary_step.ensures ∙ ap (λ (x : Expr). step.Unary c.in-Unary.op (is_function c.args.names.now x) (span_of x)) c.get-in-Unary.ensures)
    c.in_ok-push-in-Unary.ensures.ok).1

pub typed-down-preserved-in-Unary : goal.typed-down-preserved-in-Unary
typed-down-preserved-in-Unary t c =
    (unary_down c.push.new.self c.in-Unary.field-0 c.in-Unary.op c.in-Unary.a c.get-part.result.now c.unary_step.result c.down.invariant c.in-Unary.is c.get-part.ensures
    (c.unary_step.ensures ∙ ap (λ (x : Expr). step.Unary c.in-Unary.op (is_function c.args.names.now x) (span_of x)) c.get-in-Unary.ensures)
    c.in_ok-push-in-Unary.ensures.ok).0

pub typed-down-smaller-in-Binary : goal.typed-down-smaller-in-Binary
typed-down-smaller-in-Binary t c =
    (binary_down c.push-in-Binary.new.self c.in-Binary.at c.in-Binary.op c.in-Binary.a c.in-Binary.b c.get-part-in-Binary.result.now c.binary_step.result c.in_ok-right-in-Binary.right c.down.invariant c.in-Binary.is c.get-part-in-Binary.ensures
    (c.in_ok-right-in-Binary.ensures ∙ ap (operand_of (env_of c.args.names.now c.args.structs.now)) c.get-in-Binary.ensures)
    (c.binary_step.ensures ∙ ap (λ (x : Expr). step.Binary c.in-Binary.op c.in-Binary.at (is_zero x) (span_of x) c.in_ok-right-in-Binary.right) c.get-in-Binary-2.ensures)
    c.in_ok-push-in-Binary.ensures.ok).1

pub typed-down-preserved-in-Binary : goal.typed-down-preserved-in-Binary
typed-down-preserved-in-Binary t c =
    (binary_down c.push-in-Binary.new.self c.in-Binary.at c.in-Binary.op c.in-Binary.a c.in-Binary.b c.get-part-in-Binary.result.now c.binary_step.result c.in_ok-right-in-Binary.right c.down.invariant c.in-Binary.is c.get-part-in-Binary.ensures
    (c.in_ok-right-in-Binary.ensures ∙ ap (operand_of (env_of c.args.names.now c.args.structs.now)) c.get-in-Binary.ensures)
    (c.binary_step.ensures ∙ ap (λ (x : Expr). step.Binary c.in-Binary.op c.in-Binary.at (is_zero x) (span_of x) c.in_ok-right-in-Binary.right) c.get-in-Binary-2.ensures)
    c.in_ok-push-in-Binary.ensures.ok).0

pub typed-down-smaller-in-Index : goal.typed-down-smaller-in-Index
typed-down-smaller-in-Index t c =
    (index_down c.push-in-Index.new.self c.in-Index.field-0 c.in-Index.a c.in-Index.i c.get-part-in-Index.result.now c.span_of.result c.in_ok-index-in-Index.index c.down.invariant c.in-Index.is c.get-part-in-Index.ensures
    (c.span_of.ensures ∙ ap span_of c.get-in-Index-2.ensures)
    (c.in_ok-index-in-Index.ensures ∙ ap (operand_of (env_of c.args.names.now c.args.structs.now)) c.get-in-Index.ensures)
    c.in_ok-push-in-Index.ensures.ok).1

pub typed-down-preserved-in-Index : goal.typed-down-preserved-in-Index
typed-down-preserved-in-Index t c =
    (index_down c.push-in-Index.new.self c.in-Index.field-0 c.in-Index.a c.in-Index.i c.get-part-in-Index.result.now c.span_of.result c.in_ok-index-in-Index.index c.down.invariant c.in-Index.is c.get-part-in-Index.ensures
    (c.span_of.ensures ∙ ap span_of c.get-in-Index-2.ensures)
    (c.in_ok-index-in-Index.ensures ∙ ap (operand_of (env_of c.args.names.now c.args.structs.now)) c.get-in-Index.ensures)
    c.in_ok-push-in-Index.ensures.ok).0

pub typed-down-smaller-in-Member : goal.typed-down-smaller-in-Member
typed-down-smaller-in-Member t c =
    (member_down c.push-in-Member.new.self c.in-Member.field-0 c.in-Member.a c.get-part-in-Member.result.now c.in-Member.x c.in_ok-x-in-Member.x c.span_of-in-Member.result c.down.invariant c.in-Member.is c.get-part-in-Member.ensures
    (c.span_of-in-Member.ensures ∙ ap span_of c.get-in-Member.ensures) c.in_ok-x-in-Member.ensures c.in_ok-push-in-Member.ensures.ok).1

pub typed-down-preserved-in-Member : goal.typed-down-preserved-in-Member
typed-down-preserved-in-Member t c =
    (member_down c.push-in-Member.new.self c.in-Member.field-0 c.in-Member.a c.get-part-in-Member.result.now c.in-Member.x c.in_ok-x-in-Member.x c.span_of-in-Member.result c.down.invariant c.in-Member.is c.get-part-in-Member.ensures
    (c.span_of-in-Member.ensures ∙ ap span_of c.get-in-Member.ensures) c.in_ok-x-in-Member.ensures c.in_ok-push-in-Member.ensures.ok).0

pub typed-down-smaller : goal.typed-down-smaller
typed-down-smaller t c =
    (arrow_down c.push-in-Arrow.new.self c.in-Arrow.field-0 c.in-Arrow.a c.get-part-in-Arrow.result.now c.in-Arrow.x c.in_ok-x-in-Arrow.x c.span_of-in-Arrow.result c.down.invariant c.in-Arrow.is c.get-part-in-Arrow.ensures
    (c.span_of-in-Arrow.ensures ∙ ap span_of c.get-in-Arrow.ensures) c.in_ok-x-in-Arrow.ensures c.in_ok-push-in-Arrow.ensures.ok).1

pub typed-down-preserved : goal.typed-down-preserved
typed-down-preserved t c =
    (arrow_down c.push-in-Arrow.new.self c.in-Arrow.field-0 c.in-Arrow.a c.get-part-in-Arrow.result.now c.in-Arrow.x c.in_ok-x-in-Arrow.x c.span_of-in-Arrow.result c.down.invariant c.in-Arrow.is c.get-part-in-Arrow.ensures
    (c.span_of-in-Arrow.ensures ∙ ap span_of c.get-in-Arrow.ensures) c.in_ok-x-in-Arrow.ensures c.in_ok-push-in-Arrow.ensures.ok).0
