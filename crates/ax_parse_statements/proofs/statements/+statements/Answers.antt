use Rattle.std.proofs.Common.{◌≡◌, ◌+◌, ◌≤◌, List, Some, None, refl, sym, ap, ◌∙◌, subst, arith, drop}
use Rattle.std.proofs.lemmas.Result.{err_from_is_err_and}
use Rattle.ax_prog.specs.declared.Span.{Span}
use Rattle.ax_parse_grammar.specs.declared.starts.Start.{Start}
use Rattle.ax_parse_grammar.specs.declared.starts.Start.TheVariants as start
use Rattle.ax_parse_grammar.specs.declared.tree.Stmt.{Stmt}
use Rattle.ax_parse_grammar.specs.declared.tree.Stmt.TheVariants as s
use Rattle.ax_parse_grammar.specs.ReadExpressions.{expr}
use Rattle.ax_parse_grammar.specs.ReadDeclarations.{decl}
use Rattle.ax_parse_grammar.specs.ReadStatements.{simple_stmt, test_by, stmt_by, stmt, items, item_by, else_by}
use Rattle.ax_parse_grammar.specs.Reading.{Settles}
use Rattle.ax_parse_grammar.proofs.Tools.{also_1, also_2}
use Rattle.ax_parse_statements.specs.SimplesFound.{do_end_by}
use Rattle.ax_parse_statements.proofs.Passes.{handed}
use Rattle.ax_parse_expressions.specs.Answers.{Gives}
use Rattle.ax_parse_statements.specs.ForsFound.{header_by}
use Rattle.ax_parse_statements.proofs.DeclarationTurns.{OnTo, fails_err, fails_behind, gives_behind, gives_err, gives_same, settled, on_push, on_end, on_fail}
use Rattle.ax_parse_statements.specs.StatementsFound.{decl_item_by, looped_by}
use Rattle.ax_parse_statements.proofs.StatementExits as x
use Rattle.ax_parse_statements.proofs.StatementTurns.{stmt_nothing, stmt_starts, gives_behind_two, block_none, block_is, items_end, items_on, items_fail}
use Rattle.ax_parse_statements.proofs.statements.+statements.Goals as goal

pub statement-returns-in-None-clause-exact : goal.statement-returns-in-None-clause-exact
statement-returns-in-None-clause-exact t c =
    let tokens = c.args.tokens.now in
    let ts = drop c.args.at tokens in
    let us = drop (c.args.at + 1) tokens in
    stmt_nothing ts c.in-None.ensures.found

pub statement-returns-in-Some-clause-exact : goal.statement-returns-in-Some-clause-exact
statement-returns-in-Some-clause-exact t c =
    let tokens = c.args.tokens.now in
    let ts = drop c.args.at tokens in
    let us = drop (c.args.at + 1) tokens in
    handed tokens c.begun.result (λ n. stmt_by n (stmt n) (items n) ts us c.in-Some.start) (λ n. stmt n ts) c.begun.ensures.exact (λ o. stmt_starts ts us c.in-Some.start o c.in-Some.ensures.found)

pub begun-returns-in-Decl-clause-exact : goal.begun-returns-in-Decl-clause-exact
begun-returns-in-Decl-clause-exact t c =
    let tokens = c.args.tokens.now in
    let ts = drop c.args.at tokens in
    let us = drop (c.args.at + 1) tokens in
    settled (λ n. stmt_by n (stmt n) (items n) ts us c.args.start) None (λ n. ap (λ (b : Start). stmt_by n (stmt n) (items n) ts us b) c.in-Decl.is)

pub if_at-returns-in_err-test-clause-exact : goal.if_at-returns-in_err-test-clause-exact
if_at-returns-in_err-test-clause-exact t c =
    let tokens = c.args.tokens.now in
    let ts = drop c.args.at tokens in
    let us = drop (c.args.at + 1) tokens in
    let p = err_from_is_err_and c.from_residual.result c.from_residual.ensures.1 in
    let d = c.in_err-test.field-0.0 in
    rw (p.1, p.2) (fails_err tokens d (λ n. test_by (expr n) us) (λ n. stmt_by n (stmt n) (items n) ts us start.If) c.in_err-test.ensures.exact (λ n none. x.if_none (expr n) (stmt n) ts us none))

pub if_at-returns-in_err-body-clause-exact : goal.if_at-returns-in_err-body-clause-exact
if_at-returns-in_err-body-clause-exact t c =
    let tokens = c.args.tokens.now in
    let ts = drop c.args.at tokens in
    let us = drop (c.args.at + 1) tokens in
    let p = err_from_is_err_and c.from_residual-in_err-body.result c.from_residual-in_err-body.ensures.1 in
    let d = c.in_err-body.field-0.0 in
    let vs = drop c.in_ok-test.next tokens in
    rw (p.1, p.2) (fails_behind tokens d (λ n. test_by (expr n) us) (Some (c.in_ok-test.test, vs)) (λ n. stmt n vs) (λ n. stmt_by n (stmt n) (items n) ts us start.If) c.in_ok-test.ensures.exact c.in_err-body.ensures.exact (λ n one none. x.if_open (expr n) (stmt n) ts us c.in_ok-test.test vs one none))

pub while_at-returns-in_err-test-clause-exact : goal.while_at-returns-in_err-test-clause-exact
while_at-returns-in_err-test-clause-exact t c =
    let tokens = c.args.tokens.now in
    let ts = drop c.args.at tokens in
    let us = drop (c.args.at + 1) tokens in
    let p = err_from_is_err_and c.from_residual.result c.from_residual.ensures.1 in
    let d = c.in_err-test.field-0.0 in
    rw (p.1, p.2) (fails_err tokens d (λ n. test_by (expr n) us) (λ n. stmt_by n (stmt n) (items n) ts us start.While) c.in_err-test.ensures.exact (λ n none. x.while_none (expr n) (stmt n) ts us none))

pub while_at-returns-in_err-body-clause-exact : goal.while_at-returns-in_err-body-clause-exact
while_at-returns-in_err-body-clause-exact t c =
    let tokens = c.args.tokens.now in
    let ts = drop c.args.at tokens in
    let us = drop (c.args.at + 1) tokens in
    let p = err_from_is_err_and c.from_residual-in_err-body.result c.from_residual-in_err-body.ensures.1 in
    let d = c.in_err-body.field-0.0 in
    let vs = drop c.in_ok-test.next tokens in
    rw (p.1, p.2) (fails_behind tokens d (λ n. test_by (expr n) us) (Some (c.in_ok-test.test, vs)) (λ n. stmt n vs) (λ n. stmt_by n (stmt n) (items n) ts us start.While) c.in_ok-test.ensures.exact c.in_err-body.ensures.exact (λ n one none. x.while_open (expr n) (stmt n) ts us c.in_ok-test.test vs one none))

pub if_at-returns-clause-exact : goal.if_at-returns-clause-exact
if_at-returns-clause-exact t c =
    let tokens = c.args.tokens.now in
    let ts = drop c.args.at tokens in
    let us = drop (c.args.at + 1) tokens in
    let vs = drop c.in_ok-test.next tokens in
    let rest = drop c.in_ok-body.end tokens in
    gives_behind_two tokens c.otherwise.result (λ n. test_by (expr n) us) (Some (c.in_ok-test.test, vs)) (λ n. stmt n vs) (Some (c.in_ok-body.body, rest)) (λ n. else_by (stmt n) ts c.in_ok-test.test (c.in_ok-body.body, rest)) (λ n. stmt_by n (stmt n) (items n) ts us start.If) c.in_ok-test.ensures.exact c.in_ok-body.ensures.exact (λ n one two. x.if_is (expr n) (stmt n) ts us c.in_ok-test.test vs rest c.in_ok-body.body one two) c.otherwise.ensures.exact

pub while_at-returns-clause-exact : goal.while_at-returns-clause-exact
while_at-returns-clause-exact t c =
    let tokens = c.args.tokens.now in
    let ts = drop c.args.at tokens in
    let us = drop (c.args.at + 1) tokens in
    let vs = drop c.in_ok-test.next tokens in
    let rest = drop c.in_ok-body.end tokens in
    let made = s.While c.extent.result c.in_ok-test.test c.in_ok-body.body in
    also_2 (λ n. test_by (expr n) us) (Some (c.in_ok-test.test, vs)) (λ n. stmt n vs) (Some (c.in_ok-body.body, rest)) (λ n. stmt_by n (stmt n) (items n) ts us start.While) (Some (made, rest)) c.in_ok-test.ensures.exact c.in_ok-body.ensures.exact (λ n one two. x.while_is (expr n) (stmt n) ts us c.in_ok-test.test vs rest c.in_ok-body.body made (ap (λ (q : Span). s.While q c.in_ok-test.test c.in_ok-body.body) c.extent.ensures) one two)

pub otherwise-returns-then-not-is_at-clause-exact : goal.otherwise-returns-then-not-is_at-clause-exact
otherwise-returns-then-not-is_at-clause-exact t c =
    let tokens = c.args.tokens.now in
    let ts = drop c.args.start tokens in
    let us = drop c.args.at tokens in
    let vs = drop (c.args.at + 1) tokens in
    let made = s.If c.extent.result c.args.test c.args.body in
    settled (λ n. else_by (stmt n) ts c.args.test (c.args.body, us)) (Some (made, us)) (λ n. x.else_off (stmt n) ts us c.args.test c.args.body made (c.if-not-is_at.ensures.none refl) (ap (λ (q : Span). s.If q c.args.test c.args.body) c.extent.ensures))

pub otherwise-returns-in_err-other-clause-exact : goal.otherwise-returns-in_err-other-clause-exact
otherwise-returns-in_err-other-clause-exact t c =
    let tokens = c.args.tokens.now in
    let ts = drop c.args.start tokens in
    let us = drop c.args.at tokens in
    let vs = drop (c.args.at + 1) tokens in
    let p = err_from_is_err_and c.from_residual.result c.from_residual.ensures.1 in
    let d = c.in_err-other.field-0.0 in
    rw (p.1, p.2) (fails_err tokens d (λ n. stmt n vs) (λ n. else_by (stmt n) ts c.args.test (c.args.body, us)) c.in_err-other.ensures.exact (λ n none. x.else_none (stmt n) ts us c.args.test c.args.body vs (c.if-not-is_at.ensures.some refl).1 none))

pub otherwise-returns-clause-exact : goal.otherwise-returns-clause-exact
otherwise-returns-clause-exact t c =
    let tokens = c.args.tokens.now in
    let ts = drop c.args.start tokens in
    let us = drop c.args.at tokens in
    let vs = drop (c.args.at + 1) tokens in
    let rest = drop c.in_ok-other.end tokens in
    let made = s.IfElse c.extent-2.result c.args.test c.args.body c.in_ok-other.other in
    also_1 (λ n. stmt n vs) (Some (c.in_ok-other.other, rest)) (λ n. else_by (stmt n) ts c.args.test (c.args.body, us)) (Some (made, rest)) c.in_ok-other.ensures.exact (λ n one. x.else_is (stmt n) ts us c.args.test c.args.body vs rest c.in_ok-other.other made (c.if-not-is_at.ensures.some refl).1 (ap (λ (q : Span). s.IfElse q c.args.test c.args.body c.in_ok-other.other) c.extent-2.ensures) one)

pub do_at-returns-in_err-body-clause-exact : goal.do_at-returns-in_err-body-clause-exact
do_at-returns-in_err-body-clause-exact t c =
    let tokens = c.args.tokens.now in
    let ts = drop c.args.at tokens in
    let us = drop (c.args.at + 1) tokens in
    let p = err_from_is_err_and c.from_residual.result c.from_residual.ensures.1 in
    let d = c.in_err-body.field-0.0 in
    rw (p.1, p.2) (fails_err tokens d (λ n. stmt n us) (λ n. stmt_by n (stmt n) (items n) ts us start.Do) c.in_err-body.ensures.exact (λ n none. x.do_none (expr n) (stmt n) ts us none))

pub do_at-returns-in_err-test-clause-exact : goal.do_at-returns-in_err-test-clause-exact
do_at-returns-in_err-test-clause-exact t c =
    let tokens = c.args.tokens.now in
    let ts = drop c.args.at tokens in
    let us = drop (c.args.at + 1) tokens in
    let p = err_from_is_err_and c.from_residual-in_err-test.result c.from_residual-in_err-test.ensures.1 in
    let d = c.in_err-test.field-0.0 in
    let vs = drop c.in_ok-body.next tokens in
    rw (p.1, p.2) (fails_behind tokens d (λ n. stmt n us) (Some (c.in_ok-body.body, vs)) (λ n. do_end_by (expr n) vs) (λ n. stmt_by n (stmt n) (items n) ts us start.Do) c.in_ok-body.ensures.exact c.in_err-test.ensures.exact (λ n one none. x.do_open (expr n) (stmt n) ts us c.in_ok-body.body vs one none))

pub do_at-returns-clause-exact : goal.do_at-returns-clause-exact
do_at-returns-clause-exact t c =
    let tokens = c.args.tokens.now in
    let ts = drop c.args.at tokens in
    let us = drop (c.args.at + 1) tokens in
    let vs = drop c.in_ok-body.next tokens in
    let rest = drop c.in_ok-test.end tokens in
    let made = s.Do c.extent.result c.in_ok-body.body c.in_ok-test.test in
    also_2 (λ n. stmt n us) (Some (c.in_ok-body.body, vs)) (λ n. do_end_by (expr n) vs) (Some (c.in_ok-test.test, rest)) (λ n. stmt_by n (stmt n) (items n) ts us start.Do) (Some (made, rest)) c.in_ok-body.ensures.exact c.in_ok-test.ensures.exact (λ n one two. x.do_is (expr n) (stmt n) ts us c.in_ok-body.body made vs rest c.in_ok-test.test (ap (λ (q : Span). s.Do q c.in_ok-body.body c.in_ok-test.test) c.extent.ensures) one two)

pub for_at-returns-in_err-header-clause-exact : goal.for_at-returns-in_err-header-clause-exact
for_at-returns-in_err-header-clause-exact t c =
    let tokens = c.args.tokens.now in
    let ts = drop c.args.at tokens in
    let us = drop (c.args.at + 1) tokens in
    let p = err_from_is_err_and c.from_residual.result c.from_residual.ensures.1 in
    let d = c.in_err-header.field-0.0 in
    rw (p.1, p.2) (fails_err tokens d (λ n. header_by (expr n) (decl n) (simple_stmt n) us) (λ n. stmt_by n (stmt n) (items n) ts us start.For) c.in_err-header.ensures.exact (λ n none. x.for_none (expr n) (decl n) (simple_stmt n) (stmt n) ts us none))

pub for_at-returns-clause-exact : goal.for_at-returns-clause-exact
for_at-returns-clause-exact t c =
    let tokens = c.args.tokens.now in
    let ts = drop c.args.at tokens in
    let us = drop (c.args.at + 1) tokens in
    let vs = drop c.in_ok-header.next tokens in
    let h = c.in_ok-header.header in
    gives_behind tokens c.looped.result (λ n. header_by (expr n) (decl n) (simple_stmt n) us) (Some (h, vs)) (λ n. looped_by (stmt n) ts h vs) (λ n. stmt_by n (stmt n) (items n) ts us start.For) c.in_ok-header.ensures.exact (λ n one. x.for_is (expr n) (decl n) (simple_stmt n) (stmt n) ts us h vs one) (subst (λ o. Gives tokens c.looped.result (λ n. looped_by (stmt n) ts o vs)) c.in_ok-begun.ensures c.looped.ensures.exact)

pub looped-returns-in_err-body-clause-exact : goal.looped-returns-in_err-body-clause-exact
looped-returns-in_err-body-clause-exact t c =
    let tokens = c.args.tokens.now in
    let ts = drop c.args.start tokens in
    let us = drop c.args.at tokens in
    let p = err_from_is_err_and c.from_residual.result c.from_residual.ensures.1 in
    let d = c.in_err-body.field-0.0 in
    rw (p.1, p.2) (fails_err tokens d (λ n. stmt n us) (λ n. looped_by (stmt n) ts c.args.header us) c.in_err-body.ensures.exact (λ n none. x.looped_none (stmt n) ts us c.args.header none))

pub looped-returns-clause-exact : goal.looped-returns-clause-exact
looped-returns-clause-exact t c =
    let tokens = c.args.tokens.now in
    let ts = drop c.args.start tokens in
    let us = drop c.args.at tokens in
    let rest = drop c.in_ok-body.end tokens in
    let h = c.args.header in
    also_1 (λ n. stmt n us) (Some (c.in_ok-body.body, rest)) (λ n. looped_by (stmt n) ts c.args.header us) (Some (c.for_node.result, rest)) c.in_ok-body.ensures.exact (λ n one. x.looped_is (stmt n) ts us h rest c.in_ok-body.body c.for_node.result ((subst (λ w. c.for_node.result ≡ s.For c.extent.result w.0 (w.1).0 (w.1).1 c.in_ok-body.body) c.into_inner.ensures c.for_node.ensures) ∙ ap (λ (q : Span). s.For q h.0 (h.1).0 (h.1).1 c.in_ok-body.body) c.extent.ensures) one)

pub boxed-returns-clause-exact : goal.boxed-returns-clause-exact
boxed-returns-clause-exact t c = rw c.in_ok-made.ensures c.in_ok-found.ensures.exact

pub block-returns-in_err-found-clause-exact : goal.block-returns-in_err-found-clause-exact
block-returns-in_err-found-clause-exact t c =
    let tokens = c.args.tokens.now in
    let ts = drop c.args.at tokens in
    let us = drop (c.args.at + 1) tokens in
    let p = err_from_is_err_and c.from_residual.result c.from_residual.ensures.1 in
    let d = c.in_err-found.field-0.0 in
    rw (p.1, p.2) (gives_err tokens d (λ n. items n us) (λ n. stmt_by n (stmt n) (items n) ts us start.Block) c.in_err-found.ensures.exact (block_none ts us))

pub block-returns-clause-exact : goal.block-returns-clause-exact
block-returns-clause-exact t c =
    let tokens = c.args.tokens.now in
    let ts = drop c.args.at tokens in
    let us = drop (c.args.at + 1) tokens in
    let rest = drop c.in_ok-found.end tokens in
    subst (λ (q : Span). Settles (λ n. stmt_by n (stmt n) (items n) ts us start.Block) (Some (s.Block q c.in_ok-found.found, rest))) (sym c.extent.ensures) (block_is ts us rest c.in_ok-found.found c.in_ok-found.ensures.exact)

pub item-returns-then-begins_decl-clause-exact : goal.item-returns-then-begins_decl-clause-exact
item-returns-then-begins_decl-clause-exact t c =
    let tokens = c.args.tokens.now in
    let ts = drop c.args.at tokens in
    let us = drop (c.args.at + 1) tokens in
    gives_same tokens c.decl_item.result (λ n. decl_item_by (decl n) ts) (λ n. item_by (decl n) (stmt n) ts) c.decl_item.ensures.exact (λ n. x.item_decl (decl n) (stmt n) ts (sym c.if-begins_decl.ensures))

pub item-returns-clause-exact : goal.item-returns-clause-exact
item-returns-clause-exact t c =
    let tokens = c.args.tokens.now in
    let ts = drop c.args.at tokens in
    let us = drop (c.args.at + 1) tokens in
    gives_same tokens c.statement.result (λ n. stmt n ts) (λ n. item_by (decl n) (stmt n) ts) c.statement.ensures.exact (λ n. x.item_part (decl n) (stmt n) ts (sym c.if-begins_decl.ensures))

pub items-returns-in_err-one-clause-exact : goal.items-returns-in_err-one-clause-exact
items-returns-in_err-one-clause-exact t c =
    let tokens = c.args.tokens.now in
    let ts = drop c.args.at tokens in
    let us = drop c.loop-alloc.next tokens in
    let p = err_from_is_err_and c.from_residual.result c.from_residual.ensures.1 in
    let d = c.in_err-one.field-0.0 in
    rw (p.1, p.2) (gives_err tokens d (λ n. item_by (decl n) (stmt n) us) (λ n. items n ts) c.in_err-one.ensures.exact (λ none. on_fail (λ n. items n ts) (λ n. items n us) c.loop-alloc.found c.loop-alloc.invariant.2 (items_fail us (c.loop-alloc-test.ensures.none refl) none)))

pub items-loop-alloc-preserved : goal.items-loop-alloc-preserved
items-loop-alloc-preserved t c =
    let tokens = c.args.tokens.now in
    let ts = drop c.args.at tokens in
    let us = drop c.loop-alloc.next tokens in
    let r = drop c.in_ok-one.end tokens in
    let after : c.args.at ≤ c.in_ok-one.end = omega (arith, c.in_ok-one.ensures.forward.0, c.loop-alloc.invariant.0) in
    (after, c.in_ok-one.ensures.forward.1, subst (λ (l : List Stmt). OnTo (λ n. items n ts) (λ n. items n r) l) (sym c.in_ok-push.ensures.ok) (on_push (λ n. items n ts) (λ n. items n us) (λ n. items n r) c.loop-alloc.found c.in_ok-one.one c.loop-alloc.invariant.2 (items_on us r c.in_ok-one.one (c.loop-alloc-test.ensures.none refl) c.in_ok-one.ensures.exact)))

pub items-returns-clause-exact : goal.items-returns-clause-exact
items-returns-clause-exact t c =
    let tokens = c.args.tokens.now in
    let ts = drop c.args.at tokens in
    let us = drop c.loop-alloc.next tokens in
    let rest = drop (c.loop-alloc.next + 1) tokens in
    on_end (λ n. items n ts) (λ n. items n us) c.loop-alloc.found rest c.loop-alloc.invariant.2 (items_end us rest (c.loop-alloc-test.ensures.some refl).1)
