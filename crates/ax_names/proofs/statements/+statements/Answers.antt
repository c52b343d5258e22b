use Rattle.std.proofs.Common.{◌≡◌, ℕ, true, Ok, refl, sym, ap, ◌∙◌, subst, rules}
use Rattle.std.proofs.lemmas.Result.{err_from_is_err_and}
use Rattle.ax_prog.specs.declared.Stmt as ps
use Rattle.ax_prog.specs.declared.Stmt.TheVariants as to
use Rattle.ax_parse_grammar.specs.declared.tree.Stmt.{Stmt}
use Rattle.ax_names_rules.specs.declared.State.{State}
use Rattle.ax_names_rules.specs.States.{depth, leaving}
use Rattle.ax_names_rules.specs.ValueWalk.{Made, slot_of}
use Rattle.ax_names_rules.specs.StatementWalk.{Making, item_by, stmt_of}
use Rattle.ax_names_given.specs.Made.{IsStopped}
use Rattle.ax_names.specs.Answers.{prefixed, Header, header_of}
use Rattle.ax_names.proofs.Kept.{kept, still, slot_keeps, header_keeps, stmt_keeps, grown_keeps}
use Rattle.ax_names.proofs.Layers.{stmt_of-Block, stmt_of-If, if_else_as, stmt_of-While, stmt_of-Do, stmt_of-For}
use Rattle.ax_names.proofs.BecomingSteps.{items_step, for_no_header, for_no_body, for_made, else_no_test, else_no_body, else_no_other, else_made}
use Rattle.ax_names.proofs.statements.+statements.Goals as goal

pub all_of-loop-tree-preserved : goal.all_of-loop-tree-preserved
all_of-loop-tree-preserved t c =
    let defs = c.args.set.now.defs.now in
    let returns = c.args.set.now.returns.now in
    let x = c.tree-item.result in (
      sym (items_step defs returns c.args.inside c.args.floor c.args.items.now c.loop-tree.tree-index x c.loop-tree.all c.item.new.all c.loop-tree.st c.item.new.st c.loop-tree-test.true c.tree-item.is c.in_ok-item.ensures.made) ∙ c.loop-tree.invariant.0,
      kept c.loop-tree.st c.item.new.st (prefixed c.loop-tree.all (item_by defs c.args.floor x (stmt_of defs returns c.args.inside x) c.loop-tree.st)) c.item.new.all (grown_keeps defs returns c.args.inside c.args.floor x c.loop-tree.all c.loop-tree.st) c.in_ok-item.ensures.made ∙ c.loop-tree.invariant.1,
    )

pub boxed-returns-clause-structs : goal.boxed-returns-clause-structs
boxed-returns-clause-structs t c =
    let defs = c.args.set.now.defs.now in
    let returns = c.args.set.now.returns.now in
    kept c.args.st.now c.stmt.new.st (stmt_of defs returns c.args.inside c.args.tree.now c.args.st.now) c.in_ok-made.made (stmt_keeps defs returns c.args.inside c.args.tree.now c.args.st.now) c.in_ok-made.ensures.made

pub lone_if-boxed-requires : goal.lone_if-boxed-requires
lone_if-boxed-requires t c = (search rules, still c.args.set.now.cells.now c.args.st.now c.slot_of.new.st (slot_of c.args.st.now c.args.c.now) c.in_ok-id.id (slot_keeps c.args.st.now c.args.c.now) c.in_ok-id.ensures.made c.requires.measured)

pub while_of-boxed-requires : goal.while_of-boxed-requires
while_of-boxed-requires t c = (search rules, still c.args.set.now.cells.now c.args.st.now c.slot_of.new.st (slot_of c.args.st.now c.args.c.now) c.in_ok-id.id (slot_keeps c.args.st.now c.args.c.now) c.in_ok-id.ensures.made c.requires.measured)

pub for_of-boxed-requires : goal.for_of-boxed-requires
for_of-boxed-requires t c =
    let defs = c.args.set.now.defs.now in
    let head : Header = (c.in_ok-opening.opening, (c.in_ok-opening.test, c.in_ok-opening.step)) in
    (search rules, still c.args.set.now.cells.now c.args.st.now c.header.new.st (header_of defs c.args.o.now c.args.c.now c.args.x.now c.args.st.now) head (header_keeps defs c.args.o.now c.args.c.now c.args.x.now c.args.st.now) c.in_ok-opening.ensures.made c.requires.measured)

pub for_of-returns : goal.for_of-returns
for_of-returns t c =
    let defs = c.args.set.now.defs.now in
    let make : Making ps.Stmt = stmt_of defs c.args.set.now.returns.now true c.args.a.now in
    let head : Header = (c.in_ok-opening.opening, (c.in_ok-opening.test, c.in_ok-opening.step)) in
    let gone : c.leave.new.st ≡ leaving (depth c.args.st.now) c.boxed.new.st = c.leave.ensures ∙ ap (λ (n : ℕ). leaving n c.boxed.new.st) c.len-depth.ensures in
    record { made = for_made defs c.args.o.now c.args.c.now c.args.x.now make c.args.st.now head c.header.new.st c.in_ok-body.body c.boxed.new.st c.in_ok-opening.ensures.made c.in_ok-body.ensures.made ∙ ap (λ (s : State). Ok (to.For c.in_ok-opening.opening c.in_ok-opening.test c.in_ok-opening.step c.in_ok-body.body, s)) (sym gone) }

pub for_of-returns-in_err-opening : goal.for_of-returns-in_err-opening
for_of-returns-in_err-opening t c =
    let defs = c.args.set.now.defs.now in
    let make : Making ps.Stmt = stmt_of defs c.args.set.now.returns.now true c.args.a.now in
    let p = err_from_is_err_and c.from_residual.result c.from_residual.ensures.1 in
    record { made = rw (p.1, p.2) (for_no_header defs c.args.o.now c.args.c.now c.args.x.now make c.args.st.now c.in_err-opening.field-0.0 c.in_err-opening.ensures.made) }

pub for_of-returns-in_err-body : goal.for_of-returns-in_err-body
for_of-returns-in_err-body t c =
    let defs = c.args.set.now.defs.now in
    let make : Making ps.Stmt = stmt_of defs c.args.set.now.returns.now true c.args.a.now in
    let head : Header = (c.in_ok-opening.opening, (c.in_ok-opening.test, c.in_ok-opening.step)) in
    let p = err_from_is_err_and c.from_residual-in_err-body.result c.from_residual-in_err-body.ensures.1 in
    record { made = rw (p.1, p.2) (for_no_body defs c.args.o.now c.args.c.now c.args.x.now make c.args.st.now head c.header.new.st c.in_err-body.field-0.0 c.in_ok-opening.ensures.made c.in_err-body.ensures.made) }

pub stmt-returns-in-Block : goal.stmt-returns-in-Block
stmt-returns-in-Block t c = record { made = rw (c.in-Block.is, stmt_of-Block, ← c.as_slice.ensures) c.block.ensures.made }

pub stmt-returns-in-If : goal.stmt-returns-in-If
stmt-returns-in-If t c = record { made = rw (c.in-If.is, stmt_of-If, ← c.get.ensures) c.lone_if.ensures.made }

pub stmt-returns-in-While : goal.stmt-returns-in-While
stmt-returns-in-While t c = record { made = rw (c.in-While.is, stmt_of-While, ← c.get-in-While.ensures) c.while_of.ensures.made }

pub stmt-returns-in-Do : goal.stmt-returns-in-Do
stmt-returns-in-Do t c = record { made = rw (c.in-Do.is, stmt_of-Do, ← c.get-in-Do.ensures) c.do_of.ensures.made }

pub stmt-returns-in-For : goal.stmt-returns-in-For
stmt-returns-in-For t c = record { made = rw (c.in-For.is, stmt_of-For, ← c.get-in-For.ensures) c.for_of.ensures.made }

pub stmt-returns-in_err-id-in-IfElse : goal.stmt-returns-in_err-id-in-IfElse
stmt-returns-in_err-id-in-IfElse t c =
    let a = c.in-IfElse.a in
    let b = c.in-IfElse.b in
    let stop = c.in_err-id-in-IfElse.field-0.0 in
    let make : Stmt → Making ps.Stmt = λ x. stmt_of c.args.set.now.defs.now c.args.set.now.returns.now c.args.inside x in
    let is = if_else_as c.args.set.now.defs.now c.args.set.now.returns.now c.args.inside c.args.tree.now c.in-IfElse.field-0 c.in-IfElse.c a b a b c.args.st.now c.in-IfElse.is refl refl in
    let p = err_from_is_err_and c.from_residual.result c.from_residual.ensures.1 in
    record { made = rw (p.1, p.2) (subst (λ (w : Made ps.Stmt). IsStopped w stop) (sym is) (else_no_test c.in-IfElse.c (make a) (make b) c.args.st.now stop c.in_err-id-in-IfElse.ensures.made)) }

pub stmt-returns-in_err-body-in-IfElse : goal.stmt-returns-in_err-body-in-IfElse
stmt-returns-in_err-body-in-IfElse t c =
    let a = c.get-in-IfElse.result.now in
    let b = c.in-IfElse.b in
    let stop = c.in_err-body-in-IfElse.field-0.0 in
    let make : Stmt → Making ps.Stmt = λ x. stmt_of c.args.set.now.defs.now c.args.set.now.returns.now c.args.inside x in
    let is = if_else_as c.args.set.now.defs.now c.args.set.now.returns.now c.args.inside c.args.tree.now c.in-IfElse.field-0 c.in-IfElse.c c.in-IfElse.a b a b c.args.st.now c.in-IfElse.is c.get-in-IfElse.ensures refl in
    let p = err_from_is_err_and c.from_residual-in_err-body-in-IfElse.result c.from_residual-in_err-body-in-IfElse.ensures.1 in
    record { made = rw (p.1, p.2) (subst (λ (w : Made ps.Stmt). IsStopped w stop) (sym is) (else_no_body c.in-IfElse.c (make a) (make b) c.args.st.now c.in_ok-id-in-IfElse.id c.slot_of.new.st c.in_ok-id-in-IfElse.ensures.made stop c.in_err-body-in-IfElse.ensures.made)) }

pub stmt-returns-in_err-other-in-IfElse : goal.stmt-returns-in_err-other-in-IfElse
stmt-returns-in_err-other-in-IfElse t c =
    let a = c.get-in-IfElse.result.now in
    let b = c.get-in-IfElse-2.result.now in
    let stop = c.in_err-other-in-IfElse.field-0.0 in
    let make : Stmt → Making ps.Stmt = λ x. stmt_of c.args.set.now.defs.now c.args.set.now.returns.now c.args.inside x in
    let is = if_else_as c.args.set.now.defs.now c.args.set.now.returns.now c.args.inside c.args.tree.now c.in-IfElse.field-0 c.in-IfElse.c c.in-IfElse.a c.in-IfElse.b a b c.args.st.now c.in-IfElse.is c.get-in-IfElse.ensures c.get-in-IfElse-2.ensures in
    let p = err_from_is_err_and c.from_residual-in_err-other-in-IfElse.result c.from_residual-in_err-other-in-IfElse.ensures.1 in
    record { made = rw (p.1, p.2) (subst (λ (w : Made ps.Stmt). IsStopped w stop) (sym is) (else_no_other c.in-IfElse.c (make a) (make b) c.args.st.now c.in_ok-id-in-IfElse.id c.slot_of.new.st c.in_ok-id-in-IfElse.ensures.made c.in_ok-body-in-IfElse.body c.boxed.new.st c.in_ok-body-in-IfElse.ensures.made stop c.in_err-other-in-IfElse.ensures.made)) }

pub stmt-returns-in_ok-other-in-IfElse : goal.stmt-returns-in_ok-other-in-IfElse
stmt-returns-in_ok-other-in-IfElse t c =
    let a = c.get-in-IfElse.result.now in
    let b = c.get-in-IfElse-2.result.now in
    let make : Stmt → Making ps.Stmt = λ x. stmt_of c.args.set.now.defs.now c.args.set.now.returns.now c.args.inside x in
    let is = if_else_as c.args.set.now.defs.now c.args.set.now.returns.now c.args.inside c.args.tree.now c.in-IfElse.field-0 c.in-IfElse.c c.in-IfElse.a c.in-IfElse.b a b c.args.st.now c.in-IfElse.is c.get-in-IfElse.ensures c.get-in-IfElse-2.ensures in
    record { made = is ∙ else_made c.in-IfElse.c (make a) (make b) c.args.st.now c.in_ok-id-in-IfElse.id c.slot_of.new.st c.in_ok-id-in-IfElse.ensures.made c.in_ok-body-in-IfElse.body c.boxed.new.st c.in_ok-body-in-IfElse.ensures.made c.in_ok-other-in-IfElse.other c.boxed-in-IfElse.new.st c.in_ok-other-in-IfElse.ensures.made }
