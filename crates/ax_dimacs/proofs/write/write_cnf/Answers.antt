use Rattle.std.proofs.Common.{◌≡◌, ◌∙◌, ◌≤◌, rules, take, take_all, length, ap}
use Rattle.ax_dimacs.specs.Clauses.{formula_of}
use Rattle.ax_dimacs.proofs.Back.{file-back}
use Rattle.ax_dimacs.proofs.write.write_cnf.Goals as goal

pub returns-clause-back : goal.returns-clause-back
returns-clause-back c = λ is.
    let done : length c.args.cnf.now.clauses.items ≤ c.loop-clause.clause-index = search rules in
    let whole : take c.loop-clause.clause-index c.args.cnf.now.clauses.items ≡ c.args.cnf.now.clauses.items = take_all c.loop-clause.clause-index c.args.cnf.now.clauses.items done in
    let text = rw whole at c.loop-clause.invariant.text in
    let rising = rw whole at c.loop-clause.invariant.rising in
    ap formula_of text ∙ file-back c.args.cnf.now.vars c.args.cnf.now.clauses.items rising is
