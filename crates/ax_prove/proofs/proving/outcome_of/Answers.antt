use Rattle.std.proofs.Common.{rules, ◌≡◌, ◌++◌, []}
use Rattle.ax_proof.specs.Lines.{IsProof}
use Rattle.ax_sat.specs.Answer.{LogGoesOn, SpendsBudget, units}
use Rattle.ax_prove.specs.Texts.{proof_text}
use Rattle.ax_prove.proofs.Found.{lines-shown, model-refuted, proof-shown}
use Rattle.ax_prove.proofs.proving.outcome_of.Goals as goal

pub returns-in-Refuted-clause-shows : goal.returns-in-Refuted-clause-shows
returns-in-Refuted-clause-shows c =
    let proof : IsProof (c.args.cnf.now.clauses.items ++ units []) c.solve.new.log.lines.items = rw c.in-Refuted.is at c.in_ok-assignment.ensures.answer in
    let text : c.in_ok-proof_text-in-Refuted.field-0.items ≡ proof_text c.solve.new.log.lines.items = search rules in
    proof-shown c.args.cnf.now.vars c.args.cnf.now.clauses.items c.solve.new.log.lines.items c.in_ok-proof_text-in-Refuted.field-0.items proof text

pub returns-in-Refuted-clause-decides : goal.returns-in-Refuted-clause-decides
returns-in-Refuted-clause-decides c =
    let proof : IsProof (c.args.cnf.now.clauses.items ++ units []) c.solve.new.log.lines.items = rw c.in-Refuted.is at c.in_ok-assignment.ensures.answer in
    model-refuted c.args.cnf.now.vars c.args.cnf.now.clauses.items c.laws.ensures.proof_refutes c.solve.new.log.lines.items proof

pub returns-clause-shows : goal.returns-clause-shows
returns-clause-shows c =
    let spent : SpendsBudget (c.args.cnf.now.clauses.items ++ units []) c.args.cnf.now.vars [] c.solve.new.log.lines.items c.args.budget =
    rw (c.in-Budget.is, c.new.ensures.items) at c.in_ok-assignment.ensures.answer in
    let log : LogGoesOn c.args.cnf.now.clauses.items [] c.args.cnf.now.vars [] c.solve.new.log.lines.items = rw c.new.ensures.items at c.in_ok-assignment.ensures.log in
    let text : c.in_ok-proof_text-in-Budget.field-0.items ≡ proof_text c.solve.new.log.lines.items = search rules in
    lines-shown c.args.cnf.now.vars c.args.cnf.now.clauses.items c.args.budget c.solve.new.log.lines.items c.in_ok-proof_text-in-Budget.field-0.items spent log text
