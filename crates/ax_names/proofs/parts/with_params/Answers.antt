use Rattle.std.proofs.Common.{◌≤◌, min, length, sym, ◌∙◌, arith}
use Rattle.ax_names.proofs.Steps.{ids_end, params_end}
use Rattle.ax_names.proofs.parts.with_params.Goals as goal

pub returns-clause-ids : goal.returns-clause-ids
returns-clause-ids c =
    let ps = c.args.params.now in
    let us = c.args.types.now in
    let all : min (length ps) (length us) ≤ c.loop-i.i = omega (arith, c.min-i-end.ensures, c.loop-i-test.false) in
    sym (ids_end ps us c.loop-i.i c.loop-i.st c.loop-i.ids all) ∙ c.loop-i.invariant.ids

pub returns-clause-state : goal.returns-clause-state
returns-clause-state c =
    let ps = c.args.params.now in
    let us = c.args.types.now in
    let all : min (length ps) (length us) ≤ c.loop-i.i = omega (arith, c.min-i-end.ensures, c.loop-i-test.false) in
    sym (params_end ps us c.loop-i.i c.loop-i.st all) ∙ c.loop-i.invariant.state
