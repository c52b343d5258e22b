use Rattle.ax_proof.proofs.Codes.{inserted, inserted_consistent, kept_consistent}
use Rattle.ax_proof.proofs.known.Known.push.Goals as goal

pub invariant_of-self : goal.invariant_of-self
invariant_of-self c = kept_consistent c.self.inside.codes.keys _ c.in_err-insert.ensures.err c.self.invariant

pub invariant_of-self-2 : goal.invariant_of-self-2
invariant_of-self-2 c =
    let is_open = rw (← c.self.view_is) at c.requires in
    let is_new = rw c.code.ensures.value at c.in_ok-insert.ensures.keys in
    inserted_consistent c.self.inside.codes.keys _ c.args.lit is_open is_new c.self.invariant

pub returns : goal.returns
returns c =
    let is_open = rw (← c.self.view_is) at c.requires in
    let is_new = rw c.code.ensures.value at c.in_ok-insert.ensures.keys in
    rw (← c.self.view_is) (inserted c.self.inside.codes.keys _ c.args.lit is_open is_new)
