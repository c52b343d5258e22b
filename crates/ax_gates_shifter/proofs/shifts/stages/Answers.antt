use Rattle.std.proofs.Common.{◌≡◌, ◌+◌, ◌++◌, ℕ, List, ◌∷◌, drop, length, ap, ◌∙◌}
use Rattle.ax_proof.specs.Literal.{Literal}
use Rattle.ax_gates.specs.Gates.{blocks}
use Rattle.ax_gates.specs.Words.{fresh, pick_gates}
use Rattle.ax_proof.proofs.Runs.{begins_along}
use Rattle.ax_gates_shifter.specs.Shifter.{moved_word, shift_gates, shift_outs}
use Rattle.ax_gates_shifter.proofs.Words.{drop_next, stage_step, outs_step, vars_step, width_step, places_step}
use Rattle.ax_gates_shifter.proofs.shifts.stages.Goals as goal

pub loop-i-preserved : goal.loop-i-preserved
loop-i-preserved c =
    let count : List Literal = c.args.count.now in
    let bits : List Literal = c.loop-i.bits.items in
    let n : ℕ = c.loop-i.cnf.vars in
    let m : ℕ = c.stage.new.cnf.vars in
    let k : Literal = c.index-count-i.result in
    let next_bits : List Literal = c.in_ok-bits-2.bits.items in
    let e : drop c.loop-i.i count ≡ k ∷ drop (c.loop-i.i + 1) count = drop_next count c.loop-i.i k c.loop-i-test.true c.index-count-i.is in
    let f : next_bits ≡ fresh n bits = c.in_ok-bits-2.ensures.outs ∙ ap (fresh n) c.deref.ensures.value in
    let g : m ≡ n + length bits = c.in_ok-bits-2.ensures.vars ∙ ap (λ (ls : List Literal). n + length ls) c.deref.ensures.value in
    let h : c.stage.new.cnf.clauses.items ≡ c.loop-i.cnf.clauses.items ++ blocks n (pick_gates k (moved_word c.args.right c.args.fill c.loop-i.places bits) bits) =
    c.in_ok-bits-2.ensures.appends
    ∙ ap (λ (ls : List Literal). c.loop-i.cnf.clauses.items ++ blocks n (pick_gates k (moved_word c.args.right c.args.fill c.loop-i.places ls) ls)) c.deref.ensures.value
    in record {
      vars = vars_step m n c.args.cnf.now.vars (length bits) c.loop-i.i g c.loop-i.invariant.width c.loop-i.invariant.vars;
      width = width_step n bits next_bits f c.loop-i.invariant.width;
      places = places_step c.loop-i.places c.loop-i.i c.loop-i.invariant.places;
      clauses = stage_step (c.args.cnf.now.clauses.items ++ blocks c.args.cnf.now.vars (shift_gates c.args.right c.args.fill c.args.cnf.now.vars c.args.word.now count 1)) c.loop-i.cnf.clauses.items c.stage.new.cnf.clauses.items c.args.right c.args.fill n m bits next_bits k (drop c.loop-i.i count) (drop (c.loop-i.i + 1) count) c.loop-i.places e
          c.loop-i.invariant.clauses h f g;
      outs = outs_step (shift_outs c.args.cnf.now.vars c.args.word.now count) n m bits next_bits k (drop c.loop-i.i count) (drop (c.loop-i.i + 1) count) e c.loop-i.invariant.outs f g;
      begins = begins_along c.args.cnf.now.clauses.items c.loop-i.cnf.clauses.items c.stage.new.cnf.clauses.items c.loop-i.invariant.begins c.stage.ensures.begins;
    }
