use Rattle.std.proofs.Common.{◌≡◌, ℕ, ◌+◌, ◌*◌, ◌++◌, [], ◌∷◌, length, drop, reverse, ap, sym, append_assoc, arith}
use Rattle.std.proofs.lemmas.List.{reverse-append}
use Rattle.ax_proof.proofs.Runs.{begins_along}
use Rattle.ax_gates.specs.Gates.{blocks}
use Rattle.ax_gates_divider.specs.Divisions.{negated, turn_gates, turn_vars, Division, division, divide_vars}
use Rattle.ax_gates_divider.proofs.TurnLaws.{length-negated, fresh_same}
use Rattle.ax_gates_divider.proofs.DivisionLaws.{length-remainder, vars-division}
use Rattle.ax_gates_divider.proofs.Steps.{step_blocks, step_vars, step_quotient, step_remainder, turn_room}
use Rattle.ax_gates_divider.proofs.quotients.long_division.Goals as goal

pub next_bit-requires-clause-same_length : goal.next_bit-requires-clause-same_length
next_bit-requires-clause-same_length c =
    let n = c.args.cnf.now.vars in
    let rest = drop c.loop-i.i c.args.a.now in
    let wide = length-negated c.args.b.now in
    let low = length-remainder n rest c.args.b.now in
    let minus : length c.deref-in-loop-i.result.now ≡ length (negated c.args.b.now) = cc (c.in_ok-minus.ensures, c.deref-in-loop-i.ensures.value) in
    let remainder : length c.deref.result.now ≡ length (division n rest c.args.b.now).remainder = cc (c.deref.ensures.value, c.loop-i.invariant.remainder) in
    omega arith

pub next_bit-requires-clause-room : goal.next_bit-requires-clause-room
next_bit-requires-clause-room c =
    let n = c.args.cnf.now.vars in
    let a = c.args.a.now in
    let b = c.args.b.now in
    let low = length-remainder n (drop c.loop-i.i a) b in
    let remainder : length c.deref.result.now ≡ length (division n (drop c.loop-i.i a) b).remainder = cc (c.deref.ensures.value, c.loop-i.invariant.remainder) in
    let room = turn_room n a b c.loop-i.i (omega arith) c.loop-i.invariant.within in
    let all : length a * turn_vars (length b) ≡ divide_vars (length a) = ap (λ (k : ℕ). length a * turn_vars k) (sym c.requires.same_length) in
    omega arith

pub loop-i-preserved : goal.loop-i-preserved
loop-i-preserved c =
    let n = c.args.cnf.now.vars in
    let a = c.args.a.now in
    let b = c.args.b.now in
    let i = c.loop-i.i in
    let bit = c.index-a-i.result in
    let d : Division = division n (drop i a) b in
    let low = length-remainder n (drop i a) b in
    let minus : c.deref-in-loop-i.result.now ≡ negated b = cc (c.in_ok-minus.ensures, c.deref-in-loop-i.ensures.value) in
    let remainder : c.deref.result.now ≡ d.remainder = cc (c.deref.ensures.value, c.loop-i.invariant.remainder) in
    let short : length c.deref.result.now ≡ length b = cc in
    let blocks_here = step_blocks n a b i bit (omega arith) c.loop-i.invariant.within in
    let vars_here = step_vars n a b i bit (omega arith) c.loop-i.invariant.within in
    let quotient_here = step_quotient n a b i bit (omega arith) c.loop-i.invariant.within in
    let remainder_here = step_remainder n a b i bit (omega arith) c.loop-i.invariant.within in
    let join = append_assoc c.args.cnf.now.clauses.items (blocks n d.gates) (blocks d.vars (turn_gates d.vars (bit ∷ d.remainder) (negated b) (length b))) in
    let same = fresh_same (d.vars + 2 * (length b + 1)) d.remainder b low in
    let first : reverse (c.loop-i.quotient.items ++ c.in_ok-bit.bit ∷ []) ≡ c.in_ok-bit.bit ∷ reverse c.loop-i.quotient.items = reverse-append c.loop-i.quotient.items (c.in_ok-bit.bit ∷ []) in
    record {
      within = omega arith;
      vars = cc (c.in_ok-bit.ensures.vars);
      clauses = cc (c.in_ok-bit.ensures.appends);
      quotient = cc (c.in_ok-bit.ensures.fits, c.in_ok-push.ensures.items);
      remainder = cc (c.in_ok-bit.ensures.left);
      begins = begins_along _ _ _ c.loop-i.invariant.begins c.in_ok-bit.ensures.begins;
    }

pub returns-clause-vars : goal.returns-clause-vars
returns-clause-vars c =
    let n = c.args.cnf.now.vars in
    let a = c.args.a.now in
    let b = c.args.b.now in
    let done : c.loop-i.i ≡ 0 = omega arith in
    let whole : drop c.loop-i.i a ≡ a = ap (λ (k : ℕ). drop k a) done in
    let vars = vars-division n a b in
    let all : length a * turn_vars (length b) ≡ divide_vars (length a) = ap (λ (k : ℕ). length a * turn_vars k) (sym c.requires.same_length) in
    cc
