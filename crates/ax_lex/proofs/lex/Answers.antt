use Rattle.std.proofs.Common.{◌≡◌, ◌⊎◌, arith, rules, drop, subst, inr, IfErr, Err}
use Rattle.ax_lex.specs.declared.front.Front.{Front}
use Rattle.ax_lex.specs.Bytes.{Text}
use Rattle.ax_lex.specs.Fronts.{FrontIs}
use Rattle.ax_lex.proofs.Turns.{turn_layout, turn_token, stops, full}
use Rattle.ax_lex.specs.declared.LexFault.TheVariants as fault
use Rattle.ax_lex.specs.Faults.{Faulty}
use Rattle.ax_lex.proofs.Unique.{one_list}
use Rattle.ax_lex.proofs.Results.{only_of, unspelled_of}
use Rattle.ax_lex.proofs.lex.Goals as goal
use Rattle.ax_lex.proofs.Turns.{ends}

pub loop-at-preserved-in-Layout : goal.loop-at-preserved-in-Layout
loop-at-preserved-in-Layout c =
    let found : FrontIs c.loop-at.fresh c.in_ok-found.found (drop c.loop-at.at c.args.bytes.now) = subst (λ (w : Text). FrontIs c.loop-at.fresh c.in_ok-found.found w) c.past.ensures c.in_ok-found.ensures.found in
    turn_layout c.args.bytes.now c.loop-at.at c.in-Layout.n c.loop-at.fresh c.in-Layout.next c.loop-at.tokens c.loop-at.invariant (subst (λ (x : Front). FrontIs c.loop-at.fresh x (drop c.loop-at.at c.args.bytes.now)) c.in-Layout.is found)

pub loop-at-preserved : goal.loop-at-preserved
loop-at-preserved c =
    let found : FrontIs c.loop-at.fresh c.in_ok-found.found (drop c.loop-at.at c.args.bytes.now) = subst (λ (w : Text). FrontIs c.loop-at.fresh c.in_ok-found.found w) c.past.ensures c.in_ok-found.ensures.found in
    let pushed = c.in_ok-push-in-Word.ensures.ok in
    turn_token c.args.bytes.now c.loop-at.at c.in-Word.n c.loop-at.fresh c.loop-at.tokens c.push.new.self c.in-Word.kind c.loop-at.invariant (subst (λ (x : Front). FrontIs c.loop-at.fresh x (drop c.loop-at.at c.args.bytes.now)) c.in-Word.is found) (omega (arith, c.len-in-Word.ensures)) pushed

-- a fault of what stands next
pub returns-in_err-found-clause-only_fault : goal.returns-in_err-found-clause-only_fault
returns-in_err-found-clause-only_fault c =
    let stands : IfErr c.from_residual.result (λ e. (e ≡ fault.Memory) ⊎ Faulty c.args.bytes.now e) = search (rules, stops) in
    only_of c.args.bytes.now c.from_residual.result stands

pub returns-in_err-found-clause-unspelled : goal.returns-in_err-found-clause-unspelled
returns-in_err-found-clause-unspelled c =
    let stands : IfErr c.from_residual.result (λ e. (e ≡ fault.Memory) ⊎ Faulty c.args.bytes.now e) = search (rules, stops) in
    unspelled_of c.args.bytes.now c.from_residual.result stands

-- token 20,001
pub returns-then-len-ge-MAX_TOKENS-clause-fault : goal.returns-then-len-ge-MAX_TOKENS-clause-fault
returns-then-len-ge-MAX_TOKENS-clause-fault c = inr (full c.args.bytes.now c.loop-at.at c.in-Word.n c.loop-at.fresh c.loop-at.tokens c.in-Word.kind c.in_ok-found.found c.past.result.now c.loop-at.invariant c.past.ensures c.in_ok-found.ensures.found c.in-Word.is (omega (arith, c.len-in-Word.ensures)))

pub returns-then-len-ge-MAX_TOKENS-clause-only_fault : goal.returns-then-len-ge-MAX_TOKENS-clause-only_fault
returns-then-len-ge-MAX_TOKENS-clause-only_fault c = only_of {A = ⊥} c.args.bytes.now (Err (fault.TooManyTokens c.loop-at.at)) (returns-then-len-ge-MAX_TOKENS-clause-fault c)

pub returns-then-len-ge-MAX_TOKENS-clause-unspelled : goal.returns-then-len-ge-MAX_TOKENS-clause-unspelled
returns-then-len-ge-MAX_TOKENS-clause-unspelled c = unspelled_of {A = ⊥} c.args.bytes.now (Err (fault.TooManyTokens c.loop-at.at)) (returns-then-len-ge-MAX_TOKENS-clause-fault c)

pub returns-clause-only : goal.returns-clause-only
returns-clause-only c others spelled = one_list c.args.bytes.now others c.loop-at.tokens spelled (ends c.args.bytes.now c.loop-at.at c.loop-at.fresh c.loop-at.tokens c.loop-at.invariant (omega arith))
