use Rattle.std.proofs.Common.{◌≡◌, ℕ, ◌≤◌, ◌<◌, List, [], ◌∷◌, ◌++◌, Some, sym, refl, subst, arith, length, drop}
use Rattle.std.proofs.lemmas.Result.{err_from_is_err_and}
use Rattle.ax_prog.specs.declared.tokens.Token.{Token}
use Rattle.ax_parse_grammar.specs.declared.tree.Part.{Part}
use Rattle.ax_parse_grammar.specs.Reading.{repeated, Settles}
use Rattle.ax_parse_grammar.specs.ReadSources.{ends_source, top}
use Rattle.ax_parse_statements.proofs.DeclarationTurns.{OnTo, on_push, on_fail, on_end, repeated_on, repeated_fail, repeated_end}
use Rattle.ax_parse.proofs.Ends.{more_left, none_left}
use Rattle.ax_parse.proofs.Turns.{all_err}
use Rattle.ax_parse.proofs.trees.parts.Goals as goal

pub returns-in_err-next : goal.returns-in_err-next
returns-in_err-next c =
    let p = err_from_is_err_and c.from_residual.result c.from_residual.ensures.1 in
    let tokens = c.args.tokens.now in
    let us = drop c.loop-at.at tokens in
    let below : c.loop-at.at < length tokens = omega (arith, c.loop-at-test.true) in
    rw (p.1, p.2) (all_err tokens c.in_err-next.field-0.0 (λ n. top n us) (λ n. repeated ends_source top n tokens) c.in_err-next.ensures.exact (λ none. on_fail (λ n. repeated ends_source top n tokens) (λ n. repeated ends_source top n us) c.loop-at.found c.loop-at.invariant.1 (repeated_fail ends_source top us (more_left tokens c.loop-at.at below) none)))

pub loop-at-preserved : goal.loop-at-preserved
loop-at-preserved c =
    let tokens = c.args.tokens.now in
    let us = drop c.loop-at.at tokens in
    let r = drop c.in_ok-next.end tokens in
    let below : c.loop-at.at < length tokens = omega (arith, c.loop-at-test.true) in
    (c.in_ok-next.ensures.forward.1, subst (λ (l : List Part). OnTo (λ n. repeated ends_source top n tokens) (λ n. repeated ends_source top n r) l) (sym c.in_ok-push.ensures.ok) (on_push (λ n. repeated ends_source top n tokens) (λ n. repeated ends_source top n us) (λ n. repeated ends_source top n r) c.loop-at.found c.in_ok-next.next c.loop-at.invariant.1 (repeated_on ends_source top us r c.in_ok-next.next (more_left tokens c.loop-at.at below) c.in_ok-next.ensures.exact)))

pub returns : goal.returns
returns c =
    let tokens = c.args.tokens.now in
    let us = drop c.loop-at.at tokens in
    let past : length tokens ≤ c.loop-at.at = omega (arith, c.loop-at-test.false) in
    let end : us ≡ [] = none_left tokens c.loop-at.at past in
    let at_end : Settles (λ n. repeated ends_source top n us) (Some ([], [])) = subst (λ (l : List Token). Settles (λ n. repeated ends_source top n l) (Some ([], []))) (sym end) (repeated_end ends_source top [] refl) in
    on_end (λ n. repeated ends_source top n tokens) (λ n. repeated ends_source top n us) c.loop-at.found [] c.loop-at.invariant.1 at_end
