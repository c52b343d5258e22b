use Rattle.std.proofs.Common.{rules, ℕ, List, ap₂, ◌∙◌}
use Rattle.std.proofs.lemmas.List.Sorted.{answers_always}
use Rattle.ax_rank.specs.Runs.{Counts}
use Rattle.ax_rank.specs.declared.ranker.SeenRun.{SeenRun}
use Rattle.ax_rank.specs.Suspicion.{score_of, standings}
use Rattle.ax_rank.proofs.Orders.{all_seen, answers_earlier, earlier, earlier_order, in_order}
use Rattle.ax_rank.proofs.places.rank.Goals as goal

pub returns-in_err-order-clause-stopped : goal.returns-in_err-order-clause-stopped
returns-in_err-order-clause-stopped g c = all_seen _ _ _ _ c.in_ok-show.ensures.seen

pub returns-clause-order : goal.returns-clause-order
returns-clause-order g c =
    let scored = c.in_ok-order.ensures ∙ ap₂ (λ (f : ℕ → Counts → ℕ × ℕ) (seen : List SeenRun). standings (score_of f seen) c.args.places) c.show.ensures.formula c.in_ok-show.ensures.seen in
    let sorted = c.sort_unstable_by.ensures.sorted earlier earlier_order (answers_always _ _ _ (λ f a r next called. answers_earlier a.0.now a.1.0.now r (search rules))) in
    rw c.from_vec.ensures (in_order _ c.args.places _ _ scored c.sort_unstable_by.ensures.permutation sorted)
