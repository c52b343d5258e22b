use Rattle.std.proofs.Common.{sym, ◌∙◌}
use Rattle.ax_lex.specs.Faults.{Stuck}
use Rattle.ax_lex.proofs.Firsts.{space_is}
use Rattle.ax_lex.proofs.Results.{or_memory}
use Rattle.ax_lex.proofs.front.first.Goals as goal

pub returns-then-is_space-clause-found : goal.returns-then-is_space-clause-found
returns-then-is_space-clause-found c = space_is c.args.s.now c.args.fresh c.fresh_after_space.result c.requires.some (sym c.is_space.ensures ∙ c.if-is_space.true) c.fresh_after_space.ensures

pub returns-then-is_ascii_digit-clause-fault : goal.returns-then-is_ascii_digit-clause-fault
returns-then-is_ascii_digit-clause-fault c = or_memory c.number_front.result (λ e. Stuck c.args.at c.args.fresh c.args.count c.args.s.now e) (c.number_front.ensures.fault c.args.fresh)

pub returns-then-opens-clause-fault : goal.returns-then-opens-clause-fault
returns-then-opens-clause-fault c = or_memory c.line_front.result (λ e. Stuck c.args.at c.args.fresh c.args.count c.args.s.now e) (c.line_front.ensures.fault c.args.fresh c.args.count)

pub returns-then-opens-2-clause-fault : goal.returns-then-opens-2-clause-fault
returns-then-opens-2-clause-fault c = or_memory c.block_front.result (λ e. Stuck c.args.at c.args.fresh c.args.count c.args.s.now e) (c.block_front.ensures.fault c.args.fresh c.args.count)

pub returns-then-b-eq35-clause-fault : goal.returns-then-b-eq35-clause-fault
returns-then-b-eq35-clause-fault c = or_memory c.include_front.result (λ e. Stuck c.args.at c.args.fresh c.args.count c.args.s.now e) (c.include_front.ensures.fault c.args.count)

pub returns-then-b-eq34-clause-fault : goal.returns-then-b-eq34-clause-fault
returns-then-b-eq34-clause-fault c = or_memory c.format_front.result (λ e. Stuck c.args.at c.args.fresh c.args.count c.args.s.now e) (c.format_front.ensures.fault c.args.fresh c.args.count)

pub returns-clause-fault : goal.returns-clause-fault
returns-clause-fault c = or_memory c.mark_front.result (λ e. Stuck c.args.at c.args.fresh c.args.count c.args.s.now e) (c.mark_front.ensures.fault c.args.fresh c.args.count)
