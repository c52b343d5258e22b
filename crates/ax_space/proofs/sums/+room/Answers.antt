use Rattle.std.proofs.Common.{arith, ◌≤◌}
use Rattle.std.proofs.lemmas.List.Elements.{All-head, All-tail}
use Rattle.ax_prog.specs.Nodes.{nodes}
use Rattle.ax_space_trees.specs.Sizes.{words}
use Rattle.ax_space_trees.proofs.Sizes.{words-small}
use Rattle.ax_space.proofs.Costs.{small-product}
use Rattle.ax_space.proofs.Slices.{tail_of, all-parts, tail-length}
use Rattle.ax_space.proofs.sums.+room.Goals as goal

pub room-requires : goal.room-requires
room-requires t c =
    let n = tail-length c.args.slots.now c.slot-item.result c.in-len1-up.len_at_least c.slot-item.is in
    let all = all-parts (λ s. nodes s.expr ≤ 31) c.args.slots.now c.slot-item.result c.in-len1-up.len_at_least c.slot-item.is c.requires.small in
    (omega arith, (All-tail (λ s. nodes s.expr ≤ 31) c.slot-item.result (tail_of c.args.slots.now) all, (omega (arith, n, c.requires.few), c.requires.grown)))

pub overflow_add-result : goal.overflow_add-result
overflow_add-result t c =
    let n = tail-length c.args.slots.now c.slot-item.result c.in-len1-up.len_at_least c.slot-item.is in
    let all = all-parts (λ s. nodes s.expr ≤ 31) c.args.slots.now c.slot-item.result c.in-len1-up.len_at_least c.slot-item.is c.requires.small in
    let h = All-head (λ s. nodes s.expr ≤ 31) c.slot-item.result (tail_of c.args.slots.now) all in
    let own = small-product (nodes c.slot-item.result.expr) (words c.args.grow) h (words-small c.args.grow c.requires.grown) in
    let is = c.most_nodes-own.ensures in
    let rest = c.room.ensures.bound in
    let few = c.requires.few in
    omega arith

pub returns-in-len1-up-clause-bound : goal.returns-in-len1-up-clause-bound
returns-in-len1-up-clause-bound t c =
    let n = tail-length c.args.slots.now c.slot-item.result c.in-len1-up.len_at_least c.slot-item.is in
    let all = all-parts (λ s. nodes s.expr ≤ 31) c.args.slots.now c.slot-item.result c.in-len1-up.len_at_least c.slot-item.is c.requires.small in
    let h = All-head (λ s. nodes s.expr ≤ 31) c.slot-item.result (tail_of c.args.slots.now) all in
    let own = small-product (nodes c.slot-item.result.expr) (words c.args.grow) h (words-small c.args.grow c.requires.grown) in
    let is = c.most_nodes-own.ensures in
    let rest = c.room.ensures.bound in
    omega arith
