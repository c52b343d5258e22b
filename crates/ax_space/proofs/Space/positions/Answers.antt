use Rattle.std.proofs.Common.{◌≡◌, sym, subst, Some, slice_get}
use Rattle.ax_space.specs.Positions.{ArePositions}
use Rattle.ax_space.proofs.Places.{positions-of, small-at}
use Rattle.ax_space.proofs.Space.positions.Goals as goal

pub slot_positions-requires-clause-small : goal.slot_positions-requires-clause-small
slot_positions-requires-clause-small c =
    small-at c.self.inside.slots c.args.chosen c.slot-slot.result.now c.self.invariant.small (subst (λ z. slice_get z.slots c.args.chosen ≡ Some c.slot-slot.result.now) (sym c.self.view_is) c.slot-slot.ensures)

pub returns : goal.returns
returns c =
    (positions-of c.args.self.now c.args.chosen c.slot-slot.result.now c.in_ok-found.found c.slot-slot.ensures
    (subst (λ z. ArePositions z.sets z.grow c.slot-slot.result.now c.in_ok-found.found) c.self.view_is c.in_ok-found.ensures))
