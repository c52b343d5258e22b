use Rattle.ax_watch.proofs.Trails.{all_below, over_along, paired_along, reasons_along, goes_on_sized, only_forced, all_forced_none}
use Rattle.ax_proof.proofs.Lists.{Contains-none}
use Rattle.ax_watch.proofs.watch.Watch.propagate_by_scan.Goals as goal

pub scan-requires : goal.scan-requires
scan-requires c = all_below _ _ c.self.invariant.size c.self.invariant.over

pub invariant_of-self : goal.invariant_of-self
invariant_of-self c =
    let goes = c.scan.ensures.goes_on in
    record {
      size = rw goes.size c.self.invariant.size;
      over = rw goes.size c.self.invariant.over;
      literals = rw goes.size (over_along _ _ _ goes _ c.self.invariant.over c.self.invariant.literals);
      paired = paired_along _ _ _ goes c.self.invariant.paired;
      reasons = reasons_along _ _ _ goes c.self.invariant.paired c.self.invariant.reasons;
      watching = rw goes.size c.self.invariant.watching;
      short = c.self.invariant.short;
      marks = λ len there. absurd (Contains-none len (rw c.clear.ensures at there));
      head = tt;
      lists_fit = c.self.invariant.lists_fit;
      watched_fit = c.self.invariant.watched_fit;
      short_fit = c.self.invariant.short_fit;
    }

pub returns-clause-goes_on : goal.returns-clause-goes_on
returns-clause-goes_on c = rw (← c.self.view_is) (goes_on_sized _ _ _ c.scan.ensures.goes_on)

pub returns-clause-only_forced : goal.returns-clause-only_forced
returns-clause-only_forced c = rw (← c.self.view_is) (only_forced _ _ _ c.scan.ensures.goes_on)

pub returns-clause-all_forced : goal.returns-clause-all_forced
returns-clause-all_forced c = rw (← c.self.view_is) (all_forced_none _ _ _ c.scan.ensures.goes_on c.scan.result c.scan.ensures.says c.scan.ensures.consistent)

pub returns-clause-says : goal.returns-clause-says
returns-clause-says c = rw (← c.self.view_is) c.scan.ensures.says
