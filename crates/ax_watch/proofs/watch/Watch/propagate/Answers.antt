use Rattle.std.proofs.Common.{◌≡◌, length, vec_len, Some, None, inl, inr, arith}
use Rattle.ax_watch.proofs.Trails.{all_below, over_along, paired_along, reasons_along, goes_on_sized, only_forced, all_forced_none}
use Rattle.ax_watch.proofs.Walks.{walks_watching}
use Rattle.ax_watch.proofs.Marks.{back_whole, exact_found}
use Rattle.ax_watch.proofs.Reaching.{start_some}
use Rattle.ax_watch.proofs.watch.Watch.propagate.Goals as goal

pub resume-found-requires-clause-below : goal.resume-found-requires-clause-below
resume-found-requires-clause-below c = all_below _ _ c.self.invariant.size c.self.invariant.over

pub resume-found-requires-clause-from : goal.resume-found-requires-clause-from
resume-found-requires-clause-from c = rw c.as_mut_slice.ensures.value (start_some _ _ _ _ _ c.start-from.result c.self.invariant.marks c.self.invariant.head c.start-from.ensures)

pub invariant_of-self : goal.invariant_of-self
invariant_of-self c =
    let goes = c.resume-found.ensures.walks.goes_on in
    let a = c.resume-found.ensures.walks.watching.two.sized in
    let b = c.self.invariant.watching.two.sized in
    let n : length c.resume-found.new.watched ≡ vec_len c.self.inside.watched = omega arith in
    let whole = back_whole (vec_len c.self.inside.watched) c.resume-found.new.watched c.self.inside.watched.items n in
    record {
      size = rw goes.size c.self.invariant.size;
      over = rw goes.size c.self.invariant.over;
      literals = rw goes.size (over_along _ _ _ goes _ c.self.invariant.over c.self.invariant.literals);
      paired = paired_along _ _ _ goes c.self.invariant.paired;
      reasons = reasons_along _ _ _ goes c.self.invariant.paired c.self.invariant.reasons;
      watching = rw whole (walks_watching _ c.self.inside.trail _ _ c.resume-found.new.trail _ _ c.resume-found.ensures.walks);
      short = c.self.invariant.short;
      marks = λ len there. let keeps = rw c.as_mut_slice.ensures.value at c.resume-found.ensures.walks.marks in rw whole (keeps len (c.self.invariant.marks len there));
      head = tt;
      lists_fit = let r = c.resume-found.ensures.walks.large.room in let f = c.self.invariant.lists_fit in omega arith;
      watched_fit = c.self.invariant.watched_fit;
      short_fit = c.self.invariant.short_fit;
    }

pub invariant_of-self-in-None : goal.invariant_of-self-in-None
invariant_of-self-in-None c =
    let goes = c.resume-found.ensures.walks.goes_on in
    let a = c.resume-found.ensures.walks.watching.two.sized in
    let b = c.self.invariant.watching.two.sized in
    let n : length c.resume-found.new.watched ≡ vec_len c.self.inside.watched = omega arith in
    let whole = back_whole (vec_len c.self.inside.watched) c.resume-found.new.watched c.self.inside.watched.items n in
    record {
      size = rw goes.size c.self.invariant.size;
      over = rw goes.size c.self.invariant.over;
      literals = rw goes.size (over_along _ _ _ goes _ c.self.invariant.over c.self.invariant.literals);
      paired = paired_along _ _ _ goes c.self.invariant.paired;
      reasons = reasons_along _ _ _ goes c.self.invariant.paired c.self.invariant.reasons;
      watching = rw whole (walks_watching _ c.self.inside.trail _ _ c.resume-found.new.trail _ _ c.resume-found.ensures.walks);
      short = c.self.invariant.short;
      marks = λ len there.
          let keeps = rw c.as_mut_slice.ensures.value at c.resume-found.ensures.walks.marks in
          elim (c.push.ensures len there) [
            | inl was ↦ rw whole (keeps len (c.self.invariant.marks len was))
            | inr e ↦ rw (whole, e, c.lits-in-None.ensures.value) c.in-None.ensures.mark
          ];
      head = tt;
      lists_fit = let r = c.resume-found.ensures.walks.large.room in let f = c.self.invariant.lists_fit in omega arith;
      watched_fit = c.self.invariant.watched_fit;
      short_fit = c.self.invariant.short_fit;
    }

pub returns-in-Some-clause-goes_on : goal.returns-in-Some-clause-goes_on
returns-in-Some-clause-goes_on c = rw (← c.self.view_is) (goes_on_sized _ _ _ c.resume-found.ensures.walks.goes_on)

pub returns-in-Some-clause-only_forced : goal.returns-in-Some-clause-only_forced
returns-in-Some-clause-only_forced c = rw (← c.self.view_is) (only_forced _ _ _ c.resume-found.ensures.walks.goes_on)

pub returns-in-Some-clause-conflict : goal.returns-in-Some-clause-conflict
returns-in-Some-clause-conflict c = rw (← c.self.view_is) (exact_found _ _ _ (Some c.in-Some.place) c.resume-found.ensures.walks.goes_on c.lits.ensures.consistent c.in-Some.ensures.says)

pub returns-in-None-clause-goes_on : goal.returns-in-None-clause-goes_on
returns-in-None-clause-goes_on c = rw (← c.self.view_is) (goes_on_sized _ _ _ c.resume-found.ensures.walks.goes_on)

pub returns-in-None-clause-only_forced : goal.returns-in-None-clause-only_forced
returns-in-None-clause-only_forced c = rw (← c.self.view_is) (only_forced _ _ _ c.resume-found.ensures.walks.goes_on)

pub returns-in-None-clause-conflict : goal.returns-in-None-clause-conflict
returns-in-None-clause-conflict c = rw (← c.self.view_is) (exact_found _ _ _ None c.resume-found.ensures.walks.goes_on c.lits.ensures.consistent c.in-None.ensures.says)

pub returns-in-None-clause-all_forced : goal.returns-in-None-clause-all_forced
returns-in-None-clause-all_forced c = rw (← c.self.view_is) (all_forced_none _ _ _ c.resume-found.ensures.walks.goes_on None c.in-None.ensures.says c.lits.ensures.consistent)

pub returns-in-None-clause-says : goal.returns-in-None-clause-says
returns-in-None-clause-says c = rw (← c.self.view_is) c.in-None.ensures.says
