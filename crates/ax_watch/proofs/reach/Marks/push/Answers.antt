use Rattle.std.proofs.Common.{◌≤◌, ℕ, inl, inr, sym}
use Rattle.std.specs.List.{Contains}
use Rattle.std.proofs.lemmas.List.Elements.{Contains-push_cases}
use Rattle.ax_watch.proofs.Reaching.{rising_push}
use Rattle.ax_watch.proofs.reach.Marks.push.Goals as goal

pub invariant_of-self : goal.invariant_of-self
invariant_of-self c =
    let low : (m : ℕ) → Contains c.self.inside.lens.items m → m ≤ c.args.len = λ m h. (c.cut.ensures m (rw c.self.view_is at h)).1 in
    rw c.push_reserved.ensures.items (rising_push _ c.args.len c.self.invariant low)

pub returns-then-len-capacity : goal.returns-then-len-capacity
returns-then-len-capacity c = λ m h.
    elim (Contains-push_cases _ c.args.len m (rw c.push_reserved.ensures.items at h)) [
      | inl q ↦ inl (c.cut.ensures m (rw c.self.view_is at q)).0
      | inr e ↦ inr (sym e)
    ]

pub returns-else-ne : goal.returns-else-ne
returns-else-ne c = λ m h. inl (c.cut.ensures m h).0
