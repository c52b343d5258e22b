use Rattle.std.proofs.Common.{◌≡◌, ◌≤◌, ◌-◌, ◌++◌, length}
use Rattle.std.specs.Prelude.{option_map}
use denote.Text.{Utf8}
use denote.Shadow.{shadow}
use Rattle.ax_words.specs.Lists.{parts_of, picks_from, picks_of}
use Rattle.ax_words.proofs.lists.picks_in.Given as goal

abbrev pub invariant-parts : goal.invariant-parts
invariant-parts l = shadow (Utf8 l.rest) × (length l.picks ≤ 4)
    × (picks_of l.fn.text ≡ option_map (λ ns. l.picks ++ ns) (picks_from (4 - length l.picks) l.last (parts_of l.rest)))

abbrev pub decreases-parts : goal.decreases-parts
decreases-parts l = length l.rest
