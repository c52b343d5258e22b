use Rattle.std.proofs.Common.{◌≡◌, length}
use denote.Text.{Utf8}
use denote.Shadow.{shadow}
use Rattle.ax_words.specs.Lists.{parts_of, sets_from, sets_of}
use Rattle.ax_words.proofs.lists.sets_in.Given as goal

abbrev pub invariant-parts : goal.invariant-parts
invariant-parts l = shadow (Utf8 l.rest) × (sets_of l.fn.text ≡ sets_from l.sets (parts_of l.rest))

abbrev pub decreases-parts : goal.decreases-parts
decreases-parts l = length l.rest
