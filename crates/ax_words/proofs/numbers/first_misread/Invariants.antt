use Rattle.std.proofs.Common.{◌≡◌, map, drop}
use Rattle.ax_words.specs.Numbers.{field_of, first_of_kind, is_misread}
use Rattle.ax_words.proofs.numbers.first_misread.Given as goal

abbrev pub invariant-loop-option : goal.invariant-loop-option
invariant-loop-option l = first_of_kind is_misread (map field_of l.options) ≡ first_of_kind is_misread (map field_of (drop l.option-index l.options))
