use Rattle.std.proofs.Common.{◌≡◌, map, drop, None}
use Rattle.ax_words.specs.Numbers.{field_of, first_of_kind, is_misread, is_off_range}
use Rattle.ax_words.proofs.numbers.first_off_range.Given as goal

abbrev pub invariant-loop-option : goal.invariant-loop-option
invariant-loop-option l = record {
  same : first_of_kind is_off_range (map field_of l.options) ≡ first_of_kind is_off_range (map field_of (drop l.option-index l.options));
  read : first_of_kind is_misread (map field_of (drop l.option-index l.options)) ≡ None;
}
