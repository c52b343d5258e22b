use Rattle.ax_print_back.proofs.Law.{law}
use Rattle.ax_print_back.proofs.reads_back.Goals as goal

pub returns : goal.returns
returns c = λ source program changes text h. law (record {
  lie = c.slots_lie.ensures;
  rise = c.slots_rise.ensures;
  words = c.names_are_words.ensures;
  swapped = c.stretches_are_swapped.ensures;
  shown = c.trees_are_shown.ensures;
  holes = c.holes_are_spelled.ensures;
  filled = c.filled_programs.ensures;
  written = c.written_numbers.ensures;
  atoms = c.atoms_are_parts.ensures;
}) source program changes text h
