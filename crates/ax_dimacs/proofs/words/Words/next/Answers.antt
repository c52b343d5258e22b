use Rattle.std.proofs.Common.{◌≤◌, ◌∙◌, sym, rules, length}
use Rattle.ax_dimacs.proofs.Reading.{next-word}
use Rattle.ax_dimacs.proofs.words.Words.next.Goals as goal

pub returns-clause-some : goal.returns-clause-some
returns-clause-some c =
    let some : 1 ≤ length c.skip.new.self.rest.now = search rules in
    let read = next-word c.skip.new.self.fresh c.skip.new.self.at c.skip.new.self.rest.now c.skip.ensures.starts some in
    sym c.skip.ensures.left ∙ search (rules, read)
