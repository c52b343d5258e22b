use Rattle.std.proofs.Common.{rules}
use Rattle.ax_dimacs.proofs.Reading.{comment-line, end-kept}
use Rattle.ax_dimacs.proofs.words.Words.skip.Goals as goal

pub loop-self-preserved-then-b-eq99 : goal.loop-self-preserved-then-b-eq99
loop-self-preserved-then-b-eq99 c =
    let line = comment-line c.loop-self.self.fresh c.loop-self.self.at c.loop-self.self.rest.now c.if-self.true c.in-len1-up.len_at_least c.if-b-eq99.true in
    let same = end-kept c.loop-self.self.at c.line_len.result c.loop-self.self.rest.now c.line_len.ensures.within in
    record {
      left = search (rules, line);
      end = search (rules, same);
    }
