use Rattle.std.proofs.Common.{arith}
use Rattle.ax_words.proofs.Parts.{one-part, first-part, rest-shorter}
use Rattle.ax_words.proofs.lists.split.Goals as goal

pub returns-in-Some : goal.returns-in-Some
returns-in-Some c =
    let at = c.in-Some.ensures.byte (omega arith) (λ w o f. f) in
    record {
      parts = first-part c.args.text.now c.in-Some.first.now c.in-Some.rest.now at.0 at.1 at.2;
      shorter = rest-shorter c.args.text.now c.in-Some.rest.now at.1 at.2;
    }

pub returns-in-None : goal.returns-in-None
returns-in-None c =
    let at = c.in-None.ensures.byte (omega arith) (λ w o f. f) in
    record { parts = one-part c.args.text.now at; shorter = tt }
