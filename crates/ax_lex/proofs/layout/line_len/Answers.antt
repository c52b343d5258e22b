use Rattle.std.proofs.Common.{arith, not, eqb, subst, ◌≡◌, ℕ}
use Rattle.std.specs.List.{prefix_len}
use Rattle.std.proofs.lemmas.List.{take_rest}
use Rattle.ax_lex.specs.Bytes.{Text}
use Rattle.ax_lex.proofs.Texts.{line_is}
use Rattle.ax_lex.proofs.Comments.{line_spliced}
use Rattle.ax_lex.proofs.layout.line_len.Goals as goal
use Rattle.ax_lex.proofs.layout.line_len.Goals.{else-n-s-via-then-n-s+then-n-gt0+else-s-n-eq92, else-n-s-via-then-n-s+else-n-gt0, else-n-s-via-else-n-s}

pub returns-clause-found : goal.returns-clause-found
returns-clause-found c = line_is c.args.s.now c.line_body-n.result c.requires.some c.requires.slashes (subst (λ (w : Text). c.line_body-n.result ≡ prefix_len (λ (b : ℕ). not (eqb b 10)) w) (take_rest c.args.s.now 2) c.line_body-n.ensures.value) (λ lt some is. elim c.else-n-s.branch [ else-n-s-via-then-n-s+then-n-gt0+else-s-n-eq92 w ↦ w.if-s-n-eq92.false is | else-n-s-via-then-n-s+else-n-gt0 w ↦ absurd (omega arith) | else-n-s-via-else-n-s w ↦ absurd (omega arith) ])

pub returns-then-s-n-eq92-clause-fault : goal.returns-then-s-n-eq92-clause-fault
returns-then-s-n-eq92-clause-fault c at fresh count = line_spliced c.args.s.now c.line_body-n.result at count fresh c.requires.some c.requires.slashes (subst (λ (w : Text). c.line_body-n.result ≡ prefix_len (λ (b : ℕ). not (eqb b 10)) w) (take_rest c.args.s.now 2) c.line_body-n.ensures.value) (omega arith) (omega arith) (c.if-s-n-eq92.true)
