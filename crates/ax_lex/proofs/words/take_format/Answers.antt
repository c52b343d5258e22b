use Rattle.std.proofs.Common.{sym, ◌∙◌, arith}
use Rattle.ax_lex.proofs.Comments.{format_plain, format_line, format_space, no_format_at}
use Rattle.ax_lex.proofs.words.take_format.Goals as goal
use Rattle.ax_lex.proofs.words.take_format.Goals.{else-s-ge4-via-then-s-ge4+else-same, else-s-ge4-via-else-s-ge4, else-s-ge6-via-then-s-ge6+else-same-2, else-s-ge6-via-else-s-ge6, else-s-ge5-via-then-s-ge5+else-same-3, else-s-ge5-via-else-s-ge5}

pub returns-then-same-clause-found : goal.returns-then-same-clause-found
returns-then-same-clause-found c = format_plain c.args.s.now (omega arith) (sym c.same.ensures ∙ c.if-same.true)

pub returns-then-same-2-clause-found : goal.returns-then-same-2-clause-found
returns-then-same-2-clause-found c = format_line c.args.s.now (omega arith) (sym c.same-then-s-ge6.ensures ∙ c.if-same-2.true)

pub returns-then-same-3-clause-found : goal.returns-then-same-3-clause-found
returns-then-same-3-clause-found c = format_space c.args.s.now (omega arith) (sym c.same-then-s-ge5.ensures ∙ c.if-same-3.true)

pub returns-clause-none : goal.returns-clause-none
returns-clause-none c = no_format_at c.args.s.now
    (λ le. elim c.else-s-ge4.branch [ else-s-ge4-via-then-s-ge4+else-same w ↦ sym w.same.ensures ∙ w.if-same.false | else-s-ge4-via-else-s-ge4 w ↦ absurd (omega arith) ])
    (λ le. elim c.else-s-ge6.branch [ else-s-ge6-via-then-s-ge6+else-same-2 w ↦ sym w.same-then-s-ge6.ensures ∙ w.if-same-2.false | else-s-ge6-via-else-s-ge6 w ↦ absurd (omega arith) ])
    (λ le. elim c.else-s-ge5.branch [ else-s-ge5-via-then-s-ge5+else-same-3 w ↦ sym w.same-then-s-ge5.ensures ∙ w.if-same-3.false | else-s-ge5-via-else-s-ge5 w ↦ absurd (omega arith) ])
