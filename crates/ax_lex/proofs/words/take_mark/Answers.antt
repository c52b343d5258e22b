use Rattle.std.proofs.Common.{sym, ◌∙◌, arith}
use Rattle.ax_lex.proofs.Texts.{mark_one, mark_two, mark_three}
use Rattle.ax_lex.proofs.words.take_mark.Goals as goal
use Rattle.ax_lex.proofs.words.take_mark.Goals.{then-s-ge3+in_default, else-s-ge3, then-s-ge2+in_default-mark_of, else-s-ge2}

pub returns-in-Some-clause-found : goal.returns-in-Some-clause-found
returns-in-Some-clause-found c = mark_three c.args.s.now c.in-Some.m (omega arith) c.requires.no_word c.requires.no_format (sym c.mark_of.ensures ∙ c.in-Some.is)

pub returns-in-Some-mark_of-clause-found : goal.returns-in-Some-mark_of-clause-found
returns-in-Some-mark_of-clause-found c = mark_two c.args.s.now c.in-Some-mark_of.m (omega arith) c.requires.no_word c.requires.no_format (sym c.mark_of-then-s-ge2.ensures ∙ c.in-Some-mark_of.is)
    (λ le. elim c.if-s-ge3.branch [ then-s-ge3+in_default w ↦ sym w.mark_of.ensures ∙ w.in_default.is | else-s-ge3 w ↦ absurd (omega arith) ])

pub returns-clause-found : goal.returns-clause-found
returns-clause-found c = mark_one c.args.s.now c.in_ok-mark_of.field-0 (omega arith) c.requires.no_word c.requires.no_format (sym c.mark_of-2.ensures ∙ c.in_ok-mark_of.was)
    (λ le. elim c.if-s-ge2.branch [ then-s-ge2+in_default-mark_of w ↦ sym w.mark_of-then-s-ge2.ensures ∙ w.in_default-mark_of.is | else-s-ge2 w ↦ absurd (omega arith) ]) c.requires.no_comment
