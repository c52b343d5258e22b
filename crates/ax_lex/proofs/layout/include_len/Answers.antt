use Rattle.std.proofs.Common.{sym, refl, ◌∙◌, arith}
use Rattle.ax_lex.proofs.Includes.{no_word, no_angle, no_close, include_found}
use Rattle.ax_lex.proofs.layout.include_len.Goals as goal

pub returns-then-word-lt7-clause-none : goal.returns-then-word-lt7-clause-none
returns-then-word-lt7-clause-none c = no_word c.args.fresh c.args.s.now c.past-after.result.now c.past-word.result.now c.blanks_len-a.result c.past-after.ensures c.blanks_len-a.ensures.value c.past-word.ensures (λ le. absurd (omega arith))

pub returns-then-not-same-clause-none : goal.returns-then-not-same-clause-none
returns-then-not-same-clause-none c = no_word c.args.fresh c.args.s.now c.past-after.result.now c.past-word.result.now c.blanks_len-a.result c.past-after.ensures c.blanks_len-a.ensures.value c.past-word.ensures (λ le. sym c.same.ensures ∙ c.if-not-same.true)

pub returns-then-angle-eq0-clause-none : goal.returns-then-angle-eq0-clause-none
returns-then-angle-eq0-clause-none c = no_angle c.args.fresh c.args.s.now c.past-after.result.now c.past-word.result.now c.blanks_len-a.result c.past-after.ensures c.blanks_len-a.ensures.value c.past-word.ensures c.past-rest.result.now c.past-angle.result.now c.blanks_len-b.result c.past-rest.ensures c.blanks_len-b.ensures.value c.past-angle.ensures (λ lt is. absurd (omega arith))

pub returns-then-angle-ne60-clause-none : goal.returns-then-angle-ne60-clause-none
returns-then-angle-ne60-clause-none c = no_angle c.args.fresh c.args.s.now c.past-after.result.now c.past-word.result.now c.blanks_len-a.result c.past-after.ensures c.blanks_len-a.ensures.value c.past-word.ensures c.past-rest.result.now c.past-angle.result.now c.blanks_len-b.result c.past-rest.ensures c.blanks_len-b.ensures.value c.past-angle.ensures (λ lt is. c.if-angle-ne60.true is)

pub returns-then-close-eq0-clause-none : goal.returns-then-close-eq0-clause-none
returns-then-close-eq0-clause-none c = no_close c.args.fresh c.args.s.now c.past-after.result.now c.past-word.result.now c.blanks_len-a.result c.past-after.ensures c.blanks_len-a.ensures.value c.past-word.ensures c.past-rest.result.now c.past-angle.result.now c.blanks_len-b.result c.past-rest.ensures c.blanks_len-b.ensures.value c.past-angle.ensures c.past-path.result.now c.past-close.result.now c.path_len-n.result c.past-path.ensures c.path_len-n.ensures.value c.past-close.ensures (λ lt is. absurd (omega arith))

pub returns-then-close-ne62-clause-none : goal.returns-then-close-ne62-clause-none
returns-then-close-ne62-clause-none c = no_close c.args.fresh c.args.s.now c.past-after.result.now c.past-word.result.now c.blanks_len-a.result c.past-after.ensures c.blanks_len-a.ensures.value c.past-word.ensures c.past-rest.result.now c.past-angle.result.now c.blanks_len-b.result c.past-rest.ensures c.blanks_len-b.ensures.value c.past-angle.ensures c.past-path.result.now c.past-close.result.now c.path_len-n.result c.past-path.ensures c.path_len-n.ensures.value c.past-close.ensures (λ lt is. c.if-close-ne62.true is)

pub returns-clause-found : goal.returns-clause-found
returns-clause-found c = include_found c.args.fresh c.args.s.now c.past-after.result.now c.past-word.result.now c.blanks_len-a.result c.past-after.ensures c.blanks_len-a.ensures.value c.past-word.ensures c.past-rest.result.now c.past-angle.result.now c.blanks_len-b.result c.past-rest.ensures c.blanks_len-b.ensures.value c.past-angle.ensures c.past-path.result.now c.past-close.result.now c.path_len-n.result c.past-path.ensures c.path_len-n.ensures.value c.past-close.ensures
    c.if-not-fresh.false c.requires.some c.requires.hash (sym c.same.ensures ∙ c.if-not-same.false) (omega arith) c.if-angle-ne60.false (omega arith) c.if-close-ne62.false _ refl
