use Rattle.std.proofs.Common.{sym, ap, ◌∙◌, take, Option}
use Rattle.ax_prog.specs.declared.tokens.Keyword.{Keyword}
use Rattle.ax_prog.specs.declared.tokens.Kind.TheVariants as k
use Rattle.ax_lex.specs.Bytes.{Text}
use Rattle.ax_lex.specs.Tokens.{word_kind}
use Rattle.ax_lex.proofs.Texts.{word_is}
use Rattle.ax_lex.proofs.words.take_word.Goals as goal

pub returns-in-Some : goal.returns-in-Some
returns-in-Some c = word_is c.args.s.now c.word_len-n.result (k.Keyword c.in-Some.keyword) c.requires.some c.requires.letter c.requires.no_digit c.word_len-n.ensures
    (sym (ap (λ (o : Option Keyword). word_kind (take c.word_len-n.result c.args.s.now) o) (sym c.keyword_of.ensures ∙ c.in-Some.is)))

pub returns : goal.returns
returns c = word_is c.args.s.now c.word_len-n.result (k.Name c.in_ok-from_slice.field-0) c.requires.some c.requires.letter c.requires.no_digit c.word_len-n.ensures
    (ap (λ (w : Text). k.Name w) c.in_ok-from_slice.ensures ∙ sym (ap (λ (o : Option Keyword). word_kind (take c.word_len-n.result c.args.s.now) o) (sym c.keyword_of.ensures ∙ c.in_default.is)))
