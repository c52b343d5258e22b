use Rattle.std.proofs.Common.{◌≡◌, ◌∙◌, ◌∷◌, [], Err, ap, codes, map, rules, string_bytes, subst}
use Rattle.clap.specs.Words.{first_of}
use Rattle.ax_words.specs.Commands.{rank_app}
use Rattle.ax_words.specs.Numbers.{field_of}
use Rattle.ax_words.specs.Words.{IsRank, JudgesNumbers, rank_fields, text_in, text_or}
use Rattle.ax_words.proofs.Said.{rank-refused}
use Rattle.ax_words.proofs.read.read_rank.Goals as goal

pub returns-in-Err : goal.returns-in-Err
returns-in-Err c =
    let is : IsRank (map string_bytes c.args.words.now) = (search rules, search rules, search rules) in
    let fields : field_of c.steps_option-steps.result ∷ [] ≡ rank_fields (map string_bytes c.args.words.now) = search rules in
    rank-refused (map string_bytes c.args.words.now) c.in-Err.fault is (subst (λ fs. JudgesNumbers fs (Err c.in-Err.fault)) fields c.in-Err.ensures)

pub returns : goal.returns
returns c =
    let said : c.formula_or_default-formula.result.now ≡ text_or (codes "jaccard") (text_in rank_app (codes "formula") (map string_bytes c.args.words.now)) =
    c.formula_or_default-formula.ensures
    ∙ ap (λ o. text_or (codes "jaccard") o) (c.text_of-4.ensures ∙ ap (λ rows. first_of (codes "formula") rows) c.in_ok-matches.ensures.1) in
    ((search rules, search rules, search rules), (search rules, search rules), search rules, search rules, c.in_ok-from_str-3.ensures.ok ∙ said, search rules)
