use Rattle.std.proofs.Common.{◌≡◌, ◌∷◌, [], Err, Some, codes, false, map, rules, string_bytes, subst, true}
use Rattle.std.specs.Str.{bytes_eq}
use Rattle.ax_words.specs.Commands.{prove_app}
use Rattle.ax_words.specs.Numbers.{field_of}
use Rattle.ax_words.specs.Words.{IsProve, JudgesNumbers, prove_fields, text_in}
use Rattle.ax_words.proofs.Said.{have-names, prove-refused}
use Rattle.ax_words.proofs.prove.read_prove.Goals as goal

pub returns-in-Err : goal.returns-in-Err
returns-in-Err c =
    let is : IsProve (map string_bytes c.args.words.now) = (search rules, search rules, search rules) in
    let fields : field_of c.budget_option-budget.result ∷ [] ≡ prove_fields (map string_bytes c.args.words.now) = search rules in
    prove-refused (map string_bytes c.args.words.now) c.in-Err.fault is (subst (λ fs. JudgesNumbers fs (Err c.in-Err.fault)) fields c.in-Err.ensures)

pub returns-then-eq : goal.returns-then-eq
returns-then-eq c =
    let cnf : text_in prove_app (codes "CNF") (map string_bytes c.args.words.now) ≡ Some c.in-Some.cnf.now = search rules in
    let proof : text_in prove_app (codes "PROOF") (map string_bytes c.args.words.now) ≡ Some c.in-Some-text_of.proof.now = search rules in
    let same : bytes_eq c.in-Some.cnf.now c.in-Some-text_of.proof.now ≡ true = search rules in
    ((search rules, search rules, search rules), (search rules, search rules), have-names (map string_bytes c.args.words.now) c.in-Some.cnf.now c.in-Some-text_of.proof.now true cnf proof same)

pub returns : goal.returns
returns c =
    let cnf : text_in prove_app (codes "CNF") (map string_bytes c.args.words.now) ≡ Some c.in-Some.cnf.now = search rules in
    let proof : text_in prove_app (codes "PROOF") (map string_bytes c.args.words.now) ≡ Some c.in-Some-text_of.proof.now = search rules in
    let same : bytes_eq c.in-Some.cnf.now c.in-Some-text_of.proof.now ≡ false = search rules in
    ((search rules, search rules, search rules), (search rules, search rules), have-names (map string_bytes c.args.words.now) c.in-Some.cnf.now c.in-Some-text_of.proof.now false cnf proof same, search rules, search rules, search rules)
