-- Looking up texts in tables.
use Rattle.std.proofs.Common.{◌≡◌, Bool, true, false, eqb, List, [], ◌∷◌, Some, None, refl, sym, ap, ◌∙◌, ⊎_elim}
use Rattle.std.specs.List.{list_all}
use Rattle.std.proofs.lemmas.Bool.{cases_Bool, and_parts, eqb-true, false≢true}
use Rattle.std.proofs.lemmas.Option.{none-some}
use Rattle.ax_lex.specs.Bytes.{Text, same}
use Rattle.ax_lex.specs.Tokens.{lookup}

pub same_true : (a b : Text) → same a b ≡ true → a ≡ b
same_true [] [] h = refl
same_true [] (y ∷ ys) h = cc
same_true (x ∷ xs) [] h = cc
same_true (x ∷ xs) (y ∷ ys) h =
    let p = and_parts (eqb x y) (same xs ys) h in
    let head = eqb-true x y p.0 in
    let tail = same_true xs ys p.1 in
    cc

-- a word that fails a test that each word of a table passes
pub lookup_none : {K : Type 0} (test : Text → Bool) (ps : List (Text × K)) (w : Text) → list_all (λ p. test p.0) ps ≡ true → test w ≡ false → lookup ps w ≡ None
lookup_none test [] w all fails = refl
lookup_none test (p ∷ ps) w all fails =
    let a = and_parts (test p.0) (list_all (λ p. test p.0) ps) all in
    ⊎_elim
    (λ (is : same p.0 w ≡ true). absurd (false≢true (sym fails ∙ sym (ap test (same_true p.0 w is)) ∙ a.0)))
    (λ (no : same p.0 w ≡ false). rw no (lookup_none test ps w a.1 fails))
    (cases_Bool (same p.0 w))

-- a word that is found passes the test too
pub lookup_some : {K : Type 0} (test : Text → Bool) (ps : List (Text × K)) (w : Text) (x : K) → list_all (λ p. test p.0) ps ≡ true → lookup ps w ≡ Some x → test w ≡ true
lookup_some test ps w x all h = ⊎_elim
    (λ (t : test w ≡ true). t)
    (λ (t : test w ≡ false). absurd (none-some x (sym (lookup_none test ps w all t) ∙ h)))
    (cases_Bool (test w))
