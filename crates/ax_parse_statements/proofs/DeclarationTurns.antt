-- How the turns and ends of loops settle what the parsers on lists answer.
use Rattle.std.proofs.Common.{◌≡◌, ℕ, Bool, true, false, List, [], ◌∷◌, ◌++◌, Option, Some, None, Result, Ok, Err, refl, sym, ap, ◌∙◌, subst, append_assoc, append-nil, drop}
use Rattle.std.specs.Prelude.{option_map}
use Rattle.ax_prog.specs.declared.tokens.Token.{Token}
use Rattle.ax_parse_grammar.specs.declared.terminals.Terminal.TheVariants as w
use Rattle.ax_parse_grammar.specs.Reading.{Parser, ◌>>=◌, choose, after, separated, repeated, Settles}
use Rattle.ax_parse_grammar.proofs.Tools.{settle_0, settle_1, settle_2, also_1, also_2}
use Rattle.ax_parse_expressions.specs.declared.faults.ReadFault.{ReadFault}
use Rattle.ax_parse_expressions.specs.declared.faults.ReadFault.TheVariants.{Memory, Syntax}
use Rattle.ax_parse_expressions.specs.Answers.{Gives}
use Rattle.ax_parse_statements.specs.DeclarationsFound.{Finds}

-- ---- faults that are passed on

pub finds_err : {A B : Type 0} (tokens : List Token) (d : ReadFault) (p : Option (A × List Token)) (g : ℕ → Option (B × List Token)) → Finds {A = A} tokens (Err d) p → (p ≡ None → Settles g None) → Gives {A = B} tokens (Err d) g
finds_err tokens Memory p g h go = tt
finds_err tokens (Syntax at) p g h go = go h

pub gives_err : {A B : Type 0} (tokens : List Token) (d : ReadFault) (f : ℕ → Option (A × List Token)) (g : ℕ → Option (B × List Token)) → Gives {A = A} tokens (Err d) f → (Settles f None → Settles g None) → Gives {A = B} tokens (Err d) g
gives_err tokens Memory f g h go = tt
gives_err tokens (Syntax at) f g h go = go h

-- the same at each number
pub fails_err : {A B : Type 0} (tokens : List Token) (d : ReadFault) (f : ℕ → Option (A × List Token)) (g : ℕ → Option (B × List Token)) → Gives {A = A} tokens (Err d) f → ((n : ℕ) → f n ≡ None → g n ≡ None) → Gives {A = B} tokens (Err d) g
fails_err tokens d f g h go = gives_err tokens d f g h (λ s. also_1 f None g None s go)

-- what is answered as it is
pub gives_same : {A : Type 0} (tokens : List Token) (r : Result (A × ℕ) ReadFault) (f g : ℕ → Option (A × List Token)) → Gives tokens r f → ((n : ℕ) → g n ≡ f n) → Gives tokens r g
gives_same tokens (Ok x) f g h same = also_1 f (Some (x.0, drop x.1 tokens)) g (Some (x.0, drop x.1 tokens)) h (λ n one. same n ∙ one)
gives_same tokens (Err Memory) f g h same = tt
gives_same tokens (Err (Syntax at)) f g h same = also_1 f None g None h (λ n one. same n ∙ one)

pub finds_same : {A : Type 0} (tokens : List Token) (r : Result (A × ℕ) ReadFault) (p : Option (A × List Token)) (g : ℕ → Option (A × List Token)) → Finds tokens r p → ((n : ℕ) → g n ≡ p) → Gives tokens r g
finds_same tokens (Ok x) p g h same = (0, λ m le. same m ∙ h)
finds_same tokens (Err Memory) p g h same = tt
finds_same tokens (Err (Syntax at)) p g h same = (0, λ m le. same m ∙ h)

pub finds_settled : {A : Type 0} (tokens : List Token) (r : Result (A × ℕ) ReadFault) (p : Option (A × List Token)) (g : ℕ → Option (A × List Token)) → Finds tokens r p → Settles g p → Gives tokens r g
finds_settled {A = A} tokens (Ok x) p g h s = subst (λ (o : Option (A × List Token)). Settles g o) h s
finds_settled tokens (Err Memory) p g h s = tt
finds_settled {A = A} tokens (Err (Syntax at)) p g h s = subst (λ (o : Option (A × List Token)). Settles g o) h s

-- what goes on where o was read
pub gives_behind : {A B : Type 0} (tokens : List Token) (r : Result (A × ℕ) ReadFault) (e : ℕ → Option B) (o : Option B) (f g : ℕ → Option (A × List Token)) → Settles e o → ((n : ℕ) → e n ≡ o → g n ≡ f n) → Gives tokens r f → Gives tokens r g
gives_behind tokens (Ok x) e o f g s same h = also_2 e o f (Some (x.0, drop x.1 tokens)) g (Some (x.0, drop x.1 tokens)) s h (λ n one two. same n one ∙ two)
gives_behind tokens (Err Memory) e o f g s same h = tt
gives_behind tokens (Err (Syntax at)) e o f g s same h = also_2 e o f None g None s h (λ n one two. same n one ∙ two)

pub finds_behind : {A B : Type 0} (tokens : List Token) (r : Result (A × ℕ) ReadFault) (e : ℕ → Option B) (o : Option B) (p : Option (A × List Token)) (g : ℕ → Option (A × List Token)) → Settles e o → ((n : ℕ) → e n ≡ o → g n ≡ p) → Finds tokens r p → Gives tokens r g
finds_behind tokens r e o p g s same h = finds_settled tokens r p g h (also_1 e o g p s same)

-- a fault behind o
pub fails_behind : {A B C : Type 0} (tokens : List Token) (d : ReadFault) (e : ℕ → Option C) (o : Option C) (f : ℕ → Option (A × List Token)) (g : ℕ → Option (B × List Token)) → Settles e o → Gives {A = A} tokens (Err d) f → ((n : ℕ) → e n ≡ o → f n ≡ None → g n ≡ None) → Gives {A = B} tokens (Err d) g
fails_behind tokens d e o f g s h go = gives_err tokens d f g h (λ none. also_2 e o f None g None s none go)

-- what doesn't hang on the number
pub settled : {A : Type 0} (g : ℕ → Option A) (p : Option A) → ((n : ℕ) → g n ≡ p) → Settles g p
settled g p same = (0, λ m le. same m)

-- ---- lists

abbrev pub prefixed : {A : Type 0} → List A → Option (List A × List Token) → Option (List A × List Token)
prefixed xs o = option_map (λ r. (xs ++ r.0, r.1)) o

-- with xs before what g settles on, f settles
abbrev pub OnTo : {A : Type 0} → (ℕ → Option (List A × List Token)) → (ℕ → Option (List A × List Token)) → List A → Type 0
OnTo {A = A} f g xs = (o : Option (List A × List Token)) → Settles g o → Settles f (prefixed xs o)

prefixed_nil : {A : Type 0} (o : Option (List A × List Token)) → prefixed [] o ≡ o
prefixed_nil None = refl
prefixed_nil (Some r) = refl

prefixed_push : {A : Type 0} (xs : List A) (x : A) (o : Option (List A × List Token)) → prefixed xs (prefixed (x ∷ []) o) ≡ prefixed (xs ++ x ∷ []) o
prefixed_push xs x None = refl
prefixed_push {A = A} xs x (Some r) = ap (λ (l : List A). Some (l, r.1)) (sym (append_assoc xs (x ∷ []) r.0))

pub prefixed_cons : {A : Type 0} (x : A) (o : Option (List A × List Token)) → (o >>= λ (r : List A × List Token). Some (x ∷ r.0, r.1)) ≡ prefixed (x ∷ []) o
prefixed_cons x None = refl
prefixed_cons x (Some r) = refl

pub on_start : {A : Type 0} (f : ℕ → Option (List A × List Token)) → OnTo f f []
on_start {A = A} f o s = subst (λ (p : Option (List A × List Token)). Settles f p) (sym (prefixed_nil o)) s

pub on_push : {A : Type 0} (f g h : ℕ → Option (List A × List Token)) (xs : List A) (x : A) → OnTo f g xs → OnTo g h (x ∷ []) → OnTo f h (xs ++ x ∷ [])
on_push {A = A} f g h xs x a b o s = subst (λ (p : Option (List A × List Token)). Settles f p) (prefixed_push xs x o) (a (prefixed (x ∷ []) o) (b o s))

pub on_end : {A : Type 0} (f g : ℕ → Option (List A × List Token)) (xs : List A) (rest : List Token) → OnTo f g xs → Settles g (Some ([], rest)) → Settles f (Some (xs, rest))
on_end {A = A} f g xs rest a s = subst (λ (l : List A). Settles f (Some (l, rest))) (append-nil xs) (a (Some ([], rest)) s)

pub on_fail : {A : Type 0} (f g : ℕ → Option (List A × List Token)) (xs : List A) → OnTo f g xs → Settles g None → Settles f None
on_fail f g xs a s = a None s

-- ---- one or more with commas between them

-- behind one of them
abbrev pub behind : {A : Type 0} → (ℕ → Parser A) → List Token → ℕ → Option (List A × List Token)
behind {A = A} p ts n = choose (after w.Comma ts) (Some ([], ts)) (λ us. separated p n us)

prefixed_behind : {A : Type 0} (x : A) (o : Option (List Token)) (ts : List Token) (f : List Token → Option (List A × List Token)) → choose o (Some (x ∷ [], ts)) (λ us. f us >>= λ (xs : List A × List Token). Some (x ∷ xs.0, xs.1)) ≡ prefixed (x ∷ []) (choose o (Some ([], ts)) f)
prefixed_behind x None ts f = refl
prefixed_behind x (Some us) ts f = prefixed_cons x (f us)

pub separated_on : {A : Type 0} (p : ℕ → Parser A) (ts r : List Token) (x : A) → Settles (λ n. p n ts) (Some (x, r)) → OnTo (λ n. separated p n ts) (behind p r) (x ∷ [])
unfolding separated
separated_on {A = A} p ts r x is o s = settle_2 (λ n. p n ts) (Some (x, r)) (behind p r) o (λ n. separated p n ts) (prefixed (x ∷ []) o) is s (λ n one two. rw one (prefixed_behind x (after w.Comma r) r (separated p n) ∙ ap (prefixed (x ∷ [])) two))

pub separated_fail : {A : Type 0} (p : ℕ → Parser A) (ts : List Token) → Settles (λ n. p n ts) None → Settles (λ n. separated p n ts) None
unfolding separated
separated_fail p ts is = settle_1 (λ n. p n ts) None (λ n. separated p n ts) None is (λ n one. rw one refl)

pub behind_on : {A : Type 0} (p : ℕ → Parser A) (ts us : List Token) → after w.Comma ts ≡ Some us → (n : ℕ) → behind p ts n ≡ separated p n us
behind_on p ts us is n = rw is refl

pub behind_end : {A : Type 0} (p : ℕ → Parser A) (ts : List Token) → after w.Comma ts ≡ None → Settles (behind p ts) (Some ([], ts))
behind_end p ts off = settled (behind p ts) (Some ([], ts)) (λ n. rw off refl)

-- another one
pub behind_turn : {A : Type 0} (p : ℕ → Parser A) (ts us r : List Token) (x : A) → after w.Comma ts ≡ Some us → Settles (λ n. p n us) (Some (x, r)) → OnTo (behind p ts) (behind p r) (x ∷ [])
behind_turn p ts us r x is one o s = also_1 (λ n. separated p n us) (prefixed (x ∷ []) o) (behind p ts) (prefixed (x ∷ []) o) (separated_on p us r x one o s) (λ n two. behind_on p ts us is n ∙ two)

pub behind_fail : {A : Type 0} (p : ℕ → Parser A) (ts us : List Token) → after w.Comma ts ≡ Some us → Settles (λ n. p n us) None → Settles (behind p ts) None
behind_fail p ts us is none = also_1 (λ n. separated p n us) None (behind p ts) None (separated_fail p us none) (λ n two. behind_on p ts us is n ∙ two)

-- ---- one after another up to an end

pub repeated_on : {A : Type 0} (ends : List Token → Bool) (p : ℕ → Parser A) (ts r : List Token) (x : A) → ends ts ≡ false → Settles (λ n. p n ts) (Some (x, r)) → OnTo (λ n. repeated ends p n ts) (λ n. repeated ends p n r) (x ∷ [])
unfolding repeated
repeated_on ends p ts r x off is o s = settle_2 (λ n. p n ts) (Some (x, r)) (λ n. repeated ends p n r) o (λ n. repeated ends p n ts) (prefixed (x ∷ []) o) is s (λ n one two. rw off (rw one (rw two (prefixed_cons x o))))

pub repeated_fail : {A : Type 0} (ends : List Token → Bool) (p : ℕ → Parser A) (ts : List Token) → ends ts ≡ false → Settles (λ n. p n ts) None → Settles (λ n. repeated ends p n ts) None
unfolding repeated
repeated_fail ends p ts off is = settle_1 (λ n. p n ts) None (λ n. repeated ends p n ts) None is (λ n one. rw off (rw one refl))

pub repeated_end : {A : Type 0} (ends : List Token → Bool) (p : ℕ → Parser A) (ts : List Token) → ends ts ≡ true → Settles (λ n. repeated ends p n ts) (Some ([], ts))
unfolding repeated
repeated_end ends p ts is = settle_0 (λ n. repeated ends p n ts) (Some ([], ts)) (λ n. rw is refl)
