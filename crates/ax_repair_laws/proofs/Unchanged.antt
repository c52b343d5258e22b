-- A tree of which no node changes is the old tree.
use Rattle.std.proofs.Common.{◌≡◌, ℕ, ℤ, List, [], ◌∷◌, ◌++◌, Option, Some, None, refl, sym, ap, ◌∙◌, subst, arith}
use Rattle.ax_prog.specs.declared.Un.{Un}
use Rattle.ax_prog.specs.declared.Bin.{Bin}
use Rattle.ax_prog.specs.declared.Atom.{Atom}
use Rattle.ax_prog.specs.declared.Expr.{Expr}
use Rattle.ax_prog.specs.declared.Expr.TheVariants as e
use Rattle.ax_prog.specs.declared.Atom.TheBlock.{shape-the_row-Atom-0, hidden-the_row-Atom-0, shape-the_row-Expr-1, hidden-the_row-Expr-1}
use Rattle.ax_prog.proofs.Trees.{expr-cases, expr-induction, operands-Un, operands-Bin, operands-Cond}
use Rattle.ax_space_trees.specs.declared.Label.{Label}
use Rattle.ax_space_trees.specs.declared.Label.TheVariants as label
use Rattle.ax_space_trees.specs.Positions.{top, operand, labelled, label_at, below, positions}
use Rattle.ax_space_trees.specs.Space.{Differing, none, same, other, Changes}
use Rattle.ax_space_trees.proofs.Tops.{top-Atom}
use denote.Hole.Carrier

-- at each of these positions both trees have the same label
abbrev Agree : Option Expr → Option Expr → List (List ℕ) → Type 0
Agree new old [] = Unit {0}
Agree new old (w ∷ ws) = (label_at w new ≡ label_at w old) × Agree new old ws

agree : {new old : Option Expr} {ws : List (List ℕ)} {n : ℕ} → Differing new old ws n → n ≡ 0 → Agree new old ws
agree none h = tt
agree (same e d) h = (e, agree d h)
agree (other e d) h = absurd (omega arith)

Agree-append : (new old : Option Expr) (vs ws : List (List ℕ)) → Agree new old (vs ++ ws) → Agree new old vs × Agree new old ws
Agree-append new old [] ws h = (tt, h)
Agree-append new old (v ∷ vs) ws h = let r = Agree-append new old vs ws h.1 in ((h.0, r.0), r.1)

Agree-below : (new old : Option Expr) (k : ℕ) (ws : List (List ℕ)) → Agree new old (below k ws) → Agree (operand new k) (operand old k) ws
Agree-below new old k [] h = tt
Agree-below new old k (w ∷ ws) h = (h.0, Agree-below new old k ws h.1)

-- ---- the positions of each kind of tree

positions-Atom : (a : Atom) → positions (e.Atom a) ≡ [] ∷ []
unfolding shape-the_row-Atom-0 hidden-the_row-Atom-0 shape-the_row-Expr-1 hidden-the_row-Expr-1 Carrier.hidden
positions-Atom a = refl

positions-Un : (op : Un) (a : Expr) → positions (e.Un op a) ≡ [] ∷ below 1 (positions a)
unfolding shape-the_row-Atom-0 hidden-the_row-Atom-0 shape-the_row-Expr-1 hidden-the_row-Expr-1 Carrier.hidden
positions-Un op a = refl

positions-Bin : (op : Bin) (a b : Expr) → positions (e.Bin op a b) ≡ [] ∷ (below 1 (positions a) ++ below 2 (positions b))
unfolding shape-the_row-Atom-0 hidden-the_row-Atom-0 shape-the_row-Expr-1 hidden-the_row-Expr-1 Carrier.hidden
positions-Bin op a b = refl

positions-Cond : (f a b : Expr) → positions (e.Cond f a b) ≡ [] ∷ (below 1 (positions f) ++ (below 2 (positions a) ++ below 3 (positions b)))
unfolding shape-the_row-Atom-0 hidden-the_row-Atom-0 shape-the_row-Expr-1 hidden-the_row-Expr-1 Carrier.hidden
positions-Cond f a b = refl

-- ---- a tree by its label and its operands

some-top : (l : Label) (tree : Expr) → ◌≡◌ {A = Option Label} (Some l) (labelled (Some tree)) → l ≡ top tree
some-top l tree h = cc

some-same : {t u : Expr} → ◌≡◌ {A = Option Expr} (Some t) (Some u) → t ≡ u
some-same h = cc

is-Num : (n : ℤ) (old : Expr) → label.Num n ≡ top old → old ≡ e.Num n
is-Num n =
    expr-cases (λ old. label.Num n ≡ top old → old ≡ e.Num n)
    (λ m h. let same : m ≡ n = cc in ap e.Num same)
    (λ a h. absurd (let g = rw (top-Atom a) at h in cc))
    (λ op a h. absurd (cc))
    (λ op a b h. absurd (cc))
    (λ f a b h. absurd (cc))

is-Atom : (a : Atom) (old : Expr) → label.Atom a ≡ top old → old ≡ e.Atom a
is-Atom a =
    expr-cases (λ old. label.Atom a ≡ top old → old ≡ e.Atom a)
    (λ m h. absurd (cc))
    (λ b h. let g = rw (top-Atom b) at h in let same : b ≡ a = cc in ap e.Atom same)
    (λ op b h. absurd (cc))
    (λ op b c h. absurd (cc))
    (λ f b c h. absurd (cc))

is-Un : (op : Un) (a old : Expr) → label.Un op ≡ top old → operand (Some old) 1 ≡ Some a → old ≡ e.Un op a
is-Un op a =
    expr-cases (λ old. label.Un op ≡ top old → operand (Some old) 1 ≡ Some a → old ≡ e.Un op a)
    (λ m h i. absurd (cc))
    (λ b h i. absurd (let g = rw (top-Atom b) at h in cc))
    (λ with b h i. let one : with ≡ op = cc in let two = some-same (rw (operands-Un with b) at i) in ap (λ o. e.Un o b) one ∙ ap (λ x. e.Un op x) two)
    (λ with b c h i. absurd (cc))
    (λ f b c h i. absurd (cc))

is-Bin : (op : Bin) (a b old : Expr) → label.Bin op ≡ top old → operand (Some old) 1 ≡ Some a → operand (Some old) 2 ≡ Some b → old ≡ e.Bin op a b
is-Bin op a b =
    expr-cases (λ old. label.Bin op ≡ top old → operand (Some old) 1 ≡ Some a → operand (Some old) 2 ≡ Some b → old ≡ e.Bin op a b)
    (λ m h i j. absurd (cc))
    (λ c h i j. absurd (let g = rw (top-Atom c) at h in cc))
    (λ with c h i j. absurd (cc))
    (λ with c d h i j.
    let one : with ≡ op = cc in
    let two = some-same (rw (operands-Bin with c d) at i) in
    let three = some-same (rw (operands-Bin with c d) at j) in
    ap (λ o. e.Bin o c d) one ∙ ap (λ x. e.Bin op x d) two ∙ ap (λ x. e.Bin op a x) three)
    (λ f c d h i j. absurd (cc))

is-Cond : (f a b old : Expr) → label.Cond ≡ top old → operand (Some old) 1 ≡ Some f → operand (Some old) 2 ≡ Some a → operand (Some old) 3 ≡ Some b → old ≡ e.Cond f a b
is-Cond f a b =
    expr-cases (λ old. label.Cond ≡ top old → operand (Some old) 1 ≡ Some f → operand (Some old) 2 ≡ Some a → operand (Some old) 3 ≡ Some b → old ≡ e.Cond f a b)
    (λ m h i j k. absurd (cc))
    (λ c h i j k. absurd (let g = rw (top-Atom c) at h in cc))
    (λ with c h i j k. absurd (cc))
    (λ with c d h i j k. absurd (cc))
    (λ g c d h i j k.
    let one = some-same (rw (operands-Cond g c d) at i) in
    let two = some-same (rw (operands-Cond g c d) at j) in
    let three = some-same (rw (operands-Cond g c d) at k) in
    ap (λ x. e.Cond x c d) one ∙ ap (λ x. e.Cond f x d) two ∙ ap (λ x. e.Cond f a x) three)

-- ---- the same labels at all positions of the new tree

abbrev Same : Expr → Type 0
Same new = (old : Option Expr) → Agree (Some new) old (positions new) → old ≡ Some new

whole : (new : Expr) → ((old : Expr) → Agree (Some new) (Some old) (positions new) → old ≡ new) → ((old : Option Expr) → Agree (Some new) old (positions new) → labelled (Some new) ≡ labelled old) → Same new
whole new f g None h = absurd (let e = g None h in cc)
whole new f g (Some old) h = ap Some (f old h)

first-label : (l : Label) (new old : Expr) (ws : List (List ℕ)) → top new ≡ l → Agree (Some new) (Some old) ([] ∷ ws) → l ≡ top old
first-label l new old ws is h = sym is ∙ some-top (top new) old h.0

below-one : (new old : Option Expr) (k : ℕ) (part : Expr) → operand new k ≡ Some part → Agree new old (below k (positions part)) → Agree (Some part) (operand old k) (positions part)
below-one new old k part is h = subst (λ o. Agree o (operand old k) (positions part)) is (Agree-below new old k (positions part) h)

same-tree : (new : Expr) → Same new
same-tree =
    expr-induction Same
    (λ n. whole (e.Num n) (λ old h. is-Num n old (first-label (label.Num n) (e.Num n) old [] refl h)) (λ old h. h.0))
    (λ a. whole (e.Atom a)
    (λ old h. is-Atom a old (first-label (label.Atom a) (e.Atom a) old [] (top-Atom a) (subst (Agree (Some (e.Atom a)) (Some old)) (positions-Atom a) h)))
    (λ old h. (subst (Agree (Some (e.Atom a)) old) (positions-Atom a) h).0))
    (λ op a ih. whole (e.Un op a)
    (λ old h.
    let g = subst (Agree (Some (e.Un op a)) (Some old)) (positions-Un op a) h in
    is-Un op a old (first-label (label.Un op) (e.Un op a) old (below 1 (positions a)) refl g)
    (ih (operand (Some old) 1) (below-one (Some (e.Un op a)) (Some old) 1 a (rw (operands-Un op a) refl) g.1)))
    (λ old h. (subst (Agree (Some (e.Un op a)) old) (positions-Un op a) h).0))
    (λ op a b ih jh. whole (e.Bin op a b)
    (λ old h.
    let g = subst (Agree (Some (e.Bin op a b)) (Some old)) (positions-Bin op a b) h in
    let both = Agree-append (Some (e.Bin op a b)) (Some old) (below 1 (positions a)) (below 2 (positions b)) g.1 in
    is-Bin op a b old (first-label (label.Bin op) (e.Bin op a b) old (below 1 (positions a) ++ below 2 (positions b)) refl g)
    (ih (operand (Some old) 1) (below-one (Some (e.Bin op a b)) (Some old) 1 a (rw (operands-Bin op a b) refl) both.0))
    (jh (operand (Some old) 2) (below-one (Some (e.Bin op a b)) (Some old) 2 b (rw (operands-Bin op a b) refl) both.1)))
    (λ old h. (subst (Agree (Some (e.Bin op a b)) old) (positions-Bin op a b) h).0))
    (λ f a b ih jh kh. whole (e.Cond f a b)
    (λ old h.
    let g = subst (Agree (Some (e.Cond f a b)) (Some old)) (positions-Cond f a b) h in
    let both = Agree-append (Some (e.Cond f a b)) (Some old) (below 1 (positions f)) (below 2 (positions a) ++ below 3 (positions b)) g.1 in
    let rest = Agree-append (Some (e.Cond f a b)) (Some old) (below 2 (positions a)) (below 3 (positions b)) both.1 in
    is-Cond f a b old (first-label label.Cond (e.Cond f a b) old (below 1 (positions f) ++ (below 2 (positions a) ++ below 3 (positions b))) refl g)
    (ih (operand (Some old) 1) (below-one (Some (e.Cond f a b)) (Some old) 1 f (rw (operands-Cond f a b) refl) both.0))
    (jh (operand (Some old) 2) (below-one (Some (e.Cond f a b)) (Some old) 2 a (rw (operands-Cond f a b) refl) rest.0))
    (kh (operand (Some old) 3) (below-one (Some (e.Cond f a b)) (Some old) 3 b (rw (operands-Cond f a b) refl) rest.1)))
    (λ old h. (subst (Agree (Some (e.Cond f a b)) old) (positions-Cond f a b) h).0))

pub unchanged-same : (old new : Expr) → Changes old new 0 → new ≡ old
unchanged-same old new d = sym (some-same (same-tree new (Some old) (agree d refl)))

itself : (tree : Option Expr) (ws : List (List ℕ)) → Differing tree tree ws 0
itself tree [] = none
itself tree (w ∷ ws) = same refl (itself tree ws)

pub same-unchanged : (old new : Expr) → new ≡ old → Changes old new 0
same-unchanged old new e = rw e (itself (Some old) (positions old))
