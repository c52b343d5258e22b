-- A region has exactly the trees of the space, each with its changed nodes.
use Rattle.std.proofs.Common.{◌≡◌, ℕ, zero, suc, ◌+◌, ◌≤◌, List, [], ◌∷◌, ◌++◌, refl, length, arith, ap, sym, ◌∙◌, subst, Option, Some, None, zero-add}
use Rattle.std.proofs.Math.Nat.{suc-add}
use Rattle.ax_prog.specs.declared.Un.{Un}
use Rattle.ax_prog.specs.declared.Bin.{Bin}
use Rattle.ax_prog.specs.declared.Expr.{Expr, Num}
use Rattle.ax_prog.specs.declared.Expr.TheVariants as e
use Rattle.ax_prog.specs.declared.Atom.TheBlock.{shape-the_row-Atom-0, hidden-the_row-Atom-0, shape-the_row-Expr-1, hidden-the_row-Expr-1}
use Rattle.ax_space_trees.specs.declared.Label.{Label}
use Rattle.ax_space_trees.specs.declared.Label.TheVariants as label
use Rattle.ax_space_trees.specs.declared.Choice.{Choice}
use Rattle.ax_space_trees.specs.declared.Place.{Place, Gone, At', more_of-Place, end_of-Place}
use Rattle.ax_prog.specs.Nodes.{operands}
use Rattle.ax_space_trees.specs.Positions.{top, nth, operand, at_position, below, positions, labelled}
use Rattle.ax_space_trees.specs.Space.{Differing, none, same, other}
use Rattle.ax_space_trees.specs.Trees.{NodeFits, num, atom, un, bin, cond, FitsPlace}
use Rattle.ax_space_trees.specs.Region.{Spot, Out, In, fresh, child_from, child, old_of, Lawful, Own, kept, new, ChoicesAt, IsRegion}
use Rattle.ax_prog.proofs.Trees.{operands-Un, operands-Bin, operands-Cond}
use Rattle.ax_space_trees.proofs.Tops.{top-Atom}
use denote.Hole.Carrier

pub Differing-append : {n o : Option Expr} {vs ws : List (List ℕ)} {j k : ℕ} → Differing n o vs j → Differing n o ws k → Differing n o (vs ++ ws) (j + k)
Differing-append none d = rw zero-add d
Differing-append (same e c) d = same e (Differing-append c d)
Differing-append (other e c) d = rw suc-add (other e (Differing-append c d))

pub Differing-below : (k : ℕ) {n o : Option Expr} {ws : List (List ℕ)} {j : ℕ} → Differing (operand n k) (operand o k) ws j → Differing n o (below k ws) j
Differing-below k none = none
Differing-below k (same e c) = same e (Differing-below k c)
Differing-below k (other e c) = other e (Differing-below k c)

pub Differing-unique : {n o : Option Expr} {ws : List (List ℕ)} {j k : ℕ} → Differing n o ws j → Differing n o ws k → j ≡ k
Differing-unique none none = refl
Differing-unique (same e c) (same f d) = Differing-unique c d
Differing-unique (same e c) (other f d) = absurd (f e)
Differing-unique (other e c) (same f d) = absurd (e f)
Differing-unique (other e c) (other f d) = ap suc (Differing-unique c d)

pub some-none : (l : Label) → ◌≡◌ {A = Option Label} (Some l) None → ⊥
some-none l h = cc

pub some-some : (l k : Label) → ◌≡◌ {A = Option Label} (Some l) (Some k) → l ≡ k
some-some l k h = cc

own-differs : {t : Expr} {o : Option Expr} {k : ℕ} → Own (labelled o) (top t) k → Differing (Some t) o ([] ∷ []) k
own-differs (kept e) = same e none
own-differs (new e) = other e none

old-fresh : (r k : ℕ) → old_of (fresh r k) ≡ None
old-fresh r zero = refl
old-fresh zero (suc k) = refl
old-fresh (suc r) (suc zero) = refl
old-fresh (suc r) (suc (suc zero)) = refl
old-fresh (suc r) (suc (suc (suc k))) = refl

old-from : (g r k : ℕ) (x : Option Expr) → old_of (child_from g r k x) ≡ x
old-from g r k None = old-fresh r k
old-from g r k (Some e) = refl

pub old-child : (g : ℕ) (spot : Spot) (k : ℕ) → old_of (child g spot k) ≡ operand (old_of spot) k
old-child g Out k = refl
old-child g (In o r) k = old-from g r k (operand o k)

abbrev pub walk : ℕ → Spot → List ℕ → Spot
walk g spot [] = spot
walk g spot (k ∷ w) = walk g (child g spot k) w

-- each node of the tree has a lawful label where the walk stands
abbrev pub InRegion : (Label → Type 0) → ℕ → Spot → Option Expr → Type 0
InRegion allowed g spot tree = (w : List ℕ) (t : Expr) → at_position w tree ≡ Some t → Lawful allowed (walk g spot w) (top t)

pub not_none : {t : Expr} → ◌≡◌ {A = Option Expr} None (Some t) → ⊥
not_none h = cc

the_some : {t u : Expr} → ◌≡◌ {A = Option Expr} (Some t) (Some u) → t ≡ u
the_some h = cc

pub at-none : (w : List ℕ) → at_position w None ≡ None
at-none [] = refl
at-none (k ∷ w) = at-none w

-- from the root and its operands
region-node : (allowed : Label → Type 0) (g : ℕ) (spot : Spot) (t : Expr) → Lawful allowed spot (top t) → ((k : ℕ) → InRegion allowed g (child g spot k) (operand (Some t) k)) → InRegion allowed g spot (Some t)
region-node allowed g spot t here f [] u h = subst (λ z. Lawful allowed spot (top z)) (the_some h) here
region-node allowed g spot t here f (k ∷ w) u h = f k w u h

region-none : (allowed : Label → Type 0) (g : ℕ) (spot : Spot) → InRegion allowed g spot None
region-none allowed g spot w u h = absurd (not_none (sym (at-none w) ∙ h))

operands-leaf : (t : Expr) → operands t ≡ [] → (k : ℕ) → operand (Some t) k ≡ None
operands-leaf t h zero = refl
operands-leaf t h (suc k) = rw h refl

past : (es : List Expr) (k : ℕ) → length es ≤ 3 → nth es (suc (suc (suc (suc k)))) ≡ None
past [] k le = refl
past (a ∷ []) k le = refl
past (a ∷ b ∷ []) k le = refl
past (a ∷ b ∷ c ∷ []) k le = refl
past (a ∷ b ∷ c ∷ d ∷ es) k le = absurd (omega arith)

each-three : (allowed : Label → Type 0) (g : ℕ) (spot : Spot) (es : List Expr) → InRegion allowed g (child g spot 1) (nth es 1) → InRegion allowed g (child g spot 2) (nth es 2) → InRegion allowed g (child g spot 3) (nth es 3) → length es ≤ 3 → (k : ℕ) → InRegion allowed g (child g spot k) (nth es k)
each-three allowed g spot es a b c le zero = region-none allowed g (child g spot zero)
each-three allowed g spot es a b c le (suc zero) = a
each-three allowed g spot es a b c le (suc (suc zero)) = b
each-three allowed g spot es a b c le (suc (suc (suc zero))) = c
each-three allowed g spot es a b c le (suc (suc (suc (suc k)))) = rw (past es k le) (region-none allowed g (child g spot (suc (suc (suc (suc k))))))

pub at-child : (allowed : Label → Type 0) (g : ℕ) (spot : Spot) (t : Expr) (k : ℕ) → InRegion allowed g spot (Some t) → InRegion allowed g (child g spot k) (operand (Some t) k)
at-child allowed g spot t k f w u h = f (k ∷ w) u h

pub changed-Un : (op : Un) (a : Expr) {o : Option Expr} {own j : ℕ} → Differing (Some (e.Un op a)) o ([] ∷ []) own → Differing (Some a) (operand o 1) (positions a) j → Differing (Some (e.Un op a)) o (positions (e.Un op a)) (own + j)
unfolding shape-the_row-Atom-0 hidden-the_row-Atom-0 shape-the_row-Expr-1 hidden-the_row-Expr-1 Carrier.hidden
changed-Un op a own da = Differing-append own (Differing-below 1 da)

pub changed-Bin : (op : Bin) (a b : Expr) {o : Option Expr} {own j k : ℕ} → Differing (Some (e.Bin op a b)) o ([] ∷ []) own → Differing (Some a) (operand o 1) (positions a) j → Differing (Some b) (operand o 2) (positions b) k → Differing (Some (e.Bin op a b)) o (positions (e.Bin op a b)) (own + (j + k))
unfolding shape-the_row-Atom-0 hidden-the_row-Atom-0 shape-the_row-Expr-1 hidden-the_row-Expr-1 Carrier.hidden
changed-Bin op a b own da db = Differing-append own (Differing-append (Differing-below 1 da) (Differing-below 2 db))

pub changed-Cond : (f a b : Expr) {o : Option Expr} {own i j k : ℕ} → Differing (Some (e.Cond f a b)) o ([] ∷ []) own → Differing (Some f) (operand o 1) (positions f) i → Differing (Some a) (operand o 2) (positions a) j → Differing (Some b) (operand o 3) (positions b) k → Differing (Some (e.Cond f a b)) o (positions (e.Cond f a b)) (own + (i + (j + k)))
unfolding shape-the_row-Atom-0 hidden-the_row-Atom-0 shape-the_row-Expr-1 hidden-the_row-Expr-1 Carrier.hidden
changed-Cond f a b own df da db = Differing-append own (Differing-append (Differing-below 1 df) (Differing-append (Differing-below 2 da) (Differing-below 3 db)))

abbrev pub Good : (Label → Type 0) → ℕ → Spot → Expr → ℕ → Type 0
Good allowed g spot t k = InRegion allowed g spot (Some t) × Differing (Some t) (old_of spot) (positions t) k

-- the trees that fit a region
node-good : (allowed : Label → Type 0) (g : ℕ) (spot : Spot) (ch : List Choice) → ChoicesAt allowed spot ch → {A B C : Expr → ℕ → Type 0} → ((t : Expr) (i : ℕ) → A t i → Good allowed g (child g spot 1) t i) → ((t : Expr) (i : ℕ) → B t i → Good allowed g (child g spot 2) t i) → ((t : Expr) (i : ℕ) → C t i → Good allowed g (child g spot 3) t i) → {t : Expr} {k : ℕ} → NodeFits ch A B C t k → Good allowed g spot t k
node-good allowed g spot ch says f1 f2 f3 (num {n} {k} c) = let s = says.sound (label.Num n) k c in
    (region-node allowed g spot (e.Num n) s.0 (λ k. (let l = operands-leaf (e.Num n) refl k in rw l (region-none allowed g (child g spot k)))), own-differs s.1)
node-good allowed g spot ch says f1 f2 f3 (atom {a} {k} c) = let s = rw (← top-Atom a) at (says.sound (label.Atom a) k c) in
    (region-node allowed g spot (e.Atom a) s.0 (λ k. (let l = operands-leaf (e.Atom a) refl k in rw l (region-none allowed g (child g spot k)))), own-differs s.1)
node-good allowed g spot ch says f1 f2 f3 (un {op} {k} {x} {i} c p) = let s = says.sound (label.Un op) k c in let q = f1 x i p in (
  region-node allowed g spot (e.Un op x) s.0 (rw (operands-Un op x) (each-three allowed g spot (x ∷ []) q.0 (region-none allowed g (child g spot 2)) (region-none allowed g (child g spot 3)) (omega arith))),
  changed-Un op x (own-differs s.1) (subst (λ o. Differing (Some x) o (positions x) i) (old-child g spot 1) q.1),
)
node-good allowed g spot ch says f1 f2 f3 (bin {op} {k} {x} {y} {i} {j} c p p2) = let s = says.sound (label.Bin op) k c in let q = f1 x i p in let r = f2 y j p2 in (
  region-node allowed g spot (e.Bin op x y) s.0 (rw (operands-Bin op x y) (each-three allowed g spot (x ∷ y ∷ []) q.0 r.0 (region-none allowed g (child g spot 3)) (omega arith))),
  subst (Differing (Some (e.Bin op x y)) (old_of spot) (positions (e.Bin op x y))) (omega arith)
      (changed-Bin op x y (own-differs s.1) (subst (λ o. Differing (Some x) o (positions x) i) (old-child g spot 1) q.1) (subst (λ o. Differing (Some y) o (positions y) j) (old-child g spot 2) r.1)),
)
node-good allowed g spot ch says f1 f2 f3 (cond {k} {x} {y} {z} {h = l} {i} {j} c p p2 p3) = let s = says.sound label.Cond k c in let q = f1 x l p in let r = f2 y i p2 in let v = f3 z j p3 in (
  region-node allowed g spot (e.Cond x y z) s.0 (rw (operands-Cond x y z) (each-three allowed g spot (x ∷ y ∷ z ∷ []) q.0 r.0 v.0 (omega arith))),
  subst (Differing (Some (e.Cond x y z)) (old_of spot) (positions (e.Cond x y z))) (omega arith)
      (changed-Cond x y z (own-differs s.1) (subst (λ o. Differing (Some x) o (positions x) l) (old-child g spot 1) q.1) (subst (λ o. Differing (Some y) o (positions y) i) (old-child g spot 2) r.1) (subst (λ o. Differing (Some z) o (positions z) j) (old-child g spot 3) v.1)),
)

pub fits-good : (allowed : Label → Type 0) (g : ℕ) (spot : Spot) (p : Place) → IsRegion allowed g spot p → (t : Expr) (k : ℕ) → FitsPlace p t k → Good allowed g spot t k
fits-good allowed g spot Gone is t k f = absurd f
fits-good allowed g spot (At' ch s (more_of-Place a end_of-Place) u (more_of-Place b end_of-Place) v (more_of-Place c end_of-Place)) is t k f =
    node-good allowed g spot ch is.0 (fits-good allowed g (child g spot 1) a is.1) (fits-good allowed g (child g spot 2) b is.2) (fits-good allowed g (child g spot 3) c is.3) f
