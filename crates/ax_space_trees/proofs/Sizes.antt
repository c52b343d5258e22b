-- A tree of a space has at most as many nodes as the space has positions.
use Rattle.std.proofs.Common.{◌≡◌, ℕ, zero, suc, ◌+◌, ◌*◌, ◌≤◌, List, [], ◌∷◌, ◌++◌, refl, length, arith, ap, Option, Some, None, length-append}
use Rattle.std.proofs.Math.Nat.{add-mul}
use Rattle.ax_prog.specs.declared.Un.{Un}
use Rattle.ax_prog.specs.declared.Bin.{Bin}
use Rattle.ax_prog.specs.declared.Atom.{Atom}
use Rattle.ax_prog.specs.declared.Expr.{Expr, Num, Atom', Un', Bin', Cond', more_of-Expr, end_of-Expr}
use Rattle.ax_prog.specs.declared.Expr.TheVariants as e
use Rattle.ax_prog.specs.declared.Atom.TheBlock.{shape-the_row-Atom-0, hidden-the_row-Atom-0, shape-the_row-Expr-1, hidden-the_row-Expr-1}
use Rattle.ax_prog.specs.Nodes.{nodes, operands}
use Rattle.ax_prog.proofs.Trees.{expr-cases, expr-induction, operands-Atom, operands-Un, operands-Bin, operands-Cond, nodes-Atom, nodes-Un, nodes-Bin, nodes-Cond}
use Rattle.ax_space_trees.specs.declared.Label.{Label}
use Rattle.ax_space_trees.specs.Positions.{top, below, positions}
use Rattle.ax_space_trees.specs.Space.{Differing, none, same, other, Changes, InSpace}
use Rattle.ax_space_trees.specs.Region.{Spot, Out, In, fresh, child, Lawful}
use Rattle.ax_space_trees.specs.Sizes.{words}
use Rattle.ax_space_trees.proofs.Regions.{InRegion, at-child}
use Rattle.ax_space_trees.proofs.Spaces.{space-region}
use denote.Hole.Carrier

-- the positions below a tree's root, each with all words behind it
abbrev spread : ℕ → Expr → ℕ
spread g (Num n) = 0
spread g (Atom' s row) = 0
spread g (Un' op s (more_of-Expr a end_of-Expr)) = spread g a + words g
spread g (Bin' op s (more_of-Expr a end_of-Expr) t (more_of-Expr b end_of-Expr)) = (spread g a + words g) + (spread g b + words g)
spread g (Cond' s (more_of-Expr f end_of-Expr) t (more_of-Expr a end_of-Expr) u (more_of-Expr b end_of-Expr)) =
    (spread g f + words g) + ((spread g a + words g) + (spread g b + words g))

spread-Atom : (g : ℕ) (a : Atom) → spread g (e.Atom a) ≡ 0
unfolding shape-the_row-Atom-0 hidden-the_row-Atom-0 shape-the_row-Expr-1 hidden-the_row-Expr-1 Carrier.hidden
spread-Atom g a = refl

spread-Un : (g : ℕ) (op : Un) (a : Expr) → spread g (e.Un op a) ≡ spread g a + words g
unfolding shape-the_row-Atom-0 hidden-the_row-Atom-0 shape-the_row-Expr-1 hidden-the_row-Expr-1 Carrier.hidden
spread-Un g op a = refl

spread-Bin : (g : ℕ) (op : Bin) (a b : Expr) → spread g (e.Bin op a b) ≡ (spread g a + words g) + (spread g b + words g)
unfolding shape-the_row-Atom-0 hidden-the_row-Atom-0 shape-the_row-Expr-1 hidden-the_row-Expr-1 Carrier.hidden
spread-Bin g op a b = refl

spread-Cond : (g : ℕ) (f a b : Expr) → spread g (e.Cond f a b) ≡ (spread g f + words g) + ((spread g a + words g) + (spread g b + words g))
unfolding shape-the_row-Atom-0 hidden-the_row-Atom-0 shape-the_row-Expr-1 hidden-the_row-Expr-1 Carrier.hidden
spread-Cond g f a b = refl

one-more-times : (a w : ℕ) → (a + 1) * w ≡ a * w + w
one-more-times a w = rw (add-mul a 1 w) (omega arith)

two-times : (a b w : ℕ) → (a + b + 1) * w ≡ a * w + b * w + w
two-times a b w = rw (add-mul (a + b) 1 w, add-mul a b w) (omega arith)

three-times : (a b c w : ℕ) → (a + b + c + 1) * w ≡ a * w + b * w + c * w + w
three-times a b c w = rw (add-mul (a + b + c) 1 w, add-mul (a + b) c w, add-mul a b w) (omega arith)

-- all positions of a tree, each with all words behind it
spread-nodes : (g : ℕ) (t : Expr) → spread g t + words g ≡ nodes t * words g
spread-nodes g =
    expr-induction (λ t. spread g t + words g ≡ nodes t * words g)
    (λ n. grind arith)
    (λ a. rw (spread-Atom g a, nodes-Atom a) (grind arith))
    (λ op a h. rw (spread-Un g op a, nodes-Un op a, one-more-times (nodes a) (words g)) (omega (arith, h)))
    (λ op a b h i. rw (spread-Bin g op a b, nodes-Bin op a b, two-times (nodes a) (nodes b) (words g)) (omega (arith, h, i)))
    (λ f a b h i j. rw (spread-Cond g f a b, nodes-Cond f a b, three-times (nodes f) (nodes a) (nodes b) (words g)) (omega (arith, h, i, j)))

-- the positions from a spot on
abbrev bound : ℕ → Spot → ℕ
bound g Out = 0
bound g (In None r) = words r
bound g (In (Some t) r) = spread g t + words r

fresh-room : (g r : ℕ) → bound g (fresh r 1) + bound g (fresh r 2) + bound g (fresh r 3) + 1 ≤ words r
fresh-room g zero = omega arith
fresh-room g (suc r) = omega arith

leaf-room : (g r : ℕ) (t : Expr) → operands t ≡ [] → spread g t ≡ 0 → bound g (child g (In (Some t) r) 1) + bound g (child g (In (Some t) r) 2) + bound g (child g (In (Some t) r) 3) + 1 ≤ bound g (In (Some t) r)
leaf-room g r t is flat = rw is (omega (arith, flat, fresh-room g r))

-- a node and what stands below it
old-room : (g r : ℕ) (t : Expr) → bound g (child g (In (Some t) r) 1) + bound g (child g (In (Some t) r) 2) + bound g (child g (In (Some t) r) 3) + 1 ≤ bound g (In (Some t) r)
old-room g r =
    expr-cases (λ t. bound g (child g (In (Some t) r) 1) + bound g (child g (In (Some t) r) 2) + bound g (child g (In (Some t) r) 3) + 1 ≤ bound g (In (Some t) r))
    (λ n. leaf-room g r (e.Num n) refl refl)
    (λ a. leaf-room g r (e.Atom a) (operands-Atom a) (spread-Atom g a))
    (λ op a. rw (operands-Un op a) (omega (arith, spread-Un g op a, fresh-room g r)))
    (λ op a b. rw (operands-Bin op a b) (omega (arith, spread-Bin g op a b, fresh-room g r)))
    (λ f a b. rw (operands-Cond f a b) (omega (arith, spread-Cond g f a b, fresh-room g r)))

room : (allowed : Label → Type 0) (g : ℕ) (spot : Spot) (l : Label) → Lawful allowed spot l → bound g (child g spot 1) + bound g (child g spot 2) + bound g (child g spot 3) + 1 ≤ bound g spot
room allowed g Out l h = absurd h
room allowed g (In None r) l h = fresh-room g r
room allowed g (In (Some t) r) l h = old-room g r t

region-nodes : (allowed : Label → Type 0) (g : ℕ) (t : Expr) (spot : Spot) → InRegion allowed g spot (Some t) → nodes t ≤ bound g spot
region-nodes allowed g =
    expr-induction (λ t. (spot : Spot) → InRegion allowed g spot (Some t) → nodes t ≤ bound g spot)
    (λ n spot r. (let h = room allowed g spot (top (e.Num n)) (r [] (e.Num n) refl) in omega arith))
    (λ a spot r. (let h = room allowed g spot (top (e.Atom a)) (r [] (e.Atom a) refl) in omega (arith, nodes-Atom a)))
    (λ op a ih spot r. (let h = room allowed g spot (top (e.Un op a)) (r [] (e.Un op a) refl) in
    let p = ih (child g spot 1) (rw (operands-Un op a) at (at-child allowed g spot (e.Un op a) 1 r)) in
    omega (arith, nodes-Un op a)))
    (λ op a b ih jh spot r. (let h = room allowed g spot (top (e.Bin op a b)) (r [] (e.Bin op a b) refl) in
    let p = ih (child g spot 1) (rw (operands-Bin op a b) at (at-child allowed g spot (e.Bin op a b) 1 r)) in
    let q = jh (child g spot 2) (rw (operands-Bin op a b) at (at-child allowed g spot (e.Bin op a b) 2 r)) in
    omega (arith, nodes-Bin op a b)))
    (λ f a b ih jh kh spot r. (let h = room allowed g spot (top (e.Cond f a b)) (r [] (e.Cond f a b) refl) in
    let p = ih (child g spot 1) (rw (operands-Cond f a b) at (at-child allowed g spot (e.Cond f a b) 1 r)) in
    let q = jh (child g spot 2) (rw (operands-Cond f a b) at (at-child allowed g spot (e.Cond f a b) 2 r)) in
    let s = kh (child g spot 3) (rw (operands-Cond f a b) at (at-child allowed g spot (e.Cond f a b) 3 r)) in
    omega (arith, nodes-Cond f a b)))

-- a tree of the space has at most all words behind each node of the old tree
pub space-nodes : (allowed : Label → Type 0) (g : ℕ) (old new : Expr) → InSpace allowed g old new → nodes new ≤ nodes old * words g
space-nodes allowed g old new s =
    let h = region-nodes allowed g new (In (Some old) g) (space-region allowed g old new s) in
    omega (arith, spread-nodes g old)

Differing-short : {n o : Option Expr} {ws : List (List ℕ)} {k : ℕ} → Differing n o ws k → k ≤ length ws
Differing-short none = omega arith
Differing-short (same e c) = let h = Differing-short c in omega arith
Differing-short (other e c) = let h = Differing-short c in omega arith

length-below : (k : ℕ) (ws : List (List ℕ)) → length (below k ws) ≡ length ws
length-below k [] = refl
length-below k (w ∷ ws) = ap suc (length-below k ws)

positions-Un : (op : Un) (a : Expr) → positions (e.Un op a) ≡ [] ∷ below 1 (positions a)
unfolding shape-the_row-Atom-0 hidden-the_row-Atom-0 shape-the_row-Expr-1 hidden-the_row-Expr-1 Carrier.hidden
positions-Un op a = refl

positions-Bin : (op : Bin) (a b : Expr) → positions (e.Bin op a b) ≡ [] ∷ (below 1 (positions a) ++ below 2 (positions b))
unfolding shape-the_row-Atom-0 hidden-the_row-Atom-0 shape-the_row-Expr-1 hidden-the_row-Expr-1 Carrier.hidden
positions-Bin op a b = refl

positions-Cond : (f a b : Expr) → positions (e.Cond f a b) ≡ [] ∷ (below 1 (positions f) ++ (below 2 (positions a) ++ below 3 (positions b)))
unfolding shape-the_row-Atom-0 hidden-the_row-Atom-0 shape-the_row-Expr-1 hidden-the_row-Expr-1 Carrier.hidden
positions-Cond f a b = refl

length-positions : (t : Expr) → length (positions t) ≡ nodes t
length-positions =
    expr-induction (λ t. length (positions t) ≡ nodes t)
    (λ n. refl)
    (λ a. refl)
    (λ op a h. rw (positions-Un op a, nodes-Un op a) (omega (arith, length-below 1 (positions a), h)))
    (λ op a b h i. rw (positions-Bin op a b, nodes-Bin op a b)
    (omega (arith, length-append (below 1 (positions a)) (below 2 (positions b)), length-below 1 (positions a), length-below 2 (positions b), h, i)))
    (λ f a b h i j. rw (positions-Cond f a b, nodes-Cond f a b)
    (omega (
      arith,
      length-append (below 1 (positions f)) (below 2 (positions a) ++ below 3 (positions b)),
      length-append (below 2 (positions a)) (below 3 (positions b)),
      length-below 1 (positions f),
      length-below 2 (positions a),
      length-below 3 (positions b),
      h,
      i,
      j,
    )))

-- no more nodes change than the new tree has
pub changes-nodes : (old new : Expr) (n : ℕ) → Changes old new n → n ≤ nodes new
changes-nodes old new n d = let h = Differing-short d in omega (arith, length-positions new)

words-more : (i j : ℕ) → i ≤ j → words i ≤ words j
words-more zero zero h = omega arith
words-more zero (suc j) h = let k = words-more zero j (omega arith) in omega arith
words-more (suc i) zero h = absurd (omega arith)
words-more (suc i) (suc j) h = let k = words-more i j (omega arith) in omega arith

pub words-small : (i : ℕ) → i ≤ 20 → words i ≤ 2097151
words-small i h = words-more i 20 h

pub words-next : (i : ℕ) → words (i + 1) ≡ words i + words i + 1
words-next i = let e : i + 1 ≡ suc i = omega arith in rw e (omega arith)
