-- A region against the words of the definition of the space.
use Rattle.std.proofs.Common.{◌≡◌, ◌⊎◌, ℕ, zero, suc, ◌+◌, ◌≤◌, List, [], ◌∷◌, ◌++◌, refl, length, arith, ap, sym, ◌∙◌, subst, Option, Some, None}
use Rattle.std.specs.List.{Contains}
use mathlib.Core.Logic.{inl, inr}
use Rattle.ax_prog.specs.declared.Expr.{Expr, Num}
use Rattle.ax_prog.specs.declared.Expr.TheVariants as e
use Rattle.ax_space_trees.specs.declared.Label.{Label}
use Rattle.ax_space_trees.specs.declared.Label.TheVariants as label
use Rattle.ax_space_trees.specs.declared.Choice.{Choice}
use Rattle.ax_space_trees.specs.declared.Place.{Place, Gone, At', more_of-Place, end_of-Place}
use Rattle.ax_space_trees.specs.Positions.{top, operand, at_position, labelled}
use Rattle.ax_space_trees.specs.Space.{Changes, IsPosition, InSpace}
use Rattle.ax_space_trees.specs.Trees.{NodeFits, num, atom, un, bin, cond, FitsPlace, Lists}
use Rattle.ax_space_trees.specs.Region.{Spot, Out, In, fresh, child_from, child, old_of, Lawful, ChoicesAt, IsRegion, IsRegionOf}
use Rattle.ax_space_trees.specs.Within.{IsTreesWithin}
use Rattle.ax_space_trees.specs.declared.Costed.{Costed}
use Rattle.ax_space_trees.proofs.Members.{nothing, which, there, here}
use Rattle.ax_space_trees.proofs.Regions.{walk, InRegion, at-child, at-none, not_none, old-child, fits-good, Differing-unique}
use Rattle.ax_prog.proofs.Trees.{expr-cases, operands-Un, operands-Bin, operands-Cond}
use Rattle.ax_space_trees.proofs.Tops.{top-Atom}

node-fits : (allowed : Label → Type 0) (g : ℕ) (spot : Spot) (ch : List Choice) → ChoicesAt allowed spot ch → (A B C : Expr → ℕ → Type 0) → ((t : Expr) → InRegion allowed g (child g spot 1) (Some t) → (i : ℕ) × A t i) → ((t : Expr) → InRegion allowed g (child g spot 2) (Some t) → (i : ℕ) × B t i) → ((t : Expr) → InRegion allowed g (child g spot 3) (Some t) → (i : ℕ) × C t i) → (t : Expr) → InRegion allowed g spot (Some t) → (k : ℕ) × NodeFits ch A B C t k
node-fits allowed g spot ch says A B C f1 f2 f3 =
    expr-cases (λ t. InRegion allowed g spot (Some t) → (k : ℕ) × NodeFits ch A B C t k)
    (λ n r. (let c = says.complete (label.Num n) (r [] (e.Num n) refl) in (c.0, num c.1)))
    (λ a r. (let c = says.complete (label.Atom a) (rw top-Atom at (r [] (e.Atom a) refl)) in (c.0, atom c.1)))
    (λ op x r. (let c = says.complete (label.Un op) (r [] (e.Un op x) refl) in
    let p = f1 x (rw (operands-Un op x) at (at-child allowed g spot (e.Un op x) 1 r)) in
    (c.0 + p.0, un c.1 p.1)))
    (λ op x y r. (let c = says.complete (label.Bin op) (r [] (e.Bin op x y) refl) in
    let p = f1 x (rw (operands-Bin op x y) at (at-child allowed g spot (e.Bin op x y) 1 r)) in
    let q = f2 y (rw (operands-Bin op x y) at (at-child allowed g spot (e.Bin op x y) 2 r)) in
    (c.0 + p.0 + q.0, bin c.1 p.1 q.1)))
    (λ x y z r. (let c = says.complete label.Cond (r [] (e.Cond x y z) refl) in
    let p = f1 x (rw (operands-Cond x y z) at (at-child allowed g spot (e.Cond x y z) 1 r)) in
    let q = f2 y (rw (operands-Cond x y z) at (at-child allowed g spot (e.Cond x y z) 2 r)) in
    let s = f3 z (rw (operands-Cond x y z) at (at-child allowed g spot (e.Cond x y z) 3 r)) in
    (c.0 + p.0 + q.0 + s.0, cond c.1 p.1 q.1 s.1)))

good-fits : (allowed : Label → Type 0) (g : ℕ) (spot : Spot) (p : Place) → IsRegion allowed g spot p → (t : Expr) → InRegion allowed g spot (Some t) → (k : ℕ) × FitsPlace p t k
good-fits allowed g spot Gone is t r = absurd (subst (λ s. Lawful allowed s (top t)) is (r [] t refl))
good-fits allowed g spot (At' ch s (more_of-Place a end_of-Place) u (more_of-Place b end_of-Place) v (more_of-Place c end_of-Place)) is t r =
    node-fits allowed g spot ch is.0 (FitsPlace a) (FitsPlace b) (FitsPlace c) (good-fits allowed g (child g spot 1) a is.1) (good-fits allowed g (child g spot 2) b is.2) (good-fits allowed g (child g spot 3) c is.3) t r

-- positions as walks
abbrev IsIn : Spot → Type 0
IsIn Out = ⊥
IsIn (In o r) = Unit {0}

abbrev Short : ℕ → List ℕ → Type 0
Short r w = ((k : ℕ) → Contains w k → (k ≡ 1) ⊎ (k ≡ 2)) × (length w ≤ r)

out-walk : (g : ℕ) (w : List ℕ) → IsIn (walk g Out w) → ⊥
out-walk g [] h = h
out-walk g (k ∷ w) h = out-walk g w h

longer : (r k : ℕ) (w : List ℕ) → (k ≡ 1) ⊎ (k ≡ 2) → Short r w → Short (suc r) (k ∷ w)
longer r k w is s = ((λ j c. elim (which k j w c) as (λ _. (j ≡ 1) ⊎ (j ≡ 2)) [ inl e ↦ subst (λ z. (z ≡ 1) ⊎ (z ≡ 2)) e is | inr d ↦ s.0 j d ]), (let h = s.1 in omega arith))

fresh-word : (g r k : ℕ) (w : List ℕ) → ((r : ℕ) → IsIn (walk g (In None r) w) → Short r w) → IsIn (walk g (fresh r k) w) → Short r (k ∷ w)
fresh-word g r zero w f h = absurd (out-walk g w h)
fresh-word g zero (suc k) w f h = absurd (out-walk g w h)
fresh-word g (suc r) (suc zero) w f h = longer r 1 w (inl refl) (f r h)
fresh-word g (suc r) (suc (suc zero)) w f h = longer r 2 w (inr refl) (f r h)
fresh-word g (suc r) (suc (suc (suc k))) w f h = absurd (out-walk g w h)

none-word : (g : ℕ) (w : List ℕ) (r : ℕ) → IsIn (walk g (In None r) w) → Short r w
none-word g [] r h = ((λ k c. absurd (nothing c)), omega arith)
none-word g (k ∷ w) r h = fresh-word g r k w (none-word g w) h

in-step : (g k : ℕ) (w : List ℕ) (old : Expr) → ((e : Expr) → IsIn (walk g (In (Some e) g) w) → IsPosition g e w) → (x : Option Expr) → operand (Some old) k ≡ x → IsIn (walk g (child_from g g k x) w) → IsPosition g old (k ∷ w)
in-step g k w old f None is h = let s = fresh-word g g k w (none-word g w) h in record { from = []; tail = k ∷ w; tree = old; is = refl; old_one = refl; letters = s.0; short = s.1 }
in-step g k w old f (Some x) is h = let p = f x h in record { from = k ∷ p.from; tail = p.tail; tree = p.tree; is = ap (λ w. k ∷ w) p.is; old_one = rw is p.old_one; letters = p.letters; short = p.short }

in-position : (g : ℕ) (w : List ℕ) (old : Expr) → IsIn (walk g (In (Some old) g) w) → IsPosition g old w
in-position g [] old h = record { from = []; tail = []; tree = old; is = refl; old_one = refl; letters = λ k c. absurd (nothing c); short = omega arith }
in-position g (k ∷ w) old h = in-step g k w old (in-position g w) (operand (Some old) k) refl h

fresh-in : (g r k : ℕ) (u : List ℕ) → (k ≡ 1) ⊎ (k ≡ 2) → suc (length u) ≤ r → ((r : ℕ) → length u ≤ r → r ≤ g → IsIn (walk g (In None r) u)) → r ≤ g → IsIn (walk g (fresh r k) u)
fresh-in g zero k u is le f top = absurd (omega arith)
fresh-in g (suc r) k u (inl is) le f top = rw is (f r (omega arith) (omega arith))
fresh-in g (suc r) k u (inr is) le f top = rw is (f r (omega arith) (omega arith))

tail-step : (g r k : ℕ) (u : List ℕ) (x : Option Expr) → (k ≡ 1) ⊎ (k ≡ 2) → suc (length u) ≤ r → r ≤ g → ((o : Option Expr) (r : ℕ) → length u ≤ r → r ≤ g → IsIn (walk g (In o r) u)) → IsIn (walk g (child_from g r k x) u)
tail-step g r k u None is le top f = fresh-in g r k u is le (f None) top
tail-step g r k u (Some x) is le top f = f (Some x) g (omega arith) (omega arith)

tail-in : (g : ℕ) (u : List ℕ) → ((k : ℕ) → Contains u k → (k ≡ 1) ⊎ (k ≡ 2)) → (o : Option Expr) (r : ℕ) → length u ≤ r → r ≤ g → IsIn (walk g (In o r) u)
tail-in g [] ls o r le top = tt
tail-in g (k ∷ u) ls o r le top = tail-step g r k u (operand o k) (ls k (here k u)) (omega arith) top (tail-in g u (λ j c. ls j (there k u c)))

from-step : (g k : ℕ) (from w : List ℕ) (tree : Expr) → ((e : Expr) → at_position from (Some e) ≡ Some tree → IsIn (walk g (In (Some e) g) w)) → (x : Option Expr) → at_position from x ≡ Some tree → IsIn (walk g (child_from g g k x) w)
from-step g k from w tree f None is = absurd (not_none (sym (at-none from) ∙ is))
from-step g k from w tree f (Some x) is = f x is

from-in : (g : ℕ) (from tail : List ℕ) (tree : Expr) → ((k : ℕ) → Contains tail k → (k ≡ 1) ⊎ (k ≡ 2)) → length tail ≤ g → (old : Expr) → at_position from (Some old) ≡ Some tree → IsIn (walk g (In (Some old) g) (from ++ tail))
from-in g [] tail tree ls le old is = tail-in g tail ls (Some old) g le (omega arith)
from-in g (k ∷ from) tail tree ls le old is = from-step g k from (from ++ tail) tree (from-in g from tail tree ls le) (operand (Some old) k) is

position-in : (g : ℕ) (w : List ℕ) (old : Expr) → IsPosition g old w → IsIn (walk g (In (Some old) g) w)
position-in g w old p = rw p.is (from-in g p.from p.tail p.tree p.letters p.short old p.old_one)

old-walk : (g : ℕ) (w : List ℕ) (spot : Spot) → old_of (walk g spot w) ≡ at_position w (old_of spot)
old-walk g [] spot = refl
old-walk g (k ∷ w) spot = old-walk g w (child g spot k) ∙ ap (at_position w) (old-child g spot k)

lawful-in : (allowed : Label → Type 0) (spot : Spot) (l : Label) → Lawful allowed spot l → IsIn spot × ((labelled (old_of spot) ≡ Some l) ⊎ allowed l)
lawful-in allowed Out l h = absurd h
lawful-in allowed (In o r) l h = (tt, h)

in-lawful : (allowed : Label → Type 0) (spot : Spot) (l : Label) → IsIn spot → (labelled (old_of spot) ≡ Some l) ⊎ allowed l → Lawful allowed spot l
in-lawful allowed Out l h k = absurd h
in-lawful allowed (In o r) l h k = k

pub region-space : (allowed : Label → Type 0) (g : ℕ) (old tree : Expr) → InRegion allowed g (In (Some old) g) (Some tree) → InSpace allowed g old tree
region-space allowed g old tree r w t h =
    let q = lawful-in allowed (walk g (In (Some old) g) w) (top t) (r w t h) in
    (in-position g w old q.0, subst (λ o. (labelled o ≡ Some (top t)) ⊎ allowed (top t)) (old-walk g w (In (Some old) g)) q.1)

pub space-region : (allowed : Label → Type 0) (g : ℕ) (old tree : Expr) → InSpace allowed g old tree → InRegion allowed g (In (Some old) g) (Some tree)
space-region allowed g old tree r w t h =
    let q = r w t h in
    in-lawful allowed (walk g (In (Some old) g) w) (top t) (position-in g w old q.0) (subst (λ o. (labelled o ≡ Some (top t)) ⊎ allowed (top t)) (sym (old-walk g w (In (Some old) g))) q.1)

pub fits-space : (allowed : Label → Type 0) (g : ℕ) (old : Expr) (p : Place) → IsRegion allowed g (In (Some old) g) p → (t : Expr) (k : ℕ) → FitsPlace p t k → InSpace allowed g old t × Changes old t k
fits-space allowed g old p is t k f = let q = fits-good allowed g (In (Some old) g) p is t k f in (region-space allowed g old t q.0, q.1)

pub space-fits : (allowed : Label → Type 0) (g : ℕ) (old : Expr) (p : Place) → IsRegion allowed g (In (Some old) g) p → (t : Expr) (k : ℕ) → InSpace allowed g old t → Changes old t k → FitsPlace p t k
space-fits allowed g old p is t k s d =
    let q = good-fits allowed g (In (Some old) g) p is t (space-region allowed g old t s) in
    let b = fits-good allowed g (In (Some old) g) p is t q.0 q.1 in
    subst (FitsPlace p t) (Differing-unique b.1 d) q.1

pub lists-within : (labels : List Label) (g : ℕ) (old : Expr) (budget : ℕ) (p : Place) (found : List Costed) → IsRegionOf old g labels p → Lists budget p found → IsTreesWithin labels g old budget found
lists-within labels g old budget p found is ls = record {
  sound = λ c h. (let s = ls.sound c h in let q = fits-space (Contains labels) g old p is c.tree c.cost s.0 in (q.0, q.1, s.1));
  complete = λ t n s d le. ls.complete t n (space-fits (Contains labels) g old p is t n s d) le;
  once = ls.once;
}
