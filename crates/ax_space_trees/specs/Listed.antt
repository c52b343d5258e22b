-- The trees of a place within a budget of changed nodes, one list for each place.
use Rattle.std.specs.Prelude.{ℕ, ◌+◌, nat_le, Bool, List, [], ◌∷◌, map, flat_map, filter}
use Rattle.ax_prog.specs.declared.Un.{Un}
use Rattle.ax_prog.specs.declared.Bin.{Bin}
use Rattle.ax_prog.specs.declared.Expr.TheVariants as e
use Rattle.ax_space_trees.specs.declared.Costed.{Costed}
use Rattle.ax_space_trees.specs.declared.Choice.{Choice}
use Rattle.ax_space_trees.specs.declared.Label.{Label}
use Rattle.ax_space_trees.specs.declared.Label.TheVariants as label
use Rattle.ax_space_trees.specs.declared.Place.{Place, Gone, At', more_of-Place, end_of-Place}
use Rattle.ax_space_trees.specs.Trees.{costed}

abbrev pub within : ℕ → Costed → Bool
within budget c = nat_le c.cost budget

abbrev pub with_one : Un → ℕ → Costed → Costed
with_one op k x = costed (e.Un op x.tree) (k + x.cost)

abbrev pub with_two : Bin → ℕ → Costed → Costed → Costed
with_two op k x y = costed (e.Bin op x.tree y.tree) (k + x.cost + y.cost)

abbrev pub with_three : ℕ → Costed → Costed → Costed → Costed
with_three k x y z = costed (e.Cond x.tree y.tree z.tree) (k + x.cost + y.cost + z.cost)

-- the trees with this label and operands of these lists
abbrev pub of_label : List Costed → List Costed → List Costed → ℕ → Label → List Costed
of_label xs ys zs k (label.Num n) = costed (e.Num n) k ∷ []
of_label xs ys zs k (label.Atom a) = costed (e.Atom a) k ∷ []
of_label xs ys zs k (label.Un op) = map (with_one op k) xs
of_label xs ys zs k (label.Bin op) = flat_map (λ x. map (with_two op k x) ys) xs
of_label xs ys zs k label.Cond = flat_map (λ x. flat_map (λ y. map (with_three k x y) zs) ys) xs

abbrev pub of_choice : List Costed → List Costed → List Costed → Choice → List Costed
of_choice xs ys zs c = of_label xs ys zs c.cost c.label

abbrev pub node : ℕ → List Choice → List Costed → List Costed → List Costed → List Costed
node budget choices xs ys zs = filter (within budget) (flat_map (of_choice xs ys zs) choices)

abbrev pub listed : ℕ → Place → List Costed
listed budget Gone = []
listed budget (At' choices s (more_of-Place a end_of-Place) t (more_of-Place b end_of-Place) u (more_of-Place c end_of-Place)) =
    node budget choices (listed budget a) (listed budget b) (listed budget c)
