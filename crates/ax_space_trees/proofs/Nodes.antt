-- What the lister makes at one place, and at all places.
use Rattle.std.proofs.Common.{◌≡◌, ◌≢◌, ℕ, ◌≤◌, true, List, [], ◌∷◌, map, arith, ap, sym, ◌∙◌, subst, nat_le}
use Rattle.std.specs.List.{flat_map, Contains, AllPairs}
use Rattle.ax_prog.specs.declared.Un.{Un}
use Rattle.ax_prog.specs.declared.Bin.{Bin}
use Rattle.ax_prog.specs.declared.Expr.{Expr}
use Rattle.ax_prog.specs.declared.Expr.TheVariants as e
use Rattle.ax_space_trees.specs.declared.Costed.{Costed}
use Rattle.ax_space_trees.specs.declared.Choice.{Choice}
use Rattle.ax_space_trees.specs.declared.Label.{Label}
use Rattle.ax_space_trees.specs.declared.Label.TheVariants as label
use Rattle.ax_space_trees.specs.declared.Place.{Place, Gone, At', more_of-Place, end_of-Place}
use Rattle.ax_space_trees.specs.Trees.{costed, choice, NodeFits, num, atom, un, bin, cond, FitsPlace, OneEach, Lists}
use Rattle.ax_space_trees.specs.Listed.{within, with_one, with_two, with_three, of_label, of_choice, node, listed}
use Rattle.ax_space_trees.proofs.Members.{nothing, here, only, map-has, map-from, flat-has, flat-from, filter-has, filter-from, Apart, Apart-map, Apart-flat, Apart-filter, pairs_from, from_pairs}
use Rattle.ax_prog.specs.Nodes.{operands}
use Rattle.ax_prog.proofs.Trees.{operands-Un, operands-Bin, operands-Cond}
use Rattle.ax_space_trees.specs.Positions.{top}
use Rattle.ax_space_trees.proofs.Tops.{top-Atom}

same-Un : (op : Un) (a b : Expr) → e.Un op a ≡ e.Un op b → a ≡ b
same-Un op a b h = let i : a ∷ [] ≡ b ∷ [] = sym (operands-Un op a) ∙ ap operands h ∙ operands-Un op b in cc

same-Bin : (op : Bin) (a b c d : Expr) → e.Bin op a b ≡ e.Bin op c d → (a ≡ c) × (b ≡ d)
same-Bin op a b c d h = let i : a ∷ b ∷ [] ≡ c ∷ d ∷ [] = sym (operands-Bin op a b) ∙ ap operands h ∙ operands-Bin op c d in ((cc), (cc))

same-Cond : (a b f c d g : Expr) → e.Cond a b f ≡ e.Cond c d g → (a ≡ c) × (b ≡ d) × (f ≡ g)
same-Cond a b f c d g h = let i : a ∷ b ∷ f ∷ [] ≡ c ∷ d ∷ g ∷ [] = sym (operands-Cond a b f) ∙ ap operands h ∙ operands-Cond c d g in ((cc), (cc), (cc))

-- every tree that is made has a lawful label
abbrev in_list : List Costed → Expr → ℕ → Type 0
in_list xs t i = Contains xs (costed t i)

abbrev Made : List Choice → List Costed → List Costed → List Costed → Costed → Type 0
Made ch xs ys zs c = NodeFits ch (in_list xs) (in_list ys) (in_list zs) c.tree c.cost

sound-label : (ch : List Choice) (xs ys zs : List Costed) (k : ℕ) (l : Label) → Contains ch (choice l k) → (c : Costed) → Contains (of_label xs ys zs k l) c → Made ch xs ys zs c
sound-label ch xs ys zs k (label.Num n) h c d = subst (Made ch xs ys zs) (only _ _ d) (num h)
sound-label ch xs ys zs k (label.Atom a) h c d = subst (Made ch xs ys zs) (only _ _ d) (atom h)
sound-label ch xs ys zs k (label.Un op) h c d =
    let r = map-from (with_one op k) xs c d in subst (Made ch xs ys zs) r.2 (un h r.1)
sound-label ch xs ys zs k (label.Bin op) h c d =
    let r = flat-from (λ x. map (with_two op k x) ys) xs c d in
    let q = map-from (with_two op k r.0) ys c r.2 in
    subst (Made ch xs ys zs) q.2 (bin h r.1 q.1)
sound-label ch xs ys zs k label.Cond h c d =
    let r = flat-from (λ x. flat_map (λ y. map (with_three k x y) zs) ys) xs c d in
    let q = flat-from (λ y. map (with_three k r.0 y) zs) ys c r.2 in
    let p = map-from (with_three k r.0 q.0) zs c q.2 in
    subst (Made ch xs ys zs) p.2 (cond h r.1 q.1 p.1)

below-is : (a b : ℕ) → nat_le a b ≡ true → a ≤ b
below-is a b h = grind arith

is-below : (a b : ℕ) → a ≤ b → nat_le a b ≡ true
is-below a b h = grind arith

node-sound : (b : ℕ) (ch : List Choice) (xs ys zs : List Costed) (c : Costed) → Contains (node b ch xs ys zs) c → NodeFits ch (in_list xs) (in_list ys) (in_list zs) c.tree c.cost × (c.cost ≤ b)
node-sound b ch xs ys zs c d =
    let f = filter-from (within b) (flat_map (of_choice xs ys zs) ch) c d in
    let r = flat-from (of_choice xs ys zs) ch c f.0 in
    (sound-label ch xs ys zs (r.0).cost (r.0).label r.1 c r.2, below-is c.cost b f.1)

weaker : {ch : List Choice} {A B C D E F : Expr → ℕ → Type 0} → ((t : Expr) (i : ℕ) → A t i → D t i) → ((t : Expr) (i : ℕ) → B t i → E t i) → ((t : Expr) (i : ℕ) → C t i → F t i) → {t : Expr} {k : ℕ} → NodeFits ch A B C t k → NodeFits ch D E F t k
weaker f g h (num c) = num c
weaker f g h (atom c) = atom c
weaker f g h (un c x) = un c (f _ _ x)
weaker f g h (bin c x y) = bin c (f _ _ x) (g _ _ y)
weaker f g h (cond c x y z) = cond c (f _ _ x) (g _ _ y) (h _ _ z)

-- every lawful tree within the budget is made
complete-label : (b : ℕ) (ch : List Choice) (xs ys zs : List Costed) {A B C : Expr → ℕ → Type 0} → ((t : Expr) (i : ℕ) → A t i → i ≤ b → Contains xs (costed t i)) → ((t : Expr) (i : ℕ) → B t i → i ≤ b → Contains ys (costed t i)) → ((t : Expr) (i : ℕ) → C t i → i ≤ b → Contains zs (costed t i)) → {t : Expr} {k : ℕ} → NodeFits ch A B C t k → k ≤ b → Contains (flat_map (of_choice xs ys zs) ch) (costed t k)
complete-label b ch xs ys zs f g h (num {n} {k} c) le = flat-has (of_choice xs ys zs) ch _ _ c (here _ [])
complete-label b ch xs ys zs f g h (atom {a} {k} c) le = flat-has (of_choice xs ys zs) ch _ _ c (here _ [])
complete-label b ch xs ys zs f g h (un {op} {k} {x} {i} c p) le =
    flat-has (of_choice xs ys zs) ch _ _ c (map-has (with_one op k) xs (costed x i) (f x i p (omega arith)))
complete-label b ch xs ys zs f g h (bin {op} {k} {x} {y} {i} {j} c p q) le =
    flat-has (of_choice xs ys zs) ch _ _ c
    (flat-has (λ x. map (with_two op k x) ys) xs (costed x i) _ (f x i p (omega arith)) (map-has (with_two op k (costed x i)) ys (costed y j) (g y j q (omega arith))))
complete-label b ch xs ys zs f g h (cond {k} {x} {y} {z} {h = l} {i} {j} c p q r) le =
    flat-has (of_choice xs ys zs) ch _ _ c
    (flat-has (λ x. flat_map (λ y. map (with_three k x y) zs) ys) xs (costed x l) _ (f x l p (omega arith))
    (flat-has (λ y. map (with_three k (costed x l) y) zs) ys (costed y i) _ (g y i q (omega arith)) (map-has (with_three k (costed x l) (costed y i)) zs (costed z j) (h z j r (omega arith)))))

-- no tree twice
abbrev Others : Costed → Costed → Type 0
Others x y = x.tree ≢ y.tree

top-label : (xs ys zs : List Costed) (k : ℕ) (l : Label) (c : Costed) → Contains (of_label xs ys zs k l) c → top c.tree ≡ l
top-label xs ys zs k (label.Num n) c d = ap (λ c. top c.tree) (sym (only _ _ d))
top-label xs ys zs k (label.Atom a) c d = ap (λ c. top c.tree) (sym (only _ _ d)) ∙ top-Atom a
top-label xs ys zs k (label.Un op) c d = let r = map-from (with_one op k) xs c d in ap (λ c. top c.tree) (sym r.2)
top-label xs ys zs k (label.Bin op) c d =
    let r = flat-from (λ x. map (with_two op k x) ys) xs c d in
    let q = map-from (with_two op k r.0) ys c r.2 in ap (λ c. top c.tree) (sym q.2)
top-label xs ys zs k label.Cond c d =
    let r = flat-from (λ x. flat_map (λ y. map (with_three k x y) zs) ys) xs c d in
    let q = flat-from (λ y. map (with_three k r.0 y) zs) ys c r.2 in
    let p = map-from (with_three k r.0 q.0) zs c q.2 in ap (λ c. top c.tree) (sym p.2)

apart-label : (xs ys zs : List Costed) (k : ℕ) (l : Label) → Apart Others xs → Apart Others ys → Apart Others zs → Apart Others (of_label xs ys zs k l)
apart-label xs ys zs k (label.Num n) a b c = ((λ y d. absurd (nothing d)), tt)
apart-label xs ys zs k (label.Atom n) a b c = ((λ y d. absurd (nothing d)), tt)
apart-label xs ys zs k (label.Un op) a b c = Apart-map Others Others (with_one op k) (λ x y n h. n (same-Un op x.tree y.tree h)) xs a
apart-label xs ys zs k (label.Bin op) a b c =
    Apart-flat Others Others (λ x. map (with_two op k x) ys)
    (λ x y u v n d g h. (let p = map-from (with_two op k x) ys u d in let q = map-from (with_two op k y) ys v g in
    let same : e.Bin op x.tree (p.0).tree ≡ e.Bin op y.tree (q.0).tree = ap (λ c. c.tree) p.2 ∙ h ∙ ap (λ c. c.tree) (sym q.2) in
    n ((same-Bin op x.tree (p.0).tree y.tree (q.0).tree same).0)))
    (λ x. Apart-map Others Others (with_two op k x) (λ y z n h. n ((same-Bin op x.tree y.tree x.tree z.tree h).1)) ys b) xs a
apart-label xs ys zs k label.Cond a b c =
    Apart-flat Others Others (λ x. flat_map (λ y. map (with_three k x y) zs) ys)
    (λ x y u v n d g h. (let p = flat-from (λ w. map (with_three k x w) zs) ys u d in let q = flat-from (λ w. map (with_three k y w) zs) ys v g in
    let r = map-from (with_three k x p.0) zs u p.2 in let s = map-from (with_three k y q.0) zs v q.2 in
    let same : e.Cond x.tree (p.0).tree (r.0).tree ≡ e.Cond y.tree (q.0).tree (s.0).tree = ap (λ c. c.tree) r.2 ∙ h ∙ ap (λ c. c.tree) (sym s.2) in
    n ((same-Cond x.tree (p.0).tree (r.0).tree y.tree (q.0).tree (s.0).tree same).0)))
    (λ x. Apart-flat Others Others (λ y. map (with_three k x y) zs)
    (λ y z u v n d g h. (let p = map-from (with_three k x y) zs u d in let q = map-from (with_three k x z) zs v g in
    let same : e.Cond x.tree y.tree (p.0).tree ≡ e.Cond x.tree z.tree (q.0).tree = ap (λ c. c.tree) p.2 ∙ h ∙ ap (λ c. c.tree) (sym q.2) in
    n ((same-Cond x.tree y.tree (p.0).tree x.tree z.tree (q.0).tree same).1)))
    (λ y. Apart-map Others Others (with_three k x y) (λ w z n h. n ((same-Cond x.tree y.tree w.tree x.tree y.tree z.tree h).2)) zs c) ys b) xs a

node-apart : (b : ℕ) (ch : List Choice) (xs ys zs : List Costed) → AllPairs (λ x y. x.label ≢ y.label) ch → Apart Others xs → Apart Others ys → Apart Others zs → Apart Others (node b ch xs ys zs)
node-apart b ch xs ys zs one p q r =
    Apart-filter Others (within b) (flat_map (of_choice xs ys zs) ch)
    (Apart-flat (λ x y. x.label ≢ y.label) Others (of_choice xs ys zs)
    (λ x y u v n d g h. n (sym (top-label xs ys zs x.cost x.label u d) ∙ ap top h ∙ top-label xs ys zs y.cost y.label v g))
    (λ x. apart-label xs ys zs x.cost x.label p q r) ch (from_pairs (λ x y. x.label ≢ y.label) ch one))

list-sound : (b : ℕ) (p : Place) (c : Costed) → Contains (listed b p) c → FitsPlace p c.tree c.cost × (c.cost ≤ b)
list-sound b Gone c d = absurd (nothing d)
list-sound b (At' ch s (more_of-Place x end_of-Place) u (more_of-Place y end_of-Place) v (more_of-Place z end_of-Place)) c d =
    let r = node-sound b ch (listed b x) (listed b y) (listed b z) c d in
    (weaker (λ t i h. (list-sound b x (costed t i) h).0) (λ t i h. (list-sound b y (costed t i) h).0) (λ t i h. (list-sound b z (costed t i) h).0) r.0, r.1)

list-complete : (b : ℕ) (p : Place) (t : Expr) (k : ℕ) → FitsPlace p t k → k ≤ b → Contains (listed b p) (costed t k)
list-complete b Gone t k f le = absurd f
list-complete b (At' ch s (more_of-Place x end_of-Place) u (more_of-Place y end_of-Place) v (more_of-Place z end_of-Place)) t k f le =
    filter-has (within b) (flat_map (of_choice (listed b x) (listed b y) (listed b z)) ch) (costed t k)
    (complete-label b ch (listed b x) (listed b y) (listed b z) (list-complete b x) (list-complete b y) (list-complete b z) f le) (is-below k b le)

list-apart : (b : ℕ) (p : Place) → OneEach p → Apart Others (listed b p)
list-apart b Gone one = tt
list-apart b (At' ch s (more_of-Place x end_of-Place) u (more_of-Place y end_of-Place) v (more_of-Place z end_of-Place)) one =
    node-apart b ch (listed b x) (listed b y) (listed b z) one.0 (list-apart b x one.1) (list-apart b y one.2) (list-apart b z one.3)

pub lists : (b : ℕ) (p : Place) → OneEach p → Lists b p (listed b p)
lists b p one = record { sound = list-sound b p; complete = list-complete b p; once = pairs_from Others (listed b p) (list-apart b p one) }
