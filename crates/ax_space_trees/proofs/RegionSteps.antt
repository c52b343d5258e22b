use Rattle.std.proofs.Common.{◌≡◌, ◌≢◌, ◌⊎◌, ℕ, zero, suc, ◌+◌, ◌<◌, ◌≤◌, List, [], ◌∷◌, ◌++◌, refl, sym, ◌∙◌, ap, subst, length, take, get_or, arith, Option, Some, None, ℤ}
use Rattle.std.specs.List.{Contains, AllPairs}
use Rattle.std.proofs.lemmas.List.{take_more}
use Rattle.std.proofs.lemmas.List.Elements.{Contains-append_left, Contains-push, Contains-push_cases}
use mathlib.Core.Logic.{inl, inr}
use Rattle.ax_prog.specs.declared.Expr.{Expr}
use Rattle.ax_space_trees.specs.declared.Label.{Label}
use Rattle.ax_space_trees.specs.declared.Choice.{Choice}
use Rattle.ax_space_trees.specs.declared.Place.{Place, Gone}
use Rattle.ax_space_trees.specs.declared.Place.TheVariants as p
use Rattle.ax_space_trees.specs.declared.Place.TheBlock.{shape-the_row-Place-0, hidden-the_row-Place-0}
use Rattle.ax_space_trees.specs.Positions.{top, labelled}
use Rattle.ax_space_trees.specs.Trees.{choice, OneEach}
use Rattle.ax_space_trees.specs.Region.{Spot, Out, In, fresh, child, Own, kept, new, ChoicesAt, IsRegion, IsRegionOf, IsChoices}
use Rattle.ax_space_trees.proofs.Members.{take-whole, nothing, only, here, from_pairs, pairs_from, Apart-append}
use Rattle.ax_prog.specs.declared.Un.{Un}
use Rattle.ax_prog.specs.declared.Bin.{Bin}
use Rattle.ax_prog.specs.declared.Atom.{Atom}
use Rattle.ax_prog.specs.declared.Expr.TheVariants as e
use Rattle.ax_prog.specs.Nodes.{operands}
use Rattle.ax_prog.proofs.Trees.{operands-Atom, operands-Un, operands-Bin, operands-Cond}
use denote.Hole.Carrier

pub IsRegion-At : (allowed : Label → Type 0) (g : ℕ) (spot : Spot) (ch : List Choice) (a b c : Place) → ChoicesAt allowed spot ch → IsRegion allowed g (child g spot 1) a → IsRegion allowed g (child g spot 2) b → IsRegion allowed g (child g spot 3) c → IsRegion allowed g spot (p.At ch a b c)
unfolding shape-the_row-Place-0 hidden-the_row-Place-0 Carrier.hidden
IsRegion-At allowed g spot ch a b c h x y z = (h, x, y, z)

pub OneEach-At : (ch : List Choice) (a b c : Place) → AllPairs (λ x y. x.label ≢ y.label) ch → OneEach a → OneEach b → OneEach c → OneEach (p.At ch a b c)
unfolding shape-the_row-Place-0 hidden-the_row-Place-0 Carrier.hidden
OneEach-At ch a b c h x y z = (h, x, y, z)

pub choices-at : (labels : List Label) (old : Option Expr) (room : ℕ) (ch : List Choice) → IsChoices labels (labelled old) ch → ChoicesAt (Contains labels) (In old room) ch
choices-at labels old room ch h = record { sound = h.sound; complete = h.complete }

pub none-some : {l : Label} → ◌≡◌ {A = Option Label} None (Some l) → ⊥
none-some h = cc

pub some-label : {l m : Label} → ◌≡◌ {A = Option Label} (Some l) (Some m) → l ≡ m
some-label h = cc

pub start-none : IsChoices [] None []
start-none = record { sound = λ l k c. absurd (nothing c); complete = λ l c. elim c as (λ _. (k : ℕ) × Contains [] (choice l k)) [ inl e ↦ absurd (none-some e) | inr d ↦ absurd (nothing d) ]; once = λ i j d lt h. absurd (omega arith) }

pub start-some : (l : Label) → IsChoices [] (Some l) (choice l 0 ∷ [])
start-some l = record {
  sound = λ m k c. (let e = only (choice l 0) (choice m k) c in let f : l ≡ m = ap (λ x. x.label) e in
      (inl (ap Some f), subst (Own (Some l) m) (ap (λ x. x.cost) e) (kept (sym (ap Some f)))));
  complete = λ m c. elim c as (λ _. (k : ℕ) × Contains (choice l 0 ∷ []) (choice m k)) [ inl e ↦ (0, (let f = some-label e in subst (λ z. Contains (choice l 0 ∷ []) (choice z 0)) f (here (choice l 0) []))) | inr d ↦ absurd (nothing d) ];
  once = λ i j d lt h. absurd (omega arith);
}

-- a label that is the old one adds nothing
pub step-same : (labels : List Label) (old : Option Label) (ch : List Choice) (l : Label) → old ≡ Some l → IsChoices labels old ch → IsChoices (labels ++ l ∷ []) old ch
step-same labels old ch l is h = record {
  sound = λ m k c. (let s = h.sound m k c in (elim (s.0) as (λ _. (old ≡ Some m) ⊎ Contains (labels ++ l ∷ []) m) [ inl e ↦ inl e | inr d ↦ inr (Contains-append_left labels (l ∷ []) m d) ], s.1));
  complete = λ m c. elim c as (λ _. (k : ℕ) × Contains ch (choice m k)) [
    | inl e ↦ h.complete m (inl e)
    | inr d ↦ (elim (Contains-push_cases labels l m d) as (λ _. (k : ℕ) × Contains ch (choice m k)) [ inl x ↦ h.complete m (inr x) | inr y ↦ h.complete m (inl (is ∙ ap Some y)) ])
  ];
  once = h.once;
}

-- another one that is not yet there is added at cost 1
pub step-new : (labels : List Label) (old : Option Label) (ch : List Choice) (l : Label) → (old ≡ Some l → ⊥) → (Contains labels l → ⊥) → IsChoices labels old ch → IsChoices (labels ++ l ∷ []) old (ch ++ choice l 1 ∷ [])
step-new labels old ch l isnt fresh_one h = record {
  sound = λ m k c. (elim (Contains-push_cases ch (choice l 1) (choice m k) c) as (λ _. ((old ≡ Some m) ⊎ Contains (labels ++ l ∷ []) m) × Own old m k) [
    | inl d ↦ (let s = h.sound m k d in (elim (s.0) as (λ _. (old ≡ Some m) ⊎ Contains (labels ++ l ∷ []) m) [ inl e ↦ inl e | inr d ↦ inr (Contains-append_left labels (l ∷ []) m d) ], s.1))
    | inr e ↦ (let f : l ≡ m = ap (λ x. x.label) e in
        (inr (subst (Contains (labels ++ l ∷ [])) f (Contains-push labels l)), subst (Own old m) (ap (λ x. x.cost) e) (new (λ q. isnt (sym q ∙ ap Some (sym f))))))
  ]);
  complete = λ m c. elim c as (λ _. (k : ℕ) × Contains (ch ++ choice l 1 ∷ []) (choice m k)) [
    | inl e ↦ (let r = h.complete m (inl e) in (r.0, Contains-append_left ch (choice l 1 ∷ []) (choice m r.0) r.1))
    | inr d ↦ (elim (Contains-push_cases labels l m d) as (λ _. (k : ℕ) × Contains (ch ++ choice l 1 ∷ []) (choice m k)) [
      | inl x ↦ (let r = h.complete m (inr x) in (r.0, Contains-append_left ch (choice l 1 ∷ []) (choice m r.0) r.1))
      | inr y ↦ (1, subst (λ z. Contains (ch ++ choice l 1 ∷ []) (choice z 1)) y (Contains-push ch (choice l 1)))
    ])
  ];
  once = pairs_from (λ x y. x.label ≢ y.label) (ch ++ choice l 1 ∷ [])
      (Apart-append (λ x y. x.label ≢ y.label) ch (choice l 1 ∷ []) (from_pairs (λ x y. x.label ≢ y.label) ch h.once) ((λ y c. absurd (nothing c)), tt)
      (λ x y c d q. (let e = only (choice l 1) y d in let f : x.label ≡ l = q ∙ ap (λ x. x.label) (sym e) in let s = h.sound x.label x.cost c in
      elim (s.0) as (λ _. ⊥) [ inl g ↦ isnt (g ∙ ap Some f) | inr g ↦ fresh_one (subst (Contains labels) f g) ])));
}

length-take-le : {X : Type 0} (i : ℕ) (xs : List X) → length (take i xs) ≤ i
length-take-le zero xs = omega arith
length-take-le (suc i) [] = omega arith
length-take-le (suc i) (x ∷ xs) = let h = length-take-le i xs in omega arith

get-take : {X : Type 0} (xs : List X) (i k : ℕ) (d : X) → k < length (take i xs) → get_or xs k d ≡ get_or (take i xs) k d
get-take xs zero k d h = absurd (omega arith)
get-take [] (suc i) k d h = refl
get-take (x ∷ xs) (suc i) zero d h = refl
get-take (x ∷ xs) (suc i) (suc k) d h = get-take xs i k d (omega arith)

earlier : (labels : List Label) (i : ℕ) (l : Label) → i < length labels → (c : Contains (take i labels) l) → c.0 < i
earlier labels i l h c = let n : length (take i labels) ≤ i = length-take-le i labels in let k = c.1 in omega arith

early : (labels : List Label) (i : ℕ) (l : Label) → i < length labels → (c : Contains (take i labels) l) → get_or labels c.0 l ≡ l
early labels i l h c = get-take labels i c.0 l c.1 ∙ c.2

-- the place where a list without repeats is read is not among the earlier ones
pub not-earlier : (labels : List Label) (i : ℕ) (l : Label) → AllPairs (λ x y. x ≢ y) labels → i < length labels → l ≡ get_or labels i l → Contains (take i labels) l → ⊥
not-earlier labels i l apart h is c = apart c.0 i l (earlier labels i l h c) h (early labels i l h c ∙ is)

pub more-labels : (labels : List Label) (i : ℕ) (l : Label) (old : Option Label) (ch : List Choice) → i < length labels → l ≡ get_or labels i l → IsChoices (take i labels ++ l ∷ []) old ch → IsChoices (take (i + 1) labels) old ch
more-labels labels i l old ch h is r = rw (take_more labels i l h) (subst (λ z. IsChoices (take i labels ++ z ∷ []) old ch) is r)

pub all-labels : (labels : List Label) (i : ℕ) (old : Option Label) (ch : List Choice) → length labels ≤ i → IsChoices (take i labels) old ch → IsChoices labels old ch
all-labels labels i old ch h r = subst (λ z. IsChoices z old ch) (take-whole labels i h) r

pub ruleset layers = (IsRegion-At, OneEach-At, choices-at)

fresh-same : (grow : ℕ) → fresh grow 1 ≡ fresh grow 2
fresh-same zero = refl
fresh-same (suc room) = refl

fresh-third : (grow : ℕ) → fresh grow 3 ≡ Out
fresh-third zero = refl
fresh-third (suc room) = refl

as-second : (allowed : Label → Type 0) (g : ℕ) (a : Place) → IsRegion allowed g (fresh g 1) a → IsRegion allowed g (fresh g 2) a
as-second allowed g a r = subst (λ s. IsRegion allowed g s a) (fresh-same g) r

-- the region of a tree from its labels and those of its operands
leaf-region : (old : Expr) (g : ℕ) (labels : List Label) (ch : List Choice) (a b : Place) → operands old ≡ [] → IsChoices labels (Some (top old)) ch → IsRegion (Contains labels) g (fresh g 1) a → IsRegion (Contains labels) g (fresh g 1) b → IsRegionOf old g labels (p.At ch a b Gone)
leaf-region old g labels ch a b is h x y =
    IsRegion-At (Contains labels) g (In (Some old) g) ch a b Gone (choices-at labels (Some old) g ch h)
    (rw is x) (rw is (as-second (Contains labels) g b y)) (rw is (fresh-third g))

pub region-Num : (n : ℤ) (g : ℕ) (labels : List Label) (ch : List Choice) (a b : Place) → IsChoices labels (Some (top (e.Num n))) ch → IsRegion (Contains labels) g (fresh g 1) a → IsRegion (Contains labels) g (fresh g 1) b → IsRegionOf (e.Num n) g labels (p.At ch a b Gone)
region-Num n g labels ch a b = leaf-region (e.Num n) g labels ch a b refl

pub region-Atom : (atom : Atom) (g : ℕ) (labels : List Label) (ch : List Choice) (a b : Place) → IsChoices labels (Some (top (e.Atom atom))) ch → IsRegion (Contains labels) g (fresh g 1) a → IsRegion (Contains labels) g (fresh g 1) b → IsRegionOf (e.Atom atom) g labels (p.At ch a b Gone)
region-Atom atom g labels ch a b = leaf-region (e.Atom atom) g labels ch a b (operands-Atom atom)

pub region-Un : (op : Un) (x : Expr) (g : ℕ) (labels : List Label) (ch : List Choice) (a b : Place) → IsChoices labels (Some (top (e.Un op x))) ch → IsRegionOf x g labels a → IsRegion (Contains labels) g (fresh g 1) b → IsRegionOf (e.Un op x) g labels (p.At ch a b Gone)
region-Un op x g labels ch a b h r y =
    IsRegion-At (Contains labels) g (In (Some (e.Un op x)) g) ch a b Gone (choices-at labels (Some (e.Un op x)) g ch h)
    (rw (operands-Un op x) r) (rw (operands-Un op x) (as-second (Contains labels) g b y)) (rw (operands-Un op x) (fresh-third g))

pub region-Bin : (op : Bin) (x y : Expr) (g : ℕ) (labels : List Label) (ch : List Choice) (a b : Place) → IsChoices labels (Some (top (e.Bin op x y))) ch → IsRegionOf x g labels a → IsRegionOf y g labels b → IsRegionOf (e.Bin op x y) g labels (p.At ch a b Gone)
region-Bin op x y g labels ch a b h r s =
    IsRegion-At (Contains labels) g (In (Some (e.Bin op x y)) g) ch a b Gone (choices-at labels (Some (e.Bin op x y)) g ch h)
    (rw (operands-Bin op x y) r) (rw (operands-Bin op x y) s) (rw (operands-Bin op x y) (fresh-third g))

pub region-Cond : (x y z : Expr) (g : ℕ) (labels : List Label) (ch : List Choice) (a b c : Place) → IsChoices labels (Some (top (e.Cond x y z))) ch → IsRegionOf x g labels a → IsRegionOf y g labels b → IsRegionOf z g labels c → IsRegionOf (e.Cond x y z) g labels (p.At ch a b c)
region-Cond x y z g labels ch a b c h r s t =
    IsRegion-At (Contains labels) g (In (Some (e.Cond x y z)) g) ch a b c (choices-at labels (Some (e.Cond x y z)) g ch h)
    (rw (operands-Cond x y z) r) (rw (operands-Cond x y z) s) (rw (operands-Cond x y z) t)
