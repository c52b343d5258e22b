-- The trees that changes leave: where the slots differ, their order makes no difference.
use Rattle.std.proofs.Common.{◌≡◌, ◌<◌, ℕ, zero, suc, ◌+◌, List, [], ◌∷◌, map, slice_get, Option, Some, None, refl, sym, ap, ◌∙◌, arith}
use Rattle.std.specs.Prelude.{slice_set}
use Rattle.std.proofs.lemmas.List.{map-set}
use Rattle.std.proofs.lemmas.Option.{none-some}
use Rattle.ax_prog.specs.declared.Expr.{Expr}
use Rattle.ax_prog.specs.declared.Slot.{Slot}
use Rattle.ax_prog.specs.declared.SlotId.{SlotId}
use Rattle.ax_prog.specs.declared.Program.{Program}
use Rattle.ax_prog.specs.Candidates.{slot_at}
use Rattle.ax_prog.specs.Substitution.{with_tree, substituted}
use Rattle.ax_prog.specs.Same.{trees_of}
use Rattle.ax_print_back.specs.Changes.{Change, AreChanges, replaced}

-- ---- elements of lists

pub set_before : {X : Type 0} (xs : List X) (n k : ℕ) (x : X) → n < k → slice_get (slice_set xs k x) n ≡ slice_get xs n
set_before [] n k x lt = refl
set_before (y ∷ xs) zero zero x lt = absurd (omega (arith, lt))
set_before (y ∷ xs) zero (suc k) x lt = refl
set_before (y ∷ xs) (suc n) zero x lt = absurd (omega (arith, lt))
set_before (y ∷ xs) (suc n) (suc k) x lt = set_before xs n k x (omega (arith, lt))

-- with no such element nothing is replaced
set_past : {X Y : Type 0} (f : X → Y) (xs : List X) (n : ℕ) (y : Y) → slice_get xs n ≡ None → slice_set (map f xs) n y ≡ map f xs
set_past f [] n y h = refl
set_past f (x ∷ xs) zero y h = absurd (none-some x (sym h))
set_past f (x ∷ xs) (suc n) y h = ap (λ l. f x ∷ l) (set_past f xs n y h)

set_apart : {X : Type 0} (xs : List X) (n k : ℕ) (x y : X) → n < k → slice_set (slice_set xs k y) n x ≡ slice_set (slice_set xs n x) k y
set_apart [] n k x y lt = refl
set_apart (z ∷ xs) zero zero x y lt = absurd (omega (arith, lt))
set_apart (z ∷ xs) zero (suc k) x y lt = refl
set_apart (z ∷ xs) (suc n) zero x y lt = absurd (omega (arith, lt))
set_apart (z ∷ xs) (suc n) (suc k) x y lt = ap (λ l. z ∷ l) (set_apart xs n k x y (omega (arith, lt)))

-- ---- trees

set_all : List Expr → List Change → List Expr
set_all trees [] = trees
set_all trees (c ∷ cs) = set_all (slice_set trees c.0.0 c.1) cs

tree_set : (slots : List Slot) (id : SlotId) (x : Expr) (o : Option Slot) → slice_get slots id.0 ≡ o → trees_of (with_tree o slots id x) ≡ slice_set (trees_of slots) id.0 x
tree_set slots id x None h = sym (set_past (λ (s : Slot). s.expr) slots id.0 x h)
tree_set slots id x (Some s) h = map-set (λ (s : Slot). s.expr) slots id.0 (record s { expr = x })

replaced_trees : (p : Program) (cs : List Change) → trees_of (replaced p cs).slots ≡ set_all (trees_of p.slots) cs
unfolding set_all
replaced_trees p [] = refl
replaced_trees p (c ∷ cs) = replaced_trees (substituted p c.0 c.1) cs ∙ ap (λ (l : List Expr). set_all l cs) (tree_set p.slots c.0 c.1 (slot_at p c.0) refl)

set_last : (from : ℕ) (p : Program) (trees : List Expr) (cs : List Change) (n : ℕ) (x : Expr) → n < from → AreChanges from p cs → set_all (slice_set trees n x) cs ≡ slice_set (set_all trees cs) n x
unfolding set_all
set_last from p trees [] n x lt h = refl
set_last from p trees (c ∷ cs) n x lt h =
    let below : n < c.0.0 = omega (arith, lt, h.0) in
    ap (λ (l : List Expr). set_all l cs) (sym (set_apart trees n c.0.0 x c.1 below)) ∙ set_last (c.0.0 + 1) p (slice_set trees c.0.0 c.1) cs n x (omega (arith, below)) h.2

-- the first change may be made last
pub first_last : (p : Program) (c : Change) (cs : List Change) → AreChanges (c.0.0 + 1) p cs → trees_of (replaced p (c ∷ cs)).slots ≡ slice_set (trees_of (replaced p cs).slots) c.0.0 c.1
unfolding set_all
first_last p c cs h =
    replaced_trees p (c ∷ cs) ∙ set_last (c.0.0 + 1) p (trees_of p.slots) cs c.0.0 c.1 (omega arith) h ∙ ap (λ (l : List Expr). slice_set l c.0.0 c.1) (sym (replaced_trees p cs))

-- ---- all else stays

pub record Stays (a b : Program) : Type 0 where
  pub structs : a.structs ≡ b.structs
  pub vars : a.vars ≡ b.vars
  pub globals : a.globals ≡ b.globals
  pub funs : a.funs ≡ b.funs
  pub main : a.main ≡ b.main

pub stays : (p : Program) (cs : List Change) → Stays p (replaced p cs)
stays p [] = record { structs = refl; vars = refl; globals = refl; funs = refl; main = refl }
stays p (c ∷ cs) =
    let r = stays (substituted p c.0 c.1) cs in
    record { structs = r.structs; vars = r.vars; globals = r.globals; funs = r.funs; main = r.main }
