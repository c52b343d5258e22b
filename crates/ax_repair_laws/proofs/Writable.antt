-- Trees of patches can be written.
use Rattle.std.proofs.Common.{◌≡◌, ℕ, zero, suc, false, List, [], ◌∷◌, Option, Some, None, refl, subst, slice_get, inl, inr}
use Rattle.std.specs.List.{All, Contains}
use Rattle.std.proofs.lemmas.Option.{slice_get_within, get_or_from_slice_get}
use Rattle.std.proofs.lemmas.List.Elements.{All-nil, All-cons, All-head, All-tail, All-contains}
use Rattle.ax_prog.specs.declared.Expr.{Expr}
use Rattle.ax_prog.specs.declared.Expr.TheVariants as e
use Rattle.ax_prog.specs.declared.Sets.{Sets}
use Rattle.ax_prog.specs.declared.Slot.{Slot}
use Rattle.ax_prog.specs.declared.SlotId.{SlotId}
use Rattle.ax_prog.specs.declared.Program.{Program}
use Rattle.ax_prog.specs.Candidates.{candidates_of}
use Rattle.ax_prog.proofs.Trees.{expr-cases, expr-induction, operands-Atom, operands-Un, operands-Bin, operands-Cond}
use Rattle.ax_prog.specs.Nodes.{operands}
use Rattle.ax_space_trees.specs.declared.Label.{Label}
use Rattle.ax_space_trees.specs.declared.Label.TheVariants as label
use Rattle.ax_space_trees.specs.Positions.{top, nth, operand, at_position, label_at}
use Rattle.ax_space_trees.specs.Space.{InSpace}
use Rattle.ax_space_trees.proofs.Tops.{top-Atom}
use Rattle.ax_space.specs.Sets.{IsAllowed}
use Rattle.ax_space.specs.Sets as allowed
use Rattle.ax_space.specs.Chosen.{with_slot, slots_of}
use Rattle.ax_space.specs.Patches.{AreTrees}
use Rattle.ax_space.proofs.Costs.{at-label, plainly}
use Rattle.ax_space.proofs.Patching.{candidate-slot}
use Rattle.ax_front_facts.specs.Writable.{IsNumber, IsWritable}
use Rattle.ax_repair_laws.proofs.Layers.{IsWritable-Un, IsWritable-Bin, IsWritable-Cond}

-- a label that a token has
abbrev LabelWritable : Label → Type 0
LabelWritable (label.Num n) = IsNumber n
LabelWritable (label.Atom a) = Unit {0}
LabelWritable (label.Un op) = Unit {0}
LabelWritable (label.Bin op) = Unit {0}
LabelWritable label.Cond = Unit {0}

some-same : {X : Type 0} {x y : X} → ◌≡◌ {A = Option X} (Some x) (Some y) → x ≡ y
some-same h = cc

none-some : {X : Type 0} {x : X} → ◌≡◌ {A = Option X} None (Some x) → ⊥
none-some h = cc

allowed-writable : (sets : Sets) (slot : Slot) (l : Label) → IsAllowed sets slot l → LabelWritable l
allowed-writable sets slot _ (allowed.unary h) = tt
allowed-writable sets slot _ (allowed.binary h) = tt
allowed-writable sets slot _ (allowed.atom h is) = tt
allowed-writable sets slot _ (allowed.number {n = n} h le) = (n, refl, le)

-- ---- the labels of a tree that can be written

root-writable : (t : Expr) → IsWritable t → LabelWritable (top t)
root-writable =
    expr-cases (λ t. IsWritable t → LabelWritable (top t))
    (λ n h. h)
    (λ a h. rw (top-Atom a) tt)
    (λ op a h. tt)
    (λ op a b h. tt)
    (λ f a b h. tt)

-- each operand of a tree that can be written can be
child-writable : (t : Expr) → IsWritable t → (j : ℕ) (x : Expr) → nth (operands t) j ≡ Some x → IsWritable x
child-writable =
    expr-cases (λ t. IsWritable t → (j : ℕ) (x : Expr) → nth (operands t) j ≡ Some x → IsWritable x)
    (λ n h j x e. none-of j x e)
    (λ a h j x e. none-of j x (rw (operands-Atom a) at e))
    (λ op a h j x e. one-of a (rw (IsWritable-Un op a) at h) j x (rw (operands-Un op a) at e))
    (λ op a b h j x e. (let both = rw (IsWritable-Bin op a b) at h in two-of a b both.0 both.1 j x (rw (operands-Bin op a b) at e)))
    (λ f a b h j x e. (let all = rw (IsWritable-Cond f a b) at h in three-of f a b all.0 all.1 all.2 j x (rw (operands-Cond f a b) at e)))
  where
    none-of : (j : ℕ) (x : Expr) → nth [] j ≡ Some x → IsWritable x
    none-of zero x e = absurd (none-some e)
    none-of (suc j) x e = absurd (none-some e)

    one-of : (a : Expr) → IsWritable a → (j : ℕ) (x : Expr) → nth (a ∷ []) j ≡ Some x → IsWritable x
    one-of a p zero x e = absurd (none-some e)
    one-of a p (suc zero) x e = subst IsWritable (some-same e) p
    one-of a p (suc (suc j)) x e = absurd (none-some e)

    two-of : (a b : Expr) → IsWritable a → IsWritable b → (j : ℕ) (x : Expr) → nth (a ∷ b ∷ []) j ≡ Some x → IsWritable x
    two-of a b p q zero x e = absurd (none-some e)
    two-of a b p q (suc zero) x e = subst IsWritable (some-same e) p
    two-of a b p q (suc (suc zero)) x e = subst IsWritable (some-same e) q
    two-of a b p q (suc (suc (suc j))) x e = absurd (none-some e)

    three-of : (f a b : Expr) → IsWritable f → IsWritable a → IsWritable b → (j : ℕ) (x : Expr) → nth (f ∷ a ∷ b ∷ []) j ≡ Some x → IsWritable x
    three-of f a b o p q zero x e = absurd (none-some e)
    three-of f a b o p q (suc zero) x e = subst IsWritable (some-same e) o
    three-of f a b o p q (suc (suc zero)) x e = subst IsWritable (some-same e) p
    three-of f a b o p q (suc (suc (suc zero))) x e = subst IsWritable (some-same e) q
    three-of f a b o p q (suc (suc (suc (suc j)))) x e = absurd (none-some e)

operand-writable : (o : Option Expr) → ((t : Expr) → o ≡ Some t → IsWritable t) → (j : ℕ) (x : Expr) → operand o j ≡ Some x → IsWritable x
operand-writable None f j x h = absurd (none-some h)
operand-writable (Some t) f j x h = child-writable t (f t refl) j x h

part-writable : (w : List ℕ) (o : Option Expr) → ((t : Expr) → o ≡ Some t → IsWritable t) → (t : Expr) → at_position w o ≡ Some t → IsWritable t
part-writable [] o f t h = f t h
part-writable (j ∷ w) o f t h = part-writable w (operand o j) (operand-writable o f j) t h

old-writable : (old : Expr) → IsWritable old → (w : List ℕ) (l : Label) → label_at w (Some old) ≡ Some l → LabelWritable l
old-writable old h w l is =
    let t = at-label w old l is in
    subst LabelWritable t.2 (root-writable t.0 (part-writable w (Some old) (λ u e. subst IsWritable (some-same e) h) t.0 t.1))

abbrev EachWritable : Expr → Type 0
EachWritable tree = (w : List ℕ) (t : Expr) → at_position w (Some tree) ≡ Some t → LabelWritable (top t)

whole-writable : (tree : Expr) → EachWritable tree → IsWritable tree
whole-writable =
    expr-induction (λ t. EachWritable t → IsWritable t)
    (λ n f. f [] (e.Num n) refl)
    (λ a f. tt)
    (λ op a ih f. rw (IsWritable-Un op a) (ih (λ w t h. f (1 ∷ w) t (rw (operands-Un op a) h))))
    (λ op a b ih jh f. rw (IsWritable-Bin op a b) (ih (λ w t h. f (1 ∷ w) t (rw (operands-Bin op a b) h)), jh (λ w t h. f (2 ∷ w) t (rw (operands-Bin op a b) h))))
    (λ x a b ih jh kh f. rw (IsWritable-Cond x a b) (ih (λ w t h. f (1 ∷ w) t (rw (operands-Cond x a b) h)), jh (λ w t h. f (2 ∷ w) t (rw (operands-Cond x a b) h)), kh (λ w t h. f (3 ∷ w) t (rw (operands-Cond x a b) h))))

space-writable : (sets : Sets) (grow : ℕ) (slot : Slot) (tree : Expr) → IsWritable slot.expr → InSpace (IsAllowed sets slot) grow slot.expr tree → IsWritable tree
space-writable sets grow slot tree h s = whole-writable tree
    (λ w t is. elim (s w t is).1 as (λ _. LabelWritable (top t)) [ inl q ↦ old-writable slot.expr h w (top t) q | inr a ↦ allowed-writable sets slot (top t) a ])

own-writable : (slots : List Slot) → All (λ slot. IsWritable slot.expr) slots → (i : ℕ) (slot : Slot) → slice_get slots i ≡ Some slot → IsWritable slot.expr
own-writable slots all i slot e =
    All-contains (λ (slot : Slot). IsWritable slot.expr) slots slot all (i, slice_get_within slots i slot e, get_or_from_slice_get slots i slot slot e)

pub trees-writable : (program : Program) (sets : Sets) (grow : ℕ) → sets.guard ≡ false → All (λ slot. IsWritable slot.expr) program.slots → (ids : List SlotId) (trees : List Expr) → All (Contains (candidates_of program)) ids → AreTrees sets grow (slots_of program ids) trees → All IsWritable trees
trees-writable program sets grow off all [] [] chosen h = All-nil IsWritable
trees-writable program sets grow off all [] (tree ∷ trees) chosen h = absurd h
trees-writable program sets grow off all (id ∷ ids) [] chosen h = All-nil IsWritable
trees-writable program sets grow off all (id ∷ ids) (tree ∷ trees) chosen h =
    let s = candidate-slot program id (All-head (Contains (candidates_of program)) id ids chosen) in
    let peeled : AreTrees sets grow (s.0 ∷ slots_of program ids) (tree ∷ trees) = subst (λ (o : Option Slot). AreTrees sets grow (with_slot o (slots_of program ids)) (tree ∷ trees)) s.1 h in
    All-cons IsWritable tree trees
    (space-writable sets grow s.0 tree (own-writable program.slots all id.0 s.0 s.1) (plainly off (peeled.0).1).0)
    (trees-writable program sets grow off all ids trees (All-tail (Contains (candidates_of program)) id ids chosen) peeled.1)
