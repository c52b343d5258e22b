-- A tree made by a constructor's plain word hides its operands; these equations show what each definition gives there.
use Rattle.std.proofs.Common.{◌≡◌, ℕ, ◌+◌, ℤ, refl, List, [], ◌∷◌}
use Rattle.ax_prog.specs.declared.Un.{Un}
use Rattle.ax_prog.specs.declared.Bin.{Bin}
use Rattle.ax_prog.specs.declared.Atom.{Atom}
use Rattle.ax_prog.specs.declared.Slot.{Slot}
use Rattle.ax_prog.specs.declared.Expr.{Expr, Num, Atom', Un', Bin', Cond'}
use Rattle.ax_prog.specs.declared.Expr.TheVariants as e
use Rattle.ax_prog.specs.declared.Atom.TheBlock.{more_of-Expr, end_of-Expr, more_of-Atom, end_of-Atom, shape-the_row-Atom-0, hidden-the_row-Atom-0, shape-the_row-Expr-1, hidden-the_row-Expr-1}
use Rattle.ax_prog.specs.Nodes.{nodes, operands}
use Rattle.ax_prog.specs.Substitution.{FitsSlot, IsAtomOf, IsLiteral}
use denote.Hole.Carrier

-- a fact holds of every tree where it holds of each kind of tree
pub expr-cases : (P : Expr → Type 0) → ((n : ℤ) → P (e.Num n)) → ((a : Atom) → P (e.Atom a)) → ((op : Un) (a : Expr) → P (e.Un op a)) → ((op : Bin) (a b : Expr) → P (e.Bin op a b)) → ((f a b : Expr) → P (e.Cond f a b)) → (t : Expr) → P t
unfolding shape-the_row-Atom-0 hidden-the_row-Atom-0 shape-the_row-Expr-1 hidden-the_row-Expr-1 Carrier.hidden
expr-cases P pn pa pu pb pc (Num n) = pn n
expr-cases P pn pa pu pb pc (Atom' s (more_of-Atom a end_of-Atom)) = pa a
expr-cases P pn pa pu pb pc (Un' op s (more_of-Expr a end_of-Expr)) = pu op a
expr-cases P pn pa pu pb pc (Bin' op s (more_of-Expr a end_of-Expr) t (more_of-Expr b end_of-Expr)) = pb op a b
expr-cases P pn pa pu pb pc (Cond' s (more_of-Expr f end_of-Expr) t (more_of-Expr a end_of-Expr) u (more_of-Expr b end_of-Expr)) = pc f a b

-- the same, where the fact may be used of the operands
pub expr-induction : (P : Expr → Type 0) → ((n : ℤ) → P (e.Num n)) → ((a : Atom) → P (e.Atom a)) → ((op : Un) (a : Expr) → P a → P (e.Un op a)) → ((op : Bin) (a b : Expr) → P a → P b → P (e.Bin op a b)) → ((f a b : Expr) → P f → P a → P b → P (e.Cond f a b)) → (t : Expr) → P t
unfolding shape-the_row-Atom-0 hidden-the_row-Atom-0 shape-the_row-Expr-1 hidden-the_row-Expr-1 Carrier.hidden
expr-induction P pn pa pu pb pc (Num n) = pn n
expr-induction P pn pa pu pb pc (Atom' s (more_of-Atom a end_of-Atom)) = pa a
expr-induction P pn pa pu pb pc (Un' op s (more_of-Expr a end_of-Expr)) = pu op a (expr-induction P pn pa pu pb pc a)
expr-induction P pn pa pu pb pc (Bin' op s (more_of-Expr a end_of-Expr) t (more_of-Expr b end_of-Expr)) =
    pb op a b (expr-induction P pn pa pu pb pc a) (expr-induction P pn pa pu pb pc b)
expr-induction P pn pa pu pb pc (Cond' s (more_of-Expr f end_of-Expr) t (more_of-Expr a end_of-Expr) u (more_of-Expr b end_of-Expr)) =
    pc f a b (expr-induction P pn pa pu pb pc f) (expr-induction P pn pa pu pb pc a) (expr-induction P pn pa pu pb pc b)

pub nodes-Num : (n : ℤ) → nodes (e.Num n) ≡ 1
nodes-Num n = refl

pub nodes-Atom : (a : Atom) → nodes (e.Atom a) ≡ 1
unfolding shape-the_row-Atom-0 hidden-the_row-Atom-0 shape-the_row-Expr-1 hidden-the_row-Expr-1 Carrier.hidden
nodes-Atom a = refl

pub nodes-Un : (op : Un) (a : Expr) → nodes (e.Un op a) ≡ nodes a + 1
unfolding shape-the_row-Atom-0 hidden-the_row-Atom-0 shape-the_row-Expr-1 hidden-the_row-Expr-1 Carrier.hidden
nodes-Un op a = refl

pub nodes-Bin : (op : Bin) (a b : Expr) → nodes (e.Bin op a b) ≡ nodes a + nodes b + 1
unfolding shape-the_row-Atom-0 hidden-the_row-Atom-0 shape-the_row-Expr-1 hidden-the_row-Expr-1 Carrier.hidden
nodes-Bin op a b = refl

pub nodes-Cond : (f a b : Expr) → nodes (e.Cond f a b) ≡ nodes f + nodes a + nodes b + 1
unfolding shape-the_row-Atom-0 hidden-the_row-Atom-0 shape-the_row-Expr-1 hidden-the_row-Expr-1 Carrier.hidden
nodes-Cond f a b = refl

pub operands-Num : (n : ℤ) → operands (e.Num n) ≡ []
operands-Num n = refl

pub operands-Atom : (a : Atom) → operands (e.Atom a) ≡ []
unfolding shape-the_row-Atom-0 hidden-the_row-Atom-0 shape-the_row-Expr-1 hidden-the_row-Expr-1 Carrier.hidden
operands-Atom a = refl

pub operands-Un : (op : Un) (a : Expr) → operands (e.Un op a) ≡ a ∷ []
unfolding shape-the_row-Atom-0 hidden-the_row-Atom-0 shape-the_row-Expr-1 hidden-the_row-Expr-1 Carrier.hidden
operands-Un op a = refl

pub operands-Bin : (op : Bin) (a b : Expr) → operands (e.Bin op a b) ≡ a ∷ b ∷ []
unfolding shape-the_row-Atom-0 hidden-the_row-Atom-0 shape-the_row-Expr-1 hidden-the_row-Expr-1 Carrier.hidden
operands-Bin op a b = refl

pub operands-Cond : (f a b : Expr) → operands (e.Cond f a b) ≡ f ∷ a ∷ b ∷ []
unfolding shape-the_row-Atom-0 hidden-the_row-Atom-0 shape-the_row-Expr-1 hidden-the_row-Expr-1 Carrier.hidden
operands-Cond f a b = refl

pub ruleset node_layers = (nodes-Num, nodes-Atom, nodes-Un, nodes-Bin, nodes-Cond)

pub ruleset operand_layers = (operands-Num, operands-Atom, operands-Un, operands-Bin, operands-Cond)

pub FitsSlot-Num : (slot : Slot) (n : ℤ) → FitsSlot slot (e.Num n) ≡ IsLiteral n
FitsSlot-Num slot n = refl

pub FitsSlot-Atom : (slot : Slot) (a : Atom) → FitsSlot slot (e.Atom a) ≡ IsAtomOf slot a
unfolding shape-the_row-Atom-0 hidden-the_row-Atom-0 shape-the_row-Expr-1 hidden-the_row-Expr-1 Carrier.hidden
FitsSlot-Atom slot a = refl

pub FitsSlot-Un : (slot : Slot) (op : Un) (a : Expr) → FitsSlot slot (e.Un op a) ≡ FitsSlot slot a
unfolding shape-the_row-Atom-0 hidden-the_row-Atom-0 shape-the_row-Expr-1 hidden-the_row-Expr-1 Carrier.hidden
FitsSlot-Un slot op a = refl

pub FitsSlot-Bin : (slot : Slot) (op : Bin) (a b : Expr) → FitsSlot slot (e.Bin op a b) ≡ (FitsSlot slot a × FitsSlot slot b)
unfolding shape-the_row-Atom-0 hidden-the_row-Atom-0 shape-the_row-Expr-1 hidden-the_row-Expr-1 Carrier.hidden
FitsSlot-Bin slot op a b = refl

pub FitsSlot-Cond : (slot : Slot) (f a b : Expr) → FitsSlot slot (e.Cond f a b) ≡ (FitsSlot slot f × FitsSlot slot a × FitsSlot slot b)
unfolding shape-the_row-Atom-0 hidden-the_row-Atom-0 shape-the_row-Expr-1 hidden-the_row-Expr-1 Carrier.hidden
FitsSlot-Cond slot f a b = refl

pub ruleset fitting_layers = (FitsSlot-Num, FitsSlot-Atom, FitsSlot-Un, FitsSlot-Bin, FitsSlot-Cond)
