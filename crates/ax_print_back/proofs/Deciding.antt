-- The tests of trees, at each kind of tree, and what they decide.
use Rattle.std.proofs.Common.{◌≡◌, ℕ, ℤ, pos, negsuc, Bool, true, ◌&&◌, refl, sym, ◌∙◌, arith}
use Rattle.std.specs.Prelude.{IsTrue, ◌↔◌}
use Rattle.std.specs.Bool.{Decides}
use Rattle.std.proofs.lemmas.Bool.{false≢true, leb-true, le-leb}
use Rattle.std.proofs.lemmas.Bool.Decides.{Decides-and}
use Rattle.ax_prog.specs.declared.Un.{Un}
use Rattle.ax_prog.specs.declared.Bin.{Bin}
use Rattle.ax_prog.specs.declared.Atom.{Atom}
use Rattle.ax_prog.specs.declared.Expr.{Expr, Num, Atom', Un', Bin', Cond'}
use Rattle.ax_prog.specs.declared.Expr.TheVariants as e
use Rattle.ax_prog.specs.declared.Atom.TheBlock.{more_of-Expr, end_of-Expr, shape-the_row-Expr-1, hidden-the_row-Expr-1}
use Rattle.ax_front_facts.specs.Writable.{IsNumber, IsWritable}
use Rattle.ax_print_back.specs.Deciding.{number_test, writable_test}
use denote.Hole.Carrier

pub writable_test-Num : (n : ℤ) → writable_test (e.Num n) ≡ number_test n
writable_test-Num n = refl

pub writable_test-Atom : (a : Atom) → writable_test (e.Atom a) ≡ true
writable_test-Atom a = refl

pub writable_test-Un : (op : Un) (a : Expr) → writable_test (e.Un op a) ≡ writable_test a
unfolding shape-the_row-Expr-1 hidden-the_row-Expr-1 Carrier.hidden
writable_test-Un op a = refl

pub writable_test-Bin : (op : Bin) (a b : Expr) → writable_test (e.Bin op a b) ≡ (writable_test a && writable_test b)
unfolding shape-the_row-Expr-1 hidden-the_row-Expr-1 Carrier.hidden
writable_test-Bin op a b = refl

pub writable_test-Cond : (f a b : Expr) → writable_test (e.Cond f a b) ≡ (writable_test f && (writable_test a && writable_test b))
unfolding shape-the_row-Expr-1 hidden-the_row-Expr-1 Carrier.hidden
writable_test-Cond f a b = refl

pub ruleset test_layers = (writable_test-Num, writable_test-Atom, writable_test-Un, writable_test-Bin, writable_test-Cond)

-- ---- what the tests decide

pos_same : (m n : ℕ) → pos m ≡ pos n → m ≡ n
pos_same m n h = cc

decides_number : (n : ℤ) → Decides (number_test n) (IsNumber n)
decides_number (pos n) = ((λ h. (n, refl, leb-true n 2147483647 h)), (λ p. let same : n ≡ p.0 = pos_same n p.0 p.1 in le-leb n 2147483647 (omega (arith, same, p.2))))
decides_number (negsuc n) = ((λ h. absurd (false≢true h)), (λ p. let e : negsuc n ≡ pos p.0 = p.1 in cc))

pub decides_writable : (tree : Expr) → Decides (writable_test tree) (IsWritable tree)
decides_writable (Num n) = decides_number n
decides_writable (Atom' s row) = ((λ h. tt), (λ h. refl))
decides_writable (Un' op s (more_of-Expr a end_of-Expr)) = decides_writable a
decides_writable (Bin' op s (more_of-Expr a end_of-Expr) t (more_of-Expr b end_of-Expr)) =
    Decides-and (writable_test a) (writable_test b) (decides_writable a) (decides_writable b)
decides_writable (Cond' s (more_of-Expr f end_of-Expr) t (more_of-Expr a end_of-Expr) u (more_of-Expr b end_of-Expr)) =
    let p = Decides-and (writable_test f) (writable_test a && writable_test b) (decides_writable f) (Decides-and (writable_test a) (writable_test b) (decides_writable a) (decides_writable b)) in
    ((λ h. let q = p.0 h in (q.0, (q.1).0, (q.1).1)), (λ h. p.1 (h.0, (h.1, h.2))))

-- what a test that is so answered says
pub told : (r t : Bool) (P : Type 0) → r ≡ t → Decides t P → IsTrue r ↔ P
told r t P is d = ((λ h. d.0 (sym is ∙ h)), (λ p. is ∙ d.1 p))
