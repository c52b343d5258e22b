-- Small programs, as trees, for the worked examples.
use Rattle.std.specs.Prelude.{ℕ, pos, List, [], ◌∷◌, Some, None}
use Rattle.ax_prog.specs.declared.Ty.{Ty}
use Rattle.ax_prog.specs.declared.Ty.TheVariants as ty
use Rattle.ax_prog.specs.declared.Bin.TheVariants as bin
use Rattle.ax_prog.specs.declared.Expr.{Expr}
use Rattle.ax_prog.specs.declared.Expr.TheVariants as e
use Rattle.ax_prog.specs.declared.Atom.TheVariants as atom
use Rattle.ax_prog.specs.declared.Lval.{Lval}
use Rattle.ax_prog.specs.declared.Lval.TheVariants as lval
use Rattle.ax_prog.specs.declared.Pexpr.TheVariants as p
use Rattle.ax_prog.specs.declared.Value.TheVariants as value
use Rattle.ax_prog.specs.declared.Arg.TheVariants as arg
use Rattle.ax_prog.specs.declared.SlotId.{SlotId}
use Rattle.ax_prog.specs.declared.VarId.{VarId}
use Rattle.ax_prog.specs.declared.FunId.{FunId}
use Rattle.ax_prog.specs.declared.Init.TheVariants as init
use Rattle.ax_prog.specs.declared.Stmt.{Stmt}
use Rattle.ax_prog.specs.declared.Stmt.TheVariants as s
use Rattle.ax_prog.specs.declared.Fun.{Fun}
use Rattle.ax_prog.specs.declared.Slot.{Slot}
use Rattle.ax_prog.specs.declared.Var.{Var}
use Rattle.ax_prog.specs.declared.Program.{Program}

abbrev pub slot : ℕ → SlotId
slot n = record { 0 = n }

abbrev pub var : ℕ → VarId
var n = record { 0 = n }

abbrev pub fun : ℕ → FunId
fun n = record { 0 = n }

abbrev pub place : ℕ → Lval
place v = lval.Var (var v)

abbrev pub reads : ℕ → Expr
reads v = e.Atom (atom.Read (place v))

abbrev pub slot_of : Expr → Slot
slot_of tree = record { span = record { from = 0; to = 0 }; expr = tree; scope = []; atoms = [] }

abbrev pub var_of : Ty → Var
var_of t = record { name = []; ty = t }

abbrev pub declares : ℕ → Stmt
declares v = s.Decl (var v) init.Nothing

abbrev pub sets : ℕ → ℕ → Stmt
sets v id = s.Assign (place v) (value.Int (slot id))

abbrev pub returns : ℕ → Stmt
returns id = s.Return (Some (value.Int (slot id)))

abbrev pub main_of : List Stmt → Fun
main_of body = record { name = []; params = []; result = Some ty.Int; body = body }

-- `int main() { int x; int y; scanf("%d", &x); scanf("%d", &y); if (x < y) printf("%d", 1); else printf("%d", 0); return 0; }`
abbrev pub p1 : Program
p1 = record {
  structs = [];
  vars = var_of ty.Int ∷ var_of ty.Int ∷ [];
  globals = [];
  funs = main_of
      (declares 0 ∷ declares 1 ∷ s.Read (place 0) ∷ s.Read (place 1) ∷
      s.If (slot 0) (s.Print (slot 1)) (Some (s.Print (slot 2))) ∷ returns 3 ∷ []) ∷ [];
  main = fun 0;
  slots = slot_of (e.Bin bin.Lt (reads 0) (reads 1)) ∷ slot_of (e.Num (pos 1)) ∷ slot_of (e.Num (pos 0)) ∷ slot_of (e.Num (pos 0)) ∷ [];
}

-- `int main() { int n; int i; int s; scanf("%d", &n); i = 0; s = 0; while (CONDITION) { s = s + i; i = i + 1; } printf("%d", s); return 0; }`
abbrev pub p2_with : Expr → Program
p2_with condition = record {
  structs = [];
  vars = var_of ty.Int ∷ var_of ty.Int ∷ var_of ty.Int ∷ [];
  globals = [];
  funs = main_of
      (declares 0 ∷ declares 1 ∷ declares 2 ∷ s.Read (place 0) ∷ sets 1 0 ∷ sets 2 1 ∷
      s.While (slot 2) (s.Block (sets 2 3 ∷ sets 1 4 ∷ [])) ∷ s.Print (slot 5) ∷ returns 6 ∷ []) ∷ [];
  main = fun 0;
  slots =
      slot_of (e.Num (pos 0)) ∷ slot_of (e.Num (pos 0)) ∷ slot_of condition ∷ slot_of (e.Bin bin.Add (reads 2) (reads 1)) ∷
      slot_of (e.Bin bin.Add (reads 1) (e.Num (pos 1))) ∷ slot_of (reads 2) ∷ slot_of (e.Num (pos 0)) ∷ [];
}

-- `i < n`
abbrev pub p2 : Program
p2 = p2_with (e.Bin bin.Lt (reads 1) (reads 0))

-- `i <= n`
abbrev pub p2_repaired : Program
p2_repaired = p2_with (e.Bin bin.Le (reads 1) (reads 0))

-- `int a[3] = {5, 6, 7}; int main() { int i; scanf("%d", &i); if (i < 3) i = i + 1; printf("%d", a[i]); return 0; }`
abbrev pub p3 : Program
p3 = record {
  structs = [];
  vars = var_of (ty.Array ty.Int 3) ∷ var_of ty.Int ∷ [];
  globals = (var 0, init.List (pos 5 ∷ pos 6 ∷ pos 7 ∷ [])) ∷ [];
  funs = main_of (declares 1 ∷ s.Read (place 1) ∷ s.If (slot 0) (sets 1 1) None ∷ s.Print (slot 2) ∷ returns 3 ∷ []) ∷ [];
  main = fun 0;
  slots =
      slot_of (e.Bin bin.Lt (reads 1) (e.Num (pos 3))) ∷ slot_of (e.Bin bin.Add (reads 1) (e.Num (pos 1))) ∷
      slot_of (e.Atom (atom.Read (lval.Deref (p.Plus (p.Decay (place 0)) (reads 1))))) ∷ slot_of (e.Num (pos 0)) ∷ [];
}

abbrev pub p_not_null : Expr
p_not_null = e.Atom (atom.Differ (p.Read (place 2)) p.Null)

abbrev pub p_positive : Expr
p_positive = e.Bin bin.Gt (e.Atom (atom.Read (lval.Deref (p.Read (place 2))))) (e.Num (pos 0))

-- `int main() { int x; int k; int *p; scanf("%d", &x); scanf("%d", &k); p = 0; if (k > 0) p = &x; if (CONDITION) printf("%d", 1); else printf("%d", 0); return 0; }`
abbrev pub p4_with : Expr → Program
p4_with condition = record {
  structs = [];
  vars = var_of ty.Int ∷ var_of ty.Int ∷ var_of (ty.Ptr ty.Int) ∷ [];
  globals = [];
  funs = main_of
      (declares 0 ∷ declares 1 ∷ declares 2 ∷ s.Read (place 0) ∷ s.Read (place 1) ∷ s.Assign (place 2) (value.Ptr p.Null) ∷
      s.If (slot 0) (s.Assign (place 2) (value.Ptr (p.Address (place 0)))) None ∷
      s.If (slot 1) (s.Print (slot 2)) (Some (s.Print (slot 3))) ∷ returns 4 ∷ []) ∷ [];
  main = fun 0;
  slots =
      slot_of (e.Bin bin.Gt (reads 1) (e.Num (pos 0))) ∷ slot_of condition ∷ slot_of (e.Num (pos 1)) ∷ slot_of (e.Num (pos 0)) ∷
      slot_of (e.Num (pos 0)) ∷ [];
}

-- `p != 0 && *p > 0`
abbrev pub p4 : Program
p4 = p4_with (e.Bin bin.And p_not_null p_positive)

-- `*p > 0 && p != 0`
abbrev pub p4_turned : Program
p4_turned = p4_with (e.Bin bin.And p_positive p_not_null)

-- `int a[3] = {5, 6}; int *q; int f(int x) { if (x < 1) return 0; int y = f(x - 1); return y; } int main() { int i; i = f(2); while (1) { int t; i = i + 1; if (i < 2) continue; break; } printf("%d", a[1]); }`
abbrev pub calls_program : Program
calls_program = record {
  structs = [];
  vars = var_of (ty.Array ty.Int 3) ∷ var_of (ty.Ptr ty.Int) ∷ var_of ty.Int ∷ var_of ty.Int ∷ var_of ty.Int ∷ var_of ty.Int ∷ [];
  globals = (var 0, init.List (pos 5 ∷ pos 6 ∷ [])) ∷ (var 1, init.Nothing) ∷ [];
  funs =
      (record {
        name = [];
        params = var 2 ∷ [];
        result = Some ty.Int;
        body =
            s.If (slot 0) (returns 1) None ∷ s.Decl (var 3) (init.Value (value.Call (fun 0) (arg.Int (slot 2) ∷ []))) ∷ returns 3 ∷ [];
      }) ∷
      main_of
      (declares 4 ∷ s.Assign (place 4) (value.Call (fun 0) (arg.Int (slot 4) ∷ [])) ∷
      s.While (slot 5) (s.Block (declares 5 ∷ sets 4 6 ∷ s.If (slot 7) s.Continue None ∷ s.Break ∷ [])) ∷ s.Print (slot 8) ∷ []) ∷ [];
  main = fun 1;
  slots =
      slot_of (e.Bin bin.Lt (reads 2) (e.Num (pos 1))) ∷ slot_of (e.Num (pos 0)) ∷ slot_of (e.Bin bin.Sub (reads 2) (e.Num (pos 1))) ∷
      slot_of (reads 3) ∷ slot_of (e.Num (pos 2)) ∷ slot_of (e.Num (pos 1)) ∷ slot_of (e.Bin bin.Add (reads 4) (e.Num (pos 1))) ∷
      slot_of (e.Bin bin.Lt (reads 4) (e.Num (pos 2))) ∷
      slot_of (e.Atom (atom.Read (lval.Deref (p.Plus (p.Decay (place 0)) (e.Num (pos 1)))))) ∷ [];
}
