-- The worked examples, computed by the definitions.
use Rattle.std.proofs.Common.{◌≡◌, ℕ, ◌+◌, false, List, [], ◌∷◌, Some, None, Ok, Err, refl}
use Rattle.std.specs.Prelude.{pos, codes}
use Rattle.ax_prog.specs.declared.Span.{Span}
use Rattle.ax_prog.specs.declared.Ty.TheVariants as ty
use Rattle.ax_prog.specs.declared.Ty.TheBlock as types
use Rattle.ax_prog.specs.declared.Ty.{Ty}
use Rattle.ax_prog.specs.declared.VarId.{VarId}
use Rattle.ax_prog.specs.declared.SlotId.{SlotId}
use Rattle.ax_prog.specs.declared.Var.{Var}
use Rattle.ax_prog.specs.declared.Init.TheVariants as init
use Rattle.ax_prog.specs.declared.Atom.TheVariants as atom
use Rattle.ax_prog.specs.declared.Lval.TheVariants as lval
use Rattle.ax_prog.specs.declared.Expr.TheVariants as e
use Rattle.ax_prog.specs.declared.Value.TheVariants as value
use Rattle.ax_prog.specs.declared.Stmt as ps
use Rattle.ax_prog.specs.declared.Stmt.TheVariants as to
use Rattle.ax_prog.specs.declared.Slot.{Slot}
use Rattle.ax_prog.specs.declared.Fun.{Fun}
use Rattle.ax_prog.specs.declared.Program.{Program}
use Rattle.ax_parse_grammar.specs.declared.tree.Name.{Name}
use Rattle.ax_parse_grammar.specs.declared.tree.Base.TheVariants as b
use Rattle.ax_parse_grammar.specs.declared.tree.Returns.TheVariants as returns
use Rattle.ax_prog.specs.declared.Arg.TheVariants as arg
use Rattle.ax_parse_grammar.specs.declared.tree.Param.{Param}
use Rattle.ax_parse_grammar.specs.declared.tree.Expr.{Expr}
use Rattle.ax_parse_grammar.specs.declared.tree.Expr.TheBlock as exprs
use Rattle.ax_parse_grammar.specs.declared.tree.Simple.TheVariants as act
use Rattle.ax_parse_grammar.specs.declared.tree.Opening.TheVariants as opening
use Rattle.ax_parse_grammar.specs.declared.tree.Stmt.TheBlock as stmts
use Rattle.ax_parse_grammar.specs.declared.tree.Head.{Head}
use Rattle.ax_parse_grammar.specs.declared.tree.Declared.{Declared}
use Rattle.ax_parse_grammar.specs.declared.tree.Decl.{Decl}
use Rattle.ax_parse_grammar.specs.declared.tree.Initialiser.{Initialiser}
use Rattle.ax_parse_grammar.specs.declared.tree.Initialiser.TheVariants as by
use Rattle.ax_parse_grammar.specs.declared.tree.Signed.{Signed}
use Rattle.ax_parse_grammar.specs.declared.tree.Size.{Size}
use Rattle.ax_parse_grammar.specs.declared.tree.Expr.TheVariants as x
use Rattle.ax_parse_grammar.specs.declared.tree.Stmt.{Stmt}
use Rattle.ax_parse_grammar.specs.declared.tree.Stmt.TheVariants as s
use Rattle.ax_parse_grammar.specs.declared.tree.Part.{Part}
use Rattle.ax_parse_grammar.specs.declared.tree.Part.TheVariants as part
use Rattle.ax_parse_grammar.specs.declared.tree.Tree.{Tree}
use Rattle.ax_names_types.specs.declared.TypeKind.TheVariants.{UnknownName, Redeclared, WrongType, WrongCount, NoMain, Misplaced}
use Rattle.ax_names_types.specs.Faults.{fault}
use Rattle.ax_names_rules.specs.Values.{fun_id}
use Rattle.ax_names_rules.specs.FileWalk.{program_of}
use denote.Hole.Carrier

abbrev at : ℕ → ℕ → Span
at i j = record { from = i; to = j }

abbrev tree : ℕ → List Part → Tree
tree n parts = record { span = at 0 n; parts = parts }

abbrev name : ℕ → ℕ → List ℕ → Name
name i j text = record { span = at i j; text = text }

-- `int NAME()` from byte i, with a name of n bytes
abbrev head : ℕ → ℕ → List ℕ → Head
head i n text = record { span = at i (i + 6 + n); returns = returns.Of (b.Int (at i (i + 3))); stars = 0; name = name (i + 4) (i + 4 + n) text; params = [] }

abbrev main : ℕ → List Stmt → Part
main i items = part.Function (at i (i + 24)) (head i 4 (codes "main")) items

-- `int x;` from byte i, with sizes and initialiser
abbrev var : ℕ → List Size → Initialiser → Decl
var i sizes start = record { span = at i (i + 6); base = b.Int (at i (i + 3)); items = record { span = at (i + 4) (i + 5); declarator = record { span = at (i + 4) (i + 5); stars = 0; name = name (i + 4) (i + 5) (codes "x"); sizes = sizes }; initialiser = start } ∷ [] }

abbrev returns_0 : ℕ → Stmt
returns_0 i = s.Return (at i (i + 9)) (Some (x.Number (at (i + 7) (i + 8)) (pos 0)))

-- the empty source
pub empty-has_no_main : program_of (tree 0 []) ≡ Err (fault NoMain (at 0 0))
empty-has_no_main = refl

-- `int main() { return y; }`
pub unknown_name : program_of (tree 24 (main 0 (s.Return (at 13 22) (Some (x.Name (at 20 21) (codes "y"))) ∷ []) ∷ [])) ≡ Err (fault UnknownName (at 20 21))
unknown_name = refl

-- `int main() { return 0; }`: one slot, the returned value
abbrev returned : Slot
returned = record { span = at 20 21; expr = e.Num (pos 0); scope = []; atoms = [] }

abbrev returning : Fun
returning = record { name = codes "main"; params = []; result = Some ty.Int; body = to.Return (Some (value.Int (record { 0 = 0 }))) ∷ [] }

abbrev returns_nought : Program
returns_nought = record { structs = []; vars = []; globals = []; funs = returning ∷ []; main = fun_id 0; slots = returned ∷ [] }

pub least_program : program_of (tree 24 (main 0 (returns_0 13 ∷ []) ∷ [])) ≡ Ok returns_nought
least_program = refl

-- `int main() { break; }`
pub misplaced : program_of (tree 21 (main 0 (s.Break (at 13 19) ∷ []) ∷ [])) ≡ Err (fault Misplaced (at 13 19))
misplaced = refl

-- `int x; int x; int main() { return 0; }`
pub redeclared : program_of (tree 38 (part.Decl (var 0 [] by.Nothing) ∷ part.Decl (var 7 [] by.Nothing) ∷ main 14 (returns_0 27 ∷ []) ∷ [])) ≡ Err (fault Redeclared (at 11 12))
redeclared = refl

-- `int f(); int main() { return 0; }`: no definition of `f`
pub prototype_alone : program_of (tree 33 (part.Prototype (at 0 8) (head 0 1 (codes "f")) ∷ main 9 (returns_0 22 ∷ []) ∷ [])) ≡ Err (fault UnknownName (at 4 5))
prototype_alone = refl

-- `int main() { int x[1] = {1, 2}; return 0; }`
abbrev number : ℕ → ℕ → Signed
number i n = record { span = at i (i + 1); negative = false; value = pos n }

abbrev size : Size
size = record { span = at 18 21; count = Some (pos 1) }

abbrev listed : Declared
listed = record { span = at 17 30; declarator = record { span = at 17 21; stars = 0; name = name 17 18 (codes "x"); sizes = size ∷ [] }; initialiser = by.List (at 24 30) (number 25 1 ∷ number 28 2 ∷ []) }

abbrev too_long : Decl
too_long = record { span = at 13 31; base = b.Int (at 13 16); items = listed ∷ [] }

pub list_too_long : program_of (tree 43 (main 0 (s.Decl too_long ∷ returns_0 32 ∷ []) ∷ [])) ≡ Err (fault WrongCount (at 17 21))
unfolding types.shape-the_row-Ty-0 types.hidden-the_row-Ty-0 Carrier.hidden
list_too_long = refl

-- ---- scopes

abbrev var_id : ℕ → VarId
var_id n = record { 0 = n }

abbrev slot_id : ℕ → SlotId
slot_id n = record { 0 = n }

abbrev main_of : List ps.Stmt → Fun
main_of body = record { name = codes "main"; params = []; result = Some ty.Int; body = body }

abbrev x_of : Ty → Var
x_of u = record { name = codes "x"; ty = u }

-- `int main() { int x; return x; }`: the slot sees `x`, and reads it
abbrev reading : Slot
reading = record { span = at 27 28; expr = e.Atom (atom.Read (lval.Var (var_id 0))); scope = var_id 0 ∷ []; atoms = (atom.Read (lval.Var (var_id 0)), at 27 28) ∷ [] }

abbrev reads_x : Program
reads_x = record { structs = []; vars = x_of ty.Int ∷ []; globals = []; funs = main_of (to.Decl (var_id 0) init.Nothing ∷ to.Return (Some (value.Int (slot_id 0))) ∷ []) ∷ []; main = fun_id 0; slots = reading ∷ [] }

pub x_is_seen : program_of (tree 31 (main 0 (s.Decl (var 13 [] by.Nothing) ∷ s.Return (at 20 29) (Some (x.Name (at 27 28) (codes "x"))) ∷ []) ∷ [])) ≡ Ok reads_x
x_is_seen = refl

-- `int x; int main() { int *x; return 0; }`: the pointer hides the `int`
abbrev pointer : Declared
pointer = record { span = at 24 26; declarator = record { span = at 24 26; stars = 1; name = name 25 26 (codes "x"); sizes = [] }; initialiser = by.Nothing }

abbrev pointers : Decl
pointers = record { span = at 20 27; base = b.Int (at 20 23); items = pointer ∷ [] }

abbrev unseeing : Slot
unseeing = record { span = at 35 36; expr = e.Num (pos 0); scope = []; atoms = [] }

abbrev hides_x : Program
hides_x = record { structs = []; vars = x_of ty.Int ∷ x_of (ty.Ptr ty.Int) ∷ []; globals = (var_id 0, init.Nothing) ∷ []; funs = main_of (to.Decl (var_id 1) init.Nothing ∷ to.Return (Some (value.Int (slot_id 0))) ∷ []) ∷ []; main = fun_id 0; slots = unseeing ∷ [] }

pub x_is_hidden : program_of (tree 39 (part.Decl (var 0 [] by.Nothing) ∷ main 7 (s.Decl pointers ∷ returns_0 28 ∷ []) ∷ [])) ≡ Ok hides_x
unfolding types.shape-the_row-Ty-0 types.hidden-the_row-Ty-0 Carrier.hidden
x_is_hidden = refl

-- ---- functions

-- `int f(int a) { return a; }`
abbrev param : Param
param = record { span = at 6 11; base = b.Int (at 6 9); stars = 0; name = Some (name 10 11 (codes "a")); sizes = [] }

abbrev f_head : Head
f_head = record { span = at 0 12; returns = returns.Of (b.Int (at 0 3)); stars = 0; name = name 4 5 (codes "f"); params = param ∷ [] }

abbrev f_part : Part
f_part = part.Function (at 0 26) f_head (s.Return (at 15 24) (Some (x.Name (at 22 23) (codes "a"))) ∷ [])

abbrev returns_call : ℕ → List Expr → Stmt
returns_call n args = s.Return (at 40 (48 + n)) (Some (x.Call (at 47 (47 + n)) (x.Name (at 47 48) (codes "f")) args))

-- `int f(int a) { return a; } int main() { return f(); }`
pub wrong_count : program_of (tree 53 (f_part ∷ main 27 (returns_call 3 [] ∷ []) ∷ [])) ≡ Err (fault WrongCount (at 47 50))
unfolding exprs.shape-the_row-Expr-0 exprs.hidden-the_row-Expr-0 exprs.shape-the_row-Expr-1 exprs.hidden-the_row-Expr-1 exprs.shown-the_row-Expr-1 Carrier.hidden Carrier.shown
wrong_count = refl

-- `int f(int a) { return a; } int main() { return f(1); }`
abbrev reading_a : Slot
reading_a = record { span = at 22 23; expr = e.Atom (atom.Read (lval.Var (var_id 0))); scope = var_id 0 ∷ []; atoms = (atom.Read (lval.Var (var_id 0)), at 22 23) ∷ [] }

abbrev one : Slot
one = record { span = at 49 50; expr = e.Num (pos 1); scope = []; atoms = [] }

abbrev f_fun : Fun
f_fun = record { name = codes "f"; params = var_id 0 ∷ []; result = Some ty.Int; body = to.Return (Some (value.Int (slot_id 0))) ∷ [] }

abbrev calls_f : Program
calls_f = record { structs = []; vars = record { name = codes "a"; ty = ty.Int } ∷ []; globals = []; funs = f_fun ∷ main_of (to.Return (Some (value.Call (fun_id 0) (arg.Int (slot_id 1) ∷ []))) ∷ []) ∷ []; main = fun_id 1; slots = reading_a ∷ one ∷ [] }

pub calling : program_of (tree 54 (f_part ∷ main 27 (returns_call 4 (x.Number (at 49 50) (pos 1) ∷ []) ∷ []) ∷ [])) ≡ Ok calls_f
unfolding exprs.shape-the_row-Expr-0 exprs.hidden-the_row-Expr-0 exprs.shape-the_row-Expr-1 exprs.hidden-the_row-Expr-1 exprs.shown-the_row-Expr-1 Carrier.hidden Carrier.shown
calling = refl

-- `void f() { return 1; }`
abbrev void_head : Head
void_head = record { span = at 0 8; returns = returns.Void (at 0 4); stars = 0; name = name 5 6 (codes "f"); params = [] }

pub value_from_void : program_of (tree 22 (part.Function (at 0 22) void_head (s.Return (at 11 20) (Some (x.Number (at 18 19) (pos 1))) ∷ []) ∷ [])) ≡ Err (fault WrongType (at 11 20))
value_from_void = refl

-- `int main(int a) { return 0; }`
abbrev main_param : Param
main_param = record { span = at 9 14; base = b.Int (at 9 12); stars = 0; name = Some (name 13 14 (codes "a")); sizes = [] }

abbrev main_head : Head
main_head = record { span = at 0 15; returns = returns.Of (b.Int (at 0 3)); stars = 0; name = name 4 8 (codes "main"); params = main_param ∷ [] }

pub no_main : program_of (tree 29 (part.Function (at 0 29) main_head (returns_0 18 ∷ []) ∷ [])) ≡ Err (fault NoMain (at 29 29))
no_main = refl

-- ---- loops

-- `int main() { int x; for (; ; x = 1) printf("%d", 2); return 0; }`: the slot of `x = 1` comes before that of what is printed
abbrev looping : Stmt
looping = s.For (at 20 52) opening.Nothing None (Some (act.Assign (at 29 34) (x.Name (at 29 30) (codes "x")) (x.Number (at 33 34) (pos 1)))) (s.Print (at 36 52) 0 (x.Number (at 49 50) (pos 2)))

abbrev number_at : ℕ → ℕ → Slot
number_at i n = record { span = at i (i + 1); expr = e.Num (pos n); scope = var_id 0 ∷ []; atoms = [] }

abbrev loop : ps.Stmt
loop = to.For [] None (Some (to.Assign (lval.Var (var_id 0)) (value.Int (slot_id 0)))) (to.Print (slot_id 1))

abbrev loops : Program
loops = record { structs = []; vars = x_of ty.Int ∷ []; globals = []; funs = main_of (to.Decl (var_id 0) init.Nothing ∷ loop ∷ to.Return (Some (value.Int (slot_id 2))) ∷ []) ∷ []; main = fun_id 0; slots = number_at 33 1 ∷ number_at 49 2 ∷ number_at 60 0 ∷ [] }

pub slots_in_order : program_of (tree 64 (main 0 (s.Decl (var 13 [] by.Nothing) ∷ looping ∷ returns_0 53 ∷ []) ∷ [])) ≡ Ok loops
unfolding stmts.shape-the_row-Stmt-0 stmts.hidden-the_row-Stmt-0 stmts.shape-the_row-Stmt-1 stmts.hidden-the_row-Stmt-1 Carrier.hidden
slots_in_order = refl
