-- Which rules declarations and statements break, and where.
--
-- What stands behind a part that breaks a rule isn't judged. It starts behind that part, and so can't have the first fault.
use Rattle.std.specs.Prelude.{◌≡◌, ℕ, ◌<◌, Bool, true, false, List, ◌∷◌, length, Option, Some, None}
use Rattle.ax_prog.specs.declared.Span.{Span}
use Rattle.ax_prog.specs.declared.Ty.{Ty}
use Rattle.ax_prog.specs.declared.Ty.TheVariants as ty
use Rattle.ax_prog.specs.declared.Bin.{Bin}
use Rattle.ax_prog.specs.declared.Bin.TheVariants as bin
use Rattle.ax_prog.specs.declared.SlotId.{SlotId}
use Rattle.ax_prog.specs.declared.Expr as ex
use Rattle.ax_prog.specs.declared.Atom.{Atom}
use Rattle.ax_prog.specs.declared.Lval.{Lval}
use Rattle.ax_prog.specs.declared.Init.{Init}
use Rattle.ax_prog.specs.declared.Stmt as ps
use Rattle.ax_parse_grammar.specs.declared.tree.Expr.{Expr}
use Rattle.ax_parse_grammar.specs.declared.tree.Base.{Base}
use Rattle.ax_parse_grammar.specs.declared.tree.Signed.{Signed}
use Rattle.ax_parse_grammar.specs.declared.tree.Declarator.{Declarator}
use Rattle.ax_parse_grammar.specs.declared.tree.Initialiser.{Initialiser}
use Rattle.ax_parse_grammar.specs.declared.tree.Initialiser.TheVariants as by
use Rattle.ax_parse_grammar.specs.declared.tree.Declared.{Declared}
use Rattle.ax_parse_grammar.specs.declared.tree.Decl as dec
use Rattle.ax_parse_grammar.specs.declared.tree.Simple as deed
use Rattle.ax_parse_grammar.specs.declared.tree.Simple.TheVariants as act
use Rattle.ax_parse_grammar.specs.declared.tree.Opening.{Opening}
use Rattle.ax_parse_grammar.specs.declared.tree.Opening.TheVariants as opening
use Rattle.ax_parse_grammar.specs.declared.tree.Stmt.{Stmt, Empty, Block', Decl, Simple, If', IfElse', While', Do', For', Break, Continue, Return, Read, Print}
use Rattle.ax_parse_grammar.specs.declared.tree.Stmt.TheVariants as s
use Rattle.ax_parse_grammar.specs.Trees.{span_of}
use Rattle.ax_names_types.specs.declared.TypeKind.TheVariants.{Redeclared, WrongType, WrongCount, Misplaced}
use Rattle.ax_names_types.specs.declared.TypeFault.{TypeFault}
use Rattle.ax_names_types.specs.Faults.{fault}
use Rattle.ax_names_declared.specs.Breaks.{DeclaresObject, MisdeclaresObject}
use Rattle.ax_names_rules.specs.declared.State.{State}
use Rattle.ax_names_rules.specs.States.{with_var, with_slot, depth, IsNew}
use Rattle.ax_names_rules.specs.Values.{IsNumber, IsTarget}
use Rattle.ax_names_rules.specs.Declarations.{sizes_of, DeclaresVar, Begins, BecomeVars, BeginsGlobal, with_global}
use Rattle.ax_names_rules.specs.Statements.{IsChangedBy, Opens, Tests, Steps, Becomes}
use Rattle.ax_names_rules.specs.ValueFaults.{BreaksNumber, BreaksCall, BreaksGiven, BreaksTarget}

-- ---- declarations

abbrev pub declarator_of : Declared → Declarator
declarator_of d = d.declarator

-- a declarator of a variable, in the scope that begins behind so many names
pub data BreaksVar (floor : ℕ) (st : State) (base : Base) (d : Declared) : TypeFault → Type 0 where
  type : {f : TypeFault} → MisdeclaresObject st.structs base (declarator_of d).stars (sizes_of d) (declarator_of d).span f → BreaksVar floor st base d f
  taken : (IsNew floor st (declarator_of d).name.text → ⊥) → BreaksVar floor st base d (fault Redeclared ((declarator_of d).name).span)

-- 6.7.9: a brace list for a variable of this type, whose declarator stands here
pub data BreaksList (u : Ty) (at : Span) (xs : List Signed) : TypeFault → Type 0 where
  kind : ((n : ℕ) → u ≡ ty.Array ty.Int n → ⊥) → BreaksList u at xs (fault WrongType at)
  count : (n : ℕ) → u ≡ ty.Array ty.Int n → n < length xs → BreaksList u at xs (fault WrongCount at)

pub data BreaksInitial (defs : List (List ℕ)) (st : State) (u : Ty) (at : Span) : Initialiser → TypeFault → Type 0 where
  single : {a : Expr} {f : TypeFault} → BreaksGiven defs st u at a f → BreaksInitial defs st u at (by.Value a) f
  list : {at2 : Span} {xs : List Signed} {f : TypeFault} → BreaksList u at xs f → BreaksInitial defs st u at (by.List at2 xs) f

-- the initialiser is judged where the variable has a type, also where its name is taken
pub data BreaksDeclared (defs : List (List ℕ)) (floor : ℕ) (st : State) (base : Base) (d : Declared) : TypeFault → Type 0 where
  declarator : {f : TypeFault} → BreaksVar floor st base d f → BreaksDeclared defs floor st base d f
  initial : {f : TypeFault} (u : Ty) → DeclaresObject st.structs base (declarator_of d).stars (sizes_of d) u → BreaksInitial defs (with_var st (declarator_of d).name.text u) u (declarator_of d).span d.initialiser f → BreaksDeclared defs floor st base d f

pub data BreaksVars (defs : List (List ℕ)) (floor : ℕ) (base : Base) : State → List Declared → TypeFault → Type 0 where
  this : {st : State} {d : Declared} {rest : List Declared} {f : TypeFault} → BreaksDeclared defs floor st base d f → BreaksVars defs floor base st (d ∷ rest) f
  behind : {st st2 : State} {d : Declared} {rest : List Declared} {f : TypeFault} (u : Ty) (v : Init) → DeclaresVar floor st base d u → Begins defs (with_var st (declarator_of d).name.text u) u d.initialiser v st2 → BreaksVars defs floor base st2 rest f → BreaksVars defs floor base st (d ∷ rest) f

-- what a global begins with is a literal, 0 for a pointer, or a brace list
pub data BreaksGlobalInitial (u : Ty) (at : Span) : Initialiser → TypeFault → Type 0 where
  single : {a : Expr} → ((v : Init) → BeginsGlobal u (by.Value a) v → ⊥) → BreaksGlobalInitial u at (by.Value a) (fault WrongType at)
  list : {at2 : Span} {xs : List Signed} {f : TypeFault} → BreaksList u at xs f → BreaksGlobalInitial u at (by.List at2 xs) f

pub data BreaksGlobal (st : State) (base : Base) (d : Declared) : TypeFault → Type 0 where
  declarator : {f : TypeFault} → BreaksVar 0 st base d f → BreaksGlobal st base d f
  initial : {f : TypeFault} (u : Ty) → DeclaresObject st.structs base (declarator_of d).stars (sizes_of d) u → BreaksGlobalInitial u (declarator_of d).span d.initialiser f → BreaksGlobal st base d f

pub data BreaksGlobals (base : Base) : State → List Declared → TypeFault → Type 0 where
  this : {st : State} {d : Declared} {rest : List Declared} {f : TypeFault} → BreaksGlobal st base d f → BreaksGlobals base st (d ∷ rest) f
  behind : {st : State} {d : Declared} {rest : List Declared} {f : TypeFault} (u : Ty) (v : Init) → DeclaresVar 0 st base d u → BeginsGlobal u d.initialiser v → BreaksGlobals base (with_global st (declarator_of d).name.text u v) rest f → BreaksGlobals base st (d ∷ rest) f

-- ---- simple statements

pub data BreaksSimple (defs : List (List ℕ)) (st : State) : deed.Simple → TypeFault → Type 0 where
  target : {at : Span} {a : Expr} {f : TypeFault} (b : Expr) → BreaksTarget st a f → BreaksSimple defs st (act.Assign at a b) f
  given : {at : Span} {a b : Expr} {f : TypeFault} (u : Ty) (l : Lval) → IsTarget st a u l → BreaksGiven defs st u at b f → BreaksSimple defs st (act.Assign at a b) f
  changed : {at : Span} {a : Expr} {op : Bin} {f : TypeFault} (b : Expr) → BreaksTarget st a f → BreaksSimple defs st (act.Change at a op b) f
  changed_kind : {at : Span} {a : Expr} {op : Bin} (b : Expr) (u : Ty) (l : Lval) → IsTarget st a u l → (IsChangedBy op u → ⊥) → BreaksSimple defs st (act.Change at a op b) (fault WrongType (span_of a))
  change : {at : Span} {a b : Expr} {op : Bin} {f : TypeFault} (u : Ty) (l : Lval) → IsTarget st a u l → IsChangedBy op u → BreaksNumber st b f → BreaksSimple defs st (act.Change at a op b) f
  stepped : {at : Span} {a : Expr} {up : Bool} {f : TypeFault} → BreaksTarget st a f → BreaksSimple defs st (act.Step at a up) f
  stepped_kind : {at : Span} {a : Expr} {up : Bool} (u : Ty) (l : Lval) → IsTarget st a u l → (IsChangedBy bin.Add u → ⊥) → BreaksSimple defs st (act.Step at a up) (fault WrongType (span_of a))
  call : {at : Span} {a : Expr} {f : TypeFault} → BreaksCall defs st a f → BreaksSimple defs st (act.Call at a) f

pub data BreaksOpening (defs : List (List ℕ)) (st : State) : Opening → TypeFault → Type 0 where
  simple : {x : deed.Simple} {f : TypeFault} → BreaksSimple defs st x f → BreaksOpening defs st (opening.Simple x) f
  decl : {d : dec.Decl} {f : TypeFault} → BreaksVars defs (depth st) d.base st d.items f → BreaksOpening defs st (opening.Decl d) f

pub data BreaksTest (st : State) : Option Expr → TypeFault → Type 0 where
  number : {a : Expr} {f : TypeFault} → BreaksNumber st a f → BreaksTest st (Some a) f

pub data BreaksStep (defs : List (List ℕ)) (st : State) : Option deed.Simple → TypeFault → Type 0 where
  simple : {x : deed.Simple} {f : TypeFault} → BreaksSimple defs st x f → BreaksStep defs st (Some x) f

-- 6.8.6.4p1: a `return`, which stands here
pub data BreaksReturn (defs : List (List ℕ)) (st : State) (at : Span) : Option Ty → Option Expr → TypeFault → Type 0 where
  missing : {u : Ty} → BreaksReturn defs st at (Some u) None (fault WrongType at)
  void : {a : Expr} → BreaksReturn defs st at None (Some a) (fault WrongType at)
  given : {u : Ty} {a : Expr} {f : TypeFault} → BreaksGiven defs st u at a f → BreaksReturn defs st at (Some u) (Some a) f

-- ---- statements

-- whether an item of a block is a declaration
abbrev pub is_declaration : Stmt → Bool
is_declaration (Decl d) = true
is_declaration (Empty at) = false
is_declaration (Block' at s row) = false
is_declaration (Simple at x) = false
is_declaration (If' at c s row) = false
is_declaration (IfElse' at c s row s2 row2) = false
is_declaration (While' at c s row) = false
is_declaration (Do' at s row c) = false
is_declaration (For' at o c x s row) = false
is_declaration (Break at) = false
is_declaration (Continue at) = false
is_declaration (Return at a) = false
is_declaration (Read at a) = false
is_declaration (Print at format a) = false

-- A declaration is no statement, but an item of a block.
mutual
  pub data BreaksStmt (defs : List (List ℕ)) (result : Option Ty) : Bool → State → Stmt → TypeFault → Type 0 where
    block : {f : Bool} {st : State} {at : Span} (items : List Stmt) {g : TypeFault} → BreaksAll defs result f (depth st) st items g → BreaksStmt defs result f st (s.Block at items) g
    declaration : {f : Bool} {st : State} {d : dec.Decl} → BreaksStmt defs result f st (s.Decl d) (fault Misplaced d.span)
    simple : {f : Bool} {st : State} {at : Span} {x : deed.Simple} {g : TypeFault} → BreaksSimple defs st x g → BreaksStmt defs result f st (s.Simple at x) g
    lone_test : {f : Bool} {st : State} {at : Span} {c : Expr} (a : Stmt) {g : TypeFault} → BreaksNumber st c g → BreaksStmt defs result f st (s.If at c a) g
    lone_first : {f : Bool} {st : State} {at : Span} {c : Expr} {a : Stmt} {g : TypeFault} (x : ex.Expr) (atoms : List (Atom × Span)) → IsNumber st c x atoms → BreaksStmt defs result f (with_slot st c x atoms) a g → BreaksStmt defs result f st (s.If at c a) g
    if_test : {f : Bool} {st : State} {at : Span} {c : Expr} (a other : Stmt) {g : TypeFault} → BreaksNumber st c g → BreaksStmt defs result f st (s.IfElse at c a other) g
    if_first : {f : Bool} {st : State} {at : Span} {c : Expr} {a : Stmt} (other : Stmt) {g : TypeFault} (x : ex.Expr) (atoms : List (Atom × Span)) → IsNumber st c x atoms → BreaksStmt defs result f (with_slot st c x atoms) a g → BreaksStmt defs result f st (s.IfElse at c a other) g
    if_second : {f : Bool} {st st2 : State} {at : Span} {c : Expr} {a other : Stmt} {b : ps.Stmt} {g : TypeFault} (x : ex.Expr) (atoms : List (Atom × Span)) → IsNumber st c x atoms → Becomes defs result f (with_slot st c x atoms) a b st2 → BreaksStmt defs result f st2 other g → BreaksStmt defs result f st (s.IfElse at c a other) g
    while_test : {f : Bool} {st : State} {at : Span} {c : Expr} (a : Stmt) {g : TypeFault} → BreaksNumber st c g → BreaksStmt defs result f st (s.While at c a) g
    while_body : {f : Bool} {st : State} {at : Span} {c : Expr} {a : Stmt} {g : TypeFault} (x : ex.Expr) (atoms : List (Atom × Span)) → IsNumber st c x atoms → BreaksStmt defs result true (with_slot st c x atoms) a g → BreaksStmt defs result f st (s.While at c a) g
    do_body : {f : Bool} {st : State} {at : Span} (c : Expr) {a : Stmt} {g : TypeFault} → BreaksStmt defs result true st a g → BreaksStmt defs result f st (s.Do at a c) g
    do_test : {f : Bool} {st st2 : State} {at : Span} {c : Expr} {a : Stmt} {b : ps.Stmt} {g : TypeFault} → Becomes defs result true st a b st2 → BreaksNumber st2 c g → BreaksStmt defs result f st (s.Do at a c) g
    for_opening : {f : Bool} {st : State} {at : Span} {o : Opening} {c : Option Expr} {x : Option deed.Simple} (a : Stmt) {g : TypeFault} → BreaksOpening defs st o g → BreaksStmt defs result f st (s.For at o c x a) g
    for_test : {f : Bool} {st st2 : State} {at : Span} {o : Opening} {c : Option Expr} {x : Option deed.Simple} (a : Stmt) {bs : List ps.Stmt} {g : TypeFault} → Opens defs st o bs st2 → BreaksTest st2 c g → BreaksStmt defs result f st (s.For at o c x a) g
    for_step : {f : Bool} {st st2 st3 : State} {at : Span} {o : Opening} {c : Option Expr} {x : Option deed.Simple} (a : Stmt) {bs : List ps.Stmt} {id : Option SlotId} {g : TypeFault} → Opens defs st o bs st2 → Tests st2 c id st3 → BreaksStep defs st3 x g → BreaksStmt defs result f st (s.For at o c x a) g
    for_body : {f : Bool} {st st2 st3 st4 : State} {at : Span} {o : Opening} {c : Option Expr} {x : Option deed.Simple} {a : Stmt} {bs : List ps.Stmt} {id : Option SlotId} {y : Option ps.Stmt} {g : TypeFault} → Opens defs st o bs st2 → Tests st2 c id st3 → Steps defs st3 x y st4 → BreaksStmt defs result true st4 a g → BreaksStmt defs result f st (s.For at o c x a) g
    break : {st : State} {at : Span} → BreaksStmt defs result false st (s.Break at) (fault Misplaced at)
    continue : {st : State} {at : Span} → BreaksStmt defs result false st (s.Continue at) (fault Misplaced at)
    return : {f : Bool} {st : State} {at : Span} {a : Option Expr} {g : TypeFault} → BreaksReturn defs st at result a g → BreaksStmt defs result f st (s.Return at a) g
    read : {f : Bool} {st : State} {at : Span} {a : Expr} {g : TypeFault} → BreaksTarget st a g → BreaksStmt defs result f st (s.Read at a) g
    read_kind : {f : Bool} {st : State} {at : Span} {a : Expr} (u : Ty) (l : Lval) → IsTarget st a u l → (u ≡ ty.Int → ⊥) → BreaksStmt defs result f st (s.Read at a) (fault WrongType (span_of a))
    print : {f : Bool} {st : State} {at : Span} {format : ℕ} {a : Expr} {g : TypeFault} → BreaksNumber st a g → BreaksStmt defs result f st (s.Print at format a) g

  pub data BreaksAll (defs : List (List ℕ)) (result : Option Ty) : Bool → ℕ → State → List Stmt → TypeFault → Type 0 where
    this_decl : {f : Bool} {floor : ℕ} {st : State} {d : dec.Decl} (rest : List Stmt) {g : TypeFault} → BreaksVars defs floor d.base st d.items g → BreaksAll defs result f floor st (s.Decl d ∷ rest) g
    behind_decl : {f : Bool} {floor : ℕ} {st st2 : State} {d : dec.Decl} {rest : List Stmt} {ds : List ps.Stmt} {g : TypeFault} → BecomeVars defs floor d.base st d.items ds st2 → BreaksAll defs result f floor st2 rest g → BreaksAll defs result f floor st (s.Decl d ∷ rest) g
    this : {f : Bool} {floor : ℕ} {st : State} {a : Stmt} (rest : List Stmt) {g : TypeFault} → is_declaration a ≡ false → BreaksStmt defs result f st a g → BreaksAll defs result f floor st (a ∷ rest) g
    behind : {f : Bool} {floor : ℕ} {st st2 : State} {a : Stmt} {rest : List Stmt} {b : ps.Stmt} {g : TypeFault} → Becomes defs result f st a b st2 → BreaksAll defs result f floor st2 rest g → BreaksAll defs result f floor st (a ∷ rest) g
