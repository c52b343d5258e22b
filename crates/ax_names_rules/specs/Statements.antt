-- What statements become (C11 6.8).
use Rattle.std.specs.Prelude.{ℕ, Bool, true, List, [], ◌∷◌, ◌++◌, Option, Some, None}
use Rattle.ax_prog.specs.declared.Span.{Span}
use Rattle.ax_prog.specs.declared.Ty.{Ty}
use Rattle.ax_prog.specs.declared.Ty.TheVariants as ty
use Rattle.ax_prog.specs.declared.Bin.{Bin}
use Rattle.ax_prog.specs.declared.Bin.TheVariants as bin
use Rattle.ax_prog.specs.declared.FunId.{FunId}
use Rattle.ax_prog.specs.declared.SlotId.{SlotId}
use Rattle.ax_prog.specs.declared.Expr as ex
use Rattle.ax_prog.specs.declared.Atom.{Atom}
use Rattle.ax_prog.specs.declared.Lval.{Lval}
use Rattle.ax_prog.specs.declared.Arg.{Arg}
use Rattle.ax_prog.specs.declared.Value.{Value}
use Rattle.ax_prog.specs.declared.Stmt as ps
use Rattle.ax_prog.specs.declared.Stmt.TheVariants as to
use Rattle.ax_parse_grammar.specs.declared.tree.Expr.{Expr}
use Rattle.ax_parse_grammar.specs.declared.tree.Decl.{Decl}
use Rattle.ax_parse_grammar.specs.declared.tree.Simple.{Simple}
use Rattle.ax_parse_grammar.specs.declared.tree.Simple.TheVariants as act
use Rattle.ax_parse_grammar.specs.declared.tree.Opening.{Opening}
use Rattle.ax_parse_grammar.specs.declared.tree.Opening.TheVariants as opening
use Rattle.ax_parse_grammar.specs.declared.tree.Stmt.{Stmt}
use Rattle.ax_parse_grammar.specs.declared.tree.Stmt.TheVariants as s
use Rattle.ax_names_rules.specs.declared.State.{State}
use Rattle.ax_names_rules.specs.States.{next_slot, with_slot, depth, leaving}
use Rattle.ax_names_rules.specs.Values.{IsNumber, Calls, Given, IsTarget}
use Rattle.ax_names_rules.specs.Declarations.{BecomeVars}

-- 6.5.16.2p1: a compound assignment takes a number, `+=` and `-=` a pointer too
pub data IsChangedBy : Bin → Ty → Type 0 where
  number : {op : Bin} → IsChangedBy op ty.Int
  further : (u : Ty) → IsChangedBy bin.Add (ty.Ptr u)
  back : (u : Ty) → IsChangedBy bin.Sub (ty.Ptr u)

-- A simple statement becomes a program's statement, and what stands behind it.
pub data Does (defs : List (List ℕ)) (st : State) : Simple → ps.Stmt → State → Type 0 where
  assign : {at : Span} {a b : Expr} {v : Value} {st2 : State} (u : Ty) (l : Lval) → IsTarget st a u l → Given defs st u b v st2 → Does defs st (act.Assign at a b) (to.Assign l v) st2
  change : {at : Span} {a b : Expr} {op : Bin} (u : Ty) (l : Lval) (x : ex.Expr) (atoms : List (Atom × Span)) → IsTarget st a u l → IsChangedBy op u → IsNumber st b x atoms → Does defs st (act.Change at a op b) (to.Change l op (next_slot st)) (with_slot st b x atoms)
  -- 6.5.2.4, 6.5.3.1: as the compound assignment with the number 1
  step : {at : Span} {a : Expr} {up : Bool} (u : Ty) (l : Lval) → IsTarget st a u l → IsChangedBy bin.Add u → Does defs st (act.Step at a up) (to.Bump l up) st
  call : {at : Span} {a : Expr} {r : Option Ty} {j : FunId} {args : List Arg} {st2 : State} → Calls defs st a r j args st2 → Does defs st (act.Call at a) (to.Call j args) st2

-- how a `for` begins
pub data Opens (defs : List (List ℕ)) (st : State) : Opening → List ps.Stmt → State → Type 0 where
  nothing : Opens defs st opening.Nothing [] st
  simple : {x : Simple} {b : ps.Stmt} {st2 : State} → Does defs st x b st2 → Opens defs st (opening.Simple x) (b ∷ []) st2
  decl : {d : Decl} {bs : List ps.Stmt} {st2 : State} → BecomeVars defs (depth st) d.base st d.items bs st2 → Opens defs st (opening.Decl d) bs st2

-- the condition of a `for`, which may be left out
pub data Tests (st : State) : Option Expr → Option SlotId → State → Type 0 where
  none : Tests st None None st
  number : {a : Expr} (x : ex.Expr) (atoms : List (Atom × Span)) → IsNumber st a x atoms → Tests st (Some a) (Some (next_slot st)) (with_slot st a x atoms)

-- the last part of a `for`'s head, which may be left out
pub data Steps (defs : List (List ℕ)) (st : State) : Option Simple → Option ps.Stmt → State → Type 0 where
  none : Steps defs st None None st
  simple : {x : Simple} {b : ps.Stmt} {st2 : State} → Does defs st x b st2 → Steps defs st (Some x) (Some b) st2

-- 6.8.6.4: what a `return` gives in a function whose value has this type
pub data Returns (defs : List (List ℕ)) (st : State) : Option Ty → Option Expr → Option Value → State → Type 0 where
  none : Returns defs st None None None st
  value : {u : Ty} {a : Expr} {v : Value} {st2 : State} → Given defs st u a v st2 → Returns defs st (Some u) (Some a) (Some v) st2

-- Statements of a function whose value has the type of `result`. The flag says whether a loop is around them. The slots are
-- numbered in source order: the last part of a `for`'s head stands before its body.
mutual
  pub data Becomes (defs : List (List ℕ)) (result : Option Ty) : Bool → State → Stmt → ps.Stmt → State → Type 0 where
    empty : {f : Bool} {st : State} {at : Span} → Becomes defs result f st (s.Empty at) to.Empty st
    block : {f : Bool} {st st2 : State} {at : Span} (items : List Stmt) {bs : List ps.Stmt} → BecomeAll defs result f (depth st) st items bs st2 → Becomes defs result f st (s.Block at items) (to.Block bs) (leaving (depth st) st2)
    simple : {f : Bool} {st st2 : State} {at : Span} {x : Simple} {b : ps.Stmt} → Does defs st x b st2 → Becomes defs result f st (s.Simple at x) b st2
    lone_if : {f : Bool} {st st2 : State} {at : Span} {c : Expr} {a : Stmt} {b : ps.Stmt} (x : ex.Expr) (atoms : List (Atom × Span)) → IsNumber st c x atoms → Becomes defs result f (with_slot st c x atoms) a b st2 → Becomes defs result f st (s.If at c a) (to.If (next_slot st) b None) st2
    if_else : {f : Bool} {st st2 st3 : State} {at : Span} {c : Expr} {a other : Stmt} {b d : ps.Stmt} (x : ex.Expr) (atoms : List (Atom × Span)) → IsNumber st c x atoms → Becomes defs result f (with_slot st c x atoms) a b st2 → Becomes defs result f st2 other d st3 → Becomes defs result f st (s.IfElse at c a other) (to.If (next_slot st) b (Some d)) st3
    while : {f : Bool} {st st2 : State} {at : Span} {c : Expr} {a : Stmt} {b : ps.Stmt} (x : ex.Expr) (atoms : List (Atom × Span)) → IsNumber st c x atoms → Becomes defs result true (with_slot st c x atoms) a b st2 → Becomes defs result f st (s.While at c a) (to.While (next_slot st) b) st2
    do_while : {f : Bool} {st st2 : State} {at : Span} {c : Expr} {a : Stmt} {b : ps.Stmt} (x : ex.Expr) (atoms : List (Atom × Span)) → Becomes defs result true st a b st2 → IsNumber st2 c x atoms → Becomes defs result f st (s.Do at a c) (to.Do b (next_slot st2)) (with_slot st2 c x atoms)
    for : {f : Bool} {st st2 st3 st4 st5 : State} {at : Span} {o : Opening} {c : Option Expr} {x : Option Simple} {a : Stmt} {bs : List ps.Stmt} {id : Option SlotId} {y : Option ps.Stmt} {b : ps.Stmt} → Opens defs st o bs st2 → Tests st2 c id st3 → Steps defs st3 x y st4 → Becomes defs result true st4 a b st5 → Becomes defs result f st (s.For at o c x a) (to.For bs id y b) (leaving (depth st) st5)
    break : {st : State} {at : Span} → Becomes defs result true st (s.Break at) to.Break st
    continue : {st : State} {at : Span} → Becomes defs result true st (s.Continue at) to.Continue st
    return : {f : Bool} {st st2 : State} {at : Span} {a : Option Expr} {v : Option Value} → Returns defs st result a v st2 → Becomes defs result f st (s.Return at a) (to.Return v) st2
    read : {f : Bool} {st : State} {at : Span} {a : Expr} (l : Lval) → IsTarget st a ty.Int l → Becomes defs result f st (s.Read at a) (to.Read l) st
    print : {f : Bool} {st : State} {at : Span} {format : ℕ} {a : Expr} (x : ex.Expr) (atoms : List (Atom × Span)) → IsNumber st a x atoms → Becomes defs result f st (s.Print at format a) (to.Print (next_slot st)) (with_slot st a x atoms)

  -- the items of a block in turn, in the scope that begins behind so many names
  pub data BecomeAll (defs : List (List ℕ)) (result : Option Ty) : Bool → ℕ → State → List Stmt → List ps.Stmt → State → Type 0 where
    none : {f : Bool} {floor : ℕ} {st : State} → BecomeAll defs result f floor st [] [] st
    decl : {f : Bool} {floor : ℕ} {st st2 st3 : State} {d : Decl} {rest : List Stmt} {ds bs : List ps.Stmt} → BecomeVars defs floor d.base st d.items ds st2 → BecomeAll defs result f floor st2 rest bs st3 → BecomeAll defs result f floor st (s.Decl d ∷ rest) (ds ++ bs) st3
    more : {f : Bool} {floor : ℕ} {st st2 st3 : State} {a : Stmt} {rest : List Stmt} {b : ps.Stmt} {bs : List ps.Stmt} → Becomes defs result f st a b st2 → BecomeAll defs result f floor st2 rest bs st3 → BecomeAll defs result f floor st (a ∷ rest) (b ∷ bs) st3
