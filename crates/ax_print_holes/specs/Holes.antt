-- Where a source has an expression that may be a number of its own, and the source with another expression there.
--
-- These are conditions, values that are printed, returned, assigned or begun with in a block, right sides of compound
-- assignments, and arguments. What a value of a slot is, stands at one of them. Targets, callees, operands, and what globals
-- begin with are none of them.
use Rattle.std.specs.Prelude.{ℕ, List, ◌∷◌, map, Option, Some}
use Rattle.std.specs.Option.{option_map}
use Rattle.ax_prog.specs.declared.Span.{Span}
use Rattle.ax_prog.specs.declared.Bin.{Bin}
use Rattle.ax_parse_grammar.specs.declared.tree.Expr.{Expr}
use Rattle.ax_parse_grammar.specs.declared.tree.Expr.TheVariants as e
use Rattle.ax_parse_grammar.specs.declared.tree.Declarator.{Declarator}
use Rattle.ax_parse_grammar.specs.declared.tree.Initialiser.TheVariants as by
use Rattle.ax_parse_grammar.specs.declared.tree.Declared.{Declared}
use Rattle.ax_parse_grammar.specs.declared.tree.Decl.{Decl}
use Rattle.ax_parse_grammar.specs.declared.tree.Head.{Head}
use Rattle.ax_parse_grammar.specs.declared.tree.Simple.{Simple}
use Rattle.ax_parse_grammar.specs.declared.tree.Simple.TheVariants as act
use Rattle.ax_parse_grammar.specs.declared.tree.Opening.{Opening}
use Rattle.ax_parse_grammar.specs.declared.tree.Opening.TheVariants as opening
use Rattle.ax_parse_grammar.specs.declared.tree.Stmt.{Stmt}
use Rattle.ax_parse_grammar.specs.declared.tree.Stmt.TheVariants as s
use Rattle.ax_parse_grammar.specs.declared.tree.Part.{Part}
use Rattle.ax_parse_grammar.specs.declared.tree.Part.TheVariants as part
use Rattle.ax_parse_grammar.specs.declared.tree.Tree.{Tree}
use Rattle.ax_print_holes.specs.Moved.{moved_span, moved_expr, moved_base, moved_declarator, moved_declared, moved_simple, moved_opening, moved_stmt, moved_head, moved_part}

-- ---- paths to the expression

-- one of the arguments is the expression
pub data HoldsArgument (old : Expr) : List Expr → Type 0 where
  this : {xs : List Expr} → HoldsArgument old (old ∷ xs)
  later : {x : Expr} {xs : List Expr} → HoldsArgument old xs → HoldsArgument old (x ∷ xs)

-- an argument of the call
pub data HoldsInCall (old : Expr) : Expr → Type 0 where
  argument : {at : Span} (g : Expr) {xs : List Expr} → HoldsArgument old xs → HoldsInCall old (e.Call at g xs)

-- the value, or an argument where it is a call's
pub data HoldsValue (old : Expr) : Expr → Type 0 where
  whole : HoldsValue old old
  call : {a : Expr} → HoldsInCall old a → HoldsValue old a

pub data HoldsSimple (old : Expr) : Simple → Type 0 where
  assign : {at : Span} {a x : Expr} → HoldsValue old x → HoldsSimple old (act.Assign at a x)
  change : {at : Span} {a : Expr} {op : Bin} → HoldsSimple old (act.Change at a op old)
  call : {at : Span} {a : Expr} → HoldsInCall old a → HoldsSimple old (act.Call at a)

-- what a variable in a block begins with
pub data HoldsDeclared (old : Expr) : Declared → Type 0 where
  value : {at : Span} {d : Declarator} {a : Expr} → HoldsValue old a → HoldsDeclared old (record { span = at; declarator = d; initialiser = by.Value a })

-- one of these, as P says
pub data Among {A : Type 0} (P : A → Type 0) : List A → Type 0 where
  this : {x : A} {xs : List A} → P x → Among P (x ∷ xs)
  later : {x : A} {xs : List A} → Among P xs → Among P (x ∷ xs)

-- a declaration in a block
abbrev pub HoldsDecl : Expr → Decl → Type 0
HoldsDecl old d = Among (HoldsDeclared old) d.items

pub data HoldsOpening (old : Expr) : Opening → Type 0 where
  simple : {x : Simple} → HoldsSimple old x → HoldsOpening old (opening.Simple x)
  decl : {d : Decl} → HoldsDecl old d → HoldsOpening old (opening.Decl d)

mutual
  pub data HoldsStmt (old : Expr) : Stmt → Type 0 where
    block : {at : Span} {xs : List Stmt} → HoldsItem old xs → HoldsStmt old (s.Block at xs)
    decl : {d : Decl} → HoldsDecl old d → HoldsStmt old (s.Decl d)
    simple : {at : Span} {x : Simple} → HoldsSimple old x → HoldsStmt old (s.Simple at x)
    if_test : {at : Span} (a : Stmt) → HoldsStmt old (s.If at old a)
    if_body : {at : Span} {c : Expr} {a : Stmt} → HoldsStmt old a → HoldsStmt old (s.If at c a)
    else_test : {at : Span} (a b : Stmt) → HoldsStmt old (s.IfElse at old a b)
    else_first : {at : Span} {c : Expr} {a : Stmt} (b : Stmt) → HoldsStmt old a → HoldsStmt old (s.IfElse at c a b)
    else_second : {at : Span} {c : Expr} {b : Stmt} (a : Stmt) → HoldsStmt old b → HoldsStmt old (s.IfElse at c a b)
    while_test : {at : Span} (a : Stmt) → HoldsStmt old (s.While at old a)
    while_body : {at : Span} {c : Expr} {a : Stmt} → HoldsStmt old a → HoldsStmt old (s.While at c a)
    do_body : {at : Span} {c : Expr} {a : Stmt} → HoldsStmt old a → HoldsStmt old (s.Do at a c)
    do_test : {at : Span} (a : Stmt) → HoldsStmt old (s.Do at a old)
    for_opening : {at : Span} {o : Opening} {c : Option Expr} {x : Option Simple} (a : Stmt) → HoldsOpening old o → HoldsStmt old (s.For at o c x a)
    for_test : {at : Span} {o : Opening} {x : Option Simple} (a : Stmt) → HoldsStmt old (s.For at o (Some old) x a)
    for_step : {at : Span} {o : Opening} {c : Option Expr} {x : Simple} (a : Stmt) → HoldsSimple old x → HoldsStmt old (s.For at o c (Some x) a)
    for_body : {at : Span} {o : Opening} {c : Option Expr} {x : Option Simple} {a : Stmt} → HoldsStmt old a → HoldsStmt old (s.For at o c x a)
    return : {at : Span} {a : Expr} → HoldsValue old a → HoldsStmt old (s.Return at (Some a))
    print : {at : Span} {format : ℕ} → HoldsStmt old (s.Print at format old)

  pub data HoldsItem (old : Expr) : List Stmt → Type 0 where
    this : {x : Stmt} {xs : List Stmt} → HoldsStmt old x → HoldsItem old (x ∷ xs)
    later : {x : Stmt} {xs : List Stmt} → HoldsItem old xs → HoldsItem old (x ∷ xs)

pub data HoldsPart (old : Expr) : Part → Type 0 where
  function : {at : Span} {h : Head} {xs : List Stmt} → HoldsItem old xs → HoldsPart old (part.Function at h xs)

abbrev pub Holds : Expr → Tree → Type 0
Holds old tree = Among (HoldsPart old) tree.parts

-- ---- another expression at the end of the path, and all else moved

module _ (f : ℕ → ℕ) (new : Expr) where
  abbrev pub put_argument : {old : Expr} {xs : List Expr} → HoldsArgument old xs → List Expr
  put_argument (HoldsArgument.this {xs = xs}) = new ∷ map (moved_expr f) xs
  put_argument (HoldsArgument.later {x = x} h) = moved_expr f x ∷ put_argument h

  abbrev pub put_in_call : {old a : Expr} → HoldsInCall old a → Expr
  put_in_call (HoldsInCall.argument {at = at} g h) = e.Call (moved_span f at) (moved_expr f g) (put_argument h)

  abbrev pub put_value : {old a : Expr} → HoldsValue old a → Expr
  put_value HoldsValue.whole = new
  put_value (HoldsValue.call h) = put_in_call h

  abbrev pub put_simple : {old : Expr} {x : Simple} → HoldsSimple old x → Simple
  put_simple (HoldsSimple.assign {at = at} {a = a} h) = act.Assign (moved_span f at) (moved_expr f a) (put_value h)
  put_simple (HoldsSimple.change {at = at} {a = a} {op = op}) = act.Change (moved_span f at) (moved_expr f a) op new
  put_simple (HoldsSimple.call {at = at} h) = act.Call (moved_span f at) (put_in_call h)

  abbrev pub put_declared : {old : Expr} {d : Declared} → HoldsDeclared old d → Declared
  put_declared (HoldsDeclared.value {at = at} {d = d} h) = record { span = moved_span f at; declarator = moved_declarator f d; initialiser = by.Value (put_value h) }

  abbrev pub put_among_declared : {old : Expr} {xs : List Declared} → Among (HoldsDeclared old) xs → List Declared
  put_among_declared (Among.this {xs = xs} h) = put_declared h ∷ map (moved_declared f) xs
  put_among_declared (Among.later {x = x} h) = moved_declared f x ∷ put_among_declared h

  abbrev pub put_decl : {old : Expr} (d : Decl) → HoldsDecl old d → Decl
  put_decl d h = record { span = moved_span f d.span; base = moved_base f d.base; items = put_among_declared h }

  abbrev pub put_opening : {old : Expr} {o : Opening} → HoldsOpening old o → Opening
  put_opening (HoldsOpening.simple h) = opening.Simple (put_simple h)
  put_opening (HoldsOpening.decl {d = d} h) = opening.Decl (put_decl d h)

  abbrev mutual
    pub put_stmt : {old : Expr} {x : Stmt} → HoldsStmt old x → Stmt
    put_stmt (HoldsStmt.block {at = at} h) = s.Block (moved_span f at) (put_item h)
    put_stmt (HoldsStmt.decl {d = d} h) = s.Decl (put_decl d h)
    put_stmt (HoldsStmt.simple {at = at} h) = s.Simple (moved_span f at) (put_simple h)
    put_stmt (HoldsStmt.if_test {at = at} a) = s.If (moved_span f at) new (moved_stmt f a)
    put_stmt (HoldsStmt.if_body {at = at} {c = c} h) = s.If (moved_span f at) (moved_expr f c) (put_stmt h)
    put_stmt (HoldsStmt.else_test {at = at} a b) = s.IfElse (moved_span f at) new (moved_stmt f a) (moved_stmt f b)
    put_stmt (HoldsStmt.else_first {at = at} {c = c} b h) = s.IfElse (moved_span f at) (moved_expr f c) (put_stmt h) (moved_stmt f b)
    put_stmt (HoldsStmt.else_second {at = at} {c = c} a h) = s.IfElse (moved_span f at) (moved_expr f c) (moved_stmt f a) (put_stmt h)
    put_stmt (HoldsStmt.while_test {at = at} a) = s.While (moved_span f at) new (moved_stmt f a)
    put_stmt (HoldsStmt.while_body {at = at} {c = c} h) = s.While (moved_span f at) (moved_expr f c) (put_stmt h)
    put_stmt (HoldsStmt.do_body {at = at} {c = c} h) = s.Do (moved_span f at) (put_stmt h) (moved_expr f c)
    put_stmt (HoldsStmt.do_test {at = at} a) = s.Do (moved_span f at) (moved_stmt f a) new
    put_stmt (HoldsStmt.for_opening {at = at} {c = c} {x = x} a h) = s.For (moved_span f at) (put_opening h) (option_map (moved_expr f) c) (option_map (moved_simple f) x) (moved_stmt f a)
    put_stmt (HoldsStmt.for_test {at = at} {o = o} {x = x} a) = s.For (moved_span f at) (moved_opening f o) (Some new) (option_map (moved_simple f) x) (moved_stmt f a)
    put_stmt (HoldsStmt.for_step {at = at} {o = o} {c = c} a h) = s.For (moved_span f at) (moved_opening f o) (option_map (moved_expr f) c) (Some (put_simple h)) (moved_stmt f a)
    put_stmt (HoldsStmt.for_body {at = at} {o = o} {c = c} {x = x} h) = s.For (moved_span f at) (moved_opening f o) (option_map (moved_expr f) c) (option_map (moved_simple f) x) (put_stmt h)
    put_stmt (HoldsStmt.return {at = at} h) = s.Return (moved_span f at) (Some (put_value h))
    put_stmt (HoldsStmt.print {at = at} {format = format}) = s.Print (moved_span f at) format new

    pub put_item : {old : Expr} {xs : List Stmt} → HoldsItem old xs → List Stmt
    put_item (HoldsItem.this {xs = xs} h) = put_stmt h ∷ map (moved_stmt f) xs
    put_item (HoldsItem.later {x = x} h) = moved_stmt f x ∷ put_item h

  abbrev pub put_part : {old : Expr} {x : Part} → HoldsPart old x → Part
  put_part (HoldsPart.function {at = at} {h = h} k) = part.Function (moved_span f at) (moved_head f h) (put_item k)

  abbrev pub put_among_parts : {old : Expr} {xs : List Part} → Among (HoldsPart old) xs → List Part
  put_among_parts (Among.this {xs = xs} h) = put_part h ∷ map (moved_part f) xs
  put_among_parts (Among.later {x = x} h) = moved_part f x ∷ put_among_parts h

  abbrev pub put : {old : Expr} (tree : Tree) → Holds old tree → Tree
  put tree h = record { span = moved_span f tree.span; parts = put_among_parts h }
