-- Which statements a token list spells.
--
-- stmt   = block | ";" | simple ";" | "if" "(" expr ")" stmt [ "else" stmt ] | "while" "(" expr ")" stmt
--        | "do" stmt "while" "(" expr ")" ";" | "for" "(" ( decl | [ simple ] ";" ) [ expr ] ";" [ simple ] ")" stmt
--        | "break" ";" | "continue" ";" | "return" [ expr ] ";"
--        | "scanf" "(" "\"%d\"" "," "&" unary ")" ";" | "printf" "(" FORMAT "," expr ")" ";"
-- block  = "{" { decl | stmt } "}"
-- simple = unary ( "=" | compound ) expr | postfix ( "++" | "--" ) | ( "++" | "--" ) unary | call
-- call   = postfix "(" [ expr { "," expr } ] ")"
use Rattle.std.specs.Prelude.{◌≡◌, ℕ, Bool, true, false, List, [], ◌∷◌, ◌++◌, Option, Some, None}
use Rattle.ax_prog.specs.declared.Bin.{Bin}
use Rattle.ax_prog.specs.declared.tokens.Kind.TheVariants as k
use Rattle.ax_prog.specs.declared.tokens.Token.{Token}
use Rattle.ax_parse_grammar.specs.declared.terminals.Terminal.TheVariants as w
use Rattle.ax_parse_grammar.specs.declared.tree.Expr.{Expr}
use Rattle.ax_parse_grammar.specs.declared.tree.Expr.TheVariants as e
use Rattle.ax_parse_grammar.specs.declared.tree.Decl.{Decl}
use Rattle.ax_parse_grammar.specs.declared.tree.Simple.{Simple}
use Rattle.ax_parse_grammar.specs.declared.tree.Simple.TheVariants as act
use Rattle.ax_parse_grammar.specs.declared.tree.Opening.{Opening}
use Rattle.ax_parse_grammar.specs.declared.tree.Opening.TheVariants as opening
use Rattle.ax_parse_grammar.specs.declared.tree.Stmt.{Stmt}
use Rattle.ax_parse_grammar.specs.declared.tree.Stmt.TheVariants as s
use Rattle.ax_parse_grammar.specs.Operators.{compound_of, step_of}
use Rattle.ax_parse_grammar.specs.Terminals.{Is, Are, extent}
use Rattle.ax_parse_grammar.specs.Expressions.{Spells, SpellArgs}
use Rattle.ax_parse_grammar.specs.Declarations.{SpellsDecl}

pub data SpellsSimple : Simple → List Token → Type 0 where
  assign : {a x : Expr} {ts us : List Token} (mark : Token) → Is w.Assign mark → Spells 11 a ts → Spells 0 x us → SpellsSimple (act.Assign (extent (ts ++ mark ∷ us)) a x) (ts ++ mark ∷ us)
  change : {op : Bin} {a x : Expr} {ts us : List Token} (mark : Token) → compound_of mark.kind ≡ Some op → Spells 11 a ts → Spells 0 x us → SpellsSimple (act.Change (extent (ts ++ mark ∷ us)) a op x) (ts ++ mark ∷ us)
  behind : {up : Bool} {a : Expr} {ts : List Token} (mark : Token) → step_of mark.kind ≡ Some up → Spells 12 a ts → SpellsSimple (act.Step (extent (ts ++ mark ∷ [])) a up) (ts ++ mark ∷ [])
  before : {up : Bool} {a : Expr} {ts : List Token} (mark : Token) → step_of mark.kind ≡ Some up → Spells 11 a ts → SpellsSimple (act.Step (extent (mark ∷ ts)) a up) (mark ∷ ts)
  call : {f : Expr} {xs : List Expr} {ts us : List Token} (first last : Token) → Is w.OpenRound first → Is w.CloseRound last → Spells 12 f ts → SpellArgs xs us → SpellsSimple (act.Call (extent (ts ++ first ∷ (us ++ last ∷ []))) (e.Call (extent (ts ++ first ∷ (us ++ last ∷ []))) f xs)) (ts ++ first ∷ (us ++ last ∷ []))

-- how a `for` begins, up to its first `;`
pub data SpellsOpening : Opening → List Token → Type 0 where
  nothing : (last : Token) → Is w.Semicolon last → SpellsOpening opening.Nothing (last ∷ [])
  simple : {x : Simple} {ts : List Token} (last : Token) → Is w.Semicolon last → SpellsSimple x ts → SpellsOpening (opening.Simple x) (ts ++ last ∷ [])
  decl : {d : Decl} {ts : List Token} → SpellsDecl d ts → SpellsOpening (opening.Decl d) ts

-- what may be left out
pub data SpellsMaybe {A : Type 0} (P : A → List Token → Type 0) : Option A → List Token → Type 0 where
  nothing : SpellsMaybe P None []
  some : {x : A} {ts : List Token} → P x ts → SpellsMaybe P (Some x) ts

-- The flag says that the statement ends in an `if` without `else`: no `else` may follow it (6.8.4.1p3).
mutual
  pub data SpellsStmt : Bool → Stmt → List Token → Type 0 where
    empty : (t : Token) → Is w.Semicolon t → SpellsStmt false (s.Empty (extent (t ∷ []))) (t ∷ [])
    block : {xs : List Stmt} {ts : List Token} (first last : Token) → Is w.OpenCurly first → Is w.CloseCurly last → SpellItems xs ts → SpellsStmt false (s.Block (extent (first ∷ (ts ++ last ∷ []))) xs) (first ∷ (ts ++ last ∷ []))
    simple : {x : Simple} {ts : List Token} (last : Token) → Is w.Semicolon last → SpellsSimple x ts → SpellsStmt false (s.Simple (extent (ts ++ last ∷ [])) x) (ts ++ last ∷ [])
    lone_if : {f : Bool} {c : Expr} {x : Stmt} {test body : List Token} (t first last : Token) → Is w.If t → Is w.OpenRound first → Is w.CloseRound last → Spells 0 c test → SpellsStmt f x body → SpellsStmt true (s.If (extent (t ∷ first ∷ (test ++ last ∷ body))) c x) (t ∷ first ∷ (test ++ last ∷ body))
    if_else : {f : Bool} {c : Expr} {x y : Stmt} {test body other : List Token} (t first last u : Token) → Is w.If t → Is w.OpenRound first → Is w.CloseRound last → Is w.Else u → Spells 0 c test → SpellsStmt false x body → SpellsStmt f y other → SpellsStmt f (s.IfElse (extent (t ∷ first ∷ (test ++ last ∷ (body ++ u ∷ other)))) c x y) (t ∷ first ∷ (test ++ last ∷ (body ++ u ∷ other)))
    while : {f : Bool} {c : Expr} {x : Stmt} {test body : List Token} (t first last : Token) → Is w.While t → Is w.OpenRound first → Is w.CloseRound last → Spells 0 c test → SpellsStmt f x body → SpellsStmt f (s.While (extent (t ∷ first ∷ (test ++ last ∷ body))) c x) (t ∷ first ∷ (test ++ last ∷ body))
    do_while : {f : Bool} {c : Expr} {x : Stmt} {body test : List Token} (t u first last end : Token) → Is w.Do t → Is w.While u → Is w.OpenRound first → Is w.CloseRound last → Is w.Semicolon end → SpellsStmt f x body → Spells 0 c test → SpellsStmt false (s.Do (extent (t ∷ (body ++ u ∷ first ∷ (test ++ last ∷ end ∷ [])))) x c) (t ∷ (body ++ u ∷ first ∷ (test ++ last ∷ end ∷ [])))
    for : {f : Bool} {o : Opening} {c : Option Expr} {step : Option Simple} {x : Stmt} {os cs ss body : List Token} (t first middle last : Token) → Is w.For t → Is w.OpenRound first → Is w.Semicolon middle → Is w.CloseRound last → SpellsOpening o os → SpellsMaybe (Spells 0) c cs → SpellsMaybe SpellsSimple step ss → SpellsStmt f x body → SpellsStmt f (s.For (extent (t ∷ first ∷ (os ++ (cs ++ middle ∷ (ss ++ last ∷ body))))) o c step x) (t ∷ first ∷ (os ++ (cs ++ middle ∷ (ss ++ last ∷ body))))
    break : (t last : Token) → Is w.Break t → Is w.Semicolon last → SpellsStmt false (s.Break (extent (t ∷ last ∷ []))) (t ∷ last ∷ [])
    continue : (t last : Token) → Is w.Continue t → Is w.Semicolon last → SpellsStmt false (s.Continue (extent (t ∷ last ∷ []))) (t ∷ last ∷ [])
    return : {x : Option Expr} {ts : List Token} (t last : Token) → Is w.Return t → Is w.Semicolon last → SpellsMaybe (Spells 0) x ts → SpellsStmt false (s.Return (extent (t ∷ (ts ++ last ∷ []))) x) (t ∷ (ts ++ last ∷ []))
    read : {a : Expr} {ts : List Token} (t : Token) (start end : List Token) → Is w.Scanf t → Are (w.OpenRound ∷ w.Format ∷ w.Comma ∷ w.Amp ∷ []) start → Are (w.CloseRound ∷ w.Semicolon ∷ []) end → Spells 11 a ts → SpellsStmt false (s.Read (extent (t ∷ (start ++ (ts ++ end)))) a) (t ∷ (start ++ (ts ++ end)))
    print : {n : ℕ} {a : Expr} {ts : List Token} (t first format comma : Token) (end : List Token) → Is w.Printf t → Is w.OpenRound first → format.kind ≡ k.Format n → Is w.Comma comma → Are (w.CloseRound ∷ w.Semicolon ∷ []) end → Spells 0 a ts → SpellsStmt false (s.Print (extent (t ∷ first ∷ format ∷ comma ∷ (ts ++ end))) n a) (t ∷ first ∷ format ∷ comma ∷ (ts ++ end))

  -- the items of a block
  pub data SpellItems : List Stmt → List Token → Type 0 where
    none : SpellItems [] []
    decl_item : {d : Decl} {xs : List Stmt} {ts us : List Token} → SpellsDecl d ts → SpellItems xs us → SpellItems (s.Decl d ∷ xs) (ts ++ us)
    stmt_item : {f : Bool} {x : Stmt} {xs : List Stmt} {ts us : List Token} → SpellsStmt f x ts → SpellItems xs us → SpellItems (x ∷ xs) (ts ++ us)
