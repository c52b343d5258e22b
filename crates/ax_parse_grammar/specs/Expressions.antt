-- Which expressions a token list spells.
--
-- expr    = binary [ "?" expr ":" expr ]
-- binary  = unary { op unary }, left associative, by the levels of the operators
-- unary   = ( "-" | "!" | "~" | "*" | "&" ) unary | postfix
-- postfix = primary { "[" expr "]" | "." NAME | "->" NAME | "(" [ expr { "," expr } ] ")" }
-- primary = NAME | NUMBER | "(" expr ")"
use Rattle.std.specs.Prelude.{◌≡◌, ℕ, suc, ℤ, ◌≤◌, List, [], ◌∷◌, ◌++◌, Some}
use Rattle.ax_prog.specs.declared.Bin.{Bin}
use Rattle.ax_prog.specs.declared.tokens.Kind.TheVariants as k
use Rattle.ax_prog.specs.declared.tokens.Token.{Token}
use Rattle.ax_parse_grammar.specs.declared.terminals.Terminal.TheVariants as w
use Rattle.ax_parse_grammar.specs.declared.tree.Prefix.{Prefix}
use Rattle.ax_parse_grammar.specs.declared.tree.Expr.{Expr}
use Rattle.ax_parse_grammar.specs.declared.tree.Expr.TheVariants as e
use Rattle.ax_parse_grammar.specs.Operators.{binary_of, prefix_of, level}
use Rattle.ax_parse_grammar.specs.Terminals.{Is, named, extent}

-- The tokens spell the expression as an operand of at least this level: 0 is `?:`, 1 to 10 are the levels of binary operators,
-- 11 is unary and 12 postfix. An expression in parentheses is the expression inside them, and so is its span.
mutual
  pub data Spells : ℕ → Expr → List Token → Type 0 where
    name : {l : ℕ} {x : List ℕ} (t : Token) → t.kind ≡ k.Name x → Spells l (e.Name t.span x) (t ∷ [])
    number : {l : ℕ} {n : ℤ} (t : Token) → t.kind ≡ k.Number n → Spells l (e.Number t.span n) (t ∷ [])
    parens : {l : ℕ} {x : Expr} {ts : List Token} (first last : Token) → Is w.OpenRound first → Is w.CloseRound last → Spells 0 x ts → Spells l x (first ∷ (ts ++ last ∷ []))
    index : {l : ℕ} {a i : Expr} {ts us : List Token} (first last : Token) → l ≤ 12 → Is w.OpenSquare first → Is w.CloseSquare last → Spells 12 a ts → Spells 0 i us → Spells l (e.Index (extent (ts ++ first ∷ (us ++ last ∷ []))) a i) (ts ++ first ∷ (us ++ last ∷ []))
    member : {l : ℕ} {a : Expr} {x : List ℕ} {ts : List Token} (dot t : Token) → l ≤ 12 → Is w.Dot dot → t.kind ≡ k.Name x → Spells 12 a ts → Spells l (e.Member (extent (ts ++ dot ∷ t ∷ [])) a (named t x)) (ts ++ dot ∷ t ∷ [])
    arrow : {l : ℕ} {a : Expr} {x : List ℕ} {ts : List Token} (mark t : Token) → l ≤ 12 → Is w.Arrow mark → t.kind ≡ k.Name x → Spells 12 a ts → Spells l (e.Arrow (extent (ts ++ mark ∷ t ∷ [])) a (named t x)) (ts ++ mark ∷ t ∷ [])
    call : {l : ℕ} {f : Expr} {xs : List Expr} {ts us : List Token} (first last : Token) → l ≤ 12 → Is w.OpenRound first → Is w.CloseRound last → Spells 12 f ts → SpellArgs xs us → Spells l (e.Call (extent (ts ++ first ∷ (us ++ last ∷ []))) f xs) (ts ++ first ∷ (us ++ last ∷ []))
    unary : {l : ℕ} {op : Prefix} {a : Expr} {ts : List Token} (t : Token) → l ≤ 11 → prefix_of t.kind ≡ Some op → Spells 11 a ts → Spells l (e.Unary (extent (t ∷ ts)) op a) (t ∷ ts)
    binary : {l : ℕ} {op : Bin} {a b : Expr} {left right : List Token} (t : Token) → l ≤ level op → binary_of t.kind ≡ Some op → Spells (level op) a left → Spells (suc (level op)) b right → Spells l (e.Binary (extent (left ++ t ∷ right)) op a b) (left ++ t ∷ right)
    cond : {c a b : Expr} {test then else : List Token} (question colon : Token) → Is w.Question question → Is w.Colon colon → Spells 1 c test → Spells 0 a then → Spells 0 b else → Spells 0 (e.Cond (extent (test ++ question ∷ (then ++ colon ∷ else))) c a b) (test ++ question ∷ (then ++ colon ∷ else))

  -- what stands between the parentheses of a call
  pub data SpellArgs : List Expr → List Token → Type 0 where
    nothing : SpellArgs [] []
    some : {xs : List Expr} {ts : List Token} → SpellMany xs ts → SpellArgs xs ts

  -- expressions with commas between them
  pub data SpellMany : List Expr → List Token → Type 0 where
    one : {x : Expr} {ts : List Token} → Spells 0 x ts → SpellMany (x ∷ []) ts
    more : {x : Expr} {xs : List Expr} {ts us : List Token} (comma : Token) → Is w.Comma comma → Spells 0 x ts → SpellMany xs us → SpellMany (x ∷ xs) (ts ++ comma ∷ us)
