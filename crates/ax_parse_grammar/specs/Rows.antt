-- How short token lists are spelled.
use Rattle.std.specs.Prelude.{◌≡◌, ℕ, Bool, List, [], ◌∷◌}
use Rattle.ax_prog.specs.declared.Bin.TheVariants as bin
use Rattle.ax_prog.specs.declared.tokens.Mark.TheVariants as m
use Rattle.ax_prog.specs.declared.tokens.Kind.TheVariants as k
use Rattle.ax_prog.specs.declared.tokens.Token.{Token}
use Rattle.ax_parse_grammar.specs.declared.terminals.Terminal.TheVariants as w
use Rattle.ax_parse_grammar.specs.declared.tree.Expr.{Expr}
use Rattle.ax_parse_grammar.specs.declared.tree.Expr.TheVariants as e
use Rattle.ax_parse_grammar.specs.declared.tree.Stmt.{Stmt}
use Rattle.ax_parse_grammar.specs.declared.tree.Stmt.TheVariants as s
use Rattle.ax_parse_grammar.specs.Terminals.{Is, extent}
use Rattle.ax_parse_grammar.specs.Expressions.{Spells}
use Rattle.ax_parse_grammar.specs.Statements.{SpellsStmt}

-- the tokens spell this expression, and no other
abbrev pub OnlySpells : Expr → List Token → Type 0
OnlySpells x ts = Spells 0 x ts × ((y : Expr) → Spells 0 y ts → y ≡ x)

-- the tokens spell this statement, and no other
abbrev pub OnlySpellsStmt : Stmt → List Token → Type 0
OnlySpellsStmt x ts = ((f : Bool) × SpellsStmt f x ts) × ((g : Bool) (y : Stmt) → SpellsStmt g y ts → y ≡ x)

-- `a & b == c`
abbrev pub AndBelowEqual : Type 0
AndBelowEqual = (a amp b equal c : Token) (x y z : List ℕ) → a.kind ≡ k.Name x → amp.kind ≡ k.Mark m.Amp → b.kind ≡ k.Name y → equal.kind ≡ k.Mark m.Equal → c.kind ≡ k.Name z → OnlySpells (e.Binary (extent (a ∷ amp ∷ b ∷ equal ∷ c ∷ [])) bin.BitAnd (e.Name a.span x) (e.Binary (extent (b ∷ equal ∷ c ∷ [])) bin.Eq (e.Name b.span y) (e.Name c.span z))) (a ∷ amp ∷ b ∷ equal ∷ c ∷ [])

-- `a - b - c`
abbrev pub MinusFromTheLeft : Type 0
MinusFromTheLeft = (a minus b again c : Token) (x y z : List ℕ) → a.kind ≡ k.Name x → minus.kind ≡ k.Mark m.Minus → b.kind ≡ k.Name y → again.kind ≡ k.Mark m.Minus → c.kind ≡ k.Name z → OnlySpells (e.Binary (extent (a ∷ minus ∷ b ∷ again ∷ c ∷ [])) bin.Sub (e.Binary (extent (a ∷ minus ∷ b ∷ [])) bin.Sub (e.Name a.span x) (e.Name b.span y)) (e.Name c.span z)) (a ∷ minus ∷ b ∷ again ∷ c ∷ [])

-- `a ? b : c ? d : e`
abbrev pub CondFromTheRight : Type 0
CondFromTheRight = (a ask b colon c more d last f : Token) (x y z v u : List ℕ) → a.kind ≡ k.Name x → Is w.Question ask → b.kind ≡ k.Name y → Is w.Colon colon → c.kind ≡ k.Name z → Is w.Question more → d.kind ≡ k.Name v → Is w.Colon last → f.kind ≡ k.Name u → OnlySpells (e.Cond (extent (a ∷ ask ∷ b ∷ colon ∷ c ∷ more ∷ d ∷ last ∷ f ∷ [])) (e.Name a.span x) (e.Name b.span y) (e.Cond (extent (c ∷ more ∷ d ∷ last ∷ f ∷ [])) (e.Name c.span z) (e.Name d.span v) (e.Name f.span u))) (a ∷ ask ∷ b ∷ colon ∷ c ∷ more ∷ d ∷ last ∷ f ∷ [])

-- `if (a) if (b) ; else ;`
abbrev pub ElseIsTheNearest : Type 0
ElseIsTheNearest = (t o a c u p b d i j l : Token) (x y : List ℕ) → Is w.If t → Is w.OpenRound o → a.kind ≡ k.Name x → Is w.CloseRound c → Is w.If u → Is w.OpenRound p → b.kind ≡ k.Name y → Is w.CloseRound d → Is w.Semicolon i → Is w.Else j → Is w.Semicolon l → OnlySpellsStmt (s.If (extent (t ∷ o ∷ a ∷ c ∷ u ∷ p ∷ b ∷ d ∷ i ∷ j ∷ l ∷ [])) (e.Name a.span x) (s.IfElse (extent (u ∷ p ∷ b ∷ d ∷ i ∷ j ∷ l ∷ [])) (e.Name b.span y) (s.Empty (extent (i ∷ []))) (s.Empty (extent (l ∷ []))))) (t ∷ o ∷ a ∷ c ∷ u ∷ p ∷ b ∷ d ∷ i ∷ j ∷ l ∷ [])
