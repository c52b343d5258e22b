-- How short token lists are spelled.
use Rattle.std.proofs.Common.{Bool, true, List, [], ◌∷◌, ap, arith}
use Rattle.ax_prog.specs.declared.tokens.Token.{Token}
use Rattle.ax_parse_grammar.specs.declared.tree.Expr.{Expr}
use Rattle.ax_parse_grammar.specs.declared.tree.Stmt.{Stmt}
use Rattle.ax_parse_grammar.specs.Operators.{binary_of}
use Rattle.ax_parse_grammar.specs.Expressions.{Spells}
use Rattle.ax_parse_grammar.specs.Statements.{SpellsStmt}
use Rattle.ax_parse_grammar.specs.Rows.{OnlySpells, OnlySpellsStmt, AndBelowEqual, MinusFromTheLeft, CondFromTheRight, ElseIsTheNearest}
use Rattle.ax_parse_grammar.proofs.ExpressionsRead.{one_expr}
use Rattle.ax_parse_grammar.proofs.StatementsRead.{one_stmt}

only : (x : Expr) (ts : List Token) → Spells 0 x ts → OnlySpells x ts
only x ts s = (s, λ y r. one_expr y x ts r s)

pub and_below_equal : AndBelowEqual
and_below_equal a amp b equal c x y z ha hamp hb hequal hc = only _ (a ∷ amp ∷ b ∷ equal ∷ c ∷ []) (Spells.binary {left = a ∷ []} {right = b ∷ equal ∷ c ∷ []} amp (omega arith) (ap binary_of hamp) (Spells.name a ha) (Spells.binary {left = b ∷ []} {right = c ∷ []} equal (omega arith) (ap binary_of hequal) (Spells.name b hb) (Spells.name c hc)))

pub minus_from_the_left : MinusFromTheLeft
minus_from_the_left a minus b again c x y z ha hminus hb hagain hc = only _ (a ∷ minus ∷ b ∷ again ∷ c ∷ []) (Spells.binary {left = a ∷ minus ∷ b ∷ []} {right = c ∷ []} again (omega arith) (ap binary_of hagain) (Spells.binary {left = a ∷ []} {right = b ∷ []} minus (omega arith) (ap binary_of hminus) (Spells.name a ha) (Spells.name b hb)) (Spells.name c hc))

pub cond_from_the_right : CondFromTheRight
cond_from_the_right a ask b colon c more d last f x y z v u ha hask hb hcolon hc hmore hd hlast hf = only _ (a ∷ ask ∷ b ∷ colon ∷ c ∷ more ∷ d ∷ last ∷ f ∷ []) (Spells.cond {test = a ∷ []} {then = b ∷ []} {else = c ∷ more ∷ d ∷ last ∷ f ∷ []} ask colon hask hcolon (Spells.name a ha) (Spells.name b hb) (Spells.cond {test = c ∷ []} {then = d ∷ []} {else = f ∷ []} more last hmore hlast (Spells.name c hc) (Spells.name d hd) (Spells.name f hf)))

only_stmt : (f : Bool) (x : Stmt) (ts : List Token) → SpellsStmt f x ts → OnlySpellsStmt x ts
only_stmt f x ts s = ((f, s), λ g y r. one_stmt g f y x ts r s)

pub else_is_the_nearest : ElseIsTheNearest
else_is_the_nearest t o a c u p b d i j l x y ht ho ha hc hu hp hb hd hi hj hl = only_stmt true _ (t ∷ o ∷ a ∷ c ∷ u ∷ p ∷ b ∷ d ∷ i ∷ j ∷ l ∷ []) (SpellsStmt.lone_if {test = a ∷ []} {body = u ∷ p ∷ b ∷ d ∷ i ∷ j ∷ l ∷ []} t o c ht ho hc (Spells.name a ha) (SpellsStmt.if_else {test = b ∷ []} {body = i ∷ []} {other = l ∷ []} u p d j hu hp hd hj (Spells.name b hb) (SpellsStmt.empty i hi) (SpellsStmt.empty l hl)))
