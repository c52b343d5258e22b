-- Sources whose declared names are words, as those that a text's tokens spell.
use Rattle.std.proofs.Common.{◌≡◌, List, [], ◌∷◌, Option, Some, None, refl, ap}
use Rattle.ax_prog.specs.declared.Span.{Span}
use Rattle.ax_parse_grammar.specs.declared.tree.Name.{Name}
use Rattle.ax_parse_grammar.specs.declared.tree.Expr.{Expr}
use Rattle.ax_parse_grammar.specs.declared.tree.Declared.{Declared}
use Rattle.ax_parse_grammar.specs.declared.tree.Param.{Param}
use Rattle.ax_parse_grammar.specs.declared.tree.Simple as deed
use Rattle.ax_parse_grammar.specs.declared.tree.Opening.{Opening}
use Rattle.ax_parse_grammar.specs.declared.tree.Opening.TheVariants as opening
use Rattle.ax_parse_grammar.specs.declared.tree.Stmt.{Stmt, Empty, Block', Decl, Simple, If', IfElse', While', Do', For', Break, Continue, Return, Read, Print}
use Rattle.ax_parse_grammar.specs.declared.tree.Stmt.TheVariants as s
use Rattle.ax_parse_grammar.specs.declared.tree.Stmt.TheBlock.{Row_of-Stmt, more_of-Stmt, end_of-Stmt, shape-the_row-Stmt-0, hidden-the_row-Stmt-0, shape-the_row-Stmt-1, hidden-the_row-Stmt-1}
use Rattle.ax_parse_grammar.specs.declared.tree.Part.{Part}
use Rattle.ax_parse_grammar.specs.declared.tree.Part.TheVariants as part
use Rattle.ax_front_facts.specs.Spans.{IsWord}
use denote.Hole.Carrier

-- ---- declarations

abbrev pub WordedVars : List Declared → Type 0
WordedVars [] = Unit {0}
WordedVars (d ∷ ds) = IsWord (d.declarator).name.text × WordedVars ds

abbrev pub WordedName : Option Name → Type 0
WordedName None = Unit {0}
WordedName (Some x) = IsWord x.text

abbrev pub WordedParams : List Param → Type 0
WordedParams [] = Unit {0}
WordedParams (p ∷ ps) = WordedName p.name × WordedParams ps

-- ---- statements

abbrev pub WordedOpening : Opening → Type 0
WordedOpening opening.Nothing = Unit {0}
WordedOpening (opening.Simple x) = Unit {0}
WordedOpening (opening.Decl d) = WordedVars d.items

abbrev mutual
  pub Worded : Stmt → Type 0
  Worded (Empty at) = Unit {0}
  Worded (Block' at sh row) = WordedRow row
  Worded (Decl d) = WordedVars d.items
  Worded (Simple at x) = Unit {0}
  Worded (If' at c sh (more_of-Stmt a end_of-Stmt)) = Worded a
  Worded (IfElse' at c sh (more_of-Stmt a end_of-Stmt) sh2 (more_of-Stmt b end_of-Stmt)) = Worded a × Worded b
  Worded (While' at c sh (more_of-Stmt a end_of-Stmt)) = Worded a
  Worded (Do' at sh (more_of-Stmt a end_of-Stmt) c) = Worded a
  Worded (For' at o c x sh (more_of-Stmt a end_of-Stmt)) = WordedOpening o × Worded a
  Worded (Break at) = Unit {0}
  Worded (Continue at) = Unit {0}
  Worded (Return at a) = Unit {0}
  Worded (Read at a) = Unit {0}
  Worded (Print at format a) = Unit {0}

  pub WordedRow : {n : _} → Row_of-Stmt n → Type 0
  WordedRow end_of-Stmt = Unit {0}
  WordedRow (more_of-Stmt a rest) = Worded a × WordedRow rest

abbrev pub WordedItems : List Stmt → Type 0
WordedItems [] = Unit {0}
WordedItems (x ∷ xs) = Worded x × WordedItems xs

-- ---- each kind of statement

row_is : (xs : List Stmt) → WordedRow (hidden-the_row-Stmt-0 xs) ≡ WordedItems xs
unfolding shape-the_row-Stmt-0 hidden-the_row-Stmt-0 shape-the_row-Stmt-1 hidden-the_row-Stmt-1 Carrier.hidden
row_is [] = refl
row_is (x ∷ xs) = ap (λ (T : Type 0). Worded x × T) (row_is xs)

pub Worded-Block : (at : Span) (xs : List Stmt) → Worded (s.Block at xs) ≡ WordedItems xs
unfolding shape-the_row-Stmt-0 hidden-the_row-Stmt-0 shape-the_row-Stmt-1 hidden-the_row-Stmt-1 Carrier.hidden
Worded-Block at xs = row_is xs

pub Worded-If : (at : Span) (c : Expr) (a : Stmt) → Worded (s.If at c a) ≡ Worded a
unfolding shape-the_row-Stmt-1 hidden-the_row-Stmt-1 Carrier.hidden
Worded-If at c a = refl

pub Worded-IfElse : (at : Span) (c : Expr) (a b : Stmt) → Worded (s.IfElse at c a b) ≡ (Worded a × Worded b)
unfolding shape-the_row-Stmt-1 hidden-the_row-Stmt-1 Carrier.hidden
Worded-IfElse at c a b = refl

pub Worded-While : (at : Span) (c : Expr) (a : Stmt) → Worded (s.While at c a) ≡ Worded a
unfolding shape-the_row-Stmt-1 hidden-the_row-Stmt-1 Carrier.hidden
Worded-While at c a = refl

pub Worded-Do : (at : Span) (a : Stmt) (c : Expr) → Worded (s.Do at a c) ≡ Worded a
unfolding shape-the_row-Stmt-1 hidden-the_row-Stmt-1 Carrier.hidden
Worded-Do at a c = refl

pub Worded-For : (at : Span) (o : Opening) (c : Option Expr) (x : Option deed.Simple) (a : Stmt) → Worded (s.For at o c x a) ≡ (WordedOpening o × Worded a)
unfolding shape-the_row-Stmt-1 hidden-the_row-Stmt-1 Carrier.hidden
Worded-For at o c x a = refl

-- ---- parts of files

-- the names of the variables that a part declares
abbrev pub WordedPart : Part → Type 0
WordedPart (part.Struct at x ms) = Unit {0}
WordedPart (part.Decl d) = WordedVars d.items
WordedPart (part.Function at h items) = WordedParams h.params × WordedItems items
WordedPart (part.Prototype at h) = Unit {0}

abbrev pub WordedParts : List Part → Type 0
WordedParts [] = Unit {0}
WordedParts (x ∷ xs) = WordedPart x × WordedParts xs
