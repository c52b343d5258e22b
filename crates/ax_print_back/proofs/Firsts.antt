-- With which tokens expressions begin that stand directly behind a prefix mark.
use Rattle.std.proofs.Common.{◌≡◌, ℕ, ◌≤◌, Bool, true, false, List, [], ◌∷◌, ◌++◌, Option, Some, refl, sym, ap, ◌∙◌, arith}
use Rattle.std.proofs.lemmas.Bool.{false≢true}
use Rattle.std.proofs.lemmas.Option.{none-some}
use Rattle.ax_prog.specs.declared.Span.{Span}
use Rattle.ax_prog.specs.declared.Bin.{Bin}
use Rattle.ax_prog.specs.declared.Bin.TheVariants as bin
use Rattle.ax_prog.specs.declared.Pexpr.{Pexpr}
use Rattle.ax_prog.specs.declared.Pexpr.TheVariants as p
use Rattle.ax_prog.specs.declared.Expr as ex
use Rattle.ax_prog.specs.declared.Expr.TheVariants as number
use Rattle.ax_prog.specs.declared.Atom.TheBlock.{more_of-Atom, end_of-Atom, shape-the_row-Atom-0, hidden-the_row-Atom-0, shape-the_row-Expr-1, hidden-the_row-Expr-1}
use Rattle.ax_prog.specs.declared.tokens.Kind.{Kind}
use Rattle.ax_prog.specs.declared.tokens.Kind.TheVariants as k
use Rattle.ax_prog.specs.declared.tokens.Mark.TheVariants as m
use Rattle.ax_prog.specs.declared.tokens.Token.{Token}
use Rattle.ax_parse_grammar.specs.declared.tree.Prefix.{Prefix}
use Rattle.ax_parse_grammar.specs.declared.tree.Prefix.TheVariants as pre
use Rattle.ax_parse_grammar.specs.declared.tree.Expr.{Expr, Name, Number, Unary', Binary', Cond', Index', Member', Arrow', Call'}
use Rattle.ax_parse_grammar.specs.Trees.{span_of}
use Rattle.ax_parse_grammar.specs.Operators.{prefix_of}
use Rattle.ax_parse_grammar.specs.Expressions.{Spells}
use Rattle.ax_print.specs.Text.{is_read}
use Rattle.ax_names_types.specs.declared.Typed.{Typed}
use Rattle.ax_names_types.specs.declared.Typed.TheVariants as t
use Rattle.ax_names_types.specs.Scopes.{Env}
use Rattle.ax_names_types.specs.Types.{value_of, compared}
use Rattle.ax_names_types.specs.Meaning.{Means}
use Rattle.ax_print_back.proofs.Levels.{top, below_unary}
use denote.Hole.Carrier

-- a token whose text no prefix mark before it draws in
abbrev pub begins : Kind → Bool
begins (k.Name x) = true
begins (k.Number n) = true
begins (k.Mark m.OpenRound) = true
begins (k.Mark m.Star) = true
begins _ = false

-- the first token is one
abbrev pub Begin : List Token → Type 0
Begin [] = ⊥
Begin (t ∷ ts) = begins t.kind ≡ true

begin_append : (ts us : List Token) → Begin ts → Begin (ts ++ us)
begin_append [] us h = absurd h
begin_append (t ∷ ts) us h = h

-- postfix expressions
first_postfix : {l : ℕ} {a : Expr} {ts : List Token} → 12 ≤ l → Spells l a ts → Begin ts
first_postfix le (Spells.name t h) = ap begins h
first_postfix le (Spells.number t h) = ap begins h
first_postfix le (Spells.parens first last o c p) = ap begins o
first_postfix le (Spells.index {ts = ts} {us = us} first last m o c p q) = begin_append ts (first ∷ (us ++ last ∷ [])) (first_postfix (omega arith) p)
first_postfix le (Spells.member {ts = ts} dot t m d n p) = begin_append ts (dot ∷ t ∷ []) (first_postfix (omega arith) p)
first_postfix le (Spells.arrow {ts = ts} mark t m d n p) = begin_append ts (mark ∷ t ∷ []) (first_postfix (omega arith) p)
first_postfix le (Spells.call {ts = ts} {us = us} first last m o c p q) = begin_append ts (first ∷ (us ++ last ∷ [])) (first_postfix (omega arith) p)
first_postfix le (Spells.unary t m o p) = absurd (omega arith)
first_postfix le (Spells.binary {op = op} t m o p q) = absurd (omega (arith, below_unary op))
first_postfix le (Spells.cond question colon q k p r v) = absurd (omega arith)

-- ---- what is read

abbrev is_deref : Prefix → Bool
is_deref pre.Deref = true
is_deref _ = false

-- no operator of numbers stands at its root
abbrev pub is_place : Expr → Bool
is_place (Name at x) = true
is_place (Number at n) = true
is_place (Unary' at op s row) = is_deref op
is_place (Binary' at op s row t row2) = false
is_place (Cond' at s row t row2 u row3) = false
is_place (Index' at s row t row2) = true
is_place (Member' at s row x) = true
is_place (Arrow' at s row x) = true
is_place (Call' at s row t row2) = true

same_prefix : (op with : Prefix) → (let o : Option Prefix = Some op in o) ≡ Some with → is_deref op ≡ is_deref with
same_prefix op with h = cc

first_star : (kind : Kind) (op : Prefix) → prefix_of kind ≡ Some op → is_deref op ≡ true → begins kind ≡ true
first_star (k.Mark m.Star) op h d = refl
first_star (k.Mark m.Minus) op h d = let z = same_prefix pre.Neg op h in cc
first_star (k.Mark m.Bang) op h d = let z = same_prefix pre.Not op h in cc
first_star (k.Mark m.Tilde) op h d = let z = same_prefix pre.BitNot op h in cc
first_star (k.Mark m.Amp) op h d = let z = same_prefix pre.Address op h in cc
first_star _ op h d = absurd (none-some op h)

pub first_place : {l : ℕ} {a : Expr} {ts : List Token} → is_place a ≡ true → Spells l a ts → Begin ts
first_place h (Spells.name t g) = ap begins g
first_place h (Spells.number t g) = ap begins g
first_place h (Spells.parens first last o c p) = ap begins o
first_place h (Spells.index {ts = ts} {us = us} first last m o c p q) = begin_append ts (first ∷ (us ++ last ∷ [])) (first_postfix (omega arith) p)
first_place h (Spells.member {ts = ts} dot t m d n p) = begin_append ts (dot ∷ t ∷ []) (first_postfix (omega arith) p)
first_place h (Spells.arrow {ts = ts} mark t m d n p) = begin_append ts (mark ∷ t ∷ []) (first_postfix (omega arith) p)
first_place h (Spells.call {ts = ts} {us = us} first last m o c p q) = begin_append ts (first ∷ (us ++ last ∷ [])) (first_postfix (omega arith) p)
first_place h (Spells.unary {op = op} t m o p) = first_star t.kind op o h
first_place h (Spells.binary t m o p q) = absurd (cc)
first_place h (Spells.cond question colon q k p r v) = absurd (cc)

pub top_place : (a : Expr) → is_place a ≡ true → 11 ≤ top a
top_place (Name at x) h = omega arith
top_place (Number at n) h = omega arith
top_place (Unary' at op s row) h = omega arith
top_place (Binary' at op s row t row2) h = absurd (cc)
top_place (Cond' at s row t row2 u row3) h = absurd (cc)
top_place (Index' at s row t row2) h = omega arith
top_place (Member' at s row x) h = omega arith
top_place (Arrow' at s row x) h = omega arith
top_place (Call' at s row t row2) h = omega arith

-- it is the number that a place has
abbrev pub reads_in : ex.Expr → Bool
reads_in (number.Atom' s (more_of-Atom a end_of-Atom)) = is_read a
reads_in _ = false

abbrev pub reads : Typed → Bool
reads (t.Int x atoms) = reads_in x
reads _ = false

compared_reads : (op : Bin) (at : Span) (q r : Pexpr) → reads (value_of at (compared op at q r)) ≡ false
unfolding shape-the_row-Atom-0 hidden-the_row-Atom-0 shape-the_row-Expr-1 hidden-the_row-Expr-1 Carrier.hidden
compared_reads bin.Ne at q r = refl
compared_reads _ at q r = refl

pub place_of : (there : Env) {a : Expr} {m : Typed} → Means there a m → reads (value_of (span_of a) m) ≡ true → is_place a ≡ true
unfolding shape-the_row-Atom-0 hidden-the_row-Atom-0 shape-the_row-Expr-1 hidden-the_row-Expr-1 Carrier.hidden
place_of there (Means.name d id u h g) r = refl
place_of there Means.number r = refl
place_of there (Means.unary x xs h d g) r = absurd (cc)
place_of there (Means.deref u q d g) r = refl
place_of there (Means.address u l d) r = absurd (cc)
place_of there (Means.binary x y xs ys d g h o) r = absurd (cc)
place_of there (Means.plus u q y ys d g h o) r = absurd (cc)
place_of there (Means.minus u q y ys d g h o) r = absurd (cc)
place_of there (Means.pointers {at = at} {op = op} u q s h d g o w) r = absurd (false≢true (sym (compared_reads op at q s) ∙ r))
place_of there (Means.left_null {at = at} {op = op} a u s h z g o) r = absurd (false≢true (sym (compared_reads op at p.Null s) ∙ r))
place_of there (Means.right_null {at = at} {op = op} b u q h z g o) r = absurd (false≢true (sym (compared_reads op at q p.Null) ∙ r))
place_of there (Means.cond x y z xs ys zs d g h o w v) r = absurd (cc)
place_of there (Means.index u q i is d g h o) r = refl
place_of there (Means.member k l i u d g h) r = refl
place_of there (Means.arrow k q i u d g h) r = refl
