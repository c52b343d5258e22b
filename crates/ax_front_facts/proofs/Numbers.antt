-- The numbers of an expression are those of its tokens, and what it means can be written.
use Rattle.std.proofs.Common.{◌≡◌, ℕ, List, [], ◌∷◌, ◌++◌, refl, subst}
use Rattle.ax_prog.specs.declared.Span.{Span}
use Rattle.ax_prog.specs.declared.Ty.{Ty, Ptr', Array', more_of-Ty, end_of-Ty}
use Rattle.ax_prog.specs.declared.Ty.TheVariants as ty
use Rattle.ax_prog.specs.declared.Un.{Un}
use Rattle.ax_prog.specs.declared.Bin.{Bin}
use Rattle.ax_prog.specs.declared.Bin.TheVariants as bin
use Rattle.ax_prog.specs.declared.Expr as ex
use Rattle.ax_prog.specs.declared.Expr.TheVariants as e
use Rattle.ax_prog.specs.declared.Atom.{Atom}
use Rattle.ax_prog.specs.declared.Atom.TheVariants as atom
use Rattle.ax_prog.specs.declared.Atom.TheBlock.{shape-the_row-Atom-0, hidden-the_row-Atom-0, shape-the_row-Expr-1, hidden-the_row-Expr-1}
use Rattle.ax_prog.specs.declared.Lval.{Lval}
use Rattle.ax_prog.specs.declared.Pexpr.{Pexpr}
use Rattle.ax_prog.specs.declared.tokens.Token.{Token}
use Rattle.ax_parse_grammar.specs.declared.tree.Prefix.{Prefix}
use Rattle.ax_parse_grammar.specs.declared.tree.Expr.{Expr, Name, Number, Unary', Binary', Cond', Index', Member', Arrow', Call'}
use Rattle.ax_parse_grammar.specs.declared.tree.Expr.TheVariants as form
use Rattle.ax_parse_grammar.specs.declared.tree.Expr.TheBlock.{more_of-Expr, end_of-Expr, shape-the_row-Expr-0 as shape, hidden-the_row-Expr-0 as hidden}
use Rattle.ax_parse_grammar.specs.Trees.{span_of}
use Rattle.ax_parse_grammar.specs.Terminals.{extent}
use Rattle.ax_parse_grammar.specs.Expressions.{Spells}
use Rattle.ax_names_types.specs.declared.Typed.{Typed}
use Rattle.ax_names_types.specs.declared.Typed.TheVariants as t
use Rattle.ax_names_types.specs.Scopes.{Env}
use Rattle.ax_names_types.specs.Types.{value_of, value_of_place, compared, un_of}
use Rattle.ax_names_types.specs.Meaning.{Is, Means}
use Rattle.ax_front_facts.specs.Writable.{IsNumber, IsWritable}
use Rattle.ax_front_facts.proofs.Tokens.{Lexed, lexed_parts, lexed_around, number_token}
use denote.Hole.Carrier

-- ---- numbers in an expression

-- each number that an operator on numbers has is one that a token has
abbrev pub Numbered : Expr → Type 0
Numbered (Name at x) = Unit {0}
Numbered (Number at n) = IsNumber n
Numbered (Unary' at op s (more_of-Expr a end_of-Expr)) = Numbered a
Numbered (Binary' at op s (more_of-Expr a end_of-Expr) t (more_of-Expr b end_of-Expr)) = Numbered a × Numbered b
Numbered (Cond' at s (more_of-Expr c end_of-Expr) t (more_of-Expr a end_of-Expr) u (more_of-Expr b end_of-Expr)) = Numbered c × Numbered a × Numbered b
Numbered (Index' at s r s2 r2) = Unit {0}
Numbered (Member' at s r x) = Unit {0}
Numbered (Arrow' at s r x) = Unit {0}
Numbered (Call' at s r s2 r2) = Unit {0}

Numbered-Unary : (at : Span) (op : Prefix) (a : Expr) → Numbered (form.Unary at op a) ≡ Numbered a
unfolding shape hidden Carrier.hidden
Numbered-Unary at op a = refl

Numbered-Binary : (at : Span) (op : Bin) (a b : Expr) → Numbered (form.Binary at op a b) ≡ (Numbered a × Numbered b)
unfolding shape hidden Carrier.hidden
Numbered-Binary at op a b = refl

Numbered-Cond : (at : Span) (c a b : Expr) → Numbered (form.Cond at c a b) ≡ (Numbered c × Numbered a × Numbered b)
unfolding shape hidden Carrier.hidden
Numbered-Cond at c a b = refl

pub numbered : {l : ℕ} {a : Expr} {ts : List Token} → Spells l a ts → Lexed ts → Numbered a
numbered (Spells.name t h) l = tt
numbered (Spells.number {n = n} t is) l = number_token t n l.0 is
numbered (Spells.parens {ts = ts} first last o c p) l = numbered p (lexed_parts ts (last ∷ []) l.1).0
numbered (Spells.index first last le o c p q) l = tt
numbered (Spells.member dot t le d n p) l = tt
numbered (Spells.arrow mark t le d n p) l = tt
numbered (Spells.call first last le o c p q) l = tt
numbered (Spells.unary {op = op} {a = a} {ts = ts} t le o p) l = rw (Numbered-Unary (extent (t ∷ ts)) op a) (numbered p l.1)
numbered (Spells.binary {op = op} {a = a} {b = b} {left = left} {right = right} t le o p q) l =
    let r = lexed_around left right t l in
    rw (Numbered-Binary (extent (left ++ t ∷ right)) op a b) (numbered p r.0, numbered q r.2)
numbered (Spells.cond {c = c} {a = a} {b = b} {test = test} {then = then} {else = else} question colon q k p r v) l =
    let one = lexed_around test (then ++ colon ∷ else) question l in
    let two = lexed_around then else colon one.2 in
    rw (Numbered-Cond (extent (test ++ question ∷ (then ++ colon ∷ else))) c a b) (numbered p one.0, numbered r two.0, numbered v two.2)

-- ---- trees that can be written

writable_atom : (a : Atom) → IsWritable (e.Atom a)
unfolding shape-the_row-Atom-0 hidden-the_row-Atom-0 shape-the_row-Expr-1 hidden-the_row-Expr-1 Carrier.hidden
writable_atom a = tt

pub IsWritable-Un : (op : Un) (a : ex.Expr) → IsWritable (e.Un op a) ≡ IsWritable a
unfolding shape-the_row-Atom-0 hidden-the_row-Atom-0 shape-the_row-Expr-1 hidden-the_row-Expr-1 Carrier.hidden
IsWritable-Un op a = refl

pub IsWritable-Bin : (op : Bin) (a b : ex.Expr) → IsWritable (e.Bin op a b) ≡ (IsWritable a × IsWritable b)
unfolding shape-the_row-Atom-0 hidden-the_row-Atom-0 shape-the_row-Expr-1 hidden-the_row-Expr-1 Carrier.hidden
IsWritable-Bin op a b = refl

pub IsWritable-Cond : (f a b : ex.Expr) → IsWritable (e.Cond f a b) ≡ (IsWritable f × IsWritable a × IsWritable b)
unfolding shape-the_row-Atom-0 hidden-the_row-Atom-0 shape-the_row-Expr-1 hidden-the_row-Expr-1 Carrier.hidden
IsWritable-Cond f a b = refl

-- ---- what an expression means

-- where this is a number, it can be written
abbrev Writes : Typed → Type 0
Writes (t.Int x atoms) = IsWritable x
Writes (t.Ptr u q) = Unit {0}
Writes (t.Place u l) = Unit {0}

place_writes : (at : Span) (u : Ty) (l : Lval) → Writes (value_of_place at u l)
place_writes at ty.Int l = writable_atom (atom.Read l)
place_writes at (Ptr' s (more_of-Ty a end_of-Ty)) l = tt
place_writes at (Array' s (more_of-Ty a end_of-Ty) n) l = tt
place_writes at (ty.Struct k) l = tt

value_writes : (at : Span) (m : Typed) → Writes m → Writes (value_of at m)
value_writes at (t.Int x xs) h = h
value_writes at (t.Ptr u q) h = tt
value_writes at (t.Place u l) h = place_writes at u l

compared_writes : (op : Bin) (at : Span) (q r : Pexpr) → Writes (compared op at q r)
compared_writes bin.Ne at q r = writable_atom (atom.Differ q r)
compared_writes _ at q r = writable_atom (atom.Same q r)

operand_writes : (a : Expr) (m : Typed) (x : ex.Expr) (xs : List (Atom × Span)) → Writes m → Is a m (t.Int x xs) → IsWritable x
operand_writes a m x xs h is = subst Writes is (value_writes (span_of a) m h)

means_writes : (env : Env) (a : Expr) (m : Typed) → Means env a m → Numbered a → Writes m
means_writes env _ _ (Means.name d id u h c) n = tt
means_writes env _ _ Means.number n = n
means_writes env _ _ (Means.unary {at = at} {op = op} {a = a} {m = m} x xs g d i) n =
    rw (IsWritable-Un (un_of op) x) (operand_writes a m x xs (means_writes env a m d (rw (Numbered-Unary at op a) at n)) i)
means_writes env _ _ (Means.deref u q d h) n = tt
means_writes env _ _ (Means.address u l d) n = tt
means_writes env _ _ (Means.binary {at = at} {op = op} {a = a} {b = b} {m = v} {n = w} x y xs ys d g i j) n =
    let r = rw (Numbered-Binary at op a b) at n in
    rw (IsWritable-Bin op x y) (operand_writes a v x xs (means_writes env a v d r.0) i, operand_writes b w y ys (means_writes env b w g r.1) j)
means_writes env _ _ (Means.plus u q y ys d g i j) n = tt
means_writes env _ _ (Means.minus u q y ys d g i j) n = tt
means_writes env _ _ (Means.pointers {at = at} {op = op} u q r c d g i j) n = compared_writes op at q r
means_writes env _ _ (Means.left_null {at = at} {op = op} a u r c z g j) n = compared_writes op at _ r
means_writes env _ _ (Means.right_null {at = at} {op = op} b u q c z d i) n = compared_writes op at q _
means_writes env _ _ (Means.cond {at = at} {c = c} {a = a} {b = b} {l = u} {m = v} {n = w} x y z xs ys zs d g k i j h) n =
    let r = rw (Numbered-Cond at c a b) at n in
    rw (IsWritable-Cond x y z) (operand_writes c u x xs (means_writes env c u d r.0) i, operand_writes a v y ys (means_writes env a v g r.1) j, operand_writes b w z zs (means_writes env b w k r.2) h)
means_writes env _ _ (Means.index u q i is d g j k) n = tt
means_writes env _ _ (Means.member k l i u d j h) n = tt
means_writes env _ _ (Means.arrow k q i u d j h) n = tt

-- a number that an expression means can be written where its tokens are those of a text
pub number_writes : (env : Env) (a : Expr) (m : Typed) (x : ex.Expr) (xs : List (Atom × Span)) {l : ℕ} {ts : List Token} → Means env a m → Is a m (t.Int x xs) → Spells l a ts → Lexed ts → IsWritable x
number_writes env a m x xs d is s h = operand_writes a m x xs (means_writes env a m d (numbered s h)) is
