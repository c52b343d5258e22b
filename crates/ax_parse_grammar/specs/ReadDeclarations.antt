-- The parser of declarations as functions on lists; private contracts alone cite this.
use Rattle.std.specs.Prelude.{ℕ, zero, suc, ℤ, Bool, true, false, if◌then◌else◌, is_some, List, [], ◌∷◌, Option, Some, None}
use Rattle.ax_prog.specs.declared.Span.{Span}
use Rattle.ax_prog.specs.declared.tokens.Kind.{Kind}
use Rattle.ax_prog.specs.declared.tokens.Kind.TheVariants as k
use Rattle.ax_prog.specs.declared.tokens.Token.{Token}
use Rattle.ax_parse_grammar.specs.declared.terminals.Terminal.TheVariants as w
use Rattle.ax_parse_grammar.specs.declared.tree.Name.{Name}
use Rattle.ax_parse_grammar.specs.declared.tree.Base.{Base}
use Rattle.ax_parse_grammar.specs.declared.tree.Base.TheVariants as b
use Rattle.ax_parse_grammar.specs.declared.tree.Size.{Size}
use Rattle.ax_parse_grammar.specs.declared.tree.Signed.{Signed}
use Rattle.ax_parse_grammar.specs.declared.tree.Declarator.{Declarator}
use Rattle.ax_parse_grammar.specs.declared.tree.Initialiser.{Initialiser}
use Rattle.ax_parse_grammar.specs.declared.tree.Initialiser.TheVariants as init
use Rattle.ax_parse_grammar.specs.declared.tree.Declared.{Declared}
use Rattle.ax_parse_grammar.specs.declared.tree.Decl.{Decl}
use Rattle.ax_parse_grammar.specs.declared.tree.Expr.{Expr}
use Rattle.ax_parse_grammar.specs.Terminals.{is}
use Rattle.ax_parse_grammar.specs.Reading.{Parser, ◌>>=◌, choose, extent_to, after, next, name, separated}
use Rattle.ax_parse_grammar.specs.ReadExpressions.{expr}

-- ---- what is made of the parts

abbrev pub size_of : Span → Option ℤ → Size
size_of at n = record { span = at; count = n }

abbrev pub declarator_of : Span → ℕ → Name → List Size → Declarator
declarator_of at n x xs = record { span = at; stars = n; name = x; sizes = xs }

abbrev pub signed_of : Span → Bool → ℤ → Signed
signed_of at negative n = record { span = at; negative = negative; value = n }

abbrev pub declared_of : Span → Declarator → Initialiser → Declared
declared_of at d i = record { span = at; declarator = d; initialiser = i }

abbrev pub decl_of : Span → Base → List Declared → Decl
decl_of at base xs = record { span = at; base = base; items = xs }

-- ---- reading

abbrev pub number_of : Kind → Option ℤ
number_of (k.Number n) = Some n
number_of _ = None

abbrev pub base : Parser Base
base ts = choose (after w.Struct ts) (choose (after w.Int ts) None (λ us. Some (b.Int (extent_to ts us), us))) (λ us. name us >>= λ x. Some (b.Struct (extent_to ts x.1) x.0, x.1))

-- how many `*` come first, and the tokens after them
abbrev pub stars : List Token → ℕ × List Token
stars [] = (0, [])
stars (t ∷ ts) = if is w.Star t.kind then (suc (stars ts).0, (stars ts).1) else (0, t ∷ ts)

-- behind the `[` with which ts begin
abbrev pub size_by : Bool → List Token → Parser Size
size_by f ts us = choose (next number_of us) (if f then choose (after w.CloseSquare us) None (λ rest. Some (size_of (extent_to ts rest) None, rest)) else None) (λ n. choose (after w.CloseSquare n.1) None (λ rest. Some (size_of (extent_to ts rest) (Some n.0), rest)))

abbrev pub sizes_by : Bool → Parser (List Size) → Parser (List Size)
sizes_by f again ts = choose (after w.OpenSquare ts) (Some ([], ts)) (λ us. size_by f ts us >>= λ x. again x.1 >>= λ xs. Some (x.0 ∷ xs.0, xs.1))

unfoldable pub sizes : ℕ → Bool → Parser (List Size)
sizes zero f ts = None
sizes (suc n) f ts = sizes_by f (sizes n false) ts

abbrev pub declarator_by : Parser (List Size) → List Token → ℕ × List Token → Option (Declarator × List Token)
declarator_by sizes ts n = name n.1 >>= λ x. sizes x.1 >>= λ xs. Some (declarator_of (extent_to ts xs.1) n.0 x.0 xs.0, xs.1)

abbrev pub declarator : Bool → ℕ → Parser Declarator
declarator f n ts = declarator_by (sizes n f) ts (stars ts)

-- no size is empty, where the first alone may be
abbrev pub is_sized : List Size → Bool
is_sized [] = true
is_sized (x ∷ xs) = is_some x.count

abbrev pub signed : Parser Signed
signed ts = choose (after w.Minus ts) (next number_of ts >>= λ n. Some (signed_of (extent_to ts n.1) false n.0, n.1)) (λ us. next number_of us >>= λ n. Some (signed_of (extent_to ts n.1) true n.0, n.1))

abbrev pub numbers_by : Parser (List Signed) → Parser (List Signed)
numbers_by again ts = signed ts >>= λ x. choose (after w.CloseCurly x.1) (choose (after w.Comma x.1) None (λ us. choose (after w.CloseCurly us) (again us >>= λ xs. Some (x.0 ∷ xs.0, xs.1)) (λ rest. Some (x.0 ∷ [], rest)))) (λ rest. Some (x.0 ∷ [], rest))

-- the numbers of a brace list and `}`
unfoldable pub numbers : ℕ → Parser (List Signed)
numbers zero ts = None
numbers (suc n) ts = numbers_by (numbers n) ts

abbrev pub value_by : Parser Expr → List Token → Declarator → Parser Declared
value_by whole ts d us = whole us >>= λ a. Some (declared_of (extent_to ts a.1) d (init.Value a.0), a.1)

abbrev pub list_by : Parser (List Signed) → List Token → Declarator → List Token → Parser Declared
list_by numbers ts d us vs = numbers vs >>= λ xs. Some (declared_of (extent_to ts xs.1) d (init.List (extent_to us xs.1) xs.0), xs.1)

abbrev pub declared_by : Parser Expr → Parser (List Signed) → List Token → Declarator × List Token → Option (Declared × List Token)
declared_by whole numbers ts d = choose (after w.Assign d.1) (if is_sized (d.0).sizes then Some (declared_of (extent_to ts d.1) d.0 init.Nothing, d.1) else None) (λ us. choose (after w.OpenCurly us) (if is_sized (d.0).sizes then value_by whole ts d.0 us else None) (λ vs. list_by numbers ts d.0 us vs))

abbrev pub declared : ℕ → Parser Declared
declared n ts = declarator true n ts >>= declared_by (expr n) (numbers n) ts

abbrev pub decl_by : Parser (List Declared) → List Token → Base × List Token → Option (Decl × List Token)
decl_by items ts b = items b.1 >>= λ xs. choose (after w.Semicolon xs.1) None (λ rest. Some (decl_of (extent_to ts rest) b.0 xs.0, rest))

abbrev pub decl : ℕ → Parser Decl
decl n ts = base ts >>= decl_by (separated declared n) ts
