-- The parser of sources as functions on lists; private contracts alone cite this.
use Rattle.std.specs.Prelude.{ℕ, Bool, true, false, if◌then◌else◌, is_some, List, [], ◌∷◌, Option, Some, None}
use Rattle.ax_prog.specs.declared.Span.{Span}
use Rattle.ax_prog.specs.declared.tokens.Token.{Token}
use Rattle.ax_parse_grammar.specs.declared.terminals.Terminal.TheVariants as w
use Rattle.ax_parse_grammar.specs.declared.tree.Name.{Name}
use Rattle.ax_parse_grammar.specs.declared.tree.Base.{Base}
use Rattle.ax_parse_grammar.specs.declared.tree.Size.{Size}
use Rattle.ax_parse_grammar.specs.declared.tree.Declarator.{Declarator}
use Rattle.ax_parse_grammar.specs.declared.tree.Returns.{Returns}
use Rattle.ax_parse_grammar.specs.declared.tree.Returns.TheVariants as returns
use Rattle.ax_parse_grammar.specs.declared.tree.Param.{Param}
use Rattle.ax_parse_grammar.specs.declared.tree.Head.{Head}
use Rattle.ax_parse_grammar.specs.declared.tree.Members.{Members}
use Rattle.ax_parse_grammar.specs.declared.tree.Part.{Part}
use Rattle.ax_parse_grammar.specs.declared.tree.Part.TheVariants as part
use Rattle.ax_parse_grammar.specs.declared.tree.Tree.{Tree}
use Rattle.ax_parse_grammar.specs.Reading.{Parser, ◌>>=◌, choose, extent_to, after, past, name, until, separated, repeated}
use Rattle.ax_parse_grammar.specs.ReadDeclarations.{base, stars, sizes, declarator, decl}
use Rattle.ax_parse_grammar.specs.ReadStatements.{items}

-- ---- what is made of the parts

abbrev pub param_of : Span → Base → ℕ → Option Name → List Size → Param
param_of at base n x xs = record { span = at; base = base; stars = n; name = x; sizes = xs }

abbrev pub head_of : Span → Returns → ℕ → Name → List Param → Head
head_of at r n x xs = record { span = at; returns = r; stars = n; name = x; params = xs }

abbrev pub members_of : Span → Base → List Declarator → Members
members_of at base xs = record { span = at; base = base; items = xs }

abbrev pub tree_of : Span → List Part → Tree
tree_of at xs = record { span = at; parts = xs }

-- ---- reading

-- behind the base and its stars
abbrev pub param_by : Parser (List Size) → List Token → Base → ℕ × List Token → Option (Param × List Token)
param_by sizes ts b n = choose (name n.1) (sizes n.1 >>= λ xs. Some (param_of (extent_to ts xs.1) b n.0 None xs.0, xs.1)) (λ x. sizes x.1 >>= λ xs. Some (param_of (extent_to ts xs.1) b n.0 (Some x.0) xs.0, xs.1))

abbrev pub param : ℕ → Parser Param
param n ts = base ts >>= λ b. param_by (sizes n true) ts b.0 (stars b.1)

-- parameters and `)`
abbrev pub params : ℕ → Parser (List Param)
params n ts = choose (after w.CloseRound ts) (choose (after w.Void ts) (until w.CloseRound (separated param n) ts) (λ us. choose (after w.CloseRound us) None (λ rest. Some ([], rest)))) (λ rest. Some ([], rest))

abbrev pub returned : Parser Returns
returned ts = choose (after w.Void ts) (base ts >>= λ b. Some (returns.Of b.0, b.1)) (λ us. Some (returns.Void (extent_to ts us), us))

abbrev pub head_by : Parser (List Param) → List Token → Returns → ℕ × List Token → Option (Head × List Token)
head_by params ts r n = name n.1 >>= λ x. choose (after w.OpenRound x.1) None (λ us. params us >>= λ xs. Some (head_of (extent_to ts xs.1) r n.0 x.0 xs.0, xs.1))

abbrev pub head : ℕ → Parser Head
head n ts = returned ts >>= λ r. head_by (params n) ts r.0 (stars r.1)

abbrev pub members : ℕ → Parser Members
members n ts = base ts >>= λ b. separated (declarator false) n b.1 >>= λ xs. choose (after w.Semicolon xs.1) None (λ rest. Some (members_of (extent_to ts rest) b.0 xs.0, rest))

abbrev pub ends_members : List Token → Bool
ends_members ts = is_some (after w.CloseCurly ts)

-- `struct NAME {`
abbrev pub struct_ahead : Parser Name
struct_ahead ts = choose (after w.Struct ts) None (λ us. name us >>= λ x. choose (after w.OpenCurly x.1) None (λ vs. Some (x.0, vs)))

abbrev pub struct_by : Parser (List Members) → List Token → Name × List Token → Option (Part × List Token)
struct_by lists ts x = lists x.1 >>= λ xs. choose (past (w.CloseCurly ∷ w.Semicolon ∷ []) xs.1) None (λ rest. Some (part.Struct (extent_to ts rest) x.0 xs.0, rest))

-- behind a base: stars, a name and `(`
abbrev pub names_function : ℕ × List Token → Bool
names_function n = choose (name n.1) false (λ x. is_some (after w.OpenRound x.1))

-- the head of a function comes first, and no declaration
abbrev pub head_ahead : List Token → Bool
head_ahead ts = choose (after w.Void ts) (choose (base ts) false (λ b. names_function (stars b.1))) (λ us. true)

abbrev pub body_by : ℕ → List Token → Head × List Token → Option (Part × List Token)
body_by n ts h = choose (after w.Semicolon h.1) (choose (after w.OpenCurly h.1) None (λ us. items n us >>= λ xs. Some (part.Function (extent_to ts xs.1) h.0 xs.0, xs.1))) (λ rest. Some (part.Prototype (extent_to ts rest) h.0, rest))

abbrev pub other_by : ℕ → Bool → Parser Part
other_by n is_head ts = if is_head then (head n ts >>= body_by n ts) else (decl n ts >>= λ d. Some (part.Decl d.0, d.1))

abbrev pub top : ℕ → Parser Part
top n ts = choose (struct_ahead ts) (other_by n (head_ahead ts) ts) (struct_by (repeated ends_members members n) ts)

abbrev pub ends_source : List Token → Bool
ends_source [] = true
ends_source (t ∷ ts) = false

abbrev pub source : ℕ → Parser Tree
source n ts = repeated ends_source top n ts >>= λ xs. Some (tree_of (extent_to ts xs.1) xs.0, xs.1)
