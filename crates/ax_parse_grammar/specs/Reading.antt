-- Parsers as functions on lists; private contracts alone cite these files.
--
-- A parser takes a number that bounds its recursion. What it settles on, it answers with every number from some one on.
use Rattle.std.specs.Prelude.{◌≡◌, ◌≤◌, ℕ, zero, suc, ◌-◌, Bool, if◌then◌else◌, List, [], ◌∷◌, length, take, Option, Some, None}
use Rattle.ax_prog.specs.declared.Span.{Span}
use Rattle.ax_prog.specs.declared.tokens.Kind.{Kind}
use Rattle.ax_prog.specs.declared.tokens.Kind.TheVariants as k
use Rattle.ax_prog.specs.declared.tokens.Token.{Token}
use Rattle.ax_parse_grammar.specs.declared.terminals.Terminal.{Terminal}
use Rattle.ax_parse_grammar.specs.declared.terminals.Terminal.TheVariants as w
use Rattle.ax_parse_grammar.specs.declared.tree.Name.{Name}
use Rattle.ax_parse_grammar.specs.Terminals.{is, named, extent}

-- what is found, and the tokens after it
abbrev pub Parser : Type 0 → Type 0
Parser A = List Token → Option (A × List Token)

infixl 10 ◌>>=◌
abbrev pub ◌>>=◌ : {A B : Type 0} → Option A → (A → Option B) → Option B
None >>= f = None
(Some x) >>= f = f x

-- what o holds goes to f
abbrev pub choose : {A B : Type 0} → Option A → B → (A → B) → B
choose None d f = d
choose (Some x) d f = f x

-- the extent of the tokens of start before rest
abbrev pub extent_to : List Token → List Token → Span
extent_to start rest = extent (take (length start - length rest) start)

-- the tokens after this terminal, where it comes first
abbrev pub after : Terminal → List Token → Option (List Token)
after what [] = None
after what (t ∷ ts) = if is what t.kind then Some ts else None

-- the tokens after these terminals, where they come first
abbrev pub past : List Terminal → List Token → Option (List Token)
past [] ts = Some ts
past (what ∷ whats) ts = choose (after what ts) None (λ rest. past whats rest)

-- what the first token is by f
abbrev pub next : {A : Type 0} → (Kind → Option A) → Parser A
next f [] = None
next f (t ∷ ts) = choose (f t.kind) None (λ a. Some (a, ts))

-- a name that comes first
abbrev pub name_in : Token → Kind → Parser Name
name_in t (k.Name x) ts = Some (named t x, ts)
name_in t _ ts = None

abbrev pub name : Parser Name
name [] = None
name (t ∷ ts) = name_in t t.kind ts

-- what p reads and the terminal
abbrev pub until : {A : Type 0} → Terminal → Parser A → Parser A
until what p ts = p ts >>= λ x. choose (after what x.1) None (λ rest. Some (x.0, rest))

-- what p reads, if anything, and the terminal
abbrev pub maybe_until : {A : Type 0} → Terminal → Parser A → Parser (Option A)
maybe_until what p ts = choose (after what ts) (until what p ts >>= λ x. Some (Some x.0, x.1)) (λ rest. Some (None, rest))

-- one or more with commas between them
abbrev pub many_by : {A : Type 0} → Parser A → Parser (List A) → Parser (List A)
many_by one many ts = one ts >>= λ x. choose (after w.Comma x.1) (Some (x.0 ∷ [], x.1)) (λ rest. many rest >>= λ xs. Some (x.0 ∷ xs.0, xs.1))

unfoldable pub separated : {A : Type 0} → (ℕ → Parser A) → ℕ → Parser (List A)
separated p zero ts = None
separated p (suc n) ts = many_by (p n) (separated p n) ts

-- one after another up to an end
abbrev pub repeat_by : {A : Type 0} → Bool → Parser A → Parser (List A) → Parser (List A)
repeat_by at_end one again ts = if at_end then Some ([], ts) else (one ts >>= λ x. again x.1 >>= λ xs. Some (x.0 ∷ xs.0, xs.1))

unfoldable pub repeated : {A : Type 0} → (List Token → Bool) → (ℕ → Parser A) → ℕ → Parser (List A)
repeated ends p zero ts = None
repeated ends p (suc n) ts = repeat_by (ends ts) (p n) (repeated ends p n) ts

-- from some number on the answer is o
abbrev pub Settles : {A : Type 0} → (ℕ → Option A) → Option A → Type 0
Settles f o = (n : ℕ) × ((m : ℕ) → n ≤ m → f m ≡ o)
