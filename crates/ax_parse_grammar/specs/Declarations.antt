-- Which declarations a token list spells.
--
-- decl       = base declared { "," declared } ";"
-- base       = "int" | "struct" NAME
-- declared   = declarator [ "=" ( expr | "{" signed { "," signed } [ "," ] "}" ) ]
-- declarator = { "*" } NAME { "[" NUMBER "]" }
-- signed     = [ "-" ] NUMBER
--
-- An empty `[]` stands first alone, with a brace list or in a parameter.
use Rattle.std.specs.Prelude.{◌≡◌, ℕ, suc, ℤ, Bool, true, false, List, [], ◌∷◌, ◌++◌, Some, None}
use Rattle.ax_prog.specs.declared.tokens.Kind.TheVariants as k
use Rattle.ax_prog.specs.declared.tokens.Token.{Token}
use Rattle.ax_parse_grammar.specs.declared.terminals.Terminal.TheVariants as w
use Rattle.ax_parse_grammar.specs.declared.tree.Expr.{Expr}
use Rattle.ax_parse_grammar.specs.declared.tree.Base.{Base}
use Rattle.ax_parse_grammar.specs.declared.tree.Base.TheVariants as b
use Rattle.ax_parse_grammar.specs.declared.tree.Size.{Size}
use Rattle.ax_parse_grammar.specs.declared.tree.Signed.{Signed}
use Rattle.ax_parse_grammar.specs.declared.tree.Declarator.{Declarator}
use Rattle.ax_parse_grammar.specs.declared.tree.Initialiser.TheVariants as init
use Rattle.ax_parse_grammar.specs.declared.tree.Declared.{Declared}
use Rattle.ax_parse_grammar.specs.declared.tree.Decl.{Decl}
use Rattle.ax_parse_grammar.specs.Terminals.{Is, named, extent}
use Rattle.ax_parse_grammar.specs.Expressions.{Spells}

-- one after another, each as P says
pub data SpellAll {A : Type 0} (P : A → List Token → Type 0) : List A → List Token → Type 0 where
  none : SpellAll P [] []
  more : {x : A} {xs : List A} {ts us : List Token} → P x ts → SpellAll P xs us → SpellAll P (x ∷ xs) (ts ++ us)

-- one or more with commas between them, each as P says
pub data SpellSeparated {A : Type 0} (P : A → List Token → Type 0) : List A → List Token → Type 0 where
  one : {x : A} {ts : List Token} → P x ts → SpellSeparated P (x ∷ []) ts
  more : {x : A} {xs : List A} {ts us : List Token} (comma : Token) → Is w.Comma comma → P x ts → SpellSeparated P xs us → SpellSeparated P (x ∷ xs) (ts ++ comma ∷ us)

pub data SpellsBase : Base → List Token → Type 0 where
  int : (t : Token) → Is w.Int t → SpellsBase (b.Int t.span) (t ∷ [])
  struct : {x : List ℕ} (s t : Token) → Is w.Struct s → t.kind ≡ k.Name x → SpellsBase (b.Struct (extent (s ∷ t ∷ [])) (named t x)) (s ∷ t ∷ [])

-- so many `*`
pub data SpellStars : ℕ → List Token → Type 0 where
  none : SpellStars 0 []
  more : {n : ℕ} {ts : List Token} (t : Token) → Is w.Star t → SpellStars n ts → SpellStars (suc n) (t ∷ ts)

-- the flag says whether the first may be empty
pub data SpellSizes : Bool → List Size → List Token → Type 0 where
  none : {f : Bool} → SpellSizes f [] []
  given : {f : Bool} {n : ℤ} {xs : List Size} {ts : List Token} (first t last : Token) → Is w.OpenSquare first → t.kind ≡ k.Number n → Is w.CloseSquare last → SpellSizes false xs ts → SpellSizes f (record { span = extent (first ∷ t ∷ last ∷ []); count = Some n } ∷ xs) (first ∷ t ∷ last ∷ ts)
  empty : {xs : List Size} {ts : List Token} (first last : Token) → Is w.OpenSquare first → Is w.CloseSquare last → SpellSizes false xs ts → SpellSizes true (record { span = extent (first ∷ last ∷ []); count = None } ∷ xs) (first ∷ last ∷ ts)

-- the flag says whether the first size may be empty
pub data SpellsDeclarator : Bool → Declarator → List Token → Type 0 where
  declarator : {f : Bool} {n : ℕ} {x : List ℕ} {xs : List Size} {stars ts : List Token} (t : Token) → t.kind ≡ k.Name x → SpellStars n stars → SpellSizes f xs ts → SpellsDeclarator f (record { span = extent (stars ++ t ∷ ts); stars = n; name = named t x; sizes = xs }) (stars ++ t ∷ ts)

pub data SpellsSigned : Signed → List Token → Type 0 where
  plain : {n : ℤ} (t : Token) → t.kind ≡ k.Number n → SpellsSigned (record { span = t.span; negative = false; value = n }) (t ∷ [])
  negative : {n : ℤ} (minus t : Token) → Is w.Minus minus → t.kind ≡ k.Number n → SpellsSigned (record { span = extent (minus ∷ t ∷ []); negative = true; value = n }) (minus ∷ t ∷ [])

-- the numbers of a brace list, which may end in a comma
pub data SpellNumbers : List Signed → List Token → Type 0 where
  last : {x : Signed} {ts : List Token} → SpellsSigned x ts → SpellNumbers (x ∷ []) ts
  last_comma : {x : Signed} {ts : List Token} (comma : Token) → Is w.Comma comma → SpellsSigned x ts → SpellNumbers (x ∷ []) (ts ++ comma ∷ [])
  more : {x : Signed} {xs : List Signed} {ts us : List Token} (comma : Token) → Is w.Comma comma → SpellsSigned x ts → SpellNumbers xs us → SpellNumbers (x ∷ xs) (ts ++ comma ∷ us)

pub data SpellsDeclared : Declared → List Token → Type 0 where
  plain : {d : Declarator} {ts : List Token} → SpellsDeclarator false d ts → SpellsDeclared (record { span = extent ts; declarator = d; initialiser = init.Nothing }) ts
  value : {d : Declarator} {a : Expr} {ts us : List Token} (mark : Token) → Is w.Assign mark → SpellsDeclarator false d ts → Spells 0 a us → SpellsDeclared (record { span = extent (ts ++ mark ∷ us); declarator = d; initialiser = init.Value a }) (ts ++ mark ∷ us)
  list : {d : Declarator} {xs : List Signed} {ts us : List Token} (mark first last : Token) → Is w.Assign mark → Is w.OpenCurly first → Is w.CloseCurly last → SpellsDeclarator true d ts → SpellNumbers xs us → SpellsDeclared (record { span = extent (ts ++ mark ∷ first ∷ (us ++ last ∷ [])); declarator = d; initialiser = init.List (extent (first ∷ (us ++ last ∷ []))) xs }) (ts ++ mark ∷ first ∷ (us ++ last ∷ []))

pub data SpellsDecl : Decl → List Token → Type 0 where
  decl : {base : Base} {xs : List Declared} {bs ts : List Token} (last : Token) → Is w.Semicolon last → SpellsBase base bs → SpellSeparated SpellsDeclared xs ts → SpellsDecl (record { span = extent (bs ++ (ts ++ last ∷ [])); base = base; items = xs }) (bs ++ (ts ++ last ∷ []))
