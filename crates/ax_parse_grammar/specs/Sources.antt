-- Which sources a token list spells.
--
-- source    = { structdef | decl | function | prototype }
-- structdef = "struct" NAME "{" { base declarator { "," declarator } ";" } "}" ";"
-- head      = ( "void" | base ) { "*" } NAME "(" [ "void" | param { "," param } ] ")"
-- param     = base { "*" } [ NAME ] { "[" [NUMBER] "]" }, an empty `[]` first alone
-- function  = head block
-- prototype = head ";"
use Rattle.std.specs.Prelude.{◌≡◌, ℕ, true, false, List, [], ◌∷◌, ◌++◌, Some, None}
use Rattle.ax_prog.specs.declared.tokens.Kind.TheVariants as k
use Rattle.ax_prog.specs.declared.tokens.Token.{Token}
use Rattle.ax_parse_grammar.specs.declared.terminals.Terminal.TheVariants as w
use Rattle.ax_parse_grammar.specs.declared.tree.Base.{Base}
use Rattle.ax_parse_grammar.specs.declared.tree.Returns.{Returns}
use Rattle.ax_parse_grammar.specs.declared.tree.Returns.TheVariants as returns
use Rattle.ax_parse_grammar.specs.declared.tree.Size.{Size}
use Rattle.ax_parse_grammar.specs.declared.tree.Declarator.{Declarator}
use Rattle.ax_parse_grammar.specs.declared.tree.Decl.{Decl}
use Rattle.ax_parse_grammar.specs.declared.tree.Param.{Param}
use Rattle.ax_parse_grammar.specs.declared.tree.Head.{Head}
use Rattle.ax_parse_grammar.specs.declared.tree.Stmt.{Stmt}
use Rattle.ax_parse_grammar.specs.declared.tree.Members.{Members}
use Rattle.ax_parse_grammar.specs.declared.tree.Part.{Part}
use Rattle.ax_parse_grammar.specs.declared.tree.Part.TheVariants as part
use Rattle.ax_parse_grammar.specs.declared.tree.Tree.{Tree}
use Rattle.ax_parse_grammar.specs.Terminals.{Is, Are, named, extent}
use Rattle.ax_parse_grammar.specs.Declarations.{SpellAll, SpellSeparated, SpellsBase, SpellStars, SpellSizes, SpellsDeclarator, SpellsDecl}
use Rattle.ax_parse_grammar.specs.Statements.{SpellItems}

pub data SpellsParam : Param → List Token → Type 0 where
  with_name : {base : Base} {n : ℕ} {x : List ℕ} {xs : List Size} {bs stars ts : List Token} (t : Token) → t.kind ≡ k.Name x → SpellsBase base bs → SpellStars n stars → SpellSizes true xs ts → SpellsParam (record { span = extent (bs ++ (stars ++ t ∷ ts)); base = base; stars = n; name = Some (named t x); sizes = xs }) (bs ++ (stars ++ t ∷ ts))
  nameless : {base : Base} {n : ℕ} {xs : List Size} {bs stars ts : List Token} → SpellsBase base bs → SpellStars n stars → SpellSizes true xs ts → SpellsParam (record { span = extent (bs ++ (stars ++ ts)); base = base; stars = n; name = None; sizes = xs }) (bs ++ (stars ++ ts))

pub data SpellParams : List Param → List Token → Type 0 where
  nothing : SpellParams [] []
  void : (t : Token) → Is w.Void t → SpellParams [] (t ∷ [])
  some : {xs : List Param} {ts : List Token} → SpellSeparated SpellsParam xs ts → SpellParams xs ts

pub data SpellsReturns : Returns → List Token → Type 0 where
  void : (t : Token) → Is w.Void t → SpellsReturns (returns.Void t.span) (t ∷ [])
  base : {base : Base} {ts : List Token} → SpellsBase base ts → SpellsReturns (returns.Of base) ts

pub data SpellsHead : Head → List Token → Type 0 where
  head : {r : Returns} {n : ℕ} {x : List ℕ} {xs : List Param} {rs stars ts : List Token} (t first last : Token) → t.kind ≡ k.Name x → Is w.OpenRound first → Is w.CloseRound last → SpellsReturns r rs → SpellStars n stars → SpellParams xs ts → SpellsHead (record { span = extent (rs ++ (stars ++ t ∷ first ∷ (ts ++ last ∷ []))); returns = r; stars = n; name = named t x; params = xs }) (rs ++ (stars ++ t ∷ first ∷ (ts ++ last ∷ [])))

pub data SpellsMembers : Members → List Token → Type 0 where
  members : {base : Base} {xs : List Declarator} {bs ts : List Token} (last : Token) → Is w.Semicolon last → SpellsBase base bs → SpellSeparated (SpellsDeclarator false) xs ts → SpellsMembers (record { span = extent (bs ++ (ts ++ last ∷ [])); base = base; items = xs }) (bs ++ (ts ++ last ∷ []))

pub data SpellsPart : Part → List Token → Type 0 where
  struct : {x : List ℕ} {xs : List Members} {ts : List Token} (s t first : Token) (end : List Token) → Is w.Struct s → t.kind ≡ k.Name x → Is w.OpenCurly first → Are (w.CloseCurly ∷ w.Semicolon ∷ []) end → SpellAll SpellsMembers xs ts → SpellsPart (part.Struct (extent (s ∷ t ∷ first ∷ (ts ++ end))) (named t x) xs) (s ∷ t ∷ first ∷ (ts ++ end))
  decl : {d : Decl} {ts : List Token} → SpellsDecl d ts → SpellsPart (part.Decl d) ts
  function : {h : Head} {xs : List Stmt} {hs ts : List Token} (first last : Token) → Is w.OpenCurly first → Is w.CloseCurly last → SpellsHead h hs → SpellItems xs ts → SpellsPart (part.Function (extent (hs ++ first ∷ (ts ++ last ∷ []))) h xs) (hs ++ first ∷ (ts ++ last ∷ []))
  prototype : {h : Head} {hs : List Token} (last : Token) → Is w.Semicolon last → SpellsHead h hs → SpellsPart (part.Prototype (extent (hs ++ last ∷ [])) h) (hs ++ last ∷ [])

pub data SpellsTree : Tree → List Token → Type 0 where
  tree : {xs : List Part} {ts : List Token} → SpellAll SpellsPart xs ts → SpellsTree (record { span = extent ts; parts = xs }) ts
