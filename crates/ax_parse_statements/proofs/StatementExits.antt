-- What each exit of the code answers, at each number.
use Rattle.std.proofs.Common.{◌≡◌, true, false, List, Option, Some, None, refl, ap, sym, ◌∙◌}
use Rattle.ax_prog.specs.declared.tokens.Token.{Token}
use Rattle.ax_parse_grammar.specs.declared.terminals.Terminal.TheVariants as w
use Rattle.ax_parse_grammar.specs.declared.tree.Expr.{Expr}
use Rattle.ax_parse_grammar.specs.declared.tree.Decl.{Decl}
use Rattle.ax_parse_grammar.specs.declared.tree.Simple.{Simple}
use Rattle.ax_parse_grammar.specs.declared.tree.Stmt.{Stmt}
use Rattle.ax_parse_grammar.specs.declared.tree.Stmt.TheVariants as s
use Rattle.ax_parse_grammar.specs.Reading.{Parser, ◌>>=◌, choose, extent_to, after, until}
use Rattle.ax_parse_grammar.specs.ReadStatements.{Stood, begins_decl, test_by, if_by, else_by, while_by, do_by, for_head_by, for_by, item_by}
use Rattle.ax_parse_statements.specs.SimplesFound.{do_end_by}
use Rattle.ax_parse_statements.specs.ForsFound.{Header, header_by}
use Rattle.ax_parse_statements.proofs.ForExits.{choose_then}
use Rattle.ax_parse_statements.specs.StatementsFound.{decl_item_by, looped_by}

-- ---- `if` and `while`

module _ (whole : Parser Expr) (part : Parser Stmt) (ts us : List Token) where
  pub if_none : test_by whole us ≡ None → if_by whole part ts us ≡ None
  if_none none = rw none refl

  pub if_open : (c : Expr) (vs : List Token) → test_by whole us ≡ Some (c, vs) → part vs ≡ None → if_by whole part ts us ≡ None
  if_open c vs one none = rw one (rw none refl)

  pub if_is : (c : Expr) (vs rest : List Token) (a : Stmt) → test_by whole us ≡ Some (c, vs) → part vs ≡ Some (a, rest) → if_by whole part ts us ≡ else_by part ts c (a, rest)
  if_is c vs rest a one two = rw one (rw two refl)

  pub while_none : test_by whole us ≡ None → while_by whole part ts us ≡ None
  while_none none = rw none refl

  pub while_open : (c : Expr) (vs : List Token) → test_by whole us ≡ Some (c, vs) → part vs ≡ None → while_by whole part ts us ≡ None
  while_open c vs one none = rw one (rw none refl)

  pub while_is : (c : Expr) (vs rest : List Token) (a made : Stmt) → made ≡ s.While (extent_to ts rest) c a → test_by whole us ≡ Some (c, vs) → part vs ≡ Some (a, rest) → while_by whole part ts us ≡ Some (made, rest)
  while_is c vs rest a made is one two = rw one (rw two (rw is refl))

module _ (part : Parser Stmt) (ts us : List Token) (c : Expr) (a : Stmt) where
  pub else_off : (made : Stmt) → after w.Else us ≡ None → made ≡ s.If (extent_to ts us) c a → else_by part ts c (a, us) ≡ Some (made, us)
  else_off made off is = rw off (rw is refl)

  pub else_none : (vs : List Token) → after w.Else us ≡ Some vs → part vs ≡ None → else_by part ts c (a, us) ≡ None
  else_none vs on none = rw on (rw none refl)

  pub else_is : (vs rest : List Token) (b made : Stmt) → after w.Else us ≡ Some vs → made ≡ s.IfElse (extent_to ts rest) c a b → part vs ≡ Some (b, rest) → else_by part ts c (a, us) ≡ Some (made, rest)
  else_is vs rest b made on is one = rw on (rw one (rw is refl))

-- ---- `do`

do_then : {A B C D : Type 0} (x : A) (o : Option B) (f : B → Option C) (g : A → C → Option D) → (choose o None (λ r. Some (x, r)) >>= λ (y : A × B). f y.1 >>= g y.0) ≡ choose o None f >>= g x
do_then x None f g = refl
do_then x (Some r) f g = refl

abbrev done : List Token → Stmt → Expr × List Token → Option Stood
done ts x c = Some (s.Do (extent_to ts c.1) x c.0, c.1)

module _ (whole : Parser Expr) (part : Parser Stmt) (ts us : List Token) where
  pub do_none : part us ≡ None → do_by whole part ts us ≡ None
  do_none none = rw none refl

  do_on : (x : Stmt) (vs : List Token) → part us ≡ Some (x, vs) → do_by whole part ts us ≡ do_end_by whole vs >>= done ts x
  do_on x vs one = rw one (do_then x (after w.While vs) (λ r. until w.Semicolon (test_by whole) r) (done ts))

  pub do_open : (x : Stmt) (vs : List Token) → part us ≡ Some (x, vs) → do_end_by whole vs ≡ None → do_by whole part ts us ≡ None
  do_open x vs one none = do_on x vs one ∙ ap (λ (o : Option (Expr × List Token)). o >>= done ts x) none

  pub do_is : (x made : Stmt) (vs rest : List Token) (c : Expr) → made ≡ s.Do (extent_to ts rest) x c → part us ≡ Some (x, vs) → do_end_by whole vs ≡ Some (c, rest) → do_by whole part ts us ≡ Some (made, rest)
  do_is x made vs rest c is one two = do_on x vs one ∙ ap (λ (o : Option (Expr × List Token)). o >>= done ts x) two ∙ ap (λ (y : Stmt). Some (y, rest)) (sym is)

-- ---- `for`

module _ (part : Parser Stmt) (ts us : List Token) (h : Header) where
  pub looped_none : part us ≡ None → looped_by part ts h us ≡ None
  looped_none none = rw none refl

  pub looped_is : (rest : List Token) (a made : Stmt) → made ≡ s.For (extent_to ts rest) h.0 (h.1).0 (h.1).1 a → part us ≡ Some (a, rest) → looped_by part ts h us ≡ Some (made, rest)
  looped_is rest a made is one = rw one (rw is refl)

module _ (whole : Parser Expr) (decl : Parser Decl) (simple : Parser Simple) (part : Parser Stmt) (ts us : List Token) where
  for_on : (o : Option (Header × List Token)) → header_by whole decl simple us ≡ o → for_by whole decl simple part ts us ≡ o >>= λ (y : Header × List Token). looped_by part ts y.0 y.1
  for_on o one = choose_then (after w.OpenRound us) (λ vs. for_head_by whole decl simple vs) (λ (y : Header × List Token). looped_by part ts y.0 y.1) ∙ ap (λ (p : Option (Header × List Token)). p >>= λ (y : Header × List Token). looped_by part ts y.0 y.1) one

  pub for_none : header_by whole decl simple us ≡ None → for_by whole decl simple part ts us ≡ None
  for_none none = for_on None none

  pub for_is : (h : Header) (vs : List Token) → header_by whole decl simple us ≡ Some (h, vs) → for_by whole decl simple part ts us ≡ looped_by part ts h vs
  for_is h vs one = for_on (Some (h, vs)) one

-- ---- items of blocks

module _ (decl : Parser Decl) (part : Parser Stmt) (ts : List Token) where
  pub decl_item_none : decl ts ≡ None → decl_item_by decl ts ≡ None
  decl_item_none none = rw none refl

  pub decl_item_is : (d : Decl) (us : List Token) → decl ts ≡ Some (d, us) → decl_item_by decl ts ≡ Some (s.Decl d, us)
  decl_item_is d us one = rw one refl

  pub item_decl : begins_decl ts ≡ true → item_by decl part ts ≡ decl_item_by decl ts
  item_decl is = rw is refl

  pub item_part : begins_decl ts ≡ false → item_by decl part ts ≡ part ts
  item_part is = rw is refl
