-- What each exit of the code answers, at each number.
use Rattle.std.specs.Prelude.{option_map}
use Rattle.std.proofs.Common.{◌≡◌, Bool, List, [], ◌∷◌, Option, Some, None, refl, ap, ◌∙◌}
use Rattle.ax_prog.specs.declared.Span.{Span}
use Rattle.ax_prog.specs.declared.Bin.{Bin}
use Rattle.ax_prog.specs.declared.tokens.Token.{Token}
use Rattle.ax_parse_grammar.specs.declared.terminals.Terminal.{Terminal}
use Rattle.ax_parse_grammar.specs.declared.terminals.Terminal.TheVariants as w
use Rattle.ax_parse_grammar.specs.declared.tree.Prefix.{Prefix}
use Rattle.ax_parse_grammar.specs.declared.tree.Expr.{Expr}
use Rattle.ax_parse_grammar.specs.declared.tree.Decl.{Decl}
use Rattle.ax_parse_grammar.specs.declared.tree.Simple.{Simple}
use Rattle.ax_parse_grammar.specs.declared.tree.Simple.TheVariants as act
use Rattle.ax_parse_grammar.specs.declared.tree.Opening.TheVariants as opening
use Rattle.ax_parse_grammar.specs.declared.tree.Stmt.{Stmt}
use Rattle.ax_parse_grammar.specs.declared.tree.Stmt.TheVariants as s
use Rattle.ax_parse_grammar.specs.Operators.{prefix_of, compound_of, step_of}
use Rattle.ax_parse_grammar.specs.Reading.{Parser, ◌>>=◌, choose, extent_to, after, past, next, until, maybe_until}
use Rattle.ax_parse_grammar.specs.ReadExpressions.{Found, Chain}
use Rattle.ax_parse_grammar.specs.ReadStatements.{Stood, assign_by, call_by, chain_by, left_by, simple_by, test_by, return_by, read_by}
use Rattle.ax_parse_statements.specs.SimplesFound.{set_by, change_by, decl_opening_by, simple_opening_by, do_end_by}

-- what a test of one token found
pub mapped : {A B : Type 0} (f : A → B) (p : Option B) (o : Option A) (x : A) → p ≡ option_map f o → o ≡ Some x → p ≡ Some (f x)
mapped f p o x h is = h ∙ ap (option_map f) is

pub unmapped : {A B : Type 0} (f : A → B) (p : Option B) (o : Option A) → p ≡ option_map f o → o ≡ None → p ≡ None
unmapped f p o h is = h ∙ ap (option_map f) is

-- ---- what ends in a terminal

module _ {A : Type 0} (what : Terminal) (p : Parser A) (ts : List Token) where
  pub until_none : p ts ≡ None → until what p ts ≡ None
  until_none none = rw none refl

  pub until_off : (x : A) (us : List Token) → p ts ≡ Some (x, us) → after what us ≡ None → until what p ts ≡ None
  until_off x us one off = rw one (rw off refl)

  pub until_is : (x : A) (us rest : List Token) → p ts ≡ Some (x, us) → after what us ≡ Some rest → until what p ts ≡ Some (x, rest)
  until_is x us rest one is = rw one (rw is refl)

  pub maybe_nothing : (rest : List Token) → after what ts ≡ Some rest → maybe_until what p ts ≡ Some (None, rest)
  maybe_nothing rest is = rw is refl

  pub maybe_none : after what ts ≡ None → until what p ts ≡ None → maybe_until what p ts ≡ None
  maybe_none off none = rw off (rw none refl)

  pub maybe_is : (x : A) (rest : List Token) → after what ts ≡ None → until what p ts ≡ Some (x, rest) → maybe_until what p ts ≡ Some (Some x, rest)
  maybe_is x rest off is = rw off (rw is refl)

-- ---- simple statements

module _ (whole : Parser Expr) (ts us : List Token) (x : Expr) where
  pub set_none : whole us ≡ None → set_by whole ts x us ≡ None
  set_none none = rw none refl

  pub set_is : (rest : List Token) (y : Expr) (at : Span) → at ≡ extent_to ts rest → whole us ≡ Some (y, rest) → set_by whole ts x us ≡ Some (act.Assign at x y, rest)
  set_is rest y at span one = rw one (rw span refl)

  pub change_none : (op : Bin) → whole us ≡ None → change_by whole ts x op us ≡ None
  change_none op none = rw none refl

  pub change_is : (rest : List Token) (op : Bin) (y : Expr) (at : Span) → at ≡ extent_to ts rest → whole us ≡ Some (y, rest) → change_by whole ts x op us ≡ Some (act.Change at x op y, rest)
  change_is rest op y at span one = rw one (rw span refl)

module _ (whole : Parser Expr) (ts us : List Token) (x : Expr) (d : Option (Simple × List Token)) where
  pub assign_on : (vs : List Token) → after w.Assign us ≡ Some vs → assign_by whole ts (x, us) d ≡ set_by whole ts x vs
  assign_on vs on = rw on refl

  pub compound_on : (vs : List Token) (op : Bin) → after w.Assign us ≡ None → next compound_of us ≡ Some (op, vs) → assign_by whole ts (x, us) d ≡ change_by whole ts x op vs
  compound_on vs op off on = rw off (rw on refl)

  pub assign_off : after w.Assign us ≡ None → next compound_of us ≡ None → assign_by whole ts (x, us) d ≡ d
  assign_off off none = rw off (rw none refl)

module _ (whole : Parser Expr) (ts us : List Token) (x : Expr) (called : Bool) where
  pub chain_off : next step_of us ≡ None → chain_by whole ts ((x, called), us) ≡ assign_by whole ts (x, us) (call_by ts ((x, called), us))
  chain_off off = rw off refl

  pub chain_step : (rest : List Token) (up : Bool) (at : Span) → next step_of us ≡ Some (up, rest) → at ≡ extent_to ts rest → chain_by whole ts ((x, called), us) ≡ Some (act.Step at x up, rest)
  chain_step rest up at is span = rw is (rw span refl)

module _ (whole unary : Parser Expr) (postfix : List Token → Option Chain) (ts : List Token) where
  pub left_none : next prefix_of ts ≡ None → postfix ts ≡ None → left_by whole unary postfix ts ≡ None
  left_none off none = rw off (rw none refl)

  pub left_is : (c : Chain) → next prefix_of ts ≡ None → postfix ts ≡ Some c → left_by whole unary postfix ts ≡ chain_by whole ts c
  left_is c off is = rw off (rw is refl)

  pub prefixed_none : {p : Prefix × List Token} → next prefix_of ts ≡ Some p → unary ts ≡ None → left_by whole unary postfix ts ≡ None
  prefixed_none on none = rw on (rw none refl)

  pub prefixed_is : {p : Prefix × List Token} (x : Found) → next prefix_of ts ≡ Some p → unary ts ≡ Some x → left_by whole unary postfix ts ≡ assign_by whole ts x None
  prefixed_is x on one = rw on (rw one refl)

  pub simple_off : next step_of ts ≡ None → simple_by whole unary postfix ts ≡ left_by whole unary postfix ts
  simple_off off = rw off refl

  pub step_none : (us : List Token) (up : Bool) → next step_of ts ≡ Some (up, us) → unary us ≡ None → simple_by whole unary postfix ts ≡ None
  step_none us up is none = rw is (rw none refl)

  pub step_is : (us rest : List Token) (up : Bool) (x : Expr) (at : Span) → next step_of ts ≡ Some (up, us) → at ≡ extent_to ts rest → unary us ≡ Some (x, rest) → simple_by whole unary postfix ts ≡ Some (act.Step at x up, rest)
  step_is us rest up x at is span one = rw is (rw one (rw span refl))

-- ---- in parentheses

module _ (whole : Parser Expr) (ts : List Token) where
  pub test_off : after w.OpenRound ts ≡ None → test_by whole ts ≡ None
  test_off off = rw off refl

  pub test_on : (us : List Token) → after w.OpenRound ts ≡ Some us → test_by whole ts ≡ until w.CloseRound whole us
  test_on us is = rw is refl

  pub end_off : after w.While ts ≡ None → do_end_by whole ts ≡ None
  end_off off = rw off refl

  pub end_on : (us : List Token) → after w.While ts ≡ Some us → do_end_by whole ts ≡ until w.Semicolon (test_by whole) us
  end_on us is = rw is refl

module _ (whole : Parser Expr) (decl : Parser Decl) (simple : Parser Simple) (ts : List Token) where
  pub decl_opening_none : decl ts ≡ None → decl_opening_by decl ts ≡ None
  decl_opening_none none = rw none refl

  pub decl_opening_is : (d : Decl) (us : List Token) → decl ts ≡ Some (d, us) → decl_opening_by decl ts ≡ Some (opening.Decl d, us)
  decl_opening_is d us one = rw one refl

  pub simple_opening_none : until w.Semicolon simple ts ≡ None → simple_opening_by simple ts ≡ None
  simple_opening_none none = rw none refl

  pub simple_opening_is : (x : Simple) (us : List Token) → until w.Semicolon simple ts ≡ Some (x, us) → simple_opening_by simple ts ≡ Some (opening.Simple x, us)
  simple_opening_is x us one = rw one refl

-- ---- statements

module _ (unary : Parser Expr) (ts us : List Token) where
  pub read_off : past (w.OpenRound ∷ w.Format ∷ w.Comma ∷ w.Amp ∷ []) us ≡ None → read_by unary ts us ≡ None
  read_off off = rw off refl

  module _ (vs : List Token) (one : past (w.OpenRound ∷ w.Format ∷ w.Comma ∷ w.Amp ∷ []) us ≡ Some vs) where
    pub read_none : unary vs ≡ None → read_by unary ts us ≡ None
    read_none none = rw one (rw none refl)

    pub read_unended : (x : Expr) (ws : List Token) → past (w.CloseRound ∷ w.Semicolon ∷ []) ws ≡ None → unary vs ≡ Some (x, ws) → read_by unary ts us ≡ None
    read_unended x ws off two = rw one (rw two (rw off refl))

    pub read_is : (x : Expr) (ws rest : List Token) (at : Span) → past (w.CloseRound ∷ w.Semicolon ∷ []) ws ≡ Some rest → at ≡ extent_to ts rest → unary vs ≡ Some (x, ws) → read_by unary ts us ≡ Some (s.Read at x, rest)
    read_is x ws rest at is span two = rw one (rw two (rw is (rw span refl)))

module _ (whole : Parser Expr) (ts us : List Token) where
  pub return_none : maybe_until w.Semicolon whole us ≡ None → return_by whole ts us ≡ None
  return_none none = rw none refl

  pub return_is : (x : Option Expr) (rest : List Token) (at : Span) → at ≡ extent_to ts rest → maybe_until w.Semicolon whole us ≡ Some (x, rest) → return_by whole ts us ≡ Some (s.Return at x, rest)
  return_is x rest at span one = rw one (rw span refl)

abbrev pub ended : (Span → Stmt) → List Token → Option (List Token) → Option Stood
ended g ts o = choose o None (λ rest. Some (g (extent_to ts rest), rest))

module _ (g : Span → Stmt) (ts us : List Token) where
  pub ended_off : after w.Semicolon us ≡ None → ended g ts (after w.Semicolon us) ≡ None
  ended_off off = rw off refl

  pub ended_is : (rest : List Token) (at : Span) → after w.Semicolon us ≡ Some rest → at ≡ extent_to ts rest → ended g ts (after w.Semicolon us) ≡ Some (g at, rest)
  ended_is rest at on span = rw on (rw span refl)

abbrev pub alone_by : Parser Simple → Parser Stmt
alone_by simple ts = until w.Semicolon simple ts >>= λ x. Some (s.Simple (extent_to ts x.1) x.0, x.1)

module _ (simple : Parser Simple) (ts : List Token) where
  pub alone_none : until w.Semicolon simple ts ≡ None → alone_by simple ts ≡ None
  alone_none none = rw none refl

  pub alone_is : (x : Simple) (rest : List Token) (at : Span) → at ≡ extent_to ts rest → until w.Semicolon simple ts ≡ Some (x, rest) → alone_by simple ts ≡ Some (s.Simple at x, rest)
  alone_is x rest at span one = rw one (rw span refl)
