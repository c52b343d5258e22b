-- What each exit of the code answers, at each number.
use Rattle.std.proofs.Common.{◌≡◌, ℕ, true, false, List, [], ◌∷◌, Option, Some, None, refl, ap, ◌∙◌}
use Rattle.ax_prog.specs.declared.Span.{Span}
use Rattle.ax_prog.specs.declared.tokens.Token.{Token}
use Rattle.ax_parse_grammar.specs.declared.terminals.Terminal.TheVariants as w
use Rattle.ax_parse_grammar.specs.declared.tree.Expr.{Expr}
use Rattle.ax_parse_grammar.specs.declared.tree.Decl.{Decl}
use Rattle.ax_parse_grammar.specs.declared.tree.Simple.{Simple}
use Rattle.ax_parse_grammar.specs.declared.tree.Opening.{Opening}
use Rattle.ax_parse_grammar.specs.declared.tree.Opening.TheVariants as opening
use Rattle.ax_parse_grammar.specs.declared.tree.Stmt.TheVariants as s
use Rattle.ax_parse_grammar.specs.Reading.{Parser, ◌>>=◌, choose, extent_to, after, past, next, until, maybe_until}
use Rattle.ax_parse_grammar.specs.ReadStatements.{begins_decl, opening_by, for_head_by, format_of, print_by}
use Rattle.ax_parse_statements.specs.SimplesFound.{decl_opening_by, simple_opening_by}
use Rattle.ax_parse_statements.specs.ForsFound.{header_by, opened_by, tested_by, format_by, printed_by}

-- what goes on behind a choice
pub choose_then : {A B C : Type 0} (o : Option A) (f : A → Option B) (g : B → Option C) → choose o None (λ x. f x >>= g) ≡ choose o None f >>= g
choose_then None f g = refl
choose_then (Some x) f g = refl

module _ (decl : Parser Decl) (simple : Parser Simple) (ts : List Token) where
  pub opening_nothing : (us : List Token) → after w.Semicolon ts ≡ Some us → opening_by decl simple ts ≡ Some (opening.Nothing, us)
  opening_nothing us is = rw is refl

  pub opening_decl : after w.Semicolon ts ≡ None → begins_decl ts ≡ true → opening_by decl simple ts ≡ decl_opening_by decl ts
  opening_decl off is = rw off (rw is refl)

  pub opening_simple : after w.Semicolon ts ≡ None → begins_decl ts ≡ false → opening_by decl simple ts ≡ simple_opening_by simple ts
  opening_simple off is = rw off (rw is refl)

module _ (whole : Parser Expr) (decl : Parser Decl) (simple : Parser Simple) (ts : List Token) where
  pub tested_none : (o : Opening) (c : Option Expr) → maybe_until w.CloseRound simple ts ≡ None → tested_by simple o c ts ≡ None
  tested_none o c none = rw none refl

  pub tested_is : (o : Opening) (c : Option Expr) (x : Option Simple) (us : List Token) → maybe_until w.CloseRound simple ts ≡ Some (x, us) → tested_by simple o c ts ≡ Some ((o, (c, x)), us)
  tested_is o c x us one = rw one refl

  pub opened_none : (o : Opening) → maybe_until w.Semicolon whole ts ≡ None → opened_by whole simple o ts ≡ None
  opened_none o none = rw none refl

  pub opened_is : (o : Opening) (c : Option Expr) (us : List Token) → maybe_until w.Semicolon whole ts ≡ Some (c, us) → opened_by whole simple o ts ≡ tested_by simple o c us
  opened_is o c us one = rw one refl

  pub inner_none : opening_by decl simple ts ≡ None → for_head_by whole decl simple ts ≡ None
  inner_none none = rw none refl

  pub inner_is : (o : Opening) (us : List Token) → opening_by decl simple ts ≡ Some (o, us) → for_head_by whole decl simple ts ≡ opened_by whole simple o us
  inner_is o us one = rw one refl

  pub header_off : after w.OpenRound ts ≡ None → header_by whole decl simple ts ≡ None
  header_off off = rw off refl

  pub header_on : (us : List Token) → after w.OpenRound ts ≡ Some us → header_by whole decl simple ts ≡ for_head_by whole decl simple us
  header_on us is = rw is refl

module _ (whole : Parser Expr) (ts us : List Token) where
  pub printed_none : (format : ℕ) → whole us ≡ None → printed_by whole ts format us ≡ None
  printed_none format none = rw none refl

  pub printed_unended : (format : ℕ) (x : Expr) (vs : List Token) → past (w.CloseRound ∷ w.Semicolon ∷ []) vs ≡ None → whole us ≡ Some (x, vs) → printed_by whole ts format us ≡ None
  printed_unended format x vs off one = rw one (rw off refl)

  pub printed_is : (format : ℕ) (x : Expr) (vs rest : List Token) (at : Span) → past (w.CloseRound ∷ w.Semicolon ∷ []) vs ≡ Some rest → at ≡ extent_to ts rest → whole us ≡ Some (x, vs) → printed_by whole ts format us ≡ Some (s.Print at format x, rest)
  printed_is format x vs rest at is span one = rw one (rw is (rw span refl))

  pub print_none : format_by us ≡ None → print_by whole ts us ≡ None
  print_none none = choose_then (after w.OpenRound us) (λ vs. until w.Comma (next format_of) vs) (λ n. printed_by whole ts n.0 n.1) ∙ ap (λ (o : Option (ℕ × List Token)). o >>= λ n. printed_by whole ts n.0 n.1) none

  pub print_is : (format : ℕ) (vs : List Token) → format_by us ≡ Some (format, vs) → print_by whole ts us ≡ printed_by whole ts format vs
  print_is format vs one = choose_then (after w.OpenRound us) (λ vs. until w.Comma (next format_of) vs) (λ n. printed_by whole ts n.0 n.1) ∙ ap (λ (o : Option (ℕ × List Token)). o >>= λ n. printed_by whole ts n.0 n.1) one
