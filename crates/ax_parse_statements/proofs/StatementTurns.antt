-- How statements and the items of blocks settle what the parsers on lists answer.
use Rattle.std.proofs.Common.{◌≡◌, ℕ, List, [], ◌∷◌, Option, Some, None, Result, Ok, Err, drop, refl, ap, ◌∙◌}
use Rattle.std.proofs.lemmas.Option.{same_Some}
use Rattle.ax_prog.specs.declared.tokens.Token.{Token}
use Rattle.ax_parse_grammar.specs.declared.starts.Start.{Start}
use Rattle.ax_parse_grammar.specs.declared.starts.Start.TheVariants as start
use Rattle.ax_parse_grammar.specs.declared.terminals.Terminal.TheVariants as w
use Rattle.ax_parse_grammar.specs.declared.tree.Stmt.{Stmt}
use Rattle.ax_parse_grammar.specs.declared.tree.Stmt.TheVariants as s
use Rattle.ax_parse_grammar.specs.Starts.{start_of}
use Rattle.ax_parse_grammar.specs.Reading.{extent_to, after, next, Settles}
use Rattle.ax_parse_grammar.specs.ReadDeclarations.{decl}
use Rattle.ax_parse_grammar.specs.ReadStatements.{Stood, stmt_by, stmt, item_by, items}
use Rattle.ax_parse_grammar.proofs.Tools.{settle_0, settle_1, settle_2, also_1, also_3}
use Rattle.ax_parse_expressions.specs.declared.faults.ReadFault.{ReadFault}
use Rattle.ax_parse_expressions.specs.declared.faults.ReadFault.TheVariants.{Memory, Syntax}
use Rattle.ax_parse_expressions.specs.Answers.{Gives}
use Rattle.ax_parse_statements.specs.SimplesFound.{begins}
use Rattle.ax_parse_statements.proofs.DeclarationTurns.{OnTo, prefixed, prefixed_cons}

pub stmt_nothing : (ts : List Token) → next begins ts ≡ None → Settles (λ n. stmt n ts) None
unfolding stmt
stmt_nothing [] h = settle_0 (λ n. stmt n []) None (λ n. refl)
stmt_nothing (t ∷ ts) h = cc

pub stmt_starts : (ts us : List Token) (which : Start) (o : Option Stood) → next begins ts ≡ Some (which, us) → Settles (λ n. stmt_by n (stmt n) (items n) ts us which) o → Settles (λ n. stmt n ts) o
unfolding stmt
stmt_starts [] us which o h a = cc
stmt_starts (t ∷ ts) us which o h a = settle_1 (λ n. stmt_by n (stmt n) (items n) (t ∷ ts) us which) o (λ n. stmt n (t ∷ ts)) o a (λ n one. ap (λ (p : Start × List Token). stmt_by n (stmt n) (items n) (t ∷ ts) p.1 p.0) (same_Some (start_of t.kind, ts) (which, us) h) ∙ one)

module _ (ts us : List Token) where
  pub block_none : Settles (λ n. items n us) None → Settles (λ n. stmt_by n (stmt n) (items n) ts us start.Block) None
  block_none a = also_1 (λ n. items n us) None (λ n. stmt_by n (stmt n) (items n) ts us start.Block) None a (λ n one. rw one refl)

  pub block_is : (rest : List Token) (xs : List Stmt) → Settles (λ n. items n us) (Some (xs, rest)) → Settles (λ n. stmt_by n (stmt n) (items n) ts us start.Block) (Some (s.Block (extent_to ts rest) xs, rest))
  block_is rest xs a = also_1 (λ n. items n us) (Some (xs, rest)) (λ n. stmt_by n (stmt n) (items n) ts us start.Block) (Some (s.Block (extent_to ts rest) xs, rest)) a (λ n one. rw one refl)

pub items_end : (ts rest : List Token) → after w.CloseCurly ts ≡ Some rest → Settles (λ n. items n ts) (Some ([], rest))
unfolding items
items_end ts rest is = settle_0 (λ n. items n ts) (Some ([], rest)) (λ n. rw is refl)

pub items_on : (ts r : List Token) (x : Stmt) → after w.CloseCurly ts ≡ None → Settles (λ n. item_by (decl n) (stmt n) ts) (Some (x, r)) → OnTo (λ n. items n ts) (λ n. items n r) (x ∷ [])
unfolding items
items_on ts r x off is o a = settle_2 (λ n. item_by (decl n) (stmt n) ts) (Some (x, r)) (λ n. items n r) o (λ n. items n ts) (prefixed (x ∷ []) o) is a (λ n one two. rw off (rw one (rw two (prefixed_cons x o))))

pub items_fail : (ts : List Token) → after w.CloseCurly ts ≡ None → Settles (λ n. item_by (decl n) (stmt n) ts) None → Settles (λ n. items n ts) None
unfolding items
items_fail ts off a = settle_1 (λ n. item_by (decl n) (stmt n) ts) None (λ n. items n ts) None a (λ n one. rw off (rw one refl))

-- what goes on where o and q were read
pub gives_behind_two : {A B C : Type 0} (tokens : List Token) (r : Result (A × ℕ) ReadFault) (e : ℕ → Option B) (o : Option B) (i : ℕ → Option C) (q : Option C) (f g : ℕ → Option (A × List Token)) → Settles e o → Settles i q → ((n : ℕ) → e n ≡ o → i n ≡ q → g n ≡ f n) → Gives tokens r f → Gives tokens r g
gives_behind_two tokens (Ok x) e o i q f g s t same h = also_3 e o i q f (Some (x.0, drop x.1 tokens)) g (Some (x.0, drop x.1 tokens)) s t h (λ n one two three. same n one two ∙ three)
gives_behind_two tokens (Err Memory) e o i q f g s t same h = tt
gives_behind_two tokens (Err (Syntax at)) e o i q f g s t same h = also_3 e o i q f None g None s t h (λ n one two three. same n one two ∙ three)
