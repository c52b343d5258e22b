-- The laws: one outcome, an outcome or a break, and verdicts that are exact.
use Rattle.std.proofs.Common.{◌≡◌, ℕ, Bool, List, Option, ◌⊎◌}
use Rattle.ax_prog.specs.declared.Span.{Span}
use Rattle.ax_prog.specs.declared.Ty.{Ty}
use Rattle.ax_prog.specs.declared.Lval.{Lval}
use Rattle.ax_prog.specs.declared.Value.{Value}
use Rattle.ax_prog.specs.declared.Stmt as ps
use Rattle.ax_parse_grammar.specs.declared.tree.Expr.{Expr}
use Rattle.ax_parse_grammar.specs.declared.tree.Base.{Base}
use Rattle.ax_parse_grammar.specs.declared.tree.Declared.{Declared}
use Rattle.ax_parse_grammar.specs.declared.tree.Stmt.{Stmt}
use Rattle.ax_names_types.specs.declared.TypeFault.{TypeFault}
use Rattle.ax_names_declared.specs.Firsts.{Exact}
use Rattle.ax_names_rules.specs.declared.State.{State}
use Rattle.ax_names_rules.specs.Values.{IsNumber, Calls, Given, IsTarget}
use Rattle.ax_names_rules.specs.Declarations.{BecomeVars, BecomeGlobals}
use Rattle.ax_names_rules.specs.Statements.{Becomes, BecomeAll}
use Rattle.ax_names_rules.specs.ValueFaults.{BreaksNumber, BreaksCall, BreaksGiven, BreaksTarget}
use Rattle.ax_names_rules.specs.StatementFaults.{BreaksVars, BreaksGlobals, BreaksStmt, BreaksAll}
use Rattle.ax_names_rules.specs.ValueWalk.{Numbered, Called, number_of, call_of, given_for, target_of}
use Rattle.ax_names_rules.specs.StatementWalk.{vars_of, globals_of, stmt_of, items_of}
use Rattle.ax_names_rules.proofs.Steps.{exact_by, either, never, pair_same}
use Rattle.ax_names_rules.proofs.Numbers.{JudgedNumber, number_judged, number_is, number_breaks}
use Rattle.ax_names_rules.proofs.Called.{JudgedCall, call_judged, call_is, call_breaks, JudgedGiven, given_judged, given_is, given_breaks, JudgedTarget, target_judged, target_is, target_breaks}
use Rattle.ax_names_rules.proofs.Variables.{JudgedVars, vars_judged, vars_are, vars_break, JudgedGlobals, globals_judged, globals_are, globals_break}
use Rattle.ax_names_rules.proofs.Bodies.{JudgedStmt, JudgedAll, stmt_judged, items_judged}
use Rattle.ax_names_rules.proofs.Outcomes.{stmt_is, items_are, stmt_breaks, items_break}

-- ---- values

pub number_exact : (st : State) (a : Expr) → Exact (λ (n : Numbered). IsNumber st a n.0 n.1) (BreaksNumber st a) (number_of st a)
number_exact st a = exact_by (JudgedNumber st a) (λ (n : Numbered). IsNumber st a n.0 n.1) (BreaksNumber st a) (number_of st a) (number_judged st a) (λ n d. d) (λ f d. d) (λ n d. number_is st a n.0 n.1 d) (λ g d. number_breaks st a g d)

pub call_exact : (defs : List (List ℕ)) (st : State) (a : Expr) → Exact (λ (c : Called × State). Calls defs st a (c.0).0 ((c.0).1).0 ((c.0).1).1 c.1) (BreaksCall defs st a) (call_of defs st a)
call_exact defs st a =
    exact_by (JudgedCall defs st a) (λ (c : Called × State). Calls defs st a (c.0).0 ((c.0).1).0 ((c.0).1).1 c.1) (BreaksCall defs st a) (call_of defs st a) (call_judged defs st a) (λ c d. d) (λ f d. d)
    (λ c d. call_is defs st a (c.0).0 ((c.0).1).0 ((c.0).1).1 c.1 d) (λ g d. call_breaks defs st a g d)

pub given_exact : (defs : List (List ℕ)) (u : Ty) (at : Span) (st : State) (a : Expr) → Exact (λ (r : Value × State). Given defs st u a r.0 r.1) (BreaksGiven defs st u at a) (given_for defs u at st a)
given_exact defs u at st a =
    exact_by (JudgedGiven defs u at st a) (λ (r : Value × State). Given defs st u a r.0 r.1) (BreaksGiven defs st u at a) (given_for defs u at st a) (given_judged defs u at st a) (λ r d. d) (λ f d. d)
    (λ r d. given_is defs u at st a r.0 r.1 d) (λ g d. given_breaks defs u at st a g d)

pub target_exact : (st : State) (a : Expr) → Exact (λ (l : Ty × Lval). IsTarget st a l.0 l.1) (BreaksTarget st a) (target_of st a)
target_exact st a = exact_by (JudgedTarget st a) (λ (l : Ty × Lval). IsTarget st a l.0 l.1) (BreaksTarget st a) (target_of st a) (target_judged st a) (λ l d. d) (λ f d. d) (λ l d. target_is st a l.0 l.1 d) (λ g d. target_breaks st a g d)

pub one_given : (defs : List (List ℕ)) (u : Ty) (st s t : State) (a : Expr) (v w : Value) → Given defs st u a v s → Given defs st u a w t → (v ≡ w) × (s ≡ t)
one_given defs u st s t a v w d e = let at : Span = record { from = 0; to = 0 } in pair_same v w s t (given_for defs u at st a) (given_is defs u at st a v s d) (given_is defs u at st a w t e)

-- ---- declarations

pub vars_exact : (defs : List (List ℕ)) (floor : ℕ) (base : Base) (ds : List Declared) (st : State) → Exact (λ (r : List ps.Stmt × State). BecomeVars defs floor base st ds r.0 r.1) (BreaksVars defs floor base st ds) (vars_of defs floor base ds st)
vars_exact defs floor base ds st =
    exact_by (JudgedVars defs floor base ds st) (λ (r : List ps.Stmt × State). BecomeVars defs floor base st ds r.0 r.1) (BreaksVars defs floor base st ds) (vars_of defs floor base ds st) (vars_judged defs floor base ds st) (λ r d. d) (λ f d. d)
    (λ r d. vars_are defs floor base ds st r.0 r.1 d) (λ g d. vars_break defs floor base ds st g d)

pub globals_exact : (base : Base) (ds : List Declared) (st : State) → Exact (BecomeGlobals base st ds) (BreaksGlobals base st ds) (globals_of base ds st)
globals_exact base ds st =
    exact_by (JudgedGlobals base ds st) (BecomeGlobals base st ds) (BreaksGlobals base st ds) (globals_of base ds st) (globals_judged base ds st) (λ r d. d) (λ f d. d) (λ r d. globals_are base ds st r d) (λ g d. globals_break base ds st g d)

-- ---- statements

module _ (defs : List (List ℕ)) (result : Option Ty) where
  pub stmt_exact : (f : Bool) (x : Stmt) (st : State) → Exact (λ (r : ps.Stmt × State). Becomes defs result f st x r.0 r.1) (BreaksStmt defs result f st x) (stmt_of defs result f x st)
  stmt_exact f x st =
      exact_by (JudgedStmt defs result f st x) (λ (r : ps.Stmt × State). Becomes defs result f st x r.0 r.1) (BreaksStmt defs result f st x) (stmt_of defs result f x st) (stmt_judged defs result f x st) (λ r d. d) (λ g d. d)
      (λ r d. stmt_is defs result f x st r.0 r.1 d) (λ g d. stmt_breaks defs result f x st g d)

  pub items_exact : (f : Bool) (floor : ℕ) (xs : List Stmt) (st : State) → Exact (λ (r : List ps.Stmt × State). BecomeAll defs result f floor st xs r.0 r.1) (BreaksAll defs result f floor st xs) (items_of defs result f floor xs st)
  items_exact f floor xs st =
      exact_by (JudgedAll defs result f floor st xs) (λ (r : List ps.Stmt × State). BecomeAll defs result f floor st xs r.0 r.1) (BreaksAll defs result f floor st xs) (items_of defs result f floor xs st) (items_judged defs result f floor xs st) (λ r d. d) (λ g d. d)
      (λ r d. items_are defs result f floor xs st r.0 r.1 d) (λ g d. items_break defs result f floor xs st g d)

  pub one_stmt : (f : Bool) (x : Stmt) (st s t : State) (b c : ps.Stmt) → Becomes defs result f st x b s → Becomes defs result f st x c t → (b ≡ c) × (s ≡ t)
  one_stmt f x st s t b c d e = pair_same b c s t (stmt_of defs result f x st) (stmt_is defs result f x st b s d) (stmt_is defs result f x st c t e)

  pub one_list : (f : Bool) (floor : ℕ) (xs : List Stmt) (st s t : State) (bs cs : List ps.Stmt) → BecomeAll defs result f floor st xs bs s → BecomeAll defs result f floor st xs cs t → (bs ≡ cs) × (s ≡ t)
  one_list f floor xs st s t bs cs d e = pair_same bs cs s t (items_of defs result f floor xs st) (items_are defs result f floor xs st bs s d) (items_are defs result f floor xs st cs t e)

  pub stmt_or_fault : (f : Bool) (x : Stmt) (st : State) → ((r : ps.Stmt × State) × Becomes defs result f st x r.0 r.1) ⊎ ((g : TypeFault) × BreaksStmt defs result f st x g)
  stmt_or_fault f x st = either (JudgedStmt defs result f st x) (λ (r : ps.Stmt × State). Becomes defs result f st x r.0 r.1) (BreaksStmt defs result f st x) (stmt_of defs result f x st) (stmt_judged defs result f x st) (λ r d. d) (λ g d. d)

  pub never_both : (f : Bool) (x : Stmt) (st s : State) (b : ps.Stmt) (g : TypeFault) → Becomes defs result f st x b s → BreaksStmt defs result f st x g → ⊥
  never_both f x st s b g d k = never (stmt_of defs result f x st) (b, s) g (stmt_is defs result f x st b s d) (stmt_breaks defs result f x st g k)
