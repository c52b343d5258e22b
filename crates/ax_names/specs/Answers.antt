-- What the code answers, in words like those of `ax_names_given`; private contracts and that of globals cite this.
use Rattle.std.specs.Prelude.{◌≡◌, ℕ, ℤ, neg_ℤ, List, ◌++◌, Option, Some, None, Result, Ok, Err}
use Rattle.ax_prog.specs.declared.Span.{Span}
use Rattle.ax_prog.specs.declared.Ty.{Ty, Ptr', Array'}
use Rattle.ax_prog.specs.declared.Ty.TheVariants as ty
use Rattle.ax_prog.specs.declared.Bin.{Bin}
use Rattle.ax_prog.specs.declared.SlotId.{SlotId}
use Rattle.ax_prog.specs.declared.Lval.{Lval}
use Rattle.ax_prog.specs.declared.Init.{Init}
use Rattle.ax_prog.specs.declared.Stmt as ps
use Rattle.ax_prog.specs.declared.Stmt.TheVariants as to
use Rattle.ax_parse_grammar.specs.declared.tree.Base.{Base}
use Rattle.ax_parse_grammar.specs.declared.tree.Declared.{Declared}
use Rattle.ax_parse_grammar.specs.declared.tree.Expr.{Expr, Number}
use Rattle.ax_parse_grammar.specs.declared.tree.Signed.{Signed}
use Rattle.ax_parse_grammar.specs.declared.tree.Simple as deed
use Rattle.ax_parse_grammar.specs.declared.tree.Opening.{Opening}
use Rattle.ax_parse_grammar.specs.Trees.{span_of}
use Rattle.ax_names_types.specs.declared.TypeFault.{TypeFault}
use Rattle.ax_names_types.specs.declared.TypeKind.TheVariants.{WrongType}
use Rattle.ax_names_types.specs.Faults.{fault, Verdict}
use Rattle.ax_names_types.specs.Verdicts.{sooner}
use Rattle.ax_names_rules.specs.declared.State.{State}
use Rattle.ax_names_rules.specs.ValueWalk.{Made, ◌>>=◌, slot_of, target_of}
use Rattle.ax_names_rules.specs.StatementWalk.{type_of, begun, fits_list, global_initial, changed_by, opening_of, test_of, step_of, return_of, read_for}
use Rattle.ax_names_given.specs.declared.stops.Stop.{Stop}
use Rattle.ax_names_given.specs.declared.stops.Stop.TheVariants.{Memory, Fault}
use Rattle.ax_names_given.specs.Made.{IsStopped}

-- the sooner fault of two parts counts, but want of memory hides both
abbrev pub beside : {A : Type 0} → Option TypeFault → Result A Stop → Result A Stop
beside None r = r
beside (Some f) (Ok a) = Err (Fault f)
beside (Some f) (Err (Fault g)) = Err (Fault (sooner f g))
beside (Some f) (Err Memory) = Err Memory

-- the state behind the code is what the walk gives
abbrev pub IsDone : {A : Type 0} → Verdict State → Result A Stop → State → Type 0
IsDone w (Ok u) st = w ≡ Ok st
IsDone w (Err stop) st = IsStopped w stop

-- the list and the state behind the code are what the walk gives
abbrev pub IsGrown : {A : Type 0} → Made (List ps.Stmt) → Result A Stop → List ps.Stmt → State → Type 0
IsGrown w (Ok u) all st = w ≡ Ok (all, st)
IsGrown w (Err stop) all st = IsStopped w stop

-- behind what was made before
abbrev pub prefixed : List ps.Stmt → Made (List ps.Stmt) → Made (List ps.Stmt)
prefixed all w = w >>= λ r. Ok (all ++ r.0, r.1)

abbrev pub Header : Type 0
Header = List ps.Stmt × (Option SlotId × Option ps.Stmt)

-- the head of a `for`
abbrev pub header_of : List (List ℕ) → Opening → Option Expr → Option deed.Simple → State → Made Header
header_of defs o c x st = opening_of defs o st >>= λ b. test_of c b.1 >>= λ i. step_of defs x i.1 >>= λ y. Ok ((b.0, (i.0, y.0)), y.1)

-- ---- parts of the walk

-- a brace list for an array of so many elements of a type
abbrev pub list_of_elements : Ty → ℕ → Span → List Signed → Verdict Init
list_of_elements ty.Int n at xs = fits_list at n xs
list_of_elements (Ptr' s row) n at xs = Err (fault WrongType at)
list_of_elements (Array' s row m) n at xs = Err (fault WrongType at)
list_of_elements (ty.Struct k) n at xs = Err (fault WrongType at)

-- the number of a literal, negated
abbrev pub negated_number : Expr → Option ℤ
negated_number (Number at n) = Some (neg_ℤ n)
negated_number _ = None

-- the type of a variable, and what it begins with
abbrev pub variable_of : List (List ℕ) → Base → Declared → State → Made Init
variable_of defs base d st = type_of st base d >>= begun defs st d

abbrev pub typed_global : Base → Declared → State → Verdict (Ty × Init)
typed_global base d st = type_of st base d >>= λ u. global_initial u (d.declarator).span d.initialiser >>= λ v. Ok (u, v)

-- the place that an operator with `=` changes
abbrev pub changed_at : Bin → Expr → State → Verdict Lval
changed_at op a st = target_of st a >>= changed_by op (span_of a)

abbrev pub returned : List (List ℕ) → Option Ty → Span → Option Expr → State → Made ps.Stmt
returned defs u at a st = return_of defs u at a st >>= λ r. Ok (to.Return r.0, r.1)

abbrev pub read_by : Expr → State → Made ps.Stmt
read_by a st = target_of st a >>= λ l. read_for (span_of a) l st

abbrev pub printed : Expr → State → Made ps.Stmt
printed a st = slot_of st a >>= λ r. Ok (to.Print r.0, r.1)
