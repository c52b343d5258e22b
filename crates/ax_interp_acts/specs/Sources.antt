-- Where a value that is stored or returned comes from.
use Rattle.std.specs.Prelude.{ℤ, pos, ◌++◌, ◌∷◌, [], Option, Some, None}
use Rattle.ax_interp_acts.specs.declared.sources.Source.{Source}
use Rattle.ax_interp_acts.specs.declared.sources.Source.TheVariants as from
use Rattle.ax_prog.specs.declared.VarId.{VarId}
use Rattle.ax_meaning.specs.declared.State.{State}
use Rattle.ax_meaning.specs.Acts.{Setting, Got, Done, Source as Gives, from_int, from_pointer, from_call, got_then, step, with_object, blank, keep}

abbrev pub source_of : Setting → Source → Gives
source_of r (from.Int id) = from_int r id
source_of r (from.Ptr q) = from_pointer r q.now
source_of r (from.Call v) = from_call v

-- a declaration whose initialiser is this value
abbrev pub declare_from : Setting → VarId → Gives → State → Got (Unit {0})
declare_from r v source st = got_then (step r st) (λ u st. keep r v source (with_object v (blank r.program v) st))

-- a number of a list, or zero past its end
abbrev pub int_or_zero : Option ℤ → ℤ
int_or_zero None = pos 0
int_or_zero (Some z) = z

-- a number is printed
abbrev pub printed : ℤ → State → Got (Unit {0})
printed n st = Done tt (record st { output = st.output ++ n ∷ [] })
