-- What an entry shows in front of the names that were declared after it.
use Rattle.std.specs.Prelude.{if◌then◌else◌, is_some, List, Option, None}
use Rattle.ax_prog.specs.declared.VarId.{VarId}
use Rattle.ax_names_types.specs.declared.Entry.{Entry}
use Rattle.ax_names_types.specs.Scopes.{innermost}
use Rattle.ax_names_rules.specs.States.{int_var}

-- the variable of type `int` that the entry is, unless one of the inner names hides it
abbrev pub shown_by : Entry → List Entry → Option VarId
shown_by e inner = if is_some (innermost e.name inner) then None else int_var e.entity
