-- One of two values by a truth value that may be undefined.
use Rattle.std.specs.Prelude.{Bool, if◌then◌else◌, Ok, Err}
use Rattle.ax_meaning.specs.Answer.{Answer}

abbrev pub chosen : {A : Type 0} → Answer Bool → Answer A → Answer A → Answer A
chosen (Err why) a b = Err why
chosen (Ok first) a b = if first then a else b
