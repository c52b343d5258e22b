-- A change of a store that may be undefined: the store afterwards, or why there is none.
use Rattle.std.specs.Prelude.{Result, Ok, Err}
use Rattle.ax_meaning.specs.declared.Store.{Store}
use Rattle.ax_meaning.specs.declared.Why.{Why}
use Rattle.ax_meaning.specs.Answer.{Answer}

abbrev pub changed : Result (Unit {0}) Why → Store → Answer Store
changed (Err why) m = Err why
changed (Ok u) m = Ok m
