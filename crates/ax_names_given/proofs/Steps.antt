-- Steps of loops over names and over arguments.
use Rattle.std.proofs.Common.{◌≡◌, true, List, ◌++◌, Option, Some, None, Ok, refl}
use Rattle.std.specs.Prelude.{is_some}
use Rattle.ax_prog.specs.declared.Arg.{Arg}
use Rattle.ax_names_types.specs.declared.Entry.{Entry}
use Rattle.ax_names_types.specs.Scopes.{or_else}
use Rattle.ax_names_rules.specs.ValueWalk.{◌>>=◌, Made}

pub declared_here : (o : Option Entry) (e : Entry) → is_some (or_else o (Some e)) ≡ true
declared_here None e = refl
declared_here (Some d) e = refl

pub not_declared_here : (o : Option Entry) → is_some (or_else o None) ≡ is_some o
not_declared_here None = refl
not_declared_here (Some d) = refl

pub ruleset declaring = (declared_here, not_declared_here)

-- arguments that stand before others
abbrev pub before : List Arg → Made (List Arg) → Made (List Arg)
before args made = made >>= λ r. Ok (args ++ r.0, r.1)
