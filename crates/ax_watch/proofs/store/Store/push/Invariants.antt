use Rattle.std.proofs.Common.{◌≡◌, ◌++◌, ◌+◌, take, vec_len}
use Rattle.std.specs.Vec.{vec_capacity}
use Rattle.ax_watch.proofs.store.Store.push.Given as goal

abbrev pub invariant-loop-lit : goal.invariant-loop-lit
invariant-loop-lit l = record {
  items : l.self-inside.literals.items ≡ l.initial.self-inside.literals.items ++ take l.lit-index l.clause;
  capacity : vec_capacity l.self-inside.literals ≡ vec_capacity l.initial.self-inside.literals;
  len : vec_len l.self-inside.literals ≡ vec_len l.initial.self-inside.literals + l.lit-index;
  spans : l.self-inside.spans ≡ l.initial.self-inside.spans;
  room_clauses : l.self-inside.room_clauses ≡ l.initial.self-inside.room_clauses;
  room_literals : l.self-inside.room_literals ≡ l.initial.self-inside.room_literals;
}
