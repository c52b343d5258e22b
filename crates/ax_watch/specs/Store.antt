-- Clauses one behind the other in a flat list.
use Rattle.std.specs.Prelude.{ℕ, List, map, take, drop}
use Rattle.ax_proof.specs.Literal.{Literal}
use Rattle.ax_watch.specs.declared.store.Span.{Span}

-- A list of clauses, and for how many clauses and literals more there is room.
pub record StoreState : Type 0 where
  pub clauses : List (List Literal)
  pub room_clauses : ℕ
  pub room_literals : ℕ

-- the clause at a span of the flat list
abbrev pub clause_at : List Literal → Span → List Literal
clause_at literals s = take s.len (drop s.start literals)

abbrev pub clauses_at : List Literal → List Span → List (List Literal)
clauses_at literals spans = map (clause_at literals) spans
