-- Unit propagation.
use Rattle.std.specs.Prelude.{◌≡◌, ◌≢◌, List, map}
use Rattle.std.specs.List.{Contains}
use Rattle.ax_proof.specs.Literal.{Literal, negation}

-- What unit propagation makes true: what is assumed, and the literal of a clause whose other literals it makes false.
pub data Propagates (clauses : List (List Literal)) (assumed : List Literal) : Literal → Type 0 where
  given : {l : Literal} → Contains assumed l → Propagates clauses assumed l
  unit : {l : Literal} (c : List Literal) → Contains clauses c → Contains c l → ((m : Literal) → Contains c m → m ≢ l → Propagates clauses assumed (negation m)) → Propagates clauses assumed l

-- it makes each literal of this clause false
abbrev pub MakesFalse : List (List Literal) → List Literal → List Literal → Type 0
MakesFalse clauses assumed c = (l : Literal) → Contains c l → Propagates clauses assumed (negation l)

-- it meets a false clause
abbrev pub Conflicts : List (List Literal) → List Literal → Type 0
Conflicts clauses assumed = (c : List Literal) × Contains clauses c × MakesFalse clauses assumed c

-- Reverse unit propagation: it meets a false clause once each literal of the line is assumed to be false.
abbrev pub HasRup : List (List Literal) → List Literal → Type 0
HasRup clauses line = Conflicts clauses (map negation line)
