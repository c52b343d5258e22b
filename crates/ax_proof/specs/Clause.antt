-- Clauses: lists of literals of which one shall be true.
use Rattle.std.specs.Prelude.{◌≡◌, ◌<◌, ◌↔◌, ◌⊎◌, Bool, true, false, not, Option, Some, None, List, [], ◌∷◌, nat_lt, nat_eq, if◌then◌else◌}
use Rattle.std.specs.List.{AllPairs, Contains}
use Rattle.ax_proof.specs.Literal.{Literal, negation}

-- the variables rise, so none stands twice
abbrev pub IsClause : List Literal → Type 0
IsClause c = AllPairs (λ a b. a.var < b.var) c

-- some literal and its negation both stand
abbrev pub Clashes : List Literal → Type 0
Clashes ls = (l : Literal) × Contains ls l × Contains ls (negation l)

-- the same literals stand in both
abbrev pub SameLiterals : List Literal → List Literal → Type 0
SameLiterals xs ys = (l : Literal) → Contains xs l ↔ Contains ys l

-- the new list has the old one's literals, this one, and no other
abbrev pub Adds : List Literal → Literal → List Literal → Type 0
Adds old lit new = (l : Literal) → Contains new l ↔ (Contains old l ⊎ (l ≡ lit))

abbrev pub same_sign : Bool → Bool → Bool
same_sign true p = p
same_sign false p = not p

abbrev pub put_first : Literal → Option (List Literal) → Option (List Literal)
put_first m None = None
put_first m (Some c) = Some (m ∷ c)

-- the clause with this literal at its variable's place, or none where its negation stands
abbrev pub with_literal : Literal → List Literal → Option (List Literal)
with_literal l [] = Some (l ∷ [])
with_literal l (m ∷ c) =
    if nat_lt l.var m.var then Some (l ∷ m ∷ c)
    else if nat_eq l.var m.var then (if same_sign l.positive m.positive then Some (m ∷ c) else None)
    else put_first m (with_literal l c)

abbrev pub with_literal_too : Literal → Option (List Literal) → Option (List Literal)
with_literal_too l None = None
with_literal_too l (Some c) = with_literal l c

-- the clause of these literals, by rising variable, or none where a literal and its negation both stand
abbrev pub clause_of : List Literal → Option (List Literal)
clause_of [] = Some []
clause_of (l ∷ ls) = with_literal_too l (clause_of ls)
