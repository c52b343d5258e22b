-- Laws of unit propagation.
use Rattle.std.proofs.Common.{◌≡◌, ◌≢◌, ℕ, List, ◌++◌, ◌⊎◌, inl, inr, sym, subst, ◌∙◌, map}
use Rattle.std.specs.List.{All, Contains}
use Rattle.std.proofs.lemmas.List.Elements.{All-contains, Contains-append_left}
use Rattle.ax_proof.specs.Literal.{Literal, negation}
use Rattle.ax_proof.specs.Propagation.{Propagates, given, unit, MakesFalse, Conflicts}
use Rattle.ax_proof.specs.Trail.{IsOpen, IsConsistent, IsSatisfied, IsFalsified, HasTwoOpen, IsSettled}
use Rattle.ax_proof.proofs.Literals.{same_or_other}

-- what follows from literals that follow themselves, by more clauses
pub propagates_along : (cs ds : List (List Literal)) (xs ys : List Literal) → ((c : List Literal) → Contains cs c → Contains ds c) → ((l : Literal) → Contains xs l → Propagates ds ys l) → {l : Literal} → Propagates cs xs l → Propagates ds ys l
propagates_along cs ds xs ys more known (given {l} h) = known l h
propagates_along cs ds xs ys more known (unit c cin lin rest) = unit c (more c cin) lin (λ m min ne. propagates_along cs ds xs ys more known (rest m min ne))

-- what conflicts, conflicts with more clauses and with what implies the assumed literals
pub conflicts_along : (cs ds : List (List Literal)) (xs ys : List Literal) → ((c : List Literal) → Contains cs c → Contains ds c) → ((l : Literal) → Contains xs l → Propagates ds ys l) → Conflicts cs xs → Conflicts ds ys
conflicts_along cs ds xs ys more known (c, cin, made) = (c, more c cin, λ m min. propagates_along cs ds xs ys more known (made m min))

settled_unit : (trail c : List Literal) (l : Literal) → IsConsistent trail → IsSettled trail c → Contains c l → ((m : Literal) → Contains c m → m ≢ l → Contains trail (negation m)) → Contains trail l
settled_unit trail c l ok (inl (s, sin, strue)) lin rest =
    let family : Literal → Type 0 = λ x. Contains trail x in
    elim (same_or_other s l) [ inl e ↦ subst family e strue | inr ne ↦ absurd (ok s strue (rest s sin ne)) ]
settled_unit trail c l ok (inr (a, b, differ, ain, bin, aopen, bopen)) lin rest =
    elim (same_or_other a l) [
      | inr ne ↦ absurd (aopen.1 (rest a ain ne))
      | inl e ↦ absurd (bopen.1 (rest b bin (λ q. differ (e ∙ sym q))))
    ]

settled_not_false : (trail c : List Literal) → IsConsistent trail → IsSettled trail c → IsFalsified trail c → ⊥
settled_not_false trail c ok (inl (s, sin, strue)) h = ok s strue (h s sin)
settled_not_false trail c ok (inr (a, b, differ, ain, bin, aopen, bopen)) h = aopen.1 (h a ain)

-- a consistent trail on which every clause is settled has all that follows
pub propagated_stands : (cs : List (List Literal)) (xs trail : List Literal) → IsConsistent trail → All (IsSettled trail) cs → ((l : Literal) → Contains xs l → Contains trail l) → {l : Literal} → Propagates cs xs l → Contains trail l
propagated_stands cs xs trail ok settled start (given {l} h) = start l h
propagated_stands cs xs trail ok settled start (unit {l} c cin lin rest) =
    settled_unit trail c l ok (All-contains (IsSettled trail) cs c settled cin) lin (λ m min ne. propagated_stands cs xs trail ok settled start (rest m min ne))

pub settled_no_conflict : (cs : List (List Literal)) (xs trail : List Literal) → IsConsistent trail → All (IsSettled trail) cs → ((l : Literal) → Contains xs l → Contains trail l) → Conflicts cs xs → ⊥
settled_no_conflict cs xs trail ok settled start (c, cin, made) =
    settled_not_false trail c ok (All-contains (IsSettled trail) cs c settled cin) (λ l lin. propagated_stands cs xs trail ok settled start (made l lin))
