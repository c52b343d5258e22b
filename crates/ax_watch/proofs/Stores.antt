-- Clauses in one flat list.
use Rattle.std.proofs.Common.{◌≡◌, ℕ, ◌+◌, ◌-◌, ◌<◌, ◌≤◌, List, [], ◌∷◌, ◌++◌, length, get_or, take, drop, arith, sym, subst, ap, ◌∙◌, length-append, length-drop}
use Rattle.std.specs.List.{All}
use Rattle.std.proofs.lemmas.List.{drop-append-le, take-append-le, take_all, get_or-map}
use Rattle.std.proofs.lemmas.List.Elements.{All-head, All-tail, All-push, All-weaker}
use Rattle.std.proofs.Math.Seq.{drop-append_seam, take-length}
use Rattle.ax_proof.specs.Literal.{Literal}
use Rattle.ax_proof.specs.Clause.{IsClause}
use Rattle.ax_watch.specs.Store.{clause_at, clauses_at}
use Rattle.ax_watch.specs.declared.store.Span.{Span}

pub clause_here : (literals : List Literal) (spans : List Span) (place : ℕ) (d : Span) → place < length spans → take ((get_or spans place d).start + (get_or spans place d).len - (get_or spans place d).start) (drop (get_or spans place d).start literals) ≡ get_or (clauses_at literals spans) place []
clause_here literals spans place d within =
    let s : Span = get_or spans place d in
    let m : s.start + s.len - s.start ≡ s.len = omega arith in
    ap (λ (k : ℕ). take k (drop s.start literals)) m ∙ sym (get_or-map (clause_at literals) spans place d [] within)

clause_kept : (literals c : List Literal) (s : Span) → s.start + s.len ≤ length literals → clause_at (literals ++ c) s ≡ clause_at literals s
clause_kept literals c s h =
    let a : s.start ≤ length literals = omega arith in
    let b : s.len ≤ length (drop s.start literals) = omega (arith, length-drop s.start literals) in
    ap (λ (xs : List Literal). take s.len xs) (drop-append-le s.start literals c a) ∙ take-append-le s.len (drop s.start literals) c b

clause_added : (literals c : List Literal) (s : Span) → s.start ≡ length literals → s.len ≡ length c → clause_at (literals ++ c) s ≡ c
clause_added literals c s e f =
    let at_start : ℕ → List Literal = λ n. take s.len (drop n (literals ++ c)) in
    let at_len : ℕ → List Literal = λ n. take n c in
    ap at_start e ∙ ap (λ (xs : List Literal). take s.len xs) (drop-append_seam literals c) ∙ ap at_len f ∙ take-length c

pub clauses_at-add : (literals c : List Literal) (spans : List Span) (s : Span) → All (λ t. t.start + t.len ≤ length literals) spans → s.start ≡ length literals → s.len ≡ length c → clauses_at (literals ++ c) (spans ++ s ∷ []) ≡ clauses_at literals spans ++ c ∷ []
clauses_at-add literals c [] s inside e f = ap (λ (x : List Literal). x ∷ []) (clause_added literals c s e f)
clauses_at-add literals c (t ∷ ts) s inside e f =
    let first : List Literal → List (List Literal) = λ x. x ∷ clauses_at (literals ++ c) (ts ++ s ∷ []) in
    let rest : List (List Literal) → List (List Literal) = λ x. clause_at literals t ∷ x in
    ap first (clause_kept literals c t (All-head (λ (u : Span). u.start + u.len ≤ length literals) t ts inside))
    ∙ ap rest (clauses_at-add literals c ts s (All-tail (λ (u : Span). u.start + u.len ≤ length literals) t ts inside) e f)

pub inside_add : (literals c : List Literal) (spans : List Span) (s : Span) → All (λ t. t.start + t.len ≤ length literals) spans → s.start ≡ length literals → s.len ≡ length c → All (λ t. t.start + t.len ≤ length (literals ++ c)) (spans ++ s ∷ [])
inside_add literals c spans s inside e f =
    All-push (λ (u : Span). u.start + u.len ≤ length (literals ++ c)) spans s
    (All-weaker (λ (u : Span). u.start + u.len ≤ length literals) (λ (u : Span). u.start + u.len ≤ length (literals ++ c)) (λ u h. omega (arith, length-append literals c)) spans inside)
    (omega (arith, length-append literals c))

pub rising_add : (literals c : List Literal) (spans : List Span) (s : Span) → All (λ t. t.start + t.len ≤ length literals) spans → All IsClause (clauses_at literals spans) → s.start ≡ length literals → s.len ≡ length c → IsClause c → All IsClause (clauses_at (literals ++ c) (spans ++ s ∷ []))
rising_add literals c spans s inside before e f rising =
    let family : List (List Literal) → Type 0 = λ x. All IsClause x in
    subst family (sym (clauses_at-add literals c spans s inside e f)) (All-push IsClause (clauses_at literals spans) c before rising)

pub all_items : (xs ys c : List Literal) (i : ℕ) → length c ≤ i → xs ≡ ys ++ take i c → xs ≡ ys ++ c
all_items xs ys c i h e = rw take_all at e
