use Rattle.std.proofs.Common.{◌≡◌, ◌++◌, ◌∷◌, [], ◌∙◌, ap, sym, subst, arith, ℕ, List}
use Rattle.ax_proof.specs.Literal.{Literal, IsOver}
use Rattle.ax_watch.specs.Watch.{WatchState}
use Rattle.ax_sat_policy.proofs.anew.put.Goals as goal

pub add-place-requires-clause-over : goal.add-place-requires-clause-over
add-place-requires-clause-over c =
    let room : c.reserve.new.self.vars ≡ c.args.watch.now.vars = ap (λ (x : WatchState). x.vars) c.in_ok-reserve.ensures.done.kept in
    subst (λ (n : ℕ). IsOver n c.args.clause.now) (sym room) c.requires

pub add-place-requires-clause-room_clauses : goal.add-place-requires-clause-room_clauses
add-place-requires-clause-room_clauses c = omega (arith, c.in_ok-reserve.ensures.done.enough_clauses)

pub add-place-requires-clause-room_literals : goal.add-place-requires-clause-room_literals
add-place-requires-clause-room_literals c = omega (arith, c.len.ensures, c.in_ok-reserve.ensures.done.enough_literals)

pub returns-clause-clauses : goal.returns-clause-clauses
returns-clause-clauses c =
    let added : c.add-place.new.self.clauses ≡ c.reserve.new.self.clauses ++ c.args.clause.now ∷ [] = ap (λ (x : WatchState). x.clauses) c.add-place.ensures.added in
    let kept : c.reserve.new.self.clauses ≡ c.args.watch.now.clauses = ap (λ (x : WatchState). x.clauses) c.in_ok-reserve.ensures.done.kept in
    added ∙ ap (λ (x : List (List Literal)). x ++ c.args.clause.now ∷ []) kept

pub returns-clause-vars : goal.returns-clause-vars
returns-clause-vars c = ap (λ (x : WatchState). x.vars) c.add-place.ensures.added ∙ ap (λ (x : WatchState). x.vars) c.in_ok-reserve.ensures.done.kept

pub returns-clause-trail : goal.returns-clause-trail
returns-clause-trail c = ap (λ (x : WatchState). x.trail) c.add-place.ensures.added ∙ ap (λ (x : WatchState). x.trail) c.in_ok-reserve.ensures.done.kept
