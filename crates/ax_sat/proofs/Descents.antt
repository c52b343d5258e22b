-- How a descent goes on and ends.
use Rattle.std.proofs.Common.{◌≡◌, ℕ, ◌<◌, ◌≤◌, length-append, List, [], ◌++◌, length, arith, sym, subst, Result, Ok, Err}
use Rattle.std.specs.Prelude.{IfOk}
use Rattle.std.specs.List.{All}
use Rattle.std.proofs.lemmas.List.{take_all}
use Rattle.ax_proof.specs.Literal.{Literal, IsOver}
use Rattle.ax_proof.specs.Propagation.{HasRup}
use Rattle.ax_proof.specs.Trail.{IsFalsified, IsSettled}
use Rattle.ax_proof.specs.Runs.{Begins, GoesOn}
use Rattle.ax_watch.specs.Watch.{WatchState, IsSound, trail_of, clause_of}
use Rattle.ax_sat.specs.Answer.{units}
use Rattle.ax_sat.specs.Levels.{AreTrue, Stands, Asks}
use Rattle.ax_sat.specs.Search.{AreAssigned, IsComplete, IsEnd, DescentSays}
use Rattle.ax_sat.specs.declared.levels.Levels.{Levels}
use Rattle.ax_sat.specs.declared.descent.Descent.{Descent}
use Rattle.ax_sat.specs.declared.descent.Descent.TheVariants.{Complete, Conflict, Refuted}
use Rattle.ax_sat.proofs.Decisions.{stands_on, asks_on}
use Rattle.ax_sat.proofs.Denying.{root_false}
use Rattle.ax_sat.proofs.Learning.{units_settled}
use Rattle.ax_sat.proofs.Models.{complete_model, units_over}
use Rattle.ax_sat.proofs.Marking.{stands_at}
use Rattle.ax_sat.proofs.Watches.{clauses_kept}

pub begins_long : (old new : List Literal) → Begins old new → length old ≤ length new
begins_long old new (rest, e) = let n = length-append old rest in let P : List Literal → Type 0 = λ z. length old ≤ length z in subst P (sym e) (omega arith)

module _ (w v : WatchState) (starts : List ℕ) (kept : v ≡ record w { trail = v.trail; reasons = v.reasons }) (goes : GoesOn w.clauses (trail_of w) (trail_of v)) (sound : IsSound v) (s : Stands w.clauses w.trail w.reasons starts) where
  paired_before : length w.reasons ≡ length w.trail
  paired_before = let p = goes.paired in let q = sound.trail.paired in omega arith

  pub spread_stands : Stands v.clauses v.trail v.reasons starts
  spread_stands =
      let P : List (List Literal) → Type 0 = λ z. Stands z v.trail v.reasons starts in
      subst P (sym (clauses_kept w v kept)) (stands_on w.clauses (trail_of w) (trail_of v) starts goes s paired_before)

  pub spread_asks : (assumed : List Literal) (roots asked : ℕ) → Asks assumed w.trail starts roots asked → Asks assumed v.trail starts roots asked
  spread_asks assumed roots asked a = asks_on w.clauses (trail_of w) (trail_of v) starts goes s paired_before assumed roots asked a

  pub spread_long : length w.trail ≤ length v.trail
  spread_long = begins_long w.trail v.trail goes.lits

  pub spread_false : (place : ℕ) → (place < length w.clauses) × IsFalsified v.trail (clause_of w.clauses place) → (place < length v.clauses) × IsFalsified v.trail (clause_of v.clauses place)
  spread_false place h = let P : List (List Literal) → Type 0 = λ z. (place < length z) × IsFalsified v.trail (clause_of z place) in subst P (sym (clauses_kept w v kept)) h

  pub spread_settled : All (IsSettled v.trail) w.clauses → All (IsSettled v.trail) v.clauses
  spread_settled h = let P : List (List Literal) → Type 0 = λ z. All (IsSettled v.trail) z in subst P (sym (clauses_kept w v kept)) h

-- a false clause where all decisions are assumptions
pub refuted_here : (v : WatchState) (assumed : List Literal) (starts : List ℕ) (roots asked place : ℕ) → IsSound v → Stands v.clauses v.trail v.reasons starts → Asks assumed v.trail starts roots asked → length starts ≤ roots → (place < length v.clauses) × IsFalsified v.trail (clause_of v.clauses place) → HasRup (v.clauses ++ units assumed) []
refuted_here v assumed starts roots asked place sound s a all (within, false_clause) =
    root_false v.clauses assumed v.trail v.reasons starts roots asked s sound.reasons a all (clause_of v.clauses place) (stands_at v.clauses place within) false_clause

pub told_all : (assumed trail : List Literal) (starts : List ℕ) (roots asked : ℕ) → Asks assumed trail starts roots asked → length assumed ≤ asked → AreTrue trail assumed
told_all assumed trail starts roots asked a all = let P : List Literal → Type 0 = λ z. AreTrue trail z in subst P (take_all asked assumed all) a.told

-- the truth values of a trail on which all variables have values
pub complete_says : {E : Type 0} (result : Result Descent E) (v : WatchState) (assumed : List Literal) (levels : Levels) → IfOk result (λ end. IsComplete v.trail v.vars end) → IsSound v → IsOver v.vars assumed → All (IsSettled v.trail) v.clauses → AreTrue v.trail assumed → AreAssigned v.trail v.vars → IfOk result (λ end. DescentSays assumed v levels end)
complete_says (Ok (Complete a)) v assumed levels bits sound over settled all assigned =
    complete_model (v.clauses ++ units assumed) v.trail a.bits.items v.vars bits sound.consistent assigned (units_over v.vars v.clauses assumed over sound.over) (units_settled v.clauses assumed v.trail all settled)
complete_says (Ok (Conflict place)) v assumed levels bits sound over settled all assigned = absurd bits
complete_says (Ok Refuted) v assumed levels bits sound over settled all assigned = absurd bits
complete_says (Err e) v assumed levels bits sound over settled all assigned = tt

pub full_says : {E : Type 0} (result : Result Descent E) (v u : WatchState) (assumed : List Literal) (levels : Levels) → u ≡ v → IfOk result (λ end. IsComplete u.trail u.vars end) → IsSound v → IsOver v.vars assumed → All (IsSettled v.trail) v.clauses → AreTrue u.trail assumed → AreAssigned u.trail u.vars → IfOk result (λ end. DescentSays assumed u levels end)
full_says result v u assumed levels e bits sound over settled all assigned =
    let P : WatchState → Type 0 = λ z. IfOk result (λ end. IsComplete z.trail z.vars end) → AreTrue z.trail assumed → AreAssigned z.trail z.vars → IfOk result (λ end. DescentSays assumed z levels end) in
    subst P (sym e) (λ b t h. complete_says result v assumed levels b sound over settled t h) bits all assigned

pub end_says : (end : Descent) (v : WatchState) (assumed : List Literal) (levels : Levels) (place : ℕ) → IsEnd levels.starts.items levels.roots place end → IsSound v → Stands v.clauses v.trail v.reasons levels.starts.items → Asks assumed v.trail levels.starts.items levels.roots levels.asked → (place < length v.clauses) × IsFalsified v.trail (clause_of v.clauses place) → DescentSays assumed v levels end
end_says (Complete a) v assumed levels place h sound s a' false_clause = absurd h
end_says (Conflict at) v assumed levels place (e, lower) sound s a (within, false_clause) =
    let P : ℕ → Type 0 = λ z. (z < length v.clauses) × IsFalsified v.trail (clause_of v.clauses z) in
    let here = subst P (sym e) (within, false_clause) in
    (s, a, lower, here.0, here.1)
end_says Refuted v assumed levels place all sound s a false_clause = refuted_here v assumed levels.starts.items levels.roots levels.asked place sound s a all false_clause
