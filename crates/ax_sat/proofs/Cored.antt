-- What a search finds of a core of clauses holds of all of them.
use Rattle.std.proofs.Common.{◌≡◌, ℕ, List, [], ◌++◌, map, Bool}
use Rattle.ax_proof.specs.Literal.{Literal, negation}
use Rattle.ax_proof.specs.Assignment.{assigned}
use Rattle.ax_proof.specs.Propagation.{HasRup}
use Rattle.ax_sat_policy.specs.Core.{IsCore}
use Rattle.ax_sat_policy.proofs.Cores.{core_conflicts, core_quiet, core_new, core_satisfies, core_append, core_along}
use Rattle.ax_watch.specs.Watch.{WatchState}
use Rattle.ax_sat.specs.Answer.{units, IsModel}
use Rattle.ax_sat.specs.Search.{IsLesson}
use Rattle.ax_sat.proofs.Watches.{clauses_kept}

module _ (core all : List (List Literal)) (is : IsCore core all) (assumed : List Literal) where
  with_units : IsCore (core ++ units assumed) (all ++ units assumed)
  with_units = core_append core all is (units assumed)

  pub lesson_of_core : (vars : ℕ) (line : List Literal) → IsLesson core assumed vars line → IsLesson all assumed vars line
  lesson_of_core vars line lesson = record {
    lawful = core_conflicts core all is (map negation line) lesson.lawful;
    fresh = core_new (core ++ units assumed) (all ++ units assumed) with_units line lesson.fresh;
    over = lesson.over;
    rising = lesson.rising;
  }

  pub refuted_by_core : HasRup (core ++ units assumed) [] → HasRup (all ++ units assumed) []
  refuted_by_core h = core_conflicts (core ++ units assumed) (all ++ units assumed) with_units [] h

  pub open_by_core : (HasRup (core ++ units assumed) [] → ⊥) → HasRup (all ++ units assumed) [] → ⊥
  open_by_core still h = core_quiet (core ++ units assumed) (all ++ units assumed) with_units [] still h

  pub model_by_core : (vars : ℕ) (bits : List Bool) → IsModel (core ++ units assumed) vars bits → IsModel (all ++ units assumed) vars bits
  model_by_core vars bits (covers, holds) = (covers, core_satisfies (core ++ units assumed) (all ++ units assumed) with_units (assigned bits) holds)

-- a core stays one while the trail alone changes
pub core_kept : (w v : WatchState) (all : List (List Literal)) → v ≡ record w { trail = v.trail; reasons = v.reasons } → IsCore w.clauses all → IsCore v.clauses all
core_kept w v all kept is = core_along w.clauses v.clauses all (clauses_kept w v kept) is
