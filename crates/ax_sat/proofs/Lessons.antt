-- What a line that was learnt leaves.
use Rattle.std.proofs.Common.{◌≡◌, ◌≢◌, ℕ, ◌+◌, ◌-◌, ◌<◌, ◌≤◌, List, [], ◌∷◌, ◌++◌, length, take, get_or, arith, inl, inr, sym, subst, ap, ◌∙◌, append_assoc, length-take}
use Rattle.std.specs.List.{AllPairs}
use Rattle.std.proofs.lemmas.Bool.{cases_lt}
use Rattle.std.proofs.lemmas.List.{take-take, get_or-take}
use Rattle.ax_proof.specs.Literal.{Literal}
use Rattle.ax_proof.specs.Trail.{IsConsistent, IsSettled}
use Rattle.ax_watch.specs.Watch.{WatchState, IsSound}
use Rattle.ax_sat_policy.specs.Core.{IsCore}
use Rattle.ax_sat_policy.proofs.Cores.{core_along, core_append}
use Rattle.ax_sat.specs.Analysis.{Explains}
use Rattle.ax_sat.specs.Levels.{Stands, Asks, IsDenied}
use Rattle.ax_sat.specs.Search.{IsLesson, Learns, Logs}
use Rattle.ax_sat.specs.declared.levels.Levels.{Levels}
use Rattle.ax_sat.proofs.Decisions.{stands_back, stands_with, asks_after}
use Rattle.ax_sat.proofs.Denying.{line_settled}
use Rattle.ax_sat.proofs.Marking.{explained_lesson}
use Rattle.ax_sat.proofs.Logging.{logs_more}
use Rattle.ax_sat.proofs.Cored.{lesson_of_core}

-- the decisions that are left, with the line behind the clauses
module _ (cs : List (List Literal)) (trail : List Literal) (reasons starts : List ℕ) (line : List Literal) (s : Stands cs trail reasons starts) (ok : IsConsistent trail) (once : AllPairs (λ (a b : Literal). a.var ≢ b.var) trail) (x : Explains cs trail (get_or starts (length starts - 1) 0) line) (left : ℕ) (low : left < length starts)
    (denied : 0 < left → (place : ℕ) × IsDenied trail line (get_or starts (length starts - 1) 0) place × (get_or starts (left - 1) 0 ≤ place)) where
  low_start : (i : ℕ) → i < left → get_or starts i 0 ≤ get_or starts (left - 1) 0
  low_start i less =
      elim (cases_lt i (left - 1)) [
        | inl h ↦ let r = s.rising i (left - 1) h (omega arith) in omega arith
        | inr h ↦ let e : i ≡ left - 1 = omega arith in let P : ℕ → Type 0 = λ z. get_or starts z 0 ≤ get_or starts (left - 1) 0 in subst P (sym e) (omega arith)
      ]

  settled_before : (i : ℕ) → i < length (take left starts) → IsSettled (take (get_or (take left starts) i 0) (take (get_or starts left 0) trail)) line
  settled_before i h =
      let n = length-take left starts in
      let less : i < left = omega arith in
      let r = s.rising i left less low in
      let (place, d, reached) = denied (omega arith) in
      let first = low_start i less in
      let P : ℕ → Type 0 = λ z. IsSettled (take z (take (get_or starts left 0) trail)) line in
      let Q : List Literal → Type 0 = λ z. IsSettled z line in
      subst P (sym (get_or-take left starts i 0 less))
      (subst Q (sym (take-take (get_or starts i 0) (get_or starts left 0) trail (omega arith)))
      (line_settled cs trail line (get_or starts (length starts - 1) 0) place (get_or starts i 0) x ok once d (omega arith)))

  pub stands_left : length reasons ≡ length trail → (cs_now : List (List Literal)) (trail_now : List Literal) (reasons_now starts_now : List ℕ) → cs_now ≡ cs ++ line ∷ [] → trail_now ≡ take (get_or starts left 0) trail → reasons_now ≡ take (get_or starts left 0) reasons → starts_now ≡ take left starts → Stands cs_now trail_now reasons_now starts_now
  stands_left paired cs_now trail_now reasons_now starts_now e f g h =
      rw (e, f, g, h) (stands_with cs (take (get_or starts left 0) trail) (take (get_or starts left 0) reasons) (take left starts) line (stands_back cs trail reasons starts s left low paired) settled_before)

-- the line is a lesson, and the log goes on with it
module _ (w v : WatchState) (assumed : List Literal) (levels levels_left : Levels) (lines lines_now : List (List Literal)) (sound : IsSound w) (s : Stands w.clauses w.trail w.reasons levels.starts.items) (a : Asks assumed w.trail levels.starts.items levels.roots levels.asked) (some : levels.roots < length levels.starts.items) (l : Learns w v levels levels_left lines lines_now) where
  pub learns_lesson : IsLesson w.clauses assumed w.vars l.line
  learns_lesson =
      explained_lesson w.clauses assumed w.trail w.vars (get_or levels.starts.items (length levels.starts.items - 1) 0) l.line sound.consistent sound.literals
      (s.settled (length levels.starts.items - 1) (omega arith))
      (a.later (length levels.starts.items - 1) (omega arith) (omega arith))
      l.explains

  pub learns_asks : Asks assumed v.trail levels_left.starts.items levels_left.roots levels_left.asked
  learns_asks = asks_after w.clauses assumed w.trail w.reasons levels.starts.items levels.roots levels.asked l.left v.trail levels_left.starts.items levels_left.roots levels_left.asked s a l.low l.trail l.goes_back.starts l.goes_back.roots

  pub learns_logs : (cs : List (List Literal)) (vars : ℕ) (old : List (List Literal)) (count : ℕ) → IsCore w.clauses (cs ++ lines) → w.vars ≡ vars → Logs cs assumed vars old lines count → Logs cs assumed vars old lines_now (count + 1)
  learns_logs cs vars old count core f log =
      let lesson = rw f at (lesson_of_core w.clauses (cs ++ lines) core assumed w.vars l.line learns_lesson) in
      rw l.logged (logs_more cs assumed vars old lines count log l.line lesson)

  pub learns_core : (cs : List (List Literal)) → IsCore w.clauses (cs ++ lines) → IsCore v.clauses (cs ++ lines_now)
  learns_core cs core =
      let all : (cs ++ lines) ++ l.line ∷ [] ≡ cs ++ lines_now = append_assoc cs lines (l.line ∷ []) ∙ ap (λ (x : List (List Literal)). cs ++ x) (sym l.logged) in
      let P : List (List Literal) → Type 0 = λ z. IsCore (w.clauses ++ l.line ∷ []) z in
      core_along _ _ _ l.clauses (subst P all (core_append w.clauses (cs ++ lines) core (l.line ∷ [])))
