-- Runs of one kind; private contracts alone cite this.
use Rattle.std.specs.Prelude.{ℕ, Bool, true, false, not, ◌&&◌}
use Rattle.ax_rank.specs.declared.ranker.SeenRun.{SeenRun}
use Rattle.ax_rank.specs.Runs.{covers}

-- the run covers the place or not, and passed or not
abbrev pub is_kind : Bool → Bool → ℕ → SeenRun → Bool
is_kind true true place run = covers run place && run.passed
is_kind true false place run = covers run place && not run.passed
is_kind false true place run = not (covers run place) && run.passed
is_kind false false place run = not (covers run place) && not run.passed
