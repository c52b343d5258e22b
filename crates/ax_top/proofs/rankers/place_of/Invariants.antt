use Rattle.std.proofs.Common.{◌≡◌, ℕ, ◌<◌, map, false}
use Rattle.std.specs.Prelude.{slice_index_or}
use Rattle.std.specs.Str.{bytes_eq}
use Rattle.ax_rank_coverage.specs.Handed.{handed}
use Rattle.ax_top.proofs.Named.{nobody}
use Rattle.ax_top.proofs.rankers.place_of.Given as goal

abbrev pub invariant-loop-i : goal.invariant-loop-i
invariant-loop-i g l = (k : ℕ) → k < l.i → bytes_eq (slice_index_or (map (λ b. handed ((goal.Ranker-dyn g (b.vtable, b.value)).title b.value) ((goal.Ranker-dyn g (b.vtable, b.value)).runs b.value) ((goal.Ranker-dyn g (b.vtable, b.value)).formula b.value)) l.rankers) k nobody).title l.name ≡ false
