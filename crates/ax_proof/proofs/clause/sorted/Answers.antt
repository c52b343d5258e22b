use Rattle.std.proofs.Common.{length, drop, ap, ◌∙◌}
use Rattle.std.proofs.lemmas.List.{take_at}
use Rattle.std.proofs.lemmas.List.Sorted.{IsNonDecreasingBy-from_sort}
use Rattle.ax_proof.specs.Literal.{code_of}
use Rattle.ax_proof.proofs.clause.sorted.Goals as goal

pub returns-clause-rising : goal.returns-clause-rising
returns-clause-rising c =
    let same =
    take_at c.sort_unstable.new.self (drop (length c.sort_unstable.new.self) c.in_ok-all.all.items) (length c.in_ok-all.all.items)
    (c.sort_unstable.ensures.len ∙ ap length c.as_mut_slice.ensures.value)
    in
    rw same (IsNonDecreasingBy-from_sort code_of c.sort_unstable.new.self c.sort_unstable.ensures.sorted)
