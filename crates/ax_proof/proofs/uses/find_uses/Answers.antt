use Rattle.std.proofs.Common.{◌∙◌}
use Rattle.std.proofs.lemmas.Result.{IfOk-weaker}
use Rattle.ax_proof.specs.Uses.{lists}
use Rattle.ax_proof.proofs.Denieds.{if_fault_weaker}
use Rattle.ax_proof.proofs.Namings.{right_stands, first_unlawful_stands, lines_length}
use Rattle.ax_proof.proofs.uses.find_uses.Goals as goal

pub uses_below-requires-clause-below : goal.uses_below-requires-clause-below
uses_below-requires-clause-below c = rw c.as_slice-2.ensures.value c.in_ok-few.ensures.below

pub uses_below-requires-clause-lines : goal.uses_below-requires-clause-lines
uses_below-requires-clause-lines c = rw c.as_slice-3.ensures.value c.in_ok-few.ensures.lines_below

pub returns-clause-count : goal.returns-clause-count
returns-clause-count c =
    let stand = rw c.as_slice.ensures.value at c.in_ok-few.ensures in
    let found = rw c.as_slice-3.ensures.value at c.uses_below.ensures.count in
    IfOk-weaker c.uses_below.result _ _ (λ uses h. h ∙ lines_length _ _ _ _ _ stand) found

pub returns-clause-right : goal.returns-clause-right
returns-clause-right c =
    let stand = rw c.as_slice.ensures.value at c.in_ok-few.ensures in
    let found = rw (c.as_slice-2.ensures.value, c.as_slice-3.ensures.value) at c.uses_below.ensures.right in
    IfOk-weaker c.uses_below.result _ _ (λ uses h. right_stands _ _ _ _ _ stand (lists uses.items) h) found

pub returns-clause-fault : goal.returns-clause-fault
returns-clause-fault c =
    let stand = rw c.as_slice.ensures.value at c.in_ok-few.ensures in
    let found = rw (c.as_slice-2.ensures.value, c.as_slice-3.ensures.value) at c.uses_below.ensures.fault in
    if_fault_weaker c.uses_below.result _ _ (λ bad h. first_unlawful_stands _ _ _ _ _ stand bad.at h) found
