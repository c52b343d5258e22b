use Rattle.std.proofs.lemmas.Result.{on_ok_weaker}
use Rattle.ax_proof.proofs.Denieds.{if_fault_weaker}
use Rattle.ax_proof.proofs.Namings.{lawful_stands, first_unlawful_stands}
use Rattle.ax_proof.proofs.lines.check_lines.Goals as goal

pub check_below-requires-clause-below : goal.check_below-requires-clause-below
check_below-requires-clause-below c = rw c.as_slice-2.ensures.value c.in_ok-few.ensures.below

pub check_below-requires-clause-lines : goal.check_below-requires-clause-lines
check_below-requires-clause-lines c = rw c.as_slice-3.ensures.value c.in_ok-few.ensures.lines_below

pub returns-clause-lawful : goal.returns-clause-lawful
returns-clause-lawful c =
    let stand = rw c.as_slice.ensures.value at c.in_ok-few.ensures in
    let found = rw (c.as_slice-2.ensures.value, c.as_slice-3.ensures.value) at c.check_below.ensures.lawful in
    on_ok_weaker c.check_below.result (lawful_stands _ _ _ _ _ stand) found

pub returns-clause-fault : goal.returns-clause-fault
returns-clause-fault c =
    let stand = rw c.as_slice.ensures.value at c.in_ok-few.ensures in
    let found = rw (c.as_slice-2.ensures.value, c.as_slice-3.ensures.value) at c.check_below.ensures.fault in
    if_fault_weaker c.check_below.result _ _ (λ bad h. first_unlawful_stands _ _ _ _ _ stand bad.at h) found
