use Rattle.ax_proof.proofs.Models.{forced_holds, lawful_holds, proof_refutes, new_is_not_empty, new_has_no_subset, right_is_lawful, own_variables_decide}
use Rattle.ax_proof.proofs.Namings.{names_do_not_count}
use Rattle.ax_proof.proofs.laws.laws.Goals as goal

pub returns-clause-forced_holds : goal.returns-clause-forced_holds
returns-clause-forced_holds c = forced_holds

pub returns-clause-lawful_holds : goal.returns-clause-lawful_holds
returns-clause-lawful_holds c = lawful_holds

pub returns-clause-proof_refutes : goal.returns-clause-proof_refutes
returns-clause-proof_refutes c = proof_refutes

pub returns-clause-new_is_not_empty : goal.returns-clause-new_is_not_empty
returns-clause-new_is_not_empty c = new_is_not_empty

pub returns-clause-new_has_no_subset : goal.returns-clause-new_has_no_subset
returns-clause-new_has_no_subset c = new_has_no_subset

pub returns-clause-right_is_lawful : goal.returns-clause-right_is_lawful
returns-clause-right_is_lawful c = right_is_lawful

pub returns-clause-own_variables_decide : goal.returns-clause-own_variables_decide
returns-clause-own_variables_decide c = own_variables_decide

pub returns-clause-names_do_not_count : goal.returns-clause-names_do_not_count
returns-clause-names_do_not_count c = names_do_not_count
