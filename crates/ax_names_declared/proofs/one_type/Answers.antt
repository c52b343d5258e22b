use Rattle.ax_names_declared.proofs.Single.{one_variable, one_definition, one_function}
use Rattle.ax_names_declared.proofs.one_type.Goals as goal

pub returns-clause-variable : goal.returns-clause-variable
returns-clause-variable c = one_variable

pub returns-clause-definition : goal.returns-clause-definition
returns-clause-definition c = one_definition

pub returns-clause-function : goal.returns-clause-function
returns-clause-function c = one_function
