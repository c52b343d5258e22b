-- Why a call gave no answer.
use Rattle.std.proofs.Common.{Result, IfErr}
use Rattle.std.proofs.lemmas.Result.{IfErr-weaker}
use Rattle.ax_proof.specs.Denied.{IfFault}
use Rattle.ax_proof.specs.declared.denied.Denied.{Denied}
use Rattle.ax_proof.specs.declared.denied.Denied.TheVariants.{Fault, Memory}

fault_weaker : {F : Type 0} (P Q : F → Type 0) → ((fault : F) → P fault → Q fault) → (denied : Denied F) → IfFault denied P → IfFault denied Q
fault_weaker P Q to (Fault fault) h = to fault h
fault_weaker P Q to Memory h = h

pub if_fault_weaker : {T F : Type 0} (r : Result T (Denied F)) (P Q : F → Type 0) → ((fault : F) → P fault → Q fault) → IfErr r (λ denied. IfFault denied P) → IfErr r (λ denied. IfFault denied Q)
if_fault_weaker r P Q to = IfErr-weaker r (λ denied. IfFault denied P) (λ denied. IfFault denied Q) (fault_weaker P Q to)
