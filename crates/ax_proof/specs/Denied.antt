-- Why a call gave no answer.
use Rattle.ax_proof.specs.declared.denied.Denied.{Denied}
use Rattle.ax_proof.specs.declared.denied.Denied.TheVariants.{Fault, Memory}

-- where it was a fault
abbrev pub IfFault : {F : Type 0} → Denied F → (F → Type 0) → Type 0
IfFault (Fault fault) P = P fault
IfFault Memory P = Unit {0}
