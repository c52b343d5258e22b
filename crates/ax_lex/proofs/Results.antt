-- What follows of a result that is a fault.
use Rattle.std.proofs.Common.{◌≡◌, ◌⊎◌, inl, inr, Result, Ok, Err, IfErr}
use Rattle.ax_lex.specs.declared.LexFault.{LexFault}
use Rattle.ax_lex.specs.declared.LexFault.TheVariants as fault
use Rattle.ax_lex.specs.Bytes.{Text}
use Rattle.ax_lex.specs.Faults.{Faulty, IsOnlyFault, IsUnspelled}
use Rattle.ax_lex.proofs.Exact.{faulty_unspelled}
use Rattle.ax_lex.proofs.OneFault.{one_fault}

pub or_memory : {A : Type 0} (r : Result A LexFault) (P : LexFault → Type 0) → IfErr r P → IfErr r (λ e. (e ≡ fault.Memory) ⊎ P e)
or_memory (Ok x) P h = h
or_memory (Err e) P h = inr h

pub only_of : {A : Type 0} (bytes : Text) (r : Result A LexFault) → IfErr r (λ e. (e ≡ fault.Memory) ⊎ Faulty bytes e) → IfErr r (λ e. (e ≡ fault.Memory) ⊎ IsOnlyFault bytes e)
only_of bytes (Ok x) h = h
only_of bytes (Err e) (inl h) = inl h
only_of bytes (Err e) (inr h) = inr (λ other g. one_fault bytes other e g h)

pub unspelled_of : {A : Type 0} (bytes : Text) (r : Result A LexFault) → IfErr r (λ e. (e ≡ fault.Memory) ⊎ Faulty bytes e) → IfErr r (λ e. (e ≡ fault.Memory) ⊎ IsUnspelled bytes)
unspelled_of bytes (Ok x) h = h
unspelled_of bytes (Err e) (inl h) = inl h
unspelled_of bytes (Err e) (inr h) = inr (faulty_unspelled bytes e h)
