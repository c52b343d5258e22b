-- An act that stops the run ends the acts after it.
use Rattle.std.proofs.Common.{◌≡◌, ap}
use Rattle.std.specs.Prelude.{Result, Ok, Err}
use Rattle.std.specs.Result.{IsErrAnd}
use Rattle.ax_meaning.specs.declared.Stop.{Stop}

pub err_is : {A : Type 0} (r : Result A Stop) (e : Stop) → IsErrAnd r (λ x. x ≡ e) → r ≡ Err e
err_is (Ok x) e h = absurd h
err_is (Err x) e h = ap Err h
