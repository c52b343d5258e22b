-- What evaluating gives: a value, or the cause of the first undefined act. The left of two operands is evaluated first.
use Rattle.std.specs.Prelude.{Option, Some, None, Result, Ok, Err}
use Rattle.ax_meaning.specs.declared.Why.{Why}

abbrev pub Answer : Type 0 → Type 0
Answer A = Result A Why

-- goes on with a value
abbrev pub with_value : {A B : Type 0} → (A → Answer B) → Answer A → Answer B
with_value f (Err why) = Err why
with_value f (Ok x) = f x

-- goes on with two values; the left operand's cause comes first
abbrev pub with_values : {A B C : Type 0} → (A → B → Answer C) → Answer A → Answer B → Answer C
with_values f (Err why) b = Err why
with_values f (Ok x) (Err why) = Err why
with_values f (Ok x) (Ok y) = f x y

-- a value that may be undefined, for this cause
abbrev pub value_or : {A : Type 0} → Option A → Why → Answer A
value_or None why = Err why
value_or (Some x) why = Ok x
