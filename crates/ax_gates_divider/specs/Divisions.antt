-- Division of words without sign, bit by bit from the highest.
use Rattle.std.specs.Prelude.{ℕ, zero, suc, ◌+◌, ◌*◌, ◌-◌, ◌^◌, ◌/◌, ◌%◌, true, List, [], ◌∷◌, ◌++◌, length, take, map, replicate}
use Rattle.ax_proof.specs.Literal.{Literal, literal, negation}
use Rattle.ax_gates.specs.Gates.{Gate}
use Rattle.ax_gates.specs.Words.{fresh, pick_gates, lit_true, lit_false}
use Rattle.ax_gates_adders.specs.Adders.{carry_gates, carry_outs}

-- the bits of a divisor negated, below a bit that is true: with a carry of 1, adding them takes the divisor away
abbrev pub negated : List Literal → List Literal
negated b = map negation b ++ lit_true ∷ []

-- the carry out of that sum: whether the divisor fits into the word
abbrev pub fits : ℕ → List Literal → Literal
fits n wide = literal (n + 2 * length wide) true

-- A turn: the divisor is taken from a word that is one bit wider, and where it fits the difference's low bits are the new
-- remainder, else the word's own.
abbrev pub turn_gates : ℕ → List Literal → List Literal → ℕ → List Gate
turn_gates n wide minus low =
    carry_gates n wide minus lit_true ++ pick_gates (fits n wide) (take low (carry_outs n wide lit_true)) (take low wide)

-- how many variables it has: two a bit of the sum, and one a bit of the new remainder
abbrev pub turn_vars : ℕ → ℕ
turn_vars low = 2 * (low + 1) + low

-- a division under way: how many variables there are, the gates, and the words so far
pub record Division : Type 0 where
  pub vars : ℕ
  pub gates : List Gate
  pub quotient : List Literal
  pub remainder : List Literal

-- the dividend's next bit stands below the remainder
abbrev pub turn_of : Literal → List Literal → Division → Division
turn_of x b d =
    record {
      vars = d.vars + turn_vars (length b);
      gates = d.gates ++ turn_gates d.vars (x ∷ d.remainder) (negated b) (length b);
      quotient = fits d.vars (x ∷ d.remainder) ∷ d.quotient;
      remainder = fresh (d.vars + 2 * (length b + 1)) b;
    }

-- the dividend's higher bits first
abbrev pub division : ℕ → List Literal → List Literal → Division
division n [] b = record { vars = n; gates = []; quotient = []; remainder = replicate (length b) lit_false }
division n (x ∷ a) b = turn_of x b (division n a b)

-- how many variables a division of two such words has
abbrev pub divide_vars : ℕ → ℕ
divide_vars bits = bits * turn_vars bits

-- quotient and remainder of numbers: by 0, all ones in so many bits, and the dividend
abbrev pub quotient_of : ℕ → ℕ → ℕ → ℕ
quotient_of bits x zero = 2 ^ bits - 1
quotient_of bits x (suc y) = x / suc y

abbrev pub remainder_of : ℕ → ℕ → ℕ
remainder_of x zero = x
remainder_of x (suc y) = x % suc y
