-- Values of words as numbers.
use Rattle.std.proofs.Common.{◌≡◌, ℕ, zero, suc, ◌+◌, ◌*◌, ◌^◌, ◌%◌, ◌≤◌, ◌<◌, Bool, true, false, not, List, [], ◌∷◌, length, take, refl, ap, sym, ◌∙◌, arith}
use Rattle.std.proofs.lemmas.Nat.{mod-mul-add}
use Rattle.std.proofs.Math.Nat.{pow-succ'}
use Rattle.ax_proof.specs.Literal.{Literal, negation}
use Rattle.ax_proof.specs.Assignment.{lit_value}
use Rattle.ax_gates.specs.Words.{digit, word_value}
use Rattle.ax_gates.proofs.GateLaws.{signed-not}

pub digit-lt : (b : Bool) → digit b < 2
digit-lt true = omega arith
digit-lt false = omega arith

not_digit : (b : Bool) → digit (not b) + digit b ≡ 1
not_digit true = refl
not_digit false = refl

pub negation_digit : (v : ℕ → Bool) (l : Literal) → digit (lit_value v (negation l)) + digit (lit_value v l) ≡ 1
negation_digit v l = ap (λ (b : Bool). digit b + digit (lit_value v l)) (signed-not l.positive (v l.var)) ∙ not_digit (lit_value v l)

pub pow_pos : (k : ℕ) → 0 < 2 ^ k
pow_pos zero = omega arith
pow_pos (suc k) = let h = pow_pos k in omega (arith, pow-succ' 2 k)

pub word_value-lt : (v : ℕ → Bool) (a : List Literal) → word_value v a < 2 ^ length a
word_value-lt v [] = omega arith
word_value-lt v (x ∷ a) = let h = word_value-lt v a in let d = digit-lt (lit_value v x) in omega (arith, pow-succ' 2 (length a))

-- the word is the number modulo m
pub record Wraps (w m s : ℕ) : Type 0 where
  pub times : ℕ
  pub total : w + times * m ≡ s

pub wraps_mod : (w m s : ℕ) → w < m → Wraps w m s → w ≡ s % m
wraps_mod w m s l h =
    sym (ap (λ (x : ℕ). x % m) (sym h.total)
    ∙ (ap (λ (x : ℕ). x % m) (let e : w + h.times * m ≡ h.times * m + w = omega arith in e) ∙ mod-mul-add h.times m w l))

pub low_part : (v : ℕ → Bool) (l : ℕ) (a : List Literal) → l ≤ length a → Wraps (word_value v (take l a)) (2 ^ l) (word_value v a)
low_part v zero a le = record { times = word_value v a; total = omega arith }
low_part v (suc l) [] le = absurd (omega arith)
low_part v (suc l) (x ∷ a) le =
    let r = low_part v l a (omega arith) in
    record { times = r.times; total = (let e : r.times * 2 ^ suc l ≡ 2 * (r.times * 2 ^ l) = rw (pow-succ' 2 l) (omega arith) in let t = r.total in omega arith) }
