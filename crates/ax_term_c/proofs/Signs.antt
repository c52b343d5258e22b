-- The sign of a word is its highest bit, so bitwise operators act on signs as on bits.
use Rattle.std.proofs.Common.{◌≡◌, ℕ, suc, ◌+◌, ◌*◌, ◌-◌, ◌^◌, ◌<◌, Bool, true, false, not, ◌&&◌, ℤ, pos, negsuc, refl, ap, sym, ◌∙◌, arith, FitsSigned, leb}
use Rattle.std.specs.Prelude.{int_lt, bit_and, bit_xor}
use Rattle.std.specs.Int.{w32, cast_signed, cast_unsigned, int_bit_and, int_bit_xor}
use Rattle.std.proofs.lemmas.Int.{of_z-to_z}
use Rattle.std.proofs.lemmas.Nat.{and_le_l, and_le_r, and_block, xor_block, xor_lt}
use Rattle.std.proofs.lemmas.Bool.{leb-true, leb-false, le-leb, lt-leb, le-ltb}
use Rattle.ax_term.proofs.ValueLemmas.{cast_unsigned-lt, cast_signed_fits}

pub negative_unsigned : (z : ℤ) → FitsSigned w32 z → int_lt z (pos 0) ≡ leb (2 ^ 31) (cast_unsigned w32 z)
negative_unsigned (pos n) h = rw (le-ltb n 0 (omega arith), lt-leb (2 ^ 31) n (omega (arith, h.sfits))) refl
negative_unsigned (negsuc n) h = sym (le-leb (2 ^ 31) (2 ^ 32 - suc n) (omega (arith, h.sfits)))

pub negative_signed : (n : ℕ) → n < 2 ^ 32 → int_lt (cast_signed w32 n) (pos 0) ≡ leb (2 ^ 31) n
negative_signed n h = negative_unsigned (cast_signed w32 n) (cast_signed_fits n h) ∙ ap (leb (2 ^ 31)) (of_z-to_z w32 n h)

high_and : (a b : ℕ) → a < 2 ^ 32 → b < 2 ^ 32 → leb (2 ^ 31) (bit_and a b) ≡ (leb (2 ^ 31) a && leb (2 ^ 31) b)
high_and a b p q = by (leb (2 ^ 31) a) (leb (2 ^ 31) b) refl refl
  where
    by : (x y : Bool) → leb (2 ^ 31) a ≡ x → leb (2 ^ 31) b ≡ y → leb (2 ^ 31) (bit_and a b) ≡ (x && y)
    by true true e f =
        let ha = leb-true (2 ^ 31) a e in let hb = leb-true (2 ^ 31) b f in
        let ea : 1 * 2 ^ 31 + (a - 2 ^ 31) ≡ a = omega arith in
        let eb : 1 * 2 ^ 31 + (b - 2 ^ 31) ≡ b = omega arith in
        let k = and_block 31 1 1 (a - 2 ^ 31) (b - 2 ^ 31) (omega arith) (omega arith) in
        le-leb (2 ^ 31) (bit_and a b) (rw (← ea, ← eb, k) (omega arith))
    by true false e f = let hb = leb-false (2 ^ 31) b f in let k = and_le_r a b in lt-leb (2 ^ 31) (bit_and a b) (omega arith)
    by false y e f = let ha = leb-false (2 ^ 31) a e in let k = and_le_l a b in lt-leb (2 ^ 31) (bit_and a b) (omega arith)

-- whether two truth values differ
abbrev pub apart : Bool → Bool → Bool
apart true b = not b
apart false b = b

high_xor : (a b : ℕ) → a < 2 ^ 32 → b < 2 ^ 32 → leb (2 ^ 31) (bit_xor a b) ≡ apart (leb (2 ^ 31) a) (leb (2 ^ 31) b)
high_xor a b p q = by (leb (2 ^ 31) a) (leb (2 ^ 31) b) refl refl
  where
    by : (x y : Bool) → leb (2 ^ 31) a ≡ x → leb (2 ^ 31) b ≡ y → leb (2 ^ 31) (bit_xor a b) ≡ apart x y
    by true true e f =
        let ha = leb-true (2 ^ 31) a e in let hb = leb-true (2 ^ 31) b f in
        let ea : 1 * 2 ^ 31 + (a - 2 ^ 31) ≡ a = omega arith in
        let eb : 1 * 2 ^ 31 + (b - 2 ^ 31) ≡ b = omega arith in
        let k = xor_block 31 1 1 (a - 2 ^ 31) (b - 2 ^ 31) (omega arith) (omega arith) in
        let l = xor_lt 31 (a - 2 ^ 31) (b - 2 ^ 31) (omega arith) (omega arith) in
        lt-leb (2 ^ 31) (bit_xor a b) (rw (← ea, ← eb, k) (omega arith))
    by true false e f =
        let ha = leb-true (2 ^ 31) a e in let hb = leb-false (2 ^ 31) b f in
        let ea : 1 * 2 ^ 31 + (a - 2 ^ 31) ≡ a = omega arith in
        let eb : 0 * 2 ^ 31 + b ≡ b = omega arith in
        let k = xor_block 31 1 0 (a - 2 ^ 31) b (omega arith) (omega arith) in
        le-leb (2 ^ 31) (bit_xor a b) (rw (← ea, ← eb, k) (omega arith))
    by false true e f =
        let ha = leb-false (2 ^ 31) a e in let hb = leb-true (2 ^ 31) b f in
        let ea : 0 * 2 ^ 31 + a ≡ a = omega arith in
        let eb : 1 * 2 ^ 31 + (b - 2 ^ 31) ≡ b = omega arith in
        let k = xor_block 31 0 1 a (b - 2 ^ 31) (omega arith) (omega arith) in
        le-leb (2 ^ 31) (bit_xor a b) (rw (← ea, ← eb, k) (omega arith))
    by false false e f =
        let ha = leb-false (2 ^ 31) a e in let hb = leb-false (2 ^ 31) b f in
        let l = xor_lt 31 a b (omega arith) (omega arith) in lt-leb (2 ^ 31) (bit_xor a b) (omega arith)

module _ (a b : ℤ) (p : FitsSigned w32 a) (q : FitsSigned w32 b) where
  pub negative-and : int_lt (int_bit_and w32 a b) (pos 0) ≡ (int_lt a (pos 0) && int_lt b (pos 0))
  negative-and =
      let fa = cast_unsigned-lt a p in let fb = cast_unsigned-lt b q in let k = and_le_l (cast_unsigned w32 a) (cast_unsigned w32 b) in
      rw (negative_unsigned a p, negative_unsigned b q)
      (negative_signed (bit_and (cast_unsigned w32 a) (cast_unsigned w32 b)) (omega arith) ∙ high_and (cast_unsigned w32 a) (cast_unsigned w32 b) fa fb)

  pub negative-xor : int_lt (int_bit_xor w32 a b) (pos 0) ≡ apart (int_lt a (pos 0)) (int_lt b (pos 0))
  negative-xor =
      let fa = cast_unsigned-lt a p in let fb = cast_unsigned-lt b q in
      rw (negative_unsigned a p, negative_unsigned b q)
      (negative_signed (bit_xor (cast_unsigned w32 a) (cast_unsigned w32 b)) (xor_lt 32 (cast_unsigned w32 a) (cast_unsigned w32 b) fa fb)
      ∙ high_xor (cast_unsigned w32 a) (cast_unsigned w32 b) fa fb)
