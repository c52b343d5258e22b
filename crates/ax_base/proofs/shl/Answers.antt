use Rattle.std.proofs.Common.{◌≡◌, ℕ, ◌*◌, ◌+◌, ◌/◌, ◌^◌, ◌<◌, ◌≤◌, false, arith, refl, ℤ, pos, negsuc, nat_abs, FitsSigned, Option, None, w32}
use Rattle.std.proofs.lemmas.Int.{to_z-of_z}
use Rattle.std.proofs.lemmas.Grind.{common_steps}
use Rattle.std.proofs.Math.Nat.{lt-mul-div-succ, mul-le-mul_left}
use Rattle.std.proofs.Math.Pow.{pow_pos}
use lib.Signed.{lt_z}
use Rattle.ax_base.specs.Arithmetic.{shift_left_of}
use Rattle.ax_base.proofs.shl.Goals as goal

-- past the greatest word that has room, the product leaves the range
no_room : (m d w : ℕ) → 0 < d → m / d < w → m < w * d
no_room m d w p h =
    let below : m < d * (m / d + 1) = lt-mul-div-succ m p in
    let wide : d * (m / d + 1) ≤ d * w = mul-le-mul_left d (omega arith) in
    omega arith

none_past : (a b : ℤ) → lt_z a (pos 0) ≡ false → lt_z b (pos 0) ≡ false → 2147483647 / 2 ^ nat_abs b < nat_abs a → ◌≡◌ {A = Option ℤ} None (shift_left_of a b)
none_past (pos a) (pos n) p q h =
    let k : 2147483647 < a * 2 ^ n = no_room 2147483647 (2 ^ n) a (pow_pos n) h in
    grind (arith, common_steps)
none_past (pos a) (negsuc n) p q h = refl
none_past (negsuc a) b p q h = refl

pub returns-else-word-count : goal.returns-else-word-count
returns-else-word-count c =
    let fa : FitsSigned w32 c.args.a = c.ranges.a in
    let fb : FitsSigned w32 c.args.b = c.ranges.b in
    let p = simp to_z-of_z at c.if-a-lt0.false in
    let q = simp to_z-of_z at c.if-b-lt0.false in
    let h = simp to_z-of_z at c.if-word-count.false in
    none_past c.args.a c.args.b p q h
