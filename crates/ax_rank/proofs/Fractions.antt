-- Fractions by cross products.
use Rattle.std.proofs.Common.{◌≡◌, ℕ, zero, suc, ◌*◌, ◌<◌, Ordering, Less, Equal, Greater, nat_cmp, refl, sym, ap, ap₂, ◌∙◌, arith, mul-lt-mul_of_pos_right, lt_of_mul-lt-mul_right}
use Rattle.std.specs.Ordering.{MatchOrdering}
use Rattle.std.specs.Cmp.{IsTotalOrder, nat_cmp_total}
use Rattle.std.proofs.lemmas.Cmp.{ranked}
use Rattle.ax_rank.specs.declared.ranker.Score.{Score}
use Rattle.ax_rank.specs.Scores.{IsMore}

-- a fraction over 0 is 0 over 1
abbrev pub over : ℕ → ℕ
over zero = 1
over (suc d) = suc d

abbrev pub top : ℕ → ℕ → ℕ
top n zero = 0
top n (suc d) = n

over_pos : (d : ℕ) → 0 < over d
over_pos zero = omega arith
over_pos (suc d) = omega arith

pub more_to : (n d m e : ℕ) → IsMore n d m e → top m e * over d < top n d * over e
more_to n zero m e h = absurd h
more_to n (suc d) m zero h = omega arith
more_to n (suc d) m (suc e) h = h

pub more_from : (n d m e : ℕ) → top m e * over d < top n d * over e → IsMore n d m e
more_from n zero m zero h = absurd (omega arith)
more_from n zero m (suc e) h = absurd (omega arith)
more_from n (suc d) m zero h = omega arith
more_from n (suc d) m (suc e) h = h

-- three fractions in a row, with positive denominators
chain : (a d b e c f : ℕ) → 0 < d → 0 < f → b * d < a * e → c * e < b * f → c * d < a * f
chain a d b e c f dp fp p q =
    let one : (b * d) * f < (a * e) * f = mul-lt-mul_of_pos_right p fp in
    let two : (c * e) * d < (b * f) * d = mul-lt-mul_of_pos_right q dp in
    lt_of_mul-lt-mul_right e (omega arith)

-- which of two numbers is less, by a comparison
pub less_of : (x y : ℕ) → x < y → nat_cmp x y ≡ Less
less_of x y h = grind arith

greater_of : (x y : ℕ) → y < x → nat_cmp x y ≡ Greater
greater_of x y h = grind arith

equal_of : (x y : ℕ) → x ≡ y → nat_cmp x y ≡ Equal
equal_of x y h = grind arith

pub found : (x y : ℕ) (r : Ordering) → nat_cmp x y ≡ r → MatchOrdering r (x < y) (x ≡ y) (y < x)
found x y r e = ranked x y r (sym e)

by_cases : (x y u v : ℕ) (r : Ordering) → MatchOrdering r (x < y) (x ≡ y) (y < x) → (x < y → u < v) → (x ≡ y → u ≡ v) → (y < x → v < u) → nat_cmp u v ≡ r
by_cases x y u v Less h l e g = less_of u v (l h)
by_cases x y u v Equal h l e g = equal_of u v (e h)
by_cases x y u v Greater h l e g = greater_of u v (g h)

-- products with one more factor compare alike
scaled : (x y k : ℕ) → 0 < k → nat_cmp (x * k) (y * k) ≡ nat_cmp x y
scaled x y k kp = by_cases x y (x * k) (y * k) (nat_cmp x y) (found x y (nat_cmp x y) refl) (λ l. mul-lt-mul_of_pos_right l kp) (λ e. ap (λ z. z * k) e) (λ g. mul-lt-mul_of_pos_right g kp)

abbrev pub cross : Score → Score → Ordering
cross a b = nat_cmp (top b.num b.den * over a.den) (top a.num a.den * over b.den)

alike : (a d b e c f : ℕ) → 0 < d → 0 < e → b * d ≡ a * e → nat_cmp (c * d) (a * f) ≡ nat_cmp (c * e) (b * f)
alike a d b e c f dp ep same =
    let left : (c * d) * e ≡ (c * e) * d = omega arith in
    let right : (a * f) * e ≡ (b * f) * d = omega (arith, ap (λ z. z * f) same) in
    sym (scaled (c * d) (a * f) e ep) ∙ (ap₂ nat_cmp left right ∙ scaled (c * e) (b * f) d dp)

pub cross_total : IsTotalOrder cross
cross_total = record {
  antisymm = λ a b. nat_cmp_total.antisymm (top b.num b.den * over a.den) (top a.num a.den * over b.den);
  trans = λ a b c p q. less_of _ _ (chain (top a.num a.den) (over a.den) (top b.num b.den) (over b.den) (top c.num c.den) (over c.den) (over_pos a.den) (over_pos c.den) (found _ _ Less p) (found _ _ Less q));
  congr = λ a b c p. alike (top a.num a.den) (over a.den) (top b.num b.den) (over b.den) (top c.num c.den) (over c.den) (over_pos a.den) (over_pos b.den) (found _ _ Equal p);
}
