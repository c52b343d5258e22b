-- Calls of a shelf one after another.
use Rattle.std.proofs.Common.{◌≡◌, ◌∙◌, ◌≤◌, ◌<◌, ◌+◌, ◌++◌, subst, ℕ, List, [], length, take, drop, None, Some, sym, refl, ap, ap₂, arith}
use Rattle.std.proofs.Math.Seq.{take-add}
use Rattle.std.proofs.lemmas.List.{length-take, length-take-le, length-append, take_all}
use Rattle.ax_outside.specs.Seen.{Told, Seen, Same, NoLess, Reads, OnKept, IsWhole}

-- the bytes that a reader has taken so far, from the file's start; of a missing file, none
abbrev pub Taken : Told → List ℕ → Type 0
Taken None bytes = Unit {0}
Taken (Some None) bytes = length bytes ≡ 0
Taken (Some (Some file)) bytes = bytes ≡ take (length bytes) file

pub same-refl : (a : Seen) → Same a a
same-refl a = record { kept = λ f. refl; printed = refl }

pub same-then : (a b c : Seen) → Same a b → Same b c → Same a c
same-then a b c p q = record { kept = λ f. q.kept f ∙ p.kept f; printed = q.printed ∙ p.printed }

pub no_less-refl : (a : Seen) → NoLess a a
no_less-refl a = record { reads = λ f. omega arith; puts = λ f. omega arith; prints = omega arith }

pub no_less-then : (a b c : Seen) → NoLess a b → NoLess b c → NoLess a c
no_less-then a b c p q = record {
  reads = λ f. let x = p.reads f in let y = q.reads f in omega arith;
  puts = λ f. let x = p.puts f in let y = q.puts f in omega arith;
  prints = let x = p.prints in let y = q.prints in omega arith;
}

more-of : (file bytes into : List ℕ) (n : ℕ) → bytes ≡ take (length bytes) file → n ≤ length into
    → take n into ≡ take n (drop (length bytes) file)
    → bytes ++ take n into ≡ take (length (bytes ++ take n into)) file
more-of file bytes into n so_far room next =
    let long : length (bytes ++ take n into) ≡ length bytes + n = length-append bytes (take n into) ∙ ap (λ k. length bytes + k) (length-take-le n into room) in
    ap₂ (λ x y. x ++ y) so_far next ∙ sym (take-add (length bytes) n file) ∙ ap (λ k. take k file) (sym long)

-- one more piece
pub taken-more : (told : Told) (bytes into : List ℕ) (n : ℕ) → n ≤ length into → Taken told bytes
    → Reads told (length bytes) into n → Taken told (bytes ++ take n into)
taken-more None bytes into n room so_far next = tt
taken-more (Some None) bytes into n room so_far next = absurd next
taken-more (Some (Some file)) bytes into n room so_far next = more-of file bytes into n so_far room next.bytes

-- nothing more
pub taken-whole : (told : Told) (bytes into : List ℕ) (n limit : ℕ) → 0 < length into → n ≡ 0 → length bytes ≤ limit
    → Taken told bytes → Reads told (length bytes) into n → OnKept told (λ file. IsWhole file bytes limit)
taken-whole None bytes into n limit room none short so_far next = tt
taken-whole (Some None) bytes into n limit room none short so_far next = absurd next
taken-whole (Some (Some file)) bytes into n limit room none short so_far next =
    let all = next.some none room in record {
      same = so_far ∙ take_all (length bytes) file all;
      short = omega arith;
    }

longer : (file bytes : List ℕ) → bytes ≡ take (length bytes) file → length bytes ≤ length file
longer file bytes e = let l = ap length e ∙ length-take (length bytes) file in grind arith

-- more than the limit
pub taken-long : (told : Told) (bytes : List ℕ) (limit : ℕ) → limit < length bytes → Taken told bytes
    → OnKept told (λ file. limit < length file)
taken-long None bytes limit long so_far = tt
taken-long (Some None) bytes limit long so_far = absurd (omega arith)
taken-long (Some (Some file)) bytes limit long so_far = let l = longer file bytes so_far in omega arith

pub taken-none : (told : Told) → Taken told []
taken-none None = tt
taken-none (Some None) = refl
taken-none (Some (Some file)) = refl

-- one more piece, as a read gave it
pub taken-read : (told then : Told) (bytes into : List ℕ) (from n : ℕ) → then ≡ told → from ≡ length bytes
    → n ≤ length into → Taken told bytes → Reads then from into n → Taken told (bytes ++ take n into)
taken-read told then bytes into from n is at room so_far next =
    let P : Told → Type 0 = λ t. Reads t from into n in
    let Q : ℕ → Type 0 = λ k. Reads told k into n in
    taken-more told bytes into n room so_far (subst Q at (subst P is next))
