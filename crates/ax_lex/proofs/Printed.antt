-- Numbers as they are printed.
use Rattle.std.proofs.Common.{◌≡◌, ◌≤◌, ◌<◌, ◌^◌, ◌*◌, ◌%◌, ℕ, ◌+◌, Bool, true, false, eqb, ltb, [], ◌∷◌, ◌++◌, get_or, Option, Some, pos, refl, sym, ap, ◌∙◌, subst, arith, ⊎_elim, zero-add, cond, option_map}
use Rattle.std.specs.List.{list_all}
use Rattle.std.specs.Char.{is_ascii_digit}
use Rattle.std.specs.Fmt.{decimal}
use Rattle.std.proofs.lemmas.Bool.{cases_eq, and_parts, and_from, le-leb, ne_eqb}
use Rattle.std.proofs.lemmas.Bool.Decides.{nat_tests}
use Rattle.std.proofs.lemmas.Fmt.{decimal_digit, decimal_by_steps, first_decimal}
use Rattle.ax_prog.specs.declared.tokens.Kind.TheVariants as k
use Rattle.ax_lex.specs.Bytes.{Text, digit}
use Rattle.ax_lex.specs.Tokens.{is_hex, value, numeral, number_of, small, kind_of}
use Rattle.ax_lex.specs.Splices.{SpellsInside}
use Rattle.ax_lex.proofs.Inside.{token_inside}

digit_is : (r : ℕ) → r < 10 → (is_ascii_digit (48 + r) ≡ true) × (digit (48 + r) ≡ r)
digit_is r lt =
    let is : is_ascii_digit (48 + r) ≡ true = grind (arith, nat_tests) in
    (is, rw is (omega arith))

value-append : (n : ℕ) (ds : Text) (d : ℕ) → value 10 n (ds ++ d ∷ []) ≡ 10 * value 10 n ds + digit d
value-append n [] d = refl
value-append n (c ∷ ds) d = value-append (10 * n + digit c) ds d

digits-append : (ds : Text) (d : ℕ) → list_all is_ascii_digit ds ≡ true → is_ascii_digit d ≡ true → list_all is_ascii_digit (ds ++ d ∷ []) ≡ true
digits-append [] d a b = and_from (is_ascii_digit d) true b refl
digits-append (c ∷ ds) d a b = let p = and_parts (is_ascii_digit c) (list_all is_ascii_digit ds) a in and_from (is_ascii_digit c) (list_all is_ascii_digit (ds ++ d ∷ [])) p.0 (digits-append ds d p.1 b)

record Reads (n : ℕ) (ds : Text) : Type 0 where
  digits : list_all is_ascii_digit ds ≡ true
  number : value 10 0 ds ≡ n

decimal_reads : (n : ℕ) → n < 2 ^ 64 → Reads n (decimal n)
decimal_reads = decimal_by_steps Reads
    (λ n lt. let d = digit_is n lt in record { digits = and_from (is_ascii_digit (48 + n)) true d.0 refl; number = zero-add (digit (48 + n)) ∙ d.1 })
    (λ n ds le r. let d = digit_is (n % 10) (omega arith) in record {
      digits = digits-append ds (48 + n % 10) r.digits d.0;
      number = value-append 0 ds (48 + n % 10) ∙ (λ i. 10 * r.number i + d.1 i) ∙ omega arith;
    })

numeral_is : (base d : ℕ) (ds : Text) → list_all (λ c. ltb (digit c) base) (d ∷ ds) ≡ true → numeral base (d ∷ ds) ≡ Some (value base 0 (d ∷ ds))
numeral_is base d ds h = rw h refl

number_kind : (d : ℕ) (ds : Text) → is_ascii_digit d ≡ true → kind_of (d ∷ ds) ≡ option_map (λ (n : ℕ). k.Number (pos n)) (small (number_of (d ∷ ds)))
number_kind d ds h = rw h refl

small_is : (n : ℕ) → n ≤ 2147483647 → small (Some n) ≡ Some n
small_is n le = rw (le-leb n 2147483647 le) refl

-- digits without a leading 0
plain_kind : (ds : Text) (n : ℕ) → Reads n ds → 48 < get_or ds 0 0 → n ≤ 2147483647 → kind_of ds ≡ Some (k.Number (pos n))
plain_kind [] n r lt le = absurd (omega arith)
plain_kind (d ∷ ds) n r lt le =
    let first = (and_parts (is_ascii_digit d) (list_all is_ascii_digit ds) r.digits).0 in
    let no_zero : eqb d 48 ≡ false = ne_eqb d 48 (λ (e : d ≡ 48). absurd (omega arith)) in
    let plain : is_hex (d ∷ ds) ≡ false = rw no_zero refl in
    let based : number_of (d ∷ ds) ≡ numeral (cond (eqb d 48) 8 10) (d ∷ ds) = rw plain refl in
    let base : number_of (d ∷ ds) ≡ numeral 10 (d ∷ ds) = based ∙ ap (λ (b : Bool). numeral (cond b 8 10) (d ∷ ds)) no_zero in
    let number : number_of (d ∷ ds) ≡ Some n = base ∙ numeral_is 10 d ds (below_ten (d ∷ ds) r.digits) ∙ ap (λ (j : ℕ). let o : Option ℕ = Some j in o) r.number in
    number_kind d ds first ∙ ap (λ (o : Option ℕ). option_map (λ (j : ℕ). k.Number (pos j)) (small o)) number ∙ ap (λ (o : Option ℕ). option_map (λ (j : ℕ). k.Number (pos j)) o) (small_is n le)
  where
    ten : (c : ℕ) → is_ascii_digit c ≡ true → ltb (digit c) 10 ≡ true
    ten c h = grind (arith, nat_tests)

    below_ten : (ds : Text) → list_all is_ascii_digit ds ≡ true → list_all (λ c. ltb (digit c) 10) ds ≡ true
    below_ten [] h = refl
    below_ten (c ∷ ds) h = let p = and_parts (is_ascii_digit c) (list_all is_ascii_digit ds) h in and_from (ltb (digit c) 10) (list_all (λ c. ltb (digit c) 10) ds) (ten c p.0) (below_ten ds p.1)

-- a printed number is the number token of its value
pub decimal_kind : (n : ℕ) → n ≤ 2147483647 → kind_of (decimal n) ≡ Some (k.Number (pos n))
decimal_kind n le = ⊎_elim
    (λ (e : n ≡ 0). subst (λ (j : ℕ). kind_of (decimal j) ≡ Some (k.Number (pos j))) (sym e) (ap kind_of (decimal_digit 0 (omega arith))))
    (λ (ne : n ≡ 0 → ⊥). plain_kind (decimal n) n (decimal_reads n (omega arith)) (first_decimal n (omega arith) (omega arith)) le)
    (cases_eq n 0)

pub decimal_inside : (n : ℕ) → n ≤ 2147483647 → SpellsInside (decimal n) (k.Number (pos n) ∷ [])
decimal_inside n le = token_inside (decimal n) (k.Number (pos n)) (decimal_kind n le)
