-- Numbers at the front.
use Rattle.std.proofs.Common.{◌≡◌, ◌≤◌, ◌<◌, ℕ, zero, suc, ◌+◌, ◌*◌, Bool, true, false, ◌&&◌, ◌||◌, cond, eqb, ltb, [], ◌∷◌, ◌++◌, length, take, drop, get_or, Some, refl, sym, ap, ◌∙◌, subst, arith, ⊎_elim, ◌⊎◌, inl, inr, ◌-◌, ℤ, pos, zero-add, length-take-le}
use Rattle.std.specs.List.{list_all, prefix_len}
use Rattle.std.specs.Char.{is_ascii_digit}
use Rattle.std.proofs.lemmas.Bool.{cases_Bool, and_right, false≢true, le-leb, eqb-true, and_parts, and_from}
use Rattle.std.proofs.lemmas.Bool.Decides.{nat_tests}
use Rattle.std.proofs.lemmas.List.Sums.{prefix_len-le-length}
use Rattle.std.proofs.lemmas.List.{take-append-drop, drop_more, take_rest, drop_all}
use Rattle.ax_prog.specs.declared.tokens.Kind.TheVariants as k
use Rattle.ax_lex.specs.declared.numbers.NumberFault.TheVariants.{Large, Bad}
use Rattle.ax_lex.specs.Bytes.{Text, is_word, same, digit, AtHead}
use Rattle.ax_lex.specs.Tokens.{is_hex, value, numeral, number_of, continues, base_of}
use Rattle.ax_lex.specs.Fronts.{WordIs, NumberIs, head_of, numeral_len}
use Rattle.ax_lex.specs.Faults.{extends}
use Rattle.ax_lex.proofs.Texts.{list_all_prefix, after_prefix, at_head_weaker, one-add}

pub value_grows : (base n : ℕ) (s : Text) → 1 ≤ base → n ≤ value base n s
value_grows base n [] le = omega arith
value_grows base n (d ∷ s) le =
    let more = value_grows base (base * n + digit d) s le in
    let up : n ≤ base * n = grows base n le in
    omega arith
  where
    grows : (b n : ℕ) → 1 ≤ b → n ≤ b * n
    grows zero n le = absurd (omega arith)
    grows (suc b) n le = omega arith

pub value_over : (base n d : ℕ) (s : Text) (total : ℕ) → 1 ≤ base → 1 ≤ length s → d ≡ digit (get_or s 0 0) → 2147483647 < base * n + d → value base n s ≡ total → 2147483647 < total
value_over base n d [] total le some is over h = absurd (omega arith)
value_over base n d (x ∷ s) total le some is over h =
    let more : base * n + digit x ≤ value base (base * n + digit x) s = value_grows base (base * n + digit x) s le in
    let turn : value base (base * n + digit x) s ≡ total = h in
    omega arith

-- a numeral of s, and what stands after it
pub record Numeral (s : Text) (e : ℕ) : Type 0 where
  pub some : 0 < e
  pub within : e ≤ length s
  pub number : number_of (take e s) ≡ Some (value (base_of s) 0 (take (e - head_of s) (drop (head_of s) s)))
  pub ends : AtHead (drop e s) (λ b. extends (take e s) b ≡ false)
  pub word : is_word (get_or (take e s) 0 0) ≡ true
  pub digits : is_ascii_digit (get_or (take e s) 0 0) ≡ true

numeral_is : (base c : ℕ) (w : Text) → list_all (λ b. ltb (digit b) base) (c ∷ w) ≡ true → numeral base (c ∷ w) ≡ Some (value base 0 (c ∷ w))
numeral_is base c w h = rw h refl

hex_numeral : (x : ℕ) (t : Text) (m : ℕ) → (eqb x 120 || eqb x 88) ≡ true → suc m ≡ prefix_len (λ b. ltb (digit b) 16) t → Numeral (48 ∷ x ∷ t) (suc (suc (suc m)))
hex_numeral x [] m hex is = absurd (omega arith)
hex_numeral x (c ∷ t) m hex is =
    let p : ℕ → Bool = λ b. ltb (digit b) 16 in
    let all : list_all p (take (suc m) (c ∷ t)) ≡ true = subst (λ (j : ℕ). list_all p (take j (c ∷ t)) ≡ true) (sym is) (list_all_prefix p (c ∷ t)) in
    let heads : AtHead (drop (suc m) (c ∷ t)) (λ b. p b ≡ false) = subst (λ (j : ℕ). AtHead (drop j (c ∷ t)) (λ b. p b ≡ false)) (sym is) (after_prefix p (c ∷ t)) in
    let count : suc (suc (suc m)) - 2 ≡ suc m = omega arith in
    let num : number_of (48 ∷ x ∷ c ∷ take m t) ≡ Some (value 16 0 (c ∷ take m t)) = rw hex (numeral_is 16 c (take m t) all) in
    record {
      some = omega arith;
      within = omega (arith, prefix_len-le-length p (c ∷ t));
      number = rw hex (rw count (numeral_is 16 c (take m t) all));
      ends = at_head_weaker (drop m t) (λ b. p b ≡ false) (λ b. extends (48 ∷ x ∷ c ∷ take m t) b ≡ false) (λ b off. rw hex (rw off refl)) heads;
      word = refl;
      digits = refl;
    }

abbrev plain_base : ℕ → ℕ
plain_base d = cond (eqb d 48) 8 10

plain_numeral : (d : ℕ) (t : Text) (m : ℕ) → is_ascii_digit d ≡ true → is_hex (d ∷ t) ≡ false → m ≡ prefix_len (λ b. ltb (digit b) (plain_base d)) t → Numeral (d ∷ t) (suc m)
plain_numeral d t m dig off is =
    let p : ℕ → Bool = λ b. ltb (digit b) (plain_base d) in
    let first : p d ≡ true = first_digit d dig in
    let rest : list_all p (take m t) ≡ true = subst (λ (j : ℕ). list_all p (take j t) ≡ true) (sym is) (list_all_prefix p t) in
    let heads : AtHead (drop m t) (λ b. p b ≡ false) = subst (λ (j : ℕ). AtHead (drop j t) (λ b. p b ≡ false)) (sym is) (after_prefix p t) in
    let num : numeral (plain_base d) (d ∷ take m t) ≡ Some (value (plain_base d) 0 (d ∷ take m t)) = numeral_is (plain_base d) d (take m t) (and_from (p d) (list_all p (take m t)) first rest) in
    let not_hex : is_hex (d ∷ take m t) ≡ false = short_hex d m t off in
    let count : suc m - 0 ≡ suc m = omega arith in
    record {
      some = omega arith;
      within = omega (arith, prefix_len-le-length p t);
      number = plain_number d t m off not_hex num;
      ends = plain_ends d t m off not_hex heads;
      word = digit_is_word d dig;
      digits = dig;
    }
  where
    first_digit : (d : ℕ) → is_ascii_digit d ≡ true → ltb (digit d) (plain_base d) ≡ true
    first_digit d dig = ⊎_elim (λ (t : eqb d 48 ≡ true). subst (λ (c : ℕ). ltb (digit c) (plain_base c) ≡ true) (sym (eqb-true d 48 t)) refl) (λ (t : eqb d 48 ≡ false). rw t (ten d dig)) (cases_Bool (eqb d 48))
      where
        ten : (d : ℕ) → is_ascii_digit d ≡ true → ltb (digit d) 10 ≡ true
        ten d dig = grind (arith, nat_tests)

    digit_is_word : (d : ℕ) → is_ascii_digit d ≡ true → is_word d ≡ true
    digit_is_word d dig = grind (arith, nat_tests)

    short_hex : (d m : ℕ) (t : Text) → is_hex (d ∷ t) ≡ false → is_hex (d ∷ take m t) ≡ false
    short_hex d zero t off = and_right (eqb d 48) false refl
    short_hex d (suc m) [] off = off
    short_hex d (suc m) (x ∷ t) off = off

    plain_number : (d : ℕ) (t : Text) (m : ℕ) → is_hex (d ∷ t) ≡ false → is_hex (d ∷ take m t) ≡ false → numeral (plain_base d) (d ∷ take m t) ≡ Some (value (plain_base d) 0 (d ∷ take m t)) → number_of (take (suc m) (d ∷ t)) ≡ Some (value (base_of (d ∷ t)) 0 (take (suc m - head_of (d ∷ t)) (drop (head_of (d ∷ t)) (d ∷ t))))
    plain_number d t m off not_hex num = let count : suc m - 0 ≡ suc m = omega arith in rw not_hex (rw off (rw count num))

    plain_ends : (d : ℕ) (t : Text) (m : ℕ) → is_hex (d ∷ t) ≡ false → is_hex (d ∷ take m t) ≡ false → AtHead (drop m t) (λ b. ltb (digit b) (plain_base d) ≡ false) → AtHead (drop m t) (λ b. extends (d ∷ take m t) b ≡ false)
    plain_ends d [] zero off not_hex h = tt
    plain_ends d [] (suc m) off not_hex h = tt
    plain_ends d (x ∷ t) zero off not_hex h = rw not_hex (rw h (zero_x d x off))
      where
        zero_x : (d x : ℕ) → is_hex (d ∷ x ∷ t) ≡ false → (false || ((eqb d 48 && true) && (eqb x 120 || eqb x 88))) ≡ false
        zero_x d x off = ⊎_elim (λ (t : eqb d 48 ≡ true). rw t (sym (rw t refl) ∙ off)) (λ (t : eqb d 48 ≡ false). rw t refl) (cases_Bool (eqb d 48))
    plain_ends d (x ∷ t) (suc m) off not_hex h = at_head_weaker (drop m t) (λ b. ltb (digit b) (plain_base d) ≡ false) (λ b. extends (d ∷ x ∷ take m t) b ≡ false) (λ b fails. rw not_hex (rw fails (two d x (take m t) b))) h
      where
        two : (d x : ℕ) (t : Text) (b : ℕ) → (false || (same (d ∷ x ∷ t) (48 ∷ []) && (eqb b 120 || eqb b 88))) ≡ false
        two d x t b = rw (and_right (eqb d 48) false refl) refl

hex_parts : (s : Text) → is_hex s ≡ true → (x : ℕ) × (t : Text) × (s ≡ 48 ∷ x ∷ t) × ((eqb x 120 || eqb x 88) ≡ true)
hex_parts [] h = cc
hex_parts (a ∷ []) h = absurd (false≢true (sym (and_right (eqb a 48) false refl) ∙ h))
hex_parts (a ∷ x ∷ t) h = let p = and_parts (eqb a 48) (eqb x 120 || eqb x 88) h in (x, t, ap (λ (c : ℕ). c ∷ x ∷ t) (eqb-true a 48 p.0), p.1)

abbrev pub Cases : Text → ℕ → Type 0
Cases s e = (Numeral s e × (is_hex s ≡ true → e ≡ 2 → ⊥)) ⊎ ((is_hex s ≡ true) × (e ≡ 2) × NumberIs (Bad 1) s)

-- a digit begins a numeral, or `0x` stands alone
pub numeral_at : (s : Text) (e : ℕ) → is_ascii_digit (get_or s 0 0) ≡ true → e ≡ numeral_len s → Cases s e
numeral_at s e dig is = ⊎_elim
    (λ (h : is_hex s ≡ true). let p = hex_parts s h in hex_case s e p.0 p.1 p.2 p.3 h is)
    (λ (h : is_hex s ≡ false). inl (plain s e dig h is, λ t two. false≢true (sym h ∙ t)))
    (cases_Bool (is_hex s))
  where
    plain : (s : Text) (e : ℕ) → is_ascii_digit (get_or s 0 0) ≡ true → is_hex s ≡ false → e ≡ numeral_len s → Numeral s e
    plain [] e dig h is = cc
    plain (d ∷ t) e dig h is =
        let p : ℕ → Bool = λ b. ltb (digit b) (plain_base d) in
        let first : p d ≡ true = start d dig in
        let count : numeral_len (d ∷ t) ≡ suc (prefix_len p t) = rw h (rw first (zero-add (1 + prefix_len p t) ∙ one-add (prefix_len p t))) in
        subst (λ (j : ℕ). Numeral (d ∷ t) j) (sym (is ∙ count)) (plain_numeral d t (prefix_len p t) dig h refl)
      where
        start : (d : ℕ) → is_ascii_digit d ≡ true → ltb (digit d) (plain_base d) ≡ true
        start d dig = ⊎_elim (λ (t : eqb d 48 ≡ true). subst (λ (c : ℕ). ltb (digit c) (plain_base c) ≡ true) (sym (eqb-true d 48 t)) refl) (λ (t : eqb d 48 ≡ false). rw t (ten d dig)) (cases_Bool (eqb d 48))
          where
            ten : (d : ℕ) → is_ascii_digit d ≡ true → ltb (digit d) 10 ≡ true
            ten d dig = grind (arith, nat_tests)

    hex_case : (s : Text) (e x : ℕ) (t : Text) → s ≡ 48 ∷ x ∷ t → (eqb x 120 || eqb x 88) ≡ true → is_hex s ≡ true → e ≡ numeral_len s → Cases s e
    hex_case s e x t is hex h e_is = go (prefix_len p t) refl
      where
        p : ℕ → Bool
        p = λ b. ltb (digit b) 16

        count : e ≡ 2 + prefix_len (λ b. ltb (digit b) 16) t
        count = e_is ∙ ap numeral_len is ∙ rw hex refl

        go : (m : ℕ) → prefix_len (λ b. ltb (digit b) 16) t ≡ m → Cases s e
        go zero run = inr (h, count ∙ ap (λ (j : ℕ). 2 + j) run, inr (x, t, is, hex, subst (λ (j : ℕ). AtHead (drop j t) (λ b. ltb (digit b) 16 ≡ false)) run (after_prefix (λ b. ltb (digit b) 16) t), refl))
        go (suc m) run =
            let three : e ≡ suc (suc (suc m)) = omega (arith, count, run) in
            inl (subst (λ (w : Text). Numeral w e) (sym is) (subst (λ (j : ℕ). Numeral (48 ∷ x ∷ t) j) (sym three) (hex_numeral x t m hex (sym run))), λ h2 two. absurd (omega arith))

pub number_good : (s : Text) (e : ℕ) (v : ℤ) → Numeral s e → v ≡ pos (value (base_of s) 0 (take (e - head_of s) (drop (head_of s) s))) → value (base_of s) 0 (take (e - head_of s) (drop (head_of s) s)) ≤ 2147483647 → AtHead (drop e s) (λ b. continues (take e s) b ≡ false) → WordIs (k.Number v) e s
number_good s e v h is le ends =
    let n = value (base_of s) 0 (take (e - head_of s) (drop (head_of s) s)) in
    subst (λ (z : ℤ). WordIs (k.Number z) e s) (sym is) (record {
      some = h.some;
      within = h.within;
      piece = (rw (h.digits) (rw (h.number) (rw (le-leb n 2147483647 le) refl)), ends);
    })

pub number_large : (s : Text) (e : ℕ) → Numeral s e → 2147483647 < value (base_of s) 0 (take (e - head_of s) (drop (head_of s) s)) → NumberIs Large s
number_large s e h lt = (take e s, drop e s, value (base_of s) 0 (take (e - head_of s) (drop (head_of s) s)), sym (take-append-drop e s), h.number, h.ends, lt)

pub number_bad : (s : Text) (e : ℕ) → Numeral s e → value (base_of s) 0 (take (e - head_of s) (drop (head_of s) s)) ≤ 2147483647 → e < length s → continues (take e s) (get_or s e 0) ≡ true → NumberIs (Bad e) s
number_bad s e h le lt on =
    let cut : drop e s ≡ get_or s e 0 ∷ drop (e + 1) s = drop_more s e 0 lt in
    let ends : extends (take e s) (get_or s e 0) ≡ false = subst (λ (w : Text). AtHead w (λ b. extends (take e s) b ≡ false)) cut h.ends in
    inl (take e s, get_or s e 0, drop (e + 1) s, value (base_of s) 0 (take (e - head_of s) (drop (head_of s) s)), sym (take-append-drop e s) ∙ ap (λ (w : Text). take e s ++ w) cut, h.number, ends, on, le, length-take-le e s h.within)

-- ---- as the code has them

module _ (s : Text) (head base n : ℕ) (h : head ≡ head_of s) (b : base ≡ base_of s) (run : n ≡ prefix_len (λ (c : ℕ). ltb (digit c) base) (take (length s - head) (drop head s))) where
  pub end_is : head + n ≡ numeral_len s
  end_is =
      let one : prefix_len (λ (c : ℕ). ltb (digit c) base) (take (length s - head) (drop head s)) ≡ prefix_len (λ (c : ℕ). ltb (digit c) (base_of s)) (drop (head_of s) s) = ap (prefix_len (λ (c : ℕ). ltb (digit c) base)) (take_rest s head ∙ ap (λ (j : ℕ). drop j s) h) ∙ ap (λ (j : ℕ). prefix_len (λ (c : ℕ). ltb (digit c) j) (drop (head_of s) s)) b in
      (λ i. h i + (run ∙ one) i)

  pub same_value : value base 0 (take (head + n - head) (drop head s)) ≡ value (base_of s) 0 (take (head + n - head_of s) (drop (head_of s) s))
  same_value = λ i. value (b i) 0 (take (head + n - h i) (drop (h i) s))

  pub bare_is : is_ascii_digit (get_or s 0 0) ≡ true → is_hex s ≡ true → head + n ≡ 2 → NumberIs (Bad 1) s
  bare_is dig hex two = ⊎_elim (λ (a : Numeral s (head + n) × (is_hex s ≡ true → head + n ≡ 2 → ⊥)). absurd (a.1 hex two)) (λ (a : (is_hex s ≡ true) × (head + n ≡ 2) × NumberIs (Bad 1) s). a.2) (numeral_at s (head + n) dig end_is)

  pub numeral_here : is_ascii_digit (get_or s 0 0) ≡ true → (is_hex s ≡ true → head + n ≡ 2 → ⊥) → Numeral s (head + n)
  numeral_here dig off = ⊎_elim (λ (a : Numeral s (head + n) × (is_hex s ≡ true → head + n ≡ 2 → ⊥)). a.0) (λ (a : (is_hex s ≡ true) × (head + n ≡ 2) × NumberIs (Bad 1) s). absurd (off a.0 a.1)) (numeral_at s (head + n) dig end_is)

pub ends_before : (s : Text) (e : ℕ) → e < length s → continues (take e s) (get_or s e 0) ≡ false → AtHead (drop e s) (λ b. continues (take e s) b ≡ false)
ends_before s e lt h = subst (λ (w : Text). AtHead w (λ b. continues (take e s) b ≡ false)) (sym (drop_more s e 0 lt)) h

pub ends_last : (s : Text) (e : ℕ) → length s ≤ e → AtHead (drop e s) (λ b. continues (take e s) b ≡ false)
ends_last s e le = subst (λ (w : Text). AtHead w (λ b. continues (take e s) b ≡ false)) (sym (drop_all e s le)) tt
