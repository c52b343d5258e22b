-- A written clause file, read again.
use Rattle.std.proofs.Common.{◌≡◌, ◌≤◌, ◌<◌, ◌^◌, ◌+◌, ◌==◌, ◌∙◌, ◌&&◌, ◌++◌, ℕ, suc, Bool, true, false, List, [], ◌∷◌, length, refl, ap, sym, arith, not, append_assoc, append-nil, Some}
use Rattle.std.proofs.Math.Seq.{take-append_seam, drop-append_seam}
use Rattle.std.specs.Prelude.{Ok, codes, decimal, nat_lt, nat_le}
use Rattle.std.specs.List.{All, flat_map, list_all, prefix_len}
use Rattle.std.specs.Char.{is_ascii_digit}
use Rattle.std.specs.Str.{bytes_eq}
use Rattle.std.specs.Str.Parse.{digits_value}
use Rattle.std.proofs.lemmas.Fmt.{decimal_is_IsNumeral, length-decimal-le}
use Rattle.std.proofs.lemmas.Bool.Decides.{nat_tests}
use Rattle.std.proofs.lemmas.Slice.Eq.{bytes_eq-Decides}
use Rattle.ax_proof.specs.Literal.{Literal, literal, IsOver}
use Rattle.ax_proof.specs.Clause.{IsClause, clause_of}
use Rattle.ax_gates.specs.Gates.{as_clause}
use Rattle.ax_dimacs.specs.Words.{Between, First, behind, is_inside, is_space, is_word_start, place, words}
use Rattle.ax_dimacs.specs.Clauses.{clauses_of, formula_of, head_of, is_number, has_minus, joined, literal_of, signed, number_of, number_within}
use Rattle.ax_dimacs.specs.Written.{IsInProfile, clause_text, file_text, head_text, literal_text, part_text}
use Rattle.ax_proof.proofs.Lists.{Contains-here, Contains-there}
use Rattle.ax_dimacs.proofs.Numbers.{own, digits_all, both, both-left, both-right}
use Rattle.ax_dimacs.proofs.Reading.{next-word}

-- ---- one word

word-length : (w s : List ℕ) (b : ℕ) → list_all is_inside w ≡ true → is_space b ≡ true → prefix_len is_inside (w ++ b ∷ s) ≡ length w
word-length [] s b is space = rw space refl
word-length (x ∷ w) s b is space =
    let first : is_inside x ≡ true = both-left _ _ is in
    let rest = word-length w s b (both-right (is_inside x) _ is) space in
    rw first (omega (arith, rest))

some-before : (w s : List ℕ) (b : ℕ) → 1 ≤ length (w ++ b ∷ s)
some-before [] s b = omega arith
some-before (x ∷ w) s b = omega arith

-- a word with a space behind it
pub word-then : (fresh : Bool) (at : ℕ) (w s : List ℕ) (b : ℕ) → list_all is_inside w ≡ true → is_word_start fresh (w ++ b ∷ s) ≡ true → is_space b ≡ true
    → words (place fresh) at (w ++ b ∷ s) ≡ record { at = at; text = w } ∷ words (behind b) (at + length w + 1) s
word-then fresh at w s b is start space =
    next-word fresh at (w ++ b ∷ s) start (some-before w s b) ∙ rw (word-length w s b is space, take-append_seam w (b ∷ s), drop-append_seam w (b ∷ s), space) refl

-- ---- numbers

digit-inside : (b : ℕ) → is_ascii_digit b ≡ true → is_inside b ≡ true
digit-inside b is = grind (arith, nat_tests)

digit-starts : (fresh : Bool) (b : ℕ) → is_ascii_digit b ≡ true → (is_inside b && not (fresh && b == 99)) ≡ true
digit-starts true b is = grind (arith, nat_tests)
digit-starts false b is = grind (arith, nat_tests)

digit-no-minus : (b : ℕ) → is_ascii_digit b ≡ true → (b == 45) ≡ false
digit-no-minus b is = grind (arith, nat_tests)

digits-inside : (ds : List ℕ) → list_all is_ascii_digit ds ≡ true → list_all is_inside ds ≡ true
digits-inside [] is = refl
digits-inside (d ∷ ds) is =
    both (is_inside d) _ (digit-inside d (both-left _ _ is)) (digits-inside ds (both-right (is_ascii_digit d) _ is))

digits-start : (fresh : Bool) (ds s : List ℕ) → 0 < length ds → list_all is_ascii_digit ds ≡ true → is_word_start fresh (ds ++ s) ≡ true
digits-start fresh [] s some is = absurd (omega arith)
digits-start fresh (d ∷ ds) s some is = digit-starts fresh d (both-left _ _ is)

digits-no-minus : (ds : List ℕ) → list_all is_ascii_digit ds ≡ true → has_minus ds ≡ false
digits-no-minus [] is = refl
digits-no-minus (d ∷ ds) is = digit-no-minus d (both-left _ _ is)

decimal-digits : (n : ℕ) → n < 10 ^ 10 → list_all is_ascii_digit (decimal n) ≡ true
decimal-digits n small = digits_all (decimal n) ∙ own.from (decimal n) (decimal_is_IsNumeral n (omega arith)).0.1

decimal-some : (n : ℕ) → n < 10 ^ 10 → 0 < length (decimal n)
decimal-some n small = (decimal_is_IsNumeral n (omega arith)).0.0

decimal-value : (n : ℕ) → n < 10 ^ 10 → digits_value 10 (decimal n) ≡ n
decimal-value n small = (decimal_is_IsNumeral n (omega arith)).1

is-number : (ds : List ℕ) → 0 < length ds → length ds ≤ 10 → list_all is_ascii_digit ds ≡ true → is_number ds ≡ true
is-number ds some short digits = grind (arith, nat_tests)

pub number-back : (n : ℕ) → n < 10 ^ 10 → number_of (decimal n) ≡ Some n
number-back n small =
    rw (is-number (decimal n) (decimal-some n small) (length-decimal-le 10 n (omega arith) small (omega arith)) (decimal-digits n small), decimal-value n small) refl

no-true : (t : Bool) → (t ≡ true → ⊥) → t ≡ false
no-true true no-path = absurd (no-path refl)
no-true false no-path = refl

not-same : (a b : List ℕ) → (a ≡ b → ⊥) → bytes_eq a b ≡ false
not-same a b no-path = no-true (bytes_eq a b) (λ same. no-path ((bytes_eq-Decides a b).0 same))

decimal-no-zero : (n : ℕ) → 0 < n → n < 10 ^ 10 → bytes_eq (decimal n) (codes "0") ≡ false
decimal-no-zero n some small = not-same (decimal n) (codes "0") (λ same. let zero : n ≡ 0 = sym (decimal-value n small) ∙ ap (digits_value 10) same in omega arith)

decimal-no-percent : (n : ℕ) → n < 10 ^ 10 → bytes_eq (decimal n) (codes "%") ≡ false
decimal-no-percent n small = not-same (decimal n) (codes "%") (λ same. let digit : false ≡ true = ap (list_all is_ascii_digit) (sym same) ∙ decimal-digits n small in absurd (grind arith))

-- ---- literals

signed-back : (vars n : ℕ) (sign : Bool) → 0 < n → n ≤ vars → signed vars sign n ≡ Some (literal n sign)
signed-back vars n sign some within =
    let fits : nat_lt 0 n && nat_le n vars ≡ true = grind (arith, nat_tests) in
    rw fits refl

literal-back : (vars n : ℕ) (sign : Bool) → 0 < n → n ≤ vars → n < 10 ^ 10 → literal_of vars (literal_text (literal n sign)) ≡ Some (literal n sign)
literal-back vars n true some within small = rw (digits-no-minus (decimal n) (decimal-digits n small), number-back n small) (signed-back vars n true some within)
literal-back vars n false some within small = rw (number-back n small) (signed-back vars n false some within)

literal-inside : (n : ℕ) (sign : Bool) → n < 10 ^ 10 → list_all is_inside (literal_text (literal n sign)) ≡ true
literal-inside n true small = digits-inside (decimal n) (decimal-digits n small)
literal-inside n false small = digits-inside (decimal n) (decimal-digits n small)

literal-starts : (fresh : Bool) (n : ℕ) (sign : Bool) (s : List ℕ) → n < 10 ^ 10 → is_word_start fresh (literal_text (literal n sign) ++ s) ≡ true
literal-starts fresh n true s small = digits-start fresh (decimal n) s (decimal-some n small) (decimal-digits n small)
literal-starts true n false s small = refl
literal-starts false n false s small = refl

literal-no-zero : (n : ℕ) (sign : Bool) → 0 < n → n < 10 ^ 10 → bytes_eq (literal_text (literal n sign)) (codes "0") ≡ false
literal-no-zero n true some small = decimal-no-zero n some small
literal-no-zero n false some small = refl

literal-no-percent : (n : ℕ) (sign : Bool) → n < 10 ^ 10 → bytes_eq (literal_text (literal n sign)) (codes "%") ≡ false
literal-no-percent n true small = decimal-no-percent n small
literal-no-percent n false small = refl

literal-word : (vars at : ℕ) (fresh : Bool) (ls : List Literal) (n : ℕ) (sign : Bool) (s : List ℕ) → 0 < n → n ≤ vars → vars ≤ 10000000
    → clauses_of vars ls (words (place fresh) at (literal_text (literal n sign) ++ 32 ∷ s)) ≡ clauses_of vars (ls ++ literal n sign ∷ []) (words Between (at + length (literal_text (literal n sign)) + 1) s)
literal-word vars at fresh ls n sign s some within few =
    let small : n < 10 ^ 10 = omega arith in
    let read = word-then fresh at (literal_text (literal n sign)) s 32 (literal-inside n sign small) (literal-starts fresh n sign (32 ∷ s) small) refl in
    ap (clauses_of vars ls) read ∙ rw (literal-no-zero n sign some small, literal-no-percent n sign small, literal-back vars n sign some within small) refl

-- ---- clauses

line-more : (l : Literal) (c : List Literal) (s : List ℕ) → clause_text (l ∷ c) ++ s ≡ literal_text l ++ 32 ∷ (clause_text c ++ s)
line-more l c s =
    let a = append_assoc (part_text l) (flat_map part_text c) (48 ∷ 10 ∷ []) in
    let b = append_assoc (part_text l) (clause_text c) s in
    let d = append_assoc (literal_text l) (32 ∷ []) (clause_text c ++ s) in
    ap (λ t. t ++ s) a ∙ b ∙ d

zero-word : (vars at : ℕ) (fresh : Bool) (ls : List Literal) (s : List ℕ)
    → clauses_of vars ls (words (place fresh) at (48 ∷ 10 ∷ s)) ≡ joined (as_clause ls) (clauses_of vars [] (words First (at + 1 + 1) s))
zero-word vars at true ls s = ap (clauses_of vars ls) (word-then true at (48 ∷ []) s 10 refl refl refl)
zero-word vars at false ls s = ap (clauses_of vars ls) (word-then false at (48 ∷ []) s 10 refl refl refl)

pub clause-line : (vars : ℕ) (c : List Literal) (at : ℕ) (fresh : Bool) (ls : List Literal) (s : List ℕ) → vars ≤ 10000000 → IsOver vars c
    → (n : ℕ) × (clauses_of vars ls (words (place fresh) at (clause_text c ++ s)) ≡ joined (as_clause (ls ++ c)) (clauses_of vars [] (words First n s)))
clause-line vars [] at fresh ls s few over =
    (at + 1 + 1, zero-word vars at fresh ls s ∙ ap (λ c. joined (as_clause c) (clauses_of vars [] (words First (at + 1 + 1) s))) (sym (append-nil ls)))
clause-line vars (l ∷ c) at fresh ls s few over =
    let here = over l (Contains-here l c) in
    let rest = clause-line vars c (at + length (literal_text l) + 1) false (ls ++ l ∷ []) s few (λ m in-c. over m (Contains-there l c m in-c)) in (
      rest.0,
      ap (λ t. clauses_of vars ls (words (place fresh) at t)) (line-more l c s)
          ∙ literal-word vars at fresh ls l.var l.positive (clause_text c ++ s) here.0 here.1 few
          ∙ rest.1
          ∙ ap (λ c. joined (as_clause c) (clauses_of vars [] (words First rest.0 s))) (append_assoc ls (l ∷ []) c),
    )

-- a clause is its own normal form
own-clause : (c : List Literal) → IsClause c → clause_of c ≡ Some c
own-clause [] is = refl
own-clause (l ∷ []) is = refl
own-clause (l ∷ m ∷ c) is =
    let first : l.var < m.var = is 0 1 l (omega arith) (omega arith) in
    let below : nat_lt l.var m.var ≡ true = grind (arith, nat_tests) in
    rw (own-clause (m ∷ c) (λ i j d lower within. is (suc i) (suc j) d (omega arith) (omega arith)), below) refl

own-list : (c : List Literal) → IsClause c → as_clause c ≡ c ∷ []
unfolding as_clause
own-list c is = rw (own-clause c is) refl

pub clauses-back : (vars : ℕ) (cs : List (List Literal)) (at : ℕ) → vars ≤ 10000000 → All IsClause cs → All (IsOver vars) cs
    → clauses_of vars [] (words First at (flat_map clause_text cs)) ≡ Ok cs
clauses-back vars [] at few rising over = refl
clauses-back vars (c ∷ cs) at few rising over =
    let line = clause-line vars c at true [] (flat_map clause_text cs) few (over 0 c (omega arith)) in
    line.1 ∙ rw (own-list c (rising 0 c (omega arith)), clauses-back vars cs line.0 few (λ i d below. rising (suc i) d (omega arith)) (λ i d below. over (suc i) d (omega arith))) refl

-- ---- the head

number-taken : (most n : ℕ) → n ≤ most → n < 10 ^ 10 → number_within most (decimal n) ≡ Some n
number-taken most n within small =
    let fits : nat_le n most ≡ true = grind (arith, nat_tests) in
    rw (number-back n small, fits) refl

head-joined : (vars many : ℕ) (s : List ℕ) → head_text vars many ++ s ≡ codes "p cnf " ++ (decimal vars ++ 32 ∷ (decimal many ++ 10 ∷ s))
head-joined vars many s =
    let a = append_assoc (decimal vars) (32 ∷ (decimal many ++ 10 ∷ [])) s in
    let b = append_assoc (decimal many) (10 ∷ []) s in
    ap (λ t. codes "p cnf " ++ t) (a ∙ ap (λ t. decimal vars ++ 32 ∷ t) b)

-- a number and a space behind another word
number-word : (at n : ℕ) (s : List ℕ) (b : ℕ) → n < 10 ^ 10 → is_space b ≡ true → words Between at (decimal n ++ b ∷ s) ≡ record { at = at; text = decimal n } ∷ words (behind b) (at + length (decimal n) + 1) s
number-word at n s b small space =
    word-then false at (decimal n) s b (digits-inside (decimal n) (decimal-digits n small)) (digits-start false (decimal n) (b ∷ s) (decimal-some n small) (decimal-digits n small)) space

pub head-back : (vars many end : ℕ) (s : List ℕ) → vars ≤ 10000000 → many < 10 ^ 10
    → (n : ℕ) × (head_of end (words First 0 (head_text vars many ++ s)) ≡ Ok (vars, words First n s))
head-back vars many end s few short =
    let first = number-word 6 vars (decimal many ++ 10 ∷ s) 32 (omega arith) refl in
    let at = 6 + length (decimal vars) + 1 in
    let second = number-word at many s 10 short refl in (
      at + length (decimal many) + 1,
      ap (λ t. head_of end (words First 0 t)) (head-joined vars many s)
          ∙ rw (first, number-taken 10000000 vars few (omega arith), second, number-taken 9999999999 many (omega arith) short) refl,
    )

pub file-back : (vars : ℕ) (cs : List (List Literal)) → All IsClause cs → IsInProfile vars cs
    → formula_of (file_text vars cs) ≡ Ok (record { vars = vars; clauses = cs })
file-back vars cs rising is =
    let head = head-back vars (length cs) (length (file_text vars cs)) (flat_map clause_text cs) is.few is.short in
    rw (head.1, clauses-back vars cs head.0 is.few rising is.over) refl
