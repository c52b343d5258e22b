-- Words and marks at the front.
use Rattle.std.proofs.Common.{◌≡◌, ◌≤◌, ◌<◌, ℕ, zero, suc, ◌+◌, Bool, true, false, not, ◌&&◌, ◌||◌, eqb, ltb, [], ◌∷◌, ◌++◌, length, take, drop, get_or, Some, None, refl, sym, ap, ◌∙◌, subst, arith, ⊎_elim, add-one, ◌-◌, length-drop}
use Rattle.std.specs.List.{list_all, prefix_len}
use Rattle.std.specs.Char.{is_ascii_digit}
use Rattle.std.proofs.lemmas.Bool.{cases_Bool, and_right, ne_eqb, false≢true, or_left, or_parts, and_left, le-ltb, eqb-true, not-false, cases_eq}
use Rattle.std.proofs.lemmas.List.Sums.{prefix_len-le-length}
use Rattle.ax_prog.specs.declared.tokens.Mark.{Mark}
use Rattle.ax_prog.specs.declared.tokens.Kind.{Kind}
use Rattle.ax_prog.specs.declared.tokens.Kind.TheVariants as k
use Rattle.ax_lex.specs.Bytes.{Text, is_word, is_letter, same, last_of, AtHead}
use Rattle.ax_lex.specs.Tokens.{formats, marks, mark_of, keyword_of, format_of, word_kind, continues, kind_of}
use Rattle.ax_lex.specs.Pieces.{line}
use Rattle.ax_lex.specs.Fronts.{WordIs, LayoutIs}
use Rattle.ax_lex.proofs.Lookups.{lookup_none}

pub one-add : (n : ℕ) → 1 + n ≡ suc n
one-add n = omega arith

pub list_all_prefix : (p : ℕ → Bool) (xs : Text) → list_all p (take (prefix_len p xs) xs) ≡ true
list_all_prefix p [] = refl
list_all_prefix p (x ∷ xs) = ⊎_elim
    (λ (t : p x ≡ true). rw t (rw one-add (rw t (list_all_prefix p xs))))
    (λ (t : p x ≡ false). rw t refl)
    (cases_Bool (p x))

pub after_prefix : (p : ℕ → Bool) (xs : Text) → AtHead (drop (prefix_len p xs) xs) (λ b. p b ≡ false)
after_prefix p [] = tt
after_prefix p (x ∷ xs) = ⊎_elim
    (λ (t : p x ≡ true). rw t (rw one-add (after_prefix p xs)))
    (λ (t : p x ≡ false). rw t t)
    (cases_Bool (p x))

pub at_head_weaker : (x : Text) (P Q : ℕ → Type 0) → ((b : ℕ) → P b → Q b) → AtHead x P → AtHead x Q
at_head_weaker [] P Q h a = tt
at_head_weaker (b ∷ x) P Q h a = h b a

pub word_is : (s : Text) (n : ℕ) (kind : Kind) → 0 < length s → is_letter (get_or s 0 0) ≡ true → is_ascii_digit (get_or s 0 0) ≡ false → n ≡ prefix_len is_word s → kind ≡ word_kind (take n s) (keyword_of (take n s)) → WordIs kind n s
word_is [] n kind some letter digit n_is kind_is = absurd (omega arith)
word_is (b ∷ s) n kind some letter digit n_is kind_is =
    let word : is_word b ≡ true = or_left (is_letter b) (is_ascii_digit b) letter in
    let m = prefix_len is_word s in
    let count : n ≡ suc m = n_is ∙ rw word (one-add m) in
    let text : take n (b ∷ s) ≡ b ∷ take m s = ap (λ (j : ℕ). take j (b ∷ s)) count in
    let no_zero : eqb b 48 ≡ false = ne_eqb b 48 (λ (e : b ≡ 48). false≢true (sym digit ∙ ap is_ascii_digit e)) in
    let named : kind_of (b ∷ take m s) ≡ Some (word_kind (b ∷ take m s) (keyword_of (b ∷ take m s))) = rw digit (rw letter (rw (list_all_prefix is_word s) refl)) in
    let ends : AtHead (drop m s) (λ c. continues (b ∷ take m s) c ≡ false) = at_head_weaker (drop m s) (λ c. is_word c ≡ false) (λ c. continues (b ∷ take m s) c ≡ false) (λ c no. rw word (rw no (rw no_zero refl))) (after_prefix is_word s) in
    record {
      some = omega arith;
      within = omega (arith, prefix_len-le-length is_word s);
      piece = (
        subst (λ (w : Text). kind_of w ≡ Some kind) (sym text) (named ∙ ap (λ (x : Kind). Some x) (sym (kind_is ∙ ap (λ (w : Text). word_kind w (keyword_of w)) text))),
        subst (λ (j : ℕ). AtHead (drop j (b ∷ s)) (λ c. continues (take j (b ∷ s)) c ≡ false)) (sym count) ends,
      );
    }

-- ---- marks

abbrev begins_quote : Text → Bool
begins_quote w = eqb (get_or w 0 0) 34

abbrev is_short : Text → Bool
is_short w = ltb (length w) 4

pub no_format : (w : Text) → (get_or w 0 0 ≡ 34 → ⊥) → format_of w ≡ None
unfolding format_of
no_format w ne = lookup_none begins_quote formats w refl (ne_eqb (get_or w 0 0) 34 ne)

no_long_mark : (w : Text) → 4 ≤ length w → mark_of w ≡ None
unfolding mark_of
no_long_mark w le = lookup_none is_short marks w refl (le-ltb (length w) 4 le)

pub mark_is : (s : Text) (n : ℕ) (m : Mark) → 0 < n → n ≤ length s → is_word (get_or s 0 0) ≡ false → (get_or s 0 0 ≡ 34 → ⊥) → mark_of (take n s) ≡ Some m → AtHead (drop n s) (λ b. (mark_of (take n s ++ b ∷ []) ≡ None) × ((same (take n s) (47 ∷ []) && (eqb b 47 || eqb b 42)) ≡ false)) → WordIs (k.Mark m) n s
mark_is [] n m some le word quote is ends = absurd (omega arith)
mark_is (a ∷ s) zero m some le word quote is ends = absurd (omega arith)
mark_is (a ∷ s) (suc n) m some le word quote is ends =
    let parts = or_parts (is_letter a) (is_ascii_digit a) word in
    record {
      some = some;
      within = le;
      piece = (
        rw (parts.1) (rw (parts.0) (rw (no_format (a ∷ take n s) quote) (rw is refl))),
        at_head_weaker (drop n s) _ (λ b. continues (a ∷ take n s) b ≡ false) (λ b h. rw word (rw (h.0) (h.1))) ends,
      );
    }

pub mark_three : (s : Text) (m : Mark) → 3 ≤ length s → is_word (get_or s 0 0) ≡ false → (get_or s 0 0 ≡ 34 → ⊥) → mark_of (take 3 s) ≡ Some m → WordIs (k.Mark m) 3 s
mark_three (a ∷ b ∷ c ∷ s) m le word quote is = mark_is (a ∷ b ∷ c ∷ s) 3 m (omega arith) le word quote is (all_heads s)
  where
    all_heads : (t : Text) → AtHead t (λ d. (mark_of (a ∷ b ∷ c ∷ d ∷ []) ≡ None) × ((same (a ∷ b ∷ c ∷ []) (47 ∷ []) && (eqb d 47 || eqb d 42)) ≡ false))
    all_heads [] = tt
    all_heads (d ∷ t) = (no_long_mark (a ∷ b ∷ c ∷ d ∷ []) (omega arith), and_left (eqb a 47 && false) (eqb d 47 || eqb d 42) (and_right (eqb a 47) false refl))
mark_three [] m le word quote is = absurd (omega arith)
mark_three (a ∷ []) m le word quote is = absurd (omega arith)
mark_three (a ∷ b ∷ []) m le word quote is = absurd (omega arith)

pub mark_two : (s : Text) (m : Mark) → 2 ≤ length s → is_word (get_or s 0 0) ≡ false → (get_or s 0 0 ≡ 34 → ⊥) → mark_of (take 2 s) ≡ Some m → (3 ≤ length s → mark_of (take 3 s) ≡ None) → WordIs (k.Mark m) 2 s
mark_two [] m le word quote is none = absurd (omega arith)
mark_two (a ∷ []) m le word quote is none = absurd (omega arith)
mark_two (a ∷ b ∷ []) m le word quote is none = mark_is (a ∷ b ∷ []) 2 m (omega arith) le word quote is tt
mark_two (a ∷ b ∷ d ∷ t) m le word quote is none = mark_is (a ∷ b ∷ d ∷ t) 2 m (omega arith) le word quote is (none (omega arith), and_left (eqb a 47 && false) (eqb d 47 || eqb d 42) (and_right (eqb a 47) false refl))

pub mark_one : (s : Text) (m : Mark) → 1 ≤ length s → is_word (get_or s 0 0) ≡ false → (get_or s 0 0 ≡ 34 → ⊥) → mark_of (take 1 s) ≡ Some m → (2 ≤ length s → mark_of (take 2 s) ≡ None) → (get_or s 0 0 ≡ 47 → (get_or s 1 0 ≡ 47 → ⊥) × (get_or s 1 0 ≡ 42 → ⊥)) → WordIs (k.Mark m) 1 s
mark_one [] m le word quote is none comment = absurd (omega arith)
mark_one (a ∷ []) m le word quote is none comment = mark_is (a ∷ []) 1 m (omega arith) le word quote is tt
mark_one (a ∷ d ∷ t) m le word quote is none comment = mark_is (a ∷ d ∷ t) 1 m (omega arith) le word quote is (none (omega arith), opened)
  where
    opened : (same (a ∷ []) (47 ∷ []) && (eqb d 47 || eqb d 42)) ≡ false
    opened = ⊎_elim
        (λ (e : eqb a 47 ≡ true). let h = comment (eqb-true a 47 e) in rw (ne_eqb d 47 h.0) (rw (ne_eqb d 42 h.1) (and_right (eqb a 47 && true) false refl)))
        (λ (e : eqb a 47 ≡ false). rw e refl)
        (cases_Bool (eqb a 47))

-- ---- `//`

pub last_of_take : (n : ℕ) (xs : Text) → 0 < n → n ≤ length xs → last_of (take n xs) ≡ get_or xs (n - 1) 0
last_of_take zero xs lt le = absurd (omega arith)
last_of_take (suc n) [] lt le = absurd (omega arith)
last_of_take (suc zero) (x ∷ xs) lt le = refl
last_of_take (suc (suc n)) (x ∷ []) lt le = absurd (omega arith)
last_of_take (suc (suc n)) (x ∷ y ∷ xs) lt le = last_of_take (suc n) (y ∷ xs) (omega arith) (omega arith) ∙ ap (λ (j : ℕ). get_or (x ∷ y ∷ xs) j 0) (let e : suc n - 1 + 1 ≡ suc (suc n) - 1 = omega arith in sym (add-one (suc n - 1)) ∙ e)

pub line_is : (s : Text) (n : ℕ) → 2 ≤ length s → (get_or s 0 0 ≡ 47) × (get_or s 1 0 ≡ 47) → n ≡ prefix_len (λ b. not (eqb b 10)) (drop 2 s) → (n + 2 < length s → 0 < n → get_or s (n + 1) 0 ≡ 92 → ⊥) → (fresh : Bool) → LayoutIs fresh (n + 2) false s
line_is (x ∷ []) n le slashes is last fresh = absurd (omega arith)
line_is [] n le slashes is last fresh = absurd (omega arith)
line_is (x ∷ y ∷ s) n le slashes is last fresh =
    let p : ℕ → Bool = λ b. not (eqb b 10) in
    let within : n ≤ length s = omega (arith, prefix_len-le-length p s) in
    let two : n + 2 ≡ suc (suc n) = omega arith in
    let heads : AtHead (drop n s) (λ b. p b ≡ false) = subst (λ (j : ℕ). AtHead (drop j s) (λ b. p b ≡ false)) (sym is) (after_prefix p s) in
    let all : list_all p (take n s) ≡ true = subst (λ (j : ℕ). list_all p (take j s) ≡ true) (sym is) (list_all_prefix p s) in
    let no_splice : n < length s → last_of (take n s) ≡ 92 → ⊥ = λ lt h. ⊎_elim (λ (none : n ≡ 0). zero-ne_last n s none h) (λ (some : n ≡ 0 → ⊥). last (omega arith) (omega arith) (ap (λ (j : ℕ). get_or (x ∷ y ∷ s) j 0) (let e : n + 1 ≡ suc (suc (n - 1)) = omega arith in e) ∙ sym (last_of_take n s (omega arith) within) ∙ h)) (cases_eq n 0) in
    let ends : AtHead (drop n s) (λ b. (b ≡ 10) × (last_of (take n s) ≡ 92 → ⊥)) = at_end (drop n s) (λ some. no_splice (omega (arith, length-drop n s))) heads in
    subst (λ (j : ℕ). LayoutIs fresh j false (x ∷ y ∷ s)) (sym two) (record { p = line (take n s); some = omega arith; within = omega arith; text = cc; piece = (all, ends); silent = λ at. refl; goes = refl })
  where
    zero-ne_last : (n : ℕ) (s : Text) → n ≡ 0 → last_of (take n s) ≡ 92 → ⊥
    zero-ne_last zero s e h = absurd (omega arith)
    zero-ne_last (suc n) s e h = absurd (omega arith)

    at_end : (w : Text) → (0 < length w → last_of (take n s) ≡ 92 → ⊥) → AtHead w (λ b. not (eqb b 10) ≡ false) → AtHead w (λ b. (b ≡ 10) × (last_of (take n s) ≡ 92 → ⊥))
    at_end [] safe h = tt
    at_end (b ∷ w) safe h = (eqb-true b 10 (not-false (eqb b 10) h), safe (omega arith))
