-- Faulty bytes are spelled by no tokens.
use Rattle.std.proofs.Common.{pos, ◌≡◌, ◌≤◌, ℕ, ◌+◌, Bool, true, false, not, ◌&&◌, ◌||◌, cond, eqb, ltb, List, [], ◌∷◌, ◌++◌, length, take, drop, get_or, Some, None, refl, sym, ap, ◌∙◌, subst, arith, ⊎_elim, ◌⊎◌, inl, inr, length-append, append_assoc, append-nil, option_map, is_some}
use Rattle.std.specs.List.{list_all}
use Rattle.std.specs.Char.{is_ascii_digit}
use Rattle.std.proofs.lemmas.Bool.{cases_Bool, false≢true, and_parts, and_from, or_left, or_right, or_cases, and_right, eqb-true}
use Rattle.std.proofs.lemmas.Bool.Decides.{nat_tests}
use Rattle.std.proofs.lemmas.Option.{none-some, same_Some}
use Rattle.std.proofs.lemmas.List.{append_cancel_left}
use Rattle.ax_prog.specs.declared.tokens.Kind.{Kind}
use Rattle.ax_prog.specs.declared.tokens.Mark.{Mark}
use Rattle.ax_lex.specs.declared.LexFault.{LexFault}
use Rattle.ax_prog.specs.declared.tokens.Kind.TheVariants as k
use Rattle.ax_lex.specs.Bytes.{Text, is_word, is_space, same, digit, last_of, AtHead}
use Rattle.ax_lex.specs.Tokens.{is_hex, numeral, number_of, small, mark_of, format_of, continues, kind_of, base_of}
use Rattle.ax_lex.specs.Pieces.{Piece, space, line, block, include, token, text_of, has_end, fresh_after, IsPiece, texts, ArePieces, token_of, tokens_of, SpellsTokens}
use Rattle.ax_lex.specs.Faults.{Stuck, Faulty, NoInclude, extends, late}
use Rattle.ax_prog.specs.declared.tokens.Token.{Token}
use Rattle.ax_lex.proofs.Unique.{fronts, span_one, has_end-at, sort_of, sort, sort_is, number_all, other_cases, mark_fronts, list_all-at, small_some, some_of_map, piece_one, line_heads, word_plain, kind_sort, numeral_all, prefix_marks}
use Rattle.ax_lex.proofs.Comments.{take_front}
use Rattle.ax_lex.proofs.Sequences.{ArePieces-parts}
use Rattle.ax_lex.proofs.Sequences.{tokens_of-append}

-- a digit begins a numeral
pub number_first : (w : Text) (n : ℕ) → number_of w ≡ Some n → (d : ℕ) × (t : Text) × (w ≡ d ∷ t) × (is_ascii_digit d ≡ true)
number_first [] n h = absurd (none-some n h)
number_first (d ∷ t) n h = (d, t, refl, first d t n h)
  where
    first : (d : ℕ) (t : Text) (n : ℕ) → number_of (d ∷ t) ≡ Some n → is_ascii_digit d ≡ true
    first d t n h = ⊎_elim
        (λ (x : is_hex (d ∷ t) ≡ true). ap is_ascii_digit (eqb-true d 48 (hex_zero d t x)))
        (λ (x : is_hex (d ∷ t) ≡ false).
        let base = cond (eqb d 48) 8 10 in
        let all = numeral_all base (d ∷ t) n (sym (rw x refl) ∙ h) in
        below_ten d (eqb d 48) ((and_parts (ltb (digit d) base) (list_all (λ c. ltb (digit c) base) t) all).0))
        (cases_Bool (is_hex (d ∷ t)))
      where
        hex_zero : (d : ℕ) (t : Text) → is_hex (d ∷ t) ≡ true → eqb d 48 ≡ true
        hex_zero d [] x = (and_parts (eqb d 48) false x).0
        hex_zero d (e ∷ t) x = (and_parts (eqb d 48) (eqb e 120 || eqb e 88) x).0

        below_ten : (d : ℕ) (b : Bool) → ltb (digit d) (cond b 8 10) ≡ true → is_ascii_digit d ≡ true
        below_ten d true x = grind (arith, nat_tests)
        below_ten d false x = grind (arith, nat_tests)

-- a numeral that goes on with a byte goes on with one that extends it
pub extended : (w : Text) (b : ℕ) (m : Text) (i j : ℕ) → number_of w ≡ Some i → number_of (w ++ b ∷ m) ≡ Some j → extends w b ≡ true
extended [] b m i j h g = absurd (none-some i h)
extended (d ∷ []) b m i j h g = ⊎_elim
    (λ (x : is_hex (d ∷ b ∷ m) ≡ true).
    let p = and_parts (eqb d 48) (eqb b 120 || eqb b 88) x in
    or_right (ltb (digit b) (base_of (d ∷ []))) (same (d ∷ []) (48 ∷ []) && (eqb b 120 || eqb b 88)) (and_from (same (d ∷ []) (48 ∷ [])) (eqb b 120 || eqb b 88) (and_from (eqb d 48) true p.0 refl) p.1))
    (λ (x : is_hex (d ∷ b ∷ m) ≡ false).
    let base = cond (eqb d 48) 8 10 in
    let all = numeral_all base (d ∷ b ∷ m) j (sym (rw x refl) ∙ g) in
    let second = (and_parts (ltb (digit b) base) (list_all (λ c. ltb (digit c) base) m) (and_parts (ltb (digit d) base) (list_all (λ c. ltb (digit c) base) (b ∷ m)) all).1).0 in
    or_left (ltb (digit b) (base_of (d ∷ []))) (same (d ∷ []) (48 ∷ []) && (eqb b 120 || eqb b 88)) (rw (and_right (eqb d 48) false refl) second))
    (cases_Bool (is_hex (d ∷ b ∷ m)))
extended (d ∷ y ∷ t) b m i j h g = ⊎_elim
    (λ (x : is_hex (d ∷ y ∷ t) ≡ true).
    let all = numeral_all 16 (t ++ b ∷ m) j (sym (rw x refl) ∙ g) in
    or_left (ltb (digit b) (base_of (d ∷ y ∷ t))) (same (d ∷ y ∷ t) (48 ∷ []) && (eqb b 120 || eqb b 88)) (rw x (list_all-at (λ c. ltb (digit c) 16) t b m all)))
    (λ (x : is_hex (d ∷ y ∷ t) ≡ false).
    let base = cond (eqb d 48) 8 10 in
    let all = numeral_all base (d ∷ y ∷ (t ++ b ∷ m)) j (sym (rw x refl) ∙ g) in
    or_left (ltb (digit b) (base_of (d ∷ y ∷ t))) (same (d ∷ y ∷ t) (48 ∷ []) && (eqb b 120 || eqb b 88)) (rw x (list_all-at (λ c. ltb (digit c) base) (d ∷ y ∷ t) b m all)))
    (cases_Bool (is_hex (d ∷ y ∷ t)))

pub no_empty : (kind : Kind) → kind_of [] ≡ Some kind → ⊥
unfolding format_of mark_of
no_empty kind h = none-some kind h

-- the token at a numeral's place is a number, and of the numeral's text
pub number_same : (w r u x : Text) (n : ℕ) (kind : Kind) → number_of w ≡ Some n → AtHead r (λ b. extends w b ≡ false) → w ++ r ≡ u ++ x → kind_of u ≡ Some kind → AtHead x (λ b. continues u b ≡ false) → (u ≡ w) × (r ≡ x) × (n ≤ 2147483647)
number_same w r [] x n kind num ends split is stops = absurd (no_empty kind is)
number_same w r (c ∷ u) x n kind num ends split is stops =
    let f = number_first w n num in
    let head : c ≡ f.0 = ap (λ (v : Text). get_or v 0 0) (sym split ∙ ap (λ (v : Text). v ++ r) f.2) in
    let dig : is_ascii_digit c ≡ true = ap is_ascii_digit head ∙ f.3 in
    let s = some_of_map (small (number_of (c ∷ u))) (λ (n : ℕ). k.Number (pos n)) kind (let e : kind_of (c ∷ u) ≡ option_map (λ (n : ℕ). k.Number (pos n)) (small (number_of (c ∷ u))) = rw dig refl in sym e ∙ is) in
    let v = small_some (number_of (c ∷ u)) s.0 s.1 in
    let text : c ∷ u ≡ w = ⊎_elim
    (λ (a : (m : Text) × (w ≡ (c ∷ u) ++ m) × (x ≡ m ++ r)). sym (longer c u w x r a.0 n a.1 a.2 num dig stops))
    (λ (a : (m : Text) × (c ∷ u ≡ w ++ m) × (r ≡ m ++ x)). further w (c ∷ u) r x a.0 n s.0 a.1 a.2 num v.0 ends)
    (fronts (c ∷ u) w x r (sym split)) in
    let same_value : n ≡ s.0 = same_Some n s.0 (sym num ∙ ap number_of (sym text) ∙ v.0) in
    (text, append_cancel_left w r x (split ∙ ap (λ (y : Text). y ++ x) text), omega (arith, v.1, same_value))
  where
    digit_is_word : (d : ℕ) → is_ascii_digit d ≡ true → is_word d ≡ true
    digit_is_word d h = grind (arith, nat_tests)

    longer : (c : ℕ) (u w x r m : Text) (n : ℕ) → w ≡ (c ∷ u) ++ m → x ≡ m ++ r → number_of w ≡ Some n → is_ascii_digit c ≡ true → AtHead x (λ b. continues (c ∷ u) b ≡ false) → w ≡ c ∷ u
    longer c u w x r [] n is to num dig stops = is ∙ append-nil (c ∷ u)
    longer c u w x r (b ∷ m) n is to num dig stops =
        let there : continues (c ∷ u) b ≡ false = subst (λ (y : Text). AtHead y (λ b. continues (c ∷ u) b ≡ false)) to stops in
        let word : is_word b ≡ true = list_all-at is_word (c ∷ u) b m (number_all (c ∷ (u ++ b ∷ m)) n (ap number_of (sym is) ∙ num)) in
        let on : continues (c ∷ u) b ≡ true = rw (digit_is_word c dig) (rw word refl) in
        absurd (false≢true (sym there ∙ on))

    further : (w u r x m : Text) (n j : ℕ) → u ≡ w ++ m → r ≡ m ++ x → number_of w ≡ Some n → number_of u ≡ Some j → AtHead r (λ b. extends w b ≡ false) → u ≡ w
    further w u r x [] n j is to num other ends = is ∙ append-nil w
    further w u r x (b ∷ m) n j is to num other ends =
        let there : extends w b ≡ false = subst (λ (y : Text). AtHead y (λ b. extends w b ≡ false)) to ends in
        absurd (false≢true (sym there ∙ extended w b m n j num (ap number_of (sym is) ∙ other)))

pub number_sort : (w r : Text) (n : ℕ) → number_of w ≡ Some n → sort_of (w ++ r) ≡ 4
number_sort w r n h =
    let f = number_first w n h in
    let p = word_plain f.0 (digit_is_word f.0 f.3) in
    let e : sort_of (f.0 ∷ (f.1 ++ r)) ≡ 4 = rw (p.0) (rw (p.1) (rw (p.2) refl)) in
    subst (λ (v : Text). sort_of (v ++ r) ≡ 4) (sym f.2) e
  where
    digit_is_word : (d : ℕ) → is_ascii_digit d ≡ true → is_word d ≡ true
    digit_is_word d h = grind (arith, nat_tests)

abbrev Late : ℕ → Piece → Type 0
Late count p = (count ≡ 20000) × ((at : ℕ) → length (token_of at p) ≡ 1)

pub stray_none : (fresh : Bool) (b : ℕ) (r : Text) → is_space b ≡ false → is_word b ≡ false → mark_of (b ∷ []) ≡ None → ((n : ℕ) → format_of (take n (b ∷ r)) ≡ None) → NoInclude fresh (b ∷ r) → (p : Piece) (x : Text) → b ∷ r ≡ text_of p ++ x → IsPiece fresh p x → ⊥
unfolding mark_of format_of
stray_none fresh b r a w m f i (space c) x h is = let e : b ≡ c = ap (λ (v : Text). get_or v 0 0) h in false≢true (sym a ∙ ap is_space e ∙ is)
stray_none fresh b r a w m f i (line u) x h is = let e : b ≡ 47 = ap (λ (v : Text). get_or v 0 0) h in none-some _ (sym m ∙ ap (λ (c : ℕ). mark_of (c ∷ [])) e)
stray_none fresh b r a w m f i (block u) x h is = let e : b ≡ 47 = ap (λ (v : Text). get_or v 0 0) h in none-some _ (sym m ∙ ap (λ (c : ℕ). mark_of (c ∷ [])) e)
stray_none fresh b r a w m f i (include p q n) x h is = i p q n x h is
stray_none fresh b r a w m f i (token [] kind) x h is = none-some kind is.0
stray_none fresh b r a w m f i (token (c ∷ u) kind) x h is =
    let e : b ≡ c = ap (λ (v : Text). get_or v 0 0) h in
    let not_word : is_word c ≡ false = ap is_word (sym e) ∙ w in
    let here : take (length (c ∷ u)) (b ∷ r) ≡ c ∷ u = ap (λ (v : Text). take (length (c ∷ u)) v) h ∙ take_front (c ∷ u) x in
    ⊎_elim
    (λ (q : (i : ℕ) × (format_of (c ∷ u) ≡ Some i)). none-some q.0 (sym (f (length (c ∷ u))) ∙ ap format_of here ∙ q.1))
    (λ (q : (m : Mark) × (mark_of (c ∷ u) ≡ Some m)). one_mark c u q.0 q.1 (ap (λ (d : ℕ). mark_of (d ∷ [])) (sym e) ∙ m))
    (other_cases c u kind not_word is.0)
  where
    one_mark : (c : ℕ) (u : Text) (m : Mark) → mark_of (c ∷ u) ≡ Some m → mark_of (c ∷ []) ≡ None → ⊥
    one_mark c u m h none = false≢true (sym (ap is_some none) ∙ (and_parts (is_some (mark_of (c ∷ []))) (prefix_marks (c ∷ []) u) (mark_fronts (c ∷ u) m h)).0)

spliced_none : (body r u x : Text) → list_all (λ b. not (eqb b 10)) body ≡ true → body ++ 92 ∷ 10 ∷ r ≡ u ++ x → list_all (λ b. not (eqb b 10)) u ≡ true → AtHead x (λ b. (b ≡ 10) × (last_of u ≡ 92 → ⊥)) → ⊥
spliced_none body r u x all h u_all ends =
    let p : ℕ → Bool = λ b. not (eqb b 10) in
    let longer : (body ++ 92 ∷ []) ++ (10 ∷ r) ≡ u ++ x = append_assoc body (92 ∷ []) (10 ∷ r) ∙ h in
    let text : body ++ 92 ∷ [] ≡ u = span_one p (body ++ 92 ∷ []) u (10 ∷ r) x (with_last p body all) u_all refl (line_heads u x ends) longer in
    let rest : 10 ∷ r ≡ x = append_cancel_left (body ++ 92 ∷ []) (10 ∷ r) x (longer ∙ ap (λ (w : Text). w ++ x) (sym text)) in
    let there : AtHead (10 ∷ r) (λ b. (b ≡ 10) × (last_of u ≡ 92 → ⊥)) = subst (λ (w : Text). AtHead w (λ b. (b ≡ 10) × (last_of u ≡ 92 → ⊥))) (sym rest) ends in
    there.1 (ap last_of (sym text) ∙ last_is body)
  where
    with_last : (p : ℕ → Bool) (body : Text) → list_all (λ b. not (eqb b 10)) body ≡ true → list_all (λ b. not (eqb b 10)) (body ++ 92 ∷ []) ≡ true
    with_last p [] h = refl
    with_last p (b ∷ body) h = let c = and_parts (not (eqb b 10)) (list_all (λ b. not (eqb b 10)) body) h in and_from (not (eqb b 10)) (list_all (λ b. not (eqb b 10)) (body ++ 92 ∷ [])) c.0 (with_last p body c.1)

    last_is : (body : Text) → last_of (body ++ 92 ∷ []) ≡ 92
    last_is [] = refl
    last_is (b ∷ []) = refl
    last_is (b ∷ c ∷ body) = last_is (c ∷ body)

bare_none : (x : ℕ) (r u y : Text) (kind : Kind) → (eqb x 120 || eqb x 88) ≡ true → AtHead r (λ b. ltb (digit b) 16 ≡ false) → 48 ∷ x ∷ r ≡ u ++ y → kind_of u ≡ Some kind → AtHead y (λ b. continues u b ≡ false) → ⊥
unfolding mark_of format_of
bare_none x r [] y kind hex ends h is stops = none-some kind is
bare_none x r (c ∷ []) y kind hex ends h is stops =
    let e : c ≡ 48 = ap (λ (v : Text). get_or v 0 0) (sym h) in
    let rest : x ∷ r ≡ y = ap (drop 1) h in
    let there : continues (c ∷ []) x ≡ false = subst (λ (v : Text). AtHead v (λ b. continues (c ∷ []) b ≡ false)) (sym rest) stops in
    let word : is_word x ≡ true = ⊎_elim (λ (t : eqb x 120 ≡ true). ap is_word (eqb-true x 120 t)) (λ (t : eqb x 88 ≡ true). ap is_word (eqb-true x 88 t)) (or_cases (eqb x 120) (eqb x 88) hex) in
    let on : continues (48 ∷ []) x ≡ true = rw word refl in
    false≢true (sym there ∙ ap (λ (d : ℕ). continues (d ∷ []) x) e ∙ on)
bare_none x r (c ∷ d ∷ u) y kind hex ends h is stops =
    let e : c ≡ 48 = ap (λ (v : Text). get_or v 0 0) (sym h) in
    let g : d ≡ x = ap (λ (v : Text). get_or v 1 0) (sym h) in
    let rest : r ≡ u ++ y = ap (drop 2) h in
    let text : c ∷ d ∷ u ≡ 48 ∷ x ∷ u = λ i. e i ∷ g i ∷ u in
    let s = some_of_map (small (number_of (48 ∷ x ∷ u))) (λ (n : ℕ). k.Number (pos n)) kind (ap kind_of (sym text) ∙ is) in
    let v = small_some (number_of (48 ∷ x ∷ u)) s.0 s.1 in
    let num : numeral 16 u ≡ Some s.0 = sym (rw hex refl) ∙ v.0 in
    empty u s.0 num (subst (λ (w : Text). AtHead w (λ b. ltb (digit b) 16 ≡ false)) rest ends)
  where
    empty : (u : Text) (n : ℕ) → numeral 16 u ≡ Some n → AtHead (u ++ y) (λ b. ltb (digit b) 16 ≡ false) → ⊥
    empty [] n num ends = none-some n num
    empty (b ∷ u) n num ends = false≢true (sym ends ∙ (and_parts (ltb (digit b) 16) (list_all (λ c. ltb (digit c) 16) u) (numeral_all 16 (b ∷ u) n num)).0)

-- a piece of this sort is a token
token_case : (fresh : Bool) (s : Text) (p : Piece) (x : Text) → sort_of s ≡ 4 → s ≡ text_of p ++ x → IsPiece fresh p x → (w : Text) × (kind : Kind) × (p ≡ token w kind)
token_case fresh s (token w kind) x four h is = (w, kind, refl)
token_case fresh s p x four h is = let e : sort p ≡ 4 = sym (sort_is fresh p x is) ∙ ap sort_of (sym h) ∙ four in absurd (omega arith)

-- no piece stands where the lexer is stuck, but a token past the limit
pub no_piece : {at : ℕ} {fresh : Bool} {count : ℕ} {s : Text} {why : LexFault} → Stuck at fresh count s why → count ≤ 20000 → (p : Piece) (x : Text) → s ≡ text_of p ++ x → IsPiece fresh p x → Late count p
no_piece (Stuck.stray {fresh = fresh} b r a w m f i) le p x h is = absurd (stray_none fresh b r a w m f i p x h is)
no_piece (Stuck.spliced body r all) le (line u) x h is = absurd (spliced_none body r u x all (ap (drop 2) h) is.0 is.1)
no_piece (Stuck.spliced {fresh = fresh} body r all) le p x h is = let e : sort p ≡ 1 = sym (sort_is fresh p x is) ∙ ap sort_of (sym h) in absurd (omega arith)
no_piece (Stuck.unclosed body none) le (block v) x h is = absurd (false≢true (sym none ∙ ap has_end (ap (drop 2) h ∙ append_assoc v (42 ∷ 47 ∷ []) x) ∙ has_end-at v x))
no_piece (Stuck.unclosed {fresh = fresh} body none) le p x h is = let e : sort p ≡ 2 = sym (sort_is fresh p x is) ∙ ap sort_of (sym h) in absurd (omega arith)
no_piece (Stuck.large {fresh = fresh} w r n num ends lt) le p x h is =
    let t = token_case fresh (w ++ r) p x (number_sort w r n num) h is in
    let here : IsPiece fresh (token t.0 t.1) x = subst (λ (q : Piece). IsPiece fresh q x) t.2 is in
    let q = number_same w r t.0 x n t.1 num ends (h ∙ ap (λ (z : Piece). text_of z ++ x) t.2) here.0 here.1 in
    absurd (omega (arith, q.2))
no_piece (Stuck.spoiled {fresh = fresh} w b r n num ends on small) le p x h is =
    let t = token_case fresh (w ++ b ∷ r) p x (number_sort w (b ∷ r) n num) h is in
    let here : IsPiece fresh (token t.0 t.1) x = subst (λ (q : Piece). IsPiece fresh q x) t.2 is in
    let q = number_same w (b ∷ r) t.0 x n t.1 num ends (h ∙ ap (λ (z : Piece). text_of z ++ x) t.2) here.0 here.1 in
    let there : AtHead (b ∷ r) (λ c. continues t.0 c ≡ false) = subst (λ (z : Text). AtHead z (λ c. continues t.0 c ≡ false)) (sym q.1) here.1 in
    absurd (false≢true (sym there ∙ ap (λ (z : Text). continues z b) q.0 ∙ on))
no_piece (Stuck.bare {fresh = fresh} y r hex ends) le p x h is =
    let t = token_case fresh (48 ∷ y ∷ r) p x refl h is in
    let here : IsPiece fresh (token t.0 t.1) x = subst (λ (q : Piece). IsPiece fresh q x) t.2 is in
    absurd (bare_none y r t.0 x t.1 hex ends (h ∙ ap (λ (z : Piece). text_of z ++ x) t.2) here.0 here.1)
no_piece (Stuck.many {fresh = fresh} w r kind num ends late) le p x h is =
    let t = token_case fresh (w ++ r) p x (kind_sort w kind r num ends) h is in
    (omega arith, λ at. subst (λ (q : Piece). length (token_of at q) ≡ 1) (sym t.2) refl)

front_nil : (a b : Text) → a ++ b ≡ [] → a ≡ []
front_nil [] b h = refl
front_nil (x ∷ a) b h = cc

stuck_some : {at : ℕ} {fresh : Bool} {count : ℕ} {s : Text} {why : LexFault} → Stuck at fresh count s why → s ≡ [] → ⊥
unfolding mark_of format_of
stuck_some (Stuck.stray b r a w m f i) h = cc
stuck_some (Stuck.spliced body r all) h = cc
stuck_some (Stuck.unclosed body none) h = cc
stuck_some (Stuck.large w r n num ends lt) h = none-some n (sym (ap number_of (front_nil w r h)) ∙ num)
stuck_some (Stuck.spoiled w b r n num ends on small) h = none-some n (sym (ap number_of (front_nil w (b ∷ r) h)) ∙ num)
stuck_some (Stuck.bare y r hex ends) h = cc
stuck_some (Stuck.many w r kind num ends late) h = none-some kind (sym (ap kind_of (front_nil w r h)) ∙ num)

-- of two fronts of one text, both whole pieces, one goes on from the other
pub walk : (f : Bool) (ps qs : List Piece) (s t : Text) → texts ps ++ s ≡ texts qs ++ t → ArePieces f ps s → ArePieces f qs t
    → ((more : List Piece) × (qs ≡ ps ++ more) × (s ≡ texts more ++ t)) ⊎ ((more : List Piece) × (ps ≡ qs ++ more) × (t ≡ texts more ++ s))
walk f [] qs s t h a b = inl (qs, refl, h)
walk f (p ∷ ps) [] s t h a b = inr (p ∷ ps, refl, sym h)
walk f (p ∷ ps) (q ∷ qs) s t h a b =
    let split : text_of p ++ (texts ps ++ s) ≡ text_of q ++ (texts qs ++ t) = sym (append_assoc (text_of p) (texts ps) s) ∙ h ∙ append_assoc (text_of q) (texts qs) t in
    let first : p ≡ q = piece_one f p q (texts ps ++ s) (texts qs ++ t) split a.0 b.0 in
    let rest : texts ps ++ s ≡ texts qs ++ t = append_cancel_left (text_of p) (texts ps ++ s) (texts qs ++ t) (split ∙ ap (λ (z : Piece). text_of z ++ (texts qs ++ t)) (sym first)) in
    ⊎_elim
    (λ (m : (more : List Piece) × (qs ≡ ps ++ more) × (s ≡ texts more ++ t)). inl (m.0, (λ i. (sym first) i ∷ m.1 i), m.2))
    (λ (m : (more : List Piece) × (ps ≡ qs ++ more) × (t ≡ texts more ++ s)). inr (m.0, (λ i. first i ∷ m.1 i), m.2))
    (walk (fresh_after f p) ps qs s t rest a.1 (subst (λ (z : Piece). ArePieces (fresh_after f z) qs t) (sym first) b.1))

-- after the pieces before a fault comes no piece, or token 20,001
goes_on : (bytes : Text) (why : LexFault) (a : Faulty bytes why) (more : List Piece) (t : Text) → a.rest ≡ texts more ++ t → ArePieces true (a.pieces ++ more) t → length (tokens_of 0 (a.pieces ++ more)) ≤ 20000 → more ≡ []
goes_on bytes why a [] t h proper few = refl
goes_on bytes why a (p ∷ more) t h proper few =
    let parts = ArePieces-parts true a.pieces (p ∷ more) t proper in
    let late = no_piece a.stuck a.few p (texts more ++ t) (h ∙ append_assoc (text_of p) (texts more) t) parts.1.0 in
    let at = 0 + length (texts a.pieces) in
    let count = ap length (tokens_of-append 0 a.pieces (p ∷ more)) in
    let one = late.1 at in
    absurd (omega (arith, count, few, late.0, one, length-append (tokens_of 0 a.pieces) (tokens_of at (p ∷ more)), length-append (token_of at p) (tokens_of (at + length (text_of p)) more)))

-- faulty bytes are spelled by no token list within the limit
pub faulty_unspelled : (bytes : Text) (why : LexFault) → Faulty bytes why → (ts : List Token) → SpellsTokens bytes ts → length ts ≤ 20000 → ⊥
faulty_unspelled bytes why a ts s few =
    let split : texts a.pieces ++ a.rest ≡ texts s.pieces ++ [] = sym a.joined ∙ s.joined ∙ sym (append-nil (texts s.pieces)) in
    ⊎_elim
    (λ (m : (more : List Piece) × (s.pieces ≡ a.pieces ++ more) × (a.rest ≡ texts more ++ [])).
    let none = goes_on bytes why a m.0 [] m.2 (subst (λ (ps : List Piece). ArePieces true ps []) m.1 s.proper) (subst (λ (ps : List Piece). length (tokens_of 0 ps) ≤ 20000) m.1 (subst (λ (us : List Token). length us ≤ 20000) s.found few)) in
    stuck_some a.stuck (m.2 ∙ ap (λ (ps : List Piece). texts ps ++ []) none))
    (λ (m : (more : List Piece) × (a.pieces ≡ s.pieces ++ more) × ([] ≡ texts more ++ a.rest)). stuck_some a.stuck (back_nil (texts m.0) a.rest (sym m.2)))
    (walk true a.pieces s.pieces a.rest [] split a.proper s.proper)
  where
    back_nil : (x y : Text) → x ++ y ≡ [] → y ≡ []
    back_nil [] y h = h
    back_nil (c ∷ x) y h = cc

-- two faults of one text come after the same pieces
pub one_place : (bytes : Text) (why other : LexFault) (a : Faulty bytes why) (b : Faulty bytes other) → (a.pieces ≡ b.pieces) × (a.rest ≡ b.rest)
one_place bytes why other a b =
    let split : texts a.pieces ++ a.rest ≡ texts b.pieces ++ b.rest = sym a.joined ∙ b.joined in
    ⊎_elim
    (λ (m : (more : List Piece) × (b.pieces ≡ a.pieces ++ more) × (a.rest ≡ texts more ++ b.rest)).
    let none = goes_on bytes why a m.0 b.rest m.2 (subst (λ (ps : List Piece). ArePieces true ps b.rest) m.1 b.proper) (subst (λ (ps : List Piece). length (tokens_of 0 ps) ≤ 20000) m.1 b.few) in
    (sym (m.1 ∙ ap (λ (ps : List Piece). a.pieces ++ ps) none ∙ append-nil a.pieces), m.2 ∙ ap (λ (ps : List Piece). texts ps ++ b.rest) none))
    (λ (m : (more : List Piece) × (a.pieces ≡ b.pieces ++ more) × (b.rest ≡ texts more ++ a.rest)).
    let none = goes_on bytes other b m.0 a.rest m.2 (subst (λ (ps : List Piece). ArePieces true ps a.rest) m.1 a.proper) (subst (λ (ps : List Piece). length (tokens_of 0 ps) ≤ 20000) m.1 a.few) in
    (m.1 ∙ ap (λ (ps : List Piece). b.pieces ++ ps) none ∙ append-nil b.pieces, sym (m.2 ∙ ap (λ (ps : List Piece). texts ps ++ a.rest) none)))
    (walk true a.pieces b.pieces a.rest b.rest split a.proper b.proper)
