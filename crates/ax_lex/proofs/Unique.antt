-- Bytes spell at most one token list.
use Rattle.std.proofs.Common.{pos, ◌≡◌, ◌≤◌, ℕ, Bool, true, false, not, ◌&&◌, ◌||◌, cond, eqb, ltb, leb, List, [], ◌∷◌, ◌++◌, get_or, Option, Some, None, refl, sym, ap, ◌∙◌, subst, arith, ⊎_elim, ◌⊎◌, inl, inr, append-nil, append_assoc, is_some, option_map}
use Rattle.std.specs.List.{list_all}
use Rattle.std.specs.Char.{is_ascii_digit}
use Rattle.std.proofs.lemmas.Bool.{cases_Bool, and_parts, and_right, or_cases, or_right, or_left, or_parts, eqb-true, false≢true, and_from, lt-ltb, ltb-true, eq-eqb, leb-true}
use Rattle.std.proofs.lemmas.Bool.Decides.{nat_tests}
use Rattle.std.proofs.lemmas.Option.{none-some, cond_some}
use Rattle.std.proofs.lemmas.List.{append_cancel_left}
use Rattle.ax_prog.specs.declared.tokens.Mark.{Mark}
use Rattle.ax_prog.specs.declared.tokens.Kind.{Kind}
use Rattle.ax_prog.specs.declared.tokens.Kind.TheVariants as k
use Rattle.ax_lex.specs.Bytes.{Text, is_word, is_letter, is_space, is_blank, digit, same, last_of, AtHead}
use Rattle.ax_lex.specs.Tokens.{formats, marks, is_hex, numeral, number_of, small, mark_of, format_of, continues, other_kind, kind_of}
use Rattle.ax_lex.specs.Pieces.{Piece, space, line, block, include, token, text_of, has_end, fresh_after, IsPiece, texts, ArePieces, tokens_of, SpellsTokens}
use Rattle.ax_prog.specs.declared.tokens.Token.{Token}
use Rattle.ax_lex.proofs.Lookups.{lookup_none, lookup_some}

pub digit_word : (c : ℕ) → ltb (digit c) 16 ≡ true → is_word c ≡ true
digit_word c h = grind (arith, nat_tests)

list_all_weaker : (p q : ℕ → Bool) → ((c : ℕ) → p c ≡ true → q c ≡ true) → (xs : Text) → list_all p xs ≡ true → list_all q xs ≡ true
list_all_weaker p q h [] a = refl
list_all_weaker p q h (x ∷ xs) a = let b = and_parts (p x) (list_all p xs) a in and_from (q x) (list_all q xs) (h x b.0) (list_all_weaker p q h xs b.1)

pub list_all-at : (p : ℕ → Bool) (u : Text) (b : ℕ) (m : Text) → list_all p (u ++ b ∷ m) ≡ true → p b ≡ true
list_all-at p [] b m a = (and_parts (p b) (list_all p m) a).0
list_all-at p (x ∷ u) b m a = list_all-at p u b m (and_parts (p x) (list_all p (u ++ b ∷ m)) a).1

-- two fronts of one text
pub fronts : (u v r s : Text) → u ++ r ≡ v ++ s → ((m : Text) × (v ≡ u ++ m) × (r ≡ m ++ s)) ⊎ ((m : Text) × (u ≡ v ++ m) × (s ≡ m ++ r))
fronts [] v r s h = inl (v, refl, h)
fronts (x ∷ u) [] r s h = inr (x ∷ u, refl, sym h)
fronts (x ∷ u) (y ∷ v) r s h =
    let head : x ≡ y = cc in
    let tail : u ++ r ≡ v ++ s = cc in
    ⊎_elim (λ (a : (m : Text) × (v ≡ u ++ m) × (r ≡ m ++ s)). inl (a.0, (λ i. (sym head) i ∷ a.1 i), a.2)) (λ (a : (m : Text) × (u ≡ v ++ m) × (s ≡ m ++ r)). inr (a.0, (λ i. head i ∷ a.1 i), a.2)) (fronts u v r s tail)

-- what sort of piece begins so
abbrev pub sort_of : Text → ℕ
sort_of w = cond (is_space (get_or w 0 0)) 0 (cond (eqb (get_or w 0 0) 47 && eqb (get_or w 1 0) 47) 1 (cond (eqb (get_or w 0 0) 47 && eqb (get_or w 1 0) 42) 2 (cond (eqb (get_or w 0 0) 35) 3 4)))

abbrev pub sort : Piece → ℕ
sort (space b) = 0
sort (line b) = 1
sort (block b) = 2
sort (include a b c) = 3
sort (token w k) = 4

-- no mark begins with a space, `#`, `//` or `/*`
abbrev begins_well : Text → Bool
begins_well w = eqb (cond (is_space (get_or w 0 0)) 0 (cond (eqb (get_or w 0 0) 47 && eqb (get_or w 1 0) 47) 1 (cond (eqb (get_or w 0 0) 47 && eqb (get_or w 1 0) 42) 2 (cond (eqb (get_or w 0 0) 35) 3 4)))) 4

mark_sort : (w : Text) (m : Mark) → mark_of w ≡ Some m → sort_of w ≡ 4
unfolding mark_of
mark_sort w m h = ⊎_elim
    (λ (t : begins_well w ≡ true). eqb-true (sort_of w) 4 t)
    (λ (t : begins_well w ≡ false). absurd (none-some m (sym (lookup_none begins_well marks w refl t) ∙ h)))
    (cases_Bool (begins_well w))

-- ---- words

pub numeral_all : (base : ℕ) (w : Text) (n : ℕ) → numeral base w ≡ Some n → list_all (λ c. ltb (digit c) base) w ≡ true
numeral_all base [] n h = refl
numeral_all base (d ∷ ds) n h = ⊎_elim
    (λ (t : list_all (λ c. ltb (digit c) base) (d ∷ ds) ≡ true). t)
    (λ (t : list_all (λ c. ltb (digit c) base) (d ∷ ds) ≡ false). absurd (none-some n (sym (rw t refl) ∙ h)))
    (cases_Bool (list_all (λ c. ltb (digit c) base) (d ∷ ds)))

digit_below : (base : ℕ) → base ≤ 16 → (c : ℕ) → ltb (digit c) base ≡ true → is_word c ≡ true
digit_below base le c h = digit_word c (lt-ltb (digit c) 16 (omega (arith, ltb-true (digit c) base h)))

hex_word : (x : ℕ) → (eqb x 120 || eqb x 88) ≡ true → is_word x ≡ true
hex_word x h = ⊎_elim (λ (t : eqb x 120 ≡ true). ap is_word (eqb-true x 120 t)) (λ (t : eqb x 88 ≡ true). ap is_word (eqb-true x 88 t)) (or_cases (eqb x 120) (eqb x 88) h)

pub number_all : (w : Text) (n : ℕ) → number_of w ≡ Some n → list_all is_word w ≡ true
number_all [] n h = refl
number_all (a ∷ []) n h = list_all_weaker (λ c. ltb (digit c) (cond (eqb a 48) 8 10)) is_word (digit_below (cond (eqb a 48) 8 10) (small (eqb a 48))) (a ∷ []) (numeral_all (cond (eqb a 48) 8 10) (a ∷ []) n (sym (rw (and_right (eqb a 48) false refl) refl) ∙ h))
  where
    small : (b : Bool) → cond b 8 10 ≤ 16
    small true = omega arith
    small false = omega arith
number_all (a ∷ x ∷ ds) n h = ⊎_elim
    (λ (t : is_hex (a ∷ x ∷ ds) ≡ true).
    let p = and_parts (eqb a 48) (eqb x 120 || eqb x 88) t in
    let digits : list_all is_word ds ≡ true = list_all_weaker (λ c. ltb (digit c) 16) is_word digit_word ds (numeral_all 16 ds n (sym (rw t refl) ∙ h)) in
    and_from (is_word a) (list_all is_word (x ∷ ds)) (ap is_word (eqb-true a 48 p.0)) (and_from (is_word x) (list_all is_word ds) (hex_word x p.1) digits))
    (λ (t : is_hex (a ∷ x ∷ ds) ≡ false).
    list_all_weaker (λ c. ltb (digit c) (cond (eqb a 48) 8 10)) is_word (digit_below (cond (eqb a 48) 8 10) (small (eqb a 48))) (a ∷ x ∷ ds) (numeral_all (cond (eqb a 48) 8 10) (a ∷ x ∷ ds) n (sym (rw t refl) ∙ h)))
    (cases_Bool (is_hex (a ∷ x ∷ ds)))
  where
    small : (b : Bool) → cond b 8 10 ≤ 16
    small true = omega arith
    small false = omega arith

pub small_some : (o : Option ℕ) (n : ℕ) → small o ≡ Some n → (o ≡ Some n) × (n ≤ 2147483647)
small_some None n h = absurd (none-some n h)
small_some (Some m) n h =
    let c = cond_some (leb m 2147483647) m n h in
    (ap (λ (j : ℕ). let o : Option ℕ = Some j in o) c.1, subst (λ (j : ℕ). j ≤ 2147483647) c.1 (leb-true m 2147483647 c.0))

pub some_of_map : (o : Option ℕ) (f : ℕ → Kind) (k : Kind) → option_map f o ≡ Some k → (n : ℕ) × (o ≡ Some n)
some_of_map None f k h = absurd (none-some k h)
some_of_map (Some n) f k h = (n, refl)

pub word_all : (a : ℕ) (w : Text) (kind : Kind) → is_word a ≡ true → kind_of (a ∷ w) ≡ Some kind → list_all is_word (a ∷ w) ≡ true
word_all a w kind word h = ⊎_elim
    (λ (d : is_ascii_digit a ≡ true).
    let s = some_of_map (small (number_of (a ∷ w))) (λ (n : ℕ). k.Number (pos n)) kind (let e : kind_of (a ∷ w) ≡ option_map (λ (n : ℕ). k.Number (pos n)) (small (number_of (a ∷ w))) = rw d refl in sym e ∙ h) in
    number_all (a ∷ w) s.0 (small_some (number_of (a ∷ w)) s.0 s.1).0)
    (λ (d : is_ascii_digit a ≡ false).
    let letter : is_letter a ≡ true = ⊎_elim (λ (t : is_letter a ≡ true). t) (λ (t : is_ascii_digit a ≡ true). absurd (false≢true (sym d ∙ t))) (or_cases (is_letter a) (is_ascii_digit a) word) in
    ⊎_elim
    (λ (t : list_all is_word w ≡ true). and_from (is_word a) (list_all is_word w) word t)
    (λ (t : list_all is_word w ≡ false). absurd (none-some kind (sym (rw d (rw letter (rw t refl))) ∙ h)))
    (cases_Bool (list_all is_word w)))
    (cases_Bool (is_ascii_digit a))

-- ---- marks

abbrev pub prefix_marks : Text → Text → Bool
prefix_marks front [] = true
prefix_marks front (c ∷ w) = is_some (mark_of (front ++ c ∷ [])) && prefix_marks (front ++ c ∷ []) w

pub prefix_marks-at : (front u : Text) (b : ℕ) (m : Text) → prefix_marks front (u ++ b ∷ m) ≡ true → is_some (mark_of ((front ++ u) ++ b ∷ [])) ≡ true
prefix_marks-at front [] b m h = rw append-nil (and_parts (is_some (mark_of (front ++ b ∷ []))) (prefix_marks (front ++ b ∷ []) m) h).0
prefix_marks-at front (c ∷ u) b m h =
    let rest = prefix_marks-at (front ++ c ∷ []) u b m (and_parts (is_some (mark_of (front ++ c ∷ []))) (prefix_marks (front ++ c ∷ []) (u ++ b ∷ m)) h).1 in
    subst (λ (w : Text). is_some (mark_of (w ++ b ∷ [])) ≡ true) (append_assoc front (c ∷ []) u) rest

-- each front of a mark is a mark
pub mark_fronts : (w : Text) (m : Mark) → mark_of w ≡ Some m → prefix_marks [] w ≡ true
unfolding mark_of
mark_fronts w m h = lookup_some (prefix_marks []) marks w m refl h

-- ---- formats

abbrev proper_front : Text → Text → Bool
proper_front [] [] = false
proper_front [] (b ∷ w) = true
proper_front (a ∷ u) [] = false
proper_front (a ∷ u) (b ∷ w) = eqb a b && proper_front u w

is_front : (u : Text) (b : ℕ) (m : Text) → proper_front u (u ++ b ∷ m) ≡ true
is_front [] b m = refl
is_front (a ∷ u) b m = and_from (eqb a a) (proper_front u (u ++ b ∷ m)) (eq-eqb a a refl) (is_front u b m)

abbrev fronts_none : Text → Bool
fronts_none u = list_all (λ t. not (proper_front u t.0)) formats

-- no format is a front of another
format_fronts : (u : Text) (b : ℕ) (m : Text) (i j : ℕ) → format_of u ≡ Some i → format_of (u ++ b ∷ m) ≡ Some j → ⊥
unfolding format_of
format_fronts u b m i j h g =
    let outer = lookup_some fronts_none formats u i refl h in
    let inner = lookup_some (λ t. not (proper_front u t)) formats (u ++ b ∷ m) j outer g in
    false≢true (sym (ap not (is_front u b m)) ∙ inner)

abbrev no_quote : Text → Bool
no_quote w = not (eqb (get_or w 0 0) 34)

abbrev quote : Text → Bool
quote w = eqb (get_or w 0 0) 34

mark_no_quote : (w : Text) (m : Mark) → mark_of w ≡ Some m → no_quote w ≡ true
unfolding mark_of
mark_no_quote w m h = lookup_some no_quote marks w m refl h

format_quote : (w : Text) (i : ℕ) → format_of w ≡ Some i → quote w ≡ true
unfolding format_of
format_quote w i h = lookup_some quote formats w i refl h

-- what is no word is a format or a mark
pub other_cases : (a : ℕ) (w : Text) (k : Kind) → is_word a ≡ false → kind_of (a ∷ w) ≡ Some k → ((i : ℕ) × (format_of (a ∷ w) ≡ Some i)) ⊎ ((m : Mark) × (mark_of (a ∷ w) ≡ Some m))
other_cases a w k word h =
    let p = or_parts (is_letter a) (is_ascii_digit a) word in
    go (format_of (a ∷ w)) (mark_of (a ∷ w)) (sym (rw (p.1) (rw (p.0) refl)) ∙ h)
  where
    go : (f : Option ℕ) (m : Option Mark) → other_kind f m ≡ Some k → ((i : ℕ) × (f ≡ Some i)) ⊎ ((x : Mark) × (m ≡ Some x))
    go (Some i) m g = inl (i, refl)
    go None (Some x) g = inr (x, refl)
    go None None g = absurd (none-some k g)

grow_other : (a : ℕ) (u : Text) (b : ℕ) (m : Text) (k j : Kind) → is_word a ≡ false → kind_of (a ∷ u) ≡ Some k → kind_of (a ∷ (u ++ b ∷ m)) ≡ Some j → (is_some (mark_of (a ∷ (u ++ b ∷ []))) || (same (a ∷ u) (47 ∷ []) && (eqb b 47 || eqb b 42))) ≡ true
grow_other a u b m k j word h g = ⊎_elim
    (λ (f : (i : ℕ) × (format_of (a ∷ (u ++ b ∷ m)) ≡ Some i)). ⊎_elim
    (λ (q : (i : ℕ) × (format_of (a ∷ u) ≡ Some i)). absurd (format_fronts (a ∷ u) b m q.0 f.0 q.1 f.1))
    (λ (q : (x : Mark) × (mark_of (a ∷ u) ≡ Some x)). absurd (false≢true (sym (ap not (format_quote (a ∷ (u ++ b ∷ m)) f.0 f.1)) ∙ mark_no_quote (a ∷ u) q.0 q.1)))
    (other_cases a u k word h))
    (λ (f : (x : Mark) × (mark_of (a ∷ (u ++ b ∷ m)) ≡ Some x)). or_left (is_some (mark_of (a ∷ (u ++ b ∷ [])))) _ (prefix_marks-at [] (a ∷ u) b m (mark_fronts (a ∷ (u ++ b ∷ m)) f.0 f.1)))
    (other_cases a (u ++ b ∷ m) j word g)

-- a token's text that goes on from another's goes on with a byte that continues it
grow : (u : Text) (b : ℕ) (m : Text) (k j : Kind) → kind_of u ≡ Some k → kind_of (u ++ b ∷ m) ≡ Some j → continues u b ≡ true
unfolding format_of mark_of
grow [] b m k j h g = absurd (none-some k h)
grow (a ∷ u) b m k j h g = grown
  where
    grown : continues (a ∷ u) b ≡ true
    grown = ⊎_elim
        (λ (t : is_word a ≡ true). rw t (or_left (is_word b) (is_hex (a ∷ u) && (eqb (last_of (a ∷ u)) 101 || eqb (last_of (a ∷ u)) 69) && (eqb b 43 || eqb b 45)) (list_all-at is_word (a ∷ u) b m (word_all a (u ++ b ∷ m) j t g))))
        (λ (t : is_word a ≡ false). rw t (grow_other a u b m k j t h g))
        (cases_Bool (is_word a))

-- the longest token is taken: no token's text stands at its place and is longer (6.4p4)
pub longest_token : (fresh : Bool) (w rest m more : Text) (kind longer : Kind) → IsPiece fresh (token w kind) rest → rest ≡ m ++ more → kind_of (w ++ m) ≡ Some longer → m ≡ []
longest_token fresh w rest [] more kind longer is split found = refl
longest_token fresh w rest (b ∷ m) more kind longer is split found =
    let there : AtHead (b ∷ (m ++ more)) (λ c. continues w c ≡ false) = subst (λ (v : Text). AtHead v (λ c. continues w c ≡ false)) split is.1 in
    absurd (false≢true (sym there ∙ grow w b m kind longer is.0 found))

-- two tokens at one place have one text
pub token_one : (u v r s : Text) (k j : Kind) → u ++ r ≡ v ++ s → kind_of u ≡ Some k → AtHead r (λ b. continues u b ≡ false) → kind_of v ≡ Some j → AtHead s (λ b. continues v b ≡ false) → u ≡ v
token_one u v r s k j h ku ru kv sv = ⊎_elim
    (λ (a : (m : Text) × (v ≡ u ++ m) × (r ≡ m ++ s)). sym (longer u v r s k j a.0 a.1 a.2 ku ru kv))
    (λ (a : (m : Text) × (u ≡ v ++ m) × (s ≡ m ++ r)). longer v u s r j k a.0 a.1 a.2 kv sv ku)
    (fronts u v r s h)
  where
    longer : (u v r s : Text) (k j : Kind) (m : Text) → v ≡ u ++ m → r ≡ m ++ s → kind_of u ≡ Some k → AtHead r (λ b. continues u b ≡ false) → kind_of v ≡ Some j → v ≡ u
    longer u v r s k j [] is to ku ru kv = is ∙ append-nil u
    longer u v r s k j (b ∷ m) is to ku ru kv =
        let there : AtHead (b ∷ (m ++ s)) (λ c. continues u c ≡ false) = subst (λ (w : Text). AtHead w (λ c. continues u c ≡ false)) to ru in
        absurd (false≢true (sym there ∙ grow u b m k j ku (ap kind_of (sym is) ∙ kv)))

-- ---- sorts of pieces

pub word_plain : (a : ℕ) → is_word a ≡ true → (is_space a ≡ false) × (eqb a 47 ≡ false) × (eqb a 35 ≡ false)
word_plain a h = (word_no_space a h, grind (arith, nat_tests), grind (arith, nat_tests))
  where
    word_no_space : (a : ℕ) → is_word a ≡ true → is_space a ≡ false
    word_no_space a h = grind (arith, nat_tests)

slash_sort : (b : ℕ) (x : Text) → eqb b 47 ≡ false → eqb b 42 ≡ false → sort_of (47 ∷ b ∷ x) ≡ 4
slash_sort b x h g = rw h (rw g refl)

one_sort : (a b : ℕ) (x : Text) → sort_of (a ∷ []) ≡ 4 → ((same (a ∷ []) (47 ∷ []) && (eqb b 47 || eqb b 42)) ≡ false) → sort_of (a ∷ b ∷ x) ≡ 4
one_sort a b x h g = ⊎_elim
    (λ (t : eqb a 47 ≡ true).
    let is = eqb-true a 47 t in
    let q : (eqb b 47 || eqb b 42) ≡ false = sym (rw t refl) ∙ g in
    let p = or_parts (eqb b 47) (eqb b 42) q in
    subst (λ (c : ℕ). sort_of (c ∷ b ∷ x) ≡ 4) (sym is) (slash_sort b x p.0 p.1))
    (λ (t : eqb a 47 ≡ false).
    let l : sort_of (a ∷ b ∷ x) ≡ cond (is_space a) 0 (cond (eqb a 35) 3 4) = rw t refl in
    let r : sort_of (a ∷ []) ≡ cond (is_space a) 0 (cond (eqb a 35) 3 4) = rw t refl in
    l ∙ sym r ∙ h)
    (cases_Bool (eqb a 47))

pub kind_sort : (w : Text) (k : Kind) (r : Text) → kind_of w ≡ Some k → AtHead r (λ b. continues w b ≡ false) → sort_of (w ++ r) ≡ 4
unfolding format_of mark_of
kind_sort [] k r h e = absurd (none-some k h)
kind_sort (a ∷ w) k r h e = ⊎_elim
    (λ (t : is_word a ≡ true). let p = word_plain a t in rw (p.0) (rw (p.1) (rw (p.2) refl)))
    (λ (t : is_word a ≡ false). ⊎_elim
    (λ (f : (i : ℕ) × (format_of (a ∷ w) ≡ Some i)). subst (λ (c : ℕ). sort_of (c ∷ (w ++ r)) ≡ 4) (sym (eqb-true a 34 (format_quote (a ∷ w) f.0 f.1))) refl)
    (λ (f : (x : Mark) × (mark_of (a ∷ w) ≡ Some x)). mark_case a w r t (mark_sort (a ∷ w) f.0 f.1) e)
    (other_cases a w k t h))
    (cases_Bool (is_word a))
  where
    mark_case : (a : ℕ) (w r : Text) → is_word a ≡ false → sort_of (a ∷ w) ≡ 4 → AtHead r (λ b. continues (a ∷ w) b ≡ false) → sort_of (a ∷ (w ++ r)) ≡ 4
    mark_case a (c ∷ w) r t s e = s
    mark_case a [] [] t s e = s
    mark_case a [] (b ∷ r) t s e =
        let g : (is_some (mark_of (a ∷ b ∷ [])) || (same (a ∷ []) (47 ∷ []) && (eqb b 47 || eqb b 42))) ≡ false = sym (rw t refl) ∙ e in
        one_sort a b r s (or_parts (is_some (mark_of (a ∷ b ∷ []))) (same (a ∷ []) (47 ∷ []) && (eqb b 47 || eqb b 42)) g).1

pub sort_is : (f : Bool) (p : Piece) (r : Text) → IsPiece f p r → sort_of (text_of p ++ r) ≡ sort p
sort_is f (space b) r h = rw h refl
sort_is f (line b) r h = refl
sort_is f (block b) r h = refl
sort_is f (include a b c) r h = refl
sort_is f (token w k) r h = kind_sort w k r h.0 h.1

-- ---- one piece

pub span_one : (p : ℕ → Bool) (u v x y : Text) → list_all p u ≡ true → list_all p v ≡ true → AtHead x (λ b. p b ≡ false) → AtHead y (λ b. p b ≡ false) → u ++ x ≡ v ++ y → u ≡ v
span_one p u v x y a b c d h = ⊎_elim
    (λ (q : (m : Text) × (v ≡ u ++ m) × (x ≡ m ++ y)). sym (longer u v x y q.0 q.1 q.2 b c))
    (λ (q : (m : Text) × (u ≡ v ++ m) × (y ≡ m ++ x)). longer v u y x q.0 q.1 q.2 a d)
    (fronts u v x y h)
  where
    longer : (u v x y m : Text) → v ≡ u ++ m → x ≡ m ++ y → list_all p v ≡ true → AtHead x (λ b. p b ≡ false) → v ≡ u
    longer u v x y [] is to all e = is ∙ append-nil u
    longer u v x y (b ∷ m) is to all e =
        let there : p b ≡ false = subst (λ (w : Text). AtHead w (λ c. p c ≡ false)) to e in
        absurd (false≢true (sym there ∙ list_all-at p u b m (ap (list_all p) (sym is) ∙ all)))

pub has_end-at : (u m : Text) → has_end (u ++ 42 ∷ 47 ∷ m) ≡ true
has_end-at [] m = refl
has_end-at (b ∷ u) m = rw (has_end-at u m) (or_right (eqb b 42 && eqb (get_or (u ++ 42 ∷ 47 ∷ m) 0 0) 47) true refl)

block_one : (u v x y : Text) → has_end u ≡ false → has_end v ≡ false → u ++ (42 ∷ 47 ∷ x) ≡ v ++ (42 ∷ 47 ∷ y) → u ≡ v
block_one u v x y a b h = ⊎_elim
    (λ (q : (m : Text) × (v ≡ u ++ m) × (42 ∷ 47 ∷ x ≡ m ++ (42 ∷ 47 ∷ y))). sym (longer u v x y q.0 q.1 q.2 b))
    (λ (q : (m : Text) × (u ≡ v ++ m) × (42 ∷ 47 ∷ y ≡ m ++ (42 ∷ 47 ∷ x))). longer v u y x q.0 q.1 q.2 a)
    (fronts u v (42 ∷ 47 ∷ x) (42 ∷ 47 ∷ y) h)
  where
    longer : (u v x y m : Text) → v ≡ u ++ m → 42 ∷ 47 ∷ x ≡ m ++ (42 ∷ 47 ∷ y) → has_end v ≡ false → v ≡ u
    longer u v x y [] is to e = is ∙ append-nil u
    longer u v x y (c ∷ []) is to e = cc
    longer u v x y (c ∷ d ∷ m) is to e =
        let one : c ≡ 42 = cc in
        let two : d ≡ 47 = cc in
        let made : v ≡ u ++ 42 ∷ 47 ∷ m = is ∙ ap (λ (i : ℕ). u ++ i ∷ d ∷ m) one ∙ ap (λ (i : ℕ). u ++ 42 ∷ i ∷ m) two in
        absurd (false≢true (sym e ∙ ap has_end made ∙ has_end-at u m))

pub line_heads : (w x : Text) → AtHead x (λ b. (b ≡ 10) × (last_of w ≡ 92 → ⊥)) → AtHead x (λ b. not (eqb b 10) ≡ false)
line_heads w [] h = tt
line_heads w (b ∷ x) h = ap (λ (c : ℕ). not (eqb c 10)) h.0

abbrev pub flat : Text → Text → Text → Text → Text
flat a b n r = 35 ∷ (a ++ (105 ∷ 110 ∷ 99 ∷ 108 ∷ 117 ∷ 100 ∷ 101 ∷ (b ++ (60 ∷ (n ++ (62 ∷ r))))))

pub include_flat : (a b n r : Text) → text_of (include a b n) ++ r ≡ flat a b n r
include_flat a b n r = simp append_assoc

include_one : (a b n r a' b' n' r' : Text) → flat a b n r ≡ flat a' b' n' r' → list_all is_blank a ≡ true → list_all is_blank a' ≡ true → list_all is_blank b ≡ true → list_all is_blank b' ≡ true → list_all (λ c. not (eqb c 62 || eqb c 10)) n ≡ true → list_all (λ c. not (eqb c 62 || eqb c 10)) n' ≡ true → include a b n ≡ include a' b' n'
include_one a b n r a' b' n' r' h p p' q q' s s' =
    let mid : Text → Text → Text → Text = λ (b n r : Text). 105 ∷ 110 ∷ 99 ∷ 108 ∷ 117 ∷ 100 ∷ 101 ∷ (b ++ (60 ∷ (n ++ (62 ∷ r)))) in
    let one : a ++ mid b n r ≡ a' ++ mid b' n' r' = cc in
    let as_same : a ≡ a' = span_one is_blank a a' (mid b n r) (mid b' n' r') p p' refl refl one in
    let two : mid b n r ≡ mid b' n' r' = append_cancel_left a (mid b n r) (mid b' n' r') (one ∙ ap (λ (w : Text). w ++ mid b' n' r') (sym as_same)) in
    let three : b ++ (60 ∷ (n ++ (62 ∷ r))) ≡ b' ++ (60 ∷ (n' ++ (62 ∷ r'))) = cc in
    let bs_same : b ≡ b' = span_one is_blank b b' (60 ∷ (n ++ (62 ∷ r))) (60 ∷ (n' ++ (62 ∷ r'))) q q' refl refl three in
    let four : 60 ∷ (n ++ (62 ∷ r)) ≡ 60 ∷ (n' ++ (62 ∷ r')) = append_cancel_left b (60 ∷ (n ++ (62 ∷ r))) (60 ∷ (n' ++ (62 ∷ r'))) (three ∙ ap (λ (w : Text). w ++ (60 ∷ (n' ++ (62 ∷ r')))) (sym bs_same)) in
    let five : n ++ (62 ∷ r) ≡ n' ++ (62 ∷ r') = cc in
    let ns_same : n ≡ n' = span_one (λ c. not (eqb c 62 || eqb c 10)) n n' (62 ∷ r) (62 ∷ r') s s' refl refl five in
    cc

-- at most one piece stands at a place
pub piece_one : (f : Bool) (p q : Piece) (r s : Text) → text_of p ++ r ≡ text_of q ++ s → IsPiece f p r → IsPiece f q s → p ≡ q
piece_one f (space b) (space c) r s h x y = cc
piece_one f (line u) (line v) r s h x y =
    let tail : u ++ r ≡ v ++ s = cc in
    ap (λ (w : Text). line w) (span_one (λ c. not (eqb c 10)) u v r s x.0 y.0 (line_heads u r x.1) (line_heads v s y.1) tail)
piece_one f (block u) (block v) r s h x y =
    let tail : (u ++ 42 ∷ 47 ∷ []) ++ r ≡ (v ++ 42 ∷ 47 ∷ []) ++ s = cc in
    ap (λ (w : Text). block w) (block_one u v r s x y (sym (append_assoc u (42 ∷ 47 ∷ []) r) ∙ tail ∙ append_assoc v (42 ∷ 47 ∷ []) s))
piece_one f (include a b n) (include a' b' n') r s h x y = include_one a b n r a' b' n' s (sym (include_flat a b n r) ∙ h ∙ include_flat a' b' n' s) x.1 y.1 x.2 y.2 x.3 y.3
piece_one f (token u k) (token v j) r s h x y =
    let text = token_one u v r s k j h x.0 x.1 y.0 y.1 in
    let kinds : Some k ≡ Some j = sym x.0 ∙ ap kind_of text ∙ y.0 in
    cc
piece_one f p q r s h x y =
    let e : sort p ≡ sort q = sym (sort_is f p r x) ∙ ap sort_of h ∙ sort_is f q s y in
    absurd (omega arith)

pub some_text : (f : Bool) (p : Piece) (r : Text) → IsPiece f p r → text_of p ≡ [] → ⊥
unfolding format_of mark_of
some_text f (token w k) r x h = none-some k (sym (ap kind_of h) ∙ x.0)
some_text f p r x h = cc

-- bytes are these pieces and no others
pub pieces_one : (f : Bool) (ps qs : List Piece) → texts ps ≡ texts qs → ArePieces f ps [] → ArePieces f qs [] → ps ≡ qs
pieces_one f [] [] h x y = refl
pieces_one f [] (q ∷ qs) h x y = absurd (some_text f q (texts qs ++ []) y.0 (front_nil (text_of q) (texts qs) (sym h)))
  where
    front_nil : (a b : Text) → a ++ b ≡ [] → a ≡ []
    front_nil [] b h = refl
    front_nil (x ∷ a) b h = cc
pieces_one f (p ∷ ps) [] h x y = absurd (some_text f p (texts ps ++ []) x.0 (front_nil (text_of p) (texts ps) h))
  where
    front_nil : (a b : Text) → a ++ b ≡ [] → a ≡ []
    front_nil [] b h = refl
    front_nil (x ∷ a) b h = cc
pieces_one f (p ∷ ps) (q ∷ qs) h x y =
    let at : text_of p ++ (texts ps ++ []) ≡ text_of q ++ (texts qs ++ []) = ap (λ (w : Text). text_of p ++ w) (append-nil (texts ps)) ∙ h ∙ ap (λ (w : Text). text_of q ++ w) (sym (append-nil (texts qs))) in
    let first = piece_one f p q (texts ps ++ []) (texts qs ++ []) at x.0 y.0 in
    let rest : texts ps ≡ texts qs = append_cancel_left (text_of p) (texts ps) (texts qs) (h ∙ ap (λ (z : Piece). text_of z ++ texts qs) (sym first)) in
    let more = pieces_one (fresh_after f p) ps qs rest x.1 (subst (λ (z : Piece). ArePieces (fresh_after f z) qs []) (sym first) y.1) in
    λ i. first i ∷ more i

-- at most one token list
pub one_list : (bytes : Text) (ts us : List Token) → SpellsTokens bytes ts → SpellsTokens bytes us → ts ≡ us
one_list bytes ts us a b = a.found ∙ ap (λ (ps : List Piece). tokens_of 0 ps) (pieces_one true a.pieces b.pieces (sym a.joined ∙ b.joined) a.proper b.proper) ∙ sym b.found
