-- One fault stands at a place.
use Rattle.std.proofs.Common.{◌≡◌, ◌≤◌, ◌<◌, ℕ, ◌+◌, Bool, true, false, not, ◌&&◌, ◌||◌, eqb, ltb, List, [], ◌∷◌, ◌++◌, length, take, drop, get_or, Some, None, refl, sym, ap, ◌∙◌, subst, arith, ⊎_elim, append_assoc, append-nil, length-append}
use Rattle.std.specs.List.{list_all}
use Rattle.std.specs.Char.{is_ascii_digit}
use Rattle.std.proofs.lemmas.Bool.{false≢true, and_parts, and_from, or_right, le-leb}
use Rattle.std.proofs.lemmas.Bool.Decides.{nat_tests}
use Rattle.std.proofs.lemmas.Option.{none-some, same_Some}
use Rattle.ax_lex.specs.declared.LexFault.{LexFault}
use Rattle.ax_lex.specs.declared.LexFault.TheVariants as fault
use Rattle.ax_lex.specs.Bytes.{Text, is_space, is_word, same, digit, AtHead}
use Rattle.ax_lex.specs.Tokens.{base_of, numeral, number_of, mark_of, format_of}
use Rattle.ax_lex.specs.Pieces.{Piece, token, fresh_end, texts, tokens_of}
use Rattle.ax_lex.specs.Faults.{Stuck, Faulty, NoInclude, extends, late}
use Rattle.ax_lex.proofs.Unique.{fronts, span_one, sort_of, kind_sort, numeral_all}
use Rattle.ax_lex.proofs.Exact.{number_first, extended, number_same, number_sort, stray_none, one_place}

-- a numeral and what spoils its ending stand at a place once
numeral_one : (w r u x : Text) (n m : ℕ) → number_of w ≡ Some n → AtHead r (λ b. extends w b ≡ false) → w ++ r ≡ u ++ x → number_of u ≡ Some m → AtHead x (λ b. extends u b ≡ false) → w ≡ u
numeral_one w r u x n m a b h c d = ⊎_elim
    (λ (q : (y : Text) × (u ≡ w ++ y) × (r ≡ y ++ x)). sym (further w u r x q.0 n m q.1 q.2 a c b))
    (λ (q : (y : Text) × (w ≡ u ++ y) × (x ≡ y ++ r)). further u w x r q.0 m n q.1 q.2 c a d)
    (fronts w u r x h)
  where
    further : (w u r x m : Text) (n j : ℕ) → u ≡ w ++ m → r ≡ m ++ x → number_of w ≡ Some n → number_of u ≡ Some j → AtHead r (λ b. extends w b ≡ false) → u ≡ w
    further w u r x [] n j is to num other ends = is ∙ append-nil w
    further w u r x (b ∷ m) n j is to num other ends =
        let there : extends w b ≡ false = subst (λ (y : Text). AtHead y (λ b. extends w b ≡ false)) to ends in
        absurd (false≢true (sym there ∙ extended w b m n j num (ap number_of (sym is) ∙ other)))

-- a numeral does not stand where `0x` stands without a digit
bare_number : (x : ℕ) (r u y : Text) (n : ℕ) → (eqb x 120 || eqb x 88) ≡ true → AtHead r (λ b. ltb (digit b) 16 ≡ false) → 48 ∷ x ∷ r ≡ u ++ y → number_of u ≡ Some n → AtHead y (λ b. extends u b ≡ false) → ⊥
bare_number x r [] y n hex ends h num stops = none-some n num
bare_number x r (c ∷ []) y n hex ends h num stops =
    let e : c ≡ 48 = ap (λ (v : Text). get_or v 0 0) (sym h) in
    let rest : x ∷ r ≡ y = ap (drop 1) h in
    let there : extends (c ∷ []) x ≡ false = subst (λ (v : Text). AtHead v (λ b. extends (c ∷ []) b ≡ false)) (sym rest) stops in
    let on : extends (48 ∷ []) x ≡ true = or_right (ltb (digit x) (base_of (48 ∷ []))) (same (48 ∷ []) (48 ∷ []) && (eqb x 120 || eqb x 88)) hex in
    false≢true (sym there ∙ ap (λ (d : ℕ). extends (d ∷ []) x) e ∙ on)
bare_number x r (c ∷ d ∷ u) y n hex ends h num stops =
    let e : c ≡ 48 = ap (λ (v : Text). get_or v 0 0) (sym h) in
    let g : d ≡ x = ap (λ (v : Text). get_or v 1 0) (sym h) in
    let rest : r ≡ u ++ y = ap (drop 2) h in
    let text : c ∷ d ∷ u ≡ 48 ∷ x ∷ u = λ i. e i ∷ g i ∷ u in
    let digits : numeral 16 u ≡ Some n = sym (rw hex refl) ∙ ap number_of (sym text) ∙ num in
    empty u n digits (subst (λ (w : Text). AtHead w (λ b. ltb (digit b) 16 ≡ false)) rest ends)
  where
    empty : (u : Text) (n : ℕ) → numeral 16 u ≡ Some n → AtHead (u ++ y) (λ b. ltb (digit b) 16 ≡ false) → ⊥
    empty [] n num ends = none-some n num
    empty (b ∷ u) n num ends = false≢true (sym ends ∙ (and_parts (ltb (digit b) 16) (list_all (λ c. ltb (digit c) 16) u) (numeral_all 16 (b ∷ u) n num)).0)

head_word : (w r : Text) (n b : ℕ) (t : Text) → number_of w ≡ Some n → b ∷ t ≡ w ++ r → is_word b ≡ true
head_word w r n b t num h =
    let f = number_first w n num in
    let head : b ≡ f.0 = ap (λ (v : Text). get_or v 0 0) (h ∙ ap (λ (v : Text). v ++ r) f.2) in
    digit_is_word b (ap is_ascii_digit head ∙ f.3)
  where
    digit_is_word : (d : ℕ) → is_ascii_digit d ≡ true → is_word d ≡ true
    digit_is_word d h = grind (arith, nat_tests)

stray_only : {at : ℕ} {fresh : Bool} {count : ℕ} {s : Text} {why : LexFault} → Stuck at fresh count s why → (b : ℕ) (r : Text) → b ∷ r ≡ s → is_space b ≡ false → is_word b ≡ false → mark_of (b ∷ []) ≡ None → ((n : ℕ) → format_of (take n (b ∷ r)) ≡ None) → NoInclude fresh (b ∷ r) → why ≡ fault.BadByte at
unfolding mark_of
stray_only (Stuck.stray c q a' w' m' f' i') b r h a w m f i = refl
stray_only (Stuck.spliced body q all) b r h a w m f i = let e : b ≡ 47 = ap (λ (v : Text). get_or v 0 0) h in absurd (none-some _ (sym m ∙ ap (λ (c : ℕ). mark_of (c ∷ [])) e))
stray_only (Stuck.unclosed body none) b r h a w m f i = let e : b ≡ 47 = ap (λ (v : Text). get_or v 0 0) h in absurd (none-some _ (sym m ∙ ap (λ (c : ℕ). mark_of (c ∷ [])) e))
stray_only (Stuck.large v q n num ends lt) b r h a w m f i = absurd (false≢true (sym w ∙ head_word v q n b r num h))
stray_only (Stuck.spoiled v c q n num ends on le) b r h a w m f i = absurd (false≢true (sym w ∙ head_word v (c ∷ q) n b r num h))
stray_only (Stuck.bare x q hex ends) b r h a w m f i = let e : b ≡ 48 = ap (λ (v : Text). get_or v 0 0) h in absurd (false≢true (sym w ∙ ap is_word e))
stray_only (Stuck.many {fresh = fresh} v q kind is ends le) b r h a w m f i = absurd (stray_none fresh b r a w m f i (token v kind) q h (is, ends))

-- what sort of piece begins where a byte is not stray
level : {at : ℕ} {fresh : Bool} {count : ℕ} {s : Text} {why : LexFault} → Stuck at fresh count s why → ℕ
level (Stuck.stray b r a w m f i) = sort_of (b ∷ r)
level (Stuck.spliced body r all) = 1
level (Stuck.unclosed body none) = 2
level (Stuck.large w r n num ends lt) = 4
level (Stuck.spoiled w b r n num ends on le) = 4
level (Stuck.bare x r hex ends) = 4
level (Stuck.many w r kind is ends le) = 4

sort_level : {at : ℕ} {fresh : Bool} {count : ℕ} {s : Text} {why : LexFault} (d : Stuck at fresh count s why) → sort_of s ≡ level d
unfolding level
sort_level (Stuck.stray b r a w m f i) = refl
sort_level (Stuck.spliced body r all) = refl
sort_level (Stuck.unclosed body none) = refl
sort_level (Stuck.large w r n num ends lt) = number_sort w r n num
sort_level (Stuck.spoiled w b r n num ends on le) = number_sort w (b ∷ r) n num
sort_level (Stuck.bare x r hex ends) = refl
sort_level (Stuck.many w r kind is ends le) = kind_sort w kind r is ends

body_one : (u v r s : Text) → list_all (λ b. not (eqb b 10)) u ≡ true → list_all (λ b. not (eqb b 10)) v ≡ true → u ++ 92 ∷ 10 ∷ r ≡ v ++ 92 ∷ 10 ∷ s → length u ≡ length v
body_one u v r s a b h =
    let p : ℕ → Bool = λ b. not (eqb b 10) in
    let same : u ++ 92 ∷ [] ≡ v ++ 92 ∷ [] = span_one p (u ++ 92 ∷ []) (v ++ 92 ∷ []) (10 ∷ r) (10 ∷ s) (with_last u a) (with_last v b) refl refl (append_assoc u (92 ∷ []) (10 ∷ r) ∙ h ∙ sym (append_assoc v (92 ∷ []) (10 ∷ s))) in
    omega (arith, length-append u (92 ∷ []), length-append v (92 ∷ []), ap length same)
  where
    with_last : (body : Text) → list_all (λ b. not (eqb b 10)) body ≡ true → list_all (λ b. not (eqb b 10)) (body ++ 92 ∷ []) ≡ true
    with_last [] h = refl
    with_last (b ∷ body) h = let c = and_parts (not (eqb b 10)) (list_all (λ b. not (eqb b 10)) body) h in and_from (not (eqb b 10)) (list_all (λ b. not (eqb b 10)) (body ++ 92 ∷ [])) c.0 (with_last body c.1)

spliced_only : {at : ℕ} {fresh : Bool} {count : ℕ} {s : Text} {why : LexFault} → Stuck at fresh count s why → (body r : Text) → 47 ∷ 47 ∷ (body ++ 92 ∷ 10 ∷ r) ≡ s → list_all (λ b. not (eqb b 10)) body ≡ true → why ≡ fault.BadByte (at + 2 + length body)
unfolding level mark_of
spliced_only (Stuck.stray b q a w m f i) body r h all = let e : b ≡ 47 = ap (λ (v : Text). get_or v 0 0) (sym h) in absurd (none-some _ (sym m ∙ ap (λ (c : ℕ). mark_of (c ∷ [])) e))
spliced_only (Stuck.spliced {at = at} u q b) body r h all = ap (λ (n : ℕ). fault.BadByte (at + 2 + n)) (body_one u body q r b all (sym (ap (drop 2) h)))
spliced_only d body r h all = let e : level d ≡ 1 = sym (sort_level d) ∙ ap sort_of (sym h) in absurd (omega arith)

unclosed_only : {at : ℕ} {fresh : Bool} {count : ℕ} {s : Text} {why : LexFault} → Stuck at fresh count s why → (body : Text) → 47 ∷ 42 ∷ body ≡ s → why ≡ fault.OpenComment at
unfolding level mark_of
unclosed_only (Stuck.stray b q a w m f i) body h = let e : b ≡ 47 = ap (λ (v : Text). get_or v 0 0) (sym h) in absurd (none-some _ (sym m ∙ ap (λ (c : ℕ). mark_of (c ∷ [])) e))
unclosed_only (Stuck.unclosed u none) body h = refl
unclosed_only d body h = let e : level d ≡ 2 = sym (sort_level d) ∙ ap sort_of (sym h) in absurd (omega arith)

late_is : (count at : ℕ) (f : LexFault) → 20000 ≤ count → late count at f ≡ fault.TooManyTokens at
late_is count at f le = rw (le-leb 20000 count le) refl

too_large : (w r u x : Text) (n m : ℕ) → number_of w ≡ Some n → AtHead r (λ b. extends w b ≡ false) → w ++ r ≡ u ++ x → number_of u ≡ Some m → AtHead x (λ b. extends u b ≡ false) → 2147483647 < n → m ≤ 2147483647 → ⊥
too_large w r u x n m a b h c d lt le =
    let same_value : n ≡ m = same_Some n m (sym a ∙ ap number_of (numeral_one w r u x n m a b h c d) ∙ c) in
    omega arith

stuck_same : {at : ℕ} {fresh : Bool} {count : ℕ} {s t : Text} {why other : LexFault} → Stuck at fresh count s why → Stuck at fresh count t other → s ≡ t → why ≡ other
stuck_same (Stuck.stray b r a w m f i) y h = sym (stray_only y b r h a w m f i)
stuck_same x (Stuck.stray b r a w m f i) h = stray_only x b r (sym h) a w m f i
stuck_same (Stuck.spliced body r all) y h = sym (spliced_only y body r h all)
stuck_same x (Stuck.spliced body r all) h = spliced_only x body r (sym h) all
stuck_same (Stuck.unclosed body none) y h = sym (unclosed_only y body h)
stuck_same x (Stuck.unclosed body none) h = unclosed_only x body (sym h)
stuck_same (Stuck.large w r n num ends lt) (Stuck.large u q k num' ends' lt') h = refl
stuck_same (Stuck.large w r n num ends lt) (Stuck.spoiled u b q k num' off on le) h = absurd (too_large w r u (b ∷ q) n k num ends h num' off lt le)
stuck_same (Stuck.large w r n num ends lt) (Stuck.bare x q hex stops) h = absurd (bare_number x q w r n hex stops (sym h) num ends)
stuck_same (Stuck.large w r n num ends lt) (Stuck.many u q kind is stops le) h = absurd (omega (arith, (number_same w r u q n kind num ends h is stops).2))
stuck_same (Stuck.spoiled w b r n num off on le) (Stuck.large u q k num' ends' lt) h = absurd (too_large u q w (b ∷ r) k n num' ends' (sym h) num off lt le)
stuck_same (Stuck.spoiled {at = at} {count = count} w b r n num off on le) (Stuck.spoiled u c q k num' off' on' le') h = ap (λ (v : Text). late count at (fault.BadByte (at + length v))) (numeral_one w (b ∷ r) u (c ∷ q) n k num off h num' off')
stuck_same (Stuck.spoiled w b r n num off on le) (Stuck.bare x q hex stops) h = absurd (bare_number x q w (b ∷ r) n hex stops (sym h) num off)
stuck_same (Stuck.spoiled {at = at} {count = count} w b r n num off on le) (Stuck.many u q kind is stops many) h = late_is count at (fault.BadByte (at + length w)) many
stuck_same (Stuck.bare x r hex stops) (Stuck.large u q k num ends lt) h = absurd (bare_number x r u q k hex stops h num ends)
stuck_same (Stuck.bare x r hex stops) (Stuck.spoiled u c q k num off on le) h = absurd (bare_number x r u (c ∷ q) k hex stops h num off)
stuck_same (Stuck.bare x r hex stops) (Stuck.bare y q hex' stops') h = refl
stuck_same (Stuck.bare {at = at} {count = count} x r hex stops) (Stuck.many u q kind is ends many) h = late_is count at (fault.BadByte (at + 1)) many
stuck_same (Stuck.many u q kind is ends many) (Stuck.large w r n num stops lt) h = absurd (omega (arith, (number_same w r u q n kind num stops (sym h) is ends).2))
stuck_same (Stuck.many {at = at} {count = count} u q kind is ends many) (Stuck.spoiled w b r n num off on le) h = sym (late_is count at (fault.BadByte (at + length w)) many)
stuck_same (Stuck.many {at = at} {count = count} u q kind is ends many) (Stuck.bare x r hex stops) h = sym (late_is count at (fault.BadByte (at + 1)) many)
stuck_same (Stuck.many u q kind is ends many) (Stuck.many w r other is' ends' many') h = refl

-- bytes have at most one fault
pub one_fault : (bytes : Text) (why other : LexFault) → Faulty bytes why → Faulty bytes other → why ≡ other
one_fault bytes why other a b =
    let place = one_place bytes why other a b in
    let moved : Stuck (length (texts a.pieces)) (fresh_end true a.pieces) (length (tokens_of 0 a.pieces)) b.rest other = subst (λ (ps : List Piece). Stuck (length (texts ps)) (fresh_end true ps) (length (tokens_of 0 ps)) b.rest other) (sym place.0) b.stuck in
    stuck_same a.stuck moved place.1
