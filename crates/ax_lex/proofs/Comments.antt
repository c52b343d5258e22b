-- Comments, includes and formats at the front.
use Rattle.std.proofs.Common.{◌≡◌, ◌≤◌, ◌<◌, ℕ, zero, suc, ◌+◌, Bool, true, false, not, ◌&&◌, eqb, [], ◌∷◌, ◌++◌, length, take, drop, get_or, Option, Some, None, refl, sym, ap, ◌∙◌, subst, arith, ⊎_elim, option_map, length-take-le, length-append}
use Rattle.std.specs.List.{list_all, prefix_len}
use Rattle.std.proofs.lemmas.Bool.{cases_Bool, and_right, false≢true, eqb-true, not-false, and_parts, and_from, eq-eqb}
use Rattle.std.proofs.lemmas.List.{take-append-drop, drop_more}
use Rattle.std.proofs.lemmas.Option.{none-some, same_Some}
use Rattle.ax_prog.specs.declared.tokens.Kind.TheVariants as k
use Rattle.ax_lex.specs.declared.LexFault.TheVariants as fault
use Rattle.ax_lex.specs.Bytes.{Text, same, AtHead}
use Rattle.ax_lex.specs.Tokens.{mark_of, format_of, continues, kind_of}
use Rattle.ax_lex.specs.Pieces.{block, has_end}
use Rattle.ax_lex.specs.Fronts.{WordIs, LayoutIs, end_of}
use Rattle.ax_lex.specs.Faults.{Stuck}
use Rattle.ax_lex.proofs.Texts.{list_all_prefix, after_prefix}
use Rattle.ax_lex.proofs.Lookups.{same_true}

-- ---- `/* */`

abbrev ends_here : ℕ → Text → Bool
ends_here b bs = eqb b 42 && eqb (get_or bs 0 0) 47

end_none : (t : Text) → end_of t ≡ None → has_end t ≡ false
end_none [] h = refl
end_none (b ∷ t) h = ⊎_elim
    (λ (e : ends_here b t ≡ true). absurd (none-some 0 (sym h ∙ rw e refl)))
    (λ (e : ends_here b t ≡ false). rw e (end_none t (inner (end_of t) (sym (rw e refl) ∙ h))))
    (cases_Bool (ends_here b t))
  where
    inner : (o : Option ℕ) → option_map (λ n. n + 1) o ≡ None → o ≡ None
    inner None h = refl
    inner (Some n) h = absurd (none-some (n + 1) (sym h))

record Closed (t : Text) (n : ℕ) : Type 0 where
  body : has_end (take n t) ≡ false
  marks : drop n t ≡ 42 ∷ 47 ∷ drop (n + 2) t
  within : n + 2 ≤ length t

closed : (t : Text) (n : ℕ) → end_of t ≡ Some n → Closed t n
closed [] n h = absurd (none-some n h)
closed (b ∷ t) n h = ⊎_elim
    (λ (e : ends_here b t ≡ true).
    let zero_is : 0 ≡ n = same_Some 0 n (sym (rw e refl) ∙ h) in
    let p = and_parts (eqb b 42) (eqb (get_or t 0 0) 47) e in
    subst (λ (j : ℕ). Closed (b ∷ t) j) zero_is (here b t (eqb-true b 42 p.0) (eqb-true (get_or t 0 0) 47 p.1)))
    (λ (e : ends_here b t ≡ false). later b t n (closed t) e (end_of t) refl (sym (rw e refl) ∙ h))
    (cases_Bool (ends_here b t))
  where
    here : (b : ℕ) (t : Text) → b ≡ 42 → get_or t 0 0 ≡ 47 → Closed (b ∷ t) 0
    here b [] is to = absurd (omega arith)
    here b (c ∷ t) is to = record { body = refl; marks = cc; within = omega arith }

    stays : (b : ℕ) (t : Text) (m : ℕ) → ends_here b t ≡ false → has_end (take m t) ≡ false → has_end (b ∷ take m t) ≡ false
    stays b t zero e h = rw (and_right (eqb b 42) false refl) refl
    stays b [] (suc m) e h = rw (and_right (eqb b 42) false refl) refl
    stays b (c ∷ t) (suc m) e h = rw e h

    later : (b : ℕ) (t : Text) (n : ℕ) → ((m : ℕ) → end_of t ≡ Some m → Closed t m) → ends_here b t ≡ false → (o : Option ℕ) → end_of t ≡ o → option_map (λ j. j + 1) o ≡ Some n → Closed (b ∷ t) n
    later b t n ih e None is h = absurd (none-some n h)
    later b t n ih e (Some m) is h =
        let in_t = ih m is in
        let next : suc m ≡ n = (let s : suc m ≡ m + 1 = omega arith in s) ∙ same_Some (m + 1) n h in
        let two : suc m + 2 ≡ suc (m + 2) = omega arith in
        subst (λ (j : ℕ). Closed (b ∷ t) j) next (record {
          body = stays b t m e in_t.body;
          marks = in_t.marks ∙ ap (λ (j : ℕ). 42 ∷ 47 ∷ drop j (b ∷ t)) (sym two);
          within = omega (arith, in_t.within);
        })

pub block_is : (s : Text) (n : ℕ) (fresh : Bool) → 2 ≤ length s → get_or s 0 0 ≡ 47 → get_or s 1 0 ≡ 42 → end_of (drop 2 s) ≡ Some n → LayoutIs fresh (n + 4) false s
block_is [] n fresh le a b h = absurd (omega arith)
block_is (x ∷ []) n fresh le a b h = absurd (omega arith)
block_is (x ∷ y ∷ t) n fresh le a b h =
    let c = closed t n h in
    let four : n + 4 ≡ suc (suc (n + 2)) = omega arith in
    let cut : take (n + 2) t ≡ take n t ++ 42 ∷ 47 ∷ [] = take_more n t ∙ ap (λ (w : Text). take n t ++ take 2 w) c.marks in
    subst (λ (j : ℕ). LayoutIs fresh j false (x ∷ y ∷ t)) (sym four) (record {
      p = block (take n t);
      some = omega arith;
      within = omega (arith, c.within);
      text = λ i. (sym a) i ∷ (sym b) i ∷ (sym cut) i;
      piece = c.body;
      silent = λ at. refl;
      goes = refl;
    })
  where
    take_more : (a : ℕ) (xs : Text) → take (a + 2) xs ≡ take a xs ++ take 2 (drop a xs)
    take_more zero xs = refl
    take_more (suc a) [] = let e : suc a + 2 ≡ suc (a + 2) = omega arith in ap (λ (j : ℕ). take j (let w : Text = [] in w)) e
    take_more (suc a) (x ∷ xs) = (let e : suc a + 2 ≡ suc (a + 2) = omega arith in ap (λ (j : ℕ). take j (x ∷ xs)) e) ∙ ap (λ (w : Text). x ∷ w) (take_more a xs)

pub block_open : (s : Text) (at count : ℕ) (fresh : Bool) → 2 ≤ length s → get_or s 0 0 ≡ 47 → get_or s 1 0 ≡ 42 → end_of (drop 2 s) ≡ None → Stuck at fresh count s (fault.OpenComment at)
block_open [] at count fresh le a b h = absurd (omega arith)
block_open (x ∷ []) at count fresh le a b h = absurd (omega arith)
block_open (x ∷ y ∷ t) at count fresh le a b h =
    let same : 47 ∷ 42 ∷ t ≡ x ∷ y ∷ t = λ i. (sym a) i ∷ (sym b) i ∷ t in
    subst (λ (w : Text). Stuck at fresh count w (fault.OpenComment at)) same (Stuck.unclosed t (end_none t h))

-- ---- `//` with a backslash

pub line_spliced : (s : Text) (n at count : ℕ) (fresh : Bool) → 2 ≤ length s → (get_or s 0 0 ≡ 47) × (get_or s 1 0 ≡ 47) → n ≡ prefix_len (λ b. not (eqb b 10)) (drop 2 s) → n + 2 < length s → 0 < n → get_or s (n + 1) 0 ≡ 92 → Stuck at fresh count s (fault.BadByte (at + (n + 1)))
line_spliced [] n at count fresh le slashes is lt some last = absurd (omega arith)
line_spliced (x ∷ []) n at count fresh le slashes is lt some last = absurd (omega arith)
line_spliced (x ∷ y ∷ t) zero at count fresh le slashes is lt some last = absurd (omega arith)
line_spliced (x ∷ y ∷ t) (suc m) at count fresh le slashes is lt some last =
    let p : ℕ → Bool = λ b. not (eqb b 10) in
    let all : list_all p (take (suc m) t) ≡ true = subst (λ (j : ℕ). list_all p (take j t) ≡ true) (sym is) (list_all_prefix p t) in
    let heads : AtHead (drop (suc m) t) (λ b. p b ≡ false) = subst (λ (j : ℕ). AtHead (drop j t) (λ b. p b ≡ false)) (sym is) (after_prefix p t) in
    let one : drop m t ≡ get_or t m 0 ∷ drop (m + 1) t = drop_more t m 0 (omega arith) in
    let two : drop (suc m) t ≡ get_or t (suc m) 0 ∷ drop (suc m + 1) t = drop_more t (suc m) 0 (omega arith) in
    let slash : get_or t m 0 ≡ 92 = ap (λ (j : ℕ). get_or (x ∷ y ∷ t) j 0) (let e : suc (suc m) ≡ suc m + 1 = omega arith in e) ∙ last in
    let feed : get_or t (suc m) 0 ≡ 10 = eqb-true (get_or t (suc m) 0) 10 (not-false (eqb (get_or t (suc m) 0) 10) (subst (λ (w : Text). AtHead w (λ b. p b ≡ false)) two heads)) in
    let next : drop (m + 1) t ≡ drop (suc m) t = ap (λ (j : ℕ). drop j t) (let e : m + 1 ≡ suc m = omega arith in e) in
    let rest = drop (suc m + 1) t in
    let tail : drop m t ≡ 92 ∷ 10 ∷ rest = one ∙ (λ i. slash i ∷ (next ∙ two ∙ ap (λ (c : ℕ). c ∷ rest) feed) i) in
    let split : t ≡ take m t ++ 92 ∷ 10 ∷ rest = sym (take-append-drop m t) ∙ ap (λ (w : Text). take m t ++ w) tail in
    let whole : 47 ∷ 47 ∷ (take m t ++ 92 ∷ 10 ∷ rest) ≡ x ∷ y ∷ t = λ i. (sym slashes.0) i ∷ (sym slashes.1) i ∷ (sym split) i in
    let place : at + 2 + length (take m t) ≡ at + (suc m + 1) = omega (arith, length-take-le m t (omega arith)) in
    subst (λ (w : Text). Stuck at fresh count w (fault.BadByte (at + (suc m + 1)))) whole (subst (λ (j : ℕ). Stuck at fresh count (47 ∷ 47 ∷ (take m t ++ 92 ∷ 10 ∷ rest)) (fault.BadByte j)) place (Stuck.spliced (take m t) rest (shorter p m t all)))
  where
    shorter : (p : ℕ → Bool) (m : ℕ) (t : Text) → list_all p (take (suc m) t) ≡ true → list_all p (take m t) ≡ true
    shorter p zero t h = refl
    shorter p (suc m) [] h = refl
    shorter p (suc m) (x ∷ t) h = let c = and_parts (p x) (list_all p (take (suc m) t)) h in and_from (p x) (list_all p (take m t)) c.0 (shorter p m t c.1)

-- ---- formats

pub format_is : (s w : Text) (n i : ℕ) → take n s ≡ w → n ≤ length s → 0 < n → kind_of w ≡ Some (k.Format i) → ((b : ℕ) → continues w b ≡ false) → WordIs (k.Format i) n s
format_is s w n i is le some kind ends = record {
  some = some;
  within = le;
  piece = (ap kind_of is ∙ kind, at_head (drop n s) (λ (b : ℕ). ap (λ (v : Text). continues v b) is ∙ ends b));
}
  where
    at_head : (x : Text) → ((b : ℕ) → continues (take n s) b ≡ false) → AtHead x (λ b. continues (take n s) b ≡ false)
    at_head [] h = tt
    at_head (b ∷ x) h = h b

abbrev plain_text : Text
plain_text = 34 ∷ 37 ∷ 100 ∷ 34 ∷ []

abbrev line_text : Text
line_text = 34 ∷ 37 ∷ 100 ∷ 92 ∷ 110 ∷ 34 ∷ []

abbrev space_text : Text
space_text = 34 ∷ 37 ∷ 100 ∷ 32 ∷ 34 ∷ []

pub format_plain : (s : Text) → 4 ≤ length s → same plain_text (take 4 s) ≡ true → WordIs (k.Format 0) 4 s
unfolding format_of mark_of
format_plain s le h = format_is s plain_text 4 0 (sym (same_true plain_text (take 4 s) h)) le (omega arith) refl (λ b. refl)

pub format_line : (s : Text) → 6 ≤ length s → same line_text (take 6 s) ≡ true → WordIs (k.Format 1) 6 s
unfolding format_of mark_of
format_line s le h = format_is s line_text 6 1 (sym (same_true line_text (take 6 s) h)) le (omega arith) refl (λ b. refl)

pub format_space : (s : Text) → 5 ≤ length s → same space_text (take 5 s) ≡ true → WordIs (k.Format 2) 5 s
unfolding format_of mark_of
format_space s le h = format_is s space_text 5 2 (sym (same_true space_text (take 5 s) h)) le (omega arith) refl (λ b. refl)

pub take_front : (u r : Text) → take (length u) (u ++ r) ≡ u
take_front [] r = refl
take_front (x ∷ u) r = ap (λ (w : Text). x ∷ w) (take_front u r)

same_refl : (w : Text) → same w w ≡ true
same_refl [] = refl
same_refl (x ∷ w) = and_from (eqb x x) (same w w) (eq-eqb x x refl) (same_refl w)

-- a text that isn't at the front at its own length is no front
not_front : (s w : Text) (j : ℕ) → j ≡ length w → (j ≤ length s → same w (take j s) ≡ false) → (n : ℕ) → same w (take n s) ≡ false
not_front s w j is off n = ⊎_elim
    (λ (h : same w (take n s) ≡ true).
    let front : s ≡ w ++ drop n s = sym (take-append-drop n s) ∙ ap (λ (v : Text). v ++ drop n s) (sym (same_true w (take n s) h)) in
    let here : take j s ≡ w = ap (λ (m : ℕ). take m s) is ∙ ap (λ (v : Text). take (length w) v) front ∙ take_front w (drop n s) in
    let le : j ≤ length s = omega (arith, length-append w (drop n s), ap length front) in
    absurd (false≢true (sym (off le) ∙ ap (same w) here ∙ same_refl w)))
    (λ (h : same w (take n s) ≡ false). h)
    (cases_Bool (same w (take n s)))

pub no_format_at : (s : Text) → (4 ≤ length s → same plain_text (take 4 s) ≡ false) → (6 ≤ length s → same line_text (take 6 s) ≡ false) → (5 ≤ length s → same space_text (take 5 s) ≡ false) → (n : ℕ) → format_of (take n s) ≡ None
unfolding format_of
no_format_at s a b c n = rw (not_front s plain_text 4 refl a n) (rw (not_front s line_text 6 refl b n) (rw (not_front s space_text 5 refl c n) refl))
