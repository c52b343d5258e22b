-- How the words go on behind a word, a space or a comment.
use Rattle.std.proofs.Common.{◌≡◌, ◌≤◌, ◌+◌, ◌==◌, ◌∙◌, ◌&&◌, ℕ, Bool, true, false, List, [], ◌∷◌, length, drop, take, refl, ap, arith, not, slice_index, length-drop}
use Rattle.std.specs.List.{prefix_len}
use Rattle.ax_dimacs.specs.Words.{Place, Between, Comment, Within, is_in_line, is_inside, is_space, is_word_start, place, words}

feed-is-space : (b : ℕ) → (b == 10) ≡ true → is_space b ≡ true
feed-is-space b e = grind arith

zero-more : (n : ℕ) → n + 0 ≡ n
zero-more n = omega arith

one-more : (n m : ℕ) → n + 1 + m ≡ n + (1 + m)
one-more n m = omega arith

drop-next : (n b : ℕ) (s : List ℕ) → drop n s ≡ drop (1 + n) (b ∷ s)
drop-next n b s = grind arith

-- one byte more, in the same word or comment
moved : (p : Place) (at n b : ℕ) (s : List ℕ) → words p (at + 1) s ≡ words Between (at + 1 + n) (drop n s) → words p (at + 1) s ≡ words Between (at + (1 + n)) (drop (1 + n) (b ∷ s))
moved p at n b s same = same ∙ ap (λ m. words Between m (drop n s)) (one-more at n) ∙ ap (λ t. words Between (at + (1 + n)) t) (drop-next n b s)

comment-step : (t : Bool) (at b : ℕ) (s : List ℕ) → (b == 10) ≡ t → words Comment (at + 1) s ≡ words Between (at + 1 + prefix_len is_in_line s) (drop (prefix_len is_in_line s) s)
    → words Comment at (b ∷ s) ≡ words Between (at + prefix_len is_in_line (b ∷ s)) (drop (prefix_len is_in_line (b ∷ s)) (b ∷ s))
comment-step true at b s e more = rw (e, zero-more at, feed-is-space b e, e) refl
comment-step false at b s e more =
    rw e (moved Comment at (prefix_len is_in_line s) b s more)

-- behind a comment the words go on with the end of its line
pub comment-words : (at : ℕ) (s : List ℕ) → words Comment at s ≡ words Between (at + prefix_len is_in_line s) (drop (prefix_len is_in_line s) s)
comment-words at [] = refl
comment-words at (b ∷ s) = comment-step (b == 10) at b s refl (comment-words (at + 1) s)

within-step : (t : Bool) (at b : ℕ) (s : List ℕ) → is_space b ≡ t → words Within (at + 1) s ≡ words Between (at + 1 + prefix_len is_inside s) (drop (prefix_len is_inside s) s)
    → words Within at (b ∷ s) ≡ words Between (at + prefix_len is_inside (b ∷ s)) (drop (prefix_len is_inside (b ∷ s)) (b ∷ s))
within-step true at b s e more = rw (e, zero-more at, e) refl
within-step false at b s e more =
    rw e (moved Within at (prefix_len is_inside s) b s more)

-- behind a word they go on with the space
pub within-words : (at : ℕ) (s : List ℕ) → words Within at s ≡ words Between (at + prefix_len is_inside s) (drop (prefix_len is_inside s) s)
within-words at [] = refl
within-words at (b ∷ s) = within-step (is_space b) at b s refl (within-words (at + 1) s)

-- a line that begins with `c` is a comment
pub comment-line : (fresh : Bool) (at : ℕ) (s : List ℕ) → fresh ≡ true → 1 ≤ length s → slice_index s 0 ≡ 99
    → words (place fresh) at s ≡ words Between (at + prefix_len is_in_line s) (drop (prefix_len is_in_line s) s)
comment-line fresh at [] is some first = absurd (omega arith)
comment-line fresh at (b ∷ s) is some first =
    rw (is, first) (moved Comment at (prefix_len is_in_line s) 99 s (comment-words (at + 1) s))

-- the end of the file stays where it is
pub end-kept : (at n : ℕ) (s : List ℕ) → n ≤ length s → at + n + length (drop n s) ≡ at + length s
end-kept at n s le = grind (arith, length-drop)

-- behind the first byte of a word the words go on behind the word
behind-first : (at b : ℕ) (s : List ℕ) → is_inside b ≡ true → words Within (at + 1) s ≡ words Between (at + prefix_len is_inside (b ∷ s)) (drop (prefix_len is_inside (b ∷ s)) (b ∷ s))
behind-first at b s e = rw e (moved Within at (prefix_len is_inside s) b s (within-words (at + 1) s))

next-start : (t u v : Bool) (at b : ℕ) (s : List ℕ) → is_space b ≡ t → (b == 99) ≡ u → not t && not (v && u) ≡ true
    → words (place v) at (b ∷ s) ≡ record { at = at; text = take (prefix_len is_inside (b ∷ s)) (b ∷ s) } ∷ words Within (at + 1) s
next-start true u v at b s e f is = absurd (grind arith)
next-start false true true at b s e f is = absurd (grind arith)
next-start false false true at b s e f is = rw (f, e) refl
next-start false u false at b s e f is = rw e refl

-- the next word, and the words behind it
pub next-word : (fresh : Bool) (at : ℕ) (s : List ℕ) → is_word_start fresh s ≡ true → 1 ≤ length s
    → words (place fresh) at s ≡ record { at = at; text = take (prefix_len is_inside s) s } ∷ words Between (at + prefix_len is_inside s) (drop (prefix_len is_inside s) s)
next-word fresh at [] is some = absurd (omega arith)
next-word fresh at (b ∷ s) is some =
    let start = next-start (is_space b) (b == 99) fresh at b s refl refl is in
    let inside : is_inside b ≡ true = grind arith in
    start ∙ ap (λ ws. record { at = at; text = take (prefix_len is_inside (b ∷ s)) (b ∷ s) } ∷ ws) (behind-first at b s inside)
