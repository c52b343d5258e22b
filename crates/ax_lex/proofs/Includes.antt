-- `#include <..>` at the front.
use Rattle.std.proofs.Common.{◌≡◌, ◌≤◌, ◌<◌, ℕ, ◌+◌, Bool, true, false, not, ◌||◌, eqb, [], ◌∷◌, ◌++◌, length, take, drop, get_or, refl, sym, ap, ◌∙◌, subst, arith, length-take-le, length-append, append-nil}
use Rattle.std.specs.List.{list_all, prefix_len}
use Rattle.std.proofs.lemmas.Bool.{false≢true}
use Rattle.std.proofs.lemmas.List.Sums.{prefix_len-le-length}
use Rattle.std.proofs.lemmas.List.{take-append-drop, append_cancel_left}
use Rattle.ax_lex.specs.Bytes.{Text, is_blank, same, AtHead}
use Rattle.ax_lex.specs.Pieces.{include, text_of, IsPiece}
use Rattle.ax_lex.specs.Fronts.{LayoutIs}
use Rattle.ax_lex.specs.Faults.{NoInclude}
use Rattle.ax_lex.proofs.Texts.{list_all_prefix, after_prefix}
use Rattle.ax_lex.proofs.Lookups.{same_true}
use Rattle.ax_lex.proofs.Comments.{take_front}
use Rattle.ax_lex.proofs.Unique.{span_one, include_flat}

abbrev pub path_byte : ℕ → Bool
path_byte c = not (eqb c 62 || eqb c 10)

abbrev pub word_text : Text
word_text = 105 ∷ 110 ∷ 99 ∷ 108 ∷ 117 ∷ 100 ∷ 101 ∷ []

-- a run and what follows it
split_run : (p : ℕ → Bool) (t : Text) (n : ℕ) → n ≡ prefix_len p t → (t ≡ take n t ++ drop n t) × (list_all p (take n t) ≡ true) × AtHead (drop n t) (λ b. p b ≡ false)
split_run p t n is = (sym (take-append-drop n t), subst (λ (j : ℕ). list_all p (take j t) ≡ true) (sym is) (list_all_prefix p t), subst (λ (j : ℕ). AtHead (drop j t) (λ b. p b ≡ false)) (sym is) (after_prefix p t))

-- the run is the only one
run_one : (p : ℕ → Bool) (t u x : Text) (n : ℕ) → n ≡ prefix_len p t → t ≡ u ++ x → list_all p u ≡ true → AtHead x (λ b. p b ≡ false) → drop n t ≡ x
run_one p t u x n is split all ends =
    let r = split_run p t n is in
    let same_run : take n t ≡ u = span_one p (take n t) u (drop n t) x r.1 all r.2 ends (sym r.0 ∙ split) in
    append_cancel_left (take n t) (drop n t) x (sym r.0 ∙ split ∙ ap (λ (w : Text). w ++ x) (sym same_run))

module _ (fresh : Bool) (s after word : Text) (a : ℕ) (after_is : after ≡ drop 1 s) (a_is : a ≡ prefix_len is_blank after) (word_is : word ≡ drop a after) where
  -- where an include stands, the word comes after the blanks
  word_follows : (p q n r : Text) → s ≡ text_of (include p q n) ++ r → IsPiece fresh (include p q n) r → word ≡ word_text ++ (q ++ (60 ∷ (n ++ (62 ∷ r))))
  word_follows p q n r is piece =
      let tail : after ≡ p ++ (word_text ++ (q ++ (60 ∷ (n ++ (62 ∷ r))))) = after_is ∙ ap (drop 1) (is ∙ include_flat p q n r) in
      word_is ∙ run_one is_blank after p (word_text ++ (q ++ (60 ∷ (n ++ (62 ∷ r))))) a a_is tail piece.1 refl

  pub no_word : (7 ≤ length word → same word_text (take 7 word) ≡ false) → NoInclude fresh s
  no_word off p q n r is piece =
      let w = word_follows p q n r is piece in
      false≢true (sym (off (omega (arith, ap length w, length-append word_text (q ++ (60 ∷ (n ++ (62 ∷ r))))))) ∙ ap (λ (v : Text). same word_text (take 7 v)) w)

  module _ (rest angle : Text) (b : ℕ) (rest_is : rest ≡ drop 7 word) (b_is : b ≡ prefix_len is_blank rest) (angle_is : angle ≡ drop b rest) where
    path_follows : (p q n r : Text) → s ≡ text_of (include p q n) ++ r → IsPiece fresh (include p q n) r → angle ≡ 60 ∷ (n ++ (62 ∷ r))
    path_follows p q n r is piece =
        let tail : rest ≡ q ++ (60 ∷ (n ++ (62 ∷ r))) = rest_is ∙ ap (drop 7) (word_follows p q n r is piece) in
        angle_is ∙ run_one is_blank rest q (60 ∷ (n ++ (62 ∷ r))) b b_is tail piece.2 refl

    pub no_angle : (0 < length angle → get_or angle 0 0 ≡ 60 → ⊥) → NoInclude fresh s
    no_angle off p q n r is piece = let w = path_follows p q n r is piece in off (omega (arith, ap length w)) (ap (λ (v : Text). get_or v 0 0) w)

    module _ (path close : Text) (m : ℕ) (path_is : path ≡ drop 1 angle) (m_is : m ≡ prefix_len path_byte path) (close_is : close ≡ drop m path) where
      pub no_close : (0 < length close → get_or close 0 0 ≡ 62 → ⊥) → NoInclude fresh s
      no_close off p q n r is piece =
          let tail : path ≡ n ++ (62 ∷ r) = path_is ∙ ap (drop 1) (path_follows p q n r is piece) in
          let w : close ≡ 62 ∷ r = close_is ∙ run_one path_byte path n (62 ∷ r) m m_is tail piece.3 refl in
          off (omega (arith, ap length w)) (ap (λ (v : Text). get_or v 0 0) w)

      pub include_found : fresh ≡ true → 0 < length s → get_or s 0 0 ≡ 35 → same word_text (take 7 word) ≡ true → 0 < length angle → get_or angle 0 0 ≡ 60 → 0 < length close → get_or close 0 0 ≡ 62 → (k : ℕ) → k ≡ a + b + m + 10 → LayoutIs fresh k false s
      include_found is_fresh some hash word_same angle_some angle_first close_some close_first k count =
          let u = split_run is_blank after a a_is in
          let v = split_run is_blank rest b b_is in
          let w = split_run path_byte path m m_is in
          let p = include (take a after) (take b rest) (take m path) in
          let r = drop 1 close in
          let one : close ≡ 62 ∷ r = first_rest close 62 close_some close_first in
          let two : path ≡ take m path ++ 62 ∷ r = w.0 ∙ ap (λ (x : Text). take m path ++ x) (sym close_is ∙ one) in
          let three : angle ≡ 60 ∷ (take m path ++ 62 ∷ r) = first_rest angle 60 angle_some angle_first ∙ ap (λ (x : Text). 60 ∷ x) (sym path_is ∙ two) in
          let four : rest ≡ take b rest ++ (60 ∷ (take m path ++ 62 ∷ r)) = v.0 ∙ ap (λ (x : Text). take b rest ++ x) (sym angle_is ∙ three) in
          let five : word ≡ word_text ++ (take b rest ++ (60 ∷ (take m path ++ 62 ∷ r))) = sym (take-append-drop 7 word) ∙ ap (λ (x : Text). x ++ drop 7 word) (sym (same_true word_text (take 7 word) word_same)) ∙ ap (λ (x : Text). word_text ++ x) (sym rest_is ∙ four) in
          let six : after ≡ take a after ++ (word_text ++ (take b rest ++ (60 ∷ (take m path ++ 62 ∷ r)))) = u.0 ∙ ap (λ (x : Text). take a after ++ x) (sym word_is ∙ five) in
          let all : s ≡ text_of p ++ r = first_rest s 35 some hash ∙ ap (λ (x : Text). 35 ∷ x) (sym after_is ∙ six) ∙ sym (include_flat (take a after) (take b rest) (take m path) r) in
          let la : length (take a after) ≡ a = length-take-le a after (omega (arith, prefix_len-le-length is_blank after)) in
          let lb : length (take b rest) ≡ b = length-take-le b rest (omega (arith, prefix_len-le-length is_blank rest)) in
          let lm : length (take m path) ≡ m = length-take-le m path (omega (arith, prefix_len-le-length path_byte path)) in
          let size : length (text_of p) ≡ k = include_size (take a after) (take b rest) (take m path) ∙ (let e : length (take a after) + length (take b rest) + length (take m path) + 10 ≡ k = omega arith in e) in
          record {
            p = p;
            some = omega arith;
            within = omega (arith, ap length all, length-append (text_of p) r);
            text = sym (take_front (text_of p) r) ∙ ap (λ (x : Text). take (length (text_of p)) x) (sym all) ∙ ap (λ (j : ℕ). take j s) size;
            piece = (is_fresh, u.1, v.1, w.1);
            silent = λ at. refl;
            goes = refl;
          }
        where
          first_rest : (x : Text) (c : ℕ) → 0 < length x → get_or x 0 0 ≡ c → x ≡ c ∷ drop 1 x
          first_rest [] c some is = absurd (omega arith)
          first_rest (d ∷ x) c some is = ap (λ (j : ℕ). j ∷ x) is

          include_size : (a b n : Text) → length (text_of (include a b n)) ≡ length a + length b + length n + 10
          include_size a b n = ap length (sym (append-nil (text_of (include a b n))) ∙ include_flat a b n []) ∙ omega (arith, length-append a (word_text ++ (b ++ (60 ∷ (n ++ (62 ∷ []))))), length-append b (60 ∷ (n ++ (62 ∷ []))), length-append n (62 ∷ []))

pub not_fresh : (fresh : Bool) (s : Text) → fresh ≡ false → NoInclude fresh s
not_fresh fresh s off p q n r is piece = false≢true (sym off ∙ piece.0)

pub no_hash : (fresh : Bool) (s : Text) → (get_or s 0 0 ≡ 35 → ⊥) → NoInclude fresh s
no_hash fresh s off p q n r is piece = off (ap (λ (w : Text). get_or w 0 0) is)
