-- Moved words, and the stages of a shift.
use Rattle.std.proofs.Common.{◌≡◌, ℕ, zero, suc, ◌+◌, ◌*◌, ◌-◌, ◌^◌, ◌≤◌, ◌<◌, Bool, true, false, List, [], ◌∷◌, ◌++◌, length, take, drop, replicate, refl, ap, sym, ◌∙◌, arith}
use Rattle.std.proofs.lemmas.List.{length-replicate, length-take-le, length-drop, take_all}
use Rattle.std.proofs.Common.{length-append, append_assoc}
use Rattle.std.proofs.Math.Seq.{take-append-add, drop-cons}
use Rattle.std.proofs.Math.ListN.{get_or}
use Rattle.std.proofs.Math.Nat.{pow-succ'}
use Rattle.ax_proof.specs.Literal.{Literal}
use Rattle.ax_gates.specs.Gates.{choose, next, blocks}
use Rattle.ax_gates.specs.Words.{fresh, pick_gates}
use Rattle.ax_gates.proofs.Circuits.{WithinVars, Wired, Wired-append, blocks-append, within_more, within_take, within_append, fresh_within, length-fresh}
use Rattle.ax_gates.proofs.WordLaws.{length-pairwise, pick_wired}
use Rattle.ax_gates_shifter.specs.Shifter.{moved_word, shift_gates, shift_outs}

pub moved_length : (right : Bool) (d : Literal) (s : ℕ) (a : List Literal) → length (moved_word right d s a) ≡ length a
moved_length true d s a = length-take-le (length a) (drop s a ++ replicate s d) (let h = length-append (drop s a) (replicate s d) in let g = length-drop s a in let r = length-replicate s d in omega arith)
moved_length false d s a = length-take-le (length a) (replicate s d ++ a) (let h = length-append (replicate s d) a in omega arith)

-- a word without its bits from a place on, and the filling
pub moved_right_is : (d : Literal) (s : ℕ) (a : List Literal) → s ≤ length a → take (length a - s) (drop s a) ++ replicate s d ≡ moved_word true d s a
moved_right_is d s a h =
    let g = length-drop s a in
    let r = length-replicate s d in
    let j = length-append (drop s a) (replicate s d) in
    ap (λ (b : List Literal). b ++ replicate s d) (take_all (length a - s) (drop s a) (omega arith))
    ∙ sym (take_all (length a) (drop s a ++ replicate s d) (omega arith))

pub moved_left_is : (d : Literal) (s : ℕ) (a : List Literal) → s ≤ length a → replicate s d ++ take (length a - s) a ≡ moved_word false d s a
moved_left_is d s a h =
    let r = length-replicate s d in
    let e : length (replicate s d) + (length a - s) ≡ length a = omega arith in
    sym (take-append-add (replicate s d) a (length a - s)) ∙ ap (λ (k : ℕ). take k (replicate s d ++ a)) e

pub fresh_as : (n : ℕ) (a b : List Literal) → length a ≡ length b → fresh n a ≡ fresh n b
fresh_as n [] [] e = refl
fresh_as n [] (y ∷ b) e = absurd (omega arith)
fresh_as n (x ∷ a) [] e = absurd (omega arith)
fresh_as n (x ∷ a) (y ∷ b) e = ap (λ (z : List Literal). next n ∷ z) (fresh_as (n + 1) a b (omega arith))

pub moved_fresh : (right : Bool) (d : Literal) (s n : ℕ) (a : List Literal) → fresh n (moved_word right d s a) ≡ fresh n a
moved_fresh right d s n a = fresh_as n (moved_word right d s a) a (moved_length right d s a)

pub length-stage : (right : Bool) (d k : Literal) (s : ℕ) (a : List Literal) → length (pick_gates k (moved_word right d s a) a) ≡ length a
length-stage right d k s a = let m = moved_length right d s a in let p = length-pairwise (choose k) (moved_word right d s a) a m in omega arith

stage_blocks : (right : Bool) (d : Literal) (n : ℕ) (a : List Literal) (k : Literal) (ks : List Literal) (s : ℕ)
    → blocks n (shift_gates right d n a (k ∷ ks) s) ≡ blocks n (pick_gates k (moved_word right d s a) a) ++ blocks (n + length a) (shift_gates right d (n + length a) (fresh n a) ks (s * 2))
stage_blocks right d n a k ks s =
    let l = length-stage right d k s a in
    blocks-append n (n + length a) (pick_gates k (moved_word right d s a) a) (shift_gates right d (n + length a) (fresh n a) ks (s * 2)) (omega arith)

pub drop_next : (xs : List Literal) (i : ℕ) (k : Literal) → i < length xs → k ≡ get_or xs i k → drop i xs ≡ k ∷ drop (i + 1) xs
drop_next xs i k l e =
    let q : suc i ≡ i + 1 = omega arith in
    drop-cons xs i k l ∙ (ap (λ (z : Literal). z ∷ drop (suc i) xs) (sym e) ∙ ap (λ (j : ℕ). k ∷ drop j xs) q)

-- one more stage: its clauses
pub stage_step : (whole mid new : List (List Literal)) (right : Bool) (d : Literal) (n m : ℕ) (a bits : List Literal) (k : Literal) (all rest : List Literal) (s : ℕ) → all ≡ k ∷ rest
    → mid ++ blocks n (shift_gates right d n a all s) ≡ whole
    → new ≡ mid ++ blocks n (pick_gates k (moved_word right d s a) a) → bits ≡ fresh n a → m ≡ n + length a
    → new ++ blocks m (shift_gates right d m bits rest (s * 2)) ≡ whole
stage_step whole mid new right d n m a bits k all rest s c i e f g =
    ap (λ (cs : List (List Literal)). cs ++ blocks m (shift_gates right d m bits rest (s * 2))) e
    ∙ (ap (λ (ls : List Literal). (mid ++ blocks n (pick_gates k (moved_word right d s a) a)) ++ blocks m (shift_gates right d m ls rest (s * 2))) f
    ∙ (ap (λ (z : ℕ). (mid ++ blocks n (pick_gates k (moved_word right d s a) a)) ++ blocks z (shift_gates right d z (fresh n a) rest (s * 2))) g
    ∙ (append_assoc mid (blocks n (pick_gates k (moved_word right d s a) a)) (blocks (n + length a) (shift_gates right d (n + length a) (fresh n a) rest (s * 2)))
    ∙ (ap (λ (cs : List (List Literal)). mid ++ cs) (sym (stage_blocks right d n a k rest s))
    ∙ (ap (λ (ls : List Literal). mid ++ blocks n (shift_gates right d n a ls s)) (sym c) ∙ i)))))

-- one more stage: its word
pub outs_step : (whole : List Literal) (n m : ℕ) (a bits : List Literal) (k : Literal) (all rest : List Literal) → all ≡ k ∷ rest → shift_outs n a all ≡ whole → bits ≡ fresh n a → m ≡ n + length a → shift_outs m bits rest ≡ whole
outs_step whole n m a bits k all rest c i f g =
    ap (λ (ls : List Literal). shift_outs m ls rest) f
    ∙ (ap (λ (z : ℕ). shift_outs z (fresh n a) rest) g
    ∙ (ap (λ (ls : List Literal). shift_outs n a ls) (sym c) ∙ i))

pub vars_step : (m n first width i : ℕ) → m ≡ n + width → width ≡ 32 → n ≡ first + 32 * i → m ≡ first + 32 * (i + 1)
vars_step m n first width i a e b = omega arith

pub width_step : (n : ℕ) (a bits : List Literal) → bits ≡ fresh n a → length a ≡ 32 → length bits ≡ 32
width_step n a bits f l = ap length f ∙ (length-fresh n a ∙ l)

pub places_step : (s i : ℕ) → s ≡ 2 ^ i → s * 2 ≡ 2 ^ (i + 1)
places_step s i e = let p : 2 ^ suc i ≡ 2 * 2 ^ i = pow-succ' 2 i in let q : i + 1 ≡ suc i = omega arith in rw q (omega arith)

pub power_small : (i : ℕ) → i < 5 → 2 ^ i ≤ 16
power_small zero h = omega arith
power_small (suc zero) h = omega arith
power_small (suc (suc zero)) h = omega arith
power_small (suc (suc (suc zero))) h = omega arith
power_small (suc (suc (suc (suc zero)))) h = omega arith
power_small (suc (suc (suc (suc (suc i))))) h = absurd (omega arith)

-- what the stages read
within_replicate : (n s : ℕ) (d : Literal) → d.var ≤ n → WithinVars n (replicate s d)
within_replicate n zero d h = tt
within_replicate n (suc s) d h = (h, within_replicate n s d h)

within_drop : (n s : ℕ) (a : List Literal) → WithinVars n a → WithinVars n (drop s a)
within_drop n zero a h = h
within_drop n (suc s) [] h = tt
within_drop n (suc s) (x ∷ a) h = within_drop n s a h.1

within_moved : (n : ℕ) (right : Bool) (d : Literal) (s : ℕ) (a : List Literal) → d.var ≤ n → WithinVars n a → WithinVars n (moved_word right d s a)
within_moved n true d s a wd wa = within_take n (length a) (drop s a ++ replicate s d) (within_append n (drop s a) (replicate s d) (within_drop n s a wa) (within_replicate n s d wd))
within_moved n false d s a wd wa = within_take n (length a) (replicate s d ++ a) (within_append n (replicate s d) a (within_replicate n s d wd) wa)

pub shift_wired : (right : Bool) (d : Literal) (n : ℕ) (a ks : List Literal) (s : ℕ) → d.var ≤ n → WithinVars n a → WithinVars n ks → Wired n (shift_gates right d n a ks s)
shift_wired right d n a [] s wd wa wk = tt
shift_wired right d n a (k ∷ ks) s wd wa wk =
    let l = length-stage right d k s a in
    Wired-append n (n + length a) (pick_gates k (moved_word right d s a) a) (shift_gates right d (n + length a) (fresh n a) ks (s * 2)) (omega arith)
    (pick_wired n k (moved_word right d s a) a wk.0 (within_moved n right d s a wd wa) wa)
    (shift_wired right d (n + length a) (fresh n a) ks (s * 2) (omega arith) (fresh_within n (n + length a) a (omega arith)) (within_more n (n + length a) ks (omega arith) wk.1))
