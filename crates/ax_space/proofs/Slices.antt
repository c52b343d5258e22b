-- A list by its first element and the rest, as a walk over a slice sees it.
use Rattle.std.proofs.Common.{◌≡◌, ℕ, suc, ◌+◌, ◌-◌, ◌*◌, ◌<◌, ◌≤◌, List, [], ◌∷◌, refl, sym, ap, subst, length, take, drop, get_or, arith, pos, ℤ, nat_abs, negsuc, int_le, true}
use Rattle.std.specs.List.{All}
use Rattle.std.proofs.lemmas.List.{get_or_default}
use Rattle.ax_prog.specs.declared.Expr.{Expr}
use Rattle.ax_prog.specs.declared.Slot.{Slot}
use Rattle.ax_prog.specs.Nodes.{nodes}
use Rattle.ax_space_trees.specs.Space.{Changes}
use Rattle.ax_space_trees.specs.Sizes.{words}
use Rattle.ax_space_trees.proofs.Members.{take-whole}
use Rattle.ax_space.specs.Sums.{SumOfChanges, no_trees, one_more, AreSmall, total_room}

abbrev pub tail_of : {X : Type 0} → List X → List X
tail_of xs = take (length xs - 1) (drop 1 xs)

pub tail-is : {X : Type 0} (xs : List X) (x : X) → 1 ≤ length xs → x ≡ get_or xs 0 x → xs ≡ x ∷ tail_of xs
tail-is [] x h is = absurd (omega arith)
tail-is (y ∷ ys) x h is =
    let n : length (y ∷ ys) - 1 ≡ length ys = omega arith in
    rw n (rw (take-whole ys (length ys) (omega arith)) (ap (λ z. z ∷ ys) (sym is)))

pub tail-length : {X : Type 0} (xs : List X) (x : X) → 1 ≤ length xs → x ≡ get_or xs 0 x → suc (length (tail_of xs)) ≡ length xs
tail-length xs x h is = sym (ap length (tail-is xs x h is))

pub head-is : {X : Type 0} (xs : List X) (d : X) → 1 ≤ length xs → get_or xs 0 d ≡ get_or xs 0 (get_or xs 0 d)
head-is xs d h = get_or_default xs 0 d (get_or xs 0 d) (omega arith)

pub item-is : {X : Type 0} (xs : List X) (i : ℕ) (d : X) → i < length xs → get_or xs i d ≡ get_or xs i (get_or xs i d)
item-is xs i d h = get_or_default xs i d (get_or xs i d) h

pub empty-is : {X : Type 0} (xs : List X) → length xs < 1 → xs ≡ []
empty-is [] h = refl
empty-is (x ∷ xs) h = absurd (omega arith)

-- sums
no-slots : (slots : List Slot) (trees : List Expr) → slots ≡ [] → AreSmall slots trees → SumOfChanges slots trees 0
no-slots [] [] e h = no_trees
no-slots [] (tree ∷ trees) e h = absurd h
no-slots (slot ∷ slots) trees e h = absurd (cc)

pub sum-empty : (slots : List Slot) (trees : List Expr) → length slots < 1 → AreSmall slots trees → SumOfChanges slots trees 0
sum-empty slots trees h small = no-slots slots trees (empty-is slots h) small

pub sum-step : (slots : List Slot) (trees : List Expr) (slot : Slot) (tree : Expr) (i j : ℕ) → 1 ≤ length slots → 1 ≤ length trees → slot ≡ get_or slots 0 slot → tree ≡ get_or trees 0 tree → Changes slot.expr tree i → SumOfChanges (tail_of slots) (tail_of trees) j → SumOfChanges slots trees (i + j)
sum-step slots trees slot tree i j h k is it d c =
    subst (λ z. SumOfChanges z trees (i + j)) (sym (tail-is slots slot h is))
    (subst (λ z. SumOfChanges (slot ∷ tail_of slots) z (i + j)) (sym (tail-is trees tree k it)) (one_more d c))

pub small-parts : (slots : List Slot) (trees : List Expr) (slot : Slot) (tree : Expr) → 1 ≤ length slots → 1 ≤ length trees → slot ≡ get_or slots 0 slot → tree ≡ get_or trees 0 tree → AreSmall slots trees → AreSmall (slot ∷ tail_of slots) (tree ∷ tail_of trees)
small-parts slots trees slot tree h k is it s =
    subst (λ z. AreSmall (slot ∷ tail_of slots) z) (tail-is trees tree k it) (subst (λ z. AreSmall z trees) (tail-is slots slot h is) s)

pub all-parts : {X : Type 0} (P : X → Type 0) (xs : List X) (x : X) → 1 ≤ length xs → x ≡ get_or xs 0 x → All P xs → All P (x ∷ tail_of xs)
all-parts P xs x h is a = subst (All P) (tail-is xs x h is) a

pub room-step : (grow : ℕ) (slots : List Slot) (slot : Slot) → 1 ≤ length slots → slot ≡ get_or slots 0 slot → total_room grow slots ≡ nodes slot.expr * words grow + total_room grow (tail_of slots)
room-step grow slots slot h is = ap (total_room grow) (tail-is slots slot h is)

pub abs-is : (limit : ℤ) → int_le (pos 0) limit ≡ true → pos (nat_abs limit) ≡ limit
abs-is (pos m) h = refl
abs-is (negsuc m) h = absurd (cc)
