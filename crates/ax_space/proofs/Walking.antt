-- Walks along words end inside exactly at positions, and the words of one length after the other are all of them.
use Rattle.std.proofs.Common.{◌≡◌, ◌⊎◌, ℕ, zero, suc, ◌+◌, ◌<◌, ◌≤◌, true, false, List, [], ◌∷◌, ◌++◌, refl, sym, ◌∙◌, ap, subst, length, get_or, arith, Option, Some, None, length-append}
use Rattle.std.specs.List.{Contains, filter}
use Rattle.std.proofs.lemmas.List.Elements.{Contains-append_left, Contains-append_right, Contains-append_cases}
use mathlib.Core.Logic.{inl, inr}
use Rattle.ax_prog.specs.declared.Expr.{Expr}
use Rattle.ax_prog.specs.Nodes.{nodes, operands}
use Rattle.ax_prog.proofs.Trees.{expr-cases, operands-Atom, operands-Un, operands-Bin, operands-Cond, nodes-Atom, nodes-Un, nodes-Bin, nodes-Cond}
use Rattle.ax_space_trees.specs.Positions.{nth, operand, at_position}
use Rattle.ax_space_trees.specs.Space.{IsPosition}
use Rattle.ax_space_trees.specs.Region.{Spot, Out, In, fresh, child_from, child}
use Rattle.ax_space_trees.proofs.Members.{nothing, here, there, only, which, flat-has, flat-from, filter-has, filter-from, Apart, Apart-append, Apart-flat, Apart-filter}
use Rattle.ax_space_trees.proofs.Regions.{at-none, not_none}
use Rattle.ax_space.specs.Positions.{ByDigits, Precedes}
use Rattle.ax_space.specs.Walks.{reached, is_in, stays, has_word, longer_words, next_level, level, shorter}

abbrev IsIn : Spot → Type 0
IsIn spot = is_in spot ≡ true

outside : is_in Out ≡ true → ⊥
outside h = cc

-- words of positions
abbrev Short : ℕ → List ℕ → Type 0
Short r w = ((k : ℕ) → Contains w k → (k ≡ 1) ⊎ (k ≡ 2)) × (length w ≤ r)

out-walk : (g : ℕ) (w : List ℕ) → IsIn (reached g Out w) → ⊥
out-walk g [] h = outside h
out-walk g (k ∷ w) h = out-walk g w h

further : (r k : ℕ) (w : List ℕ) → (k ≡ 1) ⊎ (k ≡ 2) → Short r w → Short (suc r) (k ∷ w)
further r k w is s = ((λ j c. elim (which k j w c) as (λ _. (j ≡ 1) ⊎ (j ≡ 2)) [ inl e ↦ subst (λ z. (z ≡ 1) ⊎ (z ≡ 2)) e is | inr d ↦ s.0 j d ]), (let h = s.1 in omega arith))

fresh-word : (g r k : ℕ) (w : List ℕ) → ((r : ℕ) → IsIn (reached g (In None r) w) → Short r w) → IsIn (reached g (fresh r k) w) → Short r (k ∷ w)
fresh-word g r zero w f h = absurd (out-walk g w h)
fresh-word g zero (suc k) w f h = absurd (out-walk g w h)
fresh-word g (suc r) (suc zero) w f h = further r 1 w (inl refl) (f r h)
fresh-word g (suc r) (suc (suc zero)) w f h = further r 2 w (inr refl) (f r h)
fresh-word g (suc r) (suc (suc (suc k))) w f h = absurd (out-walk g w h)

none-word : (g : ℕ) (w : List ℕ) (r : ℕ) → IsIn (reached g (In None r) w) → Short r w
none-word g [] r h = ((λ k c. absurd (nothing c)), omega arith)
none-word g (k ∷ w) r h = fresh-word g r k w (none-word g w) h

in-step : (g k : ℕ) (w : List ℕ) (old : Expr) → ((t : Expr) → IsIn (reached g (In (Some t) g) w) → IsPosition g t w) → (x : Option Expr) → operand (Some old) k ≡ x → IsIn (reached g (child_from g g k x) w) → IsPosition g old (k ∷ w)
in-step g k w old f None is h = let s = fresh-word g g k w (none-word g w) h in record { from = []; tail = k ∷ w; tree = old; is = refl; old_one = refl; letters = s.0; short = s.1 }
in-step g k w old f (Some x) is h = let p = f x h in record { from = k ∷ p.from; tail = p.tail; tree = p.tree; is = ap (λ w. k ∷ w) p.is; old_one = rw is p.old_one; letters = p.letters; short = p.short }

pub word-position : (g : ℕ) (w : List ℕ) (old : Expr) → has_word g old w ≡ true → IsPosition g old w
word-position g [] old h = record { from = []; tail = []; tree = old; is = refl; old_one = refl; letters = λ k c. absurd (nothing c); short = omega arith }
word-position g (k ∷ w) old h = in-step g k w old (word-position g w) (operand (Some old) k) refl h

fresh-in : (g r k : ℕ) (u : List ℕ) → (k ≡ 1) ⊎ (k ≡ 2) → suc (length u) ≤ r → ((r : ℕ) → length u ≤ r → r ≤ g → IsIn (reached g (In None r) u)) → r ≤ g → IsIn (reached g (fresh r k) u)
fresh-in g zero k u is le f top = absurd (omega arith)
fresh-in g (suc r) k u (inl is) le f top = rw is (f r (omega arith) (omega arith))
fresh-in g (suc r) k u (inr is) le f top = rw is (f r (omega arith) (omega arith))

tail-step : (g r k : ℕ) (u : List ℕ) (x : Option Expr) → (k ≡ 1) ⊎ (k ≡ 2) → suc (length u) ≤ r → r ≤ g → ((o : Option Expr) (r : ℕ) → length u ≤ r → r ≤ g → IsIn (reached g (In o r) u)) → IsIn (reached g (child_from g r k x) u)
tail-step g r k u None is le top f = fresh-in g r k u is le (f None) top
tail-step g r k u (Some x) is le top f = f (Some x) g (omega arith) (omega arith)

tail-in : (g : ℕ) (u : List ℕ) → ((k : ℕ) → Contains u k → (k ≡ 1) ⊎ (k ≡ 2)) → (o : Option Expr) (r : ℕ) → length u ≤ r → r ≤ g → IsIn (reached g (In o r) u)
tail-in g [] ls o r le top = refl
tail-in g (k ∷ u) ls o r le top = tail-step g r k u (operand o k) (ls k (here k u)) (omega arith) top (tail-in g u (λ j c. ls j (there k u c)))

from-step : (g k : ℕ) (from w : List ℕ) (tree : Expr) → ((t : Expr) → at_position from (Some t) ≡ Some tree → IsIn (reached g (In (Some t) g) w)) → (x : Option Expr) → at_position from x ≡ Some tree → IsIn (reached g (child_from g g k x) w)
from-step g k from w tree f None is = absurd (not_none (sym (at-none from) ∙ is))
from-step g k from w tree f (Some x) is = f x is

from-in : (g : ℕ) (from tail : List ℕ) (tree : Expr) → ((k : ℕ) → Contains tail k → (k ≡ 1) ⊎ (k ≡ 2)) → length tail ≤ g → (old : Expr) → at_position from (Some old) ≡ Some tree → IsIn (reached g (In (Some old) g) (from ++ tail))
from-in g [] tail tree ls le old is = tail-in g tail ls (Some old) g le (omega arith)
from-in g (k ∷ from) tail tree ls le old is = from-step g k from (from ++ tail) tree (from-in g from tail tree ls le) (operand (Some old) k) is

pub position-word : (g : ℕ) (w : List ℕ) (old : Expr) → IsPosition g old w → has_word g old w ≡ true
position-word g w old p = rw p.is (from-in g p.from p.tail p.tree p.letters p.short old p.old_one)

-- operands
nth-in : (xs : List Expr) (k : ℕ) (t : Expr) → nth xs k ≡ Some t → Contains xs t
nth-in xs zero t h = absurd (not_none h)
nth-in [] (suc k) t h = absurd (not_none h)
nth-in (x ∷ xs) (suc zero) t h = subst (Contains (x ∷ xs)) (cc) (here x xs)
nth-in (x ∷ xs) (suc (suc k)) t h = there x xs (nth-in xs (suc k) t h)

nth-low : (xs : List Expr) (k : ℕ) (t : Expr) → nth xs k ≡ Some t → (1 ≤ k) × (k ≤ length xs)
nth-low xs zero t h = absurd (not_none h)
nth-low [] (suc k) t h = absurd (not_none h)
nth-low (x ∷ xs) (suc zero) t h = (omega arith, omega arith)
nth-low (x ∷ xs) (suc (suc k)) t h = let r = nth-low xs (suc k) t h in let q = r.1 in (omega arith, omega arith)

few-operands : (t : Expr) → length (operands t) ≤ 3
few-operands = expr-cases (λ t. length (operands t) ≤ 3)
    (λ n. omega arith)
    (λ a. subst (λ z. length z ≤ 3) (sym (operands-Atom a)) (omega arith))
    (λ op x. rw (operands-Un op x) (omega arith))
    (λ op x y. rw (operands-Bin op x y) (omega arith))
    (λ x y z. rw (operands-Cond x y z) (omega arith))

pub operand-low : (old : Option Expr) (k : ℕ) (t : Expr) → operand old k ≡ Some t → (1 ≤ k) × (k ≤ 3)
operand-low None k t h = absurd (not_none h)
operand-low (Some tree) k t h = let r = nth-low (operands tree) k t h in let a = r.0 in let b = r.1 in let c = few-operands tree in (a, omega arith)

fresh-low : (room k : ℕ) → IsIn (fresh room k) → (1 ≤ k) × (k ≤ 3)
fresh-low room zero h = absurd (outside h)
fresh-low zero (suc k) h = absurd (outside h)
fresh-low (suc room) (suc zero) h = (omega arith, omega arith)
fresh-low (suc room) (suc (suc zero)) h = (omega arith, omega arith)
fresh-low (suc room) (suc (suc (suc k))) h = absurd (outside h)

from-low : (g room k : ℕ) (old x : Option Expr) → operand old k ≡ x → IsIn (child_from g room k x) → (1 ≤ k) × (k ≤ 3)
from-low g room k old None is h = fresh-low room k h
from-low g room k old (Some t) is h = operand-low old k t is

child-low : (g : ℕ) (spot : Spot) (k : ℕ) → IsIn (child g spot k) → (1 ≤ k) × (k ≤ 3)
child-low g Out k h = absurd (outside h)
child-low g (In old room) k h = from-low g room k old (operand old k) refl h

child-in : (g : ℕ) (spot : Spot) (k : ℕ) → IsIn (child g spot k) → IsIn spot
child-in g Out k h = absurd (outside h)
child-in g (In old room) k h = refl

-- one letter more
reached-last : (g : ℕ) (spot : Spot) (w : List ℕ) (k : ℕ) → reached g spot (w ++ k ∷ []) ≡ child g (reached g spot w) k
reached-last g spot [] k = refl
reached-last g spot (j ∷ w) k = reached-last g (child g spot j) w k

length-last : (w : List ℕ) (k : ℕ) → length (w ++ k ∷ []) ≡ suc (length w)
length-last [] k = refl
length-last (j ∷ w) k = ap suc (length-last w k)

pub record Split (w : List ℕ) : Type 0 where
  pub before : List ℕ
  pub last : ℕ
  pub is : w ≡ before ++ last ∷ []

split : (k : ℕ) (w : List ℕ) → Split (k ∷ w)
split k [] = record { before = []; last = k; is = refl }
split k (j ∷ w) = let s = split j w in record { before = k ∷ s.before; last = s.last; is = ap (λ z. k ∷ z) s.is }

longer-has : (w : List ℕ) (k : ℕ) → 1 ≤ k → k ≤ 3 → Contains (longer_words w) (w ++ k ∷ [])
longer-has w zero a b = absurd (omega arith)
longer-has w (suc zero) a b = here (w ++ 1 ∷ []) ((w ++ 2 ∷ []) ∷ (w ++ 3 ∷ []) ∷ [])
longer-has w (suc (suc zero)) a b = there (w ++ 1 ∷ []) ((w ++ 2 ∷ []) ∷ (w ++ 3 ∷ []) ∷ []) (here (w ++ 2 ∷ []) ((w ++ 3 ∷ []) ∷ []))
longer-has w (suc (suc (suc zero))) a b = there (w ++ 1 ∷ []) ((w ++ 2 ∷ []) ∷ (w ++ 3 ∷ []) ∷ []) (there (w ++ 2 ∷ []) ((w ++ 3 ∷ []) ∷ []) (here (w ++ 3 ∷ []) []))
longer-has w (suc (suc (suc (suc k)))) a b = absurd (omega arith)

longer-from : (w v : List ℕ) → Contains (longer_words w) v → (k : ℕ) × (v ≡ w ++ k ∷ [])
longer-from w v c = elim (which (w ++ 1 ∷ []) v ((w ++ 2 ∷ []) ∷ (w ++ 3 ∷ []) ∷ []) c) as (λ _. (k : ℕ) × (v ≡ w ++ k ∷ [])) [
  | inl e ↦ (1, sym e)
  | inr d ↦ (elim (which (w ++ 2 ∷ []) v ((w ++ 3 ∷ []) ∷ []) d) as (λ _. (k : ℕ) × (v ≡ w ++ k ∷ [])) [ inl e ↦ (2, sym e) | inr f ↦ (3, sym (only (w ++ 3 ∷ []) v f)) ])
]

-- the words of one length
level-sound : (g : ℕ) (old : Expr) (n : ℕ) (w : List ℕ) → Contains (level g old n) w → (has_word g old w ≡ true) × (length w ≡ n)
level-sound g old zero w c = subst (λ z. (has_word g old z ≡ true) × (length z ≡ 0)) (only [] w c) (refl, refl)
level-sound g old (suc n) w c =
    let a = flat-from (λ w. filter (has_word g old) (longer_words w)) (level g old n) w c in
    let b = filter-from (has_word g old) (longer_words a.0) w a.2 in
    let s = level-sound g old n a.0 a.1 in
    let k = longer-from a.0 w b.0 in
    (b.1, ap length k.1 ∙ length-last a.0 k.0 ∙ ap suc s.1)

one-more : (g : ℕ) (old : Expr) (words : List (List ℕ)) (v : List ℕ) (k : ℕ) → has_word g old (v ++ k ∷ []) ≡ true → (has_word g old v ≡ true → Contains words v) → Contains (next_level g old words) (v ++ k ∷ [])
one-more g old words v k h f =
    let c : IsIn (child g (reached g (In (Some old) g) v) k) = subst IsIn (reached-last g (In (Some old) g) v k) h in
    let low = child-low g (reached g (In (Some old) g) v) k c in
    flat-has (λ w. filter (has_word g old) (longer_words w)) words v (v ++ k ∷ [])
    (f (child-in g (reached g (In (Some old) g) v) k c))
    (filter-has (has_word g old) (longer_words v) (v ++ k ∷ []) (longer-has v k low.0 low.1) h)

level-all : (g : ℕ) (old : Expr) (n : ℕ) (w : List ℕ) → has_word g old w ≡ true → length w ≡ n → Contains (level g old n) w
level-all g old zero [] h is = here [] []
level-all g old zero (k ∷ w) h is = absurd (omega arith)
level-all g old (suc n) [] h is = absurd (omega arith)
level-all g old (suc n) (k ∷ w) h is =
    let s = split k w in
    let long : length s.before ≡ n = (let a = ap length s.is in let b = length-last s.before s.last in omega arith) in
    subst (Contains (level g old (suc n))) (sym s.is)
    (one-more g old (level g old n) s.before s.last (subst (λ z. has_word g old z ≡ true) s.is h) (λ q. level-all g old n s.before q long))

last-digit : (w : List ℕ) (j k : ℕ) → j < k → ByDigits (w ++ j ∷ []) (w ++ k ∷ [])
last-digit [] j k h = inl h
last-digit (i ∷ w) j k h = inr (refl, last-digit w j k h)

digits-kept : (v w : List ℕ) (j k : ℕ) → ByDigits v w → ByDigits (v ++ j ∷ []) (w ++ k ∷ [])
digits-kept [] w j k h = absurd h
digits-kept (a ∷ v) [] j k h = absurd h
digits-kept (a ∷ v) (b ∷ w) j k (inl h) = inl h
digits-kept (a ∷ v) (b ∷ w) j k (inr h) = inr (h.0, digits-kept v w j k h.1)

longer-rise : (w : List ℕ) → Apart ByDigits (longer_words w)
longer-rise w = (
  (λ y c. elim (which (w ++ 2 ∷ []) y ((w ++ 3 ∷ []) ∷ []) c) as (λ _. ByDigits (w ++ 1 ∷ []) y) [
    | inl e ↦ subst (ByDigits (w ++ 1 ∷ [])) e (last-digit w 1 2 (omega arith))
    | inr d ↦ subst (ByDigits (w ++ 1 ∷ [])) (only (w ++ 3 ∷ []) y d) (last-digit w 1 3 (omega arith))
  ]),
  ((λ y c. subst (ByDigits (w ++ 2 ∷ [])) (only (w ++ 3 ∷ []) y c) (last-digit w 2 3 (omega arith))), ((λ y c. absurd (nothing c)), tt)),
)

level-rise : (g : ℕ) (old : Expr) (n : ℕ) → Apart ByDigits (level g old n)
level-rise g old zero = ((λ y c. absurd (nothing c)), tt)
level-rise g old (suc n) =
    Apart-flat ByDigits ByDigits (λ w. filter (has_word g old) (longer_words w))
    (λ v w x y h c d. (let a = longer-from v x ((filter-from (has_word g old) (longer_words v) x c).0) in
    let b = longer-from w y ((filter-from (has_word g old) (longer_words w) y d).0) in
    subst (λ z. ByDigits z y) (sym a.1) (subst (ByDigits (v ++ a.0 ∷ [])) (sym b.1) (digits-kept v w a.0 b.0 h))))
    (λ w. Apart-filter ByDigits (has_word g old) (longer_words w) (longer-rise w))
    (level g old n) (level-rise g old n)

-- all lengths
split-below : (a n : ℕ) → a < suc n → (a < n) ⊎ (a ≡ n)
split-below zero zero h = inr refl
split-below zero (suc n) h = inl (omega arith)
split-below (suc a) zero h = absurd (omega arith)
split-below (suc a) (suc n) h = elim (split-below a n (omega arith)) as (λ _. (suc a < suc n) ⊎ (suc a ≡ suc n)) [ inl l ↦ inl (omega arith) | inr e ↦ inr (ap suc e) ]

shorter-sound : (g : ℕ) (old : Expr) (n : ℕ) (w : List ℕ) → Contains (shorter g old n) w → (has_word g old w ≡ true) × (length w < n)
shorter-sound g old zero w c = absurd (nothing c)
shorter-sound g old (suc n) w c = elim (Contains-append_cases (shorter g old n) (level g old n) w c) as (λ _. (has_word g old w ≡ true) × (length w < suc n)) [
  | inl d ↦ (let s = shorter-sound g old n w d in let l = s.1 in (s.0, omega arith))
  | inr d ↦ (let s = level-sound g old n w d in let l = s.1 in (s.0, omega arith))
]

shorter-all : (g : ℕ) (old : Expr) (n : ℕ) (w : List ℕ) → has_word g old w ≡ true → length w < n → Contains (shorter g old n) w
shorter-all g old zero w h l = absurd (omega arith)
shorter-all g old (suc n) w h l = elim (split-below (length w) n l) as (λ _. Contains (shorter g old n ++ level g old n) w) [
  | inl m ↦ Contains-append_left (shorter g old n) (level g old n) w (shorter-all g old n w h m)
  | inr e ↦ Contains-append_right (shorter g old n) (level g old n) w (level-all g old n w h e)
]

apart-like : {X : Type 0} (R S : X → X → Type 0) (xs : List X) → ((x y : X) → Contains xs x → Contains xs y → R x y → S x y) → Apart R xs → Apart S xs
apart-like R S [] f a = tt
apart-like R S (x ∷ xs) f a = ((λ y c. f x y (here x xs) (there x xs c) (a.0 y c)), apart-like R S xs (λ u v c d h. f u v (there x xs c) (there x xs d) h) a.1)

pub shorter-rise : (g : ℕ) (old : Expr) (n : ℕ) → Apart Precedes (shorter g old n)
shorter-rise g old zero = tt
shorter-rise g old (suc n) =
    Apart-append Precedes (shorter g old n) (level g old n) (shorter-rise g old n)
    (apart-like ByDigits Precedes (level g old n) (λ v w c d h. inr ((level-sound g old n v c).1 ∙ sym ((level-sound g old n w d).1), h)) (level-rise g old n))
    (λ v w c d. (let a = (shorter-sound g old n v c).1 in let b = (level-sound g old n w d).1 in inl (omega arith)))

-- no position is longer than the old tree is deep

operand-less : (old : Expr) (x : Expr) → Contains (operands old) x → nodes x < nodes old
operand-less = expr-cases (λ old. (x : Expr) → Contains (operands old) x → nodes x < nodes old)
    (λ n x c. absurd (nothing c))
    (λ a x c. absurd (nothing (subst (λ z. Contains z x) (operands-Atom a) c)))
    (λ op a x c. rw (nodes-Un op a) (let e = ap nodes (only a x (rw (operands-Un op a) at c)) in omega arith))
    (λ op a b x c. rw (nodes-Bin op a b) (elim (which a x (b ∷ []) (rw (operands-Bin op a b) at c)) as (λ _. nodes x < nodes a + nodes b + 1) [
      | inl e ↦ (let q = ap nodes e in omega arith)
      | inr d ↦ (let q = ap nodes (only b x d) in omega arith)
    ]))
    (λ f a b x c. rw (nodes-Cond f a b) (elim (which f x (a ∷ b ∷ []) (rw (operands-Cond f a b) at c)) as (λ _. nodes x < nodes f + nodes a + nodes b + 1) [
      | inl e ↦ (let q = ap nodes e in omega arith)
      | inr d ↦ (elim (which a x (b ∷ []) d) as (λ _. nodes x < nodes f + nodes a + nodes b + 1) [
        | inl e ↦ (let q = ap nodes e in omega arith)
        | inr r ↦ (let q = ap nodes (only b x r) in omega arith)
      ])
    ]))

some-nodes : (t : Expr) → 1 ≤ nodes t
some-nodes = expr-cases (λ t. 1 ≤ nodes t)
    (λ n. omega arith)
    (λ a. subst (λ z. 1 ≤ z) (sym (nodes-Atom a)) (omega arith))
    (λ op a. rw (nodes-Un op a) (omega arith))
    (λ op a b. rw (nodes-Bin op a b) (omega arith))
    (λ f a b. rw (nodes-Cond f a b) (omega arith))

depth-step : (k : ℕ) (from : List ℕ) (old tree : Expr) → ((t : Expr) → at_position from (Some t) ≡ Some tree → length from < nodes t) → (x : Option Expr) → operand (Some old) k ≡ x → at_position from x ≡ Some tree → suc (length from) < nodes old
depth-step k from old tree f None is h = absurd (not_none (sym (at-none from) ∙ h))
depth-step k from old tree f (Some t) is h = let a = f t h in let b = operand-less old t (nth-in (operands old) k t is) in omega arith

depth : (from : List ℕ) (tree old : Expr) → at_position from (Some old) ≡ Some tree → length from < nodes old
depth [] tree old h = let s = some-nodes old in omega arith
depth (k ∷ from) tree old h = depth-step k from old tree (depth from tree) (operand (Some old) k) refl h

position-short : (g : ℕ) (w : List ℕ) (old : Expr) → IsPosition g old w → length w < nodes old + g
position-short g w old p =
    let d = depth p.from p.tree old p.old_one in
    let s = p.short in
    let e : length w ≡ length p.from + length p.tail = ap length p.is ∙ length-append p.from p.tail in
    omega arith

pub words-sound : (g : ℕ) (old : Expr) (n : ℕ) (w : List ℕ) → Contains (shorter g old n) w → IsPosition g old w
words-sound g old n w c = word-position g w old ((shorter-sound g old n w c).0)

pub words-all : (g : ℕ) (old : Expr) (w : List ℕ) → IsPosition g old w → Contains (shorter g old (nodes old + g)) w
words-all g old w p = shorter-all g old (nodes old + g) w (position-word g w old p) (position-short g w old p)

-- steps of a walk that leave
out-false : (g : ℕ) (w : List ℕ) → false ≡ is_in (reached g Out w)
out-false g [] = refl
out-false g (k ∷ w) = out-false g w

outer : (spot : Spot) → is_in spot ≡ false → spot ≡ Out
outer Out h = refl
outer (In old room) h = absurd (cc)

leaves : (g room k : ℕ) (x : Option Expr) (w : List ℕ) → x ≡ None → is_in (fresh room k) ≡ false → false ≡ is_in (reached g (child_from g room k x) w)
leaves g room k x w e f = rw e (rw (outer (fresh room k) f) (out-false g w))

pub out-at : (g room : ℕ) (old : Option Expr) (word : List ℕ) (k d : ℕ) → 1 ≤ length word → k ≡ get_or word 0 d → operand old k ≡ None → is_in (fresh room k) ≡ false → false ≡ stays g old room word
out-at g room old [] k d h is e f = absurd (omega arith)
out-at g room old (j ∷ w) k d h is e f = leaves g room j (operand old j) w (ap (operand old) (sym is) ∙ e) (subst (λ z. is_in (fresh room z) ≡ false) is f)

none-at : (old : Option Expr) (k : ℕ) (x : Option Expr) → operand old k ≡ x → (1 ≤ k → k ≤ 3 → ⊥) → None ≡ x
none-at old k None is f = refl
none-at old k (Some t) is f = let r = operand-low old k t is in absurd (f r.0 r.1)

pub no-operand : (old : Option Expr) (k : ℕ) → (1 ≤ k → k ≤ 3 → ⊥) → None ≡ operand old k
no-operand old k f = none-at old k (operand old k) refl f
