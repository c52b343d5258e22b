-- Steps of the walk.
use Rattle.std.proofs.Common.{◌≡◌, ℕ, zero, suc, ◌+◌, ◌*◌, ◌≤◌, ◌<◌, Bool, true, false, not, ◌&&◌, ◌||◌, List, [], ◌∷◌, ◌++◌, length, nat_eq, if◌then◌else◌, Option, Some, None, slice_get, slice_set, replicate, drop, Bor, refl, ap, sym, subst, ◌∙◌, arith}
use Rattle.std.specs.Option.{IsSome, option_copied}
use Rattle.std.proofs.Math.ListN.{get_or}
use Rattle.std.proofs.Math.Bool.{or-false}
use Rattle.std.proofs.lemmas.Option.{slice_get-get_or, slice_get_within}
use Rattle.std.proofs.lemmas.List.{length-replicate}
use Rattle.ax_term.specs.Tree.{Tree, word, word_sym, flag, flag_sym, make, compare, no, all, pick}
use Rattle.ax_term.specs.Numbered.{Numbered, word_at, word_sym_at, flag_at, flag_sym_at, make_at, compare_at, no_at, all_at, pick_at, number_of, tree}
use Rattle.ax_term.specs.Bank.{Among, ChildrenBefore, IsBank}
use Rattle.ax_term.specs.Folding.{same_tree}
use Rattle.ax_term.proofs.FoldLemmas.{nat_eq-exact, nat_eq-refl}
use Rattle.ax_term.proofs.BankLemmas.{same_number}
use Rattle.ax_term.specs.Order.{among, visit, visit_all, tree_or, tree_at, trees_at, trees, AllBelow, AllAmong}
use Rattle.ax_term.specs.Walk.{act, finish, tasks_of, IsTask, AllTasks, node_count, weight, load, IsSeen}
use Rattle.ax_term.specs.declared.walk.Task.{Task}
use Rattle.ax_term.specs.declared.walk.Task.TheVariants.{Enter, Leave}

finish-append : (ts : List Numbered) (st xs : List Task) (seen : List Tree) → finish ts (st ++ xs) seen ≡ finish ts st (finish ts xs seen)
finish-append ts [] xs seen = refl
finish-append ts (s ∷ st) xs seen = ap (act ts s) (finish-append ts st xs seen)

skipped : (seen : List Tree) (t : Tree) → among seen t ≡ true → visit seen t ≡ seen
skipped seen (word z) e = rw e refl
skipped seen (word_sym k) e = rw e refl
skipped seen (flag b) e = rw e refl
skipped seen (flag_sym k) e = rw e refl
skipped seen (make op a b) e = rw e refl
skipped seen (compare op a b) e = rw e refl
skipped seen (no f) e = rw e refl
skipped seen (all f g) e = rw e refl
skipped seen (pick f a b) e = rw e refl

pub tree_of : (ts : List Numbered) (n : ℕ) (t : Numbered) → slice_get ts n ≡ Some t → tree_at ts n ≡ tree t
tree_of ts n t e = ap tree_or e

opened : (ts : List Numbered) (n : ℕ) (t : Numbered) (seen : List Tree) → Among ts t → ChildrenBefore ts n t → among seen (tree t) ≡ false → finish ts (tasks_of t) seen ≡ visit seen (tree t)
opened ts n (word_at m z) seen g k e = rw (tree_of ts m (word_at m z) g, e) refl
opened ts n (word_sym_at m z) seen g k e = rw (tree_of ts m (word_sym_at m z) g, e) refl
opened ts n (flag_at m z) seen g k e = rw (tree_of ts m (flag_at m z) g, e) refl
opened ts n (flag_sym_at m z) seen g k e = rw (tree_of ts m (flag_sym_at m z) g, e) refl
opened ts n (make_at m op a b) seen g k e = rw (tree_of ts m (make_at m op a b) g, tree_of ts (number_of a) a k.0.1.0, tree_of ts (number_of b) b k.1.1.0, e) refl
opened ts n (compare_at m op a b) seen g k e = rw (tree_of ts m (compare_at m op a b) g, tree_of ts (number_of a) a k.0.1.0, tree_of ts (number_of b) b k.1.1.0, e) refl
opened ts n (no_at m f) seen g k e = rw (tree_of ts m (no_at m f) g, tree_of ts (number_of f) f k.1.0, e) refl
opened ts n (all_at m a b) seen g k e = rw (tree_of ts m (all_at m a b) g, tree_of ts (number_of a) a k.0.1.0, tree_of ts (number_of b) b k.1.1.0, e) refl
opened ts n (pick_at m f a b) seen g k e = rw (tree_of ts m (pick_at m f a b) g, tree_of ts (number_of f) f k.0.1.0, tree_of ts (number_of a) a k.1.1.0, tree_of ts (number_of b) b k.2.1.0, e) refl

-- a task at a term that was seen
pub skip_finishes : (ts : List Numbered) (st : List Task) (n : ℕ) (seen : List Tree) → among seen (tree_at ts n) ≡ true → finish ts st seen ≡ finish ts (st ++ Enter n ∷ []) seen
skip_finishes ts st n seen e = sym (finish-append ts st (Enter n ∷ []) seen ∙ ap (finish ts st) (skipped seen (tree_at ts n) e))

-- the term of a number stands in the bank
at_number : (ts : List Numbered) (n : ℕ) (t : Numbered) → IsBank ts → slice_get ts n ≡ Some t → Among ts t
at_number ts n t b e = ap (slice_get ts) (b.numbered n t e) ∙ e

pub open_finishes : (ts : List Numbered) (st : List Task) (n : ℕ) (t : Numbered) (seen : List Tree) → IsBank ts → slice_get ts n ≡ Some t → among seen (tree_at ts n) ≡ false
    → finish ts (st ++ tasks_of t) seen ≡ finish ts (st ++ Enter n ∷ []) seen
open_finishes ts st n t seen b e f =
    let w = tree_of ts n t e in
    finish-append ts st (tasks_of t) seen
    ∙ (ap (finish ts st) (opened ts n t seen (at_number ts n t b e) (b.before n t e) (ap (among seen) (sym w) ∙ f) ∙ ap (visit seen) (sym w))
    ∙ sym (finish-append ts st (Enter n ∷ []) seen))

pub leave_finishes : (ts : List Numbered) (st : List Task) (n : ℕ) (seen : List Tree) → finish ts st (seen ++ tree_at ts n ∷ []) ≡ finish ts (st ++ Leave n ∷ []) seen
leave_finishes ts st n seen = sym (finish-append ts st (Leave n ∷ []) seen)

-- the measure
load-append : (ts : List Numbered) (st xs : List Task) → load ts (st ++ xs) ≡ load ts st + load ts xs
load-append ts [] xs = omega arith
load-append ts (s ∷ st) xs = let h = load-append ts st xs in omega arith

some_nodes : (t : Tree) → 0 < node_count t
some_nodes (word z) = omega arith
some_nodes (word_sym z) = omega arith
some_nodes (flag z) = omega arith
some_nodes (flag_sym z) = omega arith
some_nodes (make op a b) = omega arith
some_nodes (compare op a b) = omega arith
some_nodes (no f) = omega arith
some_nodes (all f g) = omega arith
some_nodes (pick f a b) = omega arith

at_child : (ts : List Numbered) (a : Numbered) → Among ts a → node_count (tree_at ts (number_of a)) ≡ node_count (tree a)
at_child ts a g = ap node_count (tree_of ts (number_of a) a g)

tasks_lighter : (ts : List Numbered) (n : ℕ) (t : Numbered) → ChildrenBefore ts n t → load ts (tasks_of t) < 2 * node_count (tree t)
tasks_lighter ts n (word_at m z) k = omega arith
tasks_lighter ts n (word_sym_at m z) k = omega arith
tasks_lighter ts n (flag_at m z) k = omega arith
tasks_lighter ts n (flag_sym_at m z) k = omega arith
tasks_lighter ts n (make_at m op a b) k = let x = at_child ts a k.0.1.0 in let y = at_child ts b k.1.1.0 in omega arith
tasks_lighter ts n (compare_at m op a b) k = let x = at_child ts a k.0.1.0 in let y = at_child ts b k.1.1.0 in omega arith
tasks_lighter ts n (no_at m f) k = let x = at_child ts f k.1.0 in omega arith
tasks_lighter ts n (all_at m a b) k = let x = at_child ts a k.0.1.0 in let y = at_child ts b k.1.1.0 in omega arith
tasks_lighter ts n (pick_at m f a b) k = let z = at_child ts f k.0.1.0 in let x = at_child ts a k.1.1.0 in let y = at_child ts b k.2.1.0 in omega arith

pub open_lighter : (ts : List Numbered) (st : List Task) (n : ℕ) (t : Numbered) → IsBank ts → slice_get ts n ≡ Some t → load ts (st ++ tasks_of t) < load ts (st ++ Enter n ∷ [])
open_lighter ts st n t b e =
    let p = load-append ts st (tasks_of t) in
    let q = load-append ts st (Enter n ∷ []) in
    let c = tasks_lighter ts n t (b.before n t e) in
    let w = ap node_count (tree_of ts n t e) in
    omega arith

pub taken_lighter : (ts : List Numbered) (st : List Task) (s : Task) → load ts st < load ts (st ++ s ∷ [])
taken_lighter ts st (Enter n) = let b = load-append ts st (Enter n ∷ []) in let p = some_nodes (tree_at ts n) in omega arith
taken_lighter ts st (Leave n) = let b = load-append ts st (Leave n ∷ []) in omega arith

-- the tasks are at terms of the bank
tasks-append : (size : ℕ) (st xs : List Task) → AllTasks size st → AllTasks size xs → AllTasks size (st ++ xs)
tasks-append size [] xs h k = k
tasks-append size (s ∷ st) xs h k = (h.0, tasks-append size st xs h.1 k)

pub tasks_front : (size : ℕ) (st : List Task) (s : Task) → AllTasks size (st ++ s ∷ []) → AllTasks size st × IsTask size s
tasks_front size [] s h = (tt, h.0)
tasks_front size (x ∷ st) s h = let r = tasks_front size st s h.1 in ((h.0, r.0), r.1)

tasks_of-fit : (ts : List Numbered) (n size : ℕ) (t : Numbered) → ChildrenBefore ts n t → number_of t ≡ n → n < size → AllTasks size (tasks_of t)
tasks_of-fit ts n size (word_at m z) k e l = (omega arith, tt)
tasks_of-fit ts n size (word_sym_at m z) k e l = (omega arith, tt)
tasks_of-fit ts n size (flag_at m z) k e l = (omega arith, tt)
tasks_of-fit ts n size (flag_sym_at m z) k e l = (omega arith, tt)
tasks_of-fit ts n size (make_at m op a b) k e l = let x = k.0.0 in let y = k.1.0 in (omega arith, (omega arith, (omega arith, tt)))
tasks_of-fit ts n size (compare_at m op a b) k e l = let x = k.0.0 in let y = k.1.0 in (omega arith, (omega arith, (omega arith, tt)))
tasks_of-fit ts n size (no_at m f) k e l = let x = k.0 in (omega arith, (omega arith, tt))
tasks_of-fit ts n size (all_at m a b) k e l = let x = k.0.0 in let y = k.1.0 in (omega arith, (omega arith, (omega arith, tt)))
tasks_of-fit ts n size (pick_at m f a b) k e l = let z = k.0.0 in let x = k.1.0 in let y = k.2.0 in (omega arith, (omega arith, (omega arith, (omega arith, tt))))

pub open_tasks : (ts : List Numbered) (st : List Task) (n : ℕ) (t : Numbered) → IsBank ts → slice_get ts n ≡ Some t → n < length ts → AllTasks (length ts) st → AllTasks (length ts) (st ++ tasks_of t)
open_tasks ts st n t b e l h = tasks-append (length ts) st (tasks_of t) h (tasks_of-fit ts n (length ts) t (b.before n t e) (b.numbered n t e) l)

-- the marks
trees_at-push : (ts : List Numbered) (ns : List ℕ) (n : ℕ) → trees_at ts (ns ++ n ∷ []) ≡ trees_at ts ns ++ tree_at ts n ∷ []
trees_at-push ts [] n = refl
trees_at-push ts (m ∷ ns) n = ap (λ (r : List Tree). tree_at ts m ∷ r) (trees_at-push ts ns n)

pub among-push : (ss : List Tree) (t s : Tree) → among (ss ++ t ∷ []) s ≡ (among ss s || same_tree t s)
among-push [] t s = or-false (same_tree t s)
among-push (x ∷ ss) t s = ap (λ (b : Bool). same_tree x s || b) (among-push ss t s) ∙ sym (or-assoc (same_tree x s) (among ss s) (same_tree t s))
  where
    or-assoc : (a b c : Bool) → ((a || b) || c) ≡ (a || (b || c))
    or-assoc true b c = refl
    or-assoc false b c = refl

set_here : (xs : List Bool) (n : ℕ) (x : Bool) → n < length xs → slice_get (slice_set xs n x) n ≡ Some x
set_here [] n x l = absurd (omega arith)
set_here (y ∷ xs) zero x l = refl
set_here (y ∷ xs) (suc n) x l = set_here xs n x (omega arith)

set_there : (xs : List Bool) (n m : ℕ) (x : Bool) → (n ≡ m → ⊥) → slice_get (slice_set xs n x) m ≡ slice_get xs m
set_there [] n m x e = refl
set_there (y ∷ xs) zero zero x e = absurd (e refl)
set_there (y ∷ xs) zero (suc m) x e = refl
set_there (y ∷ xs) (suc n) zero x e = refl
set_there (y ∷ xs) (suc n) (suc m) x e = set_there xs n m x (λ q. e (ap suc q))

unlike : (n m : ℕ) → nat_eq n m ≡ false → n ≡ m → ⊥
unlike n m e q = let r : nat_eq n m ≡ true = ap (nat_eq n) (sym q) ∙ nat_eq-refl n in absurd (cc)

length-set : (xs : List Bool) (n : ℕ) (x : Bool) → length (slice_set xs n x) ≡ length xs
length-set [] n x = refl
length-set (y ∷ xs) zero x = refl
length-set (y ∷ xs) (suc n) x = ap suc (length-set xs n x)

-- two numbers are one exactly where their trees are
same_at : (ts : List Numbered) (n m : ℕ) → IsBank ts → n < length ts → m < length ts → nat_eq n m ≡ same_tree (tree_at ts n) (tree_at ts m)
same_at ts n m b ln lm =
    let d : Numbered = flag_at 0 false in
    let en = slice_get-get_or ts n d ln in
    let em = slice_get-get_or ts m d lm in
    let x : Numbered = get_or ts n d in
    let y : Numbered = get_or ts m d in
    let p = same_number ts x y b (at_number ts n x b en) (at_number ts m y b em) in
    ap (λ (k : ℕ). nat_eq k m) (sym (b.numbered n x en))
    ∙ (ap (λ (k : ℕ). nat_eq (number_of x) k) (sym (b.numbered m y em))
    ∙ (p ∙ (ap (λ (t : Tree). same_tree t (tree y)) (sym (tree_of ts n x en)) ∙ ap (λ (t : Tree). same_tree (tree_at ts n) t) (sym (tree_of ts m y em)))))

below-push : (size : ℕ) (ns : List ℕ) (n : ℕ) → AllBelow size ns → n < size → AllBelow size (ns ++ n ∷ [])
below-push size [] n h l = (l, tt)
below-push size (m ∷ ns) n h l = (h.0, below-push size ns n h.1 l)

pub seen_more : (ts : List Numbered) (marks : List Bool) (order : List ℕ) (n : ℕ) → IsBank ts → n < length ts → IsSeen ts marks order → IsSeen ts (slice_set marks n true) (order ++ n ∷ [])
seen_more ts marks order n b l h = record {
  size = length-set marks n true ∙ h.size;
  marked = λ m lm. (by m lm (nat_eq n m) refl ∙ ap Some (sym (ap (λ (ss : List Tree). among ss (tree_at ts m)) (trees_at-push ts order n) ∙ among-push (trees_at ts order) (tree_at ts n) (tree_at ts m))));
  below = below-push (length ts) order n h.below l;
}
  where
    or_true : (a : Bool) → (a || true) ≡ true
    or_true true = refl
    or_true false = refl

    by : (m : ℕ) → m < length ts → (q : Bool) → nat_eq n m ≡ q → slice_get (slice_set marks n true) m ≡ Some (among (trees_at ts order) (tree_at ts m) || same_tree (tree_at ts n) (tree_at ts m))
    by m lm true e =
        let same : n ≡ m = nat_eq-exact n m e in
        let q = sym (same_at ts n m b l lm) ∙ e in
        let z : n < length marks = (let s = h.size in omega arith) in
        ap (slice_get (slice_set marks n true)) (sym same)
        ∙ (set_here marks n true z ∙ ap Some (sym (ap (λ (c : Bool). among (trees_at ts order) (tree_at ts m) || c) q ∙ or_true (among (trees_at ts order) (tree_at ts m)))))
    by m lm false e =
        let q = sym (same_at ts n m b l lm) ∙ e in
        set_there marks n m true (unlike n m e)
        ∙ (h.marked m lm ∙ ap Some (sym (ap (λ (c : Bool). among (trees_at ts order) (tree_at ts m) || c) q ∙ or-false (among (trees_at ts order) (tree_at ts m)))))

pub seen_mark : (ts : List Numbered) (marks : List Bool) (order : List ℕ) (n : ℕ) (b : Bool) → IsSeen ts marks order → n < length ts → b ≡ get_or marks n b → among (trees_at ts order) (tree_at ts n) ≡ b
seen_mark ts marks order n b h l e =
    let s = h.size in
    let z : n < length marks = omega arith in
    let g = slice_get-get_or marks n b z in
    some_is (among (trees_at ts order) (tree_at ts n)) b (sym (h.marked n l) ∙ (g ∙ ap Some (sym e)))
  where
    some_is : (x y : Bool) → Some x ≡ Some y → x ≡ y
    some_is x y e = cc

-- nothing was seen yet
false_at : (size n : ℕ) → n < size → slice_get (replicate size false) n ≡ Some false
false_at zero n l = absurd (omega arith)
false_at (suc size) zero l = refl
false_at (suc size) (suc n) l = false_at size n (omega arith)

pub seen_begins : (ts : List Numbered) (marks : List Bool) → marks ≡ replicate (length ts) false → IsSeen ts marks []
seen_begins ts marks e = record {
  size = ap length e ∙ length-replicate (length ts) false;
  marked = λ n l. ap (λ (xs : List Bool). slice_get xs n) e ∙ false_at (length ts) n l;
  below = tt;
}

-- a bank has a term at each number below its size
pub get_some : (o : Option (Bor Numbered)) (ts : List Numbered) (n : ℕ) → option_copied o ≡ slice_get ts n → n < length ts → IsSome o
get_some None ts n e l = let g = slice_get-get_or ts n (flag_at 0 false) l in absurd (cc)
get_some (Some x) ts n e l = refl

pub leave_step : (ts : List Numbered) (st : List Task) (order new : List ℕ) (n : ℕ) (task : Task) → new ≡ order ++ n ∷ [] → task ≡ Leave n
    → finish ts st (trees_at ts new) ≡ finish ts (st ++ task ∷ []) (trees_at ts order)
leave_step ts st order new n task e is =
    ap (λ (o : List ℕ). finish ts st (trees_at ts o)) e
    ∙ (ap (finish ts st) (trees_at-push ts order n)
    ∙ (leave_finishes ts st n (trees_at ts order) ∙ ap (λ (s : Task). finish ts (st ++ s ∷ []) (trees_at ts order)) (sym is)))

pub root_below : (ts roots : List Numbered) (i : ℕ) (root : Numbered) → AllAmong ts (drop i roots) → i < length roots → root ≡ get_or roots i root → number_of root < length ts
root_below ts [] i root h l e = absurd (omega arith)
root_below ts (t ∷ roots) zero root h l e = slice_get_within ts (number_of root) root (subst (Among ts) (sym e) h.0)
root_below ts (t ∷ roots) (suc i) root h l e = root_below ts roots i root h (omega arith) e
