-- Terms with their numbers, as a `Term` is seen in clauses.
use Rattle.std.specs.Prelude.{ℕ, ◌+◌, max, Bool, ℤ}
use Rattle.ax_term.specs.declared.WordOp.{WordOp}
use Rattle.ax_term.specs.declared.TestOp.{TestOp}
use Rattle.ax_term.specs.Tree.{Tree, word, word_sym, flag, flag_sym, make, compare, no, all, pick}

-- a tree each of whose nodes has its number first
pub data Numbered : Type 0 where
  word_at : ℕ → ℤ → Numbered
  word_sym_at : ℕ → ℕ → Numbered
  flag_at : ℕ → Bool → Numbered
  flag_sym_at : ℕ → ℕ → Numbered
  make_at : ℕ → WordOp → Numbered → Numbered → Numbered
  compare_at : ℕ → TestOp → Numbered → Numbered → Numbered
  no_at : ℕ → Numbered → Numbered
  all_at : ℕ → Numbered → Numbered → Numbered
  pick_at : ℕ → Numbered → Numbered → Numbered → Numbered

-- the number of the root
abbrev pub number_of : Numbered → ℕ
number_of (word_at n z) = n
number_of (word_sym_at n k) = n
number_of (flag_at n b) = n
number_of (flag_sym_at n k) = n
number_of (make_at n op a b) = n
number_of (compare_at n op a b) = n
number_of (no_at n f) = n
number_of (all_at n f g) = n
number_of (pick_at n f a b) = n

-- the tree without its numbers
abbrev pub tree : Numbered → Tree
tree (word_at n z) = word z
tree (word_sym_at n k) = word_sym k
tree (flag_at n b) = flag b
tree (flag_sym_at n k) = flag_sym k
tree (make_at n op a b) = make op (tree a) (tree b)
tree (compare_at n op a b) = compare op (tree a) (tree b)
tree (no_at n f) = no (tree f)
tree (all_at n f g) = all (tree f) (tree g)
tree (pick_at n f a b) = pick (tree f) (tree a) (tree b)

-- the number of edges on the longest way from the root to a leaf
abbrev pub height : Numbered → ℕ
height (word_at n z) = 0
height (word_sym_at n k) = 0
height (flag_at n b) = 0
height (flag_sym_at n k) = 0
height (make_at n op a b) = max (height a) (height b) + 1
height (compare_at n op a b) = max (height a) (height b) + 1
height (no_at n f) = height f + 1
height (all_at n f g) = max (height f) (height g) + 1
height (pick_at n f a b) = max (height f) (max (height a) (height b)) + 1
