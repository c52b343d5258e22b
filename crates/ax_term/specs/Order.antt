-- The distinct subterms of terms, each after its children, children left to right, in order of first visit.
use Rattle.std.specs.Prelude.{◌≡◌, ℕ, ◌<◌, Bool, true, false, ◌||◌, if◌then◌else◌, List, [], ◌∷◌, ◌++◌, Option, Some, None, slice_get}
use Rattle.ax_term.specs.Tree.{Tree, word, word_sym, flag, flag_sym, make, compare, no, all, pick}
use Rattle.ax_term.specs.Numbered.{Numbered, tree}
use Rattle.ax_term.specs.Bank.{Among}
use Rattle.ax_term.specs.Folding.{same_tree}

-- whether the tree is one of these
abbrev pub among : List Tree → Tree → Bool
among [] t = false
among (s ∷ ss) t = same_tree s t || among ss t

-- what was seen, and then the tree's subterms that were not
abbrev pub visit : List Tree → Tree → List Tree
visit seen (word z) = if among seen (word z) then seen else seen ++ word z ∷ []
visit seen (word_sym k) = if among seen (word_sym k) then seen else seen ++ word_sym k ∷ []
visit seen (flag b) = if among seen (flag b) then seen else seen ++ flag b ∷ []
visit seen (flag_sym k) = if among seen (flag_sym k) then seen else seen ++ flag_sym k ∷ []
visit seen (make op a b) = if among seen (make op a b) then seen else visit (visit seen a) b ++ make op a b ∷ []
visit seen (compare op a b) = if among seen (compare op a b) then seen else visit (visit seen a) b ++ compare op a b ∷ []
visit seen (no f) = if among seen (no f) then seen else visit seen f ++ no f ∷ []
visit seen (all f g) = if among seen (all f g) then seen else visit (visit seen f) g ++ all f g ∷ []
visit seen (pick f a b) = if among seen (pick f a b) then seen else visit (visit (visit seen f) a) b ++ pick f a b ∷ []

abbrev pub visit_all : List Tree → List Tree → List Tree
visit_all seen [] = seen
visit_all seen (t ∷ ts) = visit_all (visit seen t) ts

-- the subterms of the asserted terms, and then those of the named ones
abbrev pub order_of : List Tree → List Tree → List Tree
order_of asserted named = visit_all (visit_all [] asserted) named

-- the tree of a number of a bank
abbrev pub tree_or : Option Numbered → Tree
tree_or None = flag false
tree_or (Some t) = tree t

abbrev pub tree_at : List Numbered → ℕ → Tree
tree_at ts n = tree_or (slice_get ts n)

abbrev pub trees_at : List Numbered → List ℕ → List Tree
trees_at ts [] = []
trees_at ts (n ∷ ns) = tree_at ts n ∷ trees_at ts ns

abbrev pub trees : List Numbered → List Tree
trees [] = []
trees (t ∷ ts) = tree t ∷ trees ts

-- the numbers are below this one
abbrev pub AllBelow : ℕ → List ℕ → Type 0
AllBelow size [] = Unit {0}
AllBelow size (n ∷ ns) = (n < size) × AllBelow size ns

-- the terms stand in the bank
abbrev pub AllAmong : List Numbered → List Numbered → Type 0
AllAmong ts [] = Unit {0}
AllAmong ts (t ∷ rest) = Among ts t × AllAmong ts rest

-- the tree's children are among these
abbrev pub ChildrenAmong : List Tree → Tree → Type 0
ChildrenAmong ss (word z) = Unit {0}
ChildrenAmong ss (word_sym k) = Unit {0}
ChildrenAmong ss (flag b) = Unit {0}
ChildrenAmong ss (flag_sym k) = Unit {0}
ChildrenAmong ss (make op a b) = (among ss a ≡ true) × (among ss b ≡ true)
ChildrenAmong ss (compare op a b) = (among ss a ≡ true) × (among ss b ≡ true)
ChildrenAmong ss (no f) = among ss f ≡ true
ChildrenAmong ss (all f g) = (among ss f ≡ true) × (among ss g ≡ true)
ChildrenAmong ss (pick f a b) = (among ss f ≡ true) × (among ss a ≡ true) × (among ss b ≡ true)

-- behind the trees before, each tree comes after its children
abbrev pub AfterChildren : List Tree → List Tree → Type 0
AfterChildren before [] = Unit {0}
AfterChildren before (t ∷ ts) = ChildrenAmong before t × AfterChildren (before ++ t ∷ []) ts

-- behind the trees before, no tree comes twice
abbrev pub NoneTwice : List Tree → List Tree → Type 0
NoneTwice before [] = Unit {0}
NoneTwice before (t ∷ ts) = (among before t ≡ false) × NoneTwice (before ++ t ∷ []) ts

-- each of the trees is among these
abbrev pub AllIn : List Tree → List Tree → Type 0
AllIn ss [] = Unit {0}
AllIn ss (t ∷ ts) = (among ss t ≡ true) × AllIn ss ts
