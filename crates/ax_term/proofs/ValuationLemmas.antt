-- Values of a bank's terms by number.
use Rattle.std.proofs.Common.{◌≡◌, ℕ, zero, suc, ◌<◌, Bool, if◌then◌else◌, ℤ, List, [], ◌∷◌, ◌++◌, take, slice_get, Some, refl, ap, sym, subst, ◌∙◌, arith}
use Rattle.ax_base.specs.Arithmetic.{truth}
use Rattle.ax_term.specs.Numbered.{Numbered, number_of, tree}
use Rattle.ax_term.specs.NumberedOf.{numbered_of}
use Rattle.ax_term.specs.Values.{Interpretation, word_under, flag_under, value_under}
use Rattle.ax_term.specs.Bank.{Among, WordBefore, FlagBefore, ChildrenBefore, IsBank}
use Rattle.ax_term.specs.Valuation.{values_of, WordValued, FlagValued, ChildrenValued}
use Rattle.ax_term.specs.declared.Node.{Node}
use Rattle.ax_term.specs.declared.Node.TheVariants.{Word, WordSym, Flag, FlagSym, Make, Compare, No, All, Pick}

module _ (i : Interpretation) where
  value_before : (ts : List Numbered) (n m : ℕ) (c : Numbered) → m < n → slice_get ts m ≡ Some c → slice_get (values_of i (take n ts)) m ≡ Some (value_under i (tree c))
  value_before [] n m c h g = cc
  value_before (t ∷ ts) zero m c h g = absurd (omega arith)
  value_before (t ∷ ts) (suc n) zero c h g = let e : t ≡ c = cc in ap (λ (x : Numbered). Some (value_under i (tree x))) e
  value_before (t ∷ ts) (suc n) (suc m) c h g = value_before ts n m c (omega arith) g

  word_valued : (ts : List Numbered) (n : ℕ) (c : Numbered) → WordBefore ts n c → WordValued i (values_of i (take n ts)) c
  word_valued ts n c b = value_before ts n (number_of c) c b.0 b.1.0 ∙ ap (λ (w : Bool). Some (if w then word_under i (tree c) else truth (flag_under i (tree c)))) b.1.1

  flag_valued : (ts : List Numbered) (n : ℕ) (c : Numbered) → FlagBefore ts n c → FlagValued i (values_of i (take n ts)) c
  flag_valued ts n c b = value_before ts n (number_of c) c b.0 b.1.0 ∙ ap (λ (w : Bool). Some (if w then word_under i (tree c) else truth (flag_under i (tree c)))) b.1.1

  valued_from : (ts : List Numbered) (n m : ℕ) (node : Node) → ChildrenBefore ts n (numbered_of m node) → ChildrenValued i (values_of i (take n ts)) node
  valued_from ts n m (Word z) b = tt
  valued_from ts n m (WordSym k) b = tt
  valued_from ts n m (Flag z) b = tt
  valued_from ts n m (FlagSym k) b = tt
  valued_from ts n m (Make op x y) b = (word_valued ts n x b.0, word_valued ts n y b.1)
  valued_from ts n m (Compare op x y) b = (word_valued ts n x b.0, word_valued ts n y b.1)
  valued_from ts n m (No x) b = flag_valued ts n x b
  valued_from ts n m (All x y) b = (flag_valued ts n x b.0, flag_valued ts n y b.1)
  valued_from ts n m (Pick f x y) b = (flag_valued ts n f b.0, word_valued ts n x b.1, word_valued ts n y b.2)

  -- the values of the terms before one have those of its children
  pub children_valued : (ts : List Numbered) (t : Numbered) (node : Node) → IsBank ts → Among ts t → numbered_of (number_of t) node ≡ t → ChildrenValued i (values_of i (take (number_of t) ts)) node
  children_valued ts t node b g e = valued_from ts (number_of t) (number_of t) node (subst (ChildrenBefore ts (number_of t)) (sym e) (b.before (number_of t) t g))

  pub values_of-push : (ts : List Numbered) (n : ℕ) (t : Numbered) → slice_get ts n ≡ Some t → values_of i (take (suc n) ts) ≡ values_of i (take n ts) ++ value_under i (tree t) ∷ []
  values_of-push [] n t g = cc
  values_of-push (x ∷ ts) zero t g = let e : x ≡ t = cc in ap (λ (y : Numbered). value_under i (tree y) ∷ []) e
  values_of-push (x ∷ ts) (suc n) t g = ap (λ (vs : List ℤ). value_under i (tree x) ∷ vs) (values_of-push ts n t g)

tree-numbered_of : (n m : ℕ) (node : Node) → tree (numbered_of n node) ≡ tree (numbered_of m node)
tree-numbered_of n m (Word z) = refl
tree-numbered_of n m (WordSym k) = refl
tree-numbered_of n m (Flag z) = refl
tree-numbered_of n m (FlagSym k) = refl
tree-numbered_of n m (Make op x y) = refl
tree-numbered_of n m (Compare op x y) = refl
tree-numbered_of n m (No x) = refl
tree-numbered_of n m (All x y) = refl
tree-numbered_of n m (Pick f x y) = refl

-- the tree of a term's node is the term's
pub tree-node : (t : Numbered) (node : Node) → numbered_of (number_of t) node ≡ t → tree (numbered_of 0 node) ≡ tree t
tree-node t node e = tree-numbered_of 0 (number_of t) node ∙ ap tree e
