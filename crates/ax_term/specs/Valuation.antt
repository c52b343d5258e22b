-- Values of symbols as a map has them, and values of the terms of a bank.
use Rattle.std.specs.Prelude.{◌≡◌, false, ℤ, pos, List, map, slice_get, Some, unwrap_or}
use Rattle.std.specs.Ordering.{nat_cmp}
use Rattle.std.specs.BTreeMap.{get}
use Rattle.ax_base.specs.Arithmetic.{truth}
use Rattle.ax_term.specs.Numbered.{Numbered, number_of, tree}
use Rattle.ax_term.specs.Values.{Interpretation, word_under, flag_under, value_under}
use Rattle.ax_term.specs.declared.Node.{Node}
use Rattle.ax_term.specs.declared.Node.TheVariants.{Word, WordSym, Flag, FlagSym, Make, Compare, No, All, Pick}
use Rattle.ax_term.specs.declared.valuation.Valuation.{Valuation}

-- a symbol without an entry is 0, or false
abbrev pub interpretation_of : Valuation → Interpretation
interpretation_of v = record {
  words = λ k. unwrap_or (get nat_cmp v.words k) (pos 0);
  flags = λ k. unwrap_or (get nat_cmp v.flags k) false;
}

abbrev pub values_of : Interpretation → List Numbered → List ℤ
values_of i ts = map (λ (t : Numbered). value_under i (tree t)) ts

-- the values by number have that of the word, and of the flag
abbrev pub WordValued : Interpretation → List ℤ → Numbered → Type 0
WordValued i vs c = slice_get vs (number_of c) ≡ Some (word_under i (tree c))

abbrev pub FlagValued : Interpretation → List ℤ → Numbered → Type 0
FlagValued i vs c = slice_get vs (number_of c) ≡ Some (truth (flag_under i (tree c)))

-- the values by number have those of the node's children
abbrev pub ChildrenValued : Interpretation → List ℤ → Node → Type 0
ChildrenValued i vs (Word z) = Unit {0}
ChildrenValued i vs (WordSym k) = Unit {0}
ChildrenValued i vs (Flag b) = Unit {0}
ChildrenValued i vs (FlagSym k) = Unit {0}
ChildrenValued i vs (Make op a b) = WordValued i vs a × WordValued i vs b
ChildrenValued i vs (Compare op a b) = WordValued i vs a × WordValued i vs b
ChildrenValued i vs (No f) = FlagValued i vs f
ChildrenValued i vs (All f g) = FlagValued i vs f × FlagValued i vs g
ChildrenValued i vs (Pick f a b) = FlagValued i vs f × WordValued i vs a × WordValued i vs b
