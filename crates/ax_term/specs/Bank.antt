-- What a bank of terms keeps.
use Rattle.std.specs.Prelude.{◌≡◌, ℕ, ◌<◌, true, false, List, [], ◌∷◌, ◌++◌, ◌⊎◌, map, slice_get, Some}
use Rattle.ax_term.specs.Tree.{is_word}
use Rattle.ax_term.specs.Numbered.{Numbered, word_at, word_sym_at, flag_at, flag_sym_at, make_at, compare_at, no_at, all_at, pick_at, number_of, tree}
use Rattle.ax_term.specs.declared.Key.{Key}
use Rattle.ax_term.specs.declared.Key.TheVariants.{WordKey, WordSymKey, FlagKey, FlagSymKey, MakeKey, CompareKey, NoKey, AllKey, PickKey}

-- the term stands in the bank, at its number
abbrev pub Among : List Numbered → Numbered → Type 0
Among ts t = slice_get ts (number_of t) ≡ Some t

-- the bank has the word, and the flag
abbrev pub HasWord : List Numbered → Numbered → Type 0
HasWord ts t = Among ts t × (is_word (tree t) ≡ true)

abbrev pub HasFlag : List Numbered → Numbered → Type 0
HasFlag ts t = Among ts t × (is_word (tree t) ≡ false)

-- each child of t is the bank's, of its sort, with a number below n
abbrev pub WordBefore : List Numbered → ℕ → Numbered → Type 0
WordBefore ts n c = (number_of c < n) × HasWord ts c

abbrev pub FlagBefore : List Numbered → ℕ → Numbered → Type 0
FlagBefore ts n c = (number_of c < n) × HasFlag ts c

abbrev pub ChildrenBefore : List Numbered → ℕ → Numbered → Type 0
ChildrenBefore ts n (word_at m z) = Unit {0}
ChildrenBefore ts n (word_sym_at m k) = Unit {0}
ChildrenBefore ts n (flag_at m b) = Unit {0}
ChildrenBefore ts n (flag_sym_at m k) = Unit {0}
ChildrenBefore ts n (make_at m op a b) = WordBefore ts n a × WordBefore ts n b
ChildrenBefore ts n (compare_at m op a b) = WordBefore ts n a × WordBefore ts n b
ChildrenBefore ts n (no_at m f) = FlagBefore ts n f
ChildrenBefore ts n (all_at m f g) = FlagBefore ts n f × FlagBefore ts n g
ChildrenBefore ts n (pick_at m f a b) = FlagBefore ts n f × WordBefore ts n a × WordBefore ts n b

-- the terms of a bank by number: children come before parents, and equal trees have one number
pub record IsBank (ts : List Numbered) : Type 0 where
  pub numbered : (i : ℕ) (t : Numbered) → slice_get ts i ≡ Some t → number_of t ≡ i
  pub before : (i : ℕ) (t : Numbered) → slice_get ts i ≡ Some t → ChildrenBefore ts i t
  pub shared : (a b : Numbered) → Among ts a → Among ts b → tree a ≡ tree b → a ≡ b

-- each term of the old bank is one of the new
abbrev pub Stay : List Numbered → List Numbered → Type 0
Stay old new = (t : Numbered) → Among old t → Among new t

-- the bank is as it was, or t is new in it
abbrev pub GainsAtMost : List Numbered → List Numbered → Numbered → Type 0
GainsAtMost old new t = (new ≡ old) ⊎ (new ≡ old ++ t ∷ [])

-- what a term is found by: its node, with the children's numbers
abbrev pub key_of : Numbered → Key
key_of (word_at n z) = WordKey z
key_of (word_sym_at n k) = WordSymKey k
key_of (flag_at n b) = FlagKey b
key_of (flag_sym_at n k) = FlagSymKey k
key_of (make_at n op a b) = MakeKey op (number_of a) (number_of b)
key_of (compare_at n op a b) = CompareKey op (number_of a) (number_of b)
key_of (no_at n f) = NoKey (number_of f)
key_of (all_at n f g) = AllKey (number_of f) (number_of g)
key_of (pick_at n f a b) = PickKey (number_of f) (number_of a) (number_of b)

abbrev pub terms_of : List (Key × Numbered) → List Numbered
terms_of es = map (λ (e : Key × Numbered). e.1) es

-- each entry's key is its term's
abbrev pub KeysMatch : List (Key × Numbered) → Type 0
KeysMatch [] = Unit {0}
KeysMatch (e ∷ es) = (e.0 ≡ key_of e.1) × KeysMatch es

-- a table of terms by key, in the order of their numbers
pub record IsTable (es : List (Key × Numbered)) : Type 0 where
  pub keys : KeysMatch es
  pub bank : IsBank (terms_of es)
