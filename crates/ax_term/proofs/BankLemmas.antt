-- Banks that gain a term at their end, or lose their newest.
use Rattle.std.proofs.Common.{◌≡◌, ℕ, zero, suc, ◌<◌, ◌≤◌, Bool, true, false, List, [], ◌∷◌, ◌++◌, length, Option, None, Some, Result, Ok, Err, MatchResult, IfOk, slice_get, nat_eq, ◌⊎◌, inl, inr, cond, option_to_list, append-nil, refl, ap, sym, subst, ◌∙◌, arith}
use Rattle.std.proofs.lemmas.Option.{slice_get_within}
use Rattle.std.proofs.lemmas.List.{map-append, length-map}
use Rattle.std.specs.Map.{lookup}
use Rattle.indexmap.specs.IndexMap.{insert_entry}
use Rattle.ax_term.specs.Numbered.{Numbered, word_at, word_sym_at, flag_at, flag_sym_at, make_at, compare_at, no_at, all_at, pick_at, number_of, tree}
use Rattle.ax_term.specs.NumberedOf.{numbered_of}
use Rattle.ax_term.specs.Bank.{Among, HasFlag, WordBefore, FlagBefore, ChildrenBefore, IsBank, IsTable, KeysMatch, Stay, GainsAtMost, terms_of, key_of}
use Rattle.ax_term.specs.declared.Node.{Node}
use Rattle.ax_term.specs.declared.Node.TheVariants.{Word, WordSym, Flag, FlagSym, Make, Compare, No, All, Pick}
use Rattle.ax_term.specs.declared.Key.{Key}
use Rattle.ax_term.specs.Folding.{same_tree}
use Rattle.ax_term.proofs.FoldLemmas.{same_tree-exact, same_tree-refl, nat_eq-exact, nat_eq-refl}
use Rattle.ax_term.proofs.KeyLemmas.{same_key, same_key-exact, same_key-refl}

module _ {X : Type 0} where
  pub slice_get-front : (xs ys : List X) (i : ℕ) (x : X) → slice_get xs i ≡ Some x → slice_get (xs ++ ys) i ≡ Some x
  slice_get-front [] ys i x h = cc
  slice_get-front (z ∷ xs) ys zero x h = h
  slice_get-front (z ∷ xs) ys (suc i) x h = slice_get-front xs ys i x h

  pub slice_get-within : (xs ys : List X) (i : ℕ) → i < length xs → slice_get (xs ++ ys) i ≡ slice_get xs i
  slice_get-within [] ys i h = absurd (omega arith)
  slice_get-within (z ∷ xs) ys zero h = refl
  slice_get-within (z ∷ xs) ys (suc i) h = slice_get-within xs ys i (omega arith)

  pub slice_get-seam : (xs : List X) (y : X) → slice_get (xs ++ y ∷ []) (length xs) ≡ Some y
  slice_get-seam [] y = refl
  slice_get-seam (z ∷ xs) y = slice_get-seam xs y

  pub slice_get-push : (xs : List X) (y x : X) (i : ℕ) → slice_get (xs ++ y ∷ []) i ≡ Some x → (slice_get xs i ≡ Some x) ⊎ ((i ≡ length xs) × (x ≡ y))
  slice_get-push [] y x zero h = inr (refl, cc)
  slice_get-push [] y x (suc i) h = cc
  slice_get-push (z ∷ xs) y x zero h = inl h
  slice_get-push (z ∷ xs) y x (suc i) h = elim (slice_get-push xs y x i h) [ inl p ↦ inl p | inr q ↦ inr (omega arith, q.1) ]

-- two terms of a bank with one number are one
pub Among-one : (ts : List Numbered) (a b : Numbered) → Among ts a → Among ts b → number_of a ≡ number_of b → a ≡ b
Among-one ts a b ha hb e = let h : Some a ≡ Some b = sym ha ∙ (ap (slice_get ts) e ∙ hb) in cc

-- ---- a bank without its newest term

module _ (ts : List Numbered) (s : Numbered) (n : ℕ) (within : n ≤ length ts) where
  word-front : (c : Numbered) → WordBefore (ts ++ s ∷ []) n c → WordBefore ts n c
  word-front c b = (b.0, (sym (slice_get-within ts (s ∷ []) (number_of c) (omega arith)) ∙ b.1.0, b.1.1))

  flag-front : (c : Numbered) → FlagBefore (ts ++ s ∷ []) n c → FlagBefore ts n c
  flag-front c b = (b.0, (sym (slice_get-within ts (s ∷ []) (number_of c) (omega arith)) ∙ b.1.0, b.1.1))

  ChildrenBefore-front : (t : Numbered) → ChildrenBefore (ts ++ s ∷ []) n t → ChildrenBefore ts n t
  ChildrenBefore-front (word_at m z) b = tt
  ChildrenBefore-front (word_sym_at m k) b = tt
  ChildrenBefore-front (flag_at m z) b = tt
  ChildrenBefore-front (flag_sym_at m k) b = tt
  ChildrenBefore-front (make_at m op x y) b = (word-front x b.0, word-front y b.1)
  ChildrenBefore-front (compare_at m op x y) b = (word-front x b.0, word-front y b.1)
  ChildrenBefore-front (no_at m x) b = flag-front x b
  ChildrenBefore-front (all_at m x y) b = (flag-front x b.0, flag-front y b.1)
  ChildrenBefore-front (pick_at m f x y) b = (flag-front f b.0, word-front x b.1, word-front y b.2)

pub IsBank-front : (ts : List Numbered) (s : Numbered) → IsBank (ts ++ s ∷ []) → IsBank ts
IsBank-front ts s b = record {
  numbered = λ i t h. b.numbered i t (slice_get-front ts (s ∷ []) i t h);
  before = λ i t h. (let lt : i < length ts = slice_get_within ts i t h in
      ChildrenBefore-front ts s i (omega arith) t (b.before i t (slice_get-front ts (s ∷ []) i t h)));
  shared = λ x y h k e. b.shared x y (slice_get-front ts (s ∷ []) (number_of x) x h) (slice_get-front ts (s ∷ []) (number_of y) y k) e;
}

terms_of-append : (es fs : List (Key × Numbered)) → terms_of (es ++ fs) ≡ terms_of es ++ terms_of fs
terms_of-append es fs = map-append (λ (e : Key × Numbered). e.1) es fs

KeysMatch-front : (es fs : List (Key × Numbered)) → KeysMatch (es ++ fs) → KeysMatch es
KeysMatch-front [] fs h = tt
KeysMatch-front (e ∷ es) fs h = (h.0, KeysMatch-front es fs h.1)

IsTable-front : (es : List (Key × Numbered)) (e : Key × Numbered) → IsTable (es ++ e ∷ []) → IsTable es
IsTable-front es e t = record { keys = KeysMatch-front es (e ∷ []) t.keys; bank = IsBank-front (terms_of es) e.1 (rw (terms_of-append es (e ∷ [])) at t.bank) }

-- a table that loses its last entry is one
pub IsTable-pop : (old new : List (Key × Numbered)) (r : Option (Key × Numbered)) → old ≡ new ++ option_to_list r → IsTable old → IsTable new
IsTable-pop old new None e t = let e2 : old ≡ new = e ∙ append-nil new in subst IsTable e2 t
IsTable-pop old new (Some x) e t = IsTable-front new x (subst IsTable e t)

-- ---- a bank with one more term

module _ (ts : List Numbered) (s : Numbered) (n : ℕ) where
  word-push : (c : Numbered) → WordBefore ts n c → WordBefore (ts ++ s ∷ []) n c
  word-push c b = (b.0, (slice_get-front ts (s ∷ []) (number_of c) c b.1.0, b.1.1))

  flag-push : (c : Numbered) → FlagBefore ts n c → FlagBefore (ts ++ s ∷ []) n c
  flag-push c b = (b.0, (slice_get-front ts (s ∷ []) (number_of c) c b.1.0, b.1.1))

  ChildrenBefore-push : (t : Numbered) → ChildrenBefore ts n t → ChildrenBefore (ts ++ s ∷ []) n t
  ChildrenBefore-push (word_at m z) b = tt
  ChildrenBefore-push (word_sym_at m k) b = tt
  ChildrenBefore-push (flag_at m z) b = tt
  ChildrenBefore-push (flag_sym_at m k) b = tt
  ChildrenBefore-push (make_at m op x y) b = (word-push x b.0, word-push y b.1)
  ChildrenBefore-push (compare_at m op x y) b = (word-push x b.0, word-push y b.1)
  ChildrenBefore-push (no_at m x) b = flag-push x b
  ChildrenBefore-push (all_at m x y) b = (flag-push x b.0, flag-push y b.1)
  ChildrenBefore-push (pick_at m f x y) b = (flag-push f b.0, word-push x b.1, word-push y b.2)

-- a term of the bank with the tree of a node over terms of the bank has its key
same_tree-key : (ts : List Numbered) (n : ℕ) (t s : Numbered) → IsBank ts → Among ts t → ChildrenBefore ts n s → tree t ≡ tree s → key_of t ≡ key_of s
same_tree-key ts n (word_at m x) (word_at l y) b g h e = cc
same_tree-key ts n (word_sym_at m x) (word_sym_at l y) b g h e = cc
same_tree-key ts n (flag_at m x) (flag_at l y) b g h e = cc
same_tree-key ts n (flag_sym_at m x) (flag_sym_at l y) b g h e = cc
same_tree-key ts n (make_at m p x y) (make_at l q u v) b g h e =
    let c = b.before m (make_at m p x y) g in
    let e0 : x ≡ u = b.shared x u c.0.1.0 h.0.1.0 cc in let e1 : y ≡ v = b.shared y v c.1.1.0 h.1.1.0 cc in cc
same_tree-key ts n (compare_at m p x y) (compare_at l q u v) b g h e =
    let c = b.before m (compare_at m p x y) g in
    let e0 : x ≡ u = b.shared x u c.0.1.0 h.0.1.0 cc in let e1 : y ≡ v = b.shared y v c.1.1.0 h.1.1.0 cc in cc
same_tree-key ts n (no_at m x) (no_at l u) b g h e =
    let c = b.before m (no_at m x) g in
    let e0 : x ≡ u = b.shared x u c.1.0 h.1.0 cc in cc
same_tree-key ts n (all_at m x y) (all_at l u v) b g h e =
    let c = b.before m (all_at m x y) g in
    let e0 : x ≡ u = b.shared x u c.0.1.0 h.0.1.0 cc in let e1 : y ≡ v = b.shared y v c.1.1.0 h.1.1.0 cc in cc
same_tree-key ts n (pick_at m x y z) (pick_at l u v w) b g h e =
    let c = b.before m (pick_at m x y z) g in
    let e0 : x ≡ u = b.shared x u c.0.1.0 h.0.1.0 cc in let e1 : y ≡ v = b.shared y v c.1.1.0 h.1.1.0 cc in
    let e2 : z ≡ w = b.shared z w c.2.1.0 h.2.1.0 cc in cc
same_tree-key ts n t s b g h e = cc

module _ (ts : List Numbered) (s : Numbered) (b : IsBank ts) (e : number_of s ≡ length ts) (h : ChildrenBefore ts (length ts) s)
    (absent : (t : Numbered) → Among ts t → key_of t ≡ key_of s → ⊥) where
  shared-push : (x y : Numbered) → Among (ts ++ s ∷ []) x → Among (ts ++ s ∷ []) y → tree x ≡ tree y → x ≡ y
  shared-push x y g k same = elim (slice_get-push ts s x (number_of x) g) [
    | inl p ↦ elim (slice_get-push ts s y (number_of y) k) [
      | inl q ↦ b.shared x y p q same
      | inr q ↦ absurd (absent x p (same_tree-key ts (length ts) x s b p h (same ∙ ap tree q.1)))
    ]
    | inr p ↦ elim (slice_get-push ts s y (number_of y) k) [
      | inl q ↦ absurd (absent y q (same_tree-key ts (length ts) y s b q h (sym same ∙ ap tree p.1)))
      | inr q ↦ p.1 ∙ sym q.1
    ]
  ]

  IsBank-push : IsBank (ts ++ s ∷ [])
  IsBank-push = record {
    numbered = λ i t g. elim (slice_get-push ts s t i g) [ inl p ↦ b.numbered i t p | inr q ↦ ap number_of q.1 ∙ (e ∙ sym q.0) ];
    before = λ i t g. elim (slice_get-push ts s t i g) [ inl p ↦ ChildrenBefore-push ts s i t (b.before i t p) | inr q ↦ rw (q.0, q.1) (ChildrenBefore-push ts s (length ts) s h) ];
    shared = shared-push;
  }

-- ---- what a look-up finds

number_of-numbered_of : (n : ℕ) (node : Node) → number_of (numbered_of n node) ≡ n
number_of-numbered_of n (Word z) = refl
number_of-numbered_of n (WordSym k) = refl
number_of-numbered_of n (Flag z) = refl
number_of-numbered_of n (FlagSym k) = refl
number_of-numbered_of n (Make p x y) = refl
number_of-numbered_of n (Compare p x y) = refl
number_of-numbered_of n (No x) = refl
number_of-numbered_of n (All x y) = refl
number_of-numbered_of n (Pick x y z) = refl

key_of-numbered_of : (n m : ℕ) (node : Node) → key_of (numbered_of n node) ≡ key_of (numbered_of m node)
key_of-numbered_of n m (Word z) = refl
key_of-numbered_of n m (WordSym k) = refl
key_of-numbered_of n m (Flag z) = refl
key_of-numbered_of n m (FlagSym k) = refl
key_of-numbered_of n m (Make p x y) = refl
key_of-numbered_of n m (Compare p x y) = refl
key_of-numbered_of n m (No x) = refl
key_of-numbered_of n m (All x y) = refl
key_of-numbered_of n m (Pick x y z) = refl

ChildrenBefore-numbered_of : (ts : List Numbered) (k n m : ℕ) (node : Node) → ChildrenBefore ts k (numbered_of n node) → ChildrenBefore ts k (numbered_of m node)
ChildrenBefore-numbered_of ts k n m (Word z) h = h
ChildrenBefore-numbered_of ts k n m (WordSym j) h = h
ChildrenBefore-numbered_of ts k n m (Flag z) h = h
ChildrenBefore-numbered_of ts k n m (FlagSym j) h = h
ChildrenBefore-numbered_of ts k n m (Make p x y) h = h
ChildrenBefore-numbered_of ts k n m (Compare p x y) h = h
ChildrenBefore-numbered_of ts k n m (No x) h = h
ChildrenBefore-numbered_of ts k n m (All x y) h = h
ChildrenBefore-numbered_of ts k n m (Pick x y z) h = h

-- a term of the bank that has the key of a node is that node's
same_key-node : (ts : List Numbered) (n : ℕ) (t : Numbered) (node : Node) → IsBank ts → Among ts t → ChildrenBefore ts n (numbered_of 0 node) → key_of t ≡ key_of (numbered_of 0 node) → t ≡ numbered_of (number_of t) node
same_key-node ts n (word_at m x) (Word y) b g h e = cc
same_key-node ts n (word_sym_at m x) (WordSym y) b g h e = cc
same_key-node ts n (flag_at m x) (Flag y) b g h e = cc
same_key-node ts n (flag_sym_at m x) (FlagSym y) b g h e = cc
same_key-node ts n (make_at m p x y) (Make q u v) b g h e =
    let c = b.before m (make_at m p x y) g in
    let e0 : x ≡ u = Among-one ts x u c.0.1.0 h.0.1.0 cc in let e1 : y ≡ v = Among-one ts y v c.1.1.0 h.1.1.0 cc in cc
same_key-node ts n (compare_at m p x y) (Compare q u v) b g h e =
    let c = b.before m (compare_at m p x y) g in
    let e0 : x ≡ u = Among-one ts x u c.0.1.0 h.0.1.0 cc in let e1 : y ≡ v = Among-one ts y v c.1.1.0 h.1.1.0 cc in cc
same_key-node ts n (no_at m x) (No u) b g h e =
    let c = b.before m (no_at m x) g in
    let e0 : x ≡ u = Among-one ts x u c.1.0 h.1.0 cc in cc
same_key-node ts n (all_at m x y) (All u v) b g h e =
    let c = b.before m (all_at m x y) g in
    let e0 : x ≡ u = Among-one ts x u c.0.1.0 h.0.1.0 cc in let e1 : y ≡ v = Among-one ts y v c.1.1.0 h.1.1.0 cc in cc
same_key-node ts n (pick_at m x y z) (Pick u v w) b g h e =
    let c = b.before m (pick_at m x y z) g in
    let e0 : x ≡ u = Among-one ts x u c.0.1.0 h.0.1.0 cc in let e1 : y ≡ v = Among-one ts y v c.1.1.0 h.1.1.0 cc in
    let e2 : z ≡ w = Among-one ts z w c.2.1.0 h.2.1.0 cc in cc
same_key-node ts n t node b g h e = cc

abbrev Found : List (Key × Numbered) → Key → Numbered → Type 0
Found es key t = (i : ℕ) × (slice_get (terms_of es) i ≡ Some t) × (key_of t ≡ key)

lookup_found : (es : List (Key × Numbered)) (key : Key) (t : Numbered) → Some t ≡ lookup (same_key key) es → KeysMatch es → Found es key t
lookup_found [] key t h k = cc
lookup_found (e ∷ es) key t h k = by (same_key key e.0) refl (λ q. lookup_found es key t q k.1)
  where
    by : (b : Bool) → same_key key e.0 ≡ b → (Some t ≡ lookup (same_key key) es → Found es key t) → Found (e ∷ es) key t
    by true q rest = let w : Some t ≡ Some e.1 = h ∙ ap (λ (c : Bool). cond c (Some e.1) (lookup (same_key key) es)) q in let v : t ≡ e.1 = cc in (0, ap Some (sym v), ap key_of v ∙ (sym k.0 ∙ sym (same_key-exact key e.0 q)))
    by false q rest = let r = rest (h ∙ ap (λ (c : Bool). cond c (Some e.1) (lookup (same_key key) es)) q) in (suc r.0, r.1, r.2)

lookup_absent : (es : List (Key × Numbered)) (key : Key) (t : Numbered) → lookup (same_key key) es ≡ None → KeysMatch es → (i : ℕ) → slice_get (terms_of es) i ≡ Some t → key_of t ≡ key → ⊥
lookup_absent [] key t h k i g e = cc
lookup_absent (x ∷ es) key t h k i g e = by (same_key key x.0) refl (λ q j s. lookup_absent es key t q k.1 j s e) i g
  where
    by : (b : Bool) → same_key key x.0 ≡ b → (lookup (same_key key) es ≡ None → (j : ℕ) → slice_get (terms_of es) j ≡ Some t → ⊥) → (j : ℕ) → slice_get (terms_of (x ∷ es)) j ≡ Some t → ⊥
    by true q rest j s = let w : Some x.1 ≡ None = sym (ap (λ (c : Bool). cond c (Some x.1) (lookup (same_key key) es)) q) ∙ h in cc
    by false q rest zero s = let v : x.1 ≡ t = cc in let w : key ≡ x.0 = sym e ∙ (ap key_of (sym v) ∙ sym k.0) in let z : same_key key x.0 ≡ true = ap (same_key key) (sym w) ∙ same_key-refl key in cc
    by false q rest (suc j) s = rest (sym (ap (λ (c : Bool). cond c (Some x.1) (lookup (same_key key) es)) q) ∙ h) j s

-- what a look-up of a node's key finds is that node's term
pub found_term : (es : List (Key × Numbered)) (key : Key) (t : Numbered) (n : ℕ) (node : Node) → IsTable es → key ≡ key_of (numbered_of 0 node) → ChildrenBefore (terms_of es) n (numbered_of 0 node) → Some t ≡ lookup (same_key key) es → (t ≡ numbered_of (number_of t) node) × Among (terms_of es) t
found_term es key t n node b e h f =
    let r = lookup_found es key t f b.keys in
    let g : Among (terms_of es) t = ap (slice_get (terms_of es)) (b.bank.numbered r.0 t r.1) ∙ r.1 in
    (same_key-node (terms_of es) n t node b.bank g h (r.2 ∙ e), g)

-- ---- what an insertion makes

KeysMatch-append : (es fs : List (Key × Numbered)) → KeysMatch es → KeysMatch fs → KeysMatch (es ++ fs)
KeysMatch-append [] fs h k = k
KeysMatch-append (e ∷ es) fs h k = (h.0, KeysMatch-append es fs h.1 k)

pushed_table : (es : List (Key × Numbered)) (key : Key) (n : ℕ) (node : Node) → IsTable es → n ≡ length (terms_of es) → key ≡ key_of (numbered_of 0 node) → ChildrenBefore (terms_of es) (length (terms_of es)) (numbered_of 0 node) → lookup (same_key key) es ≡ None → IsTable (es ++ (key, numbered_of n node) ∷ [])
pushed_table es key n node b l e h f =
    let k : key ≡ key_of (numbered_of n node) = e ∙ key_of-numbered_of 0 n node in
    record {
      keys = KeysMatch-append es ((key, numbered_of n node) ∷ []) b.keys (k, tt);
      bank = rw (terms_of-append es ((key, numbered_of n node) ∷ [])) (IsBank-push (terms_of es) (numbered_of n node) b.bank (number_of-numbered_of n node ∙ l) (ChildrenBefore-numbered_of (terms_of es) (length (terms_of es)) 0 n node h) (λ t g same. lookup_absent es key t f b.keys (number_of t) g (same ∙ sym k)));
    }

insert_absent : (es : List (Key × Numbered)) (key : Key) (t : Numbered) → lookup (same_key key) es ≡ None → insert_entry same_key es key t ≡ es ++ (key, t) ∷ []
insert_absent [] key t f = refl
insert_absent (x ∷ es) key t f = by (same_key key x.0) refl (λ q. insert_absent es key t q)
  where
    by : (b : Bool) → same_key key x.0 ≡ b → (lookup (same_key key) es ≡ None → insert_entry same_key es key t ≡ es ++ (key, t) ∷ []) → insert_entry same_key (x ∷ es) key t ≡ x ∷ es ++ (key, t) ∷ []
    by true q rest = let w : Some x.1 ≡ None = sym (ap (λ (c : Bool). cond c (Some x.1) (lookup (same_key key) es)) q) ∙ f in cc
    by false q rest = ap (λ (c : Bool). cond c ((x.0, t) ∷ es) (x ∷ insert_entry same_key es key t)) q ∙ ap (λ (r : List (Key × Numbered)). x ∷ r) (rest (sym (ap (λ (c : Bool). cond c (Some x.1) (lookup (same_key key) es)) q) ∙ f))

module _ (es new : List (Key × Numbered)) (key : Key) (n : ℕ) (node : Node) (kept : Numbered) (is : kept ≡ numbered_of n node) (f : lookup (same_key key) es ≡ None) (g : new ≡ insert_entry same_key es key kept) where
  inserted : new ≡ es ++ (key, numbered_of n node) ∷ []
  inserted = g ∙ (insert_absent es key kept f ∙ ap (λ (t : Numbered). es ++ (key, t) ∷ []) is)

  pub inserted_table : IsTable es → n ≡ length es → key ≡ key_of (numbered_of 0 node) → ChildrenBefore (terms_of es) (length (terms_of es)) (numbered_of 0 node) → IsTable new
  inserted_table b l e h = rw inserted (pushed_table es key n node b (l ∙ sym (length-map es (λ (e : Key × Numbered). e.1))) e h f)

  pub inserted_terms : terms_of new ≡ terms_of es ++ numbered_of n node ∷ []
  inserted_terms = rw inserted (terms_of-append es ((key, numbered_of n node) ∷ []))

  pub inserted_among : n ≡ length es → Among (terms_of new) (numbered_of n node)
  inserted_among l =
      let at : number_of (numbered_of n node) ≡ length (terms_of es) = number_of-numbered_of n node ∙ (l ∙ sym (length-map es (λ (e : Key × Numbered). e.1))) in
      rw (inserted_terms, at) (slice_get-seam (terms_of es) (numbered_of n node))

-- ---- what the calls' answers need

pub IfOk-clone : (E : Type 0) (r : Result Numbered E) (x : Numbered) (Q : E → Type 0) (P : Numbered → Type 0) → MatchResult r (λ t. t ≡ x) Q → P x → IfOk r P
IfOk-clone E (Ok t) x Q P h p = subst P (sym h) p
IfOk-clone E (Err e) x Q P h p = tt

-- a term stays where the bank gains one
pub Stay-gains : (old new : List Numbered) (t : Numbered) → GainsAtMost old new t → Stay old new
Stay-gains old new t (inl e) s h = rw e h
Stay-gains old new t (inr e) s h = rw e (slice_get-front old (t ∷ []) (number_of s) s h)

-- terms of a bank have one number exactly where they have one tree
pub same_number : (ts : List Numbered) (a b : Numbered) → IsBank ts → Among ts a → Among ts b → nat_eq (number_of a) (number_of b) ≡ same_tree (tree a) (tree b)
same_number ts a b k ha hb = by (nat_eq (number_of a) (number_of b)) (same_tree (tree a) (tree b)) refl refl
  where
    by : (p q : Bool) → nat_eq (number_of a) (number_of b) ≡ p → same_tree (tree a) (tree b) ≡ q → p ≡ q
    by true true hp hq = refl
    by false false hp hq = refl
    by true false hp hq = let e : a ≡ b = Among-one ts a b ha hb (nat_eq-exact (number_of a) (number_of b) hp) in sym (sym hq ∙ (ap (λ (t : Numbered). same_tree (tree a) (tree t)) (sym e) ∙ same_tree-refl (tree a)))
    by false true hp hq = let e : a ≡ b = k.shared a b ha hb (same_tree-exact (tree a) (tree b) hq) in sym hp ∙ (ap (λ (t : Numbered). nat_eq (number_of a) (number_of t)) (sym e) ∙ nat_eq-refl (number_of a))

-- the child of a negation that the bank has is its flag
pub no_child : (ts : List Numbered) (t : Numbered) (node : Node) (g : Numbered) → IsBank ts → Among ts t → numbered_of (number_of t) node ≡ t → node ≡ No g → HasFlag ts g
no_child ts t node g b h e is =
    let k : t ≡ no_at (number_of t) g = sym e ∙ ap (numbered_of (number_of t)) is in
    let w : slice_get ts (number_of t) ≡ Some (no_at (number_of t) g) = h ∙ ap Some k in
    (b.before (number_of t) (no_at (number_of t) g) w).1
