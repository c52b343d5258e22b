-- The literals that trees were given: how many they are, and which variables they have.
use Rattle.std.proofs.Common.{◌≡◌, ℕ, zero, suc, ◌+◌, ◌≤◌, Bool, true, false, ◌||◌, List, [], ◌∷◌, ◌++◌, length, replicate, if◌then◌else◌, refl, ap, sym, subst, ◌∙◌, arith}
use Rattle.ax_proof.specs.Literal.{Literal, literal, negation}
use Rattle.ax_proof.specs.Assignment.{lit_value}
use Rattle.ax_gates.specs.Gates.{Gate, free, both, next}
use Rattle.ax_gates.specs.Words.{fresh, word_value, lit_false, Agree}
use Rattle.ax_gates.proofs.Circuits.{WithinVars, Wired, within_more, lit-agree, word-agree, fresh_within, length-fresh}
use Rattle.ax_gates.proofs.WordLaws.{pick_wired, length-pairwise}
use Rattle.ax_gates.specs.Gates.{choose}
use Rattle.ax_gates_adders.specs.Adders.{signed_value}
use Rattle.std.specs.Int.{w32, cast_signed}
use Rattle.ax_term.specs.Tree.{Tree, word, word_sym, flag, flag_sym, make, compare, no, all, pick, is_word}
use Rattle.ax_term.specs.Folding.{same_tree}
use Rattle.ax_term.specs.Values.{Interpretation, word_under, flag_under}
use Rattle.ax_term.proofs.FoldLemmas.{same_tree-exact}
use Rattle.ax_term.specs.Order.{among, ChildrenAmong, AfterChildren}
use Rattle.ax_term.proofs.Walks.{among-push}
use Rattle.ax_blast.specs.Blasting.{Place, lits_of, flag_lit, gates_of, outs_of, vars_of, place_of, places_from, HasValueBy, HasValue}
use Rattle.ax_blast.proofs.Bits.{length-word_bits, length-symbol_bits, word_bits_within, symbol_bits_within, symbol_count, symbol_wired}
use Rattle.ax_blast.proofs.Operators.{word_count, word_width, word_wired, word_within, test_count, test_wired, test_within}

abbrev pub placed : List Place → Tree → Bool
placed [] t = false
placed (p ∷ ps) t = same_tree p.term t || placed ps t

abbrev pub width_by : Bool → ℕ
width_by true = 32
width_by false = 1

-- each place has its tree's value, as many literals as the sort has, and variables up to n
abbrev pub AllHave : Interpretation → (ℕ → Bool) → List Place → Type 0
AllHave i v [] = Unit {0}
AllHave i v (p ∷ ps) = HasValue i v p.term p.lits × AllHave i v ps

abbrev pub AllSized : List Place → Type 0
AllSized [] = Unit {0}
AllSized (p ∷ ps) = (length p.lits ≡ width_by (is_word p.term)) × AllSized ps

abbrev pub AllWithin : ℕ → List Place → Type 0
AllWithin n [] = Unit {0}
AllWithin n (p ∷ ps) = WithinVars n p.lits × AllWithin n ps

pub found_value : (i : Interpretation) (v : ℕ → Bool) (ps : List Place) (t : Tree) → AllHave i v ps → placed ps t ≡ true → HasValue i v t (lits_of ps t)
found_value i v [] t g e = absurd (cc)
found_value i v (p ∷ ps) t g e = by (λ h. found_value i v ps t g.1 h) (same_tree p.term t) refl e
  where
    by : (placed ps t ≡ true → HasValue i v t (lits_of ps t)) → (b : Bool) → same_tree p.term t ≡ b → (b || placed ps t) ≡ true → HasValue i v t (if b then p.lits else lits_of ps t)
    by rec true q h = subst (λ (s : Tree). HasValue i v s p.lits) (same_tree-exact p.term t q) g.0
    by rec false q h = rec h

pub found_size : (ps : List Place) (t : Tree) → AllSized ps → placed ps t ≡ true → length (lits_of ps t) ≡ width_by (is_word t)
found_size [] t g e = absurd (cc)
found_size (p ∷ ps) t g e = by (λ h. found_size ps t g.1 h) (same_tree p.term t) refl e
  where
    by : (placed ps t ≡ true → length (lits_of ps t) ≡ width_by (is_word t)) → (b : Bool) → same_tree p.term t ≡ b → (b || placed ps t) ≡ true → length (if b then p.lits else lits_of ps t) ≡ width_by (is_word t)
    by rec true q h = g.0 ∙ ap (λ (s : Tree). width_by (is_word s)) (same_tree-exact p.term t q)
    by rec false q h = rec h

pub found_within : (n : ℕ) (ps : List Place) (t : Tree) → AllWithin n ps → WithinVars n (lits_of ps t)
found_within n [] t g = tt
found_within n (p ∷ ps) t g = by (found_within n ps t g.1) (same_tree p.term t)
  where
    by : WithinVars n (lits_of ps t) → (b : Bool) → WithinVars n (if b then p.lits else lits_of ps t)
    by rec true = g.0
    by rec false = rec

pub flag_within : (n : ℕ) (ls : List Literal) → 1 ≤ n → WithinVars n ls → (flag_lit ls).var ≤ n
flag_within n [] low w = low
flag_within n (l ∷ ls) low w = w.0

pub all_within_more : (n m : ℕ) (ps : List Place) → n ≤ m → AllWithin n ps → AllWithin m ps
all_within_more n m [] le w = tt
all_within_more n m (p ∷ ps) le w = (within_more n m p.lits le w.0, all_within_more n m ps le w.1)

value_agree : (b : Bool) (i : Interpretation) (n : ℕ) (u v : ℕ → Bool) (t : Tree) (ls : List Literal) → 1 ≤ n → Agree n u v → WithinVars n ls → HasValueBy b i u t ls → HasValueBy b i v t ls
value_agree true i n u v t ls low a w h = ap (cast_signed w32) (word-agree n u v ls a w) ∙ h
value_agree false i n u v t ls low a w h = lit-agree n u v (flag_lit ls) a (flag_within n ls low w) ∙ h

pub have_agree : (i : Interpretation) (n : ℕ) (u v : ℕ → Bool) (ps : List Place) → 1 ≤ n → Agree n u v → AllWithin n ps → AllHave i u ps → AllHave i v ps
have_agree i n u v [] low a w h = tt
have_agree i n u v (p ∷ ps) low a w h = (value_agree (is_word p.term) i n u v p.term p.lits low a w.0 h.0, have_agree i n u v ps low a w.1 h.1)

-- a child that was given literals, of this sort
abbrev pub Child : List Place → Bool → Tree → Type 0
Child ps w c = (placed ps c ≡ true) × (is_word c ≡ w)

abbrev pub Ready : List Place → Tree → Type 0
Ready ps (word z) = Unit {0}
Ready ps (word_sym k) = Unit {0}
Ready ps (flag b) = Unit {0}
Ready ps (flag_sym k) = Unit {0}
Ready ps (make op a b) = Child ps true a × Child ps true b
Ready ps (compare op a b) = Child ps true a × Child ps true b
Ready ps (no f) = Child ps false f
Ready ps (all f g) = Child ps false f × Child ps false g
Ready ps (pick f a b) = Child ps false f × Child ps true a × Child ps true b

abbrev pub AllReady : List Place → ℕ → List Tree → Type 0
AllReady ps n [] = Unit {0}
AllReady ps n (t ∷ ts) = Ready ps t × AllReady (place_of ps n t ∷ ps) (n + vars_of t) ts

-- the children's sorts
abbrev pub ChildSorts : Tree → Type 0
ChildSorts (word z) = Unit {0}
ChildSorts (word_sym k) = Unit {0}
ChildSorts (flag b) = Unit {0}
ChildSorts (flag_sym k) = Unit {0}
ChildSorts (make op a b) = (is_word a ≡ true) × (is_word b ≡ true)
ChildSorts (compare op a b) = (is_word a ≡ true) × (is_word b ≡ true)
ChildSorts (no f) = is_word f ≡ false
ChildSorts (all f g) = (is_word f ≡ false) × (is_word g ≡ false)
ChildSorts (pick f a b) = (is_word f ≡ false) × (is_word a ≡ true) × (is_word b ≡ true)

abbrev pub AllSorts : List Tree → Type 0
AllSorts [] = Unit {0}
AllSorts (t ∷ ts) = ChildSorts t × AllSorts ts

-- these trees were given literals
abbrev pub Knows : List Tree → List Place → Type 0
Knows before ps = (s : Tree) → among before s ≡ true → placed ps s ≡ true

pub ready : (before : List Tree) (ps : List Place) (t : Tree) → Knows before ps → ChildrenAmong before t → ChildSorts t → Ready ps t
ready before ps (word z) k c s = tt
ready before ps (word_sym z) k c s = tt
ready before ps (flag z) k c s = tt
ready before ps (flag_sym z) k c s = tt
ready before ps (make op a b) k c s = ((k a c.0, s.0), (k b c.1, s.1))
ready before ps (compare op a b) k c s = ((k a c.0, s.0), (k b c.1, s.1))
ready before ps (no f) k c s = (k f c, s)
ready before ps (all f g) k c s = ((k f c.0, s.0), (k g c.1, s.1))
ready before ps (pick f a b) k c s = ((k f c.0, s.0), (k a c.1, s.1), (k b c.2, s.2))

or_swap : (a b c : Bool) → (a ≡ true → c ≡ true) → (a || b) ≡ true → (b || c) ≡ true
or_swap true true c f e = refl
or_swap true false c f e = f refl
or_swap false true c f e = refl
or_swap false false c f e = absurd (cc)

pub knows_more : (before : List Tree) (ps : List Place) (n : ℕ) (t : Tree) → Knows before ps → Knows (before ++ t ∷ []) (place_of ps n t ∷ ps)
knows_more before ps n t k s e = or_swap (among before s) (same_tree t s) (placed ps s) (k s) (sym (among-push before t s) ∙ e)

pub all_ready : (before : List Tree) (ps : List Place) (n : ℕ) (ts : List Tree) → Knows before ps → AfterChildren before ts → AllSorts ts → AllReady ps n ts
all_ready before ps n [] k c s = tt
all_ready before ps n (t ∷ ts) k c s = (ready before ps t k c.0 s.0, all_ready (before ++ t ∷ []) (place_of ps n t ∷ ps) (n + vars_of t) ts (knows_more before ps n t k) c.1 s.1)

pub child_size : (ps : List Place) (w : Bool) (c : Tree) → AllSized ps → Child ps w c → length (lits_of ps c) ≡ width_by w
child_size ps w c sz h = found_size ps c sz h.0 ∙ ap width_by h.1

pub child_value : (i : Interpretation) (v : ℕ → Bool) (ps : List Place) (w : Bool) (c : Tree) → AllHave i v ps → Child ps w c → HasValueBy w i v c (lits_of ps c)
child_value i v ps w c g h = subst (λ (b : Bool). HasValueBy b i v c (lits_of ps c)) h.1 (found_value i v ps c g h.0)

-- what a block has
pub place_size : (ps : List Place) (n : ℕ) (t : Tree) → AllSized ps → Ready ps t → length (outs_of ps n t) ≡ width_by (is_word t)
place_size ps n (word z) sz r = length-word_bits z
place_size ps n (word_sym k) sz r = length-symbol_bits n
place_size ps n (flag b) sz r = refl
place_size ps n (flag_sym k) sz r = refl
place_size ps n (make op a b) sz r = word_width n op (lits_of ps a) (lits_of ps b) (child_size ps true a sz r.0) (child_size ps true b sz r.1)
place_size ps n (compare op a b) sz r = refl
place_size ps n (no f) sz r = refl
place_size ps n (all f g) sz r = refl
place_size ps n (pick f a b) sz r = length-fresh n (lits_of ps a) ∙ child_size ps true a sz r.1

pub place_count : (ps : List Place) (n : ℕ) (t : Tree) → AllSized ps → Ready ps t → length (gates_of ps n t) ≡ vars_of t
place_count ps n (word z) sz r = refl
place_count ps n (word_sym k) sz r = symbol_count
place_count ps n (flag b) sz r = refl
place_count ps n (flag_sym k) sz r = refl
place_count ps n (make op a b) sz r = word_count n op (lits_of ps a) (lits_of ps b) (child_size ps true a sz r.0) (child_size ps true b sz r.1)
place_count ps n (compare op a b) sz r = test_count n op (lits_of ps a) (lits_of ps b) (child_size ps true a sz r.0) (child_size ps true b sz r.1)
place_count ps n (no f) sz r = refl
place_count ps n (all f g) sz r = refl
place_count ps n (pick f a b) sz r =
    let la = child_size ps true a sz r.1 in
    length-pairwise (choose (flag_lit (lits_of ps f))) (lits_of ps a) (lits_of ps b) (la ∙ sym (child_size ps true b sz r.2)) ∙ la

pub place_wired : (ps : List Place) (n : ℕ) (t : Tree) → 1 ≤ n → AllSized ps → AllWithin n ps → Ready ps t → Wired n (gates_of ps n t)
place_wired ps n (word z) low sz w r = tt
place_wired ps n (word_sym k) low sz w r = symbol_wired n
place_wired ps n (flag b) low sz w r = tt
place_wired ps n (flag_sym k) low sz w r = (tt, tt)
place_wired ps n (make op a b) low sz w r =
    word_wired n op (lits_of ps a) (lits_of ps b) (child_size ps true a sz r.0) (child_size ps true b sz r.1) low (found_within n ps a w) (found_within n ps b w)
place_wired ps n (compare op a b) low sz w r =
    test_wired n op (lits_of ps a) (lits_of ps b) (child_size ps true a sz r.0) (child_size ps true b sz r.1) low (found_within n ps a w) (found_within n ps b w)
place_wired ps n (no f) low sz w r = tt
place_wired ps n (all f g) low sz w r = ((flag_within n (lits_of ps f) low (found_within n ps f w), (flag_within n (lits_of ps g) low (found_within n ps g w), tt)), tt)
place_wired ps n (pick f a b) low sz w r =
    pick_wired n (flag_lit (lits_of ps f)) (lits_of ps a) (lits_of ps b) (flag_within n (lits_of ps f) low (found_within n ps f w)) (found_within n ps a w) (found_within n ps b w)

pub place_within : (ps : List Place) (n : ℕ) (t : Tree) → 1 ≤ n → AllSized ps → AllWithin n ps → Ready ps t → WithinVars (n + vars_of t) (outs_of ps n t)
place_within ps n (word z) low sz w r = word_bits_within (n + 0) z (omega arith)
place_within ps n (word_sym k) low sz w r = symbol_bits_within n
place_within ps n (flag b) low sz w r = (omega arith, tt)
place_within ps n (flag_sym k) low sz w r = (omega arith, tt)
place_within ps n (make op a b) low sz w r =
    word_within n op (lits_of ps a) (lits_of ps b) (child_size ps true a sz r.0) (child_size ps true b sz r.1) low (found_within n ps a w)
place_within ps n (compare op a b) low sz w r = (test_within n op, tt)
place_within ps n (no f) low sz w r = (let h = flag_within n (lits_of ps f) low (found_within n ps f w) in omega arith, tt)
place_within ps n (all f g) low sz w r = (omega arith, tt)
place_within ps n (pick f a b) low sz w r = fresh_within n (n + 32) (lits_of ps a) (let la = child_size ps true a sz r.1 in omega arith)

pub all_sized : (ps : List Place) (n : ℕ) (ts : List Tree) → AllSized ps → AllReady ps n ts → AllSized (places_from ps n ts)
all_sized ps n [] sz r = sz
all_sized ps n (t ∷ ts) sz r = all_sized (place_of ps n t ∷ ps) (n + vars_of t) ts (place_size ps n t sz r.0, sz) r.1

width_small : (b : Bool) → width_by b ≤ 32
width_small true = omega arith
width_small false = omega arith

pub size_small : (ps : List Place) (t : Tree) → AllSized ps → length (lits_of ps t) ≤ 32
size_small [] t sz = omega arith
size_small (p ∷ ps) t sz = by (size_small ps t sz.1) (same_tree p.term t)
  where
    by : length (lits_of ps t) ≤ 32 → (b : Bool) → length (if b then p.lits else lits_of ps t) ≤ 32
    by rec true = let e = sz.0 in let h = width_small (is_word p.term) in omega arith
    by rec false = rec
