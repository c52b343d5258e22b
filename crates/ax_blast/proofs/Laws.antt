-- Models of the clause list and values of the terms.
use Rattle.std.proofs.Common.{◌≡◌, ◌≢◌, ℕ, zero, suc, ◌+◌, ◌*◌, ◌≤◌, Bool, true, false, not, ◌&&◌, ◌||◌, cond, List, [], ◌∷◌, ◌++◌, length, if◌then◌else◌, ℤ, refl, ap, sym, subst, ◌∙◌, arith, w32}
use Rattle.std.specs.Int.{int_wrap, cast_signed}
use Rattle.std.proofs.lemmas.Bool.{and_parts, and_from}
use Rattle.ax_proof.specs.Literal.{Literal, literal, negation}
use Rattle.ax_proof.specs.Assignment.{lit_value, signed, clause_true, satisfies}
use Rattle.ax_gates.specs.Gates.{Gate, free, both, next, gate_value, blocks, as_clause, as_clauses}
use Rattle.ax_gates.specs.Words.{fresh, word_value, pick_gates, lit_true, Agree}
use Rattle.ax_gates.proofs.GateLaws.{signed-not, satisfies-append}
use Rattle.ax_gates.proofs.Circuits.{WithinVars, gate_inputs, Holds, Wired, Wired-runs, blocks_hold, hold_blocks, gate-agree, set_var, set_new, set_old, as_clause_true, as_clauses_true}
use Rattle.ax_gates.proofs.WordLaws.{pick_word_law}
use Rattle.ax_gates_adders.specs.Adders.{signed_value}
use Rattle.ax_blast.specs.Blocks.{word_outs, test_out}
use Rattle.ax_blast.proofs.BlockLaws.{op_law, test_law}
use Rattle.ax_term.specs.Tree.{Tree, word, word_sym, flag, flag_sym, make, compare, no, all, pick, is_word}
use Rattle.ax_term.specs.Folding.{same_tree}
use Rattle.ax_term.specs.Values.{Interpretation, word_under, flag_under, op_value, test_value}
use Rattle.ax_term.proofs.FoldLemmas.{same_tree-exact, same_tree-refl}
use Rattle.ax_term.specs.Order.{among, order_of, AfterChildren, NoneTwice, AllIn}
use Rattle.ax_term.proofs.Walks.{among-push}
use Rattle.ax_term.proofs.Orders.{order_after, order_once, order_asserted}
use Rattle.ax_blast.specs.Blasting.{Place, lits_of, flag_lit, symbol_bits, symbol_gates, gates_of, outs_of, vars_of, place_of, clauses_from, places_from, places_of, flag_lits, units, clause_list, HasValueBy, HasValue, EachHasValue, AllTrue, Reads}
use Rattle.ax_blast.specs.Table.{AllFlagTrees}
use Rattle.ax_blast.proofs.Bits.{constant_lit, word_bits_value, set_symbol, symbol_holds, signed_fits, length-symbol_bits}
use Rattle.ax_blast.proofs.Places.{placed, AllHave, AllSized, AllWithin, found_value, flag_within, found_within, all_within_more, have_agree, Ready, AllReady, AllSorts, Knows, all_ready, child_size, child_value, place_size, place_count, place_wired, place_within}

-- a symbol's literals have its value
abbrev pub Fits : Interpretation → (ℕ → Bool) → Tree → List Literal → Type 0
Fits i v (word_sym k) ls = signed_value v ls ≡ int_wrap w32 (i.words k)
Fits i v (flag_sym k) ls = lit_value v (flag_lit ls) ≡ i.flags k
Fits i v (word z) ls = Unit {0}
Fits i v (flag b) ls = Unit {0}
Fits i v (make op a b) ls = Unit {0}
Fits i v (compare op a b) ls = Unit {0}
Fits i v (no f) ls = Unit {0}
Fits i v (all f g) ls = Unit {0}
Fits i v (pick f a b) ls = Unit {0}

abbrev pub AllFit : Interpretation → (ℕ → Bool) → List Place → ℕ → List Tree → Type 0
AllFit i v ps n [] = Unit {0}
AllFit i v ps n (t ∷ ts) = Fits i v t (outs_of ps n t) × AllFit i v (place_of ps n t ∷ ps) (n + vars_of t) ts

pick_value : (f : Bool) (m x y : ℕ) → m ≡ cond f x y → cast_signed w32 m ≡ (if f then cast_signed w32 x else cast_signed w32 y)
pick_value true m x y e = ap (cast_signed w32) e
pick_value false m x y e = ap (cast_signed w32) e

-- a block that holds gives its tree's value
pub place_means : (i : Interpretation) (v : ℕ → Bool) (ps : List Place) (n : ℕ) (t : Tree) → v 1 ≡ true → AllSized ps → AllHave i v ps → Ready ps t → Fits i v t (outs_of ps n t)
    → satisfies v (blocks n (gates_of ps n t)) ≡ true → HasValue i v t (outs_of ps n t)
place_means i v ps n (word z) e sz g r f h = word_bits_value v z e
place_means i v ps n (word_sym k) e sz g r f h = f
place_means i v ps n (flag b) e sz g r f h = constant_lit v b e
place_means i v ps n (flag_sym k) e sz g r f h = f
place_means i v ps n (make op a b) e sz g r f h =
    op_law v n op (lits_of ps a) (lits_of ps b) (child_size ps true a sz r.0) (child_size ps true b sz r.1) e h
    ∙ (ap (λ (x : ℤ). op_value op x (signed_value v (lits_of ps b))) (child_value i v ps true a g r.0)
    ∙ ap (λ (y : ℤ). op_value op (word_under i a) y) (child_value i v ps true b g r.1))
place_means i v ps n (compare op a b) e sz g r f h =
    test_law v n op (lits_of ps a) (lits_of ps b) (child_size ps true a sz r.0) (child_size ps true b sz r.1) e h
    ∙ (ap (λ (x : ℤ). test_value op x (signed_value v (lits_of ps b))) (child_value i v ps true a g r.0)
    ∙ ap (λ (y : ℤ). test_value op (word_under i a) y) (child_value i v ps true b g r.1))
place_means i v ps n (no q) e sz g r f h =
    signed-not (flag_lit (lits_of ps q)).positive (v (flag_lit (lits_of ps q)).var) ∙ ap not (child_value i v ps false q g r)
place_means i v ps n (all p q) e sz g r f h =
    let hold = blocks_hold v n (gates_of ps n (all p q)) h in
    hold.0
    ∙ (ap (λ (x : Bool). x && lit_value v (flag_lit (lits_of ps q))) (child_value i v ps false p g r.0)
    ∙ ap (λ (y : Bool). flag_under i p && y) (child_value i v ps false q g r.1))
place_means i v ps n (pick q a b) e sz g r f h =
    let la = child_size ps true a sz r.1 in
    let lb = child_size ps true b sz r.2 in
    let p = pick_word_law v n (flag_lit (lits_of ps q)) (lits_of ps a) (lits_of ps b) (la ∙ sym lb) h in
    pick_value (lit_value v (flag_lit (lits_of ps q))) (word_value v (fresh n (lits_of ps a))) (word_value v (lits_of ps a)) (word_value v (lits_of ps b)) p
    ∙ (ap (λ (x : Bool). if x then signed_value v (lits_of ps a) else signed_value v (lits_of ps b)) (child_value i v ps false q g r.0)
    ∙ (ap (λ (x : ℤ). if flag_under i q then x else signed_value v (lits_of ps b)) (child_value i v ps true a g r.1)
    ∙ ap (λ (y : ℤ). if flag_under i q then word_under i a else y) (child_value i v ps true b g r.2)))

pub places_mean : (i : Interpretation) (v : ℕ → Bool) (ps : List Place) (n : ℕ) (ts : List Tree) → v 1 ≡ true → AllSized ps → AllHave i v ps → AllReady ps n ts → AllFit i v ps n ts
    → satisfies v (clauses_from ps n ts) ≡ true → AllHave i v (places_from ps n ts)
places_mean i v ps n [] e sz g r f h = g
places_mean i v ps n (t ∷ ts) e sz g r f h =
    let rest : List (List Literal) = clauses_from (place_of ps n t ∷ ps) (n + vars_of t) ts in
    let p = and_parts (satisfies v (blocks n (gates_of ps n t))) (satisfies v rest) (sym (satisfies-append v (blocks n (gates_of ps n t)) rest) ∙ h) in
    places_mean i v (place_of ps n t ∷ ps) (n + vars_of t) ts e (place_size ps n t sz r.0, sz) (place_means i v ps n t e sz g r.0 f.0 p.0, g) r.1 f.1 p.1

-- gates that hold go on holding where the variables stay
pub Holds-agree : (n : ℕ) (v w : ℕ → Bool) (gs : List Gate) → Wired n gs → Agree (n + length gs) v w → Holds v n gs → Holds w n gs
Holds-agree n v w [] wr a h = tt
Holds-agree n v w (g ∷ gs) wr a h =
    let low : Agree n v w = λ x l. a x (omega arith) in
    let new : lit_value w (next n) ≡ gate_value v (next n) g = sym (a (n + 1) (omega arith)) ∙ h.0 in
    (gate-agree n v w (next n) g low new wr.0, Holds-agree (n + 1) v w gs wr.1 (λ x l. a x (omega arith)) h.1)

-- one block: an assignment goes on to one with the block and the tree's value
abbrev pub Step : Interpretation → (ℕ → Bool) → List Place → ℕ → Tree → Type 0
Step i u ps n t = (v : ℕ → Bool) × Agree n u v × Holds v n (gates_of ps n t) × HasValue i v t (outs_of ps n t)

plain_step : (i : Interpretation) (u : ℕ → Bool) (ps : List Place) (n : ℕ) (t : Tree) → u 1 ≡ true → 1 ≤ n → AllSized ps → AllHave i u ps → AllWithin n ps → Ready ps t
    → ((v : ℕ → Bool) → Fits i v t (outs_of ps n t)) → Step i u ps n t
plain_step i u ps n t e low sz g w r f =
    let run = Wired-runs n (gates_of ps n t) (place_wired ps n t low sz w r) u in
    let v : ℕ → Bool = run.0 in
    let e1 : v 1 ≡ true = sym (run.1 1 low) ∙ e in
    (v, run.1, run.2, place_means i v ps n t e1 sz (have_agree i n u v ps low run.1 w g) r (f v) (hold_blocks v n (gates_of ps n t) run.2))

step_run : (i : Interpretation) (u : ℕ → Bool) (ps : List Place) (n : ℕ) (t : Tree) → u 1 ≡ true → 1 ≤ n → AllSized ps → AllHave i u ps → AllWithin n ps → Ready ps t → Step i u ps n t
step_run i u ps n (word_sym k) e low sz g w r =
    let b = set_symbol n (i.words k) u in (b.0, b.1, symbol_holds b.0 n, b.2)
step_run i u ps n (flag_sym k) e low sz g w r =
    let v : ℕ → Bool = set_var u (n + 1) (i.flags k) in
    let agree : Agree n u v = λ x h. (let ne : x ≢ n + 1 = omega arith in sym (set_old u (n + 1) (i.flags k) x ne)) in
    (v, agree, (refl, tt), set_new u (n + 1) (i.flags k))
step_run i u ps n (word z) e low sz g w r = plain_step i u ps n (word z) e low sz g w r (λ v. tt)
step_run i u ps n (flag b) e low sz g w r = plain_step i u ps n (flag b) e low sz g w r (λ v. tt)
step_run i u ps n (make op a b) e low sz g w r = plain_step i u ps n (make op a b) e low sz g w r (λ v. tt)
step_run i u ps n (compare op a b) e low sz g w r = plain_step i u ps n (compare op a b) e low sz g w r (λ v. tt)
step_run i u ps n (no f) e low sz g w r = plain_step i u ps n (no f) e low sz g w r (λ v. tt)
step_run i u ps n (all f h) e low sz g w r = plain_step i u ps n (all f h) e low sz g w r (λ v. tt)
step_run i u ps n (pick f a b) e low sz g w r = plain_step i u ps n (pick f a b) e low sz g w r (λ v. tt)

pub places_run : (i : Interpretation) (u : ℕ → Bool) (ps : List Place) (n : ℕ) (ts : List Tree) → u 1 ≡ true → 1 ≤ n → AllSized ps → AllHave i u ps → AllWithin n ps → AllReady ps n ts
    → (v : ℕ → Bool) × Agree n u v × (satisfies v (clauses_from ps n ts) ≡ true) × AllHave i v (places_from ps n ts)
places_run i u ps n [] e low sz g w r = (u, (λ x h. refl), refl, g)
places_run i u ps n (t ∷ ts) e low sz g w r =
    let qs : List Place = place_of ps n t ∷ ps in
    let m : ℕ = n + vars_of t in
    let one = step_run i u ps n t e low sz g w r.0 in
    let u1 : ℕ → Bool = one.0 in
    let e1 : u1 1 ≡ true = sym (one.1 1 low) ∙ e in
    let g1 : AllHave i u1 qs = (one.3, have_agree i n u u1 ps low one.1 w g) in
    let w1 : AllWithin m qs = (place_within ps n t low sz w r.0, all_within_more n m ps (omega arith) w) in
    let rest = places_run i u1 qs m ts e1 (omega arith) (place_size ps n t sz r.0, sz) g1 w1 r.1 in
    let v : ℕ → Bool = rest.0 in
    let count = place_count ps n t sz r.0 in
    let agree : Agree n u v = λ x h. one.1 x h ∙ rest.1 x (omega arith) in
    let kept : Holds v n (gates_of ps n t) = Holds-agree n u1 v (gates_of ps n t) (place_wired ps n t low sz w r.0) (λ x h. rest.1 x (omega arith)) one.2 in
    (v, agree, satisfies-append v (blocks n (gates_of ps n t)) (clauses_from qs m ts) ∙ and_from _ _ (hold_blocks v n (gates_of ps n t) kept) rest.2, rest.3)

-- trees that were gone over have places
pub stays_placed : (ps : List Place) (n : ℕ) (ts : List Tree) (s : Tree) → placed ps s ≡ true → placed (places_from ps n ts) s ≡ true
stays_placed ps n [] s h = h
stays_placed ps n (t ∷ ts) s h = stays_placed (place_of ps n t ∷ ps) (n + vars_of t) ts s (or_right (same_tree t s) (placed ps s) h)
  where
    or_right : (a b : Bool) → b ≡ true → (a || b) ≡ true
    or_right true b e = refl
    or_right false b e = e

pub among_placed : (ps : List Place) (n : ℕ) (ts : List Tree) (s : Tree) → among ts s ≡ true → placed (places_from ps n ts) s ≡ true
among_placed ps n [] s h = absurd (cc)
among_placed ps n (t ∷ ts) s h = by (λ e. among_placed (place_of ps n t ∷ ps) (n + vars_of t) ts s e) (same_tree t s) refl h
  where
    by : (among ts s ≡ true → placed (places_from (place_of ps n t ∷ ps) (n + vars_of t) ts) s ≡ true) → (b : Bool) → same_tree t s ≡ b → (b || among ts s) ≡ true
        → placed (places_from (place_of ps n t ∷ ps) (n + vars_of t) ts) s ≡ true
    by rec true q e = stays_placed (place_of ps n t ∷ ps) (n + vars_of t) ts s (ap (λ (b : Bool). b || placed ps s) q)
    by rec false q e = rec e

pub each_value : (i : Interpretation) (v : ℕ → Bool) (n : ℕ) (ts : List Tree) → AllHave i v (places_from [] n ts) → EachHasValue i v (places_from [] n ts) ts
each_value i v n ts g t e = found_value i v (places_from [] n ts) t g (among_placed [] n ts t e)

-- the unit clauses
units_true : (v : ℕ → Bool) (i : Interpretation) (ps : List Place) (whole ts : List Tree) → AllIn whole ts → EachHasValue i v ps whole → AllFlagTrees ts → AllTrue i ts → satisfies v (units (flag_lits ps ts)) ≡ true
units_true v i ps whole [] a g s h = refl
units_true v i ps whole (t ∷ ts) a g s h =
    let q : lit_value v (flag_lit (lits_of ps t)) ≡ true = subst (λ (b : Bool). HasValueBy b i v t (lits_of ps t)) s.0 (g t a.0) ∙ h.0 in
    and_from (lit_value v (flag_lit (lits_of ps t)) || false) (satisfies v (units (flag_lits ps ts))) (ap (λ (b : Bool). b || false) q) (units_true v i ps whole ts a.1 g s.1 h.1)

true_units : (v : ℕ → Bool) (i : Interpretation) (ps : List Place) (whole ts : List Tree) → AllIn whole ts → EachHasValue i v ps whole → AllFlagTrees ts → satisfies v (units (flag_lits ps ts)) ≡ true → AllTrue i ts
true_units v i ps whole [] a g s h = tt
true_units v i ps whole (t ∷ ts) a g s h =
    let p = and_parts (lit_value v (flag_lit (lits_of ps t)) || false) (satisfies v (units (flag_lits ps ts))) h in
    (sym (subst (λ (b : Bool). HasValueBy b i v t (lits_of ps t)) s.0 (g t a.0)) ∙ or_false (lit_value v (flag_lit (lits_of ps t))) p.0, true_units v i ps whole ts a.1 g s.1 p.1)
  where
    or_false : (b : Bool) → (b || false) ≡ true → b ≡ true
    or_false true e = refl
    or_false false e = e

-- a valuation that makes the asserted terms true gives a model that agrees with it
pub list_extends : (i : Interpretation) (asserted named : List Tree) → AllSorts (order_of asserted named) → AllFlagTrees asserted → AllTrue i asserted
    → (v : ℕ → Bool) × (satisfies v (clause_list asserted named) ≡ true) × EachHasValue i v (places_of asserted named) (order_of asserted named)
list_extends i asserted named so fl tr =
    let ts : List Tree = order_of asserted named in
    let r : AllReady [] 1 ts = all_ready [] [] 1 ts (λ s e. absurd (cc)) (order_after asserted named) so in
    let run = places_run i (λ x. true) [] 1 ts refl (omega arith) tt tt tt r in
    let v : ℕ → Bool = run.0 in
    let each : EachHasValue i v (places_of asserted named) ts = each_value i v 1 ts run.3 in
    let first : satisfies v (as_clause (lit_true ∷ [])) ≡ true = as_clause_true v (lit_true ∷ []) ∙ ap (λ (b : Bool). b || false) (sym (run.1 1 (omega arith))) in
    let last : List (List Literal) = as_clauses (units (flag_lits (places_of asserted named) asserted)) in
    let tail : satisfies v last ≡ true = as_clauses_true v (units (flag_lits (places_of asserted named) asserted)) ∙ units_true v i (places_of asserted named) ts asserted (order_asserted asserted named) each fl tr in (
      v,
      satisfies-append v (as_clause (lit_true ∷ [])) (clauses_from [] 1 ts ++ last)
          ∙ and_from _ _ first (satisfies-append v (clauses_from [] 1 ts) last ∙ and_from _ _ run.2 tail),
      each,
    )

abbrev pub AllRead : Interpretation → (ℕ → Bool) → List Place → List Tree → Type 0
AllRead i v ps [] = Unit {0}
AllRead i v ps (t ∷ ts) = Reads i v t (lits_of ps t) × AllRead i v ps ts

-- a tree keeps its literals where none comes twice
keep_lits : (ps : List Place) (n : ℕ) (ts before : List Tree) (s : Tree) → NoneTwice before ts → among before s ≡ true → lits_of (places_from ps n ts) s ≡ lits_of ps s
keep_lits ps n [] before s o h = refl
keep_lits ps n (t ∷ ts) before s o h =
    keep_lits (place_of ps n t ∷ ps) (n + vars_of t) ts (before ++ t ∷ []) s o.1 (among-push before t s ∙ ap (λ (b : Bool). b || same_tree t s) h)
    ∙ by (same_tree t s) refl
  where
    by : (b : Bool) → same_tree t s ≡ b → (if same_tree t s then outs_of ps n t else lits_of ps s) ≡ lits_of ps s
    by true q = let f : among before t ≡ true = ap (among before) (same_tree-exact t s q) ∙ h in let z = o.0 in absurd (cc)
    by false q = ap (λ (b : Bool). if b then outs_of ps n t else lits_of ps s) q

here_lits : (ps : List Place) (n : ℕ) (t : Tree) (ts before : List Tree) → NoneTwice before (t ∷ ts) → lits_of (places_from ps n (t ∷ ts)) t ≡ outs_of ps n t
here_lits ps n t ts before o =
    keep_lits (place_of ps n t ∷ ps) (n + vars_of t) ts (before ++ t ∷ []) t o.1 (among-push before t t ∙ (ap (λ (b : Bool). among before t || b) (same_tree-refl t) ∙ or_true (among before t)))
    ∙ ap (λ (b : Bool). if b then outs_of ps n t else lits_of ps t) (same_tree-refl t)
  where
    or_true : (a : Bool) → (a || true) ≡ true
    or_true true = refl
    or_true false = refl

read_fits : (i : Interpretation) (v : ℕ → Bool) (ps : List Place) (n : ℕ) (t : Tree) (ls : List Literal) → ls ≡ outs_of ps n t → Reads i v t ls → Fits i v t (outs_of ps n t)
read_fits i v ps n (word_sym k) ls e r =
    let s : i.words k ≡ signed_value v (symbol_bits n) = r ∙ ap (signed_value v) e in
    sym (ap (int_wrap w32) s ∙ signed_fits v (symbol_bits n) (length-symbol_bits n))
read_fits i v ps n (flag_sym k) ls e r = sym (r ∙ ap (λ (x : List Literal). lit_value v (flag_lit x)) e)
read_fits i v ps n (word z) ls e r = tt
read_fits i v ps n (flag b) ls e r = tt
read_fits i v ps n (make op a b) ls e r = tt
read_fits i v ps n (compare op a b) ls e r = tt
read_fits i v ps n (no f) ls e r = tt
read_fits i v ps n (all f g) ls e r = tt
read_fits i v ps n (pick f a b) ls e r = tt

all_fit : (i : Interpretation) (v : ℕ → Bool) (ps : List Place) (n : ℕ) (ts before : List Tree) → NoneTwice before ts → AllRead i v (places_from ps n ts) ts → AllFit i v ps n ts
all_fit i v ps n [] before o r = tt
all_fit i v ps n (t ∷ ts) before o r = (
  read_fits i v ps n t (lits_of (places_from ps n (t ∷ ts)) t) (here_lits ps n t ts before o) r.0,
  all_fit i v (place_of ps n t ∷ ps) (n + vars_of t) ts (before ++ t ∷ []) o.1 r.1,
)

-- what a model's valuation gives
pub record ListMeans (i : Interpretation) (v : ℕ → Bool) (asserted named : List Tree) : Type 0 where
  pub each : EachHasValue i v (places_of asserted named) (order_of asserted named)
  pub asserted_true : AllTrue i asserted

pub list_means : (i : Interpretation) (v : ℕ → Bool) (asserted named : List Tree) → AllSorts (order_of asserted named) → AllFlagTrees asserted → AllRead i v (places_of asserted named) (order_of asserted named)
    → satisfies v (clause_list asserted named) ≡ true → ListMeans i v asserted named
list_means i v asserted named so fl rd h =
    let ts : List Tree = order_of asserted named in
    let units_of : List (List Literal) = units (flag_lits (places_of asserted named) asserted) in
    let p = and_parts (satisfies v (as_clause (lit_true ∷ []))) (satisfies v (clauses_from [] 1 ts ++ as_clauses units_of)) (sym (satisfies-append v (as_clause (lit_true ∷ [])) (clauses_from [] 1 ts ++ as_clauses units_of)) ∙ h) in
    let q = and_parts (satisfies v (clauses_from [] 1 ts)) (satisfies v (as_clauses units_of)) (sym (satisfies-append v (clauses_from [] 1 ts) (as_clauses units_of)) ∙ p.1) in
    let one : v 1 ≡ true = first_true (v 1) (sym (as_clause_true v (lit_true ∷ [])) ∙ p.0) in
    let r : AllReady [] 1 ts = all_ready [] [] 1 ts (λ s e. absurd (cc)) (order_after asserted named) so in
    let have = places_mean i v [] 1 ts one tt tt r (all_fit i v [] 1 ts [] (order_once asserted named) rd) q.0 in
    let each = each_value i v 1 ts have in
    record {
      each = each;
      asserted_true = true_units v i (places_of asserted named) ts asserted (order_asserted asserted named) each fl (sym (as_clauses_true v units_of) ∙ q.1);
    }
  where
    first_true : (b : Bool) → (b || false) ≡ true → b ≡ true
    first_true true e = refl
    first_true false e = e
