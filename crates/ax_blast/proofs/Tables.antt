-- The literals by number, as the blocks are appended one after another.
use Rattle.std.proofs.Common.{◌≡◌, ◌≢◌, ℕ, zero, suc, ◌+◌, ◌*◌, ◌≤◌, ◌<◌, Bool, true, false, List, [], ◌∷◌, ◌++◌, length, map, drop, replicate, nat_eq, if◌then◌else◌, Option, Some, None, slice_get, slice_set, slice_index_or, Bor, refl, ap, sym, subst, ◌∙◌, arith, append_assoc}
use Rattle.std.specs.Option.{IsSome, option_copied}
use Rattle.std.proofs.Math.ListN.{get_or}
use Rattle.std.proofs.lemmas.Option.{slice_get-get_or, slice_get_within, get_or_from_slice_get}
use Rattle.ax_proof.specs.Literal.{Literal, negation}
use Rattle.ax_gates.specs.Gates.{Gate, both, as_clause, as_clauses, blocks}
use Rattle.ax_gates.specs.Words.{fresh, pick_gates, lit_true}
use Rattle.ax_blast.specs.Blocks.{word_gates, word_outs, test_gates, test_out}
use Rattle.ax_term.specs.Tree.{Tree, is_word}
use Rattle.ax_term.specs.Numbered.{Numbered, word_at, word_sym_at, flag_at, flag_sym_at, make_at, compare_at, no_at, all_at, pick_at, number_of, tree}
use Rattle.ax_term.specs.Bank.{Among, HasWord, HasFlag, ChildrenBefore, IsBank}
use Rattle.ax_term.specs.Folding.{same_tree}
use Rattle.ax_term.proofs.FoldLemmas.{nat_eq-exact, same_tree-refl}
use Rattle.ax_term.proofs.BankLemmas.{same_number}
use Rattle.ax_term.specs.Order.{tree_at, trees_at, trees, among, AllAmong, AllBelow, AllIn, order_of, ChildrenAmong, AfterChildren}
use Rattle.ax_term.proofs.Orders.{order_after}
use Rattle.ax_term.proofs.Walks.{tree_of}
use Rattle.ax_blast.specs.Blasting.{Place, lits_of, flag_lit, gates_of, outs_of, vars_of, place_of, clauses_from, places_from, places_of, vars_from, flag_lits, units}
use Rattle.ax_blast.specs.Table.{table_of, IsTableOf, AllFlagRows, row_flags, row, IsWordRow, IsFlagRow, ChildrenSized, node_gates, node_outs, AllFlags, AllFlagTrees}
use Rattle.ax_blast.specs.Blasted.{IsBlasted}
use Rattle.ax_blast.specs.declared.blasted.Blasted.{Blasted}
use Rattle.std.specs.Global.{Vec}
use Rattle.ax_blast.proofs.Laws.{among_placed}
use Rattle.ax_blast.proofs.Places.{placed, width_by, AllSized, ChildSorts, AllSorts, AllReady, all_ready, all_sized, Knows, knows_more, ready, Ready, Child, child_size, place_size}

-- the row of a term of the bank
pub row_is : (ts : List Numbered) (ps : List Place) (table : List (List Literal)) (c : Numbered) → IsTableOf ts ps table → Among ts c → row table c ≡ lits_of ps (tree c)
row_is ts ps table c is g =
    get_or_from_slice_get table (number_of c) (lits_of ps (tree_at ts (number_of c))) [] (is (number_of c) (slice_get_within ts (number_of c) c g))
    ∙ ap (lits_of ps) (tree_of ts (number_of c) c g)

pub row_within : (ts : List Numbered) (table : List (List Literal)) (c : Numbered) → length table ≡ length ts → Among ts c → number_of c < length table
row_within ts table c l g = let h = slice_get_within ts (number_of c) c g in omega arith

-- the block by the table is the block of the tree
pub gates_same : (ts : List Numbered) (ps : List Place) (table : List (List Literal)) (n m : ℕ) (t : Numbered) → IsTableOf ts ps table → ChildrenBefore ts m t → node_gates table n t ≡ gates_of ps n (tree t)
gates_same ts ps table n m (word_at k z) is b = refl
gates_same ts ps table n m (word_sym_at k z) is b = refl
gates_same ts ps table n m (flag_at k z) is b = refl
gates_same ts ps table n m (flag_sym_at k z) is b = refl
gates_same ts ps table n m (make_at k op x y) is b = rw (row_is ts ps table x is b.0.1.0, row_is ts ps table y is b.1.1.0) refl
gates_same ts ps table n m (compare_at k op x y) is b = rw (row_is ts ps table x is b.0.1.0, row_is ts ps table y is b.1.1.0) refl
gates_same ts ps table n m (no_at k f) is b = refl
gates_same ts ps table n m (all_at k f g) is b = rw (row_is ts ps table f is b.0.1.0, row_is ts ps table g is b.1.1.0) refl
gates_same ts ps table n m (pick_at k f x y) is b = rw (row_is ts ps table f is b.0.1.0, row_is ts ps table x is b.1.1.0, row_is ts ps table y is b.2.1.0) refl

pub outs_same : (ts : List Numbered) (ps : List Place) (table : List (List Literal)) (n m : ℕ) (t : Numbered) → IsTableOf ts ps table → ChildrenBefore ts m t → node_outs table n t ≡ outs_of ps n (tree t)
outs_same ts ps table n m (word_at k z) is b = refl
outs_same ts ps table n m (word_sym_at k z) is b = refl
outs_same ts ps table n m (flag_at k z) is b = refl
outs_same ts ps table n m (flag_sym_at k z) is b = refl
outs_same ts ps table n m (make_at k op x y) is b = rw (row_is ts ps table x is b.0.1.0, row_is ts ps table y is b.1.1.0) refl
outs_same ts ps table n m (compare_at k op x y) is b = refl
outs_same ts ps table n m (no_at k f) is b = rw (row_is ts ps table f is b.1.0) refl
outs_same ts ps table n m (all_at k f g) is b = refl
outs_same ts ps table n m (pick_at k f x y) is b = rw (row_is ts ps table x is b.1.1.0) refl

-- children's sorts
pub sorts_of : (ts : List Numbered) (m : ℕ) (t : Numbered) → ChildrenBefore ts m t → ChildSorts (tree t)
sorts_of ts m (word_at k z) b = tt
sorts_of ts m (word_sym_at k z) b = tt
sorts_of ts m (flag_at k z) b = tt
sorts_of ts m (flag_sym_at k z) b = tt
sorts_of ts m (make_at k op x y) b = (b.0.1.1, b.1.1.1)
sorts_of ts m (compare_at k op x y) b = (b.0.1.1, b.1.1.1)
sorts_of ts m (no_at k f) b = b.1.1
sorts_of ts m (all_at k f g) b = (b.0.1.1, b.1.1.1)
sorts_of ts m (pick_at k f x y) b = (b.0.1.1, b.1.1.1, b.2.1.1)

pub sorts_at : (ts : List Numbered) (n : ℕ) → IsBank ts → n < length ts → ChildSorts (tree_at ts n)
sorts_at ts n b l =
    let d : Numbered = flag_at 0 false in
    let e = slice_get-get_or ts n d l in
    subst ChildSorts (sym (tree_of ts n (get_or ts n d) e)) (sorts_of ts n (get_or ts n d) (b.before n (get_or ts n d) e))

pub all_sorts : (ts : List Numbered) (ns : List ℕ) → IsBank ts → AllBelow (length ts) ns → AllSorts (trees_at ts ns)
all_sorts ts [] b l = tt
all_sorts ts (n ∷ ns) b l = (sorts_at ts n b l.0, all_sorts ts ns b l.1)

-- the children's rows have the sorts' sizes
word_row : (ts : List Numbered) (ps : List Place) (table : List (List Literal)) (c : Numbered) → IsTableOf ts ps table → length table ≡ length ts → AllSized ps → HasWord ts c → Child ps true (tree c) → IsWordRow table c
word_row ts ps table c is l sz h k = (row_within ts table c l h.0, ap length (row_is ts ps table c is h.0) ∙ child_size ps true (tree c) sz k)

flag_row : (ts : List Numbered) (ps : List Place) (table : List (List Literal)) (c : Numbered) → IsTableOf ts ps table → length table ≡ length ts → AllSized ps → HasFlag ts c → Child ps false (tree c) → IsFlagRow table c
flag_row ts ps table c is l sz h k = (row_within ts table c l h.0, ap length (row_is ts ps table c is h.0) ∙ child_size ps false (tree c) sz k)

sized_from : (ts : List Numbered) (ps : List Place) (table : List (List Literal)) (m : ℕ) (t : Numbered) → IsTableOf ts ps table → length table ≡ length ts → AllSized ps → ChildrenBefore ts m t → Ready ps (tree t) → ChildrenSized table t
sized_from ts ps table m (word_at k z) is l sz b r = tt
sized_from ts ps table m (word_sym_at k z) is l sz b r = tt
sized_from ts ps table m (flag_at k z) is l sz b r = tt
sized_from ts ps table m (flag_sym_at k z) is l sz b r = tt
sized_from ts ps table m (make_at k op x y) is l sz b r = (word_row ts ps table x is l sz b.0.1 r.0, word_row ts ps table y is l sz b.1.1 r.1)
sized_from ts ps table m (compare_at k op x y) is l sz b r = (word_row ts ps table x is l sz b.0.1 r.0, word_row ts ps table y is l sz b.1.1 r.1)
sized_from ts ps table m (no_at k f) is l sz b r = flag_row ts ps table f is l sz b.1 r
sized_from ts ps table m (all_at k f g) is l sz b r = (flag_row ts ps table f is l sz b.0.1 r.0, flag_row ts ps table g is l sz b.1.1 r.1)
sized_from ts ps table m (pick_at k f x y) is l sz b r = (flag_row ts ps table f is l sz b.0.1 r.0, word_row ts ps table x is l sz b.1.1 r.1, word_row ts ps table y is l sz b.2.1 r.2)

-- the work under way: what was appended, and the trees that are left
pub record Underway (ts : List Numbered) (whole rest : List Tree) (clauses : List (List Literal)) (vars : ℕ) (table : List (List Literal)) : Type 0 where
  pub places : List Place
  pub before : List Tree
  pub knows : Knows before places
  pub after : AfterChildren before rest
  pub sized : AllSized places
  pub size : length table ≡ length ts
  pub is : IsTableOf ts places table
  pub appended : clauses ++ clauses_from places vars rest ≡ as_clause (lit_true ∷ []) ++ clauses_from [] 1 whole
  pub ends : places_from places vars rest ≡ places_from [] 1 whole
  pub count : vars_from vars rest ≡ vars_from 1 whole

no_rows : (ts : List Numbered) (n : ℕ) → n < length ts → slice_get (replicate (length ts) []) n ≡ Some (lits_of [] (tree_at ts n))
no_rows ts n l = go (length ts) n l
  where
    go : (k m : ℕ) → m < k → slice_get (replicate {A = List Literal} k []) m ≡ Some []
    go zero m h = absurd (omega arith)
    go (suc k) zero h = refl
    go (suc k) (suc m) h = go k m (omega arith)

length_rows : (k : ℕ) → length (replicate {A = List Literal} k []) ≡ k
length_rows zero = refl
length_rows (suc k) = ap suc (length_rows k)

pub starts : (ts : List Numbered) (whole : List Tree) (clauses table : List (List Literal)) → AfterChildren [] whole → table ≡ replicate (length ts) [] → clauses ≡ as_clause (lit_true ∷ []) → Underway ts whole whole clauses 1 table
starts ts whole clauses table a e f =
    record {
      places = [];
      before = [];
      knows = λ s h. absurd (cc);
      after = a;
      sized = tt;
      size = ap length e ∙ length_rows (length ts);
      is = λ n l. ap (λ (r : List (List Literal)). slice_get r n) e ∙ no_rows ts n l;
      appended = ap (λ (cs : List (List Literal)). cs ++ clauses_from [] 1 whole) f;
      ends = refl;
      count = refl;
    }

-- the term at hand
pub at_hand : (ts : List Numbered) (n : ℕ) (t : Numbered) → IsBank ts → slice_get ts n ≡ Some t → Among ts t
at_hand ts n t b e = ap (slice_get ts) (b.numbered n t e) ∙ e

pub sized_now : (ts : List Numbered) (whole rest : List Tree) (clauses : List (List Literal)) (vars : ℕ) (table : List (List Literal)) (n : ℕ) (t : Numbered)
    → IsBank ts → slice_get ts n ≡ Some t → Underway ts whole (tree_at ts n ∷ rest) clauses vars table → ChildrenSized table t
sized_now ts whole rest clauses vars table n t b e u =
    let w = tree_of ts n t e in
    let r : Ready u.places (tree t) = ready u.before u.places (tree t) u.knows (subst (ChildrenAmong u.before) w u.after.0) (sorts_of ts n t (b.before n t e)) in
    sized_from ts u.places table n t u.is u.size u.sized (b.before n t e) r

set_here : (xs : List (List Literal)) (n : ℕ) (x : List Literal) → n < length xs → slice_get (slice_set xs n x) n ≡ Some x
set_here [] n x h = absurd (omega arith)
set_here (y ∷ xs) zero x h = refl
set_here (y ∷ xs) (suc n) x h = set_here xs n x (omega arith)

set_there : (xs : List (List Literal)) (n m : ℕ) (x : List Literal) → n ≢ m → slice_get (slice_set xs n x) m ≡ slice_get xs m
set_there [] n m x h = refl
set_there (y ∷ xs) zero zero x h = absurd (h refl)
set_there (y ∷ xs) zero (suc m) x h = refl
set_there (y ∷ xs) (suc n) zero x h = refl
set_there (y ∷ xs) (suc n) (suc m) x h = set_there xs n m x (λ e. h (ap suc e))

length_set : (xs : List (List Literal)) (n : ℕ) (x : List Literal) → length (slice_set xs n x) ≡ length xs
length_set [] n x = refl
length_set (y ∷ xs) zero x = refl
length_set (y ∷ xs) (suc n) x = ap suc (length_set xs n x)

unlike : (n m : ℕ) → nat_eq n m ≡ false → n ≢ m
unlike n m e = grind arith

pub table_more : (ts : List Numbered) (ps : List Place) (table : List (List Literal)) (vars : ℕ) (t : Numbered) (outs : List Literal) → IsBank ts → Among ts t → length table ≡ length ts
    → IsTableOf ts ps table → outs ≡ outs_of ps vars (tree t) → IsTableOf ts (place_of ps vars (tree t) ∷ ps) (slice_set table (number_of t) outs)
table_more ts ps table vars t outs b g size is e m lm = by (nat_eq (number_of t) m) refl
  where
    d : Numbered
    d = flag_at 0 false

    em : slice_get ts m ≡ Some (get_or ts m d)
    em = slice_get-get_or ts m d lm

    same : nat_eq (number_of t) m ≡ same_tree (tree t) (tree_at ts m)
    same =
        ap (nat_eq (number_of t)) (sym (b.numbered m (get_or ts m d) em))
        ∙ (same_number ts t (get_or ts m d) b g (at_hand ts m (get_or ts m d) b em)
        ∙ ap (same_tree (tree t)) (sym (tree_of ts m (get_or ts m d) em)))

    by : (q : Bool) → nat_eq (number_of t) m ≡ q → slice_get (slice_set table (number_of t) outs) m ≡ Some (if same_tree (tree t) (tree_at ts m) then outs_of ps vars (tree t) else lits_of ps (tree_at ts m))
    by true q =
        let z : number_of t ≡ m = nat_eq-exact (number_of t) m q in
        ap (slice_get (slice_set table (number_of t) outs)) (sym z)
        ∙ (set_here table (number_of t) outs (omega arith)
        ∙ (ap Some e ∙ ap (λ (c : Bool). Some (if c then outs_of ps vars (tree t) else lits_of ps (tree_at ts m))) (sym (sym same ∙ q))))
    by false q =
        set_there table (number_of t) m outs (unlike (number_of t) m q)
        ∙ (is m lm ∙ ap (λ (c : Bool). Some (if c then outs_of ps vars (tree t) else lits_of ps (tree_at ts m))) (sym (sym same ∙ q)))

-- one term more
pub goes_on : (ts : List Numbered) (whole rest : List Tree) (old new : List (List Literal)) (vars more : ℕ) (table rows : List (List Literal)) (n : ℕ) (t : Numbered)
    → IsBank ts → slice_get ts n ≡ Some t → Underway ts whole (tree_at ts n ∷ rest) old vars table
    → new ≡ old ++ blocks vars (node_gates table vars t) → more ≡ vars + vars_of (tree t) → rows ≡ slice_set table (number_of t) (node_outs table vars t)
    → Underway ts whole rest new more rows
goes_on ts whole rest old new vars more table rows n t b e u en ev er =
    record {
      places = qs;
      before = u.before ++ tree t ∷ [];
      knows = knows_more u.before ps vars (tree t) u.knows;
      after = subst (λ (s : Tree). AfterChildren (u.before ++ s ∷ []) rest) w u.after.1;
      sized = (place_size ps vars (tree t) u.sized r, u.sized);
      size = ap length er ∙ (length_set table (number_of t) (node_outs table vars t) ∙ u.size);
      is = subst (IsTableOf ts qs) (sym er) (table_more ts ps table vars t (node_outs table vars t) b (at_hand ts n t b e) u.size u.is (outs_same ts ps table vars n t u.is k));
      appended =
          rw (en, ev) (ap (λ (gs : List Gate). (old ++ blocks vars gs) ++ clauses_from qs (vars + vars_of (tree t)) rest) (gates_same ts ps table vars n t u.is k)
          ∙ (append_assoc old (blocks vars (gates_of ps vars (tree t))) (clauses_from qs (vars + vars_of (tree t)) rest)
          ∙ (ap (λ (s : Tree). old ++ clauses_from ps vars (s ∷ rest)) (sym w) ∙ u.appended)));
      ends = rw ev (ap (λ (s : Tree). places_from ps vars (s ∷ rest)) (sym w) ∙ u.ends);
      count = rw ev (ap (λ (s : Tree). vars_from vars (s ∷ rest)) (sym w) ∙ u.count);
    }
  where
    w : tree_at ts n ≡ tree t
    w = tree_of ts n t e

    ps : List Place
    ps = u.places

    qs : List Place
    qs = place_of ps vars (tree t) ∷ ps

    k : ChildrenBefore ts n t
    k = b.before n t e

    r : Ready ps (tree t)
    r = ready u.before ps (tree t) u.knows (subst (ChildrenAmong u.before) w u.after.0) (sorts_of ts n t k)

-- a row is set
pub table_set : (rows : List (Vec Literal)) (n : ℕ) (row : Vec Literal) (ls : List Literal) → row.items ≡ ls → table_of (slice_set rows n row) ≡ slice_set (table_of rows) n ls
table_set [] n row ls e = refl
table_set (r ∷ rows) zero row ls e = ap (λ (x : List Literal). x ∷ table_of rows) e
table_set (r ∷ rows) (suc n) row ls e = ap (λ (xs : List (List Literal)). r.items ∷ xs) (table_set rows n row ls e)

pub drop_item : (ns : List ℕ) (i : ℕ) → i < length ns → drop i ns ≡ slice_index_or ns i 0 ∷ drop (i + 1) ns
drop_item [] i l = absurd (omega arith)
drop_item (m ∷ ns) zero l = refl
drop_item (m ∷ ns) (suc i) l = drop_item ns i (omega arith) ∙ ap (λ (k : ℕ). slice_index_or ns i 0 ∷ drop k (m ∷ ns)) (let e : suc (i + 1) ≡ suc i + 1 = omega arith in e)

pub item_below : (size : ℕ) (ns : List ℕ) (i : ℕ) → i < length ns → AllBelow size (drop i ns) → slice_index_or ns i 0 < size
item_below size ns i l h = (subst (AllBelow size) (drop_item ns i l) h).0

pub rest_below : (size : ℕ) (ns : List ℕ) (i : ℕ) → i < length ns → AllBelow size (drop i ns) → AllBelow size (drop (i + 1) ns)
rest_below size ns i l h = (subst (AllBelow size) (drop_item ns i l) h).1

pub next_under : (ts : List Numbered) (whole : List Tree) (ns : List ℕ) (i : ℕ) (clauses : List (List Literal)) (vars : ℕ) (table : List (List Literal)) → i < length ns
    → Underway ts whole (trees_at ts (drop i ns)) clauses vars table → Underway ts whole (tree_at ts (slice_index_or ns i 0) ∷ trees_at ts (drop (i + 1) ns)) clauses vars table
next_under ts whole ns i clauses vars table l u = subst (λ (ms : List ℕ). Underway ts whole (trees_at ts ms) clauses vars table) (drop_item ns i l) u

-- flags
pub among_flags : (ts flags : List Numbered) → AllFlags ts flags → AllAmong ts flags
among_flags ts [] h = tt
among_flags ts (t ∷ rest) h = (h.0.0, among_flags ts rest h.1)

pub flag_trees : (ts flags : List Numbered) → AllFlags ts flags → AllFlagTrees (trees flags)
flag_trees ts [] h = tt
flag_trees ts (t ∷ rest) h = (h.0.1, flag_trees ts rest h.1)

rows_of_flags : (ts flags : List Numbered) (ps : List Place) (table : List (List Literal)) (whole : List Tree) → IsTableOf ts ps table → length table ≡ length ts → AllSized ps → Knows whole ps → AllIn whole (trees flags) → AllFlags ts flags → AllFlagRows table flags
rows_of_flags ts [] ps table whole is l sz k a h = tt
rows_of_flags ts (t ∷ rest) ps table whole is l sz k a h =
    (flag_row ts ps table t is l sz h.0 (k (tree t) a.0, h.0.1), rows_of_flags ts rest ps table whole is l sz k a.1 h.1)

pub row_flags_are : (ts flags : List Numbered) (ps : List Place) (table : List (List Literal)) → IsTableOf ts ps table → AllFlags ts flags → row_flags table flags ≡ flag_lits ps (trees flags)
row_flags_are ts [] ps table is h = refl
row_flags_are ts (t ∷ rest) ps table is h =
    ap (λ (r : List Literal). flag_lit r ∷ row_flags table rest) (row_is ts ps table t is h.0.0)
    ∙ ap (λ (ls : List Literal). flag_lit (lits_of ps (tree t)) ∷ ls) (row_flags_are ts rest ps table is h.1)

pub flag_rows : (ts flags : List Numbered) (ns : List ℕ) (table : List (List Literal)) (asserted named : List Tree) → IsBank ts → AllBelow (length ts) ns → trees_at ts ns ≡ order_of asserted named
    → IsTableOf ts (places_from [] 1 (trees_at ts ns)) table → length table ≡ length ts → AllIn (order_of asserted named) (trees flags) → AllFlags ts flags → AllFlagRows table flags
flag_rows ts flags ns table asserted named b below e is l a h =
    let so : AllSorts (trees_at ts ns) = all_sorts ts ns b below in
    let after : AfterChildren [] (trees_at ts ns) = subst (AfterChildren []) (sym e) (order_after asserted named) in
    let r : AllReady [] 1 (trees_at ts ns) = all_ready [] [] 1 (trees_at ts ns) (λ s q. absurd (cc)) after so in
    rows_of_flags ts flags (places_from [] 1 (trees_at ts ns)) table (trees_at ts ns) is l (all_sized [] 1 (trees_at ts ns) tt r) (λ s q. among_placed [] 1 (trees_at ts ns) s q)
    (subst (λ (ss : List Tree). AllIn ss (trees flags)) (sym e) a) h

-- what was made is the clause list
pub made : (ts asserted named : List Numbered) (ns : List ℕ) (it : Blasted) (first : List (List Literal)) → IsBank ts → AllFlags ts asserted → AllFlags ts named → AllBelow (length ts) ns
    → trees_at ts ns ≡ order_of (trees asserted) (trees named)
    → first ≡ as_clause (lit_true ∷ []) ++ clauses_from [] 1 (trees_at ts ns)
    → it.cnf.clauses.items ≡ first ++ as_clauses (units (row_flags (table_of it.places.items) asserted))
    → it.cnf.vars ≡ vars_from 1 (trees_at ts ns)
    → IsTableOf ts (places_from [] 1 (trees_at ts ns)) (table_of it.places.items)
    → it.named.items ≡ row_flags (table_of it.places.items) named
    → IsBlasted ts (trees asserted) (trees named) it
made ts asserted named ns it first b fa fn below e ef ec ev is en =
    record {
      flags = flag_trees ts asserted fa;
      numbers = ns;
      below = below;
      order = e;
      clauses =
          ec
          ∙ (ap (λ (cs : List (List Literal)). cs ++ last) ef
          ∙ (append_assoc (as_clause (lit_true ∷ [])) (clauses_from [] 1 (trees_at ts ns)) last
          ∙ (ap (λ (ss : List Tree). as_clause (lit_true ∷ []) ++ (clauses_from [] 1 ss ++ last)) e
          ∙ ap (λ (ls : List Literal). as_clause (lit_true ∷ []) ++ (clauses_from [] 1 (order_of (trees asserted) (trees named)) ++ as_clauses (units ls))) (row_flags_are ts asserted ps table here fa))));
      vars = ev ∙ ap (vars_from 1) e;
      places = here;
      named_lits = en ∙ row_flags_are ts named ps table here fn;
    }
  where
    ps : List Place
    ps = places_of (trees asserted) (trees named)

    table : List (List Literal)
    table = table_of it.places.items

    last : List (List Literal)
    last = as_clauses (units (row_flags table asserted))

    here : IsTableOf ts ps table
    here = subst (λ (ss : List Tree). IsTableOf ts (places_from [] 1 ss) table) e is
