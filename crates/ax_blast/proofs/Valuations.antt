-- What the valuation of a model reads.
use Rattle.std.proofs.Common.{◌≡◌, ℕ, zero, suc, ◌+◌, ◌*◌, ◌^◌, ◌≤◌, ◌<◌, Bool, true, false, List, [], ◌∷◌, ◌++◌, length, map, drop, nat_eq, if◌then◌else◌, ℤ, Some, slice_get, slice_index_or, refl, ap, sym, subst, ◌∙◌, arith}
use Rattle.std.proofs.lemmas.List.{length-map, length-drop}
use Rattle.std.proofs.Math.Nat.{pow-succ'}
use Rattle.std.specs.Global.{Vec}
use Rattle.ax_gates.specs.Words.{word_value}
use Rattle.ax_gates.proofs.Values.{digit-lt, pow_pos}
use Rattle.std.proofs.Math.ListN.{get_or}
use Rattle.std.proofs.lemmas.Option.{slice_get-get_or, slice_get_within, get_or_from_slice_get}
use Rattle.std.specs.List.{All}
use Rattle.ax_proof.specs.Literal.{Literal, IsOver}
use Rattle.ax_proof.specs.Assignment.{lit_value, satisfies}
use Rattle.ax_gates_adders.specs.Adders.{signed_value}
use Rattle.ax_term.specs.Tree.{Tree, word, word_sym, flag, flag_sym, make, compare, no, all, pick}
use Rattle.ax_term.specs.Numbered.{Numbered, tree}
use Rattle.ax_term.specs.Values.{Interpretation}
use Rattle.ax_term.specs.Bank.{IsBank}
use Rattle.ax_term.proofs.FoldLemmas.{nat_eq-exact, nat_eq-refl}
use Rattle.ax_term.specs.Order.{tree_at, trees_at, trees, order_of, AllBelow}
use Rattle.ax_term.proofs.Orders.{order_after}
use Rattle.ax_term.proofs.Walks.{tree_of}
use Rattle.ax_blast.specs.Blasting.{Place, lits_of, flag_lit, places_of, list_vars, clause_list, EachHasValue, AllTrue, Reads}
use Rattle.ax_blast.specs.Table.{table_of, IsTableOf}
use Rattle.ax_blast.specs.Blasted.{IsBlasted}
use Rattle.ax_blast.specs.Reading.{word_read, flag_read, word_lits}
use Rattle.ax_blast.specs.declared.blasted.Blasted.{Blasted}
use Rattle.ax_blast.proofs.Laws.{AllRead, ListMeans, list_means, list_extends}
use Rattle.ax_blast.proofs.Places.{AllSorts, AllReady, all_ready, all_sized, size_small}
use Rattle.ax_blast.proofs.Tables.{all_sorts}
use Rattle.ax_blast.proofs.Bound.{list_bound}
use Rattle.ax_blast.proofs.Over.{list_over}

-- the sorts of a list's terms
pub blasted_sorts : (ts : List Numbered) (asserted named : List Tree) (it : Blasted) → IsBank ts → IsBlasted ts asserted named it → AllSorts (order_of asserted named)
blasted_sorts ts asserted named it b h = subst AllSorts h.order (all_sorts ts h.numbers b h.below)

pub blasted_extends : (ts : List Numbered) (asserted named : List Tree) (it : Blasted) → IsBank ts → IsBlasted ts asserted named it → (i : Interpretation) → AllTrue i asserted
    → (v : ℕ → Bool) × (satisfies v it.cnf.clauses.items ≡ true) × EachHasValue i v (places_of asserted named) (order_of asserted named)
blasted_extends ts asserted named it b h i tr =
    let r = list_extends i asserted named (blasted_sorts ts asserted named it b h) h.flags tr in
    (r.0, ap (satisfies r.0) h.clauses ∙ r.1, r.2)

pub blasted_bound : (ts : List Numbered) (asserted named : List Tree) (it : Blasted) → IsBank ts → IsBlasted ts asserted named it
    → length it.cnf.clauses.items ≤ 64000 * length (order_of asserted named) + length asserted + 1
blasted_bound ts asserted named it b h =
    let e = ap length h.clauses in
    let l = list_bound asserted named (blasted_sorts ts asserted named it b h) in
    omega arith

pub blasted_over : (ts : List Numbered) (asserted named : List Tree) (it : Blasted) → IsBank ts → IsBlasted ts asserted named it → All (IsOver it.cnf.vars) it.cnf.clauses.items
blasted_over ts asserted named it b h =
    subst (λ (k : ℕ). All (IsOver k) it.cnf.clauses.items) (sym h.vars)
    (subst (All (IsOver (list_vars asserted named))) (sym h.clauses) (list_over asserted named (blasted_sorts ts asserted named it b h)))

-- the row of a number
pub row_at : (ts : List Numbered) (asserted named : List Tree) (it : Blasted) (n : ℕ) → IsBlasted ts asserted named it → n < length ts
    → slice_index_or (table_of it.places.items) n [] ≡ lits_of (places_of asserted named) (tree_at ts n)
row_at ts asserted named it n h l = get_or_from_slice_get (table_of it.places.items) n (lits_of (places_of asserted named) (tree_at ts n)) [] (h.places n l)

pub rows_within : (ts : List Numbered) (asserted named : List Tree) (it : Blasted) (n : ℕ) → IsBlasted ts asserted named it → n < length ts → n < length it.places.items
rows_within ts asserted named it n h l =
    let w = slice_get_within (table_of it.places.items) n (lits_of (places_of asserted named) (tree_at ts n)) (h.places n l) in
    let e = length-map it.places.items (λ row. row.items) in
    omega arith

pub lits_small : (ts : List Numbered) (asserted named : List Tree) (it : Blasted) (t : Tree) → IsBank ts → IsBlasted ts asserted named it → length (lits_of (places_of asserted named) t) ≤ 32
lits_small ts asserted named it t b h =
    let r : AllReady [] 1 (order_of asserted named) = all_ready [] [] 1 (order_of asserted named) (λ s e. absurd (cc)) (order_after asserted named) (blasted_sorts ts asserted named it b h) in
    size_small (places_of asserted named) t (all_sized [] 1 (order_of asserted named) tt r)

any_lits : (t : Tree) (count : ℕ) → count ≤ 32 → word_lits t count
any_lits (word z) count h = tt
any_lits (word_sym k) count h = h
any_lits (flag b) count h = tt
any_lits (flag_sym k) count h = tt
any_lits (make op a b) count h = tt
any_lits (compare op a b) count h = tt
any_lits (no f) count h = tt
any_lits (all f g) count h = tt
any_lits (pick f a b) count h = tt

pub row_small : (ts : List Numbered) (asserted named : List Tree) (it : Blasted) (n : ℕ) (t : Tree) → IsBank ts → IsBlasted ts asserted named it → n < length ts → word_lits t (length (slice_index_or (table_of it.places.items) n []))
row_small ts asserted named it n t b h l =
    any_lits t (length (slice_index_or (table_of it.places.items) n []))
    (let e = ap length (row_at ts asserted named it n h l) in let s = lits_small ts asserted named it (tree_at ts n) b h in omega arith)

-- reading one term more
read_here : (i : Interpretation) (v : ℕ → Bool) (t : Tree) (ls : List Literal) (words : ℕ → ℤ) (flags : ℕ → Bool)
    → ((k : ℕ) → i.words k ≡ word_read t k (signed_value v ls) (words k)) → ((k : ℕ) → i.flags k ≡ flag_read t k (lit_value v (flag_lit ls)) (flags k)) → Reads i v t ls
read_here i v (word_sym k) ls words flags ws fs = ws k ∙ ap (λ (b : Bool). if b then signed_value v ls else words k) (nat_eq-refl k)
read_here i v (flag_sym k) ls words flags ws fs = fs k ∙ ap (λ (b : Bool). if b then lit_value v (flag_lit ls) else flags k) (nat_eq-refl k)
read_here i v (word z) ls words flags ws fs = tt
read_here i v (flag b) ls words flags ws fs = tt
read_here i v (make op a b) ls words flags ws fs = tt
read_here i v (compare op a b) ls words flags ws fs = tt
read_here i v (no f) ls words flags ws fs = tt
read_here i v (all f g) ls words flags ws fs = tt
read_here i v (pick f a b) ls words flags ws fs = tt

-- where the term is the word symbol k, its literals are those of k
abbrev pub SameWord : Tree → ℕ → List Literal → List Literal → Type 0
SameWord t k ls ms = t ≡ word_sym k → ls ≡ ms

keep_word : (v : ℕ → Bool) (t : Tree) (k : ℕ) (ls ms : List Literal) (old : ℤ) → (t ≡ word_sym k → ls ≡ ms) → old ≡ signed_value v ms → word_read t k (signed_value v ls) old ≡ signed_value v ms
keep_word v (word_sym j) k ls ms old same e = by (nat_eq k j) refl
  where
    by : (b : Bool) → nat_eq k j ≡ b → (if nat_eq k j then signed_value v ls else old) ≡ signed_value v ms
    by true q = ap (λ (b : Bool). if b then signed_value v ls else old) q ∙ ap (signed_value v) (same (ap word_sym (sym (nat_eq-exact k j q))))
    by false q = ap (λ (b : Bool). if b then signed_value v ls else old) q ∙ e
keep_word v (word z) k ls ms old same e = e
keep_word v (flag b) k ls ms old same e = e
keep_word v (flag_sym j) k ls ms old same e = e
keep_word v (make op a b) k ls ms old same e = e
keep_word v (compare op a b) k ls ms old same e = e
keep_word v (no f) k ls ms old same e = e
keep_word v (all f g) k ls ms old same e = e
keep_word v (pick f a b) k ls ms old same e = e

keep_flag : (v : ℕ → Bool) (t : Tree) (k : ℕ) (ls ms : List Literal) (old : Bool) → (t ≡ flag_sym k → ls ≡ ms) → old ≡ lit_value v (flag_lit ms) → flag_read t k (lit_value v (flag_lit ls)) old ≡ lit_value v (flag_lit ms)
keep_flag v (flag_sym j) k ls ms old same e = by (nat_eq k j) refl
  where
    by : (b : Bool) → nat_eq k j ≡ b → (if nat_eq k j then lit_value v (flag_lit ls) else old) ≡ lit_value v (flag_lit ms)
    by true q = ap (λ (b : Bool). if b then lit_value v (flag_lit ls) else old) q ∙ ap (λ (xs : List Literal). lit_value v (flag_lit xs)) (same (ap flag_sym (sym (nat_eq-exact k j q))))
    by false q = ap (λ (b : Bool). if b then lit_value v (flag_lit ls) else old) q ∙ e
keep_flag v (word z) k ls ms old same e = e
keep_flag v (flag b) k ls ms old same e = e
keep_flag v (word_sym j) k ls ms old same e = e
keep_flag v (make op a b) k ls ms old same e = e
keep_flag v (compare op a b) k ls ms old same e = e
keep_flag v (no f) k ls ms old same e = e
keep_flag v (all f g) k ls ms old same e = e
keep_flag v (pick f a b) k ls ms old same e = e

-- what was read of a tree s stays when the tree t is read, which has the same literals where it is the same tree
read_stays : (i j : Interpretation) (v : ℕ → Bool) (t s : Tree) (ls ms : List Literal) → (t ≡ s → ls ≡ ms)
    → ((k : ℕ) → i.words k ≡ word_read t k (signed_value v ls) (j.words k)) → ((k : ℕ) → i.flags k ≡ flag_read t k (lit_value v (flag_lit ls)) (j.flags k)) → Reads j v s ms → Reads i v s ms
read_stays i j v t (word_sym k) ls ms same ws fs r = ws k ∙ keep_word v t k ls ms (j.words k) same r
read_stays i j v t (flag_sym k) ls ms same ws fs r = fs k ∙ keep_flag v t k ls ms (j.flags k) same r
read_stays i j v t (word z) ls ms same ws fs r = tt
read_stays i j v t (flag b) ls ms same ws fs r = tt
read_stays i j v t (make op a b) ls ms same ws fs r = tt
read_stays i j v t (compare op a b) ls ms same ws fs r = tt
read_stays i j v t (no f) ls ms same ws fs r = tt
read_stays i j v t (all f g) ls ms same ws fs r = tt
read_stays i j v t (pick f a b) ls ms same ws fs r = tt

abbrev pub ReadBelow : List Numbered → Blasted → Interpretation → (ℕ → Bool) → ℕ → Type 0
ReadBelow ts it i v limit = (n : ℕ) → n < limit → Reads i v (tree_at ts n) (slice_index_or (table_of it.places.items) n [])

pub read_more : (ts : List Numbered) (asserted named : List Tree) (it : Blasted) (i j : Interpretation) (v : ℕ → Bool) (at : ℕ) (t : Numbered) (ls : List Literal) → IsBlasted ts asserted named it → at < length ts → slice_get ts at ≡ Some t
    → ls ≡ slice_index_or (table_of it.places.items) at []
    → ((k : ℕ) → i.words k ≡ word_read (tree t) k (signed_value v ls) (j.words k)) → ((k : ℕ) → i.flags k ≡ flag_read (tree t) k (lit_value v (flag_lit ls)) (j.flags k))
    → ReadBelow ts it j v at → ReadBelow ts it i v (at + 1)
read_more ts asserted named it i j v at t ls h l e row ws fs below n ln = by (nat_eq n at) refl
  where
    w : tree_at ts at ≡ tree t
    w = tree_of ts at t e

    table : List (List Literal)
    table = table_of it.places.items

    lits : Tree → List Literal
    lits s = lits_of (places_of asserted named) s

    low : nat_eq n at ≡ false → n < at
    low q = apart n at q ln
      where
        apart : (a b : ℕ) → nat_eq a b ≡ false → a < b + 1 → a < b
        apart a b f g = grind arith

    here : ls ≡ lits (tree t)
    here = row ∙ (row_at ts asserted named it at h l ∙ ap lits w)

    by : (b : Bool) → nat_eq n at ≡ b → Reads i v (tree_at ts n) (slice_index_or (table_of it.places.items) n [])
    by true q =
        let z : n ≡ at = nat_eq-exact n at q in
        subst (λ (m : ℕ). Reads i v (tree_at ts m) (slice_index_or (table_of it.places.items) m [])) (sym z)
        (subst (λ (s : Tree). Reads i v s (slice_index_or (table_of it.places.items) at [])) (sym w)
        (subst (Reads i v (tree t)) row (read_here i v (tree t) ls j.words j.flags ws fs)))
    by false q =
        let lt : n < at = low q in
        let there : slice_index_or (table_of it.places.items) n [] ≡ lits (tree_at ts n) = row_at ts asserted named it n h (omega arith) in
        read_stays i j v (tree t) (tree_at ts n) ls (slice_index_or (table_of it.places.items) n []) (λ same. here ∙ (ap lits same ∙ sym there)) ws fs (below n lt)

-- all that a list's trees need was read
all_read : (ts : List Numbered) (asserted named : List Tree) (it : Blasted) (i : Interpretation) (v : ℕ → Bool) (ns : List ℕ) → IsBlasted ts asserted named it → ReadBelow ts it i v (length ts) → AllBelow (length ts) ns
    → AllRead i v (places_of asserted named) (trees_at ts ns)
all_read ts asserted named it i v [] h r b = tt
all_read ts asserted named it i v (n ∷ ns) h r b = (subst (Reads i v (tree_at ts n)) (row_at ts asserted named it n h b.0) (r n b.0), all_read ts asserted named it i v ns h r b.1)

pub read_means : (ts : List Numbered) (it : Blasted) (i : Interpretation) (v : ℕ → Bool) → IsBank ts → ReadBelow ts it i v (length ts)
    → (asserted named : List Tree) → IsBlasted ts asserted named it → satisfies v it.cnf.clauses.items ≡ true → ListMeans i v asserted named
read_means ts it i v b r asserted named h s =
    list_means i v asserted named (blasted_sorts ts asserted named it b h) h.flags
    (subst (AllRead i v (places_of asserted named)) h.order (all_read ts asserted named it i v h.numbers h r h.below))
    (ap (satisfies v) (sym h.clauses) ∙ s)

pub length-trees : (ts : List Numbered) → length (trees ts) ≡ length ts
length-trees [] = refl
length-trees (t ∷ ts) = ap suc (length-trees ts)

-- the bits read so far leave room for one more
small_word : (v : ℕ → Bool) (k : ℕ) (ls : List Literal) → length ls ≤ k → word_value v ls < 2 ^ k
small_word v k [] h = pow_pos k
small_word v zero (l ∷ ls) h = absurd (omega arith)
small_word v (suc k) (l ∷ ls) h = let r = small_word v k ls (omega arith) in let d = digit-lt (lit_value v l) in omega (arith, pow-succ' 2 k)

pub bits_room : (v : ℕ → Bool) (ls : List Literal) (at n : ℕ) → length ls ≤ 32 → 0 < at → n ≡ word_value v (drop at ls) → 2 * n + 1 < 2 ^ 32
bits_room v ls at n l h e =
    let d = length-drop at ls in
    let s = small_word v 31 (drop at ls) (omega arith) in
    omega arith

pub row_get : (rows : List (Vec Literal)) (n : ℕ) (row : Vec Literal) (ls : List Literal) → n < length rows → row ≡ get_or rows n row → ls ≡ row.items → ls ≡ slice_index_or (table_of rows) n []
row_get [] n row ls l r e = absurd (omega arith)
row_get (x ∷ rows) zero row ls l r e = e ∙ ap (λ (y : Vec Literal). y.items) r
row_get (x ∷ rows) (suc n) row ls l r e = row_get rows n row ls (omega arith) r e

pub below_end : (ts : List Numbered) (it : Blasted) (i : Interpretation) (v : ℕ → Bool) (m : ℕ) → length ts ≤ m → ReadBelow ts it i v m → ReadBelow ts it i v (length ts)
below_end ts it i v m h r n l = r n (omega arith)
