-- The order has each term after its children, none twice, and the roots.
use Rattle.std.proofs.Common.{◌≡◌, ℕ, zero, suc, ◌+◌, ◌≤◌, ◌<◌, Bool, true, false, not, ◌&&◌, ◌||◌, List, [], ◌∷◌, ◌++◌, ◌⊎◌, inl, inr, if◌then◌else◌, refl, ap, sym, subst, ◌∙◌, arith, append-nil}
use Rattle.ax_term.specs.Tree.{Tree, word, word_sym, flag, flag_sym, make, compare, no, all, pick}
use Rattle.ax_term.specs.Folding.{same_tree}
use Rattle.ax_term.proofs.FoldLemmas.{same_tree-exact, same_tree-refl}
use Rattle.ax_term.specs.Order.{among, visit, visit_all, order_of, ChildrenAmong, AfterChildren, NoneTwice, AllIn}
use Rattle.ax_term.specs.Walk.{node_count}
use Rattle.ax_term.proofs.Walks.{among-push}

pub append_one : (xs : List Tree) (t : Tree) (ys : List Tree) → (xs ++ t ∷ []) ++ ys ≡ xs ++ (t ∷ ys)
append_one [] t ys = refl
append_one (x ∷ xs) t ys = ap (λ (r : List Tree). x ∷ r) (append_one xs t ys)

after_push : (before xs : List Tree) (t : Tree) → AfterChildren before xs → ChildrenAmong (before ++ xs) t → AfterChildren before (xs ++ t ∷ [])
after_push before [] t c k = (subst (λ (r : List Tree). ChildrenAmong r t) (append-nil before) k, tt)
after_push before (x ∷ xs) t c k = (c.0, after_push (before ++ x ∷ []) xs t c.1 (subst (λ (r : List Tree). ChildrenAmong r t) (sym (append_one before x xs)) k))

among_more : (xs ys : List Tree) (t : Tree) → among xs t ≡ true → among (xs ++ ys) t ≡ true
among_more [] ys t e = absurd (cc)
among_more (x ∷ xs) ys t e = by (λ h. among_more xs ys t h) (same_tree x t) e
  where
    by : (among xs t ≡ true → among (xs ++ ys) t ≡ true) → (b : Bool) → (b || among xs t) ≡ true → (b || among (xs ++ ys) t) ≡ true
    by rec true h = refl
    by rec false h = rec h

pub among_last : (xs : List Tree) (t : Tree) → among (xs ++ t ∷ []) t ≡ true
among_last xs t = among-push xs t t ∙ (ap (λ (b : Bool). among xs t || b) (same_tree-refl t) ∙ or_true (among xs t))
  where
    or_true : (a : Bool) → (a || true) ≡ true
    or_true true = refl
    or_true false = refl

-- what a visit does
pub record Visited (seen new : List Tree) (t : Tree) : Type 0 where
  pub after : AfterChildren [] new
  pub here : among new t ≡ true
  pub more : (s : Tree) → among seen s ≡ true → among new s ≡ true

visit_new : (seen mid : List Tree) (t : Tree) (b : Bool) → among seen t ≡ b → AfterChildren [] seen → AfterChildren [] mid → ChildrenAmong mid t → ((s : Tree) → among seen s ≡ true → among mid s ≡ true) → Visited seen (if b then seen else mid ++ t ∷ []) t
visit_new seen mid t true e cs cm k m = record { after = cs; here = e; more = λ s h. h }
visit_new seen mid t false e cs cm k m = record { after = after_push [] mid t cm k; here = among_last mid t; more = λ s h. among_more mid (t ∷ []) s (m s h) }

pub visit_visits : (seen : List Tree) (t : Tree) → AfterChildren [] seen → Visited seen (visit seen t) t
visit_visits seen (word z) c = visit_new seen seen (word z) (among seen (word z)) refl c c tt (λ s h. h)
visit_visits seen (word_sym z) c = visit_new seen seen (word_sym z) (among seen (word_sym z)) refl c c tt (λ s h. h)
visit_visits seen (flag z) c = visit_new seen seen (flag z) (among seen (flag z)) refl c c tt (λ s h. h)
visit_visits seen (flag_sym z) c = visit_new seen seen (flag_sym z) (among seen (flag_sym z)) refl c c tt (λ s h. h)
visit_visits seen (make op a b) c =
    let ra = visit_visits seen a c in
    let rb = visit_visits (visit seen a) b ra.after in
    visit_new seen (visit (visit seen a) b) (make op a b) (among seen (make op a b)) refl c rb.after (rb.more a ra.here, rb.here) (λ s h. rb.more s (ra.more s h))
visit_visits seen (compare op a b) c =
    let ra = visit_visits seen a c in
    let rb = visit_visits (visit seen a) b ra.after in
    visit_new seen (visit (visit seen a) b) (compare op a b) (among seen (compare op a b)) refl c rb.after (rb.more a ra.here, rb.here) (λ s h. rb.more s (ra.more s h))
visit_visits seen (all a b) c =
    let ra = visit_visits seen a c in
    let rb = visit_visits (visit seen a) b ra.after in
    visit_new seen (visit (visit seen a) b) (all a b) (among seen (all a b)) refl c rb.after (rb.more a ra.here, rb.here) (λ s h. rb.more s (ra.more s h))
visit_visits seen (no f) c =
    let rf = visit_visits seen f c in
    visit_new seen (visit seen f) (no f) (among seen (no f)) refl c rf.after rf.here rf.more
visit_visits seen (pick f a b) c =
    let rf = visit_visits seen f c in
    let ra = visit_visits (visit seen f) a rf.after in
    let rb = visit_visits (visit (visit seen f) a) b ra.after in
    visit_new seen (visit (visit (visit seen f) a) b) (pick f a b) (among seen (pick f a b)) refl c rb.after
    (rb.more f (ra.more f rf.here), rb.more a ra.here, rb.here) (λ s h. rb.more s (ra.more s (rf.more s h)))

-- all the visits
pub record VisitedAll (seen new ts : List Tree) : Type 0 where
  pub after : AfterChildren [] new
  pub here : AllIn new ts
  pub more : (s : Tree) → among seen s ≡ true → among new s ≡ true

pub visits : (seen ts : List Tree) → AfterChildren [] seen → VisitedAll seen (visit_all seen ts) ts
visits seen [] c = record { after = c; here = tt; more = λ s h. h }
visits seen (t ∷ ts) c =
    let r = visit_visits seen t c in
    let q = visits (visit seen t) ts r.after in
    record { after = q.after; here = (q.more t r.here, q.here); more = λ s h. q.more s (r.more s h) }

-- nothing but parts of t is added by a visit of t
added_new : (seen mid : List Tree) (t s : Tree) (b : Bool) → (among mid s ≡ true → (among seen s ≡ true) ⊎ (node_count s ≤ node_count t)) → among (if b then seen else mid ++ t ∷ []) s ≡ true → (among seen s ≡ true) ⊎ (node_count s ≤ node_count t)
added_new seen mid t s true m e = inl e
added_new seen mid t s false m e = elim (or_cases (among mid s) (same_tree t s) (sym (among-push mid t s) ∙ e)) [ inl a ↦ m a | inr q ↦ inr (let f = ap node_count (same_tree-exact t s q) in omega arith) ]
  where
    or_cases : (a b : Bool) → (a || b) ≡ true → (a ≡ true) ⊎ (b ≡ true)
    or_cases true b e = inl refl
    or_cases false b e = inr e

pub added : (seen : List Tree) (t s : Tree) → among (visit seen t) s ≡ true → (among seen s ≡ true) ⊎ (node_count s ≤ node_count t)
added seen (word z) s e = added_new seen seen (word z) s (among seen (word z)) (λ h. inl h) e
added seen (word_sym z) s e = added_new seen seen (word_sym z) s (among seen (word_sym z)) (λ h. inl h) e
added seen (flag z) s e = added_new seen seen (flag z) s (among seen (flag z)) (λ h. inl h) e
added seen (flag_sym z) s e = added_new seen seen (flag_sym z) s (among seen (flag_sym z)) (λ h. inl h) e
added seen (make op a b) s e = added_new seen (visit (visit seen a) b) (make op a b) s (among seen (make op a b)) (λ h. elim (added (visit seen a) b s h) [ inl x ↦ elim (added seen a s x) [ inl y ↦ inl y | inr y ↦ inr (omega arith) ] | inr x ↦ inr (omega arith) ]) e
added seen (compare op a b) s e = added_new seen (visit (visit seen a) b) (compare op a b) s (among seen (compare op a b)) (λ h. elim (added (visit seen a) b s h) [ inl x ↦ elim (added seen a s x) [ inl y ↦ inl y | inr y ↦ inr (omega arith) ] | inr x ↦ inr (omega arith) ]) e
added seen (all a b) s e = added_new seen (visit (visit seen a) b) (all a b) s (among seen (all a b)) (λ h. elim (added (visit seen a) b s h) [ inl x ↦ elim (added seen a s x) [ inl y ↦ inl y | inr y ↦ inr (omega arith) ] | inr x ↦ inr (omega arith) ]) e
added seen (no f) s e = added_new seen (visit seen f) (no f) s (among seen (no f)) (λ h. elim (added seen f s h) [ inl y ↦ inl y | inr y ↦ inr (omega arith) ]) e
added seen (pick f a b) s e = added_new seen (visit (visit (visit seen f) a) b) (pick f a b) s (among seen (pick f a b)) (λ h. elim (added (visit (visit seen f) a) b s h) [ inl x ↦ elim (added (visit seen f) a s x) [ inl y ↦ elim (added seen f s y) [ inl z ↦ inl z | inr z ↦ inr (omega arith) ] | inr y ↦ inr (omega arith) ] | inr x ↦ inr (omega arith) ]) e

-- no term twice
once_push : (before xs : List Tree) (t : Tree) → NoneTwice before xs → among (before ++ xs) t ≡ false → NoneTwice before (xs ++ t ∷ [])
once_push before [] t c k = (subst (λ (r : List Tree). among r t ≡ false) (append-nil before) k, tt)
once_push before (x ∷ xs) t c k = (c.0, once_push (before ++ x ∷ []) xs t c.1 (subst (λ (r : List Tree). among r t ≡ false) (sym (append_one before x xs)) k))

not_there : (b : Bool) → (b ≡ true → ⊥) → b ≡ false
not_there true h = absurd (h refl)
not_there false h = refl

visit_once_new : (seen mid : List Tree) (t : Tree) (b : Bool) → among seen t ≡ b → NoneTwice [] seen → NoneTwice [] mid → (among mid t ≡ true → among seen t ≡ true) → NoneTwice [] (if b then seen else mid ++ t ∷ [])
visit_once_new seen mid t true e fs fm m = fs
visit_once_new seen mid t false e fs fm m = once_push [] mid t fm (not_there (among mid t) (λ h. (let q = m h in absurd (cc))))

pub visit_once : (seen : List Tree) (t : Tree) → NoneTwice [] seen → NoneTwice [] (visit seen t)
visit_once seen (word z) f = visit_once_new seen seen (word z) (among seen (word z)) refl f f (λ h. h)
visit_once seen (word_sym z) f = visit_once_new seen seen (word_sym z) (among seen (word_sym z)) refl f f (λ h. h)
visit_once seen (flag z) f = visit_once_new seen seen (flag z) (among seen (flag z)) refl f f (λ h. h)
visit_once seen (flag_sym z) f = visit_once_new seen seen (flag_sym z) (among seen (flag_sym z)) refl f f (λ h. h)
visit_once seen (make op a b) f = visit_once_new seen (visit (visit seen a) b) (make op a b) (among seen (make op a b)) refl f (visit_once (visit seen a) b (visit_once seen a f)) (λ h. elim (added (visit seen a) b (make op a b) h) [ inl x ↦ elim (added seen a (make op a b) x) [ inl y ↦ y | inr y ↦ absurd (omega arith) ] | inr x ↦ absurd (omega arith) ])
visit_once seen (compare op a b) f = visit_once_new seen (visit (visit seen a) b) (compare op a b) (among seen (compare op a b)) refl f (visit_once (visit seen a) b (visit_once seen a f)) (λ h. elim (added (visit seen a) b (compare op a b) h) [ inl x ↦ elim (added seen a (compare op a b) x) [ inl y ↦ y | inr y ↦ absurd (omega arith) ] | inr x ↦ absurd (omega arith) ])
visit_once seen (all a b) f = visit_once_new seen (visit (visit seen a) b) (all a b) (among seen (all a b)) refl f (visit_once (visit seen a) b (visit_once seen a f)) (λ h. elim (added (visit seen a) b (all a b) h) [ inl x ↦ elim (added seen a (all a b) x) [ inl y ↦ y | inr y ↦ absurd (omega arith) ] | inr x ↦ absurd (omega arith) ])
visit_once seen (no g) f = visit_once_new seen (visit seen g) (no g) (among seen (no g)) refl f (visit_once seen g f) (λ h. elim (added seen g (no g) h) [ inl y ↦ y | inr y ↦ absurd (omega arith) ])
visit_once seen (pick q a b) f = visit_once_new seen (visit (visit (visit seen q) a) b) (pick q a b) (among seen (pick q a b)) refl f (visit_once (visit (visit seen q) a) b (visit_once (visit seen q) a (visit_once seen q f))) (λ h. elim (added (visit (visit seen q) a) b (pick q a b) h) [ inl x ↦ elim (added (visit seen q) a (pick q a b) x) [ inl y ↦ elim (added seen q (pick q a b) y) [ inl z ↦ z | inr z ↦ absurd (omega arith) ] | inr y ↦ absurd (omega arith) ] | inr x ↦ absurd (omega arith) ])

visits_once : (seen ts : List Tree) → NoneTwice [] seen → NoneTwice [] (visit_all seen ts)
visits_once seen [] f = f
visits_once seen (t ∷ ts) f = visits_once (visit seen t) ts (visit_once seen t f)

all_in-more : (old new ts : List Tree) → ((s : Tree) → among old s ≡ true → among new s ≡ true) → AllIn old ts → AllIn new ts
all_in-more old new [] m h = tt
all_in-more old new (t ∷ ts) m h = (m t h.0, all_in-more old new ts m h.1)

-- the laws of the whole order
pub order_after : (asserted named : List Tree) → AfterChildren [] (order_of asserted named)
order_after asserted named = (visits (visit_all [] asserted) named (visits [] asserted tt).after).after

pub order_once : (asserted named : List Tree) → NoneTwice [] (order_of asserted named)
order_once asserted named = visits_once (visit_all [] asserted) named (visits_once [] asserted tt)

pub order_asserted : (asserted named : List Tree) → AllIn (order_of asserted named) asserted
order_asserted asserted named =
    let first = visits [] asserted tt in
    let second = visits (visit_all [] asserted) named first.after in
    all_in-more (visit_all [] asserted) (order_of asserted named) asserted second.more first.here

pub order_named : (asserted named : List Tree) → AllIn (order_of asserted named) named
order_named asserted named = (visits (visit_all [] asserted) named (visits [] asserted tt).after).here
