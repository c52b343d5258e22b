-- Parts of a tree that add slots: what they add where the text has moved, and where one number is replaced.
use Rattle.std.proofs.Common.{◌≡◌, ◌+◌, ℕ, suc, List, [], ◌∷◌, ◌++◌, length, map, refl, sym, ap, ◌∙◌, subst, inl, inr, ◌⊎◌}
use Rattle.std.proofs.lemmas.List.{append_assoc, append-nil, map-append, length-map, length-append}
use Rattle.ax_prog.specs.declared.Span.{Span}
use Rattle.ax_prog.specs.declared.Expr as ex
use Rattle.ax_prog.specs.declared.Atom.{Atom}
use Rattle.ax_prog.specs.declared.Slot.{Slot}
use Rattle.ax_parse_grammar.specs.declared.tree.Expr.{Expr}
use Rattle.ax_parse_grammar.specs.Trees.{span_of}
use Rattle.ax_names_rules.specs.declared.State.{State}
use Rattle.ax_names_rules.specs.States.{visible}
use Rattle.ax_names_rules.specs.Values.{IsNumber}
use Rattle.ax_print_fills.specs.Replaced.{moved_slot}
use Rattle.ax_print_fills.proofs.Grown.{Grown, grown_same, grown_then}

-- the state with other slots
abbrev pub over : State → List Slot → State
over st s = record st { slots = s }

-- the slot that an expression makes here
abbrev pub slot_of : State → Expr → ex.Expr → List (Atom × Span) → Slot
slot_of st a x atoms = record { span = span_of a; expr = x; scope = visible st.names; atoms = atoms }

-- what a moved part says, from these slots to those
abbrev pub Moving : Type 1
Moving = (ℕ → ℕ) → List Slot → List Slot → Type 0

-- what a part with one number replaced says; H has the places of numbers
abbrev pub Putting : (Expr → Type 0) → Type 1
Putting H = (ℕ → ℕ) → (old : Expr) → H old → Expr → List Slot → List Slot → Type 0

abbrev pub Moves : State → List Slot → Moving → Type 0
Moves st more M = (f : ℕ → ℕ) (s : List Slot) → length s ≡ length st.slots → M f s (s ++ map (moved_slot f) more)

-- the slot behind these and before those is at a place of H, and may be replaced there
abbrev pub Fills : State → State → List Slot → Slot → List Slot → (H : Expr → Type 0) → Putting H → Type 0
Fills st st2 before slot after H P =
    (old : Expr) × (path : H old) × (there : State) × (span_of old ≡ slot.span) × (visible there.names ≡ slot.scope) × IsNumber there old slot.expr slot.atoms × Grown st there × Grown there st2 ×
    ((f : ℕ → ℕ) (new : Expr) (x : ex.Expr) (atoms : List (Atom × Span)) → IsNumber there new x atoms → (s : List Slot) → length s ≡ length st.slots → P f old path new s (s ++ (map (moved_slot f) before ++ slot_of there new x atoms ∷ map (moved_slot f) after)))

abbrev pub FillsEach : State → State → List Slot → (H : Expr → Type 0) → Putting H → Type 0
FillsEach st st2 more H P = (before : List Slot) (slot : Slot) (after : List Slot) → more ≡ before ++ slot ∷ after → Fills st st2 before slot after H P

-- the part adds slots, each of which may be replaced
abbrev pub Adds : State → State → Moving → (H : Expr → Type 0) → Putting H → Type 0
Adds st st2 M H P = (more : List Slot) × (st2.slots ≡ st.slots ++ more) × Grown st st2 × Moves st more M × FillsEach st st2 more H P

-- ---- lists

nothing_between : {A : Type 0} {B : Type 0} (before : List A) (x : A) (after : List A) → [] ≡ before ++ x ∷ after → B
nothing_between [] x after h = cc
nothing_between (y ∷ ys) x after h = cc

abbrev Split : {A : Type 0} → List A → List A → List A → A → List A → Type 0
Split {A} xs ys before x after =
    ((a : List A) × (xs ≡ before ++ x ∷ a) × (after ≡ a ++ ys)) ⊎ ((b : List A) × (before ≡ xs ++ b) × (ys ≡ b ++ x ∷ after))

head_or : {A : Type 0} → A → List A → A
head_or d [] = d
head_or d (x ∷ xs) = x

tail_of : {A : Type 0} → List A → List A
tail_of [] = []
tail_of (x ∷ xs) = xs

same_head : {A : Type 0} (x y : A) (xs ys : List A) → x ∷ xs ≡ y ∷ ys → x ≡ y
unfolding head_or
same_head x y xs ys h = ap (head_or x) h

same_tail : {A : Type 0} (x y : A) (xs ys : List A) → x ∷ xs ≡ y ∷ ys → xs ≡ ys
unfolding tail_of
same_tail x y xs ys h = ap tail_of h

split_cons : {A : Type 0} (w v : A) (xs ys before : List A) (x : A) (after : List A) → w ≡ v → Split xs ys before x after → Split (w ∷ xs) ys (v ∷ before) x after
split_cons w v xs ys before x after e (inl s) = inl (s.0, ap (λ l. w ∷ l) s.1 ∙ ap (λ z. z ∷ (before ++ x ∷ s.0)) e, s.2)
split_cons w v xs ys before x after e (inr s) = inr (s.0, ap (λ l. v ∷ l) s.1 ∙ ap (λ z. z ∷ (xs ++ s.0)) (sym e), s.2)

-- what stands in two lists stands in the first or in the second
split : {A : Type 0} (xs ys before : List A) (x : A) (after : List A) → xs ++ ys ≡ before ++ x ∷ after → Split xs ys before x after
split [] ys before x after h = inr (before, refl, h)
split (w ∷ xs) ys [] x after h = inl (xs, ap (λ z. z ∷ xs) (same_head w x (xs ++ ys) after h), sym (same_tail w x (xs ++ ys) after h))
split (w ∷ xs) ys (v ∷ before) x after h = split_cons w v xs ys before x after (same_head w v (xs ++ ys) (before ++ x ∷ after) h) (split xs ys before x after (same_tail w v (xs ++ ys) (before ++ x ∷ after) h))

pub alone : {A : Type 0} (s : A) (before : List A) (x : A) (after : List A) → s ∷ [] ≡ before ++ x ∷ after → (before ≡ []) × (s ≡ x) × (after ≡ [])
alone s [] x after h = (refl, same_head s x [] after h, sym (same_tail s x [] after h))
alone s (y ∷ before) x after h = nothing_between before x after (same_tail s y [] (before ++ x ∷ after) h)

-- ---- lengths

longer : (st st2 : State) (more : List Slot) (f : ℕ → ℕ) (s : List Slot) → st2.slots ≡ st.slots ++ more → length s ≡ length st.slots → length (s ++ map (moved_slot f) more) ≡ length st2.slots
longer st st2 more f s e h = length-append s (map (moved_slot f) more) ∙ (ap (λ n. length s + n) (length-map more (moved_slot f)) ∙ (ap (λ n. n + length more) h ∙ (sym (length-append st.slots more) ∙ sym (ap length e))))

same_count : (f : ℕ → ℕ) (before more : List Slot) (slot made : Slot) → length (map (moved_slot f) before ++ made ∷ map (moved_slot f) more) ≡ length (before ++ slot ∷ more)
same_count f before more slot made =
    length-append (map (moved_slot f) before) (made ∷ map (moved_slot f) more) ∙
    (ap (λ n. n + length (made ∷ map (moved_slot f) more)) (length-map before (moved_slot f)) ∙ (ap (λ n. length before + suc n) (length-map more (moved_slot f)) ∙ sym (length-append before (slot ∷ more))))

refilled : (a b : State) (f : ℕ → ℕ) (s xs before : List Slot) (slot : Slot) (more : List Slot) (made : Slot) → b.slots ≡ a.slots ++ xs → xs ≡ before ++ slot ∷ more → length s ≡ length a.slots → length (s ++ (map (moved_slot f) before ++ made ∷ map (moved_slot f) more)) ≡ length b.slots
refilled a b f s xs before slot more made e hx h =
    length-append s (map (moved_slot f) before ++ made ∷ map (moved_slot f) more) ∙
    (ap (λ n. length s + n) (same_count f before more slot made ∙ sym (ap length hx)) ∙ (ap (λ n. n + length xs) h ∙ (sym (length-append a.slots xs) ∙ sym (ap length e))))

-- ---- one part behind another

moved_on : (f : ℕ → ℕ) (s xs ys : List Slot) → (s ++ map (moved_slot f) xs) ++ map (moved_slot f) ys ≡ s ++ map (moved_slot f) (xs ++ ys)
moved_on f s xs ys = append_assoc s (map (moved_slot f) xs) (map (moved_slot f) ys) ∙ ap (λ l. s ++ l) (sym (map-append (moved_slot f) xs ys))

-- nothing is added
pub nothing_added : (st : State) (M : Moving) (H : Expr → Type 0) (P : Putting H) → ((f : ℕ → ℕ) (s : List Slot) → length s ≡ length st.slots → M f s s) → Adds st st M H P
nothing_added st M H P h =
    ([], sym (append-nil st.slots), grown_same st, λ f s e. subst (λ (l : List Slot). M f s l) (sym (append-nil s)) (h f s e), λ before slot after e. nothing_between before slot after e)

-- the same with other names and variables around it
pub added_as : (st st2 a b : State) (M N : Moving) (H K : Expr → Type 0) (P : Putting H) (Q : Putting K) → Adds st st2 M H P → a.slots ≡ st.slots → b.slots ≡ st2.slots → Grown a st → Grown st2 b → ((f : ℕ → ℕ) (s t : List Slot) → length s ≡ length st.slots → M f s t → N f s t) → (to : (old : Expr) → H old → K old) → ((f : ℕ → ℕ) (old : Expr) (h : H old) (new : Expr) (s t : List Slot) → length s ≡ length st.slots → P f old h new s t → Q f old (to old h) new s t) → Adds a b N K Q
added_as st st2 a b M N H K P Q d ha hb ga gb moved to put = (
  d.0,
  hb ∙ (d.1 ∙ ap (λ l. l ++ d.0) (sym ha)),
  grown_then a st b ga (grown_then st st2 b d.2 gb),
  λ f s e. moved f s (s ++ map (moved_slot f) d.0) (e ∙ ap length ha) (d.3 f s (e ∙ ap length ha)),
  λ before slot after e. let q = d.4 before slot after e in (
    q.0,
    to q.0 q.1,
    q.2,
    q.3,
    q.4,
    q.5,
    grown_then a st q.2 ga q.6,
    grown_then q.2 st2 b q.7 gb,
    λ f new x atoms n s h. put f q.0 q.1 new s (s ++ (map (moved_slot f) before ++ slot_of q.2 new x atoms ∷ map (moved_slot f) after)) (h ∙ ap length ha) (q.8 f new x atoms n s (h ∙ ap length ha)),
  ),
)

module _ (a b c : State) (M N O : Moving) (H K L : Expr → Type 0) (P : Putting H) (Q : Putting K) (R : Putting L) where
  module _ (both : (f : ℕ → ℕ) (s t u : List Slot) → length s ≡ length a.slots → M f s t → N f t u → O f s u) (left : (old : Expr) → H old → L old) (on_left : (f : ℕ → ℕ) (old : Expr) (h : H old) (new : Expr) (s t u : List Slot) → length s ≡ length a.slots → P f old h new s t → N f t u → R f old (left old h) new s u) (right : (old : Expr) → K old → L old) (on_right : (f : ℕ → ℕ) (old : Expr) (k : K old) (new : Expr) (s t u : List Slot) → length s ≡ length a.slots → M f s t → Q f old k new t u → R f old (right old k) new s u) where
    then_moved : (xs ys : List Slot) → b.slots ≡ a.slots ++ xs → Moves a xs M → Moves b ys N → Moves a (xs ++ ys) O
    then_moved xs ys e m n f s h =
        subst (λ (l : List Slot). O f s l) (moved_on f s xs ys) (both f s (s ++ map (moved_slot f) xs) ((s ++ map (moved_slot f) xs) ++ map (moved_slot f) ys) h (m f s h) (n f (s ++ map (moved_slot f) xs) (longer a b xs f s e h)))

    -- the slot is one of the first part's
    fills_first : (xs ys before : List Slot) (slot : Slot) (after more : List Slot) → b.slots ≡ a.slots ++ xs → xs ≡ before ++ slot ∷ more → after ≡ more ++ ys → Grown b c → Moves b ys N → Fills a b before slot more H P → Fills a c before slot after L R
    fills_first xs ys before slot after more e hx ha g n q = (
      q.0,
      left q.0 q.1,
      q.2,
      q.3,
      q.4,
      q.5,
      q.6,
      grown_then q.2 b c q.7 g,
      λ f new x atoms k s h.
          let made : Slot = slot_of q.2 new x atoms in
          let mid : List Slot = s ++ (map (moved_slot f) before ++ made ∷ map (moved_slot f) more) in
          subst (λ (l : List Slot). R f q.0 (left q.0 q.1) new s l)
          (append_assoc s (map (moved_slot f) before ++ made ∷ map (moved_slot f) more) (map (moved_slot f) ys) ∙ ap (λ l. s ++ l) (append_assoc (map (moved_slot f) before) (made ∷ map (moved_slot f) more) (map (moved_slot f) ys) ∙ ap (λ l. map (moved_slot f) before ++ made ∷ l) (sym (map-append (moved_slot f) more ys) ∙ ap (map (moved_slot f)) (sym ha))))
          (on_left f q.0 q.1 new s mid (mid ++ map (moved_slot f) ys) h (q.8 f new x atoms k s h) (n f mid (refilled a b f s xs before slot more made e hx h))),
    )

    -- the slot is one of the second part's
    fills_second : (xs ys before : List Slot) (slot : Slot) (after more : List Slot) → b.slots ≡ a.slots ++ xs → before ≡ xs ++ more → Grown a b → Moves a xs M → Fills b c more slot after K Q → Fills a c before slot after L R
    fills_second xs ys before slot after more e hb g m q = (
      q.0,
      right q.0 q.1,
      q.2,
      q.3,
      q.4,
      q.5,
      grown_then a b q.2 g q.6,
      q.7,
      λ f new x atoms k s h.
          let made : Slot = slot_of q.2 new x atoms in
          let mid : List Slot = s ++ map (moved_slot f) xs in
          subst (λ (l : List Slot). R f q.0 (right q.0 q.1) new s l)
          (append_assoc s (map (moved_slot f) xs) (map (moved_slot f) more ++ made ∷ map (moved_slot f) after) ∙ ap (λ l. s ++ l) (sym (append_assoc (map (moved_slot f) xs) (map (moved_slot f) more) (made ∷ map (moved_slot f) after)) ∙ ap (λ l. l ++ made ∷ map (moved_slot f) after) (sym (map-append (moved_slot f) xs more) ∙ ap (map (moved_slot f)) (sym hb))))
          (on_right f q.0 q.1 new s mid (mid ++ (map (moved_slot f) more ++ made ∷ map (moved_slot f) after)) h (m f s h) (q.8 f new x atoms k mid (longer a b xs f s e h))),
    )

    fills_either : (d : Adds a b M H P) (g : Adds b c N K Q) (before : List Slot) (slot : Slot) (after : List Slot) → Split d.0 g.0 before slot after → Fills a c before slot after L R
    fills_either d g before slot after (inl q) = fills_first d.0 g.0 before slot after q.0 d.1 q.1 q.2 g.2 g.3 (d.4 before slot q.0 q.1)
    fills_either d g before slot after (inr q) = fills_second d.0 g.0 before slot after q.0 d.1 q.1 d.2 d.3 (g.4 q.0 slot after q.2)

    pub added_then : Adds a b M H P → Adds b c N K Q → Adds a c O L R
    added_then d g = (
      d.0 ++ g.0,
      g.1 ∙ (ap (λ l. l ++ g.0) d.1 ∙ append_assoc a.slots d.0 g.0),
      grown_then a b c d.2 g.2,
      then_moved d.0 g.0 d.1 d.3 g.3,
      λ before slot after e. fills_either d g before slot after (split d.0 g.0 before slot after e),
    )

-- ---- two parts, one behind the other

abbrev pub Then : Moving → Moving → Moving
Then M N f s u = (t : List Slot) × M f s t × N f t u

abbrev pub Either : (Expr → Type 0) → (Expr → Type 0) → Expr → Type 0
Either H K old = H old ⊎ K old

abbrev pub ThenPut : (M N : Moving) (H K : Expr → Type 0) → Putting H → Putting K → Putting (Either H K)
ThenPut M N H K P Q f old (inl h) new s u = (t : List Slot) × P f old h new s t × N f t u
ThenPut M N H K P Q f old (inr k) new s u = (t : List Slot) × M f s t × Q f old k new t u

pub added_both : (a b c : State) (M N : Moving) (H K : Expr → Type 0) (P : Putting H) (Q : Putting K) → Adds a b M H P → Adds b c N K Q → Adds a c (Then M N) (Either H K) (ThenPut M N H K P Q)
added_both a b c M N H K P Q d g =
    added_then a b c M N (Then M N) H K (Either H K) P Q (ThenPut M N H K P Q) (λ f s t u e m n. (t, m, n)) (λ old h. inl h) (λ f old h new s t u e m n. (t, m, n)) (λ old k. inr k) (λ f old k new s t u e m n. (t, m, n)) d g
