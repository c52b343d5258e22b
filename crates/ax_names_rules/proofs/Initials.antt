-- What variables and globals begin with: what the functions give is what the rules say.
use Rattle.std.proofs.Common.{◌≡◌, ℕ, ℤ, Bool, true, false, List, length, map, Option, Some, None, Ok, Err, refl, sym, ap, ◌∙◌, subst, arith, if◌then◌else◌}
use Rattle.std.specs.Prelude.{nat_le}
use Rattle.std.proofs.lemmas.Bool.{leb-true, leb-false, le-leb, lt-leb}
use Rattle.ax_prog.specs.declared.Span.{Span}
use Rattle.ax_prog.specs.declared.Ty.{Ty, Ptr', Array', more_of-Ty, end_of-Ty}
use Rattle.ax_prog.specs.declared.Ty.TheVariants as ty
use Rattle.ax_prog.specs.declared.Ty.TheBlock.{shape-the_row-Ty-0, hidden-the_row-Ty-0}
use Rattle.ax_prog.specs.declared.Pexpr.TheVariants as p
use Rattle.ax_prog.specs.declared.Value.TheVariants as value
use Rattle.ax_prog.specs.declared.Init.{Init}
use Rattle.ax_prog.specs.declared.Init.TheVariants as init
use Rattle.ax_parse_grammar.specs.declared.tree.Prefix.TheVariants as pre
use Rattle.ax_parse_grammar.specs.declared.tree.Expr.{Expr, Number, Unary'}
use Rattle.ax_parse_grammar.specs.declared.tree.Expr.TheBlock.{more_of-Expr, end_of-Expr, shape-the_row-Expr-0, hidden-the_row-Expr-0}
use Rattle.ax_parse_grammar.specs.declared.tree.Signed.{Signed}
use Rattle.ax_parse_grammar.specs.declared.tree.Initialiser.{Initialiser}
use Rattle.ax_parse_grammar.specs.declared.tree.Initialiser.TheVariants as by
use Rattle.ax_names_types.specs.declared.TypeKind.TheVariants.{WrongType, WrongCount}
use Rattle.ax_names_types.specs.declared.TypeFault.{TypeFault}
use Rattle.ax_names_types.specs.Faults.{fault, Verdict}
use Rattle.ax_names_types.specs.Types.{is_zero}
use Rattle.ax_names_types.proofs.Sound.{clash}
use Rattle.ax_names_types.proofs.Broken.{Faulty}
use Rattle.ax_names_rules.specs.declared.State.{State}
use Rattle.ax_names_rules.specs.Declarations.{signed_value, TakesList, Begins, IsLiteral, BeginsGlobal}
use Rattle.ax_names_rules.specs.StatementFaults.{BreaksList, BreaksInitial, BreaksGlobalInitial}
use Rattle.ax_names_rules.specs.ValueWalk.{Made, given_for}
use Rattle.ax_names_rules.specs.StatementWalk.{fits_list, list_for, initial_of, literal_of, number_from, literal_for, global_initial}
use Rattle.ax_names_rules.proofs.Steps.{choose, bind_judged, bind_is, bind_faulty, fault_is, ok_is_err}
use Rattle.ax_names_rules.proofs.Called.{JudgedGiven, given_judged, given_is, given_breaks}
use denote.Hole.Carrier

-- ---- brace lists

abbrev is_int_array : Ty → Bool
is_int_array (Array' s (more_of-Ty ty.Int end_of-Ty) n) = true
is_int_array _ = false

no_int_array : (u : Ty) → is_int_array u ≡ false → (n : ℕ) → u ≡ ty.Array ty.Int n → ⊥
unfolding shape-the_row-Ty-0 hidden-the_row-Ty-0 Carrier.hidden
no_int_array u h n q = clash (is_int_array u) (ap is_int_array q) h

abbrev JudgedList : Ty → Span → List Signed → Verdict Init → Type 0
JudgedList u at xs (Ok v) = TakesList xs u × (v ≡ init.List (map signed_value xs))
JudgedList u at xs (Err f) = BreaksList u at xs f

fits_judged : (at : Span) (n : ℕ) (xs : List Signed) → JudgedList (ty.Array ty.Int n) at xs (fits_list at n xs)
fits_judged at n xs =
    choose (JudgedList (ty.Array ty.Int n) at xs) (nat_le (length xs) n) (Ok (init.List (map signed_value xs))) (Err (fault WrongCount at))
    (λ z. (TakesList.array (leb-true (length xs) n z), refl)) (λ z. BreaksList.count n refl (leb-false (length xs) n z))

list_judged : (u : Ty) (at : Span) (xs : List Signed) → JudgedList u at xs (list_for u at xs)
unfolding shape-the_row-Ty-0 hidden-the_row-Ty-0 Carrier.hidden
list_judged (Array' s (more_of-Ty ty.Int end_of-Ty) n) at xs = fits_judged at n xs
list_judged (Array' s (more_of-Ty (Ptr' s2 row) end_of-Ty) n) at xs = BreaksList.kind (no_int_array (Array' s (more_of-Ty (Ptr' s2 row) end_of-Ty) n) refl)
list_judged (Array' s (more_of-Ty (Array' s2 row m) end_of-Ty) n) at xs = BreaksList.kind (no_int_array (Array' s (more_of-Ty (Array' s2 row m) end_of-Ty) n) refl)
list_judged (Array' s (more_of-Ty (ty.Struct k) end_of-Ty) n) at xs = BreaksList.kind (no_int_array (Array' s (more_of-Ty (ty.Struct k) end_of-Ty) n) refl)
list_judged ty.Int at xs = BreaksList.kind (no_int_array ty.Int refl)
list_judged (Ptr' s row) at xs = BreaksList.kind (no_int_array (Ptr' s row) refl)
list_judged (ty.Struct k) at xs = BreaksList.kind (no_int_array (ty.Struct k) refl)

list_for-Array : (n : ℕ) (at : Span) (xs : List Signed) → list_for (ty.Array ty.Int n) at xs ≡ fits_list at n xs
unfolding shape-the_row-Ty-0 hidden-the_row-Ty-0 Carrier.hidden
list_for-Array n at xs = refl

list_is : (u : Ty) (at : Span) (xs : List Signed) → TakesList xs u → list_for u at xs ≡ Ok (init.List (map signed_value xs))
list_is _ at xs (TakesList.array {n = n} l) = list_for-Array n at xs ∙ rw (le-leb (length xs) n l) refl

no_list : (u : Ty) (at : Span) (xs : List Signed) → ((n : ℕ) → u ≡ ty.Array ty.Int n → ⊥) → list_for u at xs ≡ Err (fault WrongType at)
unfolding shape-the_row-Ty-0 hidden-the_row-Ty-0 Carrier.hidden
no_list (Array' s (more_of-Ty ty.Int end_of-Ty) n) at xs k = absurd (k n refl)
no_list (Array' s (more_of-Ty (Ptr' s2 row) end_of-Ty) n) at xs k = refl
no_list (Array' s (more_of-Ty (Array' s2 row m) end_of-Ty) n) at xs k = refl
no_list (Array' s (more_of-Ty (ty.Struct j) end_of-Ty) n) at xs k = refl
no_list ty.Int at xs k = refl
no_list (Ptr' s row) at xs k = refl
no_list (ty.Struct j) at xs k = refl

list_breaks : (u : Ty) (at : Span) (xs : List Signed) (g : TypeFault) → BreaksList u at xs g → Faulty (list_for u at xs) g
list_breaks u at xs _ (BreaksList.kind k) = fault_is (list_for u at xs) (fault WrongType at) (no_list u at xs k)
list_breaks u at xs _ (BreaksList.count n h l) = fault_is (list_for u at xs) (fault WrongCount at) (ap (λ u. list_for u at xs) h ∙ list_for-Array n at xs ∙ rw (lt-leb (length xs) n l) refl)

-- ---- variables in blocks

abbrev pub JudgedInitial : List (List ℕ) → Ty → Span → Initialiser → State → Made Init → Type 0
JudgedInitial defs u at i st (Ok r) = Begins defs st u i r.0 r.1
JudgedInitial defs u at i st (Err f) = BreaksInitial defs st u at i f

pub initial_judged : (defs : List (List ℕ)) (u : Ty) (at : Span) (i : Initialiser) (st : State) → JudgedInitial defs u at i st (initial_of defs u at i st)
initial_judged defs u at by.Nothing st = Begins.nothing
initial_judged defs u at (by.Value a) st = bind_judged (JudgedGiven defs u at st a) (JudgedInitial defs u at (by.Value a) st) _ (given_for defs u at st a) (given_judged defs u at st a) (λ r d. Begins.single d) (λ f d. BreaksInitial.single d)
initial_judged defs u at (by.List at2 xs) st =
    bind_judged (JudgedList u at xs) (JudgedInitial defs u at (by.List at2 xs) st) _ (list_for u at xs) (list_judged u at xs)
    (λ v d. subst (λ (v : Init). Begins defs st u (by.List at2 xs) v st) (sym d.1) (Begins.list d.0)) (λ f d. BreaksInitial.list d)

pub initial_is : (defs : List (List ℕ)) (u : Ty) (at : Span) (i : Initialiser) (st : State) (v : Init) (st2 : State) → Begins defs st u i v st2 → initial_of defs u at i st ≡ Ok (v, st2)
initial_is defs u at _ st _ _ Begins.nothing = refl
initial_is defs u at _ st _ st2 (Begins.single {a = a} {v = v} d) = bind_is _ _ (v, st2) _ (given_is defs u at st a v st2 d) refl
initial_is defs u at _ st _ _ (Begins.list {xs = xs} d) = bind_is _ _ (init.List (map signed_value xs)) _ (list_is u at xs d) refl

pub initial_breaks : (defs : List (List ℕ)) (u : Ty) (at : Span) (i : Initialiser) (st : State) (g : TypeFault) → BreaksInitial defs st u at i g → Faulty (initial_of defs u at i st) g
initial_breaks defs u at _ st g (BreaksInitial.single {a = a} d) = bind_faulty _ _ g (given_breaks defs u at st a g d)
initial_breaks defs u at _ st g (BreaksInitial.list {xs = xs} d) = bind_faulty _ _ g (list_breaks u at xs g d)

-- ---- globals

abbrev LiteralOr : Expr → Option ℤ → Type 0
LiteralOr a None = Unit {0}
LiteralOr a (Some n) = IsLiteral a n

literal_found : (a : Expr) → LiteralOr a (literal_of a)
unfolding shape-the_row-Expr-0 hidden-the_row-Expr-0 Carrier.hidden
literal_found (Number at n) = IsLiteral.plain
literal_found (Unary' at pre.Neg s (more_of-Expr (Number at2 n) end_of-Expr)) = IsLiteral.negative at2 n
literal_found _ = tt

literal_is : (a : Expr) (n : ℤ) → IsLiteral a n → literal_of a ≡ Some n
unfolding shape-the_row-Expr-0 hidden-the_row-Expr-0 Carrier.hidden
literal_is _ _ IsLiteral.plain = refl
literal_is _ _ (IsLiteral.negative at2 n) = refl

abbrev JudgedLiteral : Ty → Span → Expr → Verdict Init → Type 0
JudgedLiteral u at a (Ok v) = BeginsGlobal u (by.Value a) v
JudgedLiteral u at a (Err f) = f ≡ fault WrongType at

int_literal : (at : Span) (a : Expr) (o : Option ℤ) → LiteralOr a o → JudgedLiteral ty.Int at a (number_from at o)
int_literal at a None d = refl
int_literal at a (Some n) d = BeginsGlobal.number refl d

literal_judged : (u : Ty) (at : Span) (a : Expr) → JudgedLiteral u at a (literal_for u at a)
unfolding shape-the_row-Ty-0 hidden-the_row-Ty-0 Carrier.hidden
literal_judged ty.Int at a = int_literal at a (literal_of a) (literal_found a)
literal_judged (Ptr' s (more_of-Ty v end_of-Ty)) at a =
    choose (JudgedLiteral (Ptr' s (more_of-Ty v end_of-Ty)) at a) (is_zero a) (Ok (init.Value (value.Ptr p.Null))) (Err (fault WrongType at)) (λ z. BeginsGlobal.null v refl z) (λ z. refl)
literal_judged (Array' s row n) at a = refl
literal_judged (ty.Struct k) at a = refl

literal_for-Ptr : (u : Ty) (at : Span) (a : Expr) → literal_for (ty.Ptr u) at a ≡ (if is_zero a then Ok (init.Value (value.Ptr p.Null)) else Err (fault WrongType at))
unfolding shape-the_row-Ty-0 hidden-the_row-Ty-0 Carrier.hidden
literal_for-Ptr u at a = refl

pub global_initial_is : (u : Ty) (at : Span) (i : Initialiser) (v : Init) → BeginsGlobal u i v → global_initial u at i ≡ Ok v
global_initial_is u at _ _ BeginsGlobal.nothing = refl
global_initial_is u at _ _ (BeginsGlobal.number {a = a} {n = n} h l) = ap (λ u. literal_for u at a) h ∙ ap (number_from at) (literal_is a n l)
global_initial_is u at _ _ (BeginsGlobal.null {a = a} v h z) = ap (λ u. literal_for u at a) h ∙ literal_for-Ptr v at a ∙ rw z refl
global_initial_is u at _ _ (BeginsGlobal.list {xs = xs} d) = list_is u at xs d

abbrev pub JudgedGlobalInitial : Ty → Span → Initialiser → Verdict Init → Type 0
JudgedGlobalInitial u at i (Ok v) = BeginsGlobal u i v
JudgedGlobalInitial u at i (Err f) = BreaksGlobalInitial u at i f

literal_at : (u : Ty) (at : Span) (a : Expr) (v : Verdict Init) → literal_for u at a ≡ v → JudgedLiteral u at a v → JudgedGlobalInitial u at (by.Value a) v
literal_at u at a (Ok v) h d = d
literal_at u at a (Err f) h d = subst (λ (f : TypeFault). BreaksGlobalInitial u at (by.Value a) f) (sym d) (BreaksGlobalInitial.single (λ v b. ok_is_err (literal_for u at a) v f (global_initial_is u at (by.Value a) v b) h))

global_list_at : (u : Ty) (at at2 : Span) (xs : List Signed) (v : Verdict Init) → JudgedList u at xs v → JudgedGlobalInitial u at (by.List at2 xs) v
global_list_at u at at2 xs (Ok v) d = subst (λ (v : Init). BeginsGlobal u (by.List at2 xs) v) (sym d.1) (BeginsGlobal.list d.0)
global_list_at u at at2 xs (Err f) d = BreaksGlobalInitial.list d

pub global_initial_judged : (u : Ty) (at : Span) (i : Initialiser) → JudgedGlobalInitial u at i (global_initial u at i)
global_initial_judged u at by.Nothing = BeginsGlobal.nothing
global_initial_judged u at (by.Value a) = literal_at u at a (literal_for u at a) refl (literal_judged u at a)
global_initial_judged u at (by.List at2 xs) = global_list_at u at at2 xs (list_for u at xs) (list_judged u at xs)

no_literal : (u : Ty) (at : Span) (a : Expr) (v : Verdict Init) → JudgedLiteral u at a v → ((w : Init) → BeginsGlobal u (by.Value a) w → ⊥) → Faulty v (fault WrongType at)
no_literal u at a (Ok v) d k = absurd (k v d)
no_literal u at a (Err f) d k = (f, refl, rw d (omega arith))

pub global_initial_breaks : (u : Ty) (at : Span) (i : Initialiser) (g : TypeFault) → BreaksGlobalInitial u at i g → Faulty (global_initial u at i) g
global_initial_breaks u at _ _ (BreaksGlobalInitial.single {a = a} k) = no_literal u at a (literal_for u at a) (literal_judged u at a) k
global_initial_breaks u at _ g (BreaksGlobalInitial.list {xs = xs} d) = list_breaks u at xs g d
