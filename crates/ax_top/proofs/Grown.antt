-- The growth of an order that words give.
use Rattle.std.proofs.Common.{◌≡◌, ℕ, ◌≤◌, Bool, true, false, List, [], ◌∷◌, Some, None, String, Global, codes, refl, arith}
use Rattle.std.specs.Prelude.{◌||◌, Option, Ok, nat_lt, if◌then◌else◌}
use Rattle.ax_words.specs.Commands.{prove_app}
use Rattle.ax_words.specs.Numbers.{Field, first_of_kind, is_off_range, value_of}
use Rattle.ax_words.specs.Words.{budget_of, text_in, Given, IsFaultless, IsRepairOrder, Says, budget_field, evals_field, grow_field, paths_field, steps_field, top_field, nothing, unknown, repair, check, run, rank, gen, prove}
use Rattle.ax_words.specs.declared.order.Order.{Order}
use Rattle.ax_words.specs.declared.order.Order.TheVariants as order
use Rattle.ax_words.specs.declared.order.RepairOrder.{RepairOrder}
use Rattle.ax_top.specs.Ends.{GrowsLittle}

by-test : (b : Bool) (name : List ℕ) (rest : Option (List ℕ)) → (if b then Some name else rest) ≡ None → (b ≡ false) × (rest ≡ None)
by-test true name rest h = absurd (cc)
by-test false name rest h = (refl, h)

not-first : (is : Field → Bool) (f : Field) (fs : List Field) → first_of_kind is (f ∷ fs) ≡ None → (is f ≡ false) × (first_of_kind is fs ≡ None)
not-first is f fs h = by-test (is f) f.name (first_of_kind is fs) h

in-range : (v least most : ℕ) → (nat_lt v least || nat_lt most v) ≡ false → v ≤ most
in-range v least most h = grind arith

faultless-grows : (g : Given) (o : RepairOrder) → IsFaultless g → IsRepairOrder g o → o.bounds.grow ≤ 20
faultless-grows g o f r =
    let top = not-first is_off_range (top_field g) (grow_field g ∷ steps_field g.steps ∷ evals_field g ∷ paths_field g ∷ budget_field g ∷ []) f.ranges in
    let grow = not-first is_off_range (grow_field g) (steps_field g.steps ∷ evals_field g ∷ paths_field g ∷ budget_field g ∷ []) top.1 in
    let most : value_of (grow_field g) ≤ 2 = in-range (value_of (grow_field g)) 0 2 grow.0 in
    let same : o.bounds.grow ≡ value_of (grow_field g) = r.grow in
    omega arith

repair-grows : (words : List (List ℕ)) (o : RepairOrder) → Says words (Ok (order.Repair o)) → o.bounds.grow ≤ 20
repair-grows words o (nothing w e) = absurd (cc)
repair-grows words o (unknown word rest w a b d f g i e) = absurd (cc)
repair-grows words o (repair rest w h) = faultless-grows _ o h.1.0 h.1.1
repair-grows words o (check rest w h) = absurd h
repair-grows words o (run rest w h) = absurd h
repair-grows words o (rank rest w h) = absurd h
repair-grows words o (gen rest w h) = absurd h
repair-grows words o (prove rest w h) = absurd h

-- it is at most 2, far below what the search takes
pub grows-little : (words : List (List ℕ)) (it : Order) → Says words (Ok it) → GrowsLittle it
grows-little words (order.Repair o) says = repair-grows words o says
grows-little words (order.Check a b d e) says = tt
grows-little words (order.Run a b n) says = tt
grows-little words (order.Rank a b d n) says = tt
grows-little words (order.Gen n) says = tt
grows-little words (order.Prove a b n) says = tt

-- ---- the budget of an order to prove

out-of-range : (v least most : ℕ) → (nat_lt v least || nat_lt most v) ≡ false → least ≤ v
out-of-range v least most h = grind arith

fits : (f : Field) → first_of_kind is_off_range (f ∷ []) ≡ None → f.least ≤ value_of f
fits f h = out-of-range (value_of f) f.least f.most (not-first is_off_range f [] h).0

pub proves-some : (words : List (List ℕ)) (cnf proof : String Global) (budget : ℕ) → Says words (Ok (order.Prove cnf proof budget)) → 1 ≤ budget
proves-some words cnf proof budget (nothing w e) = absurd (cc)
proves-some words cnf proof budget (unknown word rest w a b d f g i e) = absurd (cc)
proves-some words cnf proof budget (repair rest w h) = absurd h
proves-some words cnf proof budget (check rest w h) = absurd h
proves-some words cnf proof budget (run rest w h) = absurd h
proves-some words cnf proof budget (rank rest w h) = absurd h
proves-some words cnf proof budget (gen rest w h) = absurd h
proves-some words cnf proof budget (prove rest w h) =
    let least = fits (budget_of (text_in prove_app (codes "budget") words)) h.1.1 in
    let same : budget ≡ value_of (budget_of (text_in prove_app (codes "budget") words)) = h.5 in
    omega arith
