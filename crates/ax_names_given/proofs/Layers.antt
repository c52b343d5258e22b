-- Definitions at pointers and at calls.
use Rattle.std.proofs.Common.{◌≡◌, ℕ, List, Result, Ok, Err, refl, sym, ap, ◌∙◌, subst, if◌then◌else◌}
use Rattle.ax_prog.specs.declared.Span.{Span}
use Rattle.ax_prog.specs.declared.Ty.{Ty}
use Rattle.ax_prog.specs.declared.Ty.TheVariants as ty
use Rattle.ax_prog.specs.declared.Ty.TheBlock.{shape-the_row-Ty-0, hidden-the_row-Ty-0}
use Rattle.ax_prog.specs.declared.Pexpr.{Pexpr}
use Rattle.ax_prog.specs.declared.Value.TheVariants as value
use Rattle.ax_parse_grammar.specs.declared.tree.Expr.{Expr}
use Rattle.ax_parse_grammar.specs.declared.tree.Expr.TheVariants as s
use Rattle.ax_parse_grammar.specs.declared.tree.Expr.TheBlock.{seen-the_row-Expr-1, shape-the_row-Expr-0, hidden-the_row-Expr-0, shape-the_row-Expr-1, hidden-the_row-Expr-1}
use Rattle.ax_names_types.specs.declared.TypeKind.TheVariants.{WrongType}
use Rattle.ax_names_types.specs.Faults.{fault}
use Rattle.ax_names_types.specs.Verdicts.{same_ty}
use Rattle.ax_names_rules.specs.declared.State.{State}
use Rattle.ax_names_rules.specs.ValueWalk.{Made, Called, pointer_for, callee_of, call_of}
use Rattle.ax_names_given.specs.declared.stops.Stop.{Stop}
use Rattle.ax_names_given.specs.Made.{IsMade}
use denote.Hole.Carrier

pub pointer_for-Ptr : (u : Ty) (at : Span) (st : State) (v : Ty) (q : Pexpr) → pointer_for (ty.Ptr u) at st v q ≡ (if same_ty u v then Ok (value.Ptr q, st) else Err (fault WrongType at))
unfolding shape-the_row-Ty-0 hidden-the_row-Ty-0 Carrier.hidden
pointer_for-Ptr u at st v q = refl

call_of-Call : (defs : List (List ℕ)) (st : State) (at : Span) (a : Expr) (xs : List Expr) → call_of defs st (s.Call at a xs) ≡ callee_of defs st at a xs
unfolding shape-the_row-Expr-0 hidden-the_row-Expr-0 shape-the_row-Expr-1 hidden-the_row-Expr-1 Carrier.hidden
call_of-Call defs st at a xs = ap (callee_of defs st at a) (seen-the_row-Expr-1 xs)

pub ruleset types = (pointer_for-Ptr)

-- what is made of a call's parts is made of the call
pub call_made : (defs : List (List ℕ)) (st st2 : State) (a callee callee2 : Expr) (at : Span) (xs xs2 : List Expr) (r : Result Called Stop) → a ≡ s.Call at callee xs → callee2 ≡ callee → xs2 ≡ xs → IsMade (callee_of defs st at callee2 xs2) r st2 → IsMade (call_of defs st a) r st2
call_made defs st st2 a callee callee2 at xs xs2 r is p q h =
    let e : call_of defs st a ≡ callee_of defs st at callee2 xs2 = ap (call_of defs st) is ∙ call_of-Call defs st at callee xs ∙ ap (λ x. callee_of defs st at x xs) (sym p) ∙ ap (callee_of defs st at callee2) (sym q) in
    subst (λ (w : Made Called). IsMade w r st2) (sym e) h
