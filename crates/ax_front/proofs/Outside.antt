-- What has a meaning in a program has no call inside: expressions, and values where a place wants one.
use Rattle.std.proofs.Common.{◌≡◌, ℕ, true, List, Option, None, refl, ap, ◌∙◌}
use Rattle.ax_prog.specs.declared.Ty.{Ty}
use Rattle.ax_prog.specs.declared.FunId.{FunId}
use Rattle.ax_prog.specs.declared.Expr as ex
use Rattle.ax_prog.specs.declared.Atom.{Atom}
use Rattle.ax_prog.specs.declared.Span.{Span}
use Rattle.ax_prog.specs.declared.Bin.TheVariants as bin
use Rattle.ax_prog.specs.declared.Lval.{Lval}
use Rattle.ax_prog.specs.declared.Pexpr.{Pexpr}
use Rattle.ax_prog.specs.declared.Arg.{Arg}
use Rattle.ax_prog.specs.declared.Value.{Value}
use Rattle.ax_parse_grammar.specs.declared.tree.Prefix.TheVariants as pre
use Rattle.ax_parse_grammar.specs.declared.tree.Expr.{Expr, Call'}
use Rattle.ax_parse_grammar.specs.declared.tree.Expr.TheVariants as e
use Rattle.ax_names_types.specs.declared.Typed.{Typed}
use Rattle.ax_names_types.specs.declared.Typed.TheVariants as t
use Rattle.ax_names_types.specs.Scopes.{Env}
use Rattle.ax_names_types.specs.Types.{is_zero}
use Rattle.ax_names_types.specs.Meaning.{Means}
use Rattle.ax_names_rules.specs.declared.State.{State}
use Rattle.ax_names_rules.specs.States.{here}
use Rattle.ax_names_rules.specs.Values.{IsNumber, IsPointer, Offers, Arguments, Calls, Given, IsTarget}
use Rattle.ax_parse_limits.specs.Calls.{◌or◌, first_of, first_call, inner_call}
use Rattle.ax_parse_limits.proofs.CallLayers.{first_call-Unary, first_call-Binary, first_call-Cond, first_call-Index, first_call-Member, first_call-Arrow, inner_call-Call}

-- neither part has one
pub neither : (p q : Option ℕ) → p ≡ None → q ≡ None → (p or q) ≡ None
neither p q h k = ap (λ (o : Option ℕ). o or q) h ∙ k

-- ---- expressions

pub zero_is_plain : (a : Expr) → is_zero a ≡ true → first_call a ≡ None
zero_is_plain (e.Number at n) h = refl
zero_is_plain (e.Name at x) h = refl
zero_is_plain _ h = cc

-- in an expression without a call there is none inside
pub inner : (a : Expr) → first_call a ≡ None → inner_call a ≡ None
inner (Call' at s row t args) h = cc
inner _ h = h

module _ (env : Env) where
  pub plain : (a : Expr) (m : Typed) → Means env a m → first_call a ≡ None
  plain _ _ (Means.name d id u h k) = refl
  plain _ _ Means.number = refl
  plain _ _ (Means.unary {at = at} {op = op} {a = a} {m = m} x xs h d i) = first_call-Unary at op a ∙ plain a m d
  plain _ _ (Means.deref {at = at} {a = a} {m = m} u q d i) = first_call-Unary at pre.Deref a ∙ plain a m d
  plain _ _ (Means.address {at = at} {a = a} u l d) = first_call-Unary at pre.Address a ∙ plain a (t.Place u l) d
  plain _ _ (Means.binary {at = at} {op = op} {a = a} {b = b} {m = m} {n = n} x y xs ys d g i j) =
      first_call-Binary at op a b ∙ neither (first_call a) (first_call b) (plain a m d) (plain b n g)
  plain _ _ (Means.plus {at = at} {a = a} {b = b} {m = m} {n = n} u q y ys d g i j) =
      first_call-Binary at bin.Add a b ∙ neither (first_call a) (first_call b) (plain a m d) (plain b n g)
  plain _ _ (Means.minus {at = at} {a = a} {b = b} {m = m} {n = n} u q y ys d g i j) =
      first_call-Binary at bin.Sub a b ∙ neither (first_call a) (first_call b) (plain a m d) (plain b n g)
  plain _ _ (Means.pointers {at = at} {op = op} {a = a} {b = b} {m = m} {n = n} u q r h d g i j) =
      first_call-Binary at op a b ∙ neither (first_call a) (first_call b) (plain a m d) (plain b n g)
  plain _ _ (Means.left_null {at = at} {op = op} {b = b} {n = n} a u r h z g j) =
      first_call-Binary at op a b ∙ neither (first_call a) (first_call b) (zero_is_plain a z) (plain b n g)
  plain _ _ (Means.right_null {at = at} {op = op} {a = a} {m = m} b u q h z d i) =
      first_call-Binary at op a b ∙ neither (first_call a) (first_call b) (plain a m d) (zero_is_plain b z)
  plain _ _ (Means.cond {at = at} {c = c} {a = a} {b = b} {l = l} {m = m} {n = n} x y z xs ys zs d g o i j k) =
      first_call-Cond at c a b ∙ neither (first_call c) (first_call a or first_call b) (plain c l d) (neither (first_call a) (first_call b) (plain a m g) (plain b n o))
  plain _ _ (Means.index {at = at} {a = a} {b = b} {m = m} {n = n} u q i is d g j k) =
      first_call-Index at a b ∙ neither (first_call a) (first_call b) (plain a m d) (plain b n g)
  plain _ _ (Means.member {at = at} {a = a} {x = x} {m = m} k l i u d j h) = first_call-Member at a x ∙ plain a m d
  plain _ _ (Means.arrow {at = at} {a = a} {x = x} {m = m} k q i u d j h) = first_call-Arrow at a x ∙ plain a m d

-- ---- values

pub number : (st : State) (a : Expr) (x : ex.Expr) (atoms : List (Atom × Span)) → IsNumber st a x atoms → first_call a ≡ None
number st a _ _ (IsNumber.number {m = m} x atoms d i) = plain (here st) a m d

pointer : (st : State) (a : Expr) (u : Ty) (q : Pexpr) → IsPointer st a u q → first_call a ≡ None
pointer st a _ _ (IsPointer.pointer {m = m} u q d i) = plain (here st) a m d
pointer st _ u _ (IsPointer.null a z) = zero_is_plain a z

pub target : (st : State) (a : Expr) (u : Ty) (l : Lval) → IsTarget st a u l → first_call a ≡ None
target st a u l (IsTarget.target d h) = plain (here st) a (t.Place u l) d

offered : (st : State) (u : Ty) (a : Expr) (v : Value) (st2 : State) → Offers st u a v st2 → first_call a ≡ None
offered st _ a _ _ (Offers.number x atoms d) = number st a x atoms d
offered st _ a _ _ (Offers.pointer u q d) = pointer st a u q d

arguments : (st : State) (us : List Ty) (xs : List Expr) (args : List Arg) (st2 : State) → Arguments st us xs args st2 → first_of first_call xs ≡ None
arguments st _ _ _ _ Arguments.none = refl
arguments st _ _ _ st3 (Arguments.more {st2 = st2} {u = u} {us = us} {a = a} {rest = rest} {args = args} v d e) =
    neither (first_call a) (first_of first_call rest) (offered st u a v st2 d) (arguments st2 us rest args st3 e)

module _ (defs : List (List ℕ)) where
  pub called : (st : State) (a : Expr) (r : Option Ty) (j : FunId) (args : List Arg) (st2 : State) → Calls defs st a r j args st2 → inner_call a ≡ None
  called st _ _ j args st2 (Calls.call {at = at} {xs = xs} at2 x head f d) = inner_call-Call at (e.Name at2 x) xs ∙ arguments st head.params xs args st2 d

  pub given : (st : State) (u : Ty) (a : Expr) (v : Value) (st2 : State) → Given defs st u a v st2 → inner_call a ≡ None
  given st u a v st2 (Given.offered d) = inner a (offered st u a v st2 d)
  given st u a _ st2 (Given.call {j = j} {args = args} d) = called st a _ j args st2 d
