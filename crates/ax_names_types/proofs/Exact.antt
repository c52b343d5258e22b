-- The verdict is exact for the rules, and an expression has one meaning.
use Rattle.std.proofs.Common.{◌≡◌, ℕ, ◌≤◌, List, Result, Ok, Err, refl, sym, ap, ◌∙◌, subst, inl, inr, ◌⊎◌}
use Rattle.std.specs.Prelude.{IfOk}
use Rattle.ax_parse_grammar.specs.declared.tree.Expr.{Expr}
use Rattle.ax_names_types.specs.declared.Typed.{Typed}
use Rattle.ax_names_types.specs.declared.TypeFault.{TypeFault}
use Rattle.ax_names_types.specs.Faults.{turn, Verdict}
use Rattle.ax_names_types.specs.Scopes.{Env}
use Rattle.ax_names_types.specs.Meaning.{Means}
use Rattle.ax_names_types.specs.Breaks.{Breaks, First, Exact}
use Rattle.ax_names_types.specs.Verdicts.{verdict_of}
use Rattle.ax_names_types.proofs.Sound.{Judged, judged}
use Rattle.ax_names_types.proofs.Meant.{means_verdict}
use Rattle.ax_names_types.proofs.Broken.{Faulty, breaks_verdict}

abbrev err_or : TypeFault → Verdict Typed → TypeFault
err_or d (Ok m) = d
err_or d (Err f) = f

err_same : (f g : TypeFault) → (let v : Verdict Typed = Err f in v) ≡ Err g → f ≡ g
err_same f g h = ap (err_or f) h

abbrev ok_or : Typed → Verdict Typed → Typed
ok_or d (Ok m) = m
ok_or d (Err f) = d

ok_same : (m n : Typed) → (let v : Verdict Typed = Ok m in v) ≡ Ok n → m ≡ n
ok_same m n h = ap (ok_or m) h

ok_is_err : {A : Type 0} (v : Verdict Typed) (m : Typed) (f : TypeFault) → v ≡ Ok m → v ≡ Err f → A
ok_is_err v m f h k = cc

exact_at : (env : Env) (x : Expr) (v : Verdict Typed) → verdict_of env x ≡ v → Judged env x v → Exact env x v
exact_at env x (Ok m) h d = (d, λ g b. let p = breaks_verdict env x g b in ok_is_err (verdict_of env x) m p.0 h p.1)
exact_at env x (Err f) h d =
    ((d, λ g b. let p = breaks_verdict env x g b in let q : p.0 ≡ f = err_same p.0 f (sym p.1 ∙ h) in subst (λ f. turn f ≤ turn g) q p.2), λ m d. ok_is_err (verdict_of env x) m f (means_verdict env x m d) h)

pub exact : (env : Env) (x : Expr) → Exact env x (verdict_of env x)
exact env x = exact_at env x (verdict_of env x) refl (judged env x)

pub exact_if : {E : Type 0} (env : Env) (x : Expr) (r : Result (Verdict Typed) E) → IfOk r (λ v. v ≡ verdict_of env x) → IfOk r (λ v. Exact env x v)
exact_if env x (Ok v) h = subst (λ v. Exact env x v) (sym h) (exact env x)
exact_if env x (Err e) h = tt

pub one : (env : Env) (x : Expr) (m n : Typed) → Means env x m → Means env x n → m ≡ n
one env x m n d e = ok_same m n (sym (means_verdict env x m d) ∙ means_verdict env x n e)

one_of : (env : Env) (x : Expr) (v : Verdict Typed) → Judged env x v → ((m : Typed) × Means env x m) ⊎ ((f : TypeFault) × Breaks env x f)
one_of env x (Ok m) d = inl (m, d)
one_of env x (Err f) d = inr (f, d)

pub meant_or_broken : (env : Env) (x : Expr) → ((m : Typed) × Means env x m) ⊎ ((f : TypeFault) × Breaks env x f)
meant_or_broken env x = one_of env x (verdict_of env x) (judged env x)

pub never_both : (env : Env) (x : Expr) (m : Typed) (f : TypeFault) → Means env x m → Breaks env x f → ⊥
never_both env x m f d b = let p = breaks_verdict env x f b in ok_is_err (verdict_of env x) m p.0 (means_verdict env x m d) p.1
