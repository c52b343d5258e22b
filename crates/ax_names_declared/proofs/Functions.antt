-- The verdict on a head of a function is exact, and it is what a walk over the parameters finds.
use Rattle.std.proofs.Common.{◌≡◌, ℕ, zero, suc, ◌<◌, Bool, true, false, List, [], ◌∷◌, ◌++◌, length, Option, Some, None, Ok, Err, refl, sym, ap, ◌∙◌, arith, append_assoc, if◌then◌else◌}
use Rattle.std.specs.Prelude.{is_some}
use Rattle.ax_prog.specs.declared.Span.{Span}
use Rattle.ax_prog.specs.declared.StructId.{StructId}
use Rattle.ax_prog.specs.declared.Ty.{Ty}
use Rattle.ax_prog.specs.declared.Struct.{Struct}
use Rattle.ax_parse_grammar.specs.declared.tree.Name.{Name}
use Rattle.ax_parse_grammar.specs.declared.tree.Base.{Base}
use Rattle.ax_parse_grammar.specs.declared.tree.Returns.{Returns}
use Rattle.ax_parse_grammar.specs.declared.tree.Returns.TheVariants as returns
use Rattle.ax_parse_grammar.specs.declared.tree.Param.{Param}
use Rattle.ax_parse_grammar.specs.declared.tree.Head.{Head}
use Rattle.ax_names_types.specs.declared.TypeKind.TheVariants.{WrongType}
use Rattle.ax_names_types.specs.declared.TypeFault.{TypeFault}
use Rattle.ax_names_types.specs.Faults.{fault, Verdict}
use Rattle.ax_names_types.specs.Types.{struct_of}
use Rattle.ax_names_types.specs.Verdicts.{sooner, both}
use Rattle.ax_names_declared.specs.declared.heads.Signature.{Signature}
use Rattle.ax_names_declared.specs.declared.heads.Listed.{Listed}
use Rattle.ax_names_declared.specs.Firsts.{Exact, closed}
use Rattle.ax_names_declared.specs.Denotations.{tags_of, name_at, filled, Declares}
use Rattle.ax_names_declared.specs.Breaks.{Misdeclares}
use Rattle.ax_names_declared.specs.Verdicts.{declared}
use Rattle.ax_names_declared.specs.Structs.{Again}
use Rattle.ax_names_declared.specs.Members.{named, joined}
use Rattle.ax_names_declared.specs.Heads.{IsScalar, adjusted, DeclaresParam, MisdeclaresParam, IsNamed, Misnamed, and_name, AreParams, BreakParams, IsResult, BreaksResult, DeclaresFunction, MisdeclaresFunction}
use Rattle.ax_names_declared.specs.Signatures.{scalar, as_scalar, as_param, param, param_name, params, some_of, nothing_of, result, signature_with, signature, with_param, after_param, after_params, no_params, concluded}
use Rattle.ax_names_declared.proofs.Exactness.{Judged, Faulty, sooner_assoc, both_judged, both_ok, both_left, both_right, exact_from, faulty_itself}
use Rattle.ax_names_declared.proofs.Sized.{struct_is}
use Rattle.ax_names_declared.proofs.Declared.{declared_judged, declares_is, misdeclares_faulty}
use Rattle.ax_names_declared.proofs.Definitions.{new_is, again_faulty}

-- ---- no structs

is_scalar : (u : Ty) (o : Option StructId) → struct_of u ≡ o → is_some o ≡ false → IsScalar u
is_scalar u None e h = λ k i. let f : None ≡ Some k = sym e ∙ ap struct_of i in cc
is_scalar u (Some k) e h = cc

isnt_scalar : (u : Ty) (o : Option StructId) → struct_of u ≡ o → is_some o ≡ true → IsScalar u → ⊥
isnt_scalar u None e h = cc
isnt_scalar u (Some k) e h = λ s. s k (struct_is u k e)

false_from : (b : Bool) → (b ≡ true → ⊥) → b ≡ false
false_from true h = absurd (h refl)
false_from false h = refl

true_from : (b : Bool) → (b ≡ false → ⊥) → b ≡ true
true_from true h = refl
true_from false h = absurd (h refl)

scalar_is : (at : Span) (u : Ty) → IsScalar u → scalar at u ≡ Ok u
scalar_is at u h = rw (false_from (is_some (struct_of u)) (λ e. isnt_scalar u (struct_of u) refl e h)) refl

scalar_isnt : (at : Span) (u : Ty) → (IsScalar u → ⊥) → scalar at u ≡ Err (fault WrongType at)
scalar_isnt at u h = rw (true_from (is_some (struct_of u)) (λ e. h (is_scalar u (struct_of u) refl e))) refl

scalar_at : (P : Ty → Type 0) (B : TypeFault → Type 0) (at : Span) (u : Ty) → (IsScalar u → P u) → ((IsScalar u → ⊥) → B (fault WrongType at)) → (b : Bool) → is_some (struct_of u) ≡ b → Judged P B (if b then Err (fault WrongType at) else Ok u)
scalar_at P B at u fine isnt true e = isnt (isnt_scalar u (struct_of u) refl e)
scalar_at P B at u fine isnt false e = fine (is_scalar u (struct_of u) refl e)

-- ---- parameters

module _ (structs : List Struct) where
  abbrev Declared : Param → Ty → Type 0
  Declared p u = Declares (tags_of structs) (length structs) p.base p.stars (filled 1 p.sizes) u

  abbrev Undeclared : Param → TypeFault → Type 0
  Undeclared p f = Misdeclares (tags_of structs) (length structs) p.base p.stars (filled 1 p.sizes) p.span f

  abbrev type_at : Param → Verdict Ty
  type_at p = declared (tags_of structs) (length structs) p.base p.stars (filled 1 p.sizes) p.span

  param_from : (p : Param) (v : Verdict Ty) → Judged (Declared p) (Undeclared p) v → Judged (DeclaresParam structs p) (MisdeclaresParam structs p) (as_param p.span v)
  param_from p (Ok u) d = scalar_at (DeclaresParam structs p) (MisdeclaresParam structs p) p.span (adjusted u) (λ h. DeclaresParam.param d h) (λ h. MisdeclaresParam.struct u d h) (is_some (struct_of (adjusted u))) refl
  param_from p (Err f) d = MisdeclaresParam.declarator d

  param_judged : (p : Param) → Judged (DeclaresParam structs p) (MisdeclaresParam structs p) (param structs p)
  param_judged p = param_from p (type_at p) (declared_judged (tags_of structs) (length structs) p.base p.stars (filled 1 p.sizes) p.span)

  param_of : (p : Param) (v : Verdict Ty) → type_at p ≡ v → param structs p ≡ as_param p.span v
  param_of p v e = ap (as_param p.span) e

  type_of : (p : Param) (u : Ty) → Declared p u → type_at p ≡ Ok u
  type_of p u d = declares_is (tags_of structs) (length structs) p.base p.stars (filled 1 p.sizes) p.span u d

  param_is : (p : Param) (u : Ty) → DeclaresParam structs p u → param structs p ≡ Ok u
  param_is p _ (DeclaresParam.param {u = u} d h) = param_of p (Ok u) (type_of p u d) ∙ scalar_is p.span (adjusted u) h

  param_with : (p : Param) (g : TypeFault) → Faulty (type_at p) g → Faulty (param structs p) g
  param_with p g q = (q.0, param_of p (Err q.0) q.1, q.2)

  param_faulty : (p : Param) (g : TypeFault) → MisdeclaresParam structs p g → Faulty (param structs p) g
  param_faulty p g (MisdeclaresParam.declarator d) = param_with p g (misdeclares_faulty (tags_of structs) (length structs) p.base p.stars (filled 1 p.sizes) p.span g d)
  param_faulty p _ (MisdeclaresParam.struct u d h) = faulty_itself (param structs p) (fault WrongType p.span) (param_of p (Ok u) (type_of p u d) ∙ scalar_isnt p.span (adjusted u) h)

  -- ---- names

  module _ (defined : Bool) where
    abbrev Always : List (List ℕ) → Option Name → List ℕ → Type 0
    Always names o t = IsNamed defined names o

    name_by : (names : List (List ℕ)) (at : Span) (x : Name) (o : Option ℕ) → name_at names x.text ≡ o → Judged (Always names (Some x)) (Misnamed defined names at (Some x)) (named x o)
    name_by names at x None e = IsNamed.named e
    name_by names at x (Some k) e = Misnamed.again (Again.again k e)

    nameless_by : (names : List (List ℕ)) (at : Span) (b : Bool) → defined ≡ b → Judged (Always names None) (Misnamed defined names at None) (if b then Err (fault WrongType at) else Ok [])
    nameless_by names at true e = Misnamed.nameless e
    nameless_by names at false e = IsNamed.nameless e

    name_judged : (names : List (List ℕ)) (at : Span) (o : Option Name) → Judged (Always names o) (Misnamed defined names at o) (param_name defined names at o)
    name_judged names at None = nameless_by names at defined refl
    name_judged names at (Some x) = name_by names at x (name_at names x.text) refl

    abbrev Fine : Verdict (List ℕ) → Type 0
    Fine v = (t : List ℕ) × (v ≡ Ok t)

    name_is : (names : List (List ℕ)) (at : Span) (o : Option Name) → IsNamed defined names o → Fine (param_name defined names at o)
    name_is names at _ (IsNamed.named {x = x} e) = (x.text, new_is names x e)
    name_is names at _ (IsNamed.nameless e) = ([], rw e refl)

    name_faulty : (names : List (List ℕ)) (at : Span) (o : Option Name) (g : TypeFault) → Misnamed defined names at o g → Faulty (param_name defined names at o) g
    name_faulty names at _ g (Misnamed.again {x = x} d) = again_faulty names x g d
    name_faulty names at _ _ (Misnamed.nameless e) = faulty_itself (param_name defined names at None) (fault WrongType at) (rw e refl)

    -- ---- lists of parameters

    abbrev second_of : List ℕ → Ty → Verdict Ty
    second_of a b = Ok b

    abbrev more_of : Ty → List Ty → Verdict (List Ty)
    more_of a rest = Ok (a ∷ rest)

    abbrev one : List (List ℕ) → Param → Verdict Ty
    one names p = both second_of (param_name defined names p.span p.name) (param structs p)

    abbrev IsOne : List (List ℕ) → Param → Ty → Type 0
    IsOne names p u = IsNamed defined names p.name × DeclaresParam structs p u

    abbrev IsntOne : List (List ℕ) → Param → TypeFault → Type 0
    IsntOne names p f = (rest : List Param) → BreakParams structs defined names (p ∷ rest) f

    one_judged : (names : List (List ℕ)) (p : Param) → Judged (IsOne names p) (IsntOne names p) (one names p)
    one_judged names p =
        both_judged second_of (Always names p.name) (DeclaresParam structs p) (IsOne names p) (Misnamed defined names p.span p.name) (MisdeclaresParam structs p) (IsntOne names p) (param_name defined names p.span p.name) (param structs p)
        (name_judged names p.span p.name) (param_judged p)
        (λ t u d e. (d, e))
        (λ f d rest. BreakParams.name d)
        (λ f d rest. BreakParams.param d)

    params_judged : (names : List (List ℕ)) (list : List Param) → Judged (AreParams structs defined names list) (BreakParams structs defined names list) (params structs defined names list)
    params_judged names [] = AreParams.none
    params_judged names (p ∷ rest) =
        both_judged more_of (IsOne names p) (AreParams structs defined (and_name names p.name) rest) (AreParams structs defined names (p ∷ rest)) (IsntOne names p) (BreakParams structs defined (and_name names p.name) rest) (BreakParams structs defined names (p ∷ rest)) (one names p) (params structs defined (and_name names p.name) rest)
        (one_judged names p) (params_judged (and_name names p.name) rest)
        (λ u us d e. AreParams.more d.0 d.1 e)
        (λ f d. d rest)
        (λ f d. BreakParams.later d)

    one_is : (names : List (List ℕ)) (p : Param) (u : Ty) → Fine (param_name defined names p.span p.name) → param structs p ≡ Ok u → one names p ≡ Ok u
    one_is names p u d e = both_ok second_of (param_name defined names p.span p.name) (param structs p) d.0 u d.1 e

    params_are : (names : List (List ℕ)) (list : List Param) (us : List Ty) → AreParams structs defined names list us → params structs defined names list ≡ Ok us
    params_are names _ _ AreParams.none = refl
    params_are names _ _ (AreParams.more {p = p} {u = u} {rest = rest} {us = us} d e h) =
        both_ok more_of (one names p) (params structs defined (and_name names p.name) rest) u us (one_is names p u (name_is names p.span p.name d) (param_is p u e)) (params_are (and_name names p.name) rest us h)

    params_faulty : (names : List (List ℕ)) (list : List Param) (g : TypeFault) → BreakParams structs defined names list g → Faulty (params structs defined names list) g
    params_faulty names _ g (BreakParams.name {p = p} {rest = rest} d) =
        both_left more_of (one names p) (params structs defined (and_name names p.name) rest) g (both_left second_of (param_name defined names p.span p.name) (param structs p) g (name_faulty names p.span p.name g d))
    params_faulty names _ g (BreakParams.param {p = p} {rest = rest} d) =
        both_left more_of (one names p) (params structs defined (and_name names p.name) rest) g (both_right second_of (param_name defined names p.span p.name) (param structs p) g (param_faulty p g d))
    params_faulty names _ g (BreakParams.later {p = p} {rest = rest} d) =
        both_right more_of (one names p) (params structs defined (and_name names p.name) rest) g (params_faulty (and_name names p.name) rest g d)

  -- ---- results

  module _ (at : Span) where
    abbrev returned : Base → ℕ → Verdict Ty
    returned base stars = declared (tags_of structs) (length structs) base stars [] at

    result_from : (base : Base) (stars : ℕ) (v : Verdict Ty) → Judged (Declares (tags_of structs) (length structs) base stars []) (λ f. Misdeclares (tags_of structs) (length structs) base stars [] at f) v
        → Judged (IsResult structs (returns.Of base) stars) (BreaksResult structs at (returns.Of base) stars) (some_of (as_scalar at v))
    result_from base stars (Ok u) d = result_scalar base stars u d (is_some (struct_of u)) refl
      where
        result_scalar : (base : Base) (stars : ℕ) (u : Ty) → Declares (tags_of structs) (length structs) base stars [] u → (b : Bool) → is_some (struct_of u) ≡ b → Judged (IsResult structs (returns.Of base) stars) (BreaksResult structs at (returns.Of base) stars) (some_of (if b then Err (fault WrongType at) else Ok u))
        result_scalar base stars u d true e = BreaksResult.struct u d (isnt_scalar u (struct_of u) refl e)
        result_scalar base stars u d false e = IsResult.value d (is_scalar u (struct_of u) refl e)
    result_from base stars (Err f) d = BreaksResult.declarator d

    result_judged : (r : Returns) (stars : ℕ) → Judged (IsResult structs r stars) (BreaksResult structs at r stars) (result structs at r stars)
    result_judged (returns.Void here) zero = IsResult.nothing
    result_judged (returns.Void here) (suc n) = BreaksResult.void (omega arith)
    result_judged (returns.Of base) stars = result_from base stars (returned base stars) (declared_judged (tags_of structs) (length structs) base stars [] at)

    returned_is : (base : Base) (stars : ℕ) (u : Ty) → Declares (tags_of structs) (length structs) base stars [] u → returned base stars ≡ Ok u
    returned_is base stars u d = declares_is (tags_of structs) (length structs) base stars [] at u d

    result_is : (r : Returns) (stars : ℕ) (o : Option Ty) → IsResult structs r stars o → result structs at r stars ≡ Ok o
    result_is _ _ _ (IsResult.nothing {at = here}) = refl
    result_is _ _ _ (IsResult.value {base = base} {stars = stars} {u = u} d h) = ap (λ v. some_of (as_scalar at v)) (returned_is base stars u d) ∙ ap some_of (scalar_is at u h)

    void_faulty : (here : Span) (stars : ℕ) → 0 < stars → nothing_of at stars ≡ Err (fault WrongType at)
    void_faulty here zero h = absurd (omega arith)
    void_faulty here (suc n) h = refl

    result_with : (base : Base) (stars : ℕ) (g : TypeFault) → Faulty (returned base stars) g → Faulty (result structs at (returns.Of base) stars) g
    result_with base stars g q = (q.0, ap (λ v. some_of (as_scalar at v)) q.1, q.2)

    result_faulty : (r : Returns) (stars : ℕ) (g : TypeFault) → BreaksResult structs at r stars g → Faulty (result structs at r stars) g
    result_faulty _ _ _ (BreaksResult.void {here = here} {stars = stars} h) = faulty_itself (nothing_of at stars) (fault WrongType at) (void_faulty here stars h)
    result_faulty _ _ g (BreaksResult.declarator {base = base} {stars = stars} d) = result_with base stars g (misdeclares_faulty (tags_of structs) (length structs) base stars [] at g d)
    result_faulty _ _ _ (BreaksResult.struct {base = base} {stars = stars} u d h) =
        faulty_itself (result structs at (returns.Of base) stars) (fault WrongType at) (ap (λ v. some_of (as_scalar at v)) (returned_is base stars u d) ∙ ap some_of (scalar_isnt at u h))

  -- ---- the whole

  module _ (defined : Bool) (h : Head) where
    abbrev left : Verdict (Option Ty)
    left = result structs h.span h.returns h.stars

    abbrev right : Verdict (List Ty)
    right = params structs defined [] h.params

    pub function_judged : Judged (DeclaresFunction structs defined h) (MisdeclaresFunction structs defined h) (signature structs defined h)
    function_judged =
        both_judged signature_with (IsResult structs h.returns h.stars) (AreParams structs defined [] h.params) (DeclaresFunction structs defined h) (BreaksResult structs h.span h.returns h.stars) (BreakParams structs defined [] h.params) (MisdeclaresFunction structs defined h) left right
        (result_judged h.span h.returns h.stars) (params_judged defined [] h.params)
        (λ r us d e. DeclaresFunction.function d e)
        (λ f d. MisdeclaresFunction.result d)
        (λ f d. MisdeclaresFunction.params d)

    pub declares_function : (s : Signature) → DeclaresFunction structs defined h s → signature structs defined h ≡ Ok s
    declares_function _ (DeclaresFunction.function {r = r} {us = us} d e) = both_ok signature_with left right r us (result_is h.span h.returns h.stars r d) (params_are defined [] h.params us e)

    pub function_faulty : (g : TypeFault) → MisdeclaresFunction structs defined h g → Faulty (signature structs defined h) g
    function_faulty g (MisdeclaresFunction.result d) = both_left signature_with left right g (result_faulty h.span h.returns h.stars g d)
    function_faulty g (MisdeclaresFunction.params d) = both_right signature_with left right g (params_faulty defined [] h.params g d)

    pub signature_exact : Exact (DeclaresFunction structs defined h) (MisdeclaresFunction structs defined h) (signature structs defined h)
    signature_exact = exact_from (DeclaresFunction structs defined h) (MisdeclaresFunction structs defined h) (signature structs defined h) function_judged declares_function function_faulty

-- ---- what a walk over parameters finds is the verdict on them

abbrev appended : List Ty → List Ty → Verdict (List Ty)
appended a b = Ok (a ++ b)

step : (o : Option TypeFault) (us : List Ty) (names : List (List ℕ)) (x : Option Name) (n : Verdict (List ℕ)) (v : Verdict Ty) (w : Verdict (List Ty))
    → both appended (closed (with_param x n v (record { names = names; types = us; fault = o })).fault (with_param x n v (record { names = names; types = us; fault = o })).types) w ≡ both appended (closed o us) (joined (both (λ (a : List ℕ) (b : Ty). Ok b) n v) w)
step None us names x (Ok t) (Ok u) (Ok ms) = ap Ok (append_assoc us (u ∷ []) ms)
step None us names x (Ok t) (Ok u) (Err g) = refl
step None us names x (Ok t) (Err f) (Ok ms) = refl
step None us names x (Ok t) (Err f) (Err g) = refl
step None us names x (Err k) (Ok u) (Ok ms) = refl
step None us names x (Err k) (Ok u) (Err g) = refl
step None us names x (Err k) (Err f) (Ok ms) = refl
step None us names x (Err k) (Err f) (Err g) = refl
step (Some h) us names x (Ok t) (Ok u) (Ok ms) = refl
step (Some h) us names x (Ok t) (Ok u) (Err g) = refl
step (Some h) us names x (Ok t) (Err f) (Ok ms) = refl
step (Some h) us names x (Ok t) (Err f) (Err g) = ap Err (sooner_assoc h f g)
step (Some h) us names x (Err k) (Ok u) (Ok ms) = refl
step (Some h) us names x (Err k) (Ok u) (Err g) = ap Err (sooner_assoc h k g)
step (Some h) us names x (Err k) (Err f) (Ok ms) = refl
step (Some h) us names x (Err k) (Err f) (Err g) = ap Err (sooner_assoc h (sooner k f) g)

append_none : {X : Type 0} (xs : List X) → xs ++ [] ≡ xs
append_none [] = refl
append_none (x ∷ xs) = ap (λ l. x ∷ l) (append_none xs)

ends : (o : Option TypeFault) (us : List Ty) → closed o us ≡ both appended (closed o us) (Ok [])
ends None us = ap Ok (sym (append_none us))
ends (Some f) us = refl

found : (structs : List Struct) (defined : Bool) (list : List Param) (st : Listed) → closed (after_params structs defined list st).fault (after_params structs defined list st).types ≡ both appended (closed st.fault st.types) (params structs defined st.names list)
found structs defined [] st = ends st.fault st.types
found structs defined (p ∷ rest) st =
    found structs defined rest (after_param structs defined p st)
    ∙ step st.fault st.types st.names p.name (param_name defined st.names p.span p.name) (param structs p) (params structs defined (and_name st.names p.name) rest)

starts : (w : Verdict (List Ty)) → both appended (Ok []) w ≡ w
starts (Ok us) = refl
starts (Err f) = refl

pub concluded_is : (structs : List Struct) (defined : Bool) (h : Head) → concluded (result structs h.span h.returns h.stars) (after_params structs defined h.params no_params) ≡ signature structs defined h
concluded_is structs defined h = ap (both signature_with (result structs h.span h.returns h.stars)) (found structs defined h.params no_params ∙ starts (params structs defined [] h.params))
