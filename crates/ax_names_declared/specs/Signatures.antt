-- The verdict on a head of a function, as a function; what a walk over its parameters has found.
use Rattle.std.specs.Prelude.{ℕ, zero, suc, Bool, if◌then◌else◌, is_some, List, [], ◌∷◌, ◌++◌, length, Option, Some, None, Ok, Err}
use Rattle.ax_prog.specs.declared.Span.{Span}
use Rattle.ax_prog.specs.declared.Ty.{Ty}
use Rattle.ax_prog.specs.declared.Struct.{Struct}
use Rattle.ax_parse_grammar.specs.declared.tree.Name.{Name}
use Rattle.ax_parse_grammar.specs.declared.tree.Returns.{Returns}
use Rattle.ax_parse_grammar.specs.declared.tree.Returns.TheVariants as returns
use Rattle.ax_parse_grammar.specs.declared.tree.Param.{Param}
use Rattle.ax_parse_grammar.specs.declared.tree.Head.{Head}
use Rattle.ax_names_types.specs.declared.TypeKind.TheVariants.{WrongType}
use Rattle.ax_names_types.specs.Faults.{fault, Verdict}
use Rattle.ax_names_types.specs.Types.{struct_of}
use Rattle.ax_names_types.specs.Verdicts.{both}
use Rattle.ax_names_declared.specs.declared.heads.Signature.{Signature}
use Rattle.ax_names_declared.specs.declared.heads.Listed.{Listed}
use Rattle.ax_names_declared.specs.Firsts.{earlier, closed, fault_of}
use Rattle.ax_names_declared.specs.Denotations.{tags_of, name_at, filled}
use Rattle.ax_names_declared.specs.Verdicts.{declared}
use Rattle.ax_names_declared.specs.Heads.{adjusted, and_name}
use Rattle.ax_names_declared.specs.Members.{named, joined, type_or_int}

-- no struct
abbrev pub scalar : Span → Ty → Verdict Ty
scalar at u = if is_some (struct_of u) then Err (fault WrongType at) else Ok u

abbrev pub as_scalar : Span → Verdict Ty → Verdict Ty
as_scalar at (Ok u) = scalar at u
as_scalar at (Err f) = Err f

abbrev pub as_param : Span → Verdict Ty → Verdict Ty
as_param at (Ok u) = scalar at (adjusted u)
as_param at (Err f) = Err f

abbrev pub param : List Struct → Param → Verdict Ty
param structs p = as_param p.span (declared (tags_of structs) (length structs) p.base p.stars (filled 1 p.sizes) p.span)

abbrev pub param_name : Bool → List (List ℕ) → Span → Option Name → Verdict (List ℕ)
param_name defined names at None = if defined then Err (fault WrongType at) else Ok []
param_name defined names at (Some x) = named x (name_at names x.text)

abbrev pub second : {A B : Type 0} → A → B → Verdict B
second a b = Ok b

abbrev pub params : List Struct → Bool → List (List ℕ) → List Param → Verdict (List Ty)
params structs defined names [] = Ok []
params structs defined names (p ∷ rest) = joined (both second (param_name defined names p.span p.name) (param structs p)) (params structs defined (and_name names p.name) rest)

abbrev pub some_of : Verdict Ty → Verdict (Option Ty)
some_of (Ok u) = Ok (Some u)
some_of (Err f) = Err f

abbrev pub nothing_of : Span → ℕ → Verdict (Option Ty)
nothing_of at zero = Ok None
nothing_of at (suc n) = Err (fault WrongType at)

abbrev pub result : List Struct → Span → Returns → ℕ → Verdict (Option Ty)
result structs at (returns.Void here) stars = nothing_of at stars
result structs at (returns.Of base) stars = some_of (as_scalar at (declared (tags_of structs) (length structs) base stars [] at))

abbrev pub signature_with : Option Ty → List Ty → Verdict Signature
signature_with r us = Ok (record { result = r; params = us })

abbrev pub signature : List Struct → Bool → Head → Verdict Signature
signature structs defined h = both signature_with (result structs h.span h.returns h.stars) (params structs defined [] h.params)

-- ---- the walk: names and types of the parameters so far, those with a fault too, and the first fault so far

abbrev pub with_param : Option Name → Verdict (List ℕ) → Verdict Ty → Listed → Listed
with_param x o v st = record { names = and_name st.names x; types = st.types ++ type_or_int v ∷ []; fault = earlier st.fault (earlier (fault_of o) (fault_of v)) }

abbrev pub after_param : List Struct → Bool → Param → Listed → Listed
after_param structs defined p st = with_param p.name (param_name defined st.names p.span p.name) (param structs p) st

abbrev pub after_params : List Struct → Bool → List Param → Listed → Listed
after_params structs defined [] st = st
after_params structs defined (p ∷ rest) st = after_params structs defined rest (after_param structs defined p st)

abbrev pub no_params : Listed
no_params = record { names = []; types = []; fault = None }

abbrev pub concluded : Verdict (Option Ty) → Listed → Verdict Signature
concluded r st = both signature_with r (closed st.fault st.types)
