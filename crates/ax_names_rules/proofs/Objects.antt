-- The type of a variable: what the function gives is what the rules say.
use Rattle.std.proofs.Common.{◌≡◌, ℕ, List, Ok, Err, refl, sym, ap, ◌∙◌}
use Rattle.ax_prog.specs.declared.Span.{Span}
use Rattle.ax_prog.specs.declared.Struct.{Struct}
use Rattle.ax_prog.specs.declared.Ty.{Ty}
use Rattle.ax_parse_grammar.specs.declared.tree.Base.{Base}
use Rattle.ax_parse_grammar.specs.declared.tree.Size.{Size}
use Rattle.ax_names_types.specs.declared.TypeFault.{TypeFault}
use Rattle.ax_names_types.specs.Faults.{Verdict}
use Rattle.ax_names_types.proofs.Broken.{Faulty}
use Rattle.ax_names_declared.specs.Firsts.{Exact}
use Rattle.ax_names_declared.specs.Denotations.{tags_of, pointers_to, arrays_of, Denotes, Declares}
use Rattle.ax_names_declared.specs.Cells.{measured}
use Rattle.ax_names_declared.specs.Breaks.{DeclaresObject, MisdeclaresObject}
use Rattle.ax_names_declared.specs.Verdicts.{base_of, object}
use Rattle.ax_names_declared.proofs.Variables.{object_exact}
use Rattle.ax_names_declared.proofs.Declared.{denotes_is}
use Rattle.ax_names_rules.proofs.Steps.{ok_same}

-- ---- an object has one type

base_unique : (tags : List (List ℕ)) (base : Base) (u v : Ty) → Denotes tags base u → Denotes tags base v → u ≡ v
base_unique tags base u v d e = ok_same u v (base_of tags base) (denotes_is tags base u d) (denotes_is tags base v e)

declared_from : (tags : List (List ℕ)) (complete : ℕ) (base : Base) (stars : ℕ) (sizes : List Size) (u : Ty) → Declares tags complete base stars sizes u → (b : Ty) × Denotes tags base b × (u ≡ arrays_of sizes (pointers_to stars b))
declared_from tags complete base stars sizes _ (Declares.object b d c s) = (b, d, refl)

object_from : (structs : List Struct) (base : Base) (stars : ℕ) (sizes : List Size) (u : Ty) → DeclaresObject structs base stars sizes u → (b : Ty) × Denotes (tags_of structs) base b × (u ≡ arrays_of sizes (pointers_to stars b))
object_from structs base stars sizes u (DeclaresObject.object d l) = declared_from _ _ base stars sizes u d

object_unique : (structs : List Struct) (base : Base) (stars : ℕ) (sizes : List Size) (u v : Ty) → DeclaresObject structs base stars sizes u → DeclaresObject structs base stars sizes v → u ≡ v
object_unique structs base stars sizes u v d e =
    let p = object_from structs base stars sizes u d in
    let q = object_from structs base stars sizes v e in
    p.2 ∙ ap (λ b. arrays_of sizes (pointers_to stars b)) (base_unique (tags_of structs) base p.0 q.0 p.1 q.1) ∙ sym q.2

-- ---- from an exact verdict

abbrev pub JudgedObject : List Struct → Base → ℕ → List Size → Span → Verdict Ty → Type 0
JudgedObject structs base stars sizes at (Ok u) = DeclaresObject structs base stars sizes u
JudgedObject structs base stars sizes at (Err f) = MisdeclaresObject structs base stars sizes at f

module _ (structs : List Struct) (base : Base) (stars : ℕ) (sizes : List Size) (at : Span) where
  judged_by : (v : Verdict Ty) → Exact (DeclaresObject structs base stars sizes) (MisdeclaresObject structs base stars sizes at) v → JudgedObject structs base stars sizes at v
  judged_by (Ok u) x = x.0
  judged_by (Err f) x = x.0.0

  is_by : (v : Verdict Ty) → Exact (DeclaresObject structs base stars sizes) (MisdeclaresObject structs base stars sizes at) v → (u : Ty) → DeclaresObject structs base stars sizes u → v ≡ Ok u
  is_by (Ok w) x u d = ap Ok (object_unique structs base stars sizes w u x.0 d)
  is_by (Err f) x u d = absurd (x.1 u d)

  faulty_by : (v : Verdict Ty) → Exact (DeclaresObject structs base stars sizes) (MisdeclaresObject structs base stars sizes at) v → (g : TypeFault) → MisdeclaresObject structs base stars sizes at g → Faulty v g
  faulty_by (Ok w) x g d = absurd (x.1 g d)
  faulty_by (Err f) x g d = (f, refl, x.0.1 g d)

  pub object_judged : JudgedObject structs base stars sizes at (object structs (measured structs) base stars sizes at)
  object_judged = judged_by (object structs (measured structs) base stars sizes at) (object_exact structs base stars sizes at)

  pub object_is : (u : Ty) → DeclaresObject structs base stars sizes u → object structs (measured structs) base stars sizes at ≡ Ok u
  object_is u d = is_by (object structs (measured structs) base stars sizes at) (object_exact structs base stars sizes at) u d

  pub object_breaks : (g : TypeFault) → MisdeclaresObject structs base stars sizes at g → Faulty (object structs (measured structs) base stars sizes at) g
  object_breaks g d = faulty_by (object structs (measured structs) base stars sizes at) (object_exact structs base stars sizes at) g d
