-- The verdict on a variable.
use Rattle.std.proofs.Common.{◌≡◌, ℕ, Bool, true, false, List, length, Ok, Err, refl, sym, ap, ◌∙◌, arith}
use Rattle.std.specs.Prelude.{nat_le}
use Rattle.std.proofs.lemmas.Bool.{leb-true, leb-false, le-leb, lt-leb}
use Rattle.ax_prog.specs.declared.Span.{Span}
use Rattle.ax_prog.specs.declared.Struct.{Struct}
use Rattle.ax_prog.specs.declared.Ty.{Ty}
use Rattle.ax_parse_grammar.specs.declared.tree.Base.{Base}
use Rattle.ax_parse_grammar.specs.declared.tree.Size.{Size}
use Rattle.ax_names_types.specs.declared.TypeKind.TheVariants.{TooLarge}
use Rattle.ax_names_types.specs.declared.TypeFault.{TypeFault}
use Rattle.ax_names_types.specs.Faults.{fault, Verdict}
use Rattle.ax_names_declared.specs.Firsts.{Exact}
use Rattle.ax_names_declared.specs.Denotations.{tags_of, Declares}
use Rattle.ax_names_declared.specs.Cells.{cells_of, struct_cells, measured, most_cells}
use Rattle.ax_names_declared.specs.Breaks.{Misdeclares, DeclaresObject, MisdeclaresObject}
use Rattle.ax_names_declared.specs.Verdicts.{base_of, declared, fits, bounded, object}
use Rattle.ax_names_declared.proofs.Exactness.{Judged, Faulty, exact_from}
use Rattle.ax_names_declared.proofs.Declared.{denotes_is, declared_judged, declares_is, misdeclares_faulty}
use Rattle.ax_names_declared.proofs.Counts.{fits_capped, cells_made}

module _ (structs : List Struct) (base : Base) (stars : ℕ) (sizes : List Size) (at : Span) where
  abbrev Is : Ty → Type 0
  Is u = DeclaresObject structs base stars sizes u

  abbrev Isnt : TypeFault → Type 0
  Isnt f = MisdeclaresObject structs base stars sizes at f

  abbrev found : Verdict Ty
  found = declared (tags_of structs) (length structs) base stars sizes at

  abbrev test : Bool
  test = fits (measured structs) stars sizes (base_of (tags_of structs) base)

  -- the test of a declared type tells whether its cells are few
  test_is : (u : Ty) → Declares (tags_of structs) (length structs) base stars sizes u → test ≡ nat_le (cells_of (struct_cells structs) u) most_cells
  test_is _ (Declares.object u d c s) =
      fits_capped (struct_cells structs) stars sizes (base_of (tags_of structs) base)
      ∙ ap (fits (struct_cells structs) stars sizes) (denotes_is (tags_of structs) base u d)
      ∙ ap (λ n. nat_le n most_cells) (sym (cells_made (struct_cells structs) (tags_of structs) base stars sizes u d))

  by_test : (u : Ty) → Declares (tags_of structs) (length structs) base stars sizes u → (b : Bool) → test ≡ b → Judged Is Isnt (bounded b at (Ok u))
  by_test u d true e = DeclaresObject.object d (leb-true (cells_of (struct_cells structs) u) most_cells (sym (test_is u d) ∙ e))
  by_test u d false e = MisdeclaresObject.large u d (leb-false (cells_of (struct_cells structs) u) most_cells (sym (test_is u d) ∙ e))

  by_found : (v : Verdict Ty) → Judged (Declares (tags_of structs) (length structs) base stars sizes) (λ f. Misdeclares (tags_of structs) (length structs) base stars sizes at f) v → Judged Is Isnt (bounded test at v)
  by_found (Ok u) d = by_test u d test refl
  by_found (Err f) d = MisdeclaresObject.declarator d

  pub object_judged : Judged Is Isnt (object structs (measured structs) base stars sizes at)
  object_judged = by_found found (declared_judged (tags_of structs) (length structs) base stars sizes at)

  object_at : (b : Bool) (v : Verdict Ty) → test ≡ b → found ≡ v → object structs (measured structs) base stars sizes at ≡ bounded b at v
  object_at b v e h = rw (e, h) refl

  pub declares_object : (u : Ty) → Is u → object structs (measured structs) base stars sizes at ≡ Ok u
  declares_object u (DeclaresObject.object d l) = object_at true (Ok u) (test_is u d ∙ le-leb (cells_of (struct_cells structs) u) most_cells l) (declares_is (tags_of structs) (length structs) base stars sizes at u d)

  faulty_there : (g : TypeFault) → Faulty found g → Faulty (object structs (measured structs) base stars sizes at) g
  faulty_there g p = (p.0, object_at test (Err p.0) refl p.1, p.2)

  pub object_faulty : (g : TypeFault) → Isnt g → Faulty (object structs (measured structs) base stars sizes at) g
  object_faulty g (MisdeclaresObject.declarator d) = faulty_there g (misdeclares_faulty (tags_of structs) (length structs) base stars sizes at g d)
  object_faulty _ (MisdeclaresObject.large u d l) = (fault TooLarge at, object_at false (Ok u) (test_is u d ∙ lt-leb (cells_of (struct_cells structs) u) most_cells l) (declares_is (tags_of structs) (length structs) base stars sizes at u d), omega arith)

  pub object_exact : Exact Is Isnt (object structs (measured structs) base stars sizes at)
  object_exact = exact_from Is Isnt (object structs (measured structs) base stars sizes at) object_judged declares_object object_faulty
