-- An exact verdict on a variable is the walk's: no two of its faults that come at once differ.
use Rattle.std.proofs.Common.{◌≡◌, ℕ, zero, suc, ◌+◌, ◌*◌, ◌<◌, ◌≤◌, List, Ok, Err, refl, sym, ap, ◌∙◌, subst, arith}
use Rattle.ax_prog.specs.declared.Span.{Span}
use Rattle.ax_prog.specs.declared.Ty.{Ty}
use Rattle.ax_prog.specs.declared.Struct.{Struct}
use Rattle.ax_parse_grammar.specs.declared.tree.Base.{Base}
use Rattle.ax_parse_grammar.specs.declared.tree.Base.TheVariants as b
use Rattle.ax_parse_grammar.specs.declared.tree.Size.{Size}
use Rattle.ax_names_types.specs.declared.TypeKind.{TypeKind}
use Rattle.ax_names_types.specs.declared.TypeKind.TheVariants as kind
use Rattle.ax_names_types.specs.declared.TypeFault.{TypeFault}
use Rattle.ax_names_types.specs.Faults.{fault, rank, turn, Verdict}
use Rattle.ax_names_declared.specs.Firsts.{Exact}
use Rattle.ax_names_declared.specs.Cells.{measured}
use Rattle.ax_names_declared.specs.Breaks.{Unknown, Misdeclares, DeclaresObject, MisdeclaresObject}
use Rattle.ax_names_declared.specs.Verdicts.{object}
use Rattle.ax_names_declared.proofs.Single.{one_variable}
use Rattle.ax_names_declared.proofs.Variables.{object_exact}

-- ---- a fault's turn tells its kind

abbrev kind_at : ℕ → TypeKind
kind_at zero = kind.UnknownName
kind_at (suc zero) = kind.Redeclared
kind_at (suc (suc zero)) = kind.WrongType
kind_at (suc (suc (suc zero))) = kind.NotLvalue
kind_at (suc (suc (suc (suc zero)))) = kind.WrongCount
kind_at (suc (suc (suc (suc (suc zero))))) = kind.NoMain
kind_at (suc (suc (suc (suc (suc (suc zero)))))) = kind.MissingField
kind_at (suc (suc (suc (suc (suc (suc (suc zero))))))) = kind.RecursiveStruct
kind_at (suc (suc (suc (suc (suc (suc (suc (suc zero)))))))) = kind.TooLarge
kind_at (suc (suc (suc (suc (suc (suc (suc (suc (suc n))))))))) = kind.Misplaced

kind_is : (k : TypeKind) → kind_at (rank k) ≡ k
kind_is kind.UnknownName = refl
kind_is kind.Redeclared = refl
kind_is kind.WrongType = refl
kind_is kind.NotLvalue = refl
kind_is kind.WrongCount = refl
kind_is kind.NoMain = refl
kind_is kind.MissingField = refl
kind_is kind.RecursiveStruct = refl
kind_is kind.TooLarge = refl
kind_is kind.Misplaced = refl

rank_small : (k : TypeKind) → rank k < 16
rank_small kind.UnknownName = omega arith
rank_small kind.Redeclared = omega arith
rank_small kind.WrongType = omega arith
rank_small kind.NotLvalue = omega arith
rank_small kind.WrongCount = omega arith
rank_small kind.NoMain = omega arith
rank_small kind.MissingField = omega arith
rank_small kind.RecursiveStruct = omega arith
rank_small kind.TooLarge = omega arith
rank_small kind.Misplaced = omega arith

same_rank : (m n r s : ℕ) → r < 16 → s < 16 → m * 16 + r ≡ n * 16 + s → r ≡ s
same_rank m n r s h k e = omega arith

same_kind : (f g : TypeFault) → turn f ≡ turn g → f.kind ≡ g.kind
same_kind f g e = sym (kind_is f.kind) ∙ ap kind_at (same_rank f.span.from g.span.from (rank f.kind) (rank g.kind) (rank_small f.kind) (rank_small g.kind) e) ∙ kind_is g.kind

-- ---- a fault's kind tells its place

abbrev spot : TypeKind → Base → Span → Span
spot kind.UnknownName (b.Struct at2 x) at = x.span
spot kind.UnknownName (b.Int at2) at = at
spot kind.Redeclared base at = at
spot kind.WrongType base at = at
spot kind.NotLvalue base at = at
spot kind.WrongCount base at = at
spot kind.NoMain base at = at
spot kind.MissingField base at = at
spot kind.RecursiveStruct base at = at
spot kind.TooLarge base at = at
spot kind.Misplaced base at = at

unknown_there : (tags : List (List ℕ)) (base : Base) (at : Span) (f : TypeFault) → Unknown tags base f → f ≡ fault f.kind (spot f.kind base at)
unknown_there tags _ at _ (Unknown.tag e) = refl

misdeclared_there : (tags : List (List ℕ)) (complete : ℕ) (base : Base) (stars : ℕ) (sizes : List Size) (at : Span) (f : TypeFault) → Misdeclares tags complete base stars sizes at f → f ≡ fault f.kind (spot f.kind base at)
misdeclared_there tags complete base stars sizes at f (Misdeclares.unknown u) = unknown_there tags base at f u
misdeclared_there tags complete base stars sizes at _ (Misdeclares.size h) = refl
misdeclared_there tags complete base stars sizes at _ (Misdeclares.incomplete u d h) = refl

module _ (structs : List Struct) (base : Base) (stars : ℕ) (sizes : List Size) (at : Span) where
  fault_there : (f : TypeFault) → MisdeclaresObject structs base stars sizes at f → f ≡ fault f.kind (spot f.kind base at)
  fault_there f (MisdeclaresObject.declarator d) = misdeclared_there _ _ base stars sizes at f d
  fault_there _ (MisdeclaresObject.large u d l) = refl

  one_fault : (f g : TypeFault) → MisdeclaresObject structs base stars sizes at f → MisdeclaresObject structs base stars sizes at g → turn f ≤ turn g → turn g ≤ turn f → f ≡ g
  one_fault f g d e h k =
      let same : turn f ≡ turn g = omega arith in
      fault_there f d ∙ ap (λ (k : TypeKind). fault k (spot k base at)) (same_kind f g same) ∙ sym (fault_there g e)

  abbrev Found : Verdict Ty → Type 0
  Found v = Exact (DeclaresObject structs base stars sizes) (MisdeclaresObject structs base stars sizes at) v

  one_verdict : (v w : Verdict Ty) → Found v → Found w → v ≡ w
  one_verdict (Ok u) (Ok v) x y = ap Ok (one_variable structs base stars sizes u v x.0 y.0)
  one_verdict (Ok u) (Err g) x y = absurd (x.1 g (y.0).0)
  one_verdict (Err f) (Ok v) x y = absurd (y.1 f (x.0).0)
  one_verdict (Err f) (Err g) x y = ap Err (one_fault f g (x.0).0 (y.0).0 ((x.0).1 g (y.0).0) ((y.0).1 f (x.0).0))

  pub object_found : (v : Verdict Ty) → Found v → object structs (measured structs) base stars sizes at ≡ v
  object_found v x = one_verdict _ v (object_exact structs base stars sizes at) x

-- the same, where the code's answer is known in parts
pub found_as : (structs s2 : List Struct) (base : Base) (stars : ℕ) (sizes : List Size) (at : Span) (v w : Verdict Ty) → s2 ≡ structs → Exact (DeclaresObject s2 base stars sizes) (MisdeclaresObject s2 base stars sizes at) v → v ≡ w → object structs (measured structs) base stars sizes at ≡ w
found_as structs s2 base stars sizes at v w e x h =
    object_found structs base stars sizes at v (subst (λ (l : List Struct). Exact (DeclaresObject l base stars sizes) (MisdeclaresObject l base stars sizes at) v) e x) ∙ h
