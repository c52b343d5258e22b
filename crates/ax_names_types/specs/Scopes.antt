-- Names in scope and members of structs (C11 6.2.1, 6.7.2.1).
use Rattle.std.specs.Prelude.{◌≡◌, ℕ, nat_eq, Bool, true, false, if◌then◌else◌, List, [], ◌∷◌, Option, Some, None, position, slice_get}
use Rattle.std.specs.Cmp.Lexicographic.{pointwise}
use Rattle.ax_prog.specs.declared.Ty.{Ty}
use Rattle.ax_prog.specs.declared.StructId.{StructId}
use Rattle.ax_prog.specs.declared.Struct.{Struct}
use Rattle.ax_parse_grammar.specs.declared.tree.Expr.{Expr, Name, Number, Unary', Binary', Cond', Index', Member', Arrow', Call'}
use Rattle.ax_names_types.specs.declared.Entry.{Entry}
use Rattle.ax_names_types.specs.declared.Entity.{Entity}
use Rattle.ax_names_types.specs.declared.Entity.TheVariants as entity

-- the names in scope, the innermost last, and the structs
pub record Env : Type 0 where
  pub names : List Entry
  pub structs : List Struct

abbrev pub env_of : List Entry → List Struct → Env
env_of names structs = record { names = names; structs = structs }

abbrev pub same_text : List ℕ → List ℕ → Bool
same_text a b = pointwise nat_eq a b

abbrev pub or_else : Option Entry → Option Entry → Option Entry
or_else (Some e) d = Some e
or_else None d = d

-- the innermost declaration of a name, which is the last one in the list
abbrev pub innermost : List ℕ → List Entry → Option Entry
innermost x [] = None
innermost x (e ∷ es) = or_else (innermost x es) (if same_text e.name x then Some e else None)

abbrev pub is_function_entity : Entity → Bool
is_function_entity (entity.Variable id u) = false
is_function_entity (entity.Function k) = true

abbrev pub is_function_entry : Option Entry → Bool
is_function_entry None = false
is_function_entry (Some d) = is_function_entity d.entity

-- the expression is the name of a function
abbrev pub is_function : List Entry → Expr → Bool
is_function names (Name at x) = is_function_entry (innermost x names)
is_function names (Number at n) = false
is_function names (Unary' at op s r) = false
is_function names (Binary' at op s r s2 r2) = false
is_function names (Cond' at s r s2 r2 s3 r3) = false
is_function names (Index' at s r s2 r2) = false
is_function names (Member' at s r x) = false
is_function names (Arrow' at s r x) = false
is_function names (Call' at s r s2 r2) = false

abbrev pub members_of : Option Struct → List (List ℕ × Ty)
members_of None = []
members_of (Some s) = s.fields

abbrev pub with_place : ℕ → Option (List ℕ × Ty) → Option (ℕ × Ty)
with_place i None = None
with_place i (Some f) = Some (i, f.1)

abbrev pub member_at : List (List ℕ × Ty) → Option ℕ → Option (ℕ × Ty)
member_at fields None = None
member_at fields (Some i) = with_place i (slice_get fields i)

-- the member of this name: its place among the members, from 0, and its type
abbrev pub member_in : List (List ℕ × Ty) → List ℕ → Option (ℕ × Ty)
member_in fields x = member_at fields (position (λ f. same_text f.0 x) fields)

-- the member of this name in a struct
abbrev pub member_of : List Struct → StructId → List ℕ → Option (ℕ × Ty)
member_of structs k x = member_in (members_of (slice_get structs k.0)) x
