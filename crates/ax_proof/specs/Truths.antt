-- The table that tells of each variable what a trail says of it.
use Rattle.std.specs.Prelude.{◌≡◌, ◌≢◌, ◌+◌, ◌↔◌, Bool, true, false, List, length, slice_index_or}
use Rattle.std.specs.List.{AllPairs, Contains, count_by}
use Rattle.ax_proof.specs.Literal.{Literal}
use Rattle.ax_proof.specs.declared.trail.Truth.{Truth}
use Rattle.ax_proof.specs.declared.trail.Truth.TheVariants.{True, False, Open}

-- what is known of a variable's literal of this sign
abbrev pub with_sign : Bool → Truth → Truth
with_sign true t = t
with_sign false True = False
with_sign false False = True
with_sign false Open = Open

abbrev pub is_open : Truth → Bool
is_open Open = true
is_open True = false
is_open False = false

abbrev pub truth_at : List Truth → Literal → Truth
truth_at values l = with_sign l.positive (slice_index_or values l.var Open)

-- The table makes true just the literals of the list. An open variable is one that the list has still room for.
pub record Tabulates (values : List Truth) (lits : List Literal) : Type 0 where
  pub known : (l : Literal) → (truth_at values l ≡ True) ↔ Contains lits l
  pub counted : length lits + count_by is_open values ≡ length values
  pub once : AllPairs (λ a b. a.var ≢ b.var) lits
