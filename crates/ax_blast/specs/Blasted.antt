-- What was made of flags of a bank.
use Rattle.std.specs.Prelude.{◌≡◌, ℕ, List, length}
use Rattle.ax_term.specs.Tree.{Tree}
use Rattle.ax_term.specs.Numbered.{Numbered}
use Rattle.ax_term.specs.Order.{trees_at, order_of, AllBelow}
use Rattle.ax_blast.specs.Blasting.{places_of, list_vars, flag_lits, clause_list}
use Rattle.ax_blast.specs.Table.{table_of, IsTableOf, AllFlagTrees}
use Rattle.ax_blast.specs.declared.blasted.Blasted.{Blasted}

-- the clause list of asserted and named flags, whose subterms stand in the bank, with the literals of its terms
pub record IsBlasted (ts : List Numbered) (asserted named : List Tree) (it : Blasted) : Type 0 where
  pub flags : AllFlagTrees asserted
  -- the numbers of the distinct subterms
  pub numbers : List ℕ
  pub below : AllBelow (length ts) numbers
  pub order : trees_at ts numbers ≡ order_of asserted named
  pub clauses : it.cnf.clauses.items ≡ clause_list asserted named
  pub vars : it.cnf.vars ≡ list_vars asserted named
  pub places : IsTableOf ts (places_of asserted named) (table_of it.places.items)
  pub named_lits : it.named.items ≡ flag_lits (places_of asserted named) named
