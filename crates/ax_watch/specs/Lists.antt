-- Linked lists of cells.
use Rattle.std.specs.Prelude.{◌≡◌, ◌≢◌, ℕ, zero, suc, ◌+◌, ◌<◌, ◌⊎◌, List, [], ◌∷◌, length, slice_index_or}
use Rattle.std.specs.List.{Contains}

-- Of each list a link to its first cell, of each cell a link to the one behind it, and for how many more cells there is
-- room.
pub record ListsState : Type 0 where
  pub first : List ℕ
  pub next : List ℕ
  pub room : ℕ

-- the cells from a link on, at most so many: the link 0 is the end, and the link n + 1 leads to the cell n
abbrev pub cells_from : List ℕ → ℕ → ℕ → List ℕ
cells_from next zero link = []
cells_from next (suc most) zero = []
cells_from next (suc most) (suc cell) = cell ∷ cells_from next most (slice_index_or next cell 0)

abbrev pub list_of : List ℕ → List ℕ → ℕ → List ℕ
list_of first next l = cells_from next (length next) (slice_index_or first l 0)

-- the link leads through just these cells to the end
abbrev pub IsChain : List ℕ → ℕ → List ℕ → Type 0
IsChain next link [] = link ≡ 0
IsChain next link (cell ∷ cells) = (link ≡ cell + 1) × IsChain next (slice_index_or next cell 0) cells

-- no cell stands twice
abbrev pub IsOnce : List ℕ → Type 0
IsOnce [] = Unit {0}
IsOnce (cell ∷ cells) = (Contains cells cell → ⊥) × IsOnce cells

-- the links lead through these lists, and no cell stands in two of them
pub record AreLinked (first next : List ℕ) (list : ℕ → List ℕ) : Type 0 where
  pub chained : (l : ℕ) → IsChain next (slice_index_or first l 0) (list l)
  pub below : (l cell : ℕ) → Contains (list l) cell → cell < length next
  pub once : (l : ℕ) → IsOnce (list l)
  pub apart : (l m cell : ℕ) → Contains (list l) cell → Contains (list m) cell → l ≡ m

-- the cells of a list, first to last
abbrev pub list_in : ListsState → ℕ → List ℕ
list_in s l = list_of s.first s.next l

-- how many lists there are
abbrev pub list_count : ListsState → ℕ
list_count s = length s.first

-- how many cells there are
abbrev pub cell_count : ListsState → ℕ
cell_count s = length s.next

-- the cell is in none of the lists
abbrev pub IsIdle : ListsState → ℕ → Type 0
IsIdle s cell = (l : ℕ) → Contains (list_in s l) cell → ⊥

-- as many lists, cells and room as before
pub record IsAsLarge (old new : ListsState) : Type 0 where
  pub lists : list_count new ≡ list_count old
  pub cells : cell_count new ≡ cell_count old
  pub room : new.room ≡ old.room

-- this cell came before the others of the list
pub record Puts (l cell : ℕ) (old new : ListsState) : Type 0 where
  pub here : list_in new l ≡ cell ∷ list_in old l
  pub others : (m : ℕ) → m ≢ l → list_in new m ≡ list_in old m
  pub size : IsAsLarge old new

-- the first cell left the list
pub record Takes (l cell : ℕ) (old new : ListsState) : Type 0 where
  pub here : list_in old l ≡ cell ∷ list_in new l
  pub others : (m : ℕ) → m ≢ l → list_in new m ≡ list_in old m
  pub within : cell < cell_count old
  pub idle : IsIdle new cell
  pub size : IsAsLarge old new

-- all cells of one list went to another, which had none
pub record Moves (from to : ℕ) (old new : ListsState) : Type 0 where
  pub there : list_in new to ≡ list_in old from
  pub none : list_in new from ≡ []
  pub others : (m : ℕ) → m ≢ from → m ≢ to → list_in new m ≡ list_in old m
  pub size : IsAsLarge old new

-- all cells of one list went to another
pub record Pours (from to : ℕ) (old new : ListsState) : Type 0 where
  pub none : list_in new from ≡ []
  pub there : (cell : ℕ) → Contains (list_in old from) cell ⊎ Contains (list_in old to) cell → Contains (list_in new to) cell
  pub only : (cell : ℕ) → Contains (list_in new to) cell → Contains (list_in old from) cell ⊎ Contains (list_in old to) cell
  pub others : (m : ℕ) → m ≢ from → m ≢ to → list_in new m ≡ list_in old m
  pub size : IsAsLarge old new
