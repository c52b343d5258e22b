-- Why a token list is refused: the first of these that holds, in this order. It nests too deeply; no tree is spelled, and the
-- place is where the tokens stop; in the tree that is spelled a call stands inside an expression; a part that the rule `expr`
-- spells has more than 400 nodes.
use Rattle.std.specs.Prelude.{◌≡◌, ℕ, List, Some, None}
use Rattle.ax_prog.specs.declared.tokens.Token.{Token}
use Rattle.ax_parse_limits.specs.Nesting.{first_too_deep}
use Rattle.ax_parse_grammar.specs.declared.tree.Tree.{Tree}
use Rattle.ax_parse_grammar.specs.Sources.{SpellsTree}
use Rattle.ax_parse_limits.specs.Calls.{call_inside}
use Rattle.ax_parse_places.specs.Fronts.{StopsAt}
use Rattle.ax_parse_limits.specs.Wholes.{wholes, first_large}
use Rattle.ax_parse.specs.declared.faults.ParseFault.{ParseFault}
use Rattle.ax_parse.specs.declared.faults.ParseFault.TheVariants.{Memory, TooDeep, Syntax, CallInside, ExprTooLarge}

abbrev pub IsUnspelled : List Token → Type 0
IsUnspelled tokens = (t : Tree) → SpellsTree t tokens → ⊥

abbrev pub FaultIs : List Token → ParseFault → Type 0
FaultIs tokens Memory = Unit {0}
FaultIs tokens (TooDeep at) = first_too_deep tokens ≡ Some at
FaultIs tokens (Syntax at) = (first_too_deep tokens ≡ None) × IsUnspelled tokens × StopsAt tokens at
FaultIs tokens (CallInside at) = (first_too_deep tokens ≡ None) × ((t : Tree) × SpellsTree t tokens × (call_inside t ≡ Some at))
FaultIs tokens (ExprTooLarge at) = (first_too_deep tokens ≡ None) × ((t : Tree) × (s : SpellsTree t tokens) × (call_inside t ≡ None) × (first_large (wholes s) ≡ Some at))
