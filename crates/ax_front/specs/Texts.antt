-- The program of a byte text, and why a text is refused.
use Rattle.std.specs.Prelude.{◌≡◌, ℕ, ◌≤◌, List, length, None}
use Rattle.ax_prog.specs.declared.Program.{Program}
use Rattle.ax_prog.specs.declared.tokens.Token.{Token}
use Rattle.ax_lex.specs.declared.TheConstants.{MAX_TOKENS}
use Rattle.ax_lex.specs.Pieces.{SpellsTokens}
use Rattle.ax_lex.specs.Faults.{Faulty}
use Rattle.ax_parse_limits.specs.Nesting.{first_too_deep}
use Rattle.ax_parse_grammar.specs.declared.tree.Tree.{Tree}
use Rattle.ax_parse_grammar.specs.Sources.{SpellsTree}
use Rattle.ax_parse_limits.specs.Calls.{call_inside}
use Rattle.ax_parse_limits.specs.Wholes.{wholes, first_large}
use Rattle.ax_parse.specs.declared.faults.ParseFault.TheVariants as p
use Rattle.ax_parse.specs.Faults as tree
use Rattle.ax_names_types.specs.declared.TypeFault.{TypeFault}
use Rattle.ax_names_types.specs.Faults.{turn}
use Rattle.ax_names_rules.specs.Programs.{IsProgramOf}
use Rattle.ax_names_rules.specs.FileFaults.{BreaksSource}
use Rattle.ax_front.specs.declared.SourceFault.{SourceFault}
use Rattle.ax_front.specs.declared.SourceFault.TheVariants as source

-- The bytes spell some tokens, the tokens spell some tree, and the tree has this program.
pub record IsProgramOfText (bytes : List ℕ) (program : Program) : Type 0 where
  pub tokens : List Token
  pub tree : Tree
  pub spelled : SpellsTokens bytes tokens
  pub parsed : SpellsTree tree tokens
  pub meant : IsProgramOf tree program

-- the bytes spell these tokens, which are few enough
abbrev pub SpellsFew : List ℕ → List Token → Type 0
SpellsFew bytes tokens = SpellsTokens bytes tokens × (length tokens ≤ MAX_TOKENS)

-- no part that the rule `expr` spells has more than 400 nodes
abbrev pub HasSmallParts : List Token → Type 0
HasSmallParts tokens = (t : Tree) (s : SpellsTree t tokens) → first_large (wholes s) ≡ None

-- The text keeps the limits on tokens, on nesting, and on the nodes of each part that the rule `expr` spells.
pub record KeepsLimits (bytes : List ℕ) : Type 0 where
  pub tokens : List Token
  pub spelled : SpellsTokens bytes tokens
  pub few : length tokens ≤ MAX_TOKENS
  pub shallow : first_too_deep tokens ≡ None
  pub small : HasSmallParts tokens

-- the text has no program
abbrev pub HasNoProgram : List ℕ → Type 0
HasNoProgram bytes = (program : Program) → IsProgramOfText bytes program → ⊥

-- The text keeps the limits, its tokens spell a tree with no call inside an expression, and this is the first rule on names and
-- types that the tree breaks.
pub record BreaksText (bytes : List ℕ) (fault : TypeFault) : Type 0 where
  pub tokens : List Token
  pub tree : Tree
  pub spelled : SpellsTokens bytes tokens
  pub few : length tokens ≤ MAX_TOKENS
  pub shallow : first_too_deep tokens ≡ None
  pub parsed : SpellsTree tree tokens
  pub outside : call_inside tree ≡ None
  pub small : HasSmallParts tokens
  pub broken : BreaksSource tree fault
  pub first : (other : TypeFault) → BreaksSource tree other → turn fault ≤ turn other

-- Why no program is given: the first of these that refuses. Want of memory may come at any time.
abbrev pub FaultIs : List ℕ → SourceFault → Type 0
FaultIs bytes source.Memory = Unit {0}
FaultIs bytes (source.Lex fault) = Faulty bytes fault
FaultIs bytes (source.Parse p.Memory) = ⊥
FaultIs bytes (source.Parse fault) = (tokens : List Token) × SpellsFew bytes tokens × tree.FaultIs tokens fault
FaultIs bytes (source.«Type» fault) = BreaksText bytes fault

-- no text that has a program within the limits is refused for this fault
abbrev pub RefusesRightly : List ℕ → SourceFault → Type 0
RefusesRightly bytes source.Memory = Unit {0}
RefusesRightly bytes _ = KeepsLimits bytes → HasNoProgram bytes
