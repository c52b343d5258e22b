-- A layer's fault as a source's; private contracts alone cite this.
use Rattle.std.specs.Prelude.{◌≡◌, List, Err}
use Rattle.ax_prog.specs.declared.Program.{Program}
use Rattle.ax_prog.specs.declared.tokens.Token.{Token}
use Rattle.ax_lex.specs.declared.LexFault.{LexFault}
use Rattle.ax_lex.specs.declared.LexFault.TheVariants as l
use Rattle.ax_parse_grammar.specs.declared.tree.Tree.{Tree}
use Rattle.ax_parse.specs.declared.faults.ParseFault.{ParseFault}
use Rattle.ax_parse.specs.declared.faults.ParseFault.TheVariants as p
use Rattle.ax_parse.specs.Faults as tree
use Rattle.ax_names_declared.specs.Firsts.{Exact}
use Rattle.ax_names_rules.specs.Programs.{IsProgramOf}
use Rattle.ax_names_rules.specs.FileFaults.{BreaksSource}
use Rattle.ax_front.specs.declared.SourceFault.{SourceFault}
use Rattle.ax_front.specs.declared.SourceFault.TheVariants as source

abbrev pub from_lex : LexFault → SourceFault
from_lex l.Memory = source.Memory
from_lex fault = source.Lex fault

abbrev pub from_parse : ParseFault → SourceFault
from_parse p.Memory = source.Memory
from_parse fault = source.Parse fault

-- the tokens are refused for this fault
abbrev pub IsRefusedParse : List Token → SourceFault → Type 0
IsRefusedParse tokens e = (fault : ParseFault) × (e ≡ from_parse fault) × tree.FaultIs tokens fault

-- the tree is refused for this fault: it has no program, and this is the first rule on names and types that it breaks
abbrev pub IsRefusedTree : Tree → SourceFault → Type 0
IsRefusedTree tree source.Memory = Unit {0}
IsRefusedTree tree (source.Lex fault) = ⊥
IsRefusedTree tree (source.Parse fault) = ⊥
IsRefusedTree tree (source.«Type» fault) = Exact {A = Program} (IsProgramOf tree) (BreaksSource tree) (Err fault)
