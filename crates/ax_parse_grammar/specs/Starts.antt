-- How statements and declarations begin.
use Rattle.ax_prog.specs.declared.tokens.Keyword.TheVariants as kw
use Rattle.ax_prog.specs.declared.tokens.Mark.TheVariants as m
use Rattle.ax_prog.specs.declared.tokens.Kind.{Kind}
use Rattle.ax_prog.specs.declared.tokens.Kind.TheVariants as k
use Rattle.ax_parse_grammar.specs.declared.starts.Start.{Start}
use Rattle.ax_parse_grammar.specs.declared.starts.Start.TheVariants as start

abbrev pub start_of : Kind → Start
start_of (k.Keyword kw.Int) = start.Decl
start_of (k.Keyword kw.Struct) = start.Decl
start_of (k.Keyword kw.If) = start.If
start_of (k.Keyword kw.While) = start.While
start_of (k.Keyword kw.Do) = start.Do
start_of (k.Keyword kw.For) = start.For
start_of (k.Keyword kw.Break) = start.Break
start_of (k.Keyword kw.Continue) = start.Continue
start_of (k.Keyword kw.Return) = start.Return
start_of (k.Keyword kw.Scanf) = start.Read
start_of (k.Keyword kw.Printf) = start.Print
start_of (k.Mark m.Semicolon) = start.Empty
start_of (k.Mark m.OpenCurly) = start.Block
start_of _ = start.Simple
