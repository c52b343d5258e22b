-- The texts that say why bytes or words are refused.
use Rattle.std.specs.Prelude.{◌++◌, ℕ, List, [], codes, string_bytes}
use Rattle.std.specs.Fmt.{decimal}
use Rattle.ax_lex.specs.declared.LexFault.{LexFault}
use Rattle.ax_lex.specs.declared.LexFault.TheVariants as lex
use Rattle.ax_suite.specs.declared.SuiteFault.{SuiteFault}
use Rattle.ax_suite.specs.declared.SuiteFault.TheVariants as suite
use Rattle.ax_front.specs.declared.SourceFault.{SourceFault}
use Rattle.ax_front.specs.declared.SourceFault.TheVariants as front
use Rattle.ax_parse.specs.declared.faults.ParseFault.{ParseFault}
use Rattle.ax_parse.specs.declared.faults.ParseFault.TheVariants as parse
use Rattle.ax_names_types.specs.declared.TypeKind.{TypeKind}
use Rattle.ax_names_types.specs.declared.TypeKind.TheVariants as kind
use Rattle.ax_names_types.specs.declared.TypeFault.{TypeFault}
use Rattle.ax_words.specs.declared.order.WordFault.{WordFault}
use Rattle.ax_words.specs.declared.order.WordFault.TheVariants as words

-- a source's fault and its place
abbrev pub refused_at : List ℕ → ℕ → List ℕ
refused_at what at = codes "source refused: " ++ (what ++ (codes " at " ++ (decimal at ++ codes "\n")))

abbrev pub lex_report : LexFault → List ℕ
lex_report lex.Memory = []
lex_report (lex.BadByte at) = refused_at (codes "bad byte") at
lex_report (lex.OpenComment at) = refused_at (codes "open comment") at
lex_report (lex.NumberTooLarge at) = refused_at (codes "number too large") at
lex_report (lex.TooManyTokens at) = refused_at (codes "too many tokens") at

abbrev pub parse_report : ParseFault → List ℕ
parse_report parse.Memory = []
parse_report (parse.TooDeep at) = refused_at (codes "too deep") at
parse_report (parse.Syntax at) = refused_at (codes "syntax") at
parse_report (parse.CallInside at) = refused_at (codes "call inside an expression") at
parse_report (parse.ExprTooLarge at) = refused_at (codes "expression too large") at

-- what a broken type rule is called
abbrev pub kind_name : TypeKind → List ℕ
kind_name kind.UnknownName = codes "unknown name"
kind_name kind.Redeclared = codes "redeclared"
kind_name kind.WrongType = codes "wrong type"
kind_name kind.NotLvalue = codes "not an lvalue"
kind_name kind.WrongCount = codes "wrong count"
kind_name kind.NoMain = codes "no main"
kind_name kind.MissingField = codes "missing field"
kind_name kind.RecursiveStruct = codes "recursive struct"
kind_name kind.TooLarge = codes "too large"
kind_name kind.Misplaced = codes "misplaced"

-- the start of what breaks the rule
abbrev pub type_report : TypeFault → List ℕ
type_report fault = refused_at (kind_name fault.kind) fault.span.from

abbrev pub source_report : SourceFault → List ℕ
source_report front.Memory = []
source_report (front.Lex fault) = lex_report fault
source_report (front.Parse fault) = parse_report fault
source_report (front.«Type» fault) = type_report fault

abbrev pub test_report : List ℕ → ℕ → List ℕ
test_report what test = codes "suite refused: " ++ (what ++ (codes " in test " ++ (decimal test ++ codes "\n")))

abbrev pub suite_report : SuiteFault → List ℕ
suite_report suite.Memory = []
suite_report suite.NotJson = codes "suite refused: not json\n"
suite_report (suite.BadShape test) = test_report (codes "bad shape") test
suite_report (suite.TooMany test) = test_report (codes "too many") test
suite_report (suite.OutOfInt test) = test_report (codes "out of int") test

abbrev pub option_report : List ℕ → List ℕ → List ℕ
option_report what option = codes "words refused: " ++ (what ++ (codes " " ++ (option ++ codes "\n")))

abbrev pub words_report : WordFault → List ℕ
words_report words.Memory = []
words_report words.NoCommand = codes "words refused: no command\n"
words_report words.UnknownCommand = codes "words refused: unknown command\n"
words_report words.Refused = codes "words refused: arguments\n"
words_report (words.BadNumber option) = option_report (codes "bad number") (string_bytes option)
words_report (words.OutOfRange option) = option_report (codes "out of range") (string_bytes option)
words_report (words.BadList option) = option_report (codes "bad list") (string_bytes option)
words_report words.Both = codes "words refused: pick beside top or formula\n"
words_report words.SameName = codes "words refused: same name\n"
