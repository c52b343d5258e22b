-- How a source may go on, token by token; private contracts alone cite this.
--
-- A stack holds the parts that are still to come, the next one first.
use Rattle.std.specs.Prelude.{ℕ, Bool, true, false, if◌then◌else◌, List, [], ◌∷◌, ◌++◌, reverse, Option, Some, None}
use Rattle.ax_prog.specs.declared.tokens.Kind.{Kind}
use Rattle.ax_prog.specs.declared.tokens.Kind.TheVariants as k
use Rattle.ax_parse_grammar.specs.declared.operators.Post.{Post}
use Rattle.ax_parse_grammar.specs.declared.operators.Post.TheVariants as post
use Rattle.ax_parse_grammar.specs.declared.starts.Start.{Start}
use Rattle.ax_parse_grammar.specs.declared.starts.Start.TheVariants as start
use Rattle.ax_parse_grammar.specs.declared.terminals.Terminal.{Terminal}
use Rattle.ax_parse_grammar.specs.declared.terminals.Terminal.TheVariants as w
use Rattle.ax_parse_grammar.specs.Operators.{binary_of, prefix_of, post_of, compound_of, step_of}
use Rattle.ax_parse_grammar.specs.Starts.{start_of}
use Rattle.ax_parse_grammar.specs.Terminals.{is}
use Rattle.ax_parse_grammar.specs.Reading.{choose}
use Rattle.ax_parse_places.specs.declared.symbols.Listing.{Listing}
use Rattle.ax_parse_places.specs.declared.symbols.Listing.TheVariants as of
use Rattle.ax_parse_places.specs.declared.symbols.Symbol.{Symbol}
use Rattle.ax_parse_places.specs.declared.symbols.Symbol.TheVariants as y

abbrev pub Stack : Type 0
Stack = List Symbol

-- ---- by one token: what is still to come of a part and behind it, where the token can be the part's first

abbrev pub on : Terminal → Kind → Option Stack → Option Stack → Option Stack
on what kind a b = if is what kind then a else b

-- where the first answers, so; else o
abbrev pub or_else : Option Stack → Option Stack → Option Stack
or_else None o = o
or_else (Some s) o = Some s

abbrev pub is_name : Kind → Bool
is_name (k.Name x) = true
is_name _ = false

abbrev pub is_number : Kind → Bool
is_number (k.Number n) = true
is_number _ = false

abbrev pub is_format : Kind → Bool
is_format (k.Format n) = true
is_format _ = false

abbrev pub name : Kind → Stack → Option Stack
name kind s = if is_name kind then Some s else None

-- ---- expressions

abbrev pub parens : Kind → Stack → Option Stack
parens kind s = on w.OpenRound kind (Some (y.Unary ∷ y.More ∷ y.Take w.CloseRound ∷ s)) None

abbrev pub primary : Kind → Stack → Option Stack
primary kind s = if is_name kind then Some s else (if is_number kind then Some s else parens kind s)

abbrev pub unary : Kind → Stack → Option Stack
unary kind s = choose (prefix_of kind) (primary kind (y.Posts ∷ s)) (λ op. Some (y.Unary ∷ s))

-- back is what comes behind the mark and its operand, and called what comes behind a call
abbrev pub post_by : Post → Symbol → Symbol → Stack → Stack
post_by post.Index back call s = y.Unary ∷ y.More ∷ y.Take w.CloseSquare ∷ back ∷ s
post_by post.Member back call s = y.Name ∷ back ∷ s
post_by post.Arrow back call s = y.Name ∷ back ∷ s
post_by post.Call back call s = y.Args ∷ call ∷ s

abbrev pub posts : Kind → Stack → Option Stack
posts kind s = choose (post_of kind) None (λ p. Some (post_by p y.Posts y.Posts s))

abbrev pub asks : Kind → Stack → Option Stack
asks kind s = on w.Question kind (Some (y.Unary ∷ y.More ∷ y.Take w.Colon ∷ y.Unary ∷ y.More ∷ s)) None

abbrev pub more : Kind → Stack → Option Stack
more kind s = choose (binary_of kind) (asks kind s) (λ op. Some (y.Unary ∷ y.More ∷ s))

abbrev pub args : Kind → Stack → Option Stack
args kind s = on w.CloseRound kind (Some s) (unary kind (y.More ∷ y.End of.Args ∷ s))

abbrev pub item_of : Listing → Stack
item_of of.Args = y.Unary ∷ y.More ∷ []
item_of of.Decl = y.Stars ∷ y.Name ∷ y.Named ∷ []
item_of of.Members = y.Stars ∷ y.Name ∷ y.Sizes ∷ []
item_of of.Params = y.Param ∷ []

abbrev pub closer : Listing → Terminal
closer of.Args = w.CloseRound
closer of.Decl = w.Semicolon
closer of.Members = w.Semicolon
closer of.Params = w.CloseRound

abbrev pub end : Listing → Kind → Stack → Option Stack
end which kind s = on w.Comma kind (Some (item_of which ++ y.End which ∷ s)) (on (closer which) kind (Some s) None)

-- ---- simple statements

abbrev pub plainly : Kind → Stack → Option Stack
plainly kind s = on w.Assign kind (Some (y.Unary ∷ y.More ∷ s)) None

abbrev pub assigned : Kind → Stack → Option Stack
assigned kind s = choose (compound_of kind) (plainly kind s) (λ op. Some (y.Unary ∷ y.More ∷ s))

abbrev pub behind : Kind → Stack → Option Stack
behind kind s = choose (step_of kind) (assigned kind s) (λ up. Some s)

abbrev pub plain : Kind → Stack → Option Stack
plain kind s = choose (post_of kind) (behind kind s) (λ p. Some (post_by p y.Plain y.Called s))

abbrev pub target : Kind → Stack → Option Stack
target kind s = choose (prefix_of kind) (primary kind (y.Plain ∷ s)) (λ op. Some (y.Unary ∷ y.Assigned ∷ s))

abbrev pub simple : Kind → Stack → Option Stack
simple kind s = choose (step_of kind) (target kind s) (λ up. Some (y.Unary ∷ s))

-- ---- declarations

-- a base, and what comes behind it
abbrev pub based : Kind → Stack → Option Stack
based kind s = on w.Int kind (Some s) (on w.Struct kind (Some (y.Name ∷ s)) None)

abbrev pub decl : Kind → Stack → Option Stack
decl kind s = based kind (y.Stars ∷ y.Name ∷ y.Named ∷ y.End of.Decl ∷ s)

abbrev pub stars : Kind → Stack → Option Stack
stars kind s = on w.Star kind (Some (y.Stars ∷ s)) None

abbrev pub rest : Kind → Stack → Option Stack
rest kind s = on w.Assign kind (Some (y.Init ∷ s)) None

abbrev pub named : Kind → Stack → Option Stack
named kind s = on w.OpenSquare kind (Some (y.Count ∷ s)) (rest kind s)

abbrev pub uncounted : Kind → Stack → Option Stack
uncounted kind s = on w.CloseSquare kind (Some (y.Sizes ∷ y.Take w.Assign ∷ y.Take w.OpenCurly ∷ y.Numbers ∷ s)) None

abbrev pub count : Kind → Stack → Option Stack
count kind s = if is_number kind then Some (y.Take w.CloseSquare ∷ y.Sizes ∷ y.Rest ∷ s) else uncounted kind s

abbrev pub sizes : Kind → Stack → Option Stack
sizes kind s = on w.OpenSquare kind (Some (y.Number ∷ y.Take w.CloseSquare ∷ y.Sizes ∷ s)) None

abbrev pub init : Kind → Stack → Option Stack
init kind s = on w.OpenCurly kind (Some (y.Numbers ∷ s)) (unary kind (y.More ∷ s))

abbrev pub negative : Kind → Stack → Option Stack
negative kind s = on w.Minus kind (Some (y.Number ∷ y.NumbersEnd ∷ s)) None

abbrev pub numbers : Kind → Stack → Option Stack
numbers kind s = if is_number kind then Some (y.NumbersEnd ∷ s) else negative kind s

abbrev pub numbers_end : Kind → Stack → Option Stack
numbers_end kind s = on w.Comma kind (Some (y.NumbersMore ∷ s)) (on w.CloseCurly kind (Some s) None)

abbrev pub numbers_more : Kind → Stack → Option Stack
numbers_more kind s = on w.CloseCurly kind (Some s) (numbers kind s)

-- ---- statements

abbrev pub test_of : Stack → Stack
test_of s = y.Take w.OpenRound ∷ y.Unary ∷ y.More ∷ y.Take w.CloseRound ∷ s

abbrev pub if_of : Stack → Stack
if_of s = test_of (y.Stmt ∷ y.Else ∷ s)

abbrev pub while_of : Stack → Stack
while_of s = test_of (y.Stmt ∷ s)

abbrev pub loop_of : Stack → Stack
loop_of s = y.Stmt ∷ y.Take w.While ∷ test_of (y.Take w.Semicolon ∷ s)

abbrev pub for_of : Stack → Stack
for_of s = y.Take w.OpenRound ∷ y.Opening ∷ y.Value ∷ y.Step ∷ y.Stmt ∷ s

abbrev pub read_of : Stack → Stack
read_of s = y.Take w.OpenRound ∷ y.Take w.Format ∷ y.Take w.Comma ∷ y.Take w.Amp ∷ y.Unary ∷ y.Take w.CloseRound ∷ y.Take w.Semicolon ∷ s

abbrev pub print_of : Stack → Stack
print_of s = y.Take w.OpenRound ∷ y.Format ∷ y.Take w.Comma ∷ y.Unary ∷ y.More ∷ y.Take w.CloseRound ∷ y.Take w.Semicolon ∷ s

abbrev pub simple_part : Kind → Stack → Option Stack
simple_part kind s = simple kind (y.Take w.Semicolon ∷ s)

abbrev pub stmt_by : Start → Kind → Stack → Option Stack
stmt_by start.Empty kind s = Some s
stmt_by start.Block kind s = Some (y.Items ∷ s)
stmt_by start.Decl kind s = None
stmt_by start.If kind s = Some (if_of s)
stmt_by start.While kind s = Some (while_of s)
stmt_by start.Do kind s = Some (loop_of s)
stmt_by start.For kind s = Some (for_of s)
stmt_by start.Break kind s = Some (y.Take w.Semicolon ∷ s)
stmt_by start.Continue kind s = Some (y.Take w.Semicolon ∷ s)
stmt_by start.Return kind s = Some (y.Value ∷ s)
stmt_by start.Read kind s = Some (read_of s)
stmt_by start.Print kind s = Some (print_of s)
stmt_by start.Simple kind s = simple_part kind s

abbrev pub stmt : Kind → Stack → Option Stack
stmt kind s = stmt_by (start_of kind) kind s

abbrev pub item_by : Start → Kind → Stack → Option Stack
item_by start.Decl kind s = decl kind (y.Items ∷ s)
item_by first kind s = stmt_by first kind (y.Items ∷ s)

abbrev pub items : Kind → Stack → Option Stack
items kind s = on w.CloseCurly kind (Some s) (item_by (start_of kind) kind s)

abbrev pub otherwise : Kind → Stack → Option Stack
otherwise kind s = on w.Else kind (Some (y.Stmt ∷ s)) None

abbrev pub value : Kind → Stack → Option Stack
value kind s = on w.Semicolon kind (Some s) (unary kind (y.More ∷ y.Take w.Semicolon ∷ s))

abbrev pub opening_by : Start → Kind → Stack → Option Stack
opening_by start.Decl kind s = decl kind s
opening_by _ kind s = simple_part kind s

abbrev pub opening : Kind → Stack → Option Stack
opening kind s = on w.Semicolon kind (Some s) (opening_by (start_of kind) kind s)

abbrev pub step_part : Kind → Stack → Option Stack
step_part kind s = on w.CloseRound kind (Some s) (simple kind (y.Take w.CloseRound ∷ s))

-- ---- sources

abbrev pub void_part : Kind → Stack → Option Stack
void_part kind s = on w.Void kind (Some (y.Stars ∷ y.Name ∷ y.Take w.OpenRound ∷ y.Params ∷ y.Body ∷ y.Parts ∷ s)) None

abbrev pub struct_part : Kind → Stack → Option Stack
struct_part kind s = on w.Struct kind (Some (y.Name ∷ y.TopStruct ∷ y.Parts ∷ s)) (void_part kind s)

abbrev pub parts : Kind → Stack → Option Stack
parts kind s = on w.Int kind (Some (y.Stars ∷ y.Name ∷ y.TopNamed ∷ y.Parts ∷ s)) (struct_part kind s)

abbrev pub top_unsized : Kind → Stack → Option Stack
top_unsized kind s = on w.Assign kind (Some (y.Init ∷ y.End of.Decl ∷ s)) (end of.Decl kind s)

abbrev pub top_plain : Kind → Stack → Option Stack
top_plain kind s = on w.OpenSquare kind (Some (y.Count ∷ y.End of.Decl ∷ s)) (top_unsized kind s)

abbrev pub top_named : Kind → Stack → Option Stack
top_named kind s = on w.OpenRound kind (Some (y.Params ∷ y.Body ∷ s)) (top_plain kind s)

abbrev pub top_name : Kind → Stack → Option Stack
top_name kind s = name kind (y.TopNamed ∷ s)

abbrev pub top_first : Kind → Stack → Option Stack
top_first kind s = on w.Star kind (Some (y.Stars ∷ y.Name ∷ y.TopNamed ∷ s)) (top_name kind s)

abbrev pub top_struct : Kind → Stack → Option Stack
top_struct kind s = on w.OpenCurly kind (Some (y.Members ∷ s)) (top_first kind s)

abbrev pub members : Kind → Stack → Option Stack
members kind s = on w.CloseCurly kind (Some (y.Take w.Semicolon ∷ s)) (based kind (y.Stars ∷ y.Name ∷ y.Sizes ∷ y.End of.Members ∷ y.Members ∷ s))

abbrev pub param : Kind → Stack → Option Stack
param kind s = based kind (y.Stars ∷ y.ParamName ∷ y.FirstSize ∷ s)

abbrev pub void_params : Kind → Stack → Option Stack
void_params kind s = on w.Void kind (Some (y.Take w.CloseRound ∷ s)) (param kind (y.End of.Params ∷ s))

abbrev pub params : Kind → Stack → Option Stack
params kind s = on w.CloseRound kind (Some s) (void_params kind s)

abbrev pub first_size : Kind → Stack → Option Stack
first_size kind s = on w.OpenSquare kind (Some (y.ParamCount ∷ s)) None

abbrev pub param_uncounted : Kind → Stack → Option Stack
param_uncounted kind s = on w.CloseSquare kind (Some (y.Sizes ∷ s)) None

abbrev pub param_count : Kind → Stack → Option Stack
param_count kind s = if is_number kind then Some (y.Take w.CloseSquare ∷ y.Sizes ∷ s) else param_uncounted kind s

abbrev pub opened : Kind → Stack → Option Stack
opened kind s = on w.OpenCurly kind (Some (y.Items ∷ s)) None

abbrev pub body : Kind → Stack → Option Stack
body kind s = on w.Semicolon kind (Some s) (opened kind s)

-- ---- the first part of a stack

abbrev pub turn : Symbol → Kind → Stack → Option Stack
turn (y.Take what) kind s = on what kind (Some s) None
turn y.Name kind s = name kind s
turn y.Number kind s = if is_number kind then Some s else None
turn y.Format kind s = if is_format kind then Some s else None
turn y.Unary kind s = unary kind s
turn y.Posts kind s = posts kind s
turn y.More kind s = more kind s
turn y.Args kind s = args kind s
turn (y.End which) kind s = end which kind s
turn y.Simple kind s = simple kind s
turn y.Plain kind s = plain kind s
turn y.Called kind s = plain kind s
turn y.Assigned kind s = assigned kind s
turn y.Decl kind s = decl kind s
turn y.Stars kind s = stars kind s
turn y.Named kind s = named kind s
turn y.Count kind s = count kind s
turn y.Sizes kind s = sizes kind s
turn y.Rest kind s = rest kind s
turn y.Init kind s = init kind s
turn y.Numbers kind s = numbers kind s
turn y.NumbersEnd kind s = numbers_end kind s
turn y.NumbersMore kind s = numbers_more kind s
turn y.Stmt kind s = stmt kind s
turn y.Items kind s = items kind s
turn y.Else kind s = otherwise kind s
turn y.Value kind s = value kind s
turn y.Opening kind s = opening kind s
turn y.Step kind s = step_part kind s
turn y.Parts kind s = parts kind s
turn y.TopNamed kind s = top_named kind s
turn y.TopStruct kind s = top_struct kind s
turn y.Members kind s = members kind s
turn y.Params kind s = params kind s
turn y.Param kind s = param kind s
turn y.ParamName kind s = name kind s
turn y.FirstSize kind s = first_size kind s
turn y.ParamCount kind s = param_count kind s
turn y.Body kind s = body kind s

abbrev pub may_skip : Symbol → Bool
may_skip y.Posts = true
may_skip y.More = true
may_skip y.Called = true
may_skip y.Stars = true
may_skip y.Named = true
may_skip y.Sizes = true
may_skip y.Rest = true
may_skip y.Else = true
may_skip y.ParamName = true
may_skip y.FirstSize = true
may_skip _ = false

-- what is still to come behind one more token
abbrev pub step : Stack → Kind → Option Stack
step [] kind = None
step (x ∷ s) kind = or_else (turn x kind s) (if may_skip x then step s kind else None)

-- ---- what the code answers: whether the token was taken, and the stack, whose first part stands last

abbrev pub moved : Bool → List Symbol → Option Stack
moved true s = Some (reverse s)
moved false s = None
