-- What the code answers, in the words of the parsers on lists; private contracts and those of readers cite this.
use Rattle.std.specs.Prelude.{ℕ, List, [], Option, Some, None}
use Rattle.ax_prog.specs.declared.tokens.Token.{Token}
use Rattle.ax_parse_grammar.specs.declared.terminals.Terminal.TheVariants as w
use Rattle.ax_parse_grammar.specs.declared.tree.Size.{Size}
use Rattle.ax_parse_grammar.specs.declared.tree.Base.{Base}
use Rattle.ax_parse_grammar.specs.declared.tree.Name.{Name}
use Rattle.ax_parse_grammar.specs.declared.tree.Param.{Param}
use Rattle.ax_parse_grammar.specs.declared.tree.Members.{Members}
use Rattle.ax_parse_grammar.specs.Reading.{Parser, ◌>>=◌, choose, extent_to, after, separated, repeated}
use Rattle.ax_parse_grammar.specs.ReadSources.{param, members, ends_members, param_of}

-- parameters with commas between them
abbrev pub listed_params : ℕ → Parser (List Param)
listed_params n ts = separated param n ts

-- the members of a struct, up to `}`
abbrev pub member_lists : ℕ → Parser (List Members)
member_lists n ts = repeated ends_members members n ts

-- the sizes of a parameter of the tokens ts
abbrev pub sized_by : Parser (List Size) → List Token → Base → ℕ → Option Name → Parser Param
sized_by sizes ts b n x us = sizes us >>= λ xs. Some (param_of (extent_to ts xs.1) b n x xs.0, xs.1)

-- `)` behind `void`
abbrev pub void_by : Parser (List Param)
void_by ts = choose (after w.CloseRound ts) None (λ rest. Some ([], rest))
