-- What the exits of the reader of heads answer.
use Rattle.std.proofs.Common.{◌≡◌, ℕ, List, Option, Some, None, refl}
use Rattle.ax_prog.specs.declared.tokens.Token.{Token}
use Rattle.ax_parse_grammar.specs.declared.terminals.Terminal.TheVariants as w
use Rattle.ax_parse_grammar.specs.declared.tree.Name.{Name}
use Rattle.ax_parse_grammar.specs.declared.tree.Returns.{Returns}
use Rattle.ax_parse_grammar.specs.Reading.{after, name}
use Rattle.ax_parse_grammar.specs.ReadDeclarations.{stars}
use Rattle.ax_parse_grammar.specs.ReadSources.{params, returned, head}

pub head_no_params : (n : ℕ) (ts us vs ws xs : List Token) (r : Returns) (k : ℕ) (x : Name) → returned ts ≡ Some (r, us) → stars us ≡ (k, vs) → name vs ≡ Some (x, ws) → after w.OpenRound ws ≡ Some xs → params n xs ≡ None → head n ts ≡ None
head_no_params n ts us vs ws xs r k x one two three four none = rw one (rw two (rw three (rw four (rw none refl))))
