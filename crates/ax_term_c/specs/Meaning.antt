-- What an int as terms means at values of the symbols, and what its terms are to a bank.
use Rattle.std.specs.Prelude.{ℤ, List, if◌then◌else◌, Option, Some, None}
use Rattle.ax_term.specs.Numbered.{Numbered}
use Rattle.ax_term.specs.Values.{Interpretation, word_under, flag_under}
use Rattle.ax_term.specs.Bank.{HasWord, HasFlag}
use Rattle.ax_term_c.specs.declared.Known.{Known}
use Rattle.ax_term_c.specs.Terms.{Trees}

-- the number, or None where it isn't defined
abbrev pub meaning : Interpretation → Trees → Option ℤ
meaning i t = if flag_under i t.defined then Some (word_under i t.value) else None

-- the bank has both terms
abbrev pub HasBoth : List Numbered → Known → Type 0
HasBoth ts k = HasWord ts k.value × HasFlag ts k.defined
