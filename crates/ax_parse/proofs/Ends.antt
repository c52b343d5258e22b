-- What is left of a source behind a place, and what the end of reading says of it.
use Rattle.std.proofs.Common.{◌≡◌, ℕ, zero, suc, ◌+◌, ◌<◌, ◌≤◌, Bool, true, false, List, [], ◌∷◌, ◌++◌, Option, Some, None, Err, refl, sym, subst, ap, ◌∙◌, append-nil, arith, length, take, drop, get_or}
use Rattle.std.proofs.Common.{◌⊎◌, inl, inr}
use Rattle.std.proofs.lemmas.List.{take_more, drop_more, take-append-drop}
use Rattle.std.proofs.lemmas.Option.{none-some}
use Rattle.ax_prog.specs.declared.tokens.Token.{Token}
use Rattle.ax_parse_grammar.specs.declared.tree.Part.{Part}
use Rattle.ax_parse_grammar.specs.declared.tree.Tree.{Tree}
use Rattle.ax_parse_grammar.specs.Terminals.{extent}
use Rattle.ax_parse_grammar.specs.Sources.{SpellsTree}
use Rattle.ax_parse_grammar.specs.Reading.{◌>>=◌, repeated, Settles}
use Rattle.ax_parse_grammar.specs.ReadSources.{tree_of, ends_source, top, source}
use Rattle.ax_parse_grammar.proofs.Tools.{also_1, settles_one}
use Rattle.ax_parse_grammar.proofs.SourcesRead.{source_reads}
use Rattle.ax_parse.proofs.SourcesSound.{source_sound}
use Rattle.ax_parse_places.specs.Fronts.{BeginsNone, StopsAt}
use Rattle.ax_parse_expressions.specs.declared.faults.ReadFault.{ReadFault}
use Rattle.ax_parse_expressions.specs.declared.faults.ReadFault.TheVariants.{Memory, Syntax}
use Rattle.ax_parse.specs.Found.{GivesAll}

pub more_left : (ts : List Token) (at : ℕ) → at < length ts → ends_source (drop at ts) ≡ false
more_left [] at h = absurd (omega (arith, h))
more_left (t ∷ ts) zero h = refl
more_left (t ∷ ts) (suc at) h = more_left ts at (omega (arith, h))

pub none_left : (ts : List Token) (at : ℕ) → length ts ≤ at → drop at ts ≡ []
none_left [] zero h = refl
none_left [] (suc at) h = refl
none_left (t ∷ ts) zero h = absurd (omega (arith, h))
none_left (t ∷ ts) (suc at) h = none_left ts at (omega (arith, h))

-- all parts make a tree
pub spelled : (ts : List Token) (xs : List Part) (t : Tree) → Settles (λ n. repeated ends_source top n ts) (Some (xs, [])) → t ≡ tree_of (extent ts) xs → SpellsTree t ts
spelled ts xs t s is = rw is (source_sound s.0 ts xs (s.1 s.0 (omega arith)))

source_none : (n : ℕ) (ts : List Token) → repeated ends_source top n ts ≡ None → source n ts ≡ None
source_none n ts none = rw none refl

no_tree : (ts : List Token) → Settles (λ n. repeated ends_source top n ts) None → (t : Tree) → SpellsTree t ts → ⊥
no_tree ts s t h =
    let reads : Settles (λ n. source n ts) (Some (t, [])) = subst (λ (us : List Token). Settles (λ n. source n us) (Some (t, []))) (append-nil ts) (source_reads t ts h) in
    let fails : Settles (λ n. source n ts) None = also_1 (λ n. repeated ends_source top n ts) None (λ n. source n ts) None s (λ n none. source_none n ts none) in
    absurd (none-some (t, []) (settles_one (λ n. source n ts) None (Some (t, [])) fails reads))

pub unspelled : (ts : List Token) (d : ReadFault) → GivesAll {A = List Part} (Err d) (λ n. repeated ends_source top n ts) → (d ≡ Memory) ⊎ ((t : Tree) → SpellsTree t ts → ⊥)
unspelled ts Memory h = inl refl
unspelled ts (Syntax at) h = inr (no_tree ts h)

-- a source stops before a token with which, and with those before it, no source begins
pub stops_before : (ts : List Token) (n : ℕ) (d : Token) → n < length ts → BeginsNone (take (n + 1) ts) → StopsAt ts (get_or ts n d).span.from
stops_before ts n d below none =
    let split : ts ≡ take n ts ++ get_or ts n d ∷ drop (n + 1) ts = sym (take-append-drop n ts) ∙ ap (λ (l : List Token). take n ts ++ l) (drop_more ts n d below) in
    StopsAt.token (take n ts) (drop (n + 1) ts) (get_or ts n d) split (subst BeginsNone (take_more ts n d below) none)
