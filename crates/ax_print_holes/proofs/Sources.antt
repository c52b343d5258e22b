-- Moved sources are spelled by their tokens moved alike.
use Rattle.std.proofs.Common.{◌≡◌, ℕ, List, [], ◌∷◌, ◌++◌, map, Some, None, refl, ap, ◌∙◌}
use Rattle.std.proofs.lemmas.List.{map-append}
use Rattle.ax_prog.specs.declared.tokens.Token.{Token}
use Rattle.ax_parse_grammar.specs.declared.terminals.Terminal.TheVariants as w
use Rattle.ax_parse_grammar.specs.declared.tree.Returns.{Returns}
use Rattle.ax_parse_grammar.specs.declared.tree.Param.{Param}
use Rattle.ax_parse_grammar.specs.declared.tree.Head.{Head}
use Rattle.ax_parse_grammar.specs.declared.tree.Members.{Members}
use Rattle.ax_parse_grammar.specs.declared.tree.Part.{Part}
use Rattle.ax_parse_grammar.specs.declared.tree.Part.TheVariants as part
use Rattle.ax_parse_grammar.specs.declared.tree.Tree.{Tree}
use Rattle.ax_parse_grammar.specs.Terminals.{named}
use Rattle.ax_parse_grammar.specs.Sources.{SpellsParam, SpellParams, SpellsReturns, SpellsHead, SpellsMembers, SpellsPart, SpellsTree}
use Rattle.ax_print_holes.specs.Moved.{moved_token, moved_tokens, moved_base, moved_size, moved_declarator, moved_stmt, moved_returns, moved_param, moved_head, moved_members, moved_part, moved_tree}
use Rattle.ax_print_holes.proofs.Following.{told_moved, moved_are}
use Rattle.ax_print_holes.proofs.Expressions.{two_parts, three_parts}
use Rattle.ax_print_holes.proofs.Declarations.{moved_all, moved_separated, moved_spells_base, moved_stars, moved_sizes, moved_spells_declarator, moved_spells_decl}
use Rattle.ax_print_holes.proofs.Statements.{moved_items}

module _ (f : ℕ → ℕ) (zero : f 0 ≡ 0) where
  moved_spells_param : {x : Param} {ts : List Token} → SpellsParam x ts → SpellsParam (moved_param f x) (moved_tokens f ts)
  moved_spells_param (SpellsParam.with_name {base = base} {n = n} {x = x} {xs = xs} {bs = bs} {stars = stars} {ts = ts} t h p q r) =
      told_moved (λ at w. SpellsParam (record { span = at; base = moved_base f base; stars = n; name = Some (named (moved_token f t) x); sizes = map (moved_size f) xs }) w) f (bs ++ (stars ++ t ∷ ts)) (moved_tokens f bs ++ (moved_tokens f stars ++ moved_token f t ∷ moved_tokens f ts)) zero
      (map-append (moved_token f) bs (stars ++ t ∷ ts) ∙ ap (λ (l : List Token). moved_tokens f bs ++ l) (two_parts f stars ts t))
      (SpellsParam.with_name (moved_token f t) h (moved_spells_base f p) (moved_stars f q) (moved_sizes f r))
  moved_spells_param (SpellsParam.nameless {base = base} {n = n} {xs = xs} {bs = bs} {stars = stars} {ts = ts} p q r) =
      told_moved (λ at w. SpellsParam (record { span = at; base = moved_base f base; stars = n; name = None; sizes = map (moved_size f) xs }) w) f (bs ++ (stars ++ ts)) (moved_tokens f bs ++ (moved_tokens f stars ++ moved_tokens f ts)) zero
      (map-append (moved_token f) bs (stars ++ ts) ∙ ap (λ (l : List Token). moved_tokens f bs ++ l) (map-append (moved_token f) stars ts))
      (SpellsParam.nameless (moved_spells_base f p) (moved_stars f q) (moved_sizes f r))

  moved_params : {xs : List Param} {ts : List Token} → SpellParams xs ts → SpellParams (map (moved_param f) xs) (moved_tokens f ts)
  moved_params SpellParams.nothing = SpellParams.nothing
  moved_params (SpellParams.void t h) = SpellParams.void (moved_token f t) h
  moved_params (SpellParams.some p) = SpellParams.some (moved_separated f (moved_param f) (λ x us h. moved_spells_param h) p)

  moved_spells_returns : {x : Returns} {ts : List Token} → SpellsReturns x ts → SpellsReturns (moved_returns f x) (moved_tokens f ts)
  moved_spells_returns (SpellsReturns.void t h) = SpellsReturns.void (moved_token f t) h
  moved_spells_returns (SpellsReturns.base p) = SpellsReturns.base (moved_spells_base f p)

  pub moved_spells_head : {h : Head} {ts : List Token} → SpellsHead h ts → SpellsHead (moved_head f h) (moved_tokens f ts)
  moved_spells_head (SpellsHead.head {r = r} {n = n} {x = x} {xs = xs} {rs = rs} {stars = stars} {ts = ts} t first last h o c p q v) =
      let tail : moved_tokens f (first ∷ (ts ++ last ∷ [])) ≡ moved_token f first ∷ (moved_tokens f ts ++ moved_token f last ∷ []) = ap (λ (l : List Token). moved_token f first ∷ l) (two_parts f ts [] last) in
      told_moved (λ at w. SpellsHead (record { span = at; returns = moved_returns f r; stars = n; name = named (moved_token f t) x; params = map (moved_param f) xs }) w) f (rs ++ (stars ++ t ∷ first ∷ (ts ++ last ∷ []))) (moved_tokens f rs ++ (moved_tokens f stars ++ moved_token f t ∷ moved_token f first ∷ (moved_tokens f ts ++ moved_token f last ∷ []))) zero
      (map-append (moved_token f) rs (stars ++ t ∷ first ∷ (ts ++ last ∷ [])) ∙ ap (λ (l : List Token). moved_tokens f rs ++ l) (two_parts f stars (first ∷ (ts ++ last ∷ [])) t ∙ ap (λ (l : List Token). moved_tokens f stars ++ moved_token f t ∷ l) tail))
      (SpellsHead.head (moved_token f t) (moved_token f first) (moved_token f last) h o c (moved_spells_returns p) (moved_stars f q) (moved_params v))

  moved_spells_members : {x : Members} {ts : List Token} → SpellsMembers x ts → SpellsMembers (moved_members f x) (moved_tokens f ts)
  moved_spells_members (SpellsMembers.members {base = base} {xs = xs} {bs = bs} {ts = ts} last h p q) =
      told_moved (λ at w. SpellsMembers (record { span = at; base = moved_base f base; items = map (moved_declarator f) xs }) w) f (bs ++ (ts ++ last ∷ [])) (moved_tokens f bs ++ (moved_tokens f ts ++ moved_token f last ∷ [])) zero
      (map-append (moved_token f) bs (ts ++ last ∷ []) ∙ ap (λ (l : List Token). moved_tokens f bs ++ l) (two_parts f ts [] last))
      (SpellsMembers.members (moved_token f last) h (moved_spells_base f p) (moved_separated f (moved_declarator f) (λ x us k. moved_spells_declarator f zero k) q))

  pub moved_spells_part : {x : Part} {ts : List Token} → SpellsPart x ts → SpellsPart (moved_part f x) (moved_tokens f ts)
  moved_spells_part (SpellsPart.struct {x = x} {xs = xs} {ts = ts} s t first end h n o k p) =
      told_moved (λ at w. SpellsPart (part.Struct at (named (moved_token f t) x) (map (moved_members f) xs)) w) f (s ∷ t ∷ first ∷ (ts ++ end)) (moved_token f s ∷ moved_token f t ∷ moved_token f first ∷ (moved_tokens f ts ++ moved_tokens f end)) zero
      (ap (λ (l : List Token). moved_token f s ∷ moved_token f t ∷ moved_token f first ∷ l) (map-append (moved_token f) ts end))
      (SpellsPart.struct (moved_token f s) (moved_token f t) (moved_token f first) (moved_tokens f end) h n o (moved_are f (w.CloseCurly ∷ w.Semicolon ∷ []) end k) (moved_all f (moved_members f) (λ y us m. moved_spells_members m) p))
  moved_spells_part (SpellsPart.decl p) = SpellsPart.decl (moved_spells_decl f zero p)
  moved_spells_part (SpellsPart.function {h = h} {xs = xs} {hs = hs} {ts = ts} first last o c p q) =
      told_moved (λ at w. SpellsPart (part.Function at (moved_head f h) (map (moved_stmt f) xs)) w) f (hs ++ first ∷ (ts ++ last ∷ [])) (moved_tokens f hs ++ moved_token f first ∷ (moved_tokens f ts ++ moved_token f last ∷ [])) zero (three_parts f hs ts [] first last)
      (SpellsPart.function (moved_token f first) (moved_token f last) o c (moved_spells_head p) (moved_items f zero q))
  moved_spells_part (SpellsPart.prototype {h = h} {hs = hs} last k p) =
      told_moved (λ at w. SpellsPart (part.Prototype at (moved_head f h)) w) f (hs ++ last ∷ []) (moved_tokens f hs ++ moved_token f last ∷ []) zero (two_parts f hs [] last)
      (SpellsPart.prototype (moved_token f last) k (moved_spells_head p))

  pub moved_source : {tree : Tree} {ts : List Token} → SpellsTree tree ts → SpellsTree (moved_tree f tree) (moved_tokens f ts)
  moved_source (SpellsTree.tree {xs = xs} {ts = ts} p) =
      told_moved (λ at w. SpellsTree (record { span = at; parts = map (moved_part f) xs }) w) f ts (moved_tokens f ts) zero refl (SpellsTree.tree (moved_all f (moved_part f) (λ x us k. moved_spells_part k) p))
