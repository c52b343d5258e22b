-- Moved statements are spelled by their tokens moved alike.
use Rattle.std.proofs.Common.{◌≡◌, ℕ, Bool, true, false, List, [], ◌∷◌, ◌++◌, map, Option, refl, sym, ap, ◌∙◌, subst}
use Rattle.std.specs.Option.{option_map}
use Rattle.std.proofs.lemmas.List.{map-append}
use Rattle.ax_prog.specs.declared.tokens.Token.{Token}
use Rattle.ax_parse_grammar.specs.declared.terminals.Terminal.TheVariants as w
use Rattle.ax_parse_grammar.specs.declared.tree.Expr.{Expr}
use Rattle.ax_parse_grammar.specs.declared.tree.Expr.TheVariants as e
use Rattle.ax_parse_grammar.specs.declared.tree.Simple.{Simple}
use Rattle.ax_parse_grammar.specs.declared.tree.Simple.TheVariants as act
use Rattle.ax_parse_grammar.specs.declared.tree.Opening.{Opening}
use Rattle.ax_parse_grammar.specs.declared.tree.Opening.TheVariants as opening
use Rattle.ax_parse_grammar.specs.declared.tree.Stmt.{Stmt}
use Rattle.ax_parse_grammar.specs.declared.tree.Stmt.TheVariants as s
use Rattle.ax_parse_grammar.specs.Terminals.{extent}
use Rattle.ax_parse_grammar.specs.Statements.{SpellsSimple, SpellsOpening, SpellsMaybe, SpellsStmt, SpellItems}
use Rattle.ax_print_holes.specs.Moved.{moved_span, moved_token, moved_tokens, moved_expr, moved_decl, moved_simple, moved_opening, moved_stmt}
use Rattle.ax_print_holes.proofs.Following.{told_moved, moved_are}
use Rattle.ax_print_holes.proofs.Layers.{moved-Call, moved-Block, moved-If, moved-IfElse, moved-While, moved-Do, moved-For}
use Rattle.ax_print_holes.proofs.Expressions.{two_parts, three_parts, moved_spells, moved_arguments}
use Rattle.ax_print_holes.proofs.Declarations.{moved_spells_decl}

module _ (f : ℕ → ℕ) (zero : f 0 ≡ 0) where
  pub moved_spells_simple : {x : Simple} {ts : List Token} → SpellsSimple x ts → SpellsSimple (moved_simple f x) (moved_tokens f ts)
  moved_spells_simple (SpellsSimple.assign {a = a} {x = x} {ts = ts} {us = us} mark h p q) =
      told_moved (λ at w. SpellsSimple (act.Assign at (moved_expr f a) (moved_expr f x)) w) f (ts ++ mark ∷ us) (moved_tokens f ts ++ moved_token f mark ∷ moved_tokens f us) zero (two_parts f ts us mark)
      (SpellsSimple.assign (moved_token f mark) h (moved_spells f zero p) (moved_spells f zero q))
  moved_spells_simple (SpellsSimple.change {op = op} {a = a} {x = x} {ts = ts} {us = us} mark h p q) =
      told_moved (λ at w. SpellsSimple (act.Change at (moved_expr f a) op (moved_expr f x)) w) f (ts ++ mark ∷ us) (moved_tokens f ts ++ moved_token f mark ∷ moved_tokens f us) zero (two_parts f ts us mark)
      (SpellsSimple.change (moved_token f mark) h (moved_spells f zero p) (moved_spells f zero q))
  moved_spells_simple (SpellsSimple.behind {up = up} {a = a} {ts = ts} mark h p) =
      told_moved (λ at w. SpellsSimple (act.Step at (moved_expr f a) up) w) f (ts ++ mark ∷ []) (moved_tokens f ts ++ moved_token f mark ∷ []) zero (two_parts f ts [] mark)
      (SpellsSimple.behind (moved_token f mark) h (moved_spells f zero p))
  moved_spells_simple (SpellsSimple.before {up = up} {a = a} {ts = ts} mark h p) =
      told_moved (λ at w. SpellsSimple (act.Step at (moved_expr f a) up) w) f (mark ∷ ts) (moved_tokens f (mark ∷ ts)) zero refl
      (SpellsSimple.before (moved_token f mark) h (moved_spells f zero p))
  moved_spells_simple (SpellsSimple.call {f = g} {xs = xs} {ts = ts} {us = us} first last o c p q) =
      let whole = ts ++ first ∷ (us ++ last ∷ []) in
      subst (λ (x : Expr). SpellsSimple (act.Call (moved_span f (extent whole)) x) (moved_tokens f whole)) (sym (moved-Call f (extent whole) g xs))
      (told_moved (λ at w. SpellsSimple (act.Call at (e.Call at (moved_expr f g) (map (moved_expr f) xs))) w) f whole (moved_tokens f ts ++ moved_token f first ∷ (moved_tokens f us ++ moved_token f last ∷ [])) zero (three_parts f ts us [] first last)
      (SpellsSimple.call (moved_token f first) (moved_token f last) o c (moved_spells f zero p) (moved_arguments f zero q)))

  pub moved_spells_opening : {x : Opening} {ts : List Token} → SpellsOpening x ts → SpellsOpening (moved_opening f x) (moved_tokens f ts)
  moved_spells_opening (SpellsOpening.nothing last h) = SpellsOpening.nothing (moved_token f last) h
  moved_spells_opening (SpellsOpening.simple {x = x} {ts = ts} last h p) = subst (SpellsOpening (opening.Simple (moved_simple f x))) (sym (two_parts f ts [] last)) (SpellsOpening.simple {x = moved_simple f x} (moved_token f last) h (moved_spells_simple p))
  moved_spells_opening (SpellsOpening.decl p) = SpellsOpening.decl (moved_spells_decl f zero p)

  pub moved_maybe : {A : Type 0} {P : A → List Token → Type 0} (g : A → A) → ((x : A) (ts : List Token) → P x ts → P (g x) (moved_tokens f ts)) → {x : Option A} {ts : List Token} → SpellsMaybe P x ts → SpellsMaybe P (option_map g x) (moved_tokens f ts)
  moved_maybe g go SpellsMaybe.nothing = SpellsMaybe.nothing
  moved_maybe g go (SpellsMaybe.some {x = x} {ts = ts} p) = SpellsMaybe.some (go x ts p)

  -- what stands between the parentheses of a `for`, and its body
  pub for_parts : (os cs ss body : List Token) (middle last : Token) → moved_tokens f (os ++ (cs ++ middle ∷ (ss ++ last ∷ body))) ≡ moved_tokens f os ++ (moved_tokens f cs ++ moved_token f middle ∷ (moved_tokens f ss ++ moved_token f last ∷ moved_tokens f body))
  for_parts os cs ss body middle last = map-append (moved_token f) os (cs ++ middle ∷ (ss ++ last ∷ body)) ∙ ap (λ (l : List Token). moved_tokens f os ++ l) (three_parts f cs ss body middle last)

  mutual
    pub moved_spells_stmt : {g : Bool} {x : Stmt} {ts : List Token} → SpellsStmt g x ts → SpellsStmt g (moved_stmt f x) (moved_tokens f ts)
    moved_spells_stmt (SpellsStmt.empty t h) = SpellsStmt.empty (moved_token f t) h
    moved_spells_stmt (SpellsStmt.block {xs = xs} {ts = ts} first last o c p) =
        let whole = first ∷ (ts ++ last ∷ []) in
        subst (λ (x : Stmt). SpellsStmt false x (moved_tokens f whole)) (sym (moved-Block f (extent whole) xs))
        (told_moved (λ at w. SpellsStmt false (s.Block at (map (moved_stmt f) xs)) w) f whole (moved_token f first ∷ (moved_tokens f ts ++ moved_token f last ∷ [])) zero (ap (λ (l : List Token). moved_token f first ∷ l) (two_parts f ts [] last))
        (SpellsStmt.block (moved_token f first) (moved_token f last) o c (moved_items p)))
    moved_spells_stmt (SpellsStmt.simple {x = x} {ts = ts} last h p) =
        told_moved (λ at w. SpellsStmt false (s.Simple at (moved_simple f x)) w) f (ts ++ last ∷ []) (moved_tokens f ts ++ moved_token f last ∷ []) zero (two_parts f ts [] last)
        (SpellsStmt.simple (moved_token f last) h (moved_spells_simple p))
    moved_spells_stmt (SpellsStmt.lone_if {c = c} {x = x} {test = test} {body = body} t first last i o k p q) =
        let whole = t ∷ first ∷ (test ++ last ∷ body) in
        subst (λ (y : Stmt). SpellsStmt true y (moved_tokens f whole)) (sym (moved-If f (extent whole) c x))
        (told_moved (λ at w. SpellsStmt true (s.If at (moved_expr f c) (moved_stmt f x)) w) f whole (moved_token f t ∷ moved_token f first ∷ (moved_tokens f test ++ moved_token f last ∷ moved_tokens f body)) zero (ap (λ (l : List Token). moved_token f t ∷ moved_token f first ∷ l) (two_parts f test body last))
        (SpellsStmt.lone_if (moved_token f t) (moved_token f first) (moved_token f last) i o k (moved_spells f zero p) (moved_spells_stmt q)))
    moved_spells_stmt (SpellsStmt.if_else {f = g} {c = c} {x = x} {y = y} {test = test} {body = body} {other = other} t first last u i o k n p q r) =
        let whole = t ∷ first ∷ (test ++ last ∷ (body ++ u ∷ other)) in
        subst (λ (z : Stmt). SpellsStmt g z (moved_tokens f whole)) (sym (moved-IfElse f (extent whole) c x y))
        (told_moved (λ at w. SpellsStmt g (s.IfElse at (moved_expr f c) (moved_stmt f x) (moved_stmt f y)) w) f whole (moved_token f t ∷ moved_token f first ∷ (moved_tokens f test ++ moved_token f last ∷ (moved_tokens f body ++ moved_token f u ∷ moved_tokens f other))) zero (ap (λ (l : List Token). moved_token f t ∷ moved_token f first ∷ l) (three_parts f test body other last u))
        (SpellsStmt.if_else (moved_token f t) (moved_token f first) (moved_token f last) (moved_token f u) i o k n (moved_spells f zero p) (moved_spells_stmt q) (moved_spells_stmt r)))
    moved_spells_stmt (SpellsStmt.while {f = g} {c = c} {x = x} {test = test} {body = body} t first last i o k p q) =
        let whole = t ∷ first ∷ (test ++ last ∷ body) in
        subst (λ (y : Stmt). SpellsStmt g y (moved_tokens f whole)) (sym (moved-While f (extent whole) c x))
        (told_moved (λ at w. SpellsStmt g (s.While at (moved_expr f c) (moved_stmt f x)) w) f whole (moved_token f t ∷ moved_token f first ∷ (moved_tokens f test ++ moved_token f last ∷ moved_tokens f body)) zero (ap (λ (l : List Token). moved_token f t ∷ moved_token f first ∷ l) (two_parts f test body last))
        (SpellsStmt.while (moved_token f t) (moved_token f first) (moved_token f last) i o k (moved_spells f zero p) (moved_spells_stmt q)))
    moved_spells_stmt (SpellsStmt.do_while {c = c} {x = x} {body = body} {test = test} t u first last end i n o k z p q) =
        let whole = t ∷ (body ++ u ∷ first ∷ (test ++ last ∷ end ∷ [])) in
        let tail : moved_tokens f (first ∷ (test ++ last ∷ end ∷ [])) ≡ moved_token f first ∷ (moved_tokens f test ++ moved_token f last ∷ moved_token f end ∷ []) = ap (λ (l : List Token). moved_token f first ∷ l) (two_parts f test (end ∷ []) last) in
        subst (λ (y : Stmt). SpellsStmt false y (moved_tokens f whole)) (sym (moved-Do f (extent whole) x c))
        (told_moved (λ at w. SpellsStmt false (s.Do at (moved_stmt f x) (moved_expr f c)) w) f whole (moved_token f t ∷ (moved_tokens f body ++ moved_token f u ∷ moved_token f first ∷ (moved_tokens f test ++ moved_token f last ∷ moved_token f end ∷ []))) zero
        (ap (λ (l : List Token). moved_token f t ∷ l) (two_parts f body (first ∷ (test ++ last ∷ end ∷ [])) u ∙ ap (λ (l : List Token). moved_tokens f body ++ moved_token f u ∷ l) tail))
        (SpellsStmt.do_while (moved_token f t) (moved_token f u) (moved_token f first) (moved_token f last) (moved_token f end) i n o k z (moved_spells_stmt p) (moved_spells f zero q)))
    moved_spells_stmt (SpellsStmt.for {f = g} {o = o} {c = c} {step = step} {x = x} {os = os} {cs = cs} {ss = ss} {body = body} t first middle last i k m n p q r v) =
        let whole = t ∷ first ∷ (os ++ (cs ++ middle ∷ (ss ++ last ∷ body))) in
        subst (λ (y : Stmt). SpellsStmt g y (moved_tokens f whole)) (sym (moved-For f (extent whole) o c step x))
        (told_moved (λ at w. SpellsStmt g (s.For at (moved_opening f o) (option_map (moved_expr f) c) (option_map (moved_simple f) step) (moved_stmt f x)) w) f whole (moved_token f t ∷ moved_token f first ∷ (moved_tokens f os ++ (moved_tokens f cs ++ moved_token f middle ∷ (moved_tokens f ss ++ moved_token f last ∷ moved_tokens f body)))) zero
        (ap (λ (l : List Token). moved_token f t ∷ moved_token f first ∷ l) (for_parts os cs ss body middle last))
        (SpellsStmt.for (moved_token f t) (moved_token f first) (moved_token f middle) (moved_token f last) i k m n (moved_spells_opening p) (moved_maybe (moved_expr f) (λ y us h. moved_spells f zero h) q) (moved_maybe (moved_simple f) (λ y us h. moved_spells_simple h) r) (moved_spells_stmt v)))
    moved_spells_stmt (SpellsStmt.break t last h k) = SpellsStmt.break (moved_token f t) (moved_token f last) h k
    moved_spells_stmt (SpellsStmt.continue t last h k) = SpellsStmt.continue (moved_token f t) (moved_token f last) h k
    moved_spells_stmt (SpellsStmt.return {x = x} {ts = ts} t last h k p) =
        told_moved (λ at w. SpellsStmt false (s.Return at (option_map (moved_expr f) x)) w) f (t ∷ (ts ++ last ∷ [])) (moved_token f t ∷ (moved_tokens f ts ++ moved_token f last ∷ [])) zero (ap (λ (l : List Token). moved_token f t ∷ l) (two_parts f ts [] last))
        (SpellsStmt.return (moved_token f t) (moved_token f last) h k (moved_maybe (moved_expr f) (λ y us h. moved_spells f zero h) p))
    moved_spells_stmt (SpellsStmt.read {a = a} {ts = ts} t start end h k n p) =
        told_moved (λ at w. SpellsStmt false (s.Read at (moved_expr f a)) w) f (t ∷ (start ++ (ts ++ end))) (moved_token f t ∷ (moved_tokens f start ++ (moved_tokens f ts ++ moved_tokens f end))) zero
        (ap (λ (l : List Token). moved_token f t ∷ l) (map-append (moved_token f) start (ts ++ end) ∙ ap (λ (l : List Token). moved_tokens f start ++ l) (map-append (moved_token f) ts end)))
        (SpellsStmt.read (moved_token f t) (moved_tokens f start) (moved_tokens f end) h (moved_are f (w.OpenRound ∷ w.Format ∷ w.Comma ∷ w.Amp ∷ []) start k) (moved_are f (w.CloseRound ∷ w.Semicolon ∷ []) end n) (moved_spells f zero p))
    moved_spells_stmt (SpellsStmt.print {n = n} {a = a} {ts = ts} t first format comma end h k m c j p) =
        told_moved (λ at w. SpellsStmt false (s.Print at n (moved_expr f a)) w) f (t ∷ first ∷ format ∷ comma ∷ (ts ++ end)) (moved_token f t ∷ moved_token f first ∷ moved_token f format ∷ moved_token f comma ∷ (moved_tokens f ts ++ moved_tokens f end)) zero
        (ap (λ (l : List Token). moved_token f t ∷ moved_token f first ∷ moved_token f format ∷ moved_token f comma ∷ l) (map-append (moved_token f) ts end))
        (SpellsStmt.print (moved_token f t) (moved_token f first) (moved_token f format) (moved_token f comma) (moved_tokens f end) h k m c (moved_are f (w.CloseRound ∷ w.Semicolon ∷ []) end j) (moved_spells f zero p))

    pub moved_items : {xs : List Stmt} {ts : List Token} → SpellItems xs ts → SpellItems (map (moved_stmt f) xs) (moved_tokens f ts)
    moved_items SpellItems.none = SpellItems.none
    moved_items (SpellItems.decl_item {d = d} {xs = xs} {ts = ts} {us = us} p q) =
        subst (SpellItems (s.Decl (moved_decl f d) ∷ map (moved_stmt f) xs)) (sym (map-append (moved_token f) ts us)) (SpellItems.decl_item (moved_spells_decl f zero p) (moved_items q))
    moved_items (SpellItems.stmt_item {x = x} {xs = xs} {ts = ts} {us = us} p q) =
        subst (SpellItems (moved_stmt f x ∷ map (moved_stmt f) xs)) (sym (map-append (moved_token f) ts us)) (SpellItems.stmt_item (moved_spells_stmt p) (moved_items q))
