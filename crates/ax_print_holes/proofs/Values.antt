-- Values in expressions, simple statements and declarations, at their places.
use Rattle.std.proofs.Common.{◌≡◌, ℕ, ◌≤◌, List, [], ◌∷◌, ◌++◌, refl, sym, ◌∙◌, subst}
use Rattle.ax_prog.specs.declared.tokens.Token.{Token}
use Rattle.ax_parse_grammar.specs.declared.terminals.Terminal.TheVariants as w
use Rattle.ax_parse_grammar.specs.declared.tree.Expr.{Expr}
use Rattle.ax_parse_grammar.specs.declared.tree.Expr.TheVariants as e
use Rattle.ax_parse_grammar.specs.declared.tree.Expr.TheBlock.{shown-the_row-Expr-1, seen-the_row-Expr-1, shape-the_row-Expr-0, hidden-the_row-Expr-0, shape-the_row-Expr-1, hidden-the_row-Expr-1}
use Rattle.ax_parse_grammar.specs.declared.tree.Initialiser.TheVariants as init
use Rattle.ax_parse_grammar.specs.declared.tree.Declared.{Declared}
use Rattle.ax_parse_grammar.specs.declared.tree.Decl.{Decl}
use Rattle.ax_parse_grammar.specs.declared.tree.Simple.{Simple}
use Rattle.ax_parse_grammar.specs.declared.tree.Simple.TheVariants as act
use Rattle.ax_parse_grammar.specs.declared.tree.Opening.{Opening}
use Rattle.ax_parse_grammar.specs.Trees.{span_of}
use Rattle.ax_parse_grammar.specs.Terminals.{Is, extent}
use Rattle.ax_parse_grammar.specs.Expressions.{Spells, SpellArgs, SpellMany}
use Rattle.ax_parse_grammar.specs.Declarations.{SpellSeparated, SpellsDeclared, SpellsDecl}
use Rattle.ax_parse_grammar.specs.Statements.{SpellsSimple, SpellsOpening}
use Rattle.ax_print_holes.specs.Moved.{moved_span, moved_token, moved_expr, moved_base, moved_declarator, moved_declared}
use Rattle.ax_print_holes.specs.Holes.{HoldsArgument, HoldsInCall, HoldsValue, HoldsSimple, HoldsDeclared, Among, HoldsDecl, HoldsOpening, put_argument, put_in_call, put_value, put_simple, put_declared, put_among_declared, put_decl, put_opening}
use Rattle.ax_print_holes.proofs.Following.{told}
use Rattle.ax_print_holes.proofs.Expressions.{moved_spells, moved_many}
use Rattle.ax_print_holes.proofs.Declarations.{moved_separated, moved_spells_base, moved_spells_declarator, moved_spells_declared}
use Rattle.ax_print_holes.proofs.Finding.{At, refill, Found, within, also}
use Rattle.ax_print_holes.proofs.Looks.{InCall, look_in_call}
use denote.Hole.Carrier

-- an expression, as a whole
abbrev pub Numeral : (ℕ → ℕ) → Expr → List Token → Type 0
Numeral f new us = Spells 0 new us

-- ---- whole expressions

alone : (x : Expr) (ts : List Token) → Spells 0 x ts → extent ts ≡ span_of x → Found x Numeral ts
alone x ts p h = record { hole = ts; spelled = p; stands = h; at = At.here; filled = λ f new us zero s k. s }

pub found_whole : {x : Expr} {ts : List Token} → Spells 0 x ts → Found x Numeral ts
found_whole (Spells.name {x = x} t h) = alone (e.Name t.span x) (t ∷ []) (Spells.name t h) refl
found_whole (Spells.number {n = n} t h) = alone (e.Number t.span n) (t ∷ []) (Spells.number t h) refl
found_whole (Spells.parens {ts = ts} first last o c p) =
    let r = found_whole p in
    within (first ∷ (ts ++ last ∷ [])) r (At.in_right (first ∷ []) (At.in_left (last ∷ []) r.at)) (λ f new us zero h q. Spells.parens (moved_token f first) (moved_token f last) o c q)
found_whole (Spells.index {a = a} {i = i} {ts = ts} {us = us} first last le o c p q) =
    let whole = ts ++ first ∷ (us ++ last ∷ []) in alone (e.Index (extent whole) a i) whole (Spells.index first last le o c p q) refl
found_whole (Spells.member dot t le d n p) = alone _ _ (Spells.member dot t le d n p) refl
found_whole (Spells.arrow mark t le d n p) = alone _ _ (Spells.arrow mark t le d n p) refl
found_whole (Spells.call {f = g} {xs = xs} {ts = ts} {us = us} first last le o c p q) =
    let whole = ts ++ first ∷ (us ++ last ∷ []) in alone (e.Call (extent whole) g xs) whole (Spells.call first last le o c p q) refl
found_whole (Spells.unary t le o p) = alone _ _ (Spells.unary t le o p) refl
found_whole (Spells.binary t le o p q) = alone _ _ (Spells.binary t le o p q) refl
found_whole (Spells.cond question colon q k p r v) = alone _ _ (Spells.cond question colon q k p r v) refl

module _ {old : Expr} where
  -- an expression that is the old one
  pub found_same : {x : Expr} {ts : List Token} → x ≡ old → Spells 0 x ts → Found old Numeral ts
  found_same {ts = ts} same p = subst (λ (x : Expr). Found x Numeral ts) same (found_whole p)

  -- ---- arguments

  found_argument : {xs : List Expr} {ts : List Token} (h : HoldsArgument old xs) → SpellMany xs ts → Found old (λ f new us. SpellMany (put_argument f new h) us) ts
  found_argument HoldsArgument.this (SpellMany.one p) = also (found_whole p) (λ f new us q. SpellMany.one q)
  found_argument HoldsArgument.this (SpellMany.more {ts = ts} {us = us} comma c p q) =
      let r = found_whole p in
      within (ts ++ comma ∷ us) r (At.in_left (comma ∷ us) r.at) (λ f new vs zero h s. SpellMany.more (moved_token f comma) c s (moved_many f zero q))
  found_argument (HoldsArgument.later h) (SpellMany.one p) = elim h [ ]
  found_argument (HoldsArgument.later h) (SpellMany.more {ts = ts} {us = us} comma c p q) =
      let r = found_argument h q in
      within (ts ++ comma ∷ us) r (At.in_right ts (At.in_right (comma ∷ []) r.at)) (λ f new vs zero k s. SpellMany.more (moved_token f comma) c (moved_spells f zero p) s)

  found_arguments : {xs : List Expr} {ts : List Token} (h : HoldsArgument old xs) → SpellArgs xs ts → Found old (λ f new us. SpellArgs (put_argument f new h) us) ts
  found_arguments h SpellArgs.nothing = elim h [ ]
  found_arguments h (SpellArgs.some p) = also (found_argument h p) (λ f new us q. SpellArgs.some q)

  -- the arguments by another name
  renamed_arguments : (xs ys zs : List Expr) {ts : List Token} → ys ≡ xs → ys ≡ zs → (h : HoldsArgument old zs) → SpellArgs xs ts → Found old (λ f new us. SpellArgs (put_argument f new h) us) ts
  renamed_arguments xs ys zs {ts = ts} p q h d = found_arguments h (subst (λ (l : List Expr). SpellArgs l ts) (sym p ∙ q) d)

  -- ---- calls

  call_found : {l : ℕ} (made : (ℕ → ℕ) → Expr → Expr) (g : Expr) (xs : List Expr) (ts us : List Token) (first last : Token) → l ≤ 12 → Is w.OpenRound first → Is w.CloseRound last → Spells 12 g ts → SpellArgs xs us → InCall old made (e.Call (extent (ts ++ first ∷ (us ++ last ∷ []))) g xs) → Found old (λ f new vs. Spells l (made f new) vs) (ts ++ first ∷ (us ++ last ∷ []))
  unfolding shape-the_row-Expr-0 hidden-the_row-Expr-0 Carrier.hidden
  call_found {l = l} made g xs ts us first last le o c p q v =
      let r = renamed_arguments xs (shown-the_row-Expr-1 (shape-the_row-Expr-1 xs) (hidden-the_row-Expr-1 xs)) v.0 (seen-the_row-Expr-1 xs) v.1 v.2 q in
      let place = At.in_right ts (At.in_right (first ∷ []) (At.in_left (last ∷ []) r.at)) in
      within (ts ++ first ∷ (us ++ last ∷ [])) r place
      (λ f new vs zero k s. subst (λ (x : Expr). Spells l x (refill f vs place)) (sym (v.3 f new)) (told (λ at w. Spells l (e.Call at (moved_expr f g) (put_argument f new v.2)) w) f zero k (Spells.call (moved_token f first) (moved_token f last) le o c (moved_spells f zero p) s)))

  found_in_call : {l : ℕ} {a : Expr} {ts : List Token} → Spells l a ts → (h : HoldsInCall old a) → Found old (λ f new us. Spells l (put_in_call f new h) us) ts
  found_in_call (Spells.name t i) h = absurd (look_in_call old h)
  found_in_call (Spells.number t i) h = absurd (look_in_call old h)
  found_in_call (Spells.parens {ts = ts} first last o c p) h =
      let r = found_in_call p h in
      within (first ∷ (ts ++ last ∷ [])) r (At.in_right (first ∷ []) (At.in_left (last ∷ []) r.at)) (λ f new us zero k s. Spells.parens (moved_token f first) (moved_token f last) o c s)
  found_in_call (Spells.index first last le o c p q) h = absurd (look_in_call old h)
  found_in_call (Spells.member dot t le d n p) h = absurd (look_in_call old h)
  found_in_call (Spells.arrow mark t le d n p) h = absurd (look_in_call old h)
  found_in_call (Spells.call {f = g} {xs = xs} {ts = ts} {us = us} first last le o c p q) h = call_found (λ f new. put_in_call f new h) g xs ts us first last le o c p q (look_in_call old h)
  found_in_call (Spells.unary t le o p) h = absurd (look_in_call old h)
  found_in_call (Spells.binary t le o p q) h = absurd (look_in_call old h)
  found_in_call (Spells.cond question colon q k p r v) h = absurd (look_in_call old h)

  pub found_value : {a : Expr} {ts : List Token} (h : HoldsValue old a) → Spells 0 a ts → Found old (λ f new us. Spells 0 (put_value f new h) us) ts
  found_value HoldsValue.whole p = found_whole p
  found_value (HoldsValue.call h) p = found_in_call p h

  -- ---- simple statements

  call_made : (made : (ℕ → ℕ) → Expr → Expr) (g : Expr) (xs : List Expr) (ts us : List Token) (first last : Token) → Is w.OpenRound first → Is w.CloseRound last → Spells 12 g ts → SpellArgs xs us → InCall old made (e.Call (extent (ts ++ first ∷ (us ++ last ∷ []))) g xs) → Found old (λ f new vs. SpellsSimple (act.Call (moved_span f (extent (ts ++ first ∷ (us ++ last ∷ [])))) (made f new)) vs) (ts ++ first ∷ (us ++ last ∷ []))
  unfolding shape-the_row-Expr-0 hidden-the_row-Expr-0 Carrier.hidden
  call_made made g xs ts us first last o c p q v =
      let r = renamed_arguments xs (shown-the_row-Expr-1 (shape-the_row-Expr-1 xs) (hidden-the_row-Expr-1 xs)) v.0 (seen-the_row-Expr-1 xs) v.1 v.2 q in
      let whole = ts ++ first ∷ (us ++ last ∷ []) in
      let place = At.in_right ts (At.in_right (first ∷ []) (At.in_left (last ∷ []) r.at)) in
      within whole r place
      (λ f new vs zero k s. subst (λ (x : Expr). SpellsSimple (act.Call (moved_span f (extent whole)) x) (refill f vs place)) (sym (v.3 f new)) (told (λ at w. SpellsSimple (act.Call at (e.Call at (moved_expr f g) (put_argument f new v.2))) w) f zero k (SpellsSimple.call (moved_token f first) (moved_token f last) o c (moved_spells f zero p) s)))

  pub found_simple : {x : Simple} {ts : List Token} → SpellsSimple x ts → (h : HoldsSimple old x) → Found old (λ f new us. SpellsSimple (put_simple f new h) us) ts
  found_simple (SpellsSimple.assign {a = a} {ts = ts} {us = us} mark i p q) (HoldsSimple.assign h) =
      let r = found_value h q in
      within (ts ++ mark ∷ us) r (At.in_right ts (At.in_right (mark ∷ []) r.at))
      (λ f new vs zero k s. told (λ at w. SpellsSimple (act.Assign at (moved_expr f a) (put_value f new h)) w) f zero k (SpellsSimple.assign (moved_token f mark) i (moved_spells f zero p) s))
  found_simple (SpellsSimple.change {op = op} {a = a} {ts = ts} {us = us} mark i p q) HoldsSimple.change =
      let r = found_whole q in
      within (ts ++ mark ∷ us) r (At.in_right ts (At.in_right (mark ∷ []) r.at))
      (λ f new vs zero k s. told (λ at w. SpellsSimple (act.Change at (moved_expr f a) op new) w) f zero k (SpellsSimple.change (moved_token f mark) i (moved_spells f zero p) s))
  found_simple (SpellsSimple.behind mark i p) h = elim h [ ]
  found_simple (SpellsSimple.before mark i p) h = elim h [ ]
  found_simple (SpellsSimple.call {f = g} {xs = xs} {ts = ts} {us = us} first last o c p q) (HoldsSimple.call h) = call_made (λ f new. put_in_call f new h) g xs ts us first last o c p q (look_in_call old h)

  -- ---- declarations

  found_declared : {d : Declared} {ts : List Token} → SpellsDeclared d ts → (h : HoldsDeclared old d) → Found old (λ f new us. SpellsDeclared (put_declared f new h) us) ts
  found_declared (SpellsDeclared.plain p) h = elim h [ ]
  found_declared (SpellsDeclared.value {d = d} {ts = ts} {us = us} mark i p q) (HoldsDeclared.value h) =
      let r = found_value h q in
      within (ts ++ mark ∷ us) r (At.in_right ts (At.in_right (mark ∷ []) r.at))
      (λ f new vs zero k s. told (λ at w. SpellsDeclared (record { span = at; declarator = moved_declarator f d; initialiser = init.Value (put_value f new h) }) w) f zero k (SpellsDeclared.value (moved_token f mark) i (moved_spells_declarator f zero p) s))
  found_declared (SpellsDeclared.list mark first last i o c p q) h = elim h [ ]

  found_among_declared : {xs : List Declared} {ts : List Token} → SpellSeparated SpellsDeclared xs ts → (h : Among (HoldsDeclared old) xs) → Found old (λ f new us. SpellSeparated SpellsDeclared (put_among_declared f new h) us) ts
  found_among_declared (SpellSeparated.one p) (Among.this h) = also (found_declared p h) (λ f new us s. SpellSeparated.one s)
  found_among_declared (SpellSeparated.one p) (Among.later h) = elim h [ ]
  found_among_declared (SpellSeparated.more {ts = ts} {us = us} comma c p q) (Among.this h) =
      let r = found_declared p h in
      within (ts ++ comma ∷ us) r (At.in_left (comma ∷ us) r.at) (λ f new vs zero k s. SpellSeparated.more (moved_token f comma) c s (moved_separated f (moved_declared f) (λ x vs m. moved_spells_declared f zero m) q))
  found_among_declared (SpellSeparated.more {ts = ts} {us = us} comma c p q) (Among.later h) =
      let r = found_among_declared q h in
      within (ts ++ comma ∷ us) r (At.in_right ts (At.in_right (comma ∷ []) r.at)) (λ f new vs zero k s. SpellSeparated.more (moved_token f comma) c (moved_spells_declared f zero p) s)

  pub found_decl : {d : Decl} {ts : List Token} → SpellsDecl d ts → (h : HoldsDecl old d) → Found old (λ f new us. SpellsDecl (put_decl f new d h) us) ts
  found_decl (SpellsDecl.decl {base = base} {bs = bs} {ts = ts} last i p q) h =
      let r = found_among_declared q h in
      within (bs ++ (ts ++ last ∷ [])) r (At.in_right bs (At.in_left (last ∷ []) r.at))
      (λ f new vs zero k s. told (λ at w. SpellsDecl (record { span = at; base = moved_base f base; items = put_among_declared f new h }) w) f zero k (SpellsDecl.decl (moved_token f last) i (moved_spells_base f p) s))

  pub found_opening : {x : Opening} {ts : List Token} → SpellsOpening x ts → (h : HoldsOpening old x) → Found old (λ f new us. SpellsOpening (put_opening f new h) us) ts
  found_opening (SpellsOpening.nothing last i) h = elim h [ ]
  found_opening (SpellsOpening.simple {ts = ts} last i p) (HoldsOpening.simple h) =
      let r = found_simple p h in
      within (ts ++ last ∷ []) r (At.in_left (last ∷ []) r.at) (λ f new us zero k s. SpellsOpening.simple (moved_token f last) i s)
  found_opening (SpellsOpening.decl p) (HoldsOpening.decl h) = also (found_decl p h) (λ f new us s. SpellsOpening.decl s)
