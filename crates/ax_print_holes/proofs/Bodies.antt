-- Statements, the items of blocks, and sources, with an expression at its place.
use Rattle.std.proofs.Common.{◌≡◌, inl, inr, ℕ, Bool, false, true, List, [], ◌∷◌, ◌++◌, map, Option, Some, refl, sym, ap, ◌∙◌, subst}
use Rattle.std.specs.Option.{option_map}
use Rattle.ax_prog.specs.declared.tokens.Kind.TheVariants as k
use Rattle.ax_prog.specs.declared.tokens.Token.{Token}
use Rattle.ax_parse_grammar.specs.declared.terminals.Terminal.TheVariants as w
use Rattle.ax_parse_grammar.specs.declared.tree.Expr.{Expr}
use Rattle.ax_parse_grammar.specs.declared.tree.Simple.{Simple}
use Rattle.ax_parse_grammar.specs.declared.tree.Opening.{Opening}
use Rattle.ax_parse_grammar.specs.declared.tree.Stmt.{Stmt}
use Rattle.ax_parse_grammar.specs.declared.tree.Stmt.TheVariants as s
use Rattle.ax_parse_grammar.specs.declared.tree.Stmt.TheBlock.{seen-the_row-Stmt-0, shape-the_row-Stmt-1, hidden-the_row-Stmt-1}
use Rattle.ax_parse_grammar.specs.declared.tree.Part.{Part}
use Rattle.ax_parse_grammar.specs.declared.tree.Part.TheVariants as part
use Rattle.ax_parse_grammar.specs.declared.tree.Tree.{Tree}
use Rattle.ax_parse_grammar.specs.Terminals.{Is, Are, extent}
use Rattle.ax_parse_grammar.specs.Expressions.{Spells}
use Rattle.ax_parse_grammar.specs.Declarations.{SpellAll}
use Rattle.ax_parse_grammar.specs.Statements.{SpellsSimple, SpellsOpening, SpellsMaybe, SpellsStmt, SpellItems}
use Rattle.ax_parse_grammar.specs.Sources.{SpellsPart, SpellsTree}
use Rattle.ax_print_holes.specs.Moved.{moved_span, moved_token, moved_tokens, moved_expr, moved_simple, moved_opening, moved_stmt, moved_head, moved_part}
use Rattle.ax_print_holes.specs.Holes.{HoldsStmt, HoldsItem, HoldsPart, Among, Holds, put_value, put_simple, put_opening, put_stmt, put_item, put_part, put_among_parts, put}
use Rattle.ax_print_holes.specs.Places.{IsRespelled}
use Rattle.ax_print_holes.proofs.Following.{told, told_as, moved_are}
use Rattle.ax_print_holes.proofs.Expressions.{two_parts, three_parts, moved_spells}
use Rattle.ax_print_holes.proofs.Declarations.{moved_all, moved_spells_decl}
use Rattle.ax_print_holes.proofs.Statements.{moved_spells_simple, moved_spells_opening, moved_maybe, moved_spells_stmt, moved_items}
use Rattle.ax_print_holes.proofs.Sources.{moved_spells_head, moved_spells_part}
use Rattle.ax_print_holes.proofs.Finding.{At, refill, Found, within, cut, follows_spelled}
use Rattle.ax_print_holes.proofs.Looks.{Made, Looks, look}
use Rattle.ax_print_holes.proofs.Values.{found_whole, found_same, found_value, found_simple, found_decl, found_opening}
use denote.Hole.Carrier

-- what isn't left out
held : {A : Type 0} {P : A → List Token → Type 0} {x : A} {ts : List Token} → SpellsMaybe P (Some x) ts → P x ts
held (SpellsMaybe.some p) = p

given : {A : Type 0} (P : A → List Token → Type 0) {o : Option A} {x : A} {ts : List Token} → o ≡ Some x → SpellsMaybe P o ts → P x ts
given P {ts = ts} same p = held (subst (λ o. SpellsMaybe P o ts) same p)

-- another name for what is spelled
renamed : (g : Bool) {x y : Stmt} {ts : List Token} → x ≡ y → SpellsStmt g y ts → SpellsStmt g x ts
renamed g {ts = ts} same p = subst (λ (z : Stmt). SpellsStmt g z ts) (sym same) p

renamed_items : {xs ys : List Stmt} {ts : List Token} → xs ≡ ys → SpellItems ys ts → SpellItems xs ts
renamed_items {ts = ts} same p = subst (λ (l : List Stmt). SpellItems l ts) (sym same) p

abbrev head_or : Stmt → List Stmt → Stmt
head_or d [] = d
head_or d (x ∷ xs) = x

abbrev behind_first : List Stmt → List Stmt
behind_first [] = []
behind_first (x ∷ xs) = xs

heads : {x y : Stmt} {xs ys : List Stmt} → x ∷ xs ≡ y ∷ ys → x ≡ y
heads {x = x} same = ap (head_or x) same

tails : {x y : Stmt} {xs ys : List Stmt} → x ∷ xs ≡ y ∷ ys → xs ≡ ys
tails same = ap behind_first same

module _ (old : Expr) where
  abbrev FoundStmt : Made old → Bool → List Token → Type 0
  FoundStmt made g ts = Found old (λ f new us. SpellsStmt g (made f new) us) ts

  looked : {x y : Stmt} → y ≡ x → (h : HoldsStmt old y) → Looks old (λ f new. put_stmt f new h) x
  looked same h = subst (Looks old (λ f new. put_stmt f new h)) same (look old h)

  no_items : HoldsItem old [] → ⊥
  no_items h = elim h [ ]

  -- ---- each statement, by its parts

  block_found : (made : Made old) (xs : List Stmt) (ts : List Token) (first last : Token) → Is w.OpenCurly first → Is w.CloseCurly last → Looks old made (s.Block (extent (first ∷ (ts ++ last ∷ []))) xs)
      → ((ys : List Stmt) → ys ≡ xs → (h : HoldsItem old ys) → Found old (λ f new us. SpellItems (put_item f new h) us) ts)
      → FoundStmt made false (first ∷ (ts ++ last ∷ []))
  block_found made xs ts first last o c v items =
      let r = items v.0 (sym v.1 ∙ seen-the_row-Stmt-0 xs) v.2 in
      within (first ∷ (ts ++ last ∷ [])) r (At.in_right (first ∷ []) (At.in_left (last ∷ []) r.at))
      (λ f new us zero j q. renamed false (v.3 f new) (told (λ at l. SpellsStmt false (s.Block at (put_item f new v.2)) l) f zero j (SpellsStmt.block (moved_token f first) (moved_token f last) o c q)))

  if_found : (made : Made old) (g : Bool) (c : Expr) (x : Stmt) (test body : List Token) (t first last : Token) → Is w.If t → Is w.OpenRound first → Is w.CloseRound last → Spells 0 c test → SpellsStmt g x body → Looks old made (s.If (extent (t ∷ first ∷ (test ++ last ∷ body))) c x)
      → ((h : HoldsStmt old x) → FoundStmt (λ f new. put_stmt f new h) g body)
      → FoundStmt made true (t ∷ first ∷ (test ++ last ∷ body))
  unfolding shape-the_row-Stmt-1 hidden-the_row-Stmt-1 Carrier.hidden
  if_found made g c x test body t first last i o n p d (inl v) inner =
      let r = found_same v.0 p in
      within (t ∷ first ∷ (test ++ last ∷ body)) r (At.in_right (t ∷ first ∷ []) (At.in_left (last ∷ body) r.at))
      (λ f new us zero j q. renamed true (v.1 f new) (told (λ at l. SpellsStmt true (s.If at new (moved_stmt f x)) l) f zero j (SpellsStmt.lone_if (moved_token f t) (moved_token f first) (moved_token f last) i o n q (moved_spells_stmt f zero d))))
  if_found made g c x test body t first last i o n p d (inr v) inner =
      let r = inner v.0 in
      within (t ∷ first ∷ (test ++ last ∷ body)) r (At.in_right (t ∷ first ∷ []) (At.in_right test (At.in_right (last ∷ []) r.at)))
      (λ f new us zero j q. renamed true (v.1 f new) (told (λ at l. SpellsStmt true (s.If at (moved_expr f c) (put_stmt f new v.0)) l) f zero j (SpellsStmt.lone_if (moved_token f t) (moved_token f first) (moved_token f last) i o n (moved_spells f zero p) q)))

  else_found : (made : Made old) (g : Bool) (c : Expr) (x y : Stmt) (test body other : List Token) (t first last u : Token) → Is w.If t → Is w.OpenRound first → Is w.CloseRound last → Is w.Else u → Spells 0 c test → SpellsStmt false x body → SpellsStmt g y other → Looks old made (s.IfElse (extent (t ∷ first ∷ (test ++ last ∷ (body ++ u ∷ other)))) c x y)
      → ((h : HoldsStmt old x) → FoundStmt (λ f new. put_stmt f new h) false body)
      → ((h : HoldsStmt old y) → FoundStmt (λ f new. put_stmt f new h) g other)
      → FoundStmt made g (t ∷ first ∷ (test ++ last ∷ (body ++ u ∷ other)))
  unfolding shape-the_row-Stmt-1 hidden-the_row-Stmt-1 Carrier.hidden
  else_found made g c x y test body other t first last u i o n m p d b (inl v) inner more =
      let r = found_same v.0 p in
      within (t ∷ first ∷ (test ++ last ∷ (body ++ u ∷ other))) r (At.in_right (t ∷ first ∷ []) (At.in_left (last ∷ (body ++ u ∷ other)) r.at))
      (λ f new us zero j q. renamed g (v.1 f new) (told_as (λ at l. SpellsStmt g (s.IfElse at new (moved_stmt f x) (moved_stmt f y)) l) f (moved_token f t ∷ moved_token f first ∷ (refill f us r.at ++ moved_token f last ∷ (moved_tokens f body ++ moved_token f u ∷ moved_tokens f other))) zero j
      (ap (λ (l : List Token). moved_token f t ∷ moved_token f first ∷ (refill f us r.at ++ moved_token f last ∷ l)) (sym (two_parts f body other u)))
      (SpellsStmt.if_else (moved_token f t) (moved_token f first) (moved_token f last) (moved_token f u) i o n m q (moved_spells_stmt f zero d) (moved_spells_stmt f zero b))))
  else_found made g c x y test body other t first last u i o n m p d b (inr (inl v)) inner more =
      let r = inner v.0 in
      within (t ∷ first ∷ (test ++ last ∷ (body ++ u ∷ other))) r (At.in_right (t ∷ first ∷ []) (At.in_right test (At.in_right (last ∷ []) (At.in_left (u ∷ other) r.at))))
      (λ f new us zero j q. renamed g (v.1 f new) (told (λ at l. SpellsStmt g (s.IfElse at (moved_expr f c) (put_stmt f new v.0) (moved_stmt f y)) l) f zero j (SpellsStmt.if_else (moved_token f t) (moved_token f first) (moved_token f last) (moved_token f u) i o n m (moved_spells f zero p) q (moved_spells_stmt f zero b))))
  else_found made g c x y test body other t first last u i o n m p d b (inr (inr v)) inner more =
      let r = more v.0 in
      within (t ∷ first ∷ (test ++ last ∷ (body ++ u ∷ other))) r (At.in_right (t ∷ first ∷ []) (At.in_right test (At.in_right (last ∷ []) (At.in_right body (At.in_right (u ∷ []) r.at)))))
      (λ f new us zero j q. renamed g (v.1 f new) (told (λ at l. SpellsStmt g (s.IfElse at (moved_expr f c) (moved_stmt f x) (put_stmt f new v.0)) l) f zero j (SpellsStmt.if_else (moved_token f t) (moved_token f first) (moved_token f last) (moved_token f u) i o n m (moved_spells f zero p) (moved_spells_stmt f zero d) q)))

  while_found : (made : Made old) (g : Bool) (c : Expr) (x : Stmt) (test body : List Token) (t first last : Token) → Is w.While t → Is w.OpenRound first → Is w.CloseRound last → Spells 0 c test → SpellsStmt g x body → Looks old made (s.While (extent (t ∷ first ∷ (test ++ last ∷ body))) c x)
      → ((h : HoldsStmt old x) → FoundStmt (λ f new. put_stmt f new h) g body)
      → FoundStmt made g (t ∷ first ∷ (test ++ last ∷ body))
  unfolding shape-the_row-Stmt-1 hidden-the_row-Stmt-1 Carrier.hidden
  while_found made g c x test body t first last i o n p d (inl v) inner =
      let r = found_same v.0 p in
      within (t ∷ first ∷ (test ++ last ∷ body)) r (At.in_right (t ∷ first ∷ []) (At.in_left (last ∷ body) r.at))
      (λ f new us zero j q. renamed g (v.1 f new) (told (λ at l. SpellsStmt g (s.While at new (moved_stmt f x)) l) f zero j (SpellsStmt.while (moved_token f t) (moved_token f first) (moved_token f last) i o n q (moved_spells_stmt f zero d))))
  while_found made g c x test body t first last i o n p d (inr v) inner =
      let r = inner v.0 in
      within (t ∷ first ∷ (test ++ last ∷ body)) r (At.in_right (t ∷ first ∷ []) (At.in_right test (At.in_right (last ∷ []) r.at)))
      (λ f new us zero j q. renamed g (v.1 f new) (told (λ at l. SpellsStmt g (s.While at (moved_expr f c) (put_stmt f new v.0)) l) f zero j (SpellsStmt.while (moved_token f t) (moved_token f first) (moved_token f last) i o n (moved_spells f zero p) q)))

  do_found : (made : Made old) (g : Bool) (c : Expr) (x : Stmt) (body test : List Token) (t u first last end : Token) → Is w.Do t → Is w.While u → Is w.OpenRound first → Is w.CloseRound last → Is w.Semicolon end → SpellsStmt g x body → Spells 0 c test → Looks old made (s.Do (extent (t ∷ (body ++ u ∷ first ∷ (test ++ last ∷ end ∷ [])))) x c)
      → ((h : HoldsStmt old x) → FoundStmt (λ f new. put_stmt f new h) g body)
      → FoundStmt made false (t ∷ (body ++ u ∷ first ∷ (test ++ last ∷ end ∷ [])))
  unfolding shape-the_row-Stmt-1 hidden-the_row-Stmt-1 Carrier.hidden
  do_found made g c x body test t u first last end i m o n z d p (inl v) inner =
      let r = inner v.0 in
      within (t ∷ (body ++ u ∷ first ∷ (test ++ last ∷ end ∷ []))) r (At.in_right (t ∷ []) (At.in_left (u ∷ first ∷ (test ++ last ∷ end ∷ [])) r.at))
      (λ f new us zero j q. renamed false (v.1 f new) (told_as (λ at l. SpellsStmt false (s.Do at (put_stmt f new v.0) (moved_expr f c)) l) f (moved_token f t ∷ (refill f us r.at ++ moved_token f u ∷ moved_token f first ∷ (moved_tokens f test ++ moved_token f last ∷ moved_token f end ∷ []))) zero j
      (ap (λ (l : List Token). moved_token f t ∷ (refill f us r.at ++ moved_token f u ∷ moved_token f first ∷ l)) (sym (two_parts f test (end ∷ []) last)))
      (SpellsStmt.do_while (moved_token f t) (moved_token f u) (moved_token f first) (moved_token f last) (moved_token f end) i m o n z q (moved_spells f zero p))))
  do_found made g c x body test t u first last end i m o n z d p (inr v) inner =
      let r = found_same v.0 p in
      within (t ∷ (body ++ u ∷ first ∷ (test ++ last ∷ end ∷ []))) r (At.in_right (t ∷ []) (At.in_right body (At.in_right (u ∷ first ∷ []) (At.in_left (last ∷ end ∷ []) r.at))))
      (λ f new us zero j q. renamed false (v.1 f new) (told (λ at l. SpellsStmt false (s.Do at (moved_stmt f x) new) l) f zero j (SpellsStmt.do_while (moved_token f t) (moved_token f u) (moved_token f first) (moved_token f last) (moved_token f end) i m o n z (moved_spells_stmt f zero d) q)))

  for_found : (made : Made old) (g : Bool) (b : Opening) (c : Option Expr) (step : Option Simple) (x : Stmt) (os cs ss body : List Token) (t first middle last : Token) → Is w.For t → Is w.OpenRound first → Is w.Semicolon middle → Is w.CloseRound last → SpellsOpening b os → SpellsMaybe (Spells 0) c cs → SpellsMaybe SpellsSimple step ss → SpellsStmt g x body → Looks old made (s.For (extent (t ∷ first ∷ (os ++ (cs ++ middle ∷ (ss ++ last ∷ body))))) b c step x)
      → ((h : HoldsStmt old x) → FoundStmt (λ f new. put_stmt f new h) g body)
      → FoundStmt made g (t ∷ first ∷ (os ++ (cs ++ middle ∷ (ss ++ last ∷ body))))
  unfolding shape-the_row-Stmt-1 hidden-the_row-Stmt-1 Carrier.hidden
  for_found made g b c step x os cs ss body t first middle last i o m n p q a d (inl v) inner =
      let r = found_opening p v.0 in
      within (t ∷ first ∷ (os ++ (cs ++ middle ∷ (ss ++ last ∷ body)))) r (At.in_right (t ∷ first ∷ []) (At.in_left (cs ++ middle ∷ (ss ++ last ∷ body)) r.at))
      (λ f new us zero j z. renamed g (v.1 f new) (told_as (λ at l. SpellsStmt g (s.For at (put_opening f new v.0) (option_map (moved_expr f) c) (option_map (moved_simple f) step) (moved_stmt f x)) l) f (moved_token f t ∷ moved_token f first ∷ (refill f us r.at ++ (moved_tokens f cs ++ moved_token f middle ∷ (moved_tokens f ss ++ moved_token f last ∷ moved_tokens f body)))) zero j
      (ap (λ (l : List Token). moved_token f t ∷ moved_token f first ∷ (refill f us r.at ++ l)) (sym (three_parts f cs ss body middle last)))
      (SpellsStmt.for (moved_token f t) (moved_token f first) (moved_token f middle) (moved_token f last) i o m n z (moved_maybe f zero (moved_expr f) (λ y l h. moved_spells f zero h) q) (moved_maybe f zero (moved_simple f) (λ y l h. moved_spells_simple f zero h) a) (moved_spells_stmt f zero d))))
  for_found made g b c step x os cs ss body t first middle last i o m n p q a d (inr (inl v)) inner =
      let r = found_whole (given (Spells 0) v.0 q) in
      within (t ∷ first ∷ (os ++ (cs ++ middle ∷ (ss ++ last ∷ body)))) r (At.in_right (t ∷ first ∷ []) (At.in_right os (At.in_left (middle ∷ (ss ++ last ∷ body)) r.at)))
      (λ f new us zero j z. renamed g (v.1 f new) (told_as (λ at l. SpellsStmt g (s.For at (moved_opening f b) (Some new) (option_map (moved_simple f) step) (moved_stmt f x)) l) f (moved_token f t ∷ moved_token f first ∷ (moved_tokens f os ++ (refill f us r.at ++ moved_token f middle ∷ (moved_tokens f ss ++ moved_token f last ∷ moved_tokens f body)))) zero j
      (ap (λ (l : List Token). moved_token f t ∷ moved_token f first ∷ (moved_tokens f os ++ (refill f us r.at ++ moved_token f middle ∷ l))) (sym (two_parts f ss body last)))
      (SpellsStmt.for (moved_token f t) (moved_token f first) (moved_token f middle) (moved_token f last) i o m n (moved_spells_opening f zero p) (SpellsMaybe.some z) (moved_maybe f zero (moved_simple f) (λ y l h. moved_spells_simple f zero h) a) (moved_spells_stmt f zero d))))
  for_found made g b c step x os cs ss body t first middle last i o m n p q a d (inr (inr (inl v))) inner =
      let r = found_simple (given SpellsSimple v.1 a) v.2 in
      within (t ∷ first ∷ (os ++ (cs ++ middle ∷ (ss ++ last ∷ body)))) r (At.in_right (t ∷ first ∷ []) (At.in_right os (At.in_right cs (At.in_right (middle ∷ []) (At.in_left (last ∷ body) r.at)))))
      (λ f new us zero j z. renamed g (v.3 f new) (told (λ at l. SpellsStmt g (s.For at (moved_opening f b) (option_map (moved_expr f) c) (Some (put_simple f new v.2)) (moved_stmt f x)) l) f zero j
      (SpellsStmt.for (moved_token f t) (moved_token f first) (moved_token f middle) (moved_token f last) i o m n (moved_spells_opening f zero p) (moved_maybe f zero (moved_expr f) (λ y l h. moved_spells f zero h) q) (SpellsMaybe.some z) (moved_spells_stmt f zero d))))
  for_found made g b c step x os cs ss body t first middle last i o m n p q a d (inr (inr (inr v))) inner =
      let r = inner v.0 in
      within (t ∷ first ∷ (os ++ (cs ++ middle ∷ (ss ++ last ∷ body)))) r (At.in_right (t ∷ first ∷ []) (At.in_right os (At.in_right cs (At.in_right (middle ∷ []) (At.in_right ss (At.in_right (last ∷ []) r.at))))))
      (λ f new us zero j z. renamed g (v.1 f new) (told (λ at l. SpellsStmt g (s.For at (moved_opening f b) (option_map (moved_expr f) c) (option_map (moved_simple f) step) (put_stmt f new v.0)) l) f zero j
      (SpellsStmt.for (moved_token f t) (moved_token f first) (moved_token f middle) (moved_token f last) i o m n (moved_spells_opening f zero p) (moved_maybe f zero (moved_expr f) (λ y l h. moved_spells f zero h) q) (moved_maybe f zero (moved_simple f) (λ y l h. moved_spells_simple f zero h) a) z)))

  simple_found : (made : Made old) (x : Simple) (ts : List Token) (last : Token) → Is w.Semicolon last → SpellsSimple x ts → Looks old made (s.Simple (extent (ts ++ last ∷ [])) x) → FoundStmt made false (ts ++ last ∷ [])
  simple_found made x ts last i p v =
      let r = found_simple p v.0 in
      within (ts ++ last ∷ []) r (At.in_left (last ∷ []) r.at)
      (λ f new us zero j q. renamed false (v.1 f new) (told (λ at l. SpellsStmt false (s.Simple at (put_simple f new v.0)) l) f zero j (SpellsStmt.simple (moved_token f last) i q)))

  return_found : (made : Made old) (x : Option Expr) (ts : List Token) (t last : Token) → Is w.Return t → Is w.Semicolon last → SpellsMaybe (Spells 0) x ts → Looks old made (s.Return (extent (t ∷ (ts ++ last ∷ []))) x) → FoundStmt made false (t ∷ (ts ++ last ∷ []))
  return_found made x ts t last i o p v =
      let r = found_value v.2 (given (Spells 0) v.1 p) in
      within (t ∷ (ts ++ last ∷ [])) r (At.in_right (t ∷ []) (At.in_left (last ∷ []) r.at))
      (λ f new us zero j q. renamed false (v.3 f new) (told (λ at l. SpellsStmt false (s.Return at (Some (put_value f new v.2))) l) f zero j (SpellsStmt.return (moved_token f t) (moved_token f last) i o (SpellsMaybe.some q))))

  print_found : (made : Made old) (n : ℕ) (a : Expr) (ts : List Token) (t first format comma : Token) (end : List Token) → Is w.Printf t → Is w.OpenRound first → format.kind ≡ k.Format n → Is w.Comma comma → Are (w.CloseRound ∷ w.Semicolon ∷ []) end → Spells 0 a ts → Looks old made (s.Print (extent (t ∷ first ∷ format ∷ comma ∷ (ts ++ end))) n a) → FoundStmt made false (t ∷ first ∷ format ∷ comma ∷ (ts ++ end))
  print_found made n a ts t first format comma end i o m c z p v =
      let r = found_same v.0 p in
      within (t ∷ first ∷ format ∷ comma ∷ (ts ++ end)) r (At.in_right (t ∷ first ∷ format ∷ comma ∷ []) (At.in_left end r.at))
      (λ f new us zero j q. renamed false (v.1 f new) (told (λ at l. SpellsStmt false (s.Print at n new) l) f zero j (SpellsStmt.print (moved_token f t) (moved_token f first) (moved_token f format) (moved_token f comma) (moved_tokens f end) i o m c (moved_are f (w.CloseRound ∷ w.Semicolon ∷ []) end z) q)))

  -- ---- the whole

  mutual
    found_stmt : {g : Bool} {x : Stmt} {ts : List Token} → SpellsStmt g x ts → (y : Stmt) → y ≡ x → (h : HoldsStmt old y) → FoundStmt (λ f new. put_stmt f new h) g ts
    found_stmt (SpellsStmt.empty t i) y same h = absurd (looked same h)
    found_stmt (SpellsStmt.block {xs = xs} {ts = ts} first last o c p) y same h = block_found (λ f new. put_stmt f new h) xs ts first last o c (looked same h) (λ ys e j. found_item p ys e j)
    found_stmt (SpellsStmt.simple {x = x} {ts = ts} last i p) y same h = simple_found (λ f new. put_stmt f new h) x ts last i p (looked same h)
    found_stmt (SpellsStmt.lone_if {f = g} {c = c} {x = x} {test = test} {body = body} t first last i o n p d) y same h = if_found (λ f new. put_stmt f new h) g c x test body t first last i o n p d (looked same h) (λ j. found_stmt d x refl j)
    found_stmt (SpellsStmt.if_else {f = g} {c = c} {x = x} {y = z} {test = test} {body = body} {other = other} t first last u i o n m p d b) y same h = else_found (λ f new. put_stmt f new h) g c x z test body other t first last u i o n m p d b (looked same h) (λ j. found_stmt d x refl j) (λ j. found_stmt b z refl j)
    found_stmt (SpellsStmt.while {f = g} {c = c} {x = x} {test = test} {body = body} t first last i o n p d) y same h = while_found (λ f new. put_stmt f new h) g c x test body t first last i o n p d (looked same h) (λ j. found_stmt d x refl j)
    found_stmt (SpellsStmt.do_while {f = g} {c = c} {x = x} {body = body} {test = test} t u first last end i m o n z d p) y same h = do_found (λ f new. put_stmt f new h) g c x body test t u first last end i m o n z d p (looked same h) (λ j. found_stmt d x refl j)
    found_stmt (SpellsStmt.for {f = g} {o = b} {c = c} {step = step} {x = x} {os = os} {cs = cs} {ss = ss} {body = body} t first middle last i o m n p q a d) y same h = for_found (λ f new. put_stmt f new h) g b c step x os cs ss body t first middle last i o m n p q a d (looked same h) (λ j. found_stmt d x refl j)
    found_stmt (SpellsStmt.break t last i o) y same h = absurd (looked same h)
    found_stmt (SpellsStmt.continue t last i o) y same h = absurd (looked same h)
    found_stmt (SpellsStmt.return {x = x} {ts = ts} t last i o p) y same h = return_found (λ f new. put_stmt f new h) x ts t last i o p (looked same h)
    found_stmt (SpellsStmt.read t start end i m n p) y same h = absurd (looked same h)
    found_stmt (SpellsStmt.print {n = n} {a = a} {ts = ts} t first format comma end i o m c z p) y same h = print_found (λ f new. put_stmt f new h) n a ts t first format comma end i o m c z p (looked same h)

    found_item : {xs : List Stmt} {ts : List Token} → SpellItems xs ts → (ys : List Stmt) → ys ≡ xs → (h : HoldsItem old ys) → Found old (λ f new us. SpellItems (put_item f new h) us) ts
    found_item SpellItems.none ys same h = absurd (no_items (subst (HoldsItem old) same h))
    found_item (SpellItems.decl_item {d = d} {xs = xs} {ts = ts} {us = us} p q) _ same (HoldsItem.this {x = y} {xs = ys} h) =
        let v : Looks old (λ f new. put_stmt f new h) (s.Decl d) = looked (heads same) h in
        let r = found_decl p v.0 in
        let rest : ys ≡ xs = tails same in
        within (ts ++ us) r (At.in_left us r.at) (λ f new vs zero j z. renamed_items (λ i. v.1 f new i ∷ map (moved_stmt f) (rest i)) (SpellItems.decl_item z (moved_items f zero q)))
    found_item (SpellItems.decl_item {d = d} {xs = xs} {ts = ts} {us = us} p q) _ same (HoldsItem.later {x = y} {xs = ys} h) =
        let r = found_item q ys (tails same) h in
        let one : y ≡ s.Decl d = heads same in
        within (ts ++ us) r (At.in_right ts r.at) (λ f new vs zero j z. renamed_items (λ i. moved_stmt f (one i) ∷ put_item f new h) (SpellItems.decl_item (moved_spells_decl f zero p) z))
    found_item (SpellItems.stmt_item {x = x} {xs = xs} {ts = ts} {us = us} p q) _ same (HoldsItem.this {x = y} {xs = ys} h) =
        let r = found_stmt p y (heads same) h in
        let rest : ys ≡ xs = tails same in
        within (ts ++ us) r (At.in_left us r.at) (λ f new vs zero j z. renamed_items (λ i. put_stmt f new h ∷ map (moved_stmt f) (rest i)) (SpellItems.stmt_item z (moved_items f zero q)))
    found_item (SpellItems.stmt_item {x = x} {xs = xs} {ts = ts} {us = us} p q) _ same (HoldsItem.later {x = y} {xs = ys} h) =
        let r = found_item q ys (tails same) h in
        let one : y ≡ x = heads same in
        within (ts ++ us) r (At.in_right ts r.at) (λ f new vs zero j z. renamed_items (λ i. moved_stmt f (one i) ∷ put_item f new h) (SpellItems.stmt_item (moved_spells_stmt f zero p) z))

  -- ---- sources

  found_part : {x : Part} {ts : List Token} → SpellsPart x ts → (h : HoldsPart old x) → Found old (λ f new us. SpellsPart (put_part f new h) us) ts
  found_part (SpellsPart.struct s t first end i n o c p) h = elim h [ ]
  found_part (SpellsPart.decl p) h = elim h [ ]
  found_part (SpellsPart.function {h = h} {xs = xs} {hs = hs} {ts = ts} first last o c p q) (HoldsPart.function j) =
      let r = found_item q xs refl j in
      within (hs ++ first ∷ (ts ++ last ∷ [])) r (At.in_right hs (At.in_right (first ∷ []) (At.in_left (last ∷ []) r.at)))
      (λ f new us zero m z. told (λ at l. SpellsPart (part.Function at (moved_head f h) (put_item f new j)) l) f zero m (SpellsPart.function (moved_token f first) (moved_token f last) o c (moved_spells_head f zero p) z))
  found_part (SpellsPart.prototype last i p) h = elim h [ ]

  found_among_parts : {xs : List Part} {ts : List Token} → SpellAll SpellsPart xs ts → (h : Among (HoldsPart old) xs) → Found old (λ f new us. SpellAll SpellsPart (put_among_parts f new h) us) ts
  found_among_parts SpellAll.none h = elim h [ ]
  found_among_parts (SpellAll.more {ts = ts} {us = us} p q) (Among.this h) =
      let r = found_part p h in
      within (ts ++ us) r (At.in_left us r.at) (λ f new vs zero j z. SpellAll.more z (moved_all f (moved_part f) (λ x l m. moved_spells_part f zero m) q))
  found_among_parts (SpellAll.more {ts = ts} {us = us} p q) (Among.later h) =
      let r = found_among_parts q h in
      within (ts ++ us) r (At.in_right ts r.at) (λ f new vs zero j z. SpellAll.more (moved_spells_part f zero p) z)

  found_tree : {tree : Tree} {ts : List Token} → SpellsTree tree ts → (h : Holds old tree) → Found old (λ f new us. SpellsTree (put f new tree h) us) ts
  found_tree (SpellsTree.tree {ts = ts} p) h =
      let r = found_among_parts p h in
      within ts r r.at (λ f new us zero j z. told (λ at l. SpellsTree (record { span = at; parts = put_among_parts f new h }) l) f zero j (SpellsTree.tree z))

  pub respelled : (tree : Tree) (ts : List Token) (h : Holds old tree) → SpellsTree tree ts → IsRespelled tree h ts
  respelled tree ts h p =
      let r = found_tree p h in
      let c = cut r.at in
      record {
        front = c.front;
        hole = r.hole;
        back = c.back;
        joined = c.joined;
        spelled = r.spelled;
        stands = r.stands;
        respelled = λ f new us zero q j. subst (SpellsTree (put f new tree h)) (c.same f us) (r.filled f new us zero q (follows_spelled f r.spelled q (j ∙ ap (moved_span f) (sym r.stands))));
      }
