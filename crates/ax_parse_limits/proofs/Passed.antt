-- Looking through what is spelled finds its first part that is too large.
use Rattle.std.proofs.Common.{◌≡◌, ℕ, zero, suc, ◌+◌, ◌≤◌, Bool, true, false, if◌then◌else◌, List, [], ◌∷◌, ◌++◌, ◌⊎◌, inl, inr, Option, Some, None, refl, sym, ap, ◌∙◌, subst, arith, append_assoc}
use Rattle.std.specs.Prelude.{nat_lt}
use Rattle.std.proofs.lemmas.Bool.{ltb-false, le-ltb}
use Rattle.ax_prog.specs.declared.tokens.Token.{Token}
use Rattle.ax_parse_grammar.specs.declared.terminals.Terminal.TheVariants as w
use Rattle.ax_parse_grammar.specs.declared.tree.Expr.{Expr}
use Rattle.ax_parse_grammar.specs.declared.tree.Expr.TheVariants as e
use Rattle.ax_parse_grammar.specs.Operators.{level}
use Rattle.ax_parse_grammar.specs.Terminals.{Is, named, extent}
use Rattle.ax_parse_grammar.specs.Expressions.{Spells, SpellArgs, SpellMany}
use Rattle.ax_parse_grammar.proofs.ExpressionsRead.{level_within, expr_first}
use Rattle.ax_parse_limits.specs.declared.counts.Class.{Class}
use Rattle.ax_parse_limits.specs.declared.counts.Class.TheVariants as c
use Rattle.ax_parse_limits.specs.Nodes.{nodes}
use Rattle.ax_parse_limits.specs.Wholes.{Whole, in_expr, in_args, in_many, whole, start_of, first_large}
use Rattle.ax_parse_limits.specs.Scan.{class_of, count, over, large, large_in, ◌or◌, scan}
use Rattle.ax_parse_limits.proofs.LargeLayers.{binary_class, prefix_class, name_class, number_class, nodes_of_all, nodes-Unary, nodes-Binary, nodes-Cond, nodes-Index, nodes-Member, nodes-Arrow, nodes-Call}
use Rattle.ax_parse_limits.proofs.Counted.{counted}

-- ---- the first of lists

pub or_assoc : (p q r : Option ℕ) → ((p or q) or r) ≡ (p or (q or r))
or_assoc None q r = refl
or_assoc (Some at) q r = refl

head_or : (b : Bool) (at : ℕ) (o p : Option ℕ) → (if b then Some at else (o or p)) ≡ ((if b then Some at else o) or p)
head_or true at o p = refl
head_or false at o p = refl

pub first_append : (ws vs : List Whole) → first_large (ws ++ vs) ≡ (first_large ws or first_large vs)
first_append [] vs = refl
first_append (w ∷ ws) vs = ap (λ (o : Option ℕ). if nat_lt 400 (nodes w.0) then Some (start_of w.1) else o) (first_append ws vs) ∙ head_or (nat_lt 400 (nodes w.0)) (start_of w.1) (first_large ws) (first_large vs)

none_append : (ws vs : List Whole) → first_large ws ≡ None → first_large vs ≡ None → first_large (ws ++ vs) ≡ None
none_append ws vs a b = first_append ws vs ∙ rw a b

none_cons : (x : Expr) (ts : List Token) (ws : List Whole) → nodes x ≤ 400 → first_large ws ≡ None → first_large ((x, ts) ∷ ws) ≡ None
none_cons x ts ws le h = rw (le-ltb 400 (nodes x) le) h

-- ---- in a part that isn't too large no part is

mutual
  pub small : {l : ℕ} {x : Expr} {ts : List Token} (s : Spells l x ts) → nodes x ≤ 400 → first_large (in_expr s) ≡ None
  small (Spells.name t h) le = refl
  small (Spells.number t h) le = refl
  small (Spells.parens {x = x} {ts = ts} a b g h s) le = none_cons x ts (in_expr s) le (small s le)
  small (Spells.index {a = x} {i = i} {ts = ts} {us = us} a b q g h s r) le =
      let total = nodes-Index (extent (ts ++ a ∷ (us ++ b ∷ []))) x i in
      none_append (in_expr s) ((i, us) ∷ in_expr r) (small s (omega (arith, le, total))) (none_cons i us (in_expr r) (omega (arith, le, total)) (small r (omega (arith, le, total))))
  small (Spells.member {a = x} {x = y} {ts = ts} a b q g h s) le =
      let total = nodes-Member (extent (ts ++ a ∷ b ∷ [])) x (named b y) in small s (omega (arith, le, total))
  small (Spells.arrow {a = x} {x = y} {ts = ts} a b q g h s) le =
      let total = nodes-Arrow (extent (ts ++ a ∷ b ∷ [])) x (named b y) in small s (omega (arith, le, total))
  small (Spells.call {f = f} {xs = xs} {ts = ts} {us = us} a b q g h s r) le =
      let total = nodes-Call (extent (ts ++ a ∷ (us ++ b ∷ []))) f xs in
      none_append (in_expr s) (in_args r) (small s (omega (arith, le, total))) (args_small r (omega (arith, le, total)))
  small (Spells.unary {op = op} {a = x} {ts = ts} t q h s) le =
      let total = nodes-Unary (extent (t ∷ ts)) op x in small s (omega (arith, le, total))
  small (Spells.binary {op = op} {a = x} {b = y} {left = ts} {right = us} t q h s r) le =
      let total = nodes-Binary (extent (ts ++ t ∷ us)) op x y in
      none_append (in_expr s) (in_expr r) (small s (omega (arith, le, total))) (small r (omega (arith, le, total)))
  small (Spells.cond {c = z} {a = x} {b = y} {test = ts} {then = us} {else = vs} q t g h s r p) le =
      let total = nodes-Cond (extent (ts ++ q ∷ (us ++ t ∷ vs))) z x y in
      none_append (in_expr s) ((x, us) ∷ (in_expr r ++ (y, vs) ∷ in_expr p)) (small s (omega (arith, le, total))) (none_cons x us (in_expr r ++ (y, vs) ∷ in_expr p) (omega (arith, le, total)) (none_append (in_expr r) ((y, vs) ∷ in_expr p) (small r (omega (arith, le, total))) (none_cons y vs (in_expr p) (omega (arith, le, total)) (small p (omega (arith, le, total))))))

  args_small : {xs : List Expr} {ts : List Token} (s : SpellArgs xs ts) → nodes_of_all xs ≤ 400 → first_large (in_args s) ≡ None
  args_small SpellArgs.nothing le = refl
  args_small (SpellArgs.some s) le = many_small s le

  many_small : {xs : List Expr} {ts : List Token} (s : SpellMany xs ts) → nodes_of_all xs ≤ 400 → first_large (in_many s) ≡ None
  many_small (SpellMany.one {x = x} {ts = ts} s) le = none_cons x ts (in_expr s) (omega (arith, le)) (small s (omega (arith, le)))
  many_small (SpellMany.more {x = x} {xs = xs} {ts = ts} {us = us} comma g s r) le =
      none_cons x ts (in_expr s ++ in_many r) (omega (arith, le)) (none_append (in_expr s) (in_many r) (small s (omega (arith, le))) (many_small r (omega (arith, le))))

-- ---- tokens one by one

-- a token that opens no part and leaves all as it is
abbrev pub is_plain : Class → Bool
is_plain c.Operand = true
is_plain c.Operator = true
is_plain c.Close = true
is_plain c.Link = true
is_plain c.Comma = true
is_plain c.Other = true
is_plain _ = false

plain_class : (h : Bool) (d : Class) (ts : List Token) (t : Token) → class_of t.kind ≡ d → is_plain d ≡ true → scan h false (t ∷ ts) ≡ scan h false ts
plain_class h c.Operand ts t g p = rw g refl
plain_class h c.Operator ts t g p = rw g refl
plain_class h c.Close ts t g p = rw g refl
plain_class h c.Link ts t g p = rw g refl
plain_class h c.Comma ts t g p = rw g refl
plain_class h c.Other ts t g p = rw g refl
plain_class h _ ts t g p = cc

pub plain : (h : Bool) (t : Token) (ts : List Token) (d : Class) → class_of t.kind ≡ d → is_plain d ≡ true → scan h false (t ∷ ts) ≡ scan h false ts
plain h t ts d g p = plain_class h d ts t g p

pub opens : (h : Bool) (t : Token) (ts : List Token) → class_of t.kind ≡ c.OpenRound → scan h false (t ∷ ts) ≡ (large_in true ts or scan h false ts)
opens h t ts g = rw g refl

pub indexes : (h : Bool) (t : Token) (ts : List Token) → class_of t.kind ≡ c.OpenSquare → scan h false (t ∷ ts) ≡ (large_in false ts or scan h false ts)
indexes h t ts g = rw g refl

pub sets : (h : Bool) (t : Token) (ts : List Token) → class_of t.kind ≡ c.Sets → scan h false (t ∷ ts) ≡ (large_in false ts or scan h false ts)
sets h t ts g = rw g refl

pub returns : (h : Bool) (t : Token) (ts : List Token) → class_of t.kind ≡ c.Return → scan h false (t ∷ ts) ≡ (large_in false ts or scan h false ts)
returns h t ts g = rw g refl

pub ends : (t : Token) (ts : List Token) → class_of t.kind ≡ c.Semicolon → scan false false (t ∷ ts) ≡ scan false false ts
ends t ts g = rw g refl

pub ends_head : (t : Token) (ts : List Token) → class_of t.kind ≡ c.Semicolon → scan true false (t ∷ ts) ≡ (large_in false ts or scan false false ts)
ends_head t ts g = rw g refl

pub begins_head : (h : Bool) (t u : Token) (ts : List Token) → class_of t.kind ≡ c.For → class_of u.kind ≡ c.OpenRound → scan h false (t ∷ u ∷ ts) ≡ scan true false ts
begins_head h t u ts g f = rw g (rw f refl)

pub begins_read : (h : Bool) (t u : Token) (ts : List Token) → class_of t.kind ≡ c.Scanf → class_of u.kind ≡ c.OpenRound → scan h false (t ∷ u ∷ ts) ≡ scan h false ts
begins_read h t u ts g f = rw g (rw f refl)

pub same_scan : (h : Bool) (us vs rest : List Token) → scan h false ((us ++ vs) ++ rest) ≡ scan h false (us ++ (vs ++ rest))
same_scan h us vs rest = ap (λ (l : List Token). scan h false l) (append_assoc us vs rest)

-- ---- parts

-- a part ends before these tokens
abbrev pub Stop : Bool → List Token → Type 0
Stop many tail = (at n : ℕ) → large many (count at 0 true n) tail ≡ over (count at 0 true n)

-- a token with which a part ends, one of many too
abbrev pub is_end : Class → Bool
is_end c.Close = true
is_end c.Semicolon = true
is_end c.Other = true
is_end _ = false

end_class : (many : Bool) (d : Class) (t : Token) (ts : List Token) → class_of t.kind ≡ d → is_end d ≡ true → Stop many (t ∷ ts)
end_class many c.Close t ts g p at n = rw g refl
end_class many c.Semicolon t ts g p at n = rw g refl
end_class many c.Other t ts g p at n = rw g refl
end_class many _ t ts g p at n = cc

pub stop : (many : Bool) (t : Token) (ts : List Token) (d : Class) → class_of t.kind ≡ d → is_end d ≡ true → Stop many (t ∷ ts)
stop many t ts d g p = end_class many d t ts g p

pub stop_comma : (t : Token) (ts : List Token) → class_of t.kind ≡ c.Comma → Stop false (t ∷ ts)
stop_comma t ts g at n = rw g refl

start_first : {l : ℕ} {x : Expr} {ts : List Token} → Spells l x ts → (tail : List Token) → start_of (ts ++ tail) ≡ start_of ts
start_first s tail = let f = expr_first s in ap (λ (l : List Token). start_of (l ++ tail)) f.is ∙ sym (ap start_of f.is)

-- its nodes
abbrev sized : ℕ → ℕ → Option ℕ
sized at n = if nat_lt 400 n then Some at else None

in_part : {x : Expr} {ts : List Token} → Spells 0 x ts → (many : Bool) (tail : List Token) → Stop many tail → large_in many (ts ++ tail) ≡ sized (start_of ts) (nodes x)
in_part {x = x} {ts = ts} s many tail stops =
    let at : ℕ = start_of (ts ++ tail) in
    counted many at s 0 0 tail ∙ stops at (0 + nodes x) ∙ ap (λ (i : ℕ). sized i (0 + nodes x)) (start_first s tail) ∙ ap (λ (n : ℕ). sized (start_of ts) n) (omega arith)

by_size : (b : Bool) (at : ℕ) (o l p q : Option ℕ) → (b ≡ false → (l or q) ≡ (o or p)) → ((if b then Some at else l) or q) ≡ ((if b then Some at else o) or p)
by_size true at o l p q go = refl
by_size false at o l p q go = go refl

pub whole_passes : {x : Expr} {ts : List Token} (s : Spells 0 x ts) (h many : Bool) (tail : List Token) → Stop many tail → (nodes x ≤ 400 → scan h false (ts ++ tail) ≡ (first_large (in_expr s) or scan h false tail)) → (large_in many (ts ++ tail) or scan h false (ts ++ tail)) ≡ (first_large (whole s) or scan h false tail)
whole_passes {x = x} {ts = ts} s h many tail stops go =
    ap (λ (o : Option ℕ). o or scan h false (ts ++ tail)) (in_part s many tail stops) ∙ by_size (nat_lt 400 (nodes x)) (start_of ts) (first_large (in_expr s)) None (scan h false tail) (scan h false (ts ++ tail)) (λ f. go (ltb-false 400 (nodes x) f))

quiet_of : (ws : List Whole) (p q : Option ℕ) → first_large ws ≡ None → p ≡ (first_large ws or q) → p ≡ q
quiet_of ws p q n e = e ∙ ap (λ (o : Option ℕ). o or q) n

-- ---- one of many parts

chosen : (b : Bool) (at : ℕ) (y : Option ℕ) → (if b then Some at else y) ≡ (if b then Some at else y)
chosen b at y = refl

comma_by : (b : Bool) (at start : ℕ) (tail : List Token) (n : ℕ) → nat_lt 400 n ≡ b → (t : Token) → class_of t.kind ≡ c.Comma → large true (count at 0 true n) (t ∷ tail) ≡ (if b then Some at else large_in true tail)
comma_by true at start tail n e t g = rw g (rw e refl)
comma_by false at start tail n e t g = rw g (rw e refl)

first_in : {x : Expr} {ts : List Token} → Spells 0 x ts → (t : Token) (tail : List Token) → class_of t.kind ≡ c.Comma → large_in true (ts ++ t ∷ tail) ≡ (if nat_lt 400 (nodes x) then Some (start_of ts) else large_in true tail)
first_in {x = x} {ts = ts} s t tail g =
    let at : ℕ = start_of (ts ++ t ∷ tail) in
    let same : 0 + nodes x ≡ nodes x = omega arith in
    counted true at s 0 0 (t ∷ tail) ∙ ap (λ (n : ℕ). large true (count at 0 true n) (t ∷ tail)) same ∙ comma_by (nat_lt 400 (nodes x)) at 0 tail (nodes x) refl t g ∙ ap (λ (i : ℕ). if nat_lt 400 (nodes x) then Some i else large_in true tail) (start_first s (t ∷ tail))

empty_in : (many : Bool) (t : Token) (ts : List Token) (d : Class) → class_of t.kind ≡ d → is_end d ≡ true → large_in many (t ∷ ts) ≡ None
empty_in many t ts c.Close g p = rw g refl
empty_in many t ts c.Semicolon g p = rw g refl
empty_in many t ts c.Other g p = rw g refl
empty_in many t ts _ g p = cc

pub nothing_in : (many : Bool) (t : Token) (ts : List Token) (d : Class) → class_of t.kind ≡ d → is_end d ≡ true → large_in many (t ∷ ts) ≡ None
nothing_in many t ts d g p = empty_in many t ts d g p

-- ---- expressions

-- a part, behind its opening mark, and the mark that closes it
pub closed_passes : {x : Expr} {ts : List Token} (s : Spells 0 x ts) (h many : Bool) (b : Token) (rest : List Token) → class_of b.kind ≡ c.Close → (nodes x ≤ 400 → scan h false (ts ++ b ∷ rest) ≡ (first_large (in_expr s) or scan h false (b ∷ rest))) → (large_in many (ts ++ b ∷ rest) or scan h false (ts ++ b ∷ rest)) ≡ (first_large (whole s) or scan h false rest)
closed_passes s h many b rest g go = whole_passes s h many (b ∷ rest) (stop many b rest c.Close g refl) go ∙ ap (λ (o : Option ℕ). first_large (whole s) or o) (plain h b rest c.Close g refl)

mutual
  pub passes : {l : ℕ} {x : Expr} {ts : List Token} (s : Spells l x ts) → (1 ≤ l) ⊎ (nodes x ≤ 400) → (h : Bool) (rest : List Token) → scan h false (ts ++ rest) ≡ (first_large (in_expr s) or scan h false rest)
  passes (Spells.name {x = x} t g) side h rest = plain h t rest c.Operand (name_class t.kind x g) refl
  passes (Spells.number {n = n} t g) side h rest = plain h t rest c.Operand (number_class t.kind n g) refl
  passes (Spells.parens {x = x} {ts = us} a b g f s) side h rest =
      opens h a ((us ++ b ∷ []) ++ rest) (ap class_of g) ∙ ap (λ (l : List Token). large_in true l or scan h false l) (append_assoc us (b ∷ []) rest) ∙ closed_passes s h true b rest (ap class_of f) (λ le. passes s (inr le) h (b ∷ rest))
  passes (Spells.index {i = i} {ts = ts} {us = us} a b le g f s r) side h rest =
      same_scan h ts (a ∷ (us ++ b ∷ [])) rest ∙ passes s (inl (omega arith)) h (a ∷ ((us ++ b ∷ []) ++ rest)) ∙ ap (λ (o : Option ℕ). first_large (in_expr s) or o) (indexes h a ((us ++ b ∷ []) ++ rest) (ap class_of g) ∙ ap (λ (l : List Token). large_in false l or scan h false l) (append_assoc us (b ∷ []) rest) ∙ closed_passes r h false b rest (ap class_of f) (λ le. passes r (inr le) h (b ∷ rest))) ∙ sym (or_assoc (first_large (in_expr s)) (first_large (whole r)) (scan h false rest)) ∙ ap (λ (o : Option ℕ). o or scan h false rest) (sym (first_append (in_expr s) (whole r)))
  passes (Spells.member {x = y} {ts = ts} a b le g f s) side h rest =
      same_scan h ts (a ∷ b ∷ []) rest ∙ passes s (inl (omega arith)) h (a ∷ b ∷ rest) ∙ ap (λ (o : Option ℕ). first_large (in_expr s) or o) (plain h a (b ∷ rest) c.Link (ap class_of g) refl ∙ plain h b rest c.Operand (name_class b.kind y f) refl)
  passes (Spells.arrow {x = y} {ts = ts} a b le g f s) side h rest =
      same_scan h ts (a ∷ b ∷ []) rest ∙ passes s (inl (omega arith)) h (a ∷ b ∷ rest) ∙ ap (λ (o : Option ℕ). first_large (in_expr s) or o) (plain h a (b ∷ rest) c.Link (ap class_of g) refl ∙ plain h b rest c.Operand (name_class b.kind y f) refl)
  passes (Spells.call {ts = ts} {us = us} a b le g f s r) side h rest =
      same_scan h ts (a ∷ (us ++ b ∷ [])) rest ∙ passes s (inl (omega arith)) h (a ∷ ((us ++ b ∷ []) ++ rest)) ∙ ap (λ (o : Option ℕ). first_large (in_expr s) or o) (opens h a ((us ++ b ∷ []) ++ rest) (ap class_of g) ∙ ap (λ (l : List Token). large_in true l or scan h false l) (append_assoc us (b ∷ []) rest) ∙ args_pass r h b rest (ap class_of f)) ∙ sym (or_assoc (first_large (in_expr s)) (first_large (in_args r)) (scan h false rest)) ∙ ap (λ (o : Option ℕ). o or scan h false rest) (sym (first_append (in_expr s) (in_args r)))
  passes (Spells.unary {op = op} {ts = ts} t le g s) side h rest = plain h t (ts ++ rest) c.Operator (prefix_class t.kind op g) refl ∙ passes s (inl (omega arith)) h rest
  passes (Spells.binary {op = op} {left = ts} {right = us} t le g s r) side h rest =
      same_scan h ts (t ∷ us) rest ∙ passes s (inl (level_within op).0) h (t ∷ (us ++ rest)) ∙ ap (λ (o : Option ℕ). first_large (in_expr s) or o) (plain h t (us ++ rest) c.Operator (binary_class t.kind op g) refl ∙ passes r (inl (omega arith)) h rest) ∙ sym (or_assoc (first_large (in_expr s)) (first_large (in_expr r)) (scan h false rest)) ∙ ap (λ (o : Option ℕ). o or scan h false rest) (sym (first_append (in_expr s) (in_expr r)))
  passes (Spells.cond {c = z} {a = x} {b = y} {test = ts} {then = us} {else = vs} q t g f s r p) (inl le) h rest = absurd (omega (arith, le))
  passes (Spells.cond {c = z} {a = x} {b = y} {test = ts} {then = us} {else = vs} q t g f s r p) (inr le) h rest =
      let total = nodes-Cond (extent (ts ++ q ∷ (us ++ t ∷ vs))) z x y in
      let a : nodes z ≤ 400 = omega (arith, le, total) in
      let b : nodes x ≤ 400 = omega (arith, le, total) in
      let d : nodes y ≤ 400 = omega (arith, le, total) in
      same_scan h ts (q ∷ (us ++ t ∷ vs)) rest
      ∙ quiet_of (in_expr s) (scan h false (ts ++ q ∷ ((us ++ t ∷ vs) ++ rest))) (scan h false (q ∷ ((us ++ t ∷ vs) ++ rest))) (small s a) (passes s (inr a) h (q ∷ ((us ++ t ∷ vs) ++ rest)))
      ∙ plain h q ((us ++ t ∷ vs) ++ rest) c.Operator (ap class_of g) refl
      ∙ same_scan h us (t ∷ vs) rest
      ∙ quiet_of (in_expr r) (scan h false (us ++ t ∷ (vs ++ rest))) (scan h false (t ∷ (vs ++ rest))) (small r b) (passes r (inr b) h (t ∷ (vs ++ rest)))
      ∙ plain h t (vs ++ rest) c.Link (ap class_of f) refl
      ∙ quiet_of (in_expr p) (scan h false (vs ++ rest)) (scan h false rest) (small p d) (passes p (inr d) h rest)
      ∙ sym (ap (λ (o : Option ℕ). o or scan h false rest) (small (Spells.cond {c = z} {a = x} {b = y} {test = ts} {then = us} {else = vs} q t g f s r p) le))

  args_pass : {xs : List Expr} {ts : List Token} (s : SpellArgs xs ts) (h : Bool) (b : Token) (rest : List Token) → class_of b.kind ≡ c.Close → (large_in true (ts ++ b ∷ rest) or scan h false (ts ++ b ∷ rest)) ≡ (first_large (in_args s) or scan h false rest)
  args_pass SpellArgs.nothing h b rest f = ap (λ (o : Option ℕ). o or scan h false (b ∷ rest)) (nothing_in true b rest c.Close f refl) ∙ plain h b rest c.Close f refl
  args_pass (SpellArgs.some s) h b rest f = many_pass s h b rest f

  many_pass : {xs : List Expr} {ts : List Token} (s : SpellMany xs ts) (h : Bool) (b : Token) (rest : List Token) → class_of b.kind ≡ c.Close → (large_in true (ts ++ b ∷ rest) or scan h false (ts ++ b ∷ rest)) ≡ (first_large (in_many s) or scan h false rest)
  many_pass (SpellMany.one s) h b rest f = closed_passes s h true b rest f (λ le. passes s (inr le) h (b ∷ rest))
  many_pass (SpellMany.more {x = x} {ts = ts} {us = us} comma g s r) h b rest f =
      let tail : List Token = us ++ b ∷ rest in
      let k : class_of comma.kind ≡ c.Comma = ap class_of g in
      ap (λ (l : List Token). large_in true l or scan h false l) (append_assoc ts (comma ∷ us) (b ∷ rest))
      ∙ ap (λ (o : Option ℕ). o or scan h false (ts ++ comma ∷ tail)) (first_in s comma tail k)
      ∙ by_size (nat_lt 400 (nodes x)) (start_of ts) (first_large (in_expr s ++ in_many r)) (large_in true tail) (scan h false rest) (scan h false (ts ++ comma ∷ tail)) (λ e.
      let le : nodes x ≤ 400 = ltb-false 400 (nodes x) e in
      ap (λ (o : Option ℕ). large_in true tail or o) (quiet_of (in_expr s) (scan h false (ts ++ comma ∷ tail)) (scan h false (comma ∷ tail)) (small s le) (passes s (inr le) h (comma ∷ tail)) ∙ plain h comma tail c.Comma k refl)
      ∙ many_pass r h b rest f
      ∙ sym (ap (λ (o : Option ℕ). o or scan h false rest) (first_append (in_expr s) (in_many r) ∙ ap (λ (o : Option ℕ). o or first_large (in_many r)) (small s le))))

-- the arguments of a call, and the parentheses around them
pub called_passes : {xs : List Expr} {ts : List Token} (s : SpellArgs xs ts) (h : Bool) (a b : Token) (rest : List Token) → class_of a.kind ≡ c.OpenRound → class_of b.kind ≡ c.Close → scan h false (a ∷ ((ts ++ b ∷ []) ++ rest)) ≡ (first_large (in_args s) or scan h false rest)
called_passes {ts = ts} s h a b rest g f = opens h a ((ts ++ b ∷ []) ++ rest) g ∙ ap (λ (l : List Token). large_in true l or scan h false l) (append_assoc ts (b ∷ []) rest) ∙ args_pass s h b rest f

-- ---- one after another

pub join : (ws vs : List Whole) (q : Option ℕ) → (first_large ws or (first_large vs or q)) ≡ (first_large (ws ++ vs) or q)
join ws vs q = sym (or_assoc (first_large ws) (first_large vs) q) ∙ ap (λ (o : Option ℕ). o or q) (sym (first_append ws vs))

pub under : (ws : List Whole) (p q : Option ℕ) → p ≡ q → (first_large ws or p) ≡ (first_large ws or q)
under ws p q e = ap (λ (o : Option ℕ). first_large ws or o) e
