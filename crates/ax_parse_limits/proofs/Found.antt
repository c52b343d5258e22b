-- Looking through a source finds its first part that is too large.
use Rattle.std.proofs.Common.{◌≡◌, ℕ, ◌+◌, ◌≤◌, Bool, true, false, List, [], ◌∷◌, ◌++◌, ◌⊎◌, inl, inr, Option, Some, None, refl, sym, ap, ◌∙◌, arith, append_assoc, append-nil}
use Rattle.ax_prog.specs.declared.tokens.Token.{Token}
use Rattle.ax_parse_grammar.specs.declared.terminals.Terminal.{Terminal}
use Rattle.ax_parse_grammar.specs.declared.terminals.Terminal.TheVariants as w
use Rattle.ax_parse_grammar.specs.declared.tree.Expr.{Expr}
use Rattle.ax_parse_grammar.specs.declared.tree.Declared.{Declared}
use Rattle.ax_parse_grammar.specs.declared.tree.Decl.{Decl}
use Rattle.ax_parse_grammar.specs.declared.tree.Simple.{Simple}
use Rattle.ax_parse_grammar.specs.declared.tree.Opening.{Opening}
use Rattle.ax_parse_grammar.specs.declared.tree.Stmt.{Stmt}
use Rattle.ax_parse_grammar.specs.declared.tree.Part.{Part}
use Rattle.ax_parse_grammar.specs.declared.tree.Tree.{Tree}
use Rattle.ax_parse_grammar.specs.Terminals.{Is, Are, kind_of}
use Rattle.ax_parse_grammar.specs.Expressions.{Spells, SpellArgs, SpellMany}
use Rattle.ax_parse_grammar.specs.Declarations.{SpellAll, SpellSeparated, SpellsDeclared, SpellsDecl}
use Rattle.ax_parse_grammar.specs.Statements.{SpellsSimple, SpellsOpening, SpellsMaybe, SpellsStmt, SpellItems}
use Rattle.ax_parse_grammar.specs.Sources.{SpellsPart, SpellsTree}
use Rattle.ax_parse_grammar.proofs.Tools.{are_first}
use Rattle.ax_parse_limits.specs.declared.counts.Class.{Class}
use Rattle.ax_parse_limits.specs.declared.counts.Class.TheVariants as c
use Rattle.ax_parse_limits.specs.Wholes.{Whole, in_expr, in_args, whole, in_all, in_separated, in_maybe, in_declared, in_decl, in_simple, in_opening, in_stmt, in_items, in_part, wholes, first_large}
use Rattle.ax_parse_limits.specs.Scan.{class_of, large_in, ◌or◌, scan}
use Rattle.ax_parse_limits.proofs.LargeLayers.{compound_class, step_class, name_class}
use Rattle.ax_parse_limits.proofs.Passed.{plain, opens, sets, returns, ends, ends_head, begins_head, begins_read, same_scan, Stop, stop, stop_comma, nothing_in, whole_passes, closed_passes, passes, called_passes, join, under}
use Rattle.ax_parse_limits.proofs.Quiet.{base_quiet, declarator_quiet, numbers_quiet, head_quiet, lists_quiet}

-- ---- declarations

declared_found : {d : Declared} {ts : List Token} (s : SpellsDeclared d ts) (h : Bool) (rest : List Token) → Stop false rest → scan h false (ts ++ rest) ≡ (first_large (in_declared s) or scan h false rest)
declared_found (SpellsDeclared.plain s) h rest stops = declarator_quiet s h rest
declared_found (SpellsDeclared.value {ts = ts} {us = us} mark g s r) h rest stops =
    same_scan h ts (mark ∷ us) rest ∙ declarator_quiet s h (mark ∷ (us ++ rest)) ∙ sets h mark (us ++ rest) (ap class_of g) ∙ whole_passes r h false rest stops (λ le. passes r (inr le) h rest)
declared_found (SpellsDeclared.list {ts = ts} {us = us} mark a b g f l s r) h rest stops =
    let tail : List Token = (us ++ b ∷ []) ++ rest in
    same_scan h ts (mark ∷ a ∷ (us ++ b ∷ [])) rest ∙ declarator_quiet s h (mark ∷ a ∷ tail) ∙ sets h mark (a ∷ tail) (ap class_of g) ∙ ap (λ (o : Option ℕ). o or scan h false (a ∷ tail)) (nothing_in false a tail c.Other (ap class_of f) refl) ∙ plain h a tail c.Other (ap class_of f) refl ∙ same_scan h us (b ∷ []) rest ∙ numbers_quiet r h (b ∷ rest) ∙ plain h b rest c.Other (ap class_of l) refl

items_found_in : {xs : List Declared} {ts : List Token} (s : SpellSeparated SpellsDeclared xs ts) (h : Bool) (rest : List Token) → Stop false rest → scan h false (ts ++ rest) ≡ (first_large (in_separated (λ d ts s. in_declared s) s) or scan h false rest)
items_found_in (SpellSeparated.one s) h rest stops = declared_found s h rest stops
items_found_in (SpellSeparated.more {ts = ts} {us = us} comma g s r) h rest stops =
    same_scan h ts (comma ∷ us) rest ∙ declared_found s h (comma ∷ (us ++ rest)) (stop_comma comma (us ++ rest) (ap class_of g))
    ∙ under (in_declared s) (scan h false (comma ∷ (us ++ rest))) (first_large (in_separated (λ d ts s. in_declared s) r) or scan h false rest) (plain h comma (us ++ rest) c.Comma (ap class_of g) refl ∙ items_found_in r h rest stops)
    ∙ join (in_declared s) (in_separated (λ d ts s. in_declared s) r) (scan h false rest)

-- up to the `;`
decl_body : {d : Decl} {ts : List Token} (s : SpellsDecl d ts) (h : Bool) (rest : List Token) (p : Option ℕ) → ((last : Token) → Is w.Semicolon last → scan h false (last ∷ rest) ≡ p) → scan h false (ts ++ rest) ≡ (first_large (in_decl s) or p)
decl_body (SpellsDecl.decl {bs = bs} {ts = ts} last g b s) h rest p go =
    same_scan h bs (ts ++ last ∷ []) rest ∙ base_quiet b h ((ts ++ last ∷ []) ++ rest) ∙ same_scan h ts (last ∷ []) rest ∙ items_found_in s h (last ∷ rest) (stop false last rest c.Semicolon (ap class_of g) refl) ∙ under (in_separated (λ d ts s. in_declared s) s) (scan h false (last ∷ rest)) p (go last g)

decl_found : {d : Decl} {ts : List Token} (s : SpellsDecl d ts) (rest : List Token) → scan false false (ts ++ rest) ≡ (first_large (in_decl s) or scan false false rest)
decl_found s rest = decl_body s false rest (scan false false rest) (λ last g. ends last rest (ap class_of g))

decl_head : {d : Decl} {ts : List Token} (s : SpellsDecl d ts) (rest : List Token) → scan true false (ts ++ rest) ≡ (first_large (in_decl s) or (large_in false rest or scan false false rest))
decl_head s rest = decl_body s true rest (large_in false rest or scan false false rest) (λ last g. ends_head last rest (ap class_of g))

-- ---- simple statements

assign_found : {a x : Expr} {ts us : List Token} (s : Spells 11 a ts) (r : Spells 0 x us) (mark : Token) → class_of mark.kind ≡ c.Sets → (h : Bool) (rest : List Token) → Stop false rest → scan h false ((ts ++ mark ∷ us) ++ rest) ≡ (first_large (in_expr s ++ whole r) or scan h false rest)
assign_found {ts = ts} {us = us} s r mark g h rest stops =
    same_scan h ts (mark ∷ us) rest ∙ passes s (inl (omega arith)) h (mark ∷ (us ++ rest))
    ∙ under (in_expr s) (scan h false (mark ∷ (us ++ rest))) (first_large (whole r) or scan h false rest) (sets h mark (us ++ rest) g ∙ whole_passes r h false rest stops (λ le. passes r (inr le) h rest))
    ∙ join (in_expr s) (whole r) (scan h false rest)

simple_found : {x : Simple} {ts : List Token} (s : SpellsSimple x ts) (h : Bool) (rest : List Token) → Stop false rest → scan h false (ts ++ rest) ≡ (first_large (in_simple s) or scan h false rest)
simple_found (SpellsSimple.assign mark g s r) h rest stops = assign_found s r mark (ap class_of g) h rest stops
simple_found (SpellsSimple.change {op = op} mark g s r) h rest stops = assign_found s r mark (compound_class mark.kind op g) h rest stops
simple_found (SpellsSimple.behind {up = up} {ts = ts} mark g s) h rest stops =
    same_scan h ts (mark ∷ []) rest ∙ passes s (inl (omega arith)) h (mark ∷ rest) ∙ under (in_expr s) (scan h false (mark ∷ rest)) (scan h false rest) (plain h mark rest c.Other (step_class mark.kind up g) refl)
simple_found (SpellsSimple.before {up = up} {ts = ts} mark g s) h rest stops =
    plain h mark (ts ++ rest) c.Other (step_class mark.kind up g) refl ∙ passes s (inl (omega arith)) h rest
simple_found (SpellsSimple.call {ts = ts} {us = us} a b g f s r) h rest stops =
    same_scan h ts (a ∷ (us ++ b ∷ [])) rest ∙ passes s (inl (omega arith)) h (a ∷ ((us ++ b ∷ []) ++ rest))
    ∙ under (in_expr s) (scan h false (a ∷ ((us ++ b ∷ []) ++ rest))) (first_large (in_args r) or scan h false rest) (called_passes r h a b rest (ap class_of g) (ap class_of f))
    ∙ join (in_expr s) (in_args r) (scan h false rest)

-- ---- what stands in the parentheses of a `for`

opening_head : {o : Opening} {ts : List Token} (s : SpellsOpening o ts) (rest : List Token) → scan true false (ts ++ rest) ≡ (first_large (in_opening s) or (large_in false rest or scan false false rest))
opening_head (SpellsOpening.nothing last g) rest = ends_head last rest (ap class_of g)
opening_head (SpellsOpening.simple {ts = ts} last g s) rest =
    same_scan true ts (last ∷ []) rest ∙ simple_found s true (last ∷ rest) (stop false last rest c.Semicolon (ap class_of g) refl) ∙ under (in_simple s) (scan true false (last ∷ rest)) (large_in false rest or scan false false rest) (ends_head last rest (ap class_of g))
opening_head (SpellsOpening.decl s) rest = decl_head s rest

-- an expression, if any, before `;`
maybe_whole_found : {x : Option Expr} {ts : List Token} (s : SpellsMaybe (Spells 0) x ts) (t : Token) (rest : List Token) → class_of t.kind ≡ c.Semicolon → (large_in false (ts ++ t ∷ rest) or scan false false (ts ++ t ∷ rest)) ≡ (first_large (in_maybe (λ x ts s. whole s) s) or scan false false rest)
maybe_whole_found SpellsMaybe.nothing t rest g = ap (λ (o : Option ℕ). o or scan false false (t ∷ rest)) (nothing_in false t rest c.Semicolon g refl) ∙ ends t rest g
maybe_whole_found (SpellsMaybe.some s) t rest g =
    whole_passes s false false (t ∷ rest) (stop false t rest c.Semicolon g refl) (λ le. passes s (inr le) false (t ∷ rest)) ∙ under (whole s) (scan false false (t ∷ rest)) (scan false false rest) (ends t rest g)

maybe_simple_found : {x : Option Simple} {ts : List Token} (s : SpellsMaybe SpellsSimple x ts) (rest : List Token) → Stop false rest → scan false false (ts ++ rest) ≡ (first_large (in_maybe (λ x ts s. in_simple s) s) or scan false false rest)
maybe_simple_found SpellsMaybe.nothing rest stops = refl
maybe_simple_found (SpellsMaybe.some s) rest stops = simple_found s false rest stops

-- an expression in parentheses, and what follows
test_found : {x : Expr} {ts : List Token} (s : Spells 0 x ts) (a b : Token) (us rest : List Token) → class_of a.kind ≡ c.OpenRound → class_of b.kind ≡ c.Close → scan false false (a ∷ ((ts ++ b ∷ us) ++ rest)) ≡ (first_large (whole s) or scan false false (us ++ rest))
test_found {ts = ts} s a b us rest g f =
    opens false a ((ts ++ b ∷ us) ++ rest) g ∙ ap (λ (l : List Token). large_in true l or scan false false l) (append_assoc ts (b ∷ us) rest) ∙ closed_passes s false true b (us ++ rest) f (λ le. passes s (inr le) false (b ∷ (us ++ rest)))

-- ---- terminals in turn

read_start : (start : List Token) → Are (w.OpenRound ∷ w.Format ∷ w.Comma ∷ w.Amp ∷ []) start → (t : Token) → class_of t.kind ≡ c.Scanf → (tail : List Token) → scan false false (t ∷ (start ++ tail)) ≡ scan false false tail
read_start [] h t g tail = cc
read_start (a ∷ []) h t g tail = cc
read_start (a ∷ f ∷ []) h t g tail = cc
read_start (a ∷ f ∷ m ∷ []) h t g tail = cc
read_start (a ∷ f ∷ m ∷ d ∷ []) h t g tail =
    let one : a.kind ≡ kind_of w.OpenRound = cc in
    let two : f.kind ≡ kind_of w.Format = cc in
    let three : m.kind ≡ kind_of w.Comma = cc in
    let four : d.kind ≡ kind_of w.Amp = cc in
    begins_read false t a (f ∷ m ∷ d ∷ tail) g (ap class_of one) ∙ plain false f (m ∷ d ∷ tail) c.Link (ap class_of two) refl ∙ plain false m (d ∷ tail) c.Comma (ap class_of three) refl ∙ plain false d tail c.Operator (ap class_of four) refl
read_start (a ∷ f ∷ m ∷ d ∷ x ∷ us) h t g tail = cc

pair : (end : List Token) → Are (w.CloseRound ∷ w.Semicolon ∷ []) end → (b : Token) × (e : Token) × (end ≡ b ∷ e ∷ []) × Is w.CloseRound b × Is w.Semicolon e
pair [] h = cc
pair (b ∷ []) h = cc
pair (b ∷ e ∷ []) h = (b, e, refl, (let one : b.kind ≡ kind_of w.CloseRound = cc in one), (let two : e.kind ≡ kind_of w.Semicolon = cc in two))
pair (b ∷ e ∷ x ∷ us) h = cc

-- an expression behind a format in parentheses
print_found : {x : Expr} {ts : List Token} (s : Spells 0 x ts) (t a f m b e : Token) (rest : List Token) → class_of t.kind ≡ c.Other → class_of a.kind ≡ c.OpenRound → class_of f.kind ≡ c.Link → class_of m.kind ≡ c.Comma → class_of b.kind ≡ c.Close → class_of e.kind ≡ c.Semicolon → scan false false (t ∷ a ∷ f ∷ m ∷ ((ts ++ b ∷ e ∷ []) ++ rest)) ≡ (first_large (whole s) or scan false false rest)
print_found {ts = ts} s t a f m b e rest g h i j l q =
    let tail : List Token = (ts ++ b ∷ e ∷ []) ++ rest in
    plain false t (a ∷ f ∷ m ∷ tail) c.Other g refl ∙ opens false a (f ∷ m ∷ tail) h
    ∙ ap (λ (o : Option ℕ). o or scan false false (f ∷ m ∷ tail)) (format_in f m tail i j)
    ∙ ap (λ (o : Option ℕ). large_in true tail or o) (plain false f (m ∷ tail) c.Link i refl ∙ plain false m tail c.Comma j refl)
    ∙ ap (λ (l : List Token). large_in true l or scan false false l) (append_assoc ts (b ∷ e ∷ []) rest)
    ∙ closed_passes s false true b (e ∷ rest) l (λ le. passes s (inr le) false (b ∷ e ∷ rest))
    ∙ under (whole s) (scan false false (e ∷ rest)) (scan false false rest) (ends e rest q)
  where
    format_in : (f m : Token) (tail : List Token) → class_of f.kind ≡ c.Link → class_of m.kind ≡ c.Comma → large_in true (f ∷ m ∷ tail) ≡ large_in true tail
    format_in f m tail i j = rw i (rw j refl)

print_ends : {x : Expr} {ts : List Token} (s : Spells 0 x ts) (t a f m : Token) (end rest : List Token) → class_of t.kind ≡ c.Other → class_of a.kind ≡ c.OpenRound → class_of f.kind ≡ c.Link → class_of m.kind ≡ c.Comma → (b e : Token) → end ≡ b ∷ e ∷ [] → Is w.CloseRound b → Is w.Semicolon e → scan false false (t ∷ a ∷ f ∷ m ∷ ((ts ++ end) ++ rest)) ≡ (first_large (whole s) or scan false false rest)
print_ends {ts = ts} s t a f m end rest g h i j b e is l q = ap (λ (us : List Token). scan false false (t ∷ a ∷ f ∷ m ∷ ((ts ++ us) ++ rest))) is ∙ print_found s t a f m b e rest g h i j (ap class_of l) (ap class_of q)

-- ---- statements

mutual
  stmt_found : {f : Bool} {x : Stmt} {ts : List Token} (s : SpellsStmt f x ts) (rest : List Token) → scan false false (ts ++ rest) ≡ (first_large (in_stmt s) or scan false false rest)
  stmt_found (SpellsStmt.empty t g) rest = ends t rest (ap class_of g)
  stmt_found (SpellsStmt.block {ts = ts} a b g h s) rest =
      plain false a ((ts ++ b ∷ []) ++ rest) c.Other (ap class_of g) refl ∙ same_scan false ts (b ∷ []) rest ∙ items_found s (b ∷ rest) ∙ under (in_items s) (scan false false (b ∷ rest)) (scan false false rest) (plain false b rest c.Other (ap class_of h) refl)
  stmt_found (SpellsStmt.simple {ts = ts} last g s) rest =
      same_scan false ts (last ∷ []) rest ∙ simple_found s false (last ∷ rest) (stop false last rest c.Semicolon (ap class_of g) refl) ∙ under (in_simple s) (scan false false (last ∷ rest)) (scan false false rest) (ends last rest (ap class_of g))
  stmt_found (SpellsStmt.lone_if {test = ts} {body = us} t a b f g h s r) rest =
      plain false t (a ∷ ((ts ++ b ∷ us) ++ rest)) c.Other (ap class_of f) refl ∙ test_found s a b us rest (ap class_of g) (ap class_of h) ∙ under (whole s) (scan false false (us ++ rest)) (first_large (in_stmt r) or scan false false rest) (stmt_found r rest) ∙ join (whole s) (in_stmt r) (scan false false rest)
  stmt_found (SpellsStmt.if_else {test = ts} {body = us} {other = vs} t a b u f g h l s r p) rest =
      plain false t (a ∷ ((ts ++ b ∷ (us ++ u ∷ vs)) ++ rest)) c.Other (ap class_of f) refl ∙ test_found s a b (us ++ u ∷ vs) rest (ap class_of g) (ap class_of h)
      ∙ under (whole s) (scan false false ((us ++ u ∷ vs) ++ rest)) (first_large (in_stmt r ++ in_stmt p) or scan false false rest)
      (same_scan false us (u ∷ vs) rest ∙ stmt_found r (u ∷ (vs ++ rest)) ∙ under (in_stmt r) (scan false false (u ∷ (vs ++ rest))) (first_large (in_stmt p) or scan false false rest) (plain false u (vs ++ rest) c.Other (ap class_of l) refl ∙ stmt_found p rest) ∙ join (in_stmt r) (in_stmt p) (scan false false rest))
      ∙ join (whole s) (in_stmt r ++ in_stmt p) (scan false false rest)
  stmt_found (SpellsStmt.while {test = ts} {body = us} t a b f g h s r) rest =
      plain false t (a ∷ ((ts ++ b ∷ us) ++ rest)) c.Other (ap class_of f) refl ∙ test_found s a b us rest (ap class_of g) (ap class_of h) ∙ under (whole s) (scan false false (us ++ rest)) (first_large (in_stmt r) or scan false false rest) (stmt_found r rest) ∙ join (whole s) (in_stmt r) (scan false false rest)
  stmt_found (SpellsStmt.do_while {body = us} {test = ts} t u a b end f g h l q r s) rest =
      plain false t ((us ++ u ∷ a ∷ (ts ++ b ∷ end ∷ [])) ++ rest) c.Other (ap class_of f) refl ∙ same_scan false us (u ∷ a ∷ (ts ++ b ∷ end ∷ [])) rest ∙ stmt_found r (u ∷ a ∷ ((ts ++ b ∷ end ∷ []) ++ rest))
      ∙ under (in_stmt r) (scan false false (u ∷ a ∷ ((ts ++ b ∷ end ∷ []) ++ rest))) (first_large (whole s) or scan false false rest)
      (plain false u (a ∷ ((ts ++ b ∷ end ∷ []) ++ rest)) c.Other (ap class_of g) refl ∙ test_found s a b (end ∷ []) rest (ap class_of h) (ap class_of l) ∙ under (whole s) (scan false false (end ∷ rest)) (scan false false rest) (ends end rest (ap class_of q)))
      ∙ join (in_stmt r) (whole s) (scan false false rest)
  stmt_found (SpellsStmt.for {os = os} {cs = cs} {ss = ss} {body = us} t a m b f g h l o s p r) rest =
      let last : List Token = b ∷ us in
      let third : List Token = ss ++ last in
      let second : List Token = cs ++ m ∷ third in
      let tail : List Token = ss ++ b ∷ (us ++ rest) in
      let step : List Whole = in_maybe (λ x ts s. in_simple s) p in
      let test : List Whole = in_maybe (λ x ts s. whole s) s in
      let end : Option ℕ = scan false false rest in
      begins_head false t a ((os ++ second) ++ rest) (ap class_of f) (ap class_of g)
      ∙ same_scan true os second rest
      ∙ opening_head o (second ++ rest)
      ∙ under (in_opening o) (large_in false (second ++ rest) or scan false false (second ++ rest)) (first_large (test ++ (step ++ in_stmt r)) or end)
      (ap (λ (l : List Token). large_in false l or scan false false l) (append_assoc cs (m ∷ third) rest)
      ∙ maybe_whole_found s m (third ++ rest) (ap class_of h)
      ∙ under test (scan false false (third ++ rest)) (first_large (step ++ in_stmt r) or end)
      (same_scan false ss last rest ∙ maybe_simple_found p (b ∷ (us ++ rest)) (stop false b (us ++ rest) c.Close (ap class_of l) refl)
      ∙ under step (scan false false (b ∷ (us ++ rest))) (first_large (in_stmt r) or end) (plain false b (us ++ rest) c.Close (ap class_of l) refl ∙ stmt_found r rest)
      ∙ join step (in_stmt r) end)
      ∙ join test (step ++ in_stmt r) end)
      ∙ join (in_opening o) (test ++ (step ++ in_stmt r)) end
  stmt_found (SpellsStmt.break t last g h) rest = plain false t (last ∷ rest) c.Other (ap class_of g) refl ∙ ends last rest (ap class_of h)
  stmt_found (SpellsStmt.continue t last g h) rest = plain false t (last ∷ rest) c.Other (ap class_of g) refl ∙ ends last rest (ap class_of h)
  stmt_found (SpellsStmt.return {ts = ts} t last g h s) rest =
      returns false t ((ts ++ last ∷ []) ++ rest) (ap class_of g) ∙ ap (λ (l : List Token). large_in false l or scan false false l) (append_assoc ts (last ∷ []) rest) ∙ maybe_whole_found s last rest (ap class_of h)
  stmt_found (SpellsStmt.read {ts = ts} t start end g h l s) rest =
      let q = pair end l in
      let tail : List Token = (ts ++ end) ++ rest in
      ap (λ (us : List Token). scan false false (t ∷ us)) (append_assoc start (ts ++ end) rest) ∙ read_start start h t (ap class_of g) tail ∙ same_scan false ts end rest ∙ passes s (inl (omega arith)) false (end ++ rest)
      ∙ under (in_expr s) (scan false false (end ++ rest)) (scan false false rest) (ap (λ (us : List Token). scan false false (us ++ rest)) q.2 ∙ plain false q.0 (q.1 ∷ rest) c.Close (ap class_of q.3) refl ∙ ends q.1 rest (ap class_of q.4))
  stmt_found (SpellsStmt.print t a format comma end f g h l q s) rest =
      let z = pair end q in
      print_ends s t a format comma end rest (ap class_of f) (ap class_of g) (ap class_of h) (ap class_of l) z.0 z.1 z.2 z.3 z.4

  items_found : {xs : List Stmt} {ts : List Token} (s : SpellItems xs ts) (rest : List Token) → scan false false (ts ++ rest) ≡ (first_large (in_items s) or scan false false rest)
  items_found SpellItems.none rest = refl
  items_found (SpellItems.decl_item {ts = ts} {us = us} s r) rest =
      same_scan false ts us rest ∙ decl_found s (us ++ rest) ∙ under (in_decl s) (scan false false (us ++ rest)) (first_large (in_items r) or scan false false rest) (items_found r rest) ∙ join (in_decl s) (in_items r) (scan false false rest)
  items_found (SpellItems.stmt_item {ts = ts} {us = us} s r) rest =
      same_scan false ts us rest ∙ stmt_found s (us ++ rest) ∙ under (in_stmt s) (scan false false (us ++ rest)) (first_large (in_items r) or scan false false rest) (items_found r rest) ∙ join (in_stmt s) (in_items r) (scan false false rest)

-- ---- sources

part_found : {x : Part} {ts : List Token} (s : SpellsPart x ts) (rest : List Token) → scan false false (ts ++ rest) ≡ (first_large (in_part s) or scan false false rest)
part_found (SpellsPart.struct {x = x} {ts = ts} s t a end f g h l r) rest =
    let q = struct_end end l in
    let tail : List Token = (ts ++ end) ++ rest in
    plain false s (t ∷ a ∷ tail) c.Other (ap class_of f) refl ∙ plain false t (a ∷ tail) c.Operand (name_class t.kind x g) refl ∙ plain false a tail c.Other (ap class_of h) refl ∙ same_scan false ts end rest ∙ lists_quiet r (end ++ rest)
    ∙ ap (λ (us : List Token). scan false false (us ++ rest)) q.2 ∙ plain false q.0 (q.1 ∷ rest) c.Other (ap class_of q.3) refl ∙ ends q.1 rest (ap class_of q.4)
  where
    struct_end : (end : List Token) → Are (w.CloseCurly ∷ w.Semicolon ∷ []) end → (b : Token) × (e : Token) × (end ≡ b ∷ e ∷ []) × Is w.CloseCurly b × Is w.Semicolon e
    struct_end [] h = cc
    struct_end (b ∷ []) h = cc
    struct_end (b ∷ e ∷ []) h = (b, e, refl, (let one : b.kind ≡ kind_of w.CloseCurly = cc in one), (let two : e.kind ≡ kind_of w.Semicolon = cc in two))
    struct_end (b ∷ e ∷ x ∷ us) h = cc
part_found (SpellsPart.decl s) rest = decl_found s rest
part_found (SpellsPart.function {hs = hs} {ts = ts} a b g f s r) rest =
    same_scan false hs (a ∷ (ts ++ b ∷ [])) rest ∙ head_quiet s false (a ∷ ((ts ++ b ∷ []) ++ rest)) ∙ plain false a ((ts ++ b ∷ []) ++ rest) c.Other (ap class_of g) refl ∙ same_scan false ts (b ∷ []) rest ∙ items_found r (b ∷ rest) ∙ under (in_items r) (scan false false (b ∷ rest)) (scan false false rest) (plain false b rest c.Other (ap class_of f) refl)
part_found (SpellsPart.prototype {hs = hs} last g s) rest =
    same_scan false hs (last ∷ []) rest ∙ head_quiet s false (last ∷ rest) ∙ ends last rest (ap class_of g)

parts_found : {xs : List Part} {ts : List Token} (s : SpellAll SpellsPart xs ts) (rest : List Token) → scan false false (ts ++ rest) ≡ (first_large (in_all (λ x ts s. in_part s) s) or scan false false rest)
parts_found SpellAll.none rest = refl
parts_found (SpellAll.more {ts = ts} {us = us} s r) rest =
    same_scan false ts us rest ∙ part_found s (us ++ rest) ∙ under (in_part s) (scan false false (us ++ rest)) (first_large (in_all (λ x ts s. in_part s) r) or scan false false rest) (parts_found r rest) ∙ join (in_part s) (in_all (λ x ts s. in_part s) r) (scan false false rest)

or_none : (o : Option ℕ) → (o or None) ≡ o
or_none None = refl
or_none (Some at) = refl

pub tree_found : (t : Tree) (ts : List Token) (s : SpellsTree t ts) → scan false false ts ≡ first_large (wholes s)
tree_found t ts (SpellsTree.tree {ts = us} s) = ap (λ (l : List Token). scan false false l) (sym (append-nil us)) ∙ parts_found s [] ∙ or_none (first_large (in_all (λ x ts s. in_part s) s))
