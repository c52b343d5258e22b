-- The tokens of a text stand one after another, and the parts of an expression within it.
use Rattle.std.proofs.Common.{◌≡◌, ◌≤◌, ℕ, ◌+◌, List, [], ◌∷◌, ◌++◌, length, refl, sym, subst, arith, length-append}
use Rattle.ax_prog.specs.declared.Span.{Span}
use Rattle.ax_prog.specs.declared.tokens.Token.{Token}
use Rattle.ax_lex.specs.Bytes.{Text}
use Rattle.ax_lex.specs.Pieces.{Piece, space, line, block, include, token, text_of, texts, tokens_of, SpellsTokens}
use Rattle.ax_parse_grammar.specs.declared.tree.Expr.{Expr, Name, Number, Unary', Binary', Cond', Index', Member', Arrow', Call'}
use Rattle.ax_parse_grammar.specs.declared.tree.Expr.TheBlock.{more_of-Expr, end_of-Expr, shape-the_row-Expr-0, hidden-the_row-Expr-0, shape-the_row-Expr-1, hidden-the_row-Expr-1}
use Rattle.ax_parse_grammar.specs.Trees.{span_of}
use Rattle.ax_parse_grammar.specs.Terminals.{end_of, extent}
use Rattle.ax_parse_grammar.specs.Expressions.{Spells}
use Rattle.ax_print_fills.specs.Written.{IsPartOf}
use denote.Hole.Carrier

-- from one place to another
abbrev pub Between : ℕ → ℕ → Span → Type 0
Between from to s = (from ≤ s.from) × (s.from ≤ s.to) × (s.to ≤ to)

-- tokens one after another from one place to another
abbrev pub InTurn : ℕ → ℕ → List Token → Type 0
InTurn from to [] = from ≤ to
InTurn from to (t ∷ ts) = (from ≤ t.span.from) × (t.span.from ≤ t.span.to) × InTurn t.span.to to ts

wider : (a b c d : ℕ) (ts : List Token) → a ≤ b → c ≤ d → InTurn b c ts → InTurn a d ts
wider a b c d [] p q h = omega arith
wider a b c d (t ∷ ts) p q h = (omega (arith, h.0), h.1, wider t.span.to t.span.to c d ts (omega arith) q h.2)

-- what stands behind some bytes
behind : (from at : ℕ) (w : Text) (ps : List Piece) → from ≤ at + length w → InTurn (at + length w) ((at + length w) + length (texts ps)) (tokens_of (at + length w) ps) → InTurn from (at + length (w ++ texts ps)) (tokens_of (at + length w) ps)
behind from at w ps le h = wider from (at + length w) ((at + length w) + length (texts ps)) (at + length (w ++ texts ps)) (tokens_of (at + length w) ps) le (omega (arith, length-append w (texts ps))) h

pieces_stand : (at : ℕ) (ps : List Piece) → InTurn at (at + length (texts ps)) (tokens_of at ps)
pieces_stand at [] = omega arith
pieces_stand at (token w kind ∷ ps) = (omega arith, omega arith, behind (at + length w) at w ps (omega arith) (pieces_stand (at + length w) ps))
pieces_stand at (space b ∷ ps) = let w = text_of (space b) in behind at at w ps (omega arith) (pieces_stand (at + length w) ps)
pieces_stand at (line v ∷ ps) = let w = text_of (line v) in behind at at w ps (omega arith) (pieces_stand (at + length w) ps)
pieces_stand at (block v ∷ ps) = let w = text_of (block v) in behind at at w ps (omega arith) (pieces_stand (at + length w) ps)
pieces_stand at (include a b v ∷ ps) = let w = text_of (include a b v) in behind at at w ps (omega arith) (pieces_stand (at + length w) ps)

pub tokens_stand : (bytes : Text) (tokens : List Token) → SpellsTokens bytes tokens → (to : ℕ) × InTurn 0 to tokens
tokens_stand bytes tokens s = (0 + length (texts s.pieces), subst (InTurn 0 (0 + length (texts s.pieces))) (sym s.found) (pieces_stand 0 s.pieces))

-- ---- stretches

through : (a b : ℕ) (ts : List Token) → InTurn a b ts → a ≤ b
through a b [] h = h
through a b (t ∷ ts) h = omega (arith, h.0, h.1, through t.span.to b ts h.2)

pub split : (a b : ℕ) (ts us : List Token) → InTurn a b (ts ++ us) → (at : ℕ) × InTurn a at ts × InTurn at b us
split a b [] us h = (a, omega arith, h)
split a b (t ∷ ts) us h = let r = split t.span.to b ts us h.2 in (r.0, (h.0, h.1, r.1), r.2)

between : (a b c d : ℕ) (s : Span) → a ≤ b → c ≤ d → Between b c s → Between a d s
between a b c d s p q h = (omega (arith, h.0), h.1, omega (arith, h.2))

ends : (a b : ℕ) (ts : List Token) → InTurn a b ts → (a ≤ end_of a ts) × (end_of a ts ≤ b) × InTurn a (end_of a ts) ts
ends a b [] h = (omega arith, h, omega arith)
ends a b (t ∷ ts) h = let r = ends t.span.to b ts h.2 in (omega (arith, h.0, h.1, r.0), r.1, (h.0, h.1, r.2))

-- tokens with one among them stand where they say
pub extent_between : (a b : ℕ) (ts : List Token) (t : Token) (us : List Token) → InTurn a b (ts ++ t ∷ us) → Between a b (extent (ts ++ t ∷ us))
extent_between a b [] t us h = let r = ends t.span.to b us h.2 in (h.0, omega (arith, h.1, r.0), r.1)
extent_between a b (s ∷ ts) t us h = let r = ends s.span.to b (ts ++ t ∷ us) h.2 in (h.0, omega (arith, h.1, r.0), r.1)

pub at_extent : (a b : ℕ) (t : Token) (ts : List Token) → InTurn a b (t ∷ ts) → InTurn (extent (t ∷ ts)).from (extent (t ∷ ts)).to (t ∷ ts)
at_extent a b t ts h = (omega arith, h.1, (ends t.span.to b ts h.2).2)

-- ---- expressions

starts : (ts : List Token) (t : Token) (us : List Token) → (first : Token) × (rest : List Token) × (ts ++ t ∷ us ≡ first ∷ rest)
starts [] t us = (t, us, refl)
starts (s ∷ ts) t us = (s, ts ++ t ∷ us, refl)

-- an expression has a token
pub spelled_starts : {l : ℕ} {x : Expr} {ts : List Token} → Spells l x ts → (first : Token) × (rest : List Token) × (ts ≡ first ∷ rest)
spelled_starts (Spells.name t h) = (t, [], refl)
spelled_starts (Spells.number t h) = (t, [], refl)
spelled_starts (Spells.parens {ts = ts} first last o c p) = (first, ts ++ last ∷ [], refl)
spelled_starts (Spells.index {ts = ts} {us = us} first last le o c p q) = starts ts first (us ++ last ∷ [])
spelled_starts (Spells.member {ts = ts} dot t le d n p) = starts ts dot (t ∷ [])
spelled_starts (Spells.arrow {ts = ts} mark t le d n p) = starts ts mark (t ∷ [])
spelled_starts (Spells.call {ts = ts} {us = us} first last le o c p q) = starts ts first (us ++ last ∷ [])
spelled_starts (Spells.unary {ts = ts} t le o p) = (t, ts, refl)
spelled_starts (Spells.binary {left = left} {right = right} t le o p q) = starts left t right
spelled_starts (Spells.cond {test = test} {then = then} {else = else} question colon q k p r v) = starts test question (then ++ colon ∷ else)

-- an expression and its operands, those of operators on numbers, stand between these places
abbrev Inside : ℕ → ℕ → Expr → Type 0
Inside a b (Name at x) = Between a b at
Inside a b (Number at n) = Between a b at
Inside a b (Unary' at op s (more_of-Expr x end_of-Expr)) = Between a b at × Inside a b x
Inside a b (Binary' at op s (more_of-Expr x end_of-Expr) t (more_of-Expr y end_of-Expr)) = Between a b at × Inside a b x × Inside a b y
Inside a b (Cond' at s (more_of-Expr x end_of-Expr) t (more_of-Expr y end_of-Expr) u (more_of-Expr z end_of-Expr)) = Between a b at × Inside a b x × Inside a b y × Inside a b z
Inside a b (Index' at s row t row2) = Between a b at
Inside a b (Member' at s row x) = Between a b at
Inside a b (Arrow' at s row x) = Between a b at
Inside a b (Call' at s row t row2) = Between a b at

whole_inside : (a b : ℕ) (x : Expr) → Inside a b x → Between a b (span_of x)
whole_inside a b (Name at x) h = h
whole_inside a b (Number at n) h = h
whole_inside a b (Unary' at op s (more_of-Expr x end_of-Expr)) h = h.0
whole_inside a b (Binary' at op s (more_of-Expr x end_of-Expr) t (more_of-Expr y end_of-Expr)) h = h.0
whole_inside a b (Cond' at s (more_of-Expr x end_of-Expr) t (more_of-Expr y end_of-Expr) u (more_of-Expr z end_of-Expr)) h = h.0
whole_inside a b (Index' at s row t row2) h = h
whole_inside a b (Member' at s row x) h = h
whole_inside a b (Arrow' at s row x) h = h
whole_inside a b (Call' at s row t row2) h = h

part_inside : (a b : ℕ) {y x : Expr} → IsPartOf y x → Inside a b x → Between a b (span_of y)
unfolding shape-the_row-Expr-0 hidden-the_row-Expr-0 Carrier.hidden
part_inside a b {y = y} IsPartOf.whole h = whole_inside a b y h
part_inside a b (IsPartOf.operand w) h = part_inside a b w h.1
part_inside a b (IsPartOf.left c w) h = part_inside a b w h.1
part_inside a b (IsPartOf.right c w) h = part_inside a b w h.2
part_inside a b (IsPartOf.test c d w) h = part_inside a b w h.1
part_inside a b (IsPartOf.first c d w) h = part_inside a b w h.2
part_inside a b (IsPartOf.second c d w) h = part_inside a b w h.3

-- an expression stands among its tokens, and so do its operands
spelled_inside : (a b : ℕ) {l : ℕ} {x : Expr} {ts : List Token} → Spells l x ts → InTurn a b ts → Inside a b x
unfolding shape-the_row-Expr-0 hidden-the_row-Expr-0 shape-the_row-Expr-1 hidden-the_row-Expr-1 Carrier.hidden
spelled_inside a b (Spells.name t h) i = i
spelled_inside a b (Spells.number t h) i = i
spelled_inside a b (Spells.parens {ts = ts} first last o c p) i =
    let r = split first.span.to b ts (last ∷ []) i.2 in
    spelled_inside a b p (wider a first.span.to r.0 b ts (omega (arith, i.0, i.1)) (through r.0 b (last ∷ []) r.2) r.1)
spelled_inside a b (Spells.index {ts = ts} {us = us} first last le o c p q) i = extent_between a b ts first (us ++ last ∷ []) i
spelled_inside a b (Spells.member {ts = ts} dot t le d n p) i = extent_between a b ts dot (t ∷ []) i
spelled_inside a b (Spells.arrow {ts = ts} mark t le d n p) i = extent_between a b ts mark (t ∷ []) i
spelled_inside a b (Spells.call {ts = ts} {us = us} first last le o c p q) i = extent_between a b ts first (us ++ last ∷ []) i
spelled_inside a b (Spells.unary {ts = ts} t le o p) i =
    (extent_between a b [] t ts i, spelled_inside a b p (wider a t.span.to b b ts (omega (arith, i.0, i.1)) (omega arith) i.2))
spelled_inside a b (Spells.binary {left = left} {right = right} t le o p q) i =
    let r = split a b left (t ∷ right) i in
    let at : a ≤ t.span.to = omega (arith, through a r.0 left r.1, r.2.0, r.2.1) in (
      extent_between a b left t right i,
      spelled_inside a b p (wider a a r.0 b left (omega arith) (through r.0 b (t ∷ right) r.2) r.1),
      spelled_inside a b q (wider a t.span.to b b right at (omega arith) r.2.2),
    )
spelled_inside a b (Spells.cond {test = test} {then = then} {else = else} question colon q k p r v) i =
    let m = split a b test (question ∷ (then ++ colon ∷ else)) i in
    let n = split question.span.to b then (colon ∷ else) m.2.2 in
    let one : a ≤ question.span.to = omega (arith, through a m.0 test m.1, m.2.0, m.2.1) in
    let two : a ≤ colon.span.to = omega (arith, one, through question.span.to n.0 then n.1, n.2.0, n.2.1) in (
      extent_between a b test question (then ++ colon ∷ else) i,
      spelled_inside a b p (wider a a m.0 b test (omega arith) (through m.0 b (question ∷ (then ++ colon ∷ else)) m.2) m.1),
      spelled_inside a b r (wider a question.span.to n.0 b then one (through n.0 b (colon ∷ else) n.2) n.1),
      spelled_inside a b v (wider a colon.span.to b b else two (omega arith) n.2.2),
    )

-- parts of an expression stand among its tokens
pub part_between : (a b : ℕ) {l : ℕ} {x y : Expr} {ts : List Token} → Spells l x ts → InTurn a b ts → IsPartOf y x → Between a b (span_of y)
part_between a b s i w = part_inside a b w (spelled_inside a b s i)
