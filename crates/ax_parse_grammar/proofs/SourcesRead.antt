-- What is spelled the parser of sources reads, so that a token list spells at most one tree.
use Rattle.std.proofs.Common.{◌≡◌, ℕ, Bool, true, false, is_some, List, [], ◌∷◌, ◌++◌, Some, None, refl, sym, ap, ◌∙◌, append_assoc}
use Rattle.std.proofs.lemmas.Option.{same_Some}
use Rattle.ax_prog.specs.declared.Span.{Span}
use Rattle.ax_prog.specs.declared.tokens.Kind.{Kind}
use Rattle.ax_prog.specs.declared.tokens.Kind.TheVariants as k
use Rattle.ax_prog.specs.declared.tokens.Token.{Token}
use Rattle.ax_parse_grammar.specs.declared.terminals.Terminal.{Terminal}
use Rattle.ax_parse_grammar.specs.declared.terminals.Terminal.TheVariants as w
use Rattle.ax_parse_grammar.specs.declared.tree.Name.{Name}
use Rattle.ax_parse_grammar.specs.declared.tree.Base.{Base}
use Rattle.ax_parse_grammar.specs.declared.tree.Size.{Size}
use Rattle.ax_parse_grammar.specs.declared.tree.Declarator.{Declarator}
use Rattle.ax_parse_grammar.specs.declared.tree.Declared.{Declared}
use Rattle.ax_parse_grammar.specs.declared.tree.Decl.{Decl}
use Rattle.ax_parse_grammar.specs.declared.tree.Returns.{Returns}
use Rattle.ax_parse_grammar.specs.declared.tree.Returns.TheVariants as returns
use Rattle.ax_parse_grammar.specs.declared.tree.Param.{Param}
use Rattle.ax_parse_grammar.specs.declared.tree.Head.{Head}
use Rattle.ax_parse_grammar.specs.declared.tree.Stmt.{Stmt}
use Rattle.ax_parse_grammar.specs.declared.tree.Members.{Members}
use Rattle.ax_parse_grammar.specs.declared.tree.Part.{Part}
use Rattle.ax_parse_grammar.specs.declared.tree.Part.TheVariants as part
use Rattle.ax_parse_grammar.specs.declared.tree.Tree.{Tree}
use Rattle.ax_parse_grammar.specs.Terminals.{kind_of, Is, is, Are, named, extent}
use Rattle.ax_parse_grammar.specs.Declarations.{SpellSeparated, SpellsBase, SpellStars, SpellSizes, SpellsDeclarator, SpellsDeclared, SpellsDecl}
use Rattle.ax_parse_grammar.specs.Sources.{SpellsParam, SpellParams, SpellsReturns, SpellsHead, SpellsMembers, SpellsPart, SpellsTree}
use Rattle.ax_parse_grammar.specs.Reading.{extent_to, after, past, name, until, separated, repeated, Settles}
use Rattle.ax_parse_grammar.specs.ReadDeclarations.{base, stars, sizes, declarator, decl}
use Rattle.ax_parse_grammar.specs.ReadStatements.{items}
use Rattle.ax_parse_grammar.specs.ReadSources.{param_of, head_of, members_of, tree_of, param, params, returned, head, members, ends_members, struct_ahead, head_ahead, top, ends_source, source}
use Rattle.ax_parse_grammar.proofs.Tools.{after_is, after_none, after_other, past_is, name_is, span_to, extent_to_is, also_1, also_2, settles_at, settles_one, until_turn, separated_reads, repeated_reads}
use Rattle.ax_parse_grammar.proofs.ExpressionsRead.{First, first_then, after_first}
use Rattle.ax_parse_grammar.proofs.DeclarationsRead.{Ended, ended_close, ended_comma, ended_semicolon, base_reads, stars_read, name_no_star, sizes_read, declarator_reads, decl_reads}
use Rattle.ax_parse_grammar.proofs.StatementsRead.{declares, base_first, decl_first, items_read}

-- ---- heads

sizes_first : (f : Bool) (xs : List Size) (ts : List Token) → SpellSizes f xs ts → (what : Terminal) (rest : List Token) → is what (kind_of w.OpenSquare) ≡ false → after what rest ≡ None → after what (ts ++ rest) ≡ None
sizes_first f xs ts SpellSizes.none what rest other off = off
sizes_first f xs ts (SpellSizes.given {ts = us} a t b h j l s) what rest other off = after_other what w.OpenSquare a (t ∷ b ∷ (us ++ rest)) h other
sizes_first f xs ts (SpellSizes.empty {ts = us} a b h l s) what rest other off = after_other what w.OpenSquare a (b ∷ (us ++ rest)) h other

sizes_nameless : (f : Bool) (xs : List Size) (ts : List Token) → SpellSizes f xs ts → (rest : List Token) → name rest ≡ None → name (ts ++ rest) ≡ None
sizes_nameless f xs ts SpellSizes.none rest off = off
sizes_nameless f xs ts (SpellSizes.given {ts = us} a t b h j l s) rest off = rw h refl
sizes_nameless f xs ts (SpellSizes.empty {ts = us} a b h l s) rest off = rw h refl

named_turn : (n : ℕ) (ts us vs ws rest : List Token) (b : Base) (i : ℕ) (x : Name) (xs : List Size) (at : Span) → base ts ≡ Some (b, us) → stars us ≡ (i, vs) → name vs ≡ Some (x, ws) → sizes n true ws ≡ Some (xs, rest) → extent_to ts rest ≡ at → param n ts ≡ Some (param_of at b i (Some x) xs, rest)
named_turn n ts us vs ws rest b i x xs at one two three four span = rw one (rw two (rw three (rw four (rw span refl))))

nameless_turn : (n : ℕ) (ts us vs rest : List Token) (b : Base) (i : ℕ) (xs : List Size) (at : Span) → base ts ≡ Some (b, us) → stars us ≡ (i, vs) → name vs ≡ None → sizes n true vs ≡ Some (xs, rest) → extent_to ts rest ≡ at → param n ts ≡ Some (param_of at b i None xs, rest)
nameless_turn n ts us vs rest b i xs at one two three four span = rw one (rw two (rw three (rw four (rw span refl))))

param_reads : (x : Param) (ts : List Token) → SpellsParam x ts → (rest : List Token) → Ended rest → Settles (λ n. param n (ts ++ rest)) (Some (x, rest))
param_reads x ts (SpellsParam.with_name {base = b} {n = i} {x = y} {xs = xs} {bs = bs} {stars = ss} {ts = us} t h s r q) rest ended =
    let tail : List Token = t ∷ (us ++ rest) in
    let flat : List Token = bs ++ (ss ++ tail) in
    let front : List Token = bs ++ (ss ++ t ∷ us) in
    let same : flat ≡ front ++ rest = ap (λ (w : List Token). bs ++ w) (sym (append_assoc ss (t ∷ us) rest)) ∙ sym (append_assoc bs (ss ++ t ∷ us) rest) in
    settles_at param flat (front ++ rest) (Some (param_of (extent front) b i (Some (named t y)) xs, rest)) same (also_1 (λ n. sizes n true (us ++ rest)) (Some (xs, rest)) (λ n. param n flat) (Some (param_of (extent front) b i (Some (named t y)) xs, rest)) (sizes_read true xs us q true (λ leave. leave) rest ended.square) (λ n one. named_turn n flat (ss ++ tail) tail (us ++ rest) rest b i (named t y) xs (extent front) (base_reads b bs s (ss ++ tail)) (stars_read i ss r tail (name_no_star t y (us ++ rest) h)) (name_is t y (us ++ rest) h) one (span_to flat front rest same)))
param_reads x ts (SpellsParam.nameless {base = b} {n = i} {xs = xs} {bs = bs} {stars = ss} {ts = us} s r q) rest ended =
    let tail : List Token = us ++ rest in
    let flat : List Token = bs ++ (ss ++ tail) in
    let front : List Token = bs ++ (ss ++ us) in
    let same : flat ≡ front ++ rest = ap (λ (w : List Token). bs ++ w) (sym (append_assoc ss us rest)) ∙ sym (append_assoc bs (ss ++ us) rest) in
    settles_at param flat (front ++ rest) (Some (param_of (extent front) b i None xs, rest)) same (also_1 (λ n. sizes n true tail) (Some (xs, rest)) (λ n. param n flat) (Some (param_of (extent front) b i None xs, rest)) (sizes_read true xs us q true (λ leave. leave) rest ended.square) (λ n one. nameless_turn n flat (ss ++ tail) tail rest b i xs (extent front) (base_reads b bs s (ss ++ tail)) (stars_read i ss r tail (sizes_first true xs us q w.Star rest refl ended.star)) (sizes_nameless true xs us q rest ended.name) one (span_to flat front rest same)))

param_first : (x : Param) (ts : List Token) → SpellsParam x ts → First declares ts
param_first x ts (SpellsParam.with_name {bs = bs} {stars = ss} {ts = us} t h s r q) = first_then declares bs (ss ++ t ∷ us) (base_first s)
param_first x ts (SpellsParam.nameless {bs = bs} {stars = ss} {ts = us} s r q) = first_then declares bs (ss ++ us) (base_first s)

params_first : (xs : List Param) (ts : List Token) → SpellSeparated SpellsParam xs ts → First declares ts
params_first xs ts (SpellSeparated.one {x = x} {ts = us} s) = param_first x us s
params_first xs ts (SpellSeparated.more {x = x} {ts = us} {us = vs} c h s r) = first_then declares us (c ∷ vs) (param_first x us s)

no_params : (n : ℕ) (ts rest : List Token) → after w.CloseRound ts ≡ Some rest → params n ts ≡ Some ([], rest)
no_params n ts rest is = rw is refl

void_params : (n : ℕ) (ts us rest : List Token) → after w.CloseRound ts ≡ None → after w.Void ts ≡ Some us → after w.CloseRound us ≡ Some rest → params n ts ≡ Some ([], rest)
void_params n ts us rest off is one = rw off (rw is (rw one refl))

some_params : (n : ℕ) (ts rest : List Token) (xs : List Param) → after w.CloseRound ts ≡ None → after w.Void ts ≡ None → until w.CloseRound (separated param n) ts ≡ Some (xs, rest) → params n ts ≡ Some (xs, rest)
some_params n ts rest xs off none is = rw off (rw none is)

-- up to and with `)`
params_read : (xs : List Param) (ts : List Token) → SpellParams xs ts → (t : Token) (rest : List Token) → Is w.CloseRound t → Settles (λ n. params n (ts ++ t ∷ rest)) (Some (xs, rest))
params_read xs ts SpellParams.nothing t rest h = (0, λ m le. no_params m (t ∷ rest) rest (after_is w.CloseRound t rest h))
params_read xs ts (SpellParams.void u g) t rest h = (0, λ m le. void_params m (u ∷ t ∷ rest) (t ∷ rest) rest (after_other w.CloseRound w.Void u (t ∷ rest) g refl) (after_is w.Void u (t ∷ rest) g) (after_is w.CloseRound t rest h))
params_read xs ts (SpellParams.some {xs = ys} {ts = us} s) t rest h =
    let f = params_first ys us s in
    also_1 (λ n. separated param n (us ++ t ∷ rest)) (Some (ys, t ∷ rest)) (λ n. params n (us ++ t ∷ rest)) (Some (ys, rest)) (separated_reads SpellsParam Ended param param_reads ended_comma ys us s (t ∷ rest) (ended_close t rest h) (after_other w.Comma w.CloseRound t rest h refl)) (λ n one. some_params n (us ++ t ∷ rest) rest ys (after_first declares w.CloseRound us (t ∷ rest) f refl) (after_first declares w.Void us (t ∷ rest) f refl) (until_turn w.CloseRound (separated param n) (us ++ t ∷ rest) (t ∷ rest) rest ys one (after_is w.CloseRound t rest h)))

void_turn : (ts us : List Token) (at : Span) → after w.Void ts ≡ Some us → extent_to ts us ≡ at → returned ts ≡ Some (returns.Void at, us)
void_turn ts us at is span = rw is (rw span refl)

of_turn : (ts us : List Token) (b : Base) → after w.Void ts ≡ None → base ts ≡ Some (b, us) → returned ts ≡ Some (returns.Of b, us)
of_turn ts us b off is = rw off (rw is refl)

returned_reads : (r : Returns) (ts : List Token) → SpellsReturns r ts → (rest : List Token) → returned (ts ++ rest) ≡ Some (r, rest)
returned_reads r ts (SpellsReturns.void t h) rest = void_turn (t ∷ rest) rest t.span (after_is w.Void t rest h) (extent_to_is (t ∷ []) rest)
returned_reads r ts (SpellsReturns.base {base = b} {ts = us} s) rest = of_turn (us ++ rest) rest b (after_first declares w.Void us rest (base_first s) refl) (base_reads b us s rest)

head_turn : (n : ℕ) (ts us vs ws xs rest : List Token) (r : Returns) (i : ℕ) (x : Name) (ps : List Param) (at : Span) → returned ts ≡ Some (r, us) → stars us ≡ (i, vs) → name vs ≡ Some (x, ws) → after w.OpenRound ws ≡ Some xs → params n xs ≡ Some (ps, rest) → extent_to ts rest ≡ at → head n ts ≡ Some (head_of at r i x ps, rest)
head_turn n ts us vs ws xs rest r i x ps at one two three four five span = rw one (rw two (rw three (rw four (rw five (rw span refl)))))

head_reads : (h : Head) (ts : List Token) → SpellsHead h ts → (rest : List Token) → Settles (λ n. head n (ts ++ rest)) (Some (h, rest))
head_reads h ts (SpellsHead.head {r = r} {n = i} {x = y} {xs = ps} {rs = rs} {stars = ss} {ts = us} t a b g j l s q p) rest =
    let inside : List Token = us ++ b ∷ rest in
    let tail : List Token = t ∷ a ∷ inside in
    let flat : List Token = rs ++ (ss ++ tail) in
    let back : List Token = t ∷ a ∷ (us ++ b ∷ []) in
    let front : List Token = rs ++ (ss ++ back) in
    let inner : tail ≡ back ++ rest = ap (λ (w : List Token). t ∷ a ∷ w) (sym (append_assoc us (b ∷ []) rest)) in
    let same : flat ≡ front ++ rest = ap (λ (w : List Token). rs ++ w) (ap (λ (w : List Token). ss ++ w) inner ∙ sym (append_assoc ss back rest)) ∙ sym (append_assoc rs (ss ++ back) rest) in
    settles_at head flat (front ++ rest) (Some (head_of (extent front) r i (named t y) ps, rest)) same (also_1 (λ n. params n inside) (Some (ps, rest)) (λ n. head n flat) (Some (head_of (extent front) r i (named t y) ps, rest)) (params_read ps us p b rest l) (λ n one. head_turn n flat (ss ++ tail) tail (a ∷ inside) inside rest r i (named t y) ps (extent front) (returned_reads r rs s (ss ++ tail)) (stars_read i ss q tail (name_no_star t y (a ∷ inside) g)) (name_is t y (a ∷ inside) g) (after_is w.OpenRound a inside j) one (span_to flat front rest same)))

-- ---- what comes first at the top

-- stars and a name, and no `(` behind it
record Names (ts : List Token) : Type 0 where
  n : ℕ
  text : List ℕ
  starred : List Token
  t : Token
  tail : List Token
  joined : ts ≡ starred ++ t ∷ tail
  spelled : SpellStars n starred
  is_name : t.kind ≡ k.Name text
  off : (rest : List Token) → after w.OpenRound rest ≡ None → after w.OpenRound (tail ++ rest) ≡ None

declarator_names : (f : Bool) (d : Declarator) (ts : List Token) → SpellsDeclarator f d ts → Names ts
declarator_names f d ts (SpellsDeclarator.declarator {n = i} {x = x} {xs = xs} {stars = ss} {ts = us} t h s r) = record { n = i; text = x; starred = ss; t = t; tail = us; joined = refl; spelled = s; is_name = h; off = λ rest off. sizes_first f xs us r w.OpenRound rest refl off }

names_then : (ts us : List Token) → Names ts → after w.OpenRound us ≡ None → ((rest : List Token) → after w.OpenRound (us ++ rest) ≡ None) → Names (ts ++ us)
names_then ts us x off more = record { n = x.n; text = x.text; starred = x.starred; t = x.t; tail = x.tail ++ us; joined = ap (λ (w : List Token). w ++ us) x.joined ∙ append_assoc x.starred (x.t ∷ x.tail) us; spelled = x.spelled; is_name = x.is_name; off = λ rest none. ap (after w.OpenRound) (append_assoc x.tail us rest) ∙ x.off (us ++ rest) (more rest) }

-- a terminal other than `(` stands behind them
names_mark : (ts us : List Token) (what : Terminal) (t : Token) → Names ts → Is what t → is w.OpenRound (kind_of what) ≡ false → Names (ts ++ t ∷ us)
names_mark ts us what t x h other = names_then ts (t ∷ us) x (after_other w.OpenRound what t us h other) (λ rest. after_other w.OpenRound what t (us ++ rest) h other)

declared_names : (x : Declared) (ts : List Token) → SpellsDeclared x ts → Names ts
declared_names x ts (SpellsDeclared.plain {d = d} {ts = us} s) = declarator_names false d us s
declared_names x ts (SpellsDeclared.value {d = d} {ts = us} {us = vs} t h s r) = names_mark us vs w.Assign t (declarator_names false d us s) h refl
declared_names x ts (SpellsDeclared.list {d = d} {ts = us} {us = vs} t a b h g l s r) = names_mark us (a ∷ (vs ++ b ∷ [])) w.Assign t (declarator_names true d us s) h refl

items_names : (xs : List Declared) (ts : List Token) → SpellSeparated SpellsDeclared xs ts → Names ts
items_names xs ts (SpellSeparated.one {x = x} {ts = us} s) = declared_names x us s
items_names xs ts (SpellSeparated.more {x = x} {ts = us} {us = vs} c h s r) = names_mark us vs w.Comma c (declared_names x us s) h refl

-- stars and a name are no `{`
stars_first : (n : ℕ) (ts : List Token) → SpellStars n ts → (t : Token) (x : List ℕ) (rest : List Token) → t.kind ≡ k.Name x → after w.OpenCurly (ts ++ t ∷ rest) ≡ None
stars_first n ts SpellStars.none t x rest h = after_none w.OpenCurly t rest (ap (is w.OpenCurly) h)
stars_first n ts (SpellStars.more {ts = us} u g s) t x rest h = after_other w.OpenCurly w.Star u (us ++ t ∷ rest) g refl

no_struct_turn : (ts us vs : List Token) (x : Name) → after w.Struct ts ≡ Some us → name us ≡ Some (x, vs) → after w.OpenCurly vs ≡ None → struct_ahead ts ≡ None
no_struct_turn ts us vs x is one off = rw is (rw one (rw off refl))

no_struct_other : (ts : List Token) → after w.Struct ts ≡ None → struct_ahead ts ≡ None
no_struct_other ts off = rw off refl

base_no_struct : (b : Base) (bs : List Token) → SpellsBase b bs → (rest : List Token) → after w.OpenCurly rest ≡ None → struct_ahead (bs ++ rest) ≡ None
base_no_struct b bs (SpellsBase.int t h) rest off = no_struct_other (t ∷ rest) (after_other w.Struct w.Int t rest h refl)
base_no_struct b bs (SpellsBase.struct {x = x} s t h g) rest off = no_struct_turn (s ∷ t ∷ rest) (t ∷ rest) rest (named t x) (after_is w.Struct s (t ∷ rest) h) (name_is t x rest g) off

returned_no_struct : (r : Returns) (ts : List Token) → SpellsReturns r ts → (rest : List Token) → after w.OpenCurly rest ≡ None → struct_ahead (ts ++ rest) ≡ None
returned_no_struct r ts (SpellsReturns.void t h) rest off = no_struct_other (t ∷ rest) (after_other w.Struct w.Void t rest h refl)
returned_no_struct r ts (SpellsReturns.base {base = b} {ts = us} s) rest off = base_no_struct b us s rest off

head_void_turn : (ts us : List Token) → after w.Void ts ≡ Some us → head_ahead ts ≡ true
head_void_turn ts us is = rw is refl

head_base_turn : (ts us vs ws : List Token) (b : Base) (i : ℕ) (x : Name) → after w.Void ts ≡ None → base ts ≡ Some (b, us) → stars us ≡ (i, vs) → name vs ≡ Some (x, ws) → head_ahead ts ≡ is_some (after w.OpenRound ws)
head_base_turn ts us vs ws b i x off one two three = rw off (rw one (rw two (rw three refl)))

returned_ahead : (r : Returns) (ts : List Token) → SpellsReturns r ts → (us vs ws : List Token) (i : ℕ) (x : Name) → stars us ≡ (i, vs) → name vs ≡ Some (x, ws) → is_some (after w.OpenRound ws) ≡ true → head_ahead (ts ++ us) ≡ true
returned_ahead r ts (SpellsReturns.void t h) us vs ws i x one two three = head_void_turn (t ∷ us) us (after_is w.Void t us h)
returned_ahead r ts (SpellsReturns.base {base = b} {ts = bs} s) us vs ws i x one two three = head_base_turn (bs ++ us) us vs ws b i x (after_first declares w.Void bs us (base_first s) refl) (base_reads b bs s us) one two ∙ three

-- what stands first of a head
record Heads (ts : List Token) : Type 0 where
  no_struct : (rest : List Token) → struct_ahead (ts ++ rest) ≡ None
  ahead : (rest : List Token) → head_ahead (ts ++ rest) ≡ true

head_heads : (h : Head) (ts : List Token) → SpellsHead h ts → Heads ts
head_heads h ts (SpellsHead.head {r = r} {n = i} {x = y} {rs = rs} {stars = ss} {ts = us} t a b g j l s q p) =
    let back : List Token = t ∷ a ∷ (us ++ b ∷ []) in
    record {
      no_struct = λ rest. ap struct_ahead (append_assoc rs (ss ++ back) rest ∙ ap (λ (w : List Token). rs ++ w) (append_assoc ss back rest)) ∙ returned_no_struct r rs s (ss ++ (back ++ rest)) (stars_first i ss q t y (a ∷ ((us ++ b ∷ []) ++ rest)) g);
      ahead = λ rest. ap head_ahead (append_assoc rs (ss ++ back) rest ∙ ap (λ (w : List Token). rs ++ w) (append_assoc ss back rest)) ∙ returned_ahead r rs s (ss ++ (back ++ rest)) (back ++ rest) (a ∷ ((us ++ b ∷ []) ++ rest)) i (named t y) (stars_read i ss q (back ++ rest) (name_no_star t y (a ∷ ((us ++ b ∷ []) ++ rest)) g)) (name_is t y (a ∷ ((us ++ b ∷ []) ++ rest)) g) (ap is_some (after_is w.OpenRound a ((us ++ b ∷ []) ++ rest) j));
    }

-- and of a declaration
record Decls (ts : List Token) : Type 0 where
  no_struct : (rest : List Token) → struct_ahead (ts ++ rest) ≡ None
  behind : (rest : List Token) → head_ahead (ts ++ rest) ≡ false

decl_decls : (d : Decl) (ts : List Token) → SpellsDecl d ts → Decls ts
decl_decls d ts (SpellsDecl.decl {base = b} {xs = xs} {bs = bs} {ts = us} u h s r) =
    let x = items_names xs us r in
    let flat : List Token → List Token = λ rest. x.starred ++ (x.t ∷ (x.tail ++ u ∷ rest)) in
    let inner : (rest : List Token) → (us ++ u ∷ []) ++ rest ≡ flat rest = λ rest. append_assoc us (u ∷ []) rest ∙ ap (λ (w : List Token). w ++ u ∷ rest) x.joined ∙ append_assoc x.starred (x.t ∷ x.tail) (u ∷ rest) in
    let same : (rest : List Token) → (bs ++ (us ++ u ∷ [])) ++ rest ≡ bs ++ flat rest = λ rest. append_assoc bs (us ++ u ∷ []) rest ∙ ap (λ (w : List Token). bs ++ w) (inner rest) in
    record {
      no_struct = λ rest. ap struct_ahead (same rest) ∙ base_no_struct b bs s (flat rest) (stars_first x.n x.starred x.spelled x.t x.text (x.tail ++ u ∷ rest) x.is_name);
      behind = λ rest. ap head_ahead (same rest) ∙ head_base_turn (bs ++ flat rest) (flat rest) (x.t ∷ (x.tail ++ u ∷ rest)) (x.tail ++ u ∷ rest) b x.n (named x.t x.text) (after_first declares w.Void bs (flat rest) (base_first s) refl) (base_reads b bs s (flat rest)) (stars_read x.n x.starred x.spelled (x.t ∷ (x.tail ++ u ∷ rest)) (name_no_star x.t x.text (x.tail ++ u ∷ rest) x.is_name)) (name_is x.t x.text (x.tail ++ u ∷ rest) x.is_name) ∙ ap is_some (x.off (u ∷ rest) (after_other w.OpenRound w.Semicolon u rest h refl));
    }

-- ---- parts

members_turn : (n : ℕ) (ts us vs rest : List Token) (b : Base) (xs : List Declarator) (at : Span) → base ts ≡ Some (b, us) → separated (declarator false) n us ≡ Some (xs, vs) → after w.Semicolon vs ≡ Some rest → extent_to ts rest ≡ at → members n ts ≡ Some (members_of at b xs, rest)
members_turn n ts us vs rest b xs at one two three span = rw one (rw two (rw three (rw span refl)))

members_read : (x : Members) (ts : List Token) → SpellsMembers x ts → (rest : List Token) → Settles (λ n. members n (ts ++ rest)) (Some (x, rest))
members_read x ts (SpellsMembers.members {base = b} {xs = xs} {bs = bs} {ts = us} t h s r) rest =
    let flat : List Token = bs ++ (us ++ t ∷ rest) in
    let front : List Token = bs ++ (us ++ t ∷ []) in
    let same : flat ≡ front ++ rest = ap (λ (w : List Token). bs ++ w) (sym (append_assoc us (t ∷ []) rest)) ∙ sym (append_assoc bs (us ++ t ∷ []) rest) in
    let one_reads : (d : Declarator) (vs : List Token) → SpellsDeclarator false d vs → (more : List Token) → Ended more → Settles (λ n. declarator false n (vs ++ more)) (Some (d, more)) = λ d vs q more ended. declarator_reads false d vs q false (λ leave. leave) more ended.square in
    settles_at members flat (front ++ rest) (Some (members_of (extent front) b xs, rest)) same (also_1 (λ n. separated (declarator false) n (us ++ t ∷ rest)) (Some (xs, t ∷ rest)) (λ n. members n flat) (Some (members_of (extent front) b xs, rest)) (separated_reads (SpellsDeclarator false) Ended (declarator false) one_reads ended_comma xs us r (t ∷ rest) (ended_semicolon t rest h) (after_other w.Comma w.Semicolon t rest h refl)) (λ n one. members_turn n flat (us ++ t ∷ rest) (t ∷ rest) rest b xs (extent front) (base_reads b bs s (us ++ t ∷ rest)) one (after_is w.Semicolon t rest h) (span_to flat front rest same)))

members_go_on : (x : Members) (ts : List Token) → SpellsMembers x ts → (rest : List Token) → ends_members (ts ++ rest) ≡ false
members_go_on x ts (SpellsMembers.members {bs = bs} {ts = us} t h s r) rest = ap is_some (after_first declares w.CloseCurly (bs ++ (us ++ t ∷ [])) rest (first_then declares bs (us ++ t ∷ []) (base_first s)) refl)

struct_turn : (n : ℕ) (ts us vs rest : List Token) (x : Name) (xs : List Members) (at : Span) → struct_ahead ts ≡ Some (x, us) → repeated ends_members members n us ≡ Some (xs, vs) → past (w.CloseCurly ∷ w.Semicolon ∷ []) vs ≡ Some rest → extent_to ts rest ≡ at → top n ts ≡ Some (part.Struct at x xs, rest)
struct_turn n ts us vs rest x xs at is one two span = rw is (rw one (rw two (rw span refl)))

decl_turn : (n : ℕ) (ts rest : List Token) (d : Decl) → struct_ahead ts ≡ None → head_ahead ts ≡ false → decl n ts ≡ Some (d, rest) → top n ts ≡ Some (part.Decl d, rest)
decl_turn n ts rest d off none one = rw off (rw none (rw one refl))

prototype_turn : (n : ℕ) (ts us rest : List Token) (h : Head) (at : Span) → struct_ahead ts ≡ None → head_ahead ts ≡ true → head n ts ≡ Some (h, us) → after w.Semicolon us ≡ Some rest → extent_to ts rest ≡ at → top n ts ≡ Some (part.Prototype at h, rest)
prototype_turn n ts us rest h at off is one two span = rw off (rw is (rw one (rw two (rw span refl))))

function_turn : (n : ℕ) (ts us vs rest : List Token) (h : Head) (xs : List Stmt) (at : Span) → struct_ahead ts ≡ None → head_ahead ts ≡ true → head n ts ≡ Some (h, us) → after w.Semicolon us ≡ None → after w.OpenCurly us ≡ Some vs → items n vs ≡ Some (xs, rest) → extent_to ts rest ≡ at → top n ts ≡ Some (part.Function at h xs, rest)
function_turn n ts us vs rest h xs at off is one two three four span = rw off (rw is (rw one (rw two (rw three (rw four (rw span refl))))))

ahead_turn : (ts us vs ws : List Token) (x : Name) → after w.Struct ts ≡ Some us → name us ≡ Some (x, vs) → after w.OpenCurly vs ≡ Some ws → struct_ahead ts ≡ Some (x, ws)
ahead_turn ts us vs ws x one two three = rw one (rw two (rw three refl))

end_members : (end rest : List Token) → Are (w.CloseCurly ∷ w.Semicolon ∷ []) end → ends_members (end ++ rest) ≡ true
end_members [] rest h = cc
end_members (t ∷ end) rest h = let e : t.kind ≡ kind_of w.CloseCurly = cc in ap is_some (after_is w.CloseCurly t (end ++ rest) e)

top_reads : (x : Part) (ts : List Token) → SpellsPart x ts → (rest : List Token) → Settles (λ n. top n (ts ++ rest)) (Some (x, rest))
top_reads x ts (SpellsPart.struct {x = y} {xs = xs} {ts = us} u t a end h g l j q) rest =
    let inside : List Token = us ++ (end ++ rest) in
    let flat : List Token = u ∷ t ∷ a ∷ inside in
    let front : List Token = u ∷ t ∷ a ∷ (us ++ end) in
    let same : flat ≡ front ++ rest = ap (λ (w : List Token). u ∷ t ∷ a ∷ w) (sym (append_assoc us end rest)) in
    settles_at top flat (front ++ rest) (Some (part.Struct (extent front) (named t y) xs, rest)) same (also_1 (λ n. repeated ends_members members n inside) (Some (xs, end ++ rest)) (λ n. top n flat) (Some (part.Struct (extent front) (named t y) xs, rest)) (repeated_reads SpellsMembers ends_members members members_read members_go_on xs us q (end ++ rest) (end_members end rest j)) (λ n one. struct_turn n flat inside (end ++ rest) rest (named t y) xs (extent front) (ahead_turn flat (t ∷ a ∷ inside) (a ∷ inside) inside (named t y) (after_is w.Struct u (t ∷ a ∷ inside) h) (name_is t y (a ∷ inside) g) (after_is w.OpenCurly a inside l)) one (past_is (w.CloseCurly ∷ w.Semicolon ∷ []) end rest j) (span_to flat front rest same)))
top_reads x ts (SpellsPart.decl {d = d} {ts = us} s) rest =
    let f = decl_decls d us s in
    also_1 (λ n. decl n (us ++ rest)) (Some (d, rest)) (λ n. top n (us ++ rest)) (Some (part.Decl d, rest)) (decl_reads d us s rest) (λ n one. decl_turn n (us ++ rest) rest d (f.no_struct rest) (f.behind rest) one)
top_reads x ts (SpellsPart.function {h = h} {xs = xs} {hs = hs} {ts = us} a b g l s r) rest =
    let f = head_heads h hs s in
    let inside : List Token = us ++ b ∷ rest in
    let flat : List Token = hs ++ (a ∷ inside) in
    let back : List Token = a ∷ (us ++ b ∷ []) in
    let same : flat ≡ (hs ++ back) ++ rest = ap (λ (w : List Token). hs ++ a ∷ w) (sym (append_assoc us (b ∷ []) rest)) ∙ sym (append_assoc hs back rest) in
    settles_at top flat ((hs ++ back) ++ rest) (Some (part.Function (extent (hs ++ back)) h xs, rest)) same (also_2 (λ n. head n flat) (Some (h, a ∷ inside)) (λ n. items n inside) (Some (xs, rest)) (λ n. top n flat) (Some (part.Function (extent (hs ++ back)) h xs, rest)) (head_reads h hs s (a ∷ inside)) (items_read r b rest l) (λ n one two. function_turn n flat (a ∷ inside) inside rest h xs (extent (hs ++ back)) (f.no_struct (a ∷ inside)) (f.ahead (a ∷ inside)) one (after_other w.Semicolon w.OpenCurly a inside g refl) (after_is w.OpenCurly a inside g) two (span_to flat (hs ++ back) rest same)))
top_reads x ts (SpellsPart.prototype {h = h} {hs = hs} t g s) rest =
    let f = head_heads h hs s in
    let flat : List Token = hs ++ (t ∷ rest) in
    let same : flat ≡ (hs ++ t ∷ []) ++ rest = sym (append_assoc hs (t ∷ []) rest) in
    settles_at top flat ((hs ++ t ∷ []) ++ rest) (Some (part.Prototype (extent (hs ++ t ∷ [])) h, rest)) same (also_1 (λ n. head n flat) (Some (h, t ∷ rest)) (λ n. top n flat) (Some (part.Prototype (extent (hs ++ t ∷ [])) h, rest)) (head_reads h hs s (t ∷ rest)) (λ n one. prototype_turn n flat (t ∷ rest) rest h (extent (hs ++ t ∷ [])) (f.no_struct (t ∷ rest)) (f.ahead (t ∷ rest)) one (after_is w.Semicolon t rest g) (span_to flat (hs ++ t ∷ []) rest same)))

-- no part is empty
abbrev any : Kind → Bool
any kind = true

returned_first : (r : Returns) (ts : List Token) → SpellsReturns r ts → First any ts
returned_first r ts (SpellsReturns.void t h) = record { t = t; rest = []; is = refl; holds = refl }
returned_first r ts (SpellsReturns.base s) = let f = base_first s in record { t = f.t; rest = f.rest; is = f.is; holds = refl }

head_first : (h : Head) (ts : List Token) → SpellsHead h ts → First any ts
head_first h ts (SpellsHead.head {r = r} {rs = rs} {stars = ss} {ts = us} t a b g j l s q p) = first_then any rs (ss ++ t ∷ a ∷ (us ++ b ∷ [])) (returned_first r rs s)

part_first : (x : Part) (ts : List Token) → SpellsPart x ts → First any ts
part_first x ts (SpellsPart.struct {ts = us} u t a end h g l j q) = record { t = u; rest = t ∷ a ∷ (us ++ end); is = refl; holds = refl }
part_first x ts (SpellsPart.decl {d = d} {ts = us} s) = let f = decl_first d us s in record { t = f.t; rest = f.rest; is = f.is; holds = refl }
part_first x ts (SpellsPart.function {h = h} {hs = hs} {ts = us} a b g l s r) = first_then any hs (a ∷ (us ++ b ∷ [])) (head_first h hs s)
part_first x ts (SpellsPart.prototype {h = h} {hs = hs} t g s) = first_then any hs (t ∷ []) (head_first h hs s)

parts_go_on : (x : Part) (ts : List Token) → SpellsPart x ts → (rest : List Token) → ends_source (ts ++ rest) ≡ false
parts_go_on x ts s rest = let f = part_first x ts s in ap (λ (w : List Token). ends_source (w ++ rest)) f.is

source_turn : (n : ℕ) (ts : List Token) (xs : List Part) (at : Span) → repeated ends_source top n ts ≡ Some (xs, []) → extent_to ts [] ≡ at → source n ts ≡ Some (tree_of at xs, [])
source_turn n ts xs at one span = rw one (rw span refl)

pub source_reads : (x : Tree) (ts : List Token) → SpellsTree x ts → Settles (λ n. source n (ts ++ [])) (Some (x, []))
source_reads x ts (SpellsTree.tree {xs = xs} {ts = us} s) = also_1 (λ n. repeated ends_source top n (us ++ [])) (Some (xs, [])) (λ n. source n (us ++ [])) (Some (tree_of (extent us) xs, [])) (repeated_reads SpellsPart ends_source top top_reads parts_go_on xs us s [] refl) (λ n one. source_turn n (us ++ []) xs (extent us) one (extent_to_is us []))

-- a token list spells at most one tree
pub one_source : (x y : Tree) (ts : List Token) → SpellsTree x ts → SpellsTree y ts → x ≡ y
one_source x y ts a b = ap (λ (f : Tree × List Token). f.0) (same_Some (x, []) (y, []) (settles_one (λ n. source n (ts ++ [])) (Some (x, [])) (Some (y, [])) (source_reads x ts a) (source_reads y ts b)))
