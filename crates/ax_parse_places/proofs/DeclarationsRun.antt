-- What a declaration's parts go on with: each declaration that is spelled.
use Rattle.std.proofs.Common.{◌≡◌, ℕ, Bool, true, false, List, [], ◌∷◌, ◌++◌, Option, Some, None, refl, sym, ap, ◌∙◌, arith, ◌⊎◌, inl, inr}
use Rattle.std.proofs.lemmas.Option.{none-some}
use Rattle.ax_prog.specs.declared.tokens.Keyword.TheVariants as kw
use Rattle.ax_prog.specs.declared.tokens.Mark.TheVariants as m
use Rattle.ax_prog.specs.declared.tokens.Kind.{Kind}
use Rattle.ax_prog.specs.declared.tokens.Kind.TheVariants as k
use Rattle.ax_prog.specs.declared.tokens.Token.{Token}
use Rattle.ax_parse_grammar.specs.declared.terminals.Terminal.TheVariants as w
use Rattle.ax_parse_grammar.specs.declared.tree.Base.{Base}
use Rattle.ax_parse_grammar.specs.declared.tree.Size.{Size}
use Rattle.ax_parse_grammar.specs.declared.tree.Signed.{Signed}
use Rattle.ax_parse_grammar.specs.declared.tree.Declared.{Declared}
use Rattle.ax_parse_grammar.specs.declared.tree.Decl.{Decl}
use Rattle.ax_parse_grammar.specs.Terminals.{Is, is}
use Rattle.ax_parse_grammar.specs.Declarations.{SpellSeparated, SpellsBase, SpellStars, SpellSizes, SpellsDeclarator, SpellsSigned, SpellNumbers, SpellsDeclared, SpellsDecl}
use Rattle.ax_parse_grammar.proofs.Tools.{is_true}
use Rattle.ax_parse_places.specs.declared.symbols.Listing.TheVariants as of
use Rattle.ax_parse_places.specs.declared.symbols.Symbol.TheVariants as y
use Rattle.ax_parse_places.specs.Turns.{Stack, step, turn, unary, numbers}
use Rattle.ax_parse_places.proofs.Runs.{Runs, go, re, expand, took, takes, skip, not_it, on_other, no_size, same_at}
use Rattle.ax_parse_places.proofs.ExpressionsRun.{Room, expr}

-- ---- parts

pub stars : {n : ℕ} {ts : List Token} → SpellStars n ts → (s : Stack) (rest : List Token) → Runs (y.Stars ∷ s) rest → Runs (y.Stars ∷ s) (ts ++ rest)
stars SpellStars.none s rest q = q
stars (SpellStars.more t h x) s rest q = go t h refl (stars x s rest q)

pub sizes : {xs : List Size} {ts : List Token} → SpellSizes false xs ts → (s : Stack) (rest : List Token) → Runs (y.Sizes ∷ s) rest → Runs (y.Sizes ∷ s) (ts ++ rest)
sizes SpellSizes.none s rest q = q
sizes (SpellSizes.given t n u h g i x) s rest q = go t h refl (go n g refl (go u i refl (sizes x s rest q)))

pub base : {b : Base} {ts : List Token} → SpellsBase b ts → (s r : Stack) (rest : List Token) → step s (k.Keyword kw.Int) ≡ Some r → step s (k.Keyword kw.Struct) ≡ Some (y.Name ∷ r) → Runs r rest → Runs s (ts ++ rest)
base (SpellsBase.int t h) s r rest one other q = go t h one q
base (SpellsBase.struct t u h g) s r rest one other q = go t h other (go u g refl q)

-- ---- initialisers

-- an expression doesn't begin with `{`
init_begins : {s : Stack} {ts : List Token} → Runs (y.Unary ∷ y.More ∷ s) ts → Runs (y.Init ∷ s) ts
init_begins {s = s} q = expand (λ kind r e.
    let h : unary kind (y.More ∷ s) ≡ Some r = took (unary kind (y.More ∷ s)) r e in
    takes (turn y.Init kind s) None r (on_other w.OpenCurly kind _ (unary kind (y.More ∷ s)) (not_it w.OpenCurly kind (λ i. unary i (y.More ∷ s)) r refl h) ∙ h)) q

-- numbers don't begin with `}`
numbers_begin : {s : Stack} {ts : List Token} → Runs (y.Numbers ∷ s) ts → Runs (y.NumbersMore ∷ s) ts
numbers_begin {s = s} q = expand (λ kind r e.
    let h : numbers kind s ≡ Some r = took (numbers kind s) r e in
    takes (turn y.NumbersMore kind s) None r (on_other w.CloseCurly kind _ (numbers kind s) (not_it w.CloseCurly kind (λ i. numbers i s) r refl h) ∙ h)) q

signed : {x : Signed} {ts : List Token} → SpellsSigned x ts → (s : Stack) (rest : List Token) → Runs (y.NumbersEnd ∷ s) rest → Runs (y.Numbers ∷ s) (ts ++ rest)
signed (SpellsSigned.plain t h) s rest q = go t h refl q
signed (SpellsSigned.negative m t h g) s rest q = go m h refl (go t g refl q)

listed : {xs : List Signed} {us : List Token} → SpellNumbers xs us → (s : Stack) (last : Token) → Is w.CloseCurly last → (rest : List Token) → Runs s rest → Runs (y.Numbers ∷ s) (us ++ last ∷ rest)
listed (SpellNumbers.last x) s last h rest q = signed x s (last ∷ rest) (go last h refl q)
listed (SpellNumbers.last_comma {ts = ts} c g x) s last h rest q = re _ ts (c ∷ []) (last ∷ rest) (signed x s (c ∷ last ∷ rest) (go c g refl (go last h refl q)))
listed (SpellNumbers.more {ts = ts} {us = us} c g x xs) s last h rest q = re _ ts (c ∷ us) (last ∷ rest) (signed x s (c ∷ (us ++ last ∷ rest)) (go c g refl (numbers_begin (listed xs s last h rest q))))

-- ---- behind a declarator's name

-- a declarator ends at `,` and `;`
end_is : (s : Stack) (kind : Kind) (r : Stack) → step (y.End of.Decl ∷ s) kind ≡ Some r → (kind ≡ k.Mark m.Comma) ⊎ (kind ≡ k.Mark m.Semicolon)
end_is s kind r h = by (is w.Comma kind) (is w.Semicolon kind) refl refl
  where
    by : (a b : Bool) → is w.Comma kind ≡ a → is w.Semicolon kind ≡ b → (kind ≡ k.Mark m.Comma) ⊎ (kind ≡ k.Mark m.Semicolon)
    by true b e f = inl (is_true w.Comma kind e)
    by false true e f = inr (is_true w.Semicolon kind f)
    by false false e f =
        let none : step (y.End of.Decl ∷ s) kind ≡ None = rw e (rw f refl) in
        absurd (none-some r (sym none ∙ h))

-- there an expression may end
ends_whole : {s : Stack} {ts : List Token} → Runs (y.End of.Decl ∷ s) ts → Runs (y.Posts ∷ y.More ∷ y.End of.Decl ∷ s) ts
ends_whole {s = s} q = expand (λ kind r h. at kind (end_is s kind r h) ∙ h) q
  where
    at : (kind : Kind) → (kind ≡ k.Mark m.Comma) ⊎ (kind ≡ k.Mark m.Semicolon) → step (y.Posts ∷ y.More ∷ y.End of.Decl ∷ s) kind ≡ step (y.End of.Decl ∷ s) kind
    at kind (inl e) = same_at (y.Posts ∷ y.More ∷ y.End of.Decl ∷ s) (y.End of.Decl ∷ s) kind (k.Mark m.Comma) e refl
    at kind (inr e) = same_at (y.Posts ∷ y.More ∷ y.End of.Decl ∷ s) (y.End of.Decl ∷ s) kind (k.Mark m.Semicolon) e refl

-- no initialiser
plain : {s : Stack} {ts : List Token} → Runs (y.End of.Decl ∷ s) ts → Runs (y.Rest ∷ y.End of.Decl ∷ s) ts
plain {s = s} q = skip y.Rest refl (λ kind r e. on_other w.Assign kind _ None (not_it w.Assign kind (λ i. step (y.End of.Decl ∷ s) i) r refl e)) q

-- no size, and no more sizes
unsized : {s : Stack} {ts : List Token} → Runs (y.Rest ∷ y.End of.Decl ∷ s) ts → Runs (y.Named ∷ y.End of.Decl ∷ s) ts
unsized {s = s} q = expand same q
  where
    same : (kind : Kind) (r : Stack) → step (y.Rest ∷ y.End of.Decl ∷ s) kind ≡ Some r → step (y.Named ∷ y.End of.Decl ∷ s) kind ≡ Some r
    same kind r e =
        let off : is w.OpenSquare kind ≡ false = not_it w.OpenSquare kind (λ i. step (y.Rest ∷ y.End of.Decl ∷ s) i) r refl e in
        rw off e

sized : {s : Stack} {ts : List Token} → Runs (y.Rest ∷ y.End of.Decl ∷ s) ts → Runs (y.Sizes ∷ y.Rest ∷ y.End of.Decl ∷ s) ts
sized {s = s} q = skip y.Sizes refl (λ kind r e. on_other w.OpenSquare kind _ None (not_it w.OpenSquare kind (λ i. step (y.Rest ∷ y.End of.Decl ∷ s) i) r refl e)) q

named : {xs : List Size} {ts : List Token} → SpellSizes false xs ts → (s : Stack) (rest : List Token) → Runs (y.Rest ∷ y.End of.Decl ∷ s) rest → Runs (y.Named ∷ y.End of.Decl ∷ s) (ts ++ rest)
named SpellSizes.none s rest q = unsized q
named (SpellSizes.given t n u h g i x) s rest q = go t h refl (go n g refl (go u i refl (sizes x (y.Rest ∷ y.End of.Decl ∷ s) rest (sized q))))

-- sizes before a list of numbers
named_list : {xs : List Size} {ts : List Token} → SpellSizes true xs ts → (s : Stack) (mark first : Token) (rest : List Token) → Is w.Assign mark → Is w.OpenCurly first → Runs (y.Numbers ∷ y.End of.Decl ∷ s) rest → Runs (y.Named ∷ y.End of.Decl ∷ s) (ts ++ mark ∷ first ∷ rest)
named_list SpellSizes.none s mark first rest h g q = go mark h refl (go first g refl q)
named_list (SpellSizes.given t n u a b c x) s mark first rest h g q = go t a refl (go n b refl (go u c refl (sizes x (y.Rest ∷ y.End of.Decl ∷ s) (mark ∷ first ∷ rest) (go mark h refl (go first g refl q)))))
named_list (SpellSizes.empty t u a b x) s mark first rest h g q = go t a refl (go u b refl (sizes x (y.Take w.Assign ∷ y.Take w.OpenCurly ∷ y.Numbers ∷ y.End of.Decl ∷ s) (mark ∷ first ∷ rest) (go mark h refl (go first g refl q))))

-- ---- declarations

-- r is what comes behind the name
abbrev pub BehindName : Stack → Stack → Type 0
BehindName s r = (us : List Token) → Runs (y.Named ∷ y.End of.Decl ∷ s) us → Runs r us

declared : {d : Declared} {ts : List Token} → SpellsDeclared d ts → (s r : Stack) → BehindName s r → (rest : List Token) → Runs (y.End of.Decl ∷ s) rest → Runs (y.Stars ∷ y.Name ∷ r) (ts ++ rest)
declared (SpellsDeclared.plain (SpellsDeclarator.declarator {stars = ss} {ts = ts} t h x z)) s r into rest q = re _ ss (t ∷ ts) rest (stars x (y.Name ∷ r) (t ∷ (ts ++ rest)) (go t h refl (into (ts ++ rest) (named z s rest (plain q)))))
declared (SpellsDeclared.value {us = us} mark g (SpellsDeclarator.declarator {stars = ss} {ts = ts} t h x z) a) s r into rest q =
    let value = go mark g refl (init_begins (expr a (y.More ∷ y.End of.Decl ∷ s) Room.wide rest (ends_whole q))) in
    let behind = mark ∷ (us ++ rest) in
    re _ (ss ++ t ∷ ts) (mark ∷ us) rest (re _ ss (t ∷ ts) behind (stars x (y.Name ∷ r) (t ∷ (ts ++ behind)) (go t h refl (into (ts ++ behind) (named z s behind value)))))
declared (SpellsDeclared.list {us = us} mark first last g f l (SpellsDeclarator.declarator {stars = ss} {ts = ts} t h x z) a) s r into rest q =
    let inner = (us ++ last ∷ []) ++ rest in
    let behind = mark ∷ first ∷ inner in
    let list = re _ us (last ∷ []) rest (listed a (y.End of.Decl ∷ s) last l rest q) in
    re _ (ss ++ t ∷ ts) (mark ∷ first ∷ (us ++ last ∷ [])) rest (re _ ss (t ∷ ts) behind (stars x (y.Name ∷ r) (t ∷ (ts ++ behind)) (go t h refl (into (ts ++ behind) (named_list z s mark first inner g f list)))))

pub declarations : {xs : List Declared} {us : List Token} → SpellSeparated SpellsDeclared xs us → (s r : Stack) → BehindName s r → (last : Token) → Is w.Semicolon last → (rest : List Token) → Runs s rest → Runs (y.Stars ∷ y.Name ∷ r) (us ++ last ∷ rest)
declarations (SpellSeparated.one x) s r into last h rest q = declared x s r into (last ∷ rest) (go last h refl q)
declarations (SpellSeparated.more {ts = ts} {us = us} c g x xs) s r into last h rest q = re _ ts (c ∷ us) (last ∷ rest) (declared x s r into (c ∷ (us ++ last ∷ rest)) (go c g refl (declarations xs s (y.Named ∷ y.End of.Decl ∷ s) (λ us p. p) last h rest q)))

pub decl : {d : Decl} {ts : List Token} → SpellsDecl d ts → (s : Stack) (rest : List Token) → Runs s rest → Runs (y.Decl ∷ s) (ts ++ rest)
decl (SpellsDecl.decl {bs = bs} {ts = ts} last h b ds) s rest q = re _ bs (ts ++ last ∷ []) rest (base b (y.Decl ∷ s) (y.Stars ∷ y.Name ∷ y.Named ∷ y.End of.Decl ∷ s) ((ts ++ last ∷ []) ++ rest) refl refl (re _ ts (last ∷ []) rest (declarations ds s (y.Named ∷ y.End of.Decl ∷ s) (λ us p. p) last h rest q)))
