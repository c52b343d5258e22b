-- What a source goes on with: each source that is spelled.
use Rattle.std.proofs.Common.{◌≡◌, ℕ, ◌+◌, ◌<◌, Bool, true, false, if◌then◌else◌, List, [], ◌∷◌, ◌++◌, Option, Some, None, refl, sym, ap, subst, ◌∙◌, arith, append_assoc, take, length, get_or}
use Rattle.std.proofs.lemmas.Option.{none-some, same_Some}
use Rattle.std.proofs.lemmas.List.{take_more}
use Rattle.ax_prog.specs.declared.tokens.Kind.{Kind}
use Rattle.ax_prog.specs.declared.tokens.Kind.TheVariants as k
use Rattle.ax_prog.specs.declared.tokens.Token.{Token}
use Rattle.ax_parse_grammar.specs.declared.terminals.Terminal.TheVariants as w
use Rattle.ax_parse_grammar.specs.declared.tree.Base.{Base}
use Rattle.ax_parse_grammar.specs.declared.tree.Size.{Size}
use Rattle.ax_parse_grammar.specs.declared.tree.Declarator.{Declarator}
use Rattle.ax_parse_grammar.specs.declared.tree.Param.{Param}
use Rattle.ax_parse_grammar.specs.declared.tree.Head.{Head}
use Rattle.ax_parse_grammar.specs.declared.tree.Members.{Members}
use Rattle.ax_parse_grammar.specs.declared.tree.Part.{Part}
use Rattle.ax_parse_grammar.specs.declared.tree.Tree.{Tree}
use Rattle.ax_parse_grammar.specs.Terminals.{Is, is, Are}
use Rattle.ax_parse_grammar.specs.Declarations.{SpellAll, SpellSeparated, SpellsBase, SpellStars, SpellSizes, SpellsDeclarator, SpellsDecl}
use Rattle.ax_parse_grammar.specs.Sources.{SpellsParam, SpellParams, SpellsReturns, SpellsHead, SpellsMembers, SpellsPart, SpellsTree}
use Rattle.ax_parse_places.specs.declared.symbols.Listing.TheVariants as of
use Rattle.ax_parse_places.specs.declared.symbols.Symbol.TheVariants as y
use Rattle.ax_parse_places.specs.Fronts.{BeginsNone}
use Rattle.ax_parse_places.specs.Turns.{Stack, or_else, step, turn, name}
use Rattle.ax_parse_places.specs.Turns as turns
use Rattle.ax_parse_places.proofs.Runs.{Runs, go, re, expand, took, takes, skip, not_it, on_other, no_size, are, before}
use Rattle.ax_parse_places.proofs.DeclarationsRun.{stars, sizes, base, declarations}
use Rattle.ax_parse_places.proofs.StatementsRun.{items}

-- ---- parameters

first_sizes : {xs : List Size} {ts : List Token} → SpellSizes true xs ts → (s : Stack) (rest : List Token) → Runs (y.End of.Params ∷ s) rest → Runs (y.FirstSize ∷ y.End of.Params ∷ s) (ts ++ rest)
first_sizes SpellSizes.none s rest q = skip y.FirstSize refl (λ kind r e. on_other w.OpenSquare kind _ None (not_it w.OpenSquare kind (λ i. step (y.End of.Params ∷ s) i) r refl e)) q
first_sizes (SpellSizes.given t n u a b c x) s rest q = go t a refl (go n b refl (go u c refl (sizes x (y.End of.Params ∷ s) rest (no_size of.Params q))))
first_sizes (SpellSizes.empty t u a b x) s rest q = go t a refl (go u b refl (sizes x (y.End of.Params ∷ s) rest (no_size of.Params q)))

no_name : (kind : Kind) (s t r : Stack) → step (y.FirstSize ∷ y.End of.Params ∷ s) kind ≡ Some r → name kind t ≡ None
no_name (k.Name x) s t r h = absurd (none-some r h)
no_name _ s t r h = refl

nameless : {s : Stack} {ts : List Token} → Runs (y.FirstSize ∷ y.End of.Params ∷ s) ts → Runs (y.Stars ∷ y.ParamName ∷ y.FirstSize ∷ y.End of.Params ∷ s) ts
nameless {s = s} q =
    let below : Stack = y.FirstSize ∷ y.End of.Params ∷ s in
    skip y.Stars refl (λ kind r e. on_other w.Star kind _ None (not_it w.Star kind (λ i. step (y.ParamName ∷ below) i) r refl e)) (skip y.ParamName refl (λ kind r e. no_name kind s below r e) q)

param : {p : Param} {ts : List Token} → SpellsParam p ts → (s : Stack) (rest : List Token) → Runs (y.End of.Params ∷ s) rest → Runs (y.Param ∷ y.End of.Params ∷ s) (ts ++ rest)
param (SpellsParam.with_name {bs = bs} {stars = ss} {ts = ts} t h b x z) s rest q =
    let below : Stack = y.ParamName ∷ y.FirstSize ∷ y.End of.Params ∷ s in
    re _ bs (ss ++ t ∷ ts) rest (base b (y.Param ∷ y.End of.Params ∷ s) (y.Stars ∷ below) ((ss ++ t ∷ ts) ++ rest) refl refl (re _ ss (t ∷ ts) rest (stars x below (t ∷ (ts ++ rest)) (go t h refl (first_sizes z s rest q)))))
param (SpellsParam.nameless {bs = bs} {stars = ss} {ts = ts} b x z) s rest q =
    let below : Stack = y.ParamName ∷ y.FirstSize ∷ y.End of.Params ∷ s in
    re _ bs (ss ++ ts) rest (base b (y.Param ∷ y.End of.Params ∷ s) (y.Stars ∷ below) ((ss ++ ts) ++ rest) refl refl (re _ ss ts rest (stars x below (ts ++ rest) (nameless (first_sizes z s rest q)))))

some_params : {xs : List Param} {us : List Token} → SpellSeparated SpellsParam xs us → (s : Stack) (last : Token) → Is w.CloseRound last → (rest : List Token) → Runs s rest → Runs (y.Param ∷ y.End of.Params ∷ s) (us ++ last ∷ rest)
some_params (SpellSeparated.one x) s last h rest q = param x s (last ∷ rest) (go last h refl q)
some_params (SpellSeparated.more {ts = ts} {us = us} c g x xs) s last h rest q = re _ ts (c ∷ us) (last ∷ rest) (param x s (c ∷ (us ++ last ∷ rest)) (go c g refl (some_params xs s last h rest q)))

params_begin : {s : Stack} {ts : List Token} → Runs (y.Param ∷ y.End of.Params ∷ s) ts → Runs (y.Params ∷ s) ts
params_begin {s = s} q = expand (λ kind r e.
    let below : Stack = y.End of.Params ∷ s in
    let h : turns.param kind below ≡ Some r = took (turns.param kind below) r e in
    let round = on_other w.CloseRound kind (Some s) (turns.void_params kind s) (not_it w.CloseRound kind (λ i. turns.param i below) r refl h) in
    let void = on_other w.Void kind _ (turns.param kind below) (not_it w.Void kind (λ i. turns.param i below) r refl h) in
    takes (turn y.Params kind s) None r (round ∙ (void ∙ h))) q

params : {xs : List Param} {ts : List Token} → SpellParams xs ts → (s : Stack) (last : Token) → Is w.CloseRound last → (rest : List Token) → Runs s rest → Runs (y.Params ∷ s) (ts ++ last ∷ rest)
params SpellParams.nothing s last h rest q = go last h refl q
params (SpellParams.void t g) s last h rest q = go t g refl (go last h refl q)
params (SpellParams.some xs) s last h rest q = params_begin (some_params xs s last h rest q)

-- ---- behind a base at the top

one_of : (b : Bool) (t : Stack) (o : Option Stack) (r : Stack) → or_else (if b then Some t else None) (or_else o None) ≡ Some r → (if b then Some t else o) ≡ Some r
one_of true t o r h = h
one_of false t o r h = took o r h

one_of_three : (a b : Bool) (t u : Stack) (o : Option Stack) (r : Stack) → or_else (if a then Some t else (if b then Some u else None)) (or_else o None) ≡ Some r → (if a then Some t else (if b then Some u else o)) ≡ Some r
one_of_three true b t u o r h = h
one_of_three false true t u o r h = h
one_of_three false false t u o r h = took o r h

struct_top : {s : Stack} {ts : List Token} → Runs (y.Stars ∷ y.Name ∷ y.TopNamed ∷ s) ts → Runs (y.TopStruct ∷ s) ts
struct_top {s = s} q = expand (λ kind r e.
    let h : turns.top_first kind s ≡ Some r = one_of (is w.Star kind) (y.Stars ∷ y.Name ∷ y.TopNamed ∷ s) (name kind (y.TopNamed ∷ s)) r e in
    takes (turn y.TopStruct kind s) None r (on_other w.OpenCurly kind _ (turns.top_first kind s) (not_it w.OpenCurly kind (λ i. turns.top_first i s) r refl h) ∙ h)) q

named_top : (s : Stack) (ts : List Token) → Runs (y.Named ∷ y.End of.Decl ∷ s) ts → Runs (y.TopNamed ∷ s) ts
named_top s ts q = expand (λ kind r e.
    let h : turns.top_plain kind s ≡ Some r = one_of_three (is w.OpenSquare kind) (is w.Assign kind) (y.Count ∷ y.End of.Decl ∷ s) (y.Init ∷ y.End of.Decl ∷ s) (turns.end of.Decl kind s) r e in
    takes (turn y.TopNamed kind s) None r (on_other w.OpenRound kind _ (turns.top_plain kind s) (not_it w.OpenRound kind (λ i. turns.top_plain i s) r refl h) ∙ h)) q

based : {b : Base} {ts : List Token} → SpellsBase b ts → (s : Stack) (us : List Token) → Runs (y.Stars ∷ y.Name ∷ y.TopNamed ∷ y.Parts ∷ s) us → Runs (y.Parts ∷ s) (ts ++ us)
based (SpellsBase.int t h) s us q = go t h refl q
based (SpellsBase.struct t u h g) s us q = go t h refl (go u g refl (struct_top q))

head : {h : Head} {hs : List Token} → SpellsHead h hs → (s : Stack) (rest : List Token) → Runs (y.Body ∷ y.Parts ∷ s) rest → Runs (y.Parts ∷ s) (hs ++ rest)
head (SpellsHead.head {stars = ss} {ts = ts} t first last h g f (SpellsReturns.void v i) x ps) s rest q =
    let all = params ps (y.Body ∷ y.Parts ∷ s) last f rest q in
    let inner = re (y.Params ∷ y.Body ∷ y.Parts ∷ s) ts (last ∷ []) rest all in
    go v i refl (re _ ss (t ∷ first ∷ (ts ++ last ∷ [])) rest (stars x (y.Name ∷ y.Take w.OpenRound ∷ y.Params ∷ y.Body ∷ y.Parts ∷ s) (t ∷ first ∷ ((ts ++ last ∷ []) ++ rest)) (go t h refl (go first g refl inner))))
head (SpellsHead.head {stars = ss} {ts = ts} t first last h g f (SpellsReturns.base {ts = bs} b) x ps) s rest q =
    let all = params ps (y.Body ∷ y.Parts ∷ s) last f rest q in
    let inner = re (y.Params ∷ y.Body ∷ y.Parts ∷ s) ts (last ∷ []) rest all in
    let tail = ss ++ t ∷ first ∷ (ts ++ last ∷ []) in
    re _ bs tail rest (based b s (tail ++ rest) (re _ ss (t ∷ first ∷ (ts ++ last ∷ [])) rest (stars x (y.Name ∷ y.TopNamed ∷ y.Parts ∷ s) (t ∷ first ∷ ((ts ++ last ∷ []) ++ rest)) (go t h refl (go first g refl inner)))))

-- ---- structs

member : {d : Declarator} {ts : List Token} → SpellsDeclarator false d ts → (s : Stack) (rest : List Token) → Runs (y.End of.Members ∷ s) rest → Runs (y.Stars ∷ y.Name ∷ y.Sizes ∷ y.End of.Members ∷ s) (ts ++ rest)
member (SpellsDeclarator.declarator {stars = ss} {ts = ts} t h x z) s rest q = re _ ss (t ∷ ts) rest (stars x (y.Name ∷ y.Sizes ∷ y.End of.Members ∷ s) (t ∷ (ts ++ rest)) (go t h refl (sizes z (y.End of.Members ∷ s) rest (no_size of.Members q))))

members : {xs : List Declarator} {us : List Token} → SpellSeparated (SpellsDeclarator false) xs us → (s : Stack) (last : Token) → Is w.Semicolon last → (rest : List Token) → Runs s rest → Runs (y.Stars ∷ y.Name ∷ y.Sizes ∷ y.End of.Members ∷ s) (us ++ last ∷ rest)
members (SpellSeparated.one x) s last h rest q = member x s (last ∷ rest) (go last h refl q)
members (SpellSeparated.more {ts = ts} {us = us} c g x xs) s last h rest q = re _ ts (c ∷ us) (last ∷ rest) (member x s (c ∷ (us ++ last ∷ rest)) (go c g refl (members xs s last h rest q)))

one_base : {x : Members} {ts : List Token} → SpellsMembers x ts → (s : Stack) (rest : List Token) → Runs (y.Members ∷ s) rest → Runs (y.Members ∷ s) (ts ++ rest)
one_base (SpellsMembers.members {bs = bs} {ts = ts} last h b ds) s rest q = re _ bs (ts ++ last ∷ []) rest (base b (y.Members ∷ s) (y.Stars ∷ y.Name ∷ y.Sizes ∷ y.End of.Members ∷ y.Members ∷ s) ((ts ++ last ∷ []) ++ rest) refl refl (re _ ts (last ∷ []) rest (members ds (y.Members ∷ s) last h rest q)))

all_members : {xs : List Members} {ts : List Token} → SpellAll SpellsMembers xs ts → (s : Stack) (end : List Token) → Are (w.CloseCurly ∷ w.Semicolon ∷ []) end → (rest : List Token) → Runs s rest → Runs (y.Members ∷ s) (ts ++ (end ++ rest))
all_members SpellAll.none s end h rest q = before w.CloseCurly refl (are (w.CloseCurly ∷ w.Semicolon ∷ []) end h q)
all_members (SpellAll.more {ts = ts} {us = us} x xs) s end h rest q = re _ ts us (end ++ rest) (one_base x s (us ++ (end ++ rest)) (all_members xs s end h rest q))

-- ---- sources

part : {x : Part} {ts : List Token} → SpellsPart x ts → (s : Stack) (rest : List Token) → Runs (y.Parts ∷ s) rest → Runs (y.Parts ∷ s) (ts ++ rest)
part (SpellsPart.struct {ts = ts} a t first end h g f i xs) s rest q = go a h refl (go t g refl (go first f refl (re _ ts end rest (all_members xs (y.Parts ∷ s) end i rest q))))
part (SpellsPart.decl (SpellsDecl.decl {bs = bs} {ts = ts} last h b ds)) s rest q = re _ bs (ts ++ last ∷ []) rest (based b s ((ts ++ last ∷ []) ++ rest) (re _ ts (last ∷ []) rest (declarations ds (y.Parts ∷ s) (y.TopNamed ∷ y.Parts ∷ s) (named_top (y.Parts ∷ s)) last h rest q)))
part (SpellsPart.function {hs = hs} {ts = ts} first last f l h xs) s rest q = re _ hs (first ∷ (ts ++ last ∷ [])) rest (head h s (first ∷ ((ts ++ last ∷ []) ++ rest)) (go first f refl (re _ ts (last ∷ []) rest (items xs (y.Parts ∷ s) last l rest q))))
part (SpellsPart.prototype {hs = hs} last l h) s rest q = re _ hs (last ∷ []) rest (head h s (last ∷ rest) (go last l refl q))

parts : {xs : List Part} {ts : List Token} → SpellAll SpellsPart xs ts → Runs (y.Parts ∷ []) ts
parts SpellAll.none = Runs.ends
parts (SpellAll.more {us = us} x xs) = part x [] us (parts xs)

pub tree : {x : Tree} {ts : List Token} → SpellsTree x ts → Runs (y.Parts ∷ []) ts
tree (SpellsTree.tree xs) = parts xs

-- ---- where a stack stops

-- what is still to come behind so many tokens goes on with all that a source goes on with there
abbrev pub Still : List Token → ℕ → Stack → Type 0
Still tokens at s = (rest : List Token) → Runs (y.Parts ∷ []) (take at tokens ++ rest) → Runs s rest

next : {s : Stack} {t : Token} {ts : List Token} (r : Stack) → Runs s (t ∷ ts) → step s t.kind ≡ Some r → Runs r ts
next r (Runs.reads {r = q} {ts = ts} t e p) h = subst (λ (s : Stack). Runs s ts) (same_Some q r (sym e ∙ h)) p

stuck : {s : Stack} {t : Token} {ts : List Token} → Runs s (t ∷ ts) → step s t.kind ≡ None → ⊥
stuck (Runs.reads {r = q} t e p) h = none-some q (sym h ∙ e)

module _ (tokens : List Token) (at : ℕ) (d : Token) (below : at < length tokens) where
  one_more : (rest : List Token) → take (at + 1) tokens ++ rest ≡ take at tokens ++ get_or tokens at d ∷ rest
  one_more rest = ap (λ (l : List Token). l ++ rest) (take_more tokens at d below) ∙ append_assoc (take at tokens) (get_or tokens at d ∷ []) rest

  pub still_more : (s r : Stack) → Still tokens at s → step s (get_or tokens at d).kind ≡ Some r → Still tokens (at + 1) r
  still_more s r still e rest q = next {t = get_or tokens at d} r (still (get_or tokens at d ∷ rest) (subst (λ (l : List Token). Runs (y.Parts ∷ []) l) (one_more rest) q)) e

  pub begins_none : (s : Stack) → Still tokens at s → step s (get_or tokens at d).kind ≡ None → BeginsNone (take (at + 1) tokens)
  begins_none s still e t rest h = stuck {t = get_or tokens at d} (still (get_or tokens at d ∷ rest) (subst (λ (l : List Token). Runs (y.Parts ∷ []) l) (one_more rest) (tree h))) e
