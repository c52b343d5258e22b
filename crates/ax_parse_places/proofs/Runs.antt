-- Token lists that a stack goes on with.
use Rattle.std.proofs.Common.{◌≡◌, ℕ, Bool, true, false, List, [], ◌∷◌, ◌++◌, map, Option, Some, None, refl, sym, ap, ◌∙◌, subst, append_assoc, ◌⊎◌, inl, inr, ⊎_elim}
use Rattle.std.proofs.lemmas.Option.{none-some, same_Some}
use Rattle.ax_prog.specs.declared.tokens.Mark.TheVariants as m
use Rattle.ax_prog.specs.declared.tokens.Kind.{Kind}
use Rattle.ax_prog.specs.declared.tokens.Kind.TheVariants as k
use Rattle.ax_prog.specs.declared.tokens.Token.{Token}
use Rattle.ax_parse_grammar.specs.declared.terminals.Terminal.{Terminal}
use Rattle.ax_parse_grammar.specs.declared.terminals.Terminal.TheVariants as w
use Rattle.ax_parse_grammar.specs.Terminals.{kind_of, Is, is, Are}
use Rattle.ax_parse_grammar.proofs.Tools.{is_same, is_true}
use Rattle.ax_parse_places.specs.declared.symbols.Listing.{Listing}
use Rattle.ax_parse_places.specs.declared.symbols.Listing.TheVariants as of
use Rattle.ax_parse_places.specs.declared.symbols.Symbol.{Symbol}
use Rattle.ax_parse_places.specs.declared.symbols.Symbol.TheVariants as y
use Rattle.ax_parse_places.specs.Turns.{Stack, on, or_else, turn, may_skip, step, end, closer}

-- the stack goes on with these tokens
pub data Runs : Stack → List Token → Type 0 where
  ends : {s : Stack} → Runs s []
  reads : {s r : Stack} {ts : List Token} (t : Token) → step s t.kind ≡ Some r → Runs r ts → Runs s (t ∷ ts)

-- one token of a kind
pub go : {s r : Stack} {ts : List Token} {kind : Kind} (t : Token) → t.kind ≡ kind → step s kind ≡ Some r → Runs r ts → Runs s (t ∷ ts)
go {s = s} t h e q = Runs.reads t (ap (λ (i : Kind). step s i) h ∙ e) q

-- tokens by groups
pub re : (s : Stack) (ts us rest : List Token) → Runs s (ts ++ (us ++ rest)) → Runs s ((ts ++ us) ++ rest)
re s ts us rest q = subst (λ (l : List Token). Runs s l) (sym (append_assoc ts us rest)) q

-- a stack that takes each token that another takes, and then goes on in the same way
pub expand : {s r : Stack} {ts : List Token} → ((kind : Kind) (next : Stack) → step s kind ≡ Some next → step r kind ≡ Some next) → Runs s ts → Runs r ts
expand same Runs.ends = Runs.ends
expand same (Runs.reads {r = next} t e q) = Runs.reads t (same t.kind next e) q

-- ---- the first part of a stack

pub took : (o : Option Stack) (r : Stack) → or_else o None ≡ Some r → o ≡ Some r
took None r h = h
took (Some s) r h = h

pub takes : (o p : Option Stack) (r : Stack) → o ≡ Some r → or_else o p ≡ Some r
takes o p r h = rw h refl

-- a part that is left out before each token with which the stack below goes on
pub skip : {s : Stack} {ts : List Token} (x : Symbol) → may_skip x ≡ true → ((kind : Kind) (r : Stack) → step s kind ≡ Some r → turn x kind s ≡ None) → Runs s ts → Runs (x ∷ s) ts
skip {s = s} x may off q = expand (λ kind r e. rw (off kind r e) (rw may e)) q

-- ---- tokens that are no terminal

-- where f gives nothing for the terminal
pub not_it : (what : Terminal) (kind : Kind) (f : Kind → Option Stack) (r : Stack) → f (kind_of what) ≡ None → f kind ≡ Some r → is what kind ≡ false
not_it what kind f r none h = by (is what kind) refl
  where
    by : (b : Bool) → is what kind ≡ b → is what kind ≡ false
    by false e = e
    by true e = absurd (none-some r (sym none ∙ (sym (ap f (is_true what kind e)) ∙ h)))

pub on_other : (what : Terminal) (kind : Kind) (a b : Option Stack) → is what kind ≡ false → on what kind a b ≡ b
on_other what kind a b e = rw e refl

pub end_no_open : (which : Listing) (s : Stack) → step (y.End which ∷ s) (k.Mark m.OpenSquare) ≡ None
end_no_open of.Args s = refl
end_no_open of.Decl s = refl
end_no_open of.Members s = refl
end_no_open of.Params s = refl

-- sizes end where items end
pub no_size : {s : Stack} {ts : List Token} (which : Listing) → Runs (y.End which ∷ s) ts → Runs (y.Sizes ∷ y.End which ∷ s) ts
no_size {s = s} which q = skip y.Sizes refl (λ kind r e. on_other w.OpenSquare kind _ None (not_it w.OpenSquare kind (λ i. step (y.End which ∷ s) i) r (end_no_open which s) e)) q

-- terminals in turn
abbrev pub all : List Terminal → Stack → Stack
all [] s = s
all (what ∷ whats) s = y.Take what ∷ all whats s

taken : (what : Terminal) (s : Stack) → step (y.Take what ∷ s) (kind_of what) ≡ Some s
taken what s = rw (is_same what) refl

pub are : {s : Stack} {rest : List Token} (whats : List Terminal) (front : List Token) → Are whats front → Runs s rest → Runs (all whats s) (front ++ rest)
are [] [] h q = q
are [] (t ∷ front) h q = cc
are (what ∷ whats) [] h q = cc
are {s = s} (what ∷ whats) (t ∷ front) h q =
    let first : t.kind ≡ kind_of what = cc in
    let behind : map (λ (u : Token). u.kind) front ≡ map kind_of whats = cc in
    go t first (taken what (all whats s)) (are whats front behind q)

-- two stacks that do the same with one token
pub same_at : (s r : Stack) (kind what : Kind) → kind ≡ what → step s what ≡ step r what → step s kind ≡ step r kind
same_at s r kind what h e = ap (step s) h ∙ (e ∙ sym (ap (step r) h))

-- a terminal takes no other token
pub taken_is : (what : Terminal) (s : Stack) (kind : Kind) (r : Stack) → step (y.Take what ∷ s) kind ≡ Some r → kind ≡ kind_of what
taken_is what s kind r h = by (is what kind) refl
  where
    by : (b : Bool) → is what kind ≡ b → kind ≡ kind_of what
    by true e = is_true what kind e
    by false e =
        let none : step (y.Take what ∷ s) kind ≡ None = rw e refl in
        absurd (none-some r (sym none ∙ h))

-- where a terminal is to come, this stack does the same
pub before : {s r : Stack} {ts : List Token} (what : Terminal) → step r (kind_of what) ≡ step (y.Take what ∷ s) (kind_of what) → Runs (y.Take what ∷ s) ts → Runs r ts
before {s = s} {r = r} what e q = expand (λ kind next h. same_at r (y.Take what ∷ s) kind (kind_of what) (taken_is what s kind next h) e ∙ h) q
