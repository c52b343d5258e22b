-- What holds no part that is too large: declarators, numbers, heads of functions and definitions of structs.
use Rattle.std.proofs.Common.{◌≡◌, ℕ, ◌+◌, Bool, true, false, List, [], ◌∷◌, ◌++◌, Option, Some, None, refl, sym, ap, ◌∙◌, append_assoc}
use Rattle.ax_prog.specs.declared.tokens.Token.{Token}
use Rattle.ax_parse_grammar.specs.declared.terminals.Terminal.TheVariants as w
use Rattle.ax_parse_grammar.specs.declared.tree.Base.{Base}
use Rattle.ax_parse_grammar.specs.declared.tree.Size.{Size}
use Rattle.ax_parse_grammar.specs.declared.tree.Signed.{Signed}
use Rattle.ax_parse_grammar.specs.declared.tree.Declarator.{Declarator}
use Rattle.ax_parse_grammar.specs.declared.tree.Param.{Param}
use Rattle.ax_parse_grammar.specs.declared.tree.Returns.{Returns}
use Rattle.ax_parse_grammar.specs.declared.tree.Head.{Head}
use Rattle.ax_parse_grammar.specs.declared.tree.Members.{Members}
use Rattle.ax_parse_grammar.specs.Terminals.{Is}
use Rattle.ax_parse_grammar.specs.Declarations.{SpellAll, SpellSeparated, SpellsBase, SpellStars, SpellSizes, SpellsDeclarator, SpellsSigned, SpellNumbers}
use Rattle.ax_parse_grammar.specs.Sources.{SpellsParam, SpellParams, SpellsReturns, SpellsHead, SpellsMembers}
use Rattle.ax_parse_limits.specs.declared.counts.Class.{Class}
use Rattle.ax_parse_limits.specs.declared.counts.Class.TheVariants as c
use Rattle.ax_parse_limits.specs.Scan.{class_of, large_in, ◌or◌, scan}
use Rattle.ax_parse_limits.proofs.LargeLayers.{name_class, number_class}
use Rattle.ax_parse_limits.proofs.Passed.{is_plain, plain, opens, indexes, ends, same_scan, nothing_in}

-- nothing is found in the tokens
abbrev pub Quiet : List Token → Type 0
Quiet ts = (h : Bool) (rest : List Token) → scan h false (ts ++ rest) ≡ scan h false rest

pub quiet_nil : Quiet []
quiet_nil h rest = refl

pub quiet_cons : (d : Class) (t : Token) (ts : List Token) → class_of t.kind ≡ d → is_plain d ≡ true → Quiet ts → Quiet (t ∷ ts)
quiet_cons d t ts g p q h rest = plain h t (ts ++ rest) d g p ∙ q h rest

pub quiet_append : (ts us : List Token) → Quiet ts → Quiet us → Quiet (ts ++ us)
quiet_append ts us p q h rest = same_scan h ts us rest ∙ p h (us ++ rest) ∙ q h rest

pub quiet_one : (d : Class) (t : Token) → class_of t.kind ≡ d → is_plain d ≡ true → Quiet (t ∷ [])
quiet_one d t g p = quiet_cons d t [] g p quiet_nil

pub base_quiet : {x : Base} {ts : List Token} → SpellsBase x ts → Quiet ts
base_quiet (SpellsBase.int t g) = quiet_one c.Other t (ap class_of g) refl
base_quiet (SpellsBase.struct {x = x} s t g f) = quiet_cons c.Other s (t ∷ []) (ap class_of g) refl (quiet_one c.Operand t (name_class t.kind x f) refl)

pub stars_quiet : {n : ℕ} {ts : List Token} → SpellStars n ts → Quiet ts
stars_quiet SpellStars.none = quiet_nil
stars_quiet (SpellStars.more {ts = ts} t g s) = quiet_cons c.Operator t ts (ap class_of g) refl (stars_quiet s)

size_in : (t last : Token) (ts : List Token) → class_of t.kind ≡ c.Operand → class_of last.kind ≡ c.Close → large_in false (t ∷ last ∷ ts) ≡ None
size_in t last ts g f = rw g (rw f refl)

pub sizes_quiet : {f : Bool} {xs : List Size} {ts : List Token} → SpellSizes f xs ts → Quiet ts
sizes_quiet SpellSizes.none h rest = refl
sizes_quiet (SpellSizes.given {n = n} {ts = ts} a t b g f l s) h rest =
    let k : class_of t.kind ≡ c.Operand = number_class t.kind n f in
    indexes h a (t ∷ b ∷ (ts ++ rest)) (ap class_of g) ∙ ap (λ (o : Option ℕ). o or scan h false (t ∷ b ∷ (ts ++ rest))) (size_in t b (ts ++ rest) k (ap class_of l)) ∙ plain h t (b ∷ (ts ++ rest)) c.Operand k refl ∙ plain h b (ts ++ rest) c.Close (ap class_of l) refl ∙ sizes_quiet s h rest
sizes_quiet (SpellSizes.empty {ts = ts} a b g l s) h rest =
    indexes h a (b ∷ (ts ++ rest)) (ap class_of g) ∙ ap (λ (o : Option ℕ). o or scan h false (b ∷ (ts ++ rest))) (nothing_in false b (ts ++ rest) c.Close (ap class_of l) refl) ∙ plain h b (ts ++ rest) c.Close (ap class_of l) refl ∙ sizes_quiet s h rest

pub declarator_quiet : {f : Bool} {x : Declarator} {ts : List Token} → SpellsDeclarator f x ts → Quiet ts
declarator_quiet (SpellsDeclarator.declarator {x = x} {stars = ss} {ts = ts} t g s r) = quiet_append ss (t ∷ ts) (stars_quiet s) (quiet_cons c.Operand t ts (name_class t.kind x g) refl (sizes_quiet r))

pub signed_quiet : {x : Signed} {ts : List Token} → SpellsSigned x ts → Quiet ts
signed_quiet (SpellsSigned.plain {n = n} t g) = quiet_one c.Operand t (number_class t.kind n g) refl
signed_quiet (SpellsSigned.negative {n = n} m t g f) = quiet_cons c.Operator m (t ∷ []) (ap class_of g) refl (quiet_one c.Operand t (number_class t.kind n f) refl)

pub numbers_quiet : {xs : List Signed} {ts : List Token} → SpellNumbers xs ts → Quiet ts
numbers_quiet (SpellNumbers.last s) = signed_quiet s
numbers_quiet (SpellNumbers.last_comma {ts = ts} t g s) = quiet_append ts (t ∷ []) (signed_quiet s) (quiet_one c.Comma t (ap class_of g) refl)
numbers_quiet (SpellNumbers.more {ts = ts} {us = us} t g s r) = quiet_append ts (t ∷ us) (signed_quiet s) (quiet_cons c.Comma t us (ap class_of g) refl (numbers_quiet r))

pub separated_quiet : {A : Type 0} {P : A → List Token → Type 0} → ((x : A) (ts : List Token) → P x ts → Quiet ts) → {xs : List A} {ts : List Token} → SpellSeparated P xs ts → Quiet ts
separated_quiet q (SpellSeparated.one {x = x} {ts = ts} s) = q x ts s
separated_quiet q (SpellSeparated.more {x = x} {ts = ts} {us = us} t g s r) = quiet_append ts (t ∷ us) (q x ts s) (quiet_cons c.Comma t us (ap class_of g) refl (separated_quiet q r))

-- ---- heads

param_quiet : {x : Param} {ts : List Token} → SpellsParam x ts → Quiet ts
param_quiet (SpellsParam.with_name {x = x} {bs = bs} {stars = ss} {ts = ts} t g b s r) = quiet_append bs (ss ++ t ∷ ts) (base_quiet b) (quiet_append ss (t ∷ ts) (stars_quiet s) (quiet_cons c.Operand t ts (name_class t.kind x g) refl (sizes_quiet r)))
param_quiet (SpellsParam.nameless {bs = bs} {stars = ss} {ts = ts} b s r) = quiet_append bs (ss ++ ts) (base_quiet b) (quiet_append ss ts (stars_quiet s) (sizes_quiet r))

params_quiet : {xs : List Param} {ts : List Token} → SpellParams xs ts → Quiet ts
params_quiet SpellParams.nothing = quiet_nil
params_quiet (SpellParams.void t g) = quiet_one c.Other t (ap class_of g) refl
params_quiet (SpellParams.some s) = separated_quiet (λ x ts s. param_quiet s) s

-- a base begins no expression
base_in : {x : Base} {ts : List Token} → SpellsBase x ts → (rest : List Token) → large_in true (ts ++ rest) ≡ None
base_in (SpellsBase.int t g) rest = nothing_in true t rest c.Other (ap class_of g) refl
base_in (SpellsBase.struct s t g f) rest = nothing_in true s (t ∷ rest) c.Other (ap class_of g) refl

same_in : (us vs rest : List Token) → large_in true ((us ++ vs) ++ rest) ≡ large_in true (us ++ (vs ++ rest))
same_in us vs rest = ap (λ (l : List Token). large_in true l) (append_assoc us vs rest)

param_in : {x : Param} {ts : List Token} → SpellsParam x ts → (rest : List Token) → large_in true (ts ++ rest) ≡ None
param_in (SpellsParam.with_name {bs = bs} {stars = ss} {ts = ts} t g b s r) rest = same_in bs (ss ++ t ∷ ts) rest ∙ base_in b ((ss ++ t ∷ ts) ++ rest)
param_in (SpellsParam.nameless {bs = bs} {stars = ss} {ts = ts} b s r) rest = same_in bs (ss ++ ts) rest ∙ base_in b ((ss ++ ts) ++ rest)

params_in : {xs : List Param} {ts : List Token} → SpellParams xs ts → (b : Token) (rest : List Token) → class_of b.kind ≡ c.Close → large_in true (ts ++ b ∷ rest) ≡ None
params_in SpellParams.nothing b rest g = nothing_in true b rest c.Close g refl
params_in (SpellParams.void t f) b rest g = nothing_in true t (b ∷ rest) c.Other (ap class_of f) refl
params_in (SpellParams.some (SpellSeparated.one s)) b rest g = param_in s (b ∷ rest)
params_in (SpellParams.some (SpellSeparated.more {ts = ts} {us = us} t f s r)) b rest g = same_in ts (t ∷ us) (b ∷ rest) ∙ param_in s (t ∷ (us ++ b ∷ rest))

returns_quiet : {x : Returns} {ts : List Token} → SpellsReturns x ts → Quiet ts
returns_quiet (SpellsReturns.void t g) = quiet_one c.Other t (ap class_of g) refl
returns_quiet (SpellsReturns.base s) = base_quiet s

parens_quiet : {xs : List Param} {ts : List Token} → SpellParams xs ts → (a b : Token) → class_of a.kind ≡ c.OpenRound → class_of b.kind ≡ c.Close → Quiet (a ∷ (ts ++ b ∷ []))
parens_quiet {ts = ts} s a b g f h rest =
    opens h a ((ts ++ b ∷ []) ++ rest) g ∙ ap (λ (l : List Token). large_in true l or scan h false l) (append_assoc ts (b ∷ []) rest) ∙ ap (λ (o : Option ℕ). o or scan h false (ts ++ b ∷ rest)) (params_in s b rest f) ∙ params_quiet s h (b ∷ rest) ∙ plain h b rest c.Close f refl

pub head_quiet : {x : Head} {ts : List Token} → SpellsHead x ts → Quiet ts
head_quiet (SpellsHead.head {x = x} {rs = rs} {stars = ss} {ts = ts} t a b g f l r s p) =
    quiet_append rs (ss ++ t ∷ a ∷ (ts ++ b ∷ [])) (returns_quiet r) (quiet_append ss (t ∷ a ∷ (ts ++ b ∷ [])) (stars_quiet s) (quiet_cons c.Operand t (a ∷ (ts ++ b ∷ [])) (name_class t.kind x g) refl (parens_quiet p a b (ap class_of f) (ap class_of l))))

-- ---- structs

members_quiet : {x : Members} {ts : List Token} → SpellsMembers x ts → (rest : List Token) → scan false false (ts ++ rest) ≡ scan false false rest
members_quiet (SpellsMembers.members {bs = bs} {ts = ts} t g b s) rest =
    same_scan false bs (ts ++ t ∷ []) rest ∙ base_quiet b false ((ts ++ t ∷ []) ++ rest) ∙ same_scan false ts (t ∷ []) rest ∙ separated_quiet (λ x ts s. declarator_quiet s) s false (t ∷ rest) ∙ ends t rest (ap class_of g)

pub lists_quiet : {xs : List Members} {ts : List Token} → SpellAll SpellsMembers xs ts → (rest : List Token) → scan false false (ts ++ rest) ≡ scan false false rest
lists_quiet SpellAll.none rest = refl
lists_quiet (SpellAll.more {ts = ts} {us = us} s r) rest = same_scan false ts us rest ∙ members_quiet s (us ++ rest) ∙ lists_quiet r rest
