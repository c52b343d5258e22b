-- The slots of a program stand in turn where the expressions of its source do.
use Rattle.std.proofs.Common.{◌≡◌, ◌≤◌, ℕ, Bool, List, [], ◌∷◌, ◌++◌, length, Option, refl, sym, ◌∙◌, subst, arith}
use Rattle.std.specs.List.{All, AllPairs}
use Rattle.std.proofs.lemmas.List.Elements.{All-nil, All-cons}
use Rattle.std.proofs.lemmas.List.Kept.{AllPairs-cons}
use Rattle.ax_prog.specs.declared.Span.{Span}
use Rattle.ax_prog.specs.declared.Ty.{Ty}
use Rattle.ax_prog.specs.declared.FunId.{FunId}
use Rattle.ax_prog.specs.declared.SlotId.{SlotId}
use Rattle.ax_prog.specs.declared.Expr as ex
use Rattle.ax_prog.specs.declared.Atom.{Atom}
use Rattle.ax_prog.specs.declared.Arg.{Arg}
use Rattle.ax_prog.specs.declared.Value.{Value}
use Rattle.ax_prog.specs.declared.Init.{Init}
use Rattle.ax_prog.specs.declared.Slot.{Slot}
use Rattle.ax_prog.specs.declared.Stmt as ps
use Rattle.ax_prog.specs.declared.Program.{Program}
use Rattle.ax_prog.specs.declared.tokens.Token.{Token}
use Rattle.ax_lex.specs.Bytes.{Text}
use Rattle.ax_lex.specs.Pieces.{SpellsTokens}
use Rattle.ax_parse_grammar.specs.declared.tree.Expr.{Expr}
use Rattle.ax_parse_grammar.specs.declared.tree.Expr.TheVariants as e
use Rattle.ax_parse_grammar.specs.declared.tree.Base.{Base}
use Rattle.ax_parse_grammar.specs.declared.tree.Initialiser.{Initialiser}
use Rattle.ax_parse_grammar.specs.declared.tree.Declared.{Declared}
use Rattle.ax_parse_grammar.specs.declared.tree.Param.{Param}
use Rattle.ax_parse_grammar.specs.declared.tree.Head.{Head}
use Rattle.ax_parse_grammar.specs.declared.tree.Simple.{Simple}
use Rattle.ax_parse_grammar.specs.declared.tree.Opening.{Opening}
use Rattle.ax_parse_grammar.specs.declared.tree.Stmt.{Stmt}
use Rattle.ax_parse_grammar.specs.declared.tree.Part.{Part}
use Rattle.ax_parse_grammar.specs.declared.tree.Tree.{Tree}
use Rattle.ax_parse_grammar.specs.Sources.{SpellsTree}
use Rattle.ax_names_rules.specs.declared.Signature.{Signature}
use Rattle.ax_names_rules.specs.declared.State.{State}
use Rattle.ax_names_rules.specs.States.{with_var, with_slot}
use Rattle.ax_names_rules.specs.Values.{Offers, Arguments, Calls, Given}
use Rattle.ax_names_rules.specs.Declarations.{Begins, BecomeVars, BecomeGlobals}
use Rattle.ax_names_rules.specs.Statements.{Does, Opens, Tests, Steps, Returns, Becomes, BecomeAll}
use Rattle.ax_names_rules.specs.Functions.{Introduces, IsHead, text_of, with_params, DefinesFunction}
use Rattle.ax_names_rules.specs.Programs.{BecomesPart, BecomeParts, IsProgramOf}
use Rattle.ax_front_facts.specs.Spans.{LiesIn, SlotsLie, SlotsRise}
use Rattle.ax_front_facts.proofs.InTurn.{Within, stands}
use Rattle.ax_front_facts.proofs.Places.{Each, Held, OfWhole, OfCall, OfValue, call_has, OfInitialiser, OfDeclared, OfSimple, OfOpening, OfStmt, block_has, if_has, else_has, while_has, do_has, for_has, OfPart}
use Rattle.ax_front_facts.proofs.Ordered.{source}

-- ---- slots one after another

-- from one place up to another
abbrev Rise : ℕ → List Slot → ℕ → Type 0
Rise a [] b = a ≤ b
Rise a (s ∷ ss) b = (a ≤ s.span.from) × (s.span.from ≤ s.span.to) × Rise s.span.to ss b

rise_on : (a b c : ℕ) (ss : List Slot) → b ≤ c → Rise a ss b → Rise a ss c
rise_on a b c [] le h = omega (arith, le, h)
rise_on a b c (s ∷ ss) le h = (h.0, h.1, rise_on s.span.to b c ss le h.2)

rise_more : (a b c : ℕ) (ss : List Slot) (s : Slot) → Rise a ss b → Within b s.span c → Rise a (ss ++ s ∷ []) c
rise_more a b c [] s h w = (omega (arith, h, w.0), w.1, w.2)
rise_more a b c (r ∷ ss) s h w = (h.0, h.1, rise_more r.span.to b c ss s h.2 w)

earlier : (a b c : ℕ) (ss : List Slot) → a ≤ b → Rise b ss c → Rise a ss c
earlier a b c [] le h = omega (arith, le, h)
earlier a b c (s ∷ ss) le h = (omega (arith, le, h.0), h.1, h.2)

to_end : (a b : ℕ) (ss : List Slot) → Rise a ss b → a ≤ b
to_end a b [] h = h
to_end a b (s ∷ ss) h = let r : s.span.to ≤ b = to_end s.span.to b ss h.2 in omega (arith, h.0, h.1, r)

all_lie : (a b : ℕ) (ss : List Slot) → Rise a ss b → All (λ slot. LiesIn b slot.span) ss
all_lie a b [] h = All-nil (λ (slot : Slot). LiesIn b slot.span)
all_lie a b (s ∷ ss) h = All-cons (λ (slot : Slot). LiesIn b slot.span) s ss (h.1, to_end s.span.to b ss h.2) (all_lie s.span.to b ss h.2)

all_later : (a b : ℕ) (ss : List Slot) → Rise a ss b → All (λ slot. a ≤ slot.span.from) ss
all_later a b [] h = All-nil (λ (slot : Slot). a ≤ slot.span.from)
all_later a b (s ∷ ss) h = All-cons (λ (slot : Slot). a ≤ slot.span.from) s ss h.0 (all_later a b ss (earlier a s.span.to b ss (omega (arith, h.0, h.1)) h.2))

all_rise : (a b : ℕ) (ss : List Slot) → Rise a ss b → AllPairs (λ (x y : Slot). x.span.to ≤ y.span.from) ss
all_rise a b [] h = λ i j d lt in'. absurd (omega (arith, in'))
all_rise a b (s ∷ ss) h = AllPairs-cons (λ (x y : Slot). x.span.to ≤ y.span.from) s ss (all_later s.span.to b ss h.2) (all_rise s.span.to b ss h.2)

-- ---- values

-- the slots so far stand before this place
abbrev Before : State → ℕ → Type 0
Before st a = Rise 0 st.slots a

abbrev On : State → ℕ → State → ℕ → Type 0
On st a st2 b = Before st a → Before st2 b

same : (st : State) (a b : ℕ) → a ≤ b → On st a st b
same st a b le h = rise_on 0 a b st.slots le h

slot : (st : State) (c : Expr) (x : ex.Expr) (atoms : List (Atom × Span)) (a b : ℕ) → OfWhole a c b → On st a (with_slot st c x atoms) b
slot st c x atoms a b w h = rise_more 0 a b st.slots _ h w

offers : {st : State} {u : Ty} {c : Expr} {v : Value} {st2 : State} → Offers st u c v st2 → (a b : ℕ) → OfWhole a c b → On st a st2 b
offers {st = st} (Offers.number {a = c} x atoms n) a b w = slot st c x atoms a b w
offers {st = st} (Offers.pointer u q p) a b w = same st a b (omega (arith, w.0, w.1, w.2))

arguments : {st : State} {us : List Ty} {xs : List Expr} {args : List Arg} {st2 : State} → Arguments st us xs args st2 → (a b : ℕ) → Each OfWhole a xs b → On st a st2 b
arguments {st = st} Arguments.none a b w = same st a b w
arguments (Arguments.more v o r) a b w = λ h. arguments r w.0 b w.2 (offers o a w.0 w.1 h)

-- the condition of a `for`
tests : {st : State} {c : Option Expr} {id : Option SlotId} {st2 : State} → Tests st c id st2 → (a b : ℕ) → Held OfWhole a c b → On st a st2 b
tests {st = st} Tests.none a b w = same st a b w
tests {st = st} (Tests.number {a = c} x atoms n) a b w = slot st c x atoms a b w

module _ {defs : List (List ℕ)} where
  calls : {st : State} {c : Expr} {u : Option Ty} {j : FunId} {args : List Arg} {st2 : State} → Calls defs st c u j args st2 → (a b : ℕ) → OfCall a c b → On st a st2 b
  calls (Calls.call {at = at} {xs = xs} at2 x head f r) a b w = arguments r a b (call_has a b at (e.Name at2 x) xs w)

  given : {st : State} {u : Ty} {c : Expr} {v : Value} {st2 : State} → Given defs st u c v st2 → (a b : ℕ) → OfValue a c b → On st a st2 b
  given (Given.offered o) a b w = offers o a b w.0
  given (Given.call c) a b w = calls c a b w.1

  -- ---- declarations

  begins : {st : State} {u : Ty} {i : Initialiser} {v : Init} {st2 : State} → Begins defs st u i v st2 → (a b : ℕ) → OfInitialiser a i b → On st a st2 b
  begins {st = st} Begins.nothing a b w = same st a b w
  begins (Begins.single g) a b w = given g a b w
  begins {st = st} (Begins.list t) a b w = same st a b w

  vars : {floor : ℕ} {base : Base} {st : State} {ds : List Declared} {bs : List ps.Stmt} {st2 : State} → BecomeVars defs floor base st ds bs st2 → (a b : ℕ) → Each OfDeclared a ds b → On st a st2 b
  vars {st = st} BecomeVars.none a b w = same st a b w
  vars (BecomeVars.more u v d i r) a b w = λ h. vars r w.0 b w.2 (begins i a w.0 w.1 h)

  -- ---- statements

  does : {st : State} {x : Simple} {y : ps.Stmt} {st2 : State} → Does defs st x y st2 → (a b : ℕ) → OfSimple a x b → On st a st2 b
  does (Does.assign u l t g) a b w = given g a b w
  does {st = st} (Does.change {b = c} u l x atoms t i n) a b w = slot st c x atoms a b w
  does {st = st} (Does.step u l t i) a b w = same st a b w
  does (Does.call c) a b w = calls c a b w

  opens : {st : State} {o : Opening} {bs : List ps.Stmt} {st2 : State} → Opens defs st o bs st2 → (a b : ℕ) → OfOpening a o b → On st a st2 b
  opens {st = st} Opens.nothing a b w = same st a b w
  opens (Opens.simple d) a b w = does d a b w
  opens (Opens.decl d) a b w = vars d a b w

  steps : {st : State} {x : Option Simple} {y : Option ps.Stmt} {st2 : State} → Steps defs st x y st2 → (a b : ℕ) → Held OfSimple a x b → On st a st2 b
  steps {st = st} Steps.none a b w = same st a b w
  steps (Steps.simple d) a b w = does d a b w

  returns : {st : State} {u : Option Ty} {c : Option Expr} {v : Option Value} {st2 : State} → Returns defs st u c v st2 → (a b : ℕ) → Held OfValue a c b → On st a st2 b
  returns {st = st} Returns.none a b w = same st a b w
  returns (Returns.value g) a b w = given g a b w

  module _ {result : Option Ty} where
    mutual
      becomes : {f : Bool} {st : State} {x : Stmt} {y : ps.Stmt} {st2 : State} → Becomes defs result f st x y st2 → (a b : ℕ) → OfStmt a x b → On st a st2 b
      becomes {st = st} Becomes.empty a b w = same st a b w
      becomes (Becomes.block {at = at} items d) a b w = become_all d a b (block_has a b at items w)
      becomes (Becomes.simple d) a b w = does d a b w
      becomes {st = st} (Becomes.lone_if {at = at} {c = c} {a = y} x atoms n d) a b w =
          let r = if_has a b at c y w in
          λ h. becomes d r.0 b r.2 (slot st c x atoms a r.0 r.1 h)
      becomes {st = st} (Becomes.if_else {at = at} {c = c} {a = y} {other = z} x atoms n d g) a b w =
          let r = else_has a b at c y z w in
          λ h. becomes g r.1 b r.4 (becomes d r.0 r.1 r.3 (slot st c x atoms a r.0 r.2 h))
      becomes {st = st} (Becomes.while {at = at} {c = c} {a = y} x atoms n d) a b w =
          let r = while_has a b at c y w in
          λ h. becomes d r.0 b r.2 (slot st c x atoms a r.0 r.1 h)
      becomes (Becomes.do_while {st2 = st2} {at = at} {c = c} {a = y} x atoms d n) a b w =
          let r = do_has a b at y c w in
          λ h. slot st2 c x atoms r.0 b r.2 (becomes d a r.0 r.1 h)
      becomes (Becomes.for {at = at} {o = o} {c = c} {x = x} {a = y} d1 d2 d3 d4) a b w =
          let r = for_has a b at o c x y w in
          λ h. becomes d4 r.2 b r.6 (steps d3 r.1 r.2 r.5 (tests d2 r.0 r.1 r.4 (opens d1 a r.0 r.3 h)))
      becomes {st = st} Becomes.break a b w = same st a b w
      becomes {st = st} Becomes.continue a b w = same st a b w
      becomes (Becomes.return d) a b w = returns d a b w
      becomes {st = st} (Becomes.read l t) a b w = same st a b w
      becomes {st = st} (Becomes.print {a = c} x atoms n) a b w = slot st c x atoms a b w

      become_all : {f : Bool} {floor : ℕ} {st : State} {xs : List Stmt} {ys : List ps.Stmt} {st2 : State} → BecomeAll defs result f floor st xs ys st2 → (a b : ℕ) → Each OfStmt a xs b → On st a st2 b
      become_all {st = st} BecomeAll.none a b w = same st a b w
      become_all (BecomeAll.decl d e) a b w = λ h. become_all e w.0 b w.2 (vars d a w.0 w.1 h)
      become_all (BecomeAll.more d e) a b w = λ h. become_all e w.0 b w.2 (becomes d a w.0 w.1 h)

-- ---- parts that add no slots

introduced : {st : State} {g : Signature} {st2 : State} → Introduces st g st2 → st2.slots ≡ st.slots
introduced (Introduces.first h) = refl
introduced (Introduces.again d k h e i) = refl

headed : {st : State} {defined : Bool} {h : Head} {g : Signature} {st2 : State} → IsHead st defined h g st2 → st2.slots ≡ st.slots
headed (IsHead.head d i u) = introduced i

with_parameters : (st : State) (qs : List Param) (us : List Ty) → (with_params st qs us).slots ≡ st.slots
with_parameters st [] us = refl
with_parameters st (q ∷ rest) [] = refl
with_parameters st (q ∷ rest) (u ∷ us) = with_parameters (with_var st (text_of q.name) u) rest us

globals : {base : Base} {st : State} {ds : List Declared} {st2 : State} → BecomeGlobals base st ds st2 → st2.slots ≡ st.slots
globals BecomeGlobals.none = refl
globals (BecomeGlobals.more u v d i r) = globals r

same_slots : (st st2 : State) (a b : ℕ) → st2.slots ≡ st.slots → a ≤ b → On st a st2 b
same_slots st st2 a b e le h = subst (λ (ss : List Slot). Rise 0 ss b) (sym e) (rise_on 0 a b st.slots le h)

-- ---- sources

module _ {defs : List (List ℕ)} where
  defines : {st : State} {h : Head} {items : List Stmt} {st2 : State} → DefinesFunction defs st h items st2 → (a b : ℕ) → Each OfStmt a items b → On st a st2 b
  defines {st = st} {h = h} (DefinesFunction.function {g = g} {st2 = st2} d e) a b w =
      λ k. become_all e a b w (subst (λ (ss : List Slot). Rise 0 ss a) (sym (with_parameters st2 h.params g.params ∙ headed d)) k)

  part : {st : State} {x : Part} {st2 : State} → BecomesPart defs st x st2 → (a b : ℕ) → OfPart a x b → On st a st2 b
  part {st = st} {st2 = st2} (BecomesPart.struct s d) a b w = same_slots st st2 a b refl w
  part {st = st} {st2 = st2} (BecomesPart.decl d) a b w = same_slots st st2 a b (globals d) w
  part (BecomesPart.function d) a b w = defines d a b w
  part {st = st} {st2 = st2} (BecomesPart.prototype j d e) a b w = same_slots st st2 a b (headed d) w

  parts : {st : State} {xs : List Part} {st2 : State} → BecomeParts defs st xs st2 → (a b : ℕ) → Each OfPart a xs b → On st a st2 b
  parts {st = st} BecomeParts.none a b w = same st a b w
  parts (BecomeParts.more d e) a b w = λ h. parts e w.0 b w.2 (part d a w.0 w.1 h)

program : {tree : Tree} {p : Program} → IsProgramOf tree p → (b : ℕ) → Each OfPart 0 tree.parts b → Rise 0 p.slots b
program (IsProgramOf.file d m) b w = parts d 0 b w (omega arith)

-- ---- programs of texts

module _ (bytes : Text) (tokens : List Token) (tree : Tree) (p : Program) where
  risen : SpellsTokens bytes tokens → SpellsTree tree tokens → IsProgramOf tree p → Rise 0 p.slots (length bytes)
  risen s t d = program d (length bytes) (source t 0 (length bytes) (stands bytes tokens s))

  pub lie : SpellsTokens bytes tokens → SpellsTree tree tokens → IsProgramOf tree p → SlotsLie (length bytes) p
  lie s t d = all_lie 0 (length bytes) p.slots (risen s t d)

  pub rise : SpellsTokens bytes tokens → SpellsTree tree tokens → IsProgramOf tree p → SlotsRise p
  rise s t d = all_rise 0 (length bytes) p.slots (risen s t d)
