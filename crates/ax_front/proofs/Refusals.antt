-- What each layer's fault says of the text.
use Rattle.std.proofs.Common.{◌≡◌, ℕ, List, Some, None, sym, ap, ◌∙◌, subst, inl, inr, ◌⊎◌}
use Rattle.std.proofs.lemmas.Option.{none-some}
use Rattle.ax_prog.specs.declared.Program.{Program}
use Rattle.ax_prog.specs.declared.tokens.Token.{Token}
use Rattle.ax_lex.specs.declared.LexFault.{LexFault}
use Rattle.ax_lex.specs.declared.LexFault.TheVariants as l
use Rattle.ax_lex.specs.Faults.{Faulty, IsUnspelled}
use Rattle.ax_lex.proofs.Unique.{one_list}
use Rattle.ax_parse_limits.specs.Nesting.{first_too_deep}
use Rattle.ax_parse_grammar.specs.declared.tree.Tree.{Tree}
use Rattle.ax_parse_grammar.specs.Sources.{SpellsTree}
use Rattle.ax_parse_grammar.proofs.SourcesRead.{one_source}
use Rattle.ax_parse_limits.specs.Calls.{call_inside}
use Rattle.ax_parse_limits.specs.Wholes.{wholes, first_large}
use Rattle.ax_parse.specs.declared.faults.ParseFault.{ParseFault}
use Rattle.ax_parse.specs.declared.faults.ParseFault.TheVariants as p
use Rattle.ax_parse.specs.Faults as tree
use Rattle.ax_names_rules.specs.Programs.{IsProgramOf}
use Rattle.ax_names_rules.proofs.Sources.{one}
use Rattle.ax_front.specs.declared.SourceFault.{SourceFault}
use Rattle.ax_front.specs.declared.SourceFault.TheVariants as source
use Rattle.ax_front.specs.Causes.{from_lex, from_parse, IsRefusedParse, IsRefusedTree}
use Rattle.ax_front.specs.Texts.{IsProgramOfText, SpellsFew, HasSmallParts, KeepsLimits, HasNoProgram, FaultIs, RefusesRightly}
use Rattle.ax_front.proofs.Bodies.{outside}

-- ---- tokens

pub lex_refuses : (bytes : List ℕ) (f : LexFault) → (f ≡ l.Memory) ⊎ IsUnspelled bytes → RefusesRightly bytes (from_lex f)
lex_refuses bytes l.Memory h = tt
lex_refuses bytes _ (inl h) = cc
lex_refuses bytes _ (inr h) = λ keep. absurd (h keep.tokens keep.spelled keep.few)

pub lex_fault : (bytes : List ℕ) (f : LexFault) → (f ≡ l.Memory) ⊎ Faulty bytes f → FaultIs bytes (from_lex f)
lex_fault bytes l.Memory h = tt
lex_fault bytes _ (inl h) = cc
lex_fault bytes _ (inr h) = h

-- ---- trees

-- however the tokens of a tree are spelled, it is this tree
pub small_parts : (tokens : List Token) (tree : Tree) → SpellsTree tree tokens → ((s : SpellsTree tree tokens) → first_large (wholes s) ≡ None) → HasSmallParts tokens
small_parts tokens tree here h t s =
    subst (λ (t : Tree). (s : SpellsTree t tokens) → first_large (wholes s) ≡ None) (one_source tree t tokens here s) h s

module _ (bytes : List ℕ) (tokens : List Token) (few : SpellsFew bytes tokens) where
  -- its tokens are these
  its_tokens : (program : Program) (a : IsProgramOfText bytes program) → a.tokens ≡ tokens
  its_tokens program a = one_list bytes a.tokens tokens a.spelled few.0

  -- its tree is spelled by these
  its_parsed : (program : Program) (a : IsProgramOfText bytes program) → SpellsTree a.tree tokens
  its_parsed program a = subst (λ (ts : List Token). SpellsTree a.tree ts) (its_tokens program a) a.parsed

  limit_tokens : (keep : KeepsLimits bytes) → keep.tokens ≡ tokens
  limit_tokens keep = one_list bytes keep.tokens tokens keep.spelled few.0

  no_tree : tree.IsUnspelled tokens → HasNoProgram bytes
  no_tree none program a = none a.tree (its_parsed program a)

  call_refuses : (t : Tree) (at : ℕ) → SpellsTree t tokens → call_inside t ≡ Some at → HasNoProgram bytes
  call_refuses t at s h program a =
      none-some at (sym (outside a.tree program a.meant) ∙ (ap call_inside (one_source a.tree t tokens (its_parsed program a) s) ∙ h))

  parse_fault : (f : ParseFault) → tree.FaultIs tokens f → FaultIs bytes (from_parse f)
  parse_fault p.Memory h = tt
  parse_fault (p.TooDeep at) h = (tokens, few, h)
  parse_fault (p.Syntax at) h = (tokens, few, h)
  parse_fault (p.CallInside at) h = (tokens, few, h)
  parse_fault (p.ExprTooLarge at) h = (tokens, few, h)

  parse_refuses : (f : ParseFault) → tree.FaultIs tokens f → RefusesRightly bytes (from_parse f)
  parse_refuses p.Memory h = tt
  parse_refuses (p.TooDeep at) h = λ keep. absurd (none-some at (sym keep.shallow ∙ (ap first_too_deep (limit_tokens keep) ∙ h)))
  parse_refuses (p.Syntax at) h = λ keep. no_tree h.1
  parse_refuses (p.CallInside at) h = λ keep. call_refuses (h.1).0 at (h.1).1 (h.1).2
  parse_refuses (p.ExprTooLarge at) h = λ keep.
      let small : HasSmallParts tokens = subst HasSmallParts (limit_tokens keep) keep.small in
      absurd (none-some at (sym (small (h.1).0 (h.1).1) ∙ (h.1).3))

  pub tree_fault : (e : SourceFault) → IsRefusedParse tokens e → FaultIs bytes e
  tree_fault e h = subst (λ (e : SourceFault). FaultIs bytes e) (sym h.1) (parse_fault h.0 h.2)

  pub tree_refuses : (e : SourceFault) → IsRefusedParse tokens e → RefusesRightly bytes e
  tree_refuses e h = subst (λ (e : SourceFault). RefusesRightly bytes e) (sym h.1) (parse_refuses h.0 h.2)

  -- ---- programs

  module _ (shallow : first_too_deep tokens ≡ None) (t : Tree) (parsed : SpellsTree t tokens) where
    pub limits : ((s : SpellsTree t tokens) → first_large (wholes s) ≡ None) → KeepsLimits bytes
    limits h = record { tokens = tokens; spelled = few.0; few = few.1; shallow = shallow; small = small_parts tokens t parsed h }

    no_program : ((program : Program) → IsProgramOf t program → ⊥) → HasNoProgram bytes
    no_program none program a = none program (subst (λ (t : Tree). IsProgramOf t program) (one_source a.tree t tokens (its_parsed program a) parsed) a.meant)

    pub program_fault : call_inside t ≡ None → ((s : SpellsTree t tokens) → first_large (wholes s) ≡ None) → (e : SourceFault) → IsRefusedTree t e → FaultIs bytes e
    program_fault out h source.Memory r = tt
    program_fault out h (source.Lex f) r = absurd r
    program_fault out h (source.Parse f) r = absurd r
    program_fault out h (source.«Type» f) r =
        record { tokens = tokens; tree = t; spelled = few.0; few = few.1; shallow = shallow; parsed = parsed; outside = out; small = small_parts tokens t parsed h; broken = (r.0).0; first = (r.0).1 }

    pub program_refuses : (e : SourceFault) → IsRefusedTree t e → RefusesRightly bytes e
    program_refuses source.Memory r = tt
    program_refuses (source.Lex f) r = absurd r
    program_refuses (source.Parse f) r = absurd r
    program_refuses (source.«Type» f) r = λ keep. no_program r.1

-- a text has at most one program
pub one_program_of_text : (bytes : List ℕ) (p q : Program) → IsProgramOfText bytes p → IsProgramOfText bytes q → p ≡ q
one_program_of_text bytes p q a b =
    let tokens : b.tokens ≡ a.tokens = one_list bytes b.tokens a.tokens b.spelled a.spelled in
    let parsed : SpellsTree b.tree a.tokens = subst (λ (ts : List Token). SpellsTree b.tree ts) tokens b.parsed in
    let tree : b.tree ≡ a.tree = one_source b.tree a.tree a.tokens parsed a.parsed in
    one a.tree p q a.meant (subst (λ (t : Tree). IsProgramOf t q) tree b.meant)
