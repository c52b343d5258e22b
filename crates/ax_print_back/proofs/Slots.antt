-- What a text says of the slots of its program, and the text with a tree written in the place of one of them.
use Rattle.std.proofs.Common.{◌≡◌, ◌≤◌, ◌<◌, ℕ, ◌+◌, List, [], ◌∷◌, ◌++◌, length, get_or, slice_get, Some, sym, ap, ◌∙◌, subst, arith}
use Rattle.std.proofs.lemmas.Option.{slice_get_within, get_or_from_slice_get}
use Rattle.std.proofs.lemmas.List.Elements.{All-weaker}
use Rattle.ax_prog.specs.declared.Span.{Span}
use Rattle.ax_prog.specs.declared.Expr as number
use Rattle.ax_prog.specs.declared.Atom.{Atom}
use Rattle.ax_prog.specs.declared.Slot.{Slot}
use Rattle.ax_prog.specs.declared.Program.{Program}
use Rattle.ax_prog.specs.declared.tokens.Token.{Token}
use Rattle.ax_prog.specs.Substitution.{FitsSlot}
use Rattle.ax_lex.specs.Bytes.{Text}
use Rattle.ax_lex.specs.Pieces.{tokens_of, SpellsTokens}
use Rattle.ax_lex.specs.Splices.{in_parens}
use Rattle.ax_print.specs.Text.{tree_text, leaf_text}
use Rattle.ax_parse_grammar.specs.Trees.{span_of}
use Rattle.ax_parse_grammar.specs.Terminals.{extent}
use Rattle.ax_parse_grammar.specs.Expressions.{Spells}
use Rattle.ax_print_holes.specs.Moved.{moved_span, moved_tokens}
use Rattle.ax_print_holes.specs.Holes.{put}
use Rattle.ax_print_holes.specs.Places.{IsRespelled}
use Rattle.ax_print_fills.specs.Replaced.{IsFilledIn, renewed, filled_program}
use Rattle.ax_print_fills.specs.Written.{HasAtom}
use Rattle.ax_print_back.specs.Swaps.{shifted, swapped}
use Rattle.ax_front_facts.specs.Spans.{LiesIn}
use Rattle.ax_front_facts.specs.Writable.{IsWritable}
use Rattle.ax_front.specs.Texts.{IsProgramOfText}
use Rattle.ax_print_back.proofs.Laws.{Laws}
use Rattle.ax_print_back.proofs.Standing.{Between, InTurn, tokens_stand, split, at_extent, spelled_starts, part_between}
use Rattle.ax_print_back.proofs.Moving.{AtomsBetween, place_stays}

module _ (laws : Laws) (source : Text) (p : Program) (text : IsProgramOfText source p) where
  -- ---- where slots stand

  pub slot_lies : (n : ℕ) (slot : Slot) → slice_get p.slots n ≡ Some slot → LiesIn (length source) slot.span
  slot_lies n slot e =
      let all = laws.lie source text.tokens text.tree p text.spelled text.parsed text.meant in
      subst (λ (s : Slot). LiesIn (length source) s.span) (get_or_from_slice_get p.slots n slot slot e) (all n slot (slice_get_within p.slots n slot e))

  pub slots_rise : (n m : ℕ) (slot next : Slot) → n < m → slice_get p.slots n ≡ Some slot → slice_get p.slots m ≡ Some next → (slot.span).to ≤ (next.span).from
  slots_rise n m slot next lt e d =
      let all = laws.rise source text.tokens text.tree p text.spelled text.parsed text.meant in
      let h = all n m slot lt (slice_get_within p.slots m next d) in
      subst (λ (s : Slot). (slot.span).to ≤ (s.span).from) (get_or_from_slice_get p.slots m next slot d)
      (subst (λ (s : Slot). (s.span).to ≤ ((get_or p.slots m slot).span).from) (get_or_from_slice_get p.slots n slot slot e) h)

  -- ---- a slot's expression among the tokens

  module _ (k : ℕ) (slot : Slot) (e : slice_get p.slots k ≡ Some slot) where
    abbrev filled : IsFilledIn text.tree p k slot
    filled = laws.filled text.tree p k slot text.meant e

    abbrev hole : IsRespelled text.tree filled.path text.tokens
    hole = laws.holes filled.old text.tree text.tokens filled.path text.parsed

    -- the slot's atoms stand in its place
    pub atoms_between : AtomsBetween (slot.span).from (slot.span).to slot.atoms
    atoms_between =
        let f = filled in
        let r = hole in
        let turn = tokens_stand source text.tokens text.spelled in
        let one = split 0 turn.0 r.front (r.hole ++ r.back) (subst (InTurn 0 turn.0) r.joined turn.1) in
        let two = split one.0 turn.0 r.hole r.back one.2 in
        let s = spelled_starts r.spelled in
        let tight = at_extent one.0 two.0 s.0 s.1 (subst (InTurn one.0 two.0) s.2 two.1) in
        let there : InTurn (slot.span).from (slot.span).to r.hole = subst (λ (at : Span). InTurn at.from at.to r.hole) (r.stands ∙ f.stands) (subst (λ (ts : List Token). InTurn (extent ts).from (extent ts).to ts) (sym s.2) tight) in
        let has = laws.atoms f.there f.old slot.expr slot.atoms f.means in
        All-weaker (HasAtom f.there f.old) (λ (y : Atom × Span). Between (slot.span).from (slot.span).to y.1)
        (λ y h. subst (Between (slot.span).from (slot.span).to) h.2 (part_between (slot.span).from (slot.span).to r.spelled there h.1)) slot.atoms has

    -- ---- a tree in the slot's place

    -- the source with the tree's text in this place is the text of the program with the tree
    abbrev pub ReadsAs : Span → number.Expr → Type 0
    ReadsAs at x =
        let w = tree_text (leaf_text source p (record { 0 = k })) x in
        (z : Span) × (atoms : List (Atom × Span)) × IsProgramOfText (swapped source at w) (filled_program (shifted at (length (in_parens w))) k (renewed slot z x atoms) p)

    pub reads_as : (x : number.Expr) → FitsSlot slot x → IsWritable x → ReadsAs slot.span x
    reads_as x fits can =
        let f = filled in
        let r = hole in
        let s = spelled_starts r.spelled in
        subst (λ (at : Span). ReadsAs at x) (r.stands ∙ f.stands) (subst (λ (ts : List Token). ReadsAs (extent ts) x) (sym s.2)
        (by s.0 s.1 (subst (λ (ts : List Token). SpellsTokens source (r.front ++ (ts ++ r.back))) s.2 (subst (SpellsTokens source) r.joined text.spelled)) (ap extent (sym s.2) ∙ r.stands)))
      where
        by : (t : Token) (ts : List Token) → SpellsTokens source (hole.front ++ ((t ∷ ts) ++ hole.back)) → extent (t ∷ ts) ≡ span_of filled.old → ReadsAs (extent (t ∷ ts)) x
        by t ts spelled stands =
            let f = filled in
            let r = hole in
            let w = tree_text (leaf_text source p (record { 0 = k })) x in
            let words = laws.words source text.tokens text.tree p text.spelled text.parsed text.meant in
            let shown = laws.shown source text.tokens text.tree p k slot x text.spelled text.parsed words e f fits can in
            let swap = laws.swapped source r.front t ts r.back w shown.kinds shown.inside spelled in
            let new = shown.spelled ((extent (t ∷ ts)).from + 1) in
            let value = laws.written f.there p.vars x new.0 f.named new.2 in
            let move = shifted (extent (t ∷ ts)) (length (in_parens w)) in
            let us = swap.first ∷ (tokens_of ((extent (t ∷ ts)).from + 1) (shown.inside).pieces ++ swap.last ∷ []) in
            let parsed = r.respelled move new.0 us (place_stays (extent (t ∷ ts)) (length (in_parens w)) 0 (omega arith)) (Spells.parens swap.first swap.last swap.opens swap.closes new.1) (swap.stands ∙ ap (moved_span move) stands) in (
              span_of new.0,
              value.0,
              record {
                tokens = moved_tokens move r.front ++ (us ++ moved_tokens move r.back);
                tree = put move new.0 text.tree f.path;
                spelled = swap.spelled;
                parsed = parsed;
                meant = f.filled move new.0 x value.0 value.1;
              },
            )
