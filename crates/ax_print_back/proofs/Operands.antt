-- Texts that spell a tree wherever they stand, built from those of its operands.
use Rattle.std.proofs.Common.{◌≡◌, ◌≤◌, ℕ, ◌+◌, pos, true, false, List, [], ◌∷◌, ◌++◌, length, Some, refl, sym, ap, ◌∙◌, subst, arith, append-nil}
use Rattle.std.specs.Prelude.{codes}
use Rattle.std.specs.Fmt.{signed_decimal, decimal}
use Rattle.ax_prog.specs.declared.Span.{Span}
use Rattle.ax_prog.specs.declared.Var.{Var}
use Rattle.ax_prog.specs.declared.Un.{Un}
use Rattle.ax_prog.specs.declared.Bin.{Bin}
use Rattle.ax_prog.specs.declared.Expr as ex
use Rattle.ax_prog.specs.declared.Expr.TheVariants as e
use Rattle.ax_prog.specs.declared.tokens.Mark.TheVariants as m
use Rattle.ax_prog.specs.declared.tokens.Kind.{Kind}
use Rattle.ax_prog.specs.declared.tokens.Kind.TheVariants as k
use Rattle.ax_prog.specs.declared.tokens.Token.{Token}
use Rattle.ax_lex.specs.Bytes.{Text, AtHead}
use Rattle.ax_lex.specs.Tokens.{kind_of, continues}
use Rattle.ax_lex.specs.Pieces.{Piece, space, token, fresh_end, texts, ArePieces, tokens_of}
use Rattle.ax_lex.specs.Splices.{is_end}
use Rattle.ax_lex.proofs.Sequences.{texts-append, ArePieces-append, tokens_of-append}
use Rattle.ax_lex.proofs.Ends.{continues_end, open_piece, close_piece}
use Rattle.ax_lex.proofs.Printed.{decimal_kind}
use Rattle.ax_parse_grammar.specs.declared.tree.Expr.{Expr}
use Rattle.ax_parse_grammar.specs.declared.tree.Expr.TheVariants as form
use Rattle.ax_parse_grammar.specs.Terminals.{extent}
use Rattle.ax_parse_grammar.specs.Expressions.{Spells}
use Rattle.ax_names_types.specs.Scopes.{Env}
use Rattle.ax_print_fills.specs.Written.{IsWritten}
use Rattle.ax_print.specs.Text.{un_text, bin_text, in_parens}
use Rattle.ax_front_facts.specs.Writable.{IsNumber}
use Rattle.ax_print_back.proofs.Levels.{lower, below_unary}
use Rattle.ax_print_back.proofs.Quiet.{quiet, Quiet, kind_quiet, prefix_mark, binary_mark, question_kind, colon_kind}

-- ---- pieces

-- The text is that of these pieces, before a space or `)`.
pub record Inside (text : Text) (ps : List Piece) : Type 0 where
  pub joined : text ≡ texts ps
  pub proper : (b : ℕ) (rest : Text) → is_end b ≡ true → ArePieces false ps (b ∷ rest)

abbrev pub in_parens_pieces : List Piece → List Piece
in_parens_pieces ps = token (40 ∷ []) (k.Mark m.OpenRound) ∷ (ps ++ token (41 ∷ []) (k.Mark m.CloseRound) ∷ [])

abbrev pub between_pieces : List Piece → Text → Kind → List Piece → List Piece
between_pieces ps w kind qs = ps ++ space 32 ∷ token w kind ∷ space 32 ∷ qs

one_inside : (w : Text) (kind : Kind) → kind_of w ≡ Some kind → Inside w (token w kind ∷ [])
one_inside w kind is = record { joined = sym (append-nil w); proper = λ b rest end. ((is, continues_end b end w kind is), tt) }

parens_inside : (u : Text) (ps : List Piece) → Inside u ps → Inside (in_parens u) (in_parens_pieces ps)
parens_inside u ps s = record {
  joined = ap (λ (v : Text). 40 ∷ v) (ap (λ (v : Text). v ++ 41 ∷ []) s.joined ∙ sym (texts-append ps close));
  proper = λ b rest end. (open_piece false (texts (ps ++ close) ++ b ∷ rest), ArePieces-append false ps close (b ∷ rest) (s.proper 41 (b ∷ rest) refl) (close_piece (fresh_end false ps) (b ∷ rest), tt));
}
  where
    close : List Piece
    close = token (41 ∷ []) (k.Mark m.CloseRound) ∷ []

at_first : (P : ℕ → Type 0) (u v : Text) → Quiet u → ((b : ℕ) → quiet b ≡ true → P b) → AtHead (u ++ v) P
at_first P [] v q h = absurd q
at_first P (b ∷ u) v q h = h b q

prefix_inside : (w : Text) (kind : Kind) (u : Text) (ps : List Piece) → kind_of w ≡ Some kind → ((b : ℕ) → quiet b ≡ true → continues w b ≡ false) → Quiet u → Inside u ps → Inside (w ++ u) (token w kind ∷ ps)
prefix_inside w kind u ps is off q s = record {
  joined = ap (λ (v : Text). w ++ v) s.joined;
  proper = λ c rest end. ((is, subst (λ (v : Text). AtHead (v ++ c ∷ rest) (λ d. continues w d ≡ false)) s.joined (at_first (λ d. continues w d ≡ false) u (c ∷ rest) q off)), s.proper c rest end);
}

between_inside : (u : Text) (ps : List Piece) (w : Text) (kind : Kind) (v : Text) (qs : List Piece) → Inside u ps → kind_of w ≡ Some kind → Inside v qs → Inside (u ++ 32 ∷ (w ++ 32 ∷ v)) (between_pieces ps w kind qs)
between_inside u ps w kind v qs s is r = record {
  joined = (λ i. s.joined i ++ 32 ∷ (w ++ 32 ∷ r.joined i)) ∙ sym (texts-append ps (space 32 ∷ token w kind ∷ space 32 ∷ qs));
  proper = λ b rest end. ArePieces-append false ps (space 32 ∷ token w kind ∷ space 32 ∷ qs) (b ∷ rest) (s.proper 32 ((w ++ 32 ∷ texts qs) ++ b ∷ rest) refl) (refl, ((is, continues_end 32 refl w kind is), (refl, r.proper b rest end)));
}

-- ---- trees

module _ (vars : List Var) (there : Env) where
  -- the tokens spell an expression at this level, which writes the tree out
  abbrev pub Spell : ℕ → ex.Expr → List Token → Type 0
  Spell l x ts = (a : Expr) × Spells l a ts × IsWritten vars there x a

  -- The text does, wherever it stands.
  pub record Shows (l : ℕ) (x : ex.Expr) (text : Text) : Type 0 where
    pub pieces : List Piece
    pub inside : Inside text pieces
    pub spelled : (at : ℕ) → Spell l x (tokens_of at pieces)

  -- as an operand, which may stand behind a prefix mark too
  pub record Operand (x : ex.Expr) (text : Text) : Type 0 where
    pub shows : Shows 11 x text
    pub first : Quiet text

  abbrev lowered : (l n : ℕ) (x : ex.Expr) (ts : List Token) → l ≤ n → Spell n x ts → Spell l x ts
  lowered l n x ts le s = (s.0, lower le s.1, s.2)

  pub shows_lower : (l n : ℕ) (x : ex.Expr) (text : Text) → l ≤ n → Shows n x text → Shows l x text
  shows_lower l n x text le s = record { pieces = s.pieces; inside = s.inside; spelled = λ at. lowered l n x (tokens_of at s.pieces) le (s.spelled at) }

  -- one token
  pub token_shows : (x : ex.Expr) (w : Text) (kind : Kind) → kind_of w ≡ Some kind → ((s : Span) → Spell 11 x (record { kind = kind; span = s } ∷ [])) → Shows 11 x w
  token_shows x w kind is h = record { pieces = token w kind ∷ []; inside = one_inside w kind is; spelled = λ at. h (record { from = at; to = at + length w }) }

  pub number_shows : (z : _) → IsNumber z → Operand (e.Num z) (signed_decimal z)
  number_shows z h =
      let kind : kind_of (decimal h.0) ≡ Some (k.Number (pos h.0)) = decimal_kind h.0 h.2 in
      subst (λ z. Operand (e.Num z) (signed_decimal z)) (sym h.1) (record {
        shows = token_shows (e.Num (pos h.0)) (decimal h.0) (k.Number (pos h.0)) kind (λ s. (form.Number s (pos h.0), Spells.number (record { kind = k.Number (pos h.0); span = s }) refl, IsWritten.number));
        first = kind_quiet (decimal h.0) (k.Number (pos h.0)) kind refl;
      })

  pub parens_shows : (x : ex.Expr) (text : Text) → Shows 0 x text → Operand x (in_parens text)
  parens_shows x text s = record {
    shows = record {
      pieces = in_parens_pieces s.pieces;
      inside = parens_inside text s.pieces s.inside;
      spelled = λ at.
          let r = s.spelled (at + 1) in
          let first : Token = record { kind = k.Mark m.OpenRound; span = record { from = at; to = at + 1 } } in
          let to = at + 1 + length (texts s.pieces) in
          let last : Token = record { kind = k.Mark m.CloseRound; span = record { from = to; to = to + 1 } } in
          subst (λ (us : List Token). Spell 11 x (first ∷ us)) (sym (tokens_of-append (at + 1) s.pieces (token (41 ∷ []) (k.Mark m.CloseRound) ∷ []))) (r.0, Spells.parens first last refl refl r.1, r.2);
    };
    first = refl;
  }

  pub unary_shows : (op : Un) (x : ex.Expr) (text : Text) → Operand x text → Shows 0 (e.Un op x) (un_text op ++ text)
  unary_shows op x text s =
      let mark = prefix_mark op in
      record {
        pieces = token (un_text op) mark.kind ∷ s.shows.pieces;
        inside = prefix_inside (un_text op) mark.kind text s.shows.pieces mark.token mark.ends s.first s.shows.inside;
        spelled = λ at.
            let n = length (un_text op) in
            let r = s.shows.spelled (at + n) in
            let first : Token = record { kind = mark.kind; span = record { from = at; to = at + n } } in
            let ts = tokens_of (at + n) s.shows.pieces in
            subst (λ (o : Un). Spell 0 (e.Un o x) (first ∷ ts)) mark.same (form.Unary (extent (first ∷ ts)) mark.prefix r.0, Spells.unary first (omega arith) mark.is r.1, IsWritten.unary mark.arithmetic r.2);
      }

  -- tokens with one between them
  between : (l : ℕ) (x : ex.Expr) (ps : List Piece) (w : Text) (kind : Kind) (qs : List Piece) (at : ℕ) → ((q : ℕ) (s : Span) → Spell l x (tokens_of at ps ++ (record { kind = kind; span = s } ∷ tokens_of q qs))) → Spell l x (tokens_of at (between_pieces ps w kind qs))
  between l x ps w kind qs at h =
      let n = at + length (texts ps) + 1 in
      subst (Spell l x) (sym (tokens_of-append at ps (space 32 ∷ token w kind ∷ space 32 ∷ qs))) (h (n + length w + 1) (record { from = n; to = n + length w }))

  pub binary_shows : (op : Bin) (x y : ex.Expr) (u v : Text) → Operand x u → Operand y v → Shows 0 (e.Bin op x y) (u ++ (codes " " ++ (bin_text op ++ (codes " " ++ v))))
  binary_shows op x y u v s r =
      let mark = binary_mark op in
      let ps = s.shows.pieces in
      let qs = r.shows.pieces in
      record {
        pieces = between_pieces ps (bin_text op) mark.kind qs;
        inside = between_inside u ps (bin_text op) mark.kind v qs s.shows.inside mark.token r.shows.inside;
        spelled = λ at. between 0 (e.Bin op x y) ps (bin_text op) mark.kind qs at (λ q at2.
            let a = s.shows.spelled at in
            let b = r.shows.spelled q in
            let t : Token = record { kind = mark.kind; span = at2 } in
            let low = below_unary op in
            (form.Binary (extent (tokens_of at ps ++ t ∷ tokens_of q qs)) op a.0 b.0, Spells.binary t (omega arith) mark.is (lower (omega arith) a.1) (lower (omega arith) b.1), IsWritten.binary a.2 b.2));
      }

  pub cond_shows : (x y z : ex.Expr) (u v w : Text) → Operand x u → Operand y v → Operand z w → Shows 0 (e.Cond x y z) (u ++ (codes " ? " ++ (v ++ (codes " : " ++ w))))
  cond_shows x y z u v w s r o =
      let ps = s.shows.pieces in
      let qs = r.shows.pieces in
      let os = o.shows.pieces in
      let more = between_pieces qs (58 ∷ []) (k.Mark m.Colon) os in
      record {
        pieces = between_pieces ps (63 ∷ []) (k.Mark m.Question) more;
        inside = between_inside u ps (63 ∷ []) (k.Mark m.Question) (v ++ (codes " : " ++ w)) more s.shows.inside question_kind (between_inside v qs (58 ∷ []) (k.Mark m.Colon) w os r.shows.inside colon_kind o.shows.inside);
        spelled = λ at. between 0 (e.Cond x y z) ps (63 ∷ []) (k.Mark m.Question) more at (λ q at2.
            let a = s.shows.spelled at in
            let b = r.shows.spelled q in
            let question : Token = record { kind = k.Mark m.Question; span = at2 } in
            let n = q + length (texts qs) + 1 in
            let colon : Token = record { kind = k.Mark m.Colon; span = record { from = n; to = n + 1 } } in
            let c = o.shows.spelled (n + 1 + 1) in
            let rest = tokens_of (n + 1 + 1) os in
            subst (λ (l : List Token). Spell 0 (e.Cond x y z) (tokens_of at ps ++ question ∷ l)) (sym (tokens_of-append q qs (space 32 ∷ token (58 ∷ []) (k.Mark m.Colon) ∷ space 32 ∷ os)))
            (form.Cond (extent (tokens_of at ps ++ question ∷ (tokens_of q qs ++ colon ∷ rest))) a.0 b.0 c.0, Spells.cond question colon refl refl (lower (omega arith) a.1) (lower (omega arith) b.1) (lower (omega arith) c.1), IsWritten.cond a.2 b.2 c.2));
      }
