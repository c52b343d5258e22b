-- How what was made so far goes on.
use Rattle.std.proofs.Common.{◌≡◌, ℕ, ◌+◌, ◌<◌, Bool, length, drop, get_or, List, [], ◌∷◌, ◌++◌, Option, Some, Ok, Err, refl, sym, ap, ◌∙◌, append_assoc}
use Rattle.std.proofs.lemmas.List.{append-nil, drop_more}
use Rattle.ax_prog.specs.declared.Ty.{Ty}
use Rattle.ax_prog.specs.declared.SlotId.{SlotId}
use Rattle.ax_prog.specs.declared.Stmt as ps
use Rattle.ax_prog.specs.declared.Stmt.TheVariants as to
use Rattle.ax_parse_grammar.specs.declared.tree.Expr.{Expr}
use Rattle.ax_parse_grammar.specs.declared.tree.Base.{Base}
use Rattle.ax_parse_grammar.specs.declared.tree.Declared.{Declared}
use Rattle.ax_parse_grammar.specs.declared.tree.Simple as deed
use Rattle.ax_parse_grammar.specs.declared.tree.Opening.{Opening}
use Rattle.ax_parse_grammar.specs.declared.tree.Stmt.{Stmt}
use Rattle.ax_names_types.specs.declared.TypeFault.{TypeFault}
use Rattle.ax_names_types.specs.Faults.{Verdict}
use Rattle.ax_names_rules.specs.declared.State.{State}
use Rattle.ax_names_rules.specs.States.{depth, leaving}
use Rattle.ax_names_rules.specs.ValueWalk.{Made, ◌>>=◌, slot_of}
use Rattle.ax_names_rules.specs.StatementWalk.{var_of, vars_of, opening_of, test_of, step_of, global_of, globals_of, Making, if_else_of, for_of, followed_by, alone, item_by, stmt_of, items_of}
use Rattle.ax_names_given.specs.declared.stops.Stop.{Stop}
use Rattle.ax_names_given.specs.declared.stops.Stop.TheVariants.{Memory, Fault}
use Rattle.ax_names_given.specs.Made.{IsStopped}
use Rattle.ax_names.specs.Answers.{prefixed, Header, header_of}

-- ---- lists that grow

pub prefixed_none : (w : Made (List ps.Stmt)) → prefixed [] w ≡ w
prefixed_none (Ok r) = refl
prefixed_none (Err f) = refl

pub prefixed_end : (all : List ps.Stmt) (st : State) → prefixed all (Ok ([], st)) ≡ Ok (all, st)
prefixed_end all st = ap (λ (l : List ps.Stmt). Ok (l, st)) (append-nil all)

joined : (all bs : List ps.Stmt) (w : Made (List ps.Stmt)) → prefixed all (w >>= λ q. Ok (bs ++ q.0, q.1)) ≡ prefixed (all ++ bs) w
joined all bs (Ok q) = ap (λ (l : List ps.Stmt). Ok (l, q.1)) (sym (append_assoc all bs q.0))
joined all bs (Err f) = refl

-- the rest goes on behind what was made first
pub follows : (all more : List ps.Stmt) (a : Made (List ps.Stmt)) (rest : Making (List ps.Stmt)) (st : State) → prefixed all a ≡ Ok (more, st) → prefixed all (followed_by a rest) ≡ prefixed more (rest st)
follows all more (Ok r) rest st e =
    let both : (all ++ r.0, r.1) ≡ (more, st) = cc in
    joined all r.0 (rest r.1) ∙ ap (λ (p : List ps.Stmt × State). prefixed p.0 (rest p.1)) both
follows all more (Err f) rest st e = cc

pub stops : (all : List ps.Stmt) (a : Made (List ps.Stmt)) (rest : Making (List ps.Stmt)) (stop : Stop) → IsStopped (prefixed all a) stop → IsStopped (prefixed all (followed_by a rest)) stop
stops all (Ok r) rest (Fault f) h = cc
stops all (Err g) rest (Fault f) h = h
stops all a rest Memory h = tt

-- a cause that is passed on
pub passed : {A B : Type 0} (v : Verdict A) (w : Verdict B) (stop : Stop) → ((f : TypeFault) → v ≡ Err f → w ≡ Err f) → IsStopped v stop → IsStopped w stop
passed v w (Fault f) go h = go f h
passed v w Memory go h = tt

-- ---- the head of a `for`

module _ (defs : List (List ℕ)) (o : Opening) (c : Option Expr) (x : Option deed.Simple) (make : Making ps.Stmt) (st : State) where
  abbrev rest_by : Header × State → Made ps.Stmt
  rest_by h = make h.1 >>= λ r. Ok (to.For (h.0).0 ((h.0).1).0 ((h.0).1).1 r.0, leaving (depth st) r.1)

  behind_step : (b : List ps.Stmt × State) (i : Option SlotId × State) (v : Made (Option ps.Stmt)) → (v >>= λ y. make y.1 >>= λ r. Ok (to.For b.0 i.0 y.0 r.0, leaving (depth st) r.1)) ≡ ((v >>= λ y. Ok ((b.0, (i.0, y.0)), y.1)) >>= rest_by)
  behind_step b i (Ok y) = refl
  behind_step b i (Err f) = refl

  behind_test : (b : List ps.Stmt × State) (v : Made (Option SlotId)) → (v >>= λ i. step_of defs x i.1 >>= λ y. make y.1 >>= λ r. Ok (to.For b.0 i.0 y.0 r.0, leaving (depth st) r.1)) ≡ ((v >>= λ i. step_of defs x i.1 >>= λ y. Ok ((b.0, (i.0, y.0)), y.1)) >>= rest_by)
  behind_test b (Ok i) = behind_step b i (step_of defs x i.1)
  behind_test b (Err f) = refl

  behind_opening : (v : Made (List ps.Stmt)) → (v >>= λ b. test_of c b.1 >>= λ i. step_of defs x i.1 >>= λ y. make y.1 >>= λ r. Ok (to.For b.0 i.0 y.0 r.0, leaving (depth st) r.1)) ≡ ((v >>= λ b. test_of c b.1 >>= λ i. step_of defs x i.1 >>= λ y. Ok ((b.0, (i.0, y.0)), y.1)) >>= rest_by)
  behind_opening (Ok b) = behind_test b (test_of c b.1)
  behind_opening (Err f) = refl

  by_header : for_of defs o c x make st ≡ (header_of defs o c x st >>= rest_by)
  by_header = behind_opening (opening_of defs o st)

  then_body : (h : Header) (st2 : State) → header_of defs o c x st ≡ Ok (h, st2) → for_of defs o c x make st ≡ rest_by (h, st2)
  then_body h st2 e = by_header ∙ ap (λ (v : Made Header). v >>= rest_by) e

  pub for_no_header : (stop : Stop) → IsStopped (header_of defs o c x st) stop → IsStopped (for_of defs o c x make st) stop
  for_no_header stop h = passed (header_of defs o c x st) (for_of defs o c x make st) stop (λ f e. by_header ∙ ap (λ (v : Made Header). v >>= rest_by) e) h

  pub for_no_body : (h : Header) (st2 : State) (stop : Stop) → header_of defs o c x st ≡ Ok (h, st2) → IsStopped (make st2) stop → IsStopped (for_of defs o c x make st) stop
  for_no_body h st2 stop e k = passed (make st2) (for_of defs o c x make st) stop (λ f e2. then_body h st2 e ∙ ap (λ (v : Made ps.Stmt). v >>= λ r. Ok (to.For h.0 (h.1).0 (h.1).1 r.0, leaving (depth st) r.1)) e2) k

  pub for_made : (h : Header) (st2 : State) (b : ps.Stmt) (st3 : State) → header_of defs o c x st ≡ Ok (h, st2) → make st2 ≡ Ok (b, st3) → for_of defs o c x make st ≡ Ok (to.For h.0 (h.1).0 (h.1).1 b, leaving (depth st) st3)
  for_made h st2 b st3 e e2 = then_body h st2 e ∙ ap (λ (v : Made ps.Stmt). v >>= λ r. Ok (to.For h.0 (h.1).0 (h.1).1 r.0, leaving (depth st) r.1)) e2

-- ---- loops

vars_followed : (w : Made ps.Stmt) (rest : Making (List ps.Stmt)) → (w >>= λ r. rest r.1 >>= λ q. Ok (r.0 ∷ q.0, q.1)) ≡ followed_by (alone w) rest
vars_followed (Ok r) rest = refl
vars_followed (Err f) rest = refl

pub vars_step : (defs : List (List ℕ)) (floor : ℕ) (base : Base) (items : List Declared) (i : ℕ) (d : Declared) (all more : List ps.Stmt) (st st2 : State) (b : ps.Stmt) → i < length items → d ≡ get_or items i d → var_of defs floor base d st ≡ Ok (b, st2) → more ≡ all ++ b ∷ [] → prefixed all (vars_of defs floor base (drop i items) st) ≡ prefixed more (vars_of defs floor base (drop (i + 1) items) st2)
vars_step defs floor base items i d all more st st2 b h is e m =
    let rest = vars_of defs floor base (drop (i + 1) items) in
    let split : drop i items ≡ d ∷ drop (i + 1) items = drop_more items i d h ∙ ap (λ (y : Declared). y ∷ drop (i + 1) items) (sym is) in
    let one : prefixed all (alone (var_of defs floor base d st)) ≡ Ok (more, st2) = ap (λ (v : Made ps.Stmt). prefixed all (alone v)) e ∙ ap (λ (l : List ps.Stmt). Ok (l, st2)) (sym m) in
    ap (λ (l : List Declared). prefixed all (vars_of defs floor base l st)) split
    ∙ ap (prefixed all) (vars_followed (var_of defs floor base d st) rest)
    ∙ follows all more (alone (var_of defs floor base d st)) rest st2 one

pub items_step : (defs : List (List ℕ)) (result : Option Ty) (f : Bool) (floor : ℕ) (items : List Stmt) (i : ℕ) (a : Stmt) (all more : List ps.Stmt) (st st2 : State) → i < length items → a ≡ get_or items i a → prefixed all (item_by defs floor a (stmt_of defs result f a) st) ≡ Ok (more, st2) → prefixed all (items_of defs result f floor (drop i items) st) ≡ prefixed more (items_of defs result f floor (drop (i + 1) items) st2)
items_step defs result f floor items i a all more st st2 h is e =
    let split : drop i items ≡ a ∷ drop (i + 1) items = drop_more items i a h ∙ ap (λ (y : Stmt). y ∷ drop (i + 1) items) (sym is) in
    ap (λ (l : List Stmt). prefixed all (items_of defs result f floor l st)) split
    ∙ follows all more (item_by defs floor a (stmt_of defs result f a) st) (items_of defs result f floor (drop (i + 1) items)) st2 e

pub globals_step : (base : Base) (items : List Declared) (i : ℕ) (d : Declared) (st st2 : State) → i < length items → d ≡ get_or items i d → global_of base d st ≡ Ok st2 → globals_of base (drop i items) st ≡ globals_of base (drop (i + 1) items) st2
globals_step base items i d st st2 h is e =
    let split : drop i items ≡ d ∷ drop (i + 1) items = drop_more items i d h ∙ ap (λ (y : Declared). y ∷ drop (i + 1) items) (sym is) in
    ap (λ (l : List Declared). globals_of base l st) split
    ∙ ap (λ (v : Verdict State). v >>= globals_of base (drop (i + 1) items)) e

-- ---- `if` with `else`

module _ (c : Expr) (make other : Making ps.Stmt) (st : State) where
  abbrev rest_of : SlotId × State → Made ps.Stmt
  rest_of i = make i.1 >>= λ r. other r.1 >>= λ q. Ok (to.If i.0 r.0 (Some q.0), q.1)

  pub else_no_test : (stop : Stop) → IsStopped (slot_of st c) stop → IsStopped (if_else_of c make other st) stop
  else_no_test stop h = passed (slot_of st c) (if_else_of c make other st) stop (λ f e. ap (λ (v : Made SlotId). v >>= rest_of) e) h

  module _ (i : SlotId) (st2 : State) (test : slot_of st c ≡ Ok (i, st2)) where
    tested : if_else_of c make other st ≡ rest_of (i, st2)
    tested = ap (λ (v : Made SlotId). v >>= rest_of) test

    pub else_no_body : (stop : Stop) → IsStopped (make st2) stop → IsStopped (if_else_of c make other st) stop
    else_no_body stop h = passed (make st2) (if_else_of c make other st) stop (λ f e. tested ∙ ap (λ (v : Made ps.Stmt). v >>= λ r. other r.1 >>= λ q. Ok (to.If i r.0 (Some q.0), q.1)) e) h

    module _ (a : ps.Stmt) (st3 : State) (body : make st2 ≡ Ok (a, st3)) where
      bodied : if_else_of c make other st ≡ (other st3 >>= λ q. Ok (to.If i a (Some q.0), q.1))
      bodied = tested ∙ ap (λ (v : Made ps.Stmt). v >>= λ r. other r.1 >>= λ q. Ok (to.If i r.0 (Some q.0), q.1)) body

      pub else_no_other : (stop : Stop) → IsStopped (other st3) stop → IsStopped (if_else_of c make other st) stop
      else_no_other stop h = passed (other st3) (if_else_of c make other st) stop (λ f e. bodied ∙ ap (λ (v : Made ps.Stmt). v >>= λ q. Ok (to.If i a (Some q.0), q.1)) e) h

      pub else_made : (b : ps.Stmt) (st4 : State) → other st3 ≡ Ok (b, st4) → if_else_of c make other st ≡ Ok (to.If i a (Some b), st4)
      else_made b st4 e = bodied ∙ ap (λ (v : Made ps.Stmt). v >>= λ q. Ok (to.If i a (Some q.0), q.1)) e
