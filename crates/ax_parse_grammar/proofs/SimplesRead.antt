-- What is spelled the parser of simple statements reads.
use Rattle.std.proofs.Common.{◌≡◌, ℕ, Bool, true, false, List, [], ◌∷◌, ◌++◌, Option, Some, None, refl, sym, ap, ◌∙◌, subst, arith, append_assoc, inl, inr, ◌⊎◌, ⊎_elim}
use Rattle.std.specs.Prelude.{if◌then◌else◌}
use Rattle.std.proofs.lemmas.Bool.{false≢true}
use Rattle.std.proofs.lemmas.Option.{none-some}
use Rattle.ax_prog.specs.declared.Span.{Span}
use Rattle.ax_prog.specs.declared.Bin.{Bin}
use Rattle.ax_prog.specs.declared.tokens.Mark.TheVariants as m
use Rattle.ax_prog.specs.declared.tokens.Kind.{Kind}
use Rattle.ax_prog.specs.declared.tokens.Kind.TheVariants as k
use Rattle.ax_prog.specs.declared.tokens.Token.{Token}
use Rattle.ax_parse_grammar.specs.declared.operators.Post.TheVariants as post
use Rattle.ax_parse_grammar.specs.declared.terminals.Terminal.TheVariants as w
use Rattle.ax_parse_grammar.specs.declared.tree.Prefix.{Prefix}
use Rattle.ax_parse_grammar.specs.declared.tree.Expr.{Expr}
use Rattle.ax_parse_grammar.specs.declared.tree.Expr.TheVariants as e
use Rattle.ax_parse_grammar.specs.declared.tree.Simple.{Simple}
use Rattle.ax_parse_grammar.specs.declared.tree.Simple.TheVariants as act
use Rattle.ax_parse_grammar.specs.Operators.{post_of, prefix_of, compound_of, step_of}
use Rattle.ax_parse_grammar.specs.Terminals.{Is, is, extent}
use Rattle.ax_parse_grammar.specs.Expressions.{Spells, SpellArgs}
use Rattle.ax_parse_grammar.specs.Statements.{SpellsSimple}
use Rattle.ax_parse_grammar.specs.Reading.{extent_to, after, next, Settles}
use Rattle.ax_parse_grammar.specs.ReadExpressions.{Chain, expr, unary, postfix}
use Rattle.ax_parse_grammar.specs.ReadStatements.{assign_by, chain_by, simple_stmt}
use Rattle.ax_parse_grammar.proofs.Tools.{after_is, after_none, next_is, next_none, span_to, extent_to_is, also_1, also_2, settles_at}
use Rattle.ax_parse_grammar.proofs.ExpressionsRead.{level_within, Read, read, read_args, leads, expr_first, posts_end, posts_turn, call_reads}
use Rattle.ax_parse_grammar.proofs.DeclarationsRead.{Ended}

-- ---- simple statements

-- a compound assignment's mark is no other one
compound_alone : (kind : Kind) (op : Bin) → compound_of kind ≡ Some op → (post_of kind ≡ None) × (step_of kind ≡ None) × (is w.Assign kind ≡ false)
compound_alone (k.Mark m.PlusAssign) op h = (refl, refl, refl)
compound_alone (k.Mark m.MinusAssign) op h = (refl, refl, refl)
compound_alone (k.Mark m.StarAssign) op h = (refl, refl, refl)
compound_alone (k.Mark m.SlashAssign) op h = (refl, refl, refl)
compound_alone (k.Mark m.PercentAssign) op h = (refl, refl, refl)
compound_alone (k.Mark m.AndAssign) op h = (refl, refl, refl)
compound_alone (k.Mark m.OrAssign) op h = (refl, refl, refl)
compound_alone (k.Mark m.XorAssign) op h = (refl, refl, refl)
compound_alone (k.Mark m.ShlAssign) op h = (refl, refl, refl)
compound_alone (k.Mark m.ShrAssign) op h = (refl, refl, refl)
compound_alone _ op h = absurd (none-some op h)

step_alone : (kind : Kind) (up : Bool) → step_of kind ≡ Some up → post_of kind ≡ None
step_alone (k.Mark m.PlusPlus) up h = refl
step_alone (k.Mark m.MinusMinus) up h = refl
step_alone _ up h = absurd (none-some up h)

leads_no_step : (kind : Kind) → leads kind ≡ true → step_of kind ≡ None
leads_no_step (k.Mark m.PlusPlus) h = absurd (false≢true h)
leads_no_step (k.Mark m.MinusMinus) h = absurd (false≢true h)
leads_no_step _ h = refl

-- an expression begins with no `++` or `--`
no_step : {l : ℕ} {x : Expr} {ts : List Token} → Spells l x ts → (rest : List Token) → next step_of (ts ++ rest) ≡ None
no_step s rest = let f = expr_first s in ap (λ (w : List Token). next step_of (w ++ rest)) f.is ∙ next_none step_of f.t (f.rest ++ rest) (leads_no_step f.t.kind f.holds)

assign_turn : (n : ℕ) (ts r us rest : List Token) (a x : Expr) (d : Option (Simple × List Token)) (at : Span) → after w.Assign r ≡ Some us → expr n us ≡ Some (x, rest) → extent_to ts rest ≡ at → assign_by (expr n) ts (a, r) d ≡ Some (act.Assign at a x, rest)
assign_turn n ts r us rest a x d at one two span = rw one (rw two (rw span refl))

change_turn : (n : ℕ) (ts r us rest : List Token) (a x : Expr) (op : Bin) (d : Option (Simple × List Token)) (at : Span) → after w.Assign r ≡ None → next compound_of r ≡ Some (op, us) → expr n us ≡ Some (x, rest) → extent_to ts rest ≡ at → assign_by (expr n) ts (a, r) d ≡ Some (act.Change at a op x, rest)
change_turn n ts r us rest a x op d at off is two span = rw off (rw is (rw two (rw span refl)))

default_turn : (n : ℕ) (ts r : List Token) (a : Expr) (d : Option (Simple × List Token)) → after w.Assign r ≡ None → next compound_of r ≡ None → assign_by (expr n) ts (a, r) d ≡ d
default_turn n ts r a d off none = rw off (rw none refl)

prefixed_turn : (n : ℕ) (ts us r : List Token) (p : _) (a : Expr) (o : Option (Simple × List Token)) → next step_of ts ≡ None → next prefix_of ts ≡ Some (p, us) → unary n ts ≡ Some (a, r) → assign_by (expr n) ts (a, r) None ≡ o → simple_stmt n ts ≡ o
prefixed_turn n ts us r p a o off is one two = rw off (rw is (rw one two))

chained_turn : (n : ℕ) (ts : List Token) (c : Chain) (o : Option (Simple × List Token)) → next step_of ts ≡ None → next prefix_of ts ≡ None → postfix n ts ≡ Some c → chain_by (expr n) ts c ≡ o → simple_stmt n ts ≡ o
chained_turn n ts c o off none one two = rw off (rw none (rw one two))

chain_turn : (n : ℕ) (ts : List Token) (c : Chain) (o : Option (Simple × List Token)) → next step_of c.1 ≡ None → assign_by (expr n) ts (c.0.0, c.1) (if c.0.1 then Some (act.Call (extent_to ts c.1) (c.0).0, c.1) else None) ≡ o → chain_by (expr n) ts c ≡ o
chain_turn n ts c o off is = rw off is

behind_turn : (n : ℕ) (ts rest : List Token) (c : Chain) (up : Bool) (at : Span) → next step_of c.1 ≡ Some (up, rest) → extent_to ts rest ≡ at → chain_by (expr n) ts c ≡ Some (act.Step at c.0.0 up, rest)
behind_turn n ts rest c up at is span = rw is (rw span refl)

before_turn : (n : ℕ) (ts us rest : List Token) (up : Bool) (a : Expr) (at : Span) → next step_of ts ≡ Some (up, us) → unary n us ≡ Some (a, rest) → extent_to ts rest ≡ at → simple_stmt n ts ≡ Some (act.Step at a up, rest)
before_turn n ts us rest up a at is one span = rw is (rw one (rw span refl))

-- a left side is postfix, or begins with a unary operator
left_case : {l : ℕ} {a : Expr} {ts : List Token} → Spells l a ts → l ≡ 11 → Spells 12 a ts ⊎ ((rest : List Token) → (p : Prefix) × (us : List Token) × (next prefix_of (ts ++ rest) ≡ Some (p, us)))
left_case (Spells.name t h) is = inl (Spells.name t h)
left_case (Spells.number t h) is = inl (Spells.number t h)
left_case (Spells.parens t u h g x) is = inl (Spells.parens t u h g x)
left_case (Spells.index t u le h g x y) is = inl (Spells.index t u (omega arith) h g x y)
left_case (Spells.member d t le h g x) is = inl (Spells.member d t (omega arith) h g x)
left_case (Spells.arrow d t le h g x) is = inl (Spells.arrow d t (omega arith) h g x)
left_case (Spells.call t u le h g x y) is = inl (Spells.call t u (omega arith) h g x y)
left_case (Spells.unary {op = op} {ts = ts} t le h x) is = inr (λ rest. (op, ts ++ rest, next_is prefix_of t (ts ++ rest) op h))
left_case (Spells.binary {op = op} t le h x y) is = let within = level_within op in absurd (omega (arith, within.1))
left_case (Spells.cond q u h g x y z) is = absurd (omega arith)

postfix_settles : (a : Expr) (ts : List Token) (q : Read 12 a ts) (r : List Token) → next post_of r ≡ None → Settles (λ n. postfix n (ts ++ r)) (Some ((a, q.called), r))
postfix_settles a ts q r post = q.postfix (omega arith) r (Some ((a, q.called), r)) (posts_end (ts ++ r) ((a, q.called), r) post)

-- a left side, and what its mark goes on with
left_reads : (a : Expr) (ts : List Token) → Spells 11 a ts → (r us rest : List Token) (x : Expr) (made : Option (Simple × List Token)) → next post_of r ≡ None → next step_of r ≡ None → Settles (λ n. expr n us) (Some (x, rest))
    → ((n : ℕ) (d : Option (Simple × List Token)) → expr n us ≡ Some (x, rest) → assign_by (expr n) (ts ++ r) (a, r) d ≡ made) → Settles (λ n. simple_stmt n (ts ++ r)) made
left_reads a ts s r us rest x made post step right goes =
    ⊎_elim (λ (c : Spells 12 a ts).
    let q = read c in
    also_2 (λ n. postfix n (ts ++ r)) (Some ((a, q.called), r)) (λ n. expr n us) (Some (x, rest)) (λ n. simple_stmt n (ts ++ r)) made (postfix_settles a ts q r post) right (λ n one two. chained_turn n (ts ++ r) ((a, q.called), r) made (no_step s r) (q.plain (omega arith) r) one (chain_turn n (ts ++ r) ((a, q.called), r) made step (goes n (if q.called then Some (act.Call (extent_to (ts ++ r) r) a, r) else None) two))))
    (λ (b : (rest : List Token) → (p : Prefix) × (us : List Token) × (next prefix_of (ts ++ rest) ≡ Some (p, us))).
    let p = b r in
    also_2 (λ n. unary n (ts ++ r)) (Some (a, r)) (λ n. expr n us) (Some (x, rest)) (λ n. simple_stmt n (ts ++ r)) made ((read s).unary (omega arith) r post) right (λ n one two. prefixed_turn n (ts ++ r) p.1 r p.0 a made (no_step s r) p.2 one (goes n None two)))
    (left_case s refl)

assign_reads : (a x : Expr) (ts us : List Token) (mark : Token) → Is w.Assign mark → Spells 11 a ts → Spells 0 x us → (rest : List Token) → Ended rest → Settles (λ n. simple_stmt n ((ts ++ mark ∷ us) ++ rest)) (Some (act.Assign (extent (ts ++ mark ∷ us)) a x, rest))
assign_reads a x ts us mark h s r rest ended =
    let tail : List Token = mark ∷ (us ++ rest) in
    let same : ts ++ tail ≡ (ts ++ mark ∷ us) ++ rest = sym (append_assoc ts (mark ∷ us) rest) in
    let made = Some (act.Assign (extent (ts ++ mark ∷ us)) a x, rest) in
    settles_at simple_stmt (ts ++ tail) ((ts ++ mark ∷ us) ++ rest) made same (left_reads a ts s tail (us ++ rest) rest x made (next_none post_of mark (us ++ rest) (ap post_of h)) (next_none step_of mark (us ++ rest) (ap step_of h)) ((read r).expr rest ended.stops) (λ n d one. assign_turn n (ts ++ tail) tail (us ++ rest) rest a x d (extent (ts ++ mark ∷ us)) (after_is w.Assign mark (us ++ rest) h) one (span_to (ts ++ tail) (ts ++ mark ∷ us) rest same)))

change_reads : (op : Bin) (a x : Expr) (ts us : List Token) (mark : Token) → compound_of mark.kind ≡ Some op → Spells 11 a ts → Spells 0 x us → (rest : List Token) → Ended rest → Settles (λ n. simple_stmt n ((ts ++ mark ∷ us) ++ rest)) (Some (act.Change (extent (ts ++ mark ∷ us)) a op x, rest))
change_reads op a x ts us mark h s r rest ended =
    let tail : List Token = mark ∷ (us ++ rest) in
    let same : ts ++ tail ≡ (ts ++ mark ∷ us) ++ rest = sym (append_assoc ts (mark ∷ us) rest) in
    let made = Some (act.Change (extent (ts ++ mark ∷ us)) a op x, rest) in
    let alone = compound_alone mark.kind op h in
    settles_at simple_stmt (ts ++ tail) ((ts ++ mark ∷ us) ++ rest) made same (left_reads a ts s tail (us ++ rest) rest x made (next_none post_of mark (us ++ rest) alone.0) (next_none step_of mark (us ++ rest) alone.1) ((read r).expr rest ended.stops) (λ n d one. change_turn n (ts ++ tail) tail (us ++ rest) rest a x op d (extent (ts ++ mark ∷ us)) (after_none w.Assign mark (us ++ rest) alone.2) (next_is compound_of mark (us ++ rest) op h) one (span_to (ts ++ tail) (ts ++ mark ∷ us) rest same)))

behind_reads : (up : Bool) (a : Expr) (ts : List Token) (mark : Token) → step_of mark.kind ≡ Some up → Spells 12 a ts → (rest : List Token) → Settles (λ n. simple_stmt n ((ts ++ mark ∷ []) ++ rest)) (Some (act.Step (extent (ts ++ mark ∷ [])) a up, rest))
behind_reads up a ts mark h s rest =
    let tail : List Token = mark ∷ rest in
    let same : ts ++ tail ≡ (ts ++ mark ∷ []) ++ rest = sym (append_assoc ts (mark ∷ []) rest) in
    let made = Some (act.Step (extent (ts ++ mark ∷ [])) a up, rest) in
    let q = read s in
    settles_at simple_stmt (ts ++ tail) ((ts ++ mark ∷ []) ++ rest) made same (also_1 (λ n. postfix n (ts ++ tail)) (Some ((a, q.called), tail)) (λ n. simple_stmt n (ts ++ tail)) made (postfix_settles a ts q tail (next_none post_of mark rest (step_alone mark.kind up h))) (λ n one. chained_turn n (ts ++ tail) ((a, q.called), tail) made (no_step s tail) (q.plain (omega arith) tail) one (behind_turn n (ts ++ tail) rest ((a, q.called), tail) up (extent (ts ++ mark ∷ [])) (next_is step_of mark rest up h) (span_to (ts ++ tail) (ts ++ mark ∷ []) rest same))))

before_reads : (up : Bool) (a : Expr) (ts : List Token) (mark : Token) → step_of mark.kind ≡ Some up → Spells 11 a ts → (rest : List Token) → Ended rest → Settles (λ n. simple_stmt n (mark ∷ (ts ++ rest))) (Some (act.Step (extent (mark ∷ ts)) a up, rest))
before_reads up a ts mark h s rest ended = also_1 (λ n. unary n (ts ++ rest)) (Some (a, rest)) (λ n. simple_stmt n (mark ∷ (ts ++ rest))) (Some (act.Step (extent (mark ∷ ts)) a up, rest)) ((read s).unary (omega arith) rest ended.stops.post) (λ n one. before_turn n (mark ∷ (ts ++ rest)) (ts ++ rest) rest up a (extent (mark ∷ ts)) (next_is step_of mark (ts ++ rest) up h) one (extent_to_is (mark ∷ ts) rest))

call_turn : (n : ℕ) (ts rest : List Token) (x : Expr) (at : Span) → next step_of ts ≡ None → next prefix_of ts ≡ None → postfix n ts ≡ Some ((x, true), rest) → next step_of rest ≡ None → after w.Assign rest ≡ None → next compound_of rest ≡ None → extent_to ts rest ≡ at → simple_stmt n ts ≡ Some (act.Call at x, rest)
call_turn n ts rest x at a b c d f g span = rw a (rw b (rw c (rw d (rw f (rw g (rw span refl))))))

call_stmt_reads : (f : Expr) (xs : List Expr) (ts us : List Token) (first last : Token) → Is w.OpenRound first → Is w.CloseRound last → Spells 12 f ts → SpellArgs xs us → (rest : List Token) → Ended rest → Settles (λ n. simple_stmt n ((ts ++ first ∷ (us ++ last ∷ [])) ++ rest)) (Some (act.Call (extent (ts ++ first ∷ (us ++ last ∷ []))) (e.Call (extent (ts ++ first ∷ (us ++ last ∷ []))) f xs), rest))
call_stmt_reads f xs ts us first last h g s r rest ended =
    let front : List Token = ts ++ first ∷ (us ++ last ∷ []) in
    let tail : List Token = first ∷ ((us ++ last ∷ []) ++ rest) in
    let flat : List Token = ts ++ tail in
    let same : flat ≡ front ++ rest = sym (append_assoc ts (first ∷ (us ++ last ∷ [])) rest) in
    let span : extent_to flat rest ≡ extent front = span_to flat front rest same in
    let q = read s in
    let x = e.Call (extent_to flat rest) f xs in
    let c : Chain = ((x, true), rest) in
    let made = Some (act.Call (extent front) (e.Call (extent front) f xs), rest) in
    let chain : Settles (λ n. postfix n flat) (Some c) = q.postfix (omega arith) tail (Some c) (posts_turn flat ((f, q.called), tail) c post.Call ((us ++ last ∷ []) ++ rest) (Some c) (next_is post_of first ((us ++ last ∷ []) ++ rest) post.Call (ap post_of h)) (call_reads f xs us last g (read_args r) flat rest) (posts_end flat c ended.stops.post)) in
    let whole : Settles (λ n. simple_stmt n flat) (Some (act.Call (extent front) x, rest)) = also_1 (λ n. postfix n flat) (Some c) (λ n. simple_stmt n flat) (Some (act.Call (extent front) x, rest)) chain (λ n one. call_turn n flat rest x (extent front) (no_step s tail) (q.plain (omega arith) tail) one ended.step ended.assign ended.compound span) in
    settles_at simple_stmt flat (front ++ rest) made same (subst (λ (at : Span). Settles (λ n. simple_stmt n flat) (Some (act.Call (extent front) (e.Call at f xs), rest))) span whole)

pub simple_reads : (x : Simple) (ts : List Token) → SpellsSimple x ts → (rest : List Token) → Ended rest → Settles (λ n. simple_stmt n (ts ++ rest)) (Some (x, rest))
simple_reads x ts (SpellsSimple.assign {a = a} {x = y} {ts = us} {us = vs} t h s r) rest ended = assign_reads a y us vs t h s r rest ended
simple_reads x ts (SpellsSimple.change {op = op} {a = a} {x = y} {ts = us} {us = vs} t h s r) rest ended = change_reads op a y us vs t h s r rest ended
simple_reads x ts (SpellsSimple.behind {up = up} {a = a} {ts = us} t h s) rest ended = behind_reads up a us t h s rest
simple_reads x ts (SpellsSimple.before {up = up} {a = a} {ts = us} t h s) rest ended = before_reads up a us t h s rest ended
simple_reads x ts (SpellsSimple.call {f = f} {xs = xs} {ts = us} {us = vs} t u h g s r) rest ended = call_stmt_reads f xs us vs t u h g s r rest ended
