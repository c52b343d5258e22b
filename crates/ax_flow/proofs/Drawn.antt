-- The code that each program is given is its flat code.
use Rattle.std.proofs.Common.{◌≡◌, ℕ, zero, suc, ◌+◌, List, [], ◌∷◌, ◌++◌, length, map, Option, Some, None, refl, sym, ap, ◌∙◌, subst, arith, length-append, append_assoc}
use Rattle.std.specs.Prelude.{slice_get}
use Rattle.ax_prog.specs.declared.SlotId.{SlotId}
use Rattle.ax_prog.specs.declared.VarId.{VarId}
use Rattle.ax_prog.specs.declared.Fun.{Fun}
use Rattle.ax_prog.specs.declared.Program.{Program}
use Rattle.ax_prog.specs.declared.Stmt.{Stmt, Block', If', While', Do', For', Row_of-Stmt, end_of-Stmt, more_of-Stmt, Held-Stmt-If-2, None', Some'}
use Rattle.ax_prog.specs.declared.Stmt.TheVariants as s
use Rattle.ax_meaning.specs.Execution.{declared_by}
use Rattle.ax_flow.specs.Flat.{Around, within, At, Are, ends_of, jump_of, assign_code, decl_code, return_code, test_op, row_declared, Flat, FlatRow, FlatHeld, FlatElse, FlatList, FlatFun, FlatFuns, IsFlat}
use Rattle.ax_flow.specs.Drafts.{filled, made, end_draft, ends_draft, if_draft, else_draft, while_draft, do_draft, for_draft, draft_of, row_draft, held_draft, choice_draft, body_draft, closed, fun_code, funs_code, funs_starts, flat_code, flat_starts}
use Rattle.ax_flow.specs.declared.Op.{Op}
use Rattle.ax_flow.specs.declared.Op.TheVariants as op
use Rattle.ax_flow.specs.declared.Draft.{Draft}
use Rattle.ax_flow.specs.declared.Draft.TheVariants.{Made, Breaks, Continues}

pub length-map : {A B : Type 0} (f : A → B) (xs : List A) → length (map f xs) ≡ length xs
length-map f [] = refl
length-map f (x ∷ xs) = ap suc (length-map f xs)

-- the variables of a block before others
declared_by-append : (b : Stmt) (vs ws : List VarId) → declared_by b (vs ++ ws) ≡ declared_by b vs ++ ws
declared_by-append s.Empty vs ws = refl
declared_by-append (Block' sh row) vs ws = refl
declared_by-append (s.Decl v i) vs ws = refl
declared_by-append (s.Assign l v) vs ws = refl
declared_by-append (s.Change l op id) vs ws = refl
declared_by-append (s.Bump l up) vs ws = refl
declared_by-append (s.Call f args) vs ws = refl
declared_by-append (If' id sh row b) vs ws = refl
declared_by-append (While' id sh row) vs ws = refl
declared_by-append (Do' sh row id) vs ws = refl
declared_by-append (For' sh row id next sh2 body) vs ws = refl
declared_by-append s.Break vs ws = refl
declared_by-append s.Continue vs ws = refl
declared_by-append (s.Return v) vs ws = refl
declared_by-append (s.Read l) vs ws = refl
declared_by-append (s.Print id) vs ws = refl

row_declared-append : {m : _} (row : Row_of-Stmt m) (vs ws : List VarId) → row_declared row (vs ++ ws) ≡ row_declared row vs ++ ws
row_declared-append end_of-Stmt vs ws = refl
row_declared-append (more_of-Stmt b rest) vs ws =
    ap (λ us. row_declared rest us) (declared_by-append b vs ws) ∙ row_declared-append rest (declared_by b vs) ws

module _ (code : List Op) where
  -- these drafts stand in the code, where the loop around them has these targets
  abbrev pub Stands : ℕ → ℕ → ℕ → List Draft → Type 0
  Stands b c at [] = Unit {0}
  Stands b c at (Made o ∷ ds) = At code at o × Stands b c (at + 1) ds
  Stands b c at (Breaks ∷ ds) = At code at (op.Jump b) × Stands b c (at + 1) ds
  Stands b c at (Continues ∷ ds) = At code at (op.Jump c) × Stands b c (at + 1) ds

  pub front : (b c at : ℕ) (xs ys : List Draft) → Stands b c at (xs ++ ys) → Stands b c at xs
  front b c at [] ys h = tt
  front b c at (Made o ∷ xs) ys h = (h.0, front b c (at + 1) xs ys h.1)
  front b c at (Breaks ∷ xs) ys h = (h.0, front b c (at + 1) xs ys h.1)
  front b c at (Continues ∷ xs) ys h = (h.0, front b c (at + 1) xs ys h.1)

  pub back : (b c at to : ℕ) (xs ys : List Draft) → at + length xs ≡ to → Stands b c at (xs ++ ys) → Stands b c to ys
  back b c at to [] ys e h = let same : at ≡ to = omega (arith, e) in subst (λ n. Stands b c n ys) same h
  back b c at to (Made o ∷ xs) ys e h = back b c (at + 1) to xs ys (omega (arith, e)) h.1
  back b c at to (Breaks ∷ xs) ys e h = back b c (at + 1) to xs ys (omega (arith, e)) h.1
  back b c at to (Continues ∷ xs) ys e h = back b c (at + 1) to xs ys (omega (arith, e)) h.1

  pub unfill : (b c e n at : ℕ) (ds : List Draft) → Stands b c at (map (filled e n) ds) → Stands e n at ds
  unfill b c e n at [] h = tt
  unfill b c e n at (Made o ∷ ds) h = (h.0, unfill b c e n (at + 1) ds h.1)
  unfill b c e n at (Breaks ∷ ds) h = (h.0, unfill b c e n (at + 1) ds h.1)
  unfill b c e n at (Continues ∷ ds) h = (h.0, unfill b c e n (at + 1) ds h.1)

  stands_are : (b c at to : ℕ) (os : List Op) → Stands b c at (made os) → at + length (made os) ≡ to → Are code at os to
  stands_are b c at to [] h e = omega (arith, e)
  stands_are b c at to (o ∷ os) h e = (h.0, stands_are b c (at + 1) to os h.1 (omega (arith, e)))

  ends_are : (b c at to : ℕ) (vs : List VarId) → Stands b c at (ends_draft vs) → at + length (ends_draft vs) ≡ to → Are code at (ends_of vs) to
  ends_are b c at to [] h e = omega (arith, e)
  ends_are b c at to (v ∷ vs) h e = (h.0, ends_are b c (at + 1) to vs h.1 (omega (arith, e)))

  break_are : (b c at to : ℕ) (vs : List VarId) → Stands b c at (ends_draft vs ++ Breaks ∷ []) → at + length (ends_draft vs ++ Breaks ∷ []) ≡ to → Are code at (jump_of vs b) to
  break_are b c at to [] h e = (h.0, omega (arith, e))
  break_are b c at to (v ∷ vs) h e = (h.0, break_are b c (at + 1) to vs h.1 (omega (arith, e)))

  continue_are : (b c at to : ℕ) (vs : List VarId) → Stands b c at (ends_draft vs ++ Continues ∷ []) → at + length (ends_draft vs ++ Continues ∷ []) ≡ to → Are code at (jump_of vs c) to
  continue_are b c at to [] h e = (h.0, omega (arith, e))
  continue_are b c at to (v ∷ vs) h e = (h.0, continue_are b c (at + 1) to vs h.1 (omega (arith, e)))

  abbrev IsDrawn : Stmt → Type 0
  IsDrawn s = (a : Around) (at to : ℕ) → Stands a.broke a.continued at (draft_of s a.opened at) → at + length (draft_of s a.opened at) ≡ to → Flat code s a at to

  mutual
    pub drawn : (s : Stmt) (a : Around) (at to : ℕ) → Stands a.broke a.continued at (draft_of s a.opened at) → at + length (draft_of s a.opened at) ≡ to → Flat code s a at to
    drawn s.Empty a at to h e = omega (arith, e)
    drawn (Block' sh row) a at to h e =
        let xs = row_draft row a.opened at in
        let ys = ends_draft (row_declared row []) in
        (at + length xs, row_drawn row [] a at (at + length xs) (front a.broke a.continued at xs ys h) refl, ends_are a.broke a.continued (at + length xs) to (row_declared row []) (back a.broke a.continued at (at + length xs) xs ys refl h) (omega (arith, e, length-append xs ys)))
    drawn (s.Decl v i) a at to h e = stands_are a.broke a.continued at to (decl_code v i) h e
    drawn (s.Assign l v) a at to h e = stands_are a.broke a.continued at to (assign_code l v) h e
    drawn (s.Change l o id) a at to h e = (h.0, omega (arith, e))
    drawn (s.Bump l up) a at to h e = (h.0, omega (arith, e))
    drawn (s.Call f args) a at to h e = (h.0, omega (arith, e))
    drawn (If' id sh (more_of-Stmt b end_of-Stmt) c) a at to h e =
        let first = draft_of b a.opened (at + 1) in
        let rest = choice_drawn c id first a at to h e in
        (rest.0, at + 1 + length first, rest.1, drawn b a (at + 1) (at + 1 + length first) rest.2 refl, rest.3)
    drawn (While' id sh (more_of-Stmt b end_of-Stmt)) a at to h e =
        let body = draft_of b [] (at + 1) in
        let jump : List Draft = Made (op.Jump at) ∷ [] in
        let turn = body ++ jump in
        let end = at + 1 + length turn in
        let stop = at + 1 + length body in
        let inner = unfill a.broke a.continued end at (at + 1) turn h.1 in
        let same : end ≡ to = omega (arith, e, length-map (filled end at) turn) in
        let last : stop + 1 ≡ to = omega (arith, same, length-append body jump) in
        (stop, subst (λ n. At code at (op.Test id n)) same h.0, drawn b (record { broke = to; continued = at; opened = [] }) (at + 1) stop (subst (λ n. Stands n at (at + 1) body) same (front end at (at + 1) body jump inner)) refl, ((back end at (at + 1) stop body jump refl inner).0, last))
    drawn (Do' sh (more_of-Stmt b end_of-Stmt) id) a at to h e =
        let body = draft_of b [] at in
        let test = at + length body in
        let end = test + 2 in
        let f = filled end test in
        let rest : List Draft = Made (op.Test id end) ∷ Made (op.Jump at) ∷ [] in
        let inner = unfill a.broke a.continued end test at body (front a.broke a.continued at (map f body) rest h) in
        let tail = back a.broke a.continued at test (map f body) rest (omega (arith, length-map f body)) h in
        let same : end ≡ to = omega (arith, e, length-map f body, length-append (map f body) rest) in
        (test, drawn b (record { broke = to; continued = test; opened = [] }) at test (subst (λ n. Stands n test at body) same inner) refl, (subst (λ n. At code test (op.Test id n)) same tail.0, ((tail.1).0, omega (arith, same))))
    drawn (For' sh row id next sh2 (more_of-Stmt b end_of-Stmt)) a at to h e =
        let vs = row_declared row [] in
        let head = row_draft row a.opened at in
        let test = at + length head in
        let body = draft_of b [] (test + 1) in
        let end = test + 1 + length body in
        let last = held_draft next (row_declared row a.opened) end in
        let final = end + length last in
        let close = final + 1 in
        let f = filled close end in
        let tail : List Draft = Made (op.Jump test) ∷ ends_draft vs in
        let loop = back a.broke a.continued at test head (for_draft id test body last vs) refl h in
        let after = back a.broke a.continued (test + 1) end (map f body) (last ++ tail) (omega (arith, length-map f body)) loop.1 in
        let jump = back a.broke a.continued end final last tail refl after in
        let inner = unfill a.broke a.continued close end (test + 1) body (front a.broke a.continued (test + 1) (map f body) (last ++ tail) loop.1) in
        let long : close + length (ends_draft vs) ≡ to = omega (arith, e, length-append head (for_draft id test body last vs), length-append (map f body) (last ++ tail), length-append last tail, length-map f body) in
        let next_drawn : FlatHeld code next (within vs a) end final =
        subst (λ ws. Stands a.broke a.continued end (held_draft next ws end) → end + length (held_draft next ws end) ≡ final → FlatHeld code next (within vs a) end final)
        (sym (row_declared-append row [] a.opened)) (λ stands long. held_drawn next (within vs a) end final stands long) (front a.broke a.continued end last tail after) refl in
        (test, end, final, close, row_drawn row [] a at test (front a.broke a.continued at head (for_draft id test body last vs) h) refl, loop.0, drawn b (record { broke = close; continued = end; opened = [] }) (test + 1) end inner refl, next_drawn, (jump.0, refl), ends_are a.broke a.continued close to vs jump.1 long)
    drawn s.Break a at to h e = break_are a.broke a.continued at to a.opened h e
    drawn s.Continue a at to h e = continue_are a.broke a.continued at to a.opened h e
    drawn (s.Return v) a at to h e = stands_are a.broke a.continued at to (return_code v) h e
    drawn (s.Read l) a at to h e = (h.0, omega (arith, e))
    drawn (s.Print id) a at to h e = (h.0, omega (arith, e))

    row_drawn : {m : _} (row : Row_of-Stmt m) (block : List VarId) (a : Around) (at to : ℕ) → Stands a.broke a.continued at (row_draft row (block ++ a.opened) at) → at + length (row_draft row (block ++ a.opened) at) ≡ to → FlatRow code row block a at to
    row_drawn end_of-Stmt block a at to h e = omega (arith, e)
    row_drawn (more_of-Stmt b rest) block a at to h e =
        let xs = draft_of b (block ++ a.opened) at in
        let next = at + length xs in
        let ys = row_draft rest (declared_by b (block ++ a.opened)) next in
        let more : FlatRow code rest (declared_by b block) a next to =
        subst (λ ws. Stands a.broke a.continued next (row_draft rest ws next) → next + length (row_draft rest ws next) ≡ to → FlatRow code rest (declared_by b block) a next to)
        (sym (declared_by-append b block a.opened)) (λ stands long. row_drawn rest (declared_by b block) a next to stands long) (back a.broke a.continued at next xs ys refl h) (omega (arith, e, length-append xs ys)) in
        (next, drawn b (within block a) at next (front a.broke a.continued at xs ys h) refl, more)

    held_drawn : (c : Held-Stmt-If-2) (a : Around) (at to : ℕ) → Stands a.broke a.continued at (held_draft c a.opened at) → at + length (held_draft c a.opened at) ≡ to → FlatHeld code c a at to
    held_drawn None' a at to h e = omega (arith, e)
    held_drawn (Some' sh (more_of-Stmt b end_of-Stmt)) a at to h e = drawn b a at to h e

    choice_drawn : (c : Held-Stmt-If-2) (id : SlotId) (first : List Draft) (a : Around) (at to : ℕ) → Stands a.broke a.continued at (choice_draft c id at first a.opened) → at + length (choice_draft c id at first a.opened) ≡ to → (other : ℕ) × At code at (op.Test id other) × Stands a.broke a.continued (at + 1) first × FlatElse code c a (at + 1 + length first) other to
    choice_drawn None' id first a at to h e = (at + 1 + length first, h.0, h.1, (omega (arith, e), omega (arith, e)))
    choice_drawn (Some' sh (more_of-Stmt c end_of-Stmt)) id first a at to h e =
        let end = at + 1 + length first in
        let other = end + 1 in
        let second = draft_of c a.opened other in
        let j = Made (op.Jump (other + length second)) in
        let tail = back a.broke a.continued (at + 1) end first (j ∷ second) refl h.1 in
        let same : other + length second ≡ to = omega (arith, e, length-append first (j ∷ second)) in
        (other, h.0, front a.broke a.continued (at + 1) first (j ∷ second) h.1, ((subst (λ n. At code end (op.Jump n)) same tail.0, refl), drawn c a other to tail.1 same))

  body_drawn : (body : List Stmt) (b c at to : ℕ) → Stands b c at (body_draft body at) → at + length (body_draft body at) ≡ to → FlatList code body (record { broke = b; continued = c; opened = [] }) at to
  body_drawn [] b c at to h e = omega (arith, e)
  body_drawn (s ∷ rest) b c at to h e =
      let xs = draft_of s [] at in
      let ys = body_draft rest (at + length xs) in
      (at + length xs, drawn s (record { broke = b; continued = c; opened = [] }) at (at + length xs) (front b c at xs ys h) refl, body_drawn rest b c (at + length xs) to (back b c at (at + length xs) xs ys refl h) (omega (arith, e, length-append xs ys)))

  -- ---- functions

  -- these ops stand from a place on
  abbrev Lie : ℕ → List Op → Type 0
  Lie at [] = Unit {0}
  Lie at (o ∷ os) = At code at o × Lie (at + 1) os

  lie-front : (at : ℕ) (xs ys : List Op) → Lie at (xs ++ ys) → Lie at xs
  lie-front at [] ys h = tt
  lie-front at (o ∷ xs) ys h = (h.0, lie-front (at + 1) xs ys h.1)

  lie-back : (at to : ℕ) (xs ys : List Op) → at + length xs ≡ to → Lie at (xs ++ ys) → Lie to ys
  lie-back at to [] ys e h = let same : at ≡ to = omega (arith, e) in subst (λ n. Lie n ys) same h
  lie-back at to (o ∷ xs) ys e h = lie-back (at + 1) to xs ys (omega (arith, e)) h.1

  lie-closed : (end at : ℕ) (ds : List Draft) → Lie at (map (closed end) ds) → Stands end end at ds
  lie-closed end at [] h = tt
  lie-closed end at (Made o ∷ ds) h = (h.0, lie-closed end (at + 1) ds h.1)
  lie-closed end at (Breaks ∷ ds) h = (h.0, lie-closed end (at + 1) ds h.1)
  lie-closed end at (Continues ∷ ds) h = (h.0, lie-closed end (at + 1) ds h.1)

  fun_drawn : (f : Fun) (at to : ℕ) → Lie at (fun_code f.body at) → at + length (fun_code f.body at) ≡ to → FlatFun code f at to
  fun_drawn f at to h e =
      let ds = body_draft f.body at in
      let end = at + length ds in
      let xs = map (closed end) ds in
      let fall : List Op = op.Fall ∷ [] in
      let long : at + length xs ≡ end = omega (arith, length-map (closed end) ds) in
      (end, body_drawn f.body end end at end (lie-closed end at ds (lie-front at xs fall h)) refl, ((lie-back at end xs fall long h).0, omega (arith, e, long, length-append xs fall)))

  funs_drawn : (funs : List Fun) (at to : ℕ) → Lie at (funs_code funs at) → at + length (funs_code funs at) ≡ to → FlatFuns code funs (funs_starts funs at) at to
  funs_drawn [] at to h e = omega (arith, e)
  funs_drawn (f ∷ funs) at to h e =
      let first = fun_code f.body at in
      let next = at + length first in
      let rest = funs_code funs next in
      (next, refl, fun_drawn f at next (lie-front at first rest h) refl, funs_drawn funs next to (lie-back at next first rest refl h) (omega (arith, e, length-append first rest)))

at_seam : (pre os : List Op) (o : Op) → slice_get (pre ++ o ∷ os) (length pre) ≡ Some o
at_seam [] os o = refl
at_seam (x ∷ pre) os o = at_seam pre os o

-- all of a code stands in it
lie-all : (os pre : List Op) → Lie (pre ++ os) (length pre) os
lie-all [] pre = tt
lie-all (o ∷ os) pre =
    let n : length (pre ++ o ∷ []) ≡ length pre + 1 = omega (arith, length-append pre (o ∷ [])) in
    let rest = subst (λ m. Lie ((pre ++ o ∷ []) ++ os) m os) n (lie-all os (pre ++ o ∷ [])) in
    (at_seam pre os o, subst (λ l. Lie l (length pre + 1) os) (append_assoc pre (o ∷ []) os) rest)

pub has_flat_code : (p : Program) → IsFlat p (flat_code p) (flat_starts p)
has_flat_code p = funs_drawn (flat_code p) p.funs 0 (length (flat_code p)) (lie-all (flat_code p) []) (omega arith)
