-- Runs of programs that differ in the spans, scopes and atoms of their slots alone.
use Rattle.std.proofs.Common.{◌≡◌, ℕ, zero, suc, ℤ, pos, true, false, if◌then◌else◌, List, [], ◌∷◌, ◌++◌, length, replicate, Option, Some, None, slice_get, refl, ap, ◌∙◌}
use Rattle.ax_base.specs.Arithmetic.{is_nonzero}
use Rattle.ax_prog.specs.declared.Lval.{Lval}
use Rattle.ax_prog.specs.declared.Lval.TheVariants as lval
use Rattle.ax_prog.specs.declared.Slot.{Slot}
use Rattle.ax_prog.specs.declared.SlotId.{SlotId}
use Rattle.ax_prog.specs.declared.VarId.{VarId}
use Rattle.ax_prog.specs.declared.Arg.{Arg}
use Rattle.ax_prog.specs.declared.Arg.TheVariants as arg
use Rattle.ax_prog.specs.declared.Fun.{Fun}
use Rattle.ax_prog.specs.declared.Init.{Init}
use Rattle.ax_prog.specs.declared.Init.TheVariants as init
use Rattle.ax_prog.specs.declared.Value.{Value}
use Rattle.ax_prog.specs.declared.Value.TheVariants as value
use Rattle.ax_prog.specs.declared.Program.{Program}
use Rattle.ax_prog.specs.declared.Stmt.{Stmt, Block', If', While', Do', For', Row_of-Stmt, end_of-Stmt, more_of-Stmt, Held-Stmt-If-2, None', Some'}
use Rattle.ax_prog.specs.declared.Stmt.TheVariants as s
use Rattle.ax_prog.specs.Same.{SameProgram, trees_of}
use Rattle.ax_meaning.specs.declared.Cell.TheVariants.{Int, Ptr}
use Rattle.ax_meaning.specs.declared.Note.TheVariants.{Met}
use Rattle.ax_meaning.specs.declared.Store.{Store}
use Rattle.ax_meaning.specs.declared.State.{State}
use Rattle.ax_meaning.specs.Store.{stored_at}
use Rattle.ax_meaning.specs.Values.{value_of}
use Rattle.ax_meaning.specs.Acts.{Setting, Done, got_then, got_of, got_answer, step, note, count, slot_value, put, with_object, from_int, from_pointer, from_call, assign, blank, keep, declare, changed_cell, change, bump_by, bump, take_input, read, done_if, print, condition, condition_or_true, from_arg, arg_values, call_args, give}
use Rattle.ax_meaning.specs.Execution.{Next, ends, after_act, one_act, then_do, then_in, ends_block, declared_by, then_again, turns, ends_next, Caller, then_with, call_with, assign_outcome, declare_outcome, returns, return_outcome, execution_of, row_execution, held_execution, body_execution, enter, value_at_end, call_ending, restored, fun_outcome, calls}
use Rattle.ax_meaning.specs.Runs.{global_cells, enter_globals, at_start, seen_of, plain_setting, value_in_slot, or_halt, run_of}
use Rattle.ax_meaning.proofs.AlikeTrees.{one, two, values, places, pointers}

module _ (base : Program) (s1 s2 : List Slot) (same : trees_of s1 ≡ trees_of s2) (steps : ℕ) where
  abbrev r1 : Setting
  r1 = plain_setting (one base s1 s2) steps

  abbrev r2 : Setting
  r2 = plain_setting (two base s1 s2) steps

  -- ---- slots

  tree_values : (m : Store) (xs ys : List Slot) → trees_of xs ≡ trees_of ys → (k : ℕ) → value_in_slot (one base s1 s2) m (slice_get xs k) ≡ value_in_slot (two base s1 s2) m (slice_get ys k)
  tree_values m [] [] h k = refl
  tree_values m [] (y ∷ ys) h k = absurd (cc)
  tree_values m (x ∷ xs) [] h k = absurd (cc)
  tree_values m (x ∷ xs) (y ∷ ys) h zero = let e : x.expr ≡ y.expr = cc in values base s1 s2 m x.expr ∙ ap (value_of (two base s1 s2) m) e
  tree_values m (x ∷ xs) (y ∷ ys) h (suc k) = let e : trees_of xs ≡ trees_of ys = cc in tree_values m xs ys e k

  same_length : (xs ys : List Slot) → trees_of xs ≡ trees_of ys → length xs ≡ length ys
  same_length [] [] h = refl
  same_length [] (y ∷ ys) h = absurd (cc)
  same_length (x ∷ xs) [] h = absurd (cc)
  same_length (x ∷ xs) (y ∷ ys) h = let e : trees_of xs ≡ trees_of ys = cc in ap suc (same_length xs ys e)

  in_slots : slot_value r1 ≡ slot_value r2
  in_slots = λ i id st. got_of (or_halt (tree_values st.store s1 s2 same id.0 i)) (count id st)

  ints : from_int r1 ≡ from_int r2
  ints = λ i id st. got_then (in_slots i id st) (λ n st. Done (Int n) st)

  from_pointers : from_pointer r1 ≡ from_pointer r2
  from_pointers = λ i q st. got_then (got_answer (pointers base s1 s2 st.store q i) st) (λ q st. Done (Ptr q) st)

  -- ---- acts

  assigns : assign r1 ≡ assign r2
  assigns = λ i l source st. got_then (step r1 st) (λ u st. got_then (got_answer (places base s1 s2 st.store l i) st) (λ at st. got_then (source st) (λ c st. put at c st)))

  keeps : keep r1 ≡ keep r2
  keeps = λ i v source st. got_then (got_answer (places base s1 s2 st.store (lval.Var v) i) st) (λ at st. got_then (source st) (λ c st. put at c st))

  declares : (v : VarId) (x : Init) → declare r1 v x ≡ declare r2 v x
  declares v init.Nothing = refl
  declares v (init.List ns) = refl
  declares v (init.Value (value.Int id)) = λ i st. got_then (step r1 st) (λ u st. keeps i v (ints i id) (with_object v (blank base v) st))
  declares v (init.Value (value.Ptr q)) = λ i st. got_then (step r1 st) (λ u st. keeps i v (from_pointers i q) (with_object v (blank base v) st))
  declares v (init.Value (value.Call f args)) = refl

  changes : change r1 ≡ change r2
  changes = λ i l op id st.
      got_then (step r1 st)
      (λ u st. got_then (got_answer (places base s1 s2 st.store l i) st)
      (λ at st. got_then (got_answer (stored_at st.store at) st)
      (λ old st. got_then (in_slots i id st)
      (λ n st. got_then (got_answer (changed_cell op old n) st) (λ c st. put at c st)))))

  bumps : bump r1 ≡ bump r2
  bumps = λ i l up st.
      got_then (step r1 st)
      (λ u st. got_then (got_answer (places base s1 s2 st.store l i) st)
      (λ at st. got_then (got_answer (stored_at st.store at) st)
      (λ old st. got_then (got_answer (changed_cell (bump_by up) old (pos 1)) st) (λ c st. put at c st))))

  reads : read r1 ≡ read r2
  reads = λ i l st. got_then (step r1 st) (λ u st. got_then (got_answer (places base s1 s2 st.store l i) st) (λ at st. take_input at st.inputs st))

  prints : print r1 ≡ print r2
  prints = λ i id st.
      got_then (step r1 st)
      (λ u st. got_then (in_slots i id st)
      (λ n st. done_if true (record st { output = st.output ++ n ∷ [] })))

  conditions : condition r1 ≡ condition r2
  conditions = λ i id st.
      got_then (step r1 st)
      (λ u st. got_then (in_slots i id st) (λ n st. Done (is_nonzero n) (note false (Met (is_nonzero n)) st)))

  or_true : (id : Option SlotId) → condition_or_true r1 id ≡ condition_or_true r2 id
  or_true None = refl
  or_true (Some id) = λ i. conditions i id

  args_one : (a : Arg) → from_arg r1 a ≡ from_arg r2 a
  args_one (arg.Int id) = λ i. ints i id
  args_one (arg.Ptr q) = λ i. from_pointers i q

  args_all : (args : List Arg) → arg_values r1 args ≡ arg_values r2 args
  args_all [] = refl
  args_all (a ∷ rest) = λ i cells st. got_then (args_one a i st) (λ c st. args_all rest i (cells ++ c ∷ []) st)

  args_given : call_args r1 ≡ call_args r2
  args_given = λ i args st. got_then (step r1 st) (λ u st. args_all args i [] st)

  gives : give r1 ≡ give r2
  gives = refl

  -- ---- statements with calls

  module _ (call1 call2 : Caller) (callers : call1 ≡ call2) where
    with_calls : call_with r1 call1 ≡ call_with r2 call2
    with_calls = λ i f args st go. after_act (args_given i args st) (λ cells st. then_with (callers i f cells st) go)

    assign_outcomes : (l : Lval) (v : Value) → assign_outcome r1 call1 l v ≡ assign_outcome r2 call2 l v
    assign_outcomes l (value.Int id) = λ i st. one_act (assigns i l (ints i id) st)
    assign_outcomes l (value.Ptr q) = λ i st. one_act (assigns i l (from_pointers i q) st)
    assign_outcomes l (value.Call f args) = λ i st. with_calls i f.0 args st (λ v st. one_act (assigns i l (from_call v) st))

    declare_outcomes : (v : VarId) (x : Init) → declare_outcome r1 call1 v x ≡ declare_outcome r2 call2 v x
    declare_outcomes v init.Nothing = λ i st. one_act (declares v init.Nothing i st)
    declare_outcomes v (init.List ns) = λ i st. one_act (declares v (init.List ns) i st)
    declare_outcomes v (init.Value (value.Int id)) = λ i st. one_act (declares v (init.Value (value.Int id)) i st)
    declare_outcomes v (init.Value (value.Ptr q)) = λ i st. one_act (declares v (init.Value (value.Ptr q)) i st)
    declare_outcomes v (init.Value (value.Call f args)) =
        λ i st. after_act (declares v init.Nothing i st) (λ u st. with_calls i f.0 args st (λ w st. one_act (keeps i v (from_call w) st)))

    return_outcomes : (v : Option Value) → return_outcome r1 call1 v ≡ return_outcome r2 call2 v
    return_outcomes None = refl
    return_outcomes (Some (value.Int id)) = λ i st. returns (give r1 (ints i id) st)
    return_outcomes (Some (value.Ptr q)) = λ i st. returns (give r1 (from_pointers i q) st)
    return_outcomes (Some (value.Call f args)) = λ i st. with_calls i f.0 args st (λ v st. returns (give r1 (from_call v) st))

    mutual
      executions : (a : Stmt) → execution_of r1 call1 a ≡ execution_of r2 call2 a
      executions s.Empty = refl
      executions (Block' sh row) = λ i st. rows row i [] ends_block st
      executions (s.Decl v x) = declare_outcomes v x
      executions (s.Assign l v) = assign_outcomes l v
      executions (s.Change l op id) = λ i st. one_act (changes i l op id st)
      executions (s.Bump l up) = λ i st. one_act (bumps i l up st)
      executions (s.Call f args) = λ i st. with_calls i f.0 args st (λ v st. ends Next st)
      executions (If' id sh (more_of-Stmt a end_of-Stmt) b) =
          λ i st. after_act (conditions i id st) (λ y st. if y then executions a i st else helds b i st)
      executions (While' id sh (more_of-Stmt a end_of-Stmt)) = λ i. turns (suc steps) (conditions i id) (executions a i) ends_next
      executions (Do' sh (more_of-Stmt a end_of-Stmt) id) =
          λ i st. then_again (executions a i st) (turns (suc steps) (conditions i id) (executions a i) ends_next)
      executions (For' sh row id next sh2 (more_of-Stmt a end_of-Stmt)) =
          λ i st. rows row i []
          (λ vs st. then_in vs (turns (suc steps) (or_true id i) (executions a i) (helds next i) st) (ends_block vs)) st
      executions s.Break = refl
      executions s.Continue = refl
      executions (s.Return v) = return_outcomes v
      executions (s.Read l) = λ i st. one_act (reads i l st)
      executions (s.Print id) = λ i st. one_act (prints i id st)

      rows : {n : _} (row : Row_of-Stmt n) → row_execution r1 call1 row ≡ row_execution r2 call2 row
      rows end_of-Stmt = refl
      rows (more_of-Stmt a rest) = λ i vs go st. then_in vs (executions a i st) (rows rest i (declared_by a vs) go)

      helds : (b : Held-Stmt-If-2) → held_execution r1 call1 b ≡ held_execution r2 call2 b
      helds None' = refl
      helds (Some' sh (more_of-Stmt a end_of-Stmt)) = executions a

    bodies : (body : List Stmt) → body_execution r1 call1 body ≡ body_execution r2 call2 body
    bodies [] = refl
    bodies (a ∷ rest) = λ i st. then_do (executions a i st) (bodies rest i)

    functions : (f : ℕ) (o : Option Fun) → fun_outcome r1 call1 f o ≡ fun_outcome r2 call2 f o
    functions f None = refl
    functions f (Some fun) = λ i cells st.
        let out = bodies fun.body i (enter fun.params cells st) in
        record { ending = call_ending (value_at_end base f) out.ending; state = restored st out.state }

  -- ---- runs

  all_calls : (n : ℕ) → calls r1 n ≡ calls r2 n
  all_calls zero = refl
  all_calls (suc n) = λ i f. functions (calls r1 n) (calls r2 n) (all_calls n) f (slice_get base.funs f) i

  enters : (gs : List (VarId × Init)) (st : State) → enter_globals (one base s1 s2) gs st ≡ enter_globals (two base s1 s2) gs st
  enters [] st = refl
  enters (g ∷ rest) st = enters rest (with_object g.0 (global_cells (one base s1 s2) g.0 g.1) st)

  starts : (inputs : List ℤ) → at_start (one base s1 s2) inputs ≡ at_start (two base s1 s2) inputs
  starts inputs =
      enters base.globals _
      ∙ ap (λ n. enter_globals (two base s1 s2) base.globals (record {
        store = record { cells = []; objects = []; named = replicate (length base.vars) None };
        inputs = inputs;
        output = [];
        used = 0;
        counts = replicate n 0;
        notes = [];
      })) (same_length s1 s2 same)

  pub slots_aside : (inputs : List ℤ) → run_of (one base s1 s2) inputs steps ≡ run_of (two base s1 s2) inputs steps
  slots_aside inputs = λ i. seen_of (all_calls (suc steps) i (base.main).0 [] (starts inputs i))

pub same_runs : (a b : Program) → SameProgram a b → (inputs : List ℤ) (steps : ℕ) → run_of a inputs steps ≡ run_of b inputs steps
same_runs a b h inputs steps =
    let all_but : a ≡ record b { slots = a.slots } = λ i. record {
      structs = h.structs i;
      vars = h.vars i;
      globals = h.globals i;
      funs = h.funs i;
      main = h.main i;
      slots = a.slots;
    } in
    ap (λ p. run_of p inputs steps) all_but ∙ slots_aside b a.slots b.slots h.trees steps inputs
