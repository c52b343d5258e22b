-- Blocks: what follows the statements of a block, and the ends of their variables.
use Rattle.std.proofs.Common.{◌≡◌, refl, sym, ap, ◌∙◌, ℕ, ◌+◌, ◌<◌, List, [], ◌∷◌, ◌++◌, take, drop, length, get_or}
use Rattle.std.proofs.lemmas.List.{at_drop_more, take_more}
use Rattle.ax_prog.specs.declared.VarId.{VarId}
use Rattle.ax_prog.specs.declared.Stmt.{Stmt, Block', If', While', Do', For'}
use Rattle.ax_prog.specs.declared.Stmt.TheVariants as s
use Rattle.ax_meaning.specs.declared.State.{State}
use Rattle.ax_meaning.specs.Acts.{Setting}
use Rattle.ax_meaning.specs.Execution.{Ending, Next, Broke, Continued, Returned, Stopped, Unfinished, Outcome, Caller, ends, after, after_in, then_in, then_do, execution_of, block_execution, body_execution, declared_by, end_all}
use Rattle.ax_interp_plain.specs.Completions.{stay, declared_after}

-- a continuation that is another one's, and then more
after_in-then : (vs : List VarId) (e : Ending) (st : State) (f g h : State → Outcome) → ((st : State) → f st ≡ then_do (g st) h) → after_in vs e st f ≡ then_do (after_in vs e st g) h
after_in-then vs Next st f g h same = same st
after_in-then vs Broke st f g h same = refl
after_in-then vs Continued st f g h same = refl
after_in-then vs (Returned v) st f g h same = refl
after_in-then vs (Stopped why) st f g h same = refl
after_in-then vs Unfinished st f g h same = refl

-- what follows a block's statements
pub block-then : (r : Setting) (call : Caller) (items : List Stmt) (vs : List VarId) (go : List VarId → State → Outcome) (st : State) → block_execution r call items vs go st ≡ then_do (block_execution r call items vs stay st) (go (declared_after items vs))
block-then r call [] vs go st = refl
block-then r call (a ∷ rest) vs go st =
    after_in-then vs (execution_of r call a st).ending (execution_of r call a st).state (block_execution r call rest (declared_by a vs) go)
    (block_execution r call rest (declared_by a vs) stay) (go (declared_after rest (declared_by a vs))) (λ st. block-then r call rest (declared_by a vs) go st)

-- the variables that one more statement declares
pub declared_after-append : (items : List Stmt) (a : Stmt) (vs : List VarId) → declared_after (items ++ a ∷ []) vs ≡ declared_by a (declared_after items vs)
declared_after-append [] a vs = refl
declared_after-append (b ∷ items) a vs = declared_after-append items a (declared_by b vs)

-- the variable that a statement declares ends first
pub end_all-declared_by : (a : Stmt) (vs : List VarId) (st : State) → end_all (declared_by a vs) st ≡ end_all vs (end_all (declared_by a []) st)
end_all-declared_by s.Empty vs st = refl
end_all-declared_by (Block' sh row) vs st = refl
end_all-declared_by (s.Decl v i) vs st = refl
end_all-declared_by (s.Assign l v) vs st = refl
end_all-declared_by (s.Change l op id) vs st = refl
end_all-declared_by (s.Bump l up) vs st = refl
end_all-declared_by (s.Call f args) vs st = refl
end_all-declared_by (If' id sh row b) vs st = refl
end_all-declared_by (While' id sh row) vs st = refl
end_all-declared_by (Do' sh row id) vs st = refl
end_all-declared_by (For' sh row id next sh2 body) vs st = refl
end_all-declared_by s.Break vs st = refl
end_all-declared_by s.Continue vs st = refl
end_all-declared_by (s.Return v) vs st = refl
end_all-declared_by (s.Read l) vs st = refl
end_all-declared_by (s.Print id) vs st = refl

-- one statement of a block, and the rest of the block
pub block_turns : (r : Setting) (call : Caller) (items : List Stmt) (at : ℕ) (item : Stmt) (before : State) (e : Ending) (st left : State) →
    at < length items → item ≡ get_or items at item → ends e st ≡ execution_of r call item before →
    ((go : State → Outcome) → after_in (declared_after (take at items) []) e st go ≡ after e left go) →
    block_execution r call (drop at items) (declared_after (take at items) []) stay before ≡
    after e left (block_execution r call (drop (at + 1) items) (declared_after (take (at + 1) items) []) stay)
block_turns r call items at item before e st left below is ran leaves =
    let vs : List VarId = declared_after (take at items) [] in
    let first : block_execution r call (drop at items) vs stay before ≡ block_execution r call (item ∷ drop (at + 1) items) vs stay before =
    at_drop_more (λ xs. block_execution r call xs vs stay before) items at item below
    ∙ ap (λ x. block_execution r call (x ∷ drop (at + 1) items) vs stay before) (sym is) in
    let vars : declared_after (take (at + 1) items) [] ≡ declared_by item vs =
    ap (λ xs. declared_after xs []) (take_more items at item below)
    ∙ declared_after-append (take at items) (get_or items at item) []
    ∙ ap (λ x. declared_by x vs) (sym is) in
    first
    ∙ ap (λ out. then_in vs out (block_execution r call (drop (at + 1) items) (declared_by item vs) stay)) (sym ran)
    ∙ leaves (block_execution r call (drop (at + 1) items) (declared_by item vs) stay)
    ∙ ap (λ ws. after e left (block_execution r call (drop (at + 1) items) ws stay)) (sym vars)

-- one statement of a function's body, and the rest of the body
pub body_turns : (r : Setting) (call : Caller) (items : List Stmt) (at : ℕ) (item : Stmt) (before : State) (e : Ending) (st : State) →
    at < length items → item ≡ get_or items at item → ends e st ≡ execution_of r call item before →
    body_execution r call (drop at items) before ≡ after e st (body_execution r call (drop (at + 1) items))
body_turns r call items at item before e st below is ran =
    at_drop_more (λ xs. body_execution r call xs before) items at item below
    ∙ ap (λ x. body_execution r call (x ∷ drop (at + 1) items) before) (sym is)
    ∙ ap (λ out. then_do out (body_execution r call (drop (at + 1) items))) (sym ran)
