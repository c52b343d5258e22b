-- Steps of loops over parts and over parameters, and of what is judged in turn.
use Rattle.std.proofs.Common.{◌≡◌, ℕ, ◌+◌, ◌<◌, ◌≤◌, min, List, [], ◌∷◌, ◌++◌, length, drop, get_or, Option, Result, Ok, Err, refl, sym, ap, ◌∙◌, subst, append_assoc, arith, ◌⊎◌, inl, inr}
use Rattle.std.specs.Prelude.{codes}
use Rattle.std.proofs.lemmas.List.{drop_all, drop_more, append-nil}
use Rattle.ax_prog.specs.declared.Ty.{Ty}
use Rattle.ax_prog.specs.declared.VarId.{VarId}
use Rattle.ax_prog.specs.declared.Program.{Program}
use Rattle.ax_parse_grammar.specs.declared.tree.Param.{Param}
use Rattle.ax_parse_grammar.specs.declared.tree.Part.{Part}
use Rattle.ax_parse_grammar.specs.declared.tree.Tree.{Tree}
use Rattle.ax_names_types.specs.Faults.{Verdict}
use Rattle.ax_names_rules.specs.declared.State.{State}
use Rattle.ax_names_rules.specs.States.{next_var, with_var}
use Rattle.ax_names_rules.specs.Functions.{text_of, with_params, ids_of}
use Rattle.ax_names_rules.specs.Values.{function_at}
use Rattle.ax_names_rules.specs.Programs.{defined_by, definitions_of, start}
use Rattle.ax_names_rules.specs.FileFaults.{end_of}
use Rattle.ax_names_rules.specs.ValueWalk.{◌>>=◌}
use Rattle.ax_names_rules.specs.FileWalk.{part_of, parts_of, main_at, program_of}
use Rattle.ax_names_given.specs.declared.stops.Stop.{Stop}
use Rattle.ax_names_given.specs.declared.stops.Stop.TheVariants.{Memory, Fault}
use Rattle.ax_names_given.specs.Made.{IsStopped, IsFound}

-- what stops the first stops all
pub stopped : {A B : Type 0} (k : A → Verdict B) (w : Verdict A) (s : Stop) → IsStopped w s → IsStopped (w >>= k) s
stopped k w (Fault f) h = ap (λ w. w >>= k) h
stopped k w Memory h = tt

pub onward : {A B : Type 0} (k : A → Verdict B) (w : Verdict A) (a : A) → w ≡ Ok a → (w >>= k) ≡ k a
onward k w a h = ap (λ w. w >>= k) h

-- a cause goes along with an equation
pub stopped_as : {A : Type 0} (v w : Verdict A) (s : Stop) → v ≡ w → IsStopped w s → IsStopped v s
stopped_as v w (Fault f) e h = e ∙ h
stopped_as v w Memory e h = tt

-- ---- parts

split : {A : Type 0} (ps : List A) (i : ℕ) (p : A) → i < length ps → p ≡ get_or ps i p → drop i ps ≡ p ∷ drop (i + 1) ps
split {A} ps i p h is = drop_more ps i p h ∙ ap (λ (y : A). y ∷ drop (i + 1) ps) (sym is)

pub definitions_step : (ps : List Part) (i : ℕ) (p : Part) (names more : List (List ℕ)) → i < length ps → p ≡ get_or ps i p → more ≡ names ++ defined_by p → more ++ definitions_of (drop (i + 1) ps) ≡ names ++ definitions_of (drop i ps)
definitions_step ps i p names more h is m =
    ap (λ (l : List (List ℕ)). l ++ definitions_of (drop (i + 1) ps)) m ∙ append_assoc names (defined_by p) (definitions_of (drop (i + 1) ps)) ∙ ap (λ (l : List Part). names ++ definitions_of l) (sym (split ps i p h is))

pub parts_split : (defs : List (List ℕ)) (ps : List Part) (i : ℕ) (p : Part) (st : State) → i < length ps → p ≡ get_or ps i p → parts_of defs (drop i ps) st ≡ (part_of defs p st >>= parts_of defs (drop (i + 1) ps))
parts_split defs ps i p st h is = ap (λ (l : List Part). parts_of defs l st) (split ps i p h is)

pub parts_step : (defs : List (List ℕ)) (ps : List Part) (i : ℕ) (p : Part) (st st2 : State) → i < length ps → p ≡ get_or ps i p → part_of defs p st ≡ Ok st2 → parts_of defs (drop i ps) st ≡ parts_of defs (drop (i + 1) ps) st2
parts_step defs ps i p st st2 h is e = parts_split defs ps i p st h is ∙ onward (parts_of defs (drop (i + 1) ps)) (part_of defs p st) st2 e

pub parts_stop : (defs : List (List ℕ)) (ps : List Part) (i : ℕ) (p : Part) (st : State) (s : Stop) → i < length ps → p ≡ get_or ps i p → IsStopped (part_of defs p st) s → IsStopped (parts_of defs (drop i ps) st) s
parts_stop defs ps i p st s h is d = stopped_as (parts_of defs (drop i ps) st) _ s (parts_split defs ps i p st h is) (stopped (parts_of defs (drop (i + 1) ps)) (part_of defs p st) s d)

found_after : {A B : Type 0} (w : Verdict A) (k : A → Verdict B) (a : A) (r : Result B Stop) → w ≡ Ok a → IsFound (k a) r → IsFound (w >>= k) r
found_after w k a r e h = subst (λ v. IsFound v r) (sym (onward k w a e)) h

pub program_found : (tree : Tree) (defs : List (List ℕ)) (st : State) (place : Option ℕ) (r : Result Program Stop) → defs ≡ definitions_of tree.parts → parts_of defs tree.parts start ≡ Ok st → place ≡ function_at defs (codes "main") → IsFound (main_at place (end_of tree) st) r → IsFound (program_of tree) r
program_found tree defs st place r d e m h =
    found_after (parts_of (definitions_of tree.parts) tree.parts start) (main_at (function_at (definitions_of tree.parts) (codes "main")) (end_of tree)) st r
    (ap (λ (l : List (List ℕ)). parts_of l tree.parts start) (sym d) ∙ e)
    (subst (λ (o : Option ℕ). IsFound (main_at o (end_of tree) st) r) (m ∙ ap (λ (l : List (List ℕ)). function_at l (codes "main")) d) h)

-- ---- parameters

both_split : {A : Type 0} (f : List Param → List Ty → A) (ps : List Param) (us : List Ty) (i : ℕ) (p : Param) (u : Ty) → i < min (length ps) (length us) → p ≡ get_or ps i p → u ≡ get_or us i u → f (drop i ps) (drop i us) ≡ f (p ∷ drop (i + 1) ps) (u ∷ drop (i + 1) us)
both_split f ps us i p u h is is2 =
    let hp : i < length ps = omega arith in
    let hu : i < length us = omega arith in
    ap (λ (l : List Param). f l (drop i us)) (split ps i p hp is) ∙ ap (λ (l : List Ty). f (p ∷ drop (i + 1) ps) l) (split us i u hu is2)

pub params_step : (ps : List Param) (us : List Ty) (i : ℕ) (p : Param) (u : Ty) (st st2 : State) → i < min (length ps) (length us) → p ≡ get_or ps i p → u ≡ get_or us i u → st2 ≡ with_var st (text_of p.name) u → with_params st (drop i ps) (drop i us) ≡ with_params st2 (drop (i + 1) ps) (drop (i + 1) us)
params_step ps us i p u st st2 h is is2 e = both_split (with_params st) ps us i p u h is is2 ∙ ap (λ (s : State). with_params s (drop (i + 1) ps) (drop (i + 1) us)) (sym e)

pub ids_step : (ps : List Param) (us : List Ty) (i : ℕ) (p : Param) (u : Ty) (st st2 : State) (id : VarId) (ids more : List VarId) → i < min (length ps) (length us) → p ≡ get_or ps i p → u ≡ get_or us i u → st2 ≡ with_var st (text_of p.name) u → id ≡ next_var st → more ≡ ids ++ id ∷ [] → ids ++ ids_of st (drop i ps) (drop i us) ≡ more ++ ids_of st2 (drop (i + 1) ps) (drop (i + 1) us)
ids_step ps us i p u st st2 id ids more h is is2 e n m =
    ap (λ (l : List VarId). ids ++ l) (both_split (ids_of st) ps us i p u h is is2)
    ∙ ap (λ (s : State). ids ++ next_var st ∷ ids_of s (drop (i + 1) ps) (drop (i + 1) us)) (sym e)
    ∙ ap (λ (x : VarId). ids ++ x ∷ ids_of st2 (drop (i + 1) ps) (drop (i + 1) us)) (sym n)
    ∙ sym (append_assoc ids (id ∷ []) (ids_of st2 (drop (i + 1) ps) (drop (i + 1) us)))
    ∙ ap (λ (l : List VarId). l ++ ids_of st2 (drop (i + 1) ps) (drop (i + 1) us)) (sym m)

no_ids : (st : State) (ps : List Param) → ids_of st ps [] ≡ []
no_ids st [] = refl
no_ids st (p ∷ ps) = refl

no_params : (st : State) (ps : List Param) → with_params st ps [] ≡ st
no_params st [] = refl
no_params st (p ∷ ps) = refl

one_short : (m n i : ℕ) → min m n ≤ i → (m ≤ i) ⊎ (n ≤ i)
one_short m n i h = grind arith

pub ids_end : (ps : List Param) (us : List Ty) (i : ℕ) (st : State) (ids : List VarId) → min (length ps) (length us) ≤ i → ids ++ ids_of st (drop i ps) (drop i us) ≡ ids
ids_end ps us i st ids h =
    elim (one_short (length ps) (length us) i h) [ inl k ↦ ap (λ (l : List Param). ids ++ ids_of st l (drop i us)) (drop_all i ps k) ∙ append-nil ids | inr k ↦ ap (λ (l : List Ty). ids ++ ids_of st (drop i ps) l) (drop_all i us k) ∙ ap (λ (l : List VarId). ids ++ l) (no_ids st (drop i ps)) ∙ append-nil ids ]

pub params_end : (ps : List Param) (us : List Ty) (i : ℕ) (st : State) → min (length ps) (length us) ≤ i → with_params st (drop i ps) (drop i us) ≡ st
params_end ps us i st h =
    elim (one_short (length ps) (length us) i h) [ inl k ↦ ap (λ (l : List Param). with_params st l (drop i us)) (drop_all i ps k) | inr k ↦ ap (λ (l : List Ty). with_params st (drop i ps) l) (drop_all i us k) ∙ no_params st (drop i ps) ]
