-- Reading tests one after another.
use Rattle.std.proofs.Common.{◌≡◌, ◌∙◌, ◌≤◌, ◌<◌, ◌+◌, ◌-◌, ◌++◌, add-zero, ℕ, suc, List, [], ◌∷◌, length, take, drop, Some, Err, sym, refl, ap, subst, arith}
use Rattle.std.specs.Prelude.{slice_index_or}
use Rattle.std.proofs.lemmas.List.{append_assoc, append-nil}
use Rattle.serde_json.specs.Data.{Items}
use Rattle.serde_json.specs.Events.{items_len}
use Rattle.serde_json.specs.View.{view, items_view}
use Rattle.serde_json.specs.declared.value.Value.{Value}
use Rattle.ax_prog.specs.declared.Test.{Test}
use Rattle.ax_suite.proofs.Fronts.{rest-is}
use Rattle.ax_suite.specs.Tests.{HasFault, IsTest, ReadsTest}
use Rattle.ax_suite.specs.Suites.{AreSuite, AreTests, FaultsAt, HaveFault, ReadsArray, ReadsTests, stop_at}
use Rattle.ax_suite.specs.declared.test.Kind.{Kind}
use Rattle.ax_suite.specs.declared.test.Kind.TheVariants.{TooMany}
use Rattle.ax_suite.specs.declared.test.TestFault.{TestFault}
use Rattle.ax_suite.specs.declared.test.TestFault.TheVariants.{Fault, Memory}
use Rattle.ax_suite.specs.declared.suite.Stop.{Stop}
use Rattle.ax_suite.specs.declared.suite.Stop.TheVariants.{At}
use Rattle.ax_suite.specs.declared.suite.Stop.TheVariants as stop

-- what is left to read, from that number on, decides what all is, where these tests were read before
pub record IsReadUpTo (all rest : Items) (done : List Test) (number : ℕ) : Type 0 where
  pub tests : (ts : List Test) → AreTests rest ts → AreTests all (done ++ ts)
  pub fault : (k : ℕ) (what : Kind) → FaultsAt rest k what → ReadsTests all (Err (At (number + k) what))

pub begins : (all : Items) (done : List Test) → done ≡ [] → IsReadUpTo all all done 1
begins all done none = record {
  tests = λ ts are. rw none are;
  fault = λ k what at_k. (k, omega arith, at_k);
}

pub turn : (all : Items) (done more : List Test) (number : ℕ) (v : Value) (rest : List Value) (t : Test) → 1 ≤ length rest
    → v ≡ slice_index_or rest 0 v → IsTest (view v) t → more ≡ done ++ t ∷ [] → IsReadUpTo all (items_view rest) done number
    → IsReadUpTo all (items_view (take (length rest - 1) (drop 1 rest))) more (number + 1)
turn all done more number v [] t some at_v is then so_far = absurd (omega arith)
turn all done more number v (w ∷ ws) t some at_v is then so_far =
    let first : IsTest (view w) t = subst (λ (x : Value). IsTest (view x) t) at_v is in
    let next : IsReadUpTo all (items_view ws) more (number + 1) = record {
      tests = λ ts are.
          subst (AreTests all) (sym (append_assoc done (t ∷ []) ts) ∙ ap (λ xs. xs ++ ts) (sym then)) (so_far.tests (t ∷ ts) (first, are));
      fault = λ k what at_k.
          let same : number + suc k ≡ number + 1 + k = omega arith in
          subst (λ n. ReadsTests all (Err (At n what))) same (so_far.fault (suc k) what (t, first, at_k));
    } in
    subst (λ xs. IsReadUpTo all (items_view xs) more (number + 1)) (sym (rest-is w ws)) next

stops-here : (all : Items) (done : List Test) (number : ℕ) (v : Value) (rest : List Value) (what : Kind) → 1 ≤ length rest
    → v ≡ slice_index_or rest 0 v → HasFault (view v) what → IsReadUpTo all (items_view rest) done number
    → ReadsTests all (Err (At number what))
stops-here all done number v [] what some at_v has so_far = absurd (omega arith)
stops-here all done number v (w ∷ ws) what some at_v has so_far =
    let first : HasFault (view w) what = subst (λ (x : Value). HasFault (view x) what) at_v has in
    subst (λ n. ReadsTests all (Err (At n what))) (add-zero number) (so_far.fault 0 what first)

pub stops : (all : Items) (done : List Test) (number : ℕ) (v : Value) (rest : List Value) (e : TestFault) → 1 ≤ length rest
    → v ≡ slice_index_or rest 0 v → ReadsTest (view v) (Err e) → IsReadUpTo all (items_view rest) done number
    → ReadsTests all (Err (stop_at e number))
stops all done number v rest (Fault what) some at_v has so_far = stops-here all done number v rest what some at_v has so_far
stops all done number v rest Memory some at_v has so_far = tt

pub ends : (all : Items) (done : List Test) (number : ℕ) (rest : List Value) → length rest < 1
    → IsReadUpTo all (items_view rest) done number → AreTests all done
ends all done number [] none so_far = subst (AreTests all) (append-nil done) (so_far.tests [] tt)
ends all done number (v ∷ vs) none so_far = absurd (omega arith)

pub items_len-view : (vs : List Value) → items_len (items_view vs) ≡ length vs
items_len-view [] = refl
items_len-view (v ∷ vs) = ap suc (items_len-view vs)

-- the tests of an array, or its first fault, as those of the suite
pub array-ok : (vs : List Value) (tests : List Test) → length vs ≤ 256 → AreTests (items_view vs) tests
    → AreSuite (Some (items_view vs)) tests
array-ok vs tests few are = (let n = items_len-view vs in omega arith, are)

pub array-err : (vs : List Value) (e : Stop) → length vs ≤ 256 → ReadsTests (items_view vs) (Err e)
    → ReadsArray (Some (items_view vs)) (Err e)
array-err vs (At number what) few is =
    let n = items_len-view vs in
    let here : HaveFault (Some (items_view vs)) (suc is.0) what = (omega arith, is.2) in
    subst (λ k. HaveFault (Some (items_view vs)) k what) (sym is.1) here
array-err vs stop.Memory few is = tt

pub array-long : (vs : List Value) → 256 < length vs → HaveFault (Some (items_view vs)) 0 TooMany
array-long vs many = let n = items_len-view vs in omega arith
