-- A text says one thing.
use Rattle.std.proofs.Common.{◌≡◌, ◌∙◌, ◌≤◌, ◌<◌, ℕ, zero, suc, true, false, List, [], ◌∷◌, Option, Some, None, ap₂, sym, refl, subst, arith}
use Rattle.std.specs.Prelude.{IsSomeAnd}
use Rattle.std.proofs.lemmas.Option.{none-some, same_Some}
use Rattle.serde_json.specs.Data.{Data, Items, no_items, item}
use Rattle.serde_json.specs.Events.{items_len}
use Rattle.serde_json.specs.Find.{as_array}
use Rattle.ax_prog.specs.declared.Test.{Test}
use Rattle.ax_suite.specs.Laws.{OneSuite, SuitesHaveNoFault}
use Rattle.ax_suite.specs.Suites.{AreSuite, AreTests, FaultsAt, HaveFault, IsFaulty, IsSuite, Spells}
use Rattle.ax_suite.specs.Tests.{HasFault, IsTest, is_in_int, is_long}
use Rattle.ax_suite.specs.declared.test.Kind.{Kind}
use Rattle.ax_suite.specs.declared.test.Kind.TheVariants as kind
use Rattle.ax_suite.specs.declared.SuiteFault.TheVariants.{BadShape, Memory, NotJson, OutOfInt, TooMany}

one-value : (bytes : List ℕ) (d e : Data) → Spells bytes d → Spells bytes e → d ≡ e
one-value bytes d e x y = same_Some d e (sym x.value ∙ y.value)

-- ---- one suite

one-list : (ds : Items) (a b : List Test) → AreTests ds a → AreTests ds b → a ≡ b
one-list no_items [] [] x y = refl
one-list no_items [] (t ∷ ts) x y = absurd y
one-list no_items (t ∷ ts) b x y = absurd x
one-list (item d ds) [] b x y = absurd x
one-list (item d ds) (t ∷ ts) [] x y = absurd y
one-list (item d ds) (t ∷ ts) (u ∷ us) x y = ap₂ (λ v vs. v ∷ vs) (same_Some t u (sym x.0.shape ∙ y.0.shape)) (one-list ds ts us x.1 y.1)

one-array : (o : Option Items) (a b : List Test) → AreSuite o a → AreSuite o b → a ≡ b
one-array None a b x y = absurd x
one-array (Some ds) a b x y = one-list ds a b x.1 y.1

pub one_suite : OneSuite
one_suite bytes a b x y =
    let same : x.0 ≡ y.0 = one-value bytes x.0 y.0 x.1 y.1 in
    one-array (as_array y.0) a b (subst (λ (d : Data). AreSuite (as_array d) a) same x.2) y.2

-- ---- no fault

no-kind : (d : Data) (t : Test) (what : Kind) → IsTest d t → HasFault d what → ⊥
no-kind d t kind.BadShape is h = none-some t (sym h ∙ is.shape)
no-kind d t kind.TooMany is h =
    let long : is_long t ≡ true = subst (λ (o : Option Test). IsSomeAnd o (λ u. is_long u ≡ true)) is.shape h in
    absurd (let both = sym is.short ∙ long in cc)
no-kind d t kind.OutOfInt is h =
    let out = subst (λ (o : Option Test). IsSomeAnd o (λ u. (is_long u ≡ false) × (is_in_int u ≡ false))) is.shape h in
    absurd (let both = sym is.in_int ∙ out.1 in cc)

no-place : (ds : Items) (ts : List Test) (place : ℕ) (what : Kind) → AreTests ds ts → FaultsAt ds place what → ⊥
no-place no_items ts place what are at = at
no-place (item d ds) [] place what are at = are
no-place (item d ds) (t ∷ ts) zero what are at = no-kind d t what are.0 at
no-place (item d ds) (t ∷ ts) (suc place) what are at = no-place ds ts place what are.1 at.2

few-many : (n : ℕ) → n ≤ 256 → 256 < n → ⊥
few-many n few many = omega arith

no-number : (o : Option Items) (ts : List Test) (number : ℕ) (what : Kind) → AreSuite o ts → HaveFault o number what → ⊥
no-number None ts number what are has = are
no-number (Some ds) ts zero kind.TooMany are has = few-many (items_len ds) are.0 has
no-number (Some ds) ts zero kind.BadShape are has = has
no-number (Some ds) ts zero kind.OutOfInt are has = has
no-number (Some ds) ts (suc place) what are has = no-place ds ts place what are.1 has.1

no-fault : (bytes : List ℕ) (ts : List Test) (number : ℕ) (what : Kind) → IsSuite bytes ts → IsFaulty bytes number what → ⊥
no-fault bytes ts number what x y =
    let same : x.0 ≡ y.0 = one-value bytes x.0 y.0 x.1 y.1 in
    no-number (as_array y.0) ts number what (subst (λ (d : Data). AreSuite (as_array d) ts) same x.2) y.2

pub suites_have_no_fault : SuitesHaveNoFault
suites_have_no_fault bytes ts Memory is r = refl
suites_have_no_fault bytes ts NotJson is r = absurd (r is.0 is.1)
suites_have_no_fault bytes ts (BadShape number) is r = absurd (no-fault bytes ts number kind.BadShape is r)
suites_have_no_fault bytes ts (TooMany number) is r = absurd (no-fault bytes ts number kind.TooMany is r)
suites_have_no_fault bytes ts (OutOfInt number) is r = absurd (no-fault bytes ts number kind.OutOfInt is r)
