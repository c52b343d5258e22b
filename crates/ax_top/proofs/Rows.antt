-- From how an order ends to what the program does.
use Rattle.std.proofs.Common.{◌≡◌, ℕ, List, inl, inr, map, string_bytes, subst, String, Global}
use Rattle.std.specs.Prelude.{Result, Ok, Err}
use Rattle.ax_rank_coverage.specs.Handed.{Handed}
use Rattle.ax_outside.specs.Seen.{NoLess, Same, Seen}
use Rattle.ax_outside.proofs.Steps.{no_less-then, same-then}
use Rattle.ax_words.specs.declared.order.Order.{Order}
use Rattle.ax_words.specs.declared.order.Order.TheVariants as order
use Rattle.ax_words.specs.declared.order.WordFault.{WordFault}
use Rattle.ax_words.specs.Words.{Says}
use Rattle.ax_top.specs.declared.answer.Answer.{Answer}
use Rattle.ax_top.specs.declared.answer.Answer.TheVariants as answer
use Rattle.ax_top.specs.declared.files.Stop.{Stop}
use Rattle.ax_top.specs.declared.telling.Told.{Told}
use Rattle.ax_top.specs.Causes.{Does, OrderStopped, WordsRefused, answered, memory, proves, refused, stopped, told}
use Rattle.ax_top.specs.Delivery.{Gives, Reports, out_of}
use Rattle.ax_top.specs.Ends.{Ends, Stops}
use Rattle.ax_top.specs.Proving.{DoesProve}
use Rattle.ax_top.specs.Repairs.{Answers}
use Rattle.ax_top.specs.Telling.{Tells}
use Rattle.ax_top.proofs.Giving.{gives-after, reports-after}

module _ (old new : Seen) (given words : List (String Global)) (same : given ≡ words) (status : ℕ) where
  said : (r : Result Order WordFault) → Says (map string_bytes given) r → Says (map string_bytes words) r
  said r h = subst (λ ws. Says (map string_bytes ws) r) same h

  pub refused-does : (rankers : List Handed) (fault : WordFault) → Says (map string_bytes given) (Err fault) → WordsRefused old new fault status
      → Does old new rankers (map string_bytes words) status
  refused-does rankers fault s (inl m) = memory m.0 m.1 m.2
  refused-does rankers fault s (inr r) = refused fault r.0 (said (Err fault) s) r.1 r.2

  -- texts that are those of the order
  pub proves-does : (rankers : List Handed) (cnf proof : String Global) (budget : ℕ) → Says (map string_bytes given) (Ok (order.Prove cnf proof budget))
      → (name text : List ℕ) → name ≡ string_bytes cnf → text ≡ string_bytes proof → DoesProve old new name text budget status
      → Does old new rankers (map string_bytes words) status
  proves-does rankers cnf proof budget s name text a b d =
      let first = subst (λ (n : List ℕ). DoesProve old new n text budget status) a d in
      proves cnf proof budget (said (Ok (order.Prove cnf proof budget)) s) (subst (λ (t : List ℕ). DoesProve old new (string_bytes cnf) t budget status) b first)

  -- the rankers were lent as a list that is theirs
  pub stopped-does : {X : Type 0} (known : X → Handed) (boxes rankers : List X) → boxes ≡ rankers
      → (order : Order) (why : Stop) (mid : Seen) → Says (map string_bytes given) (Ok order) → Stops old mid (map known boxes) order why
      → Same old mid → NoLess old mid → OrderStopped mid new order why status → Does old new (map known rankers) (map string_bytes words) status
  stopped-does known boxes rankers is order why mid s stops kept less (inl m) = memory m.0 (same-then _ _ _ kept m.1) (no_less-then _ _ _ less m.2)
  stopped-does known boxes rankers is order why mid s stops kept less (inr e) =
      stopped order why mid (said (Ok order) s) (subst (λ bs. Stops old mid (map known bs) order why) is stops) kept less e.0 e.1

  module _ {X : Type 0} (known : X → Handed) (boxes rankers : List X) (is : boxes ≡ rankers) (mid : Seen) (kept : Same old mid) (less : NoLess old mid) where
    told-does : (it : Order) (t : Told) → Says (map string_bytes given) (Ok it) → Tells old (map known boxes) it t.report t.status
        → Reports mid new t.report t.status status → Does old new (map known rankers) (map string_bytes words) status
    told-does it t s tells r =
        told it t.report t.status (said (Ok it) s) (subst (λ bs. Tells old (map known bs) it t.report t.status) is tells)
        (reports-after old mid new t.report t.status status kept less r)

    pub answered-does : (it : Order) (answer : Answer) → Says (map string_bytes given) (Ok it) → Ends old mid (map known boxes) it (Ok answer)
        → Gives mid new (out_of it) answer status → Does old new (map known rankers) (map string_bytes words) status
    answered-does (order.Repair o) it s ends gives =
        answered o it (said (Ok (order.Repair o)) s) (subst (λ bs. Answers old (map known bs) o it) is ends)
        (gives-after old mid new (string_bytes o.out) status it kept less gives)
    answered-does (order.Run a b n) (answer.Reported t) s ends gives = told-does (order.Run a b n) t s ends gives
    answered-does (order.Run a b n) (answer.Repaired text report) s ends gives = absurd ends
    answered-does (order.Run a b n) answer.NoRepair s ends gives = absurd ends
    answered-does (order.Rank a b d n) (answer.Reported t) s ends gives = told-does (order.Rank a b d n) t s ends gives
    answered-does (order.Rank a b d n) (answer.Repaired text report) s ends gives = absurd ends
    answered-does (order.Rank a b d n) answer.NoRepair s ends gives = absurd ends
    answered-does (order.Check a b d e) (answer.Reported t) s ends gives = absurd ends
    answered-does (order.Check a b d e) (answer.Repaired text report) s ends gives = absurd ends
    answered-does (order.Check a b d e) answer.NoRepair s ends gives = absurd ends
    answered-does (order.Gen n) (answer.Reported t) s ends gives = absurd ends
    answered-does (order.Gen n) (answer.Repaired text report) s ends gives = absurd ends
    answered-does (order.Gen n) answer.NoRepair s ends gives = absurd ends
    answered-does (order.Prove a b n) (answer.Reported t) s ends gives = absurd ends
    answered-does (order.Prove a b n) (answer.Repaired text report) s ends gives = absurd ends
    answered-does (order.Prove a b n) answer.NoRepair s ends gives = absurd ends
