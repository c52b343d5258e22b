-- Words say one thing: each command by its first word.
use Rattle.std.proofs.Common.{◌≡◌, ◌∙◌, ℕ, false, List, [], ◌∷◌, ap, sym, refl, arith}
use Rattle.std.specs.Prelude.{Result, Ok, Err, codes, slice_index}
use Rattle.std.proofs.lemmas.Option.{none-some, same_Some}
use Rattle.clap.specs.Words.{Text}
use Rattle.ax_prog.specs.declared.Bounds.{Bounds}
use Rattle.ax_words.specs.Laws.{OneOrder, OrdersHaveNoFault, SameChoice, SameOrder, SameRepair}
use Rattle.ax_words.specs.Numbers.{Field}
use Rattle.ax_words.specs.Words.{Given, IsCheck, IsChoice, IsRank, IsRepairOrder, IsRun, IsGen, IsProve, JudgesNumbers, JudgesRepair, RefusesNumber, Says, SaysCheck, SaysGen, SaysProve, SaysRank, SaysRepair, SaysRepairOrder, SaysRun, gen_fields, given_in, have_one_name, picks_read, prove_fields, rank_fields, run_fields, nothing, unknown, repair, check, run, rank, gen, prove}
use Rattle.ax_words.specs.declared.order.Choice.{Choice}
use Rattle.ax_words.specs.declared.order.Choice.TheVariants.{Pick, Top}
use Rattle.ax_words.specs.declared.order.Order.{Order}
use Rattle.ax_words.specs.declared.order.Order.TheVariants.{Check, Gen, Prove, Rank, Repair, Run}
use Rattle.ax_words.specs.declared.order.RepairOrder.{RepairOrder}
use Rattle.ax_words.specs.declared.order.WordFault.{WordFault}
use Rattle.ax_words.specs.declared.order.WordFault.TheVariants.{BadList, BadNumber, Both, Memory, NoCommand, OutOfRange, Refused, SameName, UnknownCommand}

-- ---- the command

first-word : (words : List Text) (a b : Text) (r s : List Text) → words ≡ a ∷ r → words ≡ b ∷ s → a ≡ b
first-word words a b r s e f = cc

no-word : (words : List Text) (a : Text) (r : List Text) → words ≡ a ∷ r → words ≡ [] → ⊥
no-word words a r e f = absurd (cc)

-- words that differ in this byte
differ : (words : List Text) (a b : Text) (r s : List Text) (i x y : ℕ) → words ≡ a ∷ r → words ≡ b ∷ s → slice_index a i ≡ x → slice_index b i ≡ y → x ≡ y
differ words a b r s i x y e f at other = sym at ∙ ap (λ t. slice_index t i) (first-word words a b r s e f) ∙ other

module _ (words : List Text) (r : Result Order WordFault) where
  by-repair : (rest : List Text) → words ≡ codes "repair" ∷ rest → Says words r → SaysRepairOrder words r
  by-repair rest w (nothing e f) = absurd (no-word words _ rest w e)
  by-repair rest w (unknown word more e a b d f g i h) = absurd (a (first-word words _ _ more rest e w))
  by-repair rest w (repair more e h) = h
  by-repair rest w (check more e h) = absurd (let z : 114 ≡ 99 = differ words (codes "repair") (codes "check") rest more 0 114 99 w e refl refl in omega arith)
  by-repair rest w (run more e h) = absurd (let z : 101 ≡ 117 = differ words (codes "repair") (codes "run") rest more 1 101 117 w e refl refl in omega arith)
  by-repair rest w (rank more e h) = absurd (let z : 101 ≡ 97 = differ words (codes "repair") (codes "rank") rest more 1 101 97 w e refl refl in omega arith)
  by-repair rest w (gen more e h) = absurd (let z : 114 ≡ 103 = differ words (codes "repair") (codes "gen") rest more 0 114 103 w e refl refl in omega arith)
  by-repair rest w (prove more e h) = absurd (let z : 114 ≡ 112 = differ words (codes "repair") (codes "prove") rest more 0 114 112 w e refl refl in omega arith)

  by-check : (rest : List Text) → words ≡ codes "check" ∷ rest → Says words r → SaysCheck words r
  by-check rest w (nothing e f) = absurd (no-word words _ rest w e)
  by-check rest w (unknown word more e a b d f g i h) = absurd (b (first-word words _ _ more rest e w))
  by-check rest w (repair more e h) = absurd (let z : 99 ≡ 114 = differ words (codes "check") (codes "repair") rest more 0 99 114 w e refl refl in omega arith)
  by-check rest w (check more e h) = h
  by-check rest w (run more e h) = absurd (let z : 99 ≡ 114 = differ words (codes "check") (codes "run") rest more 0 99 114 w e refl refl in omega arith)
  by-check rest w (rank more e h) = absurd (let z : 99 ≡ 114 = differ words (codes "check") (codes "rank") rest more 0 99 114 w e refl refl in omega arith)
  by-check rest w (gen more e h) = absurd (let z : 99 ≡ 103 = differ words (codes "check") (codes "gen") rest more 0 99 103 w e refl refl in omega arith)
  by-check rest w (prove more e h) = absurd (let z : 99 ≡ 112 = differ words (codes "check") (codes "prove") rest more 0 99 112 w e refl refl in omega arith)

  by-run : (rest : List Text) → words ≡ codes "run" ∷ rest → Says words r → SaysRun words r
  by-run rest w (nothing e f) = absurd (no-word words _ rest w e)
  by-run rest w (unknown word more e a b d f g i h) = absurd (d (first-word words _ _ more rest e w))
  by-run rest w (repair more e h) = absurd (let z : 117 ≡ 101 = differ words (codes "run") (codes "repair") rest more 1 117 101 w e refl refl in omega arith)
  by-run rest w (check more e h) = absurd (let z : 114 ≡ 99 = differ words (codes "run") (codes "check") rest more 0 114 99 w e refl refl in omega arith)
  by-run rest w (run more e h) = h
  by-run rest w (rank more e h) = absurd (let z : 117 ≡ 97 = differ words (codes "run") (codes "rank") rest more 1 117 97 w e refl refl in omega arith)
  by-run rest w (gen more e h) = absurd (let z : 114 ≡ 103 = differ words (codes "run") (codes "gen") rest more 0 114 103 w e refl refl in omega arith)
  by-run rest w (prove more e h) = absurd (let z : 114 ≡ 112 = differ words (codes "run") (codes "prove") rest more 0 114 112 w e refl refl in omega arith)

  by-rank : (rest : List Text) → words ≡ codes "rank" ∷ rest → Says words r → SaysRank words r
  by-rank rest w (nothing e f) = absurd (no-word words _ rest w e)
  by-rank rest w (unknown word more e a b d f g i h) = absurd (f (first-word words _ _ more rest e w))
  by-rank rest w (repair more e h) = absurd (let z : 97 ≡ 101 = differ words (codes "rank") (codes "repair") rest more 1 97 101 w e refl refl in omega arith)
  by-rank rest w (check more e h) = absurd (let z : 114 ≡ 99 = differ words (codes "rank") (codes "check") rest more 0 114 99 w e refl refl in omega arith)
  by-rank rest w (run more e h) = absurd (let z : 97 ≡ 117 = differ words (codes "rank") (codes "run") rest more 1 97 117 w e refl refl in omega arith)
  by-rank rest w (rank more e h) = h
  by-rank rest w (gen more e h) = absurd (let z : 114 ≡ 103 = differ words (codes "rank") (codes "gen") rest more 0 114 103 w e refl refl in omega arith)
  by-rank rest w (prove more e h) = absurd (let z : 114 ≡ 112 = differ words (codes "rank") (codes "prove") rest more 0 114 112 w e refl refl in omega arith)

  by-gen : (rest : List Text) → words ≡ codes "gen" ∷ rest → Says words r → SaysGen words r
  by-gen rest w (nothing e f) = absurd (no-word words _ rest w e)
  by-gen rest w (unknown word more e a b d f g i h) = absurd (g (first-word words _ _ more rest e w))
  by-gen rest w (repair more e h) = absurd (let z : 103 ≡ 114 = differ words (codes "gen") (codes "repair") rest more 0 103 114 w e refl refl in omega arith)
  by-gen rest w (check more e h) = absurd (let z : 103 ≡ 99 = differ words (codes "gen") (codes "check") rest more 0 103 99 w e refl refl in omega arith)
  by-gen rest w (run more e h) = absurd (let z : 103 ≡ 114 = differ words (codes "gen") (codes "run") rest more 0 103 114 w e refl refl in omega arith)
  by-gen rest w (rank more e h) = absurd (let z : 103 ≡ 114 = differ words (codes "gen") (codes "rank") rest more 0 103 114 w e refl refl in omega arith)
  by-gen rest w (gen more e h) = h
  by-gen rest w (prove more e h) = absurd (let z : 103 ≡ 112 = differ words (codes "gen") (codes "prove") rest more 0 103 112 w e refl refl in omega arith)

  by-prove : (rest : List Text) → words ≡ codes "prove" ∷ rest → Says words r → SaysProve words r
  by-prove rest w (nothing e f) = absurd (no-word words _ rest w e)
  by-prove rest w (unknown word more e a b d f g i h) = absurd (i (first-word words _ _ more rest e w))
  by-prove rest w (repair more e h) = absurd (let z : 112 ≡ 114 = differ words (codes "prove") (codes "repair") rest more 0 112 114 w e refl refl in omega arith)
  by-prove rest w (check more e h) = absurd (let z : 112 ≡ 99 = differ words (codes "prove") (codes "check") rest more 0 112 99 w e refl refl in omega arith)
  by-prove rest w (run more e h) = absurd (let z : 112 ≡ 114 = differ words (codes "prove") (codes "run") rest more 0 112 114 w e refl refl in omega arith)
  by-prove rest w (rank more e h) = absurd (let z : 112 ≡ 114 = differ words (codes "prove") (codes "rank") rest more 0 112 114 w e refl refl in omega arith)
  by-prove rest w (gen more e h) = absurd (let z : 112 ≡ 103 = differ words (codes "prove") (codes "gen") rest more 0 112 103 w e refl refl in omega arith)
  by-prove rest w (prove more e h) = h

-- ---- one order

same-choice : (g : Given) (a b : Choice) → IsChoice g a → IsChoice g b → SameChoice a b
same-choice g (Pick numbers) (Pick others) a b = same_Some numbers others (same_Some _ _ (sym a ∙ b))
same-choice g (Pick numbers) (Top count formula) a b = absurd (none-some numbers (same_Some _ _ (sym (ap picks_read b.0) ∙ a)))
same-choice g (Top count formula) (Pick numbers) a b = absurd (none-some numbers (same_Some _ _ (sym (ap picks_read a.0) ∙ b)))
same-choice g (Top count formula) (Top number name) a b = (a.1 ∙ sym b.1, a.2 ∙ sym b.2)

same-bounds : (a b : Bounds) → a.steps ≡ b.steps → a.evals ≡ b.evals → a.grow ≡ b.grow → a ≡ b
same-bounds a b s e g =
    ap (λ (k : ℕ). let v : Bounds = record { steps = k; evals = a.evals; grow = a.grow } in v) s
    ∙ ap (λ (k : ℕ). let v : Bounds = record { steps = b.steps; evals = k; grow = a.grow } in v) e
    ∙ ap (λ (k : ℕ). let v : Bounds = record { steps = b.steps; evals = b.evals; grow = k } in v) g

same-repair : (g : Given) (a b : RepairOrder) → IsRepairOrder g a → IsRepairOrder g b → SameRepair a b
same-repair g a b x y = record {
  source = same_Some _ _ (sym x.source ∙ y.source);
  tests = same_Some _ _ (sym x.tests ∙ y.tests);
  out = same_Some _ _ (sym x.out ∙ y.out);
  cert = same_Some _ _ (sym x.cert ∙ y.cert);
  choice = same-choice g a.choice b.choice x.choice y.choice;
  sets = same_Some _ _ (sym x.sets ∙ y.sets);
  bounds = same-bounds a.bounds b.bounds (x.steps ∙ sym y.steps) (x.evals ∙ sym y.evals) (x.grow ∙ sym y.grow);
  paths = x.paths ∙ sym y.paths;
  budget = x.budget ∙ sym y.budget;
}

module _ (words : List Text) where
  one-repair : (a b : Order) → SaysRepairOrder words (Ok a) → SaysRepairOrder words (Ok b) → SameOrder a b
  one-repair (Repair a) (Repair b) h k = same-repair (given_in words) a b h.1.1 k.1.1
  one-repair (Repair a) (Check source' tests' patched' cert') h k = absurd k
  one-repair (Repair a) (Run source' tests' steps') h k = absurd k
  one-repair (Repair a) (Rank source' tests' formula' steps') h k = absurd k
  one-repair (Repair a) (Gen n') h k = absurd k
  one-repair (Repair a) (Prove cnf' proof' budget') h k = absurd k
  one-repair (Check source tests patched cert) b h k = absurd h
  one-repair (Run source tests steps) b h k = absurd h
  one-repair (Rank source tests formula steps) b h k = absurd h
  one-repair (Gen n) b h k = absurd h
  one-repair (Prove cnf proof budget) b h k = absurd h

  one-check : (a b : Order) → SaysCheck words (Ok a) → SaysCheck words (Ok b) → SameOrder a b
  one-check (Check source tests patched cert) (Check source' tests' patched' cert') h k = (same_Some _ _ (sym h.1 ∙ k.1), same_Some _ _ (sym h.2 ∙ k.2), same_Some _ _ (sym h.3 ∙ k.3), same_Some _ _ (sym h.4 ∙ k.4))
  one-check (Check source tests patched cert) (Repair b) h k = absurd k
  one-check (Check source tests patched cert) (Run source' tests' steps') h k = absurd k
  one-check (Check source tests patched cert) (Rank source' tests' formula' steps') h k = absurd k
  one-check (Check source tests patched cert) (Gen n') h k = absurd k
  one-check (Check source tests patched cert) (Prove cnf' proof' budget') h k = absurd k
  one-check (Repair a) b h k = absurd h
  one-check (Run source tests steps) b h k = absurd h
  one-check (Rank source tests formula steps) b h k = absurd h
  one-check (Gen n) b h k = absurd h
  one-check (Prove cnf proof budget) b h k = absurd h

  one-run : (a b : Order) → SaysRun words (Ok a) → SaysRun words (Ok b) → SameOrder a b
  one-run (Run source tests steps) (Run source' tests' steps') h k = (same_Some _ _ (sym h.2 ∙ k.2), same_Some _ _ (sym h.3 ∙ k.3), h.4 ∙ sym k.4)
  one-run (Run source tests steps) (Repair b) h k = absurd k
  one-run (Run source tests steps) (Check source' tests' patched' cert') h k = absurd k
  one-run (Run source tests steps) (Rank source' tests' formula' steps') h k = absurd k
  one-run (Run source tests steps) (Gen n') h k = absurd k
  one-run (Run source tests steps) (Prove cnf' proof' budget') h k = absurd k
  one-run (Repair a) b h k = absurd h
  one-run (Check source tests patched cert) b h k = absurd h
  one-run (Rank source tests formula steps) b h k = absurd h
  one-run (Gen n) b h k = absurd h
  one-run (Prove cnf proof budget) b h k = absurd h

  one-rank : (a b : Order) → SaysRank words (Ok a) → SaysRank words (Ok b) → SameOrder a b
  one-rank (Rank source tests formula steps) (Rank source' tests' formula' steps') h k = (same_Some _ _ (sym h.2 ∙ k.2), same_Some _ _ (sym h.3 ∙ k.3), h.4 ∙ sym k.4, h.5 ∙ sym k.5)
  one-rank (Rank source tests formula steps) (Repair b) h k = absurd k
  one-rank (Rank source tests formula steps) (Check source' tests' patched' cert') h k = absurd k
  one-rank (Rank source tests formula steps) (Run source' tests' steps') h k = absurd k
  one-rank (Rank source tests formula steps) (Gen n') h k = absurd k
  one-rank (Rank source tests formula steps) (Prove cnf' proof' budget') h k = absurd k
  one-rank (Repair a) b h k = absurd h
  one-rank (Check source tests patched cert) b h k = absurd h
  one-rank (Run source tests steps) b h k = absurd h
  one-rank (Gen n) b h k = absurd h
  one-rank (Prove cnf proof budget) b h k = absurd h

  one-gen : (a b : Order) → SaysGen words (Ok a) → SaysGen words (Ok b) → SameOrder a b
  one-gen (Gen n) (Gen n') h k = h.2 ∙ sym k.2
  one-gen (Gen n) (Repair b) h k = absurd k
  one-gen (Gen n) (Check source' tests' patched' cert') h k = absurd k
  one-gen (Gen n) (Run source' tests' steps') h k = absurd k
  one-gen (Gen n) (Rank source' tests' formula' steps') h k = absurd k
  one-gen (Gen n) (Prove cnf' proof' budget') h k = absurd k
  one-gen (Repair a) b h k = absurd h
  one-gen (Check source tests patched cert) b h k = absurd h
  one-gen (Run source tests steps) b h k = absurd h
  one-gen (Rank source tests formula steps) b h k = absurd h
  one-gen (Prove cnf proof budget) b h k = absurd h

  one-prove : (a b : Order) → SaysProve words (Ok a) → SaysProve words (Ok b) → SameOrder a b
  one-prove (Prove cnf proof budget) (Prove cnf' proof' budget') h k = (same_Some _ _ (sym h.3 ∙ k.3), same_Some _ _ (sym h.4 ∙ k.4), h.5 ∙ sym k.5)
  one-prove (Prove cnf proof budget) (Repair b) h k = absurd k
  one-prove (Prove cnf proof budget) (Check source' tests' patched' cert') h k = absurd k
  one-prove (Prove cnf proof budget) (Run source' tests' steps') h k = absurd k
  one-prove (Prove cnf proof budget) (Rank source' tests' formula' steps') h k = absurd k
  one-prove (Prove cnf proof budget) (Gen n') h k = absurd k
  one-prove (Repair a) b h k = absurd h
  one-prove (Check source tests patched cert) b h k = absurd h
  one-prove (Run source tests steps) b h k = absurd h
  one-prove (Rank source tests formula steps) b h k = absurd h
  one-prove (Gen n) b h k = absurd h

-- each by its command
pub one_order : OneOrder
one_order words a b (nothing e f) s = absurd (cc)
one_order words a b (unknown word rest e p q r t u v f) s = absurd (cc)
one_order words a b (repair rest w h) s = one-repair words a b h (by-repair words (Ok b) rest w s)
one_order words a b (check rest w h) s = one-check words a b h (by-check words (Ok b) rest w s)
one_order words a b (run rest w h) s = one-run words a b h (by-run words (Ok b) rest w s)
one_order words a b (rank rest w h) s = one-rank words a b h (by-rank words (Ok b) rest w s)
one_order words a b (gen rest w h) s = one-gen words a b h (by-gen words (Ok b) rest w s)
one_order words a b (prove rest w h) s = one-prove words a b h (by-prove words (Ok b) rest w s)

-- ---- no fault

numbers-fine : (fields : List Field) (fault : WordFault) → JudgesNumbers fields (Ok tt) → RefusesNumber fields fault → ⊥
numbers-fine fields (BadNumber name) fine bad = none-some _ (sym fine.0 ∙ bad)
numbers-fine fields (OutOfRange name) fine bad = none-some _ (sym fine.1 ∙ bad.1)
numbers-fine fields Memory fine bad = bad
numbers-fine fields NoCommand fine bad = bad
numbers-fine fields UnknownCommand fine bad = bad
numbers-fine fields Refused fine bad = bad
numbers-fine fields (BadList name) fine bad = bad
numbers-fine fields Both fine bad = bad
numbers-fine fields SameName fine bad = bad

judged-fine : (g : Given) (o : RepairOrder) (fault : WordFault) → JudgesRepair g (Ok o) → JudgesRepair g (Err fault) → fault ≡ Memory
judged-fine g o Memory h k = refl
judged-fine g o (BadNumber name) h k = absurd (none-some _ (sym h.0.numbers ∙ k))
judged-fine g o (OutOfRange name) h k = absurd (none-some _ (sym h.0.ranges ∙ k.1))
judged-fine g o (BadList name) h k = absurd (none-some _ (sym h.0.lists ∙ k.2))
judged-fine g o Both h k = absurd (let z = sym h.0.choice ∙ k.3 in cc)
judged-fine g o SameName h k = absurd (let z = sym h.0.names ∙ k.4 in cc)
judged-fine g o NoCommand h k = absurd k
judged-fine g o UnknownCommand h k = absurd k
judged-fine g o Refused h k = absurd k

module _ (words : List Text) where
  fine-repair : (o : RepairOrder) (fault : WordFault) → SaysRepair words (Ok o) → SaysRepair words (Err fault) → fault ≡ Memory
  fine-repair o Memory h k = refl
  fine-repair o NoCommand h k = judged-fine (given_in words) o NoCommand h.1 k.1
  fine-repair o UnknownCommand h k = judged-fine (given_in words) o UnknownCommand h.1 k.1
  fine-repair o Refused h k = absurd (k h.0)
  fine-repair o (BadNumber name) h k = judged-fine (given_in words) o (BadNumber name) h.1 k.1
  fine-repair o (OutOfRange name) h k = judged-fine (given_in words) o (OutOfRange name) h.1 k.1
  fine-repair o (BadList name) h k = judged-fine (given_in words) o (BadList name) h.1 k.1
  fine-repair o Both h k = judged-fine (given_in words) o Both h.1 k.1
  fine-repair o SameName h k = judged-fine (given_in words) o SameName h.1 k.1

  fine-check : (fault : WordFault) → IsCheck words → SaysCheck words (Err fault) → fault ≡ Memory
  fine-check Memory is k = refl
  fine-check NoCommand is k = absurd k
  fine-check UnknownCommand is k = absurd k
  fine-check Refused is k = absurd (k is)
  fine-check (BadNumber name) is k = absurd k
  fine-check (OutOfRange name) is k = absurd k
  fine-check (BadList name) is k = absurd k
  fine-check Both is k = absurd k
  fine-check SameName is k = absurd k

  fine-run : (fault : WordFault) → IsRun words → JudgesNumbers (run_fields words) (Ok tt) → SaysRun words (Err fault) → fault ≡ Memory
  fine-run Memory is fine k = refl
  fine-run NoCommand is fine k = absurd (numbers-fine (run_fields words) NoCommand fine k.1)
  fine-run UnknownCommand is fine k = absurd (numbers-fine (run_fields words) UnknownCommand fine k.1)
  fine-run Refused is fine k = absurd (k is)
  fine-run (BadNumber name) is fine k = absurd (numbers-fine (run_fields words) (BadNumber name) fine k.1)
  fine-run (OutOfRange name) is fine k = absurd (numbers-fine (run_fields words) (OutOfRange name) fine k.1)
  fine-run (BadList name) is fine k = absurd (numbers-fine (run_fields words) (BadList name) fine k.1)
  fine-run Both is fine k = absurd (numbers-fine (run_fields words) Both fine k.1)
  fine-run SameName is fine k = absurd (numbers-fine (run_fields words) SameName fine k.1)

  fine-rank : (fault : WordFault) → IsRank words → JudgesNumbers (rank_fields words) (Ok tt) → SaysRank words (Err fault) → fault ≡ Memory
  fine-rank Memory is fine k = refl
  fine-rank NoCommand is fine k = absurd (numbers-fine (rank_fields words) NoCommand fine k.1)
  fine-rank UnknownCommand is fine k = absurd (numbers-fine (rank_fields words) UnknownCommand fine k.1)
  fine-rank Refused is fine k = absurd (k is)
  fine-rank (BadNumber name) is fine k = absurd (numbers-fine (rank_fields words) (BadNumber name) fine k.1)
  fine-rank (OutOfRange name) is fine k = absurd (numbers-fine (rank_fields words) (OutOfRange name) fine k.1)
  fine-rank (BadList name) is fine k = absurd (numbers-fine (rank_fields words) (BadList name) fine k.1)
  fine-rank Both is fine k = absurd (numbers-fine (rank_fields words) Both fine k.1)
  fine-rank SameName is fine k = absurd (numbers-fine (rank_fields words) SameName fine k.1)

  fine-gen : (fault : WordFault) → IsGen words → JudgesNumbers (gen_fields words) (Ok tt) → SaysGen words (Err fault) → fault ≡ Memory
  fine-gen Memory is fine k = refl
  fine-gen NoCommand is fine k = absurd (numbers-fine (gen_fields words) NoCommand fine k.1)
  fine-gen UnknownCommand is fine k = absurd (numbers-fine (gen_fields words) UnknownCommand fine k.1)
  fine-gen Refused is fine k = absurd (k is)
  fine-gen (BadNumber name) is fine k = absurd (numbers-fine (gen_fields words) (BadNumber name) fine k.1)
  fine-gen (OutOfRange name) is fine k = absurd (numbers-fine (gen_fields words) (OutOfRange name) fine k.1)
  fine-gen (BadList name) is fine k = absurd (numbers-fine (gen_fields words) (BadList name) fine k.1)
  fine-gen Both is fine k = absurd (numbers-fine (gen_fields words) Both fine k.1)
  fine-gen SameName is fine k = absurd (numbers-fine (gen_fields words) SameName fine k.1)

  fine-prove : (fault : WordFault) → IsProve words → JudgesNumbers (prove_fields words) (Ok tt) → have_one_name words ≡ false → SaysProve words (Err fault) → fault ≡ Memory
  fine-prove Memory is fine differ k = refl
  fine-prove Refused is fine differ k = absurd (k is)
  fine-prove SameName is fine differ k = absurd (let z = sym differ ∙ k.2 in cc)
  fine-prove NoCommand is fine differ k = absurd (numbers-fine (prove_fields words) NoCommand fine k.1)
  fine-prove UnknownCommand is fine differ k = absurd (numbers-fine (prove_fields words) UnknownCommand fine k.1)
  fine-prove (BadNumber name) is fine differ k = absurd (numbers-fine (prove_fields words) (BadNumber name) fine k.1)
  fine-prove (OutOfRange name) is fine differ k = absurd (numbers-fine (prove_fields words) (OutOfRange name) fine k.1)
  fine-prove (BadList name) is fine differ k = absurd (numbers-fine (prove_fields words) (BadList name) fine k.1)
  fine-prove Both is fine differ k = absurd (numbers-fine (prove_fields words) Both fine k.1)

  no-fault-repair : (a : Order) (fault : WordFault) → SaysRepairOrder words (Ok a) → SaysRepairOrder words (Err fault) → fault ≡ Memory
  no-fault-repair (Repair o) fault h k = fine-repair o fault h k
  no-fault-repair (Check source tests patched cert) fault h k = absurd h
  no-fault-repair (Run source tests steps) fault h k = absurd h
  no-fault-repair (Rank source tests formula steps) fault h k = absurd h
  no-fault-repair (Gen n) fault h k = absurd h
  no-fault-repair (Prove cnf proof budget) fault h k = absurd h

  no-fault-check : (a : Order) (fault : WordFault) → SaysCheck words (Ok a) → SaysCheck words (Err fault) → fault ≡ Memory
  no-fault-check (Check source tests patched cert) fault h k = fine-check fault h.0 k
  no-fault-check (Repair o) fault h k = absurd h
  no-fault-check (Run source tests steps) fault h k = absurd h
  no-fault-check (Rank source tests formula steps) fault h k = absurd h
  no-fault-check (Gen n) fault h k = absurd h
  no-fault-check (Prove cnf proof budget) fault h k = absurd h

  no-fault-run : (a : Order) (fault : WordFault) → SaysRun words (Ok a) → SaysRun words (Err fault) → fault ≡ Memory
  no-fault-run (Run source tests steps) fault h k = fine-run fault h.0 h.1 k
  no-fault-run (Repair o) fault h k = absurd h
  no-fault-run (Check source tests patched cert) fault h k = absurd h
  no-fault-run (Rank source tests formula steps) fault h k = absurd h
  no-fault-run (Gen n) fault h k = absurd h
  no-fault-run (Prove cnf proof budget) fault h k = absurd h

  no-fault-rank : (a : Order) (fault : WordFault) → SaysRank words (Ok a) → SaysRank words (Err fault) → fault ≡ Memory
  no-fault-rank (Rank source tests formula steps) fault h k = fine-rank fault h.0 h.1 k
  no-fault-rank (Repair o) fault h k = absurd h
  no-fault-rank (Check source tests patched cert) fault h k = absurd h
  no-fault-rank (Run source tests steps) fault h k = absurd h
  no-fault-rank (Gen n) fault h k = absurd h
  no-fault-rank (Prove cnf proof budget) fault h k = absurd h

  no-fault-gen : (a : Order) (fault : WordFault) → SaysGen words (Ok a) → SaysGen words (Err fault) → fault ≡ Memory
  no-fault-gen (Gen n) fault h k = fine-gen fault h.0 h.1 k
  no-fault-gen (Repair o) fault h k = absurd h
  no-fault-gen (Check source tests patched cert) fault h k = absurd h
  no-fault-gen (Run source tests steps) fault h k = absurd h
  no-fault-gen (Rank source tests formula steps) fault h k = absurd h
  no-fault-gen (Prove cnf proof budget) fault h k = absurd h

  no-fault-prove : (a : Order) (fault : WordFault) → SaysProve words (Ok a) → SaysProve words (Err fault) → fault ≡ Memory
  no-fault-prove (Prove cnf proof budget) fault h k = fine-prove fault h.0 h.1 h.2 k
  no-fault-prove (Repair o) fault h k = absurd h
  no-fault-prove (Check source tests patched cert) fault h k = absurd h
  no-fault-prove (Run source tests steps) fault h k = absurd h
  no-fault-prove (Rank source tests formula steps) fault h k = absurd h
  no-fault-prove (Gen n) fault h k = absurd h

pub orders_have_no_fault : OrdersHaveNoFault
orders_have_no_fault words a fault (nothing e f) s = absurd (cc)
orders_have_no_fault words a fault (unknown word rest e p q r t u v f) s = absurd (cc)
orders_have_no_fault words a fault (repair rest w h) s = no-fault-repair words a fault h (by-repair words (Err fault) rest w s)
orders_have_no_fault words a fault (check rest w h) s = no-fault-check words a fault h (by-check words (Err fault) rest w s)
orders_have_no_fault words a fault (run rest w h) s = no-fault-run words a fault h (by-run words (Err fault) rest w s)
orders_have_no_fault words a fault (rank rest w h) s = no-fault-rank words a fault h (by-rank words (Err fault) rest w s)
orders_have_no_fault words a fault (gen rest w h) s = no-fault-gen words a fault h (by-gen words (Err fault) rest w s)
orders_have_no_fault words a fault (prove rest w h) s = no-fault-prove words a fault h (by-prove words (Err fault) rest w s)
