-- Words say one thing.
use Rattle.std.specs.Prelude.{◌≡◌, List, Ok, Err, string_bytes}
use Rattle.clap.specs.Words.{Text}
use Rattle.ax_words.specs.declared.order.Choice.{Choice}
use Rattle.ax_words.specs.declared.order.Choice.TheVariants.{Pick, Top}
use Rattle.ax_words.specs.declared.order.Order.{Order}
use Rattle.ax_words.specs.declared.order.Order.TheVariants.{Check, Gen, Prove, Rank, Repair, Run}
use Rattle.ax_words.specs.declared.order.RepairOrder.{RepairOrder}
use Rattle.ax_words.specs.declared.order.WordFault.{WordFault}
use Rattle.ax_words.specs.declared.order.WordFault.TheVariants.{Memory}
use Rattle.ax_words.specs.Words.{Says}

-- ---- orders of the same texts, numbers and sets

abbrev pub SameChoice : Choice → Choice → Type 0
SameChoice (Top count formula) (Top number name) = (count ≡ number) × (string_bytes formula ≡ string_bytes name)
SameChoice (Pick numbers) (Pick others) = numbers ≡ others
SameChoice _ _ = ⊥

pub record SameRepair (a b : RepairOrder) : Type 0 where
  pub source : string_bytes a.source ≡ string_bytes b.source
  pub tests : string_bytes a.tests ≡ string_bytes b.tests
  pub out : string_bytes a.out ≡ string_bytes b.out
  pub cert : string_bytes a.cert ≡ string_bytes b.cert
  pub choice : SameChoice a.choice b.choice
  pub sets : a.sets ≡ b.sets
  pub bounds : a.bounds ≡ b.bounds
  pub paths : a.paths ≡ b.paths
  pub budget : a.budget ≡ b.budget

abbrev pub SameOrder : Order → Order → Type 0
SameOrder (Repair a) (Repair b) = SameRepair a b
SameOrder (Check source tests patched cert) (Check other_source other_tests other_patched other_cert) =
    (string_bytes source ≡ string_bytes other_source) × (string_bytes tests ≡ string_bytes other_tests)
    × (string_bytes patched ≡ string_bytes other_patched) × (string_bytes cert ≡ string_bytes other_cert)
SameOrder (Run source tests steps) (Run other_source other_tests other_steps) =
    (string_bytes source ≡ string_bytes other_source) × (string_bytes tests ≡ string_bytes other_tests) × (steps ≡ other_steps)
SameOrder (Rank source tests formula steps) (Rank other_source other_tests other_formula other_steps) =
    (string_bytes source ≡ string_bytes other_source) × (string_bytes tests ≡ string_bytes other_tests)
    × (string_bytes formula ≡ string_bytes other_formula) × (steps ≡ other_steps)
SameOrder (Gen n) (Gen m) = n ≡ m
SameOrder (Prove cnf proof budget) (Prove other_cnf other_proof other_budget) =
    (string_bytes cnf ≡ string_bytes other_cnf) × (string_bytes proof ≡ string_bytes other_proof) × (budget ≡ other_budget)
SameOrder _ _ = ⊥

-- ---- laws

-- words give at most one order
abbrev pub OneOrder : Type 0
OneOrder = (words : List Text) (a b : Order) → Says words (Ok a) → Says words (Ok b) → SameOrder a b

-- words that give an order are refused for want of memory alone
abbrev pub OrdersHaveNoFault : Type 0
OrdersHaveNoFault = (words : List Text) (order : Order) (fault : WordFault) → Says words (Ok order) → Says words (Err fault) → fault ≡ Memory
