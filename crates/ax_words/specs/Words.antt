-- What the words of a command line say.
use Rattle.std.specs.Prelude.{◌≡◌, ◌≢◌, ◌&&◌, ◌||◌, ℕ, Bool, true, false, List, [], ◌∷◌, Option, Some, None, IsSome, codes, is_some, option_map, string_bytes, Result, Ok, Err, if◌then◌else◌}
use Rattle.std.specs.Str.{bytes_eq}
use Rattle.clap.specs.Words.{App, Text, fault_of, first_of, matches_of}
use Rattle.ax_prog.specs.declared.Sets.{Sets}
use Rattle.ax_words.specs.Commands.{check_app, gen_app, prove_app, rank_app, repair_app, run_app}
use Rattle.ax_words.specs.Lists.{picks_of, sets_of}
use Rattle.ax_words.specs.Numbers.{Field, first_of_kind, is_misread, is_off_range, value_of}
use Rattle.ax_words.specs.declared.order.Choice.{Choice}
use Rattle.ax_words.specs.declared.order.Choice.TheVariants.{Pick, Top}
use Rattle.ax_words.specs.declared.order.Order.{Order}
use Rattle.ax_words.specs.declared.order.Order.TheVariants.{Check, Gen, Prove, Rank, Repair, Run}
use Rattle.ax_words.specs.declared.order.RepairOrder.{RepairOrder}
use Rattle.ax_words.specs.declared.order.WordFault.{WordFault}
use Rattle.ax_words.specs.declared.order.WordFault.TheVariants.{BadList, BadNumber, Both, Memory, NoCommand, OutOfRange, Refused, SameName, UnknownCommand}

-- what a command reads under a name
abbrev pub text_in : App → Text → List Text → Option Text
text_in app id words = first_of id (matches_of app words)

abbrev pub steps_field : Option Text → Field
steps_field text = record { name = codes "--steps"; text = text; least = 1; most = 1000000; default = 10000 }

abbrev pub budget_of : Option Text → Field
budget_of text = record { name = codes "--budget"; text = text; least = 1; most = 1000000; default = 100000 }

-- numbers are judged first: none is misread, and then none is out of its range
abbrev pub JudgesNumbers : List Field → Result (Unit {0}) WordFault → Type 0
JudgesNumbers fields (Ok done) = (first_of_kind is_misread fields ≡ None) × (first_of_kind is_off_range fields ≡ None)
JudgesNumbers fields (Err Memory) = Unit {0}
JudgesNumbers fields (Err (BadNumber name)) = first_of_kind is_misread fields ≡ Some (string_bytes name)
JudgesNumbers fields (Err (OutOfRange name)) = (first_of_kind is_misread fields ≡ None) × (first_of_kind is_off_range fields ≡ Some (string_bytes name))
JudgesNumbers fields (Err other) = ⊥

-- the texts that `repair` reads
pub record Given : Type 0 where
  pub source : Option Text
  pub tests : Option Text
  pub out : Option Text
  pub cert : Option Text
  pub top : Option Text
  pub pick : Option Text
  pub formula : Option Text
  pub sets : Option Text
  pub grow : Option Text
  pub steps : Option Text
  pub evals : Option Text
  pub paths : Option Text
  pub budget : Option Text

-- by what each name is read as
abbrev pub given_from : (Text → Option Text) → Given
given_from read = record {
  source = read (codes "SOURCE");
  tests = read (codes "TESTS");
  out = read (codes "OUT");
  cert = read (codes "CERT");
  top = read (codes "top");
  pick = read (codes "pick");
  formula = read (codes "formula");
  sets = read (codes "with");
  grow = read (codes "grow");
  steps = read (codes "steps");
  evals = read (codes "evals");
  paths = read (codes "paths");
  budget = read (codes "budget");
}

abbrev pub given_in : List Text → Given
given_in words = given_from (λ id. text_in repair_app id words)

-- the four files are named
abbrev pub HasFiles : Given → Type 0
HasFiles g = IsSome g.source × IsSome g.tests × IsSome g.out × IsSome g.cert

abbrev pub top_field : Given → Field
top_field g = record { name = codes "--top"; text = g.top; least = 1; most = 4; default = 1 }

abbrev pub grow_field : Given → Field
grow_field g = record { name = codes "--grow"; text = g.grow; least = 0; most = 2; default = 1 }

abbrev pub evals_field : Given → Field
evals_field g = record { name = codes "--evals"; text = g.evals; least = 1; most = 64; default = 16 }

abbrev pub paths_field : Given → Field
paths_field g = record { name = codes "--paths"; text = g.paths; least = 1; most = 4096; default = 256 }

abbrev pub budget_field : Given → Field
budget_field g = budget_of g.budget

-- in the order in which they are judged
abbrev pub repair_fields : Given → List Field
repair_fields g = top_field g ∷ grow_field g ∷ steps_field g.steps ∷ evals_field g ∷ paths_field g ∷ budget_field g ∷ []

-- `--pick`, where it is given: its numbers, or that it is no such list
abbrev pub picks_read : Option Text → Option (Option (List ℕ))
picks_read None = Some None
picks_read (Some text) = option_map (λ ns. Some ns) (picks_of text)

-- the sets of `--with`, or the default
abbrev pub default_sets : Sets
default_sets = record { cmp = true; logic = true; arith = true; mul = false; bits = false; vars = true; consts = true; guard = false }

abbrev pub sets_read : Option Text → Option Sets
sets_read None = Some default_sets
sets_read (Some text) = sets_of text

-- the name of the first list that isn't as it must be
abbrev pub bad_list_in : Given → Option Text
bad_list_in g =
    if is_some (picks_read g.pick) then (if is_some (sets_read g.sets) then None else Some (codes "--with")) else Some (codes "--pick")

-- `--pick` stands beside `--top` or `--formula`
abbrev pub are_both : Given → Bool
are_both g = is_some g.pick && (is_some g.top || is_some g.formula)

abbrev pub is_same : Option Text → Option Text → Bool
is_same None b = false
is_same (Some a) None = false
is_same (Some a) (Some b) = bytes_eq a b

-- two of the four files have one name
abbrev pub have_same_name : Given → Bool
have_same_name g =
    is_same g.source g.tests || (is_same g.source g.out || (is_same g.source g.cert
    || (is_same g.tests g.out || (is_same g.tests g.cert || is_same g.out g.cert))))

abbrev pub text_or : Text → Option Text → Text
text_or default None = default
text_or default (Some text) = text

-- the chosen expressions: picked, or the first of a ranker's order
abbrev pub IsChoice : Given → Choice → Type 0
IsChoice g (Pick numbers) = picks_read g.pick ≡ Some (Some numbers)
IsChoice g (Top count formula) = (g.pick ≡ None) × (count ≡ value_of (top_field g)) × (string_bytes formula ≡ text_or (codes "jaccard") g.formula)

-- the order has what the texts say
pub record IsRepairOrder (g : Given) (o : RepairOrder) : Type 0 where
  pub source : g.source ≡ Some (string_bytes o.source)
  pub tests : g.tests ≡ Some (string_bytes o.tests)
  pub out : g.out ≡ Some (string_bytes o.out)
  pub cert : g.cert ≡ Some (string_bytes o.cert)
  pub choice : IsChoice g o.choice
  pub sets : sets_read g.sets ≡ Some o.sets
  pub steps : o.bounds.steps ≡ value_of (steps_field g.steps)
  pub evals : o.bounds.evals ≡ value_of (evals_field g)
  pub grow : o.bounds.grow ≡ value_of (grow_field g)
  pub paths : o.paths ≡ value_of (paths_field g)
  pub budget : o.budget ≡ value_of (budget_field g)

-- nothing in the texts is refused
pub record IsFaultless (g : Given) : Type 0 where
  pub numbers : first_of_kind is_misread (repair_fields g) ≡ None
  pub ranges : first_of_kind is_off_range (repair_fields g) ≡ None
  pub lists : bad_list_in g ≡ None
  pub choice : are_both g ≡ false
  pub names : have_same_name g ≡ false

-- the texts give an order, or the first refusal: numbers, ranges, lists, the choice, the names
abbrev pub JudgesRepair : Given → Result RepairOrder WordFault → Type 0
JudgesRepair g (Ok o) = IsFaultless g × IsRepairOrder g o
JudgesRepair g (Err Memory) = Unit {0}
JudgesRepair g (Err (BadNumber name)) = first_of_kind is_misread (repair_fields g) ≡ Some (string_bytes name)
JudgesRepair g (Err (OutOfRange name)) = (first_of_kind is_misread (repair_fields g) ≡ None) × (first_of_kind is_off_range (repair_fields g) ≡ Some (string_bytes name))
JudgesRepair g (Err (BadList name)) = (first_of_kind is_misread (repair_fields g) ≡ None) × (first_of_kind is_off_range (repair_fields g) ≡ None)
    × (bad_list_in g ≡ Some (string_bytes name))
JudgesRepair g (Err Both) = (first_of_kind is_misread (repair_fields g) ≡ None) × (first_of_kind is_off_range (repair_fields g) ≡ None)
    × (bad_list_in g ≡ None) × (are_both g ≡ true)
JudgesRepair g (Err SameName) = (first_of_kind is_misread (repair_fields g) ≡ None) × (first_of_kind is_off_range (repair_fields g) ≡ None)
    × (bad_list_in g ≡ None) × (are_both g ≡ false) × (have_same_name g ≡ true)
JudgesRepair g (Err other) = ⊥

-- the command takes the words, and they give its four texts
abbrev pub IsRepair : List Text → Type 0
IsRepair words = (fault_of repair_app words ≡ []) × HasFiles (given_in words)

abbrev pub SaysRepair : List Text → Result RepairOrder WordFault → Type 0
SaysRepair words (Err Memory) = Unit {0}
SaysRepair words (Err Refused) = ¬ (IsRepair words)
SaysRepair words result = IsRepair words × JudgesRepair (given_in words) result

-- the texts that `check` reads, in order
abbrev pub IsCheck : List Text → Type 0
IsCheck words = (fault_of check_app words ≡ []) × IsSome (text_in check_app (codes "SOURCE") words) × IsSome (text_in check_app (codes "TESTS") words)
    × IsSome (text_in check_app (codes "PATCHED") words) × IsSome (text_in check_app (codes "CERT") words)

abbrev pub IsRun : List Text → Type 0
IsRun words = (fault_of run_app words ≡ []) × IsSome (text_in run_app (codes "SOURCE") words) × IsSome (text_in run_app (codes "TESTS") words)

abbrev pub IsRank : List Text → Type 0
IsRank words = (fault_of rank_app words ≡ []) × IsSome (text_in rank_app (codes "SOURCE") words) × IsSome (text_in rank_app (codes "TESTS") words)

abbrev pub IsGen : List Text → Type 0
IsGen words = (fault_of gen_app words ≡ []) × IsSome (text_in gen_app (codes "N") words)

abbrev pub IsProve : List Text → Type 0
IsProve words = (fault_of prove_app words ≡ []) × IsSome (text_in prove_app (codes "CNF") words) × IsSome (text_in prove_app (codes "PROOF") words)

abbrev pub run_fields : List Text → List Field
run_fields words = steps_field (text_in run_app (codes "steps") words) ∷ []

abbrev pub rank_fields : List Text → List Field
rank_fields words = steps_field (text_in rank_app (codes "steps") words) ∷ []

-- the number of `gen`, which has no default
abbrev pub gen_field : Option Text → Field
gen_field text = record { name = codes "N"; text = text; least = 1; most = 1000000; default = 0 }

abbrev pub SaysCheck : List Text → Result Order WordFault → Type 0
SaysCheck words (Ok (Check source tests patched cert)) = IsCheck words × (text_in check_app (codes "SOURCE") words ≡ Some (string_bytes source))
    × (text_in check_app (codes "TESTS") words ≡ Some (string_bytes tests)) × (text_in check_app (codes "PATCHED") words ≡ Some (string_bytes patched))
    × (text_in check_app (codes "CERT") words ≡ Some (string_bytes cert))
SaysCheck words (Ok other) = ⊥
SaysCheck words (Err Memory) = Unit {0}
SaysCheck words (Err Refused) = ¬ (IsCheck words)
SaysCheck words (Err other) = ⊥

-- a number is misread, or out of its range
abbrev pub RefusesNumber : List Field → WordFault → Type 0
RefusesNumber fields (BadNumber name) = JudgesNumbers fields (Err (BadNumber name))
RefusesNumber fields (OutOfRange name) = JudgesNumbers fields (Err (OutOfRange name))
RefusesNumber fields other = ⊥

abbrev pub SaysRun : List Text → Result Order WordFault → Type 0
SaysRun words (Ok (Run source tests steps)) = IsRun words × JudgesNumbers (run_fields words) (Ok tt)
    × (text_in run_app (codes "SOURCE") words ≡ Some (string_bytes source))
    × (text_in run_app (codes "TESTS") words ≡ Some (string_bytes tests)) × (steps ≡ value_of (steps_field (text_in run_app (codes "steps") words)))
SaysRun words (Ok other) = ⊥
SaysRun words (Err Memory) = Unit {0}
SaysRun words (Err Refused) = ¬ (IsRun words)
SaysRun words (Err fault) = IsRun words × RefusesNumber (run_fields words) fault

abbrev pub SaysRank : List Text → Result Order WordFault → Type 0
SaysRank words (Ok (Rank source tests formula steps)) = IsRank words × JudgesNumbers (rank_fields words) (Ok tt)
    × (text_in rank_app (codes "SOURCE") words ≡ Some (string_bytes source))
    × (text_in rank_app (codes "TESTS") words ≡ Some (string_bytes tests))
    × (string_bytes formula ≡ text_or (codes "jaccard") (text_in rank_app (codes "formula") words))
    × (steps ≡ value_of (steps_field (text_in rank_app (codes "steps") words)))
SaysRank words (Ok other) = ⊥
SaysRank words (Err Memory) = Unit {0}
SaysRank words (Err Refused) = ¬ (IsRank words)
SaysRank words (Err fault) = IsRank words × RefusesNumber (rank_fields words) fault

abbrev pub gen_fields : List Text → List Field
gen_fields words = gen_field (text_in gen_app (codes "N") words) ∷ []

abbrev pub SaysGen : List Text → Result Order WordFault → Type 0
SaysGen words (Ok (Gen n)) = IsGen words × JudgesNumbers (gen_fields words) (Ok tt) × (n ≡ value_of (gen_field (text_in gen_app (codes "N") words)))
SaysGen words (Ok other) = ⊥
SaysGen words (Err Memory) = Unit {0}
SaysGen words (Err Refused) = ¬ (IsGen words)
SaysGen words (Err fault) = IsGen words × RefusesNumber (gen_fields words) fault

abbrev pub prove_fields : List Text → List Field
prove_fields words = budget_of (text_in prove_app (codes "budget") words) ∷ []

-- the two files of `prove` have one name
abbrev pub have_one_name : List Text → Bool
have_one_name words = is_same (text_in prove_app (codes "CNF") words) (text_in prove_app (codes "PROOF") words)

-- the number is judged before the names
abbrev pub SaysProve : List Text → Result Order WordFault → Type 0
SaysProve words (Ok (Prove cnf proof budget)) = IsProve words × JudgesNumbers (prove_fields words) (Ok tt) × (have_one_name words ≡ false)
    × (text_in prove_app (codes "CNF") words ≡ Some (string_bytes cnf))
    × (text_in prove_app (codes "PROOF") words ≡ Some (string_bytes proof))
    × (budget ≡ value_of (budget_of (text_in prove_app (codes "budget") words)))
SaysProve words (Ok other) = ⊥
SaysProve words (Err Memory) = Unit {0}
SaysProve words (Err Refused) = ¬ (IsProve words)
SaysProve words (Err SameName) = IsProve words × JudgesNumbers (prove_fields words) (Ok tt) × (have_one_name words ≡ true)
SaysProve words (Err fault) = IsProve words × RefusesNumber (prove_fields words) fault

-- the order `repair` among the orders
abbrev pub SaysRepairOrder : List Text → Result Order WordFault → Type 0
SaysRepairOrder words (Ok (Repair o)) = SaysRepair words (Ok o)
SaysRepairOrder words (Ok other) = ⊥
SaysRepairOrder words (Err fault) = SaysRepair words (Err fault)

-- what the words say: the first word is the command, and the command reads them all
pub data Says (words : List Text) (result : Result Order WordFault) : Type 0 where
  nothing : words ≡ [] → result ≡ Err NoCommand → Says words result
  unknown : (word : Text) (rest : List Text) → words ≡ word ∷ rest
      → word ≢ codes "repair" → word ≢ codes "check" → word ≢ codes "run" → word ≢ codes "rank" → word ≢ codes "gen" → word ≢ codes "prove"
      → result ≡ Err UnknownCommand → Says words result
  repair : (rest : List Text) → words ≡ codes "repair" ∷ rest → SaysRepairOrder words result → Says words result
  check : (rest : List Text) → words ≡ codes "check" ∷ rest → SaysCheck words result → Says words result
  run : (rest : List Text) → words ≡ codes "run" ∷ rest → SaysRun words result → Says words result
  rank : (rest : List Text) → words ≡ codes "rank" ∷ rest → SaysRank words result → Says words result
  gen : (rest : List Text) → words ≡ codes "gen" ∷ rest → SaysGen words result → Says words result
  prove : (rest : List Text) → words ≡ codes "prove" ∷ rest → SaysProve words result → Says words result
