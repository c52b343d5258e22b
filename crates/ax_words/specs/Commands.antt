-- The six commands, as `clap` takes them.
use Rattle.std.specs.Prelude.{◌≡◌, ◌≢◌, List, [], ◌∷◌, Some, true, codes, Result, Ok, Err}
use Rattle.clap.specs.Words.{App, Rule, Text, fault_of, found_of, is_simple, is_simple_and_free, matches_of, new_app, new_rule, rows_of, with_rule}
use Rattle.clap.specs.declared.builder.action.ArgAction.TheVariants.{Set}
use Rattle.clap.specs.declared.parser.matches.ArgMatches.{ArgMatches}
use Rattle.ax_words.specs.declared.order.WordFault.{WordFault}
use Rattle.ax_words.specs.declared.order.WordFault.TheVariants.{Memory, Refused}

-- a required text that is told by its place
abbrev pub place : Text → Rule
place id = record (new_rule id) { required = true; action = Some Set }

-- a text that is told by its name, after two dashes
abbrev pub option : Text → Rule
option id = record (new_rule id) { long = Some id; action = Some Set }

abbrev pub with_places : App → List Text → App
with_places app [] = app
with_places app (name ∷ names) = with_places (with_rule app (place name)) names

abbrev pub with_options : App → List Text → App
with_options app [] = app
with_options app (name ∷ names) = with_options (with_rule app (option name)) names

abbrev pub repair_app : App
repair_app = with_options
    (with_places (new_app (codes "repair")) (codes "SOURCE" ∷ codes "TESTS" ∷ codes "OUT" ∷ codes "CERT" ∷ []))
    (codes "top" ∷ codes "pick" ∷ codes "formula" ∷ codes "with" ∷ codes "grow" ∷ codes "steps" ∷ codes "evals" ∷ codes "paths" ∷ codes "budget" ∷ [])

abbrev pub check_app : App
check_app = with_places (new_app (codes "check")) (codes "SOURCE" ∷ codes "TESTS" ∷ codes "PATCHED" ∷ codes "CERT" ∷ [])

abbrev pub run_app : App
run_app = with_options (with_places (new_app (codes "run")) (codes "SOURCE" ∷ codes "TESTS" ∷ [])) (codes "steps" ∷ [])

abbrev pub rank_app : App
rank_app = with_options (with_places (new_app (codes "rank")) (codes "SOURCE" ∷ codes "TESTS" ∷ [])) (codes "formula" ∷ codes "steps" ∷ [])

abbrev pub gen_app : App
gen_app = with_places (new_app (codes "gen")) (codes "N" ∷ [])

abbrev pub prove_app : App
prove_app = with_options (with_places (new_app (codes "prove")) (codes "CNF" ∷ codes "PROOF" ∷ [])) (codes "budget" ∷ [])

-- a command whose matches and faults are told
abbrev pub IsSimpleApp : App → Type 0
IsSimpleApp app = (is_simple app ≡ true) × (is_simple_and_free app ≡ true)

-- the command's matches, or that it doesn't take the words
abbrev pub Reads : App → List Text → Result ArgMatches WordFault → Type 0
Reads app words (Ok m) = (fault_of app words ≡ []) × (rows_of (found_of m) ≡ matches_of app words)
Reads app words (Err Memory) = Unit {0}
Reads app words (Err Refused) = fault_of app words ≢ []
Reads app words (Err other) = ⊥
