-- From what a parse found to what the words say.
use Rattle.std.proofs.Common.{◌≡◌, ◌∙◌, Bool, codes, List, [], ◌∷◌, Some, None, ap, drop, map, subst, Option, String, Global, string_bytes}
use Rattle.std.specs.Prelude.{Result, Ok, Err, slice_get, unwrap_or}
use Rattle.std.specs.Str.{bytes_eq}
use Rattle.clap.specs.Words.{App, Text, first_of, found_of, rows_of}
use Rattle.clap.specs.declared.parser.matches.ArgMatches.{ArgMatches}
use Rattle.ax_words.specs.Commands.{Reads, prove_app, repair_app}
use Rattle.ax_words.specs.Texts.{GivesTexts, HoldsTexts}
use Rattle.ax_words.specs.Words.{IsProve, IsRank, IsRepair, IsRun, JudgesNumbers, SaysProve, SaysRank, SaysRun, given_from, have_one_name, prove_fields, rank_fields, run_fields, text_in}
use Rattle.ax_words.specs.declared.order.WordFault.{WordFault}
use Rattle.ax_words.specs.declared.order.WordFault.TheVariants.{BadList, BadNumber, Both, Memory, NoCommand, OutOfRange, Refused, SameName, UnknownCommand}
use Rattle.ax_words.specs.declared.repair.RepairTexts.{RepairTexts}

pub texts-given : (words : List Text) (app : App) (m : ArgMatches) (t : RepairTexts) → app ≡ repair_app → Reads app words (Ok m)
    → HoldsTexts (given_from (λ id. first_of id (rows_of (found_of m)))) (Some t) → GivesTexts words (Ok t)
texts-given words app m t is r0 h =
    let r : Reads repair_app words (Ok m) = subst (λ (a : App). Reads a words (Ok m)) is r0 in
    let here = subst (λ rows. HoldsTexts (given_from (λ id. first_of id rows)) (Some t)) r.1 h in
    ((r.0, here.0), here.1)

pub texts-missing : (words : List Text) (app : App) (m : ArgMatches) → app ≡ repair_app → Reads app words (Ok m)
    → HoldsTexts (given_from (λ id. first_of id (rows_of (found_of m)))) None → ¬ (IsRepair words)
texts-missing words app m is r0 h =
    let r : Reads repair_app words (Ok m) = subst (λ (a : App). Reads a words (Ok m)) is r0 in
    let here = subst (λ rows. HoldsTexts (given_from (λ id. first_of id rows)) None) r.1 h in
    λ all. here all.1

refused-by : (words : List Text) (fault : WordFault) → Reads repair_app words (Err fault) → GivesTexts words (Err fault)
refused-by words Memory r = tt
refused-by words Refused r = λ is. r is.0
refused-by words NoCommand r = r
refused-by words UnknownCommand r = r
refused-by words (BadNumber name) r = r
refused-by words (OutOfRange name) r = r
refused-by words (BadList name) r = r
refused-by words Both r = r
refused-by words SameName r = r

pub texts-refused : (words : List Text) (app : App) (fault : WordFault) → app ≡ repair_app → Reads app words (Err fault) → GivesTexts words (Err fault)
texts-refused words app fault is r = refused-by words fault (subst (λ (a : App). Reads a words (Err fault)) is r)

-- a command's matches, by what its command is
pub reads-same : (app other : App) (words : List Text) (r : Result ArgMatches WordFault) → app ≡ other → Reads app words r → Reads other words r
reads-same app other words r is h = subst (λ (a : App). Reads a words r) is h

pub ruleset same_reads = (reads-same)

pub run-refused : (words : List Text) (fault : WordFault) → IsRun words → JudgesNumbers (run_fields words) (Err fault) → SaysRun words (Err fault)
run-refused words Memory is j = tt
run-refused words NoCommand is j = (is, j)
run-refused words UnknownCommand is j = (is, j)
run-refused words Refused is j = absurd j
run-refused words (BadNumber name) is j = (is, j)
run-refused words (OutOfRange name) is j = (is, j)
run-refused words (BadList name) is j = (is, j)
run-refused words Both is j = (is, j)
run-refused words SameName is j = (is, j)

pub rank-refused : (words : List Text) (fault : WordFault) → IsRank words → JudgesNumbers (rank_fields words) (Err fault) → SaysRank words (Err fault)
rank-refused words Memory is j = tt
rank-refused words NoCommand is j = (is, j)
rank-refused words UnknownCommand is j = (is, j)
rank-refused words Refused is j = absurd j
rank-refused words (BadNumber name) is j = (is, j)
rank-refused words (OutOfRange name) is j = (is, j)
rank-refused words (BadList name) is j = (is, j)
rank-refused words Both is j = (is, j)
rank-refused words SameName is j = (is, j)

pub prove-refused : (words : List Text) (fault : WordFault) → IsProve words → JudgesNumbers (prove_fields words) (Err fault) → SaysProve words (Err fault)
prove-refused words Memory is j = tt
prove-refused words NoCommand is j = (is, j)
prove-refused words UnknownCommand is j = (is, j)
prove-refused words Refused is j = absurd j
prove-refused words (BadNumber name) is j = (is, j)
prove-refused words (OutOfRange name) is j = (is, j)
prove-refused words (BadList name) is j = (is, j)
prove-refused words Both is j = (is, j)
prove-refused words SameName is j = absurd j

pub ruleset refused_numbers = (run-refused, rank-refused)

-- whether the two files have one name
pub have-names : (words : List Text) (cnf proof : Text) (same : Bool) → text_in prove_app (codes "CNF") words ≡ Some cnf
    → text_in prove_app (codes "PROOF") words ≡ Some proof → bytes_eq cnf proof ≡ same → have_one_name words ≡ same
have-names words cnf proof same a b e = rw (a, b) e

-- the words begin with the first of them
pub first-word : (words : List (String Global)) (first : String Global) (text : Text) → slice_get words 0 ≡ Some first → string_bytes first ≡ text
    → map string_bytes words ≡ text ∷ map string_bytes (drop 1 words)
first-word [] first text at is = cc
first-word (w ∷ ws) first text at is =
    let same : w ≡ first = ap (λ (o : Option (String Global)). unwrap_or o w) at in
    ap (λ t. t ∷ map string_bytes ws) (ap string_bytes same ∙ is)
