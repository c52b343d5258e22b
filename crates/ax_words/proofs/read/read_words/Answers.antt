use Rattle.std.proofs.Common.{◌≡◌, ◌≢◌, Some, codes, drop, map, refl, rules, string_bytes}
use Rattle.std.specs.Prelude.{slice_get}
use Rattle.std.proofs.lemmas.Slice.Eq.{bytes_eq-Decides}
use Rattle.ax_words.specs.Words.{check, gen, prove, rank, repair, run, unknown}
use Rattle.ax_words.proofs.Said.{first-word}
use Rattle.ax_words.proofs.read.read_words.Goals as goal

pub returns-then-eq : goal.returns-then-eq
returns-then-eq c =
    let at : slice_get c.args.words.now 0 ≡ Some c.in-Some.first.now = search rules in
    let is : string_bytes c.in-Some.first.now ≡ codes "repair" = search (rules, bytes_eq-Decides) in
    repair (map string_bytes (drop 1 c.args.words.now)) (first-word c.args.words.now c.in-Some.first.now (codes "repair") at is) c.read_repair_order.ensures

pub returns-then-eq-2 : goal.returns-then-eq-2
returns-then-eq-2 c =
    let at : slice_get c.args.words.now 0 ≡ Some c.in-Some.first.now = search rules in
    let is : string_bytes c.in-Some.first.now ≡ codes "check" = search (rules, bytes_eq-Decides) in
    check (map string_bytes (drop 1 c.args.words.now)) (first-word c.args.words.now c.in-Some.first.now (codes "check") at is) c.read_check.ensures

pub returns-then-eq-3 : goal.returns-then-eq-3
returns-then-eq-3 c =
    let at : slice_get c.args.words.now 0 ≡ Some c.in-Some.first.now = search rules in
    let is : string_bytes c.in-Some.first.now ≡ codes "run" = search (rules, bytes_eq-Decides) in
    run (map string_bytes (drop 1 c.args.words.now)) (first-word c.args.words.now c.in-Some.first.now (codes "run") at is) c.read_run.ensures

pub returns-then-eq-4 : goal.returns-then-eq-4
returns-then-eq-4 c =
    let at : slice_get c.args.words.now 0 ≡ Some c.in-Some.first.now = search rules in
    let is : string_bytes c.in-Some.first.now ≡ codes "rank" = search (rules, bytes_eq-Decides) in
    rank (map string_bytes (drop 1 c.args.words.now)) (first-word c.args.words.now c.in-Some.first.now (codes "rank") at is) c.read_rank.ensures

pub returns-then-eq-5 : goal.returns-then-eq-5
returns-then-eq-5 c =
    let at : slice_get c.args.words.now 0 ≡ Some c.in-Some.first.now = search rules in
    let is : string_bytes c.in-Some.first.now ≡ codes "gen" = search (rules, bytes_eq-Decides) in
    gen (map string_bytes (drop 1 c.args.words.now)) (first-word c.args.words.now c.in-Some.first.now (codes "gen") at is) c.read_gen.ensures

pub returns-then-eq-6 : goal.returns-then-eq-6
returns-then-eq-6 c =
    let at : slice_get c.args.words.now 0 ≡ Some c.in-Some.first.now = search rules in
    let is : string_bytes c.in-Some.first.now ≡ codes "prove" = search (rules, bytes_eq-Decides) in
    prove (map string_bytes (drop 1 c.args.words.now)) (first-word c.args.words.now c.in-Some.first.now (codes "prove") at is) c.read_prove.ensures

pub returns-else-eq-6 : goal.returns-else-eq-6
returns-else-eq-6 c =
    let at : slice_get c.args.words.now 0 ≡ Some c.in-Some.first.now = search rules in
    let not_repair : string_bytes c.in-Some.first.now ≢ codes "repair" = search (rules, bytes_eq-Decides) in
    let not_check : string_bytes c.in-Some.first.now ≢ codes "check" = search (rules, bytes_eq-Decides) in
    let not_run : string_bytes c.in-Some.first.now ≢ codes "run" = search (rules, bytes_eq-Decides) in
    let not_rank : string_bytes c.in-Some.first.now ≢ codes "rank" = search (rules, bytes_eq-Decides) in
    let not_gen : string_bytes c.in-Some.first.now ≢ codes "gen" = search (rules, bytes_eq-Decides) in
    let not_prove : string_bytes c.in-Some.first.now ≢ codes "prove" = search (rules, bytes_eq-Decides) in
    unknown (string_bytes c.in-Some.first.now) (map string_bytes (drop 1 c.args.words.now))
    (first-word c.args.words.now c.in-Some.first.now (string_bytes c.in-Some.first.now) at refl)
    not_repair not_check not_run not_rank not_gen not_prove refl
