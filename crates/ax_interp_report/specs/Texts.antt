-- The lines of a report.
use Rattle.std.specs.Prelude.{ℕ, ◌+◌, ◌++◌, Bool, true, false, List, [], ◌∷◌, length, codes, count_by}
use Rattle.std.specs.Fmt.{decimal}
use Rattle.ax_interp_report.specs.declared.verdict.Verdict.{Verdict}
use Rattle.ax_interp_report.specs.declared.verdict.Verdict.TheVariants.{Passes, Undefined, OutOfSteps, WrongOutput, WrongReturn}

abbrev pub verdict_text : Verdict → List ℕ
verdict_text Passes = codes "passes"
verdict_text Undefined = codes "fails, undefined"
verdict_text OutOfSteps = codes "fails, out of steps"
verdict_text WrongOutput = codes "fails, wrong output"
verdict_text WrongReturn = codes "fails, wrong return"

abbrev pub test_line : ℕ → Verdict → List ℕ
test_line number verdict = codes "test " ++ (decimal number ++ (codes ": " ++ (verdict_text verdict ++ codes "\n")))

-- a line for each verdict, numbered from this number on
abbrev pub test_lines : ℕ → List Verdict → List ℕ
test_lines number [] = []
test_lines number (verdict ∷ verdicts) = test_line number verdict ++ test_lines (number + 1) verdicts

abbrev pub passes : Verdict → Bool
passes Passes = true
passes Undefined = false
passes OutOfSteps = false
passes WrongOutput = false
passes WrongReturn = false

abbrev pub pass_count : List Verdict → ℕ
pass_count verdicts = count_by passes verdicts

abbrev pub summary : ℕ → ℕ → List ℕ
summary passing count = decimal passing ++ (codes " of " ++ (decimal count ++ codes " pass\n"))

-- a line for each test, numbered from 1, and how many pass
abbrev pub run_report : List Verdict → List ℕ
run_report verdicts = test_lines 1 verdicts ++ summary (pass_count verdicts) (length verdicts)
