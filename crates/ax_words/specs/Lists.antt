-- Options whose text is a list, with commas between its parts.
use Rattle.std.specs.Prelude.{◌&&◌, ◌==◌, ℕ, zero, suc, Bool, true, false, List, [], ◌∷◌, Option, Some, None, codes, nat_lt, nat_le, option_map, option_and_then, if◌then◌else◌}
use Rattle.std.specs.List.{slice_split}
use Rattle.std.specs.Str.{bytes_eq}
use Rattle.clap.specs.Words.{Text}
use Rattle.ax_prog.specs.declared.Sets.{Sets}
use Rattle.ax_words.specs.Numbers.{number_of}

-- what stands between the commas; one part more than there are commas
abbrev pub parts_of : Text → List Text
parts_of text = slice_split (λ b. b == 44) text

-- a number above the one before, and at most 20000
abbrev pub next_pick : ℕ → Text → Option ℕ
next_pick last part = option_and_then (λ n. if nat_lt last n && nat_le n 20000 then Some n else None) (number_of part)

-- at most `room` numbers, strictly rising
abbrev pub picks_from : ℕ → ℕ → List Text → Option (List ℕ)
picks_from room last [] = Some []
picks_from zero last (part ∷ parts) = None
picks_from (suc room) last (part ∷ parts) = option_and_then (λ n. option_map (λ ns. n ∷ ns) (picks_from room n parts)) (next_pick last part)

-- the numbers that `--pick` writes: one to four, strictly rising, from 1 to 20000
abbrev pub picks_of : Text → Option (List ℕ)
picks_of text = picks_from 4 0 (parts_of text)

abbrev pub no_sets : Sets
no_sets = record { cmp = false; logic = false; arith = false; mul = false; bits = false; vars = false; consts = false; guard = false }

-- a set may be named once
abbrev pub once : Bool → Sets → Option Sets
once already sets = if already then None else Some sets

abbrev pub with_set : Text → Sets → Option Sets
with_set name sets =
    if bytes_eq name (codes "cmp") then once sets.cmp (record sets { cmp = true })
    else if bytes_eq name (codes "logic") then once sets.logic (record sets { logic = true })
    else if bytes_eq name (codes "arith") then once sets.arith (record sets { arith = true })
    else if bytes_eq name (codes "mul") then once sets.mul (record sets { mul = true })
    else if bytes_eq name (codes "bits") then once sets.bits (record sets { bits = true })
    else if bytes_eq name (codes "vars") then once sets.vars (record sets { vars = true })
    else if bytes_eq name (codes "consts") then once sets.consts (record sets { consts = true })
    else if bytes_eq name (codes "guard") then once sets.guard (record sets { guard = true })
    else None

abbrev pub sets_from : Sets → List Text → Option Sets
sets_from sets [] = Some sets
sets_from sets (part ∷ parts) = option_and_then (λ more. sets_from more parts) (with_set part sets)

-- the sets that `--with` names: at least one, none twice
abbrev pub sets_of : Text → Option Sets
sets_of text = sets_from no_sets (parts_of text)
