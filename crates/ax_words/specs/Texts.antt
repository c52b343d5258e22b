-- The texts of an order as the code holds them.
use Rattle.std.specs.Prelude.{◌≡◌, ℕ, List, Option, Some, None, codes, option_map, string_bytes, Result, Ok, Err}
use Rattle.ax_prog.specs.declared.Sets.{Sets}
use Rattle.clap.specs.Words.{Text}
use Rattle.ax_words.specs.Words.{Given, HasFiles, IsRepair, given_in, picks_read, sets_read}
use Rattle.ax_words.specs.declared.order.WordFault.{WordFault}
use Rattle.ax_words.specs.declared.order.WordFault.TheVariants.{BadList, Memory, Refused}
use Rattle.ax_words.specs.declared.repair.RepairTexts.{RepairTexts}

abbrev pub given_of : RepairTexts → Given
given_of t = record {
  source = Some t.source.now;
  tests = Some t.tests.now;
  out = Some t.out.now;
  cert = Some t.cert.now;
  top = option_map (λ s. s.now) t.top;
  pick = option_map (λ s. s.now) t.pick;
  formula = option_map (λ s. s.now) t.formula;
  sets = option_map (λ s. s.now) t.sets;
  grow = option_map (λ s. s.now) t.grow;
  steps = option_map (λ s. s.now) t.steps;
  evals = option_map (λ s. s.now) t.evals;
  paths = option_map (λ s. s.now) t.paths;
  budget = option_map (λ s. s.now) t.budget;
}

-- the texts by what each name is read as, or that a file isn't named
abbrev pub HoldsTexts : Given → Option RepairTexts → Type 0
HoldsTexts g (Some t) = HasFiles g × (given_of t ≡ g)
HoldsTexts g None = ¬ (HasFiles g)

abbrev pub GivesTexts : List Text → Result RepairTexts WordFault → Type 0
GivesTexts words (Ok t) = IsRepair words × (given_of t ≡ given_in words)
GivesTexts words (Err Memory) = Unit {0}
GivesTexts words (Err Refused) = ¬ (IsRepair words)
GivesTexts words (Err other) = ⊥

-- `--pick` as read
abbrev pub PicksRead : Option Text → Result (Option (List ℕ)) WordFault → Type 0
PicksRead text (Ok picks) = picks_read text ≡ Some picks
PicksRead text (Err Memory) = Unit {0}
PicksRead text (Err (BadList name)) = (picks_read text ≡ None) × (string_bytes name ≡ codes "--pick")
PicksRead text (Err other) = ⊥

-- `--with` as read
abbrev pub SetsRead : Option Text → Result Sets WordFault → Type 0
SetsRead text (Ok sets) = sets_read text ≡ Some sets
SetsRead text (Err Memory) = Unit {0}
SetsRead text (Err (BadList name)) = (sets_read text ≡ None) × (string_bytes name ≡ codes "--with")
SetsRead text (Err other) = ⊥
