-- `==` of keys is equality.
use Rattle.std.proofs.Common.{◌≡◌, Bool, true, arith}
use Rattle.std.proofs.lemmas.Bool.{false≢true}
use Rattle.ax_term.specs.declared.Key.{Key}
use Rattle.ax_term.specs.declared.Key.TheVariants.{WordKey, WordSymKey, FlagKey, FlagSymKey, MakeKey, CompareKey, NoKey, AllKey, PickKey}
use Rattle.ax_term.specs.contracts.KeyPartialEq.TheImpl as impl

abbrev pub same_key : Key → Key → Bool
same_key a b = (impl.eq-value).it a b

pub same_key-exact : (a b : Key) → same_key a b ≡ true → a ≡ b
same_key-exact (WordKey x) (WordKey y) h = grind arith
same_key-exact (WordSymKey x) (WordSymKey y) h = grind arith
same_key-exact (FlagKey x) (FlagKey y) h = grind arith
same_key-exact (FlagSymKey x) (FlagSymKey y) h = grind arith
same_key-exact (MakeKey o x y) (MakeKey p z w) h = grind arith
same_key-exact (CompareKey o x y) (CompareKey p z w) h = grind arith
same_key-exact (NoKey x) (NoKey y) h = grind arith
same_key-exact (AllKey x y) (AllKey z w) h = grind arith
same_key-exact (PickKey f x y) (PickKey g z w) h = grind arith
same_key-exact a b h = absurd (false≢true h)

pub same_key-refl : (k : Key) → same_key k k ≡ true
same_key-refl (WordKey x) = grind arith
same_key-refl (WordSymKey x) = grind arith
same_key-refl (FlagKey x) = grind arith
same_key-refl (FlagSymKey x) = grind arith
same_key-refl (MakeKey o x y) = grind arith
same_key-refl (CompareKey o x y) = grind arith
same_key-refl (NoKey x) = grind arith
same_key-refl (AllKey x y) = grind arith
same_key-refl (PickKey f x y) = grind arith
