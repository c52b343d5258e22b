-- One test of a suite as a JSON value: an object whose keys are among `in`, `out` and `ret`.
use Rattle.std.specs.Prelude.{◌≡◌, ◌&&◌, ◌||◌, ◌^◌, ℕ, ℤ, pos, negsuc, Bool, true, false, List, [], ◌∷◌, length, Option, Some, None, codes, nat_lt, if◌then◌else◌, option_map, option_and_then, IsSomeAnd, Result, Ok, Err}
use Rattle.std.specs.Str.{bytes_eq}
use Rattle.std.specs.Option.{option_map_or}
use Rattle.serde_json.specs.Data.{Data, Items, no_items, item, Members, no_members, member}
use Rattle.serde_json.specs.Find.{as_array, as_integer, as_number, as_object, get}
use Rattle.ax_prog.specs.declared.Test.{Test}
use Rattle.ax_suite.specs.declared.test.Kind.{Kind}
use Rattle.ax_suite.specs.declared.test.Kind.TheVariants.{BadShape, OutOfInt, TooMany}
use Rattle.ax_suite.specs.declared.test.TestFault.{TestFault}
use Rattle.ax_suite.specs.declared.test.TestFault.TheVariants.{Fault, Memory}

-- a whole number that the reader gives as `u64` or `i64`: `-0`, `1.0` and `1e2` are none
abbrev pub integer_of : Data → Option ℤ
integer_of d = option_and_then as_integer (as_number d)

abbrev pub and_then : Option ℤ → Option (List ℤ) → Option (List ℤ)
and_then None rest = None
and_then (Some z) rest = option_map (λ zs. z ∷ zs) rest

-- the whole numbers of an array, where it has nothing else
abbrev pub integers_of : Items → Option (List ℤ)
integers_of no_items = Some []
integers_of (item d ds) = and_then (integer_of d) (integers_of ds)

-- a list of whole numbers, empty where it is absent
abbrev pub list_or_none : Option Data → Option (List ℤ)
list_or_none None = Some []
list_or_none (Some d) = option_and_then integers_of (as_array d)

-- a whole number, 0 where it is absent
abbrev pub number_or_zero : Option Data → Option ℤ
number_or_zero None = Some (pos 0)
number_or_zero (Some d) = integer_of d

abbrev pub is_known_key : List ℕ → Bool
is_known_key k = bytes_eq k (codes "in") || (bytes_eq k (codes "out") || bytes_eq k (codes "ret"))

abbrev pub are_known_keys : Members → Bool
are_known_keys no_members = true
are_known_keys (member k d ms) = is_known_key k && are_known_keys ms

-- an object with no other keys
abbrev pub is_known_object : Data → Bool
is_known_object d = option_map_or are_known_keys (as_object d) false

abbrev pub test_with : Option (List ℤ) → Option (List ℤ) → Option ℤ → Option Test
test_with (Some inputs) (Some outputs) (Some ret) = Some (record { inputs = inputs; outputs = outputs; ret = ret })
test_with _ _ _ = None

-- what a value of a test's shape says, whatever its lists' lengths and its numbers
abbrev pub test_of : Data → Option Test
test_of d = if is_known_object d
    then test_with (list_or_none (get (codes "in") d)) (list_or_none (get (codes "out") d)) (number_or_zero (get (codes "ret") d))
    else None

-- a list has more than 4,096 numbers
abbrev pub is_long : Test → Bool
is_long t = nat_lt 4096 (length t.inputs) || nat_lt 4096 (length t.outputs)

-- from -2147483648 to 2147483647
abbrev pub fits : ℤ → Bool
fits (pos n) = nat_lt n (2 ^ 31)
fits (negsuc n) = nat_lt n (2 ^ 31)

abbrev pub int_from : ℤ → Option ℤ
int_from z = if fits z then Some z else None

abbrev pub all_fit : List ℤ → Bool
all_fit [] = true
all_fit (z ∷ zs) = fits z && all_fit zs

abbrev pub is_in_int : Test → Bool
is_in_int t = all_fit t.inputs && (all_fit t.outputs && fits t.ret)

-- the value is this test
pub record IsTest (d : Data) (t : Test) : Type 0 where
  pub shape : test_of d ≡ Some t
  pub short : is_long t ≡ false
  pub in_int : is_in_int t ≡ true

-- the first that is wrong with a value that is no test
abbrev pub HasFault : Data → Kind → Type 0
HasFault d BadShape = test_of d ≡ None
HasFault d TooMany = IsSomeAnd (test_of d) (λ t. is_long t ≡ true)
HasFault d OutOfInt = IsSomeAnd (test_of d) (λ t. (is_long t ≡ false) × (is_in_int t ≡ false))

-- the test that the value is, or the first that is wrong with it
abbrev pub ReadsTest : Data → Result Test TestFault → Type 0
ReadsTest d (Ok t) = IsTest d t
ReadsTest d (Err (Fault what)) = HasFault d what
ReadsTest d (Err Memory) = Unit {0}
