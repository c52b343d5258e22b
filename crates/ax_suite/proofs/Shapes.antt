-- The keys of an object, and what a value has of a test's shape.
use Rattle.std.proofs.Common.{◌≡◌, ◌&&◌, List, [], ◌∷◌, String, Global, string_bytes, refl, ap}
use Rattle.std.specs.List.{list_all}
use Rattle.std.specs.Map.{keys_of}
use Rattle.serde_json.specs.View.{members_view}
use Rattle.serde_json.specs.declared.value.Value.{Value}
use Rattle.ax_suite.specs.Tests.{is_known_key, are_known_keys}

pub keys-known : (es : List (String Global × Value)) → list_all (λ k. is_known_key (string_bytes k)) (keys_of es) ≡ are_known_keys (members_view es)
keys-known [] = refl
keys-known (e ∷ es) = ap (λ b. is_known_key (string_bytes e.0) && b) (keys-known es)
