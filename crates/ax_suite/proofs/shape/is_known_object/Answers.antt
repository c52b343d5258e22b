use Rattle.std.proofs.Common.{◌∙◌, ap, false}
use Rattle.std.specs.Option.{option_map_or}
use Rattle.ax_suite.specs.Tests.{are_known_keys}
use Rattle.ax_suite.proofs.Shapes.{keys-known}
use Rattle.ax_suite.proofs.shape.is_known_object.Goals as goal

pub returns-in-Some : goal.returns-in-Some
returns-in-Some c =
    c.has_known_keys.ensures ∙ keys-known c.in-Some.map.now.entries ∙ ap (λ o. option_map_or are_known_keys o false) c.in-Some.ensures
