-- Each definition at each kind of node, for the tactics.
use Rattle.ax_names_types.proofs.Layers.{value_of_place-Ptr, value_of_place-Array}

pub ruleset places = (value_of_place-Ptr, value_of_place-Array)
