-- What is still to be passed, from the spot and the nodes so far, comes to the whole. Assumes nothing.
use Rattle.std.proofs.Common.{◌≡◌, ◌+◌, drop}
use Rattle.newick.specs.Place.{Spot}
use Rattle.places.specs.NodePlaces.{fresh_at, node_place, node_place_from}
use Rattle.places.proofs.node_place.Given as goal

abbrev pub invariant-loop-i : goal.invariant-loop-i
invariant-loop-i l = (p : Spot) × (fresh_at p ≡ l.fresh) × (l.i + node_place_from p l.left (drop l.i l.text) ≡ node_place l.text l.m)
