-- `bodies::put_under` meets its contract. Assumes nothing.
use mathlib.Core.Path.{ap}
use Prim.Native.Nat.{ℕ, ◌*◌}
use native.Mathlib.Numerals.{add-one}
use native.Mathlib.Omega.{arith}
use borrow.Author.Rules.{rules}
use lib.ListN.{set, length-set}
use Rattle.bodies.specs.Nodes.{width}
use Rattle.bodies.proofs.put_under.Statement.{statement}
use Rattle.bodies.proofs.put_under.Tie as tie

slice-write-room-2 : tie.Need-bounds-room-at-2
slice-write-room-2 c = omega (arith, length-set c.args.room.now (width * c.args.at) c.args.parent, c.requires)

returns : tie.Need-returns
returns c = ap (λ (i : ℕ). set (set c.args.room.now (width * c.args.at) c.args.parent) i c.args.v.species) (add-one (width * c.args.at))

pub put_under_spec : {M : Type 1} → statement M
put_under_spec =
    tie.close
    (tie.spec (λ c. search rules) (λ c. search rules) (λ c. search rules) (λ c. search rules) slice-write-room-2 (λ c. search rules) returns)
