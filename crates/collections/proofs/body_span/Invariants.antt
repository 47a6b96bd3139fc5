-- `at` is where the tree reached starts, and it lies inside the bytes.
use Rattle.std.proofs.Common.{◌≡◌, ◌+◌, ◌≤◌, length}
use Rattle.collections.specs.Layout.{length_at, start}
use Rattle.collections.proofs.body_span.Given as goal

abbrev pub invariant-loop : goal.invariant-loop
invariant-loop l = (l.at ≡ start l.b l.counter) × (l.at + 2 + length_at l.b l.at ≤ length l.b)
