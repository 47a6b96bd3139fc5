-- `at` is where tree k starts, the answer is that of the trees from k on, and `set` has what occurs in the first k.
use Rattle.std.proofs.Common.{◌≡◌, ◌-◌, ◌≤◌, length}
use Rattle.sets.specs.Sets.{number}
use Rattle.answers.specs.Looks.{first_refusal}
use Rattle.collections.specs.Layout.{start}
use Rattle.collections.specs.Occurs.{occurs_up_to}
use Rattle.collections.specs.Reads.{looks_from}
use Rattle.collections.proofs.all_trees.Given as goal

abbrev pub invariant-loop-k : goal.invariant-loop-k
invariant-loop-k l = record {
  starts : l.at ≡ start l.b l.k;
  inside : l.at ≤ length l.b;
  rest : first_refusal (looks_from l.b 0 l.m) ≡ first_refusal (looks_from l.b l.k (l.m - l.k));
  species : l.set ≡ number 64 (occurs_up_to l.b l.k);
}
