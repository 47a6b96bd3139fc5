-- What is entered of three species against what a tree says of them.
use Rattle.std.specs.Prelude.{Bool, false, ◌||◌}
use Rattle.groups.specs.declared.Says.{Says}
use Rattle.groups.specs.declared.Says.TheVariants.{AB, AC, BC, Absent, Fan}

-- the tree says s, and p, q and r tell whether ab|c, ac|b and bc|a are entered: is there one that the tree does not say, where it says one?
abbrev pub contrary : Says → Bool → Bool → Bool → Bool
contrary AB p q r = q || r
contrary AC p q r = p || r
contrary BC p q r = p || q
contrary Fan p q r = false
contrary Absent p q r = false
