-- Each useless count of the triples looked at breaks the promise that it is named with. Assumes nothing.
use mathlib.Core.Bool.{Bool, false, true}
use mathlib.Core.List.{List, []}
use mathlib.Core.Path.{◌≡◌, ap, refl}
use Prim.Native.Nat.{ℕ, ◌+◌}
use native.Mathlib.Omega.{arith}
use borrow.Author.Tests.{eq-eqb}
use lib.Count.{ones}
use Rattle.sets.proofs.Sizes.{size-upto}
use Rattle.sets.specs.Sets.{digit, has, size}
use Rattle.sets.specs.Species.{members}
use Rattle.trees.specs.Build.{build_in}
use Rattle.trees.specs.Combinations.{C}
use Rattle.trees.specs.Links.{leads, part, parts}
use Rattle.trees.specs.Visits.{looked, triples, visited, visited_in}
use Rattle.tables.specs.Bytes.{bit_of, entered, over, place_of}
use Rattle.triples.specs.Find.{at, first_from, first_triple}
use Rattle.triples.specs.Index.{high_at, index, largest, low_at, mid_at}
use Rattle.bodies.specs.Draws.{tree_of}
use Rattle.outside.specs.Reaches.{reaches}
use Rattle.refusals.specs.Told.{Told}
use Rattle.building.specs.Builds.{looked_by, outcome_by}
use Rattle.admitting.specs.GoodSet.{first_outside}
use Rattle.promises.specs.Counting.{CountsAll, Looked}
use Rattle.promises.specs.Operations.{Builder, Given, builds, vetoes}
use Rattle.promises.specs.Runs.{fan_body}
use Rattle.promises.specs.UselessCounts.{CountingNothingBreaks, CountingRefusedBreaks, CountingTwiceBreaks, CountsNothing, CountsRefused, EachMiscounts, ForgettingBreaks, but_last, countless, doubling, forgetful, premature, telling_at}
use Rattle.promises.proofs.Built.{builds_tree, good_built}
use Rattle.promises.proofs.Counted.{looked_one}
use Rattle.promises.proofs.Useless.{fan_built, ten_bytes, unsaid, unsaid_good}
use Rattle.promises.proofs.UselessVetoes.{quarrel, quarrel_good, quarrel_ten}
use Rattle.promises.proofs.Vetoed.{good_vetoed}

-- ---- three species of which nothing is said: their one triple is looked at

unsaid_one : (v : Bool) → triples 3 (visited v (entered unsaid) 3 (has 7)) ≡ 1
unfolding visited visited_in build_in parts part leads members entered place_of bit_of index C digit
unsaid_one false = refl
unsaid_one true = refl

pub counting_nothing_breaks : CountingNothingBreaks
counting_nothing_breaks v f none a =
    let e = looked_one (f 3 7 unsaid ten_bytes).told 0 _ (none 3 7 unsaid ten_bytes unsaid_good) (a 3 7 unsaid ten_bytes unsaid_good) in
    omega (arith, e, unsaid_one v)

three_one : C (size 7) 3 ≡ 1
unfolding C
three_one = ap (λ (k : ℕ). C k 3) (size-upto 3)

pub counting_twice_breaks : CountingTwiceBreaks
counting_twice_breaks v f twice a =
    let e = looked_one (f 3 7 unsaid ten_bytes).told _ _ (twice 3 7 unsaid ten_bytes unsaid_good) (a 3 7 unsaid ten_bytes unsaid_good) in
    omega (arith, e, three_one)

-- ---- three species in a quarrel: their one triple is looked at, by either build, and the plain build stops there

quarrel_one : triples 3 (visited false (entered quarrel) 3 (has 7)) ≡ 1
unfolding visited visited_in build_in parts part leads members entered place_of bit_of index C digit
quarrel_one = refl

quarrel_none : triples 3 (but_last (visited false (entered quarrel) 3 (has 7))) ≡ 0
unfolding visited visited_in build_in parts part leads members entered place_of bit_of index C digit
quarrel_none = refl

-- with 10 the set at which it stopped is missed
stopped_missed : (f : Builder) → Looked (f 3 7 quarrel ten_bytes).told (triples 3 (but_last (visited false (entered quarrel) 3 (has 7)))) → CountsAll false f → ⊥
stopped_missed f x a =
    let e = looked_one (f 3 7 quarrel ten_bytes).told _ _ x (a 3 7 quarrel ten_bytes quarrel_good) in
    omega (arith, e, quarrel_one, quarrel_none)

pub forgetting_breaks : ForgettingBreaks
forgetting_breaks f forgets b a = stopped_missed f (forgets 3 7 quarrel ten_bytes quarrel_good (quarrel_ten f b)) a

pub counting_refused_breaks : CountingRefusedBreaks
counting_refused_breaks f k a = k.some (looked_one (f k.n k.s k.t k.o).told k.count 0 k.tells (a k.n k.s k.t k.o k.refused k.other))

-- ---- one of each kind

countless_nothing : (f : Builder) → CountsNothing (countless f)
countless_nothing f n s t o g = (but_last (f n s t o).told.values, refl)

-- where f answers k, it tells c
at_told : (k : ℕ) (c : ℕ → ℕ → List ℕ → ℕ) (f : Builder) (n s : ℕ) (t o : List ℕ) → (f n s t o).told.number ≡ k
    → ((telling_at k c f n s t o).told.number ≡ k) × Looked (telling_at k c f n s t o).told (c n s t)
at_told k c f n s t o z = rw (eq-eqb (f n s t o).told.number k z) (z, (but_last (f n s t o).told.values, refl))

unsaid_built : (builds 3 7 unsaid ten_bytes).told.number ≡ 0
unfolding outcome_by
unsaid_built = ap (λ (g : Given). g.told.number) (builds_tree 3 7 unsaid ten_bytes unsaid_good (tree_of fan_body) fan_built)

unsaid_vetoed : (vetoes 3 7 unsaid ten_bytes).told.number ≡ 0
unsaid_vetoed = ap (λ (x : Told). x.number) (good_vetoed 3 7 unsaid ten_bytes unsaid_good).told_is

-- what it tells at three species of which nothing is said is their triple twice
doubled : (v : Bool) (f : Builder) → (f 3 7 unsaid ten_bytes).told.number ≡ 0 → CountsAll v (doubling v f) → ⊥
unfolding looked_by looked
doubled v f z a =
    let e = looked_one (doubling v f 3 7 unsaid ten_bytes).told _ _ (at_told 0 (λ n s t. C (size s) 3 + looked_by v n s t) f 3 7 unsaid ten_bytes z).1 (a 3 7 unsaid ten_bytes unsaid_good) in
    omega (arith, e, three_one)

-- where no room is lent, 9 is answered,
short_room : ((builds 3 7 unsaid []).told.number ≡ 9) × ((vetoes 3 7 unsaid []).told.number ≡ 9)
unfolding C over first_outside first_triple first_from at reaches place_of index low_at high_at largest mid_at ones
short_room = (refl, refl)

-- and it tells the triple
premature_refused : (v : Bool) (f : Builder) → (f 3 7 unsaid []).told.number ≡ 9 → CountsRefused (premature v f)
unfolding looked_by looked
premature_refused v f z =
    let (k, x) = at_told 9 (λ n s t. looked_by v n s t) f 3 7 unsaid [] z in
    record {
      n = 3;
      s = 7;
      t = unsaid;
      o = [];
      refused = λ e. omega (arith, e, k);
      other = λ e. omega (arith, e, k);
      count = looked_by v 3 7 unsaid;
      some = λ e. omega (arith, e, unsaid_one v);
      tells = x;
    }

pub each_miscounts : EachMiscounts
each_miscounts = record {
  nothing = counting_nothing_breaks false (countless builds) (countless_nothing builds);
  nothing_veto = counting_nothing_breaks true (countless vetoes) (countless_nothing vetoes);
  twice = doubled false builds unsaid_built;
  twice_veto = doubled true vetoes unsaid_vetoed;
  stopped = stopped_missed forgetful (at_told 10 (λ n s t. triples n (but_last (visited false (entered t) n (has s)))) builds 3 7 quarrel ten_bytes (quarrel_ten builds good_built)).1;
  refused = counting_refused_breaks (premature false builds) (premature_refused false builds short_room.0);
  refused_veto = counting_refused_breaks (premature true vetoes) (premature_refused true vetoes short_room.1);
}
