-- A call of the test tells whether its triple is unforced, and what is kept of the cores stays right. Assumes nothing.
use Rattle.std.proofs.Common.{◌≡◌, length, refl, rules, arith}
use Rattle.trees.specs.Check.{R, unsure}
use Rattle.groups.specs.Groups.{cells}
use Rattle.pi.proofs.Cores.{memo_none}
use Rattle.pi.specs.Cores.{Memo}
use Rattle.triples.proofs.Tries.{keeps, tries_finds}
use Rattle.pi.specs.contracts.fn.first_unforced.unforced as closure
use Rattle.pi.proofs.first_unforced.Goals as goal

pub first-requires : goal.first-requires
first-requires c f x y z p q l s =
    let o = keeps c.args.n _ (λ h. length (closure.captures h).cores ≡ cells) _ f x y z p q l s refl (λ g h i j k r a b d e m. m.met.1.0) in
    (p, q, omega arith, o)

pub returns : goal.returns
returns c E T u =
    let v = c.args in
    tries_finds v.n _
    (λ f. let l = closure.captures f in (l.d ≡ v.d) × (l.masks ≡ v.masks) × Memo (R E T) v.d.meets.now l.cores)
    (unsure E v.n T) _ _ c.first.ensures (refl, refl, memo_none (R E T) v.d.meets.now) (λ f g x y z r p q l i k. search (rules, k.met.1.1 E c.args.n T))
