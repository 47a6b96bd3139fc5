-- From a good body to its draft, and from the draft to what is lent. Assumes nothing.
use mathlib.Core.Bool.{false}
use mathlib.Core.List.{List}
use mathlib.Core.Path.{◌∙◌, ◌≡◌, ap, ap₂, subst}
use Prim.Native.Nat.{◌≤◌, ℕ}
use native.Mathlib.Omega.{arith}
use lib.ListN.{length, take}
use lib.Seq.{length-sets}
use Rattle.trees.specs.Loosen.{Loosened, loosen_in, loosened}
use Rattle.tables.specs.Bytes.{entered}
use Rattle.bodies.proofs.Good.{length_good}
use Rattle.bodies.specs.Draws.{ordered, written}
use Rattle.bodies.specs.Nodes.{Good, bad_length, body_length, longest, nodes}
use Rattle.dropping.proofs.Held.{arranged_draft, arranged_tree}
use Rattle.dropping.specs.Drafts.{HouseDraft, draft_tree}
use Rattle.easing.specs.Turns.{Turned}
use Rattle.easing.specs.Eases.{eased, laid_out, lent, tally}
use Rattle.easing.specs.declared.Tally.{Tally}

-- the draft has the body's tree in house order, which is loosened
pub record Drafted (n : ℕ) (b : List ℕ) (k : ℕ) (draft : List ℕ) : Type 0 where
  pub size : length draft ≡ longest
  pub house : HouseDraft n k draft
  pub comes : (t : List ℕ) → loosen_in (entered t) n n (draft_tree k draft) ≡ eased n t b

pub drafted : (n : ℕ) → n ≤ 64 → (b : List ℕ) → Good n (nodes b) → bad_length (length b) ≡ false → (o : List ℕ) → length o ≡ longest
    → (k : ℕ) → k ≡ (nodes b).count → (draft : List ℕ) → draft ≡ written o (ordered b) → Drafted n b k draft
unfolding eased loosened
drafted n small b g l o s k ek draft ed =
    let c = length_good b l in
    let fits : body_length (nodes b).count ≤ length o = omega (arith, c.1) in
    rw (ek, ed) (record {
      size = length-sets o 0 (ordered b) ∙ s;
      house = arranged_draft n small b g c.0 o fits;
      comes = λ t. ap (loosen_in (entered t) n n) (arranged_tree n small b g c.0 o fits);
    })

-- what is left in the draft, laid over the room
pub all_laid : (L M : Loosened) → L ≡ M → (w : Tally) (room₀ list₀ draft room list : List ℕ) → Turned L list₀ w draft list
    → room ≡ written room₀ (take (body_length w.nodes) draft) → (w ≡ tally M) × (lent room list ≡ laid_out M (lent room₀ list₀))
all_laid L M e w room₀ list₀ draft room list t r = subst (λ (X : Loosened). (w ≡ tally X) × (lent room list ≡ laid_out X (lent room₀ list₀))) e
    (t.counts, ap₂ lent (r ∙ ap (written room₀) t.body) t.stored)
