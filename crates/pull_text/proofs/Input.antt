-- What is told of the input, by what reading its texts came to. Assumes nothing.
use mathlib.Core.Bool.{Bool, cond, false, true}
use mathlib.Core.List.{List, []}
use mathlib.Core.Path.{◌∙◌, ◌≡◌, ap, refl, subst, sym}
use Prim.Native.Nat.{ℕ, ◌-◌, ◌≤◌}
use native.Mathlib.Omega.{arith}
use borrow.Author.Tests.{ltb-false}
use lib.Dec.{ltb}
use lib.ListN.{length, take}
use Rattle.bodies.specs.Nodes.{longest}
use Rattle.collections.specs.Layout.{longest_collection}
use Rattle.papers.proofs.Theorems.{papers-bad, papers_good}
use Rattle.papers.specs.Bundled.{bundled}
use Rattle.papers.specs.Papers.{text_at}
use Rattle.papers.specs.Reads.{Stored, all_read', bodies_of, most_bytes, papers_answer, read_from, text_answer}
use Rattle.texts.specs.Texts.{texts}
use Rattle.papers.specs.declared.Bad as refused
use Rattle.papers.specs.declared.Found.{Found}
use Rattle.places.proofs.Answers.{answer_inside}
use Rattle.places.specs.Causes.{cause_of}
use Rattle.places.specs.NodePlaces.{place_in}
use Rattle.refused_text.specs.Refused.{text_in}
use Rattle.writing.proofs.Writing.{whole_on}
use Rattle.writing.specs.Pages.{Page, wrote_on}
use Rattle.pull_text.specs.Pull.{collection_text, input_text, pull_text}
use Rattle.pull_text.proofs.Lengths.{pull_few}
use Rattle.papers.specs.declared.Unread.TheVariants.{Bad, Long}
use Rattle.papers.specs.declared.Unread.{Unread}
use Rattle.std.specs.Prelude.{Ok, Err, Result}

module _ (w : List ℕ) where
  -- an input that is not refused for its length has at most 65,536 bytes
  not_long : (x : refused.Bad) → papers_answer w ≡ Err (Bad x) → length w ≤ most_bytes
  unfolding papers_answer
  not_long x e = by (ltb most_bytes (length w)) refl e
    where
      by : (o : Bool) → ltb most_bytes (length w) ≡ o → cond o (Err Long) (read_from (all_read' (bodies_of w)) 0 0 (texts w)) ≡ Err (Bad x) → length w ≤ most_bytes
      by true h k = let z : ◌≡◌ {A = ℕ} 0 1 = cc in absurd (omega arith)
      by false h k = ltb-false most_bytes (length w) h

  module _ (a : Result Found Unread) (p : a ≡ papers_answer w) where
    input_is : input_text w a ≡ pull_text w
    unfolding pull_text
    input_is = ap (input_text w) p

    pub input_told : (b : Result Found Unread) → a ≡ b → input_text w b ≡ pull_text w
    input_told b e = ap (input_text w) (sym e) ∙ input_is

    -- the papers are good: the store o holds the collection
    module _ (f : Found) (e : a ≡ Ok f) (o : List ℕ) (h : Stored w a o) where
      stored : take f.end o ≡ bundled f.n (bodies_of w)
      stored = subst (λ (b : Result Found Unread). Stored w b o) e h

      pub stored_fits : f.end ≤ longest_collection
      stored_fits = let g = papers_good w f (sym p ∙ e) in omega (arith, g.end_is, g.collection.most)

      pub stored_told : collection_text (take f.end o) ≡ pull_text w
      stored_told = ap collection_text stored ∙ input_told (Ok f) e

    -- a paper is refused: what `put_refused` asks for
    module _ (x : refused.Bad) (e : a ≡ Err (Bad x)) where
      pub bad_place : ((x.start ≤ x.end) × (x.end ≤ length w) × (x.end ≤ 65536)) × (place_in (text_in w x.start x.end) (cause_of x.why) ≤ x.end - x.start)
      unfolding text_answer
      bad_place =
          let b = papers-bad w x (sym p ∙ e) in
          let t = text_at w b.number in
          let i = answer_inside t longest x.why b.refused in
          let l = not_long x (sym p ∙ e) in (
            (omega (arith, b.end_is), b.within, omega (arith, b.within, l)),
            subst (λ (u : List ℕ). place_in u (cause_of x.why) ≤ x.end - x.start) (sym b.bytes) (omega (arith, i, b.end_is)),
          )

  -- there is room for the whole text
  pub pull_written : (p o o' : Page) (v : List ℕ) → 40960 ≤ p.room → o ≡ record p { text = [] } → v ≡ pull_text w → o' ≡ wrote_on o v → o' ≡ record p { text = pull_text w }
  pull_written p o o' v r n e x =
      x ∙ ap (λ (z : Page). wrote_on z v) n ∙ whole_on p v (omega (arith, r, ap length e, pull_few w)) ∙ ap (λ (t : List ℕ). record p { text = t }) e
