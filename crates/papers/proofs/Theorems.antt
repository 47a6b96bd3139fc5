-- What each answer says of the texts. Each theorem is to be read alone. Assumes nothing.
use mathlib.Core.Bool.{Bool, cond, false, true}
use mathlib.Core.List.{List, [], ◌∷◌, flatten}
use mathlib.Core.Path.{◌∙◌, ◌≡◌, ap, ap₂, refl, subst, sym}
use Prim.Native.Nat.{ℕ, ◌-◌, ◌<◌, ◌≤◌}
use native.Mathlib.Omega.{arith}
use borrow.Author.Tests.{ltb-true}
use lib.Dec.{ltb}
use lib.ListN.{get_or-map, drop, get_or, length, length-map, take}
use Rattle.answers.specs.Inputs.{Body}
use Rattle.newick.specs.Scan.{scan_from}
use Rattle.parsing.specs.Parses.{text_body}
use Rattle.highest.specs.Bound.{top_of_all}
use Rattle.papers.specs.Bundled.{bundled}
use Rattle.papers.specs.Papers.{CollectionOf, EachRead, FirstBad, IsRead, Says, text_at}
use Rattle.papers.specs.Reads.{all_read', bodies_of, found_in, most_bytes, most_papers, papers_answer, read_from}
use Rattle.texts.specs.Texts.{texts}
use Rattle.papers.specs.declared.Bad as refused
use Rattle.papers.specs.declared.Found.{Found}
use Rattle.papers.proofs.Bodies.{text_read}
use Rattle.papers.proofs.Bundles.{bundled_body, bundled_most, bundled_whole}
use Rattle.papers.proofs.Outcomes.{Outcome, all, bad, many, outcome}
use Rattle.texts.proofs.Texts.{text_bytes, text_within}
use Rattle.papers.specs.declared.Unread.TheVariants.{Bad, Long}
use Rattle.papers.specs.declared.Unread.{Unread}
use Rattle.std.specs.Prelude.{Ok, Err, Result}

-- 1 to 16 bodies that are good with n = 64, bundled with one more than their highest species, are a good collection of these bodies; and that number is 1 to 64
pub bundled_good : (n : ℕ) (bs : List (List ℕ)) → 0 < length bs → length bs ≤ most_papers → ((k : ℕ) → k < length bs → Body 64 (get_or bs k [])) → n ≡ top_of_all bs → CollectionOf n bs (bundled n bs)
bundled_good n bs some few each top = record {
  good = bundled_whole n bs some few each top;
  species_is = refl;
  trees_is = refl;
  body_is = bundled_body n bs;
  most = bundled_most n bs some few each top;
}

-- the bodies are those of the texts
body_at : (w : List ℕ) (k : ℕ) → get_or (bodies_of w) k [] ≡ text_body (text_at w k)
unfolding scan_from
body_at w k = get_or-map text_body (texts w) k []

module _ (w : List ℕ) where
  count : length (bodies_of w) ≡ length (texts w)
  count = length-map (texts w) text_body

  found_all : (some : 0 < length (bodies_of w)) → length (texts w) ≤ most_papers → ((k : ℕ) → k < length (texts w) → IsRead (text_at w k)) → EachRead w (found_in (bodies_of w))
  found_all some few read =
      let c = count in
      let each : (k : ℕ) → k < length (bodies_of w) → Body 64 (get_or (bodies_of w) k []) = λ k l. let r = read k (omega arith) in subst (Body 64) (sym (body_at w k)) (text_read (text_at w k) r.0 r.1).1 in
      record {
        some = omega arith;
        few = few;
        read = read;
        count = c;
        body = body_at w;
        n_is = refl;
        trees_is = c;
        end_is = refl;
        collection = bundled_good (top_of_all (bodies_of w)) (bodies_of w) some (omega arith) each refl;
      }

  all_say : (bs : List (List ℕ)) → bodies_of w ≡ bs → length (texts w) ≤ most_papers → ((k : ℕ) → k < length (texts w) → IsRead (text_at w k)) → Says w (all_read' bs)
  all_say [] e few read = omega (arith, count, ap length e)
  all_say (b ∷ bs) e few read = subst (λ (cs : List (List ℕ)). EachRead w (found_in cs)) e (found_all (omega (arith, ap length e)) few read)

  say : (r : Result Found Unread) → Outcome (all_read' (bodies_of w)) 0 0 (texts w) r → Says w r
  say r (all e l h) = subst (Says w) (sym e) (all_say (bodies_of w) refl (omega arith) h)
  say r (many e l h) = subst (Says w) (sym e) (omega arith, λ k i. h k (omega arith))
  say r (bad x j e a l m i g u v) =
      let d : x.end - x.start ≡ length (text_at w j) = omega arith in
      let q : x.start ≡ length (flatten (take j (texts w))) = omega arith in
      subst (Says w) (sym e) (record {
        number = j;
        paper_is = omega arith;
        there = l;
        few = omega arith;
        earlier = i;
        refused = g;
        start_is = q;
        end_is = v;
        within = omega (arith, text_within w j l);
        bytes = ap₂ (λ (y z : ℕ). take y (drop z w)) d q ∙ text_bytes w j l;
      })

-- every answer says what is so
pub papers_say : (w : List ℕ) → Says w (papers_answer w)
unfolding papers_answer
papers_say w = by (ltb most_bytes (length w)) refl
  where
    by : (o : Bool) → ltb most_bytes (length w) ≡ o → Says w (cond o (Err Long) (read_from (all_read' (bodies_of w)) 0 0 (texts w)))
    by true e = ltb-true most_bytes (length w) e
    by false e = say w _ (outcome (all_read' (bodies_of w)) 0 0 (texts w) (omega arith))

-- papers that are read: each text of the input, and what is found is the collection of their bodies
pub papers_good : (w : List ℕ) (f : Found) → papers_answer w ≡ Ok f → EachRead w f
papers_good w f e = subst (Says w) e (papers_say w)

-- a paper that is refused: it is the first such text
pub papers-bad : (w : List ℕ) (x : refused.Bad) → papers_answer w ≡ Err (Bad x) → FirstBad w x
papers-bad w x e = subst (Says w) e (papers_say w)
