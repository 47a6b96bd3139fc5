-- Writing a good body as Newick text: what is written is the text of its tree in house order, reads back as the house-order body, and is one text exactly for
-- the same groups. Assumes nothing.
use mathlib.Core.List.{List, [], ◌∷◌}
use mathlib.Core.Path.{◌∙◌, ◌≡◌, ap, refl, subst, sym}
use Prim.Native.Nat.{ℕ, ◌/◌, ◌≤◌}
use native.Mathlib.Omega.{arith}
use lib.ListN.{drop, length, take}
use Rattle.trees.specs.Trees.{house}
use Rattle.bodies.proofs.Houses.{ordered-length}
use Rattle.bodies.proofs.Written.{written_behind, written_body}
use Rattle.bodies.specs.Draws.{ordered, tree_of, written}
use Rattle.bodies.specs.Nodes.{nodes}
use Rattle.refusals.specs.Told.{number_of_nodes, text_length, told, value}
use Rattle.answers.specs.Inputs.{Body, Count}
use Rattle.rendering.proofs.Texts.{body_form, body_longest, body_within, same_text}
use Rattle.rendering.proofs.Vectors.{longest_reached}
use Rattle.rendering.specs.Texts.{newick_text}
use Rattle.promises.specs.Operations.{Given, gives, parses, renders}
use Rattle.promises.specs.Inputs.{Parsable, Renderable}
use Rattle.promises.specs.Newick.{LongestText, ReadsBack, RendersRight, SameText, WroteText}
use Rattle.promises.proofs.Accepted.{render_pass}
use Rattle.promises.proofs.Chosen.{value_is}
use Rattle.promises.proofs.Ordered.{ordered_body}
use Rattle.promises.proofs.Parsed.{parses_is}

module _ (n : ℕ) (b o : List ℕ) (g : Renderable n b o) where
  renders_is : renders n b o ≡ gives (told 0 (value text_length (length (newick_text b)) ∷ [])) (written o (newick_text b))
  renders_is = rw ((render_pass n b o).1 g) refl

  wrote : WroteText (newick_text b) (renders n b o)
  wrote = subst (λ (h : Given). WroteText (newick_text b) h) (sym renders_is) (record { told_is = refl; stands = written_body o (newick_text b) g.room })

  pub good_rendered : RendersRight b o (renders n b o)
  good_rendered = record {
    text = newick_text b;
    wrote = wrote;
    behind = ap (λ (h : Given). drop (length (newick_text b)) h.after) renders_is ∙ written_behind o (newick_text b) g.room;
    form = body_form g.count g.body;
    exact = refl;
  }

  -- and no other text is
  is_text : (w : List ℕ) → WroteText w (renders n b o) → w ≡ newick_text b
  is_text w h =
      sym h.stands ∙ ap (λ (k : ℕ). take k (renders n b o).after) (value_is (length w) (length (newick_text b)) (sym h.told_is ∙ wrote.told_is)) ∙ wrote.stands

-- the text of a good body is a good text
readable_text : (n : ℕ) (b p : List ℕ) → Count n → Body n b → length b ≤ length p → Parsable n (newick_text b) p
readable_text n b p c g l = record {
  count = c;
  tree = house (tree_of b);
  text = record { short = omega (arith, body_longest c g); form = body_form c g; within = body_within c g };
  rules = (ordered_body n b c g).good;
  room = omega (arith, l, ordered-length n c.most b g.good g.long);
}

pub reads_back : ReadsBack renders parses
unfolding readable_text
reads_back n b o g w h p l =
    let k : (nodes (ordered b)).count ≡ (nodes b).count = ap (λ (m : ℕ). m / 2) (ordered-length n g.count.most b g.body.good g.body.long) in
    ap (λ (u : List ℕ). parses n u p) (is_text n b o g w h) ∙ parses_is n (newick_text b) p g.count (readable_text n b p g.count g.body l)
    ∙ ap (λ (m : ℕ). gives (told 0 (value number_of_nodes m ∷ [])) (written p (ordered b))) k

pub texts_same : SameText renders
texts_same n b b' o o' g g' w w' h h' =
    let e = is_text n b o g w h in
    let e' = is_text n b' o' g' w' h' in
    let s = same_text g.count g.body g'.body in
    ((λ q. s.0 (sym e ∙ q ∙ e')), λ q. e ∙ s.1 q ∙ sym e')

pub longest_text_lem : LongestText renders
longest_text_lem = record {
  most = λ n b o g w h. omega (arith, ap length (is_text n b o g w h), body_longest g.count g.body);
  enough = λ n b o c g l. ap (λ (h : Given). h.told.number) (renders_is n b o (record { count = c; body = g; room = omega (arith, body_longest c g, l) }));
  reached =
      let r = longest_reached in (
        r.0,
        r.1,
        λ o l.
            let g : Renderable 64 r.0 o = record { count = record { some = omega arith; most = omega arith }; body = r.1; room = omega (arith, r.2, l) } in
            ap (λ (h : Given). h.told) (renders_is 64 r.0 o g) ∙ ap (λ (k : ℕ). told 0 (value text_length k ∷ [])) r.2,
      );
}
