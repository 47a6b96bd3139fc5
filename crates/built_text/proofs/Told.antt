-- What is told of a build, answer by answer. Assumes nothing.
use mathlib.Core.List.{List, ◌++◌}
use mathlib.Core.Path.{◌∙◌, ◌≡◌, ap, ap₂, subst, sym}
use Prim.Native.Nat.{ℕ, ◌≤◌}
use lib.ListN.{replicate, take}
use Rattle.bodies.specs.Nodes.{body_length, longest}
use Rattle.answers.specs.Inputs.{Body, Count}
use Rattle.refusals.specs.Refusals.{refusal_told}
use Rattle.refusals.specs.declared.Refusal.{Refusal}
use Rattle.refusals.specs.declared.Refusal.TheVariants.{NoTree}
use Rattle.answers.specs.declared.Written.{Written}
use Rattle.building.proofs.Fits.{done_fits, veto-fits}
use Rattle.building.proofs.Left.{BuiltBody, build-leaves, veto-leaves}
use Rattle.building.specs.Builds.{build_after, build_answer}
use Rattle.building.specs.Vetoes.{veto_after, veto_answer}
use Rattle.building.specs.declared.Counted.{Counted}
use Rattle.collections.specs.Layout.{trees}
use Rattle.species_text.specs.Lines.{species_line}
use Rattle.papers_text.specs.Lines.{sides_text}
use Rattle.built_text.specs.Built.{built_text, open_text, plain_text, quarrel_text, tree_text, veto_text}
use Rattle.built_text.specs.Words.{built_words, open_words, quarrel_words}
use Rattle.std.specs.Prelude.{Ok, Err}

-- ---- what the veto build gave back, r, and the room o that it left

module _ (n s : ℕ) (t o : List ℕ) (r : Counted) (p : r ≡ veto_answer n s t longest) (q : o ≡ veto_after n s t (replicate longest 0)) where
  open_is : open_text n t o r.answer ≡ veto_text n s t
  open_is = ap₂ (λ (l : List ℕ) (x : Counted). open_text n t l x.answer) q p

  module _ (w : Written) (e : r.answer ≡ Ok w) where
    pub open_fits : body_length w.nodes ≤ longest
    open_fits = veto-fits n s t longest w (sym (ap (λ (x : Counted). x.answer) p) ∙ e)

    module _ (k : ℕ) (h : k ≡ body_length w.nodes) where
      pub open_body : Count n × Body n (take k o)
      open_body =
          let g = subst (λ (l : List ℕ). BuiltBody n t (take (body_length w.nodes) l)) (sym q) (veto-leaves n s t (replicate longest 0) w (sym (ap (λ (x : Counted). x.answer) p) ∙ e)) in
          (g.count, subst (λ (j : ℕ). Body n (take j o)) (sym h) g.body)

      pub open_done : tree_text open_words n t (take k o) ≡ veto_text n s t
      open_done = ap (λ (j : ℕ). tree_text open_words n t (take j o)) h ∙ ap (open_text n t o) (sym e) ∙ open_is

-- ---- the refusal of the plain build, of the papers c

module _ (c : List ℕ) (n s : ℕ) (t : List ℕ) where
  pub quarrel_told : (x : Refusal) (u k : ℕ) → x ≡ NoTree u → k ≡ trees c → species_line quarrel_words u ++ (sides_text u c k ++ veto_text n s t) ≡ quarrel_text c n s t (refusal_told x)
  quarrel_told x u k e h = ap (λ (j : ℕ). species_line quarrel_words u ++ (sides_text u c j ++ veto_text n s t)) h ∙ ap (λ (y : Refusal). quarrel_text c n s t (refusal_told y)) (sym e)

-- ---- what the plain build gave back, r, and the room o that it left, of the papers c

module _ (c : List ℕ) (n s : ℕ) (t o : List ℕ) (r : Counted) (p : r ≡ build_answer n s t longest) (q : o ≡ build_after n s t (replicate longest 0)) where
  plain_is : plain_text c n s t o r.answer ≡ built_text c n s t
  plain_is = ap₂ (λ (l : List ℕ) (x : Counted). plain_text c n s t l x.answer) q p

  pub plain_refused : (x : Refusal) → r.answer ≡ Err x → quarrel_text c n s t (refusal_told x) ≡ built_text c n s t
  plain_refused x e = ap (plain_text c n s t o) (sym e) ∙ plain_is

  module _ (w : Written) (e : r.answer ≡ Ok w) where
    pub plain_fits : body_length w.nodes ≤ longest
    plain_fits = done_fits n s t longest w (sym (ap (λ (x : Counted). x.answer) p) ∙ e)

    module _ (k : ℕ) (h : k ≡ body_length w.nodes) where
      pub plain_body : Count n × Body n (take k o)
      plain_body =
          let g = subst (λ (l : List ℕ). BuiltBody n t (take (body_length w.nodes) l)) (sym q) (build-leaves n s t (replicate longest 0) w (sym (ap (λ (x : Counted). x.answer) p) ∙ e)) in
          (g.count, subst (λ (j : ℕ). Body n (take j o)) (sym h) g.body)

      pub plain_done : tree_text built_words n t (take k o) ≡ built_text c n s t
      plain_done = ap (λ (j : ℕ). tree_text built_words n t (take j o)) h ∙ ap (plain_text c n s t o) (sym e) ∙ plain_is
