-- What `pull` prints of an input w. Each theorem is to be read alone. Assumes nothing.
use mathlib.Core.List.{List}
use mathlib.Core.Logic.{◌⊎◌, inl, inr}
use mathlib.Core.Path.{◌∙◌, ◌≡◌, ap, refl, subst, sym}
use Prim.Native.Nat.{ℕ, zero, suc, ◌<◌}
use native.Mathlib.Omega.{arith}
use lib.ListN.{length}
use Rattle.answers.specs.Looks.{answered}
use Rattle.answers.specs.Looks.{Look}
use Rattle.collections.proofs.Whole.{read_pass}
use Rattle.collections.specs.Collection.{Collection}
use Rattle.collections.specs.Layout.{species, trees}
use Rattle.collections.specs.Occurs.{occurring}
use Rattle.collections.specs.Reads.{counts_of, read_answer}
use Rattle.listing.specs.Lists.{list_of}
use Rattle.papers.proofs.Theorems.{papers_good}
use Rattle.papers.specs.Reads.{papers_answer}
use Rattle.texts.specs.Texts.{texts}
use Rattle.papers.specs.declared.Found.{Found}
use Rattle.papers_text.specs.Lines.{papers_text}
use Rattle.built_text.proofs.Sent.{built_sent, sent_behind}
use Rattle.built_text.specs.Built.{built_text}
use Rattle.built_text.specs.Sent.{Sent}
use Rattle.pull_text.specs.Outcomes.{GoodPapers, Refused, collection_of}
use Rattle.pull_text.specs.Pull.{good_text, input_text, pull_text, story_text}
use Rattle.pull_text.proofs.Input.{input_told}
use Rattle.pull_text.proofs.Occurring.{looks_pass}
use Rattle.pull_text.proofs.Refused.{long_refused, many_refused, none_refused, refused_one}
use Rattle.pull_text.proofs.Told.{list_zeros}
use Rattle.papers.specs.declared.Unread.TheVariants.{Bad, Empty, Long, Many}
use Rattle.papers.specs.declared.Unread.{Unread}
use Rattle.std.specs.Prelude.{Ok, Err, Result}

-- ---- papers that are read

-- where the texts of w are read, their collection is good: it has the body of each text, in their order; and what is printed are its lines, over the set that occurs
pub good_papers : (w : List ℕ) (f : Found) → papers_answer w ≡ Ok f → GoodPapers w f
unfolding pull_text
good_papers w f e =
    let p = papers_good w f e in
    let c = collection_of w f in
    let read : read_answer c ≡ Ok (counts_of c) = ap (λ (k : Look). answered Ok Err k (counts_of c)) ((read_pass c).1 p.collection.good) in
    record {
      read = read;
      species_is = refl;
      trees_is = p.collection.trees_is ∙ p.count;
      body_is = λ k l. p.collection.body_is k (omega (arith, l, p.count)) ∙ p.body k;
      text = ap (input_text w) e ∙ ap (good_text c) read;
    }

-- what is printed of a good collection with a tree, over the set that occurs
story_sent : (c : List ℕ) → Collection c → (m : ℕ) → trees c ≡ suc m → (n : ℕ) → n ≡ species c → Sent n (list_of c) (story_text c n (occurring c))
story_sent c g m some n e =
    subst (λ (k : ℕ). Sent k (list_of c) (story_text c k (occurring c))) (sym e)
    (sent_behind (species c) (list_of c) (papers_text c (trees c)) _
    (subst (λ (t : List ℕ). Sent (species c) (list_of c) (built_text c (species c) (occurring c) t)) (sym (list_zeros c g (species c) refl))
    (built_sent c (species c) (occurring c) (list_of c) (looks_pass c g m some))))

-- the tree that they let be sent passes the check, with the table of their collection: whether they quarrel or not
pub may_be_sent : (w : List ℕ) (f : Found) → papers_answer w ≡ Ok f → Sent f.n (list_of (collection_of w f)) (pull_text w)
may_be_sent w f e =
    let p = papers_good w f e in
    subst (Sent f.n (list_of (collection_of w f))) (sym (good_papers w f e).text) (by (length (texts w)) refl p.some)
  where
    by : (k : ℕ) → length (texts w) ≡ k → 0 < k → Sent f.n (list_of (collection_of w f)) (story_text (collection_of w f) f.n (occurring (collection_of w f)))
    by zero h l = absurd (omega arith)
    by (suc m) h l = story_sent (collection_of w f) (papers_good w f e).collection.good m ((good_papers w f e).trees_is ∙ h) f.n refl

-- ---- any input

-- the papers are read, and a tree may be sent; or one line is printed, which says why the input is refused
pub refused_or_sent : (w : List ℕ) → ((f : Found) × (papers_answer w ≡ Ok f) × Sent f.n (list_of (collection_of w f)) (pull_text w)) ⊎ Refused (pull_text w)
refused_or_sent w = by (papers_answer w) refl
  where
    by : (a : Result Found Unread) → papers_answer w ≡ a → ((f : Found) × (papers_answer w ≡ Ok f) × Sent f.n (list_of (collection_of w f)) (pull_text w)) ⊎ Refused (pull_text w)
    by (Ok f) e = inl (f, e, may_be_sent w f e)
    by (Err Long) e = inr (subst Refused (input_told w _ refl _ e) long_refused)
    by (Err Empty) e = inr (subst Refused (input_told w _ refl _ e) none_refused)
    by (Err Many) e = inr (subst Refused (input_told w _ refl _ e) many_refused)
    by (Err (Bad x)) e = inr (subst Refused (input_told w _ refl _ e) (refused_one w x.paper x.start x.end x.why))
