-- One turn of the loop over the texts, as the code takes it. Assumes nothing.
use mathlib.Core.Bool.{false, true}
use mathlib.Core.List.{List, [], ◌∷◌, ◌++◌, append_assoc, append-nil, map}
use mathlib.Core.Path.{◌∙◌, ◌≡◌, ap, ap₂, refl, sym}
use Prim.Native.Nat.{ℕ, ◌+◌, ◌-◌, ◌*◌, ◌<◌, ◌≤◌, max}
use native.Mathlib.Omega.{arith}
use borrow.Author.Tests.{eq-eqb, le-ltb, lt-ltb, ne_eqb}
use lib.ListN.{drop, length, length-append, length-drop, length-map, set, take}
use lib.Seq.{drop-drop, length-sets, length-take-le, sets, sets-eq, take_at, take-set-lt}
use Rattle.bodies.specs.Nodes.{longest, nodes}
use Rattle.refusals.specs.declared.Refusal.{Refusal}
use Rattle.answers.specs.declared.Written.{Written}
use Rattle.collections.specs.Layout.{longest_collection}
use Rattle.parsing.specs.Parses.{text_body}
use Rattle.highest.specs.Bound.{top_of, top_of_all}
use Rattle.papers.specs.Bundled.{bundled, chained, with_length}
use Rattle.papers.specs.OneText.{next_of, onward}
use Rattle.papers.specs.Reads.{all_read', bodies_of, found_in, most_bytes, most_papers, papers_answer, read_from, text_answer}
use Rattle.texts.specs.Texts.{all_blank, span, texts}
use Rattle.papers.proofs.Bodies.{text_read, text_short}
use Rattle.highest.proofs.Bounds.{all_more, top_most}
use Rattle.papers.proofs.Bundles.{chained_more}
use Rattle.texts.proofs.Texts.{span_some, span_within, texts-next, texts-none}
use Rattle.papers.specs.declared.Unread.TheVariants.{Bad, Empty, Long, Many}
use Rattle.papers.specs.declared.Unread.{Unread}
use Rattle.std.specs.Prelude.{Ok, Err, Result}
use Rattle.papers.specs.declared.Behind.{Behind}
use Rattle.papers.specs.declared.Found.{Found}

-- ---- the answer of one text, from what comes of it for the loop

at_read : (t : List ℕ) (p q m : ℕ) → next_of t p ≡ Ok (record { next = q; top = m }) → (x : Written) × (text_answer t ≡ Ok x) × (q ≡ p + length (with_length (text_body t))) × (m ≡ top_of (text_body t))
at_read t p q m e = by (text_answer t) refl e
  where
    by : (r : Result Written Refusal) → text_answer t ≡ r → onward (Ok (record { next = p + length (with_length (text_body t)); top = top_of (text_body t) })) r ≡ Ok (record { next = q; top = m })
        → (x : Written) × (text_answer t ≡ Ok x) × (q ≡ p + length (with_length (text_body t))) × (m ≡ top_of (text_body t))
    by (Ok x) a e =
        let z : ◌≡◌ {A = Behind} (record { next = p + length (with_length (text_body t)); top = top_of (text_body t) }) (record { next = q; top = m }) = cc in
        (x, a, ap (λ (b : Behind). b.next) (sym z), ap (λ (b : Behind). b.top) (sym z))
    by (Err y) a e = let z : ◌≡◌ {A = ℕ} 0 1 = cc in absurd (omega arith)

stop_refused : (t : List ℕ) (p : ℕ) (x : Refusal) → next_of t p ≡ Err x → text_answer t ≡ Err x
stop_refused t p x e = by (text_answer t) refl e
  where
    by : (r : Result Written Refusal) → text_answer t ≡ r → onward (Ok (record { next = p + length (with_length (text_body t)); top = top_of (text_body t) })) r ≡ Err x → text_answer t ≡ Err x
    by (Ok m) a e = let z : ◌≡◌ {A = ℕ} 0 1 = cc in absurd (omega arith)
    by (Err y) a e = let z : y ≡ x = cc in a ∙ ap Err z

-- ---- and what the text comes to

module _ (a : Result Found Unread) (k p : ℕ) (t : List ℕ) (ts : List (List ℕ)) where
  pub read_many : k ≡ most_papers → read_from a k p (t ∷ ts) ≡ (Err Many)
  unfolding read_from
  read_many h = rw (eq-eqb k most_papers h) refl

  module _ (h : k ≡ most_papers → ⊥) where
    pub read_next : (m : Written) → text_answer t ≡ Ok m → read_from a k p (t ∷ ts) ≡ read_from a (k + 1) (p + length t) ts
    unfolding read_from
    read_next m e = rw (ne_eqb k most_papers h, e) refl

    pub read_bad : (x : Refusal) → text_answer t ≡ Err x → read_from a k p (t ∷ ts) ≡ Err (Bad (record { paper = k + 1; start = p; end = p + length t; why = x }))
    unfolding read_from
    read_bad x e = rw (ne_eqb k most_papers h, e) refl

pub read_end : (a : Result Found Unread) (k p : ℕ) → read_from a k p [] ≡ a
unfolding read_from
read_end a k p = refl

-- ---- the store

map_more : {A B : Type 0} (f : A → B) (l : List A) (x : A) → map f (l ++ (x ∷ [])) ≡ map f l ++ (f x ∷ [])
map_more f [] x = refl
map_more f (y ∷ l) x = ap (λ (r : List _). f y ∷ r) (map_more f l x)

-- what was stored at place p stands behind the first p bytes
store_more : (o v : List ℕ) (p : ℕ) → p + length v ≤ length o → take (p + length v) (sets o p v) ≡ take p o ++ v
store_more o v p h =
    let n : length (take p o ++ v) ≡ p + length v = length-append (take p o) v ∙ ap (λ (k : ℕ). k + length v) (length-take-le p o (omega arith)) in
    ap (take (p + length v)) (sets-eq v o p h) ∙ take_at (take p o ++ v) (drop (p + length v) o) (p + length v) n

-- the three bytes of the header
header : (f j : List ℕ) (n k : ℕ) → length f ≡ 3 → set (set (set (f ++ j) 0 1) 1 n) 2 k ≡ 1 ∷ n ∷ k ∷ j
header [] j n k h = absurd (omega arith)
header (x ∷ []) j n k h = absurd (omega arith)
header (x ∷ y ∷ []) j n k h = absurd (omega arith)
header (x ∷ y ∷ z ∷ []) j n k h = refl
header (x ∷ y ∷ z ∷ u ∷ f) j n k h = absurd (omega arith)

-- ---- all texts were read

all_none : (bs : List (List ℕ)) → length bs ≡ 0 → all_read' bs ≡ (Err Empty)
all_none [] h = refl
all_none (b ∷ bs) h = absurd (omega arith)

all_done : (bs : List (List ℕ)) → (length bs ≡ 0 → ⊥) → all_read' bs ≡ Ok (found_in bs)
all_done [] h = absurd (h refl)
all_done (b ∷ bs) h = refl

found_is : (bs : List (List ℕ)) (n k p : ℕ) → n ≡ top_of_all bs → k ≡ length bs → p ≡ 3 + length (chained bs) → ◌≡◌ {A = Result Found Unread} (Ok (found_in bs)) (Ok (record { n = n; trees = k; end = p }))
found_is bs n k p a b c = let d : p ≡ length (bundled (top_of_all bs) bs) = omega arith in rw (a, b, d) refl

-- ---- k texts were read, up to place `at` of the input w, and their bodies fill the store o up to place p; n is their bound

pub record SoFar (w : List ℕ) (n k at p : ℕ) (o : List ℕ) : Type 0 where
  pub before : List (List ℕ)
  pub split : texts w ≡ before ++ texts (drop at w)
  pub count : length before ≡ k
  pub few : k ≤ most_papers
  pub within : at ≤ length w
  pub same : read_from (all_read' (bodies_of w)) 0 0 (texts w) ≡ read_from (all_read' (bodies_of w)) k at (texts (drop at w))
  pub top : n ≡ top_of_all (map text_body before)
  pub low : n ≤ 64
  -- three bytes are left for the header
  pub front : List ℕ
  pub three : length front ≡ 3
  pub held : take p o ≡ front ++ chained (map text_body before)
  pub most : p ≤ 3 + (2 + longest) * k
  pub long : length o ≡ longest_collection

pub turn_long : (w : List ℕ) → most_bytes < length w → (Err Long) ≡ papers_answer w
unfolding papers_answer
turn_long w h = rw (lt-ltb most_bytes (length w) h) refl

pub so_far_none : (w o : List ℕ) → length o ≡ longest_collection → SoFar w 0 0 0 3 o
unfolding top_of_all chained
so_far_none w o h = record {
  before = [];
  split = refl;
  count = refl;
  few = omega arith;
  within = omega arith;
  same = refl;
  top = refl;
  low = omega arith;
  front = take 3 o;
  three = length-take-le 3 o (omega arith);
  held = sym (append-nil (take 3 o));
  most = omega arith;
  long = h;
}

module _ (w : List ℕ) (n k at p : ℕ) (o : List ℕ) (s : SoFar w n k at p o) where
  -- the place where the next body goes
  place_most : (k ≡ most_papers → ⊥) → p + 2 + longest ≤ length o
  place_most h = let a = s.few in let b = s.most in let c = s.long in omega arith

  filled : p ≡ 3 + length (chained (map text_body s.before))
  filled =
      let a = s.few in
      let b = s.most in
      let c = s.long in
      let d = s.three in
      omega (arith, length-take-le p o (omega arith), ap length s.held, length-append s.front (chained (map text_body s.before)))

  counted : length (map text_body s.before) ≡ k
  counted = length-map s.before text_body ∙ s.count

  module _ (small : length w ≤ most_bytes) where
    answer_same : papers_answer w ≡ read_from (all_read' (bodies_of w)) k at (texts (drop at w))
    unfolding papers_answer
    answer_same = rw (le-ltb most_bytes (length w) small) s.same

    -- ---- blanks only are left

    module _ (last : all_blank (drop at w) ≡ true) where
      all_bodies : bodies_of w ≡ map text_body s.before
      all_bodies = ap (map text_body) (s.split ∙ ap (λ (ts : List (List ℕ)). s.before ++ ts) (texts-none (drop at w) last) ∙ append-nil s.before)

      answer_end : papers_answer w ≡ all_read' (map text_body s.before)
      answer_end = answer_same ∙ ap (read_from (all_read' (bodies_of w)) k at) (texts-none (drop at w) last) ∙ read_end (all_read' (bodies_of w)) k at ∙ ap all_read' all_bodies

      pub turn_none : k ≡ 0 → (Err Empty) ≡ papers_answer w
      turn_none z = sym (answer_end ∙ all_none (map text_body s.before) (counted ∙ z))

      pub turn_done : (k ≡ 0 → ⊥) → Ok (record { n = n; trees = k; end = p }) ≡ papers_answer w
      turn_done z = sym (answer_end ∙ all_done (map text_body s.before) (λ e. z (sym counted ∙ e)) ∙ found_is (map text_body s.before) n k p s.top (sym counted) filled)

      pub turn_held : take p (set (set (set o 0 1) 1 n) 2 k) ≡ bundled n (bodies_of w)
      turn_held =
          let f = filled in
          take-set-lt p (set (set o 0 1) 1 n) 2 k (omega arith)
          ∙ ap (λ (l : List ℕ). set l 2 k) (take-set-lt p (set o 0 1) 1 n (omega arith) ∙ ap (λ (l : List ℕ). set l 1 n) (take-set-lt p o 0 1 (omega arith)))
          ∙ ap (λ (l : List ℕ). set (set (set l 0 1) 1 n) 2 k) s.held
          ∙ header s.front (chained (map text_body s.before)) n k s.three
          ∙ ap (λ (m : ℕ). 1 ∷ n ∷ m ∷ chained (map text_body s.before)) (sym counted)
          ∙ ap (bundled n) (sym all_bodies)

    -- ---- a text is left

    module _ (more : all_blank (drop at w) ≡ false) where
      pub turn_many : k ≡ most_papers → (Err Many) ≡ papers_answer w
      turn_many z = sym (answer_same ∙ ap (read_from (all_read' (bodies_of w)) k at) (texts-next (drop at w) more) ∙ read_many (all_read' (bodies_of w)) k at _ _ z)

      module _ (z : k ≡ most_papers → ⊥) (e : ℕ) (h : e ≡ at + span (drop at w)) where
        abbrev text : List ℕ
        text = take (e - at) (drop at w)

        spanned : e - at ≡ span (drop at w)
        spanned = omega arith

        onto : texts (drop at w) ≡ text ∷ texts (drop e w)
        onto =
            texts-next (drop at w) more
            ∙ ap₂ (λ (t r : List ℕ). t ∷ texts r) (ap (λ (l : ℕ). take l (drop at w)) (sym spanned)) (drop-drop (span (drop at w)) at w ∙ ap (λ (l : ℕ). drop l w) (sym h))

        within : e ≤ length w
        within = omega (arith, s.within, span_within (drop at w), length-drop at w)

        behind : at + length text ≡ e
        behind = omega (arith, spanned, length-take-le (e - at) (drop at w) (omega (arith, within, length-drop at w)))

        pub turn_less : at < e
        turn_less = omega (arith, span_some (drop at w) more)

        pub turn_bad : (x : Refusal) → next_of text p ≡ Err x → Err (Bad (record { paper = k + 1; start = at; end = e; why = x })) ≡ papers_answer w
        turn_bad x q =
            sym (answer_same ∙ ap (read_from (all_read' (bodies_of w)) k at) onto ∙ read_bad (all_read' (bodies_of w)) k at text (texts (drop e w)) z x (stop_refused text p x q)
            ∙ ap (λ (f : ℕ). Err (Bad (record { paper = k + 1; start = at; end = f; why = x }))) behind)

        pub turn_next : (q m : ℕ) → next_of text p ≡ Ok (record { next = q; top = m }) → (n' : ℕ) → n' ≡ max n m → (o' : List ℕ) → o' ≡ sets o p (with_length (text_body text)) → SoFar w n' (k + 1) e q o'
        turn_next q m g n' l o' d =
            let b = text_body text in
            let r = at_read text p q m g in
            let short = text_short text in
            let some = place_most z in
            let low = top_most 64 (nodes b) (text_read text r.0 r.1).1.good in
            let bodies = map_more text_body s.before text in
            record {
              before = s.before ++ (text ∷ []);
              split = s.split ∙ ap (λ (ts : List (List ℕ)). s.before ++ ts) onto ∙ sym (append_assoc s.before (text ∷ []) (texts (drop e w)));
              count = length-append s.before (text ∷ []) ∙ ap (λ (c : ℕ). c + 1) s.count;
              few = omega (arith, s.few, z);
              within = within;
              same = s.same ∙ ap (read_from (all_read' (bodies_of w)) k at) onto ∙ read_next (all_read' (bodies_of w)) k at text (texts (drop e w)) z r.0 r.1 ∙ ap (λ (f : ℕ). read_from (all_read' (bodies_of w)) (k + 1) f (texts (drop e w))) behind;
              top = l ∙ ap₂ max s.top r.3 ∙ sym (ap top_of_all bodies ∙ all_more (map text_body s.before) b);
              low = omega (arith, s.low, r.3);
              front = s.front;
              three = s.three;
              held = ap₂ take r.2 d ∙ store_more o (with_length b) p (omega arith) ∙ ap (λ (u : List ℕ). u ++ with_length b) s.held ∙ append_assoc s.front (chained (map text_body s.before)) (with_length b) ∙ ap (λ (u : List ℕ). s.front ++ u) (sym (ap chained bodies ∙ chained_more (map text_body s.before) b));
              most = omega (arith, r.2, s.most);
              long = ap length d ∙ length-sets o p (with_length b) ∙ s.long;
            }
