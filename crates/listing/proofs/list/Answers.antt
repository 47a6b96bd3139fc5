-- `listing::list` meets its contract: the collection's refusals, then that of the table, and what is filled where nothing is refused.
use Rattle.std.proofs.Common.{◌≡◌, ◌∙◌, Bool, true, false, not, ℕ, List, [], ◌∷◌, Err, length, ap, sym, arith, rules}
use borrow.Author.Tests.{eqb-true}
use Rattle.tables.specs.Bytes.{wrong_length}
use Rattle.refusals.specs.declared.Refusal.TheVariants.{BadTable}
use Rattle.answers.proofs.Answered.{first_on, first_stop, is_done, is_refused, then_nothing}
use Rattle.answers.specs.Looks.{first_refusal, look_table, refuse_if}
use Rattle.collections.proofs.Whole.{read_done, read_pass, read_refused}
use Rattle.collections.specs.Collection.{Collection}
use Rattle.collections.specs.Layout.{species}
use Rattle.collections.specs.Reads.{read_looks}
use Rattle.collections.specs.declared.Counts.{Counts}
use Rattle.listing.specs.Lists.{list_looks}
use Rattle.listing.proofs.list.Goals as goal

-- of a good collection the table alone may be refused
seven : (b : List ℕ) (l n : ℕ) (f : Bool) → Collection b → n ≡ species b → wrong_length n l ≡ f → first_refusal (list_looks b l) ≡ refuse_if f BadTable
seven b l n f w e h =
    first_on (read_looks b) (look_table (species b) l ∷ []) ((read_pass b).1 w) ∙ then_nothing _
    ∙ ap (λ (g : Bool). refuse_if g BadTable) (ap (λ (k : ℕ). wrong_length k l) (sym e) ∙ h)

pub returns-in_err-c : goal.returns-in_err-c
returns-in_err-c c =
    let b = c.args.b.now in
    let e = first_stop (read_looks b) (look_table (species b) (length c.args.t.now) ∷ []) _ (read_refused b _ (sym c.read.ensures ∙ c.in_err-c.was)) in
    let q : c.from_residual.result ≡ Err c.in_err-c.field-0.0 = search rules in
    rw q (is_refused _ e)

pub fits-requires : goal.fits-requires
fits-requires c = let r = read_done c.args.b.now c.in_ok-c.c (sym c.read.ensures ∙ c.in_ok-c.was) in omega (arith, ap (λ (k : Counts). k.n) r.0, r.1.most)

pub returns-then-not-fits : goal.returns-then-not-fits
returns-then-not-fits c =
    let r = read_done c.args.b.now c.in_ok-c.c (sym c.read.ensures ∙ c.in_ok-c.was) in
    is_refused BadTable (seven c.args.b.now (length c.args.t.now) c.in_ok-c.c.n true r.1 (ap (λ (k : Counts). k.n) r.0) (ap not (sym c.fits.ensures ∙ c.if-not-fits.true)))

pub fill-requires : goal.fill-requires
fill-requires c =
    let r = read_done c.args.b.now c.in_ok-c.c (sym c.read.ensures ∙ c.in_ok-c.was) in
    (r.1, ap (λ (k : Counts). k.n) r.0, ap (λ (k : Counts). k.trees) r.0, eqb-true _ _ (sym c.fits.ensures ∙ c.if-not-fits.false))

pub returns : goal.returns
returns c =
    let r = read_done c.args.b.now c.in_ok-c.c (sym c.read.ensures ∙ c.in_ok-c.was) in
    is_done (seven c.args.b.now (length c.args.t.now) c.in_ok-c.c.n false r.1 (ap (λ (k : Counts). k.n) r.0) (ap not (sym c.fits.ensures ∙ c.if-not-fits.false))) r.0 c.fill.ensures
