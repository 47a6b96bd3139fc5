-- One record after the other, by the laws of `proofs/Filling.antt` and `proofs/Gathering.antt`. Assumes nothing.
use Rattle.std.proofs.Common.{List, ◌+◌, ◌<◌, ◌≤◌, ◌≡◌, ◌∙◌, ap, arith, drop, false, length, map, subst, sym, ℕ}
use lib.ListN.{length-map}
use Rattle.sets.specs.Sets.{number, union}
use Rattle.tables.specs.Bytes.{enter}
use Rattle.records.proofs.Filling.{fill_end, fill-next}
use Rattle.records.proofs.Gathering.{set_end, set_next}
use Rattle.records.proofs.Records.{bad_at-none, first_bad-none, record_at}
use Rattle.records.specs.Records.{bad_record, fill, in_record, left, outer, right}
use Rattle.records.proofs.fill.Goals as goal

pub put_record-set-requires : goal.put_record-set-requires
put_record-set-requires g c =
    let s = g.R.Record.spelled in
    let xs = c.args.records.now in
    let i = c.loop-r.r-index in
    let e = record_at s xs i c.r-item.result c.species.result c.loop-r-test.true c.r-item.is c.species.ensures in
    let h = first_bad-none c.args.n (map s xs) (bad_at-none c.args.n (map s xs) c.requires.2) i (omega (arith, length-map xs s, c.loop-r-test.true)) in
    (c.requires.0, c.loop-r.auto.table ∙ c.requires.1, subst (λ (u : List ℕ). bad_record c.args.n u ≡ false) (sym e) h)

pub loop-r-preserved : goal.loop-r-preserved
loop-r-preserved g c =
    let s = g.R.Record.spelled in
    let xs = c.args.records.now in
    let rs = map s xs in
    let l = c.loop-r in
    let p = c.put_record-set.ensures in
    let k : l.r-index < length rs = omega (arith, length-map xs s, c.loop-r-test.true) in
    let e = record_at s xs l.r-index c.r-item.result c.species.result c.loop-r-test.true c.r-item.is c.species.ensures in (
      ap (fill (drop (l.r-index + 1) rs)) (p.1 ∙ ap (λ (u : List ℕ). enter l.table (left u) (right u) (outer u)) e) ∙ sym (fill-next rs l.r-index l.table k) ∙ l.invariant.0,
      set_next rs l.r-index l.set c.put_record-set.result k (p.0 ∙ ap (λ (u : List ℕ). union l.set (number 64 (in_record u))) e) ∙ l.invariant.1,
    )

pub returns : goal.returns
returns g c =
    let s = g.R.Record.spelled in
    let xs = c.args.records.now in
    let l = c.loop-r in
    let k : length (map s xs) ≤ l.r-index = omega (arith, length-map xs s, c.loop-r-test.false) in
    (sym (set_end (map s xs) l.r-index l.set k) ∙ l.invariant.1, sym (fill_end (map s xs) l.r-index l.table k) ∙ l.invariant.0)
