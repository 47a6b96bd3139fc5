-- `laying::lay` meets its contract: behind all values stand the two numbers of the rule that is broken.
use Rattle.std.proofs.Common.{◌∙◌, length, ap, refl, sym, arith}
use lib.Seq.{take_all}
use Rattle.laying.specs.Codes.{laid}
use Rattle.laying.proofs.Laying.{code_parts, laid_broken}
use Rattle.laying.proofs.lay.Goals as goal

pub returns-in-Some : goal.returns-in-Some
returns-in-Some c =
    let v = c.as_slice-held.ensures.value in
    let all = c.loop-i.invariant ∙ ap (λ l. laid l c.args.values.now) (take_all c.loop-i.i c.as_slice-held.result.now (omega arith) ∙ v) in
    record {
      is = refl;
      holds = laid_broken c.args.s.values c.args.values.now (length c.as_slice-held.result.now) _ _ c.in-Some.is (ap length (sym v)) all c.put-in-Some.ensures c.put-in-Some-2.ensures
          (rw c.fault_code-code.ensures (code_parts c.in-Some.f));
    }
