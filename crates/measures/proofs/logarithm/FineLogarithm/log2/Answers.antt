use Rattle.std.proofs.Common.{sym, ap, ◌∙◌, add-one, arith}
use Rattle.measures.specs.Logarithms.{fine}
use Rattle.measures.specs.Finer.{turning_none, turning_more, turning_all, fine_fits, fine_bounds}
use Rattle.measures.proofs.logarithm.FineLogarithm.log2.Goals as goal

pub returns-then-n-eq0 : goal.returns-then-n-eq0
returns-then-n-eq0 c = sym fine_bounds.none ∙ ap fine (sym c.if-n-eq0.true)

pub loop-k-init : goal.loop-k-init
loop-k-init c = rw c.place-v.ensures (turning_none c.args.n (omega arith) (omega arith))

pub overflow_add-v : goal.overflow_add-v
overflow_add-v c =
    let next = turning_more c.args.n c.loop-k.k _ _ _ c.loop-k.invariant (omega (arith, c.loop-k-test.true)) c.square-bit.ensures in
    omega (arith, next.value, fine_fits c.args.n)

pub loop-k-preserved : goal.loop-k-preserved
loop-k-preserved c =
    rw add-one
    (turning_more c.args.n c.loop-k.k _ _ _ c.loop-k.invariant (omega (arith, c.loop-k-test.true)) c.square-bit.ensures)

pub returns : goal.returns
returns c = turning_all c.args.n c.loop-k.k _ _ c.loop-k.invariant (omega (arith, c.loop-k-test.false))
