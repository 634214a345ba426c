use Rattle.std.proofs.Common.{suc, sym, ◌∙◌, zero-le, arith}
use Rattle.measures.proofs.Walks.{weighed_none, part_fits, turn}
use Rattle.measures.proofs.entropy.weigh_rows.Goals as goal

pub loop-length-init : goal.loop-length-init
loop-length-init g c =
    let of = c.of-length-items.ensures in
    rw (c.into_iter-length-iterator.ensures.into_iter_gives, of.1) (of.0, zero-le, sym (weighed_none _ _))

pub overflow_add-sum : goal.overflow_add-sum
overflow_add-sum g c =
    let m = g.M.EntropyModel.meaning c.args.model.now in
    let known = c.loop-length.invariant in
    let i = c.loop-length.length-iterator.row in
    let row = rw known.0 at c.in-Some.ensures.steps.1 in
    omega (
      arith,
      turn g.L.Logarithm.value m i _ _ _ _ _ known.2 row.interval c.to_u64.ensures.value c.log2_of.ensures.value,
      part_fits m (g.M.EntropyModel.cuts c.args.model.now) g.L.Logarithm.value g.L.Logarithm.slack g.met.L.Logarithm.bounds c.requires
          (suc i) (omega (arith, row.at.within)),
    )

pub loop-length-preserved : goal.loop-length-preserved
loop-length-preserved g c =
    let m = g.M.EntropyModel.meaning c.args.model.now in
    let known = c.loop-length.invariant in
    let i = c.loop-length.length-iterator.row in
    let row = rw known.0 at c.in-Some.ensures.steps.1 in
    let onward = c.in-Some.ensures.steps.2 in (
      c.in-Some.ensures.steps.0 ∙ known.0,
      rw onward (omega (arith, row.at.within)),
      rw onward
          (turn g.L.Logarithm.value m i _ _ _ _ _ known.2 row.interval c.to_u64.ensures.value c.log2_of.ensures.value),
    )
