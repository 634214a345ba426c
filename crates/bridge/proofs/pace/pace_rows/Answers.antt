use Rattle.std.proofs.Common.{◌≡◌, ◌<◌, min, length, ap, inl, inr, arith}
use lib.ListN.{length-map}
use Rattle.std.proofs.lemmas.Bool.{cases_lt}
use Rattle.models.proofs.Room.{rows_few}
use Rattle.bridge.proofs.pace.pace_rows.Goals as goal

pub overflow_add-rows : goal.overflow_add-rows
overflow_add-rows g c =
    let laws = g.met.M.EntropyModel in
    let model = c.loop-count.channel.model in
    omega (
      arith,
      c.loop-count.invariant.1,
      c.fill-count.ensures.step.1.left,
      rows_few _ _ (g.M.EntropyModel.cuts model) (laws.fits model) g.met.M.Probability.BitArray.narrow,
    )

-- a fill that writes nothing has no room, or no row left
pub returns : goal.returns
returns g c room =
    let m = g.M.EntropyModel.meaning in
    let inv = c.loop-count.invariant in
    let filled = c.fill-count.ensures.step.1 in
    let opened : (m c.open-channel.result.model).span ≡ (m c.args.model).span = ap (λ x. (m x).span) c.open-channel.ensures.0 in
    let same : (m c.loop-count.channel.model).span ≡ (m c.open-channel.result.model).span = ap (λ x. (m x).span) inv.0 in
    let slot : 0 < min (length c.loop-count.symbols) (min (length c.loop-count.starts) (length c.loop-count.lengths)) =
    omega (arith, room, c.loop-count.auto.symbols, c.loop-count.auto.starts, c.loop-count.auto.lengths)
    in
    elim (cases_lt (m c.loop-count.channel.model).span c.loop-count.channel.row) [
      | inl past ↦ omega (arith, past, opened, same, inv.1, inv.2)
      | inr left ↦ absurd (omega (arith, filled.some (simp length-map slot) left, c.if-count-eq0.true))
    ]
