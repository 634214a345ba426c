-- The tests are those of the definition.
use Rattle.std.proofs.Common.{sym, ◌∙◌, inl, inr}
use lib.Ieee.{binary64, of_bits}
use lib.Ieee.Fits.{sub-fits}
use Rattle.rounding.proofs.Order.{yes}
use Rattle.distributions.specs.Parts.{parts_of}
use Rattle.distributions.proofs.Pieces.{height_before, height_past, height_between, piece_from}
use Rattle.distributions.proofs.profile.heights.ProfileDistribution.distribution.Goals as goal
use Rattle.distributions.proofs.profile.heights.ProfileDistribution.distribution.Goals.{then-is_nan-via-then-is_nan, then-is_nan-via-else-is_nan+then-t}

pub returns-then-is_nan : goal.returns-then-is_nan
unfolding of_bits
returns-then-is_nan c =
    let d = c.args.self.now in
    height_before (parts_of d) c.args.x c.origin.result c.origin.ensures
    (elim c.then-is_nan.branch [
      | then-is_nan-via-then-is_nan w ↦ inl (sym c.is_nan.ensures.value ∙ w.if-is_nan.true)
      | then-is_nan-via-else-is_nan+then-t w ↦ inr w.if-t.true
    ])

pub returns-then-t-reach : goal.returns-then-t-reach
unfolding of_bits
returns-then-t-reach c =
    let d = c.args.self.now in
    height_past (parts_of d) c.args.x c.origin.result c.reach.result c.origin.ensures c.reach.ensures
    (sym c.if-is_nan.ensures.value) c.if-t.false c.if-t-reach.true

pub piece-requires : goal.piece-requires
unfolding of_bits
piece-requires c =
    let d = c.args.self.now in
    record {
      from =
          piece_from (parts_of d) c.args.x c.origin.result c.reach.result c.origin.ensures c.reach.ensures
          (sym c.if-is_nan.ensures.value) c.if-t.false d.low d.high;
      held = yes _ (sub-fits binary64 c.args.x c.origin.result);
      to = rw c.reach.ensures at c.if-t-reach.false;
    }

pub returns : goal.returns
unfolding of_bits
returns c =
    let d = c.args.self.now in
    height_between (parts_of d) c.args.x c.origin.result c.reach.result c.origin.ensures c.reach.ensures
    (sym c.if-is_nan.ensures.value) c.if-t.false c.piece.result c.between.result c.knot.result c.if-t-reach.false c.piece.ensures.last c.between.ensures c.knot.ensures
