-- The laws that the theorem functions promise, each part a lemma of the files beside this one.
-- Assumes nothing.
use Rattle.rounding.specs.Order.{OrderLaws}
use Rattle.rounding.specs.Rounded.{RoundingLaws}
use Rattle.rounding.specs.Sums.{SumLaws}
use Rattle.rounding.specs.Products.{ProductLaws}
use Rattle.rounding.specs.Quotients.{QuotientLaws}
use Rattle.rounding.specs.Wholes.{WholeLaws}
use Rattle.rounding.specs.Weights.{WeightLaws}
use Rattle.rounding.specs.Ranges.{RangeLaws}
use Rattle.rounding.proofs.Order as order
use Rattle.rounding.proofs.Rounded as rounded
use Rattle.rounding.proofs.Sums as sums
use Rattle.rounding.proofs.Products as products
use Rattle.rounding.proofs.Quotients as quotients
use Rattle.rounding.proofs.Wholes as wholes
use Rattle.rounding.proofs.Weights as weights
use Rattle.rounding.proofs.Ranges as ranges

pub order_laws : OrderLaws
order_laws = record {
  reflexive = order.le_refl;
  transitive = order.le_trans;
  total = order.le_total;
  strict = order.lt→le;
  not_lt = order.le→not_lt;
  not_le = order.lt→not_le;
  from_not_lt = order.not_lt→le;
  same = λ x y h. (order.eq→le x y h, order.eq→le y x (order.eq_sym x y h));
  antisymmetric = order.le_antisymm;
  crossed = order.le→cross;
  uncrossed = order.cross→le;
  between = order.le_between;
  widened = order.between_widens;
  turned = order.neg_turns;
  lesser_left = order.lesser_left;
  lesser_right = order.lesser_right;
  lesser_above = order.lesser_above;
  lesser_rises = order.lesser_rises;
}

pub rounding_laws : RoundingLaws
rounding_laws = record {
  rises = rounded.rounds_rise;
  under = rounded.rounds_under;
  over = rounded.rounds_over;
  exact = rounded.rounds_exact;
}

pub sum_laws : SumLaws
sum_laws = record {
  sum = sums.add_rounds;
  difference = sums.sub_rounds;
  sum_rises = sums.add_rises;
  difference_rises = sums.sub_rises;
  sum_between = sums.add_between;
  difference_between = sums.sub_between;
  sum_above = sums.add_above;
  difference_under = sums.sub_under;
  difference_positive = sums.sub_positive;
  difference_negative = sums.sub_negative;
}

pub product_laws : ProductLaws
product_laws = record {
  product = products.mul_rounds;
  rises_left = products.mul_rises_left;
  rises_right = products.mul_rises_right;
  between = products.mul_between;
  positive = products.mul_positive;
  no_larger = products.mul_no_larger;
}

pub quotient_laws : QuotientLaws
quotient_laws = record {
  quotient = quotients.div_rounds;
  rises = quotients.div_rises;
  falls = quotients.div_falls;
  rises_negative = quotients.div_rises_negative;
  between = quotients.div_between;
  positive = quotients.div_positive;
  negative = quotients.div_negative;
  at_most_one = quotients.div_at_most_one;
  no_larger = quotients.div_no_larger;
}

pub whole_laws : WholeLaws
whole_laws = record {
  rises = wholes.of_int_rises;
  exact = wholes.of_int_exact;
  strict = wholes.of_int_strict;
  half_rises = wholes.half_rises;
  half_exact = wholes.half_exact;
  half_strict = wholes.half_strict;
  half_under = wholes.half_under;
  half_over = wholes.half_over;
  half_fits = wholes.half_fits;
  half_finite = wholes.half_finite;
  half_on_line = wholes.half_on_line;
}

pub weight_laws : WeightLaws
weight_laws = record {
  cut_rises = weights.cut_rises;
  cut_same = weights.cut_same;
  cut_reaches = weights.cut_reaches;
  reaches_cut = weights.reaches_cut;
  share_finite = λ W h small. weights.share_finite W small h;
  share_between = λ W h small. weights.share_between W small h;
  share_rises = λ W h h' small. weights.share_rises W small h h';
  bounded = λ W h small. weights.weighed_bounded W small h;
  rises = λ W h h' small. weights.weighed_rises W small h h';
  agrees = λ W h h' small. weights.weighed_agrees W small h h';
}

pub range_laws : RangeLaws
range_laws = record {
  moved = ranges.moved_between;
  within = ranges.scaled_between;
  rises = ranges.scaled_rises;
  tail_between = ranges.tail_between;
  tail_falls = ranges.tail_falls;
  crest_between = ranges.crest_between;
  crest_rises = ranges.crest_rises;
}
