-- What a checked support and a distribution open. Assumes nothing.
use Rattle.models.specs.Heights.{Height, Lawful}
use Rattle.quantize.specs.declared.extent.Extent.{Extent}
use Rattle.histories.specs.Promises.{Opening}

abbrev pub opening_of : Extent → (h : Height) → Lawful h → Opening
opening_of e h law = record {
  low = e.low;
  span = e.span;
  bits = e.precision;
  heights = h;
  from = e.from;
  to = e.to;
  narrow = e.narrow;
  some = e.some;
  room = e.room;
  lawful = law;
}
