-- A checked extent has what the starts need to cut [0, 2 ^ bits), under any lawful heights. Assumes nothing.
use Rattle.models.specs.Heights.{Height, Lawful}
use Rattle.models.specs.Meaning.{Partition}
use Rattle.quantize.specs.Extents.{means}
use Rattle.quantize.specs.declared.extent.Extent.{Extent}
use Rattle.quantize.specs.Starts.{quantized_cuts}

pub means_cut : (e : Extent) (h : Height) → Lawful h → Partition (means e h)
means_cut e h law =
    quantized_cuts e.low e.span e.precision h law e.from e.to e.narrow e.some e.room
