-- What an extent means, cut by a distribution. Assumes nothing.
use Rattle.models.specs.Heights.{Height}
use Rattle.models.specs.Meaning.{Meaning}
use Rattle.quantize.specs.Extents.{means}
use Rattle.quantize.specs.declared.cut.Cut.{Cut}

abbrev pub cut : {D : Type 0} → (D → Height) → Cut D → Meaning
cut height c = means c.extent (height c.by.now)
