-- What a struct that is handed over describes: the refusal that is due for it, and what its model means where none is. Assumes nothing.
use Rattle.std.specs.Prelude.{ℕ, ◌+◌, ℤ, pos, ◌-ℤ◌, None, Option, unsigned_abs, Float}
use Rattle.models.specs.Meaning.{Meaning}
use Rattle.channel.specs.Rows.{Row}
use Rattle.distributions.specs.Peak.{height_at}
use Rattle.quantize.specs.Quantized.{quantized}
use Rattle.records.specs.Opening.{model_first, peak_fault}
use Rattle.records.specs.declared.fault.RecordFault.{RecordFault}
use Rattle.records.specs.declared.layout.PeakFields.{PeakFields}
use Rattle.uniform.specs.Uniform.{uniform, refusal}
use Rattle.toghinzu.specs.declared.parts.PeakChannel.{PeakChannel}
use Rattle.toghinzu.specs.declared.parts.PeakRow.{PeakRow}
use Rattle.toghinzu.specs.declared.parts.UniformChannel.{UniformChannel}
use Rattle.toghinzu.specs.declared.parts.UniformRow.{UniformRow}

-- a channel as it is opened: no row is handed out
abbrev pub opened_peak : ℤ → ℤ → ℕ → Float → Float → PeakChannel
opened_peak min max precision centre scale = record { min = min; max = max; precision = precision; centre = centre; scale = scale; row = 0 }

abbrev pub opened_uniform : ℕ → ℕ → UniformChannel
opened_uniform range precision = record { range = range; precision = precision; row = 0 }

-- what the numbers say of the model
abbrev pub peak_fields : PeakChannel → PeakFields
peak_fields c = record { precision = c.precision; min = c.min; max = c.max; centre = c.centre; scale = c.scale }

-- precision, order and span, then the shape of the Peak
abbrev pub peak_due : PeakChannel → Option RecordFault
peak_due c = peak_fault (peak_fields c)

-- precision, then range
abbrev pub uniform_due : UniformChannel → Option RecordFault
uniform_due c = model_first (refusal 32 c.precision c.range) None

abbrev pub peak_means : PeakChannel → Meaning
peak_means c = quantized c.min (unsigned_abs (c.max -ℤ c.min)) c.precision (height_at c.centre c.scale)

abbrev pub uniform_means : UniformChannel → Meaning
uniform_means c = uniform c.precision c.range

-- the rows as whole numbers
abbrev pub peak_row : PeakRow → Row
peak_row r = (r.symbol, r.start, r.length)

abbrev pub uniform_row : UniformRow → Row
uniform_row r = (pos r.symbol, r.start, r.length)

-- the channel with n rows more handed out
abbrev pub peak_onward : PeakChannel → ℕ → PeakChannel
peak_onward c n = record { min = c.min; max = c.max; precision = c.precision; centre = c.centre; scale = c.scale; row = c.row + n }

abbrev pub uniform_onward : UniformChannel → ℕ → UniformChannel
uniform_onward c n = record { range = c.range; precision = c.precision; row = c.row + n }
