use Rattle.std.proofs.Common.{◌≡◌, ap, ◌∙◌, to_z, w32, rules}
use Rattle.records.specs.Record.{little}
use Rattle.records.proofs.Bytes.{little_four, little_eight, uniform_read, peak_read}
use Rattle.records.proofs.layout.read_fields.Goals as goal

pub returns-in-Uniform : goal.returns-in-Uniform
returns-in-Uniform c =
    let max : c.from_le_bytes-max.result ≡ to_z w32 (little c.args.head.now 8 4) = c.from_le_bytes-max.ensures ∙ ap (to_z w32) (little_four c.args.head.now c.bytes_at.result 8 c.bytes_at.ensures) in
    let read = uniform_read c.args.head.now c.args.kind c.requires in
    search (rules, read)

pub returns-in-Peak : goal.returns-in-Peak
returns-in-Peak c =
    let max : c.from_le_bytes-max.result ≡ to_z w32 (little c.args.head.now 8 4) = c.from_le_bytes-max.ensures ∙ ap (to_z w32) (little_four c.args.head.now c.bytes_at.result 8 c.bytes_at.ensures) in
    let min : c.from_le_bytes.result ≡ to_z w32 (little c.args.head.now 4 4) = c.from_le_bytes.ensures ∙ ap (to_z w32) (little_four c.args.head.now c.bytes_at-in-Peak.result 4 c.bytes_at-in-Peak.ensures) in
    let centre : c.from_le_bytes-in-Peak.result ≡ little c.args.head.now 16 8 = c.from_le_bytes-in-Peak.ensures ∙ little_eight c.args.head.now c.bytes_at-in-Peak-2.result 16 c.bytes_at-in-Peak-2.ensures in
    let scale : c.from_le_bytes-in-Peak-2.result ≡ little c.args.head.now 24 8 = c.from_le_bytes-in-Peak-2.ensures ∙ little_eight c.args.head.now c.bytes_at-in-Peak-3.result 24 c.bytes_at-in-Peak-3.ensures in
    let read = peak_read c.args.head.now c.args.kind c.requires in
    search (rules, read)
