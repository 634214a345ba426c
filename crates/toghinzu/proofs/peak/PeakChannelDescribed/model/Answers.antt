use Rattle.std.proofs.Common.{w32, SFits, rules}
use Rattle.std.proofs.lemmas.Int.{to_z-of_z}
use Rattle.toghinzu.proofs.Answers.{makes_as}
use Rattle.toghinzu.proofs.peak.PeakChannelDescribed.model.Goals as goal

pub returns : goal.returns
returns c =
    let self = c.args.self.now in
    let low : SFits w32 self.min = search rules in
    let high : SFits w32 self.max = search rules in
    makes_as _ _ _ c.open_peak.result (λ m peak. peak.meaning)
    (rw (to_z-of_z w32 self.min low, to_z-of_z w32 self.max high) at c.open_peak.ensures)
