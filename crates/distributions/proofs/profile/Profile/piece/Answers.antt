-- The whole part of t over the width is the piece.
use Rattle.std.proofs.Common.{◌≡◌, ℕ, ◌/◌, ap, ◌∙◌, arith}
use lib.Ieee.{to_unsigned}
use Rattle.distributions.specs.Parts.{parts_of}
use Rattle.distributions.proofs.Pieces.{piece_low, piece_high, piece_below, piece_is}
use Rattle.distributions.proofs.profile.Profile.piece.Goals as goal

pub truncating_f64_to_u64-requires : goal.truncating_f64_to_u64-requires
truncating_f64_to_u64-requires c =
    let d = c.args.self.now in
    let s = d.sound in
    let r = c.requires in
    record {
      lower_bound = piece_low (parts_of d) s.counted s.wide c.args.t r.from r.held r.to;
      upper_bound = piece_high (parts_of d) s.counted s.wide c.args.t r.from r.held r.to;
    }

pub returns : goal.returns
returns c =
    let d = c.args.self.now in
    let s = d.sound in
    let r = c.requires in
    let e : c.truncating_f64_to_u64.result / d.width ≡ to_unsigned 64 c.args.t / d.width = ap (λ (q : ℕ). q / d.width) c.truncating_f64_to_u64.ensures in
    record {
      within = omega (arith, e, piece_below (parts_of d) s.counted s.wide c.args.t r.from r.held r.to);
      last = e ∙ piece_is (parts_of d) s.counted s.wide c.args.t r.from r.held r.to;
    }
